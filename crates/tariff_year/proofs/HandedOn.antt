-- Handing down, one coupling after another.
use Rattle.std.proofs.Common.{◌≡◌, ℕ, Bool, Bor, ◌+◌, ◌-◌, ◌<◌, ◌≤◌, List, [], ◌∷◌, ◌++◌, length, get_or, take, drop, set, Option, sym, ap, subst, ◌∙◌, ⊎_elim, arith}
use Rattle.std.specs.List.{zip}
use Rattle.std.specs.Fn.{CalledAt, Mut}
use Rattle.std.specs.Iterator.Adapters.{filter_callee, filter_source, filter_steps, zip_first, zip_second}
use Rattle.std.specs.Slice.Iter.{iter_rest}
use Rattle.std.proofs.iter.Yields.{fronts}
use Rattle.std.proofs.lemmas.Iterator.{YieldsList, YieldsList-from_slice, YieldsList-from_zip, zips}
use Rattle.std.proofs.lemmas.List.{get_or_default, get_or-drop, get_or-set_other, get_or-set_same, length-drop, length-take-le, take_all, take_more}
use Rattle.std.proofs.lemmas.List.Elements.{All-filter, All-from_get_or, All-get_or}
use Rattle.std.proofs.lemmas.Slice.Zip.{get_or-zip, length-zip}
use Rattle.std.proofs.lemmas.Bool.{cases_eq}
use Rattle.year_model.specs.declared.tables.Coupling.{Coupling}
use Rattle.year_model.specs.declared.tables.System.{System}
use Rattle.year_model.specs.Passes.{handed_down, more_at, more_standing}
use Rattle.year_model.specs.Sound.{no_coupling}
use Rattle.year_model.specs.Systems.{below_count, standing_at}
use Rattle.year_model.proofs.Lookups.{numbered_from_entry}
use Rattle.tariff_year.specs.Takings.{LeadWithin, blank_system, leading_down}
use Rattle.tariff_year.proofs.Gathering.{all_below, below_yielded, leads_from}

-- One coupling more hands down last.
pub handed_down_push : (f : ℕ → ℕ) (taker : ℕ) (cs : List Coupling) (c : Coupling) (xs : List System)
    → handed_down f taker (cs ++ c ∷ []) xs ≡ more_standing (handed_down f taker cs xs) c.lower (f (taker + length cs))
handed_down_push f taker [] c xs = ap (λ k. more_standing xs c.lower (f k)) (omega arith)
handed_down_push f taker (d ∷ cs) c xs =
    let ys = more_standing xs d.lower (f taker) in
    let same : taker + 1 + length cs ≡ taker + length (d ∷ cs) = omega arith in
    handed_down_push f (taker + 1) cs c ys ∙ ap (λ k. more_standing (handed_down f (taker + 1) cs ys) c.lower (f k)) same

-- the couplings that lead down, each beside what its taker received
abbrev pub paired : List Coupling → ℕ → List ℕ → List (Coupling × ℕ)
paired cs upper received = zip (leading_down cs upper) (drop 1 received)

-- What the chain of these pairs yields.
pub pairs_yielded : {F : Type 0} {g : Mut F (Bor (Bor Coupling) × Unit {0}) Bool} {p f : F} {s : _} (cs : List Coupling) (upper : ℕ) (received : List ℕ)
    → iter_rest (filter_source (zip_first s)) ≡ cs → filter_callee (zip_first s) ≡ p → p ≡ f → ((x : Bor Coupling) (b : Bool) (q : F) → CalledAt g f x b q → (q ≡ f) × (b ≡ leads_from upper x.now))
    → iter_rest (zip_second s) ≡ take 31 (drop 1 received) → length received ≡ 32 → YieldsList (zips (filter_steps fronts g) fronts) (λ p. (p.0.now, p.1.now)) s (paired cs upper received)
pairs_yielded cs upper received source callee closure tests others long =
    YieldsList-from_zip (below_yielded cs upper source callee closure tests)
    (YieldsList-from_slice (drop 1 received) (others ∙ take_all 31 (drop 1 received) (omega (arith, length-drop 1 received))))

-- this coupling is the next that leads down, these euros are what its taker received, and there is a system below
pub record NextPair (cs : List Coupling) (upper n count : ℕ) (received : List ℕ) (c : Coupling) (euros : ℕ) : Type 0 where
  pub inside : n < length (leading_down cs upper)
  pub here : get_or (leading_down cs upper) n c ≡ c
  pub euros_is : euros ≡ get_or received (n + 1) 0
  pub low : 1 ≤ c.lower
  pub high : c.lower ≤ count

-- A pair that is next in the list of pairs.
pub next_pair : (cs : List Coupling) (upper n count : ℕ) (received : List ℕ) (c : Coupling) (euros : ℕ) → LeadWithin count cs
    → (n < length (paired cs upper received)) × ((c, euros) ≡ get_or (paired cs upper received) n (c, euros)) → NextPair cs upper n count received c euros
next_pair cs upper n count received c euros lead turn =
    let below = leading_down cs upper in
    let long = length-zip below (drop 1 received) in
    let inside : n < length below = omega (arith, turn.0) in
    let there : n < length (drop 1 received) = omega (arith, turn.0) in
    let pair = turn.1 ∙ get_or-zip below (drop 1 received) n (c, euros) inside there in
    let here : get_or below n c ≡ c = sym (ap (λ (p : Coupling × ℕ). p.0) pair) in
    let lower : (1 ≤ c.lower) × (c.lower ≤ count) = subst (λ (d : Coupling). (1 ≤ d.lower) × (d.lower ≤ count)) here
    (All-get_or (λ (d : Coupling). (1 ≤ d.lower) × (d.lower ≤ count)) below n c inside
    (All-filter (leads_from upper) (λ (d : Coupling). (1 ≤ d.lower) × (d.lower ≤ count)) cs (All-from_get_or (λ (d : Coupling). (1 ≤ d.lower) × (d.lower ≤ count)) cs no_coupling lead))) in
    record {
      inside = inside;
      here = here;
      euros_is = ap (λ (p : Coupling × ℕ). p.1) pair ∙ get_or_default (drop 1 received) n euros 0 there ∙ get_or-drop 1 received n 0 ∙ ap (λ k. get_or received k 0) (omega arith);
      low = lower.0;
      high = lower.1;
    }

-- the system that a coupling leads to
abbrev pub led_to : List System → Coupling → System
led_to zs c = get_or zs (c.lower - 1) blank_system

-- What is handed down along one coupling more.
pub handed_more : (received : List ℕ) (cs : List Coupling) (upper n count euros : ℕ) (c : Coupling) (base zs : List System) → NextPair cs upper n count received c euros → length zs ≡ count
    → zs ≡ handed_down (λ taker. get_or received taker 0) 1 (take n (leading_down cs upper)) base
    → set zs (c.lower - 1) (standing_at (led_to zs c) ((led_to zs c).standing + euros)) ≡ handed_down (λ taker. get_or received taker 0) 1 (take (n + 1) (leading_down cs upper)) base
handed_more received cs upper n count euros c base zs next long so_far =
    let f : ℕ → ℕ = λ taker. get_or received taker 0 in
    let below = leading_down cs upper in
    let taker : 1 + length (take n below) ≡ n + 1 = omega (arith, length-take-le n below (omega (arith, next.inside))) in
    sym
    (ap (λ (ds : List Coupling). handed_down f 1 ds base) (take_more below n c next.inside ∙ ap (λ (d : Coupling). take n below ++ d ∷ []) next.here)
    ∙ handed_down_push f 1 (take n below) c base
    ∙ ap (λ (ys : List System). more_standing ys c.lower (f (1 + length (take n below)))) (sym so_far)
    ∙ ap (λ k. more_standing zs c.lower (f k)) taker
    ∙ ap (λ k. more_standing zs c.lower k) (sym next.euros_is)
    ∙ ap (λ (o : Option System). more_at zs c.lower euros o) (numbered_from_entry zs c.lower blank_system next.low (omega (arith, next.high))))

-- What stands anywhere grows by no more than what one taker receives.
pub standing_more : (zs : List System) (j limit euros : ℕ) → j < length zs → ((k : ℕ) → (get_or zs k blank_system).standing ≤ limit)
    → (k : ℕ) → (get_or (set zs j (standing_at (get_or zs j blank_system) ((get_or zs j blank_system).standing + euros))) k blank_system).standing ≤ limit + euros
standing_more zs j limit euros inside low k =
    let y = standing_at (get_or zs j blank_system) ((get_or zs j blank_system).standing + euros) in
    ⊎_elim
    (λ (e : k ≡ j).
    let same = ap (λ (x : System). x.standing) (ap (λ i. get_or (set zs j y) i blank_system) e ∙ get_or-set_same zs j y blank_system inside) in
    omega (arith, low j))
    (λ (ne : k ≡ j → ⊥).
    let same = ap (λ (x : System). x.standing) (get_or-set_other zs j k y blank_system ne) in
    omega (arith, low k))
    (cases_eq k j)

-- Once all pairs are seen, each coupling that leads down has handed down.
pub all_taken : (cs : List Coupling) (upper n : ℕ) (received : List ℕ) → below_count cs upper ≤ 31 → length received ≡ 32 → n ≡ length (paired cs upper received) → take n (leading_down cs upper) ≡ leading_down cs upper
all_taken cs upper n received few long all = all_below cs upper n few (omega (arith, length-zip (leading_down cs upper) (drop 1 received), length-drop 1 received))
