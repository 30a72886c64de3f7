-- The takers of a system, gathered one coupling after another.
use Rattle.std.proofs.Common.{◌≡◌, ℕ, ◌+◌, ◌<◌, ◌≤◌, Bool, Bor, cond, eqb, List, [], ◌∷◌, ◌++◌, map, length, get_or, take, min, ap, ◌∙◌, arith}
use Rattle.std.specs.Fn.{CalledAt, Mut}
use Rattle.std.specs.Iterator.Adapters.{filter_callee, filter_source, filter_steps}
use Rattle.std.specs.Slice.Iter.{iter_rest}
use Rattle.std.proofs.iter.Yields.{fronts}
use Rattle.std.proofs.lemmas.Iterator.{YieldsList, YieldsList-from_slice}
use Rattle.std.proofs.lemmas.Iterator.Consumers.{YieldsList-from_filter}
use Rattle.std.proofs.lemmas.List.Elements.{filter_more}
use Rattle.std.proofs.lemmas.List.{append-nil, length-map, length_push, map_push, take_all}
use Rattle.std.proofs.lemmas.List.Sums.{length-filter, sum_by-take-le}
use Rattle.std.proofs.lemmas.Bool.{cond-false, cond-true, eq-eqb, ne_eqb}
use Rattle.year_model.specs.declared.tables.Coupling.{Coupling}
use Rattle.year_model.specs.Sound.{no_coupling}
use Rattle.year_model.specs.Systems.{below_count}
use Rattle.tariff_year.specs.Takings.{leading_down}

-- Whether a coupling leads down from this system.
abbrev pub leads_from : ℕ → Coupling → Bool
leads_from upper c = eqb c.upper upper

-- A coupling that leads down from the system is one more of those.
pub leading_more : (cs : List Coupling) (n i : ℕ) → i < length cs → (get_or cs i no_coupling).upper ≡ n → leading_down (take (i + 1) cs) n ≡ leading_down (take i cs) n ++ get_or cs i no_coupling ∷ []
leading_more cs n i h is =
    let c = get_or cs i no_coupling in
    filter_more (leads_from n) cs i no_coupling h
    ∙ ap (λ (xs : List Coupling). leading_down (take i cs) n ++ xs) (cond-true (eqb c.upper n) (c ∷ []) [] (eq-eqb c.upper n is))

-- Any other coupling is not.
pub leading_same : (cs : List Coupling) (n i : ℕ) → i < length cs → ((get_or cs i no_coupling).upper ≡ n → ⊥) → leading_down (take (i + 1) cs) n ≡ leading_down (take i cs) n
leading_same cs n i h other =
    let c = get_or cs i no_coupling in
    filter_more (leads_from n) cs i no_coupling h
    ∙ ap (λ (xs : List Coupling). leading_down (take i cs) n ++ xs) (cond-false (eqb c.upper n) (c ∷ []) [] (ne_eqb c.upper n other))
    ∙ append-nil (leading_down (take i cs) n)

-- So the takers' figures are one more.
pub gathered_more : (f : Coupling → ℕ) (first : ℕ) (cs : List Coupling) (n i : ℕ) → i < length cs → (get_or cs i no_coupling).upper ≡ n
    → first ∷ map f (leading_down (take (i + 1) cs) n) ≡ (first ∷ map f (leading_down (take i cs) n)) ++ f (get_or cs i no_coupling) ∷ []
gathered_more f first cs n i h is =
    ap (λ (xs : List Coupling). first ∷ map f xs) (leading_more cs n i h is)
    ∙ ap (λ (ks : List ℕ). first ∷ ks) (map_push f (leading_down (take i cs) n) (get_or cs i no_coupling))

pub gathered_same : (f : Coupling → ℕ) (first : ℕ) (cs : List Coupling) (n i : ℕ) → i < length cs → ((get_or cs i no_coupling).upper ≡ n → ⊥)
    → first ∷ map f (leading_down (take (i + 1) cs) n) ≡ first ∷ map f (leading_down (take i cs) n)
gathered_same f first cs n i h other = ap (λ (xs : List Coupling). first ∷ map f xs) (leading_same cs n i h other)

-- how many takers there are
pub takers_counted : (f : Coupling → ℕ) (first : ℕ) (cs : List Coupling) (n : ℕ) → length (first ∷ map f (leading_down cs n)) ≡ below_count cs n + 1
takers_counted f first cs n =
    let kept = length-filter (leads_from n) cs in
    let mapped = length-map (leading_down cs n) f in
    omega arith

-- There are no more among the first couplings than among all.
pub takers_among : (cs : List Coupling) (n i : ℕ) → below_count (take i cs) n ≤ below_count cs n
takers_among cs n i = sum_by-take-le (λ c. cond (leads_from n c) 1 0) cs i

-- what is gathered of the takers once the first couplings are seen
abbrev pub seen : (Coupling → ℕ) → ℕ → List Coupling → ℕ → ℕ → List ℕ
seen f first cs n i = first ∷ map f (leading_down (take i cs) n)

-- The next taker counts.
pub counted_more : (f : Coupling → ℕ) (first : ℕ) (cs : List Coupling) (n i count : ℕ) → i < length cs → (get_or cs i no_coupling).upper ≡ n → count ≡ length (seen f first cs n i) → count + 1 ≡ length (seen f first cs n (i + 1))
counted_more f first cs n i count h is e =
    let more = ap length (gathered_more f first cs n i h is) in
    omega (arith, length_push (seen f first cs n i) (f (get_or cs i no_coupling)))

-- What the chain of the couplings that lead down yields.
pub below_yielded : {F : Type 0} {g : Mut F (Bor (Bor Coupling) × Unit {0}) Bool} {p f : F} {s : _} (cs : List Coupling) (upper : ℕ)
    → iter_rest (filter_source s) ≡ cs → filter_callee s ≡ p → p ≡ f → ((x : Bor Coupling) (b : Bool) (q : F) → CalledAt g f x b q → (q ≡ f) × (b ≡ leads_from upper x.now))
    → YieldsList (filter_steps fronts g) (λ y. y.now) s (leading_down cs upper)
below_yielded {F} {g} cs upper source callee closure tests = YieldsList-from_filter g (leads_from upper) (YieldsList-from_slice cs source) (callee ∙ closure) tests

-- Once as many are seen as there are places for them, all are seen.
pub all_below : (cs : List Coupling) (upper n : ℕ) → below_count cs upper ≤ 31 → n ≡ min 31 (length (leading_down cs upper)) → take n (leading_down cs upper) ≡ leading_down cs upper
all_below cs upper n few all = take_all n (leading_down cs upper) (omega (arith, length-filter (leads_from upper) cs))
