-- A pass of a system, from what is worked out to the state that it leads to.
use Rattle.std.proofs.Common.{◌≡◌, ℕ, ◌+◌, ◌-◌, ◌<◌, ◌≤◌, false, cond, ltb, List, [], ◌∷◌, map, length, get_or, set, replicate, Some, None, Ok, Err, sum, Option, Vec, sym, refl, ap, ◌∙◌, ⊎_elim, arith}
use Rattle.std.specs.Vec.{with_items}
use Rattle.std.specs.List.{range_with_len}
use Rattle.std.proofs.lemmas.List.FromFn.{get_or-map-range_with_len, length-map-range_with_len}
use Rattle.std.proofs.lemmas.List.{get_or_append_left, get_or_past, get_or-set_other, get_or-set_same, length-map, with_items_is}
use Rattle.std.proofs.lemmas.List.Sums.{get_or-le-sum_by}
use Rattle.std.proofs.lemmas.Bool.{cases_eq, cases_lt, cond-false, le-ltb}
use Rattle.refusal.specs.declared.ground.Ground.TheVariants.{SystemFixed}
use Rattle.refusal.specs.declared.refusal.Refusal.{Refusal}
use Rattle.refusal.specs.Refusals.{refuse}
use Rattle.passing.specs.declared.pass.Pass.{Pass}
use Rattle.passing.specs.Passing.{most_takers}
use Rattle.year_model.specs.declared.tables.Coupling.{Coupling}
use Rattle.year_model.specs.declared.tables.System.{System}
use Rattle.year_model.specs.Calls.{call_pass, found, largest_number, reply_of, state_of}
use Rattle.year_model.specs.Makings.{Makings}
use Rattle.year_model.specs.Passes.{below, emptied, handed_down, in_the_way, more_standing, pass_state, pass_with, passed, receives, taker_kws}
use Rattle.year_model.specs.Sound.{Sound}
use Rattle.year_model.specs.State.{State, is_fixed, numbered, with_systems}
use Rattle.year_model.proofs.Lookups.{Entry, entry_from_numbered}
use Rattle.tariff_year.specs.Replies.{emptied_by, pass_of, unless}
use Rattle.tariff_year.specs.Years.{Did}
use Rattle.tariff_year.specs.Takings.{blank_system, leading_down}

-- Where the answer is given, nothing stood in the way, and it is the one.
pub unless_ok : {X : Type 0} (way : Option Refusal) (x y : X) → Ok x ≡ unless way y → (way ≡ None) × (x ≡ y)
unless_ok None x y e = (refl, (cc))
unless_ok (Some refusal) x y e = let z : ◌≡◌ {A = ℕ} 0 1 = cc in absurd (omega arith)

-- Where it is refused, that stood in the way.
pub unless_err : {X : Type 0} (way : Option Refusal) (refusal : Refusal) (y : X) → Err refusal ≡ unless way y → way ≡ Some refusal
unless_err None refusal y e = let z : ◌≡◌ {A = ℕ} 0 1 = cc in absurd (omega arith)
unless_err (Some other) refusal y e = cc

-- Handing down goes by what the takers from this one on receive.
handed_same : (f g : ℕ → ℕ) (taker : ℕ) (cs : List Coupling) (xs : List System) → ((k : ℕ) → taker ≤ k → k < taker + length cs → f k ≡ g k) → handed_down f taker cs xs ≡ handed_down g taker cs xs
handed_same f g taker [] xs same = refl
handed_same f g taker (c ∷ cs) xs same =
    ap (λ k. handed_down f (taker + 1) cs (more_standing xs c.lower k)) (same taker (omega arith) (omega arith))
    ∙ handed_same f g (taker + 1) cs (more_standing xs c.lower (g taker)) (λ k low high. same k (omega arith) (omega arith))

-- What is worked out for a taker is what it receives.
received_at : (m : Makings) (s : State) (n : ℕ) (x : System) (taker : ℕ) → taker < length (below s n) + 1 → get_or (pass_of m s n x).received taker 0 ≡ receives m s n x taker
received_at m s n x taker h =
    let count = length (taker_kws s n x) in
    let f = receives m s n x in
    let long = length-map (below s n) (λ c. c.kw) in
    let all = length-map-range_with_len f 0 count in
    get_or_append_left (map f (range_with_len 0 count)) (replicate (most_takers - length (map f (range_with_len 0 count))) 0) 0 taker (omega arith)
    ∙ get_or-map-range_with_len f 0 count taker taker 0 (omega arith) (omega arith)

-- the systems after a pass in which the places hold what the takers receive
abbrev pub systems_by : State → ℕ → System → List ℕ → List System
systems_by s n x ks =
    handed_down (λ taker. get_or ks taker 0) 1 (leading_down s.couplings n) (set s.systems (n - 1) (emptied x (get_or ks 0 0)))

-- They are those of the pass.
pub systems_of_pass : (m : Makings) (s : State) (n : ℕ) (x : System) → systems_by s n x (pass_of m s n x).received ≡ (pass_state m s n x).systems
systems_of_pass m s n x =
    let f : ℕ → ℕ = λ taker. get_or (pass_of m s n x).received taker 0 in
    let g = receives m s n x in
    handed_same f g 1 (below s n) (set s.systems (n - 1) (emptied x (f 0))) (λ k low high. received_at m s n x k (omega arith))
    ∙ ap (λ k. handed_down g 1 (below s n) (set s.systems (n - 1) (emptied x k))) (received_at m s n x 0 (omega arith))

-- A pass of an unfixed system that is there is refused only by what stands in the way.
pub passed_found : (m : Makings) (s : State) → Sound s → (n : ℕ) (x : System) → numbered s.systems n ≡ Some x → is_fixed x ≡ false → passed m s n ≡ pass_with m s n x (in_the_way m s n x)
passed_found m s v n x is unfixed =
    let at = entry_from_numbered s.systems n x is in
    let small : n ≤ largest_number = omega (arith, at.high, v.tables.0) in
    cond-false (ltb largest_number n) _ _ (le-ltb largest_number n small)
    ∙ ap (λ (o : Option System). found o (λ y. cond (is_fixed y) (Err (refuse SystemFixed 0)) (pass_with m s n y (in_the_way m s n y)))) is
    ∙ cond-false (is_fixed x) _ _ unfixed

-- The state that an accepted pass leads to.
pub state_passed : (m : Makings) (s : State) (n : ℕ) (x : System) (pass : Pass) (ys : List System) → Ok pass ≡ unless (in_the_way m s n x) (pass_of m s n x) → ys ≡ systems_by s n x pass.received
    → with_systems s ys ≡ state_of s (pass_with m s n x (in_the_way m s n x))
state_passed m s n x pass ys told are =
    let parts = unless_ok (in_the_way m s n x) pass (pass_of m s n x) told in
    ap (with_systems s) (are ∙ ap (λ (p : Pass). systems_by s n x p.received) parts.1 ∙ systems_of_pass m s n x)
    ∙ ap (λ (o : Option Refusal). state_of s (pass_with m s n x o)) (sym parts.0)

-- No taker receives more than stood at the system.
pub received_small : (ks : List ℕ) (k : ℕ) → get_or ks k 0 ≤ sum ks
received_small ks k =
    ⊎_elim
    (λ (h : k < length ks). get_or-le-sum_by (λ y. y) ks k 0 h)
    (λ (past : length ks ≤ k). omega (arith, get_or_past ks k 0 past))
    (cases_lt k (length ks))

-- What stands anywhere is within bounds,
pub standing_low : (s : State) → Sound s → (k : ℕ) → (get_or s.systems k blank_system).standing ≤ 5_000_000_000
standing_low s v k =
    ⊎_elim
    (λ (h : k < length s.systems). omega (arith, get_or-le-sum_by (λ (y : System). y.standing) s.systems k blank_system h, v.money.0, v.money.1))
    (λ (past : length s.systems ≤ k). omega (arith, ap (λ (y : System). y.standing) (get_or_past s.systems k blank_system past)))
    (cases_lt k (length s.systems))

-- also where nothing stands any more at one system.
pub standing_emptied : (s : State) → Sound s → (j : ℕ) (y : System) → j < length s.systems → y.standing ≡ 0 → (k : ℕ) → (get_or (set s.systems j y) k blank_system).standing ≤ 5_000_000_000
standing_emptied s v j y inside empty k =
    ⊎_elim
    (λ (e : k ≡ j).
    let same = ap (λ (z : System). z.standing) (ap (λ i. get_or (set s.systems j y) i blank_system) e ∙ get_or-set_same s.systems j y blank_system inside) in
    omega arith)
    (λ (ne : k ≡ j → ⊥).
    let same = ap (λ (z : System). z.standing) (get_or-set_other s.systems j k y blank_system ne) in
    omega (arith, standing_low s v k))
    (cases_eq k j)

-- What landed at one system, and what stands there, is within the net costs.
pub landed_bounded : (s : State) → Sound s → (n : ℕ) (x : System) → Entry s.systems n x → x.landed + x.standing ≤ 5_000_000_000
landed_bounded s v n x at =
    let inside : n - 1 < length s.systems = omega (arith, at.low, at.high) in
    let lay = get_or-le-sum_by (λ (y : System). y.landed) s.systems (n - 1) x inside in
    let stood = get_or-le-sum_by (λ (y : System). y.standing) s.systems (n - 1) x inside in
    let is = at.here x in
    let one = ap (λ (y : System). y.landed) is in
    let two = ap (λ (y : System). y.standing) is in
    omega (arith, v.money.0, v.money.1)

-- So it is of the table whose slice was handed down.
pub state_refilled : {Z : Type 0} (m : Makings) (s : State) (n : ℕ) (x : System) (pass : Pass) (v : Vec System Z) (cs : List Coupling) (xs ws : List System)
    → Ok pass ≡ unless (in_the_way m s n x) (pass_of m s n x) → cs ≡ s.couplings → xs ≡ set s.systems (n - 1) (emptied x (get_or pass.received 0 0))
    → length xs ≡ v.len → length ws ≡ length xs → ws ≡ handed_down (λ taker. get_or pass.received taker 0) 1 (leading_down cs n) xs
    → with_systems s (with_items v ws).items ≡ state_of s (pass_with m s n x (in_the_way m s n x))
state_refilled m s n x pass v cs xs ws told couplings systems long same handed =
    let f : ℕ → ℕ = λ taker. get_or pass.received taker 0 in
    state_passed m s n x pass (with_items v ws).items told
    (with_items_is v ws (same ∙ long) ∙ handed
    ∙ ap (λ (ds : List Coupling). handed_down f 1 (leading_down ds n) xs) couplings
    ∙ ap (λ (ys : List System). handed_down f 1 (leading_down s.couplings n) ys) systems)

-- What an accepted pass tells.
pub emptied_told : (m : Makings) (s : State) (n : ℕ) (x : System) (pass : Pass) → Ok pass ≡ unless (in_the_way m s n x) (pass_of m s n x)
    → Ok (record { passed = x.standing; landed = get_or pass.received 0 0 }) ≡ unless (in_the_way m s n x) (emptied_by m s n x)
emptied_told m s n x pass told =
    let parts = unless_ok (in_the_way m s n x) pass (pass_of m s n x) told in
    let lands : get_or pass.received 0 0 ≡ receives m s n x 0 = ap (λ (p : Pass). get_or p.received 0 0) parts.1 ∙ received_at m s n x 0 (omega arith) in
    ap (λ k. Ok (record { passed = x.standing; landed = k })) lands ∙ ap (λ (o : Option Refusal). unless o (emptied_by m s n x)) (sym parts.0)

-- What a refused pass tells, and where it leads.
pub refused_told : {X Y : Type 0} (way : Option Refusal) (refusal : Refusal) (x : X) (y : Y) → Err refusal ≡ unless way x → Err refusal ≡ unless way y
refused_told way refusal x y told = ap (λ (o : Option Refusal). unless o y) (sym (unless_err way refusal x told))

pub state_refused : (m : Makings) (s : State) (n : ℕ) (x : System) (refusal : Refusal) → Err refusal ≡ unless (in_the_way m s n x) (pass_of m s n x) → s ≡ state_of s (pass_with m s n x (in_the_way m s n x))
state_refused m s n x refusal told = ap (λ (o : Option Refusal). state_of s (pass_with m s n x o)) (sym (unless_err (in_the_way m s n x) refusal (pass_of m s n x) told))

-- A refused pass is that of the model.
pub did_refuse : (m : Makings) (s t : State) → Sound s → (n : ℕ) (x : System) → numbered s.systems n ≡ Some x → is_fixed x ≡ false → (refusal : Refusal)
    → Err refusal ≡ unless (in_the_way m s n x) (emptied_by m s n x) → t ≡ state_of s (pass_with m s n x (in_the_way m s n x)) → Did m s (call_pass n) (Err refusal) t
did_refuse m s t v n x is unfixed refusal told led =
    let stuck = unless_err (in_the_way m s n x) refusal (emptied_by m s n x) told in
    let whole = passed_found m s v n x is unfixed in
    record {
      answered = ap (λ (o : Option Refusal). reply_of (pass_with m s n x o)) (sym stuck) ∙ ap reply_of (sym whole);
      state = led ∙ ap (state_of s) (sym whole);
    }
