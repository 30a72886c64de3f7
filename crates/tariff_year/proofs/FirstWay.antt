-- The search for what stands in the way, system by system and coupling by coupling.
use Rattle.std.proofs.Common.{◌≡◌, ℕ, ◌+◌, ◌-◌, ◌<◌, ◌≤◌, Bool, true, false, cond, not, ◌&&◌, ◌||◌, eqb, ltb, List, [], ◌∷◌, ◌++◌, length, get_or, take, drop, Some, None, sum, Option, sym, refl, ap, ◌∙◌, arith}
use Rattle.std.specs.List.{range_with_len}
use Rattle.std.proofs.lemmas.List.{at_drop_all, at_drop_more, get_or_at, length-append, append_assoc, length_push}
use Rattle.std.proofs.lemmas.List.Sums.{count_by-le-length}
use Rattle.std.proofs.lemmas.Bool.{cond-false, cond-true, le-ltb, lt-ltb}
use Rattle.refusal.specs.declared.ground.Ground.TheVariants.{ListTooLong, NoWeight}
use Rattle.refusal.specs.declared.refusal.Refusal.{Refusal}
use Rattle.refusal.specs.Refusals.{refuse}
use Rattle.sharing.specs.Limits.{above}
use Rattle.sharing.proofs.Above.{sum_is_zero}
use Rattle.year_model.specs.declared.tables.Coupling.{Coupling}
use Rattle.year_model.specs.declared.tables.System.{System}
use Rattle.year_model.specs.Makings.{Makings}
use Rattle.year_model.specs.Passes.{first_obstacle, numbers, obstacle, or_else}
use Rattle.year_model.specs.Sound.{no_coupling}
use Rattle.year_model.specs.State.{State, is_fixed, numbered}
use Rattle.year_model.proofs.Lookups.{numbered_from_entry}
use Rattle.tariff_year.specs.Obstacles.{first_way, kws_of, mwhs_of, way_of}
use Rattle.tariff_year.specs.Takings.{blank_system}
use Rattle.tariff_year.proofs.Gathering.{counted_more, gathered_more, leads_from, seen, takers_among, takers_counted}

-- the system at this index
abbrev pub at_index : List System → ℕ → System
at_index xs i = get_or xs i blank_system

-- What the search has left, from a system on.
search_here : (longest : ℕ) (cs : List Coupling) (xs : List System) (i : ℕ) → i < length xs
    → first_way longest cs (i + 1) (drop i xs) ≡ or_else (cond (is_fixed (at_index xs i)) None (way_of longest cs (i + 1) (at_index xs i))) (first_way longest cs (i + 1 + 1) (drop (i + 1) xs))
search_here longest cs xs i h = at_drop_more (first_way longest cs (i + 1)) xs i blank_system h

-- A fixed system is passed over.
pub search_fixed : (longest : ℕ) (cs : List Coupling) (xs : List System) (i : ℕ) → i < length xs → is_fixed (at_index xs i) ≡ true
    → first_way longest cs (i + 1 + 1) (drop (i + 1) xs) ≡ first_way longest cs (i + 1) (drop i xs)
search_fixed longest cs xs i h fixed =
    let x = at_index xs i in
    sym (search_here longest cs xs i h
    ∙ ap (λ (o : Option Refusal). or_else o (first_way longest cs (i + 1 + 1) (drop (i + 1) xs))) (cond-true (is_fixed x) None (way_of longest cs (i + 1) x) fixed))

-- What is in the way of an unfixed one is found,
pub search_found : (longest : ℕ) (cs : List Coupling) (xs : List System) (i : ℕ) (refusal : Refusal) → i < length xs → is_fixed (at_index xs i) ≡ false → way_of longest cs (i + 1) (at_index xs i) ≡ Some refusal
    → Some refusal ≡ first_way longest cs (i + 1) (drop i xs)
search_found longest cs xs i refusal h unfixed stuck =
    let x = at_index xs i in
    sym (search_here longest cs xs i h
    ∙ ap (λ (o : Option Refusal). or_else o (first_way longest cs (i + 1 + 1) (drop (i + 1) xs))) (cond-false (is_fixed x) None (way_of longest cs (i + 1) x) unfixed ∙ stuck))

-- and where nothing is, the search goes on.
pub search_free : (longest : ℕ) (cs : List Coupling) (xs : List System) (i : ℕ) → i < length xs → is_fixed (at_index xs i) ≡ false → way_of longest cs (i + 1) (at_index xs i) ≡ None
    → first_way longest cs (i + 1 + 1) (drop (i + 1) xs) ≡ first_way longest cs (i + 1) (drop i xs)
search_free longest cs xs i h unfixed free =
    let x = at_index xs i in
    sym (search_here longest cs xs i h
    ∙ ap (λ (o : Option Refusal). or_else o (first_way longest cs (i + 1 + 1) (drop (i + 1) xs))) (cond-false (is_fixed x) None (way_of longest cs (i + 1) x) unfixed ∙ free))

-- At the end nothing was found.
pub search_end : (longest : ℕ) (cs : List Coupling) (xs : List System) (i : ℕ) → length xs ≤ i → None ≡ first_way longest cs (i + 1) (drop i xs)
search_end longest cs xs i past = sym (at_drop_all (first_way longest cs (i + 1)) xs i past)

-- One number more is above the limit, or one of the others is.
above_push : (limit : ℕ) (xs : List ℕ) (y : ℕ) → above limit (xs ++ y ∷ []) ≡ (above limit xs || ltb limit y)
above_push limit [] y = or_false (ltb limit y)
  where
    or_false : (b : Bool) → (b || false) ≡ b
    or_false true = refl
    or_false false = refl
above_push limit (x ∷ xs) y = ap (λ b. ltb limit x || b) (above_push limit xs y) ∙ regrouped (ltb limit x) (above limit xs) (ltb limit y)
  where
    regrouped : (a b c : Bool) → (a || (b || c)) ≡ ((a || b) || c)
    regrouped true b c = refl
    regrouped false b c = refl

-- Whether some taker has any is known one coupling further.
pub has_more : (f : Coupling → ℕ) (first : ℕ) (cs : List Coupling) (n i : ℕ) (has : Bool) → i < length cs → (get_or cs i no_coupling).upper ≡ n → has ≡ above 0 (seen f first cs n i)
    → (has || ltb 0 (f (get_or cs i no_coupling))) ≡ above 0 (seen f first cs n (i + 1))
has_more f first cs n i has h is known =
    let y = f (get_or cs i no_coupling) in
    ap (λ b. b || ltb 0 y) known ∙ sym (above_push 0 (seen f first cs n i) y) ∙ ap (above 0) (sym (gathered_more f first cs n i h is))

-- Where there are too many takers already, that is in the way.
pub too_many : (longest : ℕ) (cs : List Coupling) (n i takers : ℕ) (x : System) → i < length cs → (get_or cs i no_coupling).upper ≡ n → takers ≡ length (seen (λ c. c.kw) x.kw cs n i) → longest < takers + 1
    → way_of longest cs n x ≡ Some (refuse ListTooLong n)
too_many longest cs n i takers x h is count over =
    let more = counted_more (λ c. c.kw) x.kw cs n i takers h is count in
    let part = takers_counted (λ c. c.kw) x.kw (take (i + 1) cs) n in
    let whole = takers_counted (λ c. c.kw) x.kw cs n in
    cond-true (ltb longest (length (kws_of cs n x))) _ _ (lt-ltb longest (length (kws_of cs n x)) (omega (arith, takers_among cs n (i + 1))))

-- Where there are not, it is what the two flags tell.
pub way_by_flags : (longest : ℕ) (cs : List Coupling) (n : ℕ) (x : System) (has_kw has_mwh : Bool) → length (kws_of cs n x) ≤ longest → has_kw ≡ above 0 (kws_of cs n x) → has_mwh ≡ above 0 (mwhs_of cs n x)
    → way_of longest cs n x ≡ cond (ltb 0 x.permille && not has_kw || ltb x.permille 1000 && not has_mwh) (Some (refuse NoWeight n)) None
way_by_flags longest cs n x has_kw has_mwh short kws mwhs =
    let no_kw : eqb (sum (kws_of cs n x)) 0 ≡ not has_kw = sum_is_zero (kws_of cs n x) ∙ ap not (sym kws) in
    let no_mwh : eqb (sum (mwhs_of cs n x)) 0 ≡ not has_mwh = sum_is_zero (mwhs_of cs n x) ∙ ap not (sym mwhs) in
    cond-false (ltb longest (length (kws_of cs n x))) _ _ (le-ltb longest (length (kws_of cs n x)) short)
    ∙ ap (λ b. cond (ltb 0 x.permille && b || ltb x.permille 1000 && eqb (sum (mwhs_of cs n x)) 0) (Some (refuse NoWeight n)) None) no_kw
    ∙ ap (λ b. cond (ltb 0 x.permille && not has_kw || ltb x.permille 1000 && b) (Some (refuse NoWeight n)) None) no_mwh

-- What the search finds from some number on is the first obstacle of the model.
found_from : (m : Makings) (s : State) (front rest : List System) → s.systems ≡ front ++ rest → first_way m.longest s.couplings (length front + 1) rest ≡ first_obstacle m s (range_with_len (length front + 1) (length rest))
found_from m s front [] whole = refl
found_from m s front (x ∷ rest) whole =
    let n = length front + 1 in
    let long = ap (λ (ys : List System). length ys) whole in
    let read : get_or s.systems (n - 1) x ≡ x = ap (λ (ys : List System). get_or ys (n - 1) x) whole ∙ get_or_at front x rest x (n - 1) (omega arith) in
    let there : numbered s.systems n ≡ Some x = numbered_from_entry s.systems n x (omega arith) (omega (arith, length-append front (x ∷ rest))) ∙ ap (λ (y : System). Some y) read in
    let pushed = length_push front x in
    ap (λ (o : Option Refusal). or_else (cond (is_fixed x) None (way_of m.longest s.couplings n x)) o)
    (ap (λ k. first_way m.longest s.couplings (k + 1) rest) (sym pushed)
    ∙ found_from m s (front ++ x ∷ []) rest (whole ∙ sym (append_assoc front (x ∷ []) rest))
    ∙ ap (λ k. first_obstacle m s (range_with_len (k + 1) (length rest))) pushed)
    ∙ ap (λ (o : Option System). or_else (obstacle m s n o) (first_obstacle m s (range_with_len (n + 1) (length rest)))) (sym there)

-- So it is from the first number on.
pub found_first : (m : Makings) (s : State) → first_way m.longest s.couplings 1 s.systems ≡ first_obstacle m s (numbers s)
found_first m s = found_from m s [] s.systems refl

-- There are no more takers than couplings and the consumers.
pub takers_within : (f : Coupling → ℕ) (first : ℕ) (cs : List Coupling) (n i takers : ℕ) → takers ≡ length (seen f first cs n i) → takers ≤ length cs + 1
takers_within f first cs n i takers count =
    omega (arith, takers_counted f first (take i cs) n, takers_among cs n i, count_by-le-length (leads_from n) cs)
