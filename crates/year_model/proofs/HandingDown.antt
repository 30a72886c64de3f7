-- What handing down euros does to a list of systems: the standing euros grow by what is handed, and nothing else changes.
use Rattle.std.proofs.Common.{◌≡◌, ℕ, ◌+◌, ◌-◌, ◌<◌, ◌≤◌, List, [], ◌∷◌, map, length, get_or, set, sum, sym, refl, ap, ◌∙◌, arith}
use Rattle.std.specs.List.{range_with_len, AllByRecursion as All}
use Rattle.std.proofs.lemmas.List.{get_or-map, length-map, map-set, set-get_or}
use Rattle.std.proofs.lemmas.List.Sums.{sum_by-cons, sum_by-set}
use Rattle.year_model.specs.declared.tables.Coupling.{Coupling}
use Rattle.year_model.specs.declared.tables.System.{System}
use Rattle.year_model.specs.Passes.{handed_down, more_standing}
use Rattle.year_model.specs.Sound.{all_landed, all_standing, no_system}
use Rattle.year_model.specs.State.{renumbered}
use Rattle.year_model.specs.Systems.{standing_at}
use Rattle.year_model.proofs.Lookups.{Entry, entry_from_numbered, numbered_from_entry}

-- the systems without the euros that stand there
abbrev pub emptied_all : List System → List System
emptied_all xs = map (λ x. standing_at x 0) xs

-- More euros stand at some systems, and nothing else changed.
pub record MoreStanding (euros : ℕ) (xs ys : List System) : Type 0 where
  pub stands : all_standing ys ≡ all_standing xs + euros
  pub lands : all_landed ys ≡ all_landed xs
  pub rest : emptied_all ys ≡ emptied_all xs

-- There are as many systems as before.
pub as_many : (xs ys : List System) → emptied_all ys ≡ emptied_all xs → length ys ≡ length xs
as_many xs ys same =
    let one = length-map ys (λ x. standing_at x 0) in
    let two = length-map xs (λ x. standing_at x 0) in
    let both = ap length same in
    omega arith

-- Each system is as it was but for the euros that stand there.
pub same_but_standing : (xs ys : List System) → emptied_all ys ≡ emptied_all xs → (k : ℕ) → k < length xs → standing_at (get_or ys k no_system) 0 ≡ standing_at (get_or xs k no_system) 0
same_but_standing xs ys same k h =
    let long = as_many xs ys same in
    sym (get_or-map (λ x. standing_at x 0) ys k no_system no_system (omega arith)) ∙ ap (λ (zs : List System). get_or zs k no_system) same ∙ get_or-map (λ x. standing_at x 0) xs k no_system no_system h

-- One system with more euros standing.
more_at_entry : (xs : List System) (n euros : ℕ) (x : System) → Entry xs n x → MoreStanding euros xs (renumbered xs n (standing_at x (x.standing + euros)))
more_at_entry xs n euros x at =
    let y = standing_at x (x.standing + euros) in
    let inside : n - 1 < length xs = omega (arith, at.low, at.high) in
    let is = at.here no_system in
    let standing = sum_by-set (λ z. z.standing) xs (n - 1) y no_system inside in
    let landed = sum_by-set (λ z. z.landed) xs (n - 1) y no_system inside in
    let stood = ap (λ (z : System). z.standing) is in
    let lay = ap (λ (z : System). z.landed) is in
    let old : standing_at x 0 ≡ get_or (emptied_all xs) (n - 1) no_system = ap (λ (z : System). standing_at z 0) (sym is) ∙ sym (get_or-map (λ z. standing_at z 0) xs (n - 1) no_system no_system inside) in
    record {
      stands = omega arith;
      lands = omega arith;
      rest = map-set (λ z. standing_at z 0) xs (n - 1) y ∙ ap (λ (z : System). set (emptied_all xs) (n - 1) z) old ∙ set-get_or (emptied_all xs) (n - 1) no_system;
    }

-- So it is at every system that is there.
pub more_standing_at : (xs : List System) (n euros : ℕ) → 1 ≤ n → n ≤ length xs → MoreStanding euros xs (more_standing xs n euros)
more_standing_at xs n euros low high =
    let x = get_or xs (n - 1) no_system in
    let found = numbered_from_entry xs n no_system low high in
    rw found (more_at_entry xs n euros x (entry_from_numbered xs n x found))

-- The lower system of a coupling is one of this many.
abbrev pub LeadsWithin : ℕ → Coupling → Type 0
LeadsWithin count c = (1 ≤ c.lower) × (c.lower ≤ count)

-- Handing down adds what all takers from this one on receive.
pub handed_down_adds : (receive : ℕ → ℕ) (taker : ℕ) (cs : List Coupling) (xs : List System) (count : ℕ) → length xs ≡ count → All (LeadsWithin count) cs
    → MoreStanding (sum (map receive (range_with_len taker (length cs)))) xs (handed_down receive taker cs xs)
handed_down_adds receive taker [] xs count long lead = record { stands = omega arith; lands = refl; rest = refl }
handed_down_adds receive taker (c ∷ cs) xs count long lead =
    let ys = more_standing xs c.lower (receive taker) in
    let here = more_standing_at xs c.lower (receive taker) lead.0.0 (omega arith) in
    let later = handed_down_adds receive (taker + 1) cs ys count (as_many xs ys here.rest ∙ long) lead.1 in
    let whole = sum_by-cons (λ k. k) (receive taker) (map receive (range_with_len (taker + 1) (length cs))) in
    record {
      stands = omega (arith, here.stands, later.stands);
      lands = later.lands ∙ here.lands;
      rest = later.rest ∙ here.rest;
    }
