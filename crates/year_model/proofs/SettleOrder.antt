-- The order of settling: exactly the unfixed systems, by rank of level and then by number.
use Rattle.std.proofs.Common.{◌≡◌, ℕ, zero, suc, ◌+◌, ◌-◌, ◌<◌, ◌≤◌, true, not, eqb, List, length, Some, None, filter, Option, refl, ap, ◌∙◌, inl, inr, arith}
use Rattle.std.specs.List.{range_with_len, Contains, flat_map, AllByRecursion as All}
use Rattle.std.proofs.ByRecursion.{All-append, All-weaker, kept_by_passes}
use Rattle.std.proofs.lemmas.Bool.{and_from, and_parts, eq-eqb, eqb-true, false≢true, not_from_false, not-true}
use Rattle.year_model.specs.declared.tables.System.{System}
use Rattle.year_model.specs.Passes.{is_unfixed_at, numbers, ranks, settle_order}
use Rattle.year_model.specs.PassLaws.{ComesBefore, IsUnfixed}
use Rattle.year_model.specs.Sound.{no_system, system_at}
use Rattle.year_model.specs.State.{State, is_fixed, numbered, rank}
use Rattle.year_model.proofs.Entered.{Entered}
use Rattle.year_model.proofs.InOrder.{InOrder, all_joined, counting_rises, has_counting, has_joined, has_kept, in_order_append, in_order_kept, in_order_weaker}
use Rattle.year_model.proofs.Lookups.{entry_from_numbered, numbered_from_entry}

-- An unfixed system of this rank has this number.
abbrev UnfixedOn : State → ℕ → ℕ → Type 0
UnfixedOn s r n = IsUnfixed s n × (rank (system_at s n) ≡ r)

-- the numbers of the unfixed systems of one rank
abbrev on_rank : State → ℕ → List ℕ
on_rank s r = filter (λ n. is_unfixed_at r (numbered s.systems n)) (numbers s)

-- What the look-up found tells so.
unfixed_on_from : (s : State) (r n : ℕ) (looked : Option System) → numbered s.systems n ≡ looked → is_unfixed_at r looked ≡ true → UnfixedOn s r n
unfixed_on_from s r n None e t = absurd (false≢true t)
unfixed_on_from s r n (Some x) e t =
    let at = entry_from_numbered s.systems n x e in
    let is = at.here no_system in
    let parts = and_parts (not (is_fixed x)) (eqb (rank x) r) t in
    (((at.low, at.high), ap (λ (z : System). is_fixed z) is ∙ not-true (is_fixed x) parts.0), ap (λ (z : System). rank z) is ∙ eqb-true (rank x) r parts.1)

-- An unfixed system passes the test of its rank.
unfixed_passes : (s : State) (n : ℕ) → IsUnfixed s n → is_unfixed_at (rank (system_at s n)) (numbered s.systems n) ≡ true
unfixed_passes s n is =
    let x = system_at s n in
    rw (numbered_from_entry s.systems n no_system is.0.0 is.0.1)
    (and_from (not (is_fixed x)) (eqb (rank x) (rank x)) (not_from_false (is_fixed x) is.1) (eq-eqb (rank x) (rank x) refl))

-- All on one rank are unfixed systems of that rank.
all_on_rank : (s : State) (r : ℕ) → All (UnfixedOn s r) (on_rank s r)
all_on_rank s r =
    All-weaker (λ n. is_unfixed_at r (numbered s.systems n) ≡ true) (UnfixedOn s r) (λ n t. unfixed_on_from s r n (numbered s.systems n) refl t)
    (on_rank s r) (kept_by_passes (λ n. is_unfixed_at r (numbered s.systems n)) (numbers s))

-- Only unfixed systems are settled.
pub settles_only : (s : State) → All (IsUnfixed s) (settle_order s)
settles_only s = all_joined (IsUnfixed s) (on_rank s) (λ r. All-weaker (UnfixedOn s r) (IsUnfixed s) (λ n is. is.0) (on_rank s r) (all_on_rank s r)) ranks

-- Every unfixed system is settled.
pub settles_every : (s : State) → Entered s → (n : ℕ) → IsUnfixed s n → Contains (settle_order s) n
settles_every s e n is =
    let r = rank (system_at s n) in
    let level = e.levels (n - 1) (omega arith) in
    has_joined (on_rank s) r n
    (has_kept (λ k. is_unfixed_at r (numbered s.systems k)) n (unfixed_passes s n is) (numbers s) (has_counting 1 (length s.systems) n is.0.0 (omega arith)))
    ranks (has_counting 1 7 r level.0 (omega arith))

-- Those on one rank rise by number.
rank_in_order : (s : State) (r : ℕ) → InOrder (ComesBefore s) (on_rank s r)
rank_in_order s r =
    in_order_weaker (λ j k. j < k) (UnfixedOn s r) (ComesBefore s)
    (λ a b here there before. inr (here.1 ∙ omega (arith, there.1), before)) (on_rank s r) (all_on_rank s r)
    (in_order_kept (λ j k. j < k) (λ n. is_unfixed_at r (numbered s.systems n)) (numbers s) (counting_rises 1 (length s.systems)))

-- Those on later ranks are of no lesser rank.
later_ranks : (s : State) (first count : ℕ) → All (λ n. first ≤ rank (system_at s n)) (flat_map (on_rank s) (range_with_len first count))
later_ranks s first zero = tt
later_ranks s first (suc count) =
    All-append (λ n. first ≤ rank (system_at s n)) (on_rank s first) (flat_map (on_rank s) (range_with_len (first + 1) count))
    (All-weaker (UnfixedOn s first) (λ n. first ≤ rank (system_at s n)) (λ n is. omega (arith, is.1)) (on_rank s first) (all_on_rank s first))
    (All-weaker (λ n. first + 1 ≤ rank (system_at s n)) (λ n. first ≤ rank (system_at s n)) (λ n up. omega arith) (flat_map (on_rank s) (range_with_len (first + 1) count)) (later_ranks s (first + 1) count))

-- The ranks come one after another.
ranks_in_order : (s : State) (first count : ℕ) → InOrder (ComesBefore s) (flat_map (on_rank s) (range_with_len first count))
ranks_in_order s first zero = tt
ranks_in_order s first (suc count) =
    let later = flat_map (on_rank s) (range_with_len (first + 1) count) in
    in_order_append (ComesBefore s) (on_rank s first) later (rank_in_order s first) (ranks_in_order s (first + 1) count)
    (All-weaker (UnfixedOn s first) (λ a. All (ComesBefore s a) later)
    (λ a here. All-weaker (λ n. first + 1 ≤ rank (system_at s n)) (ComesBefore s a) (λ b up. inl (omega (arith, here.1))) later (later_ranks s (first + 1) count))
    (on_rank s first) (all_on_rank s first))

-- The order of settling is by rank and then by number.
pub settles_in_order : (s : State) → InOrder (ComesBefore s) (settle_order s)
settles_in_order s = ranks_in_order s 1 7
