-- Every accepted settle is the run of the accepted, fair passes of exactly the unfixed systems, in order.
use Rattle.std.proofs.Common.{◌≡◌, ℕ, ◌+◌, ◌-◌, ◌≤◌, List, [], ◌∷◌, length, Some, None, Ok, Option, sym, refl, ap, ◌∙◌, subst, ⊎_elim, arith}
use Rattle.std.specs.List.{AllByRecursion as All}
use Rattle.std.proofs.ByRecursion.{All-weaker}
use Rattle.std.proofs.lemmas.Bool.{cond-false}
use Rattle.refusal.specs.declared.refusal.Refusal.{Refusal}
use Rattle.year_model.specs.declared.tables.System.{System}
use Rattle.year_model.specs.Calls.{Call, call_settle, reply_of, state_of}
use Rattle.year_model.specs.Makings.{Lawful, Makings}
use Rattle.year_model.specs.Passes.{first_obstacle, in_the_way, landed_in_turn, numbers, obstacle, or_else, passed_in_turn, settle_order, settled}
use Rattle.year_model.specs.PassLaws.{ComesBefore, IsUnfixed, SettledByPasses, SettlesArePasses, passes_in_turn}
use Rattle.year_model.specs.Sound.{Sound, all_landed, no_system, system_at}
use Rattle.year_model.specs.State.{State, is_fixed, numbered, rank}
use Rattle.year_model.specs.Steps.{reply, state_after}
use Rattle.year_model.proofs.Acceptance.{accepted_settle}
use Rattle.year_model.proofs.Entered.{entered_after}
use Rattle.year_model.proofs.EurosInTurn.{emptied_in_turn, lands_in_turn}
use Rattle.year_model.proofs.FairPasses.{passes_are_fair}
use Rattle.year_model.proofs.Gifts.{stands_at}
use Rattle.year_model.proofs.InOrder.{all_has, has_counting, in_order_getD, in_order_weaker}
use Rattle.year_model.proofs.Lookups.{numbered_from_entry}
use Rattle.year_model.proofs.PassesInTurn.{Clear, clear_in_turn, euros_in_turn, run_in_turn}
use Rattle.year_model.proofs.SettleOrder.{settles_every, settles_in_order, settles_only}
use Rattle.year_model.proofs.SoundCalls.{sound_state_after}

-- Where neither is an obstacle, there is none.
neither_way : (one other : Option Refusal) → or_else one other ≡ None → (one ≡ None) × (other ≡ None)
neither_way None other e = (refl, e)
neither_way (Some refusal) other e = let z : ◌≡◌ {A = ℕ} 0 1 = cc in absurd (omega arith)

-- Where there is no first obstacle, there is none at any of the systems.
no_obstacles : (m : Makings) (s : State) (ns : List ℕ) → first_obstacle m s ns ≡ None → All (λ n. obstacle m s n (numbered s.systems n) ≡ None) ns
no_obstacles m s [] none = tt
no_obstacles m s (n ∷ ns) none =
    let parts = neither_way (obstacle m s n (numbered s.systems n)) (first_obstacle m s ns) none in
    (parts.0, no_obstacles m s ns parts.1)

-- Nothing stands in the way of an unfixed system where there is no obstacle.
clear_unfixed : (m : Makings) (s : State) → first_obstacle m s (numbers s) ≡ None → (n : ℕ) → IsUnfixed s n → Clear m s (rank (system_at s n)) n
clear_unfixed m s none n is =
    let x = system_at s n in
    let there = all_has (λ k. obstacle m s k (numbered s.systems k) ≡ None) (numbers s) n (no_obstacles m s (numbers s) none) (has_counting 1 (length s.systems) n is.0.0 (omega arith)) in
    let here : obstacle m s n (Some x) ≡ None = rw (numbered_from_entry s.systems n no_system is.0.0 is.0.1) at there in
    record { number = is.0; unfixed = is.1; free = sym (cond-false (is_fixed x) None (in_the_way m s n x) is.1) ∙ here; ranked = refl }

-- So nothing stands in the way of any system that a settle passes,
clear_order : (m : Makings) (s : State) → first_obstacle m s (numbers s) ≡ None → All (λ n. Clear m s (rank (system_at s n)) n) (settle_order s)
clear_order m s free = All-weaker (IsUnfixed s) (λ n. Clear m s (rank (system_at s n)) n) (clear_unfixed m s free) (settle_order s) (settles_only s)

-- and what it tells is what landed.
pub settle_lands : (m : Makings) → Lawful m → (s : State) → Sound s → first_obstacle m s (numbers s) ≡ None
    → all_landed s.systems + landed_in_turn m s (settle_order s) ≡ all_landed (passed_in_turn m s (settle_order s)).systems
settle_lands m law s v free = lands_in_turn m law (λ n. rank (system_at s n)) (settle_order s) s v (clear_order m s free)

-- What a settle that is answered with numbers has met, told and led to.
record Settles (m : Makings) (s t : State) (told : List ℕ) : Type 0 where
  free : first_obstacle m s (numbers s) ≡ None
  tells : told ≡ landed_in_turn m s (settle_order s) ∷ []
  leads : t ≡ passed_in_turn m s (settle_order s)

-- So it is of every settle that is answered with numbers.
settles_told : (m : Makings) (s : State) (told : List ℕ) → reply_of (settled m s) ≡ Ok told → Settles m s (state_of s (settled m s)) told
settles_told m s told =
    accepted_settle m s (λ o. reply_of o ≡ Ok told → Settles m s (state_of s o) told)
    (λ refusal refused. let z : ◌≡◌ {A = ℕ} 0 1 = cc in absurd (omega arith))
    (λ free is. record { free = free; tells = cc; leads = refl })

-- By rank and then by number is by rank.
rank_before : (s : State) (a b : ℕ) → ComesBefore s a b → rank (system_at s a) ≤ rank (system_at s b)
rank_before s a b before = ⊎_elim (λ less. omega arith) (λ same. omega (arith, same.0)) before

-- Such a settle is a run of passes.
settled_by_passes : (m : Makings) → Lawful m → (older : List Call) (told : List ℕ) → reply m (state_after m older) call_settle ≡ Ok told → SettledByPasses m older told
settled_by_passes m law older told is =
    let s = state_after m older in
    let v = sound_state_after m law older in
    let order = settle_order s in
    let met = settles_told m s told is in
    let ranks : ℕ → ℕ = λ n. rank (system_at s n) in
    let clear = clear_order m s met.free in
    let move = euros_in_turn m law order s v in
    let rise = in_order_weaker (ComesBefore s) (IsUnfixed s) (λ a b. ranks a ≤ ranks b) (λ a b _ _ before. rank_before s a b before) order (settles_only s) (settles_in_order s) in
    let empty = emptied_in_turn m law ranks order s v clear rise in
    record {
      order = order;
      only = settles_only s;
      every = settles_every s (entered_after m law older);
      ordered = λ i j before inside. in_order_getD (ComesBefore s) order (settles_in_order s) i j 0 before inside;
      accepted = clear_in_turn m law ranks order older clear;
      run = met.leads ∙ sym (run_in_turn m order older);
      fair = passes_are_fair m law (passes_in_turn order older);
      euros = landed_in_turn m s order;
      tells = met.tells;
      landed = settle_lands m law s v met.free ∙ ap (λ (t : State). all_landed t.systems) (sym met.leads);
      nothing_stands = λ n unfixed.
          let there = subst (λ (t : State). IsUnfixed t n) met.leads unfixed in
          let same = ap (λ (x : System). is_fixed x) (move.same (n - 1) (omega (arith, there.0, move.long))) in
          let was : IsUnfixed s n = ((there.0.0, omega (arith, there.0, move.long)), sym same ∙ there.1) in
          ap (λ (t : State). stands_at t.systems n) met.leads
          ∙ all_has (λ k. stands_at (passed_in_turn m s order).systems k ≡ 0) order n empty (settles_every s (entered_after m law older) n was);
    }

-- Every accepted settle of a list of calls is such a run.
pub settles_are_passes : (m : Makings) → Lawful m → (calls : List Call) → SettlesArePasses m calls
settles_are_passes m law [] = tt
settles_are_passes m law (c ∷ calls) =
    let s = state_after m calls in (
      (λ told is e. settled_by_passes m law calls told (subst (λ (d : Call). reply m s d ≡ Ok told) e is)),
      settles_are_passes m law calls,
    )
