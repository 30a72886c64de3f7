-- The twelve calls, and what a call comes to.
use Rattle.std.specs.Prelude.{ℕ, ◌+◌, cond, List, [], ◌∷◌, Some, None, Ok, Err, Option, Result, nat_lt}
use Rattle.refusal.specs.declared.ground.Ground.TheVariants.{NotThere, OutOfBounds, SystemFixed}
use Rattle.refusal.specs.declared.refusal.Refusal.{Refusal}
use Rattle.refusal.specs.Refusals.{refuse}
use Rattle.year_model.specs.declared.tables.System.{System}
use Rattle.year_model.specs.State.{State, is_fixed, numbered}

pub data Call : Type 0 where
  -- level, category
  call_open : ℕ → ℕ → Call
  -- upper system, lower system, kW, MWh
  call_couple : ℕ → ℕ → ℕ → ℕ → Call
  -- system, kW, MWh, permille
  call_use : ℕ → ℕ → ℕ → ℕ → Call
  -- system, euros
  call_cost : ℕ → ℕ → Call
  call_take_back : ℕ → ℕ → Call
  -- system
  call_pass : ℕ → Call
  call_settle : Call
  -- system, volumes of the four carriers
  call_fix : ℕ → ℕ → ℕ → ℕ → ℕ → Call
  -- system, kW, fee, first date, last date, reading
  call_contract : ℕ → ℕ → ℕ → ℕ → ℕ → ℕ → Call
  -- contract, kWmax, reading
  call_start : ℕ → ℕ → ℕ → Call
  -- book, contract, month of a draft
  call_issue : ℕ → ℕ → ℕ → Call
  call_tear : ℕ → ℕ → ℕ → Call

-- What a call is answered: the told numbers, or the refusal.
abbrev pub Reply : Type 0
Reply = Result (List ℕ) Refusal

-- What a call comes to: the new state and the told numbers, or the refusal.
abbrev pub Outcome : Type 0
Outcome = Result (State × List ℕ) Refusal

abbrev pub reply_of : Outcome → Reply
reply_of (Ok done) = Ok done.1
reply_of (Err refusal) = Err refusal

-- A refusal leaves the state as it was.
abbrev pub state_of : State → Outcome → State
state_of s (Ok done) = done.0
state_of s (Err refusal) = s

-- the largest number that ten columns hold
abbrev pub largest_number : ℕ
largest_number = 9_999_999_999

-- The first argument that is above its limit is refused, with its place; where none is, the call goes on.
abbrev pub within_from : ℕ → List (ℕ × ℕ) → Outcome → Outcome
within_from place [] goes_on = goes_on
within_from place (argument ∷ rest) goes_on =
    cond (nat_lt argument.1 argument.0) (Err (refuse OutOfBounds place)) (within_from (place + 1) rest goes_on)

abbrev pub within : List (ℕ × ℕ) → Outcome → Outcome
within arguments goes_on = within_from 1 arguments goes_on

-- A call on an entry that is not there is refused.
abbrev pub found : {X : Type 0} → Option X → (X → Outcome) → Outcome
found None goes_on = Err (refuse NotThere 0)
found (Some x) goes_on = goes_on x

-- A call on a system that is not there, or that is fixed, is refused.
abbrev pub on_unfixed : State → ℕ → (System → Outcome) → Outcome
on_unfixed s n goes_on = found (numbered s.systems n) (λ x. cond (is_fixed x) (Err (refuse SystemFixed 0)) (goes_on x))
