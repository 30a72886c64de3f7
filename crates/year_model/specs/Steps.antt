-- What a call comes to, and the state after a list of calls.
use Rattle.std.specs.Prelude.{List, [], ◌∷◌}
use Rattle.year_model.specs.Bills.{contracted, issued_draft, started_draft, torn_draft}
use Rattle.year_model.specs.Calls.{Call, Outcome, Reply, call_contract, call_cost, call_couple, call_fix, call_issue, call_open, call_pass, call_settle, call_start, call_take_back, call_tear, call_use, reply_of, state_of}
use Rattle.year_model.specs.Fixes.{fixed}
use Rattle.year_model.specs.Makings.{Makings}
use Rattle.year_model.specs.Passes.{passed, settled}
use Rattle.year_model.specs.State.{State, begun}
use Rattle.year_model.specs.Systems.{charged, coupled, opened, taken_back, used}

-- what a call comes to, in a year of these makings and in this state
abbrev pub outcome : Makings → State → Call → Outcome
outcome m s (call_open level category) = opened m s level category
outcome m s (call_couple upper lower kw mwh) = coupled s upper lower kw mwh
outcome m s (call_use n kw mwh permille) = used s n kw mwh permille
outcome m s (call_cost n euros) = charged s n euros
outcome m s (call_take_back n euros) = taken_back s n euros
outcome m s (call_pass n) = passed m s n
outcome m s call_settle = settled m s
outcome m s (call_fix n v₁ v₂ v₃ v₄) = fixed m s n v₁ v₂ v₃ v₄
outcome m s (call_contract n kw fee first last reading) = contracted m s n kw fee first last reading
outcome m s (call_start n kwmax reading) = started_draft m s n kwmax reading
outcome m s (call_issue book n month) = issued_draft m s book n month
outcome m s (call_tear book n month) = torn_draft m s book n month

-- what the call is answered
abbrev pub reply : Makings → State → Call → Reply
reply m s c = reply_of (outcome m s c)

-- the state after the call
abbrev pub after : Makings → State → Call → State
after m s c = state_of s (outcome m s c)

-- the state after a list of calls, the newest first
abbrev pub state_after : Makings → List Call → State
state_after m [] = begun
state_after m (c ∷ calls) = after m (state_after m calls) c
