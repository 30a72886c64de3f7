-- What a list of calls brought in and took out, told from the calls and their replies alone.
use Rattle.std.specs.Prelude.{ℕ, ◌+◌, List, [], ◌∷◌, Ok, Err}
use Rattle.year_model.specs.Calls.{Call, Reply, call_contract, call_cost, call_couple, call_fix, call_issue, call_open, call_pass, call_settle, call_start, call_take_back, call_tear, call_use}
use Rattle.year_model.specs.Makings.{Makings}
use Rattle.year_model.specs.Steps.{reply, state_after}

-- A refused call counts for nothing.
abbrev pub if_accepted : Reply → ℕ → ℕ
if_accepted (Ok told) n = n
if_accepted (Err refusal) n = 0

-- the euros of a cost
abbrev pub cost_euros : Call → ℕ
cost_euros (call_open level category) = 0
cost_euros (call_couple upper lower kw mwh) = 0
cost_euros (call_use n kw mwh permille) = 0
cost_euros (call_cost n euros) = euros
cost_euros (call_take_back n euros) = 0
cost_euros (call_pass n) = 0
cost_euros call_settle = 0
cost_euros (call_fix n v₁ v₂ v₃ v₄) = 0
cost_euros (call_contract n kw fee first last reading) = 0
cost_euros (call_start n kwmax reading) = 0
cost_euros (call_issue book n month) = 0
cost_euros (call_tear book n month) = 0

-- the euros of a take-back
abbrev pub take_back_euros : Call → ℕ
take_back_euros (call_open level category) = 0
take_back_euros (call_couple upper lower kw mwh) = 0
take_back_euros (call_use n kw mwh permille) = 0
take_back_euros (call_cost n euros) = 0
take_back_euros (call_take_back n euros) = euros
take_back_euros (call_pass n) = 0
take_back_euros call_settle = 0
take_back_euros (call_fix n v₁ v₂ v₃ v₄) = 0
take_back_euros (call_contract n kw fee first last reading) = 0
take_back_euros (call_start n kwmax reading) = 0
take_back_euros (call_issue book n month) = 0
take_back_euros (call_tear book n month) = 0

-- the euros of all accepted costs of a list of calls
abbrev pub accepted_costs : Makings → List Call → ℕ
accepted_costs m [] = 0
accepted_costs m (c ∷ calls) = accepted_costs m calls + if_accepted (reply m (state_after m calls) c) (cost_euros c)

-- the euros of all accepted take-backs
abbrev pub accepted_take_backs : Makings → List Call → ℕ
accepted_take_backs m [] = 0
accepted_take_backs m (c ∷ calls) = accepted_take_backs m calls + if_accepted (reply m (state_after m calls) c) (take_back_euros c)
