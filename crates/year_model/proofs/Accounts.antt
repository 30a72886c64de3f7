-- The net costs are the accepted costs less what was taken back.
use Rattle.std.proofs.Common.{◌≡◌, ℕ, ◌+◌, List, [], ◌∷◌, Ok, Err, refl, arith}
use Rattle.std.proofs.lemmas.List.Sums.{sum_by-cons}
use Rattle.year_model.specs.Calls.{Call, Reply, call_contract, call_cost, call_couple, call_fix, call_issue, call_open, call_pass, call_settle, call_start, call_take_back, call_tear, call_use}
use Rattle.year_model.specs.Journal.{Line, costs_noted, journal, line, noted, take_backs_noted}
use Rattle.year_model.specs.Laws.{CostsAreAccountedFor}
use Rattle.year_model.specs.Makings.{Makings}
use Rattle.year_model.specs.Runs.{accepted_costs, accepted_take_backs, cost_euros, if_accepted, take_back_euros}
use Rattle.year_model.specs.Steps.{reply, state_after}
use Rattle.year_model.proofs.NetNoted.{costs_are_noted}

-- A line has the euros of its call.
line_euros : (c : Call) (told : List ℕ) → ((line c told).cost ≡ cost_euros c) × ((line c told).take_back ≡ take_back_euros c)
line_euros (call_open level category) told = (refl, refl)
line_euros (call_couple upper lower kw mwh) told = (refl, refl)
line_euros (call_use n kw mwh permille) told = (refl, refl)
line_euros (call_cost n euros) told = (refl, refl)
line_euros (call_take_back n euros) told = (refl, refl)
line_euros (call_pass n) told = (refl, refl)
line_euros call_settle told = (refl, refl)
line_euros (call_fix n v₁ v₂ v₃ v₄) told = (refl, refl)
line_euros (call_contract n kw fee first last reading) told = (refl, refl)
line_euros (call_start n kwmax reading) told = (refl, refl)
line_euros (call_issue book n month) told = (refl, refl)
line_euros (call_tear book n month) told = (refl, refl)

-- So a reply adds the euros of its call to those that are noted, where it accepts.
noted_euros : (c : Call) (r : Reply) (lines : List Line)
    → (costs_noted (noted c r lines) ≡ costs_noted lines + if_accepted r (cost_euros c)) × (take_backs_noted (noted c r lines) ≡ take_backs_noted lines + if_accepted r (take_back_euros c))
noted_euros c (Ok told) lines =
    let euros = line_euros c told in (
      omega (arith, euros.0, sum_by-cons (λ (l : Line). l.cost) (line c told) lines),
      omega (arith, euros.1, sum_by-cons (λ (l : Line). l.take_back) (line c told) lines),
    )
noted_euros c (Err refusal) lines = (omega arith, omega arith)

-- The accepted costs and take-backs are those that the journal has.
journal_euros : (m : Makings) (calls : List Call) → (accepted_costs m calls ≡ costs_noted (journal m calls)) × (accepted_take_backs m calls ≡ take_backs_noted (journal m calls))
journal_euros m [] = (refl, refl)
journal_euros m (c ∷ calls) =
    let before = journal_euros m calls in
    let here = noted_euros c (reply m (state_after m calls) c) (journal m calls) in
    (omega (arith, before.0, here.0), omega (arith, before.1, here.1))

pub costs_are_accounted_for : CostsAreAccountedFor
costs_are_accounted_for m law calls = let euros = journal_euros m calls in omega (arith, euros.0, euros.1, costs_are_noted m law calls)
