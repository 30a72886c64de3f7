-- A refused row changes nothing.
use Rattle.std.proofs.Common.{◌≡◌, ℕ, Bool, true, false, cond, get_or, Some, None, Ok, Err, Option, Result, sym, refl, ap, ◌∙◌, arith}
use Rattle.refusal.specs.declared.ground.Ground.{Ground}
use Rattle.rows.specs.Faults.{in_row, numbered}
use Rattle.rows.specs.Judged.{row_answer}
use Rattle.rows.specs.declared.answer.AnswerRow.TheVariants.{Refused}
use Rattle.rows.specs.declared.fault.Numbered.{Numbered}
use Rattle.rows.specs.declared.fault.RowFault.{RowFault}
use Rattle.rows.specs.declared.fault.RowFault.TheVariants.{Letter}
use Rattle.rows.specs.declared.request.Request.{Request}
use Rattle.year_model.specs.Calls.{Call, Reply}
use Rattle.year_model.specs.Makings.{Makings}
use Rattle.year_model.specs.State.{State}
use Rattle.year_model.specs.Steps.{after, reply}
use Rattle.year_model.proofs.Refused.{refusals_change_nothing}
use Rattle.page.specs.Answers.{asked_answered, asked_in, call_of, is_not_yet, replied, reply_row, row_answered, state_after_call, state_behind, state_behind_asked}
use Rattle.page.specs.Laws.{RefusedRowsChangeNothing}

-- a fault in a row has the row's number
fault_number : (number : ℕ) (unknown : Bool) (r : Result Request RowFault) (f : Numbered RowFault) → cond unknown (Err (numbered number Letter)) (in_row number r) ≡ Err f → f.row ≡ number
fault_number number true r f is =
    let same : numbered number Letter ≡ f = cc in
    sym (ap (λ (x : Numbered RowFault). x.row) same)
fault_number number false (Ok q) f is = let z : ◌≡◌ {A = ℕ} 0 1 = cc in absurd (omega arith)
fault_number number false (Err e) f is =
    let same : numbered number e ≡ f = cc in
    sym (ap (λ (x : Numbered RowFault). x.row) same)

module _ (m : Makings) (s : State) (number : ℕ) (ground : Ground) (told place : ℕ) where
  by_reply : (c : Call) (r : Reply) → reply m s c ≡ r → reply_row number r ≡ Refused ground told place → (after m s c ≡ s) × (told ≡ number)
  by_reply c (Ok numbers) replies is = let z : ◌≡◌ {A = ℕ} 0 1 = cc in absurd (omega arith)
  by_reply c (Err refusal) replies is = (refusals_change_nothing m s c refusal replies, cc)

  by_call : (c : Option Call) → reply_row number (replied m s c) ≡ Refused ground told place → (state_after_call m s c ≡ s) × (told ≡ number)
  by_call None is = (refl, cc)
  by_call (Some c) is = by_reply c (reply m s c) refl is

  by_asked : (r : Result Request (Numbered RowFault)) → ((f : Numbered RowFault) → r ≡ Err f → f.row ≡ number) → asked_answered m s number r ≡ Refused ground told place → (state_behind_asked m s r ≡ s) × (told ≡ number)
  by_asked (Ok q) of is = by_call (call_of q) is
  by_asked (Err f) of is =
      let same : told ≡ f.row = cc in
      (refl, same ∙ of f refl)

pub refused_rows_change_nothing : RefusedRowsChangeNothing
unfolding row_answered state_behind
refused_rows_change_nothing m s number row ground told place is =
    by_asked m s number ground told place (asked_in number row)
    (λ f so. fault_number number (is_not_yet (get_or row 0 0)) (row_answer number row) f so) is
