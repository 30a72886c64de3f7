-- What holds of every row.
use Rattle.std.specs.Prelude.{◌≡◌, ℕ, ◌^◌, ◌<◌, List}
use Rattle.refusal.specs.declared.ground.Ground.{Ground}
use Rattle.rows.specs.Told.{AnswerFits}
use Rattle.rows.specs.declared.answer.AnswerRow.TheVariants.{Refused}
use Rattle.year_model.specs.Makings.{Makings}
use Rattle.year_model.specs.Sound.{Sound}
use Rattle.year_model.specs.State.{State}
use Rattle.page.specs.Answers.{row_answered, state_behind}

-- A refused row leaves the year as it was, and its answer row has its number.
abbrev pub RefusedRowsChangeNothing : Type 0
RefusedRowsChangeNothing =
    (m : Makings) (s : State) (number : ℕ) (row : List ℕ) (why : Ground) (told place : ℕ) → row_answered m s number row ≡ Refused why told place → (state_behind m s number row ≡ s) × (told ≡ number)

-- Every number of an answer row fits its field, where the year is sound and the row's number has at most ten digits.
abbrev pub AnswersFit : Type 0
AnswersFit =
    (m : Makings) (s : State) → Sound s → (number : ℕ) → number < 10 ^ 10 → (row : List ℕ) → AnswerFits (row_answered m s number row)
