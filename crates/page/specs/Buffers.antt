-- The next answer row of a run in a buffer that is lent.
use Rattle.std.specs.Prelude.{◌≡◌, ℕ, cond, List, length, Some, None, Ok, Err, Option, Result, nat_lt}
use Rattle.refusal.specs.Refusals.{refuse}
use Rattle.refusal.specs.declared.ground.Ground.TheVariants.{BufferTooSmall}
use Rattle.refusal.specs.declared.refusal.Refusal.{Refusal}
use Rattle.rows.specs.Lines.{left_by, write_answer}
use Rattle.rows.specs.Told.{answer_bytes, answer_numbers}
use Rattle.rows.specs.declared.answer.AnswerRow.{AnswerRow}
use Rattle.page.specs.Runs.{Run, next_answer, run_behind, run_wanting}
use Rattle.page.specs.declared.error.PageError.{PageError}
use Rattle.page.specs.declared.error.PageError.TheVariants.{Refused, NoMemory}

-- A buffer under 62 bytes leaves a thing as it was.
abbrev pub with_room : {X : Type 0} → ℕ → X → X → X
with_room room before behind = cond (nat_lt room 62) before behind

-- The length of an answer row in a buffer of so many bytes, or 0 where there is none.
abbrev pub length_told : ℕ → Option AnswerRow → Result ℕ Refusal
length_told room None = Ok 0
length_told room (Some answer) = write_answer (answer_numbers answer) (answer_bytes answer) room

-- What a buffer holds then: the bytes of the answer row at its front and the rest as it was, or all as it was.
abbrev pub buffer_behind : Option AnswerRow → Result ℕ Refusal → List ℕ → List ℕ
buffer_behind None told old = old
buffer_behind (Some answer) told old = left_by told (answer_bytes answer) old

-- A refusal as an error of the page's call.
abbrev pub as_page : Result ℕ Refusal → Result ℕ PageError
as_page (Ok size) = Ok size
as_page (Err refusal) = Err (Refused refusal)

-- The next answer row of a run stands at the front of the buffer, and its length is told; a buffer under 62 bytes is
-- refused, and then all is as it was.
pub record Answered (before later : Run) (old new : List ℕ) (told : Result ℕ PageError) : Type 0 where
  pub answer : told ≡ with_room (length old) (Err (Refused (refuse BufferTooSmall 0))) (as_page (length_told (length old) (next_answer before)))
  pub buffer : new ≡ with_room (length old) old (buffer_behind (next_answer before) (length_told (length old) (next_answer before)) old)
  pub behind : later ≡ with_room (length old) before (run_behind before)

-- There was no memory for the year: nothing is written, and the run is over behind its first row.
pub record OutOfMemory (before later : Run) (old new : List ℕ) : Type 0 where
  pub buffer : new ≡ old
  pub wanting : later ≡ run_wanting before

-- What holds where the memory was there, and what where it was not.
abbrev pub ByMemory : Result ℕ PageError → Type 0 → Type 0 → Type 0
ByMemory (Ok size) there wanting = there
ByMemory (Err (Refused refusal)) there wanting = there
ByMemory (Err NoMemory) there wanting = wanting
