-- What the fault of a row says of its bytes.
use Rattle.std.specs.Prelude.{◌≡◌, ℕ, ◌+◌, ◌*◌, ◌^◌, ◌<◌, List, length, Err, ◌≢◌, slice_index}
use Rattle.rows.specs.Fields.{field}
use Rattle.rows.specs.Lines.{field_bytes}
use Rattle.rows.specs.Requests.{letter, numbers, read_answer}
use Rattle.rows.specs.declared.fault.FieldFault.{FieldFault}
use Rattle.rows.specs.declared.fault.RowFault.TheVariants.{Letter, Length, Field}
use Rattle.rows.specs.declared.request.Request.{Request}

-- The bytes are the field of a number.
abbrev pub WellFormed : List ℕ → Type 0
WellFormed bytes = (n : ℕ) × (n < 10 ^ 10) × (bytes ≡ field n)

-- The field at this place, counted from 1, is not well formed, and each field before it is.
pub record FirstMalformed (row : List ℕ) (place : ℕ) : Type 0 where
  pub index : ℕ
  pub counted : place ≡ index + 1
  pub ill_formed : WellFormed (field_bytes row index) → ⊥
  pub well_before : (k : ℕ) → k < index → WellFormed (field_bytes row k)

-- A row whose letter is refused has the letter of no call.
abbrev pub LettersTold : Type 0
LettersTold = (row : List ℕ) → read_answer row ≡ Err Letter → (call : Request) → slice_index row 0 ≢ letter call

-- A row whose length is refused has not its letter's length, or no line feed at its end.
abbrev pub LengthsTold : Type 0
LengthsTold =
    (row : List ℕ) → read_answer row ≡ Err Length → (call : Request) → slice_index row 0 ≡ letter call → length row ≡ 2 + 10 * length (numbers call) → slice_index row (1 + 10 * length (numbers call)) ≢ 10

-- A row that is refused for a field is refused for its first malformed one.
abbrev pub FieldsTold : Type 0
FieldsTold = (row : List ℕ) (fault : FieldFault) → read_answer row ≡ Err (Field fault) → FirstMalformed row fault.place
