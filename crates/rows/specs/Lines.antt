-- A line: a letter, numbers as fields, and a line feed.
use Rattle.std.specs.Prelude.{◌≡◌, ℕ, zero, suc, ◌+◌, ◌*◌, ◌^◌, ◌<◌, Bool, cond, ◌&&◌, List, [], ◌∷◌, ◌++◌, length, take, drop, Some, None, Ok, Err, Option, Result, ◌==◌, nat_lt, slice_index}
use Rattle.refusal.specs.Refusals.{refuse}
use Rattle.refusal.specs.declared.ground.Ground.TheVariants.{BufferTooSmall, OutOfBounds}
use Rattle.refusal.specs.declared.refusal.Refusal.{Refusal}
use Rattle.std.specs.List.{flat_map}
use Rattle.rows.specs.Faults.{malformed}
use Rattle.rows.specs.Fields.{field, number_in}
use Rattle.rows.specs.declared.fault.RowFault.{RowFault}
use Rattle.rows.specs.declared.fault.RowFault.TheVariants.{Length, Field}

-- The bytes of a line.
abbrev pub line : ℕ → List ℕ → List ℕ
line c ns = c ∷ (flat_map field ns ++ 10 ∷ [])

-- Each number fits a field.
abbrev pub Fit : List ℕ → Type 0
Fit [] = Unit {0}
Fit (n ∷ ns) = (n < 10 ^ 10) × Fit ns

-- The place of the first number that fits no field, where p is the place of the first number.
abbrev pub unfit_from : ℕ → List ℕ → Option ℕ
unfit_from p [] = None
unfit_from p (n ∷ ns) = cond (nat_lt n (10 ^ 10)) (unfit_from (p + 1) ns) (Some p)

-- A length is answered, unless a number fits no field.
abbrev pub unless_unfit : Option ℕ → ℕ → Result ℕ Refusal
unless_unfit None n = Ok n
unless_unfit (Some place) n = Err (refuse OutOfBounds place)

-- What a writer of these numbers in these bytes answers: the buffer has to have 62 bytes, and each number to fit a field.
abbrev pub write_answer : List ℕ → List ℕ → ℕ → Result ℕ Refusal
write_answer ns bytes room = cond (nat_lt room 62) (Err (refuse BufferTooSmall 0)) (unless_unfit (unfit_from 1 ns) (length bytes))

-- What a buffer holds then: the bytes at its front and the rest as it was, or all as it was.
abbrev pub left_by : Result ℕ Refusal → List ℕ → List ℕ → List ℕ
left_by (Ok n) bytes old = bytes ++ drop n old
left_by (Err e) bytes old = old

-- A writer of these numbers in these bytes found a buffer old, left it new, and answered r.
pub record Wrote (ns bytes old new : List ℕ) (r : Result ℕ Refusal) : Type 0 where
  pub answer : r ≡ write_answer ns bytes (length old)
  pub buffer : new ≡ left_by r bytes old

-- The bytes of the field i of a row, from 0.
abbrev pub field_bytes : List ℕ → ℕ → List ℕ
field_bytes row i = take 10 (drop (1 + 10 * i) row)

-- A number before others, unless its field holds none, which is told before their faults.
abbrev pub with_number : ℕ → Option ℕ → Result (List ℕ) RowFault → Result (List ℕ) RowFault
with_number place None r = Err (Field (malformed place))
with_number place (Some n) (Ok ns) = Ok (n ∷ ns)
with_number place (Some n) (Err e) = Err e

-- The numbers in n fields of a row from the field i on, or the first of these fields that is malformed.
unfoldable pub numbers_from : ℕ → ℕ → List ℕ → Result (List ℕ) RowFault
numbers_from zero i row = Ok []
numbers_from (suc n) i row = with_number (i + 1) (number_in (field_bytes row i)) (numbers_from n (i + 1) row)

-- A row of n fields has 2 + 10 n bytes, the last of them a line feed.
abbrev pub shaped : ℕ → List ℕ → Bool
shaped n row = length row == 2 + 10 * n && slice_index row (1 + 10 * n) == 10

-- The numbers in a row of n fields, or what is wrong with it behind its letter.
unfoldable pub numbers_answer : ℕ → List ℕ → Result (List ℕ) RowFault
numbers_answer n row = cond (shaped n row) (numbers_from n 0 row) (Err Length)

-- A row is read as a value exactly if it is the row of that value and its numbers fit.
pub record ReadsExactly {T : Type 0} (fits : T → Type 0) (bytes : T → List ℕ) (row : List ℕ) (r : Result T RowFault) : Type 0 where
  pub only_its_row : (value : T) → r ≡ Ok value → fits value × (row ≡ bytes value)
  pub its_row : (value : T) → fits value → row ≡ bytes value → r ≡ Ok value

-- What is written for a value reads back as that value.
abbrev pub WrittenReadsBack : {T : Type 0} → (T → Type 0) → (T → List ℕ) → (List ℕ → Result T RowFault) → Type 0
WrittenReadsBack {T = T} fits bytes said = (value : T) → fits value → said (bytes value) ≡ Ok value

-- A row that reads as a value is the row that is written for it.
abbrev pub NoOtherIsRead : {T : Type 0} → (T → Type 0) → (T → List ℕ) → (List ℕ → Result T RowFault) → Type 0
NoOtherIsRead {T = T} fits bytes said = (row : List ℕ) (value : T) → said row ≡ Ok value → fits value × (row ≡ bytes value)

-- No two values have the same row.
abbrev pub RowsTellApart : {T : Type 0} → (T → Type 0) → (T → List ℕ) → Type 0
RowsTellApart {T = T} fits bytes = (one other : T) → fits one → fits other → bytes one ≡ bytes other → one ≡ other
