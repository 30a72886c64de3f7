-- A request as a row: its letter, its numbers as fields, and a line feed.
use Rattle.std.specs.Prelude.{ℕ, cond, List, [], ◌∷◌, length, Some, None, Ok, Err, Option, Result, ◌==◌, slice_index}
use Rattle.rows.specs.Lines.{line, Fit, NoOtherIsRead, RowsTellApart, WrittenReadsBack, numbers_answer}
use Rattle.rows.specs.declared.fault.RowFault.{RowFault}
use Rattle.rows.specs.declared.fault.RowFault.TheVariants.{Letter}
use Rattle.rows.specs.declared.request.Request.{Request}
use Rattle.rows.specs.declared.request.Request.TheVariants.{CalendarYear, Open, Couple, Use, Cost, TakeBack, Pass, Settle, Fix, Contract, Start}

-- The letter of each call: Y, S, K, U, C, T, P, Z, F, N, B.
abbrev pub letter : Request → ℕ
letter (CalendarYear year) = 89
letter (Open level category) = 83
letter (Couple upper lower kw mwh) = 75
letter (Use system kw mwh permille) = 85
letter (Cost system euros) = 67
letter (TakeBack system euros) = 84
letter (Pass system) = 80
letter Settle = 90
letter (Fix system contracted kwmax kwh reckoned) = 70
letter (Contract system kw fee from to reading) = 78
letter (Start contract kwmax reading) = 66

-- The numbers of a request, in the order of its fields.
abbrev pub numbers : Request → List ℕ
numbers (CalendarYear year) = year ∷ []
numbers (Open level category) = level ∷ category ∷ []
numbers (Couple upper lower kw mwh) = upper ∷ lower ∷ kw ∷ mwh ∷ []
numbers (Use system kw mwh permille) = system ∷ kw ∷ mwh ∷ permille ∷ []
numbers (Cost system euros) = system ∷ euros ∷ []
numbers (TakeBack system euros) = system ∷ euros ∷ []
numbers (Pass system) = system ∷ []
numbers Settle = []
numbers (Fix system contracted kwmax kwh reckoned) = system ∷ contracted ∷ kwmax ∷ kwh ∷ reckoned ∷ []
numbers (Contract system kw fee from to reading) = system ∷ kw ∷ fee ∷ from ∷ to ∷ reading ∷ []
numbers (Start contract kwmax reading) = contract ∷ kwmax ∷ reading ∷ []

-- The row of a request.
abbrev pub row_bytes : Request → List ℕ
row_bytes q = line (letter q) (numbers q)

-- Each number of the request fits a field.
abbrev pub Fits : Request → Type 0
Fits q = Fit (numbers q)

-- Every call, its numbers 0.
abbrev pub all_calls : List Request
all_calls =
    CalendarYear 0 ∷ Open 0 0 ∷ Couple 0 0 0 0 ∷ Use 0 0 0 0 ∷ Cost 0 0 ∷ TakeBack 0 0 ∷ Pass 0 ∷ Settle ∷ Fix 0 0 0 0 0 ∷ Contract 0 0 0 0 0 0 ∷ Start 0 0 0 ∷ []

-- The first of these calls with this letter.
abbrev pub first_lettered : ℕ → List Request → Option Request
first_lettered c [] = None
first_lettered c (q ∷ qs) = cond (c == letter q) (Some q) (first_lettered c qs)

-- The call with this letter, if there is one.
unfoldable pub call_lettered : ℕ → Option Request
call_lettered c = first_lettered c all_calls

-- The same call with other numbers.
abbrev pub filled : Request → List ℕ → Request
filled (CalendarYear year) ns = CalendarYear (slice_index ns 0)
filled (Open level category) ns = Open (slice_index ns 0) (slice_index ns 1)
filled (Couple upper lower kw mwh) ns = Couple (slice_index ns 0) (slice_index ns 1) (slice_index ns 2) (slice_index ns 3)
filled (Use system kw mwh permille) ns = Use (slice_index ns 0) (slice_index ns 1) (slice_index ns 2) (slice_index ns 3)
filled (Cost system euros) ns = Cost (slice_index ns 0) (slice_index ns 1)
filled (TakeBack system euros) ns = TakeBack (slice_index ns 0) (slice_index ns 1)
filled (Pass system) ns = Pass (slice_index ns 0)
filled Settle ns = Settle
filled (Fix system contracted kwmax kwh reckoned) ns = Fix (slice_index ns 0) (slice_index ns 1) (slice_index ns 2) (slice_index ns 3) (slice_index ns 4)
filled (Contract system kw fee from to reading) ns =
    Contract (slice_index ns 0) (slice_index ns 1) (slice_index ns 2) (slice_index ns 3) (slice_index ns 4) (slice_index ns 5)
filled (Start contract kwmax reading) ns = Start (slice_index ns 0) (slice_index ns 1) (slice_index ns 2)

-- A call with the numbers read in its row, or what is wrong with them.
abbrev pub with_numbers : Request → Result (List ℕ) RowFault → Result Request RowFault
with_numbers call (Ok ns) = Ok (filled call ns)
with_numbers call (Err e) = Err e

-- What a row says as a row of this call.
abbrev pub read_as : Request → List ℕ → Result Request RowFault
read_as call row = with_numbers call (numbers_answer (length (numbers call)) row)

-- What a row says, where its letter is that of this call or of none.
abbrev pub read_by : Option Request → List ℕ → Result Request RowFault
read_by None row = Err Letter
read_by (Some call) row = read_as call row

-- What a row says: the request in it, or the first that is wrong with it: its letter, its length or end, its first malformed field.
unfoldable pub read_answer : List ℕ → Result Request RowFault
read_answer row = read_by (call_lettered (slice_index row 0)) row

-- The row that is written for a request reads back as that request.
abbrev pub WrittenRowsReadBack : Type 0
WrittenRowsReadBack = WrittenReadsBack Fits row_bytes read_answer

-- A row that reads as a request is the row that is written for it.
abbrev pub NoOtherRowIsRead : Type 0
NoOtherRowIsRead = NoOtherIsRead Fits row_bytes read_answer

-- No two requests have the same row.
abbrev pub RowsTellRequestsApart : Type 0
RowsTellRequestsApart = RowsTellApart Fits row_bytes
