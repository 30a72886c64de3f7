-- What is wrong with a field, a row or a page: by which ground it is told, and where.
use Rattle.std.specs.Prelude.{ℕ, Ok, Err, Result}
use Rattle.refusal.specs.declared.ground.Ground.{Ground}
use Rattle.refusal.specs.declared.ground.Ground.TheVariants.{PageTooLong, UnknownLetter, WrongLength, MalformedField}
use Rattle.rows.specs.declared.fault.FieldFault.{FieldFault}
use Rattle.rows.specs.declared.fault.Numbered.{Numbered}
use Rattle.rows.specs.declared.fault.PageFault.{PageFault}
use Rattle.rows.specs.declared.fault.PageFault.TheVariants.{TooLong, InRow}
use Rattle.rows.specs.declared.fault.RowFault.{RowFault}
use Rattle.rows.specs.declared.fault.RowFault.TheVariants.{Letter, Length, Field}

-- The field at this place is malformed.
abbrev pub malformed : ℕ → FieldFault
malformed place = record { place = place }

-- The ground by which a row's fault is told.
abbrev pub row_ground : RowFault → Ground
row_ground Letter = UnknownLetter
row_ground Length = WrongLength
row_ground (Field f) = MalformedField

-- The place of a row's fault: that of the field, else 0.
abbrev pub row_place : RowFault → ℕ
row_place Letter = 0
row_place Length = 0
row_place (Field f) = f.place

-- A fault with the number of the row that has it.
abbrev pub numbered : {E : Type 0} → ℕ → E → Numbered E
numbered number fault = record { row = number; fault = fault }

-- What was read of a row, its fault with the number of the row.
abbrev pub in_row : {T E : Type 0} → ℕ → Result T E → Result T (Numbered E)
in_row number (Ok x) = Ok x
in_row number (Err e) = Err (numbered number e)

-- The ground by which a page's fault is told.
abbrev pub page_ground : PageFault → Ground
page_ground TooLong = PageTooLong
page_ground (InRow f) = row_ground f.fault

-- The row of a page's fault: 0 for the page as a whole.
abbrev pub page_row : PageFault → ℕ
page_row TooLong = 0
page_row (InRow f) = f.row

-- The place of a page's fault in its row.
abbrev pub page_place : PageFault → ℕ
page_place TooLong = 0
page_place (InRow f) = row_place f.fault
