-- An answer as a row: A with the figures told, or R with the ground's number, the row and the place.
use Rattle.std.specs.Prelude.{ℕ, ◌/◌, cond, List, [], ◌∷◌, length, Some, None, Ok, Err, Option, Result, ◌==◌, slice_index}
use Rattle.refusal.specs.Grounds.{ground_number, ground_numbered}
use Rattle.refusal.specs.declared.ground.Ground.{Ground}
use Rattle.refusal.specs.declared.refusal.Refusal.{Refusal}
use Rattle.rows.specs.Faults.{malformed, page_ground, page_row, page_place}
use Rattle.rows.specs.Lines.{line, Fit, NoOtherIsRead, RowsTellApart, WrittenReadsBack, numbers_answer}
use Rattle.rows.specs.declared.answer.AnswerRow.{AnswerRow}
use Rattle.rows.specs.declared.answer.AnswerRow.TheVariants.{Told, Refused}
use Rattle.rows.specs.declared.answer.Figures.{Figures}
use Rattle.rows.specs.declared.answer.Figures.TheVariants.{One, Two, Three, Four, Five, Six}
use Rattle.rows.specs.declared.fault.PageFault.{PageFault}
use Rattle.rows.specs.declared.fault.RowFault.{RowFault}
use Rattle.rows.specs.declared.fault.RowFault.TheVariants.{Letter, Length, Field}

-- The figures in a list.
abbrev pub figures_listed : Figures → List ℕ
figures_listed (One a) = a ∷ []
figures_listed (Two a b) = a ∷ b ∷ []
figures_listed (Three a b c) = a ∷ b ∷ c ∷ []
figures_listed (Four a b c d) = a ∷ b ∷ c ∷ d ∷ []
figures_listed (Five a b c d e) = a ∷ b ∷ c ∷ d ∷ e ∷ []
figures_listed (Six a b c d e f) = a ∷ b ∷ c ∷ d ∷ e ∷ f ∷ []

-- The letter of an answer row: A or R.
abbrev pub answer_letter : AnswerRow → ℕ
answer_letter (Told figures) = 65
answer_letter (Refused why row place) = 82

-- The numbers of an answer row, in the order of its fields.
abbrev pub answer_numbers : AnswerRow → List ℕ
answer_numbers (Told figures) = figures_listed figures
answer_numbers (Refused why row place) = ground_number why ∷ row ∷ place ∷ []

-- The bytes of an answer row.
abbrev pub answer_bytes : AnswerRow → List ℕ
answer_bytes a = line (answer_letter a) (answer_numbers a)

-- Each number of the answer row fits a field.
abbrev pub AnswerFits : AnswerRow → Type 0
AnswerFits a = Fit (answer_numbers a)

-- One to six figures, all 0.
abbrev pub all_figures : List Figures
all_figures = One 0 ∷ Two 0 0 ∷ Three 0 0 0 ∷ Four 0 0 0 0 ∷ Five 0 0 0 0 0 ∷ Six 0 0 0 0 0 0 ∷ []

-- The first of these that are so many.
abbrev pub first_long : ℕ → List Figures → Option Figures
first_long n [] = None
first_long n (f ∷ fs) = cond (n == length (figures_listed f)) (Some f) (first_long n fs)

-- So many figures, if an answer row may have as many.
unfoldable pub figures_long : ℕ → Option Figures
figures_long n = first_long n all_figures

-- As many figures, of other numbers.
abbrev pub figures_of : Figures → List ℕ → Figures
figures_of (One a) ns = One (slice_index ns 0)
figures_of (Two a b) ns = Two (slice_index ns 0) (slice_index ns 1)
figures_of (Three a b c) ns = Three (slice_index ns 0) (slice_index ns 1) (slice_index ns 2)
figures_of (Four a b c d) ns = Four (slice_index ns 0) (slice_index ns 1) (slice_index ns 2) (slice_index ns 3)
figures_of (Five a b c d e) ns = Five (slice_index ns 0) (slice_index ns 1) (slice_index ns 2) (slice_index ns 3) (slice_index ns 4)
figures_of (Six a b c d e f) ns = Six (slice_index ns 0) (slice_index ns 1) (slice_index ns 2) (slice_index ns 3) (slice_index ns 4) (slice_index ns 5)

-- The figures read in a row, or what is wrong with them.
abbrev pub with_figures : Figures → Result (List ℕ) RowFault → Result Figures RowFault
with_figures figures (Ok ns) = Ok (figures_of figures ns)
with_figures figures (Err e) = Err e

-- What a row says as a row of so many figures.
abbrev pub figures_as : Figures → List ℕ → Result Figures RowFault
figures_as figures row = with_figures figures (numbers_answer (length (figures_listed figures)) row)

-- What a row says, where its length is that of so many figures or of none.
abbrev pub figures_by : Option Figures → List ℕ → Result Figures RowFault
figures_by None row = Err Length
figures_by (Some figures) row = figures_as figures row

-- What a row says as a row of figures: its length tells how many.
abbrev pub figures_answer : List ℕ → Result Figures RowFault
figures_answer row = figures_by (figures_long (length row / 10)) row

-- The answer that tells the figures, or what is wrong with them.
abbrev pub telling : Result Figures RowFault → Result AnswerRow RowFault
telling (Ok figures) = Ok (Told figures)
telling (Err e) = Err e

-- The answer that refuses on this ground; where the number is no ground's, the first field is malformed.
abbrev pub refusing : Option Ground → ℕ → ℕ → Result AnswerRow RowFault
refusing None row place = Err (Field (malformed 1))
refusing (Some why) row place = Ok (Refused why row place)

-- The refusal with these numbers, or what is wrong with them.
abbrev pub refusing_with : Result (List ℕ) RowFault → Result AnswerRow RowFault
refusing_with (Ok ns) = refusing (ground_numbered (slice_index ns 0)) (slice_index ns 1) (slice_index ns 2)
refusing_with (Err e) = Err e

-- What an answer row says: the answer in it, or the first that is wrong with it.
unfoldable pub answer_read : List ℕ → Result AnswerRow RowFault
answer_read row =
    cond (slice_index row 0 == 65) (telling (figures_answer row)) (cond (slice_index row 0 == 82) (refusing_with (numbers_answer 3 row)) (Err Letter))

-- The answer row that tells a refusal in the row with this number.
abbrev pub refused_in : ℕ → Refusal → AnswerRow
refused_in row refusal = Refused refusal.ground row refusal.place

-- The answer row that tells a page's fault.
abbrev pub fault_answer : PageFault → AnswerRow
fault_answer fault = Refused (page_ground fault) (page_row fault) (page_place fault)

-- The row that is written for an answer reads back as that answer.
abbrev pub WrittenAnswersReadBack : Type 0
WrittenAnswersReadBack = WrittenReadsBack AnswerFits answer_bytes answer_read

-- A row that reads as an answer is the row that is written for it.
abbrev pub NoOtherAnswerIsRead : Type 0
NoOtherAnswerIsRead = NoOtherIsRead AnswerFits answer_bytes answer_read

-- No two answers have the same row.
abbrev pub AnswersTellApart : Type 0
AnswersTellApart = RowsTellApart AnswerFits answer_bytes
