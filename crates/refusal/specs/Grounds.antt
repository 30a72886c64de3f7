-- The grounds for saying no, by their numbers.
use Rattle.std.specs.Prelude.{◌≡◌, ℕ, cond, List, [], ◌∷◌, Some, None, Option, ◌==◌}
use Rattle.refusal.specs.declared.ground.Ground.{Ground}
use Rattle.refusal.specs.declared.ground.Ground.TheVariants.{PageTooLong, BufferTooSmall, UnknownLetter, WrongLength, MalformedField, OutOfBounds, UnknownCategory, NotThere, TableFull, SystemFixed, LevelNotLower, CoupledAlready, CostsTooHigh, MoreThanStands, ListTooLong, NoWeight, NotSettled, VolumeUnfit, TariffTooHigh, SystemNotFixed, ChargeTooHigh, DraftOut, NoMonthLeft, ReadingFell, LineTooHigh, DraftNotOut}

-- the number by which a ground is told
abbrev pub ground_number : Ground → ℕ
ground_number PageTooLong = 1
ground_number BufferTooSmall = 2
ground_number UnknownLetter = 3
ground_number WrongLength = 4
ground_number MalformedField = 5
ground_number OutOfBounds = 6
ground_number UnknownCategory = 7
ground_number NotThere = 8
ground_number TableFull = 9
ground_number SystemFixed = 10
ground_number LevelNotLower = 11
ground_number CoupledAlready = 12
ground_number CostsTooHigh = 13
ground_number MoreThanStands = 14
ground_number ListTooLong = 15
ground_number NoWeight = 16
ground_number NotSettled = 17
ground_number VolumeUnfit = 18
ground_number TariffTooHigh = 19
ground_number SystemNotFixed = 20
ground_number ChargeTooHigh = 21
ground_number DraftOut = 22
ground_number NoMonthLeft = 23
ground_number ReadingFell = 24
ground_number LineTooHigh = 25
ground_number DraftNotOut = 26

-- every ground, in the order in which they are tried
abbrev pub all_grounds : List Ground
all_grounds =
    PageTooLong ∷ BufferTooSmall ∷ UnknownLetter ∷ WrongLength ∷ MalformedField ∷ OutOfBounds ∷ UnknownCategory ∷ NotThere ∷ TableFull ∷ SystemFixed ∷ LevelNotLower ∷ CoupledAlready ∷ CostsTooHigh ∷ MoreThanStands ∷ ListTooLong ∷ NoWeight ∷ NotSettled ∷ VolumeUnfit ∷ TariffTooHigh ∷ SystemNotFixed ∷ ChargeTooHigh ∷ DraftOut ∷ NoMonthLeft ∷ ReadingFell ∷ LineTooHigh ∷ DraftNotOut ∷ []

-- the first of these grounds with this number
abbrev pub first_numbered : ℕ → List Ground → Option Ground
first_numbered n [] = None
first_numbered n (g ∷ gs) = cond (n == ground_number g) (Some g) (first_numbered n gs)

-- the ground with this number, if there is one
abbrev pub ground_numbered : ℕ → Option Ground
ground_numbered n = first_numbered n all_grounds

-- The number of each ground names that ground.
abbrev pub NumbersNameGrounds : Type 0
NumbersNameGrounds = (g : Ground) → ground_numbered (ground_number g) ≡ Some g
