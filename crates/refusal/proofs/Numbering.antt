-- The number of each ground names that ground.
use Rattle.std.proofs.Common.{refl}
use Rattle.refusal.specs.declared.ground.Ground.TheVariants.{PageTooLong, BufferTooSmall, UnknownLetter, WrongLength, MalformedField, OutOfBounds, UnknownCategory, NotThere, TableFull, SystemFixed, LevelNotLower, CoupledAlready, CostsTooHigh, MoreThanStands, ListTooLong, NoWeight, NotSettled, VolumeUnfit, TariffTooHigh, SystemNotFixed, ChargeTooHigh, DraftOut, NoMonthLeft, ReadingFell, LineTooHigh, DraftNotOut}
use Rattle.refusal.specs.Grounds.{NumbersNameGrounds}

pub numbers_name_grounds : NumbersNameGrounds
numbers_name_grounds PageTooLong = refl
numbers_name_grounds BufferTooSmall = refl
numbers_name_grounds UnknownLetter = refl
numbers_name_grounds WrongLength = refl
numbers_name_grounds MalformedField = refl
numbers_name_grounds OutOfBounds = refl
numbers_name_grounds UnknownCategory = refl
numbers_name_grounds NotThere = refl
numbers_name_grounds TableFull = refl
numbers_name_grounds SystemFixed = refl
numbers_name_grounds LevelNotLower = refl
numbers_name_grounds CoupledAlready = refl
numbers_name_grounds CostsTooHigh = refl
numbers_name_grounds MoreThanStands = refl
numbers_name_grounds ListTooLong = refl
numbers_name_grounds NoWeight = refl
numbers_name_grounds NotSettled = refl
numbers_name_grounds VolumeUnfit = refl
numbers_name_grounds TariffTooHigh = refl
numbers_name_grounds SystemNotFixed = refl
numbers_name_grounds ChargeTooHigh = refl
numbers_name_grounds DraftOut = refl
numbers_name_grounds NoMonthLeft = refl
numbers_name_grounds ReadingFell = refl
numbers_name_grounds LineTooHigh = refl
numbers_name_grounds DraftNotOut = refl
