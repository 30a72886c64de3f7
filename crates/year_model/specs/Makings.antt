-- What a tariff year is made of.
use Rattle.std.specs.Prelude.{◌≡◌, ℕ, ◌≤◌, true}
use Rattle.calendar.specs.Days.{is_calendar_year}
use Rattle.edition.specs.Editions.{HundredLaw, Known, Percent}
use Rattle.sharing.specs.Sharing.{Meaning, SharingLaw}

-- a calendar year, a book number, and what its sharing rule and its edition mean
pub record Makings : Type 0 where
  pub calendar : ℕ
  pub book : ℕ
  pub longest : ℕ
  pub share : Meaning
  pub known : Known
  pub percent : Percent

-- The calendar year is one, and rule and edition keep their laws.
pub record Lawful (m : Makings) : Type 0 where
  pub dated : is_calendar_year m.calendar ≡ true
  pub twelve : 12 ≤ m.longest
  pub sharing : SharingLaw m.longest m.share
  pub hundred : HundredLaw m.known m.percent
