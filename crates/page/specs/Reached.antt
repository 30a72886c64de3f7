-- The tariff year of a page, and how its state came about.
use Rattle.std.specs.Prelude.{◌≡◌, ℕ, List}
use Rattle.edition.specs.Edition2013.{rows_2013}
use Rattle.edition.specs.Tables.{known_in, percent_in}
use Rattle.sharing.specs.Running.{running_share}
use Rattle.year_model.specs.Calls.{Call, Reply}
use Rattle.year_model.specs.Makings.{Lawful, Makings}
use Rattle.year_model.specs.Sound.{CategoriesKnown, FixingsWhole, IsSound, TermsDated}
use Rattle.year_model.specs.State.{State, begun}
use Rattle.year_model.specs.Steps.{state_after}
use Rattle.tariff_year.specs.Years.{Did}

-- A page's year is made of its calendar year, book 0, the running rule and the edition of 2013.
abbrev pub page_makings : ℕ → Makings
page_makings calendar =
    record {
      calendar = calendar;
      book = 0;
      longest = 32;
      share = running_share;
      known = known_in rows_2013;
      percent = percent_in rows_2013;
    }

-- There is a list of calls that leads to this state.
abbrev pub Reached : Makings → State → Type 0
Reached m s = ∥ ((calls : List Call) × (state_after m calls ≡ s)) ∥₁

-- What holds of the state of a page's year of this calendar year: what the year is made of is lawful, a list of calls led to the
-- state, and the state is sound, its terms dated, its fixings whole and its categories known. So what is proved of every list of
-- calls holds of it.
pub record LedTo (calendar : ℕ) (s : State) : Type 0 where
  pub lawful : Lawful (page_makings calendar)
  pub reached : Reached (page_makings calendar) s
  pub sound : IsSound s
  pub dated : TermsDated calendar s
  pub priced : FixingsWhole s
  pub known : CategoriesKnown (known_in rows_2013) s

-- A page's year is seen as its calendar year and its state.
pub record YearAt : Type 0 where
  pub calendar : ℕ
  pub state : State

-- a year with nothing in it
abbrev pub year_new : ℕ → YearAt
year_new calendar = record { calendar = calendar; state = begun }

-- A call of a page's year told this, and led from the one to the other; the calendar year is kept.
pub record Called (before : YearAt) (call : Call) (told : Reply) (later : YearAt) : Type 0 where
  pub did : Did (page_makings before.calendar) before.state call told later.state
  pub kept : later.calendar ≡ before.calendar
