-- What a refusal by the calendar says of a term.
use Rattle.std.proofs.Common.{◌≡◌, ℕ, ◌+◌, ◌<◌, Bool, true, false, cond, ◌&&◌, Ok, Err, refl, arith}
use Rattle.std.proofs.lemmas.Bool.{and_right}
use Rattle.std.proofs.lemmas.Bool.Decides.{nat_tests}
use Rattle.refusal.specs.declared.ground.Ground.TheVariants.{OutOfBounds}
use Rattle.refusal.specs.declared.refusal.Refusal.{Refusal}
use Rattle.refusal.specs.Refusals.{refuse}
use Rattle.calendar.specs.Days.{is_calendar_year, is_month, year_answer}
use Rattle.calendar.specs.Terms.{is_term, term_answer}

refused_by : {X : Type 0} (term : Bool) (month : ℕ) (x : X) (told expected : Refusal) → month < 12 → Err told ≡ cond (is_month (month + 1) && term) (Ok x) (Err expected) → (told ≡ expected) × (term ≡ false)
refused_by true month x told expected within e = absurd (grind (arith, nat_tests))
refused_by false month x told expected within e = (grind (arith, nat_tests), refl)

pub refused_term : (year first last month : ℕ) (told : Refusal) → month < 12 → Err told ≡ term_answer year first last (month + 1) → (told ≡ refuse OutOfBounds 0) × ((is_calendar_year year && is_term year first last) ≡ false)
refused_term year first last month told within e =
    let parts = refused_by (is_term year first last) month _ told (refuse OutOfBounds 0) within e in
    (parts.0, and_right (is_calendar_year year) (is_term year first last) parts.1)

pub year_from_ok : (year asked : ℕ) → Ok year ≡ year_answer asked → year ≡ asked
year_from_ok year asked e = grind (arith, nat_tests)
