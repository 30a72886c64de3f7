-- A call of a tariff year, from the year before it to the year after it.
use Rattle.std.specs.Prelude.{◌≡◌}
use Rattle.edition.specs.declared.edition.Edition.{Ghosts as EditionMeant}
use Rattle.sharing.specs.declared.rule.SharingRule.{Ghosts as RuleMeant}
use Rattle.year_model.specs.Calls.{Call, Reply}
use Rattle.year_model.specs.Makings.{Makings}
use Rattle.year_model.specs.State.{view}
use Rattle.tariff_year.specs.Years.{Did, makings}
use Rattle.tariff_year.specs.declared.year.TariffYear.{TariffYear}

-- what a year is made of, as its edition and its rule mean it
abbrev pub made_of : {E R : Type 0} {edition : EditionMeant E} {rule : RuleMeant R} → TariffYear E R edition rule → Makings
made_of {edition = edition} {rule = rule} year = makings edition rule year.basis

-- The call told this, and led from the one year to the other as the model says; what the year is made of is kept.
pub record Called {E R : Type 0} {edition : EditionMeant E} {rule : RuleMeant R} (before : TariffYear E R edition rule) (call : Call) (told : Reply) (later : TariffYear E R edition rule) : Type 0 where
  pub did : Did (made_of before) (view before.tables) call told (view later.tables)
  pub kept : later.basis ≡ before.basis
