use Rattle.std.proofs.Common.{◌≡◌, ◌-◌, ◌*◌, ◌≤◌}
use Rattle.year_model.specs.Passes.{landed_in_turn, passed_in_turn}
use Rattle.year_model.specs.State.{view}
use Rattle.tariff_year.specs.Years.{makings}
use Rattle.tariff_year.proofs.InTurn.{levels_before}
use Rattle.tariff_year.proofs.year.TariffYear.settle.Given as goal

abbrev pub invariant-loop-level : goal.invariant-loop-level
invariant-loop-level g l =
    (view l.self.tables ≡ passed_in_turn (makings g.E.Edition g.R.SharingRule l.initial.self.basis) (view l.initial.self.tables) (levels_before (view l.initial.self.tables) l.level))
    × (l.landed ≡ landed_in_turn (makings g.E.Edition g.R.SharingRule l.initial.self.basis) (view l.initial.self.tables) (levels_before (view l.initial.self.tables) l.level))
    × (l.landed ≤ 320_000_000_000 * (l.level - 1))
    × (l.self.basis ≡ l.initial.self.basis)
