use Rattle.std.proofs.Common.{◌≡◌, ◌*◌, ◌≤◌}
use Rattle.year_model.specs.Passes.{landed_in_turn, passed_in_turn}
use Rattle.year_model.specs.State.{view}
use Rattle.tariff_year.specs.Years.{makings}
use Rattle.tariff_year.proofs.InTurn.{first_turns}
use Rattle.tariff_year.proofs.year.TariffYear.settle_level.Given as goal

abbrev pub invariant-loop-index : goal.invariant-loop-index
invariant-loop-index g l =
    (view l.self.tables ≡ passed_in_turn (makings g.E.Edition g.R.SharingRule l.initial.self.basis) (view l.initial.self.tables) (first_turns (view l.initial.self.tables) l.level l.index))
    × (l.landed ≡ landed_in_turn (makings g.E.Edition g.R.SharingRule l.initial.self.basis) (view l.initial.self.tables) (first_turns (view l.initial.self.tables) l.level l.index))
    × (l.landed ≤ 5_000_000_000 * l.index)
    × (l.self.basis ≡ l.initial.self.basis)
