use Rattle.std.proofs.Common.{◌≡◌, ◌+◌, ◌≤◌, length, get_or, drop}
use Rattle.sharing.specs.Limits.{above}
use Rattle.tariff_year.specs.Obstacles.{first_way}
use Rattle.tariff_year.specs.Takings.{blank_system}
use Rattle.tariff_year.proofs.Gathering.{seen}
use Rattle.tariff_year.proofs.obstacles.first_obstacle.Given as goal

abbrev pub invariant-loop-coupling : goal.invariant-loop-coupling
invariant-loop-coupling l =
    (l.takers ≡ length (seen (λ c. c.kw) (get_or l.systems l.index blank_system).kw l.couplings l.number l.coupling-index))
    × (l.takers ≤ l.longest)
    × (l.has_kw ≡ above 0 (seen (λ c. c.kw) (get_or l.systems l.index blank_system).kw l.couplings l.number l.coupling-index))
    × (l.has_mwh ≡ above 0 (seen (λ c. c.mwh) (get_or l.systems l.index blank_system).mwh l.couplings l.number l.coupling-index))

abbrev pub invariant-loop-index : goal.invariant-loop-index
invariant-loop-index l = first_way l.longest l.couplings (l.index + 1) (drop l.index l.systems) ≡ first_way l.longest l.couplings 1 l.systems
