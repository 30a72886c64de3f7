use Rattle.std.proofs.Common.{◌≡◌, ℕ, ◌+◌, ◌*◌, ◌≤◌, length, get_or, take}
use Rattle.year_model.specs.Passes.{handed_down}
use Rattle.tariff_year.specs.Takings.{blank_system, leading_down}
use Rattle.tariff_year.proofs.handing.hand_down.Given as goal

abbrev pub invariant-loop-coupling : goal.invariant-loop-coupling
invariant-loop-coupling l =
    (l.systems ≡ handed_down (λ taker. get_or l.received taker 0) 1 (take (length l.yielded) (leading_down l.couplings l.fn.upper)) l.initial.systems)
    × ((k : ℕ) → (get_or l.systems k blank_system).standing ≤ 5_000_000_000 * (length l.yielded + 1))
