use Rattle.std.proofs.Common.{◌≡◌, ◌∷◌, map}
use Rattle.tariff_year.proofs.takers.gather.Given as goal

abbrev pub invariant-loop-coupling : goal.invariant-loop-coupling
invariant-loop-coupling l =
    (l.kws.items ≡ l.fn.kw ∷ map (λ c. c.now.kw) l.yielded)
    × (l.mwhs.items ≡ l.fn.mwh ∷ map (λ c. c.now.mwh) l.yielded)
