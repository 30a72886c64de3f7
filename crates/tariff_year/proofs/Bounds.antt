-- What stands at one system is within the net costs.
use Rattle.std.proofs.Common.{◌≡◌, ℕ, ◌-◌, ◌≤◌, Some, ap, arith}
use Rattle.std.proofs.lemmas.List.Sums.{get_or-le-sum_by}
use Rattle.year_model.specs.Sound.{MoneyBalances}
use Rattle.year_model.specs.State.{State, numbered}
use Rattle.year_model.specs.declared.tables.System.{System}
use Rattle.year_model.proofs.Lookups.{entry_from_numbered}

pub standing_bounded : (s : State) (n : ℕ) (x : System) → MoneyBalances s → numbered s.systems n ≡ Some x → x.standing ≤ s.net
standing_bounded s n x money found =
    let there = entry_from_numbered s.systems n x found in
    let under = get_or-le-sum_by (λ (y : System). y.standing) s.systems (n - 1) x (omega (arith, there.low, there.high)) in
    let same = ap (λ (y : System). y.standing) (there.here x) in
    omega (arith, money.0)
