use Rattle.std.proofs.Common.{◌≡◌, ◌≤◌, true, ◌∙◌, arith, rules}
use Rattle.std.proofs.lemmas.Bool.Decides.{nat_tests}
use Rattle.calendar.specs.Days.{days_of_month}
use Rattle.calendar.specs.Terms.{is_term}
use Rattle.calendar.proofs.SplitDays.{counts_add_up}
use Rattle.calendar.proofs.year.CalendarYear.month_days.Goals as goal

pub returns-clause-whole : goal.returns-clause-whole
returns-clause-whole c =
    let term : is_term c.args.self.year c.args.first c.args.last ≡ true = search rules in
    let ordered : c.args.first ≤ c.args.last = grind (arith, nat_tests) in
    let days : c.in_ok-days.days ≡ days_of_month c.args.self.year c.args.month = search rules in
    let whole = counts_add_up c.args.month c.args.first c.args.last ordered c.in_ok-days.days in
    rw c.counted_days.ensures (whole ∙ days)
