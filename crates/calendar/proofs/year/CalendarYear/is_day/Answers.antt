use Rattle.std.proofs.Common.{◌≡◌, rules}
use Rattle.std.proofs.lemmas.Bool.Decides.{Decides-at}
use Rattle.calendar.specs.Days.{is_day}
use Rattle.calendar.proofs.Dates.{is_day_decides}
use Rattle.calendar.proofs.year.CalendarYear.is_day.Goals as goal

pub returns-clause-meant : goal.returns-clause-meant
returns-clause-meant c =
    let told : c.is_ok_and.result ≡ is_day c.args.self.year c.args.date = search rules in
    Decides-at _ _ told (is_day_decides c.args.self.year c.args.date)
