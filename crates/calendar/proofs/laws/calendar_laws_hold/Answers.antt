use Rattle.calendar.specs.Days.{days_of_month}
use Rattle.calendar.proofs.SplitDays.{counts_add_up, whole_month}
use Rattle.calendar.proofs.laws.calendar_laws_hold.Goals as goal

pub returns-clause-counts_add_up : goal.returns-clause-counts_add_up
returns-clause-counts_add_up c = λ year month first last ordered. counts_add_up month first last ordered (days_of_month year month)

pub returns-clause-whole_months_count_whole : goal.returns-clause-whole_months_count_whole
returns-clause-whole_months_count_whole c = λ year month first last ordered. whole_month month first last ordered (days_of_month year month)
