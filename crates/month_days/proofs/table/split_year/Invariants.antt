use Rattle.std.proofs.Common.{◌≡◌, ℕ, ◌+◌, ◌<◌, length, get_or, Ok}
use Rattle.calendar.specs.Terms.{term_answer}
use Rattle.month_days.proofs.table.split_year.Given as goal

-- the months so far
abbrev pub invariant-loop-month : goal.invariant-loop-month
invariant-loop-month l =
    (length l.days-items ≡ 12)
    × ((k : ℕ) → k < l.month → Ok (get_or l.days-items k (0, 0, 0)) ≡ term_answer l.year.year l.question.first l.question.last (k + 1))
