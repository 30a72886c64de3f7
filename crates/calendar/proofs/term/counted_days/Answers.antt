use Rattle.std.proofs.Common.{◌≡◌, ◌-◌, arith}
use Rattle.calendar.specs.Terms.{count_after, count_before, count_in}
use Rattle.calendar.proofs.SplitDays.{count_before_is, count_through_is, counts_add_up}
use Rattle.calendar.proofs.term.counted_days.Goals as goal

pub returns : goal.returns
returns c =
    let month = c.args.month in
    let days = c.args.days in
    let first = c.args.first in
    let last = c.args.last in
    let before = count_before_is month first days in
    let through = count_through_is month first last c.requires.ordered days in
    let all = counts_add_up month first last c.requires.ordered days in
    let is_before : c.min-before.result ≡ count_before month first days = omega arith in
    let is_in : c.min-through.result - c.min-before.result ≡ count_in month first last days = omega arith in
    let is_after : days - c.min-through.result ≡ count_after month last days = omega arith in
    cc
