use Rattle.std.proofs.Common.{◌<◌, ◌≢◌, length, arith, length-set, get_or-set_other, get_or-set_same, below_more}
use Rattle.std.proofs.lemmas.Result.{err_from_is_err_and}
use Rattle.month_days.proofs.Refusing.{refused_term, year_from_ok}
use Rattle.month_days.proofs.table.split_year.Goals as goal

pub returns-in_err-days : goal.returns-in_err-days
returns-in_err-days c =
    let year = year_from_ok c.in_ok-year.year.year c.args.question.year c.in_ok-year.ensures in
    let left = err_from_is_err_and c.from_residual-in_err-days.result c.from_residual-in_err-days.ensures.1 in
    rw (left.1, left.2, ← year) (refused_term c.in_ok-year.year.year c.args.question.first c.args.question.last c.loop-month.month _ c.loop-month-test.true c.in_err-days.ensures.told)

pub loop-month-preserved : goal.loop-month-preserved
loop-month-preserved c =
    let within : c.loop-month.month < length c.loop-month.days-items = omega arith in (
      simp length-set c.loop-month.invariant.0,
      below_more _ _
          (λ k h. let ne : k ≢ c.loop-month.month = omega arith in rw get_or-set_other (c.loop-month.invariant.1 k h))
          (rw get_or-set_same c.in_ok-days.ensures.told),
    )
