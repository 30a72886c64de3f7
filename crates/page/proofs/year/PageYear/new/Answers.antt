use Rattle.year_model.specs.State.{view}
use Rattle.page.specs.Reached.{page_makings}
use Rattle.page.proofs.Reaching.{reached_new}
use Rattle.page.proofs.year.PageYear.new.Goals as goal

pub invariant_of-result : goal.invariant_of-result
invariant_of-result c =
    let year = c.in_ok-year.year in
    let is = c.in_ok-year.ensures in
    (is.1.3, reached_new (page_makings year.basis.calendar.year) (view year.tables) is.0)
