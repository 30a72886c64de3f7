use Rattle.std.proofs.Common.{subst}
use Rattle.page.specs.Reached.{LedTo, Reached, YearAt, page_makings}
use Rattle.page.proofs.Reaching.{lawful_page}
use Rattle.page.proofs.year.PageYear.is_reached_by_calls.Goals as goal

pub returns-clause-reached : goal.returns-clause-reached
returns-clause-reached c = subst (λ (year : YearAt). Reached (page_makings year.calendar) year.state) c.self.view_is c.self.invariant.1

pub returns-clause-led_to : goal.returns-clause-led_to
returns-clause-led_to c =
    let year = c.self.inside.year in
    let calendar = year.basis.calendar in
    subst (λ (at : YearAt). LedTo at.calendar at.state) c.self.view_is
    (record { lawful = lawful_page calendar.year calendar.from calendar.to; reached = c.self.invariant.1; sound = year.sound; dated = year.dated; priced = year.priced; known = year.known })
