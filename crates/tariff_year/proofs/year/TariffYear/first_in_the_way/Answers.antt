use Rattle.std.proofs.Common.{ℕ, List, ap, ◌∙◌}
use Rattle.year_model.specs.declared.tables.Coupling.{Coupling}
use Rattle.year_model.specs.declared.tables.System.{System}
use Rattle.year_model.specs.State.{view}
use Rattle.tariff_year.specs.Obstacles.{first_way}
use Rattle.tariff_year.specs.Years.{makings}
use Rattle.tariff_year.proofs.FirstWay.{found_first}
use Rattle.tariff_year.proofs.year.TariffYear.first_in_the_way.Goals as goal

pub returns : goal.returns
returns g c =
    let old = c.args.self.now in
    let m = makings g.E.Edition g.R.SharingRule old.basis in
    let s = view old.tables in
    let xs = c.deref.result.now in
    let cs = c.deref-2.result.now in
    c.first_obstacle.ensures
    ∙ ap (λ (k : ℕ). first_way k cs 1 xs) c.LONGEST.ensures
    ∙ ap (λ (ds : List Coupling). first_way g.R.SharingRule.LONGEST ds 1 xs) c.deref-2.ensures.value
    ∙ ap (λ (ys : List System). first_way g.R.SharingRule.LONGEST s.couplings 1 ys) c.deref.ensures.value
    ∙ found_first m s
