use Rattle.std.proofs.Common.{ℕ, Ok, sym, ap}
use Rattle.refusal.specs.declared.refusal.Refusal.{Refusal}
use Rattle.year_model.specs.State.{view}
use Rattle.year_model.proofs.SoundFact.{sound_from_fact}
use Rattle.tariff_year.specs.Replies.{emptied_by}
use Rattle.tariff_year.specs.Years.{makings}
use Rattle.tariff_year.proofs.Entries.{here_from_slice}
use Rattle.tariff_year.proofs.OneTurn.{never_refused, turn_lands, turn_leads}
use Rattle.tariff_year.proofs.year.TariffYear.settle_system.Goals as goal

pub returns-in_err-emptied : goal.returns-in_err-emptied
returns-in_err-emptied g c =
    let old = c.args.self.now in
    let m = makings g.E.Edition g.R.SharingRule old.basis in
    let s = view old.tables in
    let n = c.args.number in
    let x = c.in-Some.system in
    let refusal : Refusal = c.in_err-emptied.field-0.0 in
    absurd (never_refused m s c.requires n x (here_from_slice _ _ n x c.deref.ensures.value (sym c.in-Some.ensures)) (sym c.if-is_some.ensures) refusal (emptied_by m s n x) c.in_err-emptied.ensures.told)

pub returns : goal.returns
returns g c =
    let old = c.args.self.now in
    let m = makings g.E.Edition g.R.SharingRule old.basis in
    let s = view old.tables in
    let n = c.args.number in
    let x = c.in-Some.system in
    let there = here_from_slice _ _ n x c.deref.ensures.value (sym c.in-Some.ensures) in
    let unfixed = sym c.if-is_some.ensures in
    record {
      told = ap (λ (k : ℕ). Ok k) (turn_lands m s c.args.level n x c.in_ok-emptied.emptied there unfixed c.if-system-level.false c.in_ok-emptied.ensures.told);
      small = c.in_ok-emptied.ensures.small;
      state = turn_leads m s (view c.empty.new.self.tables) (sound_from_fact s old.sound) c.args.level n x there unfixed c.if-system-level.false c.empty.ensures.state;
      kept = c.empty.ensures.kept;
    }
