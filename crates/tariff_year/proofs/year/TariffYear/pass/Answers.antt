use Rattle.std.proofs.Common.{Err, ap, ◌∙◌}
use Rattle.std.proofs.lemmas.Result.{err_from_is_err_and}
use Rattle.refusal.specs.declared.refusal.Refusal.{Refusal}
use Rattle.year_model.specs.State.{view}
use Rattle.year_model.proofs.SoundFact.{sound_from_fact}
use Rattle.tariff_year.specs.Replies.{told_passed}
use Rattle.tariff_year.specs.Years.{makings}
use Rattle.tariff_year.proofs.Entries.{here_from_slice}
use Rattle.tariff_year.proofs.Emptying.{did_refuse}
use Rattle.tariff_year.proofs.year.TariffYear.pass.Goals as goal

pub returns-in_err-emptied : goal.returns-in_err-emptied
returns-in_err-emptied g c =
    let old = c.args.self.now in
    let m = makings g.E.Edition g.R.SharingRule old.basis in
    let s = view old.tables in
    let t = view c.empty.new.self.tables in
    let n = c.args.system in
    let refusal : Refusal = c.in_err-emptied.field-0.0 in
    let exit = err_from_is_err_and c.from_residual-in_err-emptied.result c.from_residual-in_err-emptied.ensures.1 in
    let did = did_refuse m s t (sound_from_fact s old.sound) n c.in_ok-old.old (here_from_slice _ _ n c.in_ok-old.old c.deref.ensures.value c.in_ok-old.ensures.there) c.in_ok-old.ensures.not_fixed refusal c.in_err-emptied.ensures.told c.empty.ensures.state in
    record {
      did = record { answered = ap told_passed (exit.1 ∙ ap (λ (r : Refusal). Err r) exit.2) ∙ did.answered; state = did.state };
      kept = c.empty.ensures.kept;
    }
