use Rattle.std.proofs.Common.{◌≡◌, Some, Err, vec_items, refl, ap, ◌∙◌, arith}
use Rattle.std.proofs.lemmas.Result.{err_from_is_err_and}
use Rattle.refusal.specs.declared.refusal.Refusal.{Refusal}
use Rattle.year_model.specs.Bills.{with_draft}
use Rattle.year_model.specs.Calls.{call_start}
use Rattle.year_model.specs.State.{State, view, with_contract}
use Rattle.year_model.proofs.Lookups.{entry_from_numbered}
use Rattle.year_model.proofs.SoundFact.{sound_from_fact}
use Rattle.tariff_year.specs.Told.{told_draft}
use Rattle.tariff_year.specs.Years.{makings}
use Rattle.tariff_year.proofs.DraftStarted.{Startable, draft_ready, draft_started, start_refused}
use Rattle.tariff_year.proofs.Entries.{here_from_slice}
use Rattle.tariff_year.proofs.Holding.{held_of, meterable}
use Rattle.tariff_year.proofs.Making.{kept_by, lawful}
use Rattle.tariff_year.proofs.Ways.{none_from_test}
use Rattle.tariff_year.proofs.year.TariffYear.start.Goals as goal

pub metered_lines-requires : goal.metered_lines-requires
metered_lines-requires g c =
    let s = view c.args.self.now.tables in
    let sound = sound_from_fact s c.args.self.now.sound in
    let k = c.in_ok-found.found in
    let held = held_of s sound c.args.contract k (entry_from_numbered s.contracts c.args.contract k (here_from_slice _ _ c.args.contract c.in_ok-found.found c.deref.ensures.value c.in_ok-found.ensures.there)) in
    meterable s sound k held c.args.kwmax c.args.reading c.in_ok-bound-2.ensures.within c.if-reading-found.false c.in_ok-bound-3.ensures.within

pub contract_mut-requires : goal.contract_mut-requires
contract_mut-requires g c =
    let tables = c.args.self.now.tables in
    let there = entry_from_numbered (vec_items tables.contracts) c.args.contract c.in_ok-found.found (here_from_slice _ _ c.args.contract c.in_ok-found.found c.deref.ensures.value c.in_ok-found.ensures.there) in
    (there.low, omega (arith, there.high, tables.contracts.ok.0))

pub returns-in_err-metered_lines : goal.returns-in_err-metered_lines
returns-in_err-metered_lines g c =
    let old = c.args.self.now in
    let s = view old.tables in
    let k = c.in_ok-found.found in
    let m = makings g.E.Edition g.R.SharingRule old.basis in
    let ok : Startable s c.args.contract c.args.kwmax c.args.reading k = record {
      number = c.in_ok-bound.ensures.within;
      kwmax_fits = c.in_ok-bound-2.ensures.within;
      reads = c.in_ok-bound-3.ensures.within;
      found = here_from_slice _ _ c.args.contract k c.deref.ensures.value c.in_ok-found.ensures.there;
      none_out = none_from_test k.started c.if-is_some.ensures;
      left = omega (arith, c.if-found-month_of.false, c.month_of.ensures);
      rises = c.if-reading-found.false;
    } in
    let p = err_from_is_err_and c.from_residual-in_err-metered_lines.result c.from_residual-in_err-metered_lines.ensures.1 in
    let e = c.in_err-metered_lines.field-0.0 in
    let is : told_draft c.from_residual-in_err-metered_lines.result ≡ Err e = ap told_draft p.1 ∙ ap (λ (r : Refusal). Err r) p.2 in
    record {
      called = record { did = start_refused m s c.args.contract c.args.kwmax c.args.reading k ok e c.in_err-metered_lines.ensures (told_draft c.from_residual-in_err-metered_lines.result) is; kept = refl };
      ready = rw p.1 tt;
    }

pub invariant_of-self : goal.invariant_of-self
invariant_of-self g c =
    let old = c.args.self.now in
    let s = view old.tables in
    let k = c.in_ok-found.found in
    let m = makings g.E.Edition g.R.SharingRule old.basis in
    let ok : Startable s c.args.contract c.args.kwmax c.args.reading k = record {
      number = c.in_ok-bound.ensures.within;
      kwmax_fits = c.in_ok-bound-2.ensures.within;
      reads = c.in_ok-bound-3.ensures.within;
      found = here_from_slice _ _ c.args.contract k c.deref.ensures.value c.in_ok-found.ensures.there;
      none_out = none_from_test k.started c.if-is_some.ensures;
      left = omega (arith, c.if-found-month_of.false, c.month_of.ensures);
      rises = c.if-reading-found.false;
    } in
    let place = c.contract_mut.result.now in
    let at = entry_from_numbered s.contracts c.args.contract k ok.found in
    let same : place ≡ k = c.contract_mut.ensures.value ∙ at.here place in
    let did = draft_started m s c.args.contract c.args.kwmax c.args.reading k ok place same c.in_ok-metered_lines.field-0 c.in_ok-metered_lines.ensures in
    let law = lawful g.E.Edition g.R.SharingRule old.basis g.met.R.SharingRule.twelve (g.met.R.SharingRule.sharing old.basis.rule) (g.met.E.Edition.hundred old.basis.edition) in
    let later : State = with_contract s c.args.contract (with_draft place (Some record { kwmax = c.args.kwmax; reading = c.args.reading })) in
    let kept = kept_by m law (call_start c.args.contract c.args.kwmax c.args.reading) s later did.state old.sound old.dated old.priced old.known in
    record { roomy = old.roomy; sound = kept.0; dated = kept.1; priced = kept.2; known = kept.3 }

pub returns : goal.returns
returns g c =
    let old = c.args.self.now in
    let s = view old.tables in
    let k = c.in_ok-found.found in
    let m = makings g.E.Edition g.R.SharingRule old.basis in
    let ok : Startable s c.args.contract c.args.kwmax c.args.reading k = record {
      number = c.in_ok-bound.ensures.within;
      kwmax_fits = c.in_ok-bound-2.ensures.within;
      reads = c.in_ok-bound-3.ensures.within;
      found = here_from_slice _ _ c.args.contract k c.deref.ensures.value c.in_ok-found.ensures.there;
      none_out = none_from_test k.started c.if-is_some.ensures;
      left = omega (arith, c.if-found-month_of.false, c.month_of.ensures);
      rises = c.if-reading-found.false;
    } in
    let place = c.contract_mut.result.now in
    let at = entry_from_numbered s.contracts c.args.contract k ok.found in
    let same : place ≡ k = c.contract_mut.ensures.value ∙ at.here place in
    let did = draft_started m s c.args.contract c.args.kwmax c.args.reading k ok place same c.in_ok-metered_lines.field-0 c.in_ok-metered_lines.ensures in
    record { called = record { did = did; kept = refl }; ready = draft_ready m s c.args.contract c.args.kwmax c.args.reading k ok place same }
