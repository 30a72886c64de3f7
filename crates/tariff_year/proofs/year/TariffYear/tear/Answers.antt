use Rattle.std.proofs.Common.{◌≡◌, None, sym, refl, ◌∙◌, arith}
use Rattle.year_model.specs.Bills.{with_draft}
use Rattle.year_model.specs.Calls.{call_tear}
use Rattle.year_model.specs.State.{State, view, with_contract}
use Rattle.year_model.proofs.Drafts.{out_from_draft}
use Rattle.tariff_year.specs.Years.{makings}
use Rattle.tariff_year.proofs.DraftSpent.{draft_torn}
use Rattle.tariff_year.proofs.Making.{kept_by, lawful}
use Rattle.tariff_year.proofs.year.TariffYear.tear.Goals as goal

pub contract_mut-requires : goal.contract_mut-requires
contract_mut-requires g c =
    let old = c.args.self.now in
    let s = view old.tables in
    let draft = c.args.draft in
    let k = c.in-Some.field-0.0 in
    let d = c.in-Some.field-0.1 in
    let m = makings g.E.Edition g.R.SharingRule old.basis in
    let out = out_from_draft m s draft.numbers.book draft.numbers.contract draft.numbers.month (k, d) (sym c.in-Some.ensures) in
    (out.entry.low, omega (arith, out.entry.high, old.tables.contracts.ok.0))

pub invariant_of-self : goal.invariant_of-self
invariant_of-self g c =
    let old = c.args.self.now in
    let s = view old.tables in
    let draft = c.args.draft in
    let k = c.in-Some.field-0.0 in
    let d = c.in-Some.field-0.1 in
    let m = makings g.E.Edition g.R.SharingRule old.basis in
    let out = out_from_draft m s draft.numbers.book draft.numbers.contract draft.numbers.month (k, d) (sym c.in-Some.ensures) in
    let place = c.contract_mut.result.now in
    let same : place ≡ k = c.contract_mut.ensures.value ∙ out.entry.here place in
    let did = draft_torn m s draft.numbers.book draft.numbers.contract draft.numbers.month k d (sym c.in-Some.ensures) place same in
    let law = lawful g.E.Edition g.R.SharingRule old.basis g.met.R.SharingRule.twelve (g.met.R.SharingRule.sharing old.basis.rule) (g.met.E.Edition.hundred old.basis.edition) in
    let later : State = with_contract s draft.numbers.contract (with_draft place None) in
    let kept = kept_by m law (call_tear draft.numbers.book draft.numbers.contract draft.numbers.month) s later did.state old.sound old.dated old.priced old.known in
    record { roomy = old.roomy; sound = kept.0; dated = kept.1; priced = kept.2; known = kept.3 }

pub returns : goal.returns
returns g c =
    let old = c.args.self.now in
    let s = view old.tables in
    let draft = c.args.draft in
    let k = c.in-Some.field-0.0 in
    let d = c.in-Some.field-0.1 in
    let m = makings g.E.Edition g.R.SharingRule old.basis in
    let out = out_from_draft m s draft.numbers.book draft.numbers.contract draft.numbers.month (k, d) (sym c.in-Some.ensures) in
    let place = c.contract_mut.result.now in
    let same : place ≡ k = c.contract_mut.ensures.value ∙ out.entry.here place in
    let did = draft_torn m s draft.numbers.book draft.numbers.contract draft.numbers.month k d (sym c.in-Some.ensures) place same in
    record { called = record { did = did; kept = refl }; back = tt; accepts = λ _. refl }
