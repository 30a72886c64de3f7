use Rattle.std.proofs.Common.{◌≡◌, is_ok, Result, sym, refl, ap, ◌∙◌, arith}
use Rattle.refusal.specs.declared.refusal.Refusal.{Refusal}
use Rattle.year_model.specs.Calls.{call_issue}
use Rattle.year_model.specs.State.{State, view, with_contract}
use Rattle.year_model.proofs.Drafts.{out_from_draft}
use Rattle.year_model.proofs.SoundFact.{sound_from_fact}
use Rattle.tariff_year.specs.declared.bills.MeteredCents.{MeteredCents}
use Rattle.tariff_year.specs.Lines.{metered_cents}
use Rattle.tariff_year.specs.Years.{makings}
use Rattle.tariff_year.proofs.DraftSpent.{draft_issued, issue_countable, others_stay}
use Rattle.tariff_year.proofs.Holding.{billable, held_of, lines_payable, meterable_draft, month_of_draft}
use Rattle.tariff_year.proofs.Making.{kept_by, lawful}
use Rattle.tariff_year.proofs.year.TariffYear.issue.Goals as goal

pub metered_lines-requires : goal.metered_lines-requires
metered_lines-requires g c =
    let old = c.args.self.now in
    let s = view old.tables in
    let draft = c.args.draft in
    let k = c.in-Some.found in
    let d = c.in-Some.started in
    let m = makings g.E.Edition g.R.SharingRule old.basis in
    let out = out_from_draft m s draft.numbers.book draft.numbers.contract draft.numbers.month (k, d) (sym c.in-Some.ensures) in
    let sound = sound_from_fact s old.sound in
    let held = held_of s sound draft.numbers.contract k out.entry in
    meterable_draft s sound k held d out.started

pub unwrap-lines-requires : goal.unwrap-lines-requires
unwrap-lines-requires g c =
    let old = c.args.self.now in
    let s = view old.tables in
    let draft = c.args.draft in
    let k = c.in-Some.found in
    let d = c.in-Some.started in
    let m = makings g.E.Edition g.R.SharingRule old.basis in
    let out = out_from_draft m s draft.numbers.book draft.numbers.contract draft.numbers.month (k, d) (sym c.in-Some.ensures) in
    let sound = sound_from_fact s old.sound in
    let held = held_of s sound draft.numbers.contract k out.entry in
    ap (λ (r : Result MeteredCents Refusal). is_ok r) (c.metered_lines.ensures ∙ lines_payable s sound k held d out.started)

pub month_cents-cents-requires : goal.month_cents-cents-requires
month_cents-cents-requires g c =
    let old = c.args.self.now in
    let s = view old.tables in
    let draft = c.args.draft in
    let k = c.in-Some.found in
    let d = c.in-Some.started in
    let m = makings g.E.Edition g.R.SharingRule old.basis in
    let out = out_from_draft m s draft.numbers.book draft.numbers.contract draft.numbers.month (k, d) (sym c.in-Some.ensures) in
    let sound = sound_from_fact s old.sound in
    let held = held_of s sound draft.numbers.contract k out.entry in
    let month = month_of_draft s k held d out.started in
    billable old.basis.calendar.year s sound old.dated draft.numbers.contract k out.entry draft.numbers.month (omega (arith, out.of_month)) (omega (arith, out.of_month))

pub contract_mut-requires : goal.contract_mut-requires
contract_mut-requires g c =
    let old = c.args.self.now in
    let s = view old.tables in
    let draft = c.args.draft in
    let k = c.in-Some.found in
    let d = c.in-Some.started in
    let m = makings g.E.Edition g.R.SharingRule old.basis in
    let out = out_from_draft m s draft.numbers.book draft.numbers.contract draft.numbers.month (k, d) (sym c.in-Some.ensures) in
    (out.entry.low, omega (arith, out.entry.high, old.tables.contracts.ok.0))

pub bill_month-requires : goal.bill_month-requires
bill_month-requires g c =
    let old = c.args.self.now in
    let s = view old.tables in
    let draft = c.args.draft in
    let k = c.in-Some.found in
    let d = c.in-Some.started in
    let m = makings g.E.Edition g.R.SharingRule old.basis in
    let out = out_from_draft m s draft.numbers.book draft.numbers.contract draft.numbers.month (k, d) (sym c.in-Some.ensures) in
    let sound = sound_from_fact s old.sound in
    let held = held_of s sound draft.numbers.contract k out.entry in
    let payable = lines_payable s sound k held d out.started in
    let told = c.metered_lines.ensures in
    let lines : c.unwrap-lines.result ≡ metered_cents s k d.kwmax d.reading = cc in
    let place = c.contract_mut.result.now in
    let same : place ≡ k = c.contract_mut.ensures.value ∙ out.entry.here place in
    let law = lawful g.E.Edition g.R.SharingRule old.basis g.met.R.SharingRule.twelve (g.met.R.SharingRule.sharing old.basis.rule) (g.met.E.Edition.hundred old.basis.edition) in
    issue_countable m s draft.numbers.book draft.numbers.contract draft.numbers.month k d (sym c.in-Some.ensures) place same c.unwrap-lines.result c.month_cents-cents.result lines c.month_cents-cents.ensures law sound

pub invariant_of-self : goal.invariant_of-self
invariant_of-self g c =
    let old = c.args.self.now in
    let s = view old.tables in
    let draft = c.args.draft in
    let k = c.in-Some.found in
    let d = c.in-Some.started in
    let m = makings g.E.Edition g.R.SharingRule old.basis in
    let out = out_from_draft m s draft.numbers.book draft.numbers.contract draft.numbers.month (k, d) (sym c.in-Some.ensures) in
    let sound = sound_from_fact s old.sound in
    let held = held_of s sound draft.numbers.contract k out.entry in
    let payable = lines_payable s sound k held d out.started in
    let told = c.metered_lines.ensures in
    let lines : c.unwrap-lines.result ≡ metered_cents s k d.kwmax d.reading = cc in
    let place = c.contract_mut.result.now in
    let same : place ≡ k = c.contract_mut.ensures.value ∙ out.entry.here place in
    let did = draft_issued m s draft.numbers.book draft.numbers.contract draft.numbers.month k d (sym c.in-Some.ensures) place same c.unwrap-lines.result c.month_cents-cents.result lines c.month_cents-cents.ensures c.bill_month.new.contract c.bill_month.ensures in
    let law = lawful g.E.Edition g.R.SharingRule old.basis g.met.R.SharingRule.twelve (g.met.R.SharingRule.sharing old.basis.rule) (g.met.E.Edition.hundred old.basis.edition) in
    let later : State = with_contract s draft.numbers.contract c.bill_month.new.contract in
    let kept = kept_by m law (call_issue draft.numbers.book draft.numbers.contract draft.numbers.month) s later did.state old.sound old.dated old.priced old.known in
    record { roomy = old.roomy; sound = kept.0; dated = kept.1; priced = kept.2; known = kept.3 }

pub returns : goal.returns
returns g c =
    let old = c.args.self.now in
    let s = view old.tables in
    let draft = c.args.draft in
    let k = c.in-Some.found in
    let d = c.in-Some.started in
    let m = makings g.E.Edition g.R.SharingRule old.basis in
    let out = out_from_draft m s draft.numbers.book draft.numbers.contract draft.numbers.month (k, d) (sym c.in-Some.ensures) in
    let sound = sound_from_fact s old.sound in
    let held = held_of s sound draft.numbers.contract k out.entry in
    let payable = lines_payable s sound k held d out.started in
    let told = c.metered_lines.ensures in
    let lines : c.unwrap-lines.result ≡ metered_cents s k d.kwmax d.reading = cc in
    let place = c.contract_mut.result.now in
    let same : place ≡ k = c.contract_mut.ensures.value ∙ out.entry.here place in
    let did = draft_issued m s draft.numbers.book draft.numbers.contract draft.numbers.month k d (sym c.in-Some.ensures) place same c.unwrap-lines.result c.month_cents-cents.result lines c.month_cents-cents.ensures c.bill_month.new.contract c.bill_month.ensures in
    record { called = record { did = did; kept = refl }; back = tt; accepts = λ _. refl; own = others_stay s draft.numbers.contract c.bill_month.new.contract out.entry.low }
