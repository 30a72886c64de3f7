use Rattle.std.proofs.Common.{◌≡◌, Err, sym, refl, ap, ◌∙◌, arith, rules}
use Rattle.std.proofs.lemmas.Result.{err_from_is_err_and}
use Rattle.refusal.specs.declared.ground.Ground.TheVariants.{ChargeTooHigh}
use Rattle.refusal.specs.declared.refusal.Refusal.{Refusal}
use Rattle.refusal.specs.Refusals.{refuse}
use Rattle.year_model.specs.Bills.{tariff_at}
use Rattle.year_model.specs.Calls.{call_contract}
use Rattle.year_model.specs.State.{view}
use Rattle.year_model.specs.declared.tables.Tables.{Tables}
use Rattle.year_model.proofs.SoundFact.{sound_from_fact}
use Rattle.tariff_year.specs.Years.{makings, told_number}
use Rattle.tariff_year.proofs.ContractMade.{Asked, charge_refused, contract_made}
use Rattle.tariff_year.proofs.Entries.{here_from_slice}
use Rattle.tariff_year.proofs.Holding.{charge_told, charge_too_high, fixed_tariff_small}
use Rattle.tariff_year.proofs.Making.{kept_by, lawful}
use Rattle.tariff_year.proofs.year.TariffYear.contract.Goals as goal

pub returns-in_err-yearly : goal.returns-in_err-yearly
returns-in_err-yearly g c =
    let old = c.args.self.now in
    let s = view old.tables in
    let x = c.in_ok-supplier.supplier in
    let f = c.in_ok-fixing.fixing in
    let m = makings g.E.Edition g.R.SharingRule old.basis in
    let ok : Asked m s c.args.system c.args.kw c.args.fee c.args.first c.args.last c.args.reading x f = record {
      number = c.in_ok-bound.ensures.within;
      kw_fits = c.in_ok-bound-2.ensures.within;
      fee_fits = c.in_ok-bound-3.ensures.within;
      begins = sym c.if-not-is_day.ensures.told;
      ends = sym c.if-not-is_day-2.ensures.told;
      ordered = c.if-last-first.false;
      reads = c.in_ok-bound-4.ensures.within;
      found = here_from_slice _ _ c.args.system x c.deref.ensures.value c.in_ok-supplier.ensures.there;
      room = omega (arith, c.len-count.ensures, old.tables.contracts.ok.0);
      fixed = search rules;
    } in
    let small = fixed_tariff_small s (sound_from_fact s old.sound) c.args.system x f ok.found ok.fixed in
    let refused = charge_too_high c.args.fee c.args.kw (tariff_at f 1) (tariff_at f 4) ok.fee_fits ok.kw_fits (small 1) (small 4) c.in_err-yearly.field-0.0 c.in_err-yearly.ensures in
    let p = err_from_is_err_and c.from_residual-in_err-yearly.result c.from_residual-in_err-yearly.ensures.1 in
    let is : told_number c.from_residual-in_err-yearly.result ≡ Err (refuse ChargeTooHigh 0) = ap told_number p.1 ∙ ap (λ (e : Refusal). Err e) (p.2 ∙ refused.1) in
    record {
      did = charge_refused m s c.args.system c.args.kw c.args.fee c.args.first c.args.last c.args.reading x f ok refused.0 (told_number c.from_residual-in_err-yearly.result) is;
      kept = refl;
    }

pub invariant_of-self : goal.invariant_of-self
invariant_of-self g c =
    let old = c.args.self.now in
    let s = view old.tables in
    let x = c.in_ok-supplier.supplier in
    let f = c.in_ok-fixing.fixing in
    let m = makings g.E.Edition g.R.SharingRule old.basis in
    let ok : Asked m s c.args.system c.args.kw c.args.fee c.args.first c.args.last c.args.reading x f = record {
      number = c.in_ok-bound.ensures.within;
      kw_fits = c.in_ok-bound-2.ensures.within;
      fee_fits = c.in_ok-bound-3.ensures.within;
      begins = sym c.if-not-is_day.ensures.told;
      ends = sym c.if-not-is_day-2.ensures.told;
      ordered = c.if-last-first.false;
      reads = c.in_ok-bound-4.ensures.within;
      found = here_from_slice _ _ c.args.system x c.deref.ensures.value c.in_ok-supplier.ensures.there;
      room = omega (arith, c.len-count.ensures, old.tables.contracts.ok.0);
      fixed = search rules;
    } in
    let small = fixed_tariff_small s (sound_from_fact s old.sound) c.args.system x f ok.found ok.fixed in
    let new : Tables = record { systems = old.tables.systems; couplings = old.tables.couplings; contracts = c.push_reserved.new.self; net = old.tables.net } in
    let told = charge_told c.args.fee c.args.kw (tariff_at f 1) (tariff_at f 4) ok.fee_fits ok.kw_fits (small 1) (small 4) c.in_ok-yearly.yearly c.in_ok-yearly.ensures in
    let did = contract_made m s c.args.system c.args.kw c.args.fee c.args.first c.args.last c.args.reading x f ok c.in_ok-yearly.yearly c.len-count.result told.0 told.1 (c.len-count.ensures ∙ old.tables.contracts.ok.0) (view new) (search rules) in
    let law = lawful g.E.Edition g.R.SharingRule old.basis g.met.R.SharingRule.twelve (g.met.R.SharingRule.sharing old.basis.rule) (g.met.E.Edition.hundred old.basis.edition) in
    let kept = kept_by m law (call_contract c.args.system c.args.kw c.args.fee c.args.first c.args.last c.args.reading) s (view new) did.state old.sound old.dated old.priced old.known in
    record { roomy = search rules; sound = kept.0; dated = kept.1; priced = kept.2; known = kept.3 }

pub returns : goal.returns
returns g c =
    let old = c.args.self.now in
    let s = view old.tables in
    let x = c.in_ok-supplier.supplier in
    let f = c.in_ok-fixing.fixing in
    let m = makings g.E.Edition g.R.SharingRule old.basis in
    let ok : Asked m s c.args.system c.args.kw c.args.fee c.args.first c.args.last c.args.reading x f = record {
      number = c.in_ok-bound.ensures.within;
      kw_fits = c.in_ok-bound-2.ensures.within;
      fee_fits = c.in_ok-bound-3.ensures.within;
      begins = sym c.if-not-is_day.ensures.told;
      ends = sym c.if-not-is_day-2.ensures.told;
      ordered = c.if-last-first.false;
      reads = c.in_ok-bound-4.ensures.within;
      found = here_from_slice _ _ c.args.system x c.deref.ensures.value c.in_ok-supplier.ensures.there;
      room = omega (arith, c.len-count.ensures, old.tables.contracts.ok.0);
      fixed = search rules;
    } in
    let small = fixed_tariff_small s (sound_from_fact s old.sound) c.args.system x f ok.found ok.fixed in
    let new : Tables = record { systems = old.tables.systems; couplings = old.tables.couplings; contracts = c.push_reserved.new.self; net = old.tables.net } in
    let told = charge_told c.args.fee c.args.kw (tariff_at f 1) (tariff_at f 4) ok.fee_fits ok.kw_fits (small 1) (small 4) c.in_ok-yearly.yearly c.in_ok-yearly.ensures in
    let did = contract_made m s c.args.system c.args.kw c.args.fee c.args.first c.args.last c.args.reading x f ok c.in_ok-yearly.yearly c.len-count.result told.0 told.1 (c.len-count.ensures ∙ old.tables.contracts.ok.0) (view new) (search rules) in
    record { did = did; kept = refl }
