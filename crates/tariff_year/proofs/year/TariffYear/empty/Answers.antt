use Rattle.std.proofs.Common.{◌-◌, ◌<◌, ◌≤◌, List, length, get_or, is_err, Err, vec_items, sym, refl, ap, ◌∙◌, arith, rules}
use Rattle.std.specs.Vec.{with_items, with_item}
use Rattle.std.proofs.lemmas.Result.{err_from_is_err_and, IfOk-from_err}
use Rattle.refusal.specs.declared.refusal.Refusal.{Refusal}
use Rattle.year_model.specs.declared.tables.Coupling.{Coupling}
use Rattle.year_model.specs.declared.tables.System.{System}
use Rattle.year_model.specs.Calls.{call_pass, state_of}
use Rattle.year_model.specs.Passes.{emptied, in_the_way}
use Rattle.year_model.specs.Sound.{no_coupling}
use Rattle.year_model.specs.State.{State, view, with_systems}
use Rattle.year_model.specs.Systems.{below_count}
use Rattle.year_model.proofs.Lookups.{entry_from_numbered}
use Rattle.year_model.proofs.SoundFact.{sound_from_fact}
use Rattle.tariff_year.specs.Replies.{emptied_by, pass_of}
use Rattle.tariff_year.specs.Takings.{blank_system}
use Rattle.tariff_year.specs.Years.{makings}
use Rattle.tariff_year.proofs.Emptying.{emptied_told, landed_bounded, passed_found, received_small, standing_emptied, refused_told, state_refilled, state_refused}
use Rattle.tariff_year.proofs.Making.{kept_by, lawful}
use Rattle.tariff_year.proofs.year.TariffYear.empty.Goals as goal

pub overflow_add-system : goal.overflow_add-system
overflow_add-system g c =
    let s = view c.args.self.now.tables in
    let at = entry_from_numbered s.systems c.args.number c.args.system c.requires.found in
    let bound = landed_bounded s (sound_from_fact s c.args.self.now.sound) c.args.number c.args.system at in
    omega (arith, received_small c.in_ok-pass.pass.received 0, c.in_ok-pass.ensures.nothing_is_lost)

pub index_mut-requires : goal.index_mut-requires
index_mut-requires g c =
    let tables = c.args.self.now.tables in
    let there = entry_from_numbered (vec_items tables.systems) c.args.number c.args.system c.requires.found in
    omega (arith, there.low, there.high, tables.systems.ok.0)

pub hand_down-requires : goal.hand_down-requires
hand_down-requires g c =
    let tables = c.args.self.now.tables in
    let s = view tables in
    let n = c.args.number in
    let x = c.args.system in
    let received = c.in_ok-pass.pass.received in
    let sound = sound_from_fact s c.args.self.now.sound in
    let at = entry_from_numbered s.systems n x c.requires.found in
    let inside : n - 1 < length s.systems = omega (arith, at.low, at.high) in
    let bound = landed_bounded s sound n x at in
    let couplings = c.deref.ensures.value in
    let systems = c.deref_mut.ensures.value in
    let long = c.deref_mut.ensures.len in
    record {
      lead = λ k h.
          let same = ap (λ (cs : List Coupling). (get_or cs k no_coupling).lower) couplings in
          let joined = (sound.joined k (omega (arith, ap (λ (cs : List Coupling). length cs) couplings))).1 in
          (omega arith, omega (arith, tables.systems.ok.0));
      few = omega (arith, ap (λ (cs : List Coupling). below_count cs n) couplings, sound.tables.2 n);
      standing = λ k.
          let same = ap (λ (xs : List System). (get_or xs k blank_system).standing) systems in
          omega (arith, standing_emptied s sound (n - 1) (emptied x (get_or received 0 0)) inside refl k);
      received = λ k. omega (arith, received_small received k, c.in_ok-pass.ensures.nothing_is_lost);
    }

pub invariant_of-self : goal.invariant_of-self
invariant_of-self g c =
    let old = c.args.self.now in
    let m = makings g.E.Edition g.R.SharingRule old.basis in
    let law = lawful g.E.Edition g.R.SharingRule old.basis g.met.R.SharingRule.twelve (g.met.R.SharingRule.sharing old.basis.rule) (g.met.E.Edition.hundred old.basis.edition) in
    let s = view old.tables in
    let n = c.args.number in
    let x = c.args.system in
    let pass = c.in_ok-pass.pass in
    let v = with_item old.tables.systems (n - 1) (emptied x (get_or pass.received 0 0)) in
    let ws = c.hand_down.new.systems in
    let later : State = with_systems s (with_items v ws).items in
    let is = state_refilled m s n x pass v c.deref.result.now c.deref_mut.result.now ws c.in_ok-pass.ensures.pinned c.deref.ensures.value c.deref_mut.ensures.value c.deref_mut.ensures.len c.hand_down.auto.systems c.hand_down.ensures in
    let led = is ∙ ap (state_of s) (sym (passed_found m s (sound_from_fact s old.sound) n x c.requires.found c.requires.unfixed)) in
    let kept = kept_by m law (call_pass n) s later led old.sound old.dated old.priced old.known in
    record { roomy = search rules; sound = kept.0; dated = kept.1; priced = kept.2; known = kept.3 }

pub returns-in_err-pass : goal.returns-in_err-pass
returns-in_err-pass g c =
    let old = c.args.self.now in
    let m = makings g.E.Edition g.R.SharingRule old.basis in
    let s = view old.tables in
    let n = c.args.number in
    let x = c.args.system in
    let refusal : Refusal = c.in_err-pass.field-0.0 in
    let told = c.in_err-pass.ensures.pinned in
    let exit = err_from_is_err_and c.from_residual.result c.from_residual.ensures.1 in
    record {
      told = exit.1 ∙ ap (λ (r : Refusal). Err r) exit.2 ∙ refused_told (in_the_way m s n x) refusal (pass_of m s n x) (emptied_by m s n x) told;
      small = IfOk-from_err c.from_residual.result (λ e. e.landed ≤ 5_000_000_000) (ap is_err exit.1);
      state = state_refused m s n x refusal told;
      kept = refl;
    }

pub returns : goal.returns
returns g c =
    let old = c.args.self.now in
    let m = makings g.E.Edition g.R.SharingRule old.basis in
    let s = view old.tables in
    let n = c.args.number in
    let x = c.args.system in
    let pass = c.in_ok-pass.pass in
    let v = with_item old.tables.systems (n - 1) (emptied x (get_or pass.received 0 0)) in
    let ws = c.hand_down.new.systems in
    let at = entry_from_numbered s.systems n x c.requires.found in
    let bound = landed_bounded s (sound_from_fact s old.sound) n x at in
    record {
      told = emptied_told m s n x pass c.in_ok-pass.ensures.pinned;
      small = omega (arith, received_small pass.received 0, c.in_ok-pass.ensures.nothing_is_lost);
      state = state_refilled m s n x pass v c.deref.result.now c.deref_mut.result.now ws c.in_ok-pass.ensures.pinned c.deref.ensures.value c.deref_mut.ensures.value c.deref_mut.ensures.len c.hand_down.auto.systems c.hand_down.ensures;
      kept = search rules;
    }
