-- Every call leaves a sound state sound, so every state that calls lead to is sound.
use Rattle.std.proofs.Common.{◌≡◌, ℕ, ◌+◌, ◌-◌, [], ◌∷◌, Some, None, sym, refl, subst, arith}
use Rattle.std.proofs.lemmas.Bool.{both_ways}
use Rattle.billing.specs.Charges.{charge}
use Rattle.edition.specs.Editions.{percentages}
use Rattle.year_model.specs.Bills.{billed, new_contract, tariff_at, with_draft}
use Rattle.year_model.specs.Calls.{Call, Outcome, call_contract, call_cost, call_couple, call_fix, call_issue, call_open, call_pass, call_settle, call_start, call_take_back, call_tear, call_use, state_of}
use Rattle.year_model.specs.Fixes.{with_fixing}
use Rattle.year_model.specs.Laws.{CallsKeepSoundness, EveryStateIsSound}
use Rattle.year_model.specs.Makings.{Lawful, Makings}
use Rattle.year_model.specs.Passes.{settle_order}
use Rattle.year_model.specs.Sound.{Sound}
use Rattle.year_model.specs.State.{State, begun, is_fixed}
use Rattle.year_model.specs.Steps.{after, state_after}
use Rattle.year_model.specs.Systems.{standing_at, with_use}
use Rattle.year_model.proofs.Acceptance.{accepted_contract, accepted_cost, accepted_couple, accepted_fix, accepted_issue, accepted_open, accepted_settle, accepted_start, accepted_take_back, accepted_tear, accepted_use}
use Rattle.year_model.proofs.GridPasses.{standing_small}
use Rattle.year_model.proofs.GridSystems.{entry_fits}
use Rattle.year_model.proofs.Grids.{grid_of, register_of}
use Rattle.year_model.proofs.Holdings.{held_billed, held_new, held_started, held_torn}
use Rattle.year_model.proofs.MonthsBilled.{month_of_day}
use Rattle.year_model.proofs.Registers.{held_entry}
use Rattle.year_model.proofs.SoundChanges.{sound_contract, sound_contracted, sound_coupled, sound_opened, sound_system}
use Rattle.year_model.proofs.SoundPasses.{sound_in_turn, sound_passed}
use Rattle.year_model.proofs.TariffsFixed.{entry_tariffs, fixing_within}

-- The state before the first call is sound.
pub sound_begun : Sound begun
sound_begun =
    record {
      tables = (omega arith, omega arith, λ n. omega arith);
      systems = λ k h. absurd (omega arith);
      joined = λ k h. absurd (omega arith);
      ranked = λ k h. absurd (omega arith);
      flows = λ k h. absurd (omega arith);
      money = (refl, omega arith);
      tariffs = λ k h. absurd (omega arith);
      contracts = omega arith;
      placed = λ k h. absurd (omega arith);
      months = λ k h. absurd (omega arith);
      charges = λ k h. absurd (omega arith);
      meters = λ k h. absurd (omega arith);
      cents = λ k h. absurd (omega arith);
      lines = λ k h. absurd (omega arith);
      drafts = λ k d e. let z : ◌≡◌ {A = ℕ} 0 1 = cc in absurd (omega arith);
      payable = λ k d e. let z : ◌≡◌ {A = ℕ} 0 1 = cc in absurd (omega arith);
    }

-- What a call comes to is sound.
abbrev SoundAfter : State → Outcome → Type 0
SoundAfter s o = Sound (state_of s o)

-- Every call leaves a sound state sound.
pub sound_after : CallsKeepSoundness
sound_after m law s v (call_open level category) =
    accepted_open m s (SoundAfter s) (λ _. v) level category (λ ok. sound_opened s v level category ok.room)
sound_after m law s v (call_couple upper lower kw mwh) =
    accepted_couple m s (SoundAfter s) (λ _. v) upper lower kw mwh (λ above below ok.
    sound_coupled s v record { upper = upper; lower = lower; kw = kw; mwh = mwh } above below ok.at_upper ok.at_lower ok.room ok.few ok.rises ok.kw_fits ok.mwh_fits)
sound_after m law s v (call_use n kw mwh permille) =
    accepted_use m s (SoundAfter s) (λ _. v) n kw mwh permille (λ x ok.
    sound_system s v n x (with_use x kw mwh permille) s.net ok.at.entry refl (ok.kw_fits, ok.mwh_fits, ok.permille_fits) refl v.money.1 (λ _. refl) (entry_tariffs s v.tariffs n x ok.at.entry))
sound_after m law s v (call_cost n euros) =
    accepted_cost m s (SoundAfter s) (λ _. v) n euros (λ x ok.
    let at = ok.at.entry in
    sound_system s v n x (standing_at x (x.standing + euros)) (s.net + euros) at refl (entry_fits s (grid_of s v) n x at) (omega arith) ok.fits (λ _. refl) (entry_tariffs s v.tariffs n x at))
sound_after m law s v (call_take_back n euros) =
    accepted_take_back m s (SoundAfter s) (λ _. v) n euros (λ x ok.
    let at = ok.at.entry in
    let enough = ok.stands in
    let within = standing_small s (grid_of s v) n x at in
    sound_system s v n x (standing_at x (x.standing - euros)) (s.net - euros) at refl (entry_fits s (grid_of s v) n x at) (omega arith) (omega (arith, v.money.1)) (λ _. refl) (entry_tariffs s v.tariffs n x at))
sound_after m law s v (call_pass n) = sound_passed m law s v n
sound_after m law s v call_settle = accepted_settle m s (SoundAfter s) (λ _. v) (λ _. sound_in_turn m law s v (settle_order s))
sound_after m law s v (call_fix n v₁ v₂ v₃ v₄) =
    accepted_fix m s (SoundAfter s) (λ _. v) n v₁ v₂ v₃ v₄ (λ x f ok.
    let at = ok.at.entry in
    sound_system s v n x (with_fixing x f) s.net at refl (entry_fits s (grid_of s v) n x at) refl v.money.1
    (λ was. absurd (both_ways (is_fixed x) ok.at.unfixed was))
    (fixing_within m.share x.landed (percentages m.percent x.category) (v₁ ∷ v₂ ∷ v₃ ∷ v₄ ∷ []) f x ok.told))
sound_after m law s v (call_contract n kw fee first last reading) =
    accepted_contract m s (SoundAfter s) (λ _. v) n kw fee first last reading (λ x f ok.
    let yearly = charge fee kw (tariff_at f 1) (tariff_at f 4) in
    sound_contracted s v (new_contract n kw fee first last reading yearly)
    (held_new s x f n kw fee first last reading yearly ok.at ok.fixed ok.kw_fits ok.fee_fits (month_of_day m.calendar first ok.begins).0 (month_of_day m.calendar last ok.ends).1 ok.ordered ok.reads ok.charged)
    ok.room)
sound_after m law s v (call_start n kwmax reading) =
    accepted_start m s (SoundAfter s) (λ _. v) n kwmax reading (λ c ok.
    sound_contract s v n (with_draft c (Some record { kwmax = kwmax; reading = reading }))
    (held_started s c (held_entry s (register_of s v) n c ok.at) record { kwmax = kwmax; reading = reading } ok.kwmax_fits ok.rises ok.reads ok.left ok.kwmax_pays ok.kwh_pays))
sound_after m law s v (call_issue book n month) =
    accepted_issue m s (SoundAfter s) (λ _. v) book n month (λ c d out.
    sound_contract s v n (billed m s c d) (held_billed m law s c (held_entry s (register_of s v) n c out.entry) d out.started))
sound_after m law s v (call_tear book n month) =
    accepted_tear m s (SoundAfter s) (λ _. v) book n month (λ c d out.
    sound_contract s v n (with_draft c None) (held_torn s c (held_entry s (register_of s v) n c out.entry)))

-- Every state that calls lead to is sound.
pub sound_state_after : EveryStateIsSound
sound_state_after m law [] = sound_begun
sound_state_after m law (c ∷ calls) = sound_after m law (state_after m calls) (sound_state_after m law calls) c

-- The same, for a state that is told to be the one after the call.
pub sound_by : (m : Makings) → Lawful m → (c : Call) (s t : State) → t ≡ after m s c → Sound s → Sound t
sound_by m law c s t e v = subst Sound (sym e) (sound_after m law s v c)
