-- What holds of every system, whatever stands there, is kept by every call.
use Rattle.std.proofs.Common.{◌≡◌, ℕ, ◌+◌, ◌-◌, ◌*◌, ◌<◌, Bool, true, length, List, [], ◌∷◌, get_or, sym, refl, ap, ◌∙◌, subst, arith}
use Rattle.billing.specs.declared.fixings.Fixing.{Fixing}
use Rattle.year_model.specs.declared.tables.System.{System}
use Rattle.year_model.specs.Calls.{Call, Outcome, call_contract, call_cost, call_couple, call_fix, call_issue, call_open, call_pass, call_settle, call_start, call_take_back, call_tear, call_use, state_of}
use Rattle.year_model.specs.Fixes.{with_fixing}
use Rattle.year_model.specs.Makings.{Lawful, Makings}
use Rattle.year_model.specs.Passes.{pass_state, passed_in_turn, settle_order}
use Rattle.year_model.specs.Sound.{CategoriesKnown, FixingsWhole, Sound, fixing_euros, no_system}
use Rattle.year_model.specs.State.{State, begun}
use Rattle.year_model.specs.Steps.{after, outcome}
use Rattle.year_model.specs.Systems.{new_system, standing_at, with_use}
use Rattle.year_model.proofs.Acceptance.{Fixes, accepted_contract, accepted_cost, accepted_couple, accepted_fix, accepted_issue, accepted_open, accepted_pass, accepted_settle, accepted_start, accepted_take_back, accepted_tear, accepted_use}
use Rattle.year_model.proofs.Entries.{Throughout, throughout_push, throughout_set}
use Rattle.year_model.proofs.FacesStay.{FacesStay, face, faces_passed, priced_alike}
use Rattle.year_model.proofs.Grids.{grid_of}
use Rattle.year_model.proofs.Lookups.{Entry}
use Rattle.year_model.proofs.SoundPasses.{faces_in_turn}
use Rattle.year_model.proofs.TariffsFixed.{Priced, fixing_whole}

-- P holds of a new system whose category is known, of every system with the face of one of which it holds, and of a system
-- once it is fixed.
pub record KeptBySystems (m : Makings) (P : System → Type 0) : Type 0 where
  pub opens : (level category : ℕ) → m.known category ≡ true → P (new_system level category)
  pub stays : (x y : System) → face y ≡ face x → P x → P y
  pub fixes : (s : State) (n : ℕ) (volumes : List ℕ) (x : System) (f : Fixing) → Fixes m s n volumes x f → P x → P (with_fixing x f)

-- Then every call keeps it throughout the systems.
module _ (m : Makings) (law : Lawful m) (P : System → Type 0) (keeps : KeptBySystems m P) where
  abbrev KeptIn : Outcome → State → Type 0
  KeptIn o s = Throughout P (state_of s o).systems no_system

  by_faces : (s t : State) → FacesStay s.systems t.systems → Throughout P s.systems no_system → Throughout P t.systems no_system
  by_faces s t stay p k h =
      let inside : k < length s.systems = omega (arith, stay.long) in
      keeps.stays (get_or s.systems k no_system) (get_or t.systems k no_system) (stay.same k inside) (p k inside)

  entry_kept : (s : State) → Throughout P s.systems no_system → (n : ℕ) (x : System) → Entry s.systems n x → P x
  entry_kept s p n x at = subst P (at.here no_system) (p (n - 1) (omega (arith, at.low, at.high)))

  kept_after : (s : State) → Sound s → Throughout P s.systems no_system → (c : Call) → KeptIn (outcome m s c) s
  kept_after s v p (call_open level category) =
      accepted_open m s (λ o. KeptIn o s) (λ _. p) level category (λ ok.
      throughout_push P s.systems (new_system level category) no_system p (keeps.opens level category ok.known))
  kept_after s v p (call_couple upper lower kw mwh) = accepted_couple m s (λ o. KeptIn o s) (λ _. p) upper lower kw mwh (λ above below ok. p)
  kept_after s v p (call_use n kw mwh permille) =
      accepted_use m s (λ o. KeptIn o s) (λ _. p) n kw mwh permille (λ x ok.
      throughout_set P s.systems (n - 1) (with_use x kw mwh permille) no_system p (keeps.stays x (with_use x kw mwh permille) refl (entry_kept s p n x ok.at.entry)))
  kept_after s v p (call_cost n euros) =
      accepted_cost m s (λ o. KeptIn o s) (λ _. p) n euros (λ x ok.
      throughout_set P s.systems (n - 1) (standing_at x (x.standing + euros)) no_system p (keeps.stays x (standing_at x (x.standing + euros)) refl (entry_kept s p n x ok.at.entry)))
  kept_after s v p (call_take_back n euros) =
      accepted_take_back m s (λ o. KeptIn o s) (λ _. p) n euros (λ x ok.
      throughout_set P s.systems (n - 1) (standing_at x (x.standing - euros)) no_system p (keeps.stays x (standing_at x (x.standing - euros)) refl (entry_kept s p n x ok.at.entry)))
  kept_after s v p (call_pass n) =
      accepted_pass m s (λ o. KeptIn o s) (λ _. p) n (λ x ok. by_faces s (pass_state m s n x) (faces_passed m s (grid_of s v) n x ok.at) p)
  kept_after s v p call_settle = accepted_settle m s (λ o. KeptIn o s) (λ _. p) (λ free. by_faces s (passed_in_turn m s (settle_order s)) (faces_in_turn m law s v (settle_order s)) p)
  kept_after s v p (call_fix n v₁ v₂ v₃ v₄) =
      accepted_fix m s (λ o. KeptIn o s) (λ _. p) n v₁ v₂ v₃ v₄ (λ x f ok.
      throughout_set P s.systems (n - 1) (with_fixing x f) no_system p
      (keeps.fixes s n (v₁ ∷ v₂ ∷ v₃ ∷ v₄ ∷ []) x f ok (entry_kept s p n x ok.at.entry)))
  kept_after s v p (call_contract n kw fee first last reading) = accepted_contract m s (λ o. KeptIn o s) (λ _. p) n kw fee first last reading (λ x f ok. p)
  kept_after s v p (call_start n kwmax reading) = accepted_start m s (λ o. KeptIn o s) (λ _. p) n kwmax reading (λ c ok. p)
  kept_after s v p (call_issue book n month) = accepted_issue m s (λ o. KeptIn o s) (λ _. p) book n month (λ c d ok. p)
  kept_after s v p (call_tear book n month) = accepted_tear m s (λ o. KeptIn o s) (λ _. p) book n month (λ c d ok. p)

  pub kept_by_call : (c : Call) (s t : State) → t ≡ after m s c → Sound s → Throughout P s.systems no_system → Throughout P t.systems no_system
  kept_by_call c s t e v p = subst (λ (u : State). Throughout P u.systems no_system) (sym e) (kept_after s v p c)

-- The edition knows the category of every system.
known_by_systems : (m : Makings) → KeptBySystems m (λ x. m.known x.category ≡ true)
known_by_systems m =
    record {
      opens = λ level category known. known;
      stays = λ x y same known. ap (λ (z : System). m.known z.category) same ∙ known;
      fixes = λ s n volumes x f ok known. known;
    }

pub categories_known_begun : (known : ℕ → Bool) (s : State) → s ≡ begun → CategoriesKnown known s
categories_known_begun known s e k h = let none = ap (λ (t : State). length t.systems) e in absurd (omega arith)

pub categories_known_by : (m : Makings) → Lawful m → (c : Call) (s t : State) → t ≡ after m s c → Sound s → CategoriesKnown m.known s → CategoriesKnown m.known t
categories_known_by m law c s t e v p = kept_by_call m law (λ x. m.known x.category ≡ true) (known_by_systems m) c s t e v p

-- Every fixing is whole.
priced_by_systems : (m : Makings) → Lawful m → KeptBySystems m Priced
priced_by_systems m law =
    record {
      opens = λ level category known f e. let z : ◌≡◌ {A = ℕ} 0 1 = cc in absurd (omega arith);
      stays = priced_alike;
      fixes = λ s n volumes x f ok priced g e.
          let same : f ≡ g = cc in
          subst (λ (h : Fixing). fixing_euros h ≡ 10000 * x.landed) same (fixing_whole m law x.landed x.category volumes f ok.told).whole;
    }

pub fixings_whole_begun : (s : State) → s ≡ begun → FixingsWhole s
fixings_whole_begun s e k h = let none = ap (λ (t : State). length t.systems) e in absurd (omega arith)

pub fixings_whole_by : (m : Makings) → Lawful m → (c : Call) (s t : State) → t ≡ after m s c → Sound s → FixingsWhole s → FixingsWhole t
fixings_whole_by m law c s t e v p = kept_by_call m law Priced (priced_by_systems m law) c s t e v p
