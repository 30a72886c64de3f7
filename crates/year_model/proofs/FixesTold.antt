-- The journal has the openings and the fixes that a year keeps, and every fixing that is kept is whole.
use Rattle.std.proofs.Common.{◌≡◌, ℕ, ◌+◌, ◌-◌, ◌<◌, ◌≤◌, true, false, eqb, ◌⊎◌, List, [], ◌∷◌, ◌++◌, map, length, get_or, is_some, Some, None, sum_by, sum, Option, sym, refl, ap, ◌∙◌, subst, inl, inr, ⊎_elim, arith}
use Rattle.std.proofs.lemmas.List.{get_or-map, length-map, length-set, same_lists}
use Rattle.std.proofs.lemmas.List.Sums.{sum-map, sum_by-cons, sum_by_push, sum_by-set}
use Rattle.std.proofs.lemmas.Bool.{cases_eq, cases_lt, cond-false, cond-true, eq-eqb, ne_eqb, true≢false}
use Rattle.billing.specs.declared.fixings.Fixing.{Fixing}
use Rattle.billing.specs.Fixings.{FixedWhole}
use Rattle.edition.specs.Editions.{percentages}
use Rattle.year_model.specs.declared.tables.System.{System}
use Rattle.year_model.specs.Books.{fixing_worth}
use Rattle.year_model.specs.Calls.{Call}
use Rattle.year_model.specs.Fixes.{with_fixing}
use Rattle.year_model.specs.Makings.{Lawful, Makings}
use Rattle.year_model.specs.Journal.{Line, Opening, Tariffs, blank_line, category_of, euros_line, fix_of, fix_worth, fixing_at, fixing_line, journal, opening_at, opening_line, tariffs_times_volumes}
use Rattle.year_model.specs.Sound.{no_system}
use Rattle.year_model.specs.Passes.{settle_order}
use Rattle.year_model.specs.State.{State, numbered, renumbered, with_system, with_systems}
use Rattle.year_model.specs.Steps.{state_after}
use Rattle.year_model.specs.Systems.{new_system, standing_at, with_use}
use Rattle.year_model.proofs.Acceptance.{Fixes}
use Rattle.year_model.proofs.Entries.{Throughout, same_after_set, throughout_push, throughout_set}
use Rattle.year_model.proofs.FacesStay.{FacesStay, face, faces_passed, faces_same, faces_set, fixed_landed}
use Rattle.year_model.proofs.Grids.{grid_of}
use Rattle.year_model.proofs.Histories.{Keeps, kept_throughout}
use Rattle.year_model.proofs.Numbered.{look_same, numbered_none, numbered_push_other, numbered_push_same, numbered_set_other, numbered_set_same}
use Rattle.year_model.proofs.SoundPasses.{faces_in_turn}
use Rattle.year_model.proofs.TariffsFixed.{answered, fixing_whole}

-- the fix of a system as its fixing tells it
abbrev pub told_tariffs : ℕ → Option Fixing → Option Tariffs
told_tariffs n None = None
told_tariffs n (Some f) = Some record { system = n; volumes = f.volumes; tariffs = f.tariffs }

abbrev pub tariffs_kept : ℕ → Option System → Option Tariffs
tariffs_kept n None = None
tariffs_kept n (Some x) = told_tariffs n x.fixing

-- The accepted fix of every system is the one that the year keeps.
abbrev pub FixesTold : List Line → State → Type 0
FixesTold lines s = (n : ℕ) → fix_of lines n ≡ tariffs_kept n (numbered s.systems n)

abbrev pub category_kept : Option System → Option ℕ
category_kept None = None
category_kept (Some x) = Some x.category

-- The category of every system is the one that it was opened in.
abbrev pub CategoriesTold : List Line → State → Type 0
CategoriesTold lines s = (n : ℕ) → category_of lines n ≡ category_kept (numbered s.systems n)

-- a system's tariffs times its volumes; 0 where it is not fixed
abbrev pub kept_worth : System → ℕ
kept_worth x = fixing_worth x.fixing

-- Where a system is fixed, its tariffs times volumes and its remainders are its landed euros.
abbrev pub WholeFixing : Makings → System → Type 0
WholeFixing m x = (f : Fixing) → x.fixing ≡ Some f → FixedWhole x.landed (percentages m.percent x.category) f

-- The edition knows the category of a system.
abbrev pub KnownCategory : Makings → System → Type 0
KnownCategory m x = m.known x.category ≡ true

-- what the journal and the state have in common
pub record FixesKept (m : Makings) (lines : List Line) (s : State) : Type 0 where
  pub told : FixesTold lines s
  pub categories : CategoriesTold lines s
  pub worth : tariffs_times_volumes lines ≡ sum_by kept_worth s.systems
  pub whole : Throughout (WholeFixing m) s.systems no_system
  pub known : Throughout (KnownCategory m) s.systems no_system

-- Sums over lists that agree position by position are the same.
sumBy_same : {X : Type 0} (f : X → ℕ) (xs ys : List X) (d : X) → length ys ≡ length xs → ((k : ℕ) → k < length xs → f (get_or ys k d) ≡ f (get_or xs k d)) → sum_by f ys ≡ sum_by f xs
sumBy_same f xs ys d long same =
    let xs_long = length-map xs f in
    let ys_long = length-map ys f in
    let alike : map f ys ≡ map f xs = same_lists (map f ys) (map f xs) (omega arith) (λ k e h. get_or-map f ys k d e (omega arith) ∙ same k (omega arith) ∙ sym (get_or-map f xs k d e (omega arith))) in
    sym (sum-map f ys) ∙ ap sum alike ∙ sum-map f xs

-- The face of a system tells whether its fixing is whole.
whole_from_face : (m : Makings) (x : System) → WholeFixing m (face x) → WholeFixing m x
whole_from_face m x whole f e =
    subst (λ landed. FixedWhole landed (percentages m.percent x.category) f) (fixed_landed x f e) (whole f e)

face_from_whole : (m : Makings) (x : System) → WholeFixing m x → WholeFixing m (face x)
face_from_whole m x whole f e =
    subst (λ landed. FixedWhole landed (percentages m.percent x.category) f) (sym (fixed_landed x f e)) (whole f e)

-- A line with no opening and no fix, and systems with the same faces.
pub fixes_carried : (m : Makings) (lines : List Line) (l : Line) (s t : State) → l.opening ≡ None → l.fixing ≡ None → FacesStay s.systems t.systems → FixesKept m lines s → FixesKept m (l ∷ lines) t
fixes_carried m lines l s t no_opening no_fix stay kept =
    let xs = s.systems in
    let ys = t.systems in
    let none : fix_worth l.fixing ≡ 0 = ap fix_worth no_fix in
    record {
      told = λ n.
          ap (λ (o : Option Tariffs). fixing_at n o (fix_of lines n)) no_fix ∙ kept.told n
          ∙ sym (look_same (tariffs_kept n) xs ys no_system stay.long (λ k h. ap (λ (z : System). told_tariffs n z.fixing) (stay.same k h)) n);
      categories = λ n.
          ap (λ (o : Option Opening). opening_at n o (category_of lines n)) no_opening ∙ kept.categories n
          ∙ sym (look_same category_kept xs ys no_system stay.long (λ k h. ap (λ (z : System). Some z.category) (stay.same k h)) n);
      worth = omega (arith, sum_by-cons (λ (z : Line). fix_worth z.fixing) l lines, kept.worth, sumBy_same kept_worth xs ys no_system stay.long (λ k h. ap kept_worth (stay.same k h)));
      whole = λ k h.
          let inside : k < length xs = omega (arith, stay.long) in
          whole_from_face m (get_or ys k no_system) (subst (WholeFixing m) (sym (stay.same k inside)) (face_from_whole m (get_or xs k no_system) (kept.whole k inside)));
      known = λ k h.
          let inside : k < length xs = omega (arith, stay.long) in
          ap (λ (z : System). m.known z.category) (stay.same k inside) ∙ kept.known k inside;
    }

-- One system more, with the line of its opening.
pub fixes_opened : (m : Makings) (lines : List Line) (s : State) (level category : ℕ) → m.known category ≡ true → FixesKept m lines s
    → FixesKept m (opening_line record { system = length s.systems + 1; category = category } ∷ lines) (with_systems s (s.systems ++ new_system level category ∷ []))
fixes_opened m lines s level category known kept =
    let xs = s.systems in
    let y = new_system level category in
    let ys = xs ++ y ∷ [] in
    let new = length xs + 1 in
    record {
      told = λ n.
          ⊎_elim
          (λ (e : n ≡ new). kept.told n ∙ ap (tariffs_kept n) (numbered_none xs n (inr (omega arith))) ∙ sym (ap (λ k. tariffs_kept n (numbered ys k)) e ∙ ap (tariffs_kept n) (numbered_push_same xs y)))
          (λ (ne : n ≡ new → ⊥). kept.told n ∙ sym (ap (tariffs_kept n) (numbered_push_other xs n y ne)))
          (cases_eq n new);
      categories = λ n.
          ⊎_elim
          (λ (e : n ≡ new). cond-true (eqb new n) (Some category) (category_of lines n) (eq-eqb new n (sym e)) ∙ sym (ap (λ k. category_kept (numbered ys k)) e ∙ ap category_kept (numbered_push_same xs y)))
          (λ (ne : n ≡ new → ⊥). cond-false (eqb new n) (Some category) (category_of lines n) (ne_eqb new n (λ e. ne (sym e))) ∙ kept.categories n ∙ sym (ap category_kept (numbered_push_other xs n y ne)))
          (cases_eq n new);
      worth = omega (arith, kept.worth, sum_by_push kept_worth xs y);
      whole = throughout_push (WholeFixing m) xs y no_system kept.whole (λ f e. let z : ◌≡◌ {A = ℕ} 0 1 = cc in absurd (omega arith));
      known = throughout_push (KnownCategory m) xs y no_system kept.known known;
    }

-- What a fix keeps is whole.
whole_fixed : (m : Makings) → Lawful m → (s : State) (n : ℕ) (volumes : List ℕ) (x : System) (f : Fixing) → Fixes m s n volumes x f → WholeFixing m (with_fixing x f)
whole_fixed m law s n volumes x f ok g e =
    let same : f ≡ g = cc in
    subst (FixedWhole x.landed (percentages m.percent x.category)) same (fixing_whole m law x.landed x.category volumes f ok.told)

-- A fix keeps the volumes that it was called with.
volumes_kept : (m : Makings) (s : State) (n : ℕ) (volumes : List ℕ) (x : System) (f : Fixing) → Fixes m s n volumes x f → f.volumes ≡ volumes
volumes_kept m s n volumes x f ok =
    sym (ap (λ (g : Fixing). g.volumes) (answered m.share x.landed (percentages m.percent x.category) volumes f ok.told).is)

-- A system that is not fixed has no tariffs to multiply.
unfixed_worth : (fixing : Option Fixing) → is_some fixing ≡ false → fixing_worth fixing ≡ 0
unfixed_worth None free = refl
unfixed_worth (Some f) free = absurd (true≢false free)

-- One system fixed, with the line of its fix.
pub fixes_fixed : (m : Makings) → Lawful m → (lines : List Line) (s : State) (n : ℕ) (volumes : List ℕ) (x : System) (f : Fixing) → Fixes m s n volumes x f → FixesKept m lines s
    → FixesKept m (fixing_line record { system = n; volumes = volumes; tariffs = f.tariffs } ∷ lines) (with_system s n (with_fixing x f))
fixes_fixed m law lines s n volumes x f ok kept =
    let xs = s.systems in
    let y = with_fixing x f in
    let ys = renumbered xs n y in
    let at = ok.at.entry in
    let told : Tariffs = record { system = n; volumes = volumes; tariffs = f.tariffs } in
    let inside : n - 1 < length xs = omega (arith, at.low, at.high) in
    let is = at.here no_system in
    let as_called : told_tariffs n (Some f) ≡ Some told = ap (λ (vs : List ℕ). Some record { system = n; volumes = vs; tariffs = f.tariffs }) (volumes_kept m s n volumes x f ok) in
    let as_worth : kept_worth y ≡ fix_worth (Some told) = ap (λ (vs : List ℕ). fix_worth (Some record { system = n; volumes = vs; tariffs = f.tariffs })) (volumes_kept m s n volumes x f ok) in
    let none_before : kept_worth x ≡ 0 = unfixed_worth x.fixing ok.at.unfixed in
    let before = ap kept_worth is in
    record {
      told = λ q.
          ⊎_elim
          (λ (e : q ≡ n).
          cond-true (eqb n q) (Some told) (fix_of lines q) (eq-eqb n q (sym e)) ∙ sym as_called
          ∙ sym (ap (λ k. tariffs_kept k (numbered ys k)) e ∙ ap (tariffs_kept n) (numbered_set_same xs n x y at)))
          (λ (ne : q ≡ n → ⊥).
          cond-false (eqb n q) (Some told) (fix_of lines q) (ne_eqb n q (λ e. ne (sym e))) ∙ kept.told q ∙ sym (ap (tariffs_kept q) (numbered_set_other xs n q y at.low ne)))
          (cases_eq q n);
      categories = λ q.
          kept.categories q
          ∙ sym (look_same category_kept xs ys no_system (length-set xs (n - 1) y) (λ k h. same_after_set (λ z. Some z.category) xs (n - 1) x y no_system inside is refl k) q);
      worth = omega (arith, sum_by-cons (λ (z : Line). fix_worth z.fixing) (fixing_line told) lines, kept.worth, sum_by-set kept_worth xs (n - 1) y no_system inside);
      whole = throughout_set (WholeFixing m) xs (n - 1) y no_system kept.whole (whole_fixed m law s n volumes x f ok);
      known = throughout_set (KnownCategory m) xs (n - 1) y no_system kept.known (sym (ap (λ (z : System). m.known z.category) is) ∙ kept.known (n - 1) inside);
    }

-- No number is that of an entry of no list.
nobody : (n : ℕ) → (n ≡ 0) ⊎ (0 < n)
nobody n = ⊎_elim (λ (some : 0 < n). inr some) (λ (none : n ≤ 0). inl (omega arith)) (cases_lt 0 n)

-- The openings and fixes are kept by every call.
fixes_kept : (m : Makings) → Lawful m → Keeps m (FixesKept m)
fixes_kept m law =
    record {
      opens = λ lines s v kept level category ok. fixes_opened m lines s level category ok.known kept;
      couples = λ lines s v kept upper lower kw mwh above below ok. fixes_carried m lines blank_line s _ refl refl (faces_same s.systems) kept;
      uses = λ lines s v kept n kw mwh permille x ok. fixes_carried m lines blank_line s _ refl refl (faces_set s.systems n x (with_use x kw mwh permille) ok.at.entry refl) kept;
      costs = λ lines s v kept n euros x ok. fixes_carried m lines (euros_line euros 0) s _ refl refl (faces_set s.systems n x (standing_at x (x.standing + euros)) ok.at.entry refl) kept;
      takes_back = λ lines s v kept n euros x ok. fixes_carried m lines (euros_line 0 euros) s _ refl refl (faces_set s.systems n x (standing_at x (x.standing - euros)) ok.at.entry refl) kept;
      passes = λ lines s v kept n x ok. fixes_carried m lines blank_line s _ refl refl (faces_passed m s (grid_of s v) n x ok.at) kept;
      settles = λ lines s v kept free. fixes_carried m lines blank_line s _ refl refl (faces_in_turn m law s v (settle_order s)) kept;
      fixes = λ lines s v kept n v₁ v₂ v₃ v₄ x f ok. fixes_fixed m law lines s n (v₁ ∷ v₂ ∷ v₃ ∷ v₄ ∷ []) x f ok kept;
      contracts = λ lines s v kept n kw fee first last reading x f ok. fixes_carried m lines _ s _ refl refl (faces_same s.systems) kept;
      starts = λ lines s v kept n kwmax reading c ok. fixes_carried m lines _ s _ refl refl (faces_same s.systems) kept;
      issues = λ lines s v kept book n month c d ok. fixes_carried m lines _ s _ refl refl (faces_same s.systems) kept;
      tears = λ lines s v kept book n month c d ok. fixes_carried m lines _ s _ refl refl (faces_same s.systems) kept;
    }

-- They are kept over every list of calls.
pub fixes_kept_throughout : (m : Makings) → Lawful m → (calls : List Call) → FixesKept m (journal m calls) (state_after m calls)
fixes_kept_throughout m law calls =
    kept_throughout m (FixesKept m) (fixes_kept m law) law
    record { told = λ n. sym (ap (tariffs_kept n) (numbered_none [] n (nobody n))); categories = λ n. sym (ap category_kept (numbered_none [] n (nobody n))); worth = refl; whole = λ k h. absurd (omega arith); known = λ k h. absurd (omega arith) }
    calls
