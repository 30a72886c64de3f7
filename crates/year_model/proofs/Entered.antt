-- What is entered once and for all: every system is on one of the seven levels, and no two systems are coupled twice.
use Rattle.std.proofs.Common.{◌≡◌, ℕ, ◌+◌, ◌-◌, ◌≤◌, true, false, cond, ◌&&◌, eqb, leb, List, [], ◌∷◌, ◌++◌, sym, refl, ap, subst, ⊎_elim, arith}
use Rattle.std.proofs.lemmas.List.Sums.{sum_by_push}
use Rattle.std.proofs.lemmas.Bool.{and_parts, cases_Bool, cond-false, cond-true, eqb-true, leb-true}
use Rattle.year_model.specs.declared.tables.Coupling.{Coupling}
use Rattle.year_model.specs.declared.tables.System.{System}
use Rattle.year_model.specs.Calls.{Call, state_of}
use Rattle.year_model.specs.Fixes.{with_fixing}
use Rattle.year_model.specs.Makings.{Lawful, Makings}
use Rattle.year_model.specs.Passes.{pass_state, passed, passed_in_turn, receives, settle_order}
use Rattle.year_model.specs.Sound.{Sound, no_system}
use Rattle.year_model.specs.State.{State, with_net, with_system}
use Rattle.year_model.specs.Steps.{state_after}
use Rattle.year_model.specs.Systems.{is_level, joining_count, new_system, standing_at, with_use}
use Rattle.year_model.proofs.Acceptance.{accepted_pass}
use Rattle.year_model.proofs.Entries.{Throughout, throughout_push, throughout_set}
use Rattle.year_model.proofs.GridPasses.{euros_move}
use Rattle.year_model.proofs.Grids.{grid_of}
use Rattle.year_model.proofs.Histories.{Keeps, kept_throughout}
use Rattle.year_model.proofs.Lookups.{Entry}
use Rattle.year_model.proofs.SoundPasses.{sound_passed}

-- A system is on one of the seven levels.
abbrev pub Levelled : System → Type 0
Levelled x = (1 ≤ x.level) × (x.level ≤ 7)

-- Every system is on a level, and two systems are coupled at most once.
pub record Entered (s : State) : Type 0 where
  pub levels : Throughout Levelled s.systems no_system
  pub once : (upper lower : ℕ) → joining_count s.couplings upper lower ≤ 1

-- A system that takes another's place stays on its level.
entered_set : (s : State) → Entered s → (n : ℕ) (x y : System) (net : ℕ) → Entry s.systems n x → y.level ≡ x.level → Entered (with_net (with_system s n y) net)
entered_set s e n x y net at same =
    let is = ap (λ (z : System). z.level) (at.here no_system) in
    let was = e.levels (n - 1) (omega (arith, at.low, at.high)) in
    record { levels = throughout_set Levelled s.systems (n - 1) y no_system e.levels (omega arith, omega arith); once = e.once }

-- One coupling more, of two systems that were not coupled.
once_more : (cs : List Coupling) (c : Coupling) → ((u l : ℕ) → joining_count cs u l ≤ 1) → joining_count cs c.upper c.lower ≡ 0 → (u l : ℕ) → joining_count (cs ++ c ∷ []) u l ≤ 1
once_more cs c once apart u l =
    let more = sum_by_push (λ (d : Coupling). cond {A = ℕ} (eqb d.upper u && eqb d.lower l) 1 0) cs c in
    ⊎_elim
    (λ (t : (eqb c.upper u && eqb c.lower l) ≡ true).
    let parts = and_parts (eqb c.upper u) (eqb c.lower l) t in
    let up = eqb-true c.upper u parts.0 in
    let low = eqb-true c.lower l parts.1 in
    let none : joining_count cs u l ≡ 0 = rw (← up, ← low) apart in
    let one = cond-true {A = ℕ} (eqb c.upper u && eqb c.lower l) 1 0 t in
    omega arith)
    (λ (f : (eqb c.upper u && eqb c.lower l) ≡ false).
    let none = cond-false {A = ℕ} (eqb c.upper u && eqb c.lower l) 1 0 f in
    omega (arith, once u l))
    (cases_Bool (eqb c.upper u && eqb c.lower l))

-- A pass leaves all this as it is.
entered_pass_state : (m : Makings) (s : State) → Sound s → Entered s → (n : ℕ) (x : System) → Entry s.systems n x → Entered (pass_state m s n x)
entered_pass_state m s v e n x at =
    let move = euros_move s (grid_of s v) n x at (receives m s n x) in
    record { levels = λ k h. subst Levelled (sym (move.same k (omega (arith, move.long)))) (e.levels k (omega (arith, move.long))); once = e.once }

entered_passed : (m : Makings) (s : State) → Sound s → Entered s → (n : ℕ) → Entered (state_of s (passed m s n))
entered_passed m s v e n = accepted_pass m s (λ o. Entered (state_of s o)) (λ _. e) n (λ x ok. entered_pass_state m s v e n x ok.at.entry)

-- So do passes in turn.
entered_in_turn : (m : Makings) → Lawful m → (s : State) → Sound s → Entered s → (ns : List ℕ) → Entered (passed_in_turn m s ns)
entered_in_turn m law s v e [] = e
entered_in_turn m law s v e (n ∷ ns) =
    entered_in_turn m law (state_of s (passed m s n)) (sound_passed m law s v n) (entered_passed m s v e n) ns

-- The levels are 1 to 7.
level_from_test : (level : ℕ) → is_level level ≡ true → (1 ≤ level) × (level ≤ 7)
level_from_test level t =
    let parts = and_parts (leb 1 level) (leb level 7) t in
    (leb-true 1 level parts.0, leb-true level 7 parts.1)

entered_kept : (m : Makings) → Lawful m → Keeps m (λ lines s. Entered s)
entered_kept m law =
    record {
      opens = λ lines s v e level category ok.
          record { levels = throughout_push Levelled s.systems (new_system level category) no_system e.levels (level_from_test level ok.levelled); once = e.once };
      couples = λ lines s v e upper lower kw mwh above below ok.
          record { levels = e.levels; once = once_more s.couplings record { upper = upper; lower = lower; kw = kw; mwh = mwh } e.once ok.apart };
      uses = λ lines s v e n kw mwh permille x ok. entered_set s e n x (with_use x kw mwh permille) s.net ok.at.entry refl;
      costs = λ lines s v e n euros x ok. entered_set s e n x (standing_at x (x.standing + euros)) (s.net + euros) ok.at.entry refl;
      takes_back = λ lines s v e n euros x ok. entered_set s e n x (standing_at x (x.standing - euros)) (s.net - euros) ok.at.entry refl;
      passes = λ lines s v e n x ok. entered_pass_state m s v e n x ok.at.entry;
      settles = λ lines s v e free. entered_in_turn m law s v e (settle_order s);
      fixes = λ lines s v e n v₁ v₂ v₃ v₄ x f ok. entered_set s e n x (with_fixing x f) s.net ok.at.entry refl;
      contracts = λ lines s v e n kw fee first last reading x f ok. record { levels = e.levels; once = e.once };
      starts = λ lines s v e n kwmax reading c ok. record { levels = e.levels; once = e.once };
      issues = λ lines s v e book n month c d ok. record { levels = e.levels; once = e.once };
      tears = λ lines s v e book n month c d ok. record { levels = e.levels; once = e.once };
    }

-- So it is after every list of calls.
pub entered_after : (m : Makings) → Lawful m → (calls : List Call) → Entered (state_after m calls)
entered_after m law calls =
    kept_throughout m (λ lines s. Entered s) (entered_kept m law) law record { levels = λ k h. absurd (omega arith); once = λ u l. omega arith } calls
