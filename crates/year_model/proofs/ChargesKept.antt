-- The yearly charge of a contract stays what its fee, its kW and the tariffs of its system come to.
use Rattle.std.proofs.Common.{◌≡◌, ℕ, ◌+◌, ◌-◌, true, List, [], ◌∷◌, ◌++◌, get_or, Some, None, sym, refl, ap, ◌∙◌, subst, arith}
use Rattle.std.proofs.lemmas.Bool.{both_ways}
use Rattle.billing.specs.declared.fixings.Fixing.{Fixing}
use Rattle.billing.specs.Charges.{charge}
use Rattle.year_model.specs.declared.tables.Contract.{Contract}
use Rattle.year_model.specs.declared.tables.Coupling.{Coupling}
use Rattle.year_model.specs.declared.tables.System.{System}
use Rattle.year_model.specs.Bills.{billed, fixing_tariff, system_tariff, tariff_at, tariff_of_contract, with_draft}
use Rattle.year_model.specs.Calls.{Call, state_of}
use Rattle.year_model.specs.Fixes.{with_fixing}
use Rattle.year_model.specs.Makings.{Lawful, Makings}
use Rattle.year_model.specs.Passes.{pass_state, passed, passed_in_turn, receives, settle_order}
use Rattle.year_model.specs.Sound.{Sound, no_contract}
use Rattle.year_model.specs.State.{State, is_fixed, numbered, renumbered, with_contract, with_net, with_system}
use Rattle.year_model.specs.Steps.{state_after}
use Rattle.year_model.specs.Systems.{new_system, standing_at, with_use}
use Rattle.year_model.proofs.Acceptance.{accepted_pass}
use Rattle.year_model.proofs.Entries.{Throughout, throughout_push, throughout_set}
use Rattle.year_model.proofs.GridPasses.{euros_move, systems_passed}
use Rattle.year_model.proofs.Grids.{grid_of, register_of}
use Rattle.year_model.proofs.Histories.{Keeps, contract_made, kept_throughout}
use Rattle.year_model.proofs.Lookups.{Entry, numbered_from_entry}
use Rattle.year_model.proofs.Registers.{FixingsStay, tariff_stays}
use Rattle.year_model.proofs.SoundChanges.{fixings_opened, fixings_set}
use Rattle.year_model.proofs.SoundPasses.{fixings_moved, sound_passed}

-- The yearly charge of a contract is that of its fee, its kW and the tariffs of carriers 1 and 4.
abbrev pub Charged : State → Contract → Type 0
Charged s c = c.yearly ≡ charge c.fee c.kw (tariff_of_contract s c 1) (tariff_of_contract s c 4)

-- So is that of every contract.
abbrev pub ChargesKept : State → Type 0
ChargesKept s = Throughout (Charged s) s.contracts no_contract

-- the tariff at a system that is found and fixed
pub tariff_found : (s : State) (n : ℕ) (x : System) (f : Fixing) → Entry s.systems n x → x.fixing ≡ Some f → (carrier : ℕ) → system_tariff carrier (numbered s.systems n) ≡ tariff_at f carrier
tariff_found s n x f at fixed carrier =
    ap (system_tariff carrier) (numbered_from_entry s.systems n x at.low at.high ∙ ap Some (at.here x)) ∙ ap (fixing_tariff carrier) fixed

-- The charges stay where what is fixed stays.
charges_stay : (s : State) → Sound s → ChargesKept s → (ys : List System) (cs : List Coupling) (net : ℕ) → FixingsStay s.systems ys
    → ChargesKept (record { systems = ys; couplings = cs; contracts = s.contracts; net = net })
charges_stay s v charged ys cs net stay k h =
    let t : State = record { systems = ys; couplings = cs; contracts = s.contracts; net = net } in
    let c = get_or s.contracts k no_contract in
    let held = (register_of s v).held k h in
    charged k h
    ∙ sym (ap (λ tariff. charge c.fee c.kw tariff (tariff_of_contract t c 4)) (tariff_stays s t stay c held 1) ∙ ap (λ tariff. charge c.fee c.kw (tariff_of_contract s c 1) tariff) (tariff_stays s t stay c held 4))

-- the charge of the contract with a number
pub charged_entry : (s : State) → ChargesKept s → (n : ℕ) (c : Contract) → Entry s.contracts n c → Charged s c
charged_entry s charged n c at = subst (Charged s) (at.here no_contract) (charged (n - 1) (omega (arith, at.low, at.high)))

-- The charges stay when a system changes that keeps its tariffs where it is fixed.
charges_system : (s : State) → Sound s → ChargesKept s → (n : ℕ) (x y : System) (net : ℕ) → Entry s.systems n x → (is_fixed x ≡ true → y.fixing ≡ x.fixing) → ChargesKept (with_net (with_system s n y) net)
charges_system s v charged n x y net at keeps =
    charges_stay s v charged (renumbered s.systems n y) s.couplings net (fixings_set s.systems n x y at keeps)

-- Passes leave the charges,
charges_pass_state : (m : Makings) (s : State) → Sound s → ChargesKept s → (n : ℕ) (x : System) → Entry s.systems n x → ChargesKept (pass_state m s n x)
charges_pass_state m s v charged n x at =
    let ys = systems_passed s n x (receives m s n x) in
    charges_stay s v charged ys s.couplings s.net (fixings_moved s.systems ys (euros_move s (grid_of s v) n x at (receives m s n x)))

charges_passed : (m : Makings) (s : State) → Sound s → ChargesKept s → (n : ℕ) → ChargesKept (state_of s (passed m s n))
charges_passed m s v charged n = accepted_pass m s (λ o. ChargesKept (state_of s o)) (λ _. charged) n (λ x ok. charges_pass_state m s v charged n x ok.at.entry)

-- and so do passes in turn.
charges_in_turn : (m : Makings) → Lawful m → (s : State) → Sound s → ChargesKept s → (ns : List ℕ) → ChargesKept (passed_in_turn m s ns)
charges_in_turn m law s v charged [] = charged
charges_in_turn m law s v charged (n ∷ ns) = charges_in_turn m law (state_of s (passed m s n)) (sound_passed m law s v n) (charges_passed m s v charged n) ns

-- One contract changed, and not its charge.
charges_changed : (s : State) → ChargesKept s → (n : ℕ) (c : Contract) → Charged s c → ChargesKept (with_contract s n c)
charges_changed s charged n c here = throughout_set (Charged s) s.contracts (n - 1) c no_contract charged here

-- A new contract at a fixed system is charged by its tariffs.
charged_new : (s : State) (n kw fee first last reading : ℕ) (x : System) (f : Fixing) → Entry s.systems n x → x.fixing ≡ Some f → Charged s (contract_made f n kw fee first last reading)
charged_new s n kw fee first last reading x f at fixed =
    sym (ap (λ tariff. charge fee kw tariff (system_tariff 4 (numbered s.systems n))) (tariff_found s n x f at fixed 1) ∙ ap (λ tariff. charge fee kw (tariff_at f 1) tariff) (tariff_found s n x f at fixed 4))

charges_hold : (m : Makings) → Lawful m → Keeps m (λ lines s. ChargesKept s)
charges_hold m law =
    record {
      opens = λ lines s v charged level category ok.
          charges_stay s v charged (s.systems ++ new_system level category ∷ []) s.couplings s.net (fixings_opened s.systems (new_system level category));
      couples = λ lines s v charged upper lower kw mwh above below ok. charged;
      uses = λ lines s v charged n kw mwh permille x ok. charges_system s v charged n x (with_use x kw mwh permille) s.net ok.at.entry (λ _. refl);
      costs = λ lines s v charged n euros x ok. charges_system s v charged n x (standing_at x (x.standing + euros)) (s.net + euros) ok.at.entry (λ _. refl);
      takes_back = λ lines s v charged n euros x ok. charges_system s v charged n x (standing_at x (x.standing - euros)) (s.net - euros) ok.at.entry (λ _. refl);
      passes = λ lines s v charged n x ok. charges_pass_state m s v charged n x ok.at.entry;
      settles = λ lines s v charged free. charges_in_turn m law s v charged (settle_order s);
      fixes = λ lines s v charged n v₁ v₂ v₃ v₄ x f ok.
          charges_system s v charged n x (with_fixing x f) s.net ok.at.entry (λ was. absurd (both_ways (is_fixed x) ok.at.unfixed was));
      contracts = λ lines s v charged n kw fee first last reading x f ok.
          throughout_push (Charged s) s.contracts (contract_made f n kw fee first last reading) no_contract charged (charged_new s n kw fee first last reading x f ok.at ok.fixed);
      starts = λ lines s v charged n kwmax reading c ok. charges_changed s charged n (with_draft c (Some record { kwmax = kwmax; reading = reading })) (charged_entry s charged n c ok.at);
      issues = λ lines s v charged book n month c d out. charges_changed s charged n (billed m s c d) (charged_entry s charged n c out.entry);
      tears = λ lines s v charged book n month c d out. charges_changed s charged n (with_draft c None) (charged_entry s charged n c out.entry);
    }

-- So it is after every list of calls.
pub charges_kept : (m : Makings) → Lawful m → (calls : List Call) → ChargesKept (state_after m calls)
charges_kept m law calls = kept_throughout m (λ lines s. ChargesKept s) (charges_hold m law) law (λ k h. absurd (omega arith)) calls
