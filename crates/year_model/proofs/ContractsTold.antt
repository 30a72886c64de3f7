-- The journal has the contracts that a year keeps, and all that was billed of them.
use Rattle.std.proofs.Common.{◌≡◌, ℕ, ◌+◌, ◌-◌, eqb, List, [], ◌∷◌, ◌++◌, length, Some, None, Option, sym, refl, ap, ◌∙◌, subst, ⊎_elim}
use Rattle.std.specs.List.{slice_get}
use Rattle.std.proofs.lemmas.Bool.{cases_eq, cond_both}
use Rattle.billing.specs.Charges.{charge}
use Rattle.year_model.specs.declared.tables.Contract.{Contract}
use Rattle.year_model.specs.Bills.{billed, tariff_at, with_draft}
use Rattle.year_model.specs.Calls.{Call, state_of}
use Rattle.year_model.specs.Makings.{Lawful, Makings}
use Rattle.year_model.specs.Passes.{passed, passed_in_turn, settle_order}
use Rattle.year_model.specs.Journal.{Line, Metered, Opening, Tariffs, blank_line, journal, start_line}
use Rattle.year_model.specs.State.{State, begun, numbered, with_contract, with_contracts}
use Rattle.year_model.specs.Steps.{state_after}
use Rattle.year_model.proofs.Acceptance.{accepted_pass}
use Rattle.year_model.proofs.AccountsBilled.{issued_bill, told_billed}
use Rattle.year_model.proofs.AccountsDrafted.{told_new, told_started, told_torn}
use Rattle.year_model.proofs.ContractAccounts.{Agrees, Told, Untold, account, agrees_bill_other, agrees_contract_other, agrees_grid, agrees_start_other, grid_line}
use Rattle.year_model.proofs.Grids.{register_of}
use Rattle.year_model.proofs.Histories.{Keeps, contract_made, contracted_line, issued_line, kept_throughout}
use Rattle.year_model.proofs.Lookups.{Entry, numbered_from_entry}
use Rattle.year_model.proofs.Numbered.{numbered_next, numbered_push_other, numbered_push_same, numbered_set_other, numbered_set_same}
use Rattle.year_model.proofs.Registers.{held_entry}

-- Every account agrees with the contract that is kept under its number.
abbrev pub ContractsTold : Makings → List Line → State → Type 0
ContractsTold m lines s = (n : ℕ) → Agrees m n (account lines n) (numbered s.contracts n)

-- So does that of a contract that is kept.
pub told_entry : (m : Makings) (lines : List Line) (s : State) → ContractsTold m lines s → (n : ℕ) (c : Contract) → Entry s.contracts n c → Told m n (account lines n) c
told_entry m lines s told n c at =
    subst (Agrees m n (account lines n)) (numbered_from_entry s.contracts n c at.low at.high ∙ ap Some (at.here c)) (told n)

-- A line leaves the accounts of all contracts but one.
abbrev OfOne : Makings → List Line → Line → ℕ → Type 0
OfOne m lines l n = (other : ℕ) → (n ≡ other → ⊥) → (kept : Option Contract) → Agrees m other (account lines other) kept → Agrees m other (account (l ∷ lines) other) kept

-- One contract changed, with a line of it.
told_changed : (m : Makings) (lines : List Line) (s : State) (l : Line) (n : ℕ) (c d : Contract) → ContractsTold m lines s → Entry s.contracts n c → OfOne m lines l n → Told m n (account (l ∷ lines) n) d
    → ContractsTold m (l ∷ lines) (with_contract s n d)
told_changed m lines s l n c d told at of_one here other =
    ⊎_elim
    (λ (e : n ≡ other).
    subst (λ k. Agrees m k (account (l ∷ lines) k) (numbered (with_contract s n d).contracts k)) e
    (subst (Agrees m n (account (l ∷ lines) n)) (sym (numbered_set_same s.contracts n c d at)) here))
    (λ (ne : n ≡ other → ⊥).
    subst (Agrees m other (account (l ∷ lines) other)) (sym (numbered_set_other s.contracts n other d at.low (λ e. ne (sym e)))) (of_one other ne (numbered s.contracts other) (told other)))
    (cases_eq n other)

-- One contract added, with a line of it.
told_added : (m : Makings) (lines : List Line) (s : State) (l : Line) (d : Contract) → ContractsTold m lines s → OfOne m lines l (length s.contracts + 1)
    → (Untold (account lines (length s.contracts + 1)) → Told m (length s.contracts + 1) (account (l ∷ lines) (length s.contracts + 1)) d)
    → ContractsTold m (l ∷ lines) (with_contracts s (s.contracts ++ d ∷ []))
told_added m lines s l d told of_one here other =
    let n = length s.contracts + 1 in
    let none = subst (Agrees m n (account lines n)) (numbered_next s.contracts) (told n) in
    ⊎_elim
    (λ (e : n ≡ other).
    subst (λ k. Agrees m k (account (l ∷ lines) k) (numbered (s.contracts ++ d ∷ []) k)) e
    (subst (Agrees m n (account (l ∷ lines) n)) (sym (numbered_push_same s.contracts d)) (here none)))
    (λ (ne : n ≡ other → ⊥).
    subst (Agrees m other (account (l ∷ lines) other)) (sym (numbered_push_other s.contracts other d (λ e. ne (sym e)))) (of_one other ne (numbered s.contracts other) (told other)))
    (cases_eq n other)

-- Passes change no contract.
contracts_passed : (m : Makings) (s : State) (n : ℕ) → (state_of s (passed m s n)).contracts ≡ s.contracts
contracts_passed m s n = accepted_pass m s (λ o. (state_of s o).contracts ≡ s.contracts) (λ _. refl) n (λ x ok. refl)

contracts_in_turn : (m : Makings) (s : State) (ns : List ℕ) → (passed_in_turn m s ns).contracts ≡ s.contracts
contracts_in_turn m s [] = refl
contracts_in_turn m s (n ∷ ns) = contracts_in_turn m (state_of s (passed m s n)) ns ∙ contracts_passed m s n

-- A line of no contract, where no contract changes.
told_grid : (m : Makings) (lines : List Line) (cs : List Contract) → ((n : ℕ) → Agrees m n (account lines n) (numbered cs n)) → (cost take_back : ℕ) (opening : Option Opening) (fixing : Option Tariffs)
    → (n : ℕ) → Agrees m n (account (grid_line cost take_back opening fixing ∷ lines) n) (numbered cs n)
told_grid m lines cs told cost take_back opening fixing n = agrees_grid m lines n (numbered cs n) (told n) cost take_back opening fixing

told_kept : (m : Makings) → Lawful m → Keeps m (ContractsTold m)
told_kept m law =
    record {
      opens = λ lines s v told level category ok. told_grid m lines s.contracts told 0 0 (Some record { system = length s.systems + 1; category = category }) None;
      couples = λ lines s v told upper lower kw mwh above below ok. told_grid m lines s.contracts told 0 0 None None;
      uses = λ lines s v told n kw mwh permille x ok. told_grid m lines s.contracts told 0 0 None None;
      costs = λ lines s v told n euros x ok. told_grid m lines s.contracts told euros 0 None None;
      takes_back = λ lines s v told n euros x ok. told_grid m lines s.contracts told 0 euros None None;
      passes = λ lines s v told n x ok. told_grid m lines s.contracts told 0 0 None None;
      settles = λ lines s v told free.
          told_grid m lines (passed_in_turn m s (settle_order s)).contracts
          (λ n. subst (λ cs. Agrees m n (account lines n) (numbered cs n)) (sym (contracts_in_turn m s (settle_order s))) (told n)) 0 0 None None;
      fixes = λ lines s v told n v₁ v₂ v₃ v₄ x f ok. told_grid m lines s.contracts told 0 0 None (Some record { system = n; volumes = v₁ ∷ v₂ ∷ v₃ ∷ v₄ ∷ []; tariffs = f.tariffs });
      contracts = λ lines s v told n kw fee first last reading x f ok.
          told_added m lines s (contracted_line s n kw fee first last reading) (contract_made f n kw fee first last reading) told
          (λ other ne kept agrees. agrees_contract_other m lines other kept agrees record { contract = length s.contracts + 1; system = n; kw = kw; fee = fee; first = first; last = last; reading = reading } ne)
          (λ untold. told_new m law lines (length s.contracts + 1) n kw fee first last reading (charge fee kw (tariff_at f 1) (tariff_at f 4)) ok.charged untold);
      starts = λ lines s v told n kwmax reading c ok.
          let metered : Metered = record { contract = n; kwmax = kwmax; reading = reading } in
          told_changed m lines s (start_line metered) n c (with_draft c (Some record { kwmax = kwmax; reading = reading })) told ok.at
          (λ other ne kept agrees. agrees_start_other m lines other kept agrees metered ne)
          (told_started m lines n c (told_entry m lines s told n c ok.at) kwmax reading);
      issues = λ lines s v told book n month c d out.
          told_changed m lines s (issued_line m s n c d) n c (billed m s c d) told out.entry
          (λ other ne kept agrees. agrees_bill_other m lines other kept agrees (issued_bill m s n c d) ne)
          (told_billed m law s lines n c d (held_entry s (register_of s v) n c out.entry) out.started (told_entry m lines s told n c out.entry));
      tears = λ lines s v told book n month c d out.
          told_changed m lines s blank_line n c (with_draft c None) told out.entry
          (λ other ne kept agrees. agrees_grid m lines other kept agrees 0 0 None None)
          (told_torn m lines n c (told_entry m lines s told n c out.entry));
    }

-- Nothing is told before the first call.
untold_begun : (n : ℕ) → Untold (account [] n)
untold_begun n = record { terms = refl; yearly = refl; kwmax = refl; kwh = refl; waived = refl; times = λ month. refl; used = refl }

-- No contract is kept then.
none_begun : (n : ℕ) → numbered begun.contracts n ≡ None
none_begun n = cond_both (eqb n 0) None (slice_get begun.contracts (n - 1)) (λ o. o ≡ None) (λ _. refl) (λ _. refl)

-- After every list of calls, every account agrees with the contract that is kept.
pub contracts_told : (m : Makings) → Lawful m → (calls : List Call) → ContractsTold m (journal m calls) (state_after m calls)
contracts_told m law calls =
    kept_throughout m (ContractsTold m) (told_kept m law) law (λ n. subst (Agrees m n (account [] n)) (sym (none_begun n)) (untold_begun n)) calls
