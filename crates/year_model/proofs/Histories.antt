-- What every accepted call keeps holds after every list of calls, of the journal and the state together.
use Rattle.std.proofs.Common.{◌≡◌, ℕ, ◌+◌, ◌-◌, List, [], ◌∷◌, ◌++◌, length, Some, None, Ok}
use Rattle.billing.specs.declared.fixings.Fixing.{Fixing}
use Rattle.billing.specs.Charges.{charge}
use Rattle.year_model.specs.declared.tables.Contract.{Contract}
use Rattle.year_model.specs.declared.tables.Started.{Started}
use Rattle.year_model.specs.declared.tables.System.{System}
use Rattle.year_model.specs.Bills.{billed, kwh_line, kwmax_line, month_issued, month_waived, new_contract, tariff_at, with_draft}
use Rattle.year_model.specs.Calls.{Call, Outcome, call_contract, call_cost, call_couple, call_fix, call_issue, call_open, call_pass, call_settle, call_start, call_take_back, call_tear, call_use, reply_of, state_of}
use Rattle.year_model.specs.Fixes.{with_fixing}
use Rattle.year_model.specs.Makings.{Lawful, Makings}
use Rattle.year_model.specs.Passes.{first_obstacle, numbers, pass_state, passed_in_turn, settle_order}
use Rattle.year_model.specs.Journal.{EachAccepted, Line, bill_line, blank_line, contract_line, euros_line, fixing_line, journal, noted, opening_line, start_line}
use Rattle.year_model.specs.Sound.{Sound}
use Rattle.year_model.specs.State.{State, begun, with_contract, with_contracts, with_couplings, with_net, with_system, with_systems}
use Rattle.year_model.specs.Steps.{outcome, reply, state_after}
use Rattle.year_model.specs.Systems.{new_system, standing_at, with_use}
use Rattle.year_model.proofs.Acceptance.{Contracts, Costs, Couples, Fixes, Opens, Passes, Starts, TakesBack, Uses, accepted_contract, accepted_cost, accepted_couple, accepted_fix, accepted_issue, accepted_open, accepted_pass, accepted_settle, accepted_start, accepted_take_back, accepted_tear, accepted_use}
use Rattle.year_model.proofs.Drafts.{Out}
use Rattle.year_model.proofs.SoundCalls.{sound_state_after}

-- the line of an accepted issue
abbrev pub issued_line : Makings → State → ℕ → Contract → Started → Line
issued_line m s n c d =
    bill_line record { contract = n; month = c.month; yearly = month_issued m c c.month; kwmax = kwmax_line s c d.kwmax; kwh = kwh_line s c d.reading; waived = month_waived m c c.month }

-- the line of an accepted contract
abbrev pub contracted_line : State → ℕ → ℕ → ℕ → ℕ → ℕ → ℕ → Line
contracted_line s n kw fee first last reading =
    contract_line record { contract = length s.contracts + 1; system = n; kw = kw; fee = fee; first = first; last = last; reading = reading }

-- the contract that an accepted contract call adds
abbrev pub contract_made : Fixing → ℕ → ℕ → ℕ → ℕ → ℕ → ℕ → Contract
contract_made f n kw fee first last reading = new_contract n kw fee first last reading (charge fee kw (tariff_at f 1) (tariff_at f 4))

-- P is kept by every accepted call: each is given with what it met, the line that it adds and the state that it leads to.
pub record Keeps (m : Makings) (P : List Line → State → Type 0) : Type 0 where
  pub opens : (lines : List Line) (s : State) → Sound s → P lines s → (level category : ℕ) → Opens m s level category
      → P (opening_line record { system = length s.systems + 1; category = category } ∷ lines) (with_systems s (s.systems ++ new_system level category ∷ []))
  pub couples : (lines : List Line) (s : State) → Sound s → P lines s → (upper lower kw mwh : ℕ) (above below : System) → Couples s upper lower kw mwh above below
      → P (blank_line ∷ lines) (with_couplings s (s.couplings ++ record { upper = upper; lower = lower; kw = kw; mwh = mwh } ∷ []))
  pub uses : (lines : List Line) (s : State) → Sound s → P lines s → (n kw mwh permille : ℕ) (x : System) → Uses s n kw mwh permille x
      → P (blank_line ∷ lines) (with_system s n (with_use x kw mwh permille))
  pub costs : (lines : List Line) (s : State) → Sound s → P lines s → (n euros : ℕ) (x : System) → Costs s n euros x
      → P (euros_line euros 0 ∷ lines) (with_net (with_system s n (standing_at x (x.standing + euros))) (s.net + euros))
  pub takes_back : (lines : List Line) (s : State) → Sound s → P lines s → (n euros : ℕ) (x : System) → TakesBack s n euros x
      → P (euros_line 0 euros ∷ lines) (with_net (with_system s n (standing_at x (x.standing - euros))) (s.net - euros))
  pub passes : (lines : List Line) (s : State) → Sound s → P lines s → (n : ℕ) (x : System) → Passes m s n x
      → P (blank_line ∷ lines) (pass_state m s n x)
  pub settles : (lines : List Line) (s : State) → Sound s → P lines s → first_obstacle m s (numbers s) ≡ None
      → P (blank_line ∷ lines) (passed_in_turn m s (settle_order s))
  pub fixes : (lines : List Line) (s : State) → Sound s → P lines s → (n v₁ v₂ v₃ v₄ : ℕ) (x : System) (f : Fixing) → Fixes m s n (v₁ ∷ v₂ ∷ v₃ ∷ v₄ ∷ []) x f
      → P (fixing_line record { system = n; volumes = v₁ ∷ v₂ ∷ v₃ ∷ v₄ ∷ []; tariffs = f.tariffs } ∷ lines) (with_system s n (with_fixing x f))
  pub contracts : (lines : List Line) (s : State) → Sound s → P lines s → (n kw fee first last reading : ℕ) (x : System) (f : Fixing) → Contracts m s n kw fee first last reading x f
      → P (contracted_line s n kw fee first last reading ∷ lines) (with_contracts s (s.contracts ++ contract_made f n kw fee first last reading ∷ []))
  pub starts : (lines : List Line) (s : State) → Sound s → P lines s → (n kwmax reading : ℕ) (c : Contract) → Starts s n kwmax reading c
      → P (start_line record { contract = n; kwmax = kwmax; reading = reading } ∷ lines) (with_contract s n (with_draft c (Some record { kwmax = kwmax; reading = reading })))
  pub issues : (lines : List Line) (s : State) → Sound s → P lines s → (book n month : ℕ) (c : Contract) (d : Started) → Out m s book n month (c, d)
      → P (issued_line m s n c d ∷ lines) (with_contract s n (billed m s c d))
  pub tears : (lines : List Line) (s : State) → Sound s → P lines s → (book n month : ℕ) (c : Contract) (d : Started) → Out m s book n month (c, d)
      → P (blank_line ∷ lines) (with_contract s n (with_draft c None))

module _ (m : Makings) (P : List Line → State → Type 0) (keeps : Keeps m P) where
  -- P holds of what a call comes to, with the line that is noted of it.
  abbrev Kept : List Line → State → Call → Outcome → Type 0
  Kept lines s c o = P (noted c (reply_of o) lines) (state_of s o)

  kept_after : (lines : List Line) (s : State) → Sound s → P lines s → (c : Call) → Kept lines s c (outcome m s c)
  kept_after lines s v p (call_open level category) = accepted_open m s (Kept lines s (call_open level category)) (λ _. p) level category (λ ok. keeps.opens lines s v p level category ok)
  kept_after lines s v p (call_couple upper lower kw mwh) = accepted_couple m s (Kept lines s (call_couple upper lower kw mwh)) (λ _. p) upper lower kw mwh (λ above below ok. keeps.couples lines s v p upper lower kw mwh above below ok)
  kept_after lines s v p (call_use n kw mwh permille) = accepted_use m s (Kept lines s (call_use n kw mwh permille)) (λ _. p) n kw mwh permille (λ x ok. keeps.uses lines s v p n kw mwh permille x ok)
  kept_after lines s v p (call_cost n euros) = accepted_cost m s (Kept lines s (call_cost n euros)) (λ _. p) n euros (λ x ok. keeps.costs lines s v p n euros x ok)
  kept_after lines s v p (call_take_back n euros) = accepted_take_back m s (Kept lines s (call_take_back n euros)) (λ _. p) n euros (λ x ok. keeps.takes_back lines s v p n euros x ok)
  kept_after lines s v p (call_pass n) = accepted_pass m s (Kept lines s (call_pass n)) (λ _. p) n (λ x ok. keeps.passes lines s v p n x ok)
  kept_after lines s v p call_settle = accepted_settle m s (Kept lines s call_settle) (λ _. p) (λ free. keeps.settles lines s v p free)
  kept_after lines s v p (call_fix n v₁ v₂ v₃ v₄) = accepted_fix m s (Kept lines s (call_fix n v₁ v₂ v₃ v₄)) (λ _. p) n v₁ v₂ v₃ v₄ (λ x f ok. keeps.fixes lines s v p n v₁ v₂ v₃ v₄ x f ok)
  kept_after lines s v p (call_contract n kw fee first last reading) = accepted_contract m s (Kept lines s (call_contract n kw fee first last reading)) (λ _. p) n kw fee first last reading (λ x f ok. keeps.contracts lines s v p n kw fee first last reading x f ok)
  kept_after lines s v p (call_start n kwmax reading) = accepted_start m s (Kept lines s (call_start n kwmax reading)) (λ _. p) n kwmax reading (λ c ok. keeps.starts lines s v p n kwmax reading c ok)
  kept_after lines s v p (call_issue book n month) = accepted_issue m s (Kept lines s (call_issue book n month)) (λ _. p) book n month (λ c d ok. keeps.issues lines s v p book n month c d ok)
  kept_after lines s v p (call_tear book n month) = accepted_tear m s (Kept lines s (call_tear book n month)) (λ _. p) book n month (λ c d ok. keeps.tears lines s v p book n month c d ok)

  -- So it holds after every list of calls.
  pub kept_throughout : Lawful m → P [] begun → (calls : List Call) → P (journal m calls) (state_after m calls)
  kept_throughout law start [] = start
  kept_throughout law start (c ∷ calls) =
      kept_after (journal m calls) (state_after m calls) (sound_state_after m law calls) (kept_throughout law start calls) c

-- What holds of every accepted call holds of each of a list.
pub each_accepted : (m : Makings) (P : List Call → Call → List ℕ → Type 0) → ((older : List Call) (c : Call) (told : List ℕ) → reply m (state_after m older) c ≡ Ok told → P older c told) → (calls : List Call) → EachAccepted m P calls
each_accepted m P holds [] = tt
each_accepted m P holds (c ∷ calls) = (λ told accepted. holds calls c told accepted, each_accepted m P holds calls)
