-- What an accepted call has met. For each call: to show something of what it comes to, where it holds of every refusal, it is
-- enough to show it of the accepted outcome, with all that the tests told.
use Rattle.std.proofs.Common.{◌≡◌, ℕ, ◌+◌, ◌-◌, ◌<◌, ◌≤◌, true, false, not, ◌&&◌, ◌||◌, ltb, leb, List, [], ◌∷◌, ◌++◌, length, Some, None, Ok, Err, Option, Result, refl, arith}
use Rattle.std.proofs.lemmas.Bool.{and_parts, leb-false, leb-true, ltb-false, not-false, or_parts}
use Rattle.refusal.specs.declared.refusal.Refusal.{Refusal}
use Rattle.billing.specs.declared.fixings.Fixing.{Fixing}
use Rattle.billing.specs.Charges.{charge, largest_charge, largest_fee, largest_kw}
use Rattle.billing.specs.Fixings.{fixing_answer}
use Rattle.billing.specs.Metering.{largest_line}
use Rattle.calendar.specs.Days.{is_day, month_of}
use Rattle.edition.specs.Editions.{percentages}
use Rattle.edition.specs.Entered.{is_category}
use Rattle.sharing.specs.Sharing.{largest_amount}
use Rattle.passing.specs.Passing.{largest_flow}
use Rattle.year_model.specs.declared.tables.Contract.{Contract}
use Rattle.year_model.specs.declared.tables.Started.{Started}
use Rattle.year_model.specs.declared.tables.System.{System}
use Rattle.year_model.specs.Bills.{billed, contract_with, contracted, draft_out, issue_with, issued_draft, kwh_line, kwmax_line, month_issued, month_waived, most_contracts, new_contract, start_with, started_draft, tariff_at, tear_with, torn_draft, with_draft}
use Rattle.year_model.specs.Calls.{Outcome, largest_number}
use Rattle.year_model.specs.Fixes.{fix_with, fixed, unfixed_above, with_fixing}
use Rattle.year_model.specs.Makings.{Makings}
use Rattle.year_model.specs.Passes.{first_obstacle, in_the_way, landed_in_turn, numbers, pass_state, pass_with, passed, passed_in_turn, settle_order, settle_with, settled}
use Rattle.year_model.specs.State.{State, is_fixed, rank, with_contract, with_contracts, with_couplings, with_net, with_system, with_systems}
use Rattle.year_model.specs.Systems.{below_count, charged, coupled, coupled_with, is_level, joining_count, most_below, most_couplings, most_systems, new_system, opened, standing_at, taken_back, used, with_use}
use Rattle.year_model.proofs.Drafts.{Out, out_from_draft}
use Rattle.year_model.proofs.Lookups.{Entry}
use Rattle.year_model.proofs.Outcomes.{Unfixed, past_entry, past_limits, past_test, past_unfixed}

-- what an accepted open has met
pub record Opens (m : Makings) (s : State) (level category : ℕ) : Type 0 where
  pub levelled : is_level level ≡ true
  pub categorised : is_category category ≡ true
  pub known : m.known category ≡ true
  pub room : length s.systems < most_systems

-- what an accepted couple has met
pub record Couples (s : State) (upper lower kw mwh : ℕ) (above below : System) : Type 0 where
  pub at_upper : Entry s.systems upper above
  pub at_lower : Entry s.systems lower below
  pub kw_fits : kw ≤ largest_flow
  pub mwh_fits : mwh ≤ largest_flow
  pub room : length s.couplings < most_couplings
  pub few : below_count s.couplings upper < most_below
  pub upper_unfixed : is_fixed above ≡ false
  pub lower_unfixed : is_fixed below ≡ false
  pub rises : rank above < rank below
  pub apart : joining_count s.couplings upper lower ≡ 0

-- what an accepted use has met
pub record Uses (s : State) (n kw mwh permille : ℕ) (x : System) : Type 0 where
  pub at : Unfixed s n x
  pub kw_fits : kw ≤ largest_flow
  pub mwh_fits : mwh ≤ largest_flow
  pub permille_fits : permille ≤ 1000

-- what an accepted cost has met
pub record Costs (s : State) (n euros : ℕ) (x : System) : Type 0 where
  pub at : Unfixed s n x
  pub fits : s.net + euros ≤ largest_amount

-- what an accepted take back has met
pub record TakesBack (s : State) (n euros : ℕ) (x : System) : Type 0 where
  pub at : Unfixed s n x
  pub stands : euros ≤ x.standing

-- what an accepted pass has met
pub record Passes (m : Makings) (s : State) (n : ℕ) (x : System) : Type 0 where
  pub at : Unfixed s n x
  pub free : in_the_way m s n x ≡ None

-- what an accepted fix has met
pub record Fixes (m : Makings) (s : State) (n : ℕ) (volumes : List ℕ) (x : System) (f : Fixing) : Type 0 where
  pub at : Unfixed s n x
  pub settled : x.standing ≡ 0
  pub all_above : unfixed_above s n ≡ 0
  pub told : fixing_answer m.share x.landed (percentages m.percent x.category) volumes ≡ Ok f

-- what an accepted contract has met
pub record Contracts (m : Makings) (s : State) (n kw fee first last reading : ℕ) (x : System) (f : Fixing) : Type 0 where
  pub at : Entry s.systems n x
  pub fixed : x.fixing ≡ Some f
  pub kw_fits : kw ≤ largest_kw
  pub fee_fits : fee ≤ largest_fee
  pub begins : is_day m.calendar first ≡ true
  pub ends : is_day m.calendar last ≡ true
  pub ordered : first ≤ last
  pub reads : reading ≤ largest_number
  pub room : length s.contracts < most_contracts
  pub charged : charge fee kw (tariff_at f 1) (tariff_at f 4) ≤ largest_charge

-- what an accepted start has met
pub record Starts (s : State) (n kwmax reading : ℕ) (c : Contract) : Type 0 where
  pub at : Entry s.contracts n c
  pub none_out : c.started ≡ None
  pub kwmax_fits : kwmax ≤ largest_kw
  pub reads : reading ≤ largest_number
  pub left : c.month ≤ month_of c.last
  pub rises : c.reading ≤ reading
  pub kwmax_pays : kwmax_line s c kwmax ≤ largest_line
  pub kwh_pays : kwh_line s c reading ≤ largest_line

-- Q is what is to be shown of what a call comes to, and holds of every refusal.
module _ (m : Makings) (s : State) (Q : Outcome → Type 0) (refused : (refusal : Refusal) → Q (Err refusal)) where
  -- Open comes to a refusal, or to one system more.
  pub accepted_open : (level category : ℕ) → (Opens m s level category → Q (Ok (with_systems s (s.systems ++ new_system level category ∷ []), (length s.systems + 1) ∷ []))) → Q (opened m s level category)
  accepted_open level category goes_on =
      past_test s Q refused (not (is_level level)) _ _ (λ levelled.
      past_test s Q refused (not (is_category category)) _ _ (λ categorised.
      past_test s Q refused (not (m.known category)) _ _ (λ known.
      past_test s Q refused (leb most_systems (length s.systems)) _ _ (λ room.
      goes_on record {
        levelled = not-false (is_level level) levelled;
        categorised = not-false (is_category category) categorised;
        known = not-false (m.known category) known;
        room = leb-false most_systems (length s.systems) room;
      }))))

  -- Couple comes to a refusal, or to one coupling more.
  pub accepted_couple : (upper lower kw mwh : ℕ)
      → ((above below : System) → Couples s upper lower kw mwh above below → Q (Ok (with_couplings s (s.couplings ++ record { upper = upper; lower = lower; kw = kw; mwh = mwh } ∷ []), (length s.couplings + 1) ∷ [])))
      → Q (coupled s upper lower kw mwh)
  accepted_couple upper lower kw mwh goes_on =
      past_limits s Q refused ((upper, largest_number) ∷ (lower, largest_number) ∷ (kw, largest_flow) ∷ (mwh, largest_flow) ∷ []) _ (λ bounds.
      past_entry s Q refused s.systems upper _ (λ above at_upper.
      past_entry s Q refused s.systems lower (λ below. coupled_with s upper lower kw mwh above below) (λ below at_lower.
      past_test s Q refused (leb most_couplings (length s.couplings) || leb most_below (below_count s.couplings upper)) _ _ (λ room.
      past_test s Q refused (is_fixed above || is_fixed below) _ _ (λ unfixed.
      past_test s Q refused (leb (rank below) (rank above)) _ _ (λ rises.
      past_test s Q refused (ltb 0 (joining_count s.couplings upper lower)) _ _ (λ apart.
      let rooms = or_parts (leb most_couplings (length s.couplings)) (leb most_below (below_count s.couplings upper)) room in
      let free = or_parts (is_fixed above) (is_fixed below) unfixed in
      goes_on above below record {
        at_upper = at_upper;
        at_lower = at_lower;
        kw_fits = bounds.1.1.0;
        mwh_fits = bounds.1.1.1.0;
        room = leb-false most_couplings (length s.couplings) rooms.0;
        few = leb-false most_below (below_count s.couplings upper) rooms.1;
        upper_unfixed = free.0;
        lower_unfixed = free.1;
        rises = leb-false (rank below) (rank above) rises;
        apart = omega (arith, ltb-false 0 (joining_count s.couplings upper lower) apart);
      })))))))

  -- Use comes to a refusal, or to a system with other consumers.
  pub accepted_use : (n kw mwh permille : ℕ) → ((x : System) → Uses s n kw mwh permille x → Q (Ok (with_system s n (with_use x kw mwh permille), n ∷ []))) → Q (used s n kw mwh permille)
  accepted_use n kw mwh permille goes_on =
      past_limits s Q refused ((n, largest_number) ∷ (kw, largest_flow) ∷ (mwh, largest_flow) ∷ (permille, 1000) ∷ []) _ (λ bounds.
      past_unfixed s Q refused n _ (λ x at.
      goes_on x record { at = at; kw_fits = bounds.1.0; mwh_fits = bounds.1.1.0; permille_fits = bounds.1.1.1.0 }))

  -- Cost comes to a refusal, or to more euros standing at a system.
  pub accepted_cost : (n euros : ℕ) → ((x : System) → Costs s n euros x → Q (Ok (with_net (with_system s n (standing_at x (x.standing + euros))) (s.net + euros), (x.standing + euros) ∷ []))) → Q (charged s n euros)
  accepted_cost n euros goes_on =
      past_limits s Q refused ((n, largest_number) ∷ (euros, largest_amount) ∷ []) _ (λ bounds.
      past_unfixed s Q refused n _ (λ x at.
      past_test s Q refused (ltb largest_amount (s.net + euros)) _ _ (λ fits.
      goes_on x record { at = at; fits = ltb-false largest_amount (s.net + euros) fits })))

  -- Take back comes to a refusal, or to fewer euros standing at a system.
  pub accepted_take_back : (n euros : ℕ) → ((x : System) → TakesBack s n euros x → Q (Ok (with_net (with_system s n (standing_at x (x.standing - euros))) (s.net - euros), (x.standing - euros) ∷ []))) → Q (taken_back s n euros)
  accepted_take_back n euros goes_on =
      past_limits s Q refused ((n, largest_number) ∷ (euros, largest_amount) ∷ []) _ (λ bounds.
      past_unfixed s Q refused n _ (λ x at.
      past_test s Q refused (ltb x.standing euros) _ _ (λ stands.
      goes_on x record { at = at; stands = ltb-false x.standing euros stands })))

  -- Pass, with what stands in the way given.
  accepted_pass_with : (n : ℕ) (x : System) → Unfixed s n x → (way : Option Refusal) → in_the_way m s n x ≡ way → (Passes m s n x → Q (Ok (pass_state m s n x, x.standing ∷ []))) → Q (pass_with m s n x way)
  accepted_pass_with n x at None free goes_on = goes_on record { at = at; free = free }
  accepted_pass_with n x at (Some refusal) stuck goes_on = refused refusal

  -- Pass comes to a refusal, or to the state after a pass that nothing stands in the way of.
  pub accepted_pass : (n : ℕ) → ((x : System) → Passes m s n x → Q (Ok (pass_state m s n x, x.standing ∷ []))) → Q (passed m s n)
  accepted_pass n goes_on =
      past_limits s Q refused ((n, largest_number) ∷ []) _ (λ bounds.
      past_unfixed s Q refused n _ (λ x at.
      accepted_pass_with n x at (in_the_way m s n x) refl (goes_on x)))

  -- Settle, with the first obstacle given.
  accepted_settle_with : (way : Option Refusal) → first_obstacle m s (numbers s) ≡ way
      → (first_obstacle m s (numbers s) ≡ None → Q (Ok (passed_in_turn m s (settle_order s), landed_in_turn m s (settle_order s) ∷ []))) → Q (settle_with m s way)
  accepted_settle_with None free goes_on = goes_on free
  accepted_settle_with (Some refusal) stuck goes_on = refused refusal

  -- Settle comes to a refusal, or to the state after passes in turn.
  pub accepted_settle : (first_obstacle m s (numbers s) ≡ None → Q (Ok (passed_in_turn m s (settle_order s), landed_in_turn m s (settle_order s) ∷ []))) → Q (settled m s)
  accepted_settle goes_on = accepted_settle_with (first_obstacle m s (numbers s)) refl goes_on

  -- Fix, with the fixing or its refusal given.
  accepted_fix_with : (n : ℕ) (x : System) (told : Result Fixing Refusal) → ((f : Fixing) → told ≡ Ok f → Q (Ok (with_system s n (with_fixing x f), f.tariffs))) → Q (fix_with s n x told)
  accepted_fix_with n x (Ok f) goes_on = goes_on f refl
  accepted_fix_with n x (Err refusal) goes_on = refused refusal

  -- Fix comes to a refusal, or to a system with tariffs.
  pub accepted_fix : (n v₁ v₂ v₃ v₄ : ℕ) → ((x : System) (f : Fixing) → Fixes m s n (v₁ ∷ v₂ ∷ v₃ ∷ v₄ ∷ []) x f → Q (Ok (with_system s n (with_fixing x f), f.tariffs))) → Q (fixed m s n v₁ v₂ v₃ v₄)
  accepted_fix n v₁ v₂ v₃ v₄ goes_on =
      let volumes : List ℕ = v₁ ∷ v₂ ∷ v₃ ∷ v₄ ∷ [] in
      past_limits s Q refused ((n, largest_number) ∷ (v₁, largest_number) ∷ (v₂, largest_number) ∷ (v₃, largest_number) ∷ (v₄, largest_number) ∷ []) _ (λ bounds.
      past_unfixed s Q refused n _ (λ x at.
      past_test s Q refused (ltb 0 x.standing || ltb 0 (unfixed_above s n)) _ _ (λ settled.
      let parts = or_parts (ltb 0 x.standing) (ltb 0 (unfixed_above s n)) settled in
      accepted_fix_with n x (fixing_answer m.share x.landed (percentages m.percent x.category) volumes) (λ f told.
      goes_on x f record {
        at = at;
        settled = omega (arith, ltb-false 0 x.standing parts.0);
        all_above = omega (arith, ltb-false 0 (unfixed_above s n) parts.1);
        told = told;
      }))))

  -- Contract, with the fixing of the system given.
  accepted_contract_with : (n kw fee first last reading : ℕ) (fixing : Option Fixing)
      → ((f : Fixing) → fixing ≡ Some f → charge fee kw (tariff_at f 1) (tariff_at f 4) ≤ largest_charge
      → Q (Ok (with_contracts s (s.contracts ++ new_contract n kw fee first last reading (charge fee kw (tariff_at f 1) (tariff_at f 4)) ∷ []), (length s.contracts + 1) ∷ [])))
      → Q (contract_with s n kw fee first last reading fixing)
  accepted_contract_with n kw fee first last reading None goes_on = refused _
  accepted_contract_with n kw fee first last reading (Some f) goes_on =
      past_test s Q refused (ltb largest_charge (charge fee kw (tariff_at f 1) (tariff_at f 4))) _ _ (λ small.
      goes_on f refl (ltb-false largest_charge (charge fee kw (tariff_at f 1) (tariff_at f 4)) small))

  -- Contract comes to a refusal, or to one contract more.
  pub accepted_contract : (n kw fee first last reading : ℕ)
      → ((x : System) (f : Fixing) → Contracts m s n kw fee first last reading x f
      → Q (Ok (with_contracts s (s.contracts ++ new_contract n kw fee first last reading (charge fee kw (tariff_at f 1) (tariff_at f 4)) ∷ []), (length s.contracts + 1) ∷ [])))
      → Q (contracted m s n kw fee first last reading)
  accepted_contract n kw fee first last reading goes_on =
      past_limits s Q refused ((n, largest_number) ∷ (kw, largest_kw) ∷ (fee, largest_fee) ∷ []) _ (λ bounds.
      past_test s Q refused (not (is_day m.calendar first)) _ _ (λ begins.
      past_test s Q refused (not (is_day m.calendar last && leb first last)) _ _ (λ ends.
      past_test s Q refused (ltb largest_number reading) _ _ (λ reads.
      past_entry s Q refused s.systems n _ (λ x at.
      past_test s Q refused (leb most_contracts (length s.contracts)) _ _ (λ room.
      accepted_contract_with n kw fee first last reading x.fixing (λ f is charged.
      let parts = and_parts (is_day m.calendar last) (leb first last) (not-false (is_day m.calendar last && leb first last) ends) in
      goes_on x f record {
        at = at;
        fixed = is;
        kw_fits = bounds.1.0;
        fee_fits = bounds.1.1.0;
        begins = not-false (is_day m.calendar first) begins;
        ends = parts.0;
        ordered = leb-true first last parts.1;
        reads = ltb-false largest_number reading reads;
        room = leb-false most_contracts (length s.contracts) room;
        charged = charged;
      })))))))

  -- Start, with the draft that is out, if any, given.
  accepted_start_with : (n kwmax reading : ℕ) (c : Contract) → Entry s.contracts n c → kwmax ≤ largest_kw → reading ≤ largest_number → (draft : Option Started) → c.started ≡ draft
      → (Starts s n kwmax reading c → Q (Ok (with_contract s n (with_draft c (Some record { kwmax = kwmax; reading = reading })), m.book ∷ n ∷ c.month ∷ [])))
      → Q (start_with m s n kwmax reading c draft)
  accepted_start_with n kwmax reading c at fits reads (Some d) out goes_on = refused _
  accepted_start_with n kwmax reading c at fits reads None none goes_on =
      past_test s Q refused (ltb (month_of c.last) c.month) _ _ (λ left.
      past_test s Q refused (ltb reading c.reading) _ _ (λ rises.
      past_test s Q refused (ltb largest_line (kwmax_line s c kwmax) || ltb largest_line (kwh_line s c reading)) _ _ (λ pays.
      let lines = or_parts (ltb largest_line (kwmax_line s c kwmax)) (ltb largest_line (kwh_line s c reading)) pays in
      goes_on record {
        at = at;
        none_out = none;
        kwmax_fits = fits;
        reads = reads;
        left = ltb-false (month_of c.last) c.month left;
        rises = ltb-false reading c.reading rises;
        kwmax_pays = ltb-false largest_line (kwmax_line s c kwmax) lines.0;
        kwh_pays = ltb-false largest_line (kwh_line s c reading) lines.1;
      })))

  -- Start comes to a refusal, or to a contract with a draft out.
  pub accepted_start : (n kwmax reading : ℕ)
      → ((c : Contract) → Starts s n kwmax reading c → Q (Ok (with_contract s n (with_draft c (Some record { kwmax = kwmax; reading = reading })), m.book ∷ n ∷ c.month ∷ [])))
      → Q (started_draft m s n kwmax reading)
  accepted_start n kwmax reading goes_on =
      past_limits s Q refused ((n, largest_number) ∷ (kwmax, largest_kw) ∷ (reading, largest_number) ∷ []) _ (λ bounds.
      past_entry s Q refused s.contracts n _ (λ c at.
      accepted_start_with n kwmax reading c at bounds.1.0 bounds.1.1.0 c.started refl (goes_on c)))

  -- Issue, with the contract and its draft, if it is out, given.
  accepted_issue_with : (n : ℕ) (looked : Option (Contract × Started))
      → ((out : Contract × Started) → looked ≡ Some out
      → Q (Ok (with_contract s n (billed m s out.0 out.1), n ∷ out.0.month ∷ month_issued m out.0 out.0.month ∷ kwmax_line s out.0 out.1.kwmax ∷ kwh_line s out.0 out.1.reading ∷ month_waived m out.0 out.0.month ∷ [])))
      → Q (issue_with m s n looked)
  accepted_issue_with n None goes_on = refused _
  accepted_issue_with n (Some out) goes_on = goes_on out refl

  -- Issue comes to a refusal, or to a contract with a month billed.
  pub accepted_issue : (book n month : ℕ)
      → ((c : Contract) (d : Started) → Out m s book n month (c, d)
      → Q (Ok (with_contract s n (billed m s c d), n ∷ c.month ∷ month_issued m c c.month ∷ kwmax_line s c d.kwmax ∷ kwh_line s c d.reading ∷ month_waived m c c.month ∷ [])))
      → Q (issued_draft m s book n month)
  accepted_issue book n month goes_on =
      accepted_issue_with n (draft_out m s book n month) (λ out is. goes_on out.0 out.1 (out_from_draft m s book n month out is))

  -- Tear, with the contract and its draft, if it is out, given.
  accepted_tear_with : (n : ℕ) (looked : Option (Contract × Started)) → ((out : Contract × Started) → looked ≡ Some out → Q (Ok (with_contract s n (with_draft out.0 None), []))) → Q (tear_with s n looked)
  accepted_tear_with n None goes_on = refused _
  accepted_tear_with n (Some out) goes_on = goes_on out refl

  -- Tear comes to a refusal, or to a contract with no draft out.
  pub accepted_tear : (book n month : ℕ) → ((c : Contract) (d : Started) → Out m s book n month (c, d) → Q (Ok (with_contract s n (with_draft c None), []))) → Q (torn_draft m s book n month)
  accepted_tear book n month goes_on =
      accepted_tear_with n (draft_out m s book n month) (λ out is. goes_on out.0 out.1 (out_from_draft m s book n month out is))
