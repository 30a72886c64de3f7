-- The landed euros come back, carrier by carrier.
use Rattle.std.proofs.Common.{◌≡◌, ℕ, zero, suc, ◌+◌, ◌*◌, ◌<◌, ◌≤◌, Bool, true, false, List, length, get_or, sum, sym, refl, ap, ◌∙◌, ⊎_elim, zero-mul, arith}
use Rattle.std.proofs.lemmas.List.FromFn.{get_or-map-range_with_len}
use Rattle.std.proofs.lemmas.Nat.{div-add-mod', mod_below}
use Rattle.std.proofs.lemmas.Bool.{or_from, true≢false, true_from_ne_false, cases_lt, eq-eqb, ne_eqb}
use Rattle.std.proofs.lemmas.Bool.Decides.{nat_tests}
use Rattle.sharing.specs.Sharing.{Meaning, Sharable, SharingLaw, largest_amount, sum_below}
use Rattle.sharing.proofs.SharingLaws.{no_weight_no_share}
use Rattle.billing.specs.Fixings.{FixedWhole, allotment, carriers, each_carrier, fixed_out, fixing_out_of_bounds, remainder, remainder_of, tariff, tariff_of, unfit, volumes_unfit}

-- one carrier's volume fits its percentage
pub fit_volume : (percentage volume : ℕ) → unfit percentage volume ≡ false → (0 < percentage → 0 < volume) × (percentage ≡ 0 → volume ≡ 0)
fit_volume percentage volume fit = (λ h. grind (arith, nat_tests), λ h. grind (arith, nat_tests))

-- each of the four does
pub fit_volumes : (percentages volumes : List ℕ) → volumes_unfit percentages volumes ≡ false → (i : ℕ) → i < carriers → unfit (get_or percentages i 0) (get_or volumes i 0) ≡ false
fit_volumes percentages volumes fit zero h = grind (arith, nat_tests)
fit_volumes percentages volumes fit (suc zero) h = grind (arith, nat_tests)
fit_volumes percentages volumes fit (suc (suc zero)) h = grind (arith, nat_tests)
fit_volumes percentages volumes fit (suc (suc (suc zero))) h = grind (arith, nat_tests)
fit_volumes percentages volumes fit (suc (suc (suc (suc n)))) h = absurd (omega arith)

-- each of the four does, said of a carrier that is used
pub used_volumes : (percentages volumes : List ℕ) → volumes_unfit percentages volumes ≡ false → (i : ℕ) → i < carriers → 0 < get_or percentages i 0 → 0 < get_or volumes i 0
used_volumes percentages volumes fit i h = (fit_volume (get_or percentages i 0) (get_or volumes i 0) (fit_volumes percentages volumes fit i h)).0

-- some carrier is unfit exactly if one of the four is
pub some_unfit : (some : Bool) (percentages volumes : List ℕ) → (some ≡ false → (i : ℕ) → i < carriers → unfit (get_or percentages i 0) (get_or volumes i 0) ≡ false) → (some ≡ true → (i : ℕ) × (i < carriers) × (unfit (get_or percentages i 0) (get_or volumes i 0) ≡ true)) → some ≡ volumes_unfit percentages volumes
some_unfit false percentages volumes none found =
    let each = none refl in
    sym (or_from _ _ (each 0 (omega arith)) (or_from _ _ (each 1 (omega arith)) (or_from _ _ (each 2 (omega arith)) (each 3 (omega arith)))))
some_unfit true percentages volumes none found =
    let here = found refl in
    sym (true_from_ne_false _ (λ fit. true≢false (sym here.2 ∙ fit_volumes percentages volumes fit here.0 here.1)))

-- a used carrier: tariff times volume and the remainder are its euros
used_carrier : (percentage euros volume : ℕ) → 0 < percentage → 0 < volume → (tariff_of percentage euros volume * volume + remainder_of percentage euros volume ≡ 10000 * euros) × (remainder_of percentage euros volume < volume)
used_carrier percentage euros volume some fit =
    let test = ne_eqb percentage 0 (λ e. omega arith) in
    (rw test (div-add-mod' (10000 * euros) volume), rw test (mod_below (10000 * euros) volume fit))

-- an unused carrier has nothing
unused_carrier : (percentage euros volume : ℕ) → percentage ≡ 0 → (tariff_of percentage euros volume ≡ 0) × (remainder_of percentage euros volume ≡ 0)
unused_carrier percentage euros volume none = let test = eq-eqb percentage 0 none in (rw test refl, rw test refl)

pub at_carrier : (f : ℕ → ℕ) (i : ℕ) → i < carriers → get_or (each_carrier f) i 0 ≡ f i
at_carrier f i h = get_or-map-range_with_len f 0 carriers i i 0 h (omega arith)

module _ (longest : ℕ) (share : Meaning) (law : SharingLaw longest share) (twelve : 12 ≤ longest) (landed : ℕ) (percentages volumes : List ℕ)
    (small : landed ≤ largest_amount) (four : length percentages ≡ carriers) (hundred : sum percentages ≡ 100) (fit : volumes_unfit percentages volumes ≡ false) where
  pub percentages_sharable : Sharable longest landed percentages
  percentages_sharable = record { small = small; light = omega arith; short = omega arith; some = omega arith }

  -- what holds of one carrier, used or not
  carrier_whole : (i : ℕ) → i < carriers → tariff share landed percentages volumes i * get_or volumes i 0 + remainder share landed percentages volumes i ≡ 10000 * allotment share landed percentages i
  carrier_whole i h =
      let fits = fit_volume (get_or percentages i 0) (get_or volumes i 0) (fit_volumes percentages volumes fit i h) in
      ⊎_elim
      (λ (some : 0 < get_or percentages i 0). (used_carrier (get_or percentages i 0) (allotment share landed percentages i) (get_or volumes i 0) some (fits.0 some)).0)
      (λ (none : get_or percentages i 0 ≤ 0).
      let zero : get_or percentages i 0 ≡ 0 = omega arith in
      let nothing = unused_carrier (get_or percentages i 0) (allotment share landed percentages i) (get_or volumes i 0) zero in
      let no_euros = no_weight_no_share longest share law landed percentages i percentages_sharable (omega arith) zero in
      let no_tariff = ap (λ t. t * get_or volumes i 0) nothing.0 ∙ zero-mul (get_or volumes i 0) in
      let none_due = nothing.1 in
      omega arith)
      (cases_lt 0 (get_or percentages i 0))

  allotments_add_up : allotment share landed percentages 0 + allotment share landed percentages 1 + allotment share landed percentages 2 + allotment share landed percentages 3 ≡ landed
  allotments_add_up = omega (arith, sym (ap (sum_below (share landed percentages)) four) ∙ (law landed percentages percentages_sharable).0)

  pub fixed_whole : FixedWhole landed percentages (fixed_out share landed percentages volumes)
  fixed_whole =
      let all = allotments_add_up in
      let one = carrier_whole 0 (omega arith) in
      let two = carrier_whole 1 (omega arith) in
      let three = carrier_whole 2 (omega arith) in
      let last = carrier_whole 3 (omega arith) in
      record {
        whole = omega arith;
        used = λ i h some.
            let fits = fit_volume (get_or percentages i 0) (get_or volumes i 0) (fit_volumes percentages volumes fit i h) in
            let below = (used_carrier (get_or percentages i 0) (allotment share landed percentages i) (get_or volumes i 0) some (fits.0 some)).1 in
            rw (at_carrier (remainder share landed percentages volumes) i h) below;
        unused = λ i h none.
            let fits = fit_volume (get_or percentages i 0) (get_or volumes i 0) (fit_volumes percentages volumes fit i h) in
            let nothing = unused_carrier (get_or percentages i 0) (allotment share landed percentages i) (get_or volumes i 0) none in
            let no_euros = no_weight_no_share longest share law landed percentages i percentages_sharable (omega arith) none in
            (at_carrier (allotment share landed percentages) i h ∙ no_euros, (fits.1 none, (at_carrier (tariff share landed percentages volumes) i h ∙ nothing.0, at_carrier (remainder share landed percentages volumes) i h ∙ nothing.1)));
      }

pub within_bounds : (landed : ℕ) (percentages volumes : List ℕ) → fixing_out_of_bounds landed percentages volumes ≡ false → (landed ≤ largest_amount) × (sum percentages ≡ 100)
within_bounds landed percentages volumes bounds = (grind (arith, nat_tests), grind (arith, nat_tests))
