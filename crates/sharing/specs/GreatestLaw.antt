-- The rule of the greatest remainder keeps the law of sharing.
use Rattle.std.specs.Prelude.{◌≡◌, ℕ, zero, suc, ◌+◌, ◌*◌, ◌<◌, ◌≤◌, Bool, true, false, cond, ltb, List, length, take, sum, nat_lt, slice_index}
use Rattle.std.proofs.Common.{sym, ap, ◌∙◌, ⊎_elim, add-zero, mul-add, mul-zero, zero-mul, add-mul, one-mul, mul-le-mul_left, le_of_mul-le-mul_right, add-one, arith}
use Rattle.std.proofs.lemmas.List.{take_all}
use Rattle.std.proofs.lemmas.List.Sums.{sum_by_more, sum_by-take-le}
use Rattle.std.proofs.lemmas.Nat.{div-add-mod', mod_below}
use Rattle.std.proofs.lemmas.Bool.{cases_Bool, cases_lt, ltb-true}
use Rattle.std.proofs.lemmas.Bool.Decides.{nat_tests}
use Rattle.sharing.specs.Sharing.{sum_below, SharingLaw, Near}
use Rattle.sharing.specs.Greatest.{rounded_share, remainder, ahead, rank_among, rank, count_below, left_over, greatest_share}
use Rattle.sharing.specs.Counting.{sum_plus}
use Rattle.sharing.specs.Division.{mul_diff}
use Rattle.sharing.specs.Ranking.{count_places}

-- a remainder is below the total, and is 0 or ahead of 0
ahead_weighs : (rj j ri i t : ℕ) → ri ≡ 0 → rj < t → rj ≤ cond (ahead rj j ri i) 1 0 * t
ahead_weighs rj j ri i t none below =
    ⊎_elim
    (λ (l : 0 < rj).
    let first : ahead rj j ri i ≡ true = grind (arith, nat_tests) in
    let whole = ap (λ (x : Bool). cond {A = ℕ} x 1 0 * t) first ∙ one-mul t in
    omega arith)
    (λ (l : rj ≤ 0). omega arith)
    (cases_lt 0 rj)

-- `ahead` is a strict order
module _ (rem : ℕ → ℕ) where
  ahead_irrefl : (i : ℕ) → ahead (rem i) i (rem i) i ≡ false
  ahead_irrefl i = grind (arith, nat_tests)

  ahead_trans : (i j k : ℕ) → ahead (rem i) i (rem j) j ≡ true → ahead (rem j) j (rem k) k ≡ true → ahead (rem i) i (rem k) k ≡ true
  ahead_trans i j k p q = grind (arith, nat_tests)

  ahead_total : (i j : ℕ) → i < j → ahead (rem i) i (rem j) j ≡ false → ahead (rem j) j (rem i) i ≡ true
  ahead_total i j l p = grind (arith, nat_tests)

  pub count_ranks : (n k : ℕ) → k ≤ n → count_below (λ i. ltb (rank_among rem n i) k) n ≡ k
  count_ranks = count_places (λ j i. ahead (rem j) j (rem i) i) ahead_irrefl ahead_trans ahead_total

module _ (amount : ℕ) (ws : List ℕ) (some : 0 < sum ws) where
  -- the parts and the remainders of the first n positions
  parts_below : (n : ℕ) → n ≤ length ws → sum_below (rounded_share amount ws) n * sum ws + sum_below (remainder amount ws) n ≡ amount * sum (take n ws)
  parts_below zero h = omega (arith, zero-mul (sum ws), mul-zero amount)
  parts_below (suc n) h =
      let before = parts_below n (omega arith) in
      let here = div-add-mod' (amount * slice_index ws n) (sum ws) in
      let split = add-mul (sum_below (rounded_share amount ws) n) (rounded_share amount ws n) (sum ws) in
      let more = ap (λ s. amount * s) (ap (λ m. sum (take m ws)) (sym (add-one n)) ∙ sum_by_more (λ x. x) ws n 0 h) ∙ mul-add amount (sum (take n ws)) (slice_index ws n) in
      omega arith

  -- the parts are never more than the amount
  pub rounded_within : (n : ℕ) → n ≤ length ws → sum_below (rounded_share amount ws) n ≤ amount
  rounded_within n h =
      let parts = parts_below n h in
      let under = mul-le-mul_left amount (sum_by-take-le (λ x. x) ws n) in
      let times : sum_below (rounded_share amount ws) n * sum ws ≤ amount * sum ws = omega arith in
      le_of_mul-le-mul_right times some

  -- the euros left over are the remainders together
  left_over_times : left_over amount ws * sum ws ≡ sum_below (remainder amount ws) (length ws)
  left_over_times =
      let parts = parts_below (length ws) (omega arith) ∙ ap (λ s. amount * sum s) (take_all (length ws) ws (omega arith)) in
      let diff = mul_diff amount (sum_below (rounded_share amount ws) (length ws)) (sum ws) (rounded_within (length ws) (omega arith)) in
      omega arith

  remainders_below : (n : ℕ) → sum_below (remainder amount ws) n ≤ n * sum ws
  remainders_below zero = omega (arith, zero-mul (sum ws))
  remainders_below (suc n) =
      let before = remainders_below n in
      let here = mod_below (amount * slice_index ws n) (sum ws) some in
      let split = rw (add-one n) at (add-mul n 1 (sum ws)) in
      omega (arith, one-mul (sum ws))

  left_over_within : left_over amount ws ≤ length ws
  left_over_within =
      let all = remainders_below (length ws) in
      let times : left_over amount ws * sum ws ≤ length ws * sum ws = omega (arith, left_over_times) in
      le_of_mul-le-mul_right times some

  -- before a position with no remainder stands each one that has some
  remainders_before : (i : ℕ) → remainder amount ws i ≡ 0 → (n : ℕ) → sum_below (remainder amount ws) n ≤ rank_among (remainder amount ws) n i * sum ws
  remainders_before i none zero = omega (arith, zero-mul (sum ws))
  remainders_before i none (suc n) =
      let before = remainders_before i none n in
      let below = mod_below (amount * slice_index ws n) (sum ws) some in
      let one = cond {A = ℕ} (ahead (remainder amount ws n) n (remainder amount ws i) i) 1 0 in
      let split = add-mul (rank_among (remainder amount ws) n i) one (sum ws) in
      let here = ahead_weighs (remainder amount ws n) n (remainder amount ws i) i (sum ws) none below in
      omega arith

  extra_has_remainder : (i : ℕ) → rank amount ws i < left_over amount ws → 0 < remainder amount ws i
  extra_has_remainder i l =
      ⊎_elim
      (λ (l' : 0 < remainder amount ws i). l')
      (λ (none : remainder amount ws i ≤ 0).
      let all = remainders_before i (omega arith) (length ws) in
      let times : left_over amount ws * sum ws ≤ rank amount ws i * sum ws = omega (arith, left_over_times) in
      let over = le_of_mul-le-mul_right times some in
      absurd (omega arith))
      (cases_lt 0 (remainder amount ws i))

  all : sum_below (greatest_share amount ws) (length ws) ≡ amount
  all =
      let plus = sum_plus (rounded_share amount ws) (λ i. cond (nat_lt (rank amount ws i) (left_over amount ws)) 1 0) (length ws) in
      let extra = count_ranks (remainder amount ws) (length ws) (left_over amount ws) left_over_within in
      let within = rounded_within (length ws) (omega arith) in
      omega arith

  near : (i : ℕ) → i < length ws → Near (greatest_share amount ws i) (sum ws) amount (slice_index ws i)
  near i h =
      let part = rounded_share amount ws i in
      let whole = div-add-mod' (amount * slice_index ws i) (sum ws) in
      let below = mod_below (amount * slice_index ws i) (sum ws) some in
      ⊎_elim
      (λ (e : ltb (rank amount ws i) (left_over amount ws) ≡ true).
      let rest = extra_has_remainder i (ltb-true (rank amount ws i) (left_over amount ws) e) in
      let times = ap (λ x. (part + cond x 1 0) * sum ws) e ∙ add-mul part 1 (sum ws) in
      let one = one-mul (sum ws) in
      (omega arith, omega arith))
      (λ (e : ltb (rank amount ws i) (left_over amount ws) ≡ false).
      let times = ap (λ x. (part + cond x 1 0) * sum ws) e ∙ ap (λ p. p * sum ws) (add-zero part) in
      (omega arith, omega arith))
      (cases_Bool (nat_lt (rank amount ws i) (left_over amount ws)))

pub greatest_law : (longest : ℕ) → SharingLaw longest greatest_share
greatest_law longest amount ws sharable = (all amount ws sharable.some, near amount ws sharable.some)
