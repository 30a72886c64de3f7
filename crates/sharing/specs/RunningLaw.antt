-- The running rule keeps the law of sharing.
use Rattle.std.specs.Prelude.{◌≡◌, ℕ, zero, suc, ◌+◌, ◌*◌, ◌/◌, ◌<◌, ◌≤◌, List, length, take, sum, slice_index}
use Rattle.std.proofs.Common.{sym, ap, ◌∙◌, mul-add, mul-zero, mul-div_cancel, mul-le-mul_left, add-one, arith}
use Rattle.std.proofs.Math.Nat.{zero-div}
use Rattle.std.proofs.lemmas.List.{take_all}
use Rattle.std.proofs.lemmas.List.Sums.{sum_by_more}
use Rattle.sharing.specs.Sharing.{sum_below, SharingLaw, Near}
use Rattle.sharing.specs.Running.{running_part, running_share}
use Rattle.sharing.specs.Division.{near_div, div_mono, mul_diff}

module _ (amount : ℕ) (ws : List ℕ) (some : 0 < sum ws) where
  -- the running part does not fall
  pub part_rises : (i : ℕ) → i < length ws → running_part amount ws i ≤ running_part amount ws (i + 1)
  part_rises i h =
      let more = sum_by_more (λ x. x) ws i 0 h in
      let up : sum (take i ws) ≤ sum (take (i + 1) ws) = omega arith in
      div_mono (amount * sum (take i ws)) (amount * sum (take (i + 1) ws)) (sum ws) some (mul-le-mul_left amount up)

  -- the first n shares come to the running part
  shares_below : (n : ℕ) → n ≤ length ws → sum_below (running_share amount ws) n ≡ running_part amount ws n
  shares_below zero h = sym (ap (λ n. n / sum ws) (mul-zero amount) ∙ zero-div (sum ws))
  shares_below (suc n) h =
      let before = shares_below n (omega arith) in
      let rises = part_rises n h in
      let next = ap (running_part amount ws) (add-one n) in
      omega arith

  near : (i : ℕ) → i < length ws → Near (running_share amount ws i) (sum ws) amount (slice_index ws i)
  near i h =
      let t = sum ws in
      let more = ap (λ s. amount * s) (sum_by_more (λ x. x) ws i 0 h) ∙ mul-add amount (sum (take i ws)) (slice_index ws i) in
      let low = near_div (amount * sum (take i ws)) t some in
      let high = near_div (amount * sum (take (i + 1) ws)) t some in
      let diff = mul_diff (running_part amount ws (i + 1)) (running_part amount ws i) t (part_rises i h) in
      (omega arith, omega arith)

pub running_law : (longest : ℕ) → SharingLaw longest running_share
running_law longest amount ws sharable =
    let some = sharable.some in
    let every = shares_below amount ws some (length ws) (omega arith) in
    let whole = ap (λ s. amount * sum s / sum ws) (take_all (length ws) ws (omega arith)) ∙ mul-div_cancel amount some in
    (every ∙ whole, near amount ws some)
