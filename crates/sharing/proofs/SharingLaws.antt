-- What follows from the sharing law, for every rule.
use Rattle.std.proofs.Common.{◌≡◌, ℕ, zero, suc, ◌*◌, ◌<◌, map, length, sum, sym, refl, ap, ◌∙◌, lt_of_mul-lt-mul_right, one-mul, mul-zero, add-one, arith}
use Rattle.std.specs.List.{range_with_len}
use Rattle.std.proofs.lemmas.List.FromFn.{sum_by-map-range_with_len_more}
use Rattle.sharing.specs.Sharing.{Meaning, SharingLaw, sum_below}
use Rattle.sharing.specs.Laws.{SharesAddUp, NoWeightNoShare, NoShareAboveTheAmount}
use Rattle.sharing.specs.Counting.{term_le}

-- a list made from a function of the position
pub sum_counted : (f : ℕ → ℕ) (n : ℕ) → sum (map f (range_with_len 0 n)) ≡ sum_below f n
sum_counted f zero = refl
sum_counted f (suc n) =
    let before = sum_counted f n in
    let more = ap (λ m. sum (map f (range_with_len 0 m))) (sym (add-one n)) ∙ sum_by-map-range_with_len_more (λ x. x) f 0 n n (omega arith) in
    omega arith

module _ (longest : ℕ) (share : Meaning) (law : SharingLaw longest share) where
  pub shares_add_up : SharesAddUp longest share
  shares_add_up amount ws s = sum_counted (share amount ws) (length ws) ∙ (law amount ws s).0

  -- share * total is below 0 + total
  pub no_weight_no_share : NoWeightNoShare longest share
  no_weight_no_share amount ws i s h none =
      let near = ((law amount ws s).1 i h).0 in
      let nothing = ap (λ w. amount * w) none ∙ mul-zero amount in
      let times : share amount ws i * sum ws < 1 * sum ws = omega (arith, one-mul (sum ws)) in
      let under = lt_of_mul-lt-mul_right (sum ws) times in
      omega arith

  pub no_share_above_the_amount : NoShareAboveTheAmount longest share
  no_share_above_the_amount amount ws i s h = omega (arith, term_le (share amount ws) (length ws) i h, (law amount ws s).0)
