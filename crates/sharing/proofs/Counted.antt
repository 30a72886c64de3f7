-- Sums and counts over a list, as sums and counts over its positions.
use Rattle.std.proofs.Common.{◌≡◌, ℕ, ◌*◌, ◌/◌, ◌%◌, ◌<◌, ◌≤◌, cond, List, map, length, get_or, sum, sym, ap, ◌∙◌, zero-add, arith}
use Rattle.std.specs.List.{count_by, enumerate_from, sum_by}
use Rattle.std.proofs.lemmas.List.{get_or-map, length-map, take_all}
use Rattle.std.proofs.lemmas.List.FromFn.{get_or-enumerate_from, length-enumerate_from}
use Rattle.std.proofs.lemmas.List.Sums.{sum-map}
use Rattle.sharing.specs.Sharing.{sum_below}
use Rattle.sharing.specs.Greatest.{ahead, rank, remainder, rounded_share}
use Rattle.sharing.specs.GreatestLaw.{rounded_within}
use Rattle.sharing.specs.Counting.{sum_same, sum_told}

pub sum_by_counted : {X : Type 0} (f : X → ℕ) (xs : List X) (d : X) → sum_by f xs ≡ sum_below (λ k. f (get_or xs k d)) (length xs)
sum_by_counted f xs d =
    let long = length-map xs f in
    sym (sum-map f xs) ∙ ap sum (sym (take_all (length xs) (map f xs) (omega arith))) ∙ sum_told (λ k. f (get_or xs k d)) (map f xs) (length xs) (omega arith) (λ k l. get_or-map f xs k d 0 l)

module _ (amount : ℕ) (ws : List ℕ) (total : ℕ) (whole : total ≡ sum ws) where
  -- the rounded parts of all weights together
  pub parts_counted : sum_by (λ w. amount * w / total) ws ≡ sum_below (rounded_share amount ws) (length ws)
  parts_counted = ap (λ t. sum_by (λ w. amount * w / t) ws) whole ∙ sum_by_counted (λ w. amount * w / sum ws) ws 0

  pub parts_within : 0 < total → sum_by (λ w. amount * w / total) ws ≤ amount
  parts_within some = omega (arith, parts_counted, rounded_within amount ws (let more : 0 < sum ws = omega arith in more) (length ws) (omega arith))

  -- the positions that are served before position i
  pub ranks_counted : (i : ℕ) → count_by (λ (p : ℕ × ℕ). ahead p.1 p.0 (remainder amount ws i) i) (enumerate_from 0 (map (λ w. amount * w % total) ws)) ≡ rank amount ws i
  ranks_counted i =
      let rest : ℕ → ℕ = λ w. amount * w % total in
      let rests = map rest ws in
      let served : ℕ × ℕ → ℕ = λ p. cond {A = ℕ} (ahead p.1 p.0 (remainder amount ws i) i) 1 0 in
      let long = length-enumerate_from 0 rests ∙ length-map ws rest in
      sum_by_counted served (enumerate_from 0 rests) (0, 0)
      ∙ ap (sum_below (λ k. served (get_or (enumerate_from 0 rests) k (0, 0)))) long
      ∙ sum_same (λ k. served (get_or (enumerate_from 0 rests) k (0, 0))) (λ k. served (k, remainder amount ws k)) (length ws) (λ k h.
      let at = get_or-enumerate_from 0 rests k (0, 0) (omega (arith, length-map ws rest)) in
      let here = get_or-map rest ws k 0 0 h in
      let same : remainder amount ws k ≡ rest (get_or ws k 0) = ap (λ t. amount * get_or ws k 0 % t) (sym whole) in
      ap served (at ∙ ap (λ (n : ℕ). (n, get_or rests k 0)) (zero-add k) ∙ ap (λ (r : ℕ). (k, r)) (here ∙ sym same)))
