-- Figures in the first of some places.
use Rattle.std.proofs.Common.{◌≡◌, ℕ, ◌+◌, ◌-◌, ◌<◌, ◌≤◌, map, length, get_or, replicate, sum, sym, ◌∙◌, ⊎_elim, arith}
use Rattle.std.specs.List.{range_with_len}
use Rattle.std.proofs.lemmas.List.FromFn.{fill_by_all, get_or-map-range_with_len, length-map-range_with_len}
use Rattle.std.proofs.lemmas.List.{get_or_append_left, get_or-append_right, get_or_past, get_or-replicate, length-append, length-replicate}
use Rattle.std.proofs.lemmas.Bool.{cases_lt}
use Rattle.sharing.specs.Sharing.{sum_below}
use Rattle.sharing.specs.ShareOut.{in_places}
use Rattle.sharing.proofs.Placing.{sum_placed}
use Rattle.sharing.proofs.SharingLaws.{sum_counted}

getD_zeros : (n k : ℕ) → get_or {A = ℕ} (replicate n 0) k 0 ≡ 0
getD_zeros n k =
    ⊎_elim
    (λ (l : k < n). get_or-replicate n k 0 0 l)
    (λ (l : n ≤ k). get_or_past (replicate n 0) k 0 (omega (arith, length-replicate n (let zero : ℕ = 0 in zero))))
    (cases_lt k n)

module _ (f : ℕ → ℕ) (places n : ℕ) where
  pub placed_at : (k : ℕ) → k < n → get_or (in_places places (map f (range_with_len 0 n))) k 0 ≡ f k
  placed_at k h =
      let long = length-map-range_with_len f 0 n in
      get_or_append_left (map f (range_with_len 0 n)) (replicate (places - length (map f (range_with_len 0 n))) 0) 0 k (omega arith) ∙ get_or-map-range_with_len f 0 n k k 0 h (omega arith)

  pub placed_past : (k : ℕ) → n ≤ k → get_or (in_places places (map f (range_with_len 0 n))) k 0 ≡ 0
  placed_past k h =
      let long = length-map-range_with_len f 0 n in
      let rest = places - length (map f (range_with_len 0 n)) in
      get_or-append_right (map f (range_with_len 0 n)) (replicate rest 0) n k 0 long h ∙ getD_zeros rest (k - n)

  pub length_placed : n ≤ places → length (in_places places (map f (range_with_len 0 n))) ≡ places
  length_placed room =
      let long = length-map-range_with_len f 0 n in
      let rest = places - length (map f (range_with_len 0 n)) in
      omega (arith, length-append (map f (range_with_len 0 n)) (replicate rest 0), length-replicate rest (let zero : ℕ = 0 in zero))

  pub sum_in_places : sum (in_places places (map f (range_with_len 0 n))) ≡ sum_below f n
  sum_in_places = sum_placed (map f (range_with_len 0 n)) (places - length (map f (range_with_len 0 n))) ∙ sum_counted f n

  -- what bounds each figure bounds each place
  pub placed_bounded : (most : ℕ) → ((k : ℕ) → k < n → f k ≤ most) → (k : ℕ) → get_or (in_places places (map f (range_with_len 0 n))) k 0 ≤ most
  placed_bounded most bound k =
      ⊎_elim
      (λ (l : k < n). omega (arith, placed_at k l, bound k l))
      (λ (l : n ≤ k). omega (arith, placed_past k l))
      (cases_lt k n)

-- two rows of figures added place by place
pub added_in_places : (f g : ℕ → ℕ) (places n : ℕ) → n ≤ places → map (λ k. get_or (in_places places (map f (range_with_len 0 n))) k 0 + get_or (in_places places (map g (range_with_len 0 n))) k 0) (range_with_len 0 places) ≡ in_places places (map (λ k. f k + g k) (range_with_len 0 n))
added_in_places f g places n room =
    let both : ℕ → ℕ = λ k. f k + g k in
    let sums : ℕ → ℕ = λ k. get_or (in_places places (map f (range_with_len 0 n))) k 0 + get_or (in_places places (map g (range_with_len 0 n))) k 0 in
    sym (fill_by_all sums (in_places places (map both (range_with_len 0 n))) places 0 (length_placed both places n room) (λ k _.
    ⊎_elim
    (λ (l : k < n). omega (arith, placed_at both places n k l, placed_at f places n k l, placed_at g places n k l))
    (λ (l : n ≤ k). omega (arith, placed_past both places n k l, placed_past f places n k l, placed_past g places n k l))
    (cases_lt k n)))
