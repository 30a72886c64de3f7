-- Numbers in the first of some places, and 0 in the others.
use Rattle.std.proofs.Common.{◌≡◌, ℕ, zero, suc, ◌+◌, ◌-◌, ◌<◌, ◌≤◌, List, [], ◌∷◌, ◌++◌, drop, length, map, set, take, replicate, sum, sym, refl, ap, ◌∙◌, zero-add, arith}
use Rattle.std.specs.List.{range_with_len}
use Rattle.std.proofs.lemmas.List.FromFn.{map-range_with_len_more, length-map-range_with_len}
use Rattle.std.proofs.lemmas.List.{append-nil, append_assoc, drop-replicate, length-replicate, length-take-le, set_at}
use Rattle.std.proofs.lemmas.List.Sums.{sum_by-append, sum_by-cons}
use Rattle.sharing.specs.ShareOut.{in_places}

-- the first places, as many as are asked for
pub length-front : (places n : ℕ) → n ≤ places → length (take n (replicate {A = ℕ} places 0)) ≡ n
length-front places n h = length-take-le n (replicate {A = ℕ} places 0) (omega (arith, length-replicate {A = ℕ} places 0))

-- the next place is filled
pub placed_more : (f : ℕ → ℕ) (places i : ℕ) (xs : List ℕ) (v : ℕ) → i < places → xs ≡ map f (range_with_len 0 i) ++ replicate (places - i) 0 → v ≡ f i → set xs i v ≡ map f (range_with_len 0 (i + 1)) ++ replicate (places - (i + 1)) 0
placed_more f places i xs v h before value =
    let front = map f (range_with_len 0 i) in
    let rest : places - i ≡ suc (places - (i + 1)) = omega arith in
    let here = set_at front 0 (replicate (places - (i + 1)) 0) (f i) i (length-map-range_with_len f 0 i) in
    let again = append_assoc front (f i ∷ []) (replicate (places - (i + 1)) 0) in
    let more = map-range_with_len_more f 0 i i (omega arith) in
    ap (λ ys. set ys i v) before ∙ ap (λ n. set (front ++ replicate (places - i) 0) i n) value
    ∙ ap (λ n. set (front ++ replicate n 0) i (f i)) rest ∙ here ∙ sym again ∙ ap (λ ys. ys ++ replicate (places - (i + 1)) 0) (sym more)

-- all of the first n places are filled, and the places behind them are left alone
pub placed_all : (f : ℕ → ℕ) (places n i : ℕ) (xs : List ℕ) → i ≡ n → xs ≡ map f (range_with_len 0 i) ++ replicate (n - i) 0 → xs ++ drop n (replicate places 0) ≡ in_places places (map f (range_with_len 0 n))
placed_all f places n i xs end placed =
    let front = map f (range_with_len 0 n) in
    let none : n - n ≡ 0 = omega arith in
    let all : xs ≡ front = placed ∙ ap (λ m. map f (range_with_len 0 m) ++ replicate (n - m) 0) end ∙ ap (λ m. front ++ replicate m 0) none ∙ append-nil front in
    ap (λ ys. ys ++ drop n (replicate places 0)) all
    ∙ ap (λ ys. front ++ ys) (drop-replicate n places 0)
    ∙ ap (λ m. front ++ replicate (places - m) 0) (sym (length-map-range_with_len f 0 n))

pub sum_zeros : (n : ℕ) → sum (replicate n 0) ≡ 0
sum_zeros zero = refl
sum_zeros (suc n) = sum_by-cons (λ x. x) 0 (replicate n 0) ∙ zero-add (sum (replicate n 0)) ∙ sum_zeros n

pub sum_placed : (xs : List ℕ) (n : ℕ) → sum (xs ++ replicate n 0) ≡ sum xs
sum_placed xs n = omega (arith, sum_by-append (λ x. x) xs (replicate n 0), sum_zeros n)
