-- What the takers get of one part.
use Rattle.std.proofs.Common.{◌≡◌, ℕ, zero, suc, ◌+◌, ◌-◌, ◌<◌, ◌≤◌, Bool, cond, eqb, List, [], ◌∷◌, ◌++◌, map, length, replicate, sum, sym, refl, ap, ◌∙◌, arith}
use Rattle.std.specs.List.{list_all, range_with_len}
use Rattle.std.proofs.lemmas.List.FromFn.{length-map-range_with_len}
use Rattle.std.proofs.lemmas.List.{replicate-append-replicate}
use Rattle.std.proofs.lemmas.List.Sums.{sum_by-cons}
use Rattle.std.proofs.lemmas.Bool.{eq-eqb, ne_eqb}
use Rattle.std.proofs.lemmas.Bool.Decides.{nat_tests}
use Rattle.sharing.specs.Sharing.{Meaning}
use Rattle.sharing.specs.ShareOut.{in_places}
use Rattle.passing.specs.Passing.{column, of_part, most_takers}

zeros : (f : ℕ → ℕ) → ((i : ℕ) → f i ≡ 0) → (a n : ℕ) → map f (range_with_len a n) ≡ replicate n 0
zeros f none a zero = refl
zeros f none a (suc n) = ap (λ x. x ∷ map f (range_with_len (a + 1) n)) (none a) ∙ ap (λ xs. 0 ∷ xs) (zeros f none (a + 1) n)

pub zeros_in_places : (f : ℕ → ℕ) → ((i : ℕ) → f i ≡ 0) → (places n : ℕ) → n ≤ places → replicate places 0 ≡ in_places places (map f (range_with_len 0 n))
zeros_in_places f none places n h =
    let front = zeros f none 0 n in
    let long = length-map-range_with_len f 0 n in
    let whole : n + (places - n) ≡ places = omega arith in
    let joined = replicate-append-replicate n (places - n) 0 in
    ap (λ m. replicate m 0) (sym whole) ∙ sym joined ∙ ap (λ xs. xs ++ replicate (places - n) 0) (sym front) ∙ ap (λ m. map f (range_with_len 0 n) ++ replicate (places - m) 0) (sym long)

-- a part whose factor is 0
pub part_of_none : (share : Meaning) (factor part : ℕ) (ws : List ℕ) (i : ℕ) → factor ≡ 0 → of_part share factor part ws i ≡ 0
part_of_none share factor part ws i e = ap (λ (b : Bool). cond {A = ℕ} b 0 (share part ws i)) (eq-eqb factor 0 e)

pub empty_column : (share : Meaning) (factor part : ℕ) (ws : List ℕ) → factor ≡ 0 → length ws ≤ most_takers → record { part = part; shares = replicate most_takers 0 } ≡ column share factor part ws
empty_column share factor part ws e room =
    let filled = zeros_in_places (of_part share factor part ws) (λ i. part_of_none share factor part ws i e) most_takers (length ws) room in
    ap (λ (xs : List ℕ). record { part = part; shares = xs }) filled

-- a part whose factor is not 0
pub part_of_some : (share : Meaning) (factor part : ℕ) (ws : List ℕ) (i : ℕ) → 0 < factor → of_part share factor part ws i ≡ share part ws i
part_of_some share factor part ws i some = ap (λ (b : Bool). cond {A = ℕ} b 0 (share part ws i)) (ne_eqb factor 0 (λ e. omega arith))

-- all weights are 0 just where their sum is
pub all_zero : (ws : List ℕ) → list_all (λ w. eqb w 0) ws ≡ eqb (sum ws) 0
all_zero [] = refl
all_zero (w ∷ ws) =
    let rest = all_zero ws in
    let whole = sum_by-cons (λ x. x) w ws in
    grind (arith, nat_tests)
