-- A field is spaces and then the digits of its number.
use Rattle.std.proofs.Common.{◌≡◌, ℕ, zero, suc, ◌+◌, ◌-◌, ◌/◌, ◌%◌, ◌^◌, ◌<◌, false, cond, List, [], ◌∷◌, ◌++◌, map, length, replicate, sym, refl, ap, ◌∙◌, subst, ⊎_elim, pow-suc, div-one, add-one, arith}
use native.Mathlib.Nat.{div-div-eq-div-mul}
use Rattle.std.proofs.lemmas.Int.Digits.{digits_of_step, length-digits_of_step}
use Rattle.std.proofs.lemmas.List.{append_assoc, append-nil, map-append, replicate_more, length-append}
use Rattle.std.proofs.lemmas.Bool.{ne_eqb, cases_eq}
use Rattle.std.specs.Int.Digits.{digits_of}
use Rattle.rows.specs.Fields.{mark, columns, digits, SpacesThenDigits}

-- the columns before the last one, from the right
leads : ℕ → ℕ → List ℕ
leads zero m = []
leads (suc k) m = leads k (m / 10) ++ mark false m ∷ []

fewer : (n k : ℕ) → n / 10 / 10 ^ k ≡ n / 10 ^ suc k
fewer n k = div-div-eq-div-mul n 10 (10 ^ k) ∙ ap (λ m. n / m) (omega (arith, pow-suc 10 k))

-- the same from the left
leads_left : (k m : ℕ) → leads (suc k) m ≡ mark false (m / 10 ^ k) ∷ leads k m
unfolding leads
leads_left zero m = ap (λ v. mark false v ∷ []) (sym (div-one m))
leads_left (suc k) m =
    ap (λ l. l ++ mark false m ∷ []) (leads_left k (m / 10)) ∙ ap (λ v. mark false v ∷ leads (suc k) m) (fewer m k)

columns_leads : (k n : ℕ) → columns (suc k) n ≡ leads k (n / 10) ++ (48 + n % 10) ∷ []
unfolding columns leads
columns_leads zero n = ap (λ v. (48 + v % 10) ∷ []) (div-one n)
columns_leads (suc k) n =
    ap (λ b. mark b (n / 10 ^ suc k) ∷ columns (suc k) n) (ne_eqb (suc k) 0 (λ e. omega arith))
    ∙ (λ i. mark false (sym (fewer n k) i) ∷ columns_leads k n i) ∙ ap (λ l. l ++ (48 + n % 10) ∷ []) (sym (leads_left k (n / 10)))

leads_zero : (k : ℕ) → leads k 0 ≡ replicate k 32
unfolding leads
leads_zero zero = refl
leads_zero (suc k) = ap (λ l. l ++ 32 ∷ []) (leads_zero k) ∙ replicate_more k 32 ∙ ap (λ m. replicate m 32) (add-one k)

-- spaces, then the digits of m, in k columns
leads_spaced : (k m : ℕ) → m < 10 ^ k → leads k m ≡ replicate (k - length (digits_of 10 m)) 32 ++ map (λ d. 48 + d) (digits_of 10 m)
unfolding leads
leads_spaced zero m l =
    let z : 0 ≡ m = omega arith in
    subst (λ v. leads 0 v ≡ replicate (0 - length (digits_of 10 v)) 32 ++ map (λ d. 48 + d) (digits_of 10 v)) z refl
leads_spaced (suc k) m l =
    let p = pow-suc 10 k in
    let less : m / 10 < 10 ^ k = omega arith in
    let so = leads_spaced k (m / 10) less in
    ⊎_elim
    (λ z.
    let s : suc k ≡ suc k - 0 = omega arith in
    subst (λ v. leads (suc k) v ≡ replicate (suc k - length (digits_of 10 v)) 32 ++ map (λ d. 48 + d) (digits_of 10 v)) (sym z)
    (leads_zero (suc k) ∙ ap (λ n. replicate n 32) s ∙ sym (append-nil (replicate (suc k - 0) 32))))
    (λ nz.
    let few : List ℕ = digits_of 10 (m / 10) in
    let blank : List ℕ = replicate (k - length few) 32 in
    let step = digits_of_step 10 m (omega arith) (omega arith) in
    let s : k - length few ≡ suc k - length (digits_of 10 m) = omega (arith, length-digits_of_step 10 m (omega arith) (omega arith)) in
    ap (λ l. l ++ mark false m ∷ []) so
    ∙ ap (λ b. (blank ++ map (λ d. 48 + d) few) ++ (cond b 32 (48 + m % 10)) ∷ []) (ne_eqb m 0 nz)
    ∙ append_assoc blank (map (λ d. 48 + d) few) ((48 + m % 10) ∷ [])
    ∙ ap (λ l. blank ++ l) (sym (map-append (λ d. 48 + d) few (m % 10 ∷ [])))
    ∙ (λ i. replicate (s i) 32 ++ map (λ d. 48 + d) (sym step i)))
    (cases_eq m 0)

pub spaced : SpacesThenDigits
spaced n l =
    let few : List ℕ = digits_of 10 (n / 10) in
    let blank : List ℕ = replicate (9 - length few) 32 in
    let s : 9 - length few ≡ 10 - length (digits n) = omega (arith, length-append few (n % 10 ∷ [])) in
    columns_leads 9 n
    ∙ ap (λ l. l ++ (48 + n % 10) ∷ []) (leads_spaced 9 (n / 10) (omega arith))
    ∙ append_assoc blank (map (λ d. 48 + d) few) ((48 + n % 10) ∷ [])
    ∙ ap (λ l. blank ++ l) (sym (map-append (λ d. 48 + d) few (n % 10 ∷ [])))
    ∙ ap (λ k. replicate k 32 ++ map (λ d. 48 + d) (digits n)) s
