-- Two columns and a split, each less than a unit off, are together less than three euros off.
use Rattle.std.proofs.Common.{◌≡◌, ℕ, ◌+◌, ◌-◌, ◌*◌, ◌<◌, ◌≤◌, sym, ap, ◌∙◌, ⊎_elim, mul-le-mul_right, mul_assoc, mul_comm, add-mul, mul-le-mul, mul-lt-mul_of_pos_right, mul-pos, mul-add, mul_left_comm, arith}
use Rattle.std.proofs.lemmas.Bool.{cases_lt}
use Rattle.sharing.specs.Sharing.{Near}
use Rattle.passing.specs.Proportion.{WithinThreeEuros}

-- a column's distance, times what the other column weighs in all
spread : (s all part w other : ℕ) → 0 < other → Near s all part w → (s * (all * other) < part * (w * other) + all * other) × (part * (w * other) < s * (all * other) + all * other)
spread s all part w other some near =
    let up = mul-lt-mul_of_pos_right near.0 some in
    let down = mul-lt-mul_of_pos_right near.1 some in
    let left = mul_assoc s all other in
    let right = mul_assoc part w other in
    let plus = add-mul (part * w) all other in
    let plus' = add-mul (s * all) all other in
    (omega arith, omega arith)

-- moving at most 999 from one term to the other
shift : (a₁ b₁ a₂ b₂ u v t : ℕ) → a₁ + a₂ ≡ b₁ + b₂ → a₁ < b₁ + 1000 → b₁ < a₁ + 1000 → u ≤ t → v ≤ t → a₁ * u + a₂ * v ≤ b₁ * u + b₂ * v + 999 * t
shift a₁ b₁ a₂ b₂ u v t same over under hu hv =
    ⊎_elim
    (λ (l : b₁ < a₁).
    let e = a₁ - b₁ in
    let first = ap (λ n. n * u) (let up : a₁ ≡ b₁ + e = omega arith in up) ∙ add-mul b₁ e u in
    let second = ap (λ n. n * v) (let up : b₂ ≡ a₂ + e = omega arith in up) ∙ add-mul a₂ e v in
    let small : e * u ≤ 999 * t = mul-le-mul (let le : e ≤ 999 = omega arith in le) hu in
    omega arith)
    (λ (l : a₁ ≤ b₁).
    let e = b₁ - a₁ in
    let first = ap (λ n. n * u) (let up : b₁ ≡ a₁ + e = omega arith in up) ∙ add-mul a₁ e u in
    let second = ap (λ n. n * v) (let up : a₂ ≡ b₂ + e = omega arith in up) ∙ add-mul b₂ e v in
    let small : e * v ≤ 999 * t = mul-le-mul (let le : e ≤ 999 = omega arith in le) hv in
    omega arith)
    (cases_lt b₁ a₁)

-- The amount a is split over p and q into p₁ and p₂; the first part goes by k of K and gives s₁, the second by m of M and gives s₂.
pub three_euros : (a p q p₁ p₂ s₁ s₂ k K m M : ℕ) → p + q ≡ 1000 → p₁ + p₂ ≡ a → Near p₁ 1000 a p → Near s₁ K p₁ k → Near s₂ M p₂ m → k ≤ K → m ≤ M → 0 < K → 0 < M → WithinThreeEuros (s₁ + s₂) (a * (p * (k * M) + q * (m * K))) (1000 * (K * M))
three_euros a p q p₁ p₂ s₁ s₂ k K m M thousand whole split near₁ near₂ hk hm someK some_m =
    let u = k * M in
    let v = m * K in
    let t = K * M in
    let turned = mul_comm M K in
    let first = spread s₁ K p₁ k M some_m near₁ in
    let second' = spread s₂ M p₂ m K someK near₂ in
    let second = ap (λ n. s₂ * n) turned in
    let both = add-mul s₁ s₂ t in
    let thousandfold = mul_left_comm (s₁ + s₂) 1000 t in
    let hu : u ≤ t = mul-le-mul_right M hk in
    let hv' : v ≤ M * K = mul-le-mul_right K hm in
    let hv : v ≤ t = omega arith in
    let out = mul-add a (p * u) (q * v) in
    let out₁ = mul_assoc a p u in
    let out₂ = mul_assoc a q v in
    let in₁ = mul_assoc 1000 p₁ u in
    let in₂ = mul_assoc 1000 p₂ v in
    let in₁' = ap (λ n. n * u) (mul_comm 1000 p₁) in
    let in₂' = ap (λ n. n * v) (mul_comm 1000 p₂) in
    let all = sym (mul-add a p q) ∙ ap (λ n. a * n) thousand in
    let parts = sym (add-mul p₁ p₂ 1000) ∙ ap (λ n. n * 1000) whole in
    let same : p₁ * 1000 + p₂ * 1000 ≡ a * p + a * q = omega arith in
    let up = shift (p₁ * 1000) (a * p) (p₂ * 1000) (a * q) u v t same split.0 split.1 hu hv in
    let down = shift (a * p) (p₁ * 1000) (a * q) (p₂ * 1000) u v t (sym same) split.1 split.0 hu hv in
    let some : 0 < t = mul-pos someK some_m in
    (omega arith, omega arith)
