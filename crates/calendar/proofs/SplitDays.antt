-- The counts of days, worked out.
use Rattle.std.proofs.Common.{◌≡◌, ℕ, zero, suc, ◌+◌, ◌-◌, ◌*◌, ◌<◌, ◌≤◌, min, cond, ◌&&◌, ltb, leb, ◌⊎◌, refl, ⊎_elim, arith}
use Rattle.std.proofs.lemmas.Bool.Decides.{nat_tests}
use Rattle.calendar.specs.Days.{date_of}
use Rattle.calendar.specs.Terms.{count_after, count_before, count_in}

-- one for a date before the first
abbrev early : ℕ → ℕ → ℕ
early date first = cond (ltb date first) 1 0

-- one for a date from the first to the last
abbrev inside : ℕ → ℕ → ℕ → ℕ
inside date first last = cond (leb first date && leb date last) 1 0

-- one for a date after the last
abbrev late : ℕ → ℕ → ℕ
late date last = cond (ltb last date) 1 0

early_cases : (date first : ℕ) → ((date < first) × (early date first ≡ 1)) ⊎ ((first ≤ date) × (early date first ≡ 0))
early_cases date first = grind (arith, nat_tests)

late_cases : (date first last : ℕ) → first ≤ last → ((date ≤ last) × (early date first + inside date first last ≡ 1) × (late date last ≡ 0)) ⊎ ((last < date) × (early date first + inside date first last ≡ 0) × (late date last ≡ 1))
late_cases date first last ordered = grind (arith, nat_tests)

pub count_before_is : (month first n : ℕ) → count_before month first n ≡ min (first - (month * 100 + 1)) n
count_before_is month first zero = omega arith
count_before_is month first (suc n) =
    let rest = count_before_is month first n in
    ⊎_elim (λ h. omega (arith, h.0, h.1)) (λ h. omega (arith, h.0, h.1)) (early_cases (date_of month (suc n)) first)

module _ (month first last : ℕ) (ordered : first ≤ last) where
  pub count_through_is : (n : ℕ) → count_before month first n + count_in month first last n ≡ min (last - month * 100) n
  count_through_is zero = omega arith
  count_through_is (suc n) =
      let rest = count_through_is n in
      ⊎_elim (λ h. omega (arith, h.0, h.1)) (λ h. omega (arith, h.0, h.1)) (late_cases (date_of month (suc n)) first last ordered)

  pub counts_add_up : (n : ℕ) → count_before month first n + count_in month first last n + count_after month last n ≡ n
  counts_add_up zero = refl
  counts_add_up (suc n) =
      let rest = counts_add_up n in
      ⊎_elim (λ h. omega (arith, h.1, h.2)) (λ h. omega (arith, h.1, h.2)) (late_cases (date_of month (suc n)) first last ordered)

  pub whole_month : (n : ℕ) → first ≤ date_of month 1 → date_of month n ≤ last → (count_before month first n ≡ 0) × (count_in month first last n ≡ n) × (count_after month last n ≡ 0)
  whole_month n from to =
      let before = count_before_is month first n in
      let through = count_through_is n in
      let all = counts_add_up n in
      (omega arith, omega arith, omega arith)
