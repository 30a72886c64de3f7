-- A fix that no test refuses comes to what the fixing comes to.
use Rattle.std.proofs.Common.{◌≡◌, ℕ, ◌+◌, ◌<◌, ◌≤◌, ◌⊎◌, Bool, true, false, cond, ◌||◌, ltb, List, [], ◌∷◌, length, get_or, Some, None, Ok, Err, Option, Result, sym, refl, ap, ◌∙◌, arith}
use Rattle.std.proofs.lemmas.Bool.{cond-true, cond-false, le-ltb, or_from}
use Rattle.refusal.specs.declared.ground.Ground.TheVariants.{NotSettled, NotThere, OutOfBounds, SystemFixed, UnknownCategory}
use Rattle.refusal.specs.declared.refusal.Refusal.{Refusal}
use Rattle.refusal.specs.Refusals.{refuse}
use Rattle.billing.specs.declared.fixings.Fixing.{Fixing}
use Rattle.billing.specs.Fixings.{fixing_answer}
use Rattle.edition.specs.Editions.{percentages, row_answer}
use Rattle.year_model.specs.Calls.{Outcome, call_fix, found, largest_number, on_unfixed, within_from}
use Rattle.year_model.specs.Fixes.{fix_with, unfixed_above, with_fixing}
use Rattle.year_model.specs.Makings.{Makings}
use Rattle.year_model.specs.State.{State, is_fixed, numbered, with_system}
use Rattle.year_model.specs.Steps.{outcome}
use Rattle.year_model.specs.declared.tables.System.{System}
use Rattle.year_model.proofs.Outcomes.{Bounded}
use Rattle.tariff_year.specs.Fixable.{Fixable}
use Rattle.tariff_year.specs.LookedUp.{unfixed}

-- Arguments within their limits let a call go on.
goes_on_within : (place : ℕ) (arguments : List (ℕ × ℕ)) (o : Outcome) → Bounded arguments → within_from place arguments o ≡ o
goes_on_within place [] o bounds = refl
goes_on_within place (argument ∷ rest) o bounds =
    cond-false (ltb argument.1 argument.0) (Err (refuse OutOfBounds place)) (within_from (place + 1) rest o) (le-ltb argument.1 argument.0 bounds.0)
    ∙ goes_on_within (place + 1) rest o bounds.1

-- A system that is there and not fixed lets it go on.
goes_on_unfixed : (s : State) (n : ℕ) (x : System) (next : System → Outcome) → numbered s.systems n ≡ Some x → is_fixed x ≡ false → on_unfixed s n next ≡ next x
goes_on_unfixed s n x next there unfixed =
    ap (λ (o : Option System). found o (λ y. cond (is_fixed y) (Err (refuse SystemFixed 0)) (next y))) there ∙ cond-false (is_fixed x) (Err (refuse SystemFixed 0)) (next x) unfixed

-- A list of four numbers, by its numbers.
four_of : (xs : List ℕ) → length xs ≡ 4 → get_or xs 0 0 ∷ get_or xs 1 0 ∷ get_or xs 2 0 ∷ get_or xs 3 0 ∷ [] ≡ xs
four_of [] e = absurd (omega arith)
four_of (a ∷ []) e = absurd (omega arith)
four_of (a ∷ b ∷ []) e = absurd (omega arith)
four_of (a ∷ b ∷ c ∷ []) e = absurd (omega arith)
four_of (a ∷ b ∷ c ∷ d ∷ []) e = refl
four_of (a ∷ b ∷ c ∷ d ∷ f ∷ xs) e = absurd (omega arith)

-- what a fix comes to, by the edition's percentages
abbrev pub fix_asked : Makings → State → ℕ → List ℕ → System → Outcome
fix_asked m s n volumes x = fix_with s n x (fixing_answer m.share x.landed (percentages m.percent x.category) volumes)

-- what a fix of a system that is not fixed comes to
abbrev fix_next : Makings → State → ℕ → List ℕ → System → Outcome
fix_next m s n volumes x = cond (ltb 0 x.standing || ltb 0 (unfixed_above s n)) (Err (refuse NotSettled n)) (fix_asked m s n volumes x)

-- A fix within bounds asks for a system that is not fixed.
fix_within : (m : Makings) (s : State) (n v₁ v₂ v₃ v₄ : ℕ) → n ≤ largest_number → v₁ ≤ largest_number → v₂ ≤ largest_number → v₃ ≤ largest_number → v₄ ≤ largest_number
    → outcome m s (call_fix n v₁ v₂ v₃ v₄) ≡ on_unfixed s n (fix_next m s n (v₁ ∷ v₂ ∷ v₃ ∷ v₄ ∷ []))
fix_within m s n v₁ v₂ v₃ v₄ number first second third fourth =
    goes_on_within 1 ((n, largest_number) ∷ (v₁, largest_number) ∷ (v₂, largest_number) ∷ (v₃, largest_number) ∷ (v₄, largest_number) ∷ []) (on_unfixed s n (fix_next m s n (v₁ ∷ v₂ ∷ v₃ ∷ v₄ ∷ [])))
    (number, (first, (second, (third, (fourth, tt)))))

refused_by_test : (fixed : Bool) (x : System) (next : Outcome) (e : Refusal) → ◌≡◌ {A = Result System Refusal} (Err e) (cond fixed (Err (refuse SystemFixed 0)) (Ok x)) → cond fixed (Err (refuse SystemFixed 0)) next ≡ Err e
refused_by_test true x next e told = let same : e ≡ refuse SystemFixed 0 = cc in ap (λ (r : Refusal). Err r) (sym same)
refused_by_test false x next e told = let z : ◌≡◌ {A = ℕ} 0 1 = cc in absurd (omega arith)

-- A system that is not there, or that is fixed, refuses the call.
refused_unfixed : (o : Option System) (next : System → Outcome) (e : Refusal) → Err e ≡ unfixed o → found o (λ x. cond (is_fixed x) (Err (refuse SystemFixed 0)) (next x)) ≡ Err e
refused_unfixed None next e told = let same : e ≡ refuse NotThere 0 = cc in ap (λ (r : Refusal). Err r) (sym same)
refused_unfixed (Some x) next e told = refused_by_test (is_fixed x) x (next x) e told

-- A fix of a system that is not there, or that is fixed, is refused,
pub fix_of_none : (m : Makings) (s : State) (n v₁ v₂ v₃ v₄ : ℕ) → n ≤ largest_number → v₁ ≤ largest_number → v₂ ≤ largest_number → v₃ ≤ largest_number → v₄ ≤ largest_number
    → (e : Refusal) → Err e ≡ unfixed (numbered s.systems n) → outcome m s (call_fix n v₁ v₂ v₃ v₄) ≡ Err e
fix_of_none m s n v₁ v₂ v₃ v₄ number first second third fourth e told =
    fix_within m s n v₁ v₂ v₃ v₄ number first second third fourth ∙ refused_unfixed (numbered s.systems n) (fix_next m s n (v₁ ∷ v₂ ∷ v₃ ∷ v₄ ∷ [])) e told

-- and so is one of a system that is not settled.
pub fix_unsettled : (m : Makings) (s : State) (n v₁ v₂ v₃ v₄ : ℕ) → n ≤ largest_number → v₁ ≤ largest_number → v₂ ≤ largest_number → v₃ ≤ largest_number → v₄ ≤ largest_number
    → (x : System) → numbered s.systems n ≡ Some x → is_fixed x ≡ false → (0 < x.standing) ⊎ ((x.standing ≤ 0) × (0 < unfixed_above s n))
    → outcome m s (call_fix n v₁ v₂ v₃ v₄) ≡ Err (refuse NotSettled n)
fix_unsettled m s n v₁ v₂ v₃ v₄ number first second third fourth x there unfixed unsettled =
    fix_within m s n v₁ v₂ v₃ v₄ number first second third fourth
    ∙ goes_on_unfixed s n x (fix_next m s n (v₁ ∷ v₂ ∷ v₃ ∷ v₄ ∷ [])) there unfixed
    ∙ cond-true (ltb 0 x.standing || ltb 0 (unfixed_above s n)) (Err (refuse NotSettled n)) (fix_asked m s n (v₁ ∷ v₂ ∷ v₃ ∷ v₄ ∷ []) x) (grind (arith, unsettled))

-- A fix that has met all tests before comes to that.
pub fix_past : (m : Makings) (s : State) (n : ℕ) (volumes : List ℕ) (x : System) → Fixable s n volumes x
    → outcome m s (call_fix n (get_or volumes 0 0) (get_or volumes 1 0) (get_or volumes 2 0) (get_or volumes 3 0)) ≡ fix_asked m s n volumes x
fix_past m s n volumes x ok =
    let called : List ℕ = get_or volumes 0 0 ∷ get_or volumes 1 0 ∷ get_or volumes 2 0 ∷ get_or volumes 3 0 ∷ [] in
    let next : System → Outcome = λ y. cond (ltb 0 y.standing || ltb 0 (unfixed_above s n)) (Err (refuse NotSettled n)) (fix_asked m s n called y) in
    goes_on_within 1 ((n, largest_number) ∷ (get_or volumes 0 0, largest_number) ∷ (get_or volumes 1 0, largest_number) ∷ (get_or volumes 2 0, largest_number) ∷ (get_or volumes 3 0, largest_number) ∷ []) (on_unfixed s n next)
    (ok.number, (ok.first, (ok.second, (ok.third, (ok.fourth, tt)))))
    ∙ goes_on_unfixed s n x next ok.there ok.unfixed
    ∙ cond-false (ltb 0 x.standing || ltb 0 (unfixed_above s n)) (Err (refuse NotSettled n)) (fix_asked m s n called x)
    (or_from (ltb 0 x.standing) (ltb 0 (unfixed_above s n)) (le-ltb 0 x.standing (omega (arith, ok.settled))) (le-ltb 0 (unfixed_above s n) (omega (arith, ok.all_above))))
    ∙ ap (λ (vs : List ℕ). fix_asked m s n vs x) (four_of volumes ok.four)

-- A row that the edition answered is that of a category that it knows.
row_known : (test : Bool) (row told : List ℕ) (refusal : Refusal) → ◌≡◌ {A = Result (List ℕ) Refusal} (Ok row) (cond test (Ok told) (Err refusal)) → (test ≡ true) × (row ≡ told)
row_known true row told refusal e = (refl, cc)
row_known false row told refusal e = let z : ◌≡◌ {A = ℕ} 0 1 = cc in absurd (omega arith)

-- So the fix comes to the fixing by that row,
fix_by_row : (m : Makings) (s : State) (n : ℕ) (volumes : List ℕ) (x : System) → Fixable s n volumes x → (row : List ℕ) → Ok row ≡ row_answer m.known m.percent x.category
    → outcome m s (call_fix n (get_or volumes 0 0) (get_or volumes 1 0) (get_or volumes 2 0) (get_or volumes 3 0)) ≡ fix_with s n x (fixing_answer m.share x.landed row volumes)
fix_by_row m s n volumes x ok row told =
    let is = row_known (m.known x.category) row (percentages m.percent x.category) (refuse UnknownCategory 0) told in
    fix_past m s n volumes x ok
    ∙ ap (λ (ps : List ℕ). fix_with s n x (fixing_answer m.share x.landed ps volumes)) (sym is.1)

-- which is refused or done.
pub fix_refused : (m : Makings) (s : State) (n : ℕ) (volumes : List ℕ) (x : System) → Fixable s n volumes x → (row : List ℕ) → Ok row ≡ row_answer m.known m.percent x.category
    → (refusal : Refusal) → Err refusal ≡ fixing_answer m.share x.landed row volumes
    → outcome m s (call_fix n (get_or volumes 0 0) (get_or volumes 1 0) (get_or volumes 2 0) (get_or volumes 3 0)) ≡ Err refusal
fix_refused m s n volumes x ok row told refusal answer = fix_by_row m s n volumes x ok row told ∙ ap (fix_with s n x) (sym answer)

pub fix_accepted : (m : Makings) (s : State) (n : ℕ) (volumes : List ℕ) (x : System) → Fixable s n volumes x → (row : List ℕ) → Ok row ≡ row_answer m.known m.percent x.category
    → (f : Fixing) → Ok f ≡ fixing_answer m.share x.landed row volumes
    → outcome m s (call_fix n (get_or volumes 0 0) (get_or volumes 1 0) (get_or volumes 2 0) (get_or volumes 3 0)) ≡ Ok (with_system s n (with_fixing x f), f.tariffs)
fix_accepted m s n volumes x ok row told f answer = fix_by_row m s n volumes x ok row told ∙ ap (fix_with s n x) (sym answer)

-- A category that the edition knows is never refused.
pub row_not_refused : (test : Bool) (told : List ℕ) (refusal why : Refusal) → test ≡ true → ◌≡◌ {A = Result (List ℕ) Refusal} (Err refusal) (cond test (Ok told) (Err why)) → ⊥
row_not_refused true told refusal why known e = let z : ◌≡◌ {A = ℕ} 0 1 = cc in absurd (omega arith)
row_not_refused false told refusal why known e = let z : ◌≡◌ {A = ℕ} 0 1 = cc in absurd (omega arith)
