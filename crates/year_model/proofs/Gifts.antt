-- What each system has more standing after euros are handed down.
use Rattle.std.proofs.Common.{◌≡◌, ℕ, zero, suc, ◌+◌, ◌-◌, ◌<◌, ◌≤◌, true, false, cond, ◌&&◌, eqb, List, [], ◌∷◌, length, get_or, count_by, filter, refl, ap, ◌∙◌, ⊎_elim, arith}
use Rattle.std.specs.List.{AllByRecursion as All}
use Rattle.std.proofs.lemmas.List.{get_or-set_other, get_or-set_same}
use Rattle.std.proofs.lemmas.List.Sums.{get_or-le-sum_by, sum_by-cons}
use Rattle.std.proofs.lemmas.Bool.{cases_Bool, cases_eq, cond-false, cond-true, eq-eqb, ne_eqb}
use Rattle.year_model.specs.declared.tables.Coupling.{Coupling}
use Rattle.year_model.specs.declared.tables.System.{System}
use Rattle.year_model.specs.Passes.{handed_down, more_standing}
use Rattle.year_model.specs.Sound.{no_coupling, no_system}
use Rattle.year_model.specs.Systems.{joining_count, standing_at}
use Rattle.year_model.proofs.HandingDown.{LeadsWithin, as_many, more_standing_at}
use Rattle.year_model.proofs.Lookups.{numbered_from_entry}

-- what the takers from this one on receive whose couplings lead to this system
abbrev pub gifts : (ℕ → ℕ) → ℕ → List Coupling → ℕ → ℕ
gifts receive taker [] lower = 0
gifts receive taker (c ∷ cs) lower = cond (eqb c.lower lower) (receive taker) 0 + gifts receive (taker + 1) cs lower

-- how many of these couplings lead to this system
abbrev pub leading_to : List Coupling → ℕ → ℕ
leading_to cs lower = count_by (λ c. eqb c.lower lower) cs

-- what stands at the system with this number
abbrev pub stands_at : List System → ℕ → ℕ
stands_at xs n = (get_or xs (n - 1) no_system).standing

-- One system has more standing, and the others have not.
more_standing_one : (xs : List System) (n euros l : ℕ) → 1 ≤ n → n ≤ length xs → 1 ≤ l → stands_at (more_standing xs n euros) l ≡ stands_at xs l + cond (eqb n l) euros 0
more_standing_one xs n euros l low high positive =
    let x = get_or xs (n - 1) no_system in
    let y = standing_at x (x.standing + euros) in
    rw (numbered_from_entry xs n no_system low high)
    (⊎_elim
    (λ (e : n ≡ l). rw (eq-eqb n l e, ← e) (ap (λ (z : System). z.standing) (get_or-set_same xs (n - 1) y no_system (omega arith))))
    (λ (ne : n ≡ l → ⊥).
    let other = ap (λ (z : System). z.standing) (get_or-set_other xs (n - 1) (l - 1) y no_system (λ e. ne (omega arith))) in
    let none = cond-false (eqb n l) euros 0 (ne_eqb n l ne) in
    omega arith)
    (cases_eq n l))

-- Handing down adds to what stands at a system what the takers receive whose couplings lead to it.
pub gifts_handed : (receive : ℕ → ℕ) (taker : ℕ) (cs : List Coupling) (xs : List System) (count l : ℕ) → length xs ≡ count → All (LeadsWithin count) cs → 1 ≤ l
    → stands_at (handed_down receive taker cs xs) l ≡ stands_at xs l + gifts receive taker cs l
gifts_handed receive taker [] xs count l long lead positive = omega arith
gifts_handed receive taker (c ∷ cs) xs count l long lead positive =
    let ys = more_standing xs c.lower (receive taker) in
    let here = more_standing_at xs c.lower (receive taker) lead.0.0 (omega arith) in
    let one = more_standing_one xs c.lower (receive taker) l lead.0.0 (omega arith) positive in
    let later = gifts_handed receive (taker + 1) cs ys count l (as_many xs ys here.rest ∙ long) lead.1 positive in
    omega (arith, one, later)

-- Where no coupling leads to a system, it is given nothing.
pub gifts_none : (receive : ℕ → ℕ) (taker : ℕ) (cs : List Coupling) (l : ℕ) → leading_to cs l ≡ 0 → gifts receive taker cs l ≡ 0
gifts_none receive taker [] l none = refl
gifts_none receive taker (c ∷ cs) l none =
    let whole = sum_by-cons (λ (d : Coupling). cond {A = ℕ} (eqb d.lower l) 1 0) c cs in
    ⊎_elim
    (λ (t : eqb c.lower l ≡ true). let one = cond-true {A = ℕ} (eqb c.lower l) 1 0 t in absurd (omega arith))
    (λ (f : eqb c.lower l ≡ false).
    let zero = cond-false (eqb c.lower l) (receive taker) 0 f in
    omega (arith, gifts_none receive (taker + 1) cs l (omega arith)))
    (cases_Bool (eqb c.lower l))

-- Where one coupling leads to a system, it is given what that taker receives.
pub gifts_one : (receive : ℕ → ℕ) (taker : ℕ) (cs : List Coupling) (l i : ℕ) → leading_to cs l ≤ 1 → i < length cs → (get_or cs i no_coupling).lower ≡ l → gifts receive taker cs l ≡ receive (taker + i)
gifts_one receive taker [] l i once inside leads = absurd (omega arith)
gifts_one receive taker (c ∷ cs) l zero once inside leads =
    let whole = sum_by-cons (λ (d : Coupling). cond {A = ℕ} (eqb d.lower l) 1 0) c cs in
    let test = eq-eqb c.lower l leads in
    let one = cond-true {A = ℕ} (eqb c.lower l) 1 0 test in
    let here = cond-true (eqb c.lower l) (receive taker) 0 test in
    let rest = gifts_none receive (taker + 1) cs l (omega arith) in
    let same : receive taker ≡ receive (taker + 0) = ap receive (omega arith) in
    omega arith
gifts_one receive taker (c ∷ cs) l (suc i) once inside leads =
    let whole = sum_by-cons (λ (d : Coupling). cond {A = ℕ} (eqb d.lower l) 1 0) c cs in
    let there = get_or-le-sum_by (λ (d : Coupling). cond {A = ℕ} (eqb d.lower l) 1 0) cs i no_coupling (omega arith) in
    let one = cond-true {A = ℕ} (eqb (get_or cs i no_coupling).lower l) 1 0 (eq-eqb (get_or cs i no_coupling).lower l leads) in
    let rest = gifts_one receive (taker + 1) cs l i (omega arith) (omega arith) leads in
    let same : receive (taker + 1 + i) ≡ receive (taker + suc i) = ap receive (omega arith) in
    ⊎_elim
    (λ (t : eqb c.lower l ≡ true). let two = cond-true {A = ℕ} (eqb c.lower l) 1 0 t in absurd (omega arith))
    (λ (f : eqb c.lower l ≡ false). let zero = cond-false (eqb c.lower l) (receive taker) 0 f in omega arith)
    (cases_Bool (eqb c.lower l))

-- The couplings below a system that lead to another are those that join the two.
pub leading_below : (cs : List Coupling) (n l : ℕ) → leading_to (filter (λ c. eqb c.upper n) cs) l ≡ joining_count cs n l
leading_below [] n l = refl
leading_below (c ∷ cs) n l =
    let kept = filter (λ (d : Coupling). eqb d.upper n) cs in
    let rest = leading_below cs n l in
    let whole = sum_by-cons (λ (d : Coupling). cond {A = ℕ} (eqb d.upper n && eqb d.lower l) 1 0) c cs in
    ⊎_elim
    (λ (t : eqb c.upper n ≡ true).
    let with_it = ap (λ (ds : List Coupling). leading_to ds l) (cond-true (eqb c.upper n) (c ∷ kept) kept t) in
    let more = sum_by-cons (λ (d : Coupling). cond {A = ℕ} (eqb d.lower l) 1 0) c kept in
    let same : cond {A = ℕ} (eqb c.upper n && eqb c.lower l) 1 0 ≡ cond (eqb c.lower l) 1 0 = rw t in
    omega arith)
    (λ (f : eqb c.upper n ≡ false).
    let without = ap (λ (ds : List Coupling). leading_to ds l) (cond-false (eqb c.upper n) (c ∷ kept) kept f) in
    let none : cond {A = ℕ} (eqb c.upper n && eqb c.lower l) 1 0 ≡ 0 = rw f in
    omega arith)
    (cases_Bool (eqb c.upper n))

-- Where every coupling leads elsewhere, none leads to the system.
pub leading_elsewhere : (cs : List Coupling) (l : ℕ) → All (λ c. c.lower ≡ l → ⊥) cs → leading_to cs l ≡ 0
leading_elsewhere [] l away = refl
leading_elsewhere (c ∷ cs) l away =
    let whole = sum_by-cons (λ (d : Coupling). cond {A = ℕ} (eqb d.lower l) 1 0) c cs in
    let none = cond-false {A = ℕ} (eqb c.lower l) 1 0 (ne_eqb c.lower l away.0) in
    omega (arith, leading_elsewhere cs l away.1)
