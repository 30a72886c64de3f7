-- What a pass does to each system: what stands there after it, and what landed.
use Rattle.std.proofs.Common.{◌≡◌, ℕ, ◌+◌, ◌-◌, ◌<◌, ◌≤◌, Bool, true, eqb, List, [], ◌∷◌, length, get_or, filter, refl, ap, ◌∙◌, arith}
use Rattle.std.specs.List.{AllByRecursion as All}
use Rattle.std.proofs.ByRecursion.{All-from_get_or, All-get_or, All-weaker}
use Rattle.std.proofs.lemmas.List.{get_or-set_other, get_or-set_same, length-set}
use Rattle.std.proofs.lemmas.Bool.{cond_both, eqb-true}
use Rattle.year_model.specs.declared.tables.Coupling.{Coupling}
use Rattle.year_model.specs.declared.tables.System.{System}
use Rattle.year_model.specs.Passes.{below, emptied}
use Rattle.year_model.specs.PassLaws.{lower_of}
use Rattle.year_model.specs.Sound.{no_coupling, no_system, system_at}
use Rattle.year_model.specs.State.{State, rank, renumbered}
use Rattle.year_model.proofs.Entered.{Entered}
use Rattle.year_model.proofs.Gifts.{gifts, gifts_handed, gifts_none, gifts_one, leading_below, leading_elsewhere, stands_at}
use Rattle.year_model.proofs.GridPasses.{below_leads, systems_passed}
use Rattle.year_model.proofs.Grids.{Grid}
use Rattle.year_model.proofs.HandingDown.{handed_down_adds, same_but_standing}
use Rattle.year_model.proofs.Lookups.{Entry}

-- What follows of each element that is kept from the test and from what holds of each, holds of all that are kept.
all_kept : {X : Type 0} (test : X → Bool) (P Q : X → Type 0) → ((x : X) → test x ≡ true → P x → Q x) → (xs : List X) → All P xs → All Q (filter test xs)
all_kept test P Q both [] each = tt
all_kept test P Q both (x ∷ xs) each =
    let rest = all_kept test P Q both xs each.1 in
    cond_both (test x) (x ∷ filter test xs) (filter test xs) (All Q) (λ t. (both x t each.0, rest)) (λ _. rest)

-- The couplings below a system lead to systems of a greater rank.
below_rises : (s : State) → Grid s → (n : ℕ) → All (λ c. rank (system_at s n) < rank (system_at s c.lower)) (below s n)
below_rises s v n =
    all_kept (λ (c : Coupling). eqb c.upper n) (λ c. rank (system_at s c.upper) < rank (system_at s c.lower)) (λ c. rank (system_at s n) < rank (system_at s c.lower))
    (λ c t up. rw (eqb-true c.upper n t) at up) s.couplings
    (All-from_get_or (λ c. rank (system_at s c.upper) < rank (system_at s c.lower)) s.couplings no_coupling v.ranked)

-- A system that is of no greater rank is given nothing.
pub given_none : (s : State) → Grid s → (n : ℕ) (f : ℕ → ℕ) (l : ℕ) → rank (system_at s l) ≤ rank (system_at s n) → gifts f 1 (below s n) l ≡ 0
given_none s v n f l low =
    gifts_none f 1 (below s n) l (leading_elsewhere (below s n) l
    (All-weaker (λ c. rank (system_at s n) < rank (system_at s c.lower)) (λ c. c.lower ≡ l → ⊥)
    (λ c up e. let same = ap (λ k. rank (system_at s k)) e in omega arith) (below s n) (below_rises s v n)))

-- A pass of a system, in which the takers receive this.
module _ (s : State) (v : Grid s) (n : ℕ) (x : System) (at : Entry s.systems n x) (f : ℕ → ℕ) where
  -- What stands at a system is what stood there once this one was emptied, and what it is given.
  stands_passed : (l : ℕ) → 1 ≤ l → stands_at (systems_passed s n x f) l ≡ stands_at (renumbered s.systems n (emptied x (f 0))) l + gifts f 1 (below s n) l
  stands_passed l positive =
      gifts_handed f 1 (below s n) (renumbered s.systems n (emptied x (f 0))) (length s.systems) l (length-set s.systems (n - 1) (emptied x (f 0))) (below_leads s v n) positive

  -- Nothing stands at the system that is passed.
  pub stands_here : stands_at (systems_passed s n x f) n ≡ 0
  stands_here =
      let low = at.low in
      let empty = ap (λ (z : System). z.standing) (get_or-set_same s.systems (n - 1) (emptied x (f 0)) no_system (omega (arith, at.high))) in
      omega (arith, stands_passed n low, given_none s v n f n (omega arith))

  -- At any other system stands what stood there and what it is given.
  pub stands_there : (l : ℕ) → 1 ≤ l → (l ≡ n → ⊥) → stands_at (systems_passed s n x f) l ≡ stands_at s.systems l + gifts f 1 (below s n) l
  stands_there l positive other =
      let low = at.low in
      let same = ap (λ (z : System). z.standing) (get_or-set_other s.systems (n - 1) (l - 1) (emptied x (f 0)) no_system (λ e. other (omega arith))) in
      omega (arith, stands_passed l positive)

  -- What the consumers receive lands.
  pub lands_here : (get_or (systems_passed s n x f) (n - 1) no_system).landed ≡ x.landed + f 0
  lands_here =
      let zs = renumbered s.systems n (emptied x (f 0)) in
      let long = length-set s.systems (n - 1) (emptied x (f 0)) in
      let inside : n - 1 < length s.systems = omega (arith, at.low, at.high) in
      let rest = (handed_down_adds f 1 (below s n) zs (length s.systems) long (below_leads s v n)).rest in
      ap (λ (z : System). z.landed) (same_but_standing zs (systems_passed s n x f) rest (n - 1) (omega arith))
      ∙ ap (λ (z : System). z.landed) (get_or-set_same s.systems (n - 1) (emptied x (f 0)) no_system inside)

  -- A system that a coupling leads to is given what that taker receives.
  pub stands_below : Entered s → (i : ℕ) → i < length (below s n) → stands_at s.systems (lower_of s n i) + f (i + 1) ≡ stands_at (systems_passed s n x f) (lower_of s n i)
  stands_below e i inside =
      let l = lower_of s n i in
      let positive : 1 ≤ l = (All-get_or _ (below s n) i no_coupling inside (below_leads s v n)).0 in
      let up : rank (system_at s n) < rank (system_at s l) = All-get_or (λ c. rank (system_at s n) < rank (system_at s c.lower)) (below s n) i no_coupling inside (below_rises s v n) in
      let once = e.once n l in
      let joins = leading_below s.couplings n l in
      let given = gifts_one f 1 (below s n) l i (omega arith) inside refl in
      let same : f (1 + i) ≡ f (i + 1) = ap f (omega arith) in
      omega (arith, stands_there l positive (λ is. let even = ap (λ k. rank (system_at s k)) is in omega arith))
