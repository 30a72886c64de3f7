-- A fold over numbers that takes them off a limit, and gives up where one is more than what is left.
use Rattle.std.proofs.Common.{◌≡◌, ℕ, ◌+◌, ◌-◌, ◌<◌, cond, ltb, List, length, sum, Some, None, Option, Iter, Bor, sym, refl, ap, ◌∙◌, arith}
use Rattle.std.specs.Iterator.{YieldsThen}
use Rattle.std.specs.List.{FoldsTo, sum_by}
use Rattle.std.specs.Option.{MatchOption}
use Rattle.std.proofs.lemmas.Bool.{cond_above, cond_below}
use Rattle.std.proofs.lemmas.Fn.{chained_keeps, fronts}
use Rattle.std.proofs.lemmas.Iterator.{YieldsList-from_slice}
use Rattle.std.proofs.lemmas.Iterator.Consumers.{YieldsList-end, YieldsList-so_far, YieldsList-turn}
use Rattle.std.proofs.lemmas.List.Sums.{sum_by_more, sum_by_push, sum_by-take-le, sum-map}

module _ (limit : ℕ) {F : Type 0} (R : F × ℕ → Bor ℕ → F × ℕ → Type 0) (goes : (p : F × ℕ) (x : Bor ℕ) (q : F × ℕ) → R p x q → p.1 ≡ q.1 + x.now) where
  -- what is left and the sum of the items so far are the limit
  left_so_far : (xs : List (Bor ℕ)) (f g : F) (a : ℕ) → FoldsTo R (f, limit) xs (g, a) → a + sum_by (λ y. y.now) xs ≡ limit
  left_so_far xs f g a folds =
      chained_keeps R (λ ys q. q.1 + sum_by (λ y. y.now) ys ≡ limit)
      (λ ys q x v k turn. let next = goes q x v turn in omega (arith, sum_by_push (λ (y : Bor ℕ). y.now) ys x))
      xs (f, limit) (g, a) (omega arith) folds

  -- Each item was taken off, or one was more than what was left.
  pub bounded_sum : (ws : List ℕ) (s u : Iter ℕ) → s.rest.now ≡ ws → (xs : List (Bor ℕ)) (o : Option (Bor ℕ)) (f g : F) (a : ℕ) (r : Option ℕ) → YieldsThen fronts s xs o u → FoldsTo R (f, limit) xs (g, a) → {A : Type 0} {B : Bor ℕ → Type 0} → (A → r ≡ Some a) → ((x : Bor ℕ) → B x → (r ≡ None) × (a < x.now)) → MatchOption o A B → r ≡ cond (ltb limit (sum ws)) None (Some (limit - sum ws))
  bounded_sum ws s u rest xs None f g a r y folds ends breaks out =
      let so_far = left_so_far xs f g a folds in
      let all = YieldsList-end (YieldsList-from_slice ws rest) xs y.0 y.1 None u refl y.2 in
      let whole : sum_by (λ (y : Bor ℕ). y.now) xs ≡ sum ws = sym (sum-map (λ (y : Bor ℕ). y.now) xs) ∙ ap sum all.0 in
      let left : a ≡ limit - sum ws = omega arith in
      ends out ∙ cond_above limit (sum ws) _ _ _ (omega arith) (ap Some left)
  bounded_sum ws s u rest xs (Some x) f g a r y folds ends breaks out =
      let so_far = left_so_far xs f g a folds in
      let road = YieldsList-from_slice ws rest in
      let front = ap sum (YieldsList-so_far road xs y.0 y.1) in
      let items = sum-map (λ (y : Bor ℕ). y.now) xs in
      let turn = YieldsList-turn road xs y.0 y.1 (Some x) u x refl y.2 in
      let more = sum_by_more (λ n. n) ws (length xs) x.now turn.0 in
      let within = sum_by-take-le (λ n. n) ws (length xs + 1) in
      let over = breaks x out in
      over.0 ∙ cond_below limit (sum ws) _ _ (omega arith)
