use Rattle.std.proofs.Common.{◌≡◌, ◌-◌, ◌^◌, min, sum, subst, arith, rules}
use Rattle.std.proofs.lemmas.List.Sums.{sum_by_push}
use Rattle.std.proofs.lemmas.Fn.{fold_over, slice_gives, fronts}
use Rattle.number_lines.proofs.sum.sum_of.Goals as goal

pub returns : goal.returns
returns c =
    subst (λ xs. c.fold.result ≡ min (sum xs) (2 ^ 64 - 1)) c.iter.ensures.rest
    (fold_over fronts (λ y. y.now) _ (λ ys n. n ≡ min (sum ys) (2 ^ 64 - 1)) _
    (λ ys a x b f' j k. let more = sum_by_push (λ y. y) ys x.now in search rules)
    _ _ _ _ (slice_gives c.iter.result) (omega arith) c.fold.ensures.ran)
