use Rattle.std.proofs.Common.{rules}
use Rattle.sharing.proofs.Bounding.{bounded_sum}
use Rattle.sharing.proofs.admitted.room_left.Goals as goal

pub returns : goal.returns
returns c =
    let ran = c.try_fold.ensures.ran in
    bounded_sum 1_000_000_000 _ (λ p x q k. search rules) c.args.weights.now _ _ (cc) ran.0 ran.1 _ ran.2 ran.3 _ ran.4 ran.5 (λ k. k) (λ x k. search rules) ran.6
