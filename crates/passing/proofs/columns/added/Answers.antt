use Rattle.std.proofs.Common.{ℕ, ◌+◌, get_or, arith, rules, tests}
use Rattle.std.proofs.lemmas.List.FromFn.{fill_by_all}
use Rattle.passing.proofs.Made.{made_at}
use Rattle.passing.proofs.columns.added.Goals as goal

pub returns : goal.returns
returns c =
    let both : ℕ → ℕ = λ k. get_or c.args.kw.now k 0 + get_or c.args.mwh.now k 0 in
    let made = c.from_fn.ensures.items in
    fill_by_all both c.from_fn.result 32 0 made.long (λ k h. made_at _ both _ (λ x y q call. search (rules, tests)) c.from_fn.result 0 32 made.each k 0 (omega arith) (omega arith))
