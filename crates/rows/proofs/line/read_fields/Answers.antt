use Rattle.std.proofs.Common.{◌≡◌, ℕ, ◌+◌, ◌-◌, ◌*◌, length, get_or, Err, sym, ap, ◌∙◌, arith}
use Rattle.std.proofs.lemmas.Result.{err_from_is_err_and}
use Rattle.std.proofs.lemmas.List.{length-replicate}
use Rattle.rows.specs.declared.fault.RowFault.TheVariants.{Field}
use Rattle.rows.specs.Faults.{malformed}
use Rattle.rows.specs.Fields.{number_in}
use Rattle.rows.specs.Lines.{field_bytes}
use Rattle.rows.proofs.Numbers.{answer_shaped, answer_misshaped, numbers_all, numbers_refused}
use Rattle.rows.proofs.line.read_fields.Goals as goal
use Rattle.rows.proofs.line.read_fields.Goals.{then-row-size-via-then-row-size, then-row-size-via-else-row-size+then-row-size-ne10}

pub returns-then-row-size-clause-answer : goal.returns-then-row-size-clause-answer
returns-then-row-size-clause-answer g c =
    let row = c.args.row.now in
    let s : 2 + 10 * g.row.N - 1 ≡ 1 + 10 * g.row.N = omega arith in
    let wrong : (length row ≡ 2 + 10 * g.row.N) × (get_or row (1 + 10 * g.row.N) 0 ≡ 10) → ⊥ = elim c.then-row-size.branch [
      | then-row-size-via-then-row-size w ↦ λ fine. w.if-row-size.true fine.0
      | then-row-size-via-else-row-size+then-row-size-ne10 w ↦ λ fine. w.if-row-size-ne10.true (ap (λ m. get_or row m 0) s ∙ fine.1)
    ] in
    sym (answer_misshaped g.row.N row wrong)

pub returns-in_err-number-clause-answer : goal.returns-in_err-number-clause-answer
returns-in_err-number-clause-answer g c =
    let p = err_from_is_err_and c.from_residual.result c.from_residual.ensures.1 in
    let row = c.args.row.now in
    let i = c.loop-i.i in
    let told = c.in_err-number.ensures in
    let long = length-replicate {A = ℕ} g.row.N 0 in
    let s : 0 + i ≡ i = omega arith in
    let end : 1 + 10 * g.row.N ≡ 2 + 10 * g.row.N - 1 = omega arith in
    let refused = answer_shaped g.row.N row c.if-row-size.false (ap (λ m. get_or row m 0) end ∙ c.if-row-size-ne10.false)
    ∙ numbers_refused g.row.N 0 row c.loop-i.number-items i (omega arith) (omega (arith, c.loop-i.invariant.0)) c.loop-i.invariant.1 (ap (λ j. number_in (field_bytes row j)) s ∙ told.0) in
    rw (p.1, p.2) (ap (λ e. Err (Field e)) (told.1 ∙ ap (λ j. malformed (j + 1)) (sym s)) ∙ sym refused)

pub returns-clause-answer : goal.returns-clause-answer
returns-clause-answer g c =
    let row = c.args.row.now in
    let long = length-replicate {A = ℕ} g.row.N 0 in
    let n : length c.loop-i.number-items ≡ g.row.N = omega (arith, c.loop-i.invariant.0) in
    let end : 1 + 10 * g.row.N ≡ 2 + 10 * g.row.N - 1 = omega arith in
    sym (answer_shaped g.row.N row c.if-row-size.false (ap (λ m. get_or row m 0) end ∙ c.if-row-size-ne10.false)
    ∙ numbers_all g.row.N 0 row c.loop-i.number-items n (λ k l. c.loop-i.invariant.1 k (omega arith)))
