use Rattle.std.proofs.Common.{◌≡◌, length, sym, ap, ◌∙◌, subst, arith}
use Rattle.rows.proofs.Columns.{Read, length_columns, read_more, read_refused, read_all, number_from_columns, number_none}
use Rattle.rows.proofs.field.read_field.Goals as goal

pub returns-then-columns-ne-FIELD_WIDTH : goal.returns-then-columns-ne-FIELD_WIDTH
returns-then-columns-ne-FIELD_WIDTH c =
    sym (number_none 10 _ (λ n l e. c.if-columns-ne-FIELD_WIDTH.true (ap length e ∙ length_columns 10 n)))

pub returns-in_err-value : goal.returns-in_err-value
returns-in_err-value c =
    c.from_residual.ensures ∙ sym (number_none 10 _ (read_refused 10 _ _ _ (omega arith) (omega arith) c.loop-i.invariant c.in_err-value.ensures))

pub loop-i-preserved : goal.loop-i-preserved
loop-i-preserved c =
    let told = c.in_ok-value.ensures in
    read_more 10 _ _ _ (omega arith) (omega arith) c.loop-i.invariant _ told.0 told.1

pub returns : goal.returns
returns c =
    let end : c.loop-i.i ≡ 10 = omega arith in
    let all = read_all 10 _ _ (omega arith) (subst (λ i. Read 10 c.args.columns.now i c.loop-i.value) end c.loop-i.invariant) in
    sym (number_from_columns 10 _ _ all.0 all.1)
