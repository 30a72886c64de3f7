use Rattle.std.proofs.Common.{◌≡◌, ◌+◌, ◌-◌, eqb, length, ap, ◌∙◌, subst, arith}
use Rattle.rows.specs.Fields.{mark}
use Rattle.rows.proofs.Columns.{Written, written_none, written_more}
use Rattle.rows.proofs.field.write_columns.Goals as goal

pub loop-i-init : goal.loop-i-init
loop-i-init c = written_none c.args.out.now c.args.value

pub loop-i-preserved : goal.loop-i-preserved
loop-i-preserved c =
    let back : c.loop-i.i ≡ c.loop-i.i - 1 + 1 = omega arith in
    let long : length c.args.out.now ≡ length c.loop-i.out = omega arith in
    written_more c.loop-i.out c.args.value (c.loop-i.i - 1) c.loop-i.rest c.column_of.result (omega arith)
    (subst (λ i. Written c.loop-i.out c.args.value i c.loop-i.rest) back c.loop-i.invariant)
    (c.column_of.ensures ∙ ap (λ k. mark (eqb (c.loop-i.i - 1 + 1) k) c.loop-i.rest) long)
