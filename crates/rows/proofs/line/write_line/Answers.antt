use Rattle.std.proofs.Common.{◌≡◌, ◌+◌, ◌-◌, ◌*◌, ◌++◌, length, get_or, take, drop, set, Some, None, Ok, Err, sym, refl, ap, ◌∙◌, arith, length-drop, length-take}
use Rattle.std.proofs.lemmas.List.{drop-set-lt, length-set}
use Rattle.rows.specs.Fields.{columns}
use Rattle.rows.specs.Lines.{line}
use Rattle.rows.proofs.Lined.{length_line, wrote_none, wrote_more, wrote_all}
use Rattle.rows.proofs.Numbers.{write_roomy, unfit_found}
use Rattle.rows.proofs.line.write_line.Goals as goal

pub returns-in-Some-clause-wrote : goal.returns-in-Some-clause-wrote
returns-in-Some-clause-wrote c =
    let ns = c.args.numbers.now in
    let unfit = unfit_found ns (Some c.in-Some.i) c.in-Some.ensures in
    record {
      answer = ap Err c.at.ensures ∙ sym (write_roomy ns (line c.args.letter ns) (length c.args.buffer.now) c.if-buffer-lt-LONGEST_ROW.false unfit);
      buffer = refl;
    }

pub loop-i-init : goal.loop-i-init
loop-i-init c = wrote_none c.args.letter c.args.numbers.now c.args.buffer.now (omega arith)

pub loop-i-preserved : goal.loop-i-preserved
loop-i-preserved c =
    let i = c.loop-i.i in
    let a = 1 + 10 * i in
    let long = length-set c.args.buffer.now 0 c.args.letter in
    let wide : length (take (a + 10 - a) (drop a c.loop-i.buffer)) ≡ 10 = simp (length-take, length-drop) (omega arith) in
    wrote_more c.args.letter c.args.numbers.now (set c.args.buffer.now 0 c.args.letter) i (omega arith) c.loop-i.buffer c.write_columns.new.out _
    c.loop-i.invariant (omega arith) (omega arith) (omega arith) (c.write_columns.ensures ∙ ap (λ k. columns k (get_or c.args.numbers.now i 0)) wide)

pub returns-clause-wrote : goal.returns-clause-wrote
returns-clause-wrote c =
    let ns = c.args.numbers.now in
    let old = c.args.buffer.now in
    let start = set old 0 c.args.letter in
    let size = 2 + 10 * length ns in
    let long = length-set old 0 c.args.letter in
    let end : c.loop-i.i ≡ length ns = omega arith in
    let s : size - 1 + 1 ≡ size = omega arith in
    let fit = unfit_found ns None c.in_default.ensures in
    record {
      answer = ap Ok (sym (length_line c.args.letter ns)) ∙ sym (write_roomy ns (line c.args.letter ns) (length old) c.if-buffer-lt-LONGEST_ROW.false fit);
      buffer = wrote_all c.args.letter ns start c.loop-i.i (omega arith) c.loop-i.buffer (size - 1) c.loop-i.invariant end (omega arith) (omega arith)
          ∙ ap (λ l. line c.args.letter ns ++ l) (ap (λ m. drop m start) s ∙ drop-set-lt size old 0 c.args.letter (omega arith));
    }
