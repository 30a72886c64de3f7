use Rattle.std.proofs.Common.{◌≡◌, ◌++◌, ◌<◌, length, IfSome, subst, of_calls, rules, arith}
use Rattle.number_lines.specs.Tallies.{no_line}
use Rattle.std.proofs.lemmas.Fn.{called}
use Rattle.std.specs.Io.BufRead.{take_through}
use Rattle.number_lines.proofs.Answering.{counted, leads_at_first, leads_on, leads_past_end, leads_to_end}
use Rattle.number_lines.proofs.input_lines.answer_lines.Goals as goal
use Rattle.number_lines.proofs.input_lines.answer_lines.Goals.{else-loop-number-test, then-loop-number-test+in_ok-read_until+then-branch-eq0}

pub loop-number-init : goal.loop-number-init
loop-number-init g c = record {
  callable = c.requires;
  leads = let none : c.default-tally.result ≡ no_line = search rules in rw none (leads_at_first g.F.FnMut (g.B.Read.remaining c.args.input) c.args.answer.now);
}

pub loop-number-preserved : goal.loop-number-preserved
loop-number-preserved g c = record {
  callable = search of_calls;
  leads =
      let call = called g.F.FnMut c.answer.ensures c.in_ok-answer.was in
      let long = c.in_ok-read_until.ensures.ok in
      let some : 0 < length c.deref.result.now = omega arith in
      let text : IfSome (g.B.Read.remaining c.loop-number.input) (λ xs. c.deref.result.now ≡ take_through 10 xs) =
      rw c.deref.ensures.value (subst (λ front. IfSome (g.B.Read.remaining c.loop-number.input) (λ xs. c.read_until.new.buf.items ≡ front ++ take_through 10 xs)) c.new-line.ensures.items c.in_ok-read_until.ensures.bytes) in
      rw c.with-tally.ensures (leads_on g.F.FnMut _ _ _ _ _ _ _ _ _ _ c.loop-number.invariant.leads call some text c.in_ok-read_until.ensures.rest);
}

pub returns-clause-in_turn : goal.returns-clause-in_turn
returns-clause-in_turn g c =
    elim c.loop-number-test.branch [
      | else-loop-number-test w ↦ leads_past_end g.F.FnMut _ _ _ _ _ _ c.loop-number.invariant.leads (omega arith)
      | then-loop-number-test+in_ok-read_until+then-branch-eq0 w ↦ leads_to_end g.F.FnMut _ _ _ _ _ _ c.loop-number.invariant.leads (w.in_ok-read_until.ensures.end w.if-branch-eq0.true)
    ]

pub returns-clause-counted : goal.returns-clause-counted
returns-clause-counted g c = counted g.F.FnMut _ _ _ _ (returns-clause-in_turn g c)
