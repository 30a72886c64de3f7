use denote.Param.Always.{always_mut}
use Rattle.number_lines.proofs.Answering.{LeadsOn}
use Rattle.number_lines.proofs.input_lines.answer_lines.Given as goal

abbrev pub invariant-loop-number : goal.invariant-loop-number
invariant-loop-number g l =
    record {
      callable : always_mut g.F.FnMut l.answer;
      leads : LeadsOn g.F.FnMut (g.B.Read.remaining l.initial.input) l.initial.answer (g.B.Read.remaining l.input) l.answer l.number l.tally;
    }
