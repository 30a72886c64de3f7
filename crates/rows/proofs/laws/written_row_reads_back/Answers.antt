use Rattle.std.proofs.Common.{sym, ◌∙◌, arith}
use Rattle.rows.proofs.Numbers.{refused_unfit, written_fit}
use Rattle.rows.proofs.laws.written_row_reads_back.Goals as goal

pub returns-in_err-size-clause-back : goal.returns-in_err-size-clause-back
returns-in_err-size-clause-back g c =
    λ fit. absurd (refused_unfit _ _ 62 c.write.result (omega arith) fit (sym c.ok.ensures.value ∙ c.in_err-size.was) c.write.ensures.wrote.answer)

pub returns-clause-unfit : goal.returns-clause-unfit
returns-clause-unfit g c =
    λ none. absurd (none (written_fit _ _ 62 c.in_ok-size.size c.write.result (sym c.ok.ensures.value ∙ c.in_ok-size.was) c.write.ensures.wrote.answer))
