use Rattle.std.proofs.Common.{◌≡◌, length}
use Rattle.page.specs.Runs.{most_answers}
use Rattle.tariff_page.proofs.answer_page.Given as goal

abbrev pub invariant-loop-page : goal.invariant-loop-page
invariant-loop-page l = length l.buffer ≡ 62

abbrev pub decreases-loop-page : goal.decreases-loop-page
decreases-loop-page l = most_answers l.page
