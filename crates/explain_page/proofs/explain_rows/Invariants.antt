use Rattle.std.proofs.Common.{◌≤◌}
use Rattle.explain_page.proofs.explain_rows.Given as goal

abbrev pub invariant-loop-row : goal.invariant-loop-row
invariant-loop-row g l =
    (goal.iterator-loop-row g).can_next l.row-iterator ×
    (goal.iterator-loop-row g).is_finite l.row-iterator ×
    (l.refused ≤ l.row-iterator.row)
