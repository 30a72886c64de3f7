-- Lines counted by what became of them.
use Rattle.std.specs.Prelude.{ℕ, ◌+◌, ◌-◌, ◌^◌, min}
use Rattle.number_lines.specs.declared.tally.Outcome.{Outcome}
use Rattle.number_lines.specs.declared.tally.Outcome.TheVariants.{Answered, Refused, NotUnderstood, Blank}
use Rattle.number_lines.specs.declared.tally.Tally.{Tally}

-- no line yet
abbrev pub no_line : Tally
no_line = record { answered = 0; refused = 0; unread = 0 }

-- one more, as far as 64 bits count
abbrev pub one_more : ℕ → ℕ
one_more n = min (n + 1) (2 ^ 64 - 1)

-- the tally with one line more; a blank line counts for nothing
abbrev pub tallied : Tally → Outcome → Tally
tallied t Answered = record { answered = one_more t.answered; refused = t.refused; unread = t.unread }
tallied t Refused = record { answered = t.answered; refused = one_more t.refused; unread = t.unread }
tallied t NotUnderstood = record { answered = t.answered; refused = t.refused; unread = one_more t.unread }
tallied t Blank = t

-- what became of a line that was put to two rules: it is answered if one of them answered it
abbrev pub answered_by : Outcome → Outcome → Outcome
answered_by Answered second = Answered
answered_by Refused second = second
answered_by NotUnderstood second = second
answered_by Blank second = second
