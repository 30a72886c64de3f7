-- The lines of an input, and the tally of what became of them.
use Rattle.std.specs.Prelude.{◌≡◌, ℕ, ◌+◌, cond, List, [], ◌∷◌, ◌==◌, Ok, Result, IfOk}
use Rattle.std.specs.Borrow.{Bor}
use Rattle.std.specs.Fn.{Mut, AlwaysReturns, Called}
use Rattle.number_lines.specs.declared.tally.Outcome.{Outcome}
use Rattle.number_lines.specs.declared.tally.Tally.{Tally}
use Rattle.number_lines.specs.Tallies.{tallied}

-- lines with one byte more before the first of them
abbrev pub before : ℕ → List (List ℕ) → List (List ℕ)
before b [] = (b ∷ []) ∷ []
before b (line ∷ lines) = (b ∷ line) ∷ lines

-- the lines of an input, cut after each line feed; the last one may lack it
unfoldable pub lines_of : List ℕ → List (List ℕ)
lines_of [] = []
lines_of (b ∷ bs) = cond (b == 10) ((b ∷ []) ∷ lines_of bs) (before b (lines_of bs))

-- each call, from this closure on, answers what `outcome` tells of the line's number and its bytes, where it does not fail
abbrev pub AnswersBy : {F E : Type 0} → Mut F (ℕ × (Bor (List ℕ) × Unit {0})) (Result Outcome E) → (ℕ → List ℕ → Outcome) → F → Type 0
AnswersBy calls outcome answer = AlwaysReturns calls (λ line r. IfOk r (λ told. told ≡ outcome line.0 line.1.0.now)) answer

-- the tally with these lines more, the first of which has this number
abbrev pub tallied_from : (ℕ → List ℕ → Outcome) → ℕ → List (List ℕ) → Tally → Tally
tallied_from outcome number [] t = t
tallied_from outcome number (line ∷ lines) t = tallied_from outcome (number + 1) lines (tallied t (outcome number line))

module _ {F E : Type 0} (calls : Mut F (ℕ × (Bor (List ℕ) × Unit {0})) (Result Outcome E)) where
  -- each of these lines was answered by one call, in order, the first by this number; the calls, and no others, led from the closure
  -- to `later`, and what became of the lines was added to the tally
  abbrev pub AnsweredInTurn : F → ℕ → List (List ℕ) → Tally → F → Tally → Type 0
  AnsweredInTurn answer number [] t later told = (later ≡ answer) × (told ≡ t)
  AnsweredInTurn answer number (line ∷ lines) t later told =
      (shown : Bor (List ℕ)) × (outcome : Outcome) × (next : F)
      × (shown.now ≡ line)
      × Called calls answer (number, (shown, tt)) (Ok outcome) next
      × AnsweredInTurn next (number + 1) lines (tallied t outcome) later told
