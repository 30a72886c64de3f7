-- Lines taken from an input one after another, and the closure that answers them.
use Rattle.std.proofs.Common.{◌≡◌, ℕ, ◌+◌, ◌-◌, ◌^◌, ◌≤◌, ◌<◌, cond, true, false, ◌==◌, List, [], ◌∷◌, length, Option, Some, None, Ok, Result, IfSome, refl, sym, ap, ◌∙◌, subst, arith}
use Rattle.std.specs.Fn.{Mut, Called}
use Rattle.std.specs.Borrow.{Bor}
use Rattle.std.specs.Io.KnownBytes.{IsAtEnd}
use Rattle.std.specs.Io.BufRead.{DropsThrough, drop_through, take_through}
use Rattle.number_lines.specs.InputLines.{AnsweredInTurn, AnswersBy, before, lines_of, tallied_from}
use Rattle.number_lines.specs.Tallies.{no_line, tallied}
use Rattle.number_lines.specs.declared.tally.Outcome.{Outcome}
use Rattle.number_lines.specs.declared.tally.Tally.{Tally}

-- The first line, and the lines behind it.
pub lines_first : (b : ℕ) (bs : List ℕ) → lines_of (b ∷ bs) ≡ take_through 10 (b ∷ bs) ∷ lines_of (drop_through 10 (b ∷ bs))
unfolding lines_of
lines_first b [] = elim (b == 10) as (λ v. cond v ((b ∷ []) ∷ []) (before b []) ≡ cond v (b ∷ []) (b ∷ []) ∷ lines_of (cond v [] [])) [ true ↦ refl | false ↦ refl ]
lines_first b (c ∷ cs) = elim (b == 10) as (λ v. cond v ((b ∷ []) ∷ lines_of (c ∷ cs)) (before b (lines_of (c ∷ cs))) ≡ cond v (b ∷ []) (b ∷ take_through 10 (c ∷ cs)) ∷ lines_of (cond v (c ∷ cs) (drop_through 10 (c ∷ cs)))) [ true ↦ refl | false ↦ ap (before b) (lines_first c cs) ]

-- A line taken away leaves fewer bytes.
pub fewer : (b : ℕ) (bs : List ℕ) → length (drop_through 10 (b ∷ bs)) ≤ length bs
fewer b [] = elim (b == 10) as (λ v. length {A = ℕ} (cond v [] []) ≤ 0) [ true ↦ omega arith | false ↦ omega arith ]
fewer b (c ∷ cs) =
    let less = fewer c cs in
    elim (b == 10) as (λ v. length {A = ℕ} (cond v (c ∷ cs) (drop_through 10 (c ∷ cs))) ≤ length (c ∷ cs)) [ true ↦ omega arith | false ↦ omega arith ]

module _ {F E : Type 0} (calls : Mut F (ℕ × (Bor (List ℕ) × Unit {0})) (Result Outcome E)) where
  -- Calls that answer by `outcome` tally what it tells of the lines.
  pub tallied_in_turn : (outcome : ℕ → List ℕ → Outcome) (answer : F) (number : ℕ) (lines : List (List ℕ)) (t : Tally) (later : F) (told : Tally)
      → AnswersBy calls outcome answer → AnsweredInTurn calls answer number lines t later told → told ≡ tallied_from outcome number lines t
  tallied_in_turn outcome answer number [] t later told answers (same, tells) = tells
  tallied_in_turn outcome answer number (line ∷ lines) t later told answers (shown, here, next, is, call, rest) =
      let first = answers.at ((number, (shown, tt)) ∷ []) (Ok here) next call in
      let behind : AnswersBy calls outcome next = record { at = λ xs. (answers.at ((number, (shown, tt)) ∷ xs) (Ok here) next call).1 } in
      let tells : here ≡ outcome number line = first.0 ∙ ap (outcome number) is in
      tallied_in_turn outcome next (number + 1) lines (tallied t here) later told behind rest ∙ ap (λ o. tallied_from outcome (number + 1) lines (tallied t o)) tells

  -- Before the line of this number `rest` is left of the input, and who answers its lines from here has answered all in turn.
  pub record Leading (bytes : List ℕ) (known : Option (List ℕ)) (first answer : F) (number : ℕ) (tally : Tally) : Type 0 where
    pub rest : List ℕ
    pub knows : known ≡ Some rest
    pub fits : length rest + number ≤ length bytes + 1
    pub leads : (later : F) (told : Tally) → AnsweredInTurn calls answer number (lines_of rest) tally later told → AnsweredInTurn calls first 1 (lines_of bytes) no_line later told

  -- A closure that answers by `outcome` still does then, and the lines of `rest` are what the tally lacks. `Leading` tells of runs that
  -- reach the end, and the contract needs no more; this tells of a run that stops early too.
  pub record Left (outcome : ℕ → List ℕ → Outcome) (bytes : List ℕ) (known : Option (List ℕ)) (answer : F) (number : ℕ) (tally : Tally) : Type 0 where
    pub rest : List ℕ
    pub knows : known ≡ Some rest
    pub answers : AnswersBy calls outcome answer
    pub fits : length rest + number ≤ length bytes + 1
    pub tells : tallied_from outcome number (lines_of rest) tally ≡ tallied_from outcome 1 (lines_of bytes) no_line

module _ {F E : Type 0} (calls : Mut F (ℕ × (Bor (List ℕ) × Unit {0})) (Result Outcome E)) (start : Option (List ℕ)) (first : F) where
  -- So it is where the bytes are known, for all that the closure may answer by.
  abbrev pub LeadsOn : Option (List ℕ) → F → ℕ → Tally → Type 0
  LeadsOn known answer number tally =
      IfSome start (λ bytes. Leading calls bytes known first answer number tally × ((outcome : ℕ → List ℕ → Outcome) → AnswersBy calls outcome first → Left calls outcome bytes known answer number tally))

  -- At the end all lines are answered in turn.
  abbrev pub Whole : F → Tally → Type 0
  Whole later tally = IfSome start (λ bytes. length bytes + 2 < 2 ^ 64 → AnsweredInTurn calls first 1 (lines_of bytes) no_line later tally)

  -- Then the tally is that of all lines.
  abbrev pub Counted : Tally → Type 0
  Counted tally = IfSome start (λ bytes. length bytes + 2 < 2 ^ 64 → (outcome : ℕ → List ℕ → Outcome) → AnswersBy calls outcome first → tally ≡ tallied_from outcome 1 (lines_of bytes) no_line)

module _ {F E : Type 0} (calls : Mut F (ℕ × (Bor (List ℕ) × Unit {0})) (Result Outcome E)) where
  pub leads_at_first : (start : Option (List ℕ)) (first : F) → LeadsOn calls start first start first 1 no_line
  leads_at_first None first = tt
  leads_at_first (Some bytes) first = (
    record { rest = bytes; knows = refl; fits = omega arith; leads = λ later told all. all },
    λ outcome h. record { rest = bytes; knows = refl; answers = h; fits = omega arith; tells = refl },
  )

  -- One line more was answered in turn.
  answered_on : (bytes rest : List ℕ) (known : Option (List ℕ)) (first answer : F) (number : ℕ) (tally : Tally) (line : Bor (List ℕ)) (told : Outcome) (answer' : F)
      → length rest + number ≤ length bytes + 1
      → ((later : F) (all : Tally) → AnsweredInTurn calls answer number (lines_of rest) tally later all → AnsweredInTurn calls first 1 (lines_of bytes) no_line later all)
      → Called calls answer (number, (line, tt)) (Ok told) answer' → 0 < length line.now → line.now ≡ take_through 10 rest → known ≡ Some (drop_through 10 rest)
      → Leading calls bytes known first answer' (number + 1) (tallied tally told)
  answered_on bytes [] known first answer number tally line told answer' fits leads call some is left =
      let none : length line.now ≡ 0 = ap length is in absurd (omega arith)
  answered_on bytes (b ∷ bs) known first answer number tally line told answer' fits leads call some is left =
      let less = fewer b bs in
      record {
        rest = drop_through 10 (b ∷ bs);
        knows = left;
        fits = omega arith;
        leads = λ later all more. leads later all (subst (λ lines. AnsweredInTurn calls answer number lines tally later all) (sym (lines_first b bs)) (line, told, answer', is, call, more));
      }

  -- And the tally lacks one line less.
  told_on : (outcome : ℕ → List ℕ → Outcome) (bytes rest : List ℕ) (known : Option (List ℕ)) (answer : F) (number : ℕ) (tally : Tally) (line : Bor (List ℕ)) (told : Outcome) (answer' : F)
      → AnswersBy calls outcome answer → length rest + number ≤ length bytes + 1 → tallied_from outcome number (lines_of rest) tally ≡ tallied_from outcome 1 (lines_of bytes) no_line
      → Called calls answer (number, (line, tt)) (Ok told) answer' → 0 < length line.now → line.now ≡ take_through 10 rest → known ≡ Some (drop_through 10 rest)
      → Left calls outcome bytes known answer' (number + 1) (tallied tally told)
  told_on outcome bytes [] known answer number tally line told answer' answers fits tells call some is left =
      let none : length line.now ≡ 0 = ap length is in absurd (omega arith)
  told_on outcome bytes (b ∷ bs) known answer number tally line told answer' answers fits tells call some is left =
      let here : told ≡ outcome number line.now = (answers.at ((number, (line, tt)) ∷ []) (Ok told) answer' call).0 in
      let less = fewer b bs in
      record {
        rest = drop_through 10 (b ∷ bs);
        knows = left;
        answers = record { at = λ xs. (answers.at ((number, (line, tt)) ∷ xs) (Ok told) answer' call).1 };
        fits = omega arith;
        tells = rw (here, is) (subst (λ lines. tallied_from outcome number lines tally ≡ tallied_from outcome 1 (lines_of bytes) no_line) (lines_first b bs) tells);
      }

  pub leads_on : (start : Option (List ℕ)) (first : F) (known known' : Option (List ℕ)) (answer : F) (number : ℕ) (tally : Tally) (line : Bor (List ℕ)) (told : Outcome) (answer' : F)
      → LeadsOn calls start first known answer number tally
      → Called calls answer (number, (line, tt)) (Ok told) answer' → 0 < length line.now → IfSome known (λ xs. line.now ≡ take_through 10 xs) → DropsThrough known known' 10
      → LeadsOn calls start first known' answer' (number + 1) (tallied tally told)
  leads_on None first known known' answer number tally line told answer' now call some is left = tt
  leads_on (Some bytes) first known known' answer number tally line told answer' (now, lacking) call some is left =
      let text : (xs : List ℕ) → known ≡ Some xs → line.now ≡ take_through 10 xs = λ xs knows. subst (λ k. IfSome k (λ ys. line.now ≡ take_through 10 ys)) knows is in
      let behind : (xs : List ℕ) → known ≡ Some xs → known' ≡ Some (drop_through 10 xs) = λ xs knows. subst (λ k. DropsThrough k known' 10) knows left in (
        answered_on bytes now.rest known' first answer number tally line told answer' now.fits now.leads call some (text _ now.knows) (behind _ now.knows),
        λ outcome h.
            let lacks = lacking outcome h in
            told_on outcome bytes lacks.rest known' answer number tally line told answer' lacks.answers lacks.fits lacks.tells call some (text _ lacks.knows) (behind _ lacks.knows),
      )

  pub leads_to_end : (start : Option (List ℕ)) (first : F) (known : Option (List ℕ)) (answer : F) (number : ℕ) (tally : Tally)
      → LeadsOn calls start first known answer number tally → IsAtEnd known → Whole calls start first answer tally
  unfolding lines_of
  leads_to_end None first known answer number tally now over = tt
  leads_to_end (Some bytes) first known answer number tally (now, lacking) over = λ few.
      let none : now.rest ≡ [] = subst IsAtEnd now.knows over in
      now.leads answer tally (subst (λ rest. AnsweredInTurn calls answer number (lines_of rest) tally answer tally) (sym none) (refl, refl))

  -- So many lines cannot have come.
  pub leads_past_end : (start : Option (List ℕ)) (first : F) (known : Option (List ℕ)) (answer : F) (number : ℕ) (tally : Tally)
      → LeadsOn calls start first known answer number tally → 2 ^ 64 - 1 ≤ number → Whole calls start first answer tally
  leads_past_end None first known answer number tally now past = tt
  leads_past_end (Some bytes) first known answer number tally (now, lacking) past = λ few.
      let fits = now.fits in
      absurd (omega arith)

  pub counted : (start : Option (List ℕ)) (first later : F) (tally : Tally) → Whole calls start first later tally → Counted calls start first tally
  counted None first later tally whole = tt
  counted (Some bytes) first later tally whole = λ few outcome answers. tallied_in_turn calls outcome first 1 (lines_of bytes) no_line later tally answers (whole few)
