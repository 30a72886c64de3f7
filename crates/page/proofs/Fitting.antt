-- Every number of an answer row fits its field.
use Rattle.std.proofs.Common.{◌≡◌, ℕ, zero, suc, ◌+◌, ◌-◌, ◌^◌, ◌<◌, ◌≤◌, Bool, false, cond, not, ◌||◌, ltb, leb, List, [], ◌∷◌, ◌++◌, length, get_or, Some, None, Ok, Err, Option, Result, refl, arith}
use Rattle.std.proofs.lemmas.Bool.{cond_both, ltb-false}
use Rattle.refusal.specs.Grounds.{ground_number}
use Rattle.refusal.specs.declared.ground.Ground.{Ground}
use Rattle.refusal.specs.declared.ground.Ground.TheVariants.{PageTooLong, BufferTooSmall, UnknownLetter, WrongLength, MalformedField, OutOfBounds, UnknownCategory, NotThere, TableFull, SystemFixed, LevelNotLower, CoupledAlready, CostsTooHigh, MoreThanStands, ListTooLong, NoWeight, NotSettled, VolumeUnfit, TariffTooHigh, SystemNotFixed, ChargeTooHigh, DraftOut, NoMonthLeft, ReadingFell, LineTooHigh, DraftNotOut}
use Rattle.rows.specs.Faults.{in_row, numbered, row_place}
use Rattle.rows.specs.Fields.{number_in}
use Rattle.rows.specs.Judged.{letter_stands, row_answer}
use Rattle.rows.specs.Lines.{field_bytes, numbers_answer, numbers_from, shaped, with_number}
use Rattle.rows.specs.Requests.{call_lettered, numbers, read_answer, read_by, with_numbers}
use Rattle.rows.specs.declared.fault.Numbered.{Numbered}
use Rattle.rows.specs.declared.fault.RowFault.{RowFault}
use Rattle.rows.specs.declared.fault.RowFault.TheVariants.{Letter, Length, Field}
use Rattle.rows.specs.declared.request.Request.{Request}
use Rattle.rows.specs.declared.request.Request.TheVariants.{CalendarYear, Contract, Cost, Couple, Fix, Open, Pass, Settle, Start, TakeBack, Use}
use Rattle.rows.proofs.Requested.{few_numbers}
use Rattle.refusal.specs.Refusals.{refuse}
use Rattle.refusal.specs.declared.refusal.Refusal.{Refusal}
use Rattle.rows.specs.Told.{AnswerFits}
use Rattle.edition.specs.Entered.{is_category}
use Rattle.passing.specs.Passing.{largest_flow}
use Rattle.sharing.specs.Sharing.{largest_amount}
use Rattle.year_model.specs.Calls.{Outcome, found, largest_number, on_unfixed, reply_of, within_from}
use Rattle.year_model.specs.Makings.{Makings}
use Rattle.year_model.specs.Sound.{Sound}
use Rattle.year_model.specs.State.{State, is_fixed, numbered as entry_numbered, rank, with_couplings, with_net, with_system, with_systems}
use Rattle.year_model.specs.Systems.{below_count, charged, coupled, coupled_with, is_level, joining_count, most_below, most_couplings, most_systems, new_system, opened, standing_at, taken_back, used, with_use}
use Rattle.year_model.specs.declared.tables.System.{System}
use Rattle.year_model.proofs.Outcomes.{Bounded}
use Rattle.tariff_year.proofs.Bounds.{standing_bounded}
use Rattle.page.specs.Answers.{asked_answered, call_of, is_not_yet, replied, reply_row, row_answered}
use Rattle.page.specs.Laws.{AnswersFit}

pub ground_fits : (g : Ground) → ground_number g < 10 ^ 10
ground_fits PageTooLong = omega arith
ground_fits BufferTooSmall = omega arith
ground_fits UnknownLetter = omega arith
ground_fits WrongLength = omega arith
ground_fits MalformedField = omega arith
ground_fits OutOfBounds = omega arith
ground_fits UnknownCategory = omega arith
ground_fits NotThere = omega arith
ground_fits TableFull = omega arith
ground_fits SystemFixed = omega arith
ground_fits LevelNotLower = omega arith
ground_fits CoupledAlready = omega arith
ground_fits CostsTooHigh = omega arith
ground_fits MoreThanStands = omega arith
ground_fits ListTooLong = omega arith
ground_fits NoWeight = omega arith
ground_fits NotSettled = omega arith
ground_fits VolumeUnfit = omega arith
ground_fits TariffTooHigh = omega arith
ground_fits SystemNotFixed = omega arith
ground_fits ChargeTooHigh = omega arith
ground_fits DraftOut = omega arith
ground_fits NoMonthLeft = omega arith
ground_fits ReadingFell = omega arith
ground_fits LineTooHigh = omega arith
ground_fits DraftNotOut = omega arith

-- a fault has a place of at most six
abbrev Placed : {X : Type 0} → Result X RowFault → Type 0
Placed (Ok x) = Unit {0}
Placed (Err e) = row_place e ≤ 6

with_placed : (place : ℕ) (o : Option ℕ) (r : Result (List ℕ) RowFault) → place ≤ 6 → Placed r → Placed (with_number place o r)
with_placed place None r low rest = low
with_placed place (Some n) (Ok ns) low rest = tt
with_placed place (Some n) (Err e) low rest = rest

from_placed : (n i : ℕ) (row : List ℕ) → i + n ≤ 6 → Placed (numbers_from n i row)
unfolding numbers_from
from_placed zero i row low = tt
from_placed (suc n) i row low =
    with_placed (i + 1) (number_in (field_bytes row i)) (numbers_from n (i + 1) row) (omega arith) (from_placed n (i + 1) row (omega arith))

answer_placed : (n : ℕ) (row : List ℕ) → n ≤ 6 → Placed (numbers_answer n row)
unfolding numbers_answer
answer_placed n row low =
    cond_both (shaped n row) (numbers_from n 0 row) (Err Length) Placed (λ _. from_placed n 0 row (omega arith)) (λ _. omega arith)

numbers_placed : (call : Request) (r : Result (List ℕ) RowFault) → Placed r → Placed (with_numbers call r)
numbers_placed call (Ok ns) placed = tt
numbers_placed call (Err e) placed = placed

by_placed : (o : Option Request) (row : List ℕ) → Placed (read_by o row)
by_placed None row = omega arith
by_placed (Some call) row =
    numbers_placed call (numbers_answer (length (numbers call)) row) (answer_placed (length (numbers call)) row (few_numbers call))

read_placed : (row : List ℕ) → Placed (read_answer row)
unfolding read_answer
read_placed row = by_placed (call_lettered (get_or row 0 0)) row

row_placed : (number : ℕ) (row : List ℕ) → Placed (row_answer number row)
row_placed number row =
    cond_both (letter_stands number row) (read_answer row) (Err Letter) Placed (λ _. read_placed row) (λ _. omega arith)

-- the told number of an outcome, or the place of its refusal, fits a field
abbrev NumberFits : Outcome → Type 0
NumberFits (Ok done) = get_or done.1 0 0 < 10 ^ 10
NumberFits (Err refusal) = refusal.place < 10 ^ 10

record Fitting (o : Outcome) : Type 0 where
  pub fits : NumberFits o

unless_fits : (test : Bool) (refusal : Refusal) (o : Outcome) → refusal.place < 10 ^ 10 → (test ≡ false → Fitting o) → Fitting (cond test (Err refusal) o)
unless_fits test refusal o low goes_on = cond_both test (Err refusal) o Fitting (λ _. record { fits = low }) goes_on

within_fits : (place : ℕ) (arguments : List (ℕ × ℕ)) (o : Outcome) → place + length arguments < 10 ^ 10 → (Bounded arguments → Fitting o) → Fitting (within_from place arguments o)
within_fits place [] o low goes_on = goes_on tt
within_fits place (argument ∷ rest) o low goes_on =
    unless_fits (ltb argument.1 argument.0) (refuse OutOfBounds place) (within_from (place + 1) rest o) (omega arith) (λ f.
    within_fits (place + 1) rest o (omega arith) (λ bounds. goes_on (ltb-false argument.1 argument.0 f, bounds)))

found_fits : {X : Type 0} (looked : Option X) (next : X → Outcome) → ((x : X) → looked ≡ Some x → Fitting (next x)) → Fitting (found looked next)
found_fits None next goes_on = record { fits = omega arith }
found_fits (Some x) next goes_on = goes_on x refl

unfixed_fits : (s : State) (n : ℕ) (next : System → Outcome) → ((x : System) → entry_numbered s.systems n ≡ Some x → Fitting (next x)) → Fitting (on_unfixed s n next)
unfixed_fits s n next goes_on =
    found_fits (entry_numbered s.systems n) (λ x. cond (is_fixed x) (Err (refuse SystemFixed 0)) (next x)) (λ x at.
    unless_fits (is_fixed x) (refuse SystemFixed 0) (next x) (omega arith) (λ _. goes_on x at))

module _ (m : Makings) (s : State) (sound : Sound s) where
  opened_fits : (level category : ℕ) → Fitting (opened m s level category)
  opened_fits level category =
      let o₄ : Outcome = Ok (with_systems s (s.systems ++ new_system level category ∷ []), (length s.systems + 1) ∷ []) in
      let o₃ : Outcome = cond (leb most_systems (length s.systems)) (Err (refuse TableFull 0)) o₄ in
      let o₂ : Outcome = cond (not (m.known category)) (Err (refuse UnknownCategory 0)) o₃ in
      let o₁ : Outcome = cond (not (is_category category)) (Err (refuse OutOfBounds 2)) o₂ in
      let told : length s.systems + 1 < 10 ^ 10 = omega (arith, sound.tables.0) in
      unless_fits (not (is_level level)) (refuse OutOfBounds 1) o₁ (omega arith) (λ _.
      unless_fits (not (is_category category)) (refuse OutOfBounds 2) o₂ (omega arith) (λ _.
      unless_fits (not (m.known category)) (refuse UnknownCategory 0) o₃ (omega arith) (λ _.
      unless_fits (leb most_systems (length s.systems)) (refuse TableFull 0) o₄ (omega arith) (λ _. record { fits = told }))))

  coupled_with_fits : (upper lower kw mwh : ℕ) (above below : System) → Fitting (coupled_with s upper lower kw mwh above below)
  coupled_with_fits upper lower kw mwh above below =
      let full : Bool = leb most_couplings (length s.couplings) || leb most_below (below_count s.couplings upper) in
      let o₄ : Outcome = Ok (with_couplings s (s.couplings ++ record { upper = upper; lower = lower; kw = kw; mwh = mwh } ∷ []), (length s.couplings + 1) ∷ []) in
      let o₃ : Outcome = cond (ltb 0 (joining_count s.couplings upper lower)) (Err (refuse CoupledAlready 0)) o₄ in
      let o₂ : Outcome = cond (leb (rank below) (rank above)) (Err (refuse LevelNotLower 0)) o₃ in
      let o₁ : Outcome = cond (is_fixed above || is_fixed below) (Err (refuse SystemFixed 0)) o₂ in
      let told : length s.couplings + 1 < 10 ^ 10 = omega (arith, sound.tables.1) in
      unless_fits full (refuse TableFull 0) o₁ (omega arith) (λ _.
      unless_fits (is_fixed above || is_fixed below) (refuse SystemFixed 0) o₂ (omega arith) (λ _.
      unless_fits (leb (rank below) (rank above)) (refuse LevelNotLower 0) o₃ (omega arith) (λ _.
      unless_fits (ltb 0 (joining_count s.couplings upper lower)) (refuse CoupledAlready 0) o₄ (omega arith) (λ _. record { fits = told }))))

  coupled_fits : (upper lower kw mwh : ℕ) → Fitting (coupled s upper lower kw mwh)
  coupled_fits upper lower kw mwh =
      let joined : System → System → Outcome = λ above below. coupled_with s upper lower kw mwh above below in
      let next : System → Outcome = λ above. found (entry_numbered s.systems lower) (joined above) in
      within_fits 1 ((upper, largest_number) ∷ (lower, largest_number) ∷ (kw, largest_flow) ∷ (mwh, largest_flow) ∷ []) (found (entry_numbered s.systems upper) next) (omega arith) (λ _.
      found_fits (entry_numbered s.systems upper) next (λ above _.
      found_fits (entry_numbered s.systems lower) (joined above) (λ below _. coupled_with_fits upper lower kw mwh above below)))

  used_fits : (n kw mwh permille : ℕ) → Fitting (used s n kw mwh permille)
  used_fits n kw mwh permille =
      let next : System → Outcome = λ x. Ok (with_system s n (with_use x kw mwh permille), n ∷ []) in
      within_fits 1 ((n, largest_number) ∷ (kw, largest_flow) ∷ (mwh, largest_flow) ∷ (permille, 1000) ∷ []) (on_unfixed s n next) (omega arith) (λ bounds.
      let told : n < 10 ^ 10 = omega (arith, bounds.0) in
      unfixed_fits s n next (λ x _. record { fits = told }))

  charged_fits : (n euros : ℕ) → Fitting (charged s n euros)
  charged_fits n euros =
      let done : System → Outcome = λ x. Ok (with_net (with_system s n (standing_at x (x.standing + euros))) (s.net + euros), (x.standing + euros) ∷ []) in
      let next : System → Outcome = λ x. cond (ltb largest_amount (s.net + euros)) (Err (refuse CostsTooHigh 0)) (done x) in
      within_fits 1 ((n, largest_number) ∷ (euros, largest_amount) ∷ []) (on_unfixed s n next) (omega arith) (λ _.
      unfixed_fits s n next (λ x at.
      unless_fits (ltb largest_amount (s.net + euros)) (refuse CostsTooHigh 0) (done x) (omega arith) (λ f.
      let told : x.standing + euros < 10 ^ 10 = omega (arith, standing_bounded s n x sound.money at, ltb-false largest_amount (s.net + euros) f) in
      record { fits = told })))

  taken_fits : (n euros : ℕ) → Fitting (taken_back s n euros)
  taken_fits n euros =
      let done : System → Outcome = λ x. Ok (with_net (with_system s n (standing_at x (x.standing - euros))) (s.net - euros), (x.standing - euros) ∷ []) in
      let next : System → Outcome = λ x. cond (ltb x.standing euros) (Err (refuse MoreThanStands 0)) (done x) in
      within_fits 1 ((n, largest_number) ∷ (euros, largest_amount) ∷ []) (on_unfixed s n next) (omega arith) (λ _.
      unfixed_fits s n next (λ x at.
      unless_fits (ltb x.standing euros) (refuse MoreThanStands 0) (done x) (omega arith) (λ f.
      let told : x.standing - euros < 10 ^ 10 = omega (arith, standing_bounded s n x sound.money at, sound.money.1) in
      record { fits = told })))

  module _ (number : ℕ) (low : number < 10 ^ 10) where
    outcome_fits : (o : Outcome) → Fitting o → AnswerFits (reply_row number (reply_of o))
    outcome_fits (Ok done) fitting = (fitting.fits, tt)
    outcome_fits (Err refusal) fitting = (ground_fits refusal.ground, (low, (fitting.fits, tt)))

    unknown_fits : AnswerFits (reply_row number (Err (refuse UnknownLetter 0)))
    unknown_fits = (omega arith, (low, (omega arith, tt)))

    request_fits : (q : Request) → AnswerFits (reply_row number (replied m s (call_of q)))
    request_fits (CalendarYear year) = unknown_fits
    request_fits (Open level category) = outcome_fits (opened m s level category) (opened_fits level category)
    request_fits (Couple upper lower kw mwh) = outcome_fits (coupled s upper lower kw mwh) (coupled_fits upper lower kw mwh)
    request_fits (Use system kw mwh permille) = outcome_fits (used s system kw mwh permille) (used_fits system kw mwh permille)
    request_fits (Cost system euros) = outcome_fits (charged s system euros) (charged_fits system euros)
    request_fits (TakeBack system euros) = outcome_fits (taken_back s system euros) (taken_fits system euros)
    request_fits (Pass system) = unknown_fits
    request_fits Settle = unknown_fits
    request_fits (Fix system contracted kwmax kwh reckoned) = unknown_fits
    request_fits (Contract system kw fee from to reading) = unknown_fits
    request_fits (Start contract kwmax reading) = unknown_fits

    asked_fits : (r : Result Request RowFault) → Placed r → AnswerFits (asked_answered m s number (in_row number r))
    asked_fits (Ok q) placed = request_fits q
    asked_fits (Err Letter) placed = unknown_fits
    asked_fits (Err Length) placed = (omega arith, (low, (omega arith, tt)))
    asked_fits (Err (Field f)) placed = (omega arith, (low, (omega arith, tt)))

pub answers_fit : AnswersFit
unfolding row_answered
answers_fit m s sound number low row =
    cond_both (is_not_yet (get_or row 0 0)) (Err (numbered number Letter)) (in_row number (row_answer number row)) (λ (r : Result Request (Numbered RowFault)). AnswerFits (asked_answered m s number r))
    (λ _. unknown_fits m s sound number low)
    (λ _. asked_fits m s sound number low (row_answer number row) (row_placed number row))
