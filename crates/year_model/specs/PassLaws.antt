-- What holds of every accepted pass and of every accepted settle of a list of calls.
use Rattle.std.specs.Prelude.{◌≡◌, ℕ, ◌+◌, ◌<◌, true, false, ◌⊎◌, List, [], ◌∷◌, length, is_ok, slice_index, slice_index_or}
use Rattle.std.specs.List.{Contains, AllByRecursion}
use Rattle.passing.specs.Proportion.{WithinThreeEuros, denominator, numerator}
use Rattle.year_model.specs.Calls.{Call, call_pass, call_settle}
use Rattle.year_model.specs.Makings.{Makings}
use Rattle.year_model.specs.Passes.{below, taker_kws, taker_mwhs}
use Rattle.year_model.specs.Journal.{EachAccepted}
use Rattle.year_model.specs.Sound.{IsNumber, all_landed, no_coupling, system_at}
use Rattle.year_model.specs.State.{State, is_fixed, rank}
use Rattle.year_model.specs.Steps.{reply, state_after}

-- What a taker had before and what it received are what it has after, and it received less than three euros more or less
-- than its exact proportion, which is a fraction.
pub record ReceivedFairly (before after numerator denominator : ℕ) : Type 0 where
  pub received : ℕ
  pub adds : before + received ≡ after
  pub near : WithinThreeEuros received numerator denominator

-- the exact proportion of a taker of a system, of all that stands there
abbrev pub proportion_over : State → ℕ → ℕ
proportion_over s n = denominator (system_at s n).permille (taker_kws s n (system_at s n)) (taker_mwhs s n (system_at s n))

abbrev pub proportion_of : State → ℕ → ℕ → ℕ
proportion_of s n taker =
    numerator (system_at s n).standing (system_at s n).permille (taker_kws s n (system_at s n)) (taker_mwhs s n (system_at s n)) taker

-- the system that a coupling below a system leads to, the couplings counted from 0 in order of entry
abbrev pub lower_of : State → ℕ → ℕ → ℕ
lower_of s n i = (slice_index_or (below s n) i no_coupling).lower

-- A pass of a system, from one state to another: it tells what stood there, nothing stands there after it, and every taker
-- received fairly. Taker 0 is the consumers, with whom it lands; the others are the couplings, at whose lower systems it stands.
pub record PassedFairly (s t : State) (n : ℕ) (told : List ℕ) : Type 0 where
  pub amount : told ≡ (system_at s n).standing ∷ []
  pub empties : (system_at t n).standing ≡ 0
  pub lands : ReceivedFairly (system_at s n).landed (system_at t n).landed (proportion_of s n 0) (proportion_over s n)
  pub goes_down : (i : ℕ) → i < length (below s n) →
      ReceivedFairly (system_at s (lower_of s n i)).standing (system_at t (lower_of s n i)).standing (proportion_of s n (i + 1)) (proportion_over s n)

-- So it is of every accepted pass of a list of calls.
abbrev pub PassesAreFair : Makings → List Call → Type 0
PassesAreFair m calls =
    EachAccepted m (λ older c told. (n : ℕ) → c ≡ call_pass n → PassedFairly (state_after m older) (state_after m (c ∷ older)) n told) calls

-- There is a system with this number, and it is not fixed.
abbrev pub IsUnfixed : State → ℕ → Type 0
IsUnfixed s n = IsNumber s n × (is_fixed (system_at s n) ≡ false)

-- One system comes before another by rank of level, and on one rank by number.
abbrev pub ComesBefore : State → ℕ → ℕ → Type 0
ComesBefore s a b =
    (rank (system_at s a) < rank (system_at s b)) ⊎ ((rank (system_at s a) ≡ rank (system_at s b)) × (a < b))

-- the calls that pass some systems in turn, on top of older calls
abbrev pub passes_in_turn : List ℕ → List Call → List Call
passes_in_turn [] older = older
passes_in_turn (n ∷ ns) older = passes_in_turn ns (call_pass n ∷ older)

-- Each of these passes is accepted.
abbrev pub AcceptedInTurn : Makings → List ℕ → List Call → Type 0
AcceptedInTurn m [] older = Unit {0}
AcceptedInTurn m (n ∷ ns) older = (is_ok (reply m (state_after m older) (call_pass n)) ≡ true) × AcceptedInTurn m ns (call_pass n ∷ older)

-- A settle after some calls is the run of accepted passes over exactly the unfixed systems, by rank of level and then by
-- number, each pass of the run is fair, it tells the euros that landed, and nothing stands at an unfixed system after it.
pub record SettledByPasses (m : Makings) (older : List Call) (told : List ℕ) : Type 0 where
  pub order : List ℕ
  pub only : AllByRecursion (IsUnfixed (state_after m older)) order
  pub every : (n : ℕ) → IsUnfixed (state_after m older) n → Contains order n
  pub ordered : (i j : ℕ) → i < j → j < length order → ComesBefore (state_after m older) (slice_index order i) (slice_index order j)
  pub accepted : AcceptedInTurn m order older
  pub run : state_after m (call_settle ∷ older) ≡ state_after m (passes_in_turn order older)
  pub fair : PassesAreFair m (passes_in_turn order older)
  pub euros : ℕ
  pub tells : told ≡ euros ∷ []
  pub landed : all_landed (state_after m older).systems + euros ≡ all_landed (state_after m (call_settle ∷ older)).systems
  pub nothing_stands : (n : ℕ) → IsUnfixed (state_after m (call_settle ∷ older)) n → (system_at (state_after m (call_settle ∷ older)) n).standing ≡ 0

-- So it is of every accepted settle of a list of calls.
abbrev pub SettlesArePasses : Makings → List Call → Type 0
SettlesArePasses m calls = EachAccepted m (λ older c told. c ≡ call_settle → SettledByPasses m older told) calls
