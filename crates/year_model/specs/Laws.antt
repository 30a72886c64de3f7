-- What holds of every call.
use Rattle.std.specs.Prelude.{◌≡◌, ◌+◌, List, Err}
use Rattle.refusal.specs.declared.refusal.Refusal.{Refusal}
use Rattle.year_model.specs.Calls.{Call}
use Rattle.year_model.specs.Makings.{Lawful, Makings}
use Rattle.year_model.specs.Runs.{accepted_costs, accepted_take_backs}
use Rattle.year_model.specs.Sound.{CategoriesKnown, all_landed, all_standing, Sound, TermsDated}
use Rattle.year_model.specs.State.{State}
use Rattle.year_model.specs.Steps.{after, reply, state_after}

-- A refused call leaves the state as it was.
abbrev pub RefusalsChangeNothing : Type 0
RefusalsChangeNothing = (m : Makings) (s : State) (c : Call) (refusal : Refusal) → reply m s c ≡ Err refusal → after m s c ≡ s

-- Every call leaves a sound state sound.
abbrev pub CallsKeepSoundness : Type 0
CallsKeepSoundness = (m : Makings) → Lawful m → (s : State) → Sound s → (c : Call) → Sound (after m s c)

-- Every list of calls leads to a sound state.
abbrev pub EveryStateIsSound : Type 0
EveryStateIsSound = (m : Makings) → Lawful m → (calls : List Call) → Sound (state_after m calls)

-- Every call keeps the terms of the contracts within the calendar year.
abbrev pub CallsKeepDates : Type 0
CallsKeepDates = (m : Makings) (s : State) → TermsDated m.calendar s → (c : Call) → TermsDated m.calendar (after m s c)

-- So they are after every list of calls.
abbrev pub EveryTermIsDated : Type 0
EveryTermIsDated = (m : Makings) (calls : List Call) → TermsDated m.calendar (state_after m calls)

-- After every list of calls, the accepted costs are what was taken back, what stands and what landed.
abbrev pub CostsAreAccountedFor : Type 0
CostsAreAccountedFor =
    (m : Makings) → Lawful m → (calls : List Call) →
    accepted_costs m calls ≡ accepted_take_backs m calls + all_standing (state_after m calls).systems + all_landed (state_after m calls).systems

-- After every list of calls the edition knows the category of every system.
abbrev pub CategoriesAreKnown : Type 0
CategoriesAreKnown = (m : Makings) → Lawful m → (calls : List Call) → CategoriesKnown m.known (state_after m calls)
