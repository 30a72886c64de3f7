-- How the code's answers and tables speak of the model.
use Rattle.std.specs.Prelude.{◌≡◌, ℕ, ◌≤◌, [], ◌∷◌, Ok, Err, vec_len, vec_capacity, Result}
use Rattle.refusal.specs.declared.refusal.Refusal.{Refusal}
use Rattle.edition.specs.declared.edition.Edition.{Ghosts as EditionMeant}
use Rattle.sharing.specs.declared.rule.SharingRule.{Ghosts as RuleMeant}
use Rattle.year_model.specs.Calls.{Call, Reply}
use Rattle.year_model.specs.Makings.{Makings}
use Rattle.year_model.specs.State.{State}
use Rattle.year_model.specs.Steps.{after, reply}
use Rattle.year_model.specs.declared.tables.Tables.{Tables}
use Rattle.tariff_year.specs.declared.basis.Basis.{Basis}
use Rattle.tariff_year.specs.declared.fixes.Fixed.{Fixed}

-- There is room for as many systems, couplings and contracts as there may be.
abbrev pub Room : ℕ → ℕ → ℕ → Type 0
Room len cap most = (len ≤ most) × (most ≤ cap)

abbrev pub Roomy : Tables → Type 0
Roomy t =
    Room (vec_len t.systems) (vec_capacity t.systems) 64 × Room (vec_len t.couplings) (vec_capacity t.couplings) 256
    × Room (vec_len t.contracts) (vec_capacity t.contracts) 256

-- what a year is made of, as its edition and its rule mean it
abbrev pub makings : {E R : Type 0} → EditionMeant E → RuleMeant R → Basis E R → Makings
makings edition rule basis =
    record {
      calendar = basis.calendar.year;
      book = basis.book;
      longest = rule.LONGEST;
      share = rule.share basis.rule;
      known = edition.known basis.edition;
      percent = edition.percent basis.edition;
    }

-- the reply that a number answered is
abbrev pub told_number : Result ℕ Refusal → Reply
told_number (Ok n) = Ok (n ∷ [])
told_number (Err refusal) = Err refusal

-- the reply that the tariffs of a fix are
abbrev pub told_tariffs : Result Fixed Refusal → Reply
told_tariffs (Ok f) = Ok f.tariffs
told_tariffs (Err refusal) = Err refusal

-- The reply and the state after are those of the model.
pub record Did (m : Makings) (before : State) (c : Call) (told : Reply) (later : State) : Type 0 where
  pub answered : told ≡ reply m before c
  pub state : later ≡ after m before c
