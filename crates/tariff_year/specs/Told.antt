-- How what drafts come to is told.
use Rattle.std.specs.Prelude.{◌≡◌, ℕ, [], ◌∷◌, Ok, Err, Result, ◌≢◌}
use Rattle.refusal.specs.declared.ground.Ground.TheVariants.{DraftNotOut}
use Rattle.refusal.specs.declared.refusal.Refusal.{Refusal}
use Rattle.refusal.specs.Refusals.{refuse}
use Rattle.year_model.specs.Calls.{Reply}
use Rattle.year_model.specs.State.{State, numbered}
use Rattle.tariff_year.specs.declared.drafts.Bill.{Bill}
use Rattle.tariff_year.specs.declared.drafts.Draft.{Draft}
use Rattle.tariff_year.specs.declared.drafts.DraftNumbers.{DraftNumbers}
use Rattle.tariff_year.specs.declared.drafts.Unspent.{Unspent}

-- the numbers of a draft
abbrev pub numbers_of : Draft → DraftNumbers
numbers_of d = d.numbers

-- the reply that a draft handed out is
abbrev pub told_draft : Result Draft Refusal → Reply
told_draft (Ok d) = Ok (d.numbers.book ∷ d.numbers.contract ∷ d.numbers.month ∷ [])
told_draft (Err refusal) = Err refusal

-- the reply that a bill is
abbrev pub told_bill : Result Bill Unspent → Reply
told_bill (Ok b) = Ok (b.contract ∷ b.month ∷ b.yearly ∷ b.kwmax ∷ b.kwh ∷ b.waived ∷ [])
told_bill (Err unspent) = Err unspent.refusal

-- the reply that a torn draft is
abbrev pub told_torn : Result (Unit {0}) Unspent → Reply
told_torn (Ok done) = Ok []
told_torn (Err unspent) = Err unspent.refusal

-- A draft is refused only where it is not out, and then it comes back as it was.
abbrev pub Back : {X : Type 0} → Draft → Result X Unspent → Type 0
Back d (Ok x) = Unit {0}
Back d (Err unspent) = (unspent.draft ≡ d) × (unspent.refusal ≡ refuse DraftNotOut 0)

-- Only the contract with this number may have changed.
pub record OthersStay (n : ℕ) (before later : State) : Type 0 where
  pub contracts : (k : ℕ) → (k ≢ n) → numbered later.contracts k ≡ numbered before.contracts k
  pub systems : later.systems ≡ before.systems
  pub couplings : later.couplings ≡ before.couplings
  pub net : later.net ≡ before.net
