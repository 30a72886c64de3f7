-- Fixing the tariffs of a system.
use Rattle.std.specs.Prelude.{ℕ, Bool, false, cond, not, ◌&&◌, ◌||◌, [], ◌∷◌, Some, None, Ok, Err, count_by, Option, Result, ◌==◌, nat_lt}
use Rattle.refusal.specs.declared.ground.Ground.TheVariants.{NotSettled}
use Rattle.refusal.specs.declared.refusal.Refusal.{Refusal}
use Rattle.refusal.specs.Refusals.{refuse}
use Rattle.billing.specs.declared.fixings.Fixing.{Fixing}
use Rattle.billing.specs.Fixings.{fixing_answer}
use Rattle.edition.specs.Editions.{percentages}
use Rattle.year_model.specs.declared.tables.System.{System}
use Rattle.year_model.specs.Calls.{Outcome, largest_number, on_unfixed, within}
use Rattle.year_model.specs.Makings.{Makings}
use Rattle.year_model.specs.State.{State, is_fixed, numbered, with_system}

abbrev pub is_unfixed : Option System → Bool
is_unfixed None = false
is_unfixed (Some x) = not (is_fixed x)

-- how many couplings lead to this system from one that is not fixed
abbrev pub unfixed_above : State → ℕ → ℕ
unfixed_above s n = count_by (λ c. (c.lower == n) && is_unfixed (numbered s.systems c.upper)) s.couplings

-- the system with its tariffs
abbrev pub with_fixing : System → Fixing → System
with_fixing x f =
    record { level = x.level; category = x.category; kw = x.kw; mwh = x.mwh; permille = x.permille; standing = x.standing; landed = x.landed; fixing = Some f }

abbrev pub fix_with : State → ℕ → System → Result Fixing Refusal → Outcome
fix_with s n x (Ok f) = Ok (with_system s n (with_fixing x f), f.tariffs)
fix_with s n x (Err refusal) = Err refusal

-- Fix cuts the landed euros over the carriers and tells the four tariffs. Nothing may stand at the system, and every
-- system coupled above it must be fixed.
abbrev pub fixed : Makings → State → ℕ → ℕ → ℕ → ℕ → ℕ → Outcome
fixed m s n v₁ v₂ v₃ v₄ =
    within ((n, largest_number) ∷ (v₁, largest_number) ∷ (v₂, largest_number) ∷ (v₃, largest_number) ∷ (v₄, largest_number) ∷ [])
    (on_unfixed s n (λ x.
    cond (nat_lt 0 x.standing || nat_lt 0 (unfixed_above s n)) (Err (refuse NotSettled n))
    (fix_with s n x (fixing_answer m.share x.landed (percentages m.percent x.category) (v₁ ∷ v₂ ∷ v₃ ∷ v₄ ∷ [])))))
