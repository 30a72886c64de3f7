-- What the calls leave of a system as far as its tariffs go.
use Rattle.std.proofs.Common.{◌≡◌, ℕ, ◌-◌, ◌<◌, false, cond, List, length, get_or, is_some, Some, Option, sym, refl, ap, ◌∙◌, arith}
use Rattle.std.proofs.lemmas.List.{length-set}
use Rattle.std.proofs.lemmas.Bool.{cond-true}
use Rattle.billing.specs.declared.fixings.Fixing.{Fixing}
use Rattle.year_model.specs.declared.tables.System.{System}
use Rattle.year_model.specs.Makings.{Makings}
use Rattle.year_model.specs.Passes.{emptied, pass_state, receives}
use Rattle.year_model.specs.Sound.{no_system}
use Rattle.year_model.specs.State.{State, is_fixed, renumbered}
use Rattle.year_model.proofs.Entries.{same_after_set}
use Rattle.year_model.proofs.GridPasses.{euros_handed, systems_passed}
use Rattle.year_model.proofs.Grids.{Grid}
use Rattle.year_model.proofs.HandingDown.{as_many, same_but_standing}
use Rattle.year_model.proofs.Lookups.{Entry}
use Rattle.year_model.proofs.Outcomes.{Unfixed}
use Rattle.year_model.proofs.TariffsFixed.{Priced}

-- the face of a system: its category, its fixing, and where it is fixed its landed euros
abbrev pub face : System → System
face x =
    record { level = 0; category = x.category; kw = 0; mwh = 0; permille = 0; standing = 0; landed = cond (is_fixed x) x.landed 0; fixing = x.fixing }

-- There are as many systems as before, each with the same face.
pub record FacesStay (xs ys : List System) : Type 0 where
  pub long : length ys ≡ length xs
  pub same : (k : ℕ) → k < length xs → face (get_or ys k no_system) ≡ face (get_or xs k no_system)

-- the same systems
pub faces_same : (xs : List System) → FacesStay xs xs
faces_same xs = record { long = refl; same = λ k h. refl }

-- one change after another
pub faces_through : (xs ys zs : List System) → FacesStay xs ys → FacesStay ys zs → FacesStay xs zs
faces_through xs ys zs one two =
    record { long = two.long ∙ one.long; same = λ k h. two.same k (omega (arith, one.long)) ∙ one.same k h }

-- one system changed, with the same face
pub faces_set : (xs : List System) (n : ℕ) (x y : System) → Entry xs n x → face y ≡ face x → FacesStay xs (renumbered xs n y)
faces_set xs n x y at same =
    record {
      long = length-set xs (n - 1) y;
      same = λ k h. same_after_set face xs (n - 1) x y no_system (omega (arith, at.low, at.high)) (at.here no_system) same k;
    }

-- Landed euros do not show in the face of a system that is not fixed.
face_emptied : (x : System) (euros : ℕ) → is_fixed x ≡ false → face (emptied x euros) ≡ face x
face_emptied x euros free = rw free refl

-- A pass of a system that is not fixed leaves all faces.
pub faces_passed : (m : Makings) (s : State) → Grid s → (n : ℕ) (x : System) → Unfixed s n x → FacesStay s.systems (pass_state m s n x).systems
faces_passed m s v n x at =
    let f = receives m s n x in
    let y = emptied x (f 0) in
    let zs = renumbered s.systems n y in
    let ys = systems_passed s n x f in
    let down = euros_handed s v n x at.entry f in
    faces_through s.systems zs ys
    (faces_set s.systems n x y at.entry (face_emptied x (f 0) at.unfixed))
    record { long = as_many zs ys down.rest; same = λ k h. ap face (same_but_standing zs ys down.rest k h) }

-- What holds of a system with its landed euros where it is fixed, and of its fixing, holds of its face, and the other way.
pub fixed_landed : (x : System) (f : Fixing) → x.fixing ≡ Some f → (face x).landed ≡ x.landed
fixed_landed x f e = cond-true (is_fixed x) x.landed 0 (ap (λ (o : Option Fixing). is_some o) e)

-- Systems with the same face are priced alike.
pub priced_alike : (x y : System) → face y ≡ face x → Priced x → Priced y
priced_alike x y same priced f e =
    let fixed : x.fixing ≡ Some f = sym (ap (λ (z : System). z.fixing) same) ∙ e in
    let landed : y.landed ≡ x.landed = sym (fixed_landed y f e) ∙ ap (λ (z : System). z.landed) same ∙ fixed_landed x f fixed in
    omega (arith, priced f fixed)
