-- A sound state stays sound: one system or one coupling more, one system changed, one contract more or changed.
use Rattle.std.proofs.Common.{◌≡◌, ℕ, ◌+◌, ◌-◌, ◌<◌, ◌≤◌, true, List, [], ◌∷◌, ◌++◌, length, get_or, sym, ap, ◌∙◌, subst, ⊎_elim, arith}
use Rattle.std.proofs.lemmas.List.{get_or_append_left, get_or-set_other, get_or-set_same, length_push, length-set}
use Rattle.std.proofs.lemmas.Bool.{cases_eq}
use Rattle.sharing.specs.Sharing.{largest_amount}
use Rattle.passing.specs.Passing.{largest_flow}
use Rattle.year_model.specs.declared.tables.Contract.{Contract}
use Rattle.year_model.specs.declared.tables.Coupling.{Coupling}
use Rattle.year_model.specs.declared.tables.System.{System}
use Rattle.year_model.specs.Bills.{most_contracts}
use Rattle.year_model.specs.Sound.{Sound, no_system}
use Rattle.year_model.specs.State.{State, is_fixed, rank, renumbered, with_contract, with_contracts, with_couplings, with_net, with_system, with_systems}
use Rattle.year_model.specs.Systems.{below_count, most_below, most_couplings, most_systems, new_system}
use Rattle.year_model.proofs.Entries.{throughout_push, throughout_set}
use Rattle.year_model.proofs.GridSystems.{Fits, grid_system}
use Rattle.year_model.proofs.GridTables.{grid_coupled, grid_opened}
use Rattle.year_model.proofs.Grids.{Grid, Held, grid_of, register_of, sound_whole}
use Rattle.year_model.proofs.Lookups.{Entry}
use Rattle.year_model.proofs.Registers.{FixingsStay, fixings_same, register_changed, register_pushed, register_stays}
use Rattle.year_model.proofs.TariffsFixed.{TariffsWithin}

-- What is fixed stays where a system is added.
pub fixings_opened : (xs : List System) (y : System) → FixingsStay xs (xs ++ y ∷ [])
fixings_opened xs y =
    record {
      long = omega (arith, length_push xs y);
      same = λ k h fixed. ap (λ (z : System). z.fixing) (get_or_append_left xs (y ∷ []) no_system k h);
    }

-- One more system, with nothing in it.
pub sound_opened : (s : State) → Sound s → (level category : ℕ) → length s.systems < most_systems → Sound (with_systems s (s.systems ++ new_system level category ∷ []))
sound_opened s v level category room =
    let xs = s.systems in
    let y = new_system level category in
    let ys = xs ++ y ∷ [] in
    sound_whole (with_systems s ys)
    (grid_opened s (grid_of s v) level category room)
    (throughout_push TariffsWithin xs y no_system v.tariffs (λ carrier. omega arith))
    (register_stays s (register_of s v) ys s.couplings s.net (fixings_opened xs y))

-- One more coupling, from a system of lower rank to one of higher rank.
pub sound_coupled : (s : State) → Sound s → (c : Coupling) (upper lower : System) → Entry s.systems c.upper upper → Entry s.systems c.lower lower
    → length s.couplings < most_couplings → below_count s.couplings c.upper < most_below → rank upper < rank lower → c.kw ≤ largest_flow → c.mwh ≤ largest_flow
    → Sound (with_couplings s (s.couplings ++ c ∷ []))
sound_coupled s v c upper lower at_upper at_lower room few rises kw mwh =
    let cs = s.couplings ++ c ∷ [] in
    sound_whole (with_couplings s cs)
    (grid_coupled s (grid_of s v) c upper lower at_upper at_lower room few rises kw mwh)
    v.tariffs
    (register_stays s (register_of s v) s.systems cs s.net (fixings_same s.systems))

-- A system that is fixed keeps its tariffs when one system changes and that one keeps its own.
pub fixings_set : (xs : List System) (n : ℕ) (x y : System) → Entry xs n x → (is_fixed x ≡ true → y.fixing ≡ x.fixing) → FixingsStay xs (renumbered xs n y)
fixings_set xs n x y at keeps =
    let inside : n - 1 < length xs = omega (arith, at.low, at.high) in
    let is = at.here no_system in
    record {
      long = omega (arith, length-set xs (n - 1) y);
      same = λ k h fixed.
          ⊎_elim
          (λ (e : k ≡ n - 1).
          let old : get_or xs k no_system ≡ x = ap (λ i. get_or xs i no_system) e ∙ is in
          let new : get_or (renumbered xs n y) k no_system ≡ y = ap (λ i. get_or (renumbered xs n y) i no_system) e ∙ get_or-set_same xs (n - 1) y no_system inside in
          let was_fixed : is_fixed x ≡ true = subst (λ (z : System). is_fixed z ≡ true) old fixed in
          ap (λ (z : System). z.fixing) new ∙ keeps was_fixed ∙ sym (ap (λ (z : System). z.fixing) old))
          (λ (ne : k ≡ n - 1 → ⊥). ap (λ (z : System). z.fixing) (get_or-set_other xs (n - 1) k y no_system ne))
          (cases_eq k (n - 1));
    }

-- One system changed, of the same rank and within bounds, with its tariffs kept where it is fixed: what it has more or less is
-- what the net costs grew or shrank by.
pub sound_system : (s : State) → Sound s → (n : ℕ) (x y : System) (net : ℕ) → Entry s.systems n x → rank y ≡ rank x → Fits y
    → s.net + (y.standing + y.landed) ≡ net + (x.standing + x.landed) → net ≤ largest_amount → (is_fixed x ≡ true → y.fixing ≡ x.fixing) → TariffsWithin y
    → Sound (with_net (with_system s n y) net)
sound_system s v n x y net at same fit more small keeps within =
    let xs = s.systems in
    sound_whole (with_net (with_system s n y) net)
    (grid_system s (grid_of s v) n x y net at same fit more small)
    (throughout_set TariffsWithin xs (n - 1) y no_system v.tariffs within)
    (register_stays s (register_of s v) (renumbered xs n y) s.couplings net (fixings_set xs n x y at keeps))

-- The grid has no part in the contracts.
grid_contracts : (s : State) → Grid s → (cs : List Contract) → Grid (with_contracts s cs)
grid_contracts s v cs = record { tables = v.tables; systems = v.systems; joined = v.joined; ranked = v.ranked; flows = v.flows; money = v.money }

-- One contract more.
pub sound_contracted : (s : State) → Sound s → (c : Contract) → Held s c → length s.contracts < most_contracts → Sound (with_contracts s (s.contracts ++ c ∷ []))
sound_contracted s v c held room =
    sound_whole (with_contracts s (s.contracts ++ c ∷ [])) (grid_contracts s (grid_of s v) (s.contracts ++ c ∷ [])) v.tariffs (register_pushed s (register_of s v) c held room)

-- One contract changed.
pub sound_contract : (s : State) → Sound s → (n : ℕ) (c : Contract) → Held s c → Sound (with_contract s n c)
sound_contract s v n c held =
    sound_whole (with_contract s n c) (grid_contracts s (grid_of s v) (renumbered s.contracts n c)) v.tariffs (register_changed s (register_of s v) n c held)
