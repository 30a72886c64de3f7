-- The state of a tariff year: its tables as lists, and the net costs.
use Rattle.std.specs.Prelude.{ℕ, ◌-◌, Bool, cond, List, [], is_some, None, vec_items, Option, ◌==◌, slice_set}
use Rattle.std.specs.List.{slice_get}
use Rattle.year_model.specs.declared.tables.Contract.{Contract}
use Rattle.year_model.specs.declared.tables.Coupling.{Coupling}
use Rattle.year_model.specs.declared.tables.System.{System}
use Rattle.year_model.specs.declared.tables.Tables.{Tables}

pub record State : Type 0 where
  pub systems : List System
  pub couplings : List Coupling
  pub contracts : List Contract
  pub net : ℕ

-- the state that the tables hold
abbrev pub view : Tables → State
view t =
    record { systems = vec_items t.systems; couplings = vec_items t.couplings; contracts = vec_items t.contracts; net = t.net }

-- the state before the first call
abbrev pub begun : State
begun = record { systems = []; couplings = []; contracts = []; net = 0 }

-- the entry with this number, counted from 1
abbrev pub numbered : {X : Type 0} → List X → ℕ → Option X
numbered xs n = cond (n == 0) None (slice_get xs (n - 1))

-- the list with another entry under this number
abbrev pub renumbered : {X : Type 0} → List X → ℕ → X → List X
renumbered xs n x = slice_set xs (n - 1) x

abbrev pub with_systems : State → List System → State
with_systems s xs = record { systems = xs; couplings = s.couplings; contracts = s.contracts; net = s.net }

abbrev pub with_system : State → ℕ → System → State
with_system s n x = with_systems s (renumbered s.systems n x)

abbrev pub with_couplings : State → List Coupling → State
with_couplings s xs = record { systems = s.systems; couplings = xs; contracts = s.contracts; net = s.net }

abbrev pub with_contracts : State → List Contract → State
with_contracts s xs = record { systems = s.systems; couplings = s.couplings; contracts = xs; net = s.net }

abbrev pub with_contract : State → ℕ → Contract → State
with_contract s n x = with_contracts s (renumbered s.contracts n x)

abbrev pub with_net : State → ℕ → State
with_net s n = record { systems = s.systems; couplings = s.couplings; contracts = s.contracts; net = n }

-- A system is fixed once it has tariffs.
abbrev pub is_fixed : System → Bool
is_fixed x = is_some x.fixing

-- the order of levels: the level itself
abbrev pub rank : System → ℕ
rank x = x.level
