-- Passing systems in turn, one after another.
use Rattle.std.proofs.Common.{◌≡◌, ℕ, ◌+◌, ◌-◌, ◌≤◌, Bool, cond, List, [], ◌∷◌, ◌++◌, Some, None, Ok, filter, Option, sym, refl, ap, ◌∙◌, arith}
use Rattle.std.specs.List.{range_with_len, flat_map}
use Rattle.std.proofs.lemmas.List.FromFn.{map-range_with_len_more}
use Rattle.std.proofs.lemmas.List.Elements.{filter-append}
use Rattle.std.proofs.lemmas.List.{flat_map_more, map-id}
use Rattle.refusal.specs.declared.refusal.Refusal.{Refusal}
use Rattle.year_model.specs.declared.tables.Coupling.{Coupling}
use Rattle.year_model.specs.declared.tables.System.{System}
use Rattle.year_model.specs.Calls.{call_settle, reply_of, state_of}
use Rattle.year_model.specs.Makings.{Lawful, Makings}
use Rattle.year_model.specs.Passes.{first_obstacle, is_unfixed_at, landed_in_turn, numbers, obstacle, or_else, passed, passed_in_turn, settle_with}
use Rattle.year_model.specs.Sound.{Sound, no_system}
use Rattle.year_model.specs.State.{State, is_fixed, numbered}
use Rattle.year_model.proofs.Acceptance.{accepted_pass}
use Rattle.year_model.proofs.GridPasses.{EurosMove}
use Rattle.year_model.proofs.Numbered.{look_same}
use Rattle.year_model.proofs.PassesInTurn.{euros_in_turn}
use Rattle.tariff_year.specs.Obstacles.{way_of}
use Rattle.tariff_year.specs.Turns.{has_turn, turn_of, turns}
use Rattle.tariff_year.specs.Years.{Did}

-- More systems are passed after the first ones.
pub passed_append : (m : Makings) (s : State) (ns ks : List ℕ) → passed_in_turn m s (ns ++ ks) ≡ passed_in_turn m (passed_in_turn m s ns) ks
passed_append m s [] ks = refl
passed_append m s (n ∷ ns) ks = passed_append m (state_of s (passed m s n)) ns ks

pub landed_append : (m : Makings) (s : State) (ns ks : List ℕ) → landed_in_turn m s (ns ++ ks) ≡ landed_in_turn m s ns + landed_in_turn m (passed_in_turn m s ns) ks
landed_append m s [] ks = omega arith
landed_append m s (n ∷ ns) ks = omega (arith, landed_append m (state_of s (passed m s n)) ns ks)

-- Passes leave the couplings.
couplings_in_turn : (m : Makings) (s : State) (ns : List ℕ) → (passed_in_turn m s ns).couplings ≡ s.couplings
couplings_in_turn m s [] = refl
couplings_in_turn m s (n ∷ ns) =
    couplings_in_turn m (state_of s (passed m s n)) ns ∙ accepted_pass m s (λ o. (state_of s o).couplings ≡ s.couplings) (λ _. refl) n (λ x ok. refl)

-- the obstacle at a system, by the couplings
abbrev obstacle_by : ℕ → ℕ → List Coupling → Option System → Option Refusal
obstacle_by longest n cs None = None
obstacle_by longest n cs (Some x) = cond (is_fixed x) None (way_of longest cs n x)

obstacle_is : (m : Makings) (s : State) (n : ℕ) (o : Option System) → obstacle m s n o ≡ obstacle_by m.longest n s.couplings o
obstacle_is m s n None = refl
obstacle_is m s n (Some x) = refl

-- Where only euros move, the same systems are in the way.
obstacles_moved : (m : Makings) (s t : State) → t.couplings ≡ s.couplings → EurosMove s.systems t.systems → (ns : List ℕ) → first_obstacle m t ns ≡ first_obstacle m s ns
obstacles_moved m s t same move [] = refl
obstacles_moved m s t same move (n ∷ ns) =
    let here : obstacle m t n (numbered t.systems n) ≡ obstacle m s n (numbered s.systems n) =
    obstacle_is m t n (numbered t.systems n)
    ∙ ap (λ (cs : List Coupling). obstacle_by m.longest n cs (numbered t.systems n)) same
    ∙ look_same (obstacle_by m.longest n s.couplings) s.systems t.systems no_system move.long
    (λ k h. ap (λ (x : System). obstacle_by m.longest n s.couplings (Some x)) (move.same k h)) n
    ∙ sym (obstacle_is m s n (numbered s.systems n)) in
    ap (λ (o : Option Refusal). or_else o (first_obstacle m t ns)) here
    ∙ ap (λ (o : Option Refusal). or_else (obstacle m s n (numbered s.systems n)) o) (obstacles_moved m s t same move ns)

-- A year that nothing stands in the way of settling, some of whose systems were passed in turn.
module _ (m : Makings) (law : Lawful m) (s : State) (v : Sound s) (ns : List ℕ) where
  pub free_in_turn : first_obstacle m s (numbers s) ≡ None → first_obstacle m (passed_in_turn m s ns) (numbers (passed_in_turn m s ns)) ≡ None
  free_in_turn free =
      let t = passed_in_turn m s ns in
      let move = euros_in_turn m law ns s v in
      ap (λ k. first_obstacle m t (range_with_len 1 k)) move.long ∙ obstacles_moved m s t (couplings_in_turn m s ns) move (numbers s) ∙ free

  -- Those that have their turn stay.
  turn_stays : (level n : ℕ) → has_turn (passed_in_turn m s ns) level n ≡ has_turn s level n
  turn_stays level n =
      let move = euros_in_turn m law ns s v in
      look_same (is_unfixed_at level) s.systems (passed_in_turn m s ns).systems no_system move.long (λ k h. ap (λ (x : System). is_unfixed_at level (Some x)) (move.same k h)) n

  pub turn_of_stays : (level n : ℕ) → turn_of (passed_in_turn m s ns) level n ≡ turn_of s level n
  turn_of_stays level n = ap (λ (b : Bool). cond b (n ∷ []) []) (turn_stays level n)

  pub turns_stay : (level : ℕ) → turns (passed_in_turn m s ns) level ≡ turns s level
  turns_stay level =
      let t = passed_in_turn m s ns in
      kept_same (has_turn t level) (has_turn s level) (λ n. turn_stays level n) (numbers t)
      ∙ ap (λ k. filter (has_turn s level) (range_with_len 1 k)) (euros_in_turn m law ns s v).long
    where
      kept_same : (p q : ℕ → Bool) → ((n : ℕ) → p n ≡ q n) → (ks : List ℕ) → filter p ks ≡ filter q ks
      kept_same p q same [] = refl
      kept_same p q same (k ∷ ks) = ap (λ (b : Bool). cond b (k ∷ filter p ks) (filter p ks)) (same k) ∙ ap (λ (js : List ℕ). cond (q k) (k ∷ js) js) (kept_same p q same ks)

-- One number more.
counting_more : (first count : ℕ) → range_with_len first (count + 1) ≡ range_with_len first count ++ (first + count) ∷ []
counting_more first count =
    sym (map-id (range_with_len first (count + 1))) ∙ map-range_with_len_more (λ k. k) first count (first + count) refl ∙ ap (λ (ks : List ℕ). ks ++ (first + count) ∷ []) (map-id (range_with_len first count))

-- the turns at a level among the first numbers
abbrev pub first_turns : State → ℕ → ℕ → List ℕ
first_turns s level count = filter (has_turn s level) (range_with_len 1 count)

pub turns_more : (s : State) (level count : ℕ) → first_turns s level (count + 1) ≡ first_turns s level count ++ turn_of s level (count + 1)
turns_more s level count =
    let here : 1 + count ≡ count + 1 = omega arith in
    ap (filter (has_turn s level)) (counting_more 1 count)
    ∙ filter-append (has_turn s level) (range_with_len 1 count) ((1 + count) ∷ [])
    ∙ ap (λ k. first_turns s level count ++ turn_of s level k) here

-- Where a number has its turn after the first ones, so the year is after one more, and so much landed.
pub one_more : (m : Makings) → Lawful m → (s : State) → Sound s → (level count : ℕ) (t : State) → t ≡ passed_in_turn m s (first_turns s level count) → (u : State) → u ≡ passed_in_turn m t (turn_of t level (count + 1))
    → u ≡ passed_in_turn m s (first_turns s level (count + 1))
one_more m law s v level count t so_far u led =
    let ns = first_turns s level count in
    led
    ∙ ap (λ (w : State). passed_in_turn m w (turn_of w level (count + 1))) so_far
    ∙ ap (λ (ks : List ℕ). passed_in_turn m (passed_in_turn m s ns) ks) (turn_of_stays m law s v ns level (count + 1))
    ∙ sym (passed_append m s ns (turn_of s level (count + 1)))
    ∙ ap (λ (ks : List ℕ). passed_in_turn m s ks) (sym (turns_more s level count))

pub one_lands : (m : Makings) → Lawful m → (s : State) → Sound s → (level count : ℕ) (t : State) → t ≡ passed_in_turn m s (first_turns s level count) → (landed more : ℕ)
    → landed ≡ landed_in_turn m s (first_turns s level count) → more ≡ landed_in_turn m t (turn_of t level (count + 1)) → landed + more ≡ landed_in_turn m s (first_turns s level (count + 1))
one_lands m law s v level count t so_far landed more is next =
    let ns = first_turns s level count in
    let here : more ≡ landed_in_turn m (passed_in_turn m s ns) (turn_of s level (count + 1)) =
    next ∙ ap (λ (w : State). landed_in_turn m w (turn_of w level (count + 1))) so_far ∙ ap (λ (ks : List ℕ). landed_in_turn m (passed_in_turn m s ns) ks) (turn_of_stays m law s v ns level (count + 1)) in
    let both = landed_append m s ns (turn_of s level (count + 1)) in
    let whole = ap (λ (ks : List ℕ). landed_in_turn m s ks) (turns_more s level count) in
    omega arith

-- the turns at the levels before one
abbrev pub levels_before : State → ℕ → List ℕ
levels_before s level = flat_map (turns s) (range_with_len 1 (level - 1))

pub levels_more : (s : State) (level : ℕ) → 1 ≤ level → levels_before s (level + 1) ≡ levels_before s level ++ turns s level
levels_more s level low =
    let count : level + 1 - 1 ≡ (level - 1) + 1 = omega arith in
    let here : 1 + (level - 1) ≡ level = omega arith in
    ap (λ k. flat_map (turns s) (range_with_len 1 k)) count
    ∙ ap (flat_map (turns s)) (counting_more 1 (level - 1))
    ∙ sym (flat_map_more (turns s) [] (range_with_len 1 (level - 1)) (1 + (level - 1)))
    ∙ ap (λ k. levels_before s level ++ turns s k) here

-- So it is where a level has its turns.
pub level_more : (m : Makings) → Lawful m → (s : State) → Sound s → (level : ℕ) → 1 ≤ level → (t : State) → t ≡ passed_in_turn m s (levels_before s level) → (u : State) → u ≡ passed_in_turn m t (turns t level)
    → u ≡ passed_in_turn m s (levels_before s (level + 1))
level_more m law s v level low t so_far u led =
    let ns = levels_before s level in
    led
    ∙ ap (λ (w : State). passed_in_turn m w (turns w level)) so_far
    ∙ ap (λ (ks : List ℕ). passed_in_turn m (passed_in_turn m s ns) ks) (turns_stay m law s v ns level)
    ∙ sym (passed_append m s ns (turns s level))
    ∙ ap (λ (ks : List ℕ). passed_in_turn m s ks) (sym (levels_more s level low))

pub level_lands : (m : Makings) → Lawful m → (s : State) → Sound s → (level : ℕ) → 1 ≤ level → (t : State) → t ≡ passed_in_turn m s (levels_before s level) → (landed more : ℕ)
    → landed ≡ landed_in_turn m s (levels_before s level) → more ≡ landed_in_turn m t (turns t level) → landed + more ≡ landed_in_turn m s (levels_before s (level + 1))
level_lands m law s v level low t so_far landed more is next =
    let ns = levels_before s level in
    let here : more ≡ landed_in_turn m (passed_in_turn m s ns) (turns s level) =
    next ∙ ap (λ (w : State). landed_in_turn m w (turns w level)) so_far ∙ ap (λ (ks : List ℕ). landed_in_turn m (passed_in_turn m s ns) ks) (turns_stay m law s v ns level) in
    let both = landed_append m s ns (turns s level) in
    let whole = ap (λ (ks : List ℕ). landed_in_turn m s ks) (levels_more s level low) in
    omega arith

-- A settle after which every level had its turns is that of the model.
pub did_settle : (m : Makings) (s t : State) → first_obstacle m s (numbers s) ≡ None → (level landed : ℕ) → level ≡ 8 → t ≡ passed_in_turn m s (levels_before s level) → landed ≡ landed_in_turn m s (levels_before s level)
    → Did m s call_settle (Ok (landed ∷ [])) t
did_settle m s t free level landed end led lands =
    record {
      answered = ap (λ k. Ok (k ∷ [])) (lands ∙ ap (λ k. landed_in_turn m s (levels_before s k)) end) ∙ ap (λ (o : Option Refusal). reply_of (settle_with m s o)) (sym free);
      state = led ∙ ap (λ k. passed_in_turn m s (levels_before s k)) end ∙ ap (λ (o : Option Refusal). state_of s (settle_with m s o)) (sym free);
    }
