-- A pass leaves a sound grid sound.
use Rattle.std.proofs.Common.{◌≡◌, ℕ, ◌+◌, ◌-◌, ◌<◌, ◌≤◌, Bool, true, false, cond, eqb, ltb, List, [], ◌∷◌, map, length, get_or, Some, None, sum, sym, refl, ap, ◌∙◌, subst, arith}
use Rattle.std.specs.List.{range_with_len, AllByRecursion as All}
use Rattle.std.proofs.ByRecursion.{All-from_get_or, all_kept_by, All-map, All-weaker}
use Rattle.std.proofs.lemmas.List.{length-map, length-set}
use Rattle.std.proofs.lemmas.List.Sums.{get_or-le-sum_by, length-filter, sum_by-cons, sum_by-set}
use Rattle.std.proofs.lemmas.Bool.{le-ltb, ltb-false, or_from}
use Rattle.std.proofs.lemmas.Bool.Decides.{nat_tests}
use Rattle.refusal.specs.declared.refusal.Refusal.{Refusal}
use Rattle.sharing.specs.Limits.{above}
use Rattle.sharing.proofs.SharingLaws.{sum_counted}
use Rattle.passing.specs.Passing.{Passable, largest_flow, nothing_to_go_by}
use Rattle.passing.proofs.Passes.{received_adds_up}
use Rattle.year_model.specs.declared.tables.System.{System}
use Rattle.year_model.specs.Makings.{Lawful, Makings}
use Rattle.year_model.specs.Passes.{below, emptied, handed_down, in_the_way, pass_state, receives, taker_kws, taker_mwhs}
use Rattle.year_model.specs.Sound.{no_coupling, no_system}
use Rattle.year_model.specs.State.{State, rank, renumbered}
use Rattle.year_model.proofs.Entries.{same_after_set}
use Rattle.year_model.proofs.Grids.{Grid}
use Rattle.year_model.proofs.HandingDown.{LeadsWithin, MoreStanding, as_many, handed_down_adds, same_but_standing}
use Rattle.year_model.proofs.Lookups.{Entry}
use Rattle.year_model.proofs.GridSystems.{Fits, entry_fits, grid_systems}

-- Where every number is within the limit, none is above it.
none_above : (limit : ℕ) (xs : List ℕ) → All (λ x. x ≤ limit) xs → above limit xs ≡ false
none_above limit [] bounds = refl
none_above limit (x ∷ xs) bounds = or_from (ltb limit x) (above limit xs) (le-ltb limit x bounds.0) (none_above limit xs bounds.1)

-- Where neither test gives a refusal, both fail.
neither : (b c : Bool) (p q : Refusal) → cond b (Some p) (cond c (Some q) None) ≡ None → (b ≡ false) × (c ≡ false)
neither true c p q e = let z : ◌≡◌ {A = ℕ} 0 1 = cc in absurd (omega arith)
neither false true p q e = let z : ◌≡◌ {A = ℕ} 0 1 = cc in absurd (omega arith)
neither false false p q e = (refl, refl)

-- what a sound state says of the couplings below a system
flows_below : (s : State) → Grid s → (n : ℕ) → All (λ c. (c.kw ≤ largest_flow) × (c.mwh ≤ largest_flow)) (below s n)
flows_below s v n =
    all_kept_by (λ c. eqb c.upper n) (λ c. (c.kw ≤ largest_flow) × (c.mwh ≤ largest_flow)) s.couplings
    (All-from_get_or (λ c. (c.kw ≤ largest_flow) × (c.mwh ≤ largest_flow)) s.couplings no_coupling v.flows)

-- The couplings below a system lead to systems that are there.
pub below_leads : (s : State) → Grid s → (n : ℕ) → All (LeadsWithin (length s.systems)) (below s n)
below_leads s v n =
    all_kept_by (λ c. eqb c.upper n) (LeadsWithin (length s.systems)) s.couplings
    (All-from_get_or (LeadsWithin (length s.systems)) s.couplings no_coupling (λ k h. (v.joined k h).1))

-- The euros at one system are within bounds.
pub standing_small : (s : State) → Grid s → (n : ℕ) (x : System) → Entry s.systems n x → x.standing ≤ s.net
standing_small s v n x at =
    let one = get_or-le-sum_by (λ z. z.standing) s.systems (n - 1) no_system (omega (arith, at.low, at.high)) in
    let is = ap (λ (z : System). z.standing) (at.here no_system) in
    omega (arith, v.money.0)

-- Where nothing stands in the way, the pass can be worked out.
pub passable_at : (m : Makings) (s : State) → Grid s → (n : ℕ) (x : System) → Entry s.systems n x → in_the_way m s n x ≡ None
    → Passable m.longest x.standing x.permille (taker_kws s n x) (taker_mwhs s n x)
passable_at m s v n x at free =
    let tests = neither (ltb m.longest (length (taker_kws s n x))) (nothing_to_go_by x.permille (taker_kws s n x) (taker_mwhs s n x)) _ _ free in
    let fits = entry_fits s v n x at in
    let flows = flows_below s v n in
    let kws = length-map (below s n) (λ c. c.kw) in
    let mwhs = length-map (below s n) (λ c. c.mwh) in
    let few = length-filter (λ c. eqb c.upper n) s.couplings in
    let short = ltb-false m.longest (length (taker_kws s n x)) tests.0 in
    let weight = tests.1 in
    record {
      small = omega (arith, standing_small s v n x at, v.money.1);
      thousandths = fits.2;
      kw_bounds = none_above largest_flow (taker_kws s n x) (fits.0, All-map (λ k. k ≤ largest_flow) (λ c. c.kw) (below s n) (All-weaker _ (λ c. c.kw ≤ largest_flow) (λ c b. b.0) (below s n) flows));
      mwh_bounds = none_above largest_flow (taker_mwhs s n x) (fits.1, All-map (λ k. k ≤ largest_flow) (λ c. c.mwh) (below s n) (All-weaker _ (λ c. c.mwh ≤ largest_flow) (λ c b. b.1) (below s n) flows));
      paired = omega arith;
      some = omega arith;
      short = short;
      room = omega (arith, v.tables.2 n);
      kw_weight = λ h. grind (arith, nat_tests);
      mwh_weight = λ h. grind (arith, nat_tests);
    }

-- What the takers receive is what stood at the system.
pub takers_receive : (m : Makings) → Lawful m → (s : State) → Grid s → (n : ℕ) (x : System) → Entry s.systems n x → in_the_way m s n x ≡ None
    → receives m s n x 0 + sum (map (receives m s n x) (range_with_len 1 (length (below s n)))) ≡ x.standing
takers_receive m law s v n x at free =
    let f = receives m s n x in
    let kws = map (λ c. c.kw) (below s n) in
    let adds = received_adds_up m.longest m.share law.sharing law.twelve x.standing x.permille (taker_kws s n x) (taker_mwhs s n x) (passable_at m s v n x at free) in
    let counted = sum_counted f (length (taker_kws s n x)) in
    let first = sum_by-cons (λ k. k) (f 0) (map f (range_with_len 1 (length kws))) in
    let long = ap (λ k. sum (map f (range_with_len 1 k))) (length-map (below s n) (λ c. c.kw)) in
    omega arith

-- the system without its euros
abbrev pub penniless : System → System
penniless x =
    record { level = x.level; category = x.category; kw = x.kw; mwh = x.mwh; permille = x.permille; standing = 0; landed = 0; fixing = x.fixing }

-- There are as many systems as before, each as it was but for its euros.
pub record EurosMove (xs ys : List System) : Type 0 where
  pub long : length ys ≡ length xs
  pub same : (k : ℕ) → k < length xs → penniless (get_or ys k no_system) ≡ penniless (get_or xs k no_system)

-- the systems after a pass in which the takers receive this
abbrev pub systems_passed : State → ℕ → System → (ℕ → ℕ) → List System
systems_passed s n x f = handed_down f 1 (below s n) (renumbered s.systems n (emptied x (f 0)))

-- A pass moves euros, and what the takers receive goes down.
module _ (s : State) (v : Grid s) (n : ℕ) (x : System) (at : Entry s.systems n x) (f : ℕ → ℕ) where
  -- What the takers receive but the consumers stands at the systems below.
  pub euros_handed : MoreStanding (sum (map f (range_with_len 1 (length (below s n))))) (renumbered s.systems n (emptied x (f 0))) (systems_passed s n x f)
  euros_handed =
      handed_down_adds f 1 (below s n) (renumbered s.systems n (emptied x (f 0))) (length s.systems) (length-set s.systems (n - 1) (emptied x (f 0))) (below_leads s v n)

  -- Nothing but euros moves.
  pub euros_move : EurosMove s.systems (systems_passed s n x f)
  euros_move =
      let xs = s.systems in
      let y = emptied x (f 0) in
      let zs = renumbered xs n y in
      let ys = systems_passed s n x f in
      let inside : n - 1 < length xs = omega (arith, at.low, at.high) in
      let long = length-set xs (n - 1) y in
      let same = same_but_standing zs ys euros_handed.rest in
      record {
        long = as_many zs ys euros_handed.rest ∙ long;
        same = λ k h. ap penniless (same k (omega arith)) ∙ same_after_set penniless xs (n - 1) x y no_system inside (at.here no_system) refl k;
      }

-- The grid after a pass is sound.
pub grid_pass_state : (m : Makings) → Lawful m → (s : State) → Grid s → (n : ℕ) (x : System) → Entry s.systems n x → in_the_way m s n x ≡ None → Grid (pass_state m s n x)
grid_pass_state m law s v n x at free =
    let f = receives m s n x in
    let xs = s.systems in
    let y = emptied x (f 0) in
    let inside : n - 1 < length xs = omega (arith, at.low, at.high) in
    let is = at.here no_system in
    let down = euros_handed s v n x at f in
    let move = euros_move s v n x at f in
    let standing = sum_by-set (λ z. z.standing) xs (n - 1) y no_system inside in
    let landed = sum_by-set (λ z. z.landed) xs (n - 1) y no_system inside in
    let stood = ap (λ (z : System). z.standing) is in
    let lay = ap (λ (z : System). z.landed) is in
    grid_systems s v (systems_passed s n x f) s.net
    record { long = move.long; ranks = λ k h. ap rank (move.same k h) }
    (λ k h. subst Fits (sym (move.same k (omega (arith, move.long)))) (v.systems k (omega (arith, move.long))))
    (omega (arith, takers_receive m law s v n x at free, down.stands, down.lands, v.money.0))
    v.money.1
