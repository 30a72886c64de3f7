-- A pass of a system of a sound year: nothing is out of bounds, so only what stands in the way refuses it.
use Rattle.std.proofs.Common.{◌≡◌, ℕ, ◌≤◌, Bool, true, false, cond, ◌||◌, eqb, ltb, List, [], ◌∷◌, map, length, Some, None, Ok, Err, Result, refl, ap, ◌∙◌, arith}
use Rattle.std.specs.List.{AllByRecursion as All}
use Rattle.std.proofs.ByRecursion.{All-from_get_or, all_kept_by, All-map, All-weaker}
use Rattle.std.proofs.lemmas.Bool.{eq-eqb, le-ltb, ne_eqb, not_from_true, or_from}
use Rattle.refusal.specs.declared.ground.Ground.TheVariants.{ListTooLong, NoWeight, OutOfBounds}
use Rattle.refusal.specs.declared.refusal.Refusal.{Refusal}
use Rattle.refusal.specs.Refusals.{refuse}
use Rattle.sharing.specs.Limits.{above}
use Rattle.sharing.specs.Sharing.{largest_amount}
use Rattle.passing.specs.declared.pass.Pass.{Pass}
use Rattle.passing.specs.Passing.{largest_flow, most_takers, nothing_to_go_by, out_of_bounds, pass_answer, too_many_takers}
use Rattle.year_model.specs.declared.tables.Coupling.{Coupling}
use Rattle.year_model.specs.declared.tables.System.{System}
use Rattle.year_model.specs.Makings.{Makings}
use Rattle.year_model.specs.Passes.{below, in_the_way, taker_kws, taker_mwhs}
use Rattle.year_model.specs.Sound.{Sound, no_coupling}
use Rattle.year_model.specs.State.{State, numbered}
use Rattle.year_model.proofs.GridPasses.{standing_small}
use Rattle.year_model.proofs.GridSystems.{entry_fits}
use Rattle.year_model.proofs.Grids.{grid_of}
use Rattle.year_model.proofs.Lookups.{Entry, entry_from_numbered}
use Rattle.tariff_year.specs.Replies.{pass_of, unless}
use Rattle.tariff_year.specs.Takings.{leading_down}
use Rattle.tariff_year.proofs.Gathering.{leads_from, takers_counted}

-- Where every number is within the limit, none is above it.
none_above : (limit : ℕ) (xs : List ℕ) → All (λ x. x ≤ limit) xs → above limit xs ≡ false
none_above limit [] bounds = refl
none_above limit (x ∷ xs) bounds = or_from (ltb limit x) (above limit xs) (le-ltb limit x bounds.0) (none_above limit xs bounds.1)

-- the flows of the couplings below a system are within bounds
flows_below : (s : State) → Sound s → (f : Coupling → ℕ) → ((c : Coupling) → (c.kw ≤ largest_flow) × (c.mwh ≤ largest_flow) → f c ≤ largest_flow) → (n : ℕ) → All (λ k. k ≤ largest_flow) (map f (below s n))
flows_below s v f part n =
    All-map (λ k. k ≤ largest_flow) f (below s n)
    (all_kept_by (leads_from n) (λ c. f c ≤ largest_flow) s.couplings
    (All-weaker (λ c. (c.kw ≤ largest_flow) × (c.mwh ≤ largest_flow)) (λ c. f c ≤ largest_flow) part s.couplings
    (All-from_get_or (λ c. (c.kw ≤ largest_flow) × (c.mwh ≤ largest_flow)) s.couplings no_coupling v.flows)))

-- Nothing is out of bounds.
in_bounds : (s : State) → Sound s → (n : ℕ) (x : System) → Entry s.systems n x → out_of_bounds x.standing x.permille (taker_kws s n x) (taker_mwhs s n x) ≡ false
in_bounds s v n x at =
    let fits = entry_fits s (grid_of s v) n x at in
    let kws = takers_counted (λ c. c.kw) x.kw s.couplings n in
    let mwhs = takers_counted (λ c. c.mwh) x.mwh s.couplings n in
    or_from _ _ (le-ltb largest_amount x.standing (omega (arith, standing_small s (grid_of s v) n x at, v.money.1)))
    (or_from _ _ (le-ltb 1000 x.permille fits.2)
    (or_from _ _ (none_above largest_flow (taker_kws s n x) (fits.0, flows_below s v (λ c. c.kw) (λ c b. b.0) n))
    (or_from _ _ (none_above largest_flow (taker_mwhs s n x) (fits.1, flows_below s v (λ c. c.mwh) (λ c b. b.1) n))
    (or_from _ _ (not_from_true (eqb (length (taker_kws s n x)) (length (taker_mwhs s n x))) (eq-eqb _ _ (omega arith)))
    (ne_eqb (length (taker_kws s n x)) 0 (λ e. omega arith))))))

-- The takers are few enough for a pass.
few_takers : (m : Makings) (s : State) → Sound s → (n : ℕ) (x : System) → too_many_takers m.longest (length (taker_kws s n x)) ≡ ltb m.longest (length (taker_kws s n x))
few_takers m s v n x =
    let count = length (taker_kws s n x) in
    let few = le-ltb most_takers count (omega (arith, takers_counted (λ c. c.kw) x.kw s.couplings n, v.tables.2 n)) in
    ap (λ b. ltb m.longest count || b) few ∙ or_false (ltb m.longest count)
  where
    or_false : (b : Bool) → (b || false) ≡ b
    or_false true = refl
    or_false false = refl

-- the answer with the number of the system as the place of a refusal
abbrev pub placed : ℕ → Result Pass Refusal → Result Pass Refusal
placed n (Ok pass) = Ok pass
placed n (Err refusal) = Err (refuse refusal.ground n)

-- The tests of a pass and those of what stands in the way are the same.
placed_by_tests : (n : ℕ) (long none : Bool) (pass : Pass)
    → placed n (cond long (Err (refuse ListTooLong 0)) (cond none (Err (refuse NoWeight 0)) (Ok pass)))
    ≡ unless (cond long (Some (refuse ListTooLong n)) (cond none (Some (refuse NoWeight n)) None)) pass
placed_by_tests n true none pass = refl
placed_by_tests n false true pass = refl
placed_by_tests n false false pass = refl

-- So only what stands in the way refuses a pass.
pub pass_placed : (m : Makings) (s : State) → Sound s → (n : ℕ) (x : System) → Entry s.systems n x
    → placed n (pass_answer m.longest m.share x.standing x.permille (taker_kws s n x) (taker_mwhs s n x)) ≡ unless (in_the_way m s n x) (pass_of m s n x)
pass_placed m s v n x at =
    let kws = taker_kws s n x in
    let mwhs = taker_mwhs s n x in
    let none = nothing_to_go_by x.permille kws mwhs in
    let rest = cond none (Err (refuse NoWeight 0)) (Ok (pass_of m s n x)) in
    ap (λ b. placed n (cond b (Err (refuse OutOfBounds 0)) (cond (too_many_takers m.longest (length kws)) (Err (refuse ListTooLong 0)) rest))) (in_bounds s v n x at)
    ∙ ap (λ b. placed n (cond b (Err (refuse ListTooLong 0)) rest)) (few_takers m s v n x)
    ∙ placed_by_tests n (ltb m.longest (length kws)) none (pass_of m s n x)

-- What a pass of the gathered takers is answered is told with the number of the system.
pub pass_told : (m : Makings) (s : State) → Sound s → (n : ℕ) (x : System) → numbered s.systems n ≡ Some x → (cs : List Coupling) → cs ≡ s.couplings
    → (ks ms : List ℕ) → ks ≡ x.kw ∷ map (λ c. c.kw) (leading_down cs n) → ms ≡ x.mwh ∷ map (λ c. c.mwh) (leading_down cs n)
    → (r : Result Pass Refusal) → r ≡ pass_answer m.longest m.share x.standing x.permille ks ms
    → placed n r ≡ unless (in_the_way m s n x) (pass_of m s n x)
pass_told m s v n x found cs same ks ms kws mwhs r told =
    let answer : List ℕ → List ℕ → Result Pass Refusal = λ us ws. pass_answer m.longest m.share x.standing x.permille us ws in
    ap (placed n) told
    ∙ ap (λ (us : List ℕ). placed n (answer us ms)) (kws ∙ ap (λ (ds : List Coupling). x.kw ∷ map (λ c. c.kw) (leading_down ds n)) same)
    ∙ ap (λ (ws : List ℕ). placed n (answer (taker_kws s n x) ws)) (mwhs ∙ ap (λ (ds : List Coupling). x.mwh ∷ map (λ c. c.mwh) (leading_down ds n)) same)
    ∙ pass_placed m s v n x (entry_from_numbered s.systems n x found)
