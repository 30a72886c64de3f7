-- Euros are conserved over every list of calls, and none hides in a remainder or in a carrier that is not used.
use Rattle.std.proofs.Common.{◌≡◌, ℕ, zero, suc, ◌+◌, ◌-◌, ◌*◌, ◌<◌, List, [], ◌∷◌, map, length, get_or, Some, None, sum_by, sum, Option, sym, refl, ap, ◌∙◌, subst, arith}
use Rattle.std.specs.List.{AllByRecursion as All}
use Rattle.std.proofs.lemmas.List.FromFn.{get_or-map-range_with_len, length-map-range_with_len}
use Rattle.std.proofs.ByRecursion.{All-from_get_or}
use Rattle.std.proofs.lemmas.List.{get_or-map, length-map, same_lists}
use Rattle.std.proofs.lemmas.List.Sums.{sum-map, sum_by-cons}
use Rattle.billing.specs.declared.fixings.Fixing.{Fixing}
use Rattle.billing.specs.Fixings.{carriers}
use Rattle.edition.specs.Editions.{Percent, percentages}
use Rattle.year_model.specs.declared.tables.System.{System}
use Rattle.year_model.specs.Books.{AccountsFor, EurosAreConserved, HidesNothing, NoEuroHides, all_fixing_worth, all_remainders, all_unfixed_landed, fixing_remainder, landed_without, landed_without_fix, system_remainders, unfixed_landed}
use Rattle.year_model.specs.Calls.{Call}
use Rattle.year_model.specs.Laws.{CategoriesAreKnown}
use Rattle.year_model.specs.Makings.{Lawful, Makings}
use Rattle.year_model.specs.Passes.{numbers}
use Rattle.year_model.specs.Journal.{Line, Tariffs, fix_of, journal}
use Rattle.year_model.specs.Sound.{all_landed, all_standing, no_system, system_at}
use Rattle.year_model.specs.State.{State, numbered}
use Rattle.year_model.specs.Steps.{state_after}
use Rattle.year_model.proofs.NetNoted.{costs_are_noted, net_told}
use Rattle.year_model.proofs.FixesTold.{FixesKept, FixesTold, WholeFixing, category_kept, fixes_kept_throughout, kept_worth, tariffs_kept, told_tariffs}
use Rattle.year_model.proofs.Lookups.{entry_from_numbered, numbered_from_entry}

-- the landed euros of a system that is not fixed
abbrev landed_unfixed : System → ℕ
landed_unfixed x = unfixed_landed x.landed x.fixing

-- A fix as it is kept tells whether the landed euros count.
landed_any_number : (n : ℕ) (fixing : Option Fixing) (x : System) → landed_without (told_tariffs n fixing) x ≡ unfixed_landed x.landed fixing
landed_any_number n None x = refl
landed_any_number n (Some f) x = refl

-- The landed euros of the systems without an accepted fix are those of the systems that are not fixed.
landed_told : (lines : List Line) (s : State) → FixesTold lines s → landed_without_fix lines s ≡ sum_by landed_unfixed s.systems
landed_told lines s told =
    let xs = s.systems in
    let f : ℕ → ℕ = λ n. landed_without (fix_of lines n) (system_at s n) in
    let counted = length-map-range_with_len f 1 (length xs) in
    let mapped = length-map xs landed_unfixed in
    let alike : map f (numbers s) ≡ map landed_unfixed xs =
    same_lists (map f (numbers s)) (map landed_unfixed xs) (omega arith) (λ k d h.
    let inside : k < length xs = omega arith in
    let x = get_or xs k no_system in
    let found = told (k + 1) ∙ ap (tariffs_kept (k + 1)) (numbered_from_entry xs (k + 1) no_system (omega arith) (omega arith)) in
    let here : get_or xs (k + 1 - 1) no_system ≡ x = ap (λ i. get_or xs i no_system) (omega arith) in
    get_or-map-range_with_len f 1 (length xs) k (k + 1) d inside (omega arith)
    ∙ ap (λ (o : Option Tariffs). landed_without o (system_at s (k + 1))) found
    ∙ ap (λ (z : System). landed_without (told_tariffs (k + 1) z.fixing) z) here
    ∙ landed_any_number (k + 1) x.fixing x
    ∙ sym (get_or-map landed_unfixed xs k no_system d inside)) in
    ap sum alike ∙ sum-map landed_unfixed xs

-- The landed euros of a system, in ten-thousandths: as they are where it is not fixed, else its tariffs times volumes and its
-- remainders.
spread_one : (m : Makings) (x : System) → WholeFixing m x → (fixing : Option Fixing) → x.fixing ≡ fixing → 10000 * x.landed ≡ 10000 * landed_unfixed x + (kept_worth x + system_remainders x)
spread_one m x whole None e = rw e (omega arith)
spread_one m x whole (Some f) e = rw e (omega (arith, (whole f e).whole))

-- So it is of all systems together.
spread_all : (m : Makings) (xs : List System) → All (WholeFixing m) xs → 10000 * all_landed xs ≡ 10000 * sum_by landed_unfixed xs + (sum_by kept_worth xs + sum_by system_remainders xs)
spread_all m [] whole = omega arith
spread_all m (x ∷ xs) whole =
    omega (arith, spread_one m x whole.0 x.fixing refl, spread_all m xs whole.1, sum_by-cons (λ (z : System). z.landed) x xs, sum_by-cons landed_unfixed x xs, sum_by-cons kept_worth x xs, sum_by-cons system_remainders x xs)

pub euros_are_conserved : (m : Makings) → Lawful m → (calls : List Call) → EurosAreConserved (journal m calls) (state_after m calls)
euros_are_conserved m law calls =
    let kept = fixes_kept_throughout m law calls in
    let s = state_after m calls in
    let spread = spread_all m s.systems (All-from_get_or (WholeFixing m) s.systems no_system kept.whole) in
    omega (arith, costs_are_noted m law calls, landed_told (journal m calls) s kept.told, kept.worth)

-- The figures of the state account for the calls that led to it.
pub figures_account : (m : Makings) → Lawful m → (calls : List Call) → let s = state_after m calls in
    AccountsFor (journal m calls) s s.net (all_standing s.systems) (all_unfixed_landed s.systems) (all_fixing_worth s.systems) (all_remainders s.systems)
figures_account m law calls =
    let kept = fixes_kept_throughout m law calls in
    let landed = landed_told (journal m calls) (state_after m calls) kept.told in
    record {
      costs = net_told m law calls;
      stands = refl;
      lands = sym landed;
      prices = sym kept.worth;
      remains = refl;
      adds_up = omega (arith, euros_are_conserved m law calls, landed, kept.worth);
    }

-- the system and the fixing behind an accepted fix
record Behind (n : ℕ) (looked : Option System) (f : Tariffs) : Type 0 where
  x : System
  fixing : Fixing
  found : looked ≡ Some x
  fixed : x.fixing ≡ Some fixing
  same : f ≡ record { system = n; volumes = fixing.volumes; tariffs = fixing.tariffs }

behind_fixing : (n : ℕ) (x : System) (fixing : Option Fixing) (f : Tariffs) → x.fixing ≡ fixing → told_tariffs n fixing ≡ Some f → Behind n (Some x) f
behind_fixing n x None f is told = let z : ◌≡◌ {A = ℕ} 0 1 = cc in absurd (omega arith)
behind_fixing n x (Some fixing) f is told = record { x = x; fixing = fixing; found = refl; fixed = is; same = cc }

behind_fix : (n : ℕ) (looked : Option System) (f : Tariffs) → tariffs_kept n looked ≡ Some f → Behind n looked f
behind_fix n None f told = let z : ◌≡◌ {A = ℕ} 0 1 = cc in absurd (omega arith)
behind_fix n (Some x) f told = behind_fixing n x x.fixing f refl told

-- the percentage of a carrier, from the four of a category
percent_at : (percent : Percent) (category i : ℕ) → i < carriers → get_or (percentages percent category) i 0 ≡ percent category (i + 1)
percent_at percent category zero h = refl
percent_at percent category (suc zero) h = refl
percent_at percent category (suc (suc zero)) h = refl
percent_at percent category (suc (suc (suc zero))) h = refl
percent_at percent category (suc (suc (suc (suc i)))) h = absurd (omega arith)

-- A whole fixing hides nothing.
hides_nothing : (m : Makings) (lines : List Line) (s : State) (n : ℕ) (f : Tariffs) → FixesKept m lines s → Behind n (numbered s.systems n) f → HidesNothing m lines s n f
hides_nothing m lines s n f kept behind =
    let x = behind.x in
    let at = entry_from_numbered s.systems n x behind.found in
    let whole = subst (WholeFixing m) (at.here no_system) (kept.whole (n - 1) (omega (arith, at.low, at.high))) behind.fixing behind.fixed in
    let is : (system_at s n).fixing ≡ Some behind.fixing = ap (λ (z : System). z.fixing) (at.here no_system) ∙ behind.fixed in
    let volumes = ap (λ (t : Tariffs). t.volumes) behind.same in
    let tariffs = ap (λ (t : Tariffs). t.tariffs) behind.same in
    record {
      category = x.category;
      opened = kept.categories n ∙ ap category_kept behind.found;
      known = sym (ap (λ (z : System). m.known z.category) (at.here no_system)) ∙ kept.known (n - 1) (omega (arith, at.low, at.high));
      used = λ i h some.
          let below = whole.used i h (omega (arith, percent_at m.percent x.category i h)) in
          let volume = ap (λ (vs : List ℕ). get_or vs i 0) volumes in
          let remainder = ap (fixing_remainder i) is in
          omega arith;
      unused = λ i h none.
          let nothing = whole.unused i h (percent_at m.percent x.category i h ∙ none) in
          (ap (λ (vs : List ℕ). get_or vs i 0) volumes ∙ nothing.1.0, ap (λ (ts : List ℕ). get_or ts i 0) tariffs ∙ nothing.1.1.0, ap (fixing_remainder i) is ∙ nothing.1.1.1);
    }

pub no_euro_hides : (m : Makings) → Lawful m → (calls : List Call) → NoEuroHides m (journal m calls) (state_after m calls)
no_euro_hides m law calls n f told =
    let kept = fixes_kept_throughout m law calls in
    hides_nothing m (journal m calls) (state_after m calls) n f kept (behind_fix n (numbered (state_after m calls).systems n) f (sym (kept.told n) ∙ told))

pub categories_are_known : CategoriesAreKnown
categories_are_known m law calls = (fixes_kept_throughout m law calls).known
