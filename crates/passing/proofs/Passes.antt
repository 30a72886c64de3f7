-- A pass under a lawful rule: nothing is lost, and every taker is near its proportion.
use Rattle.std.proofs.Common.{◌≡◌, ℕ, zero, suc, ◌+◌, ◌-◌, ◌*◌, ◌<◌, ◌≤◌, false, cond, eqb, List, [], ◌∷◌, map, length, get_or, Ok, sum, Result, sym, refl, ap, ◌∙◌, ⊎_elim, mul-zero, zero-mul, arith}
use Rattle.std.specs.List.{range_with_len}
use Rattle.std.proofs.lemmas.List.Sums.{get_or-le-sum_by}
use Rattle.std.proofs.lemmas.Bool.{cases_lt, cond-false, eq-eqb, ne_eqb}
use Rattle.std.proofs.lemmas.Bool.Decides.{nat_tests}
use Rattle.sharing.specs.Sharing.{Meaning, Near, Sharable, SharingLaw, sum_below, largest_amount, largest_total}
use Rattle.sharing.specs.ShareOut.{in_places, share_out_answer}
use Rattle.sharing.proofs.Answering.{shared_out_from_sharable}
use Rattle.sharing.specs.Counting.{sum_plus, sum_same}
use Rattle.sharing.proofs.SharingLaws.{no_weight_no_share, no_share_above_the_amount}
use Rattle.refusal.specs.declared.refusal.Refusal.{Refusal}
use Rattle.passing.specs.declared.pass.Column.{Column}
use Rattle.sharing.specs.Limits.{above}
use Rattle.passing.specs.Passing.{Passable, column, kw_part, largest_flow, most_takers, mwh_part, nothing_to_go_by, of_part, out_of_bounds, pass_answer, received, split, too_many_takers, worked_out}
use Rattle.passing.specs.Proportion.{WithinThreeEuros, all_of, denominator, numerator}
use Rattle.sharing.proofs.Above.{sum_bounded}
use Rattle.passing.proofs.Parts.{part_of_none, part_of_some}
use Rattle.passing.proofs.Places.{added_in_places, placed_bounded}
use Rattle.passing.proofs.ThreeEuros.{three_euros}

-- where no refusal holds, a pass can be worked out
pub passable : (longest amount permille : ℕ) (kws mwhs : List ℕ) → out_of_bounds amount permille kws mwhs ≡ false → too_many_takers longest (length kws) ≡ false → nothing_to_go_by permille kws mwhs ≡ false → Passable longest amount permille kws mwhs
passable longest amount permille kws mwhs bounds few weight =
    record {
      small = grind (arith, nat_tests);
      thousandths = grind (arith, nat_tests);
      kw_bounds = grind (arith, nat_tests);
      mwh_bounds = grind (arith, nat_tests);
      paired = grind (arith, nat_tests);
      some = grind (arith, nat_tests);
      short = grind (arith, nat_tests);
      room = grind (arith, nat_tests);
      kw_weight = λ h. grind (arith, nat_tests);
      mwh_weight = λ h. grind (arith, nat_tests);
    }

pub worked_out_from_tests : (longest : ℕ) (share : Meaning) (amount permille : ℕ) (kws mwhs : List ℕ) → out_of_bounds amount permille kws mwhs ≡ false → too_many_takers longest (length kws) ≡ false → nothing_to_go_by permille kws mwhs ≡ false → pass_answer longest share amount permille kws mwhs ≡ Ok (worked_out share amount permille kws mwhs)
worked_out_from_tests longest share amount permille kws mwhs bounds few weight =
    cond-false (out_of_bounds amount permille kws mwhs) _ _ bounds ∙ cond-false (too_many_takers longest (length kws)) _ _ few ∙ cond-false (nothing_to_go_by permille kws mwhs) _ _ weight

-- the list of one flow is light enough
flow_light : (longest : ℕ) (ws : List ℕ) → above largest_flow ws ≡ false → length ws ≤ 32 → sum ws ≤ largest_total
flow_light longest ws bounds room =
    let under = sum_bounded largest_flow ws bounds in
    omega arith

-- the sum of nothing
sum_none : (f : ℕ → ℕ) → ((i : ℕ) → f i ≡ 0) → (n : ℕ) → sum_below f n ≡ 0
sum_none f none zero = refl
sum_none f none (suc n) = omega (arith, sum_none f none n, none n)

-- a taker's weight, left out where the factor is 0
abbrev weight_in : ℕ → List ℕ → ℕ → ℕ
weight_in factor ws i = cond {A = ℕ} (eqb factor 0) 0 (get_or ws i 0)

-- what a share of one column owes to its weight
record ColumnNear (factor part : ℕ) (ws : List ℕ) (s i : ℕ) : Type 0 where
  near : Near s (all_of factor ws) part (weight_in factor ws i)
  within : weight_in factor ws i ≤ all_of factor ws
  some : 0 < all_of factor ws
  same : (other : ℕ) → factor * (weight_in factor ws i * other) ≡ factor * (get_or ws i 0 * other)

-- One column: its part is 0 where its factor is, and it can be shared where it is not.
module _ (longest : ℕ) (share : Meaning) (law : SharingLaw longest share) (factor part : ℕ) (ws : List ℕ)
    (empty : factor ≡ 0 → part ≡ 0) (full : 0 < factor → Sharable longest part ws) where
  pub column_adds_up : sum_below (of_part share factor part ws) (length ws) ≡ part
  column_adds_up =
      ⊎_elim
      (λ (some : 0 < factor).
      sum_same (of_part share factor part ws) (share part ws) (length ws) (λ i _. part_of_some share factor part ws i some) ∙ (law part ws (full some)).0)
      (λ (none : factor ≤ 0).
      let zero : factor ≡ 0 = omega arith in
      sum_none (of_part share factor part ws) (λ i. part_of_none share factor part ws i zero) (length ws) ∙ sym (empty zero))
      (cases_lt 0 factor)

  pub share_within_part : (i : ℕ) → i < length ws → of_part share factor part ws i ≤ part
  share_within_part i h =
      ⊎_elim
      (λ (some : 0 < factor). omega (arith, part_of_some share factor part ws i some, no_share_above_the_amount longest share law part ws i (full some) h))
      (λ (none : factor ≤ 0). omega (arith, part_of_none share factor part ws i (omega arith)))
      (cases_lt 0 factor)

  column_near : (i : ℕ) → i < length ws → ColumnNear factor part ws (of_part share factor part ws i) i
  column_near i h =
      ⊎_elim
      (λ (some : 0 < factor).
      let test = ne_eqb factor 0 (λ e. omega arith) in
      let shared = full some in
      let near = (law part ws shared).1 i h in
      let within = get_or-le-sum_by (λ x. x) ws i 0 h in
      record { near = rw test near; within = rw test within; some = rw test shared.some; same = λ other. rw test refl })
      (λ (none : factor ≤ 0).
      let zero : factor ≡ 0 = omega arith in
      let test = eq-eqb factor 0 zero in
      record {
        near = rw test (omega (arith, mul-zero part), omega (arith, mul-zero part));
        within = rw test (omega arith);
        some = rw test (omega arith);
        same = λ other. ap (λ n. n * (weight_in factor ws i * other)) zero ∙ zero-mul (weight_in factor ws i * other) ∙ sym (ap (λ n. n * (get_or ws i 0 * other)) zero ∙ zero-mul (get_or ws i 0 * other));
      })
      (cases_lt 0 factor)

-- Parts of the amount that can be shared by kW and by MWh.
pub record Parted (longest permille : ℕ) (kws mwhs parts : List ℕ) : Type 0 where
  pub kw : 0 < permille → Sharable longest (get_or parts 0 0) kws
  pub mwh : 0 < 1000 - permille → Sharable longest (get_or parts 1 0) mwhs

-- Columns whose figures can be added, and are the whole pass with their sums.
pub record Divided (share : Meaning) (amount permille : ℕ) (kws mwhs : List ℕ) (kw mwh : Column) : Type 0 where
  pub kw_bound : (k : ℕ) → get_or kw.shares k 0 ≤ largest_amount
  pub mwh_bound : (k : ℕ) → get_or mwh.shares k 0 ≤ largest_amount
  pub whole : (sums : List ℕ) → sums ≡ map (λ k. get_or kw.shares k 0 + get_or mwh.shares k 0) (range_with_len 0 most_takers) → record { takers = length kws; kw = kw; mwh = mwh; received = sums } ≡ worked_out share amount permille kws mwhs

module _ (longest : ℕ) (share : Meaning) (law : SharingLaw longest share) (twelve : 12 ≤ longest)
    (amount permille : ℕ) (kws mwhs : List ℕ) (able : Passable longest amount permille kws mwhs) where
  pub split_sharable : Sharable longest amount (split permille)
  split_sharable =
      let bound = able.thousandths in
      record { small = able.small; light = omega arith; short = omega arith; some = omega arith }

  pub parts_add_up : kw_part share amount permille + mwh_part share amount permille ≡ amount
  parts_add_up = omega (arith, (law amount (split permille) split_sharable).0)

  pub no_kw_part : permille ≡ 0 → kw_part share amount permille ≡ 0
  no_kw_part none = no_weight_no_share longest share law amount (split permille) 0 split_sharable (omega arith) none

  pub no_mwh_part : 1000 - permille ≡ 0 → mwh_part share amount permille ≡ 0
  no_mwh_part none = no_weight_no_share longest share law amount (split permille) 1 split_sharable (omega arith) none

  kw_sharable : 0 < permille → Sharable longest (kw_part share amount permille) kws
  kw_sharable some =
      let small = able.small in
      let whole = parts_add_up in
      record { small = omega arith; light = flow_light longest kws able.kw_bounds able.room; short = able.short; some = able.kw_weight some }

  mwh_sharable : 0 < 1000 - permille → Sharable longest (mwh_part share amount permille) mwhs
  mwh_sharable some =
      let small = able.small in
      let whole = parts_add_up in
      let pair = able.paired in
      let room = able.room in
      let short = able.short in
      record { small = omega arith; light = flow_light longest mwhs able.mwh_bounds (omega arith); short = omega arith; some = able.mwh_weight (omega arith) }

  pub received_adds_up : sum_below (received share amount permille kws mwhs) (length kws) ≡ amount
  received_adds_up =
      let kw = of_part share permille (kw_part share amount permille) kws in
      let mwh = of_part share (1000 - permille) (mwh_part share amount permille) mwhs in
      let plus = sum_plus kw mwh (length kws) in
      let first = column_adds_up longest share law permille (kw_part share amount permille) kws no_kw_part kw_sharable in
      let second = ap (sum_below mwh) able.paired ∙ column_adds_up longest share law (1000 - permille) (mwh_part share amount permille) mwhs no_mwh_part mwh_sharable in
      omega (arith, parts_add_up)

  pub received_near : (taker : ℕ) → taker < length kws → WithinThreeEuros (received share amount permille kws mwhs taker) (numerator amount permille kws mwhs taker) (denominator permille kws mwhs)
  received_near taker h =
      let rest = 1000 - permille in
      let part₁ = kw_part share amount permille in
      let part₂ = mwh_part share amount permille in
      let kw = column_near longest share law permille part₁ kws no_kw_part kw_sharable taker h in
      let mwh = column_near longest share law rest part₂ mwhs no_mwh_part mwh_sharable taker (omega (arith, able.paired)) in
      let thousand : permille + rest ≡ 1000 = omega (arith, able.thousandths) in
      let halves = (law amount (split permille) split_sharable).1 0 (omega arith) in
      let total : sum (split permille) ≡ 1000 = omega (arith, able.thousandths) in
      let split_near : Near part₁ 1000 amount permille = rw total at halves in
      let all_kw = all_of permille kws in
      let all_mwh = all_of rest mwhs in
      let told = three_euros amount permille rest part₁ part₂ (of_part share permille part₁ kws taker) (of_part share rest part₂ mwhs taker) (weight_in permille kws taker) all_kw (weight_in rest mwhs taker) all_mwh thousand parts_add_up split_near kw.near mwh.near kw.within mwh.within kw.some mwh.some in
      let same₁ = kw.same all_mwh in
      let same₂ = mwh.same all_kw in
      let same : amount * (permille * (weight_in permille kws taker * all_mwh) + rest * (weight_in rest mwhs taker * all_kw)) ≡ numerator amount permille kws mwhs taker = ap (λ n. amount * n) (omega arith) in
      (omega arith, omega arith)

  -- what sharing out over the split answers
  parts_told : (parts : List ℕ) → Ok parts ≡ share_out_answer 2 longest share amount (split permille) → parts ≡ kw_part share amount permille ∷ mwh_part share amount permille ∷ []
  parts_told parts told =
      let due = shared_out_from_sharable 2 longest amount (split permille) share split_sharable (omega arith) (omega arith) in
      cc

  -- each taker's share of each part is within bounds
  pub kw_share_bounded : (i : ℕ) → i < length kws → of_part share permille (kw_part share amount permille) kws i ≤ largest_amount
  kw_share_bounded i h =
      let small = able.small in
      omega (arith, parts_add_up, share_within_part longest share law permille (kw_part share amount permille) kws no_kw_part kw_sharable i h)

  pub mwh_share_bounded : (i : ℕ) → i < length mwhs → of_part share (1000 - permille) (mwh_part share amount permille) mwhs i ≤ largest_amount
  mwh_share_bounded i h =
      let small = able.small in
      omega (arith, parts_add_up, share_within_part longest share law (1000 - permille) (mwh_part share amount permille) mwhs no_mwh_part mwh_sharable i h)

  -- the columns of those parts, and the whole pass
  kw_column_bounded : (kw : Column) → kw ≡ column share permille (kw_part share amount permille) kws → (k : ℕ) → get_or kw.shares k 0 ≤ largest_amount
  kw_column_bounded kw e k = rw e (placed_bounded (of_part share permille (kw_part share amount permille) kws) most_takers (length kws) largest_amount kw_share_bounded k)

  mwh_column_bounded : (mwh : Column) → mwh ≡ column share (1000 - permille) (mwh_part share amount permille) mwhs → (k : ℕ) → get_or mwh.shares k 0 ≤ largest_amount
  mwh_column_bounded mwh e k = rw e (placed_bounded (of_part share (1000 - permille) (mwh_part share amount permille) mwhs) most_takers (length mwhs) largest_amount mwh_share_bounded k)

  pass_told : (kw mwh : Column) (sums : List ℕ) → kw ≡ column share permille (kw_part share amount permille) kws → mwh ≡ column share (1000 - permille) (mwh_part share amount permille) mwhs → sums ≡ map (λ k. get_or kw.shares k 0 + get_or mwh.shares k 0) (range_with_len 0 most_takers) → record { takers = length kws; kw = kw; mwh = mwh; received = sums } ≡ worked_out share amount permille kws mwhs
  pass_told kw mwh sums kw_is mwh_is sums_are =
      let f = of_part share permille (kw_part share amount permille) kws in
      let g = of_part share (1000 - permille) (mwh_part share amount permille) mwhs in
      let one = ap (λ (k : Column). map (λ i. get_or k.shares i 0 + get_or mwh.shares i 0) (range_with_len 0 most_takers)) kw_is in
      let two = ap (λ (m : Column). map (λ i. get_or (column share permille (kw_part share amount permille) kws).shares i 0 + get_or m.shares i 0) (range_with_len 0 most_takers)) mwh_is in
      let three = ap (λ n. map (λ i. get_or (in_places most_takers (map f (range_with_len 0 (length kws)))) i 0 + get_or (in_places most_takers (map g (range_with_len 0 n))) i 0) (range_with_len 0 most_takers)) (sym able.paired) in
      let sums_is : sums ≡ in_places most_takers (map (received share amount permille kws mwhs) (range_with_len 0 (length kws))) =
      sums_are ∙ one ∙ two ∙ three ∙ added_in_places f g most_takers (length kws) able.room in
      cc

  -- what the code makes of the parts that sharing out over the split answers
  module _ (parts : List ℕ) (told : Ok parts ≡ share_out_answer 2 longest share amount (split permille)) where
    pub parted : Parted longest permille kws mwhs parts
    parted =
        let parts_are = parts_told parts told in
        record { kw = λ some. rw parts_are (kw_sharable some); mwh = λ some. rw parts_are (mwh_sharable some) }

    pub divided : (kw mwh : Column) → ◌≡◌ {A = Result Column Refusal} (Ok kw) (Ok (column share permille (get_or parts 0 0) kws)) → ◌≡◌ {A = Result Column Refusal} (Ok mwh) (Ok (column share (1000 - permille) (get_or parts 1 0) mwhs)) → Divided share amount permille kws mwhs kw mwh
    divided kw mwh kw_told mwh_told =
        let parts_are = parts_told parts told in
        let kw_is : kw ≡ column share permille (kw_part share amount permille) kws = cc in
        let mwh_is : mwh ≡ column share (1000 - permille) (mwh_part share amount permille) mwhs = cc in
        record {
          kw_bound = kw_column_bounded kw kw_is;
          mwh_bound = mwh_column_bounded mwh mwh_is;
          whole = λ sums sums_are. pass_told kw mwh sums kw_is mwh_is sums_are;
        }
