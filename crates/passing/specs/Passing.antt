-- A pass worked out on plain numbers: an amount, a permille, and the kW and the MWh of the takers in their order.
use Rattle.std.specs.Prelude.{◌≡◌, ℕ, ◌+◌, ◌-◌, ◌<◌, ◌≤◌, Bool, false, cond, not, ◌&&◌, ◌||◌, List, [], ◌∷◌, map, length, Ok, Err, sum, Result, ◌==◌, nat_lt}
use Rattle.std.specs.List.{range_with_len}
use Rattle.refusal.specs.declared.ground.Ground.TheVariants.{OutOfBounds, ListTooLong, NoWeight}
use Rattle.refusal.specs.declared.refusal.Refusal.{Refusal}
use Rattle.refusal.specs.Refusals.{refuse}
use Rattle.sharing.specs.Limits.{above}
use Rattle.sharing.specs.Sharing.{Meaning, largest_amount}
use Rattle.sharing.specs.ShareOut.{in_places}
use Rattle.passing.specs.declared.pass.Column.{Column}
use Rattle.passing.specs.declared.pass.Pass.{Pass}

-- the most takers that a system has: its consumers and 31 couplings
abbrev pub most_takers : ℕ
most_takers = 32

abbrev pub largest_flow : ℕ
largest_flow = 30_000_000

-- how the amount is divided over the permille and the rest of 1,000
abbrev pub split : ℕ → List ℕ
split permille = permille ∷ (1000 - permille) ∷ []

-- the part of the amount that goes by kW
abbrev pub kw_part : Meaning → ℕ → ℕ → ℕ
kw_part share amount permille = share amount (split permille) 0

-- the part of the amount that goes by MWh
abbrev pub mwh_part : Meaning → ℕ → ℕ → ℕ
mwh_part share amount permille = share amount (split permille) 1

-- what a taker gets of a part; a part whose factor is 0 is 0 for every taker
abbrev pub of_part : Meaning → ℕ → ℕ → List ℕ → ℕ → ℕ
of_part share factor part ws taker = cond (factor == 0) 0 (share part ws taker)

-- A taker receives its share of the part that goes by kW and its share of the part that goes by MWh.
abbrev pub received : Meaning → ℕ → ℕ → List ℕ → List ℕ → ℕ → ℕ
received share amount permille kws mwhs taker =
    of_part share permille (kw_part share amount permille) kws taker
    + of_part share (1000 - permille) (mwh_part share amount permille) mwhs taker

-- A number is out of bounds, the lists differ in length, or there is no taker.
abbrev pub out_of_bounds : ℕ → ℕ → List ℕ → List ℕ → Bool
out_of_bounds amount permille kws mwhs =
    nat_lt largest_amount amount || (nat_lt 1000 permille || (above largest_flow kws || (above largest_flow mwhs
    || (not (length kws == length mwhs) || length kws == 0))))

-- There are more takers than the rule's longest list, or than a system can have.
abbrev pub too_many_takers : ℕ → ℕ → Bool
too_many_takers longest takers = nat_lt longest takers || nat_lt most_takers takers

-- All kW are 0 with a permille above 0, or all MWh are 0 with a permille below 1,000.
abbrev pub nothing_to_go_by : ℕ → List ℕ → List ℕ → Bool
nothing_to_go_by permille kws mwhs =
    (nat_lt 0 permille && sum kws == 0) || (nat_lt permille 1000 && sum mwhs == 0)

-- Numbers that a pass can be worked out from, under a rule with this longest list.
pub record Passable (longest amount permille : ℕ) (kws mwhs : List ℕ) : Type 0 where
  pub small : amount ≤ largest_amount
  pub thousandths : permille ≤ 1000
  pub kw_bounds : above largest_flow kws ≡ false
  pub mwh_bounds : above largest_flow mwhs ≡ false
  pub paired : length kws ≡ length mwhs
  pub some : 0 < length kws
  pub short : length kws ≤ longest
  pub room : length kws ≤ most_takers
  pub kw_weight : 0 < permille → 0 < sum kws
  pub mwh_weight : permille < 1000 → 0 < sum mwhs

-- one part and what each taker gets of it
abbrev pub column : Meaning → ℕ → ℕ → List ℕ → Column
column share factor part ws =
    record { part = part; shares = in_places most_takers (map (of_part share factor part ws) (range_with_len 0 (length ws))) }

-- the whole pass
abbrev pub worked_out : Meaning → ℕ → ℕ → List ℕ → List ℕ → Pass
worked_out share amount permille kws mwhs =
    record {
      takers = length kws;
      kw = column share permille (kw_part share amount permille) kws;
      mwh = column share (1000 - permille) (mwh_part share amount permille) mwhs;
      received = in_places most_takers (map (received share amount permille kws mwhs) (range_with_len 0 (length kws)));
    }

-- The pass, or the first refusal that holds.
abbrev pub pass_answer : ℕ → Meaning → ℕ → ℕ → List ℕ → List ℕ → Result Pass Refusal
pass_answer longest share amount permille kws mwhs =
    cond (out_of_bounds amount permille kws mwhs) (Err (refuse OutOfBounds 0))
    (cond (too_many_takers longest (length kws)) (Err (refuse ListTooLong 0))
    (cond (nothing_to_go_by permille kws mwhs) (Err (refuse NoWeight 0))
    (Ok (worked_out share amount permille kws mwhs))))
