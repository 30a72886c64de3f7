-- What every sharing rule answers, and the law that it keeps.
use Rattle.std.specs.Prelude.{◌≡◌, ℕ, zero, suc, ◌+◌, ◌*◌, ◌<◌, ◌≤◌, cond, ◌||◌, List, map, length, Ok, Err, sum, Result, ◌==◌, nat_le, nat_lt, slice_index}
use Rattle.std.specs.List.{range_with_len}
use Rattle.refusal.specs.declared.ground.Ground.TheVariants.{OutOfBounds, ListTooLong, NoWeight}
use Rattle.refusal.specs.declared.refusal.Refusal.{Refusal}
use Rattle.refusal.specs.Refusals.{refuse}

-- what a rule means: the share for every amount, list of weights and position from 0
abbrev pub Meaning : Type 0
Meaning = ℕ → List ℕ → ℕ → ℕ

abbrev pub largest_amount : ℕ
largest_amount = 5_000_000_000

abbrev pub largest_total : ℕ
largest_total = 1_000_000_000

-- An amount and a list that a rule with this longest list does not refuse.
pub record Sharable (longest amount : ℕ) (ws : List ℕ) : Type 0 where
  pub small : amount ≤ largest_amount
  pub light : sum ws ≤ largest_total
  pub short : length ws ≤ longest
  pub some : 0 < sum ws

-- What a rule answers. The first of the refusals that holds is told.
abbrev pub share_answer : ℕ → Meaning → ℕ → List ℕ → ℕ → Result ℕ Refusal
share_answer longest share amount ws i =
    cond (nat_lt largest_amount amount || (nat_lt largest_total (sum ws) || nat_le (length ws) i)) (Err (refuse OutOfBounds 0))
    (cond (nat_lt longest (length ws)) (Err (refuse ListTooLong 0))
    (cond (sum ws == 0) (Err (refuse NoWeight 0))
    (Ok (share amount ws i))))

-- f 0 + f 1 + .. + f (n - 1)
abbrev pub sum_below : (ℕ → ℕ) → ℕ → ℕ
sum_below f zero = 0
sum_below f (suc n) = sum_below f n + f n

-- A share times the total differs from the amount times the weight by less than the total.
abbrev pub Near : ℕ → ℕ → ℕ → ℕ → Type 0
Near share total amount weight = (share * total < amount * weight + total) × (amount * weight < share * total + total)

-- The shares of all positions add up to the amount, and each is near its part of it.
abbrev pub SharesOut : (ℕ → ℕ) → ℕ → List ℕ → Type 0
SharesOut share amount ws =
    (sum_below share (length ws) ≡ amount) × ((i : ℕ) → i < length ws → Near (share i) (sum ws) amount (slice_index ws i))

-- The sharing law: so it is wherever the rule does not refuse.
abbrev pub SharingLaw : ℕ → Meaning → Type 0
SharingLaw longest share = (amount : ℕ) (ws : List ℕ) → Sharable longest amount ws → SharesOut (share amount ws) amount ws

-- the shares of all positions, in their order
abbrev pub all_shares : Meaning → ℕ → List ℕ → List ℕ
all_shares share amount ws = map (share amount ws) (range_with_len 0 (length ws))
