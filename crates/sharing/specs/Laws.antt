-- What follows from the sharing law, for every rule with this longest list and these shares.
use Rattle.std.specs.Prelude.{◌≡◌, ℕ, ◌<◌, ◌≤◌, List, length, sum, slice_index}
use Rattle.sharing.specs.Sharing.{Meaning, Sharable, all_shares}

-- The list of all shares adds up to the amount.
abbrev pub SharesAddUp : ℕ → Meaning → Type 0
SharesAddUp longest share = (amount : ℕ) (ws : List ℕ) → Sharable longest amount ws → sum (all_shares share amount ws) ≡ amount

-- A weight of 0 gets 0.
abbrev pub NoWeightNoShare : ℕ → Meaning → Type 0
NoWeightNoShare longest share =
    (amount : ℕ) (ws : List ℕ) (i : ℕ) → Sharable longest amount ws → i < length ws → slice_index ws i ≡ 0 → share amount ws i ≡ 0

-- No share is larger than the amount.
abbrev pub NoShareAboveTheAmount : ℕ → Meaning → Type 0
NoShareAboveTheAmount longest share =
    (amount : ℕ) (ws : List ℕ) (i : ℕ) → Sharable longest amount ws → i < length ws → share amount ws i ≤ amount
