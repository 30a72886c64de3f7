-- What an answer of a rule says of what it was asked.
use Rattle.std.proofs.Common.{◌≡◌, ℕ, ◌<◌, ◌≤◌, List, length, Ok, arith}
use Rattle.std.proofs.lemmas.Bool.Decides.{nat_tests}
use Rattle.sharing.specs.Sharing.{Meaning, Sharable, all_shares, share_answer}
use Rattle.sharing.specs.ShareOut.{in_places, share_out_answer}

-- A rule tells a share just where amount and list are sharable and the position is in the list.
module _ (longest amount : ℕ) (ws : List ℕ) (i : ℕ) where
  pub sharable_from_ok : (share : Meaning) (v : ℕ) → Ok v ≡ share_answer longest share amount ws i → Sharable longest amount ws
  sharable_from_ok share v e =
      record { small = grind (arith, nat_tests); light = grind (arith, nat_tests); short = grind (arith, nat_tests); some = grind (arith, nat_tests) }

  pub share_from_ok : (share : Meaning) (v : ℕ) → Ok v ≡ share_answer longest share amount ws i → v ≡ share amount ws i
  share_from_ok share v e = grind (arith, nat_tests)

-- All shares are told just where amount and list are sharable and there are places enough.
module _ (places longest amount : ℕ) (ws : List ℕ) (share : Meaning) where
  pub shared_out_from_sharable : Sharable longest amount ws → 0 < length ws → length ws ≤ places → Ok (in_places places (all_shares share amount ws)) ≡ share_out_answer places longest share amount ws
  shared_out_from_sharable s some room = grind (arith, nat_tests)
