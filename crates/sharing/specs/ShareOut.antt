-- All shares of an amount at once, in a number of places.
use Rattle.std.specs.Prelude.{ℕ, ◌-◌, cond, ◌||◌, List, ◌++◌, length, replicate, Ok, Err, sum, Result, ◌==◌, nat_lt}
use Rattle.refusal.specs.declared.ground.Ground.TheVariants.{OutOfBounds, ListTooLong, NoWeight}
use Rattle.refusal.specs.declared.refusal.Refusal.{Refusal}
use Rattle.refusal.specs.Refusals.{refuse}
use Rattle.sharing.specs.Sharing.{Meaning, all_shares, largest_amount, largest_total}

-- numbers in the first of some places, and 0 in the others
abbrev pub in_places : ℕ → List ℕ → List ℕ
in_places places xs = xs ++ replicate (places - length xs) 0

-- More weights than places are too many, and a list without weights has no position to ask for; else all shares, or
-- the rule's refusal.
abbrev pub share_out_answer : ℕ → ℕ → Meaning → ℕ → List ℕ → Result (List ℕ) Refusal
share_out_answer places longest share amount ws =
    cond (nat_lt places (length ws)) (Err (refuse ListTooLong 0))
    (cond (length ws == 0 || (nat_lt largest_amount amount || nat_lt largest_total (sum ws))) (Err (refuse OutOfBounds 0))
    (cond (nat_lt longest (length ws)) (Err (refuse ListTooLong 0))
    (cond (sum ws == 0) (Err (refuse NoWeight 0))
    (Ok (in_places places (all_shares share amount ws))))))
