-- A field: a number at the right of its columns, spaces before it.
use Rattle.std.specs.Prelude.{◌≡◌, ℕ, zero, suc, ◌+◌, ◌-◌, ◌*◌, ◌/◌, ◌%◌, ◌^◌, ◌<◌, Bool, true, false, cond, ◌&&◌, List, [], ◌∷◌, ◌++◌, map, length, replicate, Some, None, Option, ◌==◌, nat_lt}
use Rattle.std.specs.Int.Digits.{digits_of}
use Rattle.std.specs.Str.{bytes_eq}

-- A column shows the last digit of the number up to it; where that number is 0 it is a space, but in the last column the digit 0.
abbrev pub mark : Bool → ℕ → ℕ
mark true n = 48 + n % 10
mark false n = cond (n == 0) 32 (48 + n % 10)

-- The last k columns of n.
unfoldable pub columns : ℕ → ℕ → List ℕ
columns zero n = []
columns (suc k) n = mark (k == 0) (n / 10 ^ k) ∷ columns k n

-- The field of a number below 10 ^ 10: ten columns.
abbrev pub field : ℕ → List ℕ
field n = columns 10 n

-- The number that columns show behind those that show v: each digit counts ten times what stands before it, a space nothing.
abbrev pub shown_from : ℕ → List ℕ → ℕ
shown_from v [] = v
shown_from v (x ∷ xs) = shown_from (cond (x == 32) v (10 * v + (x - 48))) xs

-- The number in k columns: the one that they show, if they are the columns of that number.
unfoldable pub number_of : ℕ → List ℕ → Option ℕ
number_of k xs =
    cond (nat_lt (shown_from 0 xs) (10 ^ k) && bytes_eq xs (columns k (shown_from 0 xs))) (Some (shown_from 0 xs)) None

-- The number in a field, if the field is well formed.
abbrev pub number_in : List ℕ → Option ℕ
number_in xs = number_of 10 xs

-- The digits of a number, the highest first; 0 has one.
abbrev pub digits : ℕ → List ℕ
digits n = digits_of 10 (n / 10) ++ n % 10 ∷ []

-- A field is spaces, and then the digits of its number.
abbrev pub SpacesThenDigits : Type 0
SpacesThenDigits =
    (n : ℕ) → n < 10 ^ 10 → field n ≡ replicate (10 - length (digits n)) 32 ++ map (λ d. 48 + d) (digits n)
