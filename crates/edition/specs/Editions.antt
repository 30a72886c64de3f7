-- What every edition answers, and the law that it keeps.
use Rattle.std.specs.Prelude.{◌≡◌, ℕ, ◌+◌, Bool, true, cond, List, [], ◌∷◌, Ok, Err, Result}
use Rattle.refusal.specs.declared.ground.Ground.TheVariants.{OutOfBounds, UnknownCategory}
use Rattle.refusal.specs.declared.refusal.Refusal.{Refusal}
use Rattle.refusal.specs.Refusals.{refuse}
use Rattle.edition.specs.Carriers.{is_carrier}

-- the categories that an edition knows
abbrev pub Known : Type 0
Known = ℕ → Bool

-- the percentage for every category and carrier
abbrev pub Percent : Type 0
Percent = ℕ → ℕ → ℕ

-- The four percentages of a known category add up to 100.
abbrev pub HundredLaw : Known → Percent → Type 0
HundredLaw known percent =
    (category : ℕ) → known category ≡ true →
    percent category 1 + percent category 2 + percent category 3 + percent category 4 ≡ 100

-- What an edition answers for a category and a carrier: first it refuses what is no carrier, then a category that it
-- does not know.
abbrev pub percent_answer : Known → Percent → ℕ → ℕ → Result ℕ Refusal
percent_answer known percent category carrier =
    cond (is_carrier carrier)
    (cond (known category) (Ok (percent category carrier)) (Err (refuse UnknownCategory 0)))
    (Err (refuse OutOfBounds 0))

-- the four percentages of a category, in the order of the carriers
abbrev pub percentages : Percent → ℕ → List ℕ
percentages percent category =
    percent category 1 ∷ percent category 2 ∷ percent category 3 ∷ percent category 4 ∷ []

-- What an edition answers for a category and all four carriers.
abbrev pub row_answer : Known → Percent → ℕ → Result (List ℕ) Refusal
row_answer known percent category =
    cond (known category) (Ok (percentages percent category)) (Err (refuse UnknownCategory 0))
