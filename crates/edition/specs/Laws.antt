-- What follows from the law of an edition, for every edition with this table.
use Rattle.std.specs.Prelude.{◌≡◌, ℕ, ◌≤◌, true, sum}
use Rattle.edition.specs.Carriers.{is_carrier}
use Rattle.edition.specs.Editions.{Known, Percent, percentages}

-- The list of the four percentages of a known category adds up to 100.
abbrev pub PercentagesAddUp : Known → Percent → Type 0
PercentagesAddUp known percent =
    (category : ℕ) → known category ≡ true → sum (percentages percent category) ≡ 100

-- No percentage of a known category is larger than 100.
abbrev pub NoPercentageAbove100 : Known → Percent → Type 0
NoPercentageAbove100 known percent =
    (category carrier : ℕ) → known category ≡ true → is_carrier carrier ≡ true → percent category carrier ≤ 100
