-- A fixing worked out: the landed euros of a system cut over four carriers, and the tariff of each.
use Rattle.std.specs.Prelude.{◌≡◌, ℕ, ◌+◌, ◌*◌, ◌/◌, ◌%◌, ◌<◌, Bool, cond, not, ◌||◌, List, map, Ok, Err, sum, Result, ◌==◌, nat_lt, slice_index}
use Rattle.std.specs.List.{range_with_len}
use Rattle.refusal.specs.declared.ground.Ground.TheVariants.{OutOfBounds, VolumeUnfit, TariffTooHigh}
use Rattle.refusal.specs.declared.refusal.Refusal.{Refusal}
use Rattle.refusal.specs.Refusals.{refuse}
use Rattle.sharing.specs.Limits.{above}
use Rattle.sharing.specs.Sharing.{Meaning, largest_amount}
use Rattle.billing.specs.declared.fixings.Fixing.{Fixing}
use Rattle.billing.specs.declared.fixings.Price.{Price}

abbrev pub carriers : ℕ
carriers = 4

-- the largest number that ten columns hold
abbrev pub largest_number : ℕ
largest_number = 9_999_999_999

abbrev pub largest_tariff : ℕ
largest_tariff = 100_000_000

-- a figure of each carrier, in their order; carrier 1 stands at position 0
abbrev pub each_carrier : (ℕ → ℕ) → List ℕ
each_carrier f = map f (range_with_len 0 carriers)

-- the euros of the carrier at a position
abbrev pub allotment : Meaning → ℕ → List ℕ → ℕ → ℕ
allotment share landed percentages i = share landed percentages i

-- The tariff in ten-thousandths of a euro per unit, rounded down; 0 for an unused carrier.
abbrev pub tariff_of : ℕ → ℕ → ℕ → ℕ
tariff_of percentage euros volume = cond (percentage == 0) 0 (10000 * euros / volume)

-- What rounding leaves, in ten-thousandths of a euro; 0 for an unused carrier.
abbrev pub remainder_of : ℕ → ℕ → ℕ → ℕ
remainder_of percentage euros volume = cond (percentage == 0) 0 (10000 * euros % volume)

-- both for one carrier
abbrev pub price : ℕ → ℕ → ℕ → Price
price percentage euros volume =
    record { tariff = tariff_of percentage euros volume; remainder = remainder_of percentage euros volume }

abbrev pub tariff : Meaning → ℕ → List ℕ → List ℕ → ℕ → ℕ
tariff share landed percentages volumes i =
    tariff_of (slice_index percentages i) (allotment share landed percentages i) (slice_index volumes i)

abbrev pub remainder : Meaning → ℕ → List ℕ → List ℕ → ℕ → ℕ
remainder share landed percentages volumes i =
    remainder_of (slice_index percentages i) (allotment share landed percentages i) (slice_index volumes i)

-- A carrier with a percentage has volume 0, or one without has a volume.
abbrev pub unfit : ℕ → ℕ → Bool
unfit percentage volume = cond (percentage == 0) (nat_lt 0 volume) (volume == 0)

abbrev pub volumes_unfit : List ℕ → List ℕ → Bool
volumes_unfit percentages volumes =
    unfit (slice_index percentages 0) (slice_index volumes 0) || (unfit (slice_index percentages 1) (slice_index volumes 1)
    || (unfit (slice_index percentages 2) (slice_index volumes 2) || unfit (slice_index percentages 3) (slice_index volumes 3)))

-- Landed euros or a volume are out of bounds, or the percentages miss 100.
abbrev pub fixing_out_of_bounds : ℕ → List ℕ → List ℕ → Bool
fixing_out_of_bounds landed percentages volumes =
    nat_lt largest_amount landed || (above largest_number volumes || not (sum percentages == 100))

-- the whole fixing
abbrev pub fixed_out : Meaning → ℕ → List ℕ → List ℕ → Fixing
fixed_out share landed percentages volumes =
    record {
      volumes = volumes;
      allotments = each_carrier (allotment share landed percentages);
      tariffs = each_carrier (tariff share landed percentages volumes);
      remainders = each_carrier (remainder share landed percentages volumes);
    }

-- The fixing, or the first refusal that holds.
abbrev pub fixing_answer : Meaning → ℕ → List ℕ → List ℕ → Result Fixing Refusal
fixing_answer share landed percentages volumes =
    cond (fixing_out_of_bounds landed percentages volumes) (Err (refuse OutOfBounds 0))
    (cond (volumes_unfit percentages volumes) (Err (refuse VolumeUnfit 0))
    (cond (above largest_tariff (each_carrier (tariff share landed percentages volumes))) (Err (refuse TariffTooHigh 0))
    (Ok (fixed_out share landed percentages volumes))))

-- What a fixing keeps: tariffs times volumes and the remainders are the landed euros, in ten-thousandths; a used carrier's
-- remainder is below its volume; an unused carrier has no euros, no volume, no tariff and no remainder.
pub record FixedWhole (landed : ℕ) (percentages : List ℕ) (f : Fixing) : Type 0 where
  pub whole : sum (each_carrier (λ i. slice_index f.tariffs i * slice_index f.volumes i + slice_index f.remainders i)) ≡ 10000 * landed
  pub used : (i : ℕ) → i < carriers → 0 < slice_index percentages i → slice_index f.remainders i < slice_index f.volumes i
  pub unused : (i : ℕ) → i < carriers → slice_index percentages i ≡ 0 → (slice_index f.allotments i ≡ 0) × ((slice_index f.volumes i ≡ 0) × ((slice_index f.tariffs i ≡ 0) × (slice_index f.remainders i ≡ 0)))
