-- The carriers by their numbers.
use Rattle.std.specs.Prelude.{ℕ, Bool, ◌&&◌, nat_le}
use Rattle.edition.specs.declared.carrier.Carrier.{Carrier}
use Rattle.edition.specs.declared.carrier.Carrier.TheVariants.{ContractedKw, Kwmax, Kwh, ReckonedKw}

-- the number by which a carrier is told
abbrev pub carrier_number : Carrier → ℕ
carrier_number ContractedKw = 1
carrier_number Kwmax = 2
carrier_number Kwh = 3
carrier_number ReckonedKw = 4

-- The carriers are 1 to 4.
abbrev pub is_carrier : ℕ → Bool
is_carrier carrier = nat_le 1 carrier && nat_le carrier 4
