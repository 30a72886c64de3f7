-- Refusals, by ground and place.
use Rattle.std.specs.Prelude.{ℕ}
use Rattle.refusal.specs.declared.ground.Ground.{Ground}
use Rattle.refusal.specs.declared.refusal.Refusal.{Refusal}
use Rattle.refusal.specs.Grounds.{ground_number}

-- the refusal on this ground at this place
abbrev pub refuse : Ground → ℕ → Refusal
refuse why place = let ground : Ground = why in record { ground = ground; place = place }

-- a refusal by its two numbers, as an answer row tells them
abbrev pub refusal_numbers : Refusal → ℕ × ℕ
refusal_numbers r = (ground_number r.ground, r.place)
