-- How far a hand is with lying down.
use Rattle.std.specs.Prelude.{Bool, true, false}
use Rattle.sleepers.specs.declared.vigil.Stage.{Stage}
use Rattle.sleepers.specs.declared.vigil.Stage.TheVariants.{Awake, Looking, Tired, Lying, Looked}

-- Its next look is to be at all.
abbrev pub is_lying : Stage → Bool
is_lying Awake = false
is_lying (Looking misses) = false
is_lying Tired = false
is_lying Lying = true
is_lying Looked = false

-- Its bit is up: it lay down, and didn't sleep yet.
abbrev pub has_bit : Stage → Bool
has_bit Awake = false
has_bit (Looking misses) = false
has_bit Tired = false
has_bit Lying = true
has_bit Looked = true
