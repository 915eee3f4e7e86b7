-- What several values are, one after the other.
use Rattle.std.specs.Prelude.{if◌then◌else◌, Some, None}
use Rattle.plan_kinds.specs.Shapes.{Shape, is_few}
use Rattle.sig_check.specs.declared.joint.Joint.{Joint}
use Rattle.sig_check.specs.declared.joint.Joint.TheVariants.{Never, Kinds, TooMany}

-- a shape, as far as a value may have so many data
abbrev pub joint_of : Shape → Joint
joint_of None = Never
joint_of (Some kinds) = if is_few kinds then Kinds kinds else TooMany
