-- How a reason is found: need by need.
use Rattle.std.specs.Prelude.{Bool, true, false, Option, Some, None}
use Rattle.step_reasons.specs.declared.fact.Fact.{Fact}

-- a need that holds is passed; one that doesn't has this reason
unfoldable pub unless : Bool → Fact → Option Fact → Option Fact
unless true fact rest = rest
unless false fact rest = Some fact
