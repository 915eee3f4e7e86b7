-- What a node may have seen of a stop request.
use Rattle.std.specs.Prelude.{Bool, true, false}
use Rattle.plan_rules.specs.declared.stop.StopState.{StopState}
use Rattle.plan_rules.specs.declared.stop.StopState.TheVariants.{Never, May, Stands}

-- Stands where the request was made before the operation was started, else May where one was seen,
-- else Never.
abbrev pub seen_state : Bool → Bool → StopState
seen_state true saw = Stands
seen_state false true = May
seen_state false false = Never
