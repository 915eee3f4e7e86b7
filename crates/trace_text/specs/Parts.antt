-- The event that parts are of.
use Rattle.life_rules.specs.declared.event.Event.{Event}
use Rattle.life_rules.specs.declared.event.Event.TheVariants.{Await, Rest, Look, Request, Run, SealScan, Seal}
use Rattle.trace_text.specs.declared.parts.Parts.{Parts}
use Rattle.trace_text.specs.declared.parts.Parts.TheVariants.{Block as OfBlock, Place as OfPlace, Bare as OfNone, Await as OfAwait, Rest as OfRest, Look as OfLook, Request as OfRequest, Run as OfRun, SealScan as OfSealScan, Seal as OfSeal}
use Rattle.trace_text.specs.Kinds.{block_event, place_event, bare_event}

abbrev pub event_from : Parts → Event
event_from (OfBlock kind block) = block_event kind block
event_from (OfPlace kind place) = place_event kind place
event_from (OfNone kind) = bare_event kind
event_from (OfAwait place children) = Await place children.now
event_from (OfRest place to) = Rest place to
event_from (OfLook source after) = Look source after
event_from (OfRequest source failure) = Request source failure
event_from (OfRun source place) = Run source place
event_from (OfSealScan source) = SealScan source
event_from (OfSeal expected) = Seal expected
