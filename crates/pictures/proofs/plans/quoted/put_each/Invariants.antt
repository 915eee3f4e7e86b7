use Rattle.std.proofs.Common.{take}
use Rattle.std.specs.List.{flat_map}
use Rattle.pictures.specs.Adding.{Adds}
use Rattle.pictures.specs.Plans.Quoted.{byte_text}
use Rattle.pictures.proofs.plans.quoted.put_each.Given as goal

abbrev pub invariant-loop-byte : goal.invariant-loop-byte
invariant-loop-byte l =
    Adds l.initial.text.items l.text.items (flat_map byte_text (take l.byte-index l.bytes))
