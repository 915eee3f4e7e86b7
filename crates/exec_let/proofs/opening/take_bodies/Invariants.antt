use Rattle.std.specs.Option.{option_map}
use Rattle.std.proofs.Common.{take}
use Rattle.home_items.specs.Parcels.{delivery_of}
use Rattle.exec_let.specs.Opens.{TakesBodies}
use Rattle.exec_let.proofs.opening.take_bodies.Given as goal

abbrev pub invariant-loop-body : goal.invariant-loop-body
invariant-loop-body g l = TakesBodies l.site l.taken (take l.body-index l.bodies) (option_map (λ label. delivery_of label l.done) l.found)
    l.fn.hand l.hand
