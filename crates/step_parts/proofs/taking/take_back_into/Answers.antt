use Rattle.std.proofs.Common.{refl}
use Rattle.std.specs.Option.{option_map}
use Rattle.home_items.specs.Parcels.{delivery_of}
use Rattle.step_parts.proofs.Emptied.{takes-back}
use Rattle.step_parts.proofs.taking.take_back_into.Goals as goal

pub take_child_into-requires-clause-child : goal.take_child_into-requires-clause-child
take_child_into-requires-clause-child g c = c.requires.only.is c.args.child refl

pub returns-clause-takes : goal.returns-clause-takes
returns-clause-takes g c =
    takes-back c.args.site.now c.args.taken.now c.args.child c.requires.only c.requires.one
    (option_map (λ label. delivery_of label c.take_child_into.new.done) c.take_child_into.result) c.args.hand.now
    c.take_child_into.new.hand c.requires.opened c.take_child_into.ensures.takes
