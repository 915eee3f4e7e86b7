use Rattle.node_walks.proofs.Completed.{keeps-as}
use Rattle.node_walks.proofs.completing.as_child.Goals as goal

pub returns : goal.returns
returns c =
    keeps-as c.collected_is_allowed.ensures c.args.env.now c.args.parcel c.requires.root c.known.ensures _ c.number.ensures
    c.into_completion.ensures c.saw-saw.ensures
