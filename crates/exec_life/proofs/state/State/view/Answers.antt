use Rattle.std.proofs.Common.{◌<◌, subst, sym}
use Rattle.exec_life.specs.Parts.{lists_of}
use Rattle.exec_life.specs.StateLists.{StateLists, machine}
use Rattle.exec_life.proofs.Tells.{tells-view}
use Rattle.exec_life.proofs.state.State.view.Goals as goal

pub returns-clause-tells : goal.returns-clause-tells
returns-clause-tells c =
    let hand = subst (λ (d : StateLists). c.args.hand < (machine d).hands) (sym c.self.view_is) c.requires in
    rw (← c.self.view_is)
    (tells-view (lists_of c.self.inside.parts) c.args.hand c.view.result.now
    (record { state = c.self.invariant; hand = hand; view_is = c.view.ensures }))
