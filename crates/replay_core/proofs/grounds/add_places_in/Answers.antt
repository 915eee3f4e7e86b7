use Rattle.std.proofs.Common.{◌≡◌, [], ◌∷◌, ◌++◌, List, length, ap, ◌∙◌, arith}
use Rattle.exec_life.specs.StateLists.{machine}
use Rattle.life_rules.specs.declared.event.Place.{Place}
use Rattle.life_rules.specs.States.{size}
use Rattle.replay_core.specs.Candidates.{place_of}
use Rattle.replay_core.proofs.Kept.{grown, numbers_next, numbers_all}
use Rattle.replay_core.proofs.grounds.add_places_in.Goals as goal

pub loop-node-preserved : goal.loop-node-preserved
loop-node-preserved c =
    let nodes : c.size-node-end.result ≡ size (machine c.args.state.now) = c.size-node-end.ensures.size ∙ ap length c.tree.ensures in
    grown c.args.places.now.items _ _ _ _ _ c.loop-node.invariant c.in_ok-push.ensures.items
    (numbers_next (λ n. place_of c.args.block n ∷ []) (size (machine c.args.state.now)) c.loop-node.node (omega (arith, nodes)))

pub returns : goal.returns
returns c =
    let nodes : c.size-node-end.result ≡ size (machine c.args.state.now) = c.size-node-end.ensures.size ∙ ap length c.tree.ensures in
    c.loop-node.invariant
    ∙ ap (λ (l : List Place). c.args.places.now.items ++ l)
    (numbers_all (λ n. place_of c.args.block n ∷ []) (size (machine c.args.state.now)) c.loop-node.node (omega (arith, nodes)))
