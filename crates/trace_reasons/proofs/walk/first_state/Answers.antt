use Rattle.std.proofs.Common.{◌≡◌, subst, arith}
use Rattle.std.specs.Prelude.{IfOk}
use Rattle.exec_life.specs.StateLists.{StateLists, machine}
use Rattle.life_rules.specs.Opening.{opening}
use Rattle.life_rules.specs.States.{State}
use Rattle.replay_core.specs.Traces.{first_state}
use Rattle.trace_reasons.proofs.walk.first_state.Goals as goal

pub opening-requires-clause-blocks : goal.opening-requires-clause-blocks
opening-requires-clause-blocks c = omega (arith, c.blocks-2.ensures, c.tree.ensures.setup.within.few_blocks)

pub opening-requires-clause-some_hand : goal.opening-requires-clause-some_hand
opening-requires-clause-some_hand c = omega (arith, c.hands.ensures, c.tree.ensures.setup.within.some_hand)

pub opening-requires-clause-hands : goal.opening-requires-clause-hands
opening-requires-clause-hands c = omega (arith, c.hands.ensures, c.tree.ensures.setup.within.few_hands)

pub opening-requires-clause-most : goal.opening-requires-clause-most
opening-requires-clause-most c = omega (arith, c.most.ensures, c.tree.ensures.setup.within.few_associations)

pub returns : goal.returns
returns c =
    let same : opening c.tree.result.now c.blocks-2.result c.hands.result c.kind.result c.most.result ≡ first_state c.args.setup.now =
    cc (c.tree.ensures.tree, c.blocks-2.ensures, c.hands.ensures, c.kind.ensures, c.most.ensures) in
    subst (λ (first : State). IfOk c.opening.result (λ (s : StateLists). machine s ≡ first)) same c.opening.ensures
