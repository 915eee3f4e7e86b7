use Rattle.std.proofs.Common.{◌≡◌, take}
use Rattle.std.specs.List.{filter}
use Rattle.exec_life.specs.StateLists.{machine}
use Rattle.life_rules.specs.LifeSteps.{may_be_awaited}
use Rattle.life_rules.specs.States.{name_at}
use Rattle.replay_core.specs.Candidates.{nodes_of}
use Rattle.replay_core.proofs.grounds.fresh_children.Given as goal

abbrev pub invariant-loop-node : goal.invariant-loop-node
invariant-loop-node l =
    let s = machine l.state in
    l.children.items ≡ filter (may_be_awaited s (name_at s l.place)) (take l.node (nodes_of s))
