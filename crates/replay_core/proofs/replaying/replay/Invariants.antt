use Rattle.std.proofs.Common.{drop}
use Rattle.exec_life.specs.StateLists.{machine}
use Rattle.replay_core.proofs.Followed.{Follow}
use Rattle.replay_core.proofs.replaying.replay.Given as goal

abbrev pub invariant-loop-choice : goal.invariant-loop-choice
invariant-loop-choice l =
    Follow l.schedule.opening (machine l.state) l.entries.items (drop l.choice-index l.choice-items) l.choice-items
