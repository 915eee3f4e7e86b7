use Rattle.std.proofs.Common.{◌≡◌, ◌+◌, ◌≤◌, take, length, count_by, vec_len, vec_capacity}
use Rattle.timer_wheel.specs.Pairs.{places}
use Rattle.timer_wheel.specs.Commands.{is_advance, Run}
use Rattle.timer_wheel.proofs.commands.run.Given as goal

abbrev pub invariant-loop-command : goal.invariant-loop-command
invariant-loop-command l = record {
  run : Run l.fn.wheel (take l.command-index l.commands) l.replies.items l.wheel;
  places : places l.wheel ≡ places l.fn.wheel;
  turn : l.wheel.turn ≡ l.fn.wheel.turn + count_by is_advance (take l.command-index l.commands);
  count : vec_len l.replies ≡ l.command-index;
  room : length l.commands ≤ vec_capacity l.replies;
}
