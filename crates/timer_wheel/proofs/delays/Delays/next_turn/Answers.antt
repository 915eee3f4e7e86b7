use Rattle.std.proofs.Common.{rules}
use Rattle.timer_wheel.proofs.delays.Delays.next_turn.Goals as goal

pub returns-else-turn-lt-LAST_TURN : goal.returns-else-turn-lt-LAST_TURN
returns-else-turn-lt-LAST_TURN c = search rules
