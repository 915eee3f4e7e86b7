-- How far a node has come, and who has it.
use Rattle.std.specs.Prelude.{ℕ, zero, suc, ◌+◌, ◌==◌, Bool, nat_le, nat_lt, if◌then◌else◌}
use Rattle.life_rules.specs.declared.event.Place.{Place}
use Rattle.life_rules.specs.declared.words.BlockState.{BlockState}
use Rattle.life_rules.specs.declared.words.BlockState.TheVariants.{Free, Open, Retired}
use Rattle.life_rules.specs.declared.words.CallbackPhase.{CallbackPhase}
use Rattle.life_rules.specs.declared.words.CallbackPhase.TheVariants as phase
use Rattle.life_rules.specs.declared.words.ControlWord.{ControlWord}
use Rattle.life_rules.specs.declared.words.ControlWord.TheVariants as word
use Rattle.life_rules.specs.LifeSteps.{root_of}
use Rattle.life_rules.specs.States.{State, name_at, control_at, phase_at}
use Rattle.node_tree.specs.Tree.{is_root}
use Rattle.step_reasons.specs.declared.callback.Callback.{Callback}
use Rattle.step_reasons.specs.declared.callback.Callback.TheVariants.{Never, Armed, Runs as RunsOn, Ran, Removed}
use Rattle.step_reasons.specs.declared.reading.Part.{Part}
use Rattle.step_reasons.specs.declared.reading.Part.TheVariants.{Holds, OwesStart, OwesReport, HoldsFinished, Runs}
use Rattle.step_reasons.specs.declared.standing.Standing.{Standing}
use Rattle.step_reasons.specs.declared.standing.Standing.TheVariants.{InFreeBlock, InRetiredBlock, NotAwaited, StartOwed, Held, Waits, InLoop, InPool, Parked, ReportOwed, Reported, HeldFinished}

-- the first of the `count` numbers from i on that passes the test, the one after them where none
-- does
unfoldable pub first_from : (ℕ → Bool) → ℕ → ℕ → ℕ
first_from test i zero = i
first_from test i (suc count) = if test i then i else first_from test (suc i) count

-- the first number below n that passes the test, n where none does
abbrev pub first_below : (ℕ → Bool) → ℕ → ℕ
first_below test n = first_from test 0 n

-- the hand has the node in this way; as finished, the root of its block
abbrev pub has_part : State → Part → Place → ℕ → Bool
has_part s Holds p h = nat_le 1 ((s.view h).holds (name_at s p))
has_part s OwesStart p h = nat_le 1 ((s.view h).starts (name_at s p))
has_part s OwesReport p h = nat_le 1 ((s.view h).reports (name_at s p))
has_part s HoldsFinished p h = nat_le 1 ((s.view h).finished (root_of s p.block))
has_part s Runs p h = nat_le 1 ((s.view h).runs (name_at s p))

-- the first hand that has it so, the number of hands where none does
abbrev pub first_hand : State → Part → Place → ℕ
first_hand s part p = first_below (has_part s part p) s.hands

-- a node that hasn't begun: a hand owes its start, or it isn't awaited
abbrev pub idle_standing : State → Place → Standing
idle_standing s p =
    if nat_lt (first_hand s OwesStart p) s.hands
    then StartOwed (first_hand s OwesStart p)
    else NotAwaited

-- one that has begun: a hand holds it, or it waits for children
abbrev pub busy_standing : State → Place → ℕ → Standing
busy_standing s p children =
    if children == 0 then Held (first_hand s Holds p) else Waits children

-- one that is done: a hand holds it as the finished root, or owes its report, or it was reported
abbrev pub done_standing : State → Place → Standing
done_standing s p =
    if is_root s.tree p.node then HeldFinished (first_hand s HoldsFinished p) else (
    if nat_lt (first_hand s OwesReport p) s.hands
    then ReportOwed (first_hand s OwesReport p)
    else Reported)

-- a node of an open block, by its control word
abbrev pub open_standing : State → Place → ControlWord → Standing
open_standing s p word.Idle = idle_standing s p
open_standing s p (word.Busy children) = busy_standing s p children
open_standing s p word.ReadyLoop = InLoop
open_standing s p word.ReadyPool = InPool
open_standing s p word.Parked = Parked
open_standing s p word.Done = done_standing s p

abbrev pub block_standing : State → Place → BlockState → Standing
block_standing s p Free = InFreeBlock
block_standing s p Open = open_standing s p (control_at s (name_at s p))
block_standing s p Retired = InRetiredBlock

abbrev pub standing_of : State → Place → Standing
standing_of s p = block_standing s p (s.block p.block).state

-- what has become of a node's callback, and which hand runs it
abbrev pub callback_in : State → Place → CallbackPhase → Callback
callback_in s p phase.Never = Never
callback_in s p phase.Armed = Armed
callback_in s p phase.Running = RunsOn (first_hand s Runs p)
callback_in s p phase.Ran = Ran
callback_in s p phase.Removed = Removed

abbrev pub callback_of : State → Place → Callback
callback_of s p = callback_in s p (phase_at s (name_at s p))
