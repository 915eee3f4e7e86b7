-- Commands: the calls of a wheel, one after another.
use Rattle.std.specs.Prelude.{◌≡◌, ℕ, ◌<◌, ◌≤◌, Bool, true, false, List, [], ◌∷◌, Some, None, ⊤}
use Rattle.timer_wheel.specs.declared.commands.Command.{Command}
use Rattle.timer_wheel.specs.declared.commands.Command.TheVariants.{Add, Remove, Advance, Due}
use Rattle.timer_wheel.specs.declared.commands.Reply.{Reply}
use Rattle.timer_wheel.specs.declared.commands.Reply.TheVariants.{Added, Removed, Advanced, Taken}
use Rattle.timer_wheel.specs.declared.limits.TheConstants.{MOST_TURNS}
use Rattle.timer_wheel.specs.Pairs.{Pairs, is_there, added, removed, advanced, IsDue, NoneIsDue}

-- what `add` asks of its numbers, on a wheel of so many places
abbrev pub IsCommandFor : ℕ → Command → Type 0
IsCommandFor places (Add place turns) = (place < places) × (turns ≤ MOST_TURNS)
IsCommandFor places (Remove place) = ⊤
IsCommandFor places Advance = ⊤
IsCommandFor places Due = ⊤

-- whether the call goes on to the next turn
abbrev pub is_advance : Command → Bool
is_advance Advance = true
is_advance (Add place turns) = false
is_advance (Remove place) = false
is_advance Due = false

-- from old, the call may have this reply, and leave new
abbrev pub Step : Pairs → Command → Reply → Pairs → Type 0
Step old (Add place turns) (Added true) new =
    (is_there old place ≡ false) × (new ≡ added old place turns)
Step old (Add place turns) (Added false) new = (is_there old place ≡ true) × (new ≡ old)
Step old (Remove place) (Removed true) new =
    (is_there old place ≡ true) × (new ≡ removed old place)
Step old (Remove place) (Removed false) new = (is_there old place ≡ false) × (new ≡ old)
Step old Advance Advanced new = new ≡ advanced old
Step old Due (Taken (Some place)) new = IsDue old place × (new ≡ removed old place)
Step old Due (Taken None) new = NoneIsDue old × (new ≡ old)
-- no call has a reply of another
Step old command reply new = ⊥

-- from old, the calls may have these replies, one after another, and leave new
abbrev pub Run : Pairs → List Command → List Reply → Pairs → Type 0
Run old [] [] new = new ≡ old
Run old (command ∷ commands) (reply ∷ replies) new =
    (mid : Pairs) × Step old command reply mid × Run mid commands replies new
Run old [] (reply ∷ replies) new = ⊥
Run old (command ∷ commands) [] new = ⊥
