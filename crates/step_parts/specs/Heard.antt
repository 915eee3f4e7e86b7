-- What a hand in the middle of a step knows of requests above its node.
use Rattle.std.specs.Prelude.{◌≡◌, Bool, true, false, ◌||◌, MatchOption, None, is_some}
use Rattle.std.specs.Option.{option_map_or}
use Rattle.life_rules.specs.declared.event.Name.{Name}
use Rattle.life_rules.specs.States.{source_for}
use Rattle.node_tree.specs.Tree.{nearest}
use Rattle.plan_shape.specs.Blueprint.{Blueprint}
use Rattle.table_words.specs.Layouts.{index}
use Rattle.table_rules.specs.declared.view.Held.{Held}
use Rattle.table_steps.specs.Views.{Board}
use Rattle.table_steps.specs.Seats.{Seated, view_of}
use Rattle.table_steps.specs.Sights.{spot_of, says_requested, IsLookedAt}
use Rattle.table_steps.specs.Slots.{has_seen, held_at}
use Rattle.home_items.specs.declared.entry.Entry.{Entry}
use Rattle.home_items.specs.declared.item.Item.{Item}
use Rattle.exec_recv.specs.Seats.{HandSeat}
use Rattle.exec_recv.specs.Since.{HasReadSince}

-- whether the hand was told of a request on the source that x hears, when it came to hold x
abbrev pub was_told : Name → Seated Item Entry → Bool
was_told x m = option_map_or (λ (e : Held Entry). e.told) (held_at (view_of m) x) false

-- it was, or it has seen one since
abbrev pub has_heard : Board Blueprint → Name → Seated Item Entry → Bool
has_heard board x m = has_seen board.frame.tree (view_of m) x || was_told x m

-- a parcel of x may say so of what its node saw
abbrev pub MaySee : Board Blueprint → Name → Bool → Seated Item Entry → Type 0
MaySee board x saw m = has_heard board x m ≡ false → saw ≡ false

-- x hears a source: its nearest, or the scope's
abbrev pub hears_one : Board Blueprint → Name → Bool
hears_one board x = is_some (source_for x (nearest board.frame.tree x.node))

-- The answer to a look at the source that x hears: what its word said, which was read then. A
-- request that was read is seen, and where none was read the hand has heard of none. Where x hears
-- no source, the answer is no.
pub record Looked (board : Board Blueprint) (x : Name) (saw : Bool)
    (m m' : Seated Item Entry) : Type 0 where
  pub read : MatchOption (source_for x (nearest board.frame.tree x.node)) (saw ≡ false)
      (λ source. HasReadSince (index board.frame.layout (spot_of source))
      (λ word. says_requested source word ≡ saw) m m')
  pub yes : saw ≡ true → has_seen board.frame.tree (view_of m') x ≡ true
  pub no : saw ≡ false → hears_one board x ≡ true → has_heard board x m' ≡ false

-- It looked once at the source that x hears, and did nothing else. Where x hears none, it did
-- nothing.
abbrev pub LooksOnce : Board Blueprint → Name → Bool → HandSeat → HandSeat → Type 0
LooksOnce board x answer old new =
    MatchOption (source_for x (nearest board.frame.tree x.node)) (new ≡ old)
    (λ source. IsLookedAt board source None answer old new)
