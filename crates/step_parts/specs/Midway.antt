-- What a hand has in the middle of a step of a node x, and what a call within the step keeps of it.
use Rattle.std.specs.Prelude.{◌≡◌, ℕ, ◌≤◌, true, false, List, [], Option, Some, None}
use Rattle.life_rules.specs.declared.event.Name.{Name}
use Rattle.node_tree.specs.Tree.{is_child}
use Rattle.plan_shape.specs.Blueprint.{Blueprint}
use Rattle.table_rules.specs.declared.view.Held.{Held}
use Rattle.table_rules.specs.Named.{without}
use Rattle.table_steps.specs.Views.{Board, IsPlaceIn, Stays, knows}
use Rattle.table_steps.specs.Seats.{Seated, view_of}
use Rattle.table_steps.specs.Hearings.{HearsAs}
use Rattle.table_steps.specs.Slots.{held_at}
use Rattle.op_slot.specs.Tends.{IsCalm, HasPlaces, Tends}
use Rattle.home_items.specs.declared.entry.Entry.{Entry}
use Rattle.home_items.specs.declared.item.Item.{Item}
use Rattle.home_items.specs.Entries.{plan_of, node_of}
use Rattle.home_items.specs.Fits.{FitsChild}
use Rattle.home_items.specs.Items.{start_in, GoesOn}
use Rattle.home_items.specs.Starts.{NeedsNoRequest}
use Rattle.exec_recv.specs.Areas.{MovesWithin}
use Rattle.exec_recv.specs.Asides.{KeepsAside}
use Rattle.exec_recv.specs.Beginnings.{AllCanStart}
use Rattle.exec_recv.specs.Family.{AreOwedElsewhere}
use Rattle.exec_recv.specs.Seats.{HandSeat}
use Rattle.exec_recv.specs.Steppable.{IsDoneBelow}
use Rattle.step_parts.specs.Heard.{has_heard}

module _ (board : Board Blueprint) (x : Name) where
  -- The hand holds x, makes no scan and runs no callback. In the home of x lies this item, which is
  -- no completion and has the start of x, and in those of its children this: completions, as the
  -- hand found them. The start rests on no request but one that the hand was told of. The last
  -- await of x named at least so many children, and one where a completion lies below. Each start
  -- that the hand owes can begin, and has its home elsewhere.
  pub record IsMidway (start : List Entry) (inside : Item) (least : ℕ) (kid : ℕ → Option Item)
      (m : Seated Item Entry) : Type 0 where
    pub place : IsPlaceIn board x
    pub places : HasPlaces board.frame x
    pub calm : IsCalm m
    pub unrun : (view_of m).runs ≡ []
    pub held : Held Entry
    pub tends : Tends board.frame x held (Some inside) kid m
    pub goes_on : GoesOn inside
    pub inside_is : start_in inside ≡ start
    pub shows : start ≡ held.start
    pub node : node_of start ≡ x.node
    pub kinds : FitsChild start
    pub calmly : held.told ≡ false → NeedsNoRequest start
    pub key : plan_of start ≡ board.frame.over.value
    pub hears : HearsAs board.frame.tree (view_of m) x held.told held.told_children
    pub named : least ≤ held.named
    pub kids : (n : ℕ) (done : Item) → is_child board.frame.tree x.node n ≡ true →
        kid n ≡ Some done → IsDoneBelow held n done
    pub awaited : (n : ℕ) (done : Item) → is_child board.frame.tree x.node n ≡ true →
        kid n ≡ Some done → 1 ≤ held.named
    pub starts : AllCanStart board m
    pub elsewhere : AreOwedElsewhere board x m

  -- so, and the homes of its children are empty
  pub record Ready (start : List Entry) (least : ℕ) (m : Seated Item Entry) : Type 0 where
    pub inside : Item
    pub is : IsMidway start inside least (λ _. None) m

  -- What the hand's view has beside x is as before, and no word was moved but those of places of
  -- the block of x.
  pub record KeepsOthers (m m' : Seated Item Entry) : Type 0 where
    pub aside : KeepsAside m m'
    pub moves : MovesWithin board x m m'
    pub others : without (λ (e : Held Entry). e.name) (view_of m').held x
        ≡ without (λ (e : Held Entry). e.name) (view_of m).held x
    pub owed : (view_of m').owed ≡ (view_of m).owed

  -- and so is what it has of x, as far as a step rests on it
  pub record KeepsReady (m m' : Seated Item Entry) : Type 0 where
    pub beside : KeepsOthers m m'
    pub midway : (start : List Entry) (inside : Item) (least : ℕ) (kid : ℕ → Option Item) →
        IsMidway start inside least kid m → IsMidway start inside least kid m'
    pub heard : has_heard board x m ≡ true → has_heard board x m' ≡ true

  -- What a call leaves that moves what lies in the homes of x and of its children: all that the
  -- hand knows is as before, but that the list of its steps grew.
  pub record ChangesHomes (old new : HandSeat) : Type 0 where
    pub stays : Stays board old new
    pub beside : KeepsOthers old.me new.me
    pub same_held : held_at (knows new) x ≡ held_at (knows old) x
    pub heard : has_heard board x new.me ≡ has_heard board x old.me
