-- What a hand has of a node that it may step.
use Rattle.std.specs.Prelude.{◌≡◌, ◌⊎◌, ℕ, ◌*◌, ◌≤◌, true, false, [], ◌∷◌, length, Option, Some, None, is_some}
use Rattle.common_lemmas.specs.Sums.{one, total}
use Rattle.life_rules.specs.declared.event.Name.{Name}
use Rattle.life_rules.specs.declared.words.CallbackPhase.TheVariants.{Never}
use Rattle.node_tree.specs.Tree.{is_child}
use Rattle.plan_shape.specs.Blueprint.{Blueprint}
use Rattle.table_rules.specs.declared.view.Held.{Held}
use Rattle.table_steps.specs.Views.{Board, IsPlaceIn}
use Rattle.table_steps.specs.Seats.{Seated, view_of}
use Rattle.table_steps.specs.Hearings.{HearsAs}
use Rattle.table_steps.specs.Slots.{kids_of}
use Rattle.op_slot.specs.Tends.{IsCalm, Tends}
use Rattle.home_items.specs.declared.entry.Entry.{Entry}
use Rattle.home_items.specs.declared.item.Item.{Item}
use Rattle.home_items.specs.Contents.{Start}
use Rattle.home_items.specs.Entries.{plan_of, drawn_of}
use Rattle.home_items.specs.Items.{start_in, HasCompleted, lot_of}
use Rattle.home_items.specs.Bounds.{least_of}
use Rattle.home_items.specs.Fits.{FitsHome, MayRest}
use Rattle.exec_recv.specs.Family.{AreOwedElsewhere}

-- What a child's home keeps when its parent is stepped: the child's completion, which fits by what
-- the hand was told of the source that the children hear. Its start goes on with the parent's, and
-- draws what the parent's last await fixed.
pub record IsDoneBelow (held : Held Entry) (n : ℕ) (kid : Item) : Type 0 where
  pub ends : HasCompleted kid
  pub fit : FitsHome kid n held.told_children
  pub entry : Entry
  pub below : start_in kid ≡ entry ∷ held.start
  pub draws : held.lot ≡ Some (drawn_of (start_in kid))

-- How the hand came to hold the node x.
module _ (board : Board Blueprint) (x : Name) (held : Held Entry) (item : Item)
    (kid : ℕ → Option Item) where
  abbrev pub AreAllEmpty : Type 0
  AreAllEmpty = (n : ℕ) → is_child board.frame.tree x.node n ≡ true → kid n ≡ None

  -- by its begin: its callback was never registered, and no child has begun
  pub record HasBegun : Type 0 where
    pub empty : AreAllEmpty
    pub named : held.named ≡ 0
    pub phase : held.phase ≡ Some Never
    pub idle : held.idle ≡ kids_of board.frame.tree x.node
    pub unbegun : item ≡ Start (start_in item)

  -- by a take, where it rested with an item that may rest there
  pub record WasTaken : Type 0 where
    pub empty : AreAllEmpty
    pub rests : MayRest item x.node
    pub most : held.named ≤ length (kids_of board.frame.tree x.node)
    pub unread : held.phase ≡ None
    pub unlotted : held.lot ≡ None

  -- by the last report of its children: as many homes are full as its last await named, and one is.
  -- That await fixed what the item fixes.
  -- Where a stop was requested of the children and not above, and all their homes are full, a child
  -- failed without having seen a request.
  pub record IsBack : Type 0 where
    pub count : total (λ n. one (is_child board.frame.tree x.node n) * one (is_some (kid n)))
        (length board.frame.tree) ≡ held.named
    pub last : ℕ
    pub below : is_child board.frame.tree x.node last ≡ true
    pub full : is_some (kid last) ≡ true
    pub lot : held.lot ≡ Some (lot_of item)
    pub failure : held.told_children ≡ true → held.told ≡ false →
        ((n : ℕ) → is_child board.frame.tree x.node n ≡ true → is_some (kid n) ≡ true) →
        (n : ℕ) × (done : Item) × (is_child board.frame.tree x.node n ≡ true) × (kid n ≡ Some done)
        × FitsHome done x.node false

-- The hand holds x, makes no scan and runs no callback. Since it came to hold the node it has made
-- no step on it, and has moved nothing of its home and of its children's. The item in the node's
-- home shows its start and is no completion.
pub record CanStep (board : Board Blueprint) (x : Name) (m : Seated Item Entry) : Type 0 where
  pub place : IsPlaceIn board x
  pub calm : IsCalm m
  pub unrun : (view_of m).runs ≡ []
  pub held : Held Entry
  pub item : Item
  pub kid : ℕ → Option Item
  pub tends : Tends board.frame x held (Some item) kid m
  pub shows : start_in item ≡ held.start
  pub fit : FitsHome item x.node held.told
  pub goes_on : ¬ HasCompleted item
  pub bound : least_of item ≤ held.named
  pub key : plan_of held.start ≡ board.frame.over.value
  pub hears : HearsAs board.frame.tree (view_of m) x held.told held.told_children
  pub kids : (n : ℕ) (done : Item) → is_child board.frame.tree x.node n ≡ true → kid n ≡ Some done →
      IsDoneBelow held n done
  pub came : HasBegun board x held item kid
      ⊎ (WasTaken board x held item kid ⊎ IsBack board x held item kid)
  pub elsewhere : AreOwedElsewhere board x m
