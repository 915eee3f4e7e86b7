-- What a turn tells of the nodes that it took, and of those that it didn't.
use Rattle.std.specs.Prelude.{◌≡◌, ◌⊎◌, ℕ, zero, suc, ◌<◌, Bool, true, false, List, length, slice_get, Some}
use Rattle.life_rules.specs.declared.event.Name.{Name}
use Rattle.life_rules.specs.declared.event.Resting.{Resting}
use Rattle.life_rules.specs.declared.event.Resting.TheVariants as rest
use Rattle.node_tree.specs.declared.context.Context.TheVariants.{Loop, Pool}
use Rattle.node_tree.specs.Tree.{is_root}
use Rattle.plan_shape.specs.Blueprint.{Blueprint}
use Rattle.table_steps.specs.Views.{Board, IsPlaceIn}
use Rattle.table_steps.specs.Seats.{Seated}
use Rattle.table_steps.specs.Steps.{control_index}
use Rattle.home_items.specs.declared.entry.Entry.{Entry}
use Rattle.home_items.specs.declared.item.Item.{Item}
use Rattle.exec_recv.specs.Asides.{KeepsAside}
use Rattle.exec_recv.specs.Sites.{Does}
use Rattle.exec_recv.specs.Since.{HasMovedSince}
use Rattle.node_walks.specs.declared.mail.ReadyNode.{ReadyNode}
use Rattle.node_walks.specs.Since.{OnlyLooks}
use Rattle.node_walks.specs.Serving.{OnlyServes, TakesWord, WasMissed, WasUnready}
use Rattle.run_loop.specs.declared.looped.Loop.{Loop as Looped}
use Rattle.run_loop.specs.declared.loop_mail.LoopMail.{LoopMail}
use Rattle.run_loop.specs.Fetches.{FetchesWhere}
use Rattle.run_loop.specs.Longer.{AreMoreNames}
use Rattle.run_loop.specs.Loops.{told}
use Rattle.run_loop.specs.Serves.{IsOpen}

-- Where nothing was counted, nothing was before, and this holds.
abbrev pub CountsNothing : ℕ → ℕ → Type 0 → Type 0
CountsNothing before counted fact = counted ≡ 0 → (before ≡ 0) × fact

module _ (board : Board Blueprint) (m m' : Seated Item Entry) where
  -- The word of the block's node was read, and said that it isn't ready in the loop; and where the
  -- loop helps in the pool, too.
  pub record WasPassed (helps : Bool) (block node : ℕ) : Type 0 where
    pub loop : WasUnready board m m' Loop block node
    pub pool : helps ≡ true → WasUnready board m m' Pool block node

  -- so the node was where nothing is counted after it
  abbrev pub CountsNode : Bool → ℕ → ℕ → ℕ → ℕ → Type 0
  CountsNode helps block node before counted =
      CountsNothing before counted (WasPassed helps block node)

  -- each of the first so many nodes of the block was, but the root
  abbrev pub ArePassed : Bool → ℕ → ℕ → Type 0
  ArePassed helps block count =
      (node : ℕ) → node < count → is_root board.frame.tree node ≡ false → WasPassed helps block node

  -- and all of them where nothing is counted after the block
  abbrev pub CountsBlock : Bool → ℕ → ℕ → ℕ → Type 0
  CountsBlock helps block before counted =
      CountsNothing before counted (ArePassed helps block (length board.frame.tree))

  -- and all nodes of the first so many blocks
  abbrev pub ArePassedBelow : Bool → ℕ → Type 0
  ArePassedBelow helps blocks =
      (block : ℕ) → block < blocks → ArePassed helps block (length board.frame.tree)

  -- so all nodes of the table were
  abbrev pub TakesNothing : Bool → Type 0
  TakesNothing helps = ArePassedBelow helps board.frame.layout.blocks

-- The name is of a place of the table, and of no root.
pub record IsInner (board : Board Blueprint) (name : Name) : Type 0 where
  pub place : IsPlaceIn board name
  pub below : is_root board.frame.tree name.node ≡ false

module _ (board : Board Blueprint) (m m' : Seated Item Entry) where
  -- The word of the named node was read, and didn't say that it rests in the loop, at its
  -- generation; and where the loop helps in the pool, too.
  pub record WasLeft (helps : Bool) (name : Name) : Type 0 where
    pub loop : WasMissed board m m' rest.Loop name
    pub pool : helps ≡ true → WasMissed board m m' rest.Pool name

  -- so it was where it is of a node of the table, but no root
  abbrev pub IsLeft : Bool → Name → Type 0
  IsLeft helps name = IsInner board name → WasLeft helps name

  -- the named node was taken where it rested
  abbrev pub WasTaken : Resting → Name → Type 0
  WasTaken from name = HasMovedSince (control_index board name) (TakesWord from name) m m'

  -- each of the first so many names was left, and all of them
  abbrev pub AreLeft : Bool → List Name → ℕ → Type 0
  AreLeft helps names count =
      (k : ℕ) (name : Name) → k < count → slice_get names k ≡ Some name → IsLeft helps name

  abbrev pub AreAllLeft : Bool → List Name → Type 0
  AreAllLeft helps names = AreLeft helps names (length names)

module _ (board : Board Blueprint) (m m' : Seated Item Entry) where
  -- The block's node was taken where it rested in the loop, or where the loop helps in the pool.
  pub record WasTakenThere (helps : Bool) (block node : ℕ) : Type 0 where
    pub name : Name
    pub there : (name.block ≡ block) × (name.node ≡ node)
    pub from : Resting
    pub may_be : IsOpen helps from
    pub taken : WasTaken board m m' from name

  -- so it was, or it was passed
  abbrev pub WasMet : Bool → ℕ → ℕ → Type 0
  WasMet helps block node =
      WasTakenThere helps block node ⊎ WasPassed board m m' helps block node

  -- each of the first so many nodes of the block was, but the root; and of the first so many blocks
  abbrev pub AreMet : Bool → ℕ → ℕ → Type 0
  AreMet helps block count =
      (node : ℕ) → node < count → is_root board.frame.tree node ≡ false → WasMet helps block node

  abbrev pub AreMetBelow : Bool → ℕ → Type 0
  AreMetBelow helps blocks =
      (block : ℕ) → block < blocks → AreMet helps block (length board.frame.tree)

module _ (does : Does) (board : Board Blueprint) (helps : Bool) where
  -- The named node was taken where it rested in the loop, or where the loop helps in the pool, and
  -- stepped. Nothing else was done, but looks before that. The steps left these nodes ready.
  pub record TakesNamed (name : Name) (m m' : Seated Item Entry) (ready : List ReadyNode)
      : Type 0 where
    pub from : Resting
    pub may_be : IsOpen helps from
    pub serves : OnlyServes does board from name m m' ready

  -- It was left, and words were only looked at.
  pub record LeavesNamed (name : Name) (m m' : Seated Item Entry) : Type 0 where
    pub left : IsLeft board m m' helps name
    pub looks : OnlyLooks m m'

  -- the one or the other
  abbrev pub Meets : Name → Seated Item Entry → Seated Item Entry → Type 0
  Meets name m m' =
      ((ready : List ReadyNode) × TakesNamed name m m' ready) ⊎ LeavesNamed name m m'

  -- So the name at this place of the list was met, after this.
  pub record MeetsAfter (names : List Name) (place : ℕ) (Before : Seated Item Entry → Type 0)
      (m' : Seated Item Entry) : Type 0 where
    pub between : Seated Item Entry
    pub before : Before between
    pub name : Name
    pub there : slice_get names place ≡ Some name
    pub meets : Meets name between m'

  -- So the first so many names were, in their order: each from where the one before it left the
  -- hand.
  abbrev pub MeetsFirst : List Name → ℕ → Seated Item Entry → Seated Item Entry → Type 0
  MeetsFirst names zero m m' = m' ≡ m
  MeetsFirst names (suc count) m m' =
      MeetsAfter names count (λ between. MeetsFirst names count m between) m'

-- All of these names were met so by the loop, before all else that it did.
pub record MeetsList (does : Does) (board : Board Blueprint) (names : List Name)
    (old new : Looped) : Type 0 where
  pub last : Seated Item Entry
  pub each : MeetsFirst does board old.helps names (length names) old.hand.me last
  pub after : KeepsAside last new.hand.me

-- The names that the loop was told of were, and others after them.
pub record MeetsEach (does : Does) (board : Board Blueprint) (old new : Looped) : Type 0 where
  pub names : List Name
  pub longer : AreMoreNames (told old) names
  pub meets : MeetsList does board names old new

-- The names that the loop was told of were; where there were none, that which it took of its hand's
-- deck.
pub record MeetsAll (does : Does) (board : Board Blueprint) (old new : Looped) : Type 0 where
  pub names : LoopMail
  pub fetches : FetchesWhere old.helps old.names names
  pub longer : AreMoreNames (told old) names.list.items
  pub meets : MeetsList does board names.list.items old new

-- So each name was that the loop was told of.
abbrev pub MissesAll : Board Blueprint → Looped → Looped → Type 0
MissesAll board old new = AreAllLeft board old.hand.me new.hand.me old.helps (told old)

-- All nodes of the table were passed but the roots.
abbrev pub FindsNothing : Board Blueprint → Looped → Looped → Type 0
FindsNothing board old new = TakesNothing board old.hand.me new.hand.me old.helps

-- The names that the loop was told of were met; where there were none, that which it took of its
-- hand's deck. It did nothing else.
pub record OnlyMeets (does : Does) (board : Board Blueprint) (old new : Looped) : Type 0 where
  pub names : LoopMail
  pub fetches : FetchesWhere old.helps old.names names
  pub each : MeetsFirst does board old.helps names.list.items (length names.list.items)
      old.hand.me new.hand.me
