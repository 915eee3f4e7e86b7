-- How the loop starts an operation.
use Rattle.std.specs.Prelude.{List}
use Rattle.plan_shape.specs.Blueprint.{Blueprint}
use Rattle.table_steps.specs.declared.block.Block.{Block}
use Rattle.table_steps.specs.Views.{Board}
use Rattle.home_items.specs.declared.entry.Entry.{Entry}
use Rattle.exec_recv.specs.Sites.{Does}
use Rattle.node_walks.specs.Mails.{HearsAll}
use Rattle.node_walks.specs.Starts.{BeginsRoot, GoesOnWith, MissesEach}
use Rattle.run_loop.specs.declared.looped.Loop.{Loop as Looped}
use Rattle.run_loop.specs.Fetches.{HearsName}

-- An operation was started in this block: its hand has noted the start of the root, and had noted
-- none.
abbrev pub StartsIn : Board Blueprint → Block → List Entry → Looped → Looped → Type 0
StartsIn board b start old new = BeginsRoot board b start old.hand.me new.hand.me

-- No block was free, in a search from the one that was given back last.
abbrev pub FindsNoBlock : Board Blueprint → Looped → Looped → Type 0
FindsNoBlock board old new = MissesEach board old.next old.hand new.hand

-- The start was placed in the block, in a search from the one that was given back last, whose root
-- the hand began and stepped; and it went on. It did nothing else. The loop took note of each node
-- that the steps left ready, in their order, and of nothing else.
abbrev pub WentOn : Does → Board Blueprint → Block → List Entry → Looped → Looped → Type 0
WentOn does board b start old new =
    HearsAll HearsName old.names new.names
    (GoesOnWith does board old.next b start old.hand new.hand.me)
