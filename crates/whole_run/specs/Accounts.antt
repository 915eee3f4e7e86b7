-- An account of a run.
use Rattle.std.specs.Prelude.{◌≡◌, ℕ, ◌+◌, List, length, Option, Some, None}
use Rattle.home_items.specs.declared.entry.Entry.{Entry}
use Rattle.home_items.specs.declared.item.Item.{Item}
use Rattle.life_rules.specs.declared.scope.ScopeState.TheVariants.{Joined}
use Rattle.plan_shape.specs.Blueprint.{Blueprint}
use Rattle.pool_backends.specs.declared.order.Order.{Order}
use Rattle.record_loop.specs.declared.printer.Form.{Form}
use Rattle.run_tally.specs.Gathered.{Gathered}
use Rattle.record_operations.specs.Worked.{HasWorked}
use Rattle.steal_pool.specs.Arrangements.{HasGiven}
use Rattle.steal_pool.specs.declared.given.Given.{Given}
use Rattle.table_steps.specs.Closings.{ClosedTable, claimed_by}
use Rattle.whole_run.specs.Endings.{EndsLines, Streams, begins}
use Rattle.whole_run.specs.Opened.{IsTableFor, blocks_for}
use Rattle.whole_run.specs.declared.account.Account.{Account}

-- A run of this plan ended so, on the table of the account.
abbrev pub EndsRun : Blueprint → ℕ → Form → Streams → Streams → Account → Type 0
EndsRun plan window form before after account =
    EndsLines (begins plan account.closing.board.table_id window form before.sink)
    before after account.tally account.ending

-- The table of a run of this plan was closed with its scope joined and each block given back: free,
-- or retired. Its hands claimed a block for each operation that was collected, and for each that an
-- `ahead` spawned, and no other.
pub record IsClosedFor (plan : Blueprint) (window : ℕ) (collected : List Gathered)
    (closing : ClosedTable Item Entry Blueprint) : Type 0 where
  pub for : IsTableFor plan window closing.board
  pub joined : closing.remains.scope ≡ Joined
  pub back : closing.remains.free + closing.remains.retired ≡ blocks_for plan window
  pub worked : HasWorked plan (length collected) (claimed_by closing.hands)

-- It is told that of so many backends so many were given out, each arranged in this order.
abbrev pub AreGiven : Order → ℕ → ℕ → Option Given → Type 0
AreGiven order asked given (Some told) = HasGiven order asked given told
AreGiven order asked given None = ⊥
