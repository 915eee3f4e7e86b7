-- What a poll and a turn did, one thing after the other.
use Rattle.std.specs.Prelude.{◌≡◌, ℕ, ◌≤◌}
use Rattle.plan_shape.specs.Blueprint.{Blueprint}
use Rattle.table_steps.specs.Views.{Board}
use Rattle.exec_recv.specs.Sites.{Does}
use Rattle.run_loop.specs.declared.looped.Loop.{Loop as Looped}
use Rattle.run_loop.specs.Delayed.{MayTakeDue}
use Rattle.run_loop.specs.Serves.{MayHelp, ServesAll, ServesMore, moment}
use Rattle.run_loop.specs.Turns.{AreMetBelow, OnlyMeets}

module _ (does : Does) (board : Board Blueprint) where
  -- The names that the loop knew were met, by which so many nodes were taken. After them delays
  -- were taken that were due, and nothing else: so many nodes together. Of what each left ready the
  -- loop took note.
  pub record OnlyPolls (count : ℕ) (old new : Looped) : Type 0 where
    pub last : Looped
    pub meets : OnlyMeets does board old last
    pub named : ℕ
    pub taken : ServesAll does board (MayHelp old.helps) named old last
    pub due : ServesMore does board
        (MayTakeDue board last.hand.me new.hand.me new.delays.turn old.delays)
        named count (moment last.hand last.names) (moment new.hand new.names)

  -- It polled. Where that took a node it did nothing else; and where not, each node of the table
  -- but the roots was taken where it was ready, or passed.
  pub record OnlyTurns (count : ℕ) (old new : Looped) : Type 0 where
    pub polled : ℕ
    pub last : Looped
    pub polls : OnlyPolls polled old last
    pub stops : 1 ≤ polled → (count ≡ polled) × (new ≡ last)
    pub serves : polled ≡ 0 →
        ServesMore does board (MayHelp old.helps) 0 count (moment last.hand last.names)
        (moment new.hand new.names)
    pub scans : polled ≡ 0 →
        AreMetBelow board last.hand.me new.hand.me old.helps board.frame.layout.blocks
