-- What a loop learns of names that workers posted.
use Rattle.std.specs.Prelude.{◌≡◌, ℕ}
use Rattle.deck_relay.specs.SameDecks.{KeepsDeck}
use Rattle.plan_shape.specs.Blueprint.{Blueprint}
use Rattle.table_steps.specs.Views.{Board}
use Rattle.exec_recv.specs.Sites.{Does}
use Rattle.run_loop.specs.declared.looped.Loop.{Loop as Looped}
use Rattle.run_loop.specs.Delayed.{TakesSoMany}
use Rattle.run_loop.specs.Longer.{AreMoreNames}
use Rattle.run_loop.specs.Loops.{deck_of, told}

-- It was told of further names. All else is as before.
pub record LearnsMore (old new : Looped) : Type 0 where
  pub more : AreMoreNames (told old) (told new)
  pub rest : new ≡ record old { names = new.names }
  pub deck : KeepsDeck (deck_of old) (deck_of new)

-- So it was, and then it took and stepped so many nodes, and took note of what they left ready.
pub record TakesLearned (does : Does) (board : Board Blueprint) (count : ℕ) (old new : Looped)
    : Type 0 where
  pub between : Looped
  pub learns : LearnsMore old between
  pub takes : TakesSoMany does board count between new
