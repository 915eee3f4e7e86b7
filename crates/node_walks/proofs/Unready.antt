-- A root that wasn't ready was looked at, and no more.
use Rattle.std.proofs.Common.{ap, ◌∙◌}
use Rattle.life_rules.specs.declared.event.Resting.TheVariants as rest
use Rattle.listed_words.specs.Lists.{entry}
use Rattle.plan_shape.specs.Blueprint.{Blueprint}
use Rattle.table_steps.specs.declared.block.Block.{Block}
use Rattle.table_steps.specs.Views.{Board}
use Rattle.table_steps.specs.Claims.{root_name}
use Rattle.table_steps.specs.Seats.{Seated}
use Rattle.table_steps.specs.Steps.{control_index}
use Rattle.home_items.specs.declared.entry.Entry.{Entry}
use Rattle.home_items.specs.declared.item.Item.{Item}
use Rattle.exec_recv.specs.Asides.{aside_of}
use Rattle.node_walks.specs.Resting.{IsAtRest}
use Rattle.node_walks.specs.Emptied.{WasNotReady}
use Rattle.node_walks.specs.Leaves.{LeavesAside}
use Rattle.node_walks.proofs.Growing.{grows-one, leaves-with}

-- a root that wasn't ready leaves a hand that was at rest so
module _ (board : Board Blueprint) (b : Block) (m m' : Seated Item Entry) (read : WasNotReady board b m m') where
  pub unready-rests : IsAtRest m.0 → IsAtRest m'.0
  unready-rests rests =
      record {
        held = ap (λ (z : Seated Item Entry). z.0.held) read.is ∙ rests.held;
        owed = ap (λ (z : Seated Item Entry). z.0.owed) read.is ∙ rests.owed;
        reported = ap (λ (z : Seated Item Entry). z.0.reported) read.is ∙ rests.reported;
        finished = ap (λ (z : Seated Item Entry). z.0.finished) read.is ∙ rests.finished;
        runs = ap (λ (z : Seated Item Entry). z.0.runs) read.is ∙ rests.runs;
        scans = ap (λ (z : Seated Item Entry). z.0.scans) read.is ∙ rests.scans;
      }

  -- and all else that its view says, but for its list of steps
  pub unready-leaves : LeavesAside (aside_of m.0) m m'
  unready-leaves =
      leaves-with (aside_of m.0) m m' (ap (λ (z : Seated Item Entry). aside_of z.0) read.is)
      (grows-one (entry (control_index board (root_name board b.index b.generation)) read.word read.word) m m'
      (ap (λ (z : Seated Item Entry). z.0.steps) read.is) (ap (λ (z : Seated Item Entry). z.0.seen) read.is))
