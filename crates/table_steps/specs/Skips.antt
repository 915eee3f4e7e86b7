-- What a hand needs to skip a free block in its scan of the scope's source, and what that tells it.
use Rattle.std.specs.Prelude.{◌≡◌, ℕ, ◌+◌, ◌*◌, ◌<◌, Bool, true, if◌then◌else◌, List, length, Option, Some}
use Rattle.node_tree.specs.declared.node.TreeNode.{TreeNode}
use Rattle.life_rules.specs.declared.event.SourceRef.TheVariants.{Scope}
use Rattle.life_rules.specs.Words.{is_free}
use Rattle.table_words.specs.Blocks.{block_read}
use Rattle.atomic_table.specs.declared.shared.Seat.{Seat}
use Rattle.table_rules.specs.declared.view.View.{View}
use Rattle.table_rules.specs.ShownViews.{scan_in}
use Rattle.table_steps.specs.Views.{Board}
use Rattle.table_steps.specs.Claims.{logged, word_index}
use Rattle.table_steps.specs.Seats.{Seated, homes_of, view_of}
use Rattle.table_steps.specs.RunEnds.{passes_to}
use Rattle.table_steps.specs.ScanOrders.{is_next_place}

-- the hand scans the scope's source, and the next place of that scan lies in this block
pub record CanSkip {P E : Type 0} (tree : List TreeNode) (v : View P E) (block : ℕ) : Type 0 where
  pub from : ℕ
  pub scans : scan_in v.scans Scope ≡ Some from
  pub node : ℕ
  pub within : node < length tree
  pub next : is_next_place tree Scope from block node ≡ true

-- the scan goes on in the next block
abbrev pub skips : {P E : Type 0} → List TreeNode → ℕ → View P E → View P E
skips tree block v = record v { scans = passes_to Scope ((block + 1) * length tree) v.scans }

-- the word says that the block is free
abbrev pub says_free : ℕ → Bool
says_free word = is_free (block_read word).state

-- what the word that was read tells the hand
abbrev pub skips_at : {P E : Type 0} → List TreeNode → ℕ → ℕ → ℕ → Seated P E → Seated P E
skips_at tree block i word m =
    (logged i word (if says_free word then skips tree block (view_of m) else view_of m), homes_of m)

-- true exactly where the word that was read says that the block is free: then the scan has passed
-- all its places
pub record IsSkipped {P E O : Type 0} (board : Board O) (block : ℕ) (answer : Bool)
    (old new : Seat (Option P) (View P E)) : Type 0 where
  pub word : ℕ
  pub answer_is : answer ≡ says_free word
  pub me_is : new.me ≡ skips_at board.frame.tree block (word_index board block) word old.me
