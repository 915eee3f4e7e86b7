-- What holds of a running table between any two atomic steps.
use Rattle.std.specs.Prelude.{◌≡◌, ℕ, ◌^◌, ◌<◌, ◌≤◌, true, false, ◌||◌, List, length, Option}
use Rattle.node_tree.specs.Tree.{has_source}
use Rattle.life_rules.specs.Words.{is_idle, is_under_way, is_armed, is_running}
use Rattle.life_rules.specs.Sound.{Sound}
use Rattle.life_rules.specs.declared.limits.TheConstants.{MOST_BLOCKS, MOST_HANDS}
use Rattle.node_tree.specs.declared.node.TheConstants.{MOST_NODES}
use Rattle.table_words.specs.Layouts.{words_in, places_in, TheScope, OfControl, OfCallback, OfSource}
use Rattle.table_words.specs.Stamps.{stamp_of}
use Rattle.table_words.specs.Controls.{control_read, callback_read}
use Rattle.atomic_table.specs.Table as table
use Rattle.table_rules.specs.declared.cargo.Cargo.{Ghosts}
use Rattle.table_rules.specs.declared.frame.Frame.{Frame}
use Rattle.table_rules.specs.declared.view.View.{View}
use Rattle.table_rules.specs.ShownWords.{word_of, block_of, control_of, is_said}
use Rattle.table_rules.specs.Scenes.{Past, Scene, scene}
use Rattle.table_rules.specs.Homes.{HomesStand}
use Rattle.table_rules.specs.Starts.{StartsStand}
use Rattle.table_rules.specs.Items.{ItemsStand}
use Rattle.table_rules.specs.Lots.{LotsStand}
use Rattle.table_rules.specs.Notes.{ViewsStand}
use Rattle.table_rules.specs.Counts.{AreCounted}
use Rattle.table_rules.specs.Grown.{HaveRisen}

-- the frame is within the limits
pub record IsFrame {O : Type 0} (f : Frame O) : Type 0 where
  pub blocks : f.layout.blocks ≤ MOST_BLOCKS
  pub hands : f.hands ≤ MOST_HANDS
  pub nodes : f.layout.nodes ≡ length f.tree
  pub most_nodes : length f.tree ≤ MOST_NODES

-- the table has a word and a home for each place, and no more seats than hands
pub record IsSized {P E O : Type 0} (f : Frame O)
    (s : table.State (Option P) (View P E)) : Type 0 where
  pub words : length s.words ≡ words_in f.layout
  pub homes : length s.homes ≡ places_in f.layout
  pub seats : length s.views ≤ f.hands

-- what is said of generations, and of what never goes back
pub record AreStamped {P E O : Type 0} (f : Frame O)
    (s : table.State (Option P) (View P E)) : Type 0 where
  -- no word of a place was written at a later generation than its block's
  pub control : (b n : ℕ) → b < f.layout.blocks → n < f.layout.nodes →
      stamp_of (word_of f.layout s.words (OfControl b n)) ≤ (block_of f.layout s.words b).generation
  pub callback : (b n : ℕ) → b < f.layout.blocks → n < f.layout.nodes →
      stamp_of (word_of f.layout s.words (OfCallback b n)) ≤
      (block_of f.layout s.words b).generation
  pub source : (b n : ℕ) → b < f.layout.blocks → n < f.layout.nodes →
      stamp_of (word_of f.layout s.words (OfSource b n)) ≤ (block_of f.layout s.words b).generation
  -- a control word that says nothing any more is of a node that was done, or hadn't begun
  pub settled : (b n : ℕ) → b < f.layout.blocks → n < f.layout.nodes →
      is_said (block_of f.layout s.words b) (word_of f.layout s.words (OfControl b n)) ≡ false →
      is_under_way (control_read (word_of f.layout s.words (OfControl b n))) ≡ false
  -- a callback word that says nothing any more is neither armed nor running
  pub quiet : (b n : ℕ) → b < f.layout.blocks → n < f.layout.nodes →
      is_said (block_of f.layout s.words b) (word_of f.layout s.words (OfCallback b n)) ≡ false →
      (is_armed (callback_read (word_of f.layout s.words (OfCallback b n)))
      || is_running (callback_read (word_of f.layout s.words (OfCallback b n)))) ≡ false
  -- the source of a node that has one was written at the block's generation before the node began
  pub renewed : (b n : ℕ) → b < f.layout.blocks → n < f.layout.nodes → has_source f.tree n ≡ true →
      is_idle (control_of f.layout s.words b n) ≡ false →
      stamp_of (word_of f.layout s.words (OfSource b n)) ≡ (block_of f.layout s.words b).generation
  -- no word that a hand listed is later than the one there now
  pub rises : HaveRisen f.layout s.words s.views
  -- the scope's word has no bits but its four and the count
  pub scope : word_of f.layout s.words TheScope < 2 ^ 36

-- what is said of the scene: the pure machine's sentences, and those on homes, starts, items, lots,
-- views and counts
pub record Stands {P E O : Type 0} (cargo : Ghosts P E O) (over : O) (s : Scene P E)
    (hands : List (View P E)) : Type 0 where
  pub sound : Sound s.state
  pub homes : HomesStand s
  pub starts : StartsStand cargo over s
  pub items : ItemsStand cargo s
  pub lots : LotsStand cargo s
  pub views : ViewsStand s hands
  pub counts : AreCounted s.state hands

pub record Running {P E O : Type 0} (cargo : Ghosts P E O) (f : Frame O)
    (s : table.State (Option P) (View P E)) : Type 0 where
  pub frame : IsFrame f
  pub sized : IsSized f s
  pub stamped : AreStamped f s
  pub past : Past P E
  pub stands : Stands cargo f.over.value (scene f s past) s.views
