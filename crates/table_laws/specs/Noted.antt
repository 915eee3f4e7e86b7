-- An operation whose start a hand has noted is open until some hand releases its block.
use Rattle.std.specs.Prelude.{◌≡◌, ◌⊎◌, ℕ, ◌<◌, true, Option, Some}
use Rattle.life_rules.specs.declared.event.Name.{Name}
use Rattle.life_rules.specs.Words.{is_open}
use Rattle.atomic_table.specs.Table as table
use Rattle.table_words.specs.declared.layout.Layout.{Layout}
use Rattle.table_words.specs.Blocks.{block_read}
use Rattle.table_words.specs.Layouts.{OfBlock, index}
use Rattle.listed_words.specs.declared.seen.Seen.{Seen}
use Rattle.table_rules.specs.declared.cargo.Cargo.{Ghosts}
use Rattle.table_rules.specs.declared.frame.Frame.{Frame}
use Rattle.table_rules.specs.declared.view.View.{View}
use Rattle.table_rules.specs.declared.view.Rooted.{Rooted}
use Rattle.table_rules.specs.ShownWords.{block_of, is_retired}
use Rattle.table_rules.specs.Traces.{SomeCarries, Traced}
use Rattle.table_steps.specs.Slots.{noted_at}
use Rattle.table_laws.specs.Laws.{Has}

-- the block of x is open, at x's generation
pub record IsOpenAt {P E O : Type 0} (f : Frame O) (s : table.State (Option P) (View P E))
    (x : Name) : Type 0 where
  pub generation : (block_of f.layout s.words x.block).generation ≡ x.generation
  pub opened : is_open (block_of f.layout s.words x.block).state ≡ true

-- the step left the block of x at a later generation, or retired
pub record IsReleaseOf (l : Layout) (x : Name) (e : Seen) : Type 0 where
  pub index_is : e.index ≡ index l (OfBlock x.block)
  pub over : (x.generation < (block_read e.left).generation) ⊎
      (is_retired (block_read e.left).state ≡ true)

-- of an operation that a hand claimed and began, the block is open, or some hand has released it
abbrev pub NotedIsOpen : {P E O : Type 0} → Ghosts P E O → Type 0
NotedIsOpen {P} {E} {O} cargo =
    (f : Frame O) (s : table.State (Option P) (View P E)) → Traced cargo f s →
    (h : ℕ) (v : View P E) →
    Has s h v → (x : Name) (e : Rooted E) → x.block < f.layout.blocks → noted_at v x ≡ Some e →
    IsOpenAt f s x ⊎ SomeCarries s.views (IsReleaseOf f.layout x)
