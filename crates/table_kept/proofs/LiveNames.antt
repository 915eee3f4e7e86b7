-- What is so of a live name, and of its node that has begun.
use Rattle.std.proofs.Common.{◌≡◌, true, false, refl, sym, ap, ◌∙◌, arith}
use Rattle.std.specs.Prelude.{Option}
use Rattle.std.proofs.lemmas.Bool.{and_from, cond-true, lt-ltb}
use Rattle.life_rules.specs.declared.words.BlockState.{BlockState}
use Rattle.life_rules.specs.declared.words.BlockState.TheVariants.{Free, Open, Retired}
use Rattle.life_rules.specs.declared.words.ControlWord.TheVariants.{Idle}
use Rattle.life_rules.specs.declared.event.Name.{Name}
use Rattle.life_rules.specs.declared.event.Place.{Place}
use Rattle.node_tree.specs.Tree.{has_source}
use Rattle.life_rules.specs.Words.{is_open, is_idle}
use Rattle.life_rules.specs.States.{State, is_live, is_place, control_at, name_at}
use Rattle.life_rules.proofs.Readings.{lives, name_of-live}
use Rattle.table_words.specs.Stamps.{stamp_of}
use Rattle.table_words.specs.Layouts.{OfSource}
use Rattle.atomic_table.specs.Table as table
use Rattle.table_rules.specs.declared.cargo.Cargo.{Ghosts}
use Rattle.table_rules.specs.declared.frame.Frame.{Frame}
use Rattle.table_rules.specs.declared.view.View.{View}
use Rattle.table_rules.specs.ShownWords.{block_of, word_of, is_retired}
use Rattle.table_rules.specs.Scenes.{shown}
use Rattle.table_rules.specs.Running.{Running}

pub open-kept : (w : BlockState) → is_open w ≡ true → is_retired w ≡ false
open-kept Free o = refl
open-kept Open o = refl
open-kept Retired o = cc

-- the place of a name
abbrev pub place_of : Name → Place
place_of x = record { block = x.block; node = x.node }

module _ (s : State) (x : Name) (live : is_live s x ≡ true) where
  -- a live name is of a place, and is what the place has now
  pub place-live : is_place s (place_of x) ≡ true
  place-live = let l = lives s x live in and_from _ _ (lt-ltb _ _ l.block) (lt-ltb _ _ l.node)

  pub name-live : name_at s (place_of x) ≡ x
  name-live = name_of-live s x live

-- the source of a live node that has begun was renewed where it has one
pub begun-renewed : {P E O : Type 0} (cargo : Ghosts P E O) (f : Frame O) (s : table.State (Option P) (View P E)) (x : Name) →
    Running cargo f s → is_live (shown f s) x ≡ true → is_idle (control_at (shown f s) x) ≡ false → has_source f.tree x.node ≡ true →
    stamp_of (word_of f.layout s.words (OfSource x.block x.node)) ≡ (block_of f.layout s.words x.block).generation
begun-renewed cargo f s x r live begun has =
    let now : State = shown f s in
    let l = lives now x live in
    let n = l.node in
    let e = r.frame.nodes in
    r.stamped.renewed x.block x.node l.block (omega (arith, n, e)) has
    (ap is_idle (sym (cond-true (is_live now x) (now.control x.block x.node) Idle live)) ∙ begun)
