-- A table between two steps: the pure machine's state, what each home holds, and what the rule
-- remembers.
use Rattle.std.specs.Prelude.{ℕ, ℤ, Bool, true, false, if◌then◌else◌, List, Option, Some, None}
use mathlib.Core.Option as maybe
use lib.ListN.{get_elem?}
use Rattle.life_rules.specs.declared.event.Name.{Name}
use Rattle.life_rules.specs.States as pure
use Rattle.table_rules.specs.declared.view.View.{View}
use Rattle.table_rules.specs.declared.frame.Frame.{Frame}
use Rattle.table_words.specs.Layouts.{place_number}
use Rattle.atomic_table.specs.Table as table
use Rattle.table_rules.specs.ShownWords.{is_there, block_of, control_of, callback_of, source_of, scope_source_of, scope_of}
use Rattle.table_rules.specs.ShownViews.{view_at}

-- a home is out with the hand that has its slot, or it is at home, empty or full
pub data Home (P : Type 0) : Type 0 where
  Out : Home P
  Empty : Home P
  Full : P → Home P

abbrev pub is_out : {P : Type 0} → Home P → Bool
is_out Out = true
is_out Empty = false
is_out (Full item) = false

abbrev pub is_full : {P : Type 0} → Home P → Bool
is_full Out = false
is_full Empty = false
is_full (Full item) = true

-- what the rule remembers of each node that began
pub record Past (P E : Type 0) : Type 0 where
  -- the start with which it began
  pub start : Name → List E
  -- so many children its last await named, at first none
  pub named : Name → ℕ
  -- what the item in its home fixed at its last await
  pub lot : Name → List ℤ
  -- the item with which it finished
  pub delivered : Name → Option P

pub record Scene (P E : Type 0) : Type 0 where
  pub state : pure.State
  pub home : ℕ → ℕ → Home P
  pub past : Past P E

abbrev pub home_in : {P : Type 0} → maybe.Option (maybe.Option (Option P)) → Home P
home_in maybe.none = Empty
home_in (maybe.some maybe.none) = Out
home_in (maybe.some (maybe.some None)) = Empty
home_in (maybe.some (maybe.some (Some item))) = Full item

module _ {P E O : Type 0} (f : Frame O) (s : table.State (Option P) (View P E)) where
  -- the pure machine's state, by the words and the views
  abbrev pub shown : pure.State
  shown =
      record {
        tree = f.tree;
        blocks = f.layout.blocks;
        hands = f.hands;
        kind = f.kind;
        most = f.most;
        block = block_of f.layout s.words;
        control = control_of f.layout s.words;
        callback = callback_of f.layout s.words;
        source = source_of f.layout s.words;
        scope_source = scope_source_of f.layout s.words;
        scope = scope_of f.layout s.words;
        view = view_at (block_of f.layout s.words) s.views;
      }

  abbrev pub scene : Past P E → Scene P E
  scene past =
      record {
        state = shown;
        home = λ b n.
            if is_there f.layout b n then home_in (get_elem? s.homes (place_number f.layout b n))
            else Empty;
        past = past;
      }
