-- What a table is like when it was just opened.
use Rattle.std.specs.Prelude.{◌≡◌, ℕ, false, List, map, Option}
use lib.ListN.{get_elem?}
use Rattle.life_rules.specs.declared.words.BlockState.TheVariants.{Free}
use Rattle.life_rules.specs.declared.words.ControlWord.TheVariants.{Idle}
use Rattle.life_rules.specs.declared.words.CallbackPhase.TheVariants.{Never}
use Rattle.life_rules.specs.declared.scope.ScopeWord.{ScopeWord}
use Rattle.life_rules.specs.Words.{clear}
use Rattle.atomic_table.specs.declared.shared.Seat.{Seat}
use Rattle.atomic_table.specs.Table as table
use Rattle.table_rules.specs.declared.cargo.Cargo.{Ghosts}
use Rattle.table_rules.specs.declared.frame.Frame.{Frame}
use Rattle.table_rules.specs.declared.view.View.{View}
use Rattle.table_rules.specs.ShownWords.{block_of, control_of, callback_of, source_of, scope_source_of, scope_of}
use Rattle.table_rules.specs.Scenes.{Empty, home_in}
use Rattle.table_rules.specs.Traces.{Traced}
use Rattle.table_steps.specs.Views.{knows}

-- no association was ever made, and the scope isn't closed
abbrev pub untouched : ScopeWord
untouched = record { used = false; closed = false; joining = false; joined = false; count = 0 }

-- all blocks are free at generation 0, nothing began, no stop is requested, the scope is unused,
-- and all homes are empty
pub record IsAsOpened {P E O : Type 0} (f : Frame O)
    (s : table.State (Option P) (View P E)) : Type 0 where
  pub block : (b : ℕ) → block_of f.layout s.words b ≡ record { generation = 0; state = Free }
  pub control : (b n : ℕ) → control_of f.layout s.words b n ≡ Idle
  pub callback : (b n : ℕ) → callback_of f.layout s.words b n ≡ Never
  pub source : (b n : ℕ) → source_of f.layout s.words b n ≡ clear
  pub scope_source : scope_source_of f.layout s.words ≡ clear
  pub scope : scope_of f.layout s.words ≡ untouched
  pub home : (i : ℕ) → home_in (get_elem? s.homes i) ≡ Empty

-- while the table's hands know no more than these, it is as it was opened
abbrev pub StaysAsOpened : {P E O : Type 0} → Ghosts P E O → Frame O →
    List (Seat (Option P) (View P E)) → Type 0
StaysAsOpened {P} {E} cargo f hands =
    (s : table.State (Option P) (View P E)) → Traced cargo f s → s.views ≡ map knows hands →
    IsAsOpened f s
