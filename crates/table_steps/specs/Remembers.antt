-- What a hand remembers: the starts that it owes, and the callbacks that it runs.
use Rattle.std.specs.Prelude.{◌≡◌, ℕ, ◌<◌, true, ◌||◌, ◌++◌, List, [], Option}
use Rattle.std.specs.List.{list_any}
use Rattle.life_rules.specs.declared.event.Name.{Name}
use Rattle.common_lemmas.specs.Sums.{one}
use Rattle.life_rules.specs.Views.{same, beside}
use Rattle.table_words.specs.declared.layout.Layout.{Layout}
use Rattle.table_words.specs.Layouts.{words_in, places_in}
use Rattle.atomic_table.specs.Seated.{TableId}
use Rattle.atomic_table.specs.declared.shared.Seat.{Seat}
use Rattle.name_set.specs.Sets.{Marks, has, IsOfItsBlock}
use Rattle.table_rules.specs.declared.view.View.{View}
use Rattle.table_rules.specs.Named.{count_by, Each}
use Rattle.table_steps.specs.Owing.{owing}
use Rattle.table_steps.specs.Awaits.{is_named}
use Rattle.table_steps.specs.Views.{Board, knows}

-- how often the view runs the callback of x
abbrev pub running : {P E : Type 0} → View P E → Name → ℕ
running v x = count_by (λ y. y) v.runs x

-- the set is for the places of this table, and has exactly the names that count, which count once
pub record HasExactly (table : TableId) (count : Name → ℕ) (set : Marks) : Type 0 where
  pub words : table.words ≡ words_in set.layout
  pub slots : table.slots ≡ places_in set.layout
  pub names : (x : Name) → count x ≡ one (has set x)

-- one set has exactly the names whose start the view owes, the other those whose callback it runs
pub record Remembers {P E : Type 0} (seat : Seat (Option P) (View P E))
    (starts callbacks : Marks) : Type 0 where
  pub owed : HasExactly seat.table_id (owing (knows seat)) starts
  pub runs : HasExactly seat.table_id (running (knows seat)) callbacks

-- the seat is one of this table's, owes no start and runs no callback
pub record OwesAndRunsNone {P E O : Type 0} (board : Board O)
    (seat : Seat (Option P) (View P E)) : Type 0 where
  pub table_is : seat.table_id ≡ board.table_id
  pub owed : (knows seat).owed ≡ []
  pub runs : (knows seat).runs ≡ []

-- these children of x came to the set
abbrev pub AreAdded : Name → List ℕ → Marks → Marks → Type 0
AreAdded x children old new =
    (y : Name) → has new y ≡ (list_any (λ n. same (beside x n) y) children || has old y)

-- these nodes of the block have places
pub record ArePlacesOf (l : Layout) (block : ℕ) (nodes : List ℕ) : Type 0 where
  pub within : block < l.blocks
  pub each : (n : ℕ) → is_named nodes n ≡ true → n < l.nodes

-- of these children of x some are in the set, beside what was there, and these are left
pub record IsAdding (x : Name) (children left : List ℕ) (old now : Marks) : Type 0 where
  pub layout : now.layout ≡ old.layout
  pub of_block : IsOfItsBlock now x
  pub has_all : (y : Name) → (list_any (λ n. same (beside x n) y) left || has now y)
      ≡ (list_any (λ n. same (beside x n) y) children || has old y)

-- of these seats the first became hands, and these are left, which owe and run nothing
pub record IsHanding {P E O : Type 0} (board : Board O)
    (seats hands left : List (Seat (Option P) (View P E))) : Type 0 where
  pub in_order : hands ++ left ≡ seats
  pub each : Each (OwesAndRunsNone board) left
