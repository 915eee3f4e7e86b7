-- The lowest place of the set of starts is the lowest of those that are owed.
use Rattle.std.proofs.Common.{◌≡◌, ◌+◌, ◌*◌, ◌≤◌, arith, sym, ap, ◌∙◌, subst}
use Rattle.std.specs.Prelude.{Option, Some, None, IfSome, MatchOption}
use Rattle.life_rules.specs.declared.event.Name.{Name}
use Rattle.table_words.specs.Layouts.{words_in, places_in}
use Rattle.atomic_table.specs.declared.shared.Seat.{Seat}
use Rattle.name_set.specs.Sets.{Marks, IsEmpty, IsLowest}
use Rattle.name_set.proofs.Places.{had}
use Rattle.table_rules.specs.declared.view.View.{View}
use Rattle.table_steps.specs.Views.{Board}
use Rattle.table_steps.specs.Remembers.{Remembers}
use Rattle.table_kept.proofs.Remembering.{IsLaid, alike, has-owed}
use Rattle.op_table.specs.LowestOwed.{IsLowestOwed}

module _ {P E O : Type 0} (board : Board O) (laid : IsLaid board) {runs : Marks} (seat : Seat (Option P) (View P E)) (set : Marks) (old : Remembers seat set runs) (table_is : seat.table_id ≡ board.table_id) where
  words : words_in set.layout ≡ words_in board.frame.layout
  words = sym old.owed.words ∙ ap (λ t. t.words) table_is ∙ laid.words

  slots : places_in set.layout ≡ places_in board.frame.layout
  slots = sym old.owed.slots ∙ ap (λ t. t.slots) table_is ∙ laid.slots

  pub tells-lowest : (o : Option Name) → MatchOption o (IsEmpty set) (IsLowest set) → IfSome o (IsLowestOwed board.frame.layout seat.me.0)
  tells-lowest None empty = tt
  tells-lowest (Some x) lowest =
      λ y owes.
      let block = (had set x lowest.found).place.block in
      let a = alike set.layout board.frame.layout (omega (arith, block)) words slots in
      subst (λ n. x.block * n + x.node ≤ y.block * n + y.node) a.nodes (lowest.lowest y (has-owed seat set old y owes))
