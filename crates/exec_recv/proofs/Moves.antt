-- Which words calls moved, one after the other.
use Rattle.std.proofs.Common.{◌≡◌, inl, ℕ, List, [], ◌∷◌, ◌++◌, append_assoc, refl, sym, ap, ◌∙◌}
use Rattle.life_rules.specs.declared.event.Name.{Name}
use Rattle.life_rules.specs.declared.event.SourceRef.TheVariants.{Node}
use Rattle.listed_words.specs.declared.seen.Seen.{Seen}
use Rattle.listed_words.specs.Lists.{entry}
use Rattle.plan_shape.specs.Blueprint.{Blueprint}
use Rattle.table_words.specs.Layouts.{OfControl, OfCallback}
use Rattle.table_steps.specs.Callbacks.{callback_index}
use Rattle.table_steps.specs.Steps.{control_index}
use Rattle.table_steps.specs.Views.{Board, IsPlaceIn}
use Rattle.table_steps.specs.Seats.{Seated}
use Rattle.home_items.specs.declared.entry.Entry.{Entry}
use Rattle.home_items.specs.declared.item.Item.{Item}
use Rattle.exec_recv.specs.Areas.{IsWithin, MovesWithin}
use Rattle.exec_recv.proofs.Acting.{each-both, place-within, all-more}

module _ (board : Board Blueprint) (x : Name) where
  pub moves-none : (m m' : Seated Item Entry) → m'.0.steps ≡ m.0.steps → MovesWithin board x m m'
  moves-none m m' is = record { made = []; is = is; within = λ place. tt }

  pub moves-here : (m : Seated Item Entry) → MovesWithin board x m m
  moves-here m = moves-none m m refl

  pub moves-one : (step : Seen) (m m' : Seated Item Entry) → m'.0.steps ≡ step ∷ m.0.steps → (IsPlaceIn board x → IsWithin board (Node x) step) →
      MovesWithin board x m m'
  moves-one step m m' is within = record { made = step ∷ []; is = is; within = λ place. (within place, tt) }

  pub moves-on : (m between m' : Seated Item Entry) → MovesWithin board x m between → MovesWithin board x between m' → MovesWithin board x m m'
  moves-on m between m' first next =
      record {
        made = next.made ++ first.made;
        is = next.is ∙ ap (λ (l : List Seen). next.made ++ l) first.is ∙ sym (append_assoc next.made first.made m.0.steps);
        within = λ place. each-both (IsWithin board (Node x)) next.made first.made (next.within place) (first.within place);
      }

  -- what a node of the same block moved
  pub moves-beside : (y : Name) → IsPlaceIn board y → y.block ≡ x.block → (m m' : Seated Item Entry) → MovesWithin board y m m' → MovesWithin board x m m'
  moves-beside y place same m m' moves =
      record { made = moves.made; is = moves.is; within = λ own. all-more board (Node x) y same moves.made (moves.within place) }

  -- a look, and a step on the word of x itself
  pub moves-look : (i word : ℕ) (m m' : Seated Item Entry) → m'.0.steps ≡ entry i word word ∷ m.0.steps → MovesWithin board x m m'
  moves-look i word m m' is = moves-one (entry i word word) m m' is (λ place. inl refl)

  pub moves-control : (read left : ℕ) (m m' : Seated Item Entry) → m'.0.steps ≡ entry (control_index board x) read left ∷ m.0.steps →
      MovesWithin board x m m'
  moves-control read left m m' is =
      moves-one (entry (control_index board x) read left) m m' is
      (λ place. place-within board x (OfControl x.block x.node) (place.block, place.node) refl read left)

  pub moves-callback : (read left : ℕ) (m m' : Seated Item Entry) → m'.0.steps ≡ entry (callback_index board x) read left ∷ m.0.steps →
      MovesWithin board x m m'
  moves-callback read left m m' is =
      moves-one (entry (callback_index board x) read left) m m' is
      (λ place. place-within board x (OfCallback x.block x.node) (place.block, place.node) refl read left)
