-- What a hand's view has beside a node that it began is as before.
use Rattle.std.proofs.Common.{◌≡◌, false, refl, sym, ap, ◌∙◌, subst}
use Rattle.common_lemmas.proofs.Bool.{either}
use Rattle.life_rules.specs.declared.event.Name.{Name}
use Rattle.listed_words.specs.Lists.{entry}
use Rattle.node_tree.specs.Tree.{is_root, has_source}
use Rattle.plan_shape.specs.Blueprint.{Blueprint}
use Rattle.table_words.specs.Layouts.{OfControl, OfSource}
use Rattle.table_steps.specs.Views.{Board, aimed}
use Rattle.table_steps.specs.Begins.{Begins, start_shown, notes_start, source_index}
use Rattle.table_steps.specs.Seats.{Seated}
use Rattle.table_steps.specs.Slots.{home_at}
use Rattle.table_steps.specs.Steps.{control_index}
use Rattle.home_items.specs.contracts.item.ItemCargo.TheImpl.{ghosts}
use Rattle.home_items.specs.declared.entry.Entry.{Entry}
use Rattle.home_items.specs.declared.item.Item.{Item}
use Rattle.exec_recv.specs.Areas.{MovesWithin}
use Rattle.exec_recv.specs.Asides.{aside_of, KeepsAside}
use Rattle.exec_recv.proofs.Acting.{place-within}
use Rattle.exec_recv.proofs.Asiding.{aside-here, aside-on, aside-one}
use Rattle.exec_recv.proofs.Moves.{moves-here, moves-one, moves-on}

module _ (board : Board Blueprint) (y : Name) (m m' : Seated Item Entry) (did : Begins ghosts (aimed board.frame y) m m') where
  -- the renewal of the source of the node, where it has one
  pub renewed-aside : KeepsAside m did.middle
  renewed-aside =
      either (has_source board.frame.tree y.node)
      (λ t.
      let renews = did.renewed.0 t in
      aside-one (entry (source_index (aimed board.frame y)) renews.read renews.left) m did.middle
      (ap (λ (z : Seated Item Entry). aside_of z.0) renews.did) (ap (λ (z : Seated Item Entry). z.0.steps) renews.did)
      (ap (λ (z : Seated Item Entry). z.0.seen) renews.did))
      (λ f. subst (λ (z : Seated Item Entry). KeepsAside m z) (sym (did.renewed.1 f)) (aside-here m))

  -- the words that it moved are of the node
  pub begun-moves : MovesWithin board y m m'
  begun-moves =
      moves-on board y m did.middle m'
      (either (has_source board.frame.tree y.node)
      (λ t.
      let renews = did.renewed.0 t in
      moves-one board y (entry (source_index (aimed board.frame y)) renews.read renews.left) m did.middle
      (ap (λ (z : Seated Item Entry). z.0.steps) renews.did)
      (λ place. place-within board y (OfSource y.block y.node) (place.block, place.node) refl renews.read renews.left))
      (λ f. subst (λ (z : Seated Item Entry). MovesWithin board y m z) (sym (did.renewed.1 f)) (moves-here board y m)))
      (moves-one board y (entry (control_index board y) did.began.read did.began.left) did.middle m'
      (ap (λ (z : Seated Item Entry). z.0.steps) did.began.did.me_is)
      (λ place. place-within board y (OfControl y.block y.node) (place.block, place.node) refl did.began.read did.began.left))

  -- beside a root all else is as before
  pub begun-aside : is_root board.frame.tree y.node ≡ false → KeepsAside m m'
  begun-aside inner =
      let at = did.began.did in
      aside-on m did.middle m' renewed-aside
      (aside-one (entry (control_index board y) did.began.read did.began.left) did.middle m'
      (ap (λ (z : Seated Item Entry). aside_of z.0) at.me_is
      ∙ ap
      (λ b.
      aside_of
      (record did.middle.0 {
        noted = notes_start b y (start_shown ghosts (home_at board.frame.layout did.middle y)) did.middle.0.noted;
      })) inner)
      (ap (λ (z : Seated Item Entry). z.0.steps) at.me_is) (ap (λ (z : Seated Item Entry). z.0.seen) at.me_is))
