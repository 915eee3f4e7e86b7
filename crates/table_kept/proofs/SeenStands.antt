-- What a hand knows of a live node by its notes: a request that it has seen on the source that the node
-- hears still stands, and a root began with the start that it noted.
use Rattle.std.proofs.Common.{◌≡◌, ℕ, true, false, not, refl, sym, ap, ◌∙◌, subst, arith}
use Rattle.std.specs.Prelude.{Option, Some}
use Rattle.std.specs.Option.{option_map_or}
use Rattle.std.proofs.lemmas.Bool.{and_from, eq-eqb}
use mathlib.Core.Option.{some}
use lib.ListN.{get_elem?}
use Rattle.life_rules.specs.declared.event.Name.{Name}
use Rattle.life_rules.specs.declared.event.SourceRef.{SourceRef}
use Rattle.life_rules.specs.declared.event.SourceRef.TheVariants.{Scope, Node}
use Rattle.node_tree.specs.Tree.{Nearest, TheScope, TheNode, Nowhere, nearest}
use Rattle.life_rules.specs.Views.{View as PureView, beside}
use Rattle.life_rules.specs.States.{State, is_live, bits_at, source_for}
use Rattle.life_rules.specs.Callbacks.{nearest_is_requested}
use Rattle.life_rules.proofs.Readings.{lives}
use Rattle.atomic_table.specs.Table as table
use Rattle.table_rules.specs.declared.cargo.Cargo.{Ghosts}
use Rattle.table_rules.specs.declared.frame.Frame.{Frame}
use Rattle.table_rules.specs.declared.view.View.{View}
use Rattle.table_rules.specs.declared.view.Rooted.{Rooted}
use Rattle.table_rules.specs.Named.{find_by}
use Rattle.table_rules.specs.Notes.{IsRootedSo}
use Rattle.table_rules.specs.ShownWords.{block_of, is_present, is_present_source}
use Rattle.table_rules.specs.ShownViews.{has_source_ref}
use Rattle.table_rules.specs.Scenes.{shown, scene}
use Rattle.table_rules.specs.Running.{Running}
use Rattle.table_steps.specs.Slots.{has_seen}
use Rattle.table_kept.proofs.Standing.{Standing}
use Rattle.table_kept.proofs.Entries.{found, each-found}
use Rattle.table_kept.proofs.Seats.{at_within}
use Rattle.table_kept.proofs.ViewMoves.{view-here}
use Rattle.table_kept.proofs.LiveNames.{open-kept}

-- a request that was seen on the scope's source stands
pub seen-anywhere : {P E O : Type 0} (cargo : Ghosts P E O) (f : Frame O) (s : table.State (Option P) (View P E)) (id : ℕ) (v : View P E) → Running cargo f s →
    get_elem? s.views id ≡ some v → has_source_ref v.seen Scope ≡ true → (bits_at (shown f s) Scope).requested ≡ true
seen-anywhere cargo f s id v r at seen =
    let l = at_within s.views id v at in
    let m = r.sized.seats in
    r.stands.sound.requests.seen id Scope (omega (arith, l, m))
    (subst (λ (u : PureView). u.seen Scope ≡ true) (sym (view-here (block_of f.layout s.words) s.views id v at))
    (and_from _ _ seen refl))

module _ {P E O : Type 0} (cargo : Ghosts P E O) (f : Frame O) (hand : Standing cargo f) (x : Name)
    (live : is_live (shown f hand.state) x ≡ true) where
  open hand use {state as s, id, view as v, running as r, at}

  abbrev now : State
  now = shown f s

  pub seen-at : (source : SourceRef) → is_present_source now.block source ≡ true → has_source_ref v.seen source ≡ true →
      (bits_at now source).requested ≡ true
  seen-at source present seen =
      let l = at_within s.views id v at in
      let m = r.sized.seats in
      r.stands.sound.requests.seen id source (omega (arith, l, m))
      (subst (λ (u : PureView). u.seen source ≡ true) (sym (view-here (block_of f.layout s.words) s.views id v at))
      (and_from _ _ seen present))

  pub beside-present : (p : ℕ) → is_present now.block (beside x p) ≡ true
  beside-present p =
      let l = lives now x live in
      and_from _ _ (ap not (open-kept (now.block x.block).state l.is_opened)) (eq-eqb _ _ l.generation)

  seen-by : (k : Nearest) → option_map_or (has_source_ref v.seen) (source_for x k) false ≡ true →
      option_map_or (λ source. (bits_at now source).requested) (source_for x k) false ≡ true
  seen-by TheScope h = seen-at Scope refl h
  seen-by (TheNode p) h = seen-at (Node (beside x p)) (beside-present p) h
  seen-by Nowhere h = cc

  -- what the hand noted of a root that it claimed is so while its block is of that generation
  pub noted-start : (e : Rooted E) → find_by (λ e. e.name) v.noted x ≡ Some e → r.past.start x ≡ e.start
  noted-start e is =
      let so : IsRootedSo (scene f s r.past) e =
      each-found (IsRootedSo (scene f s r.past)) (λ e. e.name) v.noted x e is (r.stands.views.each id v at).noted in
      let name = (found (λ e. e.name) v.noted x e is).name_is in
      let l = lives now x live in
      let present : is_present now.block x ≡ true =
      and_from _ _ (ap not (open-kept (now.block x.block).state l.is_opened)) (eq-eqb _ _ l.generation) in
      ap r.past.start (sym name) ∙ (so.1 (subst (λ z. is_present now.block z ≡ true) (sym name) present)).1

  pub seen-stands : has_seen f.tree v x ≡ true → nearest_is_requested now x ≡ true
  seen-stands = seen-by (nearest f.tree x.node)
