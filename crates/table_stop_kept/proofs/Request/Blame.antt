-- A child that failed, and whose report a hand owes, failed without a request where none was made of the
-- children.
use Rattle.std.proofs.Common.{◌≡◌, ℕ, suc, ◌<◌, ◌≤◌, true, false, not, List, [], ◌∷◌, length, sym, ap, ◌∙◌, subst, arith}
use Rattle.std.specs.Prelude.{Some}
use Rattle.std.specs.Option.{option_map_or}
use Rattle.std.proofs.lemmas.Bool.{and_parts, cond-true, not-true}
use Rattle.std.proofs.lemmas.Option.{same_Some}
use Rattle.node_tree.specs.declared.node.TreeNode.{TreeNode}
use Rattle.life_rules.specs.declared.event.Name.{Name}
use Rattle.life_rules.specs.declared.event.SourceRef.TheVariants.{Node}
use Rattle.node_tree.proofs.Walk.{parent_within}
use Rattle.node_tree.specs.Tree.{TheScope, TheNode, is_child, is_root, has_source, parent_of, given_by, source_above, nearest}
use Rattle.life_rules.specs.Words.{is_done}
use Rattle.life_rules.specs.Views.{View as PureView, beside}
use Rattle.life_rules.specs.States.{State, control_at, bits_at, source_for}
use Rattle.life_rules.specs.Callbacks.{nearest_is_requested}
use Rattle.common_lemmas.proofs.Bool.{one-is}
use Rattle.life_rules.proofs.Readings.{stand-at}
use Rattle.life_kept.proofs.Trees.{child-parent, child-within}
use Rattle.table_rules.specs.declared.cargo.Cargo.{Ghosts}
use Rattle.table_rules.specs.declared.frame.Frame.{Frame}
use Rattle.table_rules.specs.declared.view.Reported.{Reported}
use Rattle.table_rules.specs.Named.{find_by}
use Rattle.table_rules.specs.ShownWords.{block_of}
use Rattle.table_rules.specs.Scenes.{Scene, shown, scene}
use Rattle.table_rules.specs.Items.{HasFailedChild}
use Rattle.table_rules.specs.Notes.{IsReportedSo}
use Rattle.table_kept.proofs.Standing.{Standing}
use Rattle.table_kept.proofs.Entries.{IsFound, found, each-found}
use Rattle.table_kept.proofs.Seats.{at_within}
use Rattle.table_kept.proofs.ViewMoves.{view-here}

-- a child of a node that has a source hears that
above-of : (tree : List TreeNode) (p n steps : ℕ) → parent_of tree n ≡ Some p → has_source tree p ≡ true →
    source_above tree (suc steps) n ≡ TheNode p
unfolding source_above
above-of tree p n steps is has =
    ap (λ o. option_map_or (λ q. given_by tree q (source_above tree steps q)) o TheScope) is
    ∙ cond-true (has_source tree p) (TheNode p) _ has

pub child-hears : (tree : List TreeNode) (p n : ℕ) → is_child tree p n ≡ true → has_source tree p ≡ true → nearest tree n ≡ TheNode p
child-hears [] p n child has = let l : n < 0 = child-within [] p n child in absurd (omega (arith, l))
child-hears (a ∷ rest) p n child has = above-of (a ∷ rest) p n (length rest) (child-parent (a ∷ rest) p n child) has

-- which child failed, without a request, and who owes its report
pub record ToBlame {P E O : Type 0} {cargo : Ghosts P E O} {f : Frame O}
    (hand : Standing cargo f) : Type 0 where
  pub name : Name
  pub child : ℕ
  pub is_child : is_child f.tree name.node child ≡ true
  pub has : has_source f.tree name.node ≡ true
  pub entry : Reported P E
  pub owes : find_by (λ (entry : Reported P E). entry.name) hand.view.reported (beside name child) ≡ Some entry
  pub failed : cargo.fits entry.item name.node true
  pub calm : (bits_at (shown f hand.state) (Node name)).requested ≡ false

module _ {P E O : Type 0} (cargo : Ghosts P E O) (f : Frame O) (hand : Standing cargo f)
    (task : ToBlame hand) where
  open hand use {state as s, id, view as v, running as r, at}
  open task use {name as x, child as n, is_child as child, has, entry as e, owes, failed, calm}

  abbrev now : State
  now = shown f s

  abbrev here : Scene P E
  here = scene f s r.past

  abbrev y : Name
  y = beside x n

  is-found : IsFound (λ (e : Reported P E). e.name) v.reported y e
  is-found = found (λ (e : Reported P E). e.name) v.reported y e owes

  done : (is_done (control_at now y) ≡ true) × (is_root f.tree n ≡ false)
  done =
      let l = at_within s.views id v at in
      let m = r.sized.seats in
      let is = view-here (block_of f.layout s.words) s.views id v at in
      let own : 1 ≤ (now.view id).reports y = subst (λ (z : PureView). 1 ≤ z.reports y) (sym is) is-found.counts in
      let all = stand-at now (λ w. w.reports) id y (omega (arith, l, m)) in
      let fit = (r.stands.sound.owned.names y).report in
      let parts = and_parts (is_done (control_at now y)) (not (is_root f.tree n)) (one-is (omega (arith, own, all, fit))) in
      (parts.0, not-true (is_root f.tree n) parts.1)

  delivered : r.past.delivered y ≡ Some e.item
  delivered =
      let so : IsReportedSo here e =
      each-found (IsReportedSo here) (λ (e : Reported P E). e.name) v.reported y e owes (r.stands.views.each id v at).reported in
      ap r.past.delivered (sym is-found.name_is) ∙ so.1

  calm-above : nearest_is_requested now y ≡ false
  calm-above =
      ap (λ k. option_map_or (λ t. (bits_at now t).requested) (source_for y k) false) (child-hears f.tree x.node n child has) ∙ calm

  pub blamed : HasFailedChild cargo here x
  blamed =
      let so = r.stands.items.ended y done.0 done.1 in
      let same : e.item ≡ so.0 = same_Some e.item so.0 (sym delivered ∙ so.1) in
      let own : cargo.fits e.item n (nearest_is_requested now y) = subst (λ i. cargo.fits i n (nearest_is_requested now y)) (sym same) so.3 in
      let quiet : cargo.fits e.item n false = subst (cargo.fits e.item n) calm-above own in
      let later : n < x.node = (parent_within f.tree n x.node r.stands.sound.tree (child-parent f.tree x.node n child)).0 in
      (n, e.item, child, done.0, delivered, cargo.blames e.item n x.node later quiet failed)
