-- What the rule says at a step by which a hand reports a child: the child's parent waits for it.
use Rattle.std.proofs.Common.{◌≡◌, ◌<◌, ◌≤◌, true, false, not, ◌==◌, cond, sym, ap, ◌∙◌, subst, arith}
use Rattle.std.specs.Prelude.{is_some}
use Rattle.std.specs.Option.{option_map_or}
use Rattle.std.proofs.lemmas.Bool.{and_parts, and_from, le-leb}
use Rattle.life_rules.specs.declared.words.ControlWord.TheVariants.{Busy}
use Rattle.life_rules.specs.declared.event.Name.{Name}
use Rattle.life_rules.specs.declared.event.SourceRef.TheVariants.{Node}
use Rattle.node_tree.specs.Tree.{is_child, is_root, parent_of}
use Rattle.life_rules.specs.Words.{is_idle, is_done, one_less, pending}
use Rattle.life_rules.specs.Views.{View as PureView, beside, gain, lose, is_scanning}
use Rattle.life_rules.specs.States.{State, is_live, control_at, name_of}
use Rattle.life_rules.specs.Owned.{weight}
use Rattle.life_rules.specs.LifeSteps.{reported_to}
use Rattle.life_rules.specs.Sound.{Sound}
use Rattle.common_lemmas.proofs.Bool.{one-is}
use Rattle.life_rules.proofs.Readings.{lives, begun-live, stand-at}
use Rattle.life_kept.proofs.Puts.{put}
use Rattle.life_kept.proofs.Trees.{parent-child, child-within}
use Rattle.life_kept.proofs.Fitting.{done-word, pending-word}
use Rattle.life_kept.proofs.Holding.{weight-most}
use Rattle.life_kept.proofs.Report.{sound-report}
use Rattle.table_rules.specs.declared.cargo.Cargo.{Ghosts}
use Rattle.table_rules.specs.declared.frame.Frame.{Frame}
use Rattle.table_rules.specs.ShownWords.{block_of}
use Rattle.table_rules.specs.ShownViews.{shown_view}
use Rattle.table_rules.specs.Scenes.{shown}
use Rattle.table_steps.specs.Reports.{CanReport}
use Rattle.table_kept.proofs.Standing.{Standing}
use Rattle.table_kept.proofs.Entries.{found}
use Rattle.table_kept.proofs.Seats.{at_within}
use Rattle.table_kept.proofs.ViewMoves.{view-here}
use Rattle.table_kept.proofs.LiveNames.{place_of, place-live, name-live}

module _ {P E O : Type 0} (cargo : Ghosts P E O) (f : Frame O) (hand : Standing cargo f) (c : Name)
    (can : CanReport f.tree hand.view c) where
  open hand use {state as s, id, view as v, running as r, at}

  abbrev now : State
  now = shown f s

  abbrev pub above : Name
  above = beside c can.parent

  pub shows : now.view id ≡ shown_view (block_of f.layout s.words) v
  shows = view-here (block_of f.layout s.words) s.views id v at

  pub below : id < f.hands
  below = let l = at_within s.views id v at in let m = r.sized.seats in omega (arith, l, m)

  pub child : is_child f.tree can.parent c.node ≡ true
  child = parent-child f.tree can.parent c.node can.parent_is

  pub owes-now : 1 ≤ (now.view id).reports c
  owes-now =
      subst (λ (u : PureView). 1 ≤ u.reports c) (sym shows)
      (found (λ e. e.name) v.reported c can.entry can.owes).counts

  -- the child is done
  pub child-live : is_live now c ≡ true
  child-live =
      let all = stand-at now (λ v. v.reports) id c below in
      let fit = (r.stands.sound.owned.names c).report in
      let owes = owes-now in
      let done = (and_parts (is_done (control_at now c)) (not (is_root f.tree c.node)) (one-is (omega (arith, all, fit, owes)))).0 in
      begun-live now c (ap is_idle (done-word (control_at now c) done))

  -- its parent waits
  pub waits : 1 ≤ pending (control_at now above)
  waits =
      let most : weight now c ≤ pending (control_at now above) =
      weight-most now above c.node r.stands.sound (child-within f.tree can.parent c.node child) child in
      let all = stand-at now (λ v. v.reports) id c below in
      let owes = owes-now in omega (arith, most, all, owes)

  pub word-is : control_at now above ≡ Busy (pending (control_at now above))
  word-is = pending-word (control_at now above) waits

  pub above-live : is_live now above ≡ true
  above-live = begun-live now above (ap is_idle word-is)

  -- the pure machine's state after the report
  abbrev pub reporting : PureView
  reporting = record (now.view id) { reports = lose c (now.view id).reports }

  abbrev pub reporting_last : PureView
  reporting_last = record (now.view id) { reports = lose c (now.view id).reports; holds = gain above (now.view id).holds }

  pub sound-after : Sound (put now id above (one_less (control_at now above))
      (cond (pending (control_at now above) == 1) reporting_last reporting))
  sound-after =
      let l = lives now c child-live in
      let parent_name : name_of now c.block can.parent ≡ above =
      λ k. record { block = c.block; generation = (sym l.generation) k; node = can.parent } in
      let name = name-live now c child-live in
      let owes = owes-now in
      let scans : not (is_scanning (now.view id) (Node above)) ≡ true =
      subst (λ (z : PureView). not (is_scanning z (Node above)) ≡ true) (sym shows) (ap (λ o. not (is_some o)) can.unscanned) in
      let free : option_map_or (λ q. not (is_scanning (now.view id) (Node (name_of now c.block q)))) (parent_of f.tree c.node) false ≡ true =
      ap (λ o. option_map_or (λ q. not (is_scanning (now.view id) (Node (name_of now c.block q)))) o false) can.parent_is
      ∙ ap (λ z. not (is_scanning (now.view id) (Node z))) parent_name ∙ scans in
      let done : Sound (reported_to now id (place_of c) (name_of now c.block can.parent)) =
      subst (λ o. Sound (option_map_or (λ q. reported_to now id (place_of c) (name_of now c.block q)) o now)) can.parent_is
      (sound-report now id (place_of c) r.stands.sound below
      (and_from _ _ (place-live now c child-live)
      (and_from _ _ (le-leb 1 _ (subst (λ z. 1 ≤ (now.view id).reports z) (sym name) owes)) free))) in
      let of : Name → Name → Type 0 = λ y d.
      Sound (put now id y (one_less (control_at now y))
      (cond (pending (control_at now y) == 1)
      (record (now.view id) { reports = lose d (now.view id).reports; holds = gain y (now.view id).holds })
      (record (now.view id) { reports = lose d (now.view id).reports }))) in
      subst (λ (z : Name × Name). of z.0 z.1) (λ k. (parent_name k, name k)) done
