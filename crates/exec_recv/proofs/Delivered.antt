-- What a delivery did, from the hand that held the node to the hand that goes on.
use Rattle.std.proofs.Common.{◌≡◌, ℕ, Bool, true, List, [], ◌∷◌, ◌++◌, append_assoc, refl, sym, ap, ◌∙◌, subst}
use Rattle.std.specs.Prelude.{Option, Some, None}
use Rattle.std.specs.Option.{option_map_or}
use Rattle.std.proofs.lemmas.Bool.{cond-true}
use Rattle.life_rules.specs.declared.event.Name.{Name}
use Rattle.life_rules.specs.declared.words.ControlWord.TheVariants.{Busy, Done as IsDone}
use Rattle.life_rules.specs.declared.event.SourceRef.TheVariants.{Node}
use Rattle.life_rules.specs.Views.{same, beside}
use Rattle.life_rules.proofs.Names.{same-refl}
use Rattle.life_kept.proofs.Trees.{child-parent}
use Rattle.listed_words.specs.declared.seen.Seen.{Seen}
use Rattle.listed_words.specs.Lists.{entry}
use Rattle.node_tree.specs.Tree.{is_child, parent_of}
use Rattle.plan_rules.specs.Allowed.{IsFailure}
use Rattle.plan_shape.specs.Blueprint.{Blueprint}
use Rattle.table_rules.specs.declared.view.Held.{Held}
use Rattle.table_rules.specs.declared.view.Reported.{Reported}
use Rattle.table_rules.specs.ShownViews.{has_source_ref}
use Rattle.table_rules.specs.Named.{find_by, without}
use Rattle.table_steps.specs.Views.{Board, IsPlaceIn, aim_at}
use Rattle.table_steps.specs.Seats.{Seated}
use Rattle.table_steps.specs.Finishes.{FinishesAt}
use Rattle.table_steps.specs.Lefts.{LeavesControl}
use Rattle.table_steps.specs.Readings.{above_it}
use Rattle.table_steps.specs.Reports.{CanReport, IsReportedAs}
use Rattle.table_steps.specs.Requests.{OwesFailed}
use Rattle.table_steps.specs.Slots.{IsSeated, slot_of, kept}
use Rattle.table_steps.specs.Steps.{control_index}
use Rattle.table_steps.specs.declared.report.Report.{Report}
use Rattle.table_steps.specs.declared.report.Report.TheVariants.{Last, Others}
use Rattle.op_slot.specs.Tends.{IsCalm, OwesReport}
use Rattle.op_slot.proofs.Leaving.{owes-reports}
use Rattle.op_slot.proofs.Tending.{held_as}
use Rattle.home_items.specs.contracts.item.ItemCargo.TheImpl.{ghosts}
use Rattle.home_items.specs.declared.entry.Entry.{Entry}
use Rattle.home_items.specs.declared.item.Item.{Item}
use Rattle.home_items.specs.Contents.{Done}
use Rattle.home_items.specs.Entries.{plan_of}
use Rattle.home_items.specs.Parcels.{Delivery}
use Rattle.exec_recv.specs.Areas.{MovesWithin}
use Rattle.exec_recv.specs.Asides.{Aside, aside_of, KeepsAside}
use Rattle.exec_recv.specs.Beginnings.{AllCanStart}
use Rattle.exec_recv.specs.Deliveries.{CanDeliver, HasTold, Delivers, next_after}
use Rattle.exec_recv.specs.Seats.{HandSeat}
use Rattle.exec_recv.specs.Sites.{plan_at}
use Rattle.exec_recv.specs.Nexts.{GoesTo, IsStepped}
use Rattle.exec_recv.proofs.Acting.{all-more}
use Rattle.exec_recv.proofs.Moves.{moves-control, moves-beside, moves-on}
use Rattle.exec_recv.proofs.Arriving.{last-homes, last-steps}
use Rattle.exec_recv.proofs.Completing.{reported_with, item-is, finish-owes, finish-held, finish-owed, finish-calm, finish-aside, finish-steps, finish-sees, finish-starts, report-aside, report-seen, report-steps}
use Rattle.exec_recv.proofs.Failing.{owes-failed}
use Rattle.exec_recv.proofs.Places.{over-places}
use Rattle.exec_recv.proofs.Starts.{all-still, owes-no-more}

-- the parent is of the same operation
above-beside : (x : Name) (parent : Option ℕ) → let above = option_map_or (λ p. beside x p) parent x in beside x above.node ≡ above
above-beside x None = refl
above-beside x (Some p) = refl

module _ (board : Board Blueprint) (x : Name) (failed : Bool) (hand : HandSeat) (m2 : Seated Item Entry) (can : CanDeliver board x failed hand)
    (finished : LeavesControl (aim_at board x) (Busy 0) IsDone (FinishesAt ghosts (aim_at board x)) hand.me m2) where
  abbrev m : Seated Item Entry
  m = hand.me

  abbrev parcel : Delivery
  parcel = can.parcel

  home-full : kept (slot_of board.frame.layout x) m.1 ≡ Some (Some (Done parcel))
  home-full = can.tends.own

  abbrev with_it : Reported Item Entry
  with_it = reported_with board x parcel m m2 can.inner home-full can.elsewhere finished

  -- the hand may mark the parent's source, where the node failed
  pub may-mark : is_child board.frame.tree (above_it board.frame.tree x).node x.node ≡ true → IsFailure parcel.completion →
      OwesFailed ghosts board.frame.tree m2.0 (above_it board.frame.tree x)
  may-mark below fails =
      owes-failed board (plan_at board) can.over x can.inner m2 with_it parcel
      (finish-owes board x parcel m m2 can.inner home-full can.elsewhere finished)
      (item-is board x parcel m m2 can.inner home-full can.elsewhere finished) can.lawful.start can.item.node
      (ap plan_of can.shows ∙ can.key) below fails

  abbrev above : Name
  above = above_it board.frame.tree x

  module _ (m3 : Seated Item Entry) (told : HasTold board above failed m2 m3) where
    owes-before : OwesReport x with_it m3
    owes-before =
        ap (λ (l : List (Reported Item Entry)). find_by (λ (e : Reported Item Entry). e.name) l x) (ap (λ a. a.reported) told.keeps.aside.same)
        ∙ finish-owes board x parcel m m2 can.inner home-full can.elsewhere finished

    calm-before : IsCalm m3
    calm-before =
        ap (λ a. a.scans) told.keeps.aside.same
        ∙ finish-calm board x parcel m m2 can.inner home-full can.elsewhere finished can.calm

    unrun-before : m3.0.runs ≡ []
    unrun-before =
        ap (λ a. a.runs)
        (told.keeps.aside.same ∙ finish-aside board x parcel m m2 can.inner home-full can.elsewhere finished)
        ∙ can.unrun

    -- the hand can report
    pub can-report : is_child board.frame.tree above.node x.node ≡ true → CanReport board.frame.tree m3.0 x
    can-report below =
        owes-reports board.frame.tree x above.node with_it m3 (child-parent board.frame.tree above.node x.node below) owes-before calm-before

    -- between the finish and the report each start can begin still
    starts-before : AllCanStart board m3
    starts-before =
        all-still board m2 m3 told.keeps.owed
        (λ y owed owes inside lies. ap (λ (cs : List (ℕ × Option Item)). kept (slot_of board.frame.layout y) cs) told.keeps.homes ∙ lies) told.keeps.aside.sees
        (finish-starts board x parcel m m2 can.inner home-full can.elsewhere finished can.starts)

    held-before : m3.0.held ≡ without (λ (e : Held Entry). e.name) m.0.held x
    held-before =
        told.keeps.held ∙ finish-held board x parcel m m2 can.inner home-full can.elsewhere finished

    owed-before : m3.0.owed ≡ m.0.owed
    owed-before =
        told.keeps.owed ∙ finish-owed board x parcel m m2 can.inner home-full can.elsewhere finished

    module _ (m4 : Seated Item Entry) (report : Report) (reported : IsReportedAs ghosts board.frame x report m3 m4) where
      pub delivered : Delivers board x (next_after board.frame.tree x report) m m4
      delivered =
          record {
            parcel = parcel;
            home = home-full;
            done = m2;
            finished = finished;
            last = m3;
            told = told.keeps;
            fails = λ source fails. told.marks source (can.off fails);
            acts = told.acts;
            report = report;
            reported = reported;
            next_is = refl;
          }

      -- what it left as it was, and the report took off again
      same-after : aside_of m4.0 ≡ aside_of m.0
      same-after =
          let named = λ (e : Reported Item Entry). e.name in
          report-aside board x m3 m4 report reported
          ∙ ap {A = Aside} (λ a. record a { reported = without named a.reported x })
          (told.keeps.aside.same ∙ finish-aside board x parcel m m2 can.inner home-full can.elsewhere finished)
          ∙ ap {A = List (Reported Item Entry)} (λ l. record (aside_of m.0) { reported = l })
          (cond-true (same x x) m.0.reported (with_it ∷ without named m.0.reported x) (same-refl x))

      aside-after : KeepsAside m m4
      aside-after =
          let f = entry (control_index board x) finished.read finished.left in
          let r = report-steps board x m3 m4 report reported in
          let s = entry (control_index board above) r.0 r.1 in
          let told_fresh = told.keeps.aside.fresh in
          record {
            same = same-after;
            fresh = s ∷ told_fresh ++ f ∷ [];
            grown = r.2
                ∙ ap (λ (l : List Seen). s ∷ l)
                (told.keeps.aside.grown
                ∙ ap (λ (l : List Seen). told_fresh ++ l)
                (finish-steps board x parcel m m2 can.inner home-full can.elsewhere finished)
                ∙ sym (append_assoc told_fresh (f ∷ []) m.0.steps));
            sees = λ source is.
                ap (λ l. has_source_ref l source) (report-seen board x m3 m4 report reported)
                ∙ told.keeps.aside.sees source
                (finish-sees board x parcel m m2 can.inner home-full can.elsewhere finished source is);
          }

      -- and moved only words of places of the block
      moves-after : IsPlaceIn board above → MovesWithin board x m m4
      moves-after parent =
          let acts = told.acts in
          let r = report-steps board x m3 m4 report reported in
          let same_block : above.block ≡ x.block = ap (λ (y : Name). y.block) (sym (above-beside x (parent_of board.frame.tree x.node))) in
          moves-on board x m m2 m4
          (moves-control board x finished.read finished.left m m2 (finish-steps board x parcel m m2 can.inner home-full can.elsewhere finished))
          (moves-on board x m2 m3 m4
          (record { made = acts.steps.made; is = acts.steps.is; within = λ place. all-more board (Node x) above same_block acts.steps.made acts.within })
          (moves-beside board x above parent same_block m3 m4 (moves-control board above r.0 r.1 m3 m4 r.2)))

    module _ (m4 : Seated Item Entry) (seated : IsSeated board.frame.tree board.frame.layout m3) (parent : IsPlaceIn board above)
        (below : is_child board.frame.tree above.node x.node ≡ true) where
      -- the parent goes on, or others are pending
      pub stepped : (report : Report) → IsReportedAs ghosts board.frame x report m3 m4 → IsStepped board x m m4 (next_after board.frame.tree x report)
      stepped Last reported =
          let did = reported.4 in
          let i = control_index board above in
          record {
            aside = aside-after m4 Last reported;
            moves = moves-after m4 Last reported parent;
            starts = all-still board m3 m4 (ap (λ (z : Seated Item Entry). z.0.owed) did.me_is)
                (last-homes board above x i reported.0 reported.1 m3 m4 did seated starts-before)
                (λ source is. ap (λ (z : Seated Item Entry). has_source_ref z.0.seen source) did.me_is ∙ is) starts-before;
            owes = owes-no-more board x m m4 (ap (λ (z : Seated Item Entry). z.0.owed) did.me_is ∙ owed-before);
            goes = subst (GoesTo board x m m4) (sym (above-beside x (parent_of board.frame.tree x.node)))
                (record {
                  held = _;
                  holds = ap (λ (z : Seated Item Entry). z.0.held) did.me_is ∙ ap (λ (l : List (Held Entry)). held_as above did.start did.named did.told did.told_children (Some did.lot) ∷ l) held-before;
                  can = last-steps board above x i reported.0 reported.1 m3 m4 did seated starts-before parent
                      (over-places board (plan_at board) above can.over parent) calm-before unrun-before with_it owes-before below;
                });
          }
      stepped Others reported =
          let is = reported.4 in
          record {
            aside = aside-after m4 Others reported;
            moves = moves-after m4 Others reported parent;
            starts = all-still board m3 m4 (ap (λ (z : Seated Item Entry). z.0.owed) is)
                (λ y owed owes inside lies. ap (λ (z : Seated Item Entry). kept (slot_of board.frame.layout y) z.1) is ∙ lies)
                (λ source seen. ap (λ (z : Seated Item Entry). has_source_ref z.0.seen source) is ∙ seen) starts-before;
            owes = owes-no-more board x m m4 (ap (λ (z : Seated Item Entry). z.0.owed) is ∙ owed-before);
            goes = ap (λ (z : Seated Item Entry). z.0.held) is ∙ held-before;
          }
