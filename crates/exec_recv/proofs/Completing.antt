-- How a node delivers: its parcel is put into its home, it is finished, and reported.
use Rattle.std.proofs.Common.{◌≡◌, inl, ℕ, Bool, true, false, ◌||◌, ◌==◌, ◌∷◌, refl, sym, ap, ◌∙◌}
use Rattle.std.specs.Prelude.{Option, Some, None, MatchOption}
use Rattle.std.specs.List.{list_any}
use Rattle.life_rules.specs.declared.event.Name.{Name}
use Rattle.life_rules.specs.declared.words.CallbackPhase.{CallbackPhase}
use Rattle.life_rules.specs.declared.words.ControlWord.TheVariants.{Busy, Done as IsDone}
use Rattle.listed_words.specs.Lists.{entry}
use Rattle.node_tree.specs.Tree.{is_root}
use Rattle.plan_shape.specs.Blueprint.{Blueprint}
use Rattle.table_words.specs.Layouts.{place_number}
use Rattle.table_rules.specs.declared.view.Held.{Held}
use Rattle.table_rules.specs.declared.view.Reported.{Reported}
use Rattle.table_rules.specs.ShownViews.{has_source_ref}
use Rattle.table_rules.specs.Named.{without}
use Rattle.table_steps.specs.Views.{Board, aimed, aim_at}
use Rattle.table_steps.specs.Seats.{Seated}
use Rattle.table_steps.specs.Finishes.{is_settled, CanFinish, FinishesAt, FinishedAt}
use Rattle.table_steps.specs.Lefts.{LeavesControl}
use Rattle.table_steps.specs.Readings.{above_it}
use Rattle.table_steps.specs.Reports.{IsReportedAs}
use Rattle.table_steps.specs.Slots.{slot_of, kids_of, kept, is_of_family, has_seen}
use Rattle.table_steps.specs.Steps.{control_index}
use Rattle.table_steps.specs.declared.report.Report.{Report}
use Rattle.table_steps.specs.declared.report.Report.TheVariants.{Last, Others}
use Rattle.op_slot.specs.Tends.{IsCalm, OwesReport}
use Rattle.op_slot.proofs.Leaving.{tends-finishes, finished-owes, finished-calm}
use Rattle.op_slot.proofs.Kept.{kept-shed}
use Rattle.home_items.specs.contracts.item.ItemCargo.TheImpl.{ghosts}
use Rattle.home_items.specs.declared.entry.Entry.{Entry}
use Rattle.home_items.specs.declared.item.Item.{Item}
use Rattle.home_items.specs.Contents.{Done}
use Rattle.home_items.specs.Items.{start_in}
use Rattle.home_items.specs.Fits.{FitsHome}
use Rattle.home_items.specs.Parcels.{Delivery}
use Rattle.exec_recv.specs.Asides.{Aside, aside_of, SeesMore}
use Rattle.exec_recv.specs.Beginnings.{AllCanStart}
use Rattle.exec_recv.specs.Deliveries.{CanDeliver}
use Rattle.exec_recv.specs.Family.{AreOwedElsewhere}
use Rattle.exec_recv.specs.Seats.{HandSeat}
use Rattle.exec_recv.proofs.Starts.{KeepsHomes, all-still}

or-left : (a b : Bool) → (a || b) ≡ false → a ≡ false
or-left true b is = cc
or-left false b is = refl

-- a home that isn't of the family isn't the node's own
own-apart : (board : Board Blueprint) (x y : Name) → is_of_family board.frame.tree board.frame.layout x (slot_of board.frame.layout y) ≡ false →
    (slot_of board.frame.layout x == slot_of board.frame.layout y) ≡ false
own-apart board x y apart =
    or-left (slot_of board.frame.layout x == slot_of board.frame.layout y)
    (list_any (λ n. place_number board.frame.layout x.block n == slot_of board.frame.layout y) (kids_of board.frame.tree x.node)) apart

inside-same : (a b : Item) → Some (Some a) ≡ Some (Some b) → a ≡ b
inside-same a b e = cc

-- The node x has its parcel in its home.
module _ (board : Board Blueprint) (x : Name) (failed : Bool) (hand : HandSeat) (can : CanDeliver board x failed hand) where
  completion-fits : FitsHome (Done can.parcel) x.node (has_seen board.frame.tree hand.me.0 x || can.held.told)
  completion-fits = (inl can.item, can.calmly)

  pub can-finish : CanFinish ghosts board.frame hand.me x
  can-finish = of can.held.phase refl can.settled
    where
      of : (phase : Option CallbackPhase) → can.held.phase ≡ phase → MatchOption phase ⊥ (λ p. is_settled p ≡ true) →
          CanFinish ghosts board.frame hand.me x
      of None is settled = absurd settled
      of (Some phase) is settled =
          tends-finishes ghosts board.frame x hand.me can.held (λ _. None) can.calm (λ n child. refl) (Done can.parcel) phase can.tends is
          settled can.bound can.shows completion-fits tt

-- It is finished with it.
module _ (board : Board Blueprint) (x : Name) (parcel : Delivery) (m1 m2 : Seated Item Entry) (inner : is_root board.frame.tree x.node ≡ false)
    (home : kept (slot_of board.frame.layout x) m1.1 ≡ Some (Some (Done parcel))) (elsewhere : AreOwedElsewhere board x m1)
    (finished : LeavesControl (aim_at board x) (Busy 0) IsDone (FinishesAt ghosts (aim_at board x)) m1 m2) where
  pub ended : FinishedAt ghosts (aimed board.frame x) (control_index board x) finished.read finished.left m1 m2
  ended = finished.did.0 inner

  -- what the hand owes the report with
  abbrev pub reported_with : Reported Item Entry
  reported_with = record { name = x; start = start_in ended.item; item = ended.item }

  pub item-is : ended.item ≡ Done parcel
  item-is = inside-same ended.item (Done parcel) (sym ended.home ∙ home)

  pub finish-owes : OwesReport x reported_with m2
  finish-owes = finished-owes board.frame x m1 m2 (control_index board x) finished.read finished.left ghosts ended

  pub finish-held : m2.0.held ≡ without (λ (e : Held Entry). e.name) m1.0.held x
  finish-held = ap (λ (z : Seated Item Entry). z.0.held) ended.me_is

  pub finish-owed : m2.0.owed ≡ m1.0.owed
  finish-owed = ap (λ (z : Seated Item Entry). z.0.owed) ended.me_is

  pub finish-calm : IsCalm m1 → IsCalm m2
  finish-calm calm = finished-calm board.frame x m1 m2 (control_index board x) finished.read finished.left ghosts ended calm

  pub finish-steps : m2.0.steps ≡ entry (control_index board x) finished.read finished.left ∷ m1.0.steps
  finish-steps = ap (λ (z : Seated Item Entry). z.0.steps) ended.me_is

  pub finish-sees : SeesMore m1 m2
  finish-sees source is = ap (λ (z : Seated Item Entry). has_source_ref z.0.seen source) ended.me_is ∙ is

  -- the report that it owes is all that is new beside the nodes
  pub finish-aside : aside_of m2.0 ≡ record (aside_of m1.0) { reported = reported_with ∷ m1.0.reported }
  finish-aside = ap (λ (z : Seated Item Entry). aside_of z.0) ended.me_is

  finish-homes : KeepsHomes board m1 m2
  finish-homes y owed owes inside lies =
      let slot = slot_of board.frame.layout y in
      ap (λ (z : Seated Item Entry). kept slot z.1) ended.me_is
      ∙ kept-shed (is_of_family board.frame.tree board.frame.layout x) slot m1.1 (elsewhere y owed owes) ∙ lies

  pub finish-starts : AllCanStart board m1 → AllCanStart board m2
  finish-starts =
      all-still board m1 m2 finish-owed finish-homes finish-sees

-- Then it is reported: the parent waits for others, or the hand holds it and may step it.
module _ (board : Board Blueprint) (x : Name) (m3 m4 : Seated Item Entry) where
  -- the hand owes the report no more, and nothing else is new beside the nodes
  abbrev taken_off : Aside → Aside
  taken_off a = record a { reported = without (λ (e : Reported Item Entry). e.name) a.reported x }

  pub report-aside : (report : Report) → IsReportedAs ghosts board.frame x report m3 m4 → aside_of m4.0 ≡ taken_off (aside_of m3.0)
  report-aside Last (found, left, down, one, did) = ap (λ (z : Seated Item Entry). aside_of z.0) did.me_is
  report-aside Others (found, left, down, more, is) = ap (λ (z : Seated Item Entry). aside_of z.0) is

  pub report-seen : (report : Report) → IsReportedAs ghosts board.frame x report m3 m4 → m4.0.seen ≡ m3.0.seen
  report-seen Last (found, left, down, one, did) = ap (λ (z : Seated Item Entry). z.0.seen) did.me_is
  report-seen Others (found, left, down, more, is) = ap (λ (z : Seated Item Entry). z.0.seen) is

  pub report-steps : (report : Report) → IsReportedAs ghosts board.frame x report m3 m4 →
      (read : ℕ) × (left : ℕ) × (m4.0.steps ≡ entry (control_index board (above_it board.frame.tree x)) read left ∷ m3.0.steps)
  report-steps Last (found, left, down, one, did) = (found, left, ap (λ (z : Seated Item Entry). z.0.steps) did.me_is)
  report-steps Others (found, left, down, more, is) = (found, left, ap (λ (z : Seated Item Entry). z.0.steps) is)
