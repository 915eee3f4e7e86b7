-- What lies in the homes below a bulk that may be stepped, by what its last await fixed: with a row at hand nothing in the child's,
-- without one nothing in the parts'.
use Rattle.std.proofs.Common.{◌≡◌, inl, inr, ℕ, ◌+◌, ◌<◌, ◌≤◌, true, ℤ, List, [], ◌∷◌, length, Some, None, refl, sym, ap, ◌∙◌, arith}
use Rattle.std.specs.Prelude.{slice_get}
use Rattle.std.proofs.lemmas.Option.{same_Some}
use Rattle.common_lemmas.proofs.Options.{known}
use Rattle.exec_job.specs.declared.job.Job.{Job}
use Rattle.life_rules.specs.declared.event.Name.{Name}
use Rattle.node_tree.specs.Tree.{is_child}
use Rattle.plan_rules.specs.declared.node.Node.TheVariants.{Bulk, Part}
use Rattle.plan_shape.specs.Blueprint.{Blueprint}
use Rattle.plan_shape.specs.declared.limits.TheConstants.{BULK_PARTS}
use Rattle.table_steps.specs.Seats.{Seated}
use Rattle.table_steps.specs.Views.{Board}
use Rattle.home_items.specs.declared.entry.Entry.{Entry}
use Rattle.home_items.specs.declared.item.Item.{Item}
use Rattle.home_items.specs.Contents.{Done}
use Rattle.home_items.specs.Entries.{plan_of, node_of, drawn_by, drawn_of, no_row, row_lot, whole_row}
use Rattle.home_items.specs.Items.{start_in, lot_of}
use Rattle.home_items.specs.Parcels.{Delivery, IsDelivery}
use Rattle.home_items.proofs.Lots.{no-row, part-no-row, part-row, plain-draws}
use Rattle.home_items.proofs.Reading.{child-fits, held-fits}
use Rattle.exec_recv.specs.Sites.{node_at, plan_at, IsSite}
use Rattle.exec_recv.specs.Steppable.{CanStep, IsDoneBelow}
use Rattle.exec_recv.proofs.Places.{over-places}
use Rattle.plan_rules.specs.Bulks.{row_ending}
use Rattle.start_laws.specs.BulkLaws.{share_made}
use Rattle.start_laws.specs.Holding.{IsDoneBelow as EndedBelow}
use Rattle.start_laws.specs.Nodes.{IsStartOf}
use Rattle.start_laws.proofs.Rows.{parts-make}
use Rattle.exec_bulk.specs.Made.{IsOfShare}
use Rattle.exec_bulk.specs.Rows.{first_part}
use Rattle.exec_bulk.proofs.Places.{bulk-child, bulk-large, bulk-parts, child-plain, part-at}

none-some : (i : Item) → None ≡ Some i → ⊥
none-some i e = cc

-- below a start a child draws by the plan of that
draws-by : (e : Entry) (start : List Entry) → (start ≡ [] → ⊥) → drawn_of (e ∷ start) ≡ drawn_by (slice_get (plan_of start).nodes e.node) e.whole
draws-by e [] some = absurd (some refl)
draws-by e (p ∷ above) some = refl

-- What lies in the home of a child of a node that may be stepped.
module _ (board : Board Blueprint) (x : Name) (site : IsSite board) (m : Seated Item Entry) (can : CanStep board x m) (n : ℕ)
    (child : is_child board.frame.tree x.node n ≡ true) (done : Item) (full : can.kid n ≡ Some done) where
  -- so the last await fixed what the item fixes
  pub its-lot : can.held.lot ≡ Some (lot_of can.item)
  its-lot =
      elim can.came [
        | inl begun ↦ absurd (none-some done (sym (begun.empty n child) ∙ full))
        | inr later ↦ elim later [
          | inl was ↦ absurd (none-some done (sym (was.empty n child) ∙ full))
          | inr back ↦ back.lot
        ]
      ]

  abbrev below : IsDoneBelow can.held n done
  below = can.kids n done child full

  -- its start goes on with the node's
  number-is : below.entry.node ≡ n
  number-is =
      let own : node_of can.held.start ≡ x.node =
      sym (ap node_of can.shows) ∙ (held-fits can.item x.node can.held.told can.fit can.goes_on).node in
      sym (ap node_of below.below)
      ∙ (child-fits done n can.held.told_children below.fit below.entry can.held.start below.below
      (λ e. let less = (over-places board (plan_at board) x site.over can.place).kids n child in absurd (omega (arith, less, own, e)))).node

  start-some : can.held.start ≡ [] → ⊥
  start-some none =
      let empty : length (plan_at board).nodes ≡ 0 = ap (λ (b : Blueprint). length b.nodes) (sym can.key) ∙ ap (λ s. length (plan_of s).nodes) none in
      omega (arith, empty, site.over.is_plan.some)

  -- and draws what the node's item fixes, by the node that stands there
  pub kid-draws : lot_of can.item ≡ drawn_by (slice_get (plan_at board).nodes n) below.entry.whole
  kid-draws =
      same_Some (lot_of can.item) (drawn_of (start_in done)) (sym its-lot ∙ below.draws)
      ∙ ap drawn_of below.below ∙ draws-by below.entry can.held.start start-some
      ∙ ap (λ (b : Blueprint). drawn_by (slice_get b.nodes below.entry.node) below.entry.whole) can.key
      ∙ ap (λ k. drawn_by (slice_get (plan_at board).nodes k) below.entry.whole) number-is

-- of a bulk
module _ (board : Board Blueprint) (x : Name) (child : ℕ) (job : Job) (site : IsSite board) (at : node_at board x ≡ Some (Bulk child job))
    (m : Seated Item Entry) (can : CanStep board x m) where
  abbrev plan : Blueprint
  plan = plan_at board

  -- with a row at hand nothing lies in the child's home
  pub child-empty : (whole : List ℤ) → lot_of can.item ≡ row_lot whole → can.kid child ≡ None
  child-empty whole lot =
      known (can.kid child) (λ none. none)
      (λ done full.
      let here = bulk-child board x child job site at in
      let drawn = kid-draws board x site m can child here done full in
      let plain = plain-draws (slice_get plan.nodes child) (can.kids child done here full).entry.whole
      (child-plain plan site.over.is_plan x.node child job at) in
      absurd (no-row whole (sym lot ∙ drawn ∙ plain)))

  module _ (part : ℕ) (within : part < BULK_PARTS) where
    abbrev n : ℕ
    n = first_part x.node + part

    here : is_child board.frame.tree x.node n ≡ true
    here = bulk-parts board x child job site at part within

    at-part : slice_get plan.nodes n ≡ Some (Part x.node part)
    at-part = part-at plan site.over.is_plan x.node child job at part within

    lot-drawn : (done : Item) (full : can.kid n ≡ Some done) →
        lot_of can.item ≡ drawn_by (Some (Part x.node part)) (can.kids n done here full).entry.whole
    lot-drawn done full =
        kid-draws board x site m can n here done full ∙ ap (λ o. drawn_by o (can.kids n done here full).entry.whole) at-part

    -- without one nothing lies in a part's
    pub part-empty : lot_of can.item ≡ no_row → can.kid n ≡ None
    part-empty lot =
        known (can.kid n) (λ none. none)
        (λ done full. absurd (part-no-row x.node part (can.kids n done here full).entry.whole (sym (lot-drawn done full) ∙ lot)))

    -- with one the part there shows that row, which has a number for it
    row-drawn : (whole : List ℤ) → lot_of can.item ≡ row_lot whole → (done : Item) (full : can.kid n ≡ Some done) →
        ((can.kids n done here full).entry.whole ≡ whole) × (part < length (can.kids n done here full).entry.whole)
    row-drawn whole lot done full =
        part-row x.node part (can.kids n done here full).entry.whole whole (sym (lot-drawn done full) ∙ lot)

    -- nothing lies in that of a part for which it has none
    pub part-over : (whole : List ℤ) → lot_of can.item ≡ row_lot whole → length whole ≤ part → can.kid n ≡ None
    part-over whole lot past =
        known (can.kid n) (λ none. none)
        (λ done full.
        let drawn = row-drawn whole lot done full in
        let same : length (can.kids n done here full).entry.whole ≡ length whole = ap (λ (l : List ℤ). length l) drawn.0 in
        let less = drawn.1 in
        absurd (omega (arith, same, less, past)))

    -- what a part completed with is what the job makes of its share of the row
    pub part-share : (whole : List ℤ) → lot_of can.item ≡ row_lot whole → IsStartOf can.held.start (Bulk child job) →
        (parcel : Delivery) → can.kid n ≡ Some (Done parcel) → IsDelivery parcel → IsOfShare job whole part parcel.completion
    part-share whole lot of parcel full lawful memory =
        let done = can.kids n (Done parcel) here full in
        let own : node_of can.held.start ≡ x.node =
        sym (ap node_of can.shows) ∙ (held-fits can.item x.node can.held.told can.fit can.goes_on).node in
        let there : slice_get (plan_of can.held.start).nodes n ≡ Some (Part (node_of can.held.start) part) =
        ap (λ (b : Blueprint). slice_get b.nodes n) can.key ∙ at-part ∙ ap (λ k. Some (Part k part)) (sym own) in
        let ended : EndedBelow can.held.start parcel n true =
        record {
          delivers = lawful;
          entry = done.entry;
          shows = done.below;
          number = ap node_of done.below ∙ number-is board x site m can n here (Done parcel) full;
          small = λ small. absurd (bulk-large can.held.start child job of small);
          calm = λ e. cc;
          saw = λ e. cc;
        } in
        let row : whole_row parcel.start ≡ whole =
        ap whole_row done.below ∙ (row-drawn whole lot (Done parcel) full).0 in
        parts-make can.held.start child job of parcel n true ended part there memory
        ∙ ap (λ row. row_ending (share_made job row part)) row
