-- How the step of a part goes on.
use Rattle.std.proofs.Common.{◌≡◌, inl, inr, ℕ, ◌+◌, ◌<◌, Bool, true, false, List, [], ◌∷◌, Some, None, refl, sym, ap, ap₂, ◌∙◌, subst, arith}
use Rattle.std.specs.Prelude.{Contains, IfOk, Result, Ok, Err, slice_get}
use Rattle.std.specs.declared.alloc.AllocError.{AllocError}
use Rattle.std.specs.List.{range_with_len}
use Rattle.std.proofs.lemmas.List.Elements.{Contains-append_right}
use Rattle.std.proofs.lemmas.Option.{same_Some}
use Rattle.exec_value.specs.declared.data.Datum.{Datum}
use Rattle.exec_value.specs.declared.data.Datum.TheVariants.{Row}
use Rattle.exec_value.specs.declared.outcome.Completion.{Completion}
use Rattle.exec_value.specs.declared.outcome.Completion.TheVariants.{NoMemory}
use Rattle.exec_job.specs.declared.job.Job.{Job}
use Rattle.life_rules.specs.declared.event.Name.{Name}
use Rattle.life_kept.proofs.Trees.{child-one}
use Rattle.node_tree.specs.Tree.{is_child}
use Rattle.plan_rules.specs.Bulks.{job_of_bulk, part_ending}
use Rattle.plan_rules.specs.declared.node.Node.TheVariants.{Bulk, Part}
use Rattle.plan_shape.specs.Blueprint.{Blueprint, IsPlan}
use Rattle.plan_shape.specs.Forest.{IsPartOf}
use Rattle.plan_shape.specs.PlanTree.{tree_of}
use Rattle.plan_shape.specs.declared.limits.TheConstants.{BULK_PARTS}
use Rattle.plan_kinds.proofs.Placing.{no-part}
use Rattle.plan_kinds.proofs.Trees.{trees-show}
use Rattle.table_steps.specs.Views.{Board}
use Rattle.home_items.specs.declared.entry.Entry.{Entry}
use Rattle.home_items.specs.declared.item.State.{State}
use Rattle.home_items.specs.Below.{ByNode}
use Rattle.home_items.specs.Bounds.{least_of}
use Rattle.home_items.specs.Contents.{Done}
use Rattle.home_items.specs.Entries.{plan_of, plan_node, args_of, carried_of, carried_by, row_in, whole_row}
use Rattle.home_items.specs.Parcels.{MayDeliver, parcel_with}
use Rattle.home_items.specs.Shares.{part_args}
use Rattle.home_items.specs.Starts.{IsStart}
use Rattle.home_items.proofs.Collecting.{receiver-none}
use Rattle.home_items.proofs.Standing.{stands-below}
use Rattle.exec_recv.specs.Seats.{HandSeat}
use Rattle.exec_recv.specs.Sites.{node_at, plan_at}
use Rattle.exec_recv.specs.Steppable.{CanStep}
use Rattle.start_laws.specs.Nodes.{IsStartOf}
use Rattle.start_laws.proofs.Bounding.{few-begun}
use Rattle.start_laws.proofs.LeafCases.{leaves-allowed}
use Rattle.start_laws.proofs.Pairs.{none-some}
use Rattle.exec_recv.specs.declared.next.Next.{Next}
use Rattle.step_parts.specs.Completes.{Completes, MayEnd}
use Rattle.step_parts.specs.Leaves.{MayLeave}
use Rattle.step_parts.specs.Stepping.{Stepping}
use Rattle.step_parts.specs.Takes.{IsTaken, Keeps, TakesState}
use Rattle.step_parts.proofs.Ended.{open-none, open-taken, taken-on}
use Rattle.step_parts.proofs.Frames.{keeps-on, ready-less}
use Rattle.step_parts.proofs.Took.{taken-inner, taken-leaves, taken-of}
use Rattle.exec_bulk.specs.Elements.{share_ending}
use Rattle.exec_bulk.specs.Kinds.{HasBulk}
use Rattle.exec_bulk.specs.Parts.{share_done, MayRunPart}
use Rattle.exec_bulk.specs.Rows.{first_part}
use Rattle.exec_bulk.proofs.Places.{bulk-behind, part-kids, part-large}
use Rattle.exec_bulk.proofs.Ranges.{place-range}

same-part : (a b : ℕ) (one other : ℕ) → Part a one ≡ Part b other → one ≡ other
same-part a b one other e = cc

-- What goes on below a start, and is a part, has its share of the row that it shows as its arguments.
module _ (e p : Entry) (above : List Entry) (starts : IsStart (e ∷ p ∷ above)) (is_plan : IsPlan p.plan) (bulk part : ℕ)
    (at : slice_get p.plan.nodes e.node ≡ Some (Part bulk part)) where
  made : IsPartOf p.plan.nodes e.node bulk part
  made = (is_plan.forest.each e.node (Part bulk part) at).made

  abbrev child : ℕ
  child = made.bulk_stands.0

  abbrev job : Job
  job = made.bulk_stands.1

  -- it stands below its bulk
  above-is : p.node ≡ bulk
  above-is =
      let tree = tree_of p.plan.nodes in
      let place : first_part bulk + part ≡ e.node = (let behind = bulk-behind p.plan is_plan bulk child job made.bulk_stands.2 in omega (arith, made.place, made.within, behind)) in
      let below : is_child tree bulk e.node ≡ true =
      (((trees-show p.plan is_plan).each bulk (Bulk child job) made.bulk_stands.2).children e.node).1 (
        Contains-append_right (child ∷ []) (range_with_len (first_part bulk) BULK_PARTS) e.node
            (subst (Contains (range_with_len (first_part bulk) BULK_PARTS)) place (place-range (first_part bulk) BULK_PARTS part made.within)),
        refl,
      ) in
      child-one tree p.node bulk e.node (stands-below e p is_plan above starts) below

  shares-below : e.args ≡ part_args e.whole part
  shares-below =
      let owner : plan_node p ≡ Some (Bulk child job) = ap (slice_get p.plan.nodes) above-is ∙ made.bulk_stands.2 in
      let by : ByNode (Some (Bulk child job)) true e p = subst (λ o. ByNode o true e p) owner starts.0.under.by in
      elim by [
        | inl run ↦ absurd (no-part p.plan.nodes is_plan.forest p.node e.node bulk part (Bulk child job) owner run.runs at)
        | inr is ↦
            is.args ∙ ap (part_args e.whole)
            (same-part p.node bulk is.part part (same_Some (Part p.node is.part) (Part bulk part) (sym is.node ∙ at)))
      ]

-- so it is of a start of a part, which runs with the row
pub part-shares : (start : List Entry) (bulk part : ℕ) → IsStartOf start (Part bulk part) →
    (args_of start ≡ part_args (whole_row start) part) × (carried_of start ≡ Row (whole_row start) ∷ [])
part-shares [] bulk part of = absurd of.start_is
part-shares (e ∷ []) bulk part of = none-some (sym (receiver-none e of.start_is) ∙ of.node_is)
part-shares (e ∷ p ∷ above) bulk part of =
    let same = of.start_is.0.under.plan in (
      shares-below e p above of.start_is (subst IsPlan same of.runnable.plan_is) bulk part
          (ap (λ (b : Blueprint). slice_get b.nodes e.node) (sym same) ∙ of.node_is),
      ap (λ o. carried_by o e) of.node_is,
    )

-- The step of a part goes on.
module _ (board : Board Blueprint) (t : Stepping) (bulk part : ℕ) (hand : HandSeat) (may : MayRunPart board t bulk part hand) where
  pub part-start : IsStartOf t.start (Part bulk part)
  part-start = taken-of board t hand may.taken (Part bulk part) may.node_is

  -- its bulk stands in the plan
  stands : IsPartOf (plan_at board).nodes t.name.node bulk part
  stands = (may.taken.site.over.is_plan.forest.each t.name.node (Part bulk part) may.node_is).made

  pub its-bulk : HasBulk (plan_at board).nodes bulk
  its-bulk = stands.bulk_stands

  pub part-within : part < BULK_PARTS
  part-within = stands.within

  -- what the job makes of its share is what it ends with
  pub share-is : (job : Job) (child : ℕ) → slice_get (plan_at board).nodes bulk ≡ Some (Bulk child job) → (row : List Datum) →
      row ≡ carried_of t.start → share_ending job row part ≡ share_done board t bulk part
  share-is job child at row row_is =
      let has : job_of_bulk (plan_at board).nodes bulk ≡ Some job = rw at refl in
      let shares = part-shares t.start bulk part part-start in
      ap (λ (r : List Datum). share_ending job r part) (row_is ∙ shares.1) ∙ sym (ap₂ part_ending has shares.0)

  pub row-carried : (row : List Datum) → row ≡ carried_of t.start → row ≡ Row (row_in row) ∷ []
  row-carried row row_is =
      let is : row ≡ Row (whole_row t.start) ∷ [] = row_is ∙ (part-shares t.start bulk part part-start).1 in
      is ∙ ap (λ (r : List Datum). Row (row_in r) ∷ []) (sym is)

  pub share-ends : (done : Completion) → done ≡ share_done board t bulk part → MayEnd board t done false hand
  share-ends done same =
      let own = parcel_with t.start done false in
      let of = part-start in
      let plan : plan_of t.start ≡ plan_at board = may.taken.ready.is.key in
      let none : least_of (Done own) ≡ 0 = few-begun.leaf own (Part bulk part) of.node_is tt in
      record {
        taken = may.taken;
        inner = taken-inner board t hand may.taken (Part bulk part) may.node_is;
        allowed = subst (λ (c : Completion). MayDeliver t.start false c)
            (ap (λ (b : Blueprint). part_ending (job_of_bulk b.nodes bulk) (args_of t.start)) plan ∙ sym same)
            (leaves-allowed.unseen t.start (Part bulk part) of tt);
        few = ready-less board t.name t.start hand.me 0 (least_of (Done own)) (omega (arith, none)) may.taken.ready;
        sees = λ silent. refl;
        small = λ small. absurd (part-large t.start bulk part of small);
      }

  pub share-wants : MayEnd board t NoMemory false hand
  share-wants = record {
    taken = may.taken;
    inner = taken-inner board t hand may.taken (Part bulk part) may.node_is;
    allowed = inl refl;
    few = ready-less board t.name t.start hand.me 0 (least_of (Done (parcel_with t.start NoMemory false))) (omega arith) may.taken.ready;
    sees = λ silent. refl;
    small = λ small. absurd (part-large t.start bulk part part-start small);
  }

-- after a call that keeps the part it goes on, and what it completes with it completes with from before
module _ (board : Board Blueprint) (t : Stepping) where
  pub part-on : (bulk part : ℕ) (old new : HandSeat) → Keeps board t old new → MayRunPart board t bulk part old → MayRunPart board t bulk part new
  part-on bulk part old new keeps may = record { taken = taken-on board t old new keeps may.taken; node_is = may.node_is }

  pub completes-after : (done : Completion) (saw : Bool) (old between : HandSeat) → Keeps board t old between → (next : Next) (new : HandSeat) →
      Completes board t done saw next between new → Completes board t done saw next old new
  completes-after done saw old between keeps next new is =
      record {
        steps = is.steps;
        settled = is.settled;
        keeps = keeps-on board t.name old.me between.me is.settled keeps.ready is.keeps;
        full = is.full;
        was = is.was;
        put = is.put;
        delivers = is.delivers;
        parcel_is = is.parcel_is;
      }

-- A part was taken up: it has no children.
module _ (board : Board Blueprint) (x : Name) (t : Stepping) (state : State) (old up : HandSeat) (takes : TakesState board x t state old up)
    (can : CanStep board x old.me) (bulk part : ℕ) (at : node_at board x ≡ Some (Part bulk part)) where
  its : node_at board t.name ≡ Some (Part bulk part)
  its = ap (node_at board) takes.name_is ∙ at

  part-taken : IsTaken board t up
  part-taken =
      let lies = takes.opened can in
      open-taken board t can.item up
      (open-none board t can.item can.kid up lies (λ k below. absurd (part-kids board t.name bulk part lies.site its k below)))

  pub part-runs : MayRunPart board t bulk part up
  part-runs = record { taken = part-taken; node_is = its }

  -- it may be left with its start alone
  pub part-leaves : MayLeave board t None up
  part-leaves = taken-leaves board t up part-taken (Part bulk part) its tt None tt

-- what holds of what was answered holds of the same said otherwise
pub mapped : (o : Result Completion AllocError) (a b : Completion) → a ≡ b → IfOk o (λ done. done ≡ a) → IfOk o (λ done. done ≡ b)
mapped (Err none) a b same is = tt
mapped (Ok done) a b same is = is ∙ same
