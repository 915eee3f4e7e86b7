-- How a bulk completes.
use Rattle.std.proofs.Common.{◌≡◌, inl, ℕ, ◌≤◌, Bool, false, ℤ, [], ◌∷◌, refl, sym, ap, ◌∙◌, subst, arith}
use Rattle.std.specs.Prelude.{List, Some}
use Rattle.exec_value.specs.declared.data.Datum.TheVariants.{Row}
use Rattle.exec_value.specs.declared.outcome.Completion.{Completion}
use Rattle.exec_value.specs.declared.outcome.Completion.TheVariants.{Value, NoMemory}
use Rattle.exec_job.specs.declared.job.Job.{Job}
use Rattle.plan_rules.specs.Bulks.{each_of, row_ending, bulk_of}
use Rattle.plan_rules.specs.declared.node.Node.TheVariants.{Bulk}
use Rattle.plan_shape.specs.Blueprint.{Blueprint}
use Rattle.table_steps.specs.Views.{Board}
use Rattle.home_items.specs.declared.entry.Entry.{Entry}
use Rattle.home_items.specs.Contents.{Rest, Done}
use Rattle.home_items.specs.Bounds.{least_of, least_at_rest, least_when_done}
use Rattle.home_items.specs.Parcels.{Delivery, MayDeliver, parcel_with}
use Rattle.exec_recv.specs.Seats.{HandSeat}
use Rattle.exec_recv.specs.Sites.{node_at}
use Rattle.start_laws.specs.BulkLaws.{front_made}
use Rattle.start_laws.specs.Nodes.{IsStartOf}
use Rattle.start_laws.proofs.ImageCases.{images-allowed}
use Rattle.step_parts.specs.Completes.{MayEnd}
use Rattle.step_parts.specs.Stepping.{Stepping}
use Rattle.step_parts.specs.Takes.{IsTaken}
use Rattle.step_parts.proofs.Frames.{ready-less}
use Rattle.step_parts.proofs.Took.{taken-inner, taken-of}
use Rattle.exec_bulk.specs.declared.joining.Made.{Made}
use Rattle.exec_bulk.specs.Begins.{MayGoOn}
use Rattle.exec_bulk.specs.Ends.{MayPass, MayEndParts}
use Rattle.exec_bulk.specs.Rows.{numbers_in, parts_for}
use Rattle.exec_bulk.proofs.Making.{whole-made, least-row, passes-none, least-none, row-is}
use Rattle.exec_bulk.proofs.Places.{bulk-large}

-- so many parts a bulk has begun when it rests with a row
pub least-kept : (child : ℕ) (job : Job) (start : List Entry) (kept : Delivery) → IsStartOf start (Bulk child job) → (whole : List ℤ) →
    kept.completion ≡ Value (Row whole ∷ []) → least_of (Rest start (Some kept)) ≡ parts_for whole
least-kept child job start kept of whole row =
    ap (λ o. least_at_rest o (Some kept)) of.node_is
    ∙ ap (λ (c : Completion). least_at_rest (Some (Bulk child job)) (Some (record kept { completion = c }))) row

-- A bulk may end with want of memory from wherever its children's homes are empty.
pub want-ends : (board : Board Blueprint) (t : Stepping) (child : ℕ) (job : Job) (hand : HandSeat) → IsTaken board t hand →
    node_at board t.name ≡ Some (Bulk child job) → MayEnd board t NoMemory false hand
want-ends board t child job hand taken at =
    let of = taken-of board t hand taken (Bulk child job) at in
    record {
      taken = taken;
      inner = taken-inner board t hand taken (Bulk child job) at;
      allowed = inl refl;
      few = ready-less board t.name t.start hand.me 0 (least_of (Done (parcel_with t.start NoMemory false))) (omega arith) taken.ready;
      sees = λ none. refl;
      small = λ small. absurd (bulk-large t.start child job of small);
    }

-- the child completed with no row, or with an empty one
module _ (board : Board Blueprint) (t : Stepping) (parcel : Delivery) (hand : HandSeat) (may : MayPass board t parcel hand) where
  abbrev on : MayGoOn board t parcel hand
  on = may.goes_on

  of : IsStartOf t.start (Bulk on.child on.job)
  of = taken-of board t hand on.taken (Bulk on.child on.job) on.node_is

  pass-ends : MayEnd board t parcel.completion parcel.saw hand
  pass-ends =
      let done = parcel_with t.start parcel.completion parcel.saw in
      let few : least_of (Done done) ≤ 1 =
      subst (λ o. least_when_done o parcel.completion ≤ 1) (sym of.node_is) (least-none on.job on.child parcel.completion may.none) in
      record {
        taken = on.taken;
        inner = taken-inner board t hand on.taken (Bulk on.child on.job) on.node_is;
        allowed = subst (λ (c : Completion). MayDeliver t.start parcel.saw c) (passes-none on.job parcel.completion may.none)
            (images-allowed t.start (Bulk on.child on.job) of parcel on.has.from.delivers on.has.from.child tt tt);
        few = ready-less board t.name t.start hand.me 1 (least_of (Done done)) few on.has.ready;
        sees = on.has.from.saw;
        small = λ small. absurd (bulk-large t.start on.child on.job of small);
      }

  pub passed-ends : (done : Completion) (saw : Bool) → done ≡ parcel.completion → saw ≡ parcel.saw → MayEnd board t done saw hand
  passed-ends done saw same same_saw = rw (same, same_saw) pass-ends

-- the parts are done
module _ (board : Board Blueprint) (t : Stepping) (saw : Bool) (made : Made) (hand : HandSeat) (may : MayEndParts board t saw made hand) where
  abbrev whole : List ℤ
  whole = numbers_in may.kept.completion

  abbrev ending : Completion
  ending = row_ending (each_of may.job 0 whole)

  its : IsStartOf t.start (Bulk may.child may.job)
  its = taken-of board t hand may.taken (Bulk may.child may.job) may.node_is

  row : may.kept.completion ≡ Value (Row whole ∷ [])
  row = row-is may.kept.completion may.some

  row-ends : MayEnd board t ending may.kept.saw hand
  row-ends =
      let done = parcel_with t.start ending may.kept.saw in
      let rests = least-kept may.child may.job t.start may.kept its whole row in
      let few : least_of (Done done) ≤ parts_for whole =
      subst (λ o. least_when_done o ending ≤ parts_for whole) (sym its.node_is) (least-row may.job may.child whole may.some) in
      record {
        taken = may.taken;
        inner = taken-inner board t hand may.taken (Bulk may.child may.job) may.node_is;
        allowed = subst (λ (c : Completion). MayDeliver t.start may.kept.saw c) (ap (bulk_of may.job) row)
            (images-allowed t.start (Bulk may.child may.job) its may.kept may.from.delivers may.from.child tt tt);
        few = ready-less board t.name t.start hand.me (least_of (Rest t.start (Some may.kept))) (least_of (Done done)) (omega (arith, rests, few))
            may.ready;
        sees = may.from.saw;
        small = λ small. absurd (bulk-large t.start may.child may.job its small);
      }

  -- what came together is that
  pub made-ends : (done : Completion) → done ≡ row_ending (front_made may.job whole (parts_for whole)) → MayEnd board t done saw hand
  made-ends done same =
      let is : done ≡ ending = same ∙ ap row_ending (whole-made may.job whole) in
      let saw_is = may.saw_is in
      rw (is, saw_is) row-ends
