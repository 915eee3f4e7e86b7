-- The parts of a bulk: their starts, and what is made of their shares.
use Rattle.std.specs.Prelude.{slice_get}
use Rattle.std.proofs.Common.{◌≡◌, ℕ, zero, suc, ◌+◌, ◌-◌, ◌<◌, ◌≤◌, ℤ, Bool, true, false, List, [], ◌∷◌, ◌++◌, length, take, take_all, length-take-le, Some, None, Result, Ok, Err, inl, inr, refl, sym, ap, ap₂, ◌∙◌, subst, arith}
use Rattle.std.proofs.lemmas.Option.{same_Some}
use Rattle.exec_value.specs.declared.data.Datum.TheVariants.{Row}
use Rattle.exec_value.specs.declared.outcome.Completion.{Completion}
use Rattle.exec_value.specs.declared.outcome.Completion.TheVariants.{Value, NoMemory}
use Rattle.exec_job.specs.Element.{at_index}
use Rattle.exec_job.specs.declared.fault.JobFault.{JobFault}
use Rattle.exec_job.specs.declared.job.Job.{Job}
use Rattle.plan_rules.specs.declared.node.Node.{Node}
use Rattle.plan_rules.specs.declared.node.Node.TheVariants.{Bulk, Part}
use Rattle.plan_rules.specs.Bulks.{in_front, each_of, row_ending, job_of_bulk, part_ending}
use Rattle.plan_rules.specs.Seen.{seen_state}
use Rattle.plan_laws.proofs.Steps.{allowed-by-case}
use Rattle.plan_kinds.proofs.Placing.{no-part}
use Rattle.plan_kinds.proofs.Plans.{plans-built}
use Rattle.plan_shape.specs.Blueprint.{Blueprint, IsPlan}
use Rattle.plan_shape.specs.declared.limits.TheConstants.{BULK_PARTS}
use Rattle.home_items.specs.declared.entry.Entry.{Entry}
use Rattle.home_items.specs.Entries.{plan_of, node_of, whole_row, plan_node, start_below}
use Rattle.home_items.specs.HasKinds.{HasKinds}
use Rattle.home_items.specs.Below.{AllowedWith, IsPart, ByNode, GoesBelow}
use Rattle.home_items.specs.Starts.{IsStart}
use Rattle.home_items.specs.Parcels.{AllowedFor}
use Rattle.home_items.specs.Shares.{first_index, share_of, part_args}
use Rattle.home_items.proofs.Beginning.{goes-on}
use Rattle.home_items.proofs.Shares.{first-none, first-rises, first-last, shares-join}
use Rattle.start_laws.specs.Nodes.{IsStartOf}
use Rattle.start_laws.specs.BulkLaws.{PartsMayBegin, share_made, front_made, PartsMakeShares, made_behind, SharesAreMade}
use Rattle.start_laws.proofs.Pairs.{none-some, sole, start-kinds, delivers-allowed, child-allowed}
use Rattle.start_laws.proofs.Begun.{may-begin}
use Rattle.start_laws.proofs.Bodies.{SeesAll, entry-widens}

-- the entry of a part
abbrev part_entry : Entry → ℕ → List ℤ → ℕ → Entry
part_entry p n whole part = record {
  plan = p.plan;
  node = n;
  args = part_args whole part;
  number = p.number;
  asked = p.asked;
  whole = whole;
  child = None;
}

part-goes : (p : Entry) (child : ℕ) (job : Job) → plan_node p ≡ Some (Bulk child job) → (n part : ℕ) →
    slice_get p.plan.nodes n ≡ Some (Part p.node part) → (seen : Bool) (whole : List ℤ) →
    AllowedWith p seen child (Value (Row whole ∷ [])) → GoesBelow seen (part_entry p n whole part) p
part-goes p child job at n part here seen whole allowed =
    let e : Entry = part_entry p n whole part in
    let is : IsPart child seen e p = record { part = part; node = here; allowed = allowed; args = refl; asked = refl } in
    record {
      plan = refl;
      number = refl;
      child = refl;
      by = subst (λ o. ByNode o seen e p) (sym at) (inr is);
    }

row-memory : (done : Completion) (whole : List ℤ) → done ≡ Value (Row whole ∷ []) → done ≡ NoMemory → ⊥
row-memory done whole is want = cc

pub parts-begin : PartsMayBegin
parts-begin [] child job at parcel delivers of whole is n part here requested sees = none-some at.node_is
parts-begin (p ∷ above) child job at parcel delivers of whole is n part here requested sees =
    let node : Node = Bulk child job in
    let done = parcel.completion in
    let allowed = delivers-allowed parcel.start parcel.saw done delivers.may (row-memory done whole is) in
    let below = child-allowed parcel.start (p ∷ above) node at.node_is delivers.start of parcel.saw done allowed in
    let own : AllowedWith p parcel.saw child done =
    subst (λ k. AllowedWith p parcel.saw k done) (sole child (node_of parcel.start) below.among) below.allowed in
    let goes : (seen : Bool) → SeesAll parcel.saw seen → GoesBelow seen (part_entry p n whole part) p =
    λ seen all. part-goes p child job at.node_is n part here seen whole
    (subst (AllowedWith p seen child) is (entry-widens p parcel.saw seen all child done own)) in
    let has : HasKinds p.plan p.node p.args = start-kinds (p ∷ above) node at.start_is at.node_is in
    may-begin (start_below n (part_args whole part) whole p.asked (p ∷ above))
    (goes-on (part_entry p n whole part) p at.runnable has node at.node_is (goes true (λ wrong. cc))) requested
    (λ none. goes false (λ e. sees none))

-- the number of a part
part_number : Node → ℕ
part_number (Part bulk part) = part
part_number node = 0

same-part : (bulk one other : ℕ) → Part bulk one ≡ Part bulk other → one ≡ other
unfolding part_number
same-part bulk one other same = ap part_number same

-- what is allowed for a part, where its bulk has this job
part-makes : (e p : Entry) (child : ℕ) (job : Job) → IsPlan p.plan → plan_node p ≡ Some (Bulk child job) → (part : ℕ) →
    slice_get p.plan.nodes e.node ≡ Some (Part p.node part) → GoesBelow true e p → (saw : Bool) (c : Completion) →
    AllowedWith e saw e.node c → c ≡ row_ending (share_made job e.whole part)
part-makes e p child job is_plan at part here under saw c allowed =
    let node : Node = Part p.node part in
    let there : slice_get e.plan.nodes e.node ≡ Some node =
    ap (λ (pl : Blueprint). slice_get pl.nodes e.node) under.plan ∙ here in
    let ordered = (plans-built e.plan (subst IsPlan (sym under.plan) is_plan)).ordered in
    let case : c ≡ part_ending (job_of_bulk e.plan.nodes p.node) e.args =
    (allowed-by-case e.plan.nodes ordered e.node node there e.args e.number (seen_state e.asked saw) c).0 allowed in
    let bulk : slice_get e.plan.nodes p.node ≡ Some (Bulk child job) =
    ap (λ (pl : Blueprint). slice_get pl.nodes p.node) under.plan ∙ at in
    let has_job : job_of_bulk e.plan.nodes p.node ≡ Some job = rw bulk refl in
    let by : ByNode (Some (Bulk child job)) true e p = subst (λ o. ByNode o true e p) at under.by in
    elim by [
      | inl run ↦ absurd (no-part p.plan.nodes is_plan.forest p.node e.node p.node part (Bulk child job) at run.runs here)
      | inr is ↦
          let same : Part p.node is.part ≡ node = same_Some (Part p.node is.part) node (sym is.node ∙ here) in
          let args : e.args ≡ part_args e.whole part =
          is.args ∙ ap (part_args e.whole) (same-part p.node is.part part same) in
          case ∙ ap₂ part_ending has_job args
    ]

part-done : (start : List Entry) (child : ℕ) (job : Job) → IsStartOf start (Bulk child job) → (e : Entry) → IsStart (e ∷ start) →
    (part : ℕ) → slice_get (plan_of start).nodes e.node ≡ Some (Part (node_of start) part) → (saw : Bool) (c : Completion) →
    AllowedWith e saw e.node c → c ≡ row_ending (share_made job e.whole part)
part-done [] child job at e starts part here saw c allowed = none-some at.node_is
part-done (p ∷ above) child job at e starts part here saw c allowed =
    part-makes e p child job at.runnable.plan_is at.node_is part here starts.0.under saw c allowed

pub parts-make : PartsMakeShares
parts-make start child job at parcel n told done part here memory =
    let e = done.entry in
    let place : e.node ≡ n = sym (ap node_of done.shows) ∙ done.number in
    let allowed = delivers-allowed parcel.start parcel.saw parcel.completion done.delivers.may memory in
    let own : AllowedWith e parcel.saw e.node parcel.completion =
    subst (λ s. AllowedFor s parcel.saw parcel.completion) done.shows allowed in
    part-done start child job at e (subst IsStart done.shows done.delivers.start) part
    (ap (slice_get (plan_of start).nodes) place ∙ here) parcel.saw parcel.completion own
    ∙ ap (λ whole. row_ending (share_made job whole part)) (sym (ap whole_row done.shows))

-- what is made of elements and of those behind them
front-behind : (index : ℕ) (answer : Result ℤ JobFault) (front behind : Result (List ℤ) (List ℕ)) →
    in_front index answer (made_behind front behind) ≡ made_behind (in_front index answer front) behind
front-behind index (Err fault) front behind = refl
front-behind index (Ok y) (Ok ys) (Ok zs) = refl
front-behind index (Ok y) (Ok ys) (Err name) = refl
front-behind index (Ok y) (Err name) behind = refl

none-behind : (behind : Result (List ℤ) (List ℕ)) → made_behind (Ok []) behind ≡ behind
none-behind (Ok ys) = refl
none-behind (Err name) = refl

each-append : (job : Job) (index : ℕ) (xs ys : List ℤ) →
    each_of job index (xs ++ ys) ≡ made_behind (each_of job index xs) (each_of job (index + length xs) ys)
each-append job index [] ys =
    let same : index + 0 ≡ index = omega arith in
    sym (none-behind (each_of job (index + 0) ys) ∙ ap (λ i. each_of job i ys) same)
each-append job index (x ∷ xs) ys =
    let count : index + 1 + length xs ≡ index + suc (length xs) = omega arith in
    ap (in_front index (at_index job index x))
    (each-append job (index + 1) xs ys
    ∙ ap (λ i. made_behind (each_of job (index + 1) xs) (each_of job i ys)) count)
    ∙ front-behind index (at_index job index x) (each_of job (index + 1) xs) (each_of job (index + suc (length xs)) ys)

-- each share begins within the row
first-within : (count left part : ℕ) → part + left ≡ BULK_PARTS → first_index count part ≤ count
first-within count zero part all =
    let last : part ≡ BULK_PARTS = omega (arith, all) in
    subst (λ i. first_index count i ≤ count) (sym last) (omega (arith, first-last count))
first-within count (suc left) part all =
    omega (arith, first-rises count part, first-within count left (part + 1) (omega (arith, all)))

front-on : (job : Job) (whole : List ℤ) (part : ℕ) → part < BULK_PARTS →
    front_made job whole (part + 1) ≡ made_behind (front_made job whole part) (share_made job whole part)
front-on job whole part below =
    let first : ℕ = first_index (length whole) part in
    let within : first ≤ length whole =
    first-within (length whole) (BULK_PARTS - part) part (omega (arith, below)) in
    let count : 0 + length (take first whole) ≡ first = omega (arith, length-take-le first whole within) in
    ap (each_of job 0) (shares-join whole part)
    ∙ each-append job 0 (take first whole) (share_of whole part)
    ∙ ap (λ i. made_behind (front_made job whole part) (each_of job i (share_of whole part))) count

pub shares-made : SharesAreMade
shares-made = record {
  begins = λ job whole. ap (λ i. each_of job 0 (take i whole)) (first-none (length whole));
  goes_on = front-on;
  ends = λ job whole.
      ap (each_of job 0)
      (take_all (first_index (length whole) BULK_PARTS) whole (omega (arith, first-last (length whole))));
}
