-- No operand is wrong: a node's job takes what its child completes with.
use Rattle.std.specs.Prelude.{Contains, IsTrue}
use Rattle.std.specs.Option.{option_map_or}
use Rattle.std.proofs.Common.{◌≡◌, ℕ, true, List, [], ◌∷◌, Option, Some, None, refl, subst}
use Rattle.std.proofs.lemmas.Bool.{and_parts}
use Rattle.exec_value.specs.declared.kinds.Kind.{Kind}
use Rattle.exec_value.specs.declared.kinds.Kind.TheVariants.{Text as TextKind}
use Rattle.exec_value.specs.declared.data.Datum.{Datum}
use Rattle.exec_value.specs.declared.outcome.Completion.{Completion}
use Rattle.exec_value.specs.declared.outcome.Completion.TheVariants.{Value, NoMemory}
use Rattle.exec_job.specs.Takes.{is_element, is_int, takes}
use Rattle.exec_job.specs.declared.job.Job.{Job}
use Rattle.plan_rules.specs.declared.node.Node.{Node}
use Rattle.plan_rules.specs.declared.node.Node.TheVariants.{Then, UponError, UponStopped, LetValue, LetError, LetStopped, Bulk}
use Rattle.plan_rules.specs.Seen.{seen_state}
use Rattle.plan_kinds.specs.Shapes.{Shape, HasShape, never_or}
use Rattle.plan_kinds.specs.Gives.{gives, picks}
use Rattle.plan_kinds.specs.Signatures.{sig_of, matches, Fits}
use Rattle.plan_kinds.proofs.Taken.{HasValue, has-value, value-taken, error-taken, stopped-taken}
use Rattle.plan_shape.specs.Blueprint.{Blueprint}
use Rattle.home_items.specs.declared.entry.Entry.{Entry}
use Rattle.home_items.specs.Entries.{plan_of, node_of, args_of, record_number, asked_of}
use Rattle.home_items.specs.HasKinds.{HasKinds}
use Rattle.home_items.specs.Below.{asked_below}
use Rattle.home_items.specs.Parcels.{Delivery, IsDelivery}
use Rattle.home_items.specs.Fits.{IsChildOf}
use Rattle.home_items.proofs.KindsBelow.{run-ends}
use Rattle.start_laws.specs.Nodes.{IsStartOf, plain_children, JobTakes}
use Rattle.start_laws.specs.Laws.{JobsTakeTheirData}
use Rattle.start_laws.proofs.Pairs.{sole, start-kinds, delivers-allowed, child-allowed, child-among, plain-run}

-- what a job picks by, it takes
picks-takes : (pick : Job) (kinds : List Kind) → IsTrue (picks pick kinds) → IsTrue (takes pick kinds)
picks-takes pick kinds match = (and_parts (takes pick kinds) (never_or is_int (gives pick kinds)) match).0

never-takes : (pick : Job) (shape : Shape) → IsTrue (never_or (picks pick) shape) → IsTrue (never_or (takes pick) shape)
never-takes pick None match = refl
never-takes pick (Some kinds) match = picks-takes pick kinds match

module _ (nodes : List Node) (a : Shape) (done : Completion) where
  abbrev value_of : ℕ → Shape
  value_of k = (sig_of nodes k a).value

  -- where the kinds of a node match, and a value of its child is of the child's signature
  taken : (node : Node) → IsTrue (matches nodes node a) → (k : ℕ) → Contains (plain_children node) k →
      HasValue (value_of k) done → JobTakes node done
  taken (Then x job) match k among has =
      value-taken job (value_of x) done match (subst (λ j. HasValue (value_of j) done) (sole x k among) has)
  taken (UponError x job) match k among has =
      error-taken job done (and_parts (takes job (TextKind ∷ [])) _ match).0
  taken (UponStopped x job) match k among has = stopped-taken job done (and_parts (takes job []) _ match).0
  taken (LetValue x pick xs) match k among has =
      value-taken pick (value_of x) done
      (never-takes pick (value_of x) (and_parts (never_or (picks pick) (value_of x)) _ match).0)
      (subst (λ j. HasValue (value_of j) done) (sole x k among) has)
  taken (LetError x pick xs) match k among has =
      error-taken pick done (picks-takes pick (TextKind ∷ []) (and_parts (picks pick (TextKind ∷ [])) _ match).0)
  taken (LetStopped x pick xs) match k among has =
      stopped-taken pick done (picks-takes pick [] (and_parts (picks pick []) _ match).0)
  taken (Bulk x job) match k among has = (and_parts (is_element job) _ match).0
  taken node match k among has = tt

-- a value isn't want of memory
value-memory : (done : Completion) (values : List Datum) → done ≡ Value values → done ≡ NoMemory → ⊥
value-memory done values is want = cc

module _ (start : List Entry) (node : Node) (at : IsStartOf start node) (parcel : Delivery) (delivers : IsDelivery parcel)
    (of : IsChildOf parcel.start start) where
  abbrev plan : Blueprint
  plan = plan_of start

  abbrev child : ℕ
  child = node_of parcel.start

  has : HasKinds plan (node_of start) (args_of start)
  has = start-kinds start node at.start_is at.node_is

  match : IsTrue (matches plan.nodes node has.shape)
  match =
      subst (λ (o : Option Node). IsTrue (option_map_or (λ one. matches plan.nodes one has.shape) o true)) at.node_is
      (at.runnable.matching (node_of start) has.shape has.reached)

  among : Contains (plain_children node) child
  among = child-among parcel.start start node at.node_is of

  -- a value of the child is of its signature
  valued : (values : List Datum) → parcel.completion ≡ Value values →
      HasShape values (sig_of plan.nodes child has.shape).value
  valued values is =
      let memory = value-memory parcel.completion values is in
      let allowed = delivers-allowed parcel.start parcel.saw parcel.completion delivers.may memory in
      let below =
      child-allowed parcel.start start node at.node_is delivers.start of parcel.saw parcel.completion allowed in
      subst (Fits (sig_of plan.nodes child has.shape)) is
      (run-ends plan at.runnable (node_of start) (args_of start) has node at.node_is child
      (plain-run node child among) (record_number start)
      (seen_state (asked_below (Some node) (asked_of start)) parcel.saw) parcel.completion below.allowed)

  takes-it : JobTakes node parcel.completion
  takes-it =
      taken plan.nodes has.shape parcel.completion node match child among
      (has-value (sig_of plan.nodes child has.shape).value parcel.completion valued)

pub jobs-take : JobsTakeTheirData
jobs-take = takes-it
