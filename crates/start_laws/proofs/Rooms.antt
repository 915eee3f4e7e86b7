-- What there is room for, and what stands in place.
use Rattle.std.specs.Prelude.{IsTrue}
use Rattle.std.specs.Option.{option_map_or}
use Rattle.std.proofs.Common.{◌≡◌, ◌⊎◌, ◌≤◌, Bool, true, List, [], ◌∷◌, length, Option, Some, None, inl, inr, sym, subst, arith}
use Rattle.std.proofs.lemmas.Bool.{cases_lt, cond-true, leb-true}
use Rattle.std.proofs.lemmas.List.Elements.{All-nil, All-cons}
use Rattle.exec_value.specs.Place.{IsInPlace, AreInPlace}
use Rattle.exec_value.specs.declared.limits.TheConstants.{DATA, INLINE_BYTES}
use Rattle.exec_value.specs.declared.kinds.Kind.TheVariants.{Int as IntKind}
use Rattle.exec_value.specs.declared.data.Datum.{Datum}
use Rattle.exec_value.specs.declared.data.Datum.TheVariants.{Int}
use Rattle.exec_value.specs.declared.outcome.Completion.{Completion}
use Rattle.exec_value.specs.declared.outcome.Completion.TheVariants.{Value, Error, Stopped, NoMemory}
use Rattle.exec_job.proofs.OperandLemmas.{kinds-length}
use Rattle.plan_rules.specs.declared.node.Node.{Node}
use Rattle.plan_rules.specs.declared.node.Node.TheVariants.{WhenAll, Ahead}
use Rattle.plan_rules.specs.Seen.{seen_state}
use Rattle.plan_kinds.specs.Shapes.{Shape, HasShape, joined, never_or, is_few}
use Rattle.plan_kinds.specs.Signatures.{own_sigs, sig_of, sig_case, matches, Fits}
use Rattle.plan_kinds.specs.Small.{IsSmallShape, IsSmall}
use Rattle.plan_kinds.specs.Values.{shapes_of}
use Rattle.plan_kinds.specs.declared.sig.Sig.{Sig}
use Rattle.plan_kinds.proofs.Jobs.{one-int}
use Rattle.plan_kinds.proofs.Kept.{kinds-kept}
use Rattle.plan_kinds.proofs.Plans.{plans-built}
use Rattle.plan_kinds.proofs.Signed.{signed-by-case}
use Rattle.node_images.specs.Makes.{CompletesInPlace}
use Rattle.home_items.specs.declared.entry.Entry.{Entry}
use Rattle.home_items.specs.Entries.{plan_of, node_of, args_of}
use Rattle.home_items.specs.HasKinds.{HasKinds}
use Rattle.home_items.specs.Parcels.{AllowedFor, MayDeliver}
use Rattle.start_laws.specs.Nodes.{IsStartOf}
use Rattle.start_laws.specs.RoomLaws.{JoinsValues, IsLongError, RoomIsThere}
use Rattle.start_laws.proofs.Pairs.{start-kinds}

-- what is allowed for a start is of its node's signature
allowed-fits : (start : List Entry) (node : Node) (at : IsStartOf start node) (has : HasKinds (plan_of start) (node_of start) (args_of start))
    (saw : Bool) (done : Completion) → AllowedFor start saw done →
    Fits (sig_of (plan_of start).nodes (node_of start) has.shape) done
allowed-fits [] node at has saw done allowed = absurd allowed
allowed-fits (p ∷ above) node at has saw done allowed =
    kinds-kept p.plan.nodes p.plan.settings.input (plans-built p.plan at.runnable.plan_is) at.runnable.matching
    p.node has.shape has.reached p.args has.kinds p.number (seen_state p.asked saw) done allowed

-- data of a small shape stand in place
one-place : (datum : Datum) → IsInPlace datum → AreInPlace (datum ∷ [])
one-place datum place =
    record { few = omega arith; each = All-cons IsInPlace datum [] place (All-nil IsInPlace) }

shape-place : (shape : Shape) → IsSmallShape shape → (values : List Datum) → HasShape values shape → AreInPlace values
shape-place None small values have = absurd have
shape-place (Some []) small [] have = record { few = omega arith; each = All-nil IsInPlace }
shape-place (Some []) small (x ∷ xs) have = absurd have
shape-place (Some (IntKind ∷ [])) small values have =
    let one = one-int values have in subst AreInPlace (sym one.1) (one-place (Int one.0) tt)
shape-place shape small values have = absurd small

done-place : (sig : Sig) → IsSmallShape sig.value → (done : Completion) → Fits sig done →
    CompletesInPlace done ⊎ IsLongError done
done-place sig small (Value values) fits = inl (shape-place sig.value small values fits)
done-place sig small (Error name) fits = elim (cases_lt INLINE_BYTES (length name)) [
  | inl long ↦ inr long
  | inr short ↦ inl short
]
done-place sig small Stopped fits = inl tt
done-place sig small NoMemory fits = inl tt

in-place : (start : List Entry) (node : Node) → IsStartOf start node → IsSmall (plan_of start) → (saw : Bool) (done : Completion) →
    MayDeliver start saw done → CompletesInPlace done ⊎ IsLongError done
in-place start node at small saw done may =
    let has : HasKinds (plan_of start) (node_of start) (args_of start) = start-kinds start node at.start_is at.node_is in
    elim may [
      | inl want ↦ inl (subst CompletesInPlace (sym want) tt)
      | inr allowed ↦
          done-place (sig_of (plan_of start).nodes (node_of start) has.shape)
          (small.values (node_of start) has.shape has.reached) done
          (allowed-fits start node at has saw done allowed)
    ]

-- data of a shape that isn't too long are few
shape-few : (shape : Shape) (values : List Datum) → IsTrue (never_or is_few shape) → HasShape values shape →
    length values ≤ DATA
shape-few None values few have = absurd have
shape-few (Some kinds) values few have =
    let most = leb-true (length kinds) DATA few in omega (arith, most, kinds-length values kinds have)

module _ (nodes : List Node) (a : Shape) (values : List Datum) where
  abbrev joined_shape : Node → Shape
  joined_shape node = joined (shapes_of (own_sigs (sig_of nodes) node a))

  joins-few : (node : Node) → JoinsValues node → IsTrue (matches nodes node a) →
      HasShape values (sig_case nodes node (sig_of nodes) a).value → length values ≤ DATA
  joins-few (WhenAll xs) joins match have =
      let shape = joined_shape (WhenAll xs) in
      shape-few shape values match
      (subst (HasShape values) (cond-true (matches nodes (WhenAll xs) a) shape None match) have)
  joins-few (Ahead x y) joins match have =
      let shape = joined_shape (Ahead x y) in
      shape-few shape values match
      (subst (HasShape values) (cond-true (matches nodes (Ahead x y) a) shape None match) have)
  joins-few node joins match have = absurd joins

few-values : (start : List Entry) (node : Node) → IsStartOf start node → JoinsValues node → (saw : Bool) (values : List Datum) →
    MayDeliver start saw (Value values) → length values ≤ DATA
few-values start node at joins saw values may =
    let plan = plan_of start in
    let n = node_of start in
    let has : HasKinds plan n (args_of start) = start-kinds start node at.start_is at.node_is in
    let match : IsTrue (matches plan.nodes node has.shape) =
    subst (λ (o : Option Node). IsTrue (option_map_or (λ one. matches plan.nodes one has.shape) o true)) at.node_is
    (at.runnable.matching n has.shape has.reached) in
    let signed = signed-by-case plan.nodes (plans-built plan at.runnable.plan_is).ordered n node at.node_is has.shape in
    elim may [
      | inl want ↦ value-no_want values want
      | inr allowed ↦
          joins-few plan.nodes has.shape values node joins match
          (subst (λ (sig : Sig). HasShape values sig.value) signed
          (allowed-fits start node at has saw (Value values) allowed))
    ]
  where
    value-no_want : {G : Type 0} (values : List Datum) → Value values ≡ NoMemory → G
    value-no_want values want = cc

pub room-there : RoomIsThere
room-there = record { few = few-values; in_place = in-place }
