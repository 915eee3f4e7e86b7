-- What the children of a `when_all` complete with together is allowed for it, and so what the two of an `ahead` do.
use Rattle.std.specs.Prelude.{slice_index}
use Rattle.std.proofs.Common.{◌≡◌, ◌≢◌, ℕ, ◌<◌, Bool, true, false, List, length, inl, inr, refl, sym, subst}
use Rattle.exec_value.specs.declared.data.Datum.{Datum}
use Rattle.exec_value.specs.declared.outcome.Completion.{Completion}
use Rattle.exec_value.specs.declared.outcome.Completion.TheVariants.{Value, Error, Stopped, NoMemory}
use Rattle.plan_rules.specs.declared.node.Node.{Node}
use Rattle.plan_rules.specs.declared.node.Node.TheVariants.{WhenAll, Ahead}
use Rattle.plan_rules.specs.declared.stop.StopState.{StopState}
use Rattle.plan_rules.specs.Allowed.{Allowed, OrStopped, IsFailure, joined, FailsWith, AllOf, Joined2, Case}
use Rattle.plan_rules.specs.Settle.{ahead_of}
use Rattle.plan_rules.specs.Seen.{seen_state}
use Rattle.plan_laws.proofs.Covers.{may-covers}
use Rattle.plan_laws.proofs.Memory.{HasMemory}
use Rattle.plan_shape.specs.Blueprint.{Blueprint}
use Rattle.home_items.specs.declared.entry.Entry.{Entry}
use Rattle.home_items.specs.Entries.{plan_of, node_of, args_of, record_number, asked_of}
use Rattle.home_items.specs.Below.{AllowedWith}
use Rattle.home_items.specs.Parcels.{Delivery, AllowedFor, MayDeliver}
use Rattle.start_laws.specs.AllLaws.{AllDelivered, AllsAreAllowed, RunsAlike, AheadsAreAllowed}
use Rattle.start_laws.proofs.Pairs.{sole, allowed-has, delivers-allowed, below_start, case-allowed, child-allowed}

-- what is allowed where this was seen is allowed where as much was, or more
pub place-widens : (nodes : List Node) (n : ℕ) (a : List Datum) (r : ℕ) (asked saw seen : Bool) → (seen ≡ false → saw ≡ false) →
    (c : Completion) → Allowed nodes n a r (seen_state asked saw) c → Allowed nodes n a r (seen_state asked seen) c
place-widens nodes n a r true saw seen sees c h = h
place-widens nodes n a r false saw true sees c h = may-covers nodes n a r (seen_state false saw) c h
place-widens nodes n a r false saw false sees c h =
    subst (λ s. Allowed nodes n a r (seen_state false s) c) (sees refl) h

-- where no request was made before the start, nothing but its children decides
own-passes : (Child : StopState → Completion → Type 0) (saw : Bool) (c : Completion) → Child (seen_state false saw) c →
    OrStopped (seen_state false saw) (Child (seen_state false saw)) c
own-passes Child true c h = inl h
own-passes Child false c h = h

value-memory : (done : Completion) (values : List Datum) → done ≡ Value values → done ≡ NoMemory → ⊥
value-memory done values is want = cc

module _ (start : List Entry) (children : List ℕ) (ends : ℕ → Delivery) (all : AllDelivered start children ends) where
  abbrev Child : StopState → ℕ → Completion → Type 0
  Child s i d = below_start start (slice_index children i) (args_of start) s d

  -- each child's completion is allowed for it
  place-allowed : (i : ℕ) → i < length children → (ends i).completion ≢ NoMemory → (seen : Bool) →
      (seen ≡ false → (ends i).saw ≡ false) → Child (seen_state false seen) i (ends i).completion
  place-allowed i within memory seen sees =
      let parcel = ends i in
      let delivers = all.delivers i within in
      let allowed = delivers-allowed parcel.start parcel.saw parcel.completion delivers.may memory in
      let below = child-allowed parcel.start start (WhenAll children) all.node.node_is delivers.start (all.child i within)
      parcel.saw parcel.completion allowed in
      place-widens (plan_of start).nodes (slice_index children i) (args_of start) (record_number start) false parcel.saw seen
      sees parcel.completion
      (subst (λ n. below_start start n (args_of start) (seen_state false parcel.saw) parcel.completion)
      (all.place i within) below.allowed)

  together : (saw : Bool) (c : Completion) → AllOf Child (seen_state false saw) (length children) c → AllowedFor start saw c
  together saw c h =
      case-allowed start (WhenAll children) all.node saw c
      (subst (λ asked. Case (plan_of start).nodes (record_number start) (WhenAll children) (below_start start)
      (args_of start) (seen_state asked saw) c) (sym all.unasked)
      (own-passes (λ s. AllOf Child s (length children)) saw c h))

  pub all-values : (values : ℕ → List Datum) → ((i : ℕ) → i < length children → (ends i).completion ≡ Value (values i)) →
      (saw : Bool) → ((i : ℕ) → i < length children → saw ≡ false → (ends i).saw ≡ false) →
      MayDeliver start saw (Value (joined values (length children)))
  all-values values is saw sees =
      inr (together saw (Value (joined values (length children))) (inl (
        values,
        (λ i within. subst (Child (seen_state false saw) i) (is i within)
            (place-allowed i within (value-memory (ends i).completion (values i) (is i within)) saw (sees i within))),
        refl,
      )))

  pub one-fails : ((i : ℕ) → i < length children → (ends i).completion ≢ NoMemory) → (j : ℕ) → j < length children →
      IsFailure (ends j).completion → (saw : Bool) → (saw ≡ false → (ends j).saw ≡ false) → (done : Completion) →
      FailsWith (ends j).completion (λ i. (ends i).completion) (length children) done → MayDeliver start saw done
  one-fails memory j within failure saw sees done fails =
      inr (together saw done (inr (
        j,
        (λ i. (ends i).completion),
        within,
        place-allowed j within (memory j within) saw sees,
        failure,
        (λ i inside other. place-allowed i inside (memory i inside) true (λ wrong. cc)),
        fails,
      )))

pub alls-allowed : AllsAreAllowed
alls-allowed = record { values = all-values; failure = one-fails }

-- the first child's completion, where the second has a value
both-joined : (First Second : Completion → Type 0) (done : Completion) (values : List Datum) → First done → HasMemory done →
    Second (Value values) → Joined2 First Second (ahead_of done (Value values))
both-joined First Second (Value front) values first memory second = inr (values, second, inr (front, first, refl))
both-joined First Second (Error name) values first memory second = inr (values, second, inl (first, tt))
both-joined First Second Stopped values first memory second = inr (values, second, inl (first, tt))
both-joined First Second NoMemory values first memory second = absurd memory

-- what is allowed for a spawned child, in the words of the start that it was spawned for
spawned-allowed : (spawned : Entry) (start : List Entry) → RunsAlike spawned start → (seen : Bool) (n : ℕ) (done : Completion) →
    AllowedWith spawned seen n done → below_start start n (args_of start) (seen_state (asked_of start) seen) done
spawned-allowed spawned start alike seen n done allowed =
    subst (λ (pl : Blueprint). Allowed pl.nodes n (args_of start) (record_number start) (seen_state (asked_of start) seen) done)
    alike.plan
    (subst (λ args. Allowed spawned.plan.nodes n args (record_number start) (seen_state (asked_of start) seen) done) alike.args
    (subst (λ r. Allowed spawned.plan.nodes n spawned.args r (seen_state (asked_of start) seen) done) alike.number
    (subst (λ asked. Allowed spawned.plan.nodes n spawned.args spawned.number (seen_state asked seen) done) alike.asked
    allowed)))

pub aheads-allowed : AheadsAreAllowed
aheads-allowed start one two at parcel delivers of values is spawned alike seen done allowed saw sees_own sees_first =
    let nodes = (plan_of start).nodes in
    let args = args_of start in
    let r = record_number start in
    let asked = asked_of start in
    let node : Node = Ahead one two in
    let delivered = delivers-allowed parcel.start parcel.saw parcel.completion delivers.may
    (value-memory parcel.completion values is) in
    let below = child-allowed parcel.start start node at.node_is delivers.start of parcel.saw parcel.completion delivered in
    let second : below_start start two args (seen_state asked saw) (Value values) =
    subst (below_start start two args (seen_state asked saw)) is
    (place-widens nodes two args r asked parcel.saw saw sees_own parcel.completion
    (subst (λ n. below_start start n args (seen_state asked parcel.saw) parcel.completion)
    (sole two (node_of parcel.start) below.among) below.allowed)) in
    let first : below_start start one args (seen_state asked saw) done =
    place-widens nodes one args r asked seen saw sees_first done
    (spawned-allowed spawned start alike seen one done allowed) in
    inr (case-allowed start node at saw (ahead_of done (Value values))
    (both-joined (below_start start one args (seen_state asked saw)) (below_start start two args (seen_state asked saw))
    done values first (allowed-has nodes one args r (seen_state asked saw) done first) second))
