-- What a node makes of its child's completion is allowed by its case.
use Rattle.std.specs.Prelude.{Contains}
use Rattle.std.proofs.Common.{◌≡◌, ℕ, Bool, true, false, List, [], ◌∷◌, Option, Some, None, Ok, inl, inr, refl, sym, ap, subst}
use Rattle.std.proofs.lemmas.Bool.{or_left}
use Rattle.common_lemmas.proofs.Bool.{either}
use Rattle.exec_value.specs.declared.data.Datum.{Datum}
use Rattle.exec_value.specs.declared.data.Datum.TheVariants.{Int}
use Rattle.exec_value.specs.declared.outcome.Completion.{Completion}
use Rattle.exec_value.specs.declared.outcome.Completion.TheVariants.{Value, Error, Stopped, NoMemory}
use Rattle.exec_job.specs.Answer.{Answer}
use Rattle.exec_job.specs.Apply.{apply_of, ending}
use Rattle.exec_job.specs.declared.job.Job.{Job}
use Rattle.plan_rules.specs.declared.node.Node.{Node}
use Rattle.plan_rules.specs.declared.node.Node.TheVariants.{Then, UponError, UponStopped, LetValue, LetError, LetStopped, StartsOn, ContinuesOn, StoppedAsOptional, StoppedAsError, Bulk, Unstoppable, Ahead}
use Rattle.plan_rules.specs.declared.stop.StopState.{StopState}
use Rattle.plan_rules.specs.Images.{value_data, error_data, stopped_data, applied}
use Rattle.plan_rules.specs.Settle.{unless_asked}
use Rattle.plan_rules.specs.Allowed.{Meaning, OrStopped, PickedBy, LetOf, Case}
use Rattle.plan_rules.specs.Seen.{seen_state}
use Rattle.plan_laws.proofs.Memory.{HasMemory}
use Rattle.node_images.specs.Picks.{picked_body}
use Rattle.home_items.specs.declared.entry.Entry.{Entry}
use Rattle.home_items.specs.Entries.{plan_of, node_of, args_of, record_number, asked_of}
use Rattle.home_items.specs.Below.{asked_below}
use Rattle.home_items.specs.Parcels.{Delivery, AllowedFor, MayDeliver, IsDelivery}
use Rattle.home_items.specs.Fits.{IsChildOf}
use Rattle.start_laws.specs.Nodes.{IsStartOf, plain_children, image_of, PicksNone, MakesImage, MayHaveSeen}
use Rattle.start_laws.specs.Laws.{ImagesAreAllowed, WantPasses}
use Rattle.start_laws.proofs.Pairs.{none-some, sole, for-has, memory-not, delivers-allowed, below_start, case-allowed, child-allowed}
use Rattle.start_laws.proofs.LeafCases.{stop-allowed}

-- an answer that names no body is what the let completes with
picks-none : (answer : Answer) (bodies : List ℕ) (Body : ℕ → Completion → Type 0) →
    picked_body (ending answer) bodies ≡ None → PickedBy answer bodies Body (ending answer)
picks-none (Ok (Int k ∷ [])) bodies Body is = none-some (sym is)
picks-none answer bodies Body is = refl

let-passes : (values : Option (List Datum)) (pick : Job) (bodies : List ℕ) (Body : ℕ → List Datum → Completion → Type 0)
    (d : Completion) → PicksNone values pick bodies → LetOf values pick bodies Body d (applied pick values d)
let-passes None pick bodies Body d none = refl
let-passes (Some values) pick bodies Body d none = picks-none (apply_of pick values) bodies (λ n. Body n values) none

-- a hop passes its child's completion, unless a request was made before the start
hop-passes : (Child : StopState → Completion → Type 0) (asked saw : Bool) (d : Completion) → Child (seen_state asked saw) d →
    OrStopped (seen_state asked saw) (Child (seen_state asked saw)) (unless_asked asked d)
hop-passes Child true saw d h = refl
hop-passes Child false true d h = inl h
hop-passes Child false false d h = h

module _ (nodes : List Node) (r : ℕ) (Below : ℕ → Meaning) (a : List Datum) (asked saw : Bool) where
  -- the one child is the node's
  here : (x k : ℕ) → Contains (x ∷ []) k → (q : StopState) (d : Completion) → Below k a q d → Below x a q d
  here x k among q d h = subst (λ j. Below j a q d) (sole x k among) h

  pub image-case : (node : Node) (d : Completion) → MakesImage node d → MayHaveSeen node saw → HasMemory d →
      (k : ℕ) → Contains (plain_children node) k → Below k a (seen_state (asked_below (Some node) asked) saw) d →
      Case nodes r node Below a (seen_state asked saw) (image_of node asked d)
  image-case (Then x job) d makes seen memory k among h = (d, here x k among (seen_state asked saw) d h, refl)
  image-case (UponError x job) d makes seen memory k among h = (d, here x k among (seen_state asked saw) d h, refl)
  image-case (UponStopped x job) d makes seen memory k among h = (d, here x k among (seen_state asked saw) d h, refl)
  image-case (LetValue x pick xs) d makes seen memory k among h = (
    d,
    here x k among (seen_state asked saw) d h,
    let-passes (value_data d) pick xs (λ n values c. Below n values (seen_state asked saw) c) d makes,
  )
  image-case (LetError x pick xs) d makes seen memory k among h = (
    d,
    here x k among (seen_state asked saw) d h,
    let-passes (error_data d) pick xs (λ n values c. Below n values (seen_state asked saw) c) d makes,
  )
  image-case (LetStopped x pick xs) d makes seen memory k among h = (
    d,
    here x k among (seen_state asked saw) d h,
    let-passes (stopped_data d) pick xs (λ n values c. Below n values (seen_state asked saw) c) d makes,
  )
  image-case (StartsOn on x) d makes seen memory k among h =
      hop-passes (Below x a) asked saw d (here x k among (seen_state asked saw) d h)
  image-case (ContinuesOn x on) d makes seen memory k among h =
      hop-passes (Below x a) asked saw d (here x k among (seen_state asked saw) d h)
  image-case (StoppedAsOptional x of) d makes seen memory k among h =
      (d, here x k among (seen_state asked saw) d h, refl)
  image-case (StoppedAsError x name) d makes seen memory k among h =
      (d, here x k among (seen_state asked saw) d h, refl)
  image-case (Bulk x job) d makes seen memory k among h = (d, here x k among (seen_state asked saw) d h, refl)
  image-case (Unstoppable x) d makes seen memory k among h =
      subst (λ s. Below x a (seen_state false s) d) seen (here x k among (seen_state false saw) d h)
  image-case (Ahead x y) (Error e) makes seen memory k among h =
      inl (here y k among (seen_state asked saw) (Error e) h, tt)
  image-case (Ahead x y) Stopped makes seen memory k among h =
      inl (here y k among (seen_state asked saw) Stopped h, tt)
  image-case (Ahead x y) (Value values) makes seen memory k among h = absurd makes
  image-case (Ahead x y) NoMemory makes seen memory k among h = absurd memory
  image-case node d makes seen memory k among h = absurd makes

-- what is allowed for the child: its image is allowed for the node
pub image-goes : (start : List Entry) (node : Node) → IsStartOf start node → (parcel : Delivery) → IsDelivery parcel →
    IsChildOf parcel.start start → MakesImage node parcel.completion → MayHaveSeen node parcel.saw →
    AllowedFor parcel.start parcel.saw parcel.completion →
    AllowedFor start parcel.saw (image_of node (asked_of start) parcel.completion)
image-goes start node at parcel delivers of makes seen allowed =
    let below = child-allowed parcel.start start node at.node_is delivers.start of parcel.saw parcel.completion allowed in
    case-allowed start node at parcel.saw (image_of node (asked_of start) parcel.completion)
    (image-case (plan_of start).nodes (record_number start) (below_start start) (args_of start) (asked_of start) parcel.saw node
    parcel.completion makes seen (for-has parcel.start parcel.saw parcel.completion allowed)
    (node_of parcel.start) below.among below.allowed)

-- want of memory stays so
want-stays : (node : Node) → image_of node false NoMemory ≡ NoMemory
want-stays (StartsOn on x) = refl
want-stays node = refl

want-hop : (start : List Entry) (saw : Bool) → (asked_of start ≡ true → AllowedFor start saw Stopped) →
    MayDeliver start saw (unless_asked (asked_of start) NoMemory)
want-hop start saw stops =
    either (asked_of start)
    (λ t. inr (subst (λ b. AllowedFor start saw (unless_asked b NoMemory)) (sym t) (stops t)))
    (λ f. inl (ap (λ b. unless_asked b NoMemory) f))

want-goes : (start : List Entry) (node : Node) → IsStartOf start node → (saw : Bool) →
    MayDeliver start saw (image_of node (asked_of start) NoMemory)
want-goes start (StartsOn on x) at saw = want-hop start saw (λ t. stop-allowed start (StartsOn on x) at tt saw (or_left (asked_of start) saw t))
want-goes start (ContinuesOn x on) at saw = want-hop start saw (λ t. stop-allowed start (ContinuesOn x on) at tt saw (or_left (asked_of start) saw t))
want-goes start node at saw = inl refl

pub images-allowed : ImagesAreAllowed
images-allowed start node at parcel delivers of makes seen = elim (delivers.may) [
  | inl want ↦
      subst (λ d. MayDeliver start parcel.saw (image_of node (asked_of start) d)) (sym want)
      (want-goes start node at parcel.saw)
  | inr allowed ↦ inr (image-goes start node at parcel delivers of makes seen allowed)
]

pub want-passes : WantPasses
want-passes = record {
  stays = want-stays;
  no_other = λ start node at parcel delivers of makes seen memory.
      let image = image_of node (asked_of start) parcel.completion in
      memory-not image
      (for-has start parcel.saw image
      (image-goes start node at parcel delivers of makes seen
      (delivers-allowed parcel.start parcel.saw parcel.completion delivers.may memory)));
}
