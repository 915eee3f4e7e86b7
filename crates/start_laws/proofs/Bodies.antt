-- The body of a let: its start, and what it completes with.
use Rattle.std.specs.Prelude.{Contains}
use Rattle.std.proofs.Common.{◌≡◌, ℕ, ℤ, Bool, true, false, List, [], ◌∷◌, Option, Some, None, Ok, inl, inr, refl, sym, ap, ◌∙◌, subst}
use Rattle.std.proofs.lemmas.Option.{same_Some}
use Rattle.exec_value.specs.declared.data.Datum.{Datum}
use Rattle.exec_value.specs.declared.data.Datum.TheVariants.{Int}
use Rattle.exec_value.specs.declared.outcome.Completion.{Completion}
use Rattle.exec_value.specs.declared.outcome.Completion.TheVariants.{NoMemory}
use Rattle.exec_job.specs.Answer.{Answer}
use Rattle.exec_job.specs.Apply.{apply_of, ending}
use Rattle.exec_job.specs.declared.job.Job.{Job}
use Rattle.plan_rules.specs.declared.node.Node.{Node}
use Rattle.plan_rules.specs.declared.node.Node.TheVariants.{LetValue, LetError, LetStopped}
use Rattle.plan_rules.specs.Images.{value_data, error_data, stopped_data}
use Rattle.plan_rules.specs.Allowed.{Allowed, body_at, PickedBy, LetOf, Lets, Case}
use Rattle.plan_rules.specs.Seen.{seen_state}
use Rattle.plan_kinds.specs.Runs.{bodies_of}
use Rattle.plan_kinds.proofs.Placing.{no-member, child-no_body}
use Rattle.plan_shape.specs.Blueprint.{Blueprint}
use Rattle.plan_shape.specs.Forest.{IsForest}
use Rattle.node_images.specs.Picks.{picked_body}
use Rattle.home_items.specs.declared.entry.Entry.{Entry}
use Rattle.home_items.specs.Entries.{node_of, plan_node, start_below}
use Rattle.home_items.specs.HasKinds.{HasKinds}
use Rattle.home_items.specs.Below.{asked_below, AllowedWith, IsBody, ByNode, GoesBelow}
use Rattle.home_items.specs.Starts.{IsStart, NeedsNoRequest}
use Rattle.home_items.specs.Parcels.{AllowedFor}
use Rattle.home_items.proofs.Beginning.{goes-on}
use Rattle.home_items.proofs.Widening.{below-widens}
use Rattle.start_laws.specs.Nodes.{IsStartOf, plain_children}
use Rattle.start_laws.specs.Lets.{channel_of, pick_of}
use Rattle.start_laws.specs.LetLaws.{BodiesMayBegin, BodiesAreAllowed}
use Rattle.start_laws.proofs.Pairs.{none-some, sole, start-kinds, delivers-allowed, case-allowed, child-allowed, below_start}
use Rattle.start_laws.proofs.Begun.{may-begin}

-- what the child saw is seen
abbrev pub SeesAll : Bool → Bool → Type 0
SeesAll saw seen = seen ≡ false → saw ≡ false

-- what is allowed where this was seen is allowed where as much was, or more
pub entry-widens : (p : Entry) (saw seen : Bool) → SeesAll saw seen → (n : ℕ) (c : Completion) → AllowedWith p saw n c →
    AllowedWith p seen n c
entry-widens p saw true sees n c h = below-widens p saw n c h
entry-widens p saw false sees n c h = subst (λ s. AllowedWith p s n c) (sees refl) h

-- an answer that names a body is its number
pub picked-number : (answer : Answer) (bodies : List ℕ) (body : ℕ) → picked_body (ending answer) bodies ≡ Some body →
    (number : ℤ) × (answer ≡ Ok (Int number ∷ [])) × (body ≡ body_at bodies number)
picked-number (Ok (Int k ∷ [])) bodies body is = (k, refl, sym (same_Some (body_at bodies k) body is))
picked-number answer bodies body is = none-some is

-- what has data on a let's channel isn't want of memory
channel-memory : (node : Node) (done : Completion) (values : List Datum) → channel_of node done ≡ Some values →
    done ≡ NoMemory → ⊥
channel-memory (LetValue x pick xs) done values on want = none-some (sym (ap value_data want) ∙ on)
channel-memory (LetError x pick xs) done values on want = none-some (sym (ap error_data want) ∙ on)
channel-memory (LetStopped x pick xs) done values on want = none-some (sym (ap stopped_data want) ∙ on)
channel-memory node done values on want = none-some on

-- the entry of a body
abbrev body_entry : Entry → ℕ → List Datum → Entry
body_entry p body values = record {
  plan = p.plan;
  node = body;
  args = values;
  number = p.number;
  asked = p.asked;
  whole = [];
  child = None;
}

module _ (p : Entry) (seen : Bool) (done : Completion) (values : List Datum) (body : ℕ) where
  -- the body of a let on this channel, whose child completed with this
  is-body : (channel : Completion → Option (List Datum)) (child : ℕ) (pick : Job) (bodies : List ℕ) →
      AllowedWith p seen child done → channel done ≡ Some values →
      picked_body (ending (apply_of pick values)) bodies ≡ Some body →
      IsBody channel child pick bodies seen (body_entry p body values) p
  is-body channel child pick bodies allowed on is =
      let picked = picked-number (apply_of pick values) bodies body is in
      record {
        done = done;
        allowed = allowed;
        args = on;
        number = picked.0;
        picks = picked.1;
        body = picked.2;
        asked = refl;
        whole = refl;
      }

  -- of any let, by the number of its child
  by-body : (node : Node) (child : ℕ) → Contains (plain_children node) child → AllowedWith p seen child done →
      channel_of node done ≡ Some values →
      picked_body (ending (apply_of (pick_of node) values)) (bodies_of node) ≡ Some body →
      ByNode (Some node) seen (body_entry p body values) p
  by-body (LetValue x pick xs) child among allowed on is =
      inr (is-body value_data x pick xs (subst (λ k. AllowedWith p seen k done) (sole x child among) allowed) on is)
  by-body (LetError x pick xs) child among allowed on is =
      inr (is-body error_data x pick xs (subst (λ k. AllowedWith p seen k done) (sole x child among) allowed) on is)
  by-body (LetStopped x pick xs) child among allowed on is =
      inr (is-body stopped_data x pick xs (subst (λ k. AllowedWith p seen k done) (sole x child among) allowed) on is)
  by-body node child among allowed on is = none-some on

  body-goes : (node : Node) → plan_node p ≡ Some node → (child : ℕ) → Contains (plain_children node) child →
      AllowedWith p seen child done → channel_of node done ≡ Some values →
      picked_body (ending (apply_of (pick_of node) values)) (bodies_of node) ≡ Some body →
      GoesBelow seen (body_entry p body values) p
  body-goes node at child among allowed on is = record {
    plan = refl;
    number = refl;
    child = refl;
    by = subst (λ o. ByNode o seen (body_entry p body values) p) (sym at) (by-body node child among allowed on is);
  }

-- a let's children run with what was asked of the let
let-asked : (node : Node) (done : Completion) (values : List Datum) → channel_of node done ≡ Some values → (asked : Bool) →
    asked_below (Some node) asked ≡ asked
let-asked (LetValue x pick xs) done values on asked = refl
let-asked (LetError x pick xs) done values on asked = refl
let-asked (LetStopped x pick xs) done values on asked = refl
let-asked node done values on asked = none-some on

pub bodies-begin : BodiesMayBegin
bodies-begin [] node at parcel delivers of values on body is requested sees = none-some at.node_is
bodies-begin (p ∷ above) node at parcel delivers of values on body is requested sees =
    let done = parcel.completion in
    let child = node_of parcel.start in
    let allowed = delivers-allowed parcel.start parcel.saw done delivers.may (channel-memory node done values on) in
    let below = child-allowed parcel.start (p ∷ above) node at.node_is delivers.start of parcel.saw done allowed in
    let own : AllowedWith p parcel.saw child done =
    subst (λ b. Allowed p.plan.nodes child p.args p.number (seen_state b parcel.saw) done)
    (let-asked node done values on p.asked) below.allowed in
    let goes : (seen : Bool) → SeesAll parcel.saw seen → GoesBelow seen (body_entry p body values) p =
    λ seen all. body-goes p seen done values body node at.node_is child below.among
    (entry-widens p parcel.saw seen all child done own) on is in
    let has : HasKinds p.plan p.node p.args = start-kinds (p ∷ above) node at.start_is at.node_is in
    may-begin (start_below body values [] p.asked (p ∷ above))
    (goes-on (body_entry p body values) p at.runnable has node at.node_is (goes true (λ wrong. cc))) requested
    (λ none. goes false (λ e. sees none))

-- What a body completed with, as the let's case says it.
module _ (e p : Entry) (saw seen : Bool) (sees : SeesAll saw seen) (plan : e.plan ≡ p.plan) (number : e.number ≡ p.number)
    (c : Completion) (allowed : AllowedWith e saw e.node c) where
  -- the body's completion, in the let's words
  body-allowed : e.asked ≡ p.asked →
      Allowed p.plan.nodes e.node e.args p.number (seen_state p.asked seen) c
  body-allowed asked =
      subst (λ (pl : Blueprint). Allowed pl.nodes e.node e.args p.number (seen_state p.asked seen) c) plan
      (subst (λ r. Allowed e.plan.nodes e.node e.args r (seen_state p.asked seen) c) number
      (subst (λ b. Allowed e.plan.nodes e.node e.args e.number (seen_state b seen) c) asked
      (entry-widens e saw seen sees e.node c allowed)))

  abbrev Body : ℕ → List Datum → Completion → Type 0
  Body n values d = Allowed p.plan.nodes n values p.number (seen_state p.asked seen) d

  body-lets : (channel : Completion → Option (List Datum)) (child : ℕ) (pick : Job) (bodies : List ℕ) →
      IsBody channel child pick bodies seen e p →
      Lets channel pick bodies Body (λ d. Allowed p.plan.nodes child p.args p.number (seen_state p.asked seen) d) c
  body-lets channel child pick bodies body =
      let own : Body (body_at bodies body.number) e.args c =
      subst (λ n. Body n e.args c) body.body (body-allowed body.asked) in
      let picked : PickedBy (apply_of pick e.args) bodies (λ n. Body n e.args) c =
      subst (λ answer. PickedBy answer bodies (λ n. Body n e.args) c) (sym body.picks) own in (
        body.done,
        body.allowed,
        subst (λ values. LetOf values pick bodies Body body.done c) (sym body.args) picked,
      )

  -- what goes on below a let, and is one of its bodies
  abbrev LetCase : Node → Type 0
  LetCase node =
      Case p.plan.nodes p.number node (below_start (p ∷ [])) p.args (seen_state p.asked seen) c

  let-case : (node : Node) → IsForest p.plan.nodes → plan_node p ≡ Some node → Contains (bodies_of node) e.node →
      ByNode (Some node) seen e p → LetCase node
  let-case (LetValue x pick xs) forest at among (inl run) =
      absurd (child-no_body p.plan.nodes forest p.node e.node (LetValue x pick xs) at run.runs among)
  let-case (LetValue x pick xs) forest at among (inr body) = body-lets value_data x pick xs body
  let-case (LetError x pick xs) forest at among (inl run) =
      absurd (child-no_body p.plan.nodes forest p.node e.node (LetError x pick xs) at run.runs among)
  let-case (LetError x pick xs) forest at among (inr body) = body-lets error_data x pick xs body
  let-case (LetStopped x pick xs) forest at among (inl run) =
      absurd (child-no_body p.plan.nodes forest p.node e.node (LetStopped x pick xs) at run.runs among)
  let-case (LetStopped x pick xs) forest at among (inr body) = body-lets stopped_data x pick xs body
  let-case node forest at among by = no-member e.node among

-- a body's start rests on a request, or on none
goes-seen : (e p : Entry) (seen : Bool) → GoesBelow true e p → (seen ≡ false → GoesBelow false e p) → GoesBelow seen e p
goes-seen e p true under calm = under
goes-seen e p false under calm = calm refl

body-passes : (start : List Entry) (node : Node) → IsStartOf start node → (e : Entry) → IsStart (e ∷ start) →
    Contains (bodies_of node) e.node → (saw seen : Bool) → SeesAll saw seen →
    (seen ≡ false → NeedsNoRequest (e ∷ start)) → (c : Completion) → AllowedWith e saw e.node c → AllowedFor start seen c
body-passes [] node at e starts among saw seen sees calm c allowed = none-some at.node_is
body-passes (p ∷ above) node at e starts among saw seen sees calm c allowed =
    let goes = goes-seen e p seen starts.0.under calm in
    case-allowed (p ∷ above) node at seen c
    (let-case e p saw seen sees goes.plan goes.number c allowed node
    at.runnable.plan_is.forest at.node_is among
    (subst (λ o. ByNode o seen e p) at.node_is goes.by))

pub bodies-allowed : BodiesAreAllowed
bodies-allowed start node at parcel body told done among saw sees = elim (done.delivers.may) [
  | inl want ↦ inl want
  | inr allowed ↦
      let e = done.entry in
      let here : e.node ≡ body = sym (ap node_of done.shows) ∙ done.number in
      inr (body-passes start node at e (subst IsStart done.shows done.delivers.start)
      (subst (Contains (bodies_of node)) (sym here) among) parcel.saw saw
      (λ none. done.saw (sees none))
      (λ none. subst NeedsNoRequest done.shows (done.calm (sees none))) parcel.completion
      (subst (λ s. AllowedFor s parcel.saw parcel.completion) done.shows allowed))
]
