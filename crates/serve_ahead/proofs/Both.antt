-- What an `ahead` may complete with, by what both its children came to.
use Rattle.std.specs.Prelude.{◌&&◌, IfSome, MatchOption, is_some}
use Rattle.std.proofs.Common.{◌≡◌, ℕ, ◌≤◌, Bool, true, false, ◌||◌, List, [], ◌∷◌, ◌++◌, length, inl, inr, Option, Some, None, refl, sym, ap, ◌∙◌, subst}
use Rattle.std.proofs.lemmas.Bool.{both_ways, false≢true}
use Rattle.std.proofs.lemmas.List.{length-append}
use Rattle.common_lemmas.proofs.Bool.{either}
use Rattle.exec_value.specs.declared.limits.TheConstants.{DATA}
use Rattle.exec_value.specs.declared.data.Datum.{Datum}
use Rattle.exec_value.specs.declared.outcome.Completion.{Completion}
use Rattle.exec_value.specs.declared.outcome.Completion.TheVariants.{Value, Error, Stopped, NoMemory}
use Rattle.plan_rules.specs.declared.node.Node.TheVariants.{Ahead}
use Rattle.plan_rules.specs.Images.{value_data}
use Rattle.plan_rules.specs.Settle.{ahead_of}
use Rattle.plan_shape.specs.Blueprint.{Blueprint}
use Rattle.table_steps.specs.Views.{Board}
use Rattle.home_items.specs.declared.entry.Entry.{Entry}
use Rattle.home_items.specs.Below.{AllowedWith}
use Rattle.home_items.specs.Entries.{plan_of, args_of, carried_of, carried_by}
use Rattle.home_items.specs.Parcels.{Delivery, MayDeliver}
use Rattle.home_items.specs.Starts.{IsReceiverStart}
use Rattle.home_items.proofs.Collecting.{receiver-none}
use Rattle.exec_recv.specs.Seats.{HandSeat}
use Rattle.start_laws.specs.Nodes.{IsStartOf}
use Rattle.start_laws.proofs.Rooms.{room-there}
use Rattle.start_laws.proofs.Together.{aheads-allowed}
use Rattle.step_parts.specs.Heard.{has_heard, was_told, Looked, MaySee}
use Rattle.step_parts.specs.Midway.{KeepsReady}
use Rattle.step_parts.specs.Stepping.{Stepping}
use Rattle.step_parts.proofs.Completed.{or-left, or-right}
use Rattle.step_parts.proofs.Ended.{unheard-before}
use Rattle.node_walks.specs.declared.completing.Ended.{Ended}
use Rattle.node_walks.specs.Completes.{AllowedAtTop}
use Rattle.serve_ahead.specs.declared.joining.Joined.{Joined}
use Rattle.serve_ahead.specs.declared.taking.AheadAt.{AheadAt}
use Rattle.serve_ahead.specs.Spawned.{HasRoom, IsJoined, IsOperation, IsSpawnedFor}
use Rattle.serve_ahead.specs.Takes.{HasAtHand}
use Rattle.serve_ahead.proofs.AtHand.{carries-args, of, may-fail}

-- a receiver node runs with its arguments
receiver-carries : (start : List Entry) → IsReceiverStart start → carried_of start ≡ args_of start
receiver-carries [] is = absurd is
receiver-carries (e ∷ []) is = ap (λ o. carried_by o e) (receiver-none e is)
receiver-carries (e ∷ p ∷ above) is = absurd is

-- an operation that carries what the `ahead` does has its arguments
pub same-args : (start other : List Entry) (first second : ℕ) → IsStartOf start (Ahead first second) → IsReceiverStart other →
    carried_of other ≡ carried_of start → args_of other ≡ args_of start
same-args start other first second of receiver same =
    sym (receiver-carries other receiver) ∙ same ∙ carries-args start first second of

-- both come to the second's failure
ahead-fails : (first second : Completion) → is_some (value_data second) ≡ false → ahead_of first second ≡ second
ahead-fails (Value front) (Value values) none = absurd (false≢true (sym none))
ahead-fails first (Value values) none = absurd (false≢true (sym none))
ahead-fails first second none = refl

or-false : (b : Bool) → (b || false) ≡ b
or-false true = refl
or-false false = refl

-- neither saw a request
both-silent : (a b c : Bool) → a ≡ false → c ≡ false → (a || (b && c)) ≡ false
both-silent true b c none silent = cc
both-silent false true c none silent = silent
both-silent false false c none silent = refl

-- what is no value has none
pub no-values : (c : Completion) → ((x : List Datum) → c ≡ Value x → ⊥) → is_some (value_data c) ≡ false
no-values (Value values) none = absurd (none values refl)
no-values (Error name) none = refl
no-values Stopped none = refl
no-values NoMemory none = refl

-- what both came to, by whether the second has a value
module _ (parcel : Delivery) (first : Completion) (seen : Bool) where
  pub values-joined : (values : List Datum) → parcel.completion ≡ Value values → (joined : Joined) → joined.done ≡ ahead_of first (Value values) →
      joined.saw ≡ (parcel.saw || seen) → IsJoined parcel first seen joined
  values-joined values value joined done saw =
      record {
        done_is = done ∙ ap (ahead_of first) (sym value);
        saw_is = saw ∙ ap (λ d. parcel.saw || (is_some (value_data d) && seen)) (sym value);
      }

  pub failure-joined : is_some (value_data parcel.completion) ≡ false → (joined : Joined) → joined.done ≡ parcel.completion →
      joined.saw ≡ parcel.saw → IsJoined parcel first seen joined
  failure-joined none joined done saw =
      record {
        done_is = done ∙ sym (ahead-fails first parcel.completion none);
        saw_is = saw ∙ sym (or-false parcel.saw) ∙ ap (λ b. parcel.saw || (b && seen)) (sym none);
      }

-- The `ahead` is at hand with its second child's parcel, and the first child's operation was ended.
module _ (board : Board Blueprint) (at : AheadAt) (t : Stepping) (parcel : Delivery) (hand : HandSeat) (has : HasAtHand board at t (Some parcel) hand)
    (ended : Ended) (op : IsOperation board ended) where
  abbrev first : Completion
  first = ended.collected.completion

  abbrev seen : Bool
  seen = ended.collected.saw

  pub plan-same : plan_of ended.env ≡ plan_of t.start
  plan-same = op.key ∙ sym has.taken.ready.is.key

  -- it ran the first child for the record of the `ahead`
  module _ (spawned : IsSpawnedFor t.start at.first ended.env) where
    module _ (values : List Datum) (value : parcel.completion ≡ Value values) where
      -- what is allowed for the child that the operation's start names
      at-top : (other : List Entry) → IsReceiverStart other → IsSpawnedFor t.start at.first other → AllowedAtTop other seen first →
          MayDeliver t.start (parcel.saw || seen) (ahead_of first (Value values))
      at-top [] receiver for allowed = absurd receiver
      at-top (e ∷ []) receiver for allowed =
          aheads-allowed t.start at.first at.second (of board at t (Some parcel) hand has) parcel has.parcel.from.delivers has.parcel.from.child values value e
          (record { plan = for.plan; args = for.args; number = for.number; asked = for.asked }) seen first
          (subst (λ o. MatchOption o ⊥ (λ child. AllowedWith e seen child first)) for.names allowed)
          (parcel.saw || seen) (or-left parcel.saw seen) (or-right parcel.saw seen)
      at-top (e ∷ p ∷ above) receiver for allowed = absurd receiver

      -- so both may be delivered, or the first's failure
      may-join : MayDeliver t.start (parcel.saw || seen) (ahead_of first (Value values))
      may-join = elim op.may [
        | inl want ↦ inl (ap (λ c. ahead_of c (Value values)) want)
        | inr allowed ↦ at-top ended.env op.receiver spawned allowed
      ]

      -- and there is room for them
      has-room : HasRoom first values
      has-room = room-of first refl
        where
          room-of : (c : Completion) → first ≡ c → HasRoom c values
          room-of (Value front) is =
              let delivers = subst (λ c. MayDeliver t.start (parcel.saw || seen) (ahead_of c (Value values))) is may-join in
              let few =
              room-there.few t.start (Ahead at.first at.second) (of board at t (Some parcel) hand has) tt (parcel.saw || seen) (front ++ values) delivers in
              subst (λ n. n ≤ DATA) (length-append front values) few
          room-of (Error name) is = tt
          room-of Stopped is = tt
          room-of NoMemory is = tt

    pub room-there-is : IfSome (value_data parcel.completion) (HasRoom first)
    room-there-is = room-of parcel.completion refl
      where
        room-of : (c : Completion) → parcel.completion ≡ c → IfSome (value_data c) (HasRoom first)
        room-of (Value values) is = has-room values is
        room-of (Error name) is = tt
        room-of Stopped is = tt
        room-of NoMemory is = tt

    -- the failure of the second child passes
    passes : (c : Completion) → parcel.completion ≡ c → is_some (value_data c) ≡ false →
        MayDeliver t.start (parcel.saw || (is_some (value_data c) && seen)) (ahead_of first c)
    passes c is none =
        subst (λ (b : Bool). MayDeliver t.start (parcel.saw || (b && seen)) (ahead_of first c)) (sym none)
        (subst (λ (b : Bool). MayDeliver t.start b (ahead_of first c)) (sym (or-false parcel.saw))
        (subst (λ (done : Completion). MayDeliver t.start parcel.saw done) (is ∙ sym (ahead-fails first c none))
        (may-fail board at t parcel hand has (ap (λ d. is_some (value_data d)) is ∙ none))))

    -- by what the second came to
    may-deliver : (c : Completion) → parcel.completion ≡ c →
        MayDeliver t.start (parcel.saw || (is_some (value_data c) && seen)) (ahead_of first c)
    may-deliver (Value values) is = may-join values is
    may-deliver (Error name) is = passes (Error name) is refl
    may-deliver Stopped is = passes Stopped is refl
    may-deliver NoMemory is = passes NoMemory is refl

    -- what both came to may be delivered
    pub joined-allowed : (joined : Joined) → IsJoined parcel first seen joined → MayDeliver t.start joined.saw joined.done
    joined-allowed joined is =
        subst (λ (saw : Bool). MayDeliver t.start saw joined.done) (sym is.saw_is)
        (subst (λ (done : Completion). MayDeliver t.start (parcel.saw || (is_some (value_data parcel.completion) && seen)) done) (sym is.done_is)
        (may-deliver parcel.completion refl))

  -- what both saw, the hand has heard of
  pub joined-sees : (joined : Joined) → IsJoined parcel first seen joined → (heard : Bool) (old looked : HandSeat) →
      Looked board t.name heard old.me looked.me → KeepsReady board t.name looked.me hand.me → (heard ≡ false → seen ≡ false) →
      MaySee board t.name joined.saw hand.me
  joined-sees joined is heard old looked looks keeps silent none =
      let before = unheard-before board t.name looked.me hand.me keeps none in
      let unheard : heard ≡ false =
      either heard
      (λ t_. absurd (both_ways (has_heard board t.name looked.me) before (ap (λ b. b || was_told t.name looked.me) (looks.yes t_))))
      (λ f. f) in
      is.saw_is ∙ both-silent parcel.saw (is_some (value_data parcel.completion)) seen (has.parcel.from.saw none) (silent unheard)
