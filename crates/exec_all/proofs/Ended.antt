-- A `when_all` completes with what its children complete with together.
use Rattle.std.proofs.Common.{◌≡◌, ◌⊎◌, inl, inr, ℕ, ◌≤◌, Bool, true, false, List, length, arith, refl, sym, ◌∙◌, subst}
use Rattle.std.specs.Prelude.{slice_index}
use Rattle.std.proofs.lemmas.Bool.{both_ways}
use Rattle.std.proofs.lemmas.List.Elements.{Contains-get_or}
use Rattle.exec_value.specs.declared.limits.TheConstants.{DATA, INLINE_DATA}
use Rattle.exec_value.specs.declared.outcome.Completion.{Completion}
use Rattle.exec_value.specs.declared.outcome.Completion.TheVariants.{Value, Error, Stopped, NoMemory}
use Rattle.node_tree.specs.Tree.{is_root}
use Rattle.plan_rules.specs.declared.node.Node.TheVariants.{WhenAll}
use Rattle.plan_shape.specs.Blueprint.{Blueprint}
use Rattle.table_steps.specs.Views.{Board}
use Rattle.home_items.specs.Bounds.{least_of}
use Rattle.home_items.specs.Contents.{Done}
use Rattle.home_items.specs.Parcels.{Delivery, MayDeliver, parcel_with}
use Rattle.node_images.specs.Joined.{HasMoreThan}
use Rattle.node_images.specs.Makes.{CompletesInPlace}
use Rattle.exec_recv.specs.Seats.{HandSeat}
use Rattle.start_laws.specs.AllEnds.{all_ends, all_saw}
use Rattle.start_laws.specs.AllLaws.{AllDelivered}
use Rattle.start_laws.specs.Nodes.{IsStartOf}
use Rattle.start_laws.specs.RoomLaws.{IsLongError}
use Rattle.start_laws.proofs.Knowing.{from-plain}
use Rattle.start_laws.proofs.Rooms.{room-there}
use Rattle.start_laws.proofs.Walked.{alls-end}
use Rattle.step_parts.specs.Completes.{MayEnd}
use Rattle.step_parts.specs.Heard.{has_heard}
use Rattle.step_parts.specs.Stepping.{Stepping}
use Rattle.step_parts.proofs.Frames.{ready-less}
use Rattle.step_parts.proofs.Took.{taken-inner, taken-of}
use Rattle.step_parts.proofs.Wanted.{want-ends}
use Rattle.exec_all.specs.declared.joining.Joining.{Joining}
use Rattle.exec_all.specs.Joined.{some_want, NoneWants}
use Rattle.exec_all.specs.Ends.{MayEndAll}
use Rattle.exec_all.proofs.Plans.{done-all}
use Rattle.exec_all.proofs.Walking.{none-want, want-none}

-- more data than there is room for
too-many : (c : Completion) (most : ℕ) → HasMoreThan most c → ((values : List _) → c ≡ Value values → length values ≤ most) → ⊥
too-many (Value values) most more few = let less = few values refl in omega (arith, more, less)
too-many (Error name) most more few = more
too-many Stopped most more few = more
too-many NoMemory most more few = more

in-place : (c : Completion) → CompletesInPlace c ⊎ IsLongError c → HasMoreThan INLINE_DATA c → ⊥
in-place (Value values) (inl place) more = let few = place.few in omega (arith, few, more)
in-place (Value values) (inr long) more = long
in-place (Error name) stands more = more
in-place Stopped stands more = more
in-place NoMemory stands more = more

module _ (board : Board Blueprint) (t : Stepping) (joining : Joining) (hand : HandSeat) (may : MayEndAll board t joining hand) where
  abbrev count : ℕ
  count = length may.children

  abbrev ends : ℕ → Delivery
  ends = may.have.ends

  of : IsStartOf t.start (WhenAll may.children)
  of = taken-of board t hand may.taken (WhenAll may.children) may.node_is

  inner : is_root board.frame.tree t.name.node ≡ false
  inner = taken-inner board t hand may.taken (WhenAll may.children) may.node_is

  -- whether one wants memory
  module _ (want : Bool) (is : want ≡ joining.want) where
    want-is : want ≡ some_want ends count
    want-is = is ∙ may.have.joined.want

    pub some-want : want ≡ true → some_want ends count ≡ true
    some-want wants = sym want-is ∙ wants

    pub no-want : want ≡ false → NoneWants ends count
    no-want off = want-none ends count (sym want-is ∙ off)

    -- where none does, none is said to
    pub wants-none : {G : Type 0} → want ≡ false → some_want ends count ≡ true → G
    wants-none off some = absurd (both_ways want off (want-is ∙ some))

    pub wants-some : {G : Type 0} → want ≡ true → some_want ends count ≡ false → G
    wants-some on none = absurd (both_ways want (want-is ∙ none) on)

    -- in a small plan none does
    pub want-memory : want ≡ true → MayEnd board t NoMemory false hand
    want-memory on =
        want-ends board t hand may.taken inner
        (λ small.
        both_ways (some_want ends count) (none-want ends count (λ i within. (may.have.each i within).small small)) (some-want on))

  -- where none does, what they come to together may be delivered
  module _ (none : NoneWants ends count) where
    delivered : AllDelivered t.start may.children ends
    delivered =
        record {
          node = of;
          unasked = may.unasked;
          delivers = λ i within. (may.have.each i within).delivers;
          child = λ i within.
              (from-plain t.start (ends i) (slice_index may.children i) may.have.told (may.have.each i within) (WhenAll may.children) of
              (Contains-get_or may.children i 0 within)).child;
          place = λ i within. (may.have.each i within).number;
        }

    end-may : MayDeliver t.start (all_saw ends count) (all_ends ends count)
    end-may = alls-end.may t.start may.children ends delivered none

    -- there is room for it
    pub end-fits : HasMoreThan DATA (all_ends ends count) → ⊥
    end-fits more =
        too-many (all_ends ends count) DATA more
        (λ values is.
        room-there.few t.start (WhenAll may.children) of tt (all_saw ends count) values
        (subst (MayDeliver t.start (all_saw ends count)) is end-may))

    -- and in a small plan it stands in place
    pub large-memory : HasMoreThan INLINE_DATA (all_ends ends count) → MayEnd board t NoMemory false hand
    large-memory more =
        want-ends board t hand may.taken inner
        (λ small.
        in-place (all_ends ends count)
        (room-there.in_place t.start (WhenAll may.children) of small (all_saw ends count) (all_ends ends count) end-may) more)

    end-sees : has_heard board t.name hand.me ≡ false → all_saw ends count ≡ false
    end-sees =
        alls-end.unseen ends count none (has_heard board t.name hand.me) may.have.told (λ silent i within. (may.have.each i within).saw silent)
        may.have.failed

    ends-all : MayEnd board t (all_ends ends count) (all_saw ends count) hand
    ends-all =
        record {
          taken = may.taken;
          inner = inner;
          allowed = end-may;
          few = ready-less board t.name t.start hand.me count (least_of (Done (parcel_with t.start (all_ends ends count) (all_saw ends count))))
              (done-all (parcel_with t.start (all_ends ends count) (all_saw ends count)) may.children of) may.ready;
          sees = end-sees;
          small = λ small. alls-end.has_memory ends count none;
        }

    -- as it was made
    pub end-tells : (done : Completion) (saw : Bool) → (done ≡ all_ends ends count) × (saw ≡ all_saw ends count) → MayEnd board t done saw hand
    end-tells done saw is =
        subst (λ (s : Bool). MayEnd board t done s hand) (sym is.1)
        (subst (λ (d : Completion). MayEnd board t d (all_saw ends count) hand) (sym is.0) ends-all)
