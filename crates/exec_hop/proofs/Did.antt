-- What the step of a node with a child did, by what it found.
use Rattle.std.proofs.Common.{◌≡◌, inl, inr, ℕ, true, false, Option, Some, None, subst}
use Rattle.std.proofs.lemmas.Option.{same_Some}
use Rattle.exec_value.specs.declared.outcome.Completion.TheVariants.{Stopped}
use Rattle.life_rules.specs.declared.event.Name.{Name}
use Rattle.node_tree.specs.declared.context.Context.{Context}
use Rattle.plan_rules.specs.declared.node.Node.TheVariants.{StartsOn as IsStartsOn, ContinuesOn as IsContinuesOn, Unstoppable}
use Rattle.plan_shape.specs.Blueprint.{Blueprint}
use Rattle.table_steps.specs.Views.{Board}
use Rattle.home_items.specs.declared.item.State.{State}
use Rattle.home_items.specs.declared.item.State.TheVariants.{Start as Begins}
use Rattle.home_items.specs.Entries.{asked_of}
use Rattle.home_items.specs.Parcels.{Delivery}
use Rattle.exec_recv.specs.declared.next.Next.{Next}
use Rattle.exec_recv.specs.Seats.{HandSeat}
use Rattle.exec_recv.specs.Sites.{node_at}
use Rattle.step_parts.specs.Completes.{Completes}
use Rattle.step_parts.specs.Starts.{StartsAgain, StartsChild}
use Rattle.step_parts.specs.Stepping.{Stepping}
use Rattle.step_parts.specs.Takes.{TakesBack, TakesBegun, TakesNew, TakesState}
use Rattle.exec_hop.specs.Hops.{Passes, LandsIn, EndsWith, LooksAndStarts, Lands, StartsOn, ContinuesOn, Shelters}

some-none : (a : Delivery) → Some a ≡ None → ⊥
some-none a e = cc

none-some : (a : Delivery) → None ≡ Some a → ⊥
none-some a e = cc

module _ (board : Board Blueprint) (x : Name) (t : Stepping) (state : State) (old up : HandSeat) (takes : TakesState board x t state old up) where
  news : state ≡ Begins → TakesNew board x t old up
  news begins = subst (λ (s : State). TakesState board x t s old up) begins takes

  begun : (state ≡ Begins → ⊥) → (child : ℕ) (answer found : Option Delivery) (middle : HandSeat) → TakesBack board t child answer up middle →
      answer ≡ found → TakesBegun board x child t found old middle
  begun other child answer found middle back is =
      record {
        state = state;
        up = up;
        takes = takes;
        begun = other;
        back = subst (λ (o : Option Delivery). TakesBack board t child o up middle) is back;
      }

  -- a `starts_on`
  module _ (on : Context) (child : ℕ) (at : node_at board x ≡ Some (IsStartsOn on child)) (next : Next) where
    pub hops-first : (new : HandSeat) → state ≡ Begins → LandsIn board t on None next up new → StartsOn board x next old new
    hops-first new begins lands =
        record { on = on; child = child; node = at; does = inl (record { taken = t; up = up; takes = news begins; hops = lands }) }

    module _ (other : state ≡ Begins → ⊥) (answer : Option Delivery) (middle new : HandSeat) (back : TakesBack board t child answer up middle) where
      pub goes-back : (parcel : Delivery) → answer ≡ Some parcel → EndsWith board t parcel false next middle new → StartsOn board x next old new
      goes-back parcel is ends =
          record {
            on = on;
            child = child;
            node = at;
            does = inr (record {
              taken = t;
              answer = Some parcel;
              middle = middle;
              takes = begun other child answer (Some parcel) middle back is;
              ends = λ p e. subst (λ (q : Delivery). EndsWith board t q false next middle new) (same_Some parcel p e) ends;
              starts = λ e. absurd (some-none parcel e);
            });
          }

      pub goes-below : answer ≡ None → LooksAndStarts board t child next middle new → StartsOn board x next old new
      goes-below is looks =
          record {
            on = on;
            child = child;
            node = at;
            does = inr (record {
              taken = t;
              answer = None;
              middle = middle;
              takes = begun other child answer None middle back is;
              ends = λ p e. absurd (none-some p e);
              starts = λ e. looks;
            });
          }

  -- a `continues_on`
  module _ (child : ℕ) (on : Context) (at : node_at board x ≡ Some (IsContinuesOn child on)) (next : Next) where
    pub starts-first : (new : HandSeat) → state ≡ Begins → (asked_of t.start ≡ true → Completes board t Stopped false next up new) →
        (asked_of t.start ≡ false → StartsChild board t child next up new) → ContinuesOn board x next old new
    starts-first new begins stops starts =
        record {
          child = child;
          on = on;
          node = at;
          does = inl (record { taken = t; up = up; takes = news begins; stops = stops; starts = starts });
        }

    module _ (other : state ≡ Begins → ⊥) (answer : Option Delivery) (middle new : HandSeat) (back : TakesBack board t child answer up middle) where
      pub hops-back : (parcel : Delivery) → answer ≡ Some parcel → LandsIn board t on (Some parcel) next middle new → ContinuesOn board x next old new
      hops-back parcel is lands =
          record {
            child = child;
            on = on;
            node = at;
            does = inr (record {
              taken = t;
              answer = Some parcel;
              middle = middle;
              takes = begun other child answer (Some parcel) middle back is;
              hops = λ p e. subst (λ (q : Delivery). LandsIn board t on (Some q) next middle new) (same_Some parcel p e) lands;
              lands = λ e. absurd (some-none parcel e);
            });
          }

      pub lands-below : answer ≡ None → Lands board t child next middle new → ContinuesOn board x next old new
      lands-below is lands =
          record {
            child = child;
            on = on;
            node = at;
            does = inr (record {
              taken = t;
              answer = None;
              middle = middle;
              takes = begun other child answer None middle back is;
              hops = λ p e. absurd (none-some p e);
              lands = λ e. lands;
            });
          }

  -- an `unstoppable`
  module _ (child : ℕ) (at : node_at board x ≡ Some (Unstoppable child)) (next : Next) where
    pub shelters-first : (new : HandSeat) → state ≡ Begins → StartsChild board t child next up new → Shelters board x next old new
    shelters-first new begins starts =
        record { child = child; node = at; does = inl (record { taken = t; up = up; takes = news begins; starts = starts }) }

    module _ (other : state ≡ Begins → ⊥) (answer : Option Delivery) (middle new : HandSeat) (back : TakesBack board t child answer up middle) where
      pub shelters-back : (parcel : Delivery) → answer ≡ Some parcel → Passes board t parcel next middle new → Shelters board x next old new
      shelters-back parcel is passes =
          record {
            child = child;
            node = at;
            does = inr (record {
              taken = t;
              answer = Some parcel;
              middle = middle;
              takes = begun other child answer (Some parcel) middle back is;
              ends = λ p e. subst (λ (q : Delivery). Passes board t q next middle new) (same_Some parcel p e) passes;
              starts = λ e. absurd (some-none parcel e);
            });
          }

      pub shelters-below : answer ≡ None → StartsAgain board t child next middle new → Shelters board x next old new
      shelters-below is starts =
          record {
            child = child;
            node = at;
            does = inr (record {
              taken = t;
              answer = None;
              middle = middle;
              takes = begun other child answer None middle back is;
              ends = λ p e. absurd (none-some p e);
              starts = λ e. starts;
            });
          }
