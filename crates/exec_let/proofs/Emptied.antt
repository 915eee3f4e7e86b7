-- How the homes of a let's bodies are emptied, one after the other.
use Rattle.std.specs.Prelude.{All, Contains, IfSome}
use Rattle.std.specs.Option.{option_map, option_map_or}
use Rattle.std.proofs.Common.{◌≡◌, ℕ, true, ◌==◌, List, [], ◌∷◌, ◌++◌, get_or, Option, Some, None, refl, sym, ap, ◌∙◌, subst}
use Rattle.std.proofs.lemmas.Bool.{cond-true, cond-false, eq-eqb, eqb-true}
use Rattle.std.proofs.lemmas.List.Elements.{All-contains, All-nil, All-push, Contains-append_left, Contains-push}
use Rattle.std.proofs.lemmas.List.Folds.{list_any_at}
use Rattle.std.proofs.lemmas.Map.Views.{Contains-from_any}
use Rattle.common_lemmas.proofs.Bool.{either}
use Rattle.plan_shape.specs.Blueprint.{Blueprint}
use Rattle.table_rules.specs.declared.view.Held.{Held}
use Rattle.table_steps.specs.Awaits.{is_named}
use Rattle.table_steps.specs.Views.{Board, IsHandOf}
use Rattle.op_slot.specs.Tends.{put_at}
use Rattle.home_items.specs.declared.entry.Entry.{Entry}
use Rattle.home_items.specs.declared.item.Item.{Item}
use Rattle.home_items.specs.Contents.{Done}
use Rattle.home_items.specs.Parcels.{Delivery}
use Rattle.exec_recv.specs.Seats.{HandSeat}
use Rattle.step_parts.specs.Midway.{ChangesHomes}
use Rattle.step_parts.specs.Stepping.{Stepping}
use Rattle.step_parts.specs.Takes.{IsFoundBelow, IsOpen, IsOpenWith, TakesChild}
use Rattle.step_parts.specs.Several.{emptied}
use Rattle.step_parts.proofs.Several.{emptied-else, emptied-in, empties-here, empties-more}
use Rattle.exec_let.specs.Opens.{IsOfBody, TakesBodies}

-- the one parcel, where there is one, else the other
abbrev pub first_of : Option Delivery → Option Delivery → Option Delivery
first_of (Some parcel) other = Some parcel
first_of None other = other

none-some : {G : Type 0} (item : Item) → None ≡ Some item → G
none-some item e = cc

first-none : (one other : Option Delivery) → first_of one other ≡ None → (one ≡ None) × (other ≡ None)
first-none (Some parcel) other e = cc
first-none None other e = (refl, e)

-- what is left when a home is emptied
pub put-fewer : (n : ℕ) (kid : ℕ → Option Item) (k : ℕ) (item : Item) → put_at n None kid k ≡ Some item → kid k ≡ Some item
put-fewer n kid k item full =
    either (n == k)
    (λ t. none-some item (sym (cond-true (n == k) None (kid k) t) ∙ full))
    (λ f. sym (cond-false (n == k) None (kid k) f) ∙ full)

pub put-here : (n : ℕ) (kid : ℕ → Option Item) → put_at n None kid n ≡ None
put-here n kid = cond-true (n == n) None (kid n) (eq-eqb n n refl)

-- and when several are
named-among : (ns : List ℕ) (k : ℕ) → is_named ns k ≡ true → Contains ns k
named-among ns k = Contains-from_any {eq = λ x y. y == x} (λ x y e. sym (eqb-true y x e)) k ns

pub among-empty : (ns : List ℕ) (kid : ℕ → Option Item) (k : ℕ) → Contains ns k → emptied ns kid k ≡ None
among-empty ns kid k (i, within, is) = emptied-in ns kid k (list_any_at (λ m. m == k) ns i k within (eq-eqb (get_or ns i k) k is))

pub emptied-none : (ns : List ℕ) (kid : ℕ → Option Item) (k : ℕ) → kid k ≡ None → emptied ns kid k ≡ None
emptied-none ns kid k none = either (is_named ns k) (λ t. emptied-in ns kid k t) (λ f. emptied-else ns kid k f ∙ none)

emptied-fewer : (ns : List ℕ) (kid : ℕ → Option Item) (k : ℕ) (item : Item) → emptied ns kid k ≡ Some item → kid k ≡ Some item
emptied-fewer ns kid k item full =
    either (is_named ns k)
    (λ t. none-some item (sym (emptied-in ns kid k t) ∙ full))
    (λ f. sym (emptied-else ns kid k f) ∙ full)

-- where none of their homes was full, none is that is empty now
emptied-back : (ns : List ℕ) (kid : ℕ → Option Item) (k : ℕ) → All (λ n. kid n ≡ None) ns → emptied ns kid k ≡ None → kid k ≡ None
emptied-back ns kid k all none =
    either (is_named ns k)
    (λ t. All-contains (λ n. kid n ≡ None) ns k all (named-among ns k t))
    (λ f. sym (emptied-else ns kid k f) ∙ none)

-- where only homes were changed, the parcel of a child is that still
pub found-still : (board : Board Blueprint) (t : Stepping) (n : ℕ) (old new : HandSeat) (parcel : Delivery) → ChangesHomes board t.name old new →
    IsFoundBelow board t n old.me parcel → IsFoundBelow board t n new.me parcel
found-still board t n old new parcel keeps found = record {
  lawful = found.lawful;
  entry = found.entry;
  below = found.below;
  of = found.of;
  draws = ap (λ (o : Option (Held Entry)). option_map_or (λ (e : Held Entry). e.lot) o None) keeps.same_held ∙ found.draws;
  calmly = λ none silent. found.calmly none (sym keeps.heard ∙ silent);
  shelters = found.shelters;
}

module _ (board : Board Blueprint) (t : Stepping) where
  -- before the first
  pub takes-nobody : (hand : HandSeat) → IsHandOf board hand → TakesBodies board t [] None hand hand
  takes-nobody hand of = record {
    empties = empties-here board t hand of;
    found = λ inside kid is. tt;
    nothing = λ inside kid is e. All-nil (λ n. kid n ≡ None);
  }

  -- and after one more
  module _ (bodies : List ℕ) (found : Option Delivery) (n : ℕ) (below : Option Delivery) (old middle new : HandSeat)
      (was : TakesBodies board t bodies found old middle) (next : TakesChild board t n below middle new) where
    module _ (inside : Item) (kid : ℕ → Option Item) (is : IsOpenWith board t inside kid old) where
      left : IsOpenWith board t inside (emptied bodies kid) middle
      left = was.empties.left inside kid is

      lay : emptied bodies kid n ≡ option_map Done below
      lay = next.lay inside (emptied bodies kid) left

      of-earlier : (parcel : Delivery) → IsOfBody board t bodies kid middle.me parcel →
          IsOfBody board t (bodies ++ n ∷ []) kid new.me parcel
      of-earlier parcel one = record {
        body = one.body;
        among = Contains-append_left bodies (n ∷ []) one.body one.among;
        found = found-still board t one.body middle new parcel next.keeps one.found;
        lay = one.lay;
      }

      of-this : (parcel : Delivery) → below ≡ Some parcel → IsOfBody board t (bodies ++ n ∷ []) kid new.me parcel
      of-this parcel e = record {
        body = n;
        among = Contains-push bodies n;
        found = subst (λ (o : Option Delivery). IfSome o (IsFoundBelow board t n new.me)) e
            (next.found (record { inside = inside; kid = emptied bodies kid; is = left }));
        lay = emptied-fewer bodies kid n (Done parcel) (lay ∙ ap (option_map Done) e);
      }

      of-either : (one other : Option Delivery) → below ≡ one → IfSome other (IsOfBody board t bodies kid middle.me) →
          IfSome (first_of one other) (IsOfBody board t (bodies ++ n ∷ []) kid new.me)
      of-either (Some parcel) other e earlier = of-this parcel e
      of-either None None e earlier = tt
      of-either None (Some parcel) e earlier = of-earlier parcel earlier

      more-nothing : first_of below found ≡ None → All (λ k. kid k ≡ None) (bodies ++ n ∷ [])
      more-nothing none =
          let parts = first-none below found none in
          let earlier = was.nothing inside kid is parts.1 in
          All-push (λ k. kid k ≡ None) bodies n earlier
          (emptied-back bodies kid n earlier (lay ∙ ap (option_map Done) parts.0))

    pub takes-more : TakesBodies board t (bodies ++ n ∷ []) (first_of below found) old new
    takes-more = record {
      empties = empties-more board t bodies old middle was.empties n below new next;
      found = λ inside kid is. of-either inside kid is below found refl (was.found inside kid is);
      nothing = more-nothing;
    }

-- the step goes on
pub child-opened : (board : Board Blueprint) (t : Stepping) (n : ℕ) (below : Option Delivery) (old new : HandSeat) →
    TakesChild board t n below old new → IsOpen board t old → IsOpen board t new
child-opened board t n below old new takes lies =
    record { inside = lies.inside; kid = put_at n None lies.kid; is = takes.left lies.inside lies.kid lies.is }
