-- The futures that a run keeps, when its operations come and go, and when it serves them.
use Rattle.std.proofs.Common.{◌≡◌, ◌⊎◌, ℕ, ◌+◌, ◌<◌, ◌≤◌, List, length, set, get_or, inl, inr, sym, ap, ◌∙◌, arith}
use Rattle.std.specs.Prelude.{Option, Some, None}
use Rattle.std.proofs.lemmas.Bool.{cases_eq}
use Rattle.std.proofs.lemmas.Option.{none-some, same_Some}
use Rattle.life_rules.specs.declared.event.Name.{Name}
use Rattle.plan_shape.specs.Blueprint.{Blueprint}
use Rattle.table_rules.specs.Named.{find_by}
use Rattle.table_steps.specs.Slots.{noted_at}
use Rattle.table_steps.specs.Views.{Board}
use Rattle.table_steps.specs.Seats.{Seated}
use Rattle.home_items.specs.declared.entry.Entry.{Entry}
use Rattle.home_items.specs.declared.item.Item.{Item}
use Rattle.exec_recv.specs.Asides.{Aside, aside_of}
use Rattle.spawn_future.specs.declared.future.Future.{Future}
use Rattle.spawn_future.specs.Counts.{beside_blocks, IsOfNoFuture, BeginsAndEnds}
use Rattle.spawn_future.specs.Keeping.{root_of as future_root, AreKept}
use Rattle.spawn_future.specs.Slots.{Has as HasFuture, kept_in}
use Rattle.spawn_future.specs.Sweeps.{Sweeps}
use Rattle.record_operations.specs.declared.tickets.Operation.{Operation}
use Rattle.record_operations.specs.Calls.{with_left, LeavesWith, EntersOperation, RequestsStop}
use Rattle.record_operations.specs.Runs.{root_of, taken}
use Rattle.record_operations.specs.Sound.{Has, AreListed, AreSpawned}
use Rattle.record_operations.specs.Spawned.{ServesSpawned}
use Rattle.record_operations.proofs.Listed.{name_of, put-here, put-there, one-less}
use Rattle.record_operations.proofs.Named.{others-found, others-stay}

-- where their notes stay, and the hand has an association for each, they are kept still
kept-still : (board : Board Blueprint) (futures : List (Option Future)) (m m' : Seated Item Entry) → AreKept board futures m →
    kept_in futures ≤ m'.0.made →
    ((t : ℕ) (f : Future) → HasFuture futures t f → noted_at m'.0 (future_root board f) ≡ noted_at m.0 (future_root board f)) →
    AreKept board futures m'
kept-still board futures m m' kept made same = record {
  made = made;
  each = λ t f has.
      let listed = kept.each t f has in
      record { within = listed.within; start = listed.start; noted = same t f has ∙ listed.noted; receiver = listed.receiver };
  apart = kept.apart;
}

-- what a ticket has after one was put under a ticket
put-cases : (operations : List (Option Operation)) (t : ℕ) → t < length operations → (o : Operation) (u : ℕ) (p : Operation) →
    Has (set operations t (Some o)) u p → (o ≡ p) ⊎ Has operations u p
put-cases operations t within o u p has = elim (cases_eq u t) [
  | inl here ↦
      inl
      (same_Some o p
      (sym (put-here operations t within (Some o)) ∙ ap (λ k. get_or (set operations t (Some o)) k None) (sym here) ∙ has))
  | inr there ↦ inr (sym (put-there operations t within (Some o) u there) ∙ has)
]

left-cases : (operations : List (Option Operation)) (t : ℕ) → t < length operations → (u : ℕ) (p : Operation) →
    Has (set operations t None) u p → Has operations u p
left-cases operations t within u p has = elim (cases_eq u t) [
  | inl here ↦
      absurd
      (none-some p (sym (put-here operations t within None) ∙ ap (λ k. get_or (set operations t None) k None) (sym here) ∙ has))
  | inr there ↦ sym (put-there operations t within None u there) ∙ has
]

module _ (board : Board Blueprint) (operations : List (Option Operation)) (futures : List (Option Future)) (m m' : Seated Item Entry)
    (spawned : AreSpawned board operations futures m) where
  -- a root of which no start is noted is none of theirs
  unnoted-none : (x : Name) → find_by name_of m.0.noted x ≡ None → IsOfNoFuture board futures x
  unnoted-none x none t f has at =
      let start = (spawned.kept.each t f has).noted in
      let gone : find_by name_of m.0.noted (future_root board f) ≡ None = ap (find_by name_of m.0.noted) at ∙ none in
      cc

  -- calls that leave what the view says beside
  pub same-spawned : aside_of m'.0 ≡ aside_of m.0 → AreSpawned board operations futures m'
  same-spawned is =
      let made = spawned.kept.made in
      let made_is : m'.0.made ≡ m.0.made = ap (λ (a : Aside). a.made) is in
      record {
        kept = kept-still board futures m m' spawned.kept (omega (arith, made, made_is))
            (λ t f has. ap (λ (a : Aside). find_by name_of a.noted (future_root board f)) is);
        apart = spawned.apart;
      }

  pub asked-spawned : RequestsStop board m m' → AreSpawned board operations futures m'
  asked-spawned asks =
      let made = spawned.kept.made in
      let made_is : m'.0.made ≡ m.0.made = ap (λ (a : Aside). a.made) asks.same in
      record {
        kept = kept-still board futures m m' spawned.kept (omega (arith, made, made_is))
            (λ t f has. ap (λ (a : Aside). find_by name_of a.noted (future_root board f)) asks.same);
        apart = spawned.apart;
      }

  module _ (t : ℕ) (within : t < length operations) (o : Operation) where
    -- an operation is started
    pub entered-spawned : (start : List Entry) → EntersOperation board o start m m' → AreSpawned board (set operations t (Some o)) futures m'
    entered-spawned start enters =
        let made = spawned.kept.made in
        let made_is : m'.0.made ≡ m.0.made + 1 = ap (λ (a : Aside). a.made) enters.leaves.is in
        let none = unnoted-none (root_of board o) enters.unnoted in
        record {
          kept = kept-still board futures m m' spawned.kept (omega (arith, made, made_is))
              (λ u f has.
              ap (λ (a : Aside). find_by name_of a.noted (future_root board f)) enters.leaves.is
              ∙ others-found name_of (record { name = root_of board o; start = start }) m.0.noted (future_root board f)
              (λ at. none u f has (sym at)));
          apart = λ u p has.
              elim (put-cases operations t within o u p has) [
                | inl here ↦ λ k f has_f at. none k f has_f (at ∙ ap (root_of board) (sym here))
                | inr there ↦ spawned.apart u p there
              ];
        }

    -- one is collected
    pub left-spawned : (plan : Blueprint) → AreListed board plan (aside_of m.0) operations (kept_in futures) → Has operations t o →
        LeavesWith (with_left (root_of board o) (aside_of m.0)) m m' → AreSpawned board (set operations t None) futures m'
    left-spawned plan listed has leaves =
        let made : m.0.made ≡ taken operations + kept_in futures = listed.made in
        let less = one-less operations t within o has in
        let made_is = ap (λ (a : Aside). a.made + 1) leaves.is in
        let made_now : m'.0.made + 1 ≡ m.0.made = omega (arith, made, less, made_is) in
        record {
          kept = kept-still board futures m m' spawned.kept (omega (arith, made, less, made_now))
              (λ u f has_f.
              ap (λ (a : Aside). find_by name_of a.noted (future_root board f)) leaves.is
              ∙ others-stay name_of m.0.noted (root_of board o) (future_root board f)
              (λ at. spawned.apart t o has u f has_f (sym at)));
          apart = λ u p has_p. spawned.apart u p (left-cases operations t within u p has_p);
        }

-- futures were served
module _ (board : Board Blueprint) (plan : Blueprint) (operations : List (Option Operation)) (old new : List (Option Future)) (m m' : Seated Item Entry)
    (listed : AreListed board plan (aside_of m.0) operations (kept_in old)) (spawned : AreSpawned board operations old m)
    (serves : ServesSpawned board old new m m') where
  pub served-noted : (t : ℕ) (o : Operation) → Has operations t o → noted_at m'.0 (root_of board o) ≡ noted_at m.0 (root_of board o)
  served-noted t o has =
      let start = (listed.each t o has).start in serves.noted (root_of board o) _ (spawned.apart t o has) start ∙ sym start

  pub served-listed : AreListed board plan (aside_of m'.0) operations (kept_in new)
  served-listed =
      let made : m.0.made ≡ taken operations + kept_in old = listed.made in
      let claimed : m.0.claimed ≡ m.0.released + taken operations + kept_in old = listed.claimed in
      let kept = serves.kept in
      let made_is = serves.made in
      let claimed_is = serves.claimed in
      let released_is = serves.released in
      record {
        made = omega (arith, made, kept, made_is);
        claimed = omega (arith, claimed, kept, claimed_is, released_is);
        each = λ t o has.
            let before = listed.each t o has in
            record {
              within = before.within;
              number = before.number;
              datum = before.datum;
              asked = before.asked;
              start = served-noted t o has ∙ before.start;
            };
        apart = listed.apart;
      }

  pub served-spawned : AreKept board new m' → AreSpawned board operations new m'
  served-spawned kept = record {
    kept = kept;
    apart = λ t o has. serves.apart (root_of board o) _ (spawned.apart t o has) (listed.each t o has).start;
  }

-- by a turn
pub turned-serves : (board : Board Blueprint) (old new : List (Option Future)) (m m' : Seated Item Entry) → BeginsAndEnds board old new m m' →
    ServesSpawned board old new m m'
turned-serves board old new m m' did = record {
  begun = did.begun;
  ended = did.ended;
  kept = did.kept;
  made = did.made;
  claimed = did.claimed;
  released = did.released;
  aside = did.aside;
  noted = did.notes.noted;
  apart = did.notes.apart;
  sees = did.sees;
}

-- by a sweep
pub swept-serves : (board : Board Blueprint) (old new : List (Option Future)) (m m' : Seated Item Entry) (count : ℕ) → Sweeps board old new m m' count →
    ServesSpawned board old new m m'
swept-serves board old new m m' count swept =
    let kept = swept.kept in
    let made = swept.ends.made in
    let claimed : m'.0.claimed ≡ m.0.claimed = ap (λ (a : Aside). a.claimed) swept.ends.aside in
    record {
      begun = 0;
      ended = count;
      kept = omega (arith, kept);
      made = omega (arith, made);
      claimed = omega (arith, claimed);
      released = swept.ends.released;
      aside = ap (λ (a : Aside). record a { claimed = (aside_of m.0).claimed }) swept.ends.aside;
      noted = λ x e none is. swept.ends.noted x (λ t f has abandoned at. none t f has at) ∙ is;
      apart = λ x e none is t f has at. none t f (swept.stays t f has) at;
      sees = swept.ends.sees;
    }

-- and one after the other
pub serves-on : (board : Board Blueprint) (old between new : List (Option Future)) (m m1 m' : Seated Item Entry) → ServesSpawned board old between m m1 →
    ServesSpawned board between new m1 m' → ServesSpawned board old new m m'
serves-on board old between new m m1 m' first next =
    let kept = first.kept in
    let kept_then = next.kept in
    let made = first.made in
    let made_then = next.made in
    let claimed = first.claimed in
    let claimed_then = next.claimed in
    let released = first.released in
    let released_then = next.released in
    record {
      begun = first.begun + next.begun;
      ended = first.ended + next.ended;
      kept = omega (arith, kept, kept_then);
      made = omega (arith, made, made_then);
      claimed = omega (arith, claimed, claimed_then);
      released = omega (arith, released, released_then);
      aside = ap (beside_blocks (aside_of m.0)) next.aside ∙ first.aside;
      noted = λ x e none is. next.noted x e (first.apart x e none is) (first.noted x e none is);
      apart = λ x e none is. next.apart x e (first.apart x e none is) (first.noted x e none is);
      sees = λ source seen. next.sees source (first.sees source seen);
    }
