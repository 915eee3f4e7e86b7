-- A bulk reads of its parts, one after the other, that they haven't begun.
use Rattle.std.proofs.Common.{◌≡◌, inl, inr, ℕ, ◌+◌, Bool, true, false, ◌||◌, ◌==◌, List, get_or, arith, refl, sym, ap, ◌∙◌, subst}
use Rattle.std.specs.List.{list_any}
use Rattle.std.proofs.lemmas.Bool.{or_right, cases_lt}
use Rattle.std.proofs.lemmas.Option.{same_Some}
use Rattle.life_rules.specs.declared.event.Name.{Name}
use Rattle.life_rules.specs.Views.{beside}
use Rattle.node_tree.specs.Tree.{is_child}
use Rattle.plan_shape.specs.Blueprint.{Blueprint}
use Rattle.table_rules.specs.declared.view.Held.{Held}
use Rattle.table_rules.specs.Named.{find_by}
use Rattle.table_steps.specs.Views.{Board, Stays}
use Rattle.table_steps.specs.Seats.{Seated}
use Rattle.table_steps.specs.Readings.{HoldsAbove, IsBegunAs, KnowsIdle}
use Rattle.table_steps.specs.Slots.{knows_idle}
use Rattle.home_items.specs.declared.entry.Entry.{Entry}
use Rattle.home_items.specs.declared.item.Item.{Item}
use Rattle.exec_recv.specs.Seats.{HandSeat}
use Rattle.step_parts.specs.Kids.{KnowsAllIdle, KeepsIdle}
use Rattle.step_parts.specs.Midway.{KeepsReady, Ready}
use Rattle.step_parts.specs.Stepping.{Stepping}
use Rattle.step_parts.specs.Takes.{IsTaken, Keeps}
use Rattle.step_parts.proofs.Noting.{notes-held}
use Rattle.step_parts.proofs.Reading.{child-above, with_idle, idle-slight, begun-so, begun-keeps, idle-notes, idle-keeps, idle-known}

pub idles-here : (x : Name) (m : Seated Item Entry) → KeepsIdle x m m
idles-here x m = record { held = λ before had. before; holds = λ before had. had; still = λ before had n is. is }

pub idles-on : (x : Name) (m between m' : Seated Item Entry) → KeepsIdle x m between → KeepsIdle x between m' → KeepsIdle x m m'
idles-on x m between m' first next =
    record {
      held = λ before had. next.held (first.held before had) (first.holds before had);
      holds = λ before had. next.holds (first.held before had) (first.holds before had);
      still = λ before had n is.
          next.still (first.held before had) (first.holds before had) n (first.still before had n is);
    }

-- one more that was read is known beside those that were
knows-more : (none read known : Bool) → (none || known) ≡ true → (none || (read || known)) ≡ true
knows-more true read known is = refl
knows-more false read known is = or_right read known is

-- what is known of the children of x stays so when a child is read
module _ (board : Board Blueprint) (x : Name) (start : List Entry) (n : ℕ) (child : is_child board.frame.tree x.node n ≡ true)
    (m m' : Seated Item Entry) (ready : Ready board x start 0 m) where
  -- it has begun, as its word says
  pub begun-idles : IsBegunAs board.frame (beside x n) true m m' → KeepsIdle x m m'
  begun-idles read =
      let so = begun-so board x start n 0 m ready child m' read in
      record {
        held = λ before had. before;
        holds = λ before had.
            ap (λ (z : Seated Item Entry). find_by (λ (e : Held Entry). e.name) z.0.held x) so ∙ had;
        still = λ before had k known. known;
      }

  -- it hasn't, and the hand has noted so
  pub idle-idles : IsBegunAs board.frame (beside x n) false m m' → KeepsIdle x m m'
  idle-idles read =
      let notes = idle-notes board x start n 0 m ready child m' read in
      record {
        held = λ before had. with_idle n before;
        holds = λ before had. notes-held board x (with_idle n) (idle-slight n) m m' notes before had;
        still = λ before had k known. knows-more (before.named == 0) (n == k) (list_any (λ q. q == k) before.idle) known;
      }

-- The child of a node that was taken up is read, at the table of the site.
module _ (board : Board Blueprint) (t : Stepping) (n : ℕ) (child : is_child board.frame.tree t.name.node n ≡ true) (old : HandSeat)
    (taken : IsTaken board t old) (at : Board Blueprint) (same : at ≡ board) (x : Name) (name_is : x ≡ t.name) where
  pub read-above : HoldsAbove at.frame.tree old.me.0 (beside x n)
  read-above =
      subst (λ (b : Board Blueprint). HoldsAbove b.frame.tree old.me.0 (beside x n)) (sym same)
      (subst (λ (y : Name). HoldsAbove board.frame.tree old.me.0 (beside y n)) (sym name_is)
      (child-above board t.name t.start n 0 old.me taken.ready child))

  module _ (new : HandSeat) (stays : Stays at old new) where
    there : (begun : Bool) → IsBegunAs at.frame (beside x n) begun old.me new.me → IsBegunAs board.frame (beside t.name n) begun old.me new.me
    there begun read =
        subst (λ (b : Board Blueprint). IsBegunAs b.frame (beside t.name n) begun old.me new.me) same
        (subst (λ (y : Name). IsBegunAs at.frame (beside y n) begun old.me new.me) name_is read)

    keeps : KeepsReady board t.name old.me new.me → Keeps board t old new
    keeps ready = record { stays = subst (λ (b : Board Blueprint). Stays b old new) same stays; ready = ready }

    pub read-begun : (begun : Bool) → begun ≡ true → IsBegunAs at.frame (beside x n) begun old.me new.me →
        Keeps board t old new × KeepsIdle t.name old.me new.me
    read-begun begun is read =
        let so = subst (λ (b : Bool). IsBegunAs board.frame (beside t.name n) b old.me new.me) is (there begun read) in (
          keeps (begun-keeps board t.name t.start n 0 old.me taken.ready child new.me so),
          begun-idles board t.name t.start n child old.me new.me taken.ready so,
        )

    pub read-idle : (begun : Bool) → begun ≡ false → IsBegunAs at.frame (beside x n) begun old.me new.me →
        Keeps board t old new × KeepsIdle t.name old.me new.me × KnowsIdle t.name n new.me
    read-idle begun is read =
        let so = subst (λ (b : Bool). IsBegunAs board.frame (beside t.name n) b old.me new.me) is (there begun read) in (
          keeps (idle-keeps board t.name t.start n 0 old.me taken.ready child new.me so),
          idle-idles board t.name t.start n child old.me new.me taken.ready so,
          idle-known board t.name t.start n 0 old.me taken.ready child new.me so,
        )

-- of no child, and of one more
pub all-idle-none : (board : Board Blueprint) (t : Stepping) (children : List ℕ) (hand : HandSeat) → IsTaken board t hand →
    KnowsAllIdle t.name children 0 hand.me
all-idle-none board t children hand taken =
    let is = taken.ready.is in
    record { held = is.held; holds = is.tends.holds; idle = λ i less. absurd (omega (arith, less)) }

pub all-idle-more : (x : Name) (children : List ℕ) (i : ℕ) (m m' : Seated Item Entry) → KnowsAllIdle x children i m → KeepsIdle x m m' →
    KnowsIdle x (get_or children i 0) m' → KnowsAllIdle x children (i + 1) m'
all-idle-more x children i m m' before still new =
    let held = still.held before.held before.holds in
    let holds = still.holds before.held before.holds in
    record {
      held = held;
      holds = holds;
      idle = λ j less. elim (cases_lt j i) [
        | inl old ↦ still.still before.held before.holds (get_or children j 0) (before.idle j old)
        | inr last ↦
            let at : i ≡ j = omega (arith, less, last) in
            subst (λ k. knows_idle held (get_or children k 0) ≡ true) at
            (subst (λ (h : Held Entry). knows_idle h (get_or children i 0) ≡ true)
            (same_Some new.held held (sym new.holds ∙ holds)) new.idle)
      ];
    }
