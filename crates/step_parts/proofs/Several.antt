-- The homes of several children are emptied, one after the other.
use Rattle.std.proofs.Common.{◌≡◌, ℕ, suc, ◌<◌, Bool, true, false, ◌||◌, ◌==◌, List, [], ◌∷◌, ◌++◌, length, take, get_or, arith, refl, sym, ◌∙◌, subst}
use Rattle.std.specs.Prelude.{Option, None}
use Rattle.std.specs.List.{list_any}
use Rattle.std.proofs.lemmas.Bool.{or_parts, or_from, both_ways, cond-true, cond-false, ne_eqb}
use Rattle.std.proofs.lemmas.List.{get_or-take, length-take-le}
use Rattle.common_lemmas.specs.Lists.{are_different}
use Rattle.common_lemmas.proofs.Bool.{either}
use Rattle.plan_shape.specs.Blueprint.{Blueprint}
use Rattle.table_steps.specs.Awaits.{is_named}
use Rattle.table_steps.specs.Views.{Board, IsHandOf}
use Rattle.op_slot.specs.Tends.{put_at}
use Rattle.home_items.specs.declared.item.Item.{Item}
use Rattle.home_items.specs.Parcels.{Delivery}
use Rattle.exec_recv.specs.Seats.{HandSeat}
use Rattle.step_parts.specs.Several.{emptied, Empties}
use Rattle.step_parts.specs.Stepping.{Stepping}
use Rattle.step_parts.specs.Takes.{IsOpenWith, IsOpen, TakesChild}
use Rattle.step_parts.proofs.Ended.{changes-here, changes-on}
use Rattle.step_parts.proofs.Lists.{places-differ}

-- a list in which no number passes a test
none-at : (test : ℕ → Bool) (ns : List ℕ) → ((i : ℕ) → i < length ns → test (get_or ns i 0) ≡ false) → list_any test ns ≡ false
none-at test [] none = refl
none-at test (n ∷ ns) none =
    or_from (test n) (list_any test ns) (none 0 (omega arith)) (none-at test ns (λ i within. none (suc i) (omega (arith, within))))

-- of different numbers none stands before itself
pub not-before : (ns : List ℕ) (i : ℕ) → are_different ns ≡ true → i < length ns → is_named (take i ns) (get_or ns i 0) ≡ false
not-before ns i different within =
    none-at (λ m. m == get_or ns i 0) (take i ns)
    (λ j inside.
    let size = length-take-le i ns (omega (arith, within)) in
    let before : j < i = omega (arith, inside, size) in
    ne_eqb (get_or (take i ns) j 0) (get_or ns i 0)
    (λ e. absurd (places-differ ns different j i before within (sym (get_or-take i ns j 0 before) ∙ e))))

-- a home that isn't among them is as before, and one that is was emptied
pub emptied-else : (ns : List ℕ) (kid : ℕ → Option Item) (n : ℕ) → is_named ns n ≡ false → emptied ns kid n ≡ kid n
emptied-else [] kid n none = refl
emptied-else (k ∷ ks) kid n none =
    let parts = or_parts (k == n) (is_named ks n) none in
    emptied-else ks (put_at k None kid) n parts.1 ∙ cond-false (k == n) None (kid n) parts.0

pub emptied-in : (ns : List ℕ) (kid : ℕ → Option Item) (n : ℕ) → is_named ns n ≡ true → emptied ns kid n ≡ None
emptied-in [] kid n named = cc
emptied-in (k ∷ ks) kid n named =
    either (is_named ks n)
    (λ t. emptied-in ks (put_at k None kid) n t)
    (λ f.
    emptied-else ks (put_at k None kid) n f
    ∙ cond-true (k == n) None (kid n) (or-first (k == n) (is_named ks n) f named))
  where
    or-first : (a b : Bool) → b ≡ false → (a || b) ≡ true → a ≡ true
    or-first true b none is = refl
    or-first false b none is = absurd (both_ways b none is)

pub emptied-more : (ns : List ℕ) (n : ℕ) (kid : ℕ → Option Item) → emptied (ns ++ n ∷ []) kid ≡ put_at n None (emptied ns kid)
emptied-more [] n kid = refl
emptied-more (k ∷ ks) n kid = emptied-more ks n (put_at k None kid)

module _ (board : Board Blueprint) (t : Stepping) where
  pub empties-here : (hand : HandSeat) → IsHandOf board hand → Empties board t [] hand hand
  empties-here hand is =
      record { keeps = changes-here board t.name hand is; left = λ inside kid is_open. is_open }

  module _ (ns : List ℕ) (old new : HandSeat) (was : Empties board t ns old new) where
    -- the step goes on
    pub empties-open : IsOpen board t old → IsOpen board t new
    empties-open is_open =
        record { inside = is_open.inside; kid = emptied ns is_open.kid; is = was.left is_open.inside is_open.kid is_open.is }

    -- and the next is taken
    pub empties-more : (n : ℕ) (answer : Option Delivery) (last : HandSeat) → TakesChild board t n answer new last →
        Empties board t (ns ++ n ∷ []) old last
    empties-more n answer last takes =
        record {
          keeps = changes-on board t.name old new last was.keeps takes.keeps;
          left = λ inside kid is_open.
              subst (λ k. IsOpenWith board t inside k last) (sym (emptied-more ns n kid))
              (takes.left inside (emptied ns kid) (was.left inside kid is_open));
        }
