-- A child that is awaited alone can begin at once, and what the hand remembers stays as it was.
use Rattle.std.proofs.Common.{◌≡◌, ℕ, Bool, true, false, not, ◌&&◌, ◌||◌, ◌==◌, List, [], ◌∷◌, length, arith, refl, sym, ap, ◌∙◌, subst}
use Rattle.std.specs.Prelude.{Option, Some, None}
use Rattle.std.specs.List.{list_any}
use Rattle.std.proofs.lemmas.Bool.{cond-true, cond-false, eqb-true, eq-eqb, ne_eqb}
use Rattle.common_lemmas.proofs.Bool.{either}
use Rattle.life_rules.specs.declared.event.Name.{Name}
use Rattle.life_rules.specs.Views.{same, lose, beside}
use Rattle.life_rules.proofs.Names.{same-refl}
use Rattle.node_tree.specs.Tree.{is_child, has_source}
use Rattle.table_words.specs.Layouts.{place_number}
use Rattle.atomic_table.specs.declared.shared.Seat.{Seat}
use Rattle.name_set.specs.Sets.{Marks}
use Rattle.table_rules.specs.declared.cargo.Cargo.{Ghosts}
use Rattle.table_rules.specs.declared.frame.Frame.{Frame}
use Rattle.table_rules.specs.declared.view.View.{View}
use Rattle.table_rules.specs.declared.view.Owed.{Owed}
use Rattle.table_rules.specs.Named.{count_by, find_by}
use Rattle.table_steps.specs.Owing.{owing}
use Rattle.table_steps.specs.Views.{Board, IsPlaceIn, aimed}
use Rattle.table_steps.specs.Seats.{Seated}
use Rattle.table_steps.specs.Slots.{slot_of, kids_of, home_at, kept}
use Rattle.table_steps.specs.Sheds.{shed}
use Rattle.table_steps.specs.Releases.{is_own_slot}
use Rattle.table_steps.specs.Swaps.{IsSwapped}
use Rattle.table_steps.specs.Awaits.{AwaitsAt, is_named, is_unnamed}
use Rattle.table_steps.specs.Begins.{CanBegin, BeginsAt, IsRenewed}
use Rattle.table_steps.specs.Remembers.{running, Remembers}
use Rattle.table_kept.proofs.Entries.{count-without}
use Rattle.table_kept.proofs.Awaiting.{named-child}
use Rattle.table_kept.proofs.BeginSeats.{or-left}
use Rattle.table_kept.proofs.Remembering.{exactly-still}
use Rattle.table_life_kept.proofs.RememberTold.{named-places}
use Rattle.op_table.specs.OnlyChild.{CanBeginChild}

-- the first of a list of slots is found
kept-first : {A : Type 0} (slot : ℕ) (inside : A) (rest : List (ℕ × A)) → kept slot ((slot, inside) ∷ rest) ≡ Some inside
kept-first slot inside rest = cond-true (slot == slot) (Some inside) (kept slot rest) (eq-eqb slot slot refl)

-- a slot that isn't given back keeps what is in it
kept-shed : {A : Type 0} (gone : ℕ → Bool) (slot : ℕ) (c : List (ℕ × A)) → gone slot ≡ false → kept slot (shed gone c) ≡ kept slot c
kept-shed gone slot [] stays = refl
kept-shed gone slot (d ∷ ds) stays =
    either (d.0 == slot)
    (λ t.
    ap (kept slot) (cond-false (gone d.0) (shed gone ds) (d ∷ shed gone ds) (ap gone (eqb-true d.0 slot t) ∙ stays))
    ∙ cond-true (d.0 == slot) (Some d.1) (kept slot (shed gone ds)) t
    ∙ sym (cond-true (d.0 == slot) (Some d.1) (kept slot ds) t))
    (λ f.
    either (gone d.0)
    (λ g.
    ap (kept slot) (cond-true (gone d.0) (shed gone ds) (d ∷ shed gone ds) g) ∙ kept-shed gone slot ds stays
    ∙ sym (cond-false (d.0 == slot) (Some d.1) (kept slot ds) f))
    (λ g.
    ap (kept slot) (cond-false (gone d.0) (shed gone ds) (d ∷ shed gone ds) g)
    ∙ cond-false (d.0 == slot) (Some d.1) (kept slot (shed gone ds)) f ∙ kept-shed gone slot ds stays
    ∙ sym (cond-false (d.0 == slot) (Some d.1) (kept slot ds) f)))

inside-same : {P : Type 0} (a b : P) → Some (Some a) ≡ Some (Some b) → a ≡ b
inside-same a b e = cc

full-not-empty : {P : Type 0} (a : P) → Some (Some a) ≡ Some None → ⊥
full-not-empty a e = cc

-- it is named where it alone is
pub named-alone : (n : ℕ) → is_named (n ∷ []) n ≡ true
named-alone n = or-left (n == n) false (eq-eqb n n refl)

-- the table has a place for it
pub child-place : {P E O : Type 0} (cargo : Ghosts P E O) (board : Board O) (x : Name) (n : ℕ) (item : P) (m : Seated P E) →
    CanBeginChild cargo board.frame x n item m → board.frame.layout.nodes ≡ length board.frame.tree → IsPlaceIn board x →
    IsPlaceIn board (beside x n)
child-place cargo board x n item m can sized place =
    let places = named-places cargo board.frame m x (n ∷ []) sized place.block can.await in
    record { block = place.block; node = places.each n (named-alone n) }

module _ {P E O : Type 0} (cargo : Ghosts P E O) (f : Frame O) (x : Name) (n : ℕ) (item : P) (m : Seated P E) (can : CanBeginChild cargo f x n item m) where
  abbrev slot : ℕ
  slot = place_number f.layout x.block n

  pub child : is_child f.tree x.node n ≡ true
  child = named-child f.tree x (n ∷ []) can.await.leave.held can.await.idle n (named-alone n)

  -- the node's home is full and the child's is empty, so they are two
  own-apart : (slot_of f.layout x == slot) ≡ false
  own-apart =
      ne_eqb (slot_of f.layout x) slot (λ e.
      full-not-empty can.await.item (sym can.await.home ∙ ap (λ k. kept k m.1) e ∙ can.await.leave.kids n child))

  -- the child's home isn't given back
  others : (ns : List ℕ) → list_any (λ q. not (is_named (n ∷ []) q) && place_number f.layout x.block q == slot) ns ≡ false
  others [] = refl
  others (q ∷ qs) =
      let more = list_any (λ k. not (is_named (n ∷ []) k) && place_number f.layout x.block k == slot) qs in
      let here : (not (is_named (n ∷ []) q) && place_number f.layout x.block q == slot) ≡ false =
      either (place_number f.layout x.block q == slot)
      (λ t.
      let at = eqb-true (place_number f.layout x.block q) slot t in
      let is : q ≡ n = omega (arith, at) in
      ap (λ b. not b && place_number f.layout x.block q == slot) (ap (is_named (n ∷ [])) is ∙ named-alone n))
      (λ no. ap (λ b. not (is_named (n ∷ []) q) && b) no ∙ and-none (not (is_named (n ∷ []) q))) in
      ap (λ b. b || more) here ∙ others qs
    where
      and-none : (b : Bool) → (b && false) ≡ false
      and-none true = refl
      and-none false = refl

  stays : is_unnamed f.tree f.layout x (n ∷ []) slot ≡ false
  stays =
      ap (λ b. b || list_any (λ q. not (is_named (n ∷ []) q) && place_number f.layout x.block q == slot) (kids_of f.tree x.node)) own-apart
      ∙ others (kids_of f.tree x.node)

  module _ (i read left : ℕ) (waiting : Seated P E) (did : AwaitsAt cargo (aimed f x) (n ∷ []) i read left m waiting) where
    item-is : did.item ≡ can.await.item
    item-is = inside-same did.item can.await.item (sym did.home ∙ can.await.home)

    abbrev owed : Owed E
    owed = record { name = beside x n; above = cargo.start did.item; lot = cargo.lot did.item }

    owes : find_by (λ (e : Owed E). e.name) waiting.0.owed (beside x n) ≡ Some owed
    owes =
        ap (λ (z : Seated P E). find_by (λ (e : Owed E). e.name) z.0.owed (beside x n)) did.me_is
        ∙ cond-true (same (beside x n) (beside x n)) (Some owed) (find_by (λ (e : Owed E). e.name) m.0.owed (beside x n)) (same-refl (beside x n))

    -- and is empty still
    pub still-empty : home_at f.layout waiting (beside x n) ≡ Some None
    still-empty =
        ap (λ (z : Seated P E). kept slot z.1) did.me_is ∙ kept-shed (is_unnamed f.tree f.layout x (n ∷ [])) slot m.1 stays
        ∙ can.await.leave.kids n child

    -- once the item lies in it, the child can begin
    pub then-begins : (full : Seated P E) → IsSwapped f (beside x n) (Some item) None waiting full → CanBegin cargo f full (beside x n)
    then-begins full put =
        subst (λ z. CanBegin cargo f z (beside x n)) (sym put.me_is)
        (record {
          owed = owed;
          owes = owes;
          item = item;
          home = kept-first slot (Some item) (shed (is_own_slot f.layout (beside x n)) waiting.1);
          entry = can.entry;
          start = can.start ∙ ap (λ l. can.entry ∷ l) (sym can.await.start ∙ ap cargo.start (sym item-is));
          key = can.key;
          drawn = can.drawn ∙ ap cargo.lot (sym item-is);
          goes_on = can.goes_on;
        })

    -- the child came to the starts that are owed, and went: they are as they were
    pub remembers-child : (full middle : Seated P E) (last : Seat (Option P) (View P E)) (b read' left' : ℕ) →
        IsSwapped f (beside x n) (Some item) None waiting full → IsRenewed (aimed f (beside x n)) full middle →
        BeginsAt cargo (aimed f (beside x n)) b read' left' middle last.me → (seat : Seat (Option P) (View P E)) → seat.me ≡ m →
        last.table_id ≡ seat.table_id → (set runs : Marks) → Remembers seat set runs → Remembers last set runs
    remembers-child full middle last b read' left' put renewed began seat is table set runs old =
        let kept_by : (middle.0.owed ≡ full.0.owed) × (middle.0.runs ≡ full.0.runs) =
        either (has_source f.tree n)
        (λ t. let stored = (renewed.0 t).did in (ap (λ (z : Seated P E). z.0.owed) stored, ap (λ (z : Seated P E). z.0.runs) stored))
        (λ none. let same_me = renewed.1 none in (ap (λ (z : Seated P E). z.0.owed) same_me, ap (λ (z : Seated P E). z.0.runs) same_me)) in
        let owed_is : middle.0.owed ≡ owed ∷ m.0.owed =
        kept_by.0 ∙ ap (λ (z : Seated P E). z.0.owed) put.me_is ∙ ap (λ (z : Seated P E). z.0.owed) did.me_is in
        let runs_are : last.me.0.runs ≡ seat.me.0.runs =
        ap (λ (z : Seated P E). z.0.runs) began.me_is ∙ kept_by.1 ∙ ap (λ (z : Seated P E). z.0.runs) put.me_is
        ∙ ap (λ (z : Seated P E). z.0.runs) did.me_is ∙ ap (λ (z : Seated P E). z.0.runs) (sym is) in
        record {
          owed = exactly-still old.owed last.table_id (owing last.me.0) table (λ y.
              ap (λ (z : Seated P E). owing z.0 y) began.me_is
              ∙ count-without (λ e. e.name) middle.0.owed (beside x n) y
              ∙ ap (λ (l : List (Owed E)). lose (beside x n) (count_by (λ e. e.name) l) y) owed_is
              ∙ came-and-went y
              ∙ ap (λ (z : Seated P E). owing z.0 y) (sym is));
          runs = exactly-still old.runs last.table_id (running last.me.0) table (λ y. ap (λ l. count_by (λ z. z) l y) runs_are);
        }
      where
        came-and-went : (y : Name) → lose (beside x n) (count_by (λ (e : Owed E). e.name) (owed ∷ m.0.owed)) y ≡ count_by (λ (e : Owed E). e.name) m.0.owed y
        came-and-went y = omega arith
