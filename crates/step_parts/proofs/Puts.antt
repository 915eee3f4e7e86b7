-- How the start of an awaited child is put into its home, and which starts can begin then.
use Rattle.std.proofs.Common.{◌≡◌, ◌⊎◌, inl, inr, ℕ, suc, ◌<◌, false, ◌==◌, List, length, arith, refl, sym, ap, ◌∙◌, subst}
use Rattle.std.specs.Prelude.{ℤ, Some, None, slice_index}
use Rattle.std.proofs.lemmas.Bool.{cases_lt, eqb-true, ne_eqb}
use Rattle.common_lemmas.proofs.Bool.{either}
use Rattle.life_rules.specs.declared.event.Name.{Name}
use Rattle.life_rules.specs.Views.{beside}
use Rattle.listed_words.specs.Lists.{entry}
use Rattle.plan_shape.specs.Blueprint.{Blueprint}
use Rattle.table_rules.specs.declared.view.Owed.{Owed}
use Rattle.table_rules.specs.Named.{find_by, count_by, Each}
use Rattle.table_steps.specs.Views.{Board}
use Rattle.table_steps.specs.Seats.{Seated}
use Rattle.table_steps.specs.Owing.{owing, Owes, AreOfItsBlock}
use Rattle.table_steps.specs.Slots.{slot_of, kept, has_seen}
use Rattle.table_steps.specs.Steps.{control_index}
use Rattle.op_slot.specs.Puts.{CanPut, IsPut}
use Rattle.op_slot.specs.Tends.{HasPlaces, Owes as OwesWith}
use Rattle.op_slot.proofs.Leaving.{owes-fits, owes-puts}
use Rattle.op_slot.proofs.Places.{kids-apart}
use Rattle.op_slot.proofs.Tending.{swapped-owes, swapped-beside, swapped-else}
use Rattle.home_items.specs.contracts.item.ItemCargo.TheImpl.{ghosts}
use Rattle.home_items.specs.declared.entry.Entry.{Entry}
use Rattle.home_items.specs.declared.item.Item.{Item}
use Rattle.home_items.specs.Contents.{Start}
use Rattle.home_items.specs.Fits.{FitsHome}
use Rattle.home_items.proofs.Fitting.{start-fits, below-names}
use Rattle.exec_recv.specs.Asides.{aside_of, KeepsAside}
use Rattle.exec_recv.specs.Beginnings.{CanStart, AllCanStart}
use Rattle.exec_recv.proofs.Asiding.{aside-one}
use Rattle.exec_recv.proofs.Fitting.{fits-more, sees-more}
use Rattle.step_parts.specs.Kids.{AreKids}
use Rattle.step_parts.specs.Puts.{MayPutStart, PutsStart}
use Rattle.step_parts.specs.Starting.{OwesBare, owed_below, IsAmong, IsStarting}
use Rattle.step_parts.proofs.Lists.{places-differ}

none-full : (item : Item) → Some None ≡ Some (Some item) → ⊥
none-full item e = cc

module _ (board : Board Blueprint) (y : Name) (below : List Entry) (m : Seated Item Entry) (may : MayPutStart board y below m) where
  abbrev item : Item
  item = Start below

  fits-at : (m' : Seated Item Entry) → has_seen board.frame.tree m'.0 y ≡ has_seen board.frame.tree m.0 y →
      FitsHome item y.node (has_seen board.frame.tree m'.0 y)
  fits-at m' so =
      subst (λ k. FitsHome item k (has_seen board.frame.tree m'.0 y)) may.node
      (start-fits below (below-names below may.begins) (has_seen board.frame.tree m'.0 y) (λ none. may.calmly (sym so ∙ none)))

  pub can-put-start : CanPut ghosts board.frame m y item
  can-put-start =
      owes-puts board.frame y m ghosts item may.owed may.bare.owes
      (owes-fits board.frame y m ghosts item None may.owed may.bare.owes may.entry may.below_is may.key may.draws (fits-at m refl)
      (λ e. e))

  module _ (m1 : Seated Item Entry) (put : IsPut board.frame y item m m1) where
    has : OwesWith board.frame y may.owed (Some item) m1
    has = swapped-owes board.frame y (Some item) None m m1 put may.owed None may.bare.owes

    owed-same : m1.0.owed ≡ m.0.owed
    owed-same = ap (λ (z : Seated Item Entry). z.0.owed) put.me_is

    owing-same : (z : Name) → owing m1.0 z ≡ owing m.0 z
    owing-same z = ap (λ (l : List (Owed Entry)). count_by (λ (e : Owed Entry). e.name) l z) owed-same

    block-same : (z : Name) → AreOfItsBlock m.0 z → AreOfItsBlock m1.0 z
    block-same z all =
        subst (λ (l : List (Owed Entry)). Each (λ (e : Owed Entry). e.name.block ≡ z.block → e.name.generation ≡ z.generation) l)
        (sym owed-same) all

    aside : KeepsAside m m1
    aside =
        aside-one (entry (control_index board y) put.word put.word) m m1 (ap (λ (z : Seated Item Entry). aside_of z.0) put.me_is)
        (ap (λ (z : Seated Item Entry). z.0.steps) put.me_is) (ap (λ (z : Seated Item Entry). z.0.seen) put.me_is)

    -- so it can begin
    starts : CanStart board y m1
    starts =
        record {
          place = may.bare.place;
          begin = record {
            owed = may.owed;
            owes = has.owes;
            item = item;
            home = has.home;
            entry = may.entry;
            start = may.below_is;
            key = may.key;
            drawn = may.draws;
            goes_on = λ e. e;
          };
          is_start = refl;
          fit = fits-at m1 (ap (λ (z : Seated Item Entry). has_seen board.frame.tree z.0 y) put.me_is);
          once = let few = may.bare.once in let is = owing-same y in omega (arith, few, is);
          beside = block-same y may.bare.beside;
        }

    -- a start that can begin has its home elsewhere, since that is full
    module _ (z : Name) (can : CanStart board z m) where
      apart : (slot_of board.frame.layout y == slot_of board.frame.layout z) ≡ false
      apart =
          let l = board.frame.layout in
          either (slot_of l y == slot_of l z)
          (λ t.
          absurd (none-full can.begin.item
          (sym may.bare.owes.home ∙ ap (λ slot. kept slot m.1) (eqb-true (slot_of l y) (slot_of l z) t) ∙ can.begin.home)))
          (λ f. f)

      still : CanStart board z m1
      still =
          record {
            place = can.place;
            begin = record {
              owed = can.begin.owed;
              owes = ap (λ (l : List (Owed Entry)). find_by (λ (e : Owed Entry). e.name) l z) owed-same ∙ can.begin.owes;
              item = can.begin.item;
              home = swapped-else board.frame y (Some item) None m m1 put (slot_of board.frame.layout z) apart ∙ can.begin.home;
              entry = can.begin.entry;
              start = can.begin.start;
              key = can.begin.key;
              drawn = can.begin.drawn;
              goes_on = can.begin.goes_on;
            };
            is_start = can.is_start;
            fit = fits-more can.begin.item z.node (has_seen board.frame.tree m.0 z) (has_seen board.frame.tree m1.0 z)
                (sees-more board.frame.tree m m1 z aside.sees) can.fit;
            once = let few = can.once in let is = owing-same z in omega (arith, few, is);
            beside = block-same z can.beside;
          }

    -- one child less has an empty home
    module _ (x : Name) (start : List Entry) (lot : List ℤ) (children : List ℕ) (left : ℕ) (places : HasPlaces board.frame x)
        (kids : AreKids board x children) (within : left < length children) (at : y ≡ beside x (slice_index children left))
        (was : IsStarting board x start lot children (suc left) m) where
      less-bare : (i : ℕ) → i < left →
          OwesBare board (beside x (slice_index children i)) (owed_below x start lot (slice_index children i)) m1
      less-bare i before =
          let n = slice_index children i in
          let k = slice_index children left in
          let old = was.bare i (omega (arith, before)) in
          let other : (k == n) ≡ false =
          ne_eqb k n (λ e. absurd (places-differ children kids.different i left before within (sym e))) in
          let slots = kids-apart board.frame x places k n (kids.each left within) (kids.each i (omega (arith, before, within))) other in
          record {
            place = old.place;
            owes = swapped-beside board.frame y (Some item) None m m1 put (beside x n) (owed_below x start lot n) None
                (ap (λ (w : Name). slot_of board.frame.layout w == slot_of board.frame.layout (beside x n)) at ∙ slots) old.owes;
            once = let few = old.once in let is = owing-same (beside x n) in omega (arith, few, is);
            beside = block-same (beside x n) old.beside;
          }

      less-each : (z : Name) → Owes m1.0 z → IsAmong x children left z ⊎ CanStart board z m1
      less-each z owes =
          elim (was.each z (record {
            owed = owes.owed;
            owes = ap (λ (l : List (Owed Entry)). find_by (λ (e : Owed Entry). e.name) l z) (sym owed-same) ∙ owes.owes;
          })) [
            | inl among ↦ elim (cases_lt among.0 left) [
              | inl before ↦ inl (among.0, before, among.2)
              | inr last ↦
                  let below_it = among.1 in
                  let here : left ≡ among.0 = omega (arith, below_it, last) in
                  inr (subst (λ (w : Name). CanStart board w m1)
                  (at ∙ ap (λ i. beside x (slice_index children i)) here ∙ among.2) starts)
            ]
            | inr can ↦ inr (still z can)
          ]

      less : IsStarting board x start lot children left m1
      less = record { bare = less-bare; each = less-each }

    pub puts-start : PutsStart board y below m m1
    puts-start =
        record {
          put = put;
          aside = aside;
          held = ap (λ (z : Seated Item Entry). z.0.held) put.me_is;
          owed = owed-same;
          starts = starts;
          less = less;
        }

-- where no child is left all can begin
pub none-left : (board : Board Blueprint) (x : Name) (start : List Entry) (lot : List ℤ) (children : List ℕ) (m : Seated Item Entry) →
    IsStarting board x start lot children 0 m → AllCanStart board m
none-left board x start lot children m is y owes =
    elim (is.each y owes) [
      | inl among ↦ let none = among.1 in absurd (omega (arith, none))
      | inr can ↦ can
    ]
