-- What a sweep has done after so many slots.
use Rattle.std.proofs.Common.{◌≡◌, ◌≢◌, ◌⊎◌, ℕ, suc, ◌+◌, ◌<◌, ◌≤◌, true, false, List, [], ◌∷◌, ◌++◌, append_assoc, length, length-set, set, get_or, inl, inr, refl, sym, ap, ◌∙◌, subst, arith}
use Rattle.std.specs.Prelude.{Option, Some, None}
use Rattle.std.proofs.Math.Numerals.{add-one}
use Rattle.std.proofs.lemmas.Bool.{both_ways, cases_eq, cases_lt}
use Rattle.std.proofs.lemmas.Option.{same_Some}
use Rattle.life_rules.specs.declared.event.Name.{Name}
use Rattle.life_rules.specs.declared.event.Resting.TheVariants as rest
use Rattle.listed_words.specs.declared.seen.Seen.{Seen}
use Rattle.listed_words.specs.Lists.{entry}
use Rattle.plan_shape.specs.Blueprint.{Blueprint}
use Rattle.table_rules.specs.declared.view.Rooted.{Rooted}
use Rattle.table_rules.specs.Named.{find_by}
use Rattle.table_rules.specs.ShownViews.{has_source_ref}
use Rattle.table_steps.specs.declared.block.Block.{Block}
use Rattle.table_steps.specs.Slots.{noted_at}
use Rattle.table_steps.specs.Steps.{control_index}
use Rattle.table_steps.specs.Takes.{rest_word}
use Rattle.table_steps.specs.Views.{Board}
use Rattle.table_steps.specs.Seats.{Seated}
use Rattle.home_items.specs.declared.entry.Entry.{Entry}
use Rattle.home_items.specs.declared.item.Item.{Item}
use Rattle.exec_recv.specs.Asides.{Aside, aside_of}
use Rattle.node_walks.specs.declared.completing.Ended.{Ended}
use Rattle.exec_recv.specs.Since.{HasReadSince}
use Rattle.spawn_future.specs.declared.future.Future.{Future}
use Rattle.spawn_future.specs.Keeping.{block_root, root_of, AreKept}
use Rattle.spawn_future.specs.Polls.{EndsSlotAt, IsIncomplete}
use Rattle.spawn_future.specs.Slots.{Has, kept_in, abandoned_block}
use Rattle.spawn_future.specs.Sweeps.{EndsSlot, LeavesSlot, SweepsFirst, WasIncomplete, beside_ended, EndsSome, SweepsTo}
use Rattle.spawn_future.proofs.Kept.{others-stay}
use Rattle.spawn_future.proofs.Later.{read-later}
use Rattle.spawn_future.proofs.Slotted.{one-less, stays-there, has-within, abandoned-has, not-abandoned, put-there}

-- a slot before the next is this one, or one before it
next-slot : (t slot : ℕ) → t < slot + 1 → (t ≡ slot → ⊥) → t < slot
next-slot t slot below apart = elim (cases_lt t slot) [
  | inl less ↦ less
  | inr more ↦ absurd (apart (omega (arith, below, more)))
]

-- one slot more was swept, after those before it
pub each-more : (board : Board Blueprint) (slot : ℕ) (old slots new : List (Option Future)) (m between m' : Seated Item Entry) →
    SweepsFirst board slot old slots m between → EndsSlot board slot slots new between m' ⊎ LeavesSlot board slot slots new between m' →
    SweepsFirst board (slot + 1) old new m m'
each-more board slot old slots new m between m' before swept =
    let all : SweepsFirst board (suc slot) old new m m' =
    record { slots = slots; between = between; before = before; swept = swept }
    in
    subst (λ n. SweepsFirst board n old new m m') (sym (add-one slot)) all

-- nothing was swept yet
pub swept-none : (board : Board Blueprint) (old : List (Option Future)) (m : Seated Item Entry) → SweepsTo board 0 0 old old m m
swept-none board old m =
    record {
      as_many = refl;
      stays = λ t f has. has;
      waited = λ t f has waited. has;
      kept = omega arith;
      read = λ t f below has abandoned. absurd (omega (arith, below));
      ends = record {
        aside = refl;
        made = omega arith;
        released = omega arith;
        noted = λ x apart. refl;
        fresh = [];
        grown = refl;
        sees = λ source is. is;
      };
    }

module _ (board : Board Blueprint) (slot count : ℕ) (old new : List (Option Future)) (m m1 : Seated Item Entry)
    (before : SweepsTo board slot count old new m m1) where
  -- the slot's future isn't abandoned, or it has none
  pub swept-past : abandoned_block (get_or new slot None) ≡ None → SweepsTo board (slot + 1) count old new m m1
  swept-past none =
      record {
        as_many = before.as_many;
        stays = before.stays;
        waited = before.waited;
        kept = before.kept;
        read = λ t f below has abandoned.
            before.read t f (next-slot t slot below (λ here. at_slot t f has abandoned here)) has abandoned;
        ends = before.ends;
      }
    where
      at_slot : (t : ℕ) (f : Future) → Has new t f → f.abandoned ≡ true → t ≡ slot → ⊥
      at_slot t f has abandoned here =
          not-abandoned new slot f (ap (λ k. get_or new k None) (sym here) ∙ has) none abandoned

  module _ (b : Block) (found : abandoned_block (get_or new slot None) ≡ Some b) where
    abbrev future : Future
    future = (abandoned-has new slot b found).0

    has-future : Has new slot future
    has-future = (abandoned-has new slot b found).1

    is-abandoned : future.abandoned ≡ true
    is-abandoned = (abandoned-has new slot b found).2

    in-block : future.block ≡ b
    in-block = (abandoned-has new slot b found).3

    within : slot < length new
    within = has-within new slot future has-future

    -- the slot's future wasn't complete
    module _ (later : List (Option Future)) (m' : Seated Item Entry) (is : IsIncomplete board b new later m1 m') where
      abbrev step : Seen
      step = entry (control_index board (block_root board b)) is.read.word is.read.word

      same_aside : aside_of m'.0 ≡ aside_of m1.0
      same_aside = ap (λ (z : Seated Item Entry). aside_of z.0) is.read.is

      steps_are : m'.0.steps ≡ step ∷ m1.0.steps
      steps_are = ap (λ (z : Seated Item Entry). z.0.steps) is.read.is

      was-read : WasIncomplete board m m' future
      was-read =
          subst
          (λ (x : Block).
          HasReadSince (control_index board (block_root board x)) (λ word. word ≢ rest_word (block_root board x) rest.Loop) m m')
          (sym in-block)
          (record {
            fresh = step ∷ before.ends.fresh;
            grown = steps_are ∙ ap (λ (l : List Seen). step ∷ l) before.ends.grown;
            word = is.read.word;
            left = is.read.word;
            there = (0, omega arith, refl);
            said = is.read.differs;
          })

      looked-ends : EndsSome board old count m m'
      looked-ends =
          let ends = before.ends in
          let made = ends.made in
          let released = ends.released in
          let made_is = ap (λ (a : Aside). a.made) same_aside in
          let released_is = ap (λ (a : Aside). a.released) same_aside in
          record {
            aside = ap (beside_ended (aside_of m.0)) same_aside ∙ ends.aside;
            made = omega (arith, made, made_is);
            released = omega (arith, released, released_is);
            noted = λ x apart. ap (λ (z : Seated Item Entry). noted_at z.0 x) is.read.is ∙ ends.noted x apart;
            fresh = step ∷ ends.fresh;
            grown = steps_are ∙ ap (λ (l : List Seen). step ∷ l) ends.grown;
            sees = λ source seen.
                ap (λ (z : Seated Item Entry). has_source_ref z.0.seen source) is.read.is ∙ ends.sees source seen;
          }

      read-then : (t : ℕ) (f : Future) → t < slot + 1 → Has new t f → f.abandoned ≡ true → WasIncomplete board m m' f
      read-then t f below has abandoned = elim (cases_eq t slot) [
        | inl here ↦
            subst (WasIncomplete board m m') (same_future t f has here) was-read
        | inr there ↦
            read-later (control_index board (root_of board f)) (λ word. word ≢ rest_word (root_of board f) rest.Loop) m m1 m' (before.read t f (next-slot t slot below there) has abandoned) (step ∷ []) steps_are
      ]
        where
          same_future : (t : ℕ) (f : Future) → Has new t f → t ≡ slot → future ≡ f
          same_future t f has here = same_Some future f (sym has-future ∙ ap (λ k. get_or new k None) (sym here) ∙ has)

      looked-swept : SweepsTo board (slot + 1) count old new m m'
      looked-swept =
          record {
            as_many = before.as_many;
            stays = before.stays;
            waited = before.waited;
            kept = before.kept;
            read = read-then;
            ends = looked-ends;
          }

      pub swept-on : SweepsTo board (slot + 1) count old later m m'
      swept-on = subst (λ (l : List (Option Future)). SweepsTo board (slot + 1) count old l m m') (sym is.slots) looked-swept

    -- or it was ended
    module _ (kept : AreKept board new m1) (later : List (Option Future)) (m' : Seated Item Entry) (c : Ended)
        (did : EndsSlotAt board slot b new later m1 m' c) where
      abbrev root : Name
      root = block_root board b

      less : kept_in new ≡ kept_in (set new slot None) + 1
      less = one-less new slot within future has-future

      ended-ends : EndsSome board old (count + 1) m m'
      ended-ends =
          let ends = before.ends in
          let leaves = did.ends.leaves in
          let made = ends.made in
          let released = ends.released in
          let has_made = kept.made in
          let some = less in
          let made_is = ap (λ (a : Aside). a.made) leaves.is in
          let released_is = ap (λ (a : Aside). a.released) leaves.is in
          record {
            aside = ap (beside_ended (aside_of m.0)) leaves.is ∙ ends.aside;
            made = omega (arith, made, made_is, has_made, some);
            released = omega (arith, released, released_is);
            noted = λ x apart.
                ap (λ (a : Aside). find_by (λ (e : Rooted Entry). e.name) a.noted x) leaves.is
                ∙ others-stay m1.0.noted root x
                (λ at. apart slot future (before.stays slot future has-future) is-abandoned (ap (block_root board) in-block ∙ at))
                ∙ ends.noted x apart;
            fresh = leaves.fresh ++ ends.fresh;
            grown = leaves.grown ∙ ap (λ (l : List Seen). leaves.fresh ++ l) ends.grown
                ∙ sym (append_assoc leaves.fresh ends.fresh m.0.steps);
            sees = λ source seen. leaves.sees source (ends.sees source seen);
          }

      still : (t : ℕ) (f : Future) → Has old t f → f.abandoned ≡ false → Has (set new slot None) t f
      still t f has waited = elim (cases_eq t slot) [
        | inl here ↦
            absurd
            (both_ways f.abandoned waited
            (ap (λ (z : Future). z.abandoned) (same_Some f future
            (sym (before.waited t f has waited) ∙ ap (λ k. get_or new k None) here ∙ has-future)) ∙ is-abandoned))
        | inr there ↦ put-there new slot within None t there ∙ before.waited t f has waited
      ]

      read-still : (t : ℕ) (f : Future) → t < slot + 1 → Has (set new slot None) t f → f.abandoned ≡ true → WasIncomplete board m m' f
      read-still t f below has abandoned =
          let there = stays-there new slot within t f has in
          read-later (control_index board (root_of board f)) (λ word. word ≢ rest_word (root_of board f) rest.Loop) m m1 m' (before.read t f (next-slot t slot below there.0) there.1 abandoned) did.ends.leaves.fresh
          did.ends.leaves.grown

      ended-swept : SweepsTo board (slot + 1) (count + 1) old (set new slot None) m m'
      ended-swept =
          let kept_is = before.kept in
          let fewer = less in
          record {
            as_many = length-set new slot None ∙ before.as_many;
            stays = λ t f has. before.stays t f (stays-there new slot within t f has).1;
            waited = still;
            kept = omega (arith, kept_is, fewer);
            read = read-still;
            ends = ended-ends;
          }

      pub swept-more : SweepsTo board (slot + 1) (count + 1) old later m m'
      swept-more =
          subst (λ (l : List (Option Future)). SweepsTo board (slot + 1) (count + 1) old l m m') (sym did.slots) ended-swept

module _ (board : Board Blueprint) (slot count : ℕ) (old new later : List (Option Future)) (m m1 m' : Seated Item Entry)
    (before : SweepsTo board slot count old new m m1) where
  -- a slot that was left is swept
  pub slot-left : LeavesSlot board slot new later m1 m' → SweepsTo board (slot + 1) count old later m m'
  slot-left left = elim left [
    | inl passed ↦
        subst (λ (l : List (Option Future)). SweepsTo board (slot + 1) count old l m m') (sym passed.slots)
        (subst (λ (z : Seated Item Entry). SweepsTo board (slot + 1) count old new m z) (sym passed.same)
        (swept-past board slot count old new m m1 before passed.none))
    | inr looked ↦ swept-on board slot count old new m m1 before looked.block looked.found later m' looked.incomplete
  ]

  -- as is one whose future was ended
  pub slot-ended : AreKept board new m1 → EndsSlot board slot new later m1 m' → SweepsTo board (slot + 1) (count + 1) old later m m'
  slot-ended kept did = swept-more board slot count old new m m1 before did.block did.found kept later m' did.ended did.ends

-- when all slots were passed, all was swept
pub swept-all : (board : Board Blueprint) (slot count : ℕ) (old new : List (Option Future)) (m m' : Seated Item Entry) → length old ≤ slot →
    SweepsTo board slot count old new m m' → SweepsTo board (length old) count old new m m'
swept-all board slot count old new m m' past swept =
    record {
      as_many = swept.as_many;
      stays = swept.stays;
      waited = swept.waited;
      kept = swept.kept;
      read = λ t f below has abandoned. swept.read t f (omega (arith, past, below)) has abandoned;
      ends = swept.ends;
    }
