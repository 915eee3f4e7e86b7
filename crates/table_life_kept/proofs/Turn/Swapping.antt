-- What a hand knows after it turned to a home and moved what was in it.
use Rattle.std.proofs.Common.{◌≡◌, ℕ, List, [], ◌∷◌, sym, ap, ◌∙◌, subst}
use Rattle.std.specs.Prelude.{Option, Some}
use Rattle.life_rules.specs.declared.event.Name.{Name}
use Rattle.table_words.specs.Layouts.{OfControl, index}
use Rattle.atomic_table.specs.Table.{rest}
use Rattle.table_rules.specs.declared.frame.Frame.{Frame}
use Rattle.table_steps.specs.Views.{aimed}
use Rattle.table_steps.specs.Seats.{Seated}
use Rattle.table_steps.specs.Slots.{Aim, slot_of, IsSeated}
use Rattle.table_steps.specs.Swaps.{TurnsTo, IsSwapped}

-- the slot that the hand turned to is its first
pub turned-first : {P E : Type 0} (slot : ℕ) (aim : Aim) (i word : ℕ) (m m' : Seated P E) (t : TurnsTo aim i word m m') →
    slot ≡ slot_of aim.layout aim.name → (inside : Option P) × (m'.1 ≡ (slot, inside) ∷ rest m'.1)
turned-first {P} {E} slot aim i word m m' t is =
    let e = ap (λ (z : Seated P E). z.1) t.me_is in
    (t.inside, e ∙ (λ k. (sym is k, t.inside) ∷ rest (sym e k)))

-- what the first slot holds
first : {S : Type 0} → S → List (ℕ × S) → S
first none [] = none
first none (c ∷ cs) = c.1

-- what lies in a home is exchanged: the load that turns the slots, and what is carried after it
pub record Swap (P E : Type 0) {O : Type 0} (board : Frame O) : Type 0 where
  pub cell : ℕ
  pub slot : ℕ
  pub word : ℕ
  pub name : Name
  pub aim : Aim
  pub new : Option P
  pub old : Option P
  pub first : Seated P E
  pub turned_to : Seated P E
  pub last : Seated P E
  pub i_is : cell ≡ index board.layout (OfControl name.block name.node)
  pub slot_is : slot ≡ slot_of board.layout name
  pub aim_is : aim ≡ aimed board name
  pub turned : TurnsTo aim cell word first turned_to
  pub was : turned_to.1 ≡ (slot, old) ∷ rest turned_to.1
  pub now : last ≡ (turned_to.0, (slot, new) ∷ rest turned_to.1)

module _ {P E O : Type 0} (board : Frame O) (task : Swap P E board) where
  open task use {cell as i, slot, word, name as x, aim, new, old, first as m, turned_to as m1, last as m2, i_is, slot_is, aim_is, turned, was, now}

  told : TurnsTo (aimed board x) (index board.layout (OfControl x.block x.node)) word m m1
  told = subst (λ (z : ℕ × Aim). TurnsTo z.1 z.0 word m m1) (λ k. (i_is k, aim_is k)) turned

  pub swapped-told : IsSwapped board x new old m m2
  unfolding told first
  swapped-told =
      let e = ap (λ (z : Seated P E). z.1) told.me_is in
      record {
        word = word;
        home = told.home ∙ ap (λ d. Some (first told.inside d)) (sym e ∙ was);
        me_is = now ∙ (λ k. ((told.me_is k).0, (slot_is k, new) ∷ rest (told.me_is k).1));
      }

  -- the hand still carries each slot once
  pub swapped-seated : IsSeated board.tree board.layout m2
  swapped-seated =
      let seated = subst (IsSeated board.tree board.layout) told.me_is told.seated in
      subst (IsSeated board.tree board.layout) (sym swapped-told.me_is)
      (record { apart = seated.apart; given = seated.given; itself = seated.itself })
