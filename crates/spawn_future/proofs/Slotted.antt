-- Slots of which one changes.
use Rattle.std.proofs.Common.{◌≡◌, ◌≢◌, ℕ, zero, suc, ◌+◌, ◌-◌, ◌<◌, ◌≤◌, Bool, true, false, List, [], ◌∷◌, length, length-set, set, get_or, cond, inl, inr, refl, sym, ap, ◌∙◌, subst, arith}
use Rattle.std.specs.Prelude.{not, ◌&&◌, Option, Some, None, is_some}
use Rattle.std.proofs.lemmas.Bool.{cases_eq, cases_lt, cond-true, cond-false, false≢true}
use Rattle.std.proofs.lemmas.List.{get_or-set_same, get_or-set_other, get_or_past}
use Rattle.std.proofs.lemmas.List.Sums.{sum_by-cons, sum_by-set, count_by-le-length}
use Rattle.std.proofs.lemmas.Option.{same_Some}
use Rattle.common_lemmas.proofs.Bool.{either}
use Rattle.life_rules.specs.declared.event.Name.{Name}
use Rattle.life_rules.specs.Views.{same}
use Rattle.life_rules.proofs.Names.{same-true}
use Rattle.table_steps.specs.declared.block.Block.{Block}
use Rattle.spawn_future.specs.declared.future.Future.{Future}
use Rattle.spawn_future.specs.declared.limits.TheConstants.{MOST_FUTURES}
use Rattle.spawn_future.specs.declared.slots.Found.{Found}
use Rattle.spawn_future.specs.Slots.{kept_in, Has, HasBlock, HasRoom, WaitsAt, is_waited, waited_block, abandoned_block, IsFree, IsFoundAt, WaitsNowhere, AreSlots}

abbrev pub one_if : Option Future → ℕ
one_if o = cond (is_some o) 1 0

none-some : {A : Type 0} (e : A) → None ≡ Some e → ⊥
none-some e is = cc

module _ (slots : List (Option Future)) (t : ℕ) (within : t < length slots) where
  -- what the slot has now
  pub put-here : (o : Option Future) → get_or (set slots t o) t None ≡ o
  put-here o = get_or-set_same slots t o None within

  pub put-there : (o : Option Future) (u : ℕ) → u ≢ t → get_or (set slots t o) u None ≡ get_or slots u None
  put-there o u apart = get_or-set_other slots t u o None apart

  -- one more is kept, or one less
  pub one-more : (f : Future) → get_or slots t None ≡ None → kept_in (set slots t (Some f)) ≡ kept_in slots + 1
  one-more f free =
      let sums = sum_by-set one_if slots t (Some f) None within in
      let none : one_if (get_or slots t None) ≡ 0 = ap one_if free in
      omega (arith, sums, none)

  pub one-less : (f : Future) → Has slots t f → kept_in slots ≡ kept_in (set slots t None) + 1
  one-less f has =
      let sums = sum_by-set one_if slots t None None within in
      let one : one_if (get_or slots t None) ≡ 1 = ap one_if has in
      omega (arith, sums, one)

  -- or as many
  pub one-same : (f g : Future) → Has slots t f → kept_in (set slots t (Some g)) ≡ kept_in slots
  one-same f g has =
      let sums = sum_by-set one_if slots t (Some g) None within in
      let one : one_if (get_or slots t None) ≡ 1 = ap one_if has in
      omega (arith, sums, one)

  -- what the other slots had they have, and the slot has this
  pub was-there : (o : Option Future) (u : ℕ) (p : Future) → u ≢ t → Has (set slots t o) u p → Has slots u p
  was-there o u p apart has = sym (put-there o u apart) ∙ has

  pub is-here : (f : Future) (u : ℕ) (p : Future) → u ≡ t → Has (set slots t (Some f)) u p → f ≡ p
  is-here f u p at has =
      same_Some f p (sym (put-here (Some f)) ∙ ap (λ k. get_or (set slots t (Some f)) k None) (sym at) ∙ has)

  pub stays-there : (u : ℕ) (p : Future) → Has (set slots t None) u p → (u ≢ t) × Has slots u p
  stays-there u p has = elim (cases_eq u t) [
    | inl here ↦
        absurd (none-some p (sym (put-here None) ∙ ap (λ k. get_or (set slots t None) k None) (sym here) ∙ has))
    | inr there ↦ (there, was-there None u p there has)
  ]

-- a slot that has a future is one of these
pub has-within : (slots : List (Option Future)) (t : ℕ) (f : Future) → Has slots t f → t < length slots
has-within slots t f has = elim (cases_lt t (length slots)) [
  | inl below ↦ below
  | inr above ↦ absurd (none-some f (sym (get_or_past slots t None above) ∙ has))
]

-- a future that the owner waits for, by the block that was found
waited-in : (owner : Name) (o : Option Future) (b : Block) → waited_block owner o ≡ Some b →
    (f : Future) × (o ≡ Some f) × (is_waited owner f ≡ true) × (f.block ≡ b)
waited-in owner None b is = absurd (none-some b is)
waited-in owner (Some f) b is =
    either (is_waited owner f)
    (λ t. (f, refl, t, same_Some f.block b (sym (cond-true (is_waited owner f) (Some f.block) None t) ∙ is)))
    (λ n. absurd (none-some b (sym (cond-false (is_waited owner f) (Some f.block) None n) ∙ is)))

pub found-waits : (owner : Name) (slots : List (Option Future)) (found : Found) → IsFoundAt owner slots found →
    (f : Future) × WaitsAt owner slots found.slot f × (f.block ≡ found.block)
found-waits owner slots found is =
    let in_slot = waited-in owner (get_or slots found.slot None) found.block is.block in
    (in_slot.0, record { has = in_slot.1; waited = in_slot.2 }, in_slot.3)

pub found-block : (owner : Name) (slots : List (Option Future)) (found : Found) → IsFoundAt owner slots found →
    HasBlock slots found.slot found.block
found-block owner slots found is =
    let waits = found-waits owner slots found is in
    record { future = waits.0; has = waits.1.has; block_is = waits.2 }

-- an abandoned one, by its block
abandoned-at : (o : Option Future) (b : Block) → abandoned_block o ≡ Some b →
    (f : Future) × (o ≡ Some f) × (f.abandoned ≡ true) × (f.block ≡ b)
abandoned-at None b is = absurd (none-some b is)
abandoned-at (Some f) b is =
    either f.abandoned
    (λ t. (f, refl, t, same_Some f.block b (sym (cond-true f.abandoned (Some f.block) None t) ∙ is)))
    (λ n. absurd (none-some b (sym (cond-false f.abandoned (Some f.block) None n) ∙ is)))

pub abandoned-has : (slots : List (Option Future)) (t : ℕ) (b : Block) → abandoned_block (get_or slots t None) ≡ Some b →
    (f : Future) × Has slots t f × (f.abandoned ≡ true) × (f.block ≡ b)
abandoned-has slots t b is = abandoned-at (get_or slots t None) b is

-- one that isn't found abandoned isn't
pub not-abandoned : (slots : List (Option Future)) (t : ℕ) (f : Future) → Has slots t f →
    abandoned_block (get_or slots t None) ≡ None → f.abandoned ≡ true → ⊥
not-abandoned slots t f has none abandoned =
    none-some f.block
    (sym none ∙ ap abandoned_block has ∙ cond-true f.abandoned (Some f.block) None abandoned)

-- an owner that waits nowhere waits for no future
nowhere-none : (owner : Name) (slots : List (Option Future)) → WaitsNowhere owner slots → (t : ℕ) (f : Future) → Has slots t f →
    is_waited owner f ≡ true → ⊥
nowhere-none owner slots nowhere t f has waited =
    none-some f.block
    (sym (nowhere t) ∙ ap (waited_block owner) has ∙ cond-true (is_waited owner f) (Some f.block) None waited)

-- who waits for a future is its owner
owner-true : (abandoned same_owner : Bool) → (not abandoned && same_owner) ≡ true → same_owner ≡ true
owner-true true same_owner is = absurd (false≢true is)
owner-true false same_owner is = is

waits-owner : (owner : Name) (f : Future) → is_waited owner f ≡ true → f.owner ≡ owner
waits-owner owner f waited = same-true f.owner owner (owner-true f.abandoned (same f.owner owner) waited)

-- there is room where a slot is free
at-most-one : (o : Option Future) → one_if o ≤ 1
at-most-one None = omega arith
at-most-one (Some f) = omega arith

room-at : (slots : List (Option Future)) (t : ℕ) → t < length slots → get_or slots t None ≡ None → HasRoom slots
room-at [] t within none = absurd (omega (arith, within))
room-at (None ∷ l) zero within none =
    let sums = sum_by-cons one_if None l in
    let most = count_by-le-length is_some l in
    omega (arith, sums, most)
room-at (Some f ∷ l) zero within none = absurd (none-some f (sym none))
room-at (o ∷ l) (suc t) within none =
    let sums = sum_by-cons one_if o l in
    let one = at-most-one o in
    let more = room-at l t (omega (arith, within)) none in
    omega (arith, sums, one, more)

pub has-room : (slots : List (Option Future)) (t : ℕ) → IsFree slots t → HasRoom slots
has-room slots t free = room-at slots t free.within free.none

-- few are kept
pub kept-most : (slots : List (Option Future)) (kept : ℕ) → AreSlots slots kept → kept ≤ MOST_FUTURES
kept-most slots kept are =
    let count = are.count in
    let few = are.few in
    let most = count_by-le-length is_some slots in
    omega (arith, count, few, most)

-- what the type keeps, when a slot changes
module _ (slots : List (Option Future)) (kept t : ℕ) (are : AreSlots slots kept) (within : t < length slots) where
  pub put-slots : (f : Future) → get_or slots t None ≡ None → WaitsNowhere f.owner slots → AreSlots (set slots t (Some f)) (kept + 1)
  put-slots f free nowhere =
      let long = length-set slots t (Some f) in
      let some = are.some in
      let few = are.few in
      let count = are.count in
      let more = one-more slots t within f free in
      record {
        some = omega (arith, long, some);
        few = omega (arith, long, few);
        count = omega (arith, count, more);
        owners = owners;
      }
    where
      no_other : (owner : Name) (u : ℕ) (p q : Future) → f ≡ p → is_waited owner p ≡ true → Has slots u q → is_waited owner q ≡ true → ⊥
      no_other owner u p q here waited has waited_q =
          let of : f.owner ≡ owner = ap (λ (z : Future). z.owner) here ∙ waits-owner owner p waited in
          nowhere-none owner slots (subst (λ (n : Name). WaitsNowhere n slots) of nowhere) u q has waited_q

      owners : (owner : Name) (u w : ℕ) (p q : Future) → Has (set slots t (Some f)) u p → Has (set slots t (Some f)) w q →
          is_waited owner p ≡ true → is_waited owner q ≡ true → u ≡ w
      owners owner u w p q has_p has_q waited_p waited_q = elim (cases_eq u t) [
        | inl here ↦
            elim (cases_eq w t) [
              | inl here_too ↦ here ∙ sym here_too
              | inr there ↦
                  absurd
                  (no_other owner w p q (is-here slots t within f u p here has_p) waited_p
                  (was-there slots t within (Some f) w q there has_q) waited_q)
            ]
        | inr there ↦
            elim (cases_eq w t) [
              | inl here_too ↦
                  absurd
                  (no_other owner u q p (is-here slots t within f w q here_too has_q) waited_q
                  (was-there slots t within (Some f) u p there has_p) waited_p)
              | inr there_too ↦
                  are.owners owner u w p q (was-there slots t within (Some f) u p there has_p)
                  (was-there slots t within (Some f) w q there_too has_q) waited_p waited_q
            ]
      ]

  pub freed-slots : (f : Future) → Has slots t f → AreSlots (set slots t None) (kept - 1)
  freed-slots f has =
      let long = length-set slots t None in
      let some = are.some in
      let few = are.few in
      let count = are.count in
      let less = one-less slots t within f has in
      record {
        some = omega (arith, long, some);
        few = omega (arith, long, few);
        count = omega (arith, count, less);
        owners = λ owner u w p q has_p has_q.
            are.owners owner u w p q (stays-there slots t within u p has_p).1 (stays-there slots t within w q has_q).1;
      }

  pub kept-some : (f : Future) → Has slots t f → 1 ≤ kept
  kept-some f has = let count = are.count in let less = one-less slots t within f has in omega (arith, count, less)

  -- a future that is abandoned is one that nobody waits for
  pub marked-slots : (f : Future) → Has slots t f → AreSlots (set slots t (Some (record f { abandoned = true }))) kept
  marked-slots f has =
      let g : Future = record f { abandoned = true } in
      let long = length-set slots t (Some g) in
      let some = are.some in
      let few = are.few in
      let count = are.count in
      let as_many = one-same slots t within f g has in
      record {
        some = omega (arith, long, some);
        few = omega (arith, long, few);
        count = omega (arith, count, as_many);
        owners = λ owner u w p q has_p has_q waited_p waited_q.
            are.owners owner u w p q
            (was-there slots t within (Some g) u p (unmarked owner u p has_p waited_p) has_p)
            (was-there slots t within (Some g) w q (unmarked owner w q has_q waited_q) has_q) waited_p waited_q;
      }
    where
      gone : (owner : Name) (p : Future) → record f { abandoned = true } ≡ p → is_waited owner p ≡ true → ⊥
      gone owner p is waited =
          let not_waited : is_waited owner p ≡ false = sym (ap (is_waited owner) is) in
          false≢true (sym not_waited ∙ waited)

      unmarked : (owner : Name) (u : ℕ) (p : Future) → Has (set slots t (Some (record f { abandoned = true }))) u p →
          is_waited owner p ≡ true → u ≢ t
      unmarked owner u p has_p waited at =
          gone owner p (is-here slots t within (record f { abandoned = true }) u p at has_p) waited
