-- The exchange that a call makes when it turns to a home and leaves something else in it.
use Rattle.std.proofs.Common.{◌≡◌, ℕ, ◌∷◌, refl, sym, ap, ◌∙◌, subst}
use Rattle.std.specs.Prelude.{Option, Some, None}
use Rattle.std.specs.Borrow.{MutBor}
use Rattle.std.specs.Option.{option_copied_mut}
use Rattle.life_rules.specs.declared.event.Name.{Name}
use Rattle.atomic_table.specs.Table.{rest}
use Rattle.atomic_table.specs.declared.shared.Seat.{Seat}
use Rattle.table_words.specs.Layouts.{OfControl, index}
use Rattle.table_rules.specs.declared.frame.Frame.{Frame}
use Rattle.table_rules.specs.declared.view.View.{View}
use Rattle.table_steps.specs.Views.{aimed, Board, IsHandOf, IsSameHand}
use Rattle.table_steps.specs.Seats.{Seated}
use Rattle.table_steps.specs.Slots.{slot_of, home_at}
use Rattle.table_steps.specs.Swaps.{TurnsTo}
use Rattle.table_hands_kept.proofs.Hands.{hand-seated}
use Rattle.table_life_kept.proofs.Turn.Swapping.{Swap, swapped-told, swapped-seated}
use Rattle.op_table.specs.Lends.{EndsWith, EndsWithItem, EndsWithNone}

module _ {P E O : Type 0} (board : Frame O) (x : Name) where
  -- the hand of this seat turned to the node's home
  abbrev pub HasTurned : Seat (Option P) (View P E) → Seated P E → Type 0
  HasTurned seat turned_to =
      (word : ℕ) × TurnsTo (aimed board x) (index board.layout (OfControl x.block x.node)) word seat.me turned_to

  -- and found the old in it, in place of which it left the new
  abbrev pub exchange : {slot : ℕ} {inside hand : Seat (Option P) (View P E)} {turned_to last : Seated P E}
      {old : Option P} (new : Option P) → inside ≡ hand → HasTurned inside turned_to →
      slot ≡ slot_of board.layout x → turned_to.1 ≡ (slot, old) ∷ rest turned_to.1 →
      last ≡ (turned_to.0, (slot, new) ∷ rest turned_to.1) → Swap P E board
  exchange {slot} {inside} {hand} {turned_to} {last} {old} new same turned slot_is was now =
      let told = subst (λ z. HasTurned z turned_to) same turned in
      record {
        cell = index board.layout (OfControl x.block x.node);
        slot = slot;
        word = told.0;
        name = x;
        aim = aimed board x;
        new = new;
        old = old;
        first = hand.me;
        turned_to = turned_to;
        last = last;
        i_is = refl;
        slot_is = slot_is;
        aim_is = refl;
        turned = told.1;
        was = was;
        now = now;
      }

-- how a hand ends that turned to a home, found the old in it, and lent it
module _ {P E O : Type 0} (board : Board O) (x : Name)
    {inside hand : Seat (Option P) (View P E)} (turned : Seat (Option P) (View P E))
    {slot : ℕ} {old : Option P} (of_table : IsHandOf board hand) (is : inside ≡ hand)
    (same : IsSameHand inside turned) (did : HasTurned board.frame x inside turned.me)
    (slot_is : slot ≡ slot_of board.frame.layout x)
    (was : turned.me.1 ≡ (slot, old) ∷ rest turned.me.1) where
  abbrev left : Option P → Seat (Option P) (View P E)
  left new = record turned { me = (turned.me.0, (slot, new) ∷ rest turned.me.1) }

  swap : Option P → Swap P E board.frame
  swap new = exchange board.frame x new is did slot_is was refl

  pub lends-old : home_at board.frame.layout hand.me x ≡ Some old
  unfolding swap
  lends-old = (swapped-told board.frame (swap old)).home

  pub ends-with : (new : Option P) → EndsWith board x hand (left new) old new
  unfolding swap
  ends-with new =
      record {
        stays = hand-seated board hand (left new) of_table
            (same.0 ∙ ap (λ s. s.table_id) is, same.1 ∙ ap (λ s. s.id) is)
            (swapped-seated board.frame (swap new));
        swapped = swapped-told board.frame (swap new);
      }

  pub ends-with_item : (lent : Option (MutBor P)) → option_copied_mut lent ≡ old → (new : P) →
      EndsWithItem board x hand (left (Some new)) lent new
  ends-with_item None none new = tt
  ends-with_item (Some item) found new =
      subst (λ z. EndsWith board x hand (left (Some new)) z (Some new)) (sym found)
      (ends-with (Some new))

  pub ends-with_none : (lent : Option (MutBor P)) → option_copied_mut lent ≡ old →
      EndsWithNone board x hand (left old) lent
  ends-with_none None none =
      subst (λ z. EndsWith board x hand (left old) z z) (sym none) (ends-with old)
  ends-with_none (Some item) found = tt
