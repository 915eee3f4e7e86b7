-- What the two steps of a claim tell, in the contract's words.
use Rattle.std.proofs.Common.{◌≡◌, ℕ, ◌-◌, ◌∷◌, length, true, Option, Some, None, inr, refl, sym, ap, ◌∙◌, subst}
use Rattle.std.specs.Prelude.{MatchOption}
use Rattle.life_rules.specs.declared.words.BlockState.{BlockState}
use Rattle.life_rules.specs.declared.words.BlockState.TheVariants.{Free, Open, Retired}
use Rattle.life_rules.specs.Words.{is_free}
use Rattle.table_words.specs.Blocks.{block_read}
use Rattle.table_words.specs.Layouts.{place_number}
use Rattle.atomic_table.specs.declared.shared.Seat.{Seat}
use Rattle.table_rules.specs.declared.view.View.{View}
use Rattle.table_steps.specs.declared.block.Block.{Block}
use Rattle.table_steps.specs.Slots.{Aim, slot_of}
use Rattle.table_steps.specs.Views.{Board, aim_at}
use Rattle.table_steps.specs.Claims.{IsUnnoted, logged, owes_root, root_name, word_index, Claimed, ClaimedFrom, Missed, MissedFrom, with_step}
use Rattle.table_steps.specs.Seats.{Seated}

pub won : (P E : Type 0) {O : Type 0} (board : Board O) (block found generation i was left : ℕ) (aim : Aim) (old new : Seat (Option P) (View P E)) →
    generation ≡ (block_read found).generation → i ≡ word_index board block → was ≡ found →
    aim ≡ aim_at board (root_name board block (block_read found).generation) →
    block_read left ≡ record { generation = generation; state = Open } →
    IsUnnoted old.me.0 aim.name →
    new.me ≡ (with_step i was left (owes_root aim.name old.me.0), (slot_of aim.layout aim.name, None) ∷ old.me.1) →
    ClaimedFrom board block found (record { index = block; generation = generation }) old new
won P E board block found generation i was left aim old new g e w a opened unnoted me =
    let name = ap (λ z. z.name) a ∙ ap (root_name board block) (sym g) in
    record {
      block_is = refl;
      generation_is = g;
      left = left;
      opened = opened;
      unnoted = subst (IsUnnoted old.me.0) name unnoted;
      me_is = me
          ∙ (λ k. (
            with_step (e k) (w k) left (owes_root (name k) old.me.0),
            (ap (λ z. slot_of z.layout z.name) a k, None) ∷ old.me.1,
          ));
    }

is-free : (w : BlockState) → is_free w ≡ true → w ≡ Free
is-free Free h = refl
is-free Open h = cc
is-free Retired h = cc

-- a block's word was read as free, and what the hand knows then
pub record FoundFree (P E : Type 0) {O : Type 0} (board : Board O) : Type 0 where
  pub block : ℕ
  pub found : ℕ
  pub before : Seat (Option P) (View P E)
  pub seeing : Seat (Option P) (View P E)
  pub after : Seat (Option P) (View P E)
  pub seen : seeing.me ≡ (logged (word_index board block) found before.me.0, before.me.1)
  pub free : is_free (block_read found).state ≡ true

module _ (P E : Type 0) {O : Type 0} (board : Board O) (task : FoundFree P E board) where
  open task use {block, found, before as old, seeing as mid, after as new, seen, free}

  pub told : (answer : Option Block) →
      MatchOption answer (MissedFrom board block found mid new) (λ b. ClaimedFrom board block found b mid new) →
      MatchOption answer (Missed board block old new) (λ b. Claimed board block b old new)
  told None m =
      inr (record {
        word = found;
        free = free;
        other = m.other;
        differs = m.differs;
        me_is = m.me_is ∙ ap (λ z. (logged (word_index board block) m.other z.0, z.1)) seen;
      })
  told (Some b) m =
      record {
        word = found;
        free = λ k. record { generation = sym m.generation_is k; state = is-free (block_read found).state free k };
        block_is = m.block_is;
        left = m.left;
        opened = m.opened;
        unnoted = subst (λ (z : Seated P E). IsUnnoted z.0 (root_name board block b.generation)) seen m.unnoted;
        me_is = m.me_is
            ∙ ap (λ z. (
              with_step (word_index board block) found m.left (owes_root (root_name board block b.generation) z.0),
              (place_number board.frame.layout block (length board.frame.tree - 1), None) ∷ z.1,
            )) seen;
      }

-- the load of the block's word is listed under its index
pub seen_at : {P E O : Type 0} (board : Board O) (block i found : ℕ) (old new : Seat (Option P) (View P E)) →
    i ≡ word_index board block → new.me ≡ (logged i found old.me.0, old.me.1) →
    new.me ≡ (logged (word_index board block) found old.me.0, old.me.1)
seen_at board block i found old new e me = me ∙ ap (λ j. (logged j found old.me.0, old.me.1)) e
