-- A look at one place of a loop: what it leaves, and what became of the delay there.
use Rattle.std.proofs.Common.{◌≡◌, ◌≢◌, inl, inr, ℕ, ◌<◌, true, false, refl, sym, ap, ◌∙◌, subst}
use Rattle.std.proofs.lemmas.Bool.{cases_eq, cond-true, cond-false}
use Rattle.common_lemmas.proofs.Bool.{either}
use Rattle.life_rules.specs.Words.{is_parked}
use Rattle.timer_wheel.specs.Delays.{DelayList, places, delay_at, is_known, seen_parked}
use Rattle.plan_shape.specs.Blueprint.{Blueprint}
use Rattle.table_words.specs.Controls.{control_read}
use Rattle.table_words.specs.Stamps.{stamp_of}
use Rattle.table_steps.specs.Views.{Board}
use Rattle.table_steps.specs.Seats.{Seated}
use Rattle.home_items.specs.declared.entry.Entry.{Entry}
use Rattle.home_items.specs.declared.item.Item.{Item}
use Rattle.node_walks.specs.Resting.{IsAtRest}
use Rattle.node_walks.specs.Since.{OnlyLooks}
use Rattle.node_walks.proofs.Read.{looked-rests, looked-only, looked-since}
use Rattle.run_loop.specs.declared.delay_node.DelayNode.{DelayNode}
use Rattle.run_loop.specs.DelayNodes.{IsDelayNode, nodes_of, place_of}
use Rattle.run_loop.specs.Delayed.{SaysParked, word_at, Becomes, IsLookedAt, LooksAtDelay}
use Rattle.run_loop.proofs.DelayLists.{seen_one, seen-turn, seen-places, seen-other, seen-known, seen-new, seen-is-known}

module _ (board : Board Blueprint) (block : ℕ) (delay : DelayNode) (m m' : Seated Item Entry) (before after : DelayList)
    (looks : LooksAtDelay board block delay m m' before after) where
  abbrev place : ℕ
  place = place_of board block delay.node

  abbrev generation : ℕ
  generation = stamp_of looks.word

  abbrev noted : DelayList
  noted = seen_parked before place generation delay.turns

  -- by whether it is parked
  by_word : (P : DelayList → Type 0) → (is_parked (control_read looks.word) ≡ true → P noted) →
      (is_parked (control_read looks.word) ≡ false → P before) → P after
  by_word P parked unparked =
      either (is_parked (control_read looks.word))
      (λ t. subst P (sym (looks.list ∙ cond-true (is_parked (control_read looks.word)) noted before t)) (parked t))
      (λ f. subst P (sym (looks.list ∙ cond-false (is_parked (control_read looks.word)) noted before f)) (unparked f))

  pub look-turn : after.turn ≡ before.turn
  look-turn = by_word (λ d. d.turn ≡ before.turn) (λ _. seen-turn before place generation delay.turns) (λ _. refl)

  -- a look lists itself
  pub look-only : OnlyLooks m m'
  look-only = looked-only (word_at board block delay.node) looks.word m m' looks.me_is

  pub look-rests : IsAtRest m.0 → IsAtRest m'.0
  look-rests = looked-rests (word_at board block delay.node) looks.word m m' looks.me_is

  pub look-places : places after ≡ places before
  look-places = by_word (λ d. places d ≡ places before) (λ _. seen-places before place generation delay.turns) (λ _. refl)

  pub look-other : (other : ℕ) → other ≢ place → delay_at after other ≡ delay_at before other
  look-other other apart =
      by_word (λ d. delay_at d other ≡ delay_at before other) (λ _. seen-other before place generation delay.turns other apart) (λ _. refl)

  -- its word was read
  pub look-here : place < places before → IsLookedAt board m m' after 0 block delay.node
  look-here within =
      record {
        word = looks.word;
        read = looked-since (word_at board block delay.node) looks.word m m' looks.me_is (λ w. w ≡ looks.word) refl;
        known = λ parked.
            inl
            (ap (λ (d : DelayList). is_known d place generation)
            (looks.list ∙ cond-true (is_parked (control_read looks.word)) noted before parked)
            ∙ seen-is-known before place generation delay.turns within);
      }

  -- and the place has the delay that it had, or this one
  pub look-becomes : place < places before → block < board.frame.layout.blocks → IsDelayNode (nodes_of board) delay → (other : ℕ) →
      Becomes board m m' after.turn 0 other (delay_at before other) (delay_at after other)
  look-becomes within in_blocks is other = elim (cases_eq other place) [
    | inl here ↦
        subst (λ k. Becomes board m m' after.turn 0 k (delay_at before k) (delay_at after k)) (sym here)
        (by_word (λ d. Becomes board m m' after.turn 0 place (delay_at before place) (delay_at d place)) at_place (λ _. inl refl))
    | inr there ↦ inl (look-other other there)
  ]
    where
      at_place : is_parked (control_read looks.word) ≡ true → Becomes board m m' after.turn 0 place (delay_at before place) (delay_at noted place)
      at_place parked =
          either (is_known before place generation)
          (λ known. inl (seen-known before place generation delay.turns known))
          (λ unknown.
          inr
          (inl (
            seen_one before place generation delay.turns,
            seen-new before place generation delay.turns within unknown,
            record {
              block = block;
              node = delay.node;
              within = in_blocks;
              place_is = refl;
              delay = is;
              since = sym look-turn;
              read = looked-since (word_at board block delay.node) looks.word m m' looks.me_is (SaysParked generation) (parked, refl);
            },
            inl unknown,
          )))
