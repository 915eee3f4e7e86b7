-- The futures that a hand keeps, when one comes, goes or is abandoned.
use Rattle.std.proofs.Common.{◌≡◌, ℕ, ◌+◌, ◌<◌, true, List, [], ◌∷◌, length, set, get_or, inl, inr, refl, sym, ap, ◌∙◌, subst, arith}
use Rattle.std.specs.Prelude.{if◌then◌else◌, Option, Some, None}
use Rattle.std.proofs.lemmas.Bool.{cases_eq, cond-true, cond-false}
use Rattle.common_lemmas.proofs.Bool.{either}
use Rattle.atomic_table.specs.declared.shared.Seat.{Seat}
use Rattle.life_rules.specs.declared.event.Name.{Name}
use Rattle.life_rules.specs.Views.{same}
use Rattle.life_rules.proofs.Names.{same-refl, same-true, same-other}
use Rattle.plan_shape.specs.Blueprint.{Blueprint}
use Rattle.table_rules.specs.declared.view.Rooted.{Rooted}
use Rattle.table_rules.specs.declared.view.View.{View}
use Rattle.table_rules.specs.Named.{find_by, without}
use Rattle.table_steps.specs.declared.block.Block.{Block}
use Rattle.table_steps.specs.Slots.{noted_at}
use Rattle.table_steps.specs.Views.{Board, IsHandOf}
use Rattle.table_steps.specs.Seats.{Seated}
use Rattle.home_items.specs.declared.entry.Entry.{Entry}
use Rattle.home_items.specs.declared.item.Item.{Item}
use Rattle.home_items.specs.Starts.{IsReceiverStart}
use Rattle.exec_recv.specs.Asides.{Aside, aside_of}
use Rattle.node_walks.specs.Resting.{IsAtRest}
use Rattle.node_walks.specs.Completes.{IsListed}
use Rattle.node_walks.specs.Leaves.{LeavesAside}
use Rattle.spawn_future.specs.declared.future.Future.{Future}
use Rattle.spawn_future.specs.Keeping.{block_root, root_of, AreKept, IsKeeping, with_ended, Enters}
use Rattle.spawn_future.specs.Slots.{Has, HasBlock}
use Rattle.spawn_future.proofs.Slotted.{one-more, one-less, one-same, was-there, is-here, stays-there, has-within}

abbrev name_of : Rooted Entry → Name
name_of e = e.name

-- the new note is found under its name, and the others under theirs
first-noted : (e : Rooted Entry) (l : List (Rooted Entry)) → find_by name_of (e ∷ l) e.name ≡ Some e
first-noted e l = cond-true (same e.name e.name) (Some e) (find_by name_of l e.name) (same-refl e.name)

pub others-noted : (e : Rooted Entry) (l : List (Rooted Entry)) (y : Name) → (e.name ≡ y → ⊥) →
    find_by name_of (e ∷ l) y ≡ find_by name_of l y
others-noted e l y apart = cond-false (same e.name y) (Some e) (find_by name_of l y) (same-other e.name y apart)

-- as where one goes
pub others-stay : (l : List (Rooted Entry)) (x y : Name) → (x ≡ y → ⊥) → find_by name_of (without name_of l x) y ≡ find_by name_of l y
others-stay [] x y apart = refl
others-stay (e ∷ l) x y apart =
    either (same e.name x)
    (λ here.
    ap (λ (k : List (Rooted Entry)). find_by name_of k y) (cond-true (same e.name x) l (e ∷ without name_of l x) here)
    ∙ sym (others-noted e l y (λ at. apart (sym (same-true e.name x here) ∙ at))))
    (λ there.
    ap (λ (k : List (Rooted Entry)). find_by name_of k y) (cond-false (same e.name x) l (e ∷ without name_of l x) there)
    ∙ ap (λ (o : Option (Rooted Entry)). if same e.name y then Some e else o) (others-stay l x y apart))

module _ (board : Board Blueprint) where
  -- the note of a root stays, and so it is listed still
  listed-still : (b : Block) (m m' : Seated Item Entry) → IsListed board b m →
      noted_at m'.0 (block_root board b) ≡ noted_at m.0 (block_root board b) → IsListed board b m'
  listed-still b m m' listed same_note =
      record {
        within = listed.within;
        start = listed.start;
        noted = same_note ∙ listed.noted;
        receiver = listed.receiver;
      }

  -- calls that leave all that the view says beside
  pub kept-same : (slots : List (Option Future)) (m m' : Seated Item Entry) → AreKept board slots m →
      aside_of m'.0 ≡ aside_of m.0 → AreKept board slots m'
  kept-same slots m m' kept is =
      let made = kept.made in
      let made_is = ap (λ (a : Aside). a.made) is in
      record {
        made = omega (arith, made, made_is);
        each = λ t f has.
            listed-still f.block m m' (kept.each t f has)
            (ap (λ (a : Aside). find_by name_of a.noted (root_of board f)) is);
        apart = kept.apart;
      }

  pub keeping-same : (slots : List (Option Future)) (old new : Seat (Option Item) (View Item Entry)) → IsKeeping board slots old →
      IsHandOf board new → IsAtRest new.me.0 → LeavesAside (aside_of old.me.0) old.me new.me → IsKeeping board slots new
  keeping-same slots old new keeping hand_of rests leaves =
      record {
        hand_of = hand_of;
        first = ap (λ (a : Aside). a.number) leaves.is ∙ keeping.first;
        rests = rests;
        settled = ap (λ (a : Aside). a.making + a.refused) leaves.is ∙ keeping.settled;
        keeps = kept-same slots old.me new.me keeping.keeps leaves.is;
      }

  -- the future in a block is listed
  pub block-listed : (slots : List (Option Future)) (t : ℕ) (b : Block) (m : Seated Item Entry) → AreKept board slots m →
      HasBlock slots t b → IsListed board b m
  block-listed slots t b m kept has =
      subst (λ (x : Block). IsListed board x m) has.block_is (kept.each t has.future has.has)

  module _ (slots : List (Option Future)) (t : ℕ) (within : t < length slots) (m m' : Seated Item Entry) (kept : AreKept board slots m) where
    -- a root of which no start is noted is none of theirs
    pub unnoted-apart : (x : Name) → noted_at m.0 x ≡ None → (u : ℕ) (p : Future) → Has slots u p → x ≡ root_of board p → ⊥
    unnoted-apart x none u p has at =
        let start = (kept.each u p has).noted in
        let gone : noted_at m.0 (root_of board p) ≡ None = ap (noted_at m.0) (sym at) ∙ none in
        cc

    -- one comes
    module _ (f : Future) (free : get_or slots t None ≡ None) (start : List Entry) (receiver : IsReceiverStart start)
        (enters : Enters board f.block start m m') where
      abbrev note : Rooted Entry
      note = record { name = root_of board f; start = start }

      noted-is : m'.0.noted ≡ note ∷ m.0.noted
      noted-is = ap (λ (a : Aside). a.noted) enters.leaves.is

      listed-here : IsListed board f.block m'
      listed-here =
          record {
            within = enters.within;
            start = start;
            noted = ap (λ (l : List (Rooted Entry)). find_by name_of l (root_of board f)) noted-is ∙ first-noted note m.0.noted;
            receiver = receiver;
          }

      listed-there : (u : ℕ) (p : Future) → Has slots u p → IsListed board p.block m'
      listed-there u p has =
          listed-still p.block m m' (kept.each u p has)
          (ap (λ (l : List (Rooted Entry)). find_by name_of l (root_of board p)) noted-is
          ∙ others-noted note m.0.noted (root_of board p) (unnoted-apart (root_of board f) enters.unnoted u p has))

      spawned-each : (u : ℕ) (p : Future) → Has (set slots t (Some f)) u p → IsListed board p.block m'
      spawned-each u p has = elim (cases_eq u t) [
        | inl here ↦
            subst (λ (q : Future). IsListed board q.block m') (is-here slots t within f u p here has) listed-here
        | inr there ↦ listed-there u p (was-there slots t within (Some f) u p there has)
      ]

      spawned-apart : (u w : ℕ) (p q : Future) → Has (set slots t (Some f)) u p → Has (set slots t (Some f)) w q →
          root_of board p ≡ root_of board q → u ≡ w
      spawned-apart u w p q has_p has_q at = elim (cases_eq u t) [
        | inl here ↦
            elim (cases_eq w t) [
              | inl here_too ↦ here ∙ sym here_too
              | inr there ↦
                  absurd
                  (unnoted-apart (root_of board f) enters.unnoted w q (was-there slots t within (Some f) w q there has_q)
                  (ap (root_of board) (is-here slots t within f u p here has_p) ∙ at))
            ]
        | inr there ↦
            elim (cases_eq w t) [
              | inl here_too ↦
                  absurd
                  (unnoted-apart (root_of board f) enters.unnoted u p (was-there slots t within (Some f) u p there has_p)
                  (ap (root_of board) (is-here slots t within f w q here_too has_q) ∙ sym at))
              | inr there_too ↦
                  kept.apart u w p q (was-there slots t within (Some f) u p there has_p)
                  (was-there slots t within (Some f) w q there_too has_q) at
            ]
      ]

      pub spawned-kept : AreKept board (set slots t (Some f)) m'
      spawned-kept =
          let more = one-more slots t within f free in
          let made = kept.made in
          let made_is = ap (λ (a : Aside). a.made) enters.leaves.is in
          record { made = omega (arith, more, made, made_is); each = spawned-each; apart = spawned-apart }

    -- one goes
    module _ (f : Future) (has : Has slots t f) (leaves : LeavesAside (with_ended (root_of board f) (aside_of m.0)) m m') where
      ended-each : (u : ℕ) (p : Future) → Has (set slots t None) u p → IsListed board p.block m'
      ended-each u p has_p =
          let there = stays-there slots t within u p has_p in
          listed-still p.block m m' (kept.each u p there.1)
          (ap (λ (a : Aside). find_by name_of a.noted (root_of board p)) leaves.is
          ∙ others-stay m.0.noted (root_of board f) (root_of board p) (λ at. there.0 (sym (kept.apart t u f p has there.1 at))))

      pub ended-kept : AreKept board (set slots t None) m'
      ended-kept =
          let less = one-less slots t within f has in
          let made = kept.made in
          let made_is = ap (λ (a : Aside). a.made) leaves.is in
          record {
            made = omega (arith, less, made, made_is);
            each = ended-each;
            apart = λ u w p q has_p has_q at.
                kept.apart u w p q (stays-there slots t within u p has_p).1 (stays-there slots t within w q has_q).1 at;
          }

  -- one is abandoned
  module _ (slots : List (Option Future)) (t : ℕ) (f : Future) (has : Has slots t f) (m : Seated Item Entry) (kept : AreKept board slots m) where
    within : t < length slots
    within = has-within slots t f has

    abbrev marked : Future
    marked = record f { abandoned = true }

    -- each slot has a future in the block that it had
    had : (u : ℕ) (p : Future) → Has (set slots t (Some marked)) u p → (q : Future) × Has slots u q × (p.block ≡ q.block)
    had u p has_p = elim (cases_eq u t) [
      | inl here ↦ (
        f,
        ap (λ k. get_or slots k None) here ∙ has,
        sym (ap (λ (z : Future). z.block) (is-here slots t within marked u p here has_p)),
      )
      | inr there ↦ (p, was-there slots t within (Some marked) u p there has_p, refl)
    ]

    pub marked-kept : AreKept board (set slots t (Some marked)) m
    marked-kept =
        let as_many = one-same slots t within f marked has in
        let made = kept.made in
        record {
          made = omega (arith, as_many, made);
          each = λ u p has_p.
              let before = had u p has_p in
              subst (λ (b : Block). IsListed board b m) (sym before.2) (kept.each u before.0 before.1);
          apart = λ u w p q has_p has_q at.
              let first = had u p has_p in
              let next = had w q has_q in
              kept.apart u w first.0 next.0 first.1 next.1
              (ap (block_root board) (sym first.2) ∙ at ∙ ap (block_root board) next.2);
        }
