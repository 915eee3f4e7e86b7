-- All hands are joined to one.
use Rattle.std.proofs.Common.{◌≡◌, ℕ, zero, suc, ◌+◌, ◌≤◌, true, false, List, [], ◌∷◌, ◌++◌, length, refl, sym, ap, ◌∙◌, subst, arith, length-append, append_assoc}
use Rattle.std.proofs.lemmas.List.{append-nil}
use Rattle.std.specs.Prelude.{Option}
use Rattle.std.proofs.lemmas.Bool.{both_ways}
use mathlib.Core.Option.{some, some-injective, some-ne-none}
use lib.ListN.{get_elem?}
use Rattle.node_tree.specs.declared.node.TreeNode.{TreeNode}
use Rattle.table_words.specs.declared.layout.Layout.{Layout}
use Rattle.atomic_table.specs.declared.shared.Seat.{Seat}
use Rattle.table_rules.specs.declared.view.View.{View}
use Rattle.table_rules.specs.Named.{Each}
use Rattle.table_rules.specs.Counts.{over_all, CountsItself}
use Rattle.table_steps.specs.Slots.{has_slot}
use Rattle.table_steps.specs.Views.{Board, knows, IsHandOf}
use Rattle.table_rules.specs.Traces.{all_steps}
use Rattle.table_steps.specs.Closings.{HasNothing, AreAllBack, claimed_by, released_by, steps_of, gathered, IsGathering}
use Rattle.table_kept.proofs.Counts.{over-more}

-- a view that gives no slot
has-none : {P E : Type 0} (tree : List TreeNode) (l : Layout) (v : View P E) (slot : ℕ) → HasNothing v →
    has_slot tree l v slot ≡ false
has-none {P} {E} tree l v slot none =
    λ k. has_slot tree l (record v { held = none.held k; owed = none.owed k; finished = none.finished k }) slot

carried-none : {P E : Type 0} (tree : List TreeNode) (l : Layout) (v : View P E) (c : List (ℕ × Option P)) → HasNothing v →
    Each (λ d. has_slot tree l v d.0 ≡ true) c → c ≡ []
carried-none tree l v [] none given = refl
carried-none tree l v (d ∷ ds) none given =
    absurd (both_ways (has_slot tree l v d.0) (has-none tree l v d.0 none) given.0)

-- a hand that has nothing carries no slot
pub carries-none : {P E O : Type 0} (board : Board O) (hand : Seat (Option P) (View P E)) → IsHandOf board hand →
    HasNothing (knows hand) → hand.me.1 ≡ []
carries-none board hand is none =
    carried-none board.frame.tree board.frame.layout hand.me.0 hand.me.1 none is.seated.given

module _ {A : Type 0} where
  each-last : (Q : A → Type 0) (l : List A) (a : A) → Each Q (l ++ a ∷ []) → Each Q l × Q a
  each-last Q [] a all = (tt, all.0)
  each-last Q (x ∷ xs) a all = let rest = each-last Q xs a all.1 in ((all.0, rest.0), rest.1)

-- the steps of the last hand come first
steps-last : {P E : Type 0} (left : List (Seat (Option P) (View P E))) (hand : Seat (Option P) (View P E)) →
    steps_of (left ++ hand ∷ []) ≡ all_steps (knows hand) ++ steps_of left
steps-last [] hand = sym (append-nil (all_steps (knows hand)))
steps-last (x ∷ xs) hand =
    ap (λ l. l ++ all_steps (knows x)) (steps-last xs hand)
    ∙ append_assoc (all_steps (knows hand)) (steps_of xs) (all_steps (knows x))

module _ {P E O : Type 0} (board : Board O) (all : List (Seat (Option P) (View P E))) where
  abbrev IsBack : Seat (Option P) (View P E) → Type 0
  IsBack hand = IsHandOf board hand × HasNothing (knows hand)

  -- the hand from which it begins
  pub gathers-first : (left : List (Seat (Option P) (View P E))) (hand : Seat (Option P) (View P E)) → AreAllBack board all →
      all ≡ left ++ hand ∷ [] → IsGathering board all left hand
  gathers-first left hand back is =
      let last = each-last IsBack left hand (subst (Each IsBack) is back.each) in
      let itself = last.1.0.seated.itself in
      let claims = over-more (λ (z : Seat (Option P) (View P E)). (knows z).claimed) left hand in
      let releases = over-more (λ (z : Seat (Option P) (View P E)). (knows z).released) left hand in
      let long : length (left ++ hand ∷ []) ≡ length left + 1 = length-append left (hand ∷ []) in
      let more : claimed_by all ≡ claimed_by (left ++ hand ∷ []) = ap claimed_by is in
      let gone : released_by all ≡ released_by (left ++ hand ∷ []) = ap released_by is in
      let count : length all ≡ length (left ++ hand ∷ []) = ap length is in
      record {
        table_is = last.1.0.table_is;
        itself = omega (arith, itself);
        claimed = omega (arith, claims, more);
        released = omega (arith, releases, gone);
        hands = omega (arith, itself, long, count);
        steps = sym (ap steps_of is ∙ steps-last left hand);
        each = last.0;
      }

  -- and one hand more
  pub gathers-next : (before left : List (Seat (Option P) (View P E))) (hand next later : Seat (Option P) (View P E)) →
      IsGathering board all before hand → before ≡ left ++ next ∷ [] → later.table_id ≡ hand.table_id →
      knows later ≡ gathered (knows hand) (knows next) → IsGathering board all left later
  gathers-next before left hand next later old is table me =
      let last = each-last IsBack left next (subst (Each IsBack) is old.each) in
      let itself = last.1.0.seated.itself in
      let first = old.itself in
      let claims = over-more (λ (z : Seat (Option P) (View P E)). (knows z).claimed) left next in
      let releases = over-more (λ (z : Seat (Option P) (View P E)). (knows z).released) left next in
      let long : length (left ++ next ∷ []) ≡ length left + 1 = length-append left (next ∷ []) in
      let more : claimed_by before ≡ claimed_by (left ++ next ∷ []) = ap claimed_by is in
      let gone : released_by before ≡ released_by (left ++ next ∷ []) = ap released_by is in
      let count : length before ≡ length (left ++ next ∷ []) = ap length is in
      let claimed : (knows later).claimed ≡ (knows hand).claimed + (knows next).claimed = ap (λ z. z.claimed) me in
      let released : (knows later).released ≡ (knows hand).released + (knows next).released = ap (λ z. z.released) me in
      let hands : (knows later).hands ≡ (knows hand).hands + (knows next).hands = ap (λ z. z.hands) me in
      let old_claimed = old.claimed in
      let old_released = old.released in
      let old_hands = old.hands in
      record {
        table_is = table ∙ old.table_is;
        itself = omega (arith, hands, first);
        claimed = omega (arith, claims, more, claimed, old_claimed);
        released = omega (arith, releases, gone, released, old_released);
        hands = omega (arith, itself, long, count, hands, old_hands);
        steps = ap (λ z. all_steps z ++ steps_of left) me
            ∙ ap (λ l. l ++ steps_of left) (sym (append_assoc (knows hand).steps (knows hand).joined (all_steps (knows next))))
            ∙ append_assoc (all_steps (knows hand)) (all_steps (knows next)) (steps_of left)
            ∙ ap (λ l. all_steps (knows hand) ++ l) (sym (ap steps_of is ∙ steps-last left next))
            ∙ old.steps;
        each = last.0;
      }

  -- the hand that is left next is one of the table's, and carries nothing
  pub next-free : (before left : List (Seat (Option P) (View P E))) (hand next : Seat (Option P) (View P E)) →
      IsGathering board all before hand → before ≡ left ++ next ∷ [] →
      (next.table_id ≡ board.table_id) × (next.me.1 ≡ [])
  next-free before left hand next old is =
      let last = (each-last IsBack left next (subst (Each IsBack) is old.each)).1 in
      (last.0.table_is, carries-none board next last.0 last.1)

-- a view stands for no more hands than all
view-most : {P E : Type 0} (w : View P E) (vs : List (View P E)) (j : ℕ) → get_elem? vs j ≡ some w →
    w.hands ≤ over_all (λ (z : View P E). z.hands) vs
view-most w [] j at = absurd (some-ne-none w (sym at))
view-most w (x ∷ xs) zero at =
    let same : x.hands ≡ w.hands = ap (λ z. z.hands) (some-injective x w at) in omega (arith, same)
view-most w (x ∷ xs) (suc j) at = let most = view-most w xs j at in omega (arith, most)

-- where one view stands for all hands, no other counts anything
module _ {P E : Type 0} (v : View P E) where
  abbrev hands_of : View P E → ℕ
  hands_of z = z.hands

  -- and no other stands for any
  pub only : (vs : List (View P E)) (id j : ℕ) (w : View P E) → get_elem? vs id ≡ some v → get_elem? vs j ≡ some w →
      over_all hands_of vs ≤ v.hands → 1 ≤ w.hands → w ≡ v
  only [] id j w at there few itself = absurd (some-ne-none v (sym at))
  only (x ∷ xs) zero zero w at there few itself = some-injective w v (sym there ∙ at)
  only (x ∷ xs) zero (suc j) w at there few itself =
      let same : x.hands ≡ v.hands = ap hands_of (some-injective x v at) in
      let most = view-most w xs j there in
      absurd (omega (arith, same, most, few, itself))
  only (x ∷ xs) (suc id) zero w at there few itself =
      let same : x.hands ≡ w.hands = ap hands_of (some-injective x w there) in
      let most = view-most v xs id at in
      absurd (omega (arith, same, most, few, itself))
  only (x ∷ xs) (suc id) (suc j) w at there few itself = only xs id j w at there (omega (arith, few)) itself

  spent-none : (f : View P E → ℕ) → ((z : View P E) → CountsItself z → z.hands ≡ 0 → f z ≡ 0) → (vs : List (View P E)) →
      over_all hands_of vs ≤ 0 → Each CountsItself vs → over_all f vs ≡ 0
  spent-none f none [] few all = refl
  spent-none f none (x ∷ xs) few all =
      let here : f x ≡ 0 = none x all.0 (omega (arith, few)) in
      let rest = spent-none f none xs (omega (arith, few)) all.1 in
      omega (arith, here, rest)

  pub alone : (f : View P E → ℕ) → ((z : View P E) → CountsItself z → z.hands ≡ 0 → f z ≡ 0) → (vs : List (View P E)) (id : ℕ) →
      get_elem? vs id ≡ some v → over_all hands_of vs ≤ v.hands → Each CountsItself vs → over_all f vs ≡ f v
  alone f none [] id at few all = absurd (some-ne-none v (sym at))
  alone f none (x ∷ xs) zero at few all =
      let is : x ≡ v = some-injective x v at in
      let same : x.hands ≡ v.hands = ap hands_of is in
      let here : f x ≡ f v = ap f is in
      let rest = spent-none f none xs (omega (arith, few, same)) all.1 in
      omega (arith, here, rest)
  alone f none (x ∷ xs) (suc id) at few all =
      let most = view-most v xs id at in
      let here : f x ≡ 0 = none x all.0 (omega (arith, few, most)) in
      let rest = alone f none xs id at (omega (arith, few)) all.1 in
      omega (arith, here, rest)
