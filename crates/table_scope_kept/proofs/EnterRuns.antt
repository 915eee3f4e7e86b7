-- The step by which the scope is entered keeps the rule.
use Rattle.std.proofs.Common.{◌≡◌, ℕ, ◌+◌, ◌-◌, ◌%◌, ◌^◌, ◌<◌, ◌≤◌, cond, List, set, refl, sym, ◌∙◌, subst, arith, ap}
use Rattle.std.specs.Prelude.{slice_index}
use Rattle.std.proofs.lemmas.Bool.{cond-true, cond-false, eq-eqb}
use Rattle.node_tree.specs.declared.node.TreeNode.{TreeNode}
use Rattle.life_rules.specs.declared.scope.ScopeWord.{ScopeWord}
use Rattle.life_rules.specs.Scopes.{is_refused}
use Rattle.life_rules.specs.Views.{View as PureView}
use Rattle.life_rules.specs.States.{State, with_view, with_scope}
use Rattle.common_lemmas.specs.Sums.{total}
use Rattle.life_rules.specs.ScopeSteps.{entered}
use Rattle.life_rules.specs.Sound.{Sound}
use Rattle.common_lemmas.proofs.Bool.{either}
use Rattle.common_lemmas.proofs.Totals.{total-most, total-ones}
use Rattle.scope_kept.proofs.Counts.{all_refused, count-parts}
use Rattle.scope_kept.proofs.Steps.{sound-enter}
use Rattle.table_words.specs.declared.layout.Layout.{Layout}
use Rattle.table_words.specs.Stamps.{code_of}
use Rattle.table_words.specs.ScopeNumbers.{scope_read}
use Rattle.atomic_table.specs.Table.{Allows, keeps}
use Rattle.table_rules.specs.declared.cargo.Cargo.{Ghosts}
use Rattle.table_rules.specs.declared.frame.TheConstants.{MOST_ASSOCIATIONS}
use Rattle.table_rules.specs.declared.frame.Frame.{Frame}
use Rattle.table_rules.specs.declared.view.View.{View}
use Rattle.table_rules.specs.ShownWords.{block_of}
use Rattle.table_rules.specs.ShownViews.{shown_view}
use Rattle.table_rules.specs.Scenes.{shown}
use Rattle.table_rules.specs.Running.{Running}
use Rattle.table_steps.specs.Claims.{with_step, ListsOne}
use Rattle.table_steps.specs.Seats.{Seated}
use Rattle.table_steps.specs.Lefts.{plus_one}
use Rattle.table_steps.specs.ScopeMoves.{MovesScopeAt, with_one_more}
use Rattle.table_steps.specs.Slots.{IsSeated}
use Rattle.table_steps.specs.ScopeEntries.{MayEnter, enters}
use Rattle.table_kept.proofs.Standing.{Standing}
use Rattle.table_kept.proofs.Seats.{at_within}
use Rattle.table_kept.proofs.Stamping.{bits-counted}
use Rattle.table_kept.proofs.ViewMoves.{view-here}
use Rattle.table_kept.proofs.Masks.{reads-more}
use Rattle.table_kept.proofs.Listing.{AllowsListed, allows-listed, lists-one}
use Rattle.table_scope_kept.proofs.ScopeRuns.{ToWriteScope, scope-runs}

-- that the hand may enter the scope, and that the word has room
pub record ToEnter {P E O : Type 0} {cargo : Ghosts P E O} {f : Frame O}
    (hand : Standing cargo f) : Type 0 where
  pub few : f.most ≤ MOST_ASSOCIATIONS
  pub may : MayEnter hand.view
  pub small : slice_index hand.state.words 0 < 18446744073709551616

module _ {P E O : Type 0} (cargo : Ghosts P E O) (f : Frame O) (hand : Standing cargo f)
    (task : ToEnter hand) where
  open hand use {state as s, id, view as v, running as r, at}
  open task use {few, may, small}

  abbrev now : State
  now = shown f s

  abbrev n : ℕ
  n = slice_index s.words 0

  abbrev more : ℕ
  more = (n + 1) % 2 ^ 64

  abbrev old_view : PureView
  old_view = now.view id

  is-shown : old_view ≡ shown_view (block_of f.layout s.words) v
  is-shown = view-here (block_of f.layout s.words) s.views id v at

  hand_below : id < f.hands
  hand_below = let l = at_within s.views id v at in let m = r.sized.seats in omega (arith, l, m)

  -- the count is at most the scope's greatest number and the number of hands together
  room : code_of n + 1 ≤ 2 ^ 32 - 1
  room =
      let a = r.stands.sound.associations in
      let parts = count-parts now a in
      let keeps = a.most in
      let each : all_refused now ≤ total (λ _. 1) f.hands =
      total-most (λ i. (now.view i).refused) (λ _. 1) f.hands (λ i below. let one = a.single i below in omega (arith, one)) in
      let all = total-ones f.hands in
      let hands : f.hands ≤ 32 = r.frame.hands in
      omega (arith, parts, keeps, each, all, hands, few)

  -- the word that is left counts one more
  pub counts-more : scope_read more ≡ with_one_more (scope_read n)
  counts-more = reads-more n room (omega (arith, small))

  narrow : more < 2 ^ 36
  narrow = let wide = r.stamped.scope in let few_more = room in omega (arith, wide, few_more)

  abbrev word : ScopeWord
  word = record (scope_read n) { count = code_of n + 1 }

  sound-now : Sound (with_view (with_scope now word) id (entered (scope_read n) f.most old_view))
  sound-now =
      sound-enter now id r.stands.sound hand_below
      (eq-eqb (old_view.making + old_view.refused) 0 (subst (λ (z : PureView). z.making + z.refused ≡ 0) (sym is-shown) may))

  enter-by : (made making refused : ℕ) → entered (scope_read n) f.most old_view ≡ record old_view { made = made; making = making; refused = refused } →
      Running cargo f record { words = set s.words 0 more; homes = s.homes; views = set s.views id (with_step 0 n more (record v { made = made; making = making; refused = refused })) }
  enter-by made making refused is =
      let writing : ToWriteScope hand = record {
        value = more;
        word = word;
        reads = counts-more;
        narrow = narrow;
        bits = bits-counted (scope_read n) (code_of n + 1);
        made = made;
        making = making;
        refused = refused;
      } in
      scope-runs cargo f hand writing
      (subst (λ (z : PureView). Sound (with_view (with_scope now word) id z)) is sound-now)

  abbrev Kept : View P E → Type 0
  Kept z = Running cargo f record { words = set s.words 0 more; homes = s.homes; views = set s.views id (with_step 0 n more z) }

  pub enter-runs : Kept (enters f.most (scope_read n) v)
  enter-runs =
      let w = scope_read n in
      let refuse : PureView → PureView = λ z. record z { refused = z.refused + 1 } in
      let make : PureView → PureView = λ z. record z { made = z.made + 1 } in
      let start : PureView → PureView = λ z. record z { making = z.making + 1 } in
      let refuses : View P E = record v { refused = v.refused + 1 } in
      let made_now : View P E = record v { made = v.made + 1 } in
      let started : View P E = record v { making = v.making + 1 } in
      let other : PureView = cond w.used (make old_view) (start old_view) in
      let other_now : View P E = cond w.used made_now started in
      either (is_refused w f.most)
      (λ t.
      subst Kept (sym (cond-true (is_refused w f.most) refuses other_now t))
      (enter-by v.made v.making (v.refused + 1)
      (cond-true (is_refused w f.most) (refuse old_view) other t
      ∙ (λ k. record old_view { made = (is-shown k).made; making = (is-shown k).making; refused = (is-shown k).refused + 1 }))))
      (λ kept.
      either w.used
      (λ t.
      subst Kept (sym (cond-false (is_refused w f.most) refuses other_now kept ∙ cond-true w.used made_now started t))
      (enter-by (v.made + 1) v.making v.refused
      (cond-false (is_refused w f.most) (refuse old_view) other kept ∙ cond-true w.used (make old_view) (start old_view) t
      ∙ (λ k. record old_view { made = (is-shown k).made + 1; making = (is-shown k).making; refused = (is-shown k).refused }))))
      (λ unused.
      subst Kept (sym (cond-false (is_refused w f.most) refuses other_now kept ∙ cond-false w.used made_now started unused))
      (enter-by v.made (v.making + 1) v.refused
      (cond-false (is_refused w f.most) (refuse old_view) other kept ∙ cond-false w.used (make old_view) (start old_view) unused
      ∙ (λ k. record old_view { made = (is-shown k).made; making = (is-shown k).making + 1; refused = (is-shown k).refused })))))

-- the step is listed, whatever it tells
enters-list : {P E : Type 0} (most i n left : ℕ) (m m' : Seated P E) → m'.0 ≡ with_step i n left (enters most (scope_read n) m.0) → ListsOne i n left m m'
enters-list {P} {E} most i n left m m' is =
    let v : View P E = m.0 in
    let w = scope_read n in
    let refuses : View P E = record v { refused = v.refused + 1 } in
    let made_now : View P E = record v { made = v.made + 1 } in
    let started : View P E = record v { making = v.making + 1 } in
    let other_now : View P E = cond w.used made_now started in
    let Same : View P E → Type 0 = λ z. (z.steps ≡ v.steps) × (z.splits ≡ v.splits) × (z.joined ≡ v.joined) × (z.hands ≡ v.hands) in
    let same : Same (enters most w v) =
    either (is_refused w most)
    (λ t. subst Same (sym (cond-true (is_refused w most) refuses other_now t)) (refl, refl, refl, refl))
    (λ kept.
    either w.used
    (λ t. subst Same (sym (cond-false (is_refused w most) refuses other_now kept ∙ cond-true w.used made_now started t)) (refl, refl, refl, refl))
    (λ unused.
    subst Same (sym (cond-false (is_refused w most) refuses other_now kept ∙ cond-false w.used made_now started unused)) (refl, refl, refl, refl))) in
    lists-one i n left m m' (enters most w v) is same.0 same.1 same.2 same.3

-- what the step owes, by the frame that the table shows
pub enters-at : {P E O : Type 0} (cargo : Ghosts P E O) (board f : Frame O) (slots id most : ℕ) (m : Seated P E) → board ≡ f →
    most ≡ board.most → board.most ≤ MOST_ASSOCIATIONS → MayEnter m.0 →
    AllowsListed cargo f slots id m 0 plus_one
    (λ n. MovesScopeAt with_one_more (enters most) 0 n (plus_one n) m)
enters-at cargo board f slots id most m same most_is few may =
    allows-listed cargo f slots id m 0 plus_one (λ n. MovesScopeAt with_one_more (enters most) 0 n (plus_one n) m)
    (λ n m' told. enters-list most 0 n (plus_one n) m m' (ap (λ z. z.0) told.me_is))
    (subst (λ z. Allows (Running cargo z) slots id m 0 plus_one (λ n. MovesScopeAt with_one_more (enters most) 0 n (plus_one n) m)) same
    (subst (λ k. Allows (Running cargo board) slots id m 0 plus_one (λ n. MovesScopeAt with_one_more (enters k) 0 n (plus_one n) m)) (sym most_is)
    (λ s r deep at small.
    let hand : Standing cargo board = record {
      state = s;
      id = id;
      view = m.0;
      running = r;
      at = at;
    } in
    let entering : ToEnter hand = record { few = few; may = may; small = small } in (
      with_step 0 (slice_index s.words 0) (plus_one (slice_index s.words 0)) (enters board.most (scope_read (slice_index s.words 0)) m.0),
      keeps,
      tt,
      enter-runs cargo board hand entering,
      record { me_is = refl; left_is = counts-more cargo board hand entering },
    ))))

-- the hand still carries each slot once
pub entered-seated : {P E : Type 0} (tree : List TreeNode) (l : Layout) (most i n left : ℕ) (m : Seated P E) → IsSeated tree l m →
    IsSeated tree l (with_step i n left (enters most (scope_read n) m.0), m.1)
entered-seated {P} {E} tree l most i n left m old =
    let v : View P E = m.0 in
    let w = scope_read n in
    let refuses : View P E = record v { refused = v.refused + 1 } in
    let made_now : View P E = record v { made = v.made + 1 } in
    let started : View P E = record v { making = v.making + 1 } in
    let other_now : View P E = cond w.used made_now started in
    let Stays : View P E → Type 0 = λ z. IsSeated tree l (with_step i n left z, m.1) in
    either (is_refused w most)
    (λ t.
    subst Stays (sym (cond-true (is_refused w most) refuses other_now t))
    (record { apart = old.apart; given = old.given; itself = old.itself }))
    (λ kept.
    either w.used
    (λ t.
    subst Stays (sym (cond-false (is_refused w most) refuses other_now kept ∙ cond-true w.used made_now started t))
    (record { apart = old.apart; given = old.given; itself = old.itself }))
    (λ unused.
    subst Stays (sym (cond-false (is_refused w most) refuses other_now kept ∙ cond-false w.used made_now started unused))
    (record { apart = old.apart; given = old.given; itself = old.itself })))
