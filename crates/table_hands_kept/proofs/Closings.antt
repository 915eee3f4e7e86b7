-- What the words of a closed table tell, block by block.
use Rattle.std.proofs.Common.{◌≡◌, ◌⊎◌, inl, inr, ℕ, zero, suc, ◌+◌, ◌<◌, ◌≤◌, ◌==◌, Bool, true, false, not, ◌&&◌, cond, List, [], ◌∷◌, ◌++◌, length, refl, sym, ap, ◌∙◌, subst, ⊎_elim, arith}
use Rattle.std.specs.Prelude.{Option, slice_index, nat_lt}
use Rattle.std.proofs.lemmas.Bool.{cond-true, lt-ltb}
use Rattle.std.proofs.lemmas.List.{append-nil}
use mathlib.Core.Option.{some, some-injective, some-ne-none}
use lib.ListN.{get_elem?}
use Rattle.life_rules.specs.declared.words.BlockWord.{BlockWord}
use Rattle.life_rules.specs.declared.words.BlockState.{BlockState}
use Rattle.life_rules.specs.declared.words.BlockState.TheVariants.{Free, Open as IsOpen, Retired}
use Rattle.life_rules.specs.Words.{is_free, is_open}
use Rattle.common_lemmas.specs.Sums.{one}
use Rattle.life_rules.specs.declared.scope.ScopeWord.{ScopeWord}
use Rattle.life_rules.specs.declared.scope.ScopeState.TheVariants.{Unused, Open, OpenAndJoining, Closed, ClosedAndJoining, UnusedAndClosed, Joined}
use Rattle.life_rules.specs.Scopes.{scope_state}
use Rattle.common_lemmas.proofs.Bool.{one-most}
use Rattle.table_words.specs.ScopeNumbers.{scope_read}
use Rattle.table_words.specs.declared.layout.Layout.{Layout}
use Rattle.table_words.specs.Blocks.{block_read}
use Rattle.table_words.specs.Layouts.{TheScope, OfBlock, index}
use Rattle.atomic_table.specs.declared.shared.Seat.{Seat}
use Rattle.atomic_table.specs.Table as table
use Rattle.table_rules.specs.declared.cargo.Cargo.{Ghosts}
use Rattle.table_rules.specs.declared.frame.Frame.{Frame}
use Rattle.table_rules.specs.declared.view.View.{View}
use Rattle.table_rules.specs.Counts.{over_all}
use Rattle.table_rules.specs.Named.{AnyOf, Each}
use Rattle.table_rules.specs.Grown.{HasRisen}
use Rattle.table_rules.specs.Traces.{LeavesThere, all_steps, SomeCarries, IsMadeBySome, Traced}
use Rattle.table_rules.specs.ShownWords.{is_retired, block_of, word_of}
use Rattle.table_steps.specs.declared.remains.Remains.{Remains}
use Rattle.table_steps.specs.Views.{Board, knows}
use Rattle.table_steps.specs.Closings.{AreAllBack, IsCountedBy, IsGathering, blocks_before, TellsOf, IsClosing, steps_of, LeavesScope, may_end, IsScopeLeft}
use Rattle.table_kept.proofs.Entries.{each-map}
use Rattle.table_kept.proofs.AnyOf.{any-map, any-each, each-any, each-append}
use Rattle.table_hands_kept.proofs.Gathering.{alone, only}

-- the item of a list that is found at an index
pub found-at : (l : List ℕ) (i n : ℕ) → get_elem? l i ≡ some n → slice_index l i ≡ n
found-at [] i n e = absurd (some-ne-none n (sym e))
found-at (x ∷ xs) zero n e = some-injective x n e
found-at (x ∷ xs) (suc i) n e = found-at xs i n e

module _ (l : Layout) (words : List ℕ) where
  block-found : (b n : ℕ) → b < l.blocks → get_elem? words (index l (OfBlock b)) ≡ some n →
      block_of l words b ≡ block_read n
  block-found b n below at =
      let first : BlockWord = record { generation = 0; state = Free } in
      cond-true (nat_lt b l.blocks) (block_read (word_of l words (OfBlock b))) first (lt-ltb b l.blocks below)
      ∙ ap block_read (found-at words (index l (OfBlock b)) n at)

  -- no more blocks pass a test than there are
  pub before-most : (test : BlockState → Bool) (count : ℕ) → blocks_before count test l words ≤ count
  before-most test zero = omega arith
  before-most test (suc count) =
      let before = before-most test count in
      let last = one-most (test (block_of l words count).state) in
      omega (arith, before, last)

  -- of no block
  pub tells-none : (n : ℕ) (c : Remains) → get_elem? words (index l TheScope) ≡ some n →
      c.scope ≡ scope_state (scope_read n) → c.free ≡ 0 → c.retired ≡ 0 → TellsOf l words 0 c
  tells-none n c at scope free retired =
      record {
        scope_is = scope ∙ ap (λ w. scope_state (scope_read w)) (sym (found-at words (index l TheScope) n at));
        free_is = free;
        retired_is = retired;
      }

  -- so many of one block more
  pub before-next : (test : BlockState → Bool) (b : ℕ) →
      blocks_before (b + 1) test l words ≡ blocks_before b test l words + one (test (block_of l words b).state)
  before-next test b =
      let next : b + 1 ≡ suc b = omega arith in
      ap (λ k. blocks_before k test l words) next

  -- one block more
  pub tells-next : (b n : ℕ) (c d : Remains) → b < l.blocks → get_elem? words (index l (OfBlock b)) ≡ some n →
      d.scope ≡ c.scope → d.free ≡ c.free + one (is_free (block_read n).state) →
      d.retired ≡ c.retired + one (is_retired (block_read n).state) → TellsOf l words b c → TellsOf l words (b + 1) d
  tells-next b n c d below at scope free retired old =
      let is = block-found b n below at in
      let of : (test : BlockState → Bool) (k m : ℕ) → k ≡ m + one (test (block_read n).state) → m ≡ blocks_before b test l words →
      k ≡ blocks_before (b + 1) test l words =
      λ test k m more before.
      more
      ∙ (λ i. before i + one (test (sym is i).state))
      ∙ sym (before-next test b) in
      record {
        scope_is = scope ∙ old.scope_is;
        free_is = of is_free d.free c.free free old.free_is;
        retired_is = of is_retired d.retired c.retired retired old.retired_is;
      }

one-of : (state : BlockState) → one (is_free state) + one (is_retired state) ≤ 1
one-of Free = omega arith
one-of IsOpen = omega arith
one-of Retired = omega arith

-- a block is free, or retired, or neither
both-most : (l : Layout) (words : List ℕ) (count : ℕ) →
    blocks_before count is_free l words + blocks_before count is_retired l words ≤ count
both-most l words zero = omega arith
both-most l words (suc count) =
    let before = both-most l words count in
    let last = one-of (block_of l words count).state in
    omega (arith, before, last)

-- so what is told isn't more than there are
pub told-within : (l m : Layout) (words : List ℕ) (c : Remains) → l ≡ m → TellsOf l words l.blocks c →
    c.free + c.retired ≤ m.blocks
told-within l m words c same tells =
    let most = both-most l words l.blocks in
    let free = tells.free_is in
    let retired = tells.retired_is in
    let blocks : l.blocks ≡ m.blocks = ap (λ z. z.blocks) same in
    omega (arith, most, free, retired, blocks)

-- a block is free, open or retired
one-way : (state : BlockState) → one (is_free state) + one (is_retired state) + one (is_open state) ≡ 1
one-way Free = refl
one-way IsOpen = refl
one-way Retired = refl

all-ways : (l : Layout) (words : List ℕ) (count : ℕ) →
    blocks_before count is_free l words + blocks_before count is_retired l words + blocks_before count is_open l words ≡ count
all-ways l words zero = refl
all-ways l words (suc count) =
    let before = all-ways l words count in
    let last = one-way (block_of l words count).state in
    omega (arith, before, last)

-- a scope is joined where its bit says so
joined-state : (w : ScopeWord) → w.joined ≡ true → scope_state w ≡ Joined
joined-state w j = cond-true w.joined Joined _ j

is-joined : (w : ScopeWord) → scope_state w ≡ Joined → w.joined ≡ true
is-joined w e = by w.joined w.joining w.closed (not w.used && w.count == 0) e
  where
    by : (joined joining closed unused : Bool) →
        cond joined Joined (cond joining (cond closed ClosedAndJoining OpenAndJoining) (cond unused (cond closed UnusedAndClosed Unused) (cond closed Closed Open))) ≡ Joined →
        joined ≡ true
    by true j c u e = refl
    by false true true u e = cc
    by false true false u e = cc
    by false false true true e = cc
    by false false true false e = cc
    by false false false true e = cc
    by false false false false e = cc

-- the words of the closed table are those of its last state, in which a view stands for all hands
pub record IsLast {P E O : Type 0} (cargo : Ghosts P E O) (f : Frame O) (id : ℕ) (v : View P E) (c : Remains) : Type 0 where
  pub last : table.State (Option P) (View P E)
  pub traced : Traced cargo f last
  pub at : get_elem? last.views id ≡ some v
  pub tells : TellsOf f.layout last.words f.layout.blocks c

pub closes : {P E O : Type 0} (cargo : Ghosts P E O) (key f : Frame O) (l : Layout) (words : List ℕ) (homes : List (Option P)) (id : ℕ) (v : View P E) (c : Remains) →
    key ≡ f → l ≡ f.layout → table.Final (table.Seen (Traced cargo key) id v) words homes → TellsOf l words l.blocks c →
    IsLast cargo f id v c
closes cargo key f l words homes id v c same layout final tells =
    record {
      last = final.0;
      traced = subst (λ z. Traced cargo z final.0) same final.1.0;
      at = final.1.1;
      tells = subst (λ (z : Layout × List ℕ). TellsOf z.0 z.1 z.0.blocks c) (λ k. (layout k, sym final.2 k)) tells;
    }

-- that view stands for all hands there are
pub stands-for-all : {P E O : Type 0} (cargo : Ghosts P E O) (board : Board O) (all : List (Seat (Option P) (View P E))) (hand : Seat (Option P) (View P E)) →
    AreAllBack board all → IsGathering board all [] hand → (knows hand).hands ≡ board.frame.hands
stands-for-all cargo board all hand back gathers =
    let long = back.length_is in
    let hands = gathers.hands in
    omega (arith, long, hands)

module _ {P E O : Type 0} (cargo : Ghosts P E O) (f : Frame O) (id : ℕ) (v : View P E) (c : Remains) (is : IsLast cargo f id v c) (whole : v.hands ≡ f.hands) where
  abbrev s : table.State (Option P) (View P E)
  s = is.last

  few : over_all (λ z. z.hands) s.views ≤ v.hands
  few =
      let many = is.traced.runs.stands.counts.hands in
      let seats = is.traced.runs.sized.seats in
      omega (arith, many, seats, whole)

  -- each word is 0, or the view has the step that left it so
  left-by : (i : ℕ) → i < length s.words →
      (slice_index s.words i ≡ 0) ⊎ AnyOf (LeavesThere i (slice_index s.words i)) (all_steps v)
  left-by i below =
      ⊎_elim (λ (z : slice_index s.words i ≡ 0). inl z)
      (λ (h : SomeCarries s.views (LeavesThere i (slice_index s.words i))).
      let mine : h.view ≡ v = only v s.views id h.hand h.view is.at h.at few h.itself in
      inr (subst (λ z. AnyOf (LeavesThere i (slice_index s.words i)) (all_steps z)) mine h.has))
      (is.traced.words i below)

  -- the steps of those joined to it are no later either
  risen-all : Each (HasRisen f.layout s.words) (all_steps v)
  risen-all =
      each-append (HasRisen f.layout s.words) v.steps v.joined (is.traced.runs.stamped.rises id v is.at)
      (each-map (IsMadeBySome s.views) (HasRisen f.layout s.words)
      (λ e made. each-any (HasRisen f.layout s.words) made.view.steps e (is.traced.runs.stamped.rises made.hand made.view made.at) made.has)
      v.joined (is.traced.joined id v is.at))

  pub closing-of : (all : List (Seat (Option P) (View P E))) → all_steps v ++ [] ≡ steps_of all → IsClosing cargo f all c
  closing-of all same =
      let steps : all_steps v ≡ steps_of all = sym (append-nil (all_steps v)) ∙ same in
      record {
        last = s;
        runs = is.traced.runs;
        left = λ i below.
            subst (λ l. (slice_index s.words i ≡ 0) ⊎ AnyOf (LeavesThere i (slice_index s.words i)) l) steps (left-by i below);
        risen = subst (Each (HasRisen f.layout s.words)) steps risen-all;
        tells = is.tells;
      }

-- what the scope's word is in the end, the hands' steps tell
module _ {P E O : Type 0} (cargo : Ghosts P E O) (f : Frame O) (all : List (Seat (Option P) (View P E))) (c : Remains) (is : IsClosing cargo f all c) where
  abbrev words : List ℕ
  words = is.last.words

  some-words : 0 < length words
  some-words = let wide = is.runs.sized.words in omega (arith, wide)

  as-left : (c.scope ≡ Unused) ⊎ AnyOf (LeavesScope c.scope) (steps_of all)
  as-left =
      ⊎_elim
      (λ (z : slice_index words 0 ≡ 0). inl (is.tells.scope_is ∙ ap (λ w. scope_state (scope_read w)) z))
      (λ (h : AnyOf (LeavesThere 0 (slice_index words 0)) (steps_of all)).
      inr (any-map (LeavesThere 0 (slice_index words 0)) (LeavesScope c.scope)
      (λ e left.
      record {
        index_is = left.index_is;
        state_is = ap (λ w. scope_state (scope_read w)) left.left_is ∙ sym is.tells.scope_is;
      }) (steps_of all) h))
      (is.left 0 some-words)

  stays-joined : AnyOf (LeavesScope Joined) (steps_of all) → c.scope ≡ Joined
  stays-joined h =
      let e = any-each (LeavesScope Joined) (HasRisen f.layout words) (steps_of all) is.risen h in
      let old = is-joined (scope_read e.0.left) e.1.state_is in
      let now = (e.2 TheScope tt e.1.index_is).1.joined old in
      is.tells.scope_is ∙ joined-state (scope_read (slice_index words 0)) now

  pub scope-left : IsScopeLeft (steps_of all) c.scope
  scope-left =
      record {
        left = as-left;
        joined = stays-joined;
        settled = λ settled.
            ⊎_elim
            (λ (h : AnyOf (LeavesScope Joined) (steps_of all)). ap may_end (stays-joined h))
            (λ (each : Each (λ e. e.index ≡ 0 → may_end (scope_state (scope_read e.left)) ≡ true) (steps_of all)).
            ⊎_elim (λ (z : c.scope ≡ Unused). ap may_end z)
            (λ (h : AnyOf (LeavesScope c.scope) (steps_of all)).
            let e = any-each (LeavesScope c.scope) (λ e. e.index ≡ 0 → may_end (scope_state (scope_read e.left)) ≡ true) (steps_of all) each h in
            ap may_end (sym e.1.state_is) ∙ e.2 e.1.index_is) as-left)
            settled;
      }

-- as many blocks are open as were claimed and not given back
pub counted-told : {P E O : Type 0} (cargo : Ghosts P E O) (f : Frame O) (id : ℕ) (v : View P E) (c : Remains) →
    IsLast cargo f id v c → v.hands ≡ f.hands → c.free + c.retired + v.claimed ≡ f.layout.blocks + v.released
counted-told cargo f id v c last whole =
    let s = last.last in
    let r = last.traced.runs in
    let counts = r.stands.counts in
    let many = counts.hands in
    let seats = r.sized.seats in
    let few : over_all (λ z. z.hands) s.views ≤ v.hands = omega (arith, many, seats, whole) in
    let claimed = alone v (λ z. z.claimed) (λ z itself none. (itself none).0) s.views id last.at few counts.spent in
    let released = alone v (λ z. z.released) (λ z itself none. (itself none).1) s.views id last.at few counts.spent in
    let opened : blocks_before f.layout.blocks is_open f.layout s.words + over_all (λ z. z.released) s.views
    ≡ over_all (λ z. z.claimed) s.views = counts.opened in
    let ways = all-ways f.layout s.words f.layout.blocks in
    let free = last.tells.free_is in
    let retired = last.tells.retired_is in
    omega (arith, claimed, released, opened, ways, free, retired)

-- the same by what all hands counted
pub counted-by : {P E O : Type 0} (cargo : Ghosts P E O) (board : Board O) (all : List (Seat (Option P) (View P E))) (hand : Seat (Option P) (View P E)) (c : Remains) →
    IsLast cargo board.frame hand.id (knows hand) c → AreAllBack board all → IsGathering board all [] hand →
    IsCountedBy board all c
counted-by cargo board all hand c last back gathers =
    let long = back.length_is in
    let hands = gathers.hands in
    let claimed = gathers.claimed in
    let released = gathers.released in
    let told = counted-told cargo board.frame hand.id (knows hand) c last (omega (arith, long, hands)) in
    omega (arith, told, claimed, released)
