-- The load by which a scan passes a free block keeps the rule.
use Rattle.std.proofs.Common.{◌≡◌, inl, inr, ℕ, zero, suc, ◌+◌, ◌*◌, ◌<◌, Bool, true, false, ◌&&◌, ◌==◌, List, length, set, refl, sym, ap, ◌∙◌, subst, arith}
use Rattle.std.specs.Prelude.{Some, nat_lt, slice_index}
use Rattle.std.specs.Option.{option_map_or}
use Rattle.std.proofs.lemmas.Bool.{and_from, or_left, or_right, both_ways, cases_eq, cond-true, cond-false, eq-eqb, lt-ltb, false_from_ne_true}
use Rattle.node_tree.specs.declared.node.TreeNode.{TreeNode}
use Rattle.life_rules.specs.declared.words.BlockWord.{BlockWord}
use Rattle.life_rules.specs.declared.words.BlockState.{BlockState}
use Rattle.life_rules.specs.declared.words.BlockState.TheVariants.{Free, Open, Retired}
use Rattle.life_rules.specs.declared.words.CallbackPhase.TheVariants.{Never}
use Rattle.life_rules.specs.declared.event.Name.{Name}
use Rattle.life_rules.specs.declared.event.SourceRef.TheVariants.{Scope}
use Rattle.life_rules.specs.Words.{is_free, is_open, is_running}
use Rattle.life_rules.specs.Views.{View as PureView, scan_at}
use Rattle.common_lemmas.specs.Sums.{one}
use Rattle.life_rules.specs.States.{State, is_live, name_of, phase_at, with_view}
use Rattle.life_rules.specs.Scans.{is_next, is_next_in}
use Rattle.life_rules.specs.StopSteps.{some_below}
use Rattle.life_rules.specs.Sound.{Sound}
use Rattle.common_lemmas.proofs.Bool.{either}
use Rattle.life_rules.proofs.Readings.{lives, stand-at}
use Rattle.stop_kept.proofs.Skip.{sound-skip}
use Rattle.table_words.specs.declared.layout.Layout.{Layout}
use Rattle.table_words.specs.Blocks.{block_read}
use Rattle.table_words.specs.Layouts.{OfBlock, index}
use Rattle.atomic_table.specs.Table.{Allows, keeps, stepped}
use Rattle.table_rules.specs.declared.cargo.Cargo.{Ghosts}
use Rattle.table_rules.specs.declared.frame.Frame.{Frame}
use Rattle.table_rules.specs.declared.view.View.{View}
use Rattle.table_rules.specs.ShownWords.{block_of}
use Rattle.table_rules.specs.ShownViews.{shown_view}
use Rattle.table_rules.specs.Scenes.{Scene, shown, scene}
use Rattle.table_rules.specs.Notes.{IsKnown}
use Rattle.table_rules.specs.Running.{Running}
use Rattle.table_steps.specs.Views.{aimed}
use Rattle.table_steps.specs.Claims.{logged, ListsOne}
use Rattle.table_steps.specs.Seats.{Seated}
use Rattle.table_steps.specs.Slots.{Aim, IsSeated}
use Rattle.table_steps.specs.Skips.{CanSkip, skips, says_free, skips_at}
use Rattle.table_kept.proofs.Standing.{Standing}
use Rattle.table_kept.proofs.Listing.{AllowsListed, allows-listed, lists-one}
use Rattle.table_kept.proofs.BeginSeats.{seated-logged}
use Rattle.table_kept.proofs.Seats.{at_within}
use Rattle.table_kept.proofs.Loads.{known-logged, looks_keep}
use Rattle.table_kept.proofs.ViewMoves.{view-here}
use Rattle.table_stop_kept.proofs.Scan.Views.{scan-passed}
use Rattle.table_stop_kept.proofs.Scan.Orders.{next-place}
use Rattle.table_kept.proofs.Asides.{known-aside}
use Rattle.table_kept.proofs.AsideSteps.{ToStepAside, view-keeps}

free-shut : (b : BlockState) → is_free b ≡ true → is_open b ≡ false
free-shut Free e = refl
free-shut Open e = cc
free-shut Retired e = cc

pub some_below-from : (test : ℕ → Bool) (n m : ℕ) → m < n → test m ≡ true → some_below test n ≡ true
some_below-from test zero m below e = absurd (omega (arith, below))
some_below-from test (suc n) m below e =
    elim (cases_eq m n) [
      | inl at ↦ or_right (some_below test n) (test n) (ap test (sym at) ∙ e)
      | inr other ↦ or_left (some_below test n) (test n) (some_below-from test n m (omega arith) e)
    ]

-- which free block a scan passes
pub record ToSkip {P E O : Type 0} {cargo : Ghosts P E O} {f : Frame O}
    (hand : Standing cargo f) : Type 0 where
  pub block : ℕ
  pub can : CanSkip f.tree hand.view block
  pub within : block < f.layout.blocks
  pub free : says_free (slice_index hand.state.words (index f.layout (OfBlock block))) ≡ true

module _ {P E O : Type 0} (cargo : Ghosts P E O) (f : Frame O) (hand : Standing cargo f)
    (task : ToSkip hand) where
  open hand use {state as s, id, view as v, running as r, at}
  open task use {block as b, can, within as hb, free}

  abbrev now : State
  now = shown f s

  abbrev here : Scene P E
  here = scene f s r.past

  abbrev i : ℕ
  i = index f.layout (OfBlock b)

  abbrev n : ℕ
  n = slice_index s.words i

  abbrev old_view : PureView
  old_view = now.view id

  is-shown : old_view ≡ shown_view (block_of f.layout s.words) v
  is-shown = view-here (block_of f.layout s.words) s.views id v at

  hand_below : id < f.hands
  hand_below = let l = at_within s.views id v at in let m = r.sized.seats in omega (arith, l, m)

  is-block : now.block b ≡ block_read n
  is-block = cond-true (nat_lt b f.layout.blocks) (block_read n) (record { generation = 0; state = Free }) (lt-ltb b f.layout.blocks hb)

  is-free : is_free (now.block b).state ≡ true
  is-free = ap (λ (w : BlockWord). is_free w.state) is-block ∙ free

  abbrev x : Name
  x = name_of now b can.node

  -- no callback of a free block runs
  unrun : (old_view.runs x == 0) ≡ true
  unrun =
      let dead : is_live now x ≡ false =
      false_from_ne_true (is_live now x) (λ live.
      both_ways (is_open (now.block b).state) (free-shut (now.block b).state is-free) (lives now x live).is_opened) in
      let never : phase_at now x ≡ Never = cond-false (is_live now x) (now.callback b can.node) Never dead in
      let part = stand-at now (λ w. w.runs) id x hand_below in
      let all = r.stands.sound.runs.runs x in
      let none : one (is_running (phase_at now x)) ≡ 0 = ap (λ p. one (is_running p)) never in
      eq-eqb (old_view.runs x) 0 (omega (arith, part, all, none))

  scans-now : old_view.scan Scope ≡ Some can.from
  scans-now = ap (λ (w : PureView). w.scan Scope) is-shown ∙ can.scans

  next-now : is_next_in now old_view Scope x ≡ true
  next-now =
      ap (λ o. option_map_or (λ j. is_next now Scope j x) o false) scans-now
      ∙ next-place now Scope tt can.from b can.node ∙ can.next

  abbrev u : PureView
  u = record old_view { scan = scan_at Scope (Some ((b + 1) * length f.tree)) old_view.scan }

  sound-now : Sound (with_view now id u)
  sound-now =
      sound-skip now id b r.stands.sound hand_below
      (and_from _ _ (lt-ltb b f.layout.blocks hb)
      (and_from _ _ is-free
      (some_below-from (λ m. is_next_in now old_view Scope (name_of now b m) && old_view.runs (name_of now b m) == 0) (length f.tree) can.node can.within
      (and_from _ _ next-now unrun))))

  abbrev mine : View P E
  mine = logged i n (skips f.tree b v)

  shows-mine : shown_view (block_of f.layout s.words) mine ≡ u
  shows-mine =
      (λ k. record (shown_view (block_of f.layout s.words) v) {
        scan = λ t. scan-passed Scope ((b + 1) * length f.tree) v.scans can.from can.scans t k;
      })
      ∙ ap (λ (z : PureView). record z { scan = scan_at Scope (Some ((b + 1) * length f.tree)) z.scan }) (sym is-shown)

  known-still : (z : View P E) → IsKnown here z → IsKnown (record here { state = with_view now id u }) z
  known-still z old =
      known-aside here now.callback now.source now.scope_source now.scope (with_view now id u).view (λ t h. h) z (λ y counts known so. so) old

  abbrev aside : ToStepAside hand
  aside = record {
    mine = mine;
    pure = u;
    shows = shows-mine;
    roles = refl;
    number = refl;
    splits = refl;
    tallied = refl;
  }

  pub skip-runs : Running cargo f record { words = set s.words i n; homes = s.homes; views = set s.views id mine }
  skip-runs =
      view-keeps cargo f hand aside i
      refl sound-now (λ j z ne there old. known-still z old)
      (let k = known-still v (r.stands.views.each id v at) in
      known-logged (record here { state = with_view now id u }) i n (skips f.tree b v) (record {
        held = k.held;
        owed = k.owed;
        reported = k.reported;
        noted = k.noted;
        unlooked = k.unlooked;
        seen_after = k.seen_after;
        seen = k.seen;
      }))

-- what the load owes
skips_allowed : {P E O : Type 0} (cargo : Ghosts P E O) (f : Frame O) (slots id b : ℕ) (m : Seated P E) → CanSkip f.tree m.0 b → b < f.layout.blocks →
    Allows (Running cargo f) slots id m (index f.layout (OfBlock b)) (λ n. n)
    (λ n m'. m' ≡ skips_at f.tree b (index f.layout (OfBlock b)) n m)
skips_allowed {P} {E} cargo f slots id b m can hb s r deep at small =
    let hand : Standing cargo f = record { state = s; id = id; view = m.0; running = r; at = at } in
    let i = index f.layout (OfBlock b) in
    let n = slice_index s.words i in
    let to : View P E → View P E = λ z. logged i n z in (
      (skips_at f.tree b i n m).0,
      keeps,
      tt,
      either (says_free n)
          (λ free.
          let skipping : ToSkip hand = record { block = b; can = can; within = hb; free = free } in
          subst (λ (z : View P E). Running cargo f (stepped s i n id m.1 (to z) keeps)) (sym (cond-true (says_free n) (skips f.tree b m.0) m.0 free))
          (skip-runs cargo f hand skipping))
          (λ shut.
          subst (λ (z : View P E). Running cargo f (stepped s i n id m.1 (to z) keeps)) (sym (cond-false (says_free n) (skips f.tree b m.0) m.0 shut))
          (looks_keep cargo f s id i m.0 r at)),
      refl,
    )

-- the load is listed, whatever it tells
skip-lists : {P E : Type 0} (t : List TreeNode) (b i n : ℕ) (m : Seated P E) → ListsOne i n n m (skips_at t b i n m)
skip-lists {P} {E} t b i n m =
    let past : View P E = skips t b m.0 in
    either (says_free n)
    (λ free. lists-one i n n m _ past (ap (logged i n) (cond-true (says_free n) past m.0 free)) refl refl refl refl)
    (λ shut. lists-one i n n m _ m.0 (ap (logged i n) (cond-false (says_free n) past m.0 shut)) refl refl refl refl)

-- the same by the frame that the table shows
pub skips-at : {P E O : Type 0} (cargo : Ghosts P E O) (board f : Frame O) (slots id i : ℕ) (x : Name) (aim : Aim) (m : Seated P E) → board ≡ f →
    i ≡ index board.layout (OfBlock x.block) → aim ≡ aimed board x → CanSkip board.tree m.0 x.block → x.block < board.layout.blocks →
    AllowsListed cargo f slots id m i (λ n. n) (λ n m'. m' ≡ skips_at aim.tree aim.name.block i n m)
skips-at cargo board f slots id i x aim m same i_is aim_is can hb =
    allows-listed cargo f slots id m i (λ n. n) (λ n m'. m' ≡ skips_at aim.tree aim.name.block i n m)
    (λ n m' told. subst (ListsOne i n n m) (sym told) (skip-lists aim.tree aim.name.block i n m))
    (subst (λ z. Allows (Running cargo z) slots id m i (λ n. n) (λ n m'. m' ≡ skips_at aim.tree aim.name.block i n m)) same
    (subst (λ (z : ℕ × Aim). Allows (Running cargo board) slots id m z.0 (λ n. n) (λ n m'. m' ≡ skips_at z.1.tree z.1.name.block z.0 n m))
    (λ k. (sym i_is k, sym aim_is k))
    (skips_allowed cargo board slots id x.block m can hb)))

-- the hand still carries each slot once
pub skip-seated : {P E : Type 0} (tree : List TreeNode) (l : Layout) (i n : ℕ) (t : List TreeNode) (b : ℕ) (m : Seated P E) → IsSeated tree l m →
    IsSeated tree l (skips_at t b i n m)
skip-seated {P} {E} tree l i n t b m old =
    either (says_free n)
    (λ free.
    subst (λ (z : View P E). IsSeated tree l (logged i n z, m.1)) (sym (cond-true (says_free n) (skips t b m.0) m.0 free))
    (record { apart = old.apart; given = old.given; itself = old.itself }))
    (λ shut.
    subst (λ (z : View P E). IsSeated tree l (logged i n z, m.1)) (sym (cond-false (says_free n) (skips t b m.0) m.0 shut))
    (seated-logged tree l i n m old))
