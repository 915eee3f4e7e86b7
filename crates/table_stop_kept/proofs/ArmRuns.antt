-- The store by which a callback is registered keeps the rule.
use Rattle.std.proofs.Common.{◌≡◌, ℕ, ◌<◌, ◌≤◌, true, not, ◌&&◌, ◌||◌, List, ◌∷◌, set, refl, sym, ap, ◌∙◌, subst, arith}
use Rattle.std.specs.Prelude.{Option, Some, MatchOption, is_some, nat_le, slice_index}
use Rattle.std.proofs.lemmas.Bool.{and_from, or_left, cond-true, cond-false, eq-eqb, le-leb}
use Rattle.node_tree.specs.declared.node.TreeNode.{TreeNode}
use Rattle.life_rules.specs.declared.words.BlockWord.{BlockWord}
use Rattle.life_rules.specs.declared.words.CallbackPhase.{CallbackPhase}
use Rattle.life_rules.specs.declared.words.CallbackPhase.TheVariants.{Never, Armed}
use Rattle.life_rules.specs.declared.event.Name.{Name}
use Rattle.life_rules.specs.Words.{is_never, is_held, is_under_way}
use Rattle.life_rules.specs.Views.{View as PureView, same, mark}
use Rattle.life_rules.specs.States.{State, control_at, phase_at, nearest_of, with_view, with_callback}
use Rattle.life_rules.specs.Sound.{Sound}
use Rattle.common_lemmas.proofs.Bool.{either, one-most}
use Rattle.life_rules.proofs.Names.{same-true}
use Rattle.life_rules.proofs.Readings.{lives}
use Rattle.life_kept.proofs.Holding.{IsHeld}
use Rattle.stop_kept.proofs.Phases.{Writes, writes}
use Rattle.stop_kept.proofs.StopFrames.{related}
use Rattle.stop_kept.proofs.Arm.{sound-arm}
use Rattle.table_words.specs.declared.layout.Layout.{Layout}
use Rattle.table_words.specs.Stamps.{stamp_of}
use Rattle.table_words.specs.Controls.{callback_read, callback_code}
use Rattle.table_words.specs.Layouts.{OfCallback, index}
use Rattle.atomic_table.specs.Table.{Allows, keeps}
use Rattle.listed_words.specs.Lists.{entry}
use Rattle.table_rules.specs.declared.cargo.Cargo.{Ghosts}
use Rattle.table_rules.specs.declared.frame.Frame.{Frame}
use Rattle.table_rules.specs.declared.view.View.{View}
use Rattle.table_rules.specs.declared.view.Held.{Held}
use Rattle.table_rules.specs.Named.{count_by}
use Rattle.table_rules.specs.ShownWords.{block_of, is_present, word_of}
use Rattle.table_rules.specs.ShownViews.{shown_view, has_name}
use Rattle.table_rules.specs.Scenes.{Scene, shown, scene}
use Rattle.table_rules.specs.Notes.{is_still, IsHeldSo, IsKnown}
use Rattle.table_rules.specs.Running.{Stands, Running}
use Rattle.table_steps.specs.Claims.{with_step}
use Rattle.table_steps.specs.Seats.{Seated}
use Rattle.table_steps.specs.Lefts.{FoundCallback}
use Rattle.table_steps.specs.Slots.{IsSeated}
use Rattle.table_steps.specs.Callbacks.{CanArm, arms, FindsCallback}
use Rattle.table_kept.proofs.Standing.{Standing}
use Rattle.table_kept.proofs.Listing.{AllowsListed, allows-listed, lists-one}
use Rattle.table_kept.proofs.Among.{among}
use Rattle.table_kept.proofs.Loads.{known-listed}
use Rattle.table_kept.proofs.Counts.{counts-moved}
use Rattle.table_stop_kept.proofs.Noting.{count-at, seated-noted}
use Rattle.table_stop_kept.proofs.HeldNotes.{each-changed}
use Rattle.table_kept.proofs.ViewMoves.{views-moved}
use Rattle.table_kept.proofs.LiveNames.{place_of, place-live, name-live, open-kept}
use Rattle.table_kept.proofs.FoundNow.{found-callback}
use Rattle.table_kept.proofs.HeldNow.{Holding, shows, below, holds-now, held, phase-so, others-none}
use Rattle.table_kept.proofs.Asides.{owning, homes-aside, starts-aside, items-aside, lots-aside, held-aside, known-aside}
use Rattle.table_kept.proofs.CallbackRuns.{ToWriteCallback, callback-runs}

-- the hand noted that the callback is registered
abbrev noted : {E : Type 0} → Held E → Held E
noted e = record e { phase = Some Armed }

never-of : (o : Option CallbackPhase) (phase : CallbackPhase) → o ≡ Some Never →
    MatchOption o (Unit {0}) (λ known. is_still known phase) → phase ≡ Never
never-of o phase is so = subst (λ p. MatchOption p (Unit {0}) (λ known. is_still known phase)) is so

-- which callback is registered, and by which word
pub record ToArm {P E O : Type 0} {cargo : Ghosts P E O} {f : Frame O}
    (hand : Standing cargo f) : Type 0 where
  pub value : ℕ
  pub name : Name
  pub can : CanArm f.tree hand.view name
  pub stamped : stamp_of value ≡ name.generation
  pub reads : callback_read value ≡ Armed

module _ {P E O : Type 0} (cargo : Ghosts P E O) (f : Frame O) (hand : Standing cargo f)
    (task : ToArm hand) where
  open hand use {state as s, id, view as v, running as r, at}
  open task use {value, name as x, can, stamped, reads}

  abbrev now : State
  now = shown f s

  abbrev here : Scene P E
  here = scene f s r.past

  abbrev blocks : ℕ → BlockWord
  blocks = block_of f.layout s.words

  abbrev holding : Holding hand
  holding = record { name = x; entry = can.held; holds = can.holds }

  held-now : IsHeld now x
  held-now = held cargo f hand holding

  hand_below : id < f.hands
  hand_below = below cargo f hand holding

  abbrev u : PureView
  u = record (now.view id) { unlooked = mark x true (now.view id).unlooked }

  abbrev written : State
  written = with_view (with_callback now x.block x.node Armed) id u

  never : phase_at now x ≡ Never
  never = never-of can.held.phase (phase_at now x) can.never (phase-so cargo f hand holding)

  -- so says the word that the step finds
  pub found-never : FoundCallback x Never (word_of f.layout s.words (OfCallback x.block x.node))
  found-never = found-callback cargo f s r x held-now.live Never never

  sound-now : Sound written
  sound-now =
      let name = name-live now x held-now.live in
      subst (λ y. Sound (with_view (with_callback now x.block x.node Armed) id (record (now.view id) { unlooked = mark y true (now.view id).unlooked }))) name
      (sound-arm now id (place_of x) r.stands.sound hand_below
      (and_from _ _ (place-live now x held-now.live)
      (subst (λ y. (nat_le 1 ((now.view id).holds y) && (is_never (phase_at now y) && is_some (nearest_of now y))) ≡ true) (sym name)
      (and_from _ _ (le-leb 1 ((now.view id).holds x) (holds-now cargo f hand holding))
      (and_from _ _ (ap is_never never) can.hears)))))

  -- the callback of x is armed then, all others are as before
  wrote : Writes now written x Armed
  wrote =
      subst (λ y. Writes now written y Armed) (name-live now x held-now.live)
      (writes now (place_of x) Armed written.view (subst (λ y. is_under_way (control_at now y) ≡ true) (sym (name-live now x held-now.live)) (ap is_under_way held-now.word)))

  abbrev writing : ToWriteCallback hand
  writing = record {
    value = value;
    name = x;
    phase = Armed;
    live = held-now.live;
    stamped = stamped;
    reads = reads;
  }

  module _ (i n : ℕ) where
    abbrev mine : View P E
    mine = with_step i n value (arms x v)

    present : is_present blocks x ≡ true
    present =
        let l = lives now x held-now.live in
        and_from _ _ (ap not (open-kept (blocks x.block).state l.is_opened)) (eq-eqb _ _ l.generation)

    -- the view shows one place more that isn't looked after
    marks : (y : Name) → (has_name (x ∷ v.unlooked) y && is_present blocks y) ≡ mark x true (λ z. has_name v.unlooked z && is_present blocks z) y
    marks y =
        either (same x y)
        (λ t.
        and_from (same x y || has_name v.unlooked y) (is_present blocks y) (or_left (same x y) (has_name v.unlooked y) t)
        (subst (λ z. is_present blocks z ≡ true) (same-true x y t) present)
        ∙ sym (cond-true (same x y) true (has_name v.unlooked y && is_present blocks y) t))
        (λ ne.
        ap (λ b. (b || has_name v.unlooked y) && is_present blocks y) ne
        ∙ sym (cond-false (same x y) true (has_name v.unlooked y && is_present blocks y) ne))

    shows-mine : shown_view blocks mine ≡ u
    shows-mine =
        (λ k. record (shown_view blocks v) {
          holds = λ y. count-at (λ (e : Held E). e.name) noted (λ e. refl) x v.held y k;
          unlooked = λ y. marks y k;
        })
        ∙ ap (λ (z : PureView). record z { unlooked = mark x true z.unlooked }) (sym (shows cargo f hand holding))

    abbrev after : Scene P E
    after = record here { state = written }

    same-roles : (j : ℕ) → owning (now.view j) ≡ owning (written.view j)
    same-roles = related now id u (λ a b. owning a ≡ owning b) (λ _. refl) refl

    still : (y : Name) → (x ≡ y → ⊥) → (known : CallbackPhase) → is_still known (phase_at now y) → is_still known (phase_at written y)
    still y ne known so = subst (is_still known) (sym (wrote.there y (λ e. ne (sym e)))) so

    mine-known : IsKnown here v → IsKnown after mine
    mine-known old =
        let c = written.callback in
        let w = written.view in
        let few : count_by (λ (e : Held E). e.name) v.held x ≤ 1 =
        (let most = (among f s id v r.sized.seats at).held x in
        let fit = (r.stands.sound.owned.names x).held in
        let single = one-most (is_held (control_at now x)) in
        omega (arith, most, fit, single)) in
        known-listed after i n value (arms x v) (record {
          held = each-changed (λ (e : Held E). e.name) noted x (IsHeldSo here) (IsHeldSo after)
              (λ e is so. record {
                start = so.start;
                named = so.named;
                told = so.told;
                told_children = so.told_children;
                lot = so.lot;
                phase = subst (is_still Armed) (sym (ap (phase_at written) is ∙ wrote.here)) refl;
                idle = so.idle;
              })
              (λ e ne so. held-aside here c now.source now.scope_source now.scope w (λ t h. h) e (still e.name (λ is. ne (sym is))) so)
              v.held few old.held;
          owed = old.owed;
          reported = old.reported;
          noted = old.noted;
          unlooked = ((let g = (lives now x held-now.live).generation in omega (arith, g)), old.unlooked);
          seen_after = old.seen_after;
          seen = old.seen;
        })

    stands-armed : Stands cargo f.over.value after (set s.views id mine)
    stands-armed =
        let c = written.callback in
        let w = written.view in
        record {
          sound = sound-now;
          homes = homes-aside here c now.source now.scope_source now.scope w same-roles r.stands.homes;
          starts = starts-aside here c now.source now.scope_source now.scope w cargo f.over.value r.stands.starts;
          items = items-aside here c now.source now.scope_source now.scope w cargo (λ t. refl) r.stands.items;
          lots = lots-aside here c now.source now.scope_source now.scope w cargo r.stands.lots;
          views = views-moved here after s.views id v mine at
              (λ j z ne there old.
              known-aside here c now.source now.scope_source now.scope w (λ t h. h) z
              (λ y counts known so.
              still y (λ is. absurd
              (let none = others-none cargo f hand holding j z ne there in
              let c : 1 ≤ count_by (λ (e : Held E). e.name) z.held x = subst (λ y. 1 ≤ count_by (λ (e : Held E). e.name) z.held y) (sym is) counts in
              omega (arith, none, c))) known so) old)
              (mine-known (r.stands.views.each id v at)) refl refl r.stands.views;
          counts = counts-moved now written s.views id v mine at refl refl r.stands.counts;
        }

    pub arm-runs : i ≡ index f.layout (OfCallback x.block x.node) → n ≡ word_of f.layout s.words (OfCallback x.block x.node) → Running cargo f record {
      words = set s.words (index f.layout (OfCallback x.block x.node)) value;
      homes = s.homes;
      views = set s.views id mine;
    }
    arm-runs is was =
        callback-runs cargo f hand writing mine u shows-mine
        (subst (λ p. callback_code p < callback_code Armed) (sym never) (omega arith))
        (λ k. entry (is k) (was k) value ∷ v.steps) stands-armed

-- what the store owes
arms_allowed : {P E O : Type 0} (cargo : Ghosts P E O) (f : Frame O) (slots id value : ℕ) (x : Name) (m : Seated P E) →
    CanArm f.tree m.0 x → stamp_of value ≡ x.generation → callback_read value ≡ Armed →
    Allows (Running cargo f) slots id m (index f.layout (OfCallback x.block x.node)) (λ _. value)
    (λ n. FindsCallback x Never (arms x) (index f.layout (OfCallback x.block x.node)) n value m)
arms_allowed cargo f slots id value x m can stamped reads s r deep at small =
    let hand : Standing cargo f = record { state = s; id = id; view = m.0; running = r; at = at } in
    let arming : ToArm hand = record {
      value = value;
      name = x;
      can = can;
      stamped = stamped;
      reads = reads;
    } in
    let i = index f.layout (OfCallback x.block x.node) in (
      with_step i (slice_index s.words i) value (arms x m.0),
      keeps,
      tt,
      arm-runs cargo f hand arming i (slice_index s.words i) refl refl,
      record { found = found-never cargo f hand arming; me_is = refl },
    )

-- the same by the frame that the table shows
pub arms-at : {P E O : Type 0} (cargo : Ghosts P E O) (board f : Frame O) (slots id i value : ℕ) (x y : Name) (m : Seated P E) → board ≡ f →
    i ≡ index board.layout (OfCallback x.block x.node) → y ≡ x → CanArm board.tree m.0 x → stamp_of value ≡ x.generation → callback_read value ≡ Armed →
    AllowsListed cargo f slots id m i (λ _. value) (λ n. FindsCallback y Never (arms y) i n value m)
arms-at cargo board f slots id i value x y m same i_is y_is can stamped reads =
    allows-listed cargo f slots id m i (λ _. value) (λ n. FindsCallback y Never (arms y) i n value m)
    (λ n m' told. lists-one i n value m m' (arms y m.0) (ap (λ z. z.0) told.me_is) refl refl refl refl)
    (subst (λ z. Allows (Running cargo z) slots id m i (λ _. value) (λ n. FindsCallback y Never (arms y) i n value m)) same
    (subst (λ (z : ℕ × Name). Allows (Running cargo board) slots id m z.0 (λ _. value) (λ n. FindsCallback z.1 Never (arms z.1) z.0 n value m))
    (λ k. (sym i_is k, sym y_is k))
    (arms_allowed cargo board slots id value x m can stamped reads)))

-- the hand still carries each slot once
pub arm-seated : {P E : Type 0} (tree : List TreeNode) (l : Layout) (i n left : ℕ) (x : Name) (m : Seated P E) → IsSeated tree l m →
    IsSeated tree l (with_step i n left (arms x m.0), m.1)
arm-seated tree l i n left x m old =
    let kept = seated-noted tree l i n left x noted m (λ e. refl) old in
    record { apart = kept.apart; given = kept.given; itself = kept.itself }
