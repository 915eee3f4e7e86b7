-- What the loads of a held node's callback, and of its children's control words, owe and tell.
use Rattle.std.proofs.Common.{◌≡◌, ℕ, Bool, true, false, not, ◌&&◌, ◌==◌, cond, List, ◌∷◌, set, Option, Some, refl, sym, ap, ◌∙◌, subst}
use Rattle.std.specs.Prelude.{slice_index}
use Rattle.std.specs.Option.{option_map_or}
use Rattle.std.proofs.lemmas.Bool.{both_ways, cond-true, cond-false}
use Rattle.life_rules.specs.declared.words.ControlWord.TheVariants.{Idle}
use Rattle.life_rules.specs.declared.words.CallbackPhase.{CallbackPhase}
use Rattle.life_rules.specs.declared.words.CallbackPhase.TheVariants.{Never, Armed, Running as Runs, Ran, Removed}
use Rattle.node_tree.specs.declared.node.TreeNode.{TreeNode}
use Rattle.life_rules.specs.declared.event.Name.{Name}
use Rattle.node_tree.specs.Tree.{is_child}
use Rattle.life_rules.specs.Words.{is_idle}
use Rattle.life_rules.specs.Views.{beside}
use Rattle.life_rules.specs.States.{State, is_live, control_at, phase_at}
use Rattle.common_lemmas.proofs.Bool.{either}
use Rattle.life_rules.proofs.Readings.{lives, is_live-from}
use Rattle.life_kept.proofs.Trees.{parent-child, child-within}
use Rattle.table_words.specs.declared.layout.Layout.{Layout}
use Rattle.table_words.specs.Stamps.{stamp_of}
use Rattle.table_words.specs.Controls.{control_read}
use Rattle.table_words.specs.Layouts.{OfControl, OfCallback, index}
use Rattle.atomic_table.specs.Table.{Allows, keeps}
use Rattle.atomic_table.specs.Table as table
use Rattle.table_rules.specs.declared.cargo.Cargo.{Ghosts}
use Rattle.table_rules.specs.declared.frame.Frame.{Frame}
use Rattle.table_rules.specs.declared.view.View.{View}
use Rattle.table_rules.specs.declared.view.Held.{Held}
use Rattle.table_rules.specs.ShownWords.{word_of}
use Rattle.table_rules.specs.Scenes.{shown}
use Rattle.table_rules.specs.Notes.{is_still}
use Rattle.table_rules.specs.Running.{Running}
use Rattle.table_steps.specs.Claims.{logged, ListsOne}
use Rattle.table_steps.specs.Seats.{Seated}
use Rattle.table_steps.specs.Slots.{IsSeated}
use Rattle.table_steps.specs.Readings.{notes_phase, above_it, says_at, says_begun, says_phase, notes_idle, reads_child, reads_phase, KnowsIdle, ChildReads, HoldsAbove, Holds}
use Rattle.table_kept.proofs.Standing.{Standing}
use Rattle.table_kept.proofs.Listing.{AllowsListed, allows-listed, lists-one}
use Rattle.table_kept.proofs.FoundNow.{phase-said, control-said}
use Rattle.table_kept.proofs.Loads.{looks_keep}
use Rattle.table_kept.proofs.BeginSeats.{seated-logged}
use Rattle.table_kept.proofs.HeldNow.{Holding, held, idle-known}
use Rattle.table_stop_kept.proofs.Noting.{noting-keeps, seated-noted}

pub still-refl : (p : CallbackPhase) → is_still p p
still-refl Never = refl
still-refl Armed = refl
still-refl Runs = refl
still-refl Ran = refl
still-refl Removed = refl

idle-either : (said : Bool) (read : Bool) → (said && not read) ≡ false → said ≡ true → read ≡ true
idle-either true true h t = refl
idle-either true false h t = absurd (both_ways true h refl)
idle-either false read h t = cc

-- the name of a parent that is given
pub above-is : {P E : Type 0} (f : List TreeNode) (v : View P E) (child : Name) (h : HoldsAbove f v child) →
    above_it f child ≡ beside child h.parent
above-is f v child h = ap (λ o. option_map_or (λ p. beside child p) o child) h.parent_is

module _ {P E O : Type 0} (cargo : Ghosts P E O) (f : Frame O) (s : table.State (Option P) (View P E)) (r : Running cargo f s) (x : Name) where
  abbrev now : State
  now = shown f s

  -- what the word of a child of a live node says
  child-said : (n : ℕ) → is_live now x ≡ true → is_child f.tree x.node n ≡ true →
      control_at now (beside x n) ≡ says_at Idle control_read x.generation (word_of f.layout s.words (OfControl x.block n))
  child-said n live child =
      let l = lives now x live in
      let y = beside x n in
      control-said cargo f s r y (is_live-from now y (record {
        block = l.block;
        node = child-within f.tree x.node n child;
        is_opened = l.is_opened;
        generation = l.generation;
      }))

  -- a child that is idle isn't said to have begun
  pub idle-unsaid : (n : ℕ) → is_live now x ≡ true → is_child f.tree x.node n ≡ true → is_idle (control_at now (beside x n)) ≡ true →
      says_begun x.generation (word_of f.layout s.words (OfControl x.block n)) ≡ false
  idle-unsaid n live child idle =
      let w = word_of f.layout s.words (OfControl x.block n) in
      either (stamp_of w == x.generation)
      (λ t.
      let read : is_idle (control_read w) ≡ true =
      ap (λ b. is_idle (cond b (control_read w) Idle)) (sym t) ∙ ap is_idle (sym (child-said n live child)) ∙ idle in
      ap (λ b. b && not (is_idle (control_read w))) t ∙ ap not read)
      (λ no. ap (λ b. b && not (is_idle (control_read w))) no)

  -- a child that isn't said to have begun is idle
  pub idle-said : (n : ℕ) → is_live now x ≡ true → is_child f.tree x.node n ≡ true →
      says_begun x.generation (word_of f.layout s.words (OfControl x.block n)) ≡ false → is_idle (control_at now (beside x n)) ≡ true
  idle-said n live child unsaid =
      let w = word_of f.layout s.words (OfControl x.block n) in
      ap is_idle (child-said n live child)
      ∙ either (stamp_of w == x.generation)
      (λ t. ap (λ b. is_idle (cond b (control_read w) Idle)) t ∙ idle-either (stamp_of w == x.generation) (is_idle (control_read w)) unsaid t)
      (λ no. ap (λ b. is_idle (cond b (control_read w) Idle)) no)

-- what the load of the callback's word owes
pub phase_allowed : {P E O : Type 0} (cargo : Ghosts P E O) (f : Frame O) (slots id : ℕ) (x : Name) (m : Seated P E) → Holds m.0 x →
    Allows (Running cargo f) slots id m (index f.layout (OfCallback x.block x.node)) (λ n. n)
    (λ n m'. m' ≡ reads_phase x (index f.layout (OfCallback x.block x.node)) n m)
phase_allowed cargo f slots id x m h s r deep at small =
    let hand : Standing cargo f = record { state = s; id = id; view = m.0; running = r; at = at } in
    let holding : Holding hand = record { name = x; entry = h.held; holds = h.holds } in
    let i = index f.layout (OfCallback x.block x.node) in
    let n = slice_index s.words i in
    let live = (held cargo f hand holding).live in
    let phase = says_phase x.generation n in (
      (reads_phase x i n m).0,
      keeps,
      tt,
      noting-keeps cargo f (record {
        state = s;
        id = id;
        cell = i;
        name = x;
        view = m.0;
        change = (λ e. record e { phase = Some phase });
        same_name = (λ e. refl);
      }) r at
          (λ e name so. record {
            start = so.start;
            named = so.named;
            told = so.told;
            told_children = so.told_children;
            lot = so.lot;
            phase = subst (λ z. is_still phase (phase_at (shown f s) z)) (sym name)
                (subst (is_still phase) (sym (phase-said cargo f s r x live)) (still-refl phase));
            idle = so.idle;
          }),
      refl,
    )

-- what the load of a child's control word owes
pub child_allowed : {P E O : Type 0} (cargo : Ghosts P E O) (f : Frame O) (slots id : ℕ) (x : Name) (n : ℕ) (m : Seated P E) → Holds m.0 x →
    is_child f.tree x.node n ≡ true →
    Allows (Running cargo f) slots id m (index f.layout (OfControl x.block n)) (λ w. w)
    (λ w m'. ChildReads x (beside x n) (index f.layout (OfControl x.block n)) w m m')
child_allowed {P} {E} cargo f slots id x n m h child s r deep at small =
    let hand : Standing cargo f = record { state = s; id = id; view = m.0; running = r; at = at } in
    let holding : Holding hand = record { name = x; entry = h.held; holds = h.holds } in
    let i = index f.layout (OfControl x.block n) in
    let w = slice_index s.words i in
    let live = (held cargo f hand holding).live in
    let idle-again : KnowsIdle x n m → says_begun x.generation w ≡ false =
    λ known.
    let noted : Holding hand = record { name = x; entry = known.held; holds = known.holds } in
    idle-unsaid cargo f s r x n live child (idle-known cargo f hand noted n child known.idle) in
    let told : View P E → View P E = λ z. logged i w z in (
      (reads_child x (beside x n) i w m).0,
      keeps,
      tt,
      either (says_begun x.generation w)
          (λ begun.
          subst (λ z. Running cargo f record { words = set s.words i w; homes = s.homes; views = set s.views id (told z) })
          (sym (cond-true (says_begun x.generation w) m.0 (notes_idle x n m.0) begun)) (looks_keep cargo f s id i m.0 r at))
          (λ idle.
          subst (λ z. Running cargo f record { words = set s.words i w; homes = s.homes; views = set s.views id (told z) })
          (sym (cond-false (says_begun x.generation w) m.0 (notes_idle x n m.0) idle))
          (noting-keeps cargo f (record {
            state = s;
            id = id;
            cell = i;
            name = x;
            view = m.0;
            change = (λ (e : Held E). record e { idle = n ∷ e.idle });
            same_name = (λ e. refl);
          }) r at
          (λ e name so. record {
            start = so.start;
            named = so.named;
            told = so.told;
            told_children = so.told_children;
            lot = so.lot;
            phase = so.phase;
            idle = (
              subst (λ z. (is_child f.tree z.node n ≡ true) × (is_idle (control_at (shown f s) (beside z n)) ≡ true)) (sym name)
                  (child, idle-said cargo f s r x n live child idle),
              so.idle,
            );
          }))),
      (refl, idle-again),
    )

-- the load is listed, whatever it tells
child-lists : {P E : Type 0} (x child : Name) (i n : ℕ) (m : Seated P E) → ListsOne i n n m (reads_child x child i n m)
child-lists {P} {E} x child i n m =
    let idle : View P E = notes_idle x child.node m.0 in
    either (says_begun child.generation n)
    (λ begun. lists-one i n n m _ m.0 (ap (logged i n) (cond-true (says_begun child.generation n) m.0 idle begun)) refl refl refl refl)
    (λ none. lists-one i n n m _ idle (ap (logged i n) (cond-false (says_begun child.generation n) m.0 idle none)) refl refl refl refl)

module _ {P E O : Type 0} (cargo : Ghosts P E O) where
  -- the loads, by the frame that the table shows
  pub phase-at : (board f : Frame O) (slots id i : ℕ) (x y : Name) (m : Seated P E) → board ≡ f →
      i ≡ index board.layout (OfCallback x.block x.node) → y ≡ x → Holds m.0 x →
      AllowsListed cargo f slots id m i (λ n. n) (λ n m'. m' ≡ reads_phase y i n m)
  phase-at board f slots id i x y m same i_is name holds =
      allows-listed cargo f slots id m i (λ n. n) (λ n m'. m' ≡ reads_phase y i n m)
      (λ n m' told. lists-one i n n m m' (notes_phase y (says_phase y.generation n) m.0) (ap (λ z. z.0) told) refl refl refl refl)
      (subst (λ z. Allows (Running cargo z) slots id m i (λ n. n) (λ n m'. m' ≡ reads_phase y i n m)) same
      (subst (λ (z : ℕ × Name). Allows (Running cargo board) slots id m z.0 (λ n. n) (λ n m'. m' ≡ reads_phase z.1 z.0 n m))
      (λ k. (sym i_is k, sym name k))
      (phase_allowed cargo board slots id x m holds)))

  pub child-at : (board f : Frame O) (slots id i : ℕ) (child x c : Name) (m : Seated P E) → board ≡ f →
      i ≡ index board.layout (OfControl child.block child.node) → x ≡ above_it board.tree child → c ≡ child → HoldsAbove board.tree m.0 child →
      AllowsListed cargo f slots id m i (λ n. n) (λ n m'. ChildReads x c i n m m')
  child-at board f slots id i child x c m same i_is name child_is holds =
      allows-listed cargo f slots id m i (λ n. n) (λ n m'. ChildReads x c i n m m')
      (λ n m' told. subst (ListsOne i n n m) (sym told.0) (child-lists x c i n m))
      (subst (λ z. Allows (Running cargo z) slots id m i (λ n. n) (λ n m'. ChildReads x c i n m m')) same
      (subst (λ (z : ℕ × (Name × Name)). Allows (Running cargo board) slots id m z.0 (λ n. n) (λ n m'. ChildReads z.1.0 z.1.1 z.0 n m m'))
      (λ k. (sym i_is k, (sym (name ∙ above-is board.tree m.0 child holds) k, sym child_is k)))
      (child_allowed cargo board slots id (beside child holds.parent) child.node m (record { held = holds.held; holds = holds.holds })
      (parent-child board.tree holds.parent child.node holds.parent_is))))

-- the hand still carries each slot once
pub phase-seated : {P E : Type 0} (tree : List TreeNode) (l : Layout) (x : Name) (i n : ℕ) (m : Seated P E) →
    IsSeated tree l m → IsSeated tree l (reads_phase x i n m)
phase-seated tree l x i n m old =
    seated-noted tree l i n n x (λ e. record e { phase = Some (says_phase x.generation n) }) m (λ e. refl) old

pub child-seated : {P E : Type 0} (tree : List TreeNode) (l : Layout) (x child : Name) (i n : ℕ) (m : Seated P E) →
    IsSeated tree l m → IsSeated tree l (reads_child x child i n m)
child-seated {P} {E} tree l x child i n m old =
    either (says_begun child.generation n)
    (λ begun. subst (λ z. IsSeated tree l (logged i n z, m.1)) (sym (cond-true (says_begun child.generation n) m.0 (notes_idle x child.node m.0) begun))
    (seated-logged tree l i n m old))
    (λ idle. subst (λ z. IsSeated tree l (logged i n z, m.1)) (sym (cond-false (says_begun child.generation n) m.0 (notes_idle x child.node m.0) idle))
    (seated-noted tree l i n n x (λ (e : Held E). record e { idle = child.node ∷ e.idle }) m (λ e. refl) old))
