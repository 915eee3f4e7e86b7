-- What the store by which a node is finished owes, and what it tells.
use Rattle.std.specs.Prelude.{slice_index}
use Rattle.std.proofs.Common.{◌≡◌, inl, inr, ℕ, true, false, ◌||◌, ◌==◌, List, Option, refl, sym, ap, ◌∙◌, subst}
use Rattle.std.specs.List.{list_any}
use Rattle.std.proofs.lemmas.Bool.{both_ways}
use Rattle.node_tree.specs.declared.node.TreeNode.{TreeNode}
use Rattle.life_rules.specs.declared.words.ControlWord.TheVariants.{Busy, Done}
use Rattle.life_rules.specs.declared.event.Name.{Name}
use Rattle.node_tree.specs.Tree.{is_root}
use Rattle.common_lemmas.proofs.Bool.{either}
use Rattle.table_words.specs.declared.layout.Layout.{Layout}
use Rattle.table_words.specs.Stamps.{stamp_of}
use Rattle.table_words.specs.Controls.{control_read}
use Rattle.table_words.specs.Layouts.{OfControl, index}
use Rattle.atomic_table.specs.Table.{Allows}
use Rattle.table_rules.specs.declared.cargo.Cargo.{Ghosts}
use Rattle.table_rules.specs.declared.frame.Frame.{Frame}
use Rattle.table_rules.specs.declared.view.View.{View}
use Rattle.table_rules.specs.Named.{without}
use Rattle.table_rules.specs.Running.{Running}
use Rattle.table_steps.specs.Views.{aimed}
use Rattle.table_steps.specs.Claims.{with_step}
use Rattle.table_steps.specs.Seats.{Seated}
use Rattle.table_steps.specs.Lefts.{FoundControl, FindsControl, LeavesControl}
use Rattle.table_steps.specs.Slots.{Aim, slot_of, is_of_family, has_slot, IsSeated}
use Rattle.table_steps.specs.Sheds.{shed}
use Rattle.table_steps.specs.Finishes.{is_of_kids, CanFinish, owes_report, has_root, FinishesAt}
use Rattle.table_kept.proofs.Standing.{Standing}
use Rattle.table_kept.proofs.Entries.{any-without}
use Rattle.table_kept.proofs.Listing.{AllowsListed, allows-listed, lists-one}
use Rattle.table_kept.proofs.BeginSeats.{or-left, or-right, or-cases}
use Rattle.table_kept.proofs.FoundNow.{found-control}
use Rattle.table_kept.proofs.HeldNow.{Holding, held}
use Rattle.table_life_kept.proofs.Shedding.{sheds, carries-shed}
use Rattle.table_life_kept.proofs.ShedHomes.{ToShed, valid-shed}
use Rattle.table_kept.proofs.ShedSeats.{each-shed, apart-shed, seated-shed}
use Rattle.table_life_kept.proofs.Finish.Runs.{ToFinish, finish-runs}
use Rattle.table_life_kept.proofs.Finish.Ends.{ToEnd}
use Rattle.table_life_kept.proofs.Finish.Root.{ToFinishRoot, root-runs}

-- a slot that isn't a child's is still given to the hand that has the finished root
given-rooted : {P E : Type 0} (tree : List TreeNode) (l : Layout) (x : Name) (i n left : ℕ) (v : View P E) (slot : ℕ) →
    is_of_kids tree l x slot ≡ false → has_slot tree l v slot ≡ true → has_slot tree l (with_step i n left (has_root x v)) slot ≡ true
given-rooted tree l x i n left v slot stays h =
    let a = list_any (λ e. slot_of l e.name == slot) v.owed in
    let b = list_any (λ e. is_of_family tree l e.name slot) v.held in
    let b2 = list_any (λ e. is_of_family tree l e.name slot) (without (λ e. e.name) v.held x) in
    let own = slot_of l x == slot in
    let c = list_any (λ y. slot_of l y == slot) v.finished in
    or-cases a (b || c) h
    (λ owed. or-left a (b2 || (own || c)) owed)
    (λ more.
    or-right a (b2 || (own || c))
    (or-cases b c more
    (λ held.
    elim (any-without (λ e. e.name) (λ e. is_of_family tree l e.name slot) v.held x held) [
      | inl still ↦ or-left b2 (own || c) still
      | inr here ↦
          or-cases own (is_of_kids tree l x slot) (ap (λ y. is_of_family tree l y slot) (sym here.1) ∙ here.2)
          (λ mine. or-right b2 (own || c) (or-left own c mine))
          (λ kid. absurd (both_ways (is_of_kids tree l x slot) stays kid))
    ])
    (λ finished. or-right b2 (own || c) (or-right own c finished))))

seated-rooted : {P E : Type 0} (tree : List TreeNode) (l : Layout) (x : Name) (i n left : ℕ) (v : View P E) (c : List (ℕ × Option P)) →
    IsSeated tree l (v, c) → IsSeated tree l (with_step i n left (has_root x v), shed (is_of_kids tree l x) c)
seated-rooted tree l x i n left v c old =
    record {
      apart = apart-shed (is_of_kids tree l x) c old.apart;
      given = each-shed (λ d. has_slot tree l v d.0 ≡ true) (λ d. has_slot tree l (with_step i n left (has_root x v)) d.0 ≡ true)
          (is_of_kids tree l x) c (λ d stays. given-rooted tree l x i n left v d.0 stays) old.given;
      itself = old.itself;
    }

seated-done : {P E : Type 0} (tree : List TreeNode) (l : Layout) (x : Name) (start : List E) (item : P) (i n left : ℕ) (v : View P E) (c : List (ℕ × Option P)) →
    IsSeated tree l (v, c) → IsSeated tree l (with_step i n left (owes_report x start item v), shed (is_of_family tree l x) c)
seated-done tree l x start item i n left v c old =
    let s = seated-shed tree l x i n left v c old in record { apart = s.apart; given = s.given; itself = s.itself }

-- what the store owes
pub finishes_allowed : {P E O : Type 0} (cargo : Ghosts P E O) (f : Frame O) (slots id value : ℕ) (x : Name) (m : Seated P E) →
    IsSeated f.tree f.layout m → CanFinish cargo f m x → stamp_of value ≡ x.generation → control_read value ≡ Done →
    Allows (Running cargo f) slots id m (index f.layout (OfControl x.block x.node)) (λ _. value)
    (λ n. FindsControl (aimed f x) (Busy 0) (FinishesAt cargo (aimed f x)) (index f.layout (OfControl x.block x.node)) n value m)
finishes_allowed {P} {E} cargo f slots id value x m seated can stamped reads s r deep at small =
    let hand : Standing cargo f = record { state = s; id = id; view = m.0; running = r; at = at } in
    let i = index f.layout (OfControl x.block x.node) in
    let n = slice_index s.words i in
    let c = m.1 in
    let leave = can.end.leave in
    let holding : Holding hand = record { name = x; entry = leave.held; holds = leave.holds } in
    let own = held cargo f hand holding in
    let found = found-control cargo f s r x own.live (Busy 0) own.word in
    either (is_root f.tree x.node)
    (λ root.
    let ending : ToEnd hand = record { name = x; carried = c; seated = seated; end = can.end } in
    let finishing : ToFinishRoot hand = record {
      ending = ending;
      value = value;
      root = root;
      stamped = stamped;
      reads = reads;
    } in
    let gone = is_of_kids f.tree f.layout x in
    let shedding : ToShed hand = record { carried = c; seated = seated; gone = gone } in
    let mine : View P E = with_step i n value (has_root x m.0) in
    let is = carries-shed gone c in (
      mine,
      sheds gone c,
      valid-shed cargo f hand shedding,
      root-runs cargo f hand finishing n refl,
      record {
        found = found;
        did = (
          (λ other. absurd (both_ways (is_root f.tree x.node) other root)),
          (λ _. record {
            me_is = λ k. (mine, is k);
            seated = subst (λ d. IsSeated f.tree f.layout (mine, d)) (sym is) (seated-rooted f.tree f.layout x i n value m.0 c seated);
          }),
        );
      },
    ))
    (λ below.
    let done = can.completes below in
    let ending : ToEnd hand = record { name = x; carried = c; seated = seated; end = can.end } in
    let finishing : ToFinish hand = record {
      ending = ending;
      value = value;
      below_root = below;
      can = done;
      stamped = stamped;
      reads = reads;
    } in
    let gone = is_of_family f.tree f.layout x in
    let shedding : ToShed hand = record { carried = c; seated = seated; gone = gone } in
    let mine : View P E = with_step i n value (owes_report x (cargo.start done.item) done.item m.0) in
    let is = carries-shed gone c in (
      mine,
      sheds gone c,
      valid-shed cargo f hand shedding,
      finish-runs cargo f hand finishing n refl,
      record {
        found = found;
        did = (
          (λ _. record {
            item = done.item;
            home = done.home;
            me_is = λ k. (mine, is k);
            seated = subst (λ d. IsSeated f.tree f.layout (mine, d)) (sym is)
                (seated-done f.tree f.layout x (cargo.start done.item) done.item i n value m.0 c seated);
          }),
          (λ root. absurd (both_ways (is_root f.tree x.node) below root)),
        );
      },
    ))

module _ {P E O : Type 0} (cargo : Ghosts P E O) where
  -- the store, by the frame that the table shows
  pub finishes-at : (board f : Frame O) (slots id i value : ℕ) (x : Name) (aim : Aim) (m : Seated P E) → board ≡ f →
      i ≡ index board.layout (OfControl x.block x.node) → aim ≡ aimed board x → IsSeated board.tree board.layout m →
      CanFinish cargo board m x → stamp_of value ≡ x.generation → control_read value ≡ Done →
      AllowsListed cargo f slots id m i (λ _. value) (λ n. FindsControl aim (Busy 0) (FinishesAt cargo aim) i n value m)
  finishes-at board f slots id i value x aim m same i_is aim_is seated can stamped reads =
      allows-listed cargo f slots id m i (λ _. value) (λ n. FindsControl aim (Busy 0) (FinishesAt cargo aim) i n value m)
      (λ n m' told.
      either (is_root aim.tree aim.name.node)
      (λ root. lists-one i n value m m' _ (ap (λ z. z.0) (told.did.1 root).me_is) refl refl refl refl)
      (λ below. lists-one i n value m m' _ (ap (λ z. z.0) (told.did.0 below).me_is) refl refl refl refl))
      (subst (λ z. Allows (Running cargo z) slots id m i (λ _. value) (λ n. FindsControl aim (Busy 0) (FinishesAt cargo aim) i n value m)) same
      (subst (λ (z : ℕ × Aim). Allows (Running cargo board) slots id m z.0 (λ _. value) (λ n. FindsControl z.1 (Busy 0) (FinishesAt cargo z.1) z.0 n value m))
      (λ k. (sym i_is k, sym aim_is k))
      (finishes_allowed cargo board slots id value x m seated can stamped reads)))

  pub finishes-told : (board : Frame O) (i read value : ℕ) (x : Name) (aim : Aim) (m m' : Seated P E) →
      i ≡ index board.layout (OfControl x.block x.node) → aim ≡ aimed board x → stamp_of value ≡ x.generation →
      control_read value ≡ Done → FindsControl aim (Busy 0) (FinishesAt cargo aim) i read value m m' →
      LeavesControl (aimed board x) (Busy 0) Done (FinishesAt cargo (aimed board x)) m m'
  finishes-told board i read value x aim m m' i_is aim_is stamped reads told =
      record {
        read = read;
        left = value;
        found = subst (λ (a : Aim). FoundControl a.name (Busy 0) read) aim_is told.found;
        says = record { stamp_is = stamped; reads = reads };
        did = subst (λ (z : ℕ × Aim). FinishesAt cargo z.1 z.0 read value m m') (λ k. (i_is k, aim_is k)) told.did;
      }

  pub finished-seated : (aim : Aim) (i read left : ℕ) (m m' : Seated P E) → FinishesAt cargo aim i read left m m' →
      IsSeated aim.tree aim.layout m'
  finished-seated aim i read left m m' told =
      either (is_root aim.tree aim.name.node) (λ root. (told.1 root).seated) (λ below. (told.0 below).seated)
