-- What the two stores of a begin owe and tell, in the contract's words.
use Rattle.std.proofs.Common.{◌≡◌, ◌≢◌, ℕ, false, ◌==◌, List, [], ◌∷◌, Some, sym, ap, ◌∙◌, subst, refl}
use Rattle.std.specs.Prelude.{slice_get, Option, None}
use Rattle.std.specs.Option.{option_map_or}
use Rattle.std.proofs.lemmas.Bool.{cond-false, ne_eqb}
use Rattle.life_rules.specs.declared.words.ControlWord.TheVariants.{Idle, Busy}
use Rattle.node_tree.specs.declared.node.TreeNode.{TreeNode}
use Rattle.life_rules.specs.declared.event.Name.{Name}
use Rattle.node_tree.specs.Tree.{has_source}
use Rattle.life_rules.specs.Words.{clear}
use Rattle.common_lemmas.proofs.Bool.{either}
use Rattle.table_words.specs.declared.layout.Layout.{Layout}
use Rattle.table_words.specs.Stamps.{stamp_of}
use Rattle.table_words.specs.Controls.{control_read, source_read}
use Rattle.table_words.specs.Layouts.{OfControl, OfSource, index, place_number}
use Rattle.atomic_table.specs.Table.{Allows}
use Rattle.table_rules.specs.declared.cargo.Cargo.{Ghosts}
use Rattle.table_rules.specs.declared.frame.Frame.{Frame}
use Rattle.table_rules.specs.Running.{Running}
use Rattle.table_steps.specs.Views.{aimed}
use Rattle.table_steps.specs.Claims.{with_step}
use Rattle.table_steps.specs.Seats.{Seated}
use Rattle.table_steps.specs.Lefts.{FoundControl, FindsControl, LeavesControl}
use Rattle.table_steps.specs.Kids.{empty_slots}
use Rattle.table_steps.specs.Slots.{Aim, slot_of, kids_of, kept, AreApart, IsSeated}
use Rattle.table_steps.specs.Begins.{CanBegin, BeginsAt, Renews, IsRenewed, HasRenewed}
use Rattle.table_kept.proofs.Listing.{AllowsListed, allows-listed, lists-one}
use Rattle.table_life_kept.proofs.Begin.Runs.{begins_allowed}
use Rattle.table_life_kept.proofs.ShedHomes.{kept-each}
use Rattle.table_life_kept.proofs.Begin.Renewal.{renews_allowed}

-- a slot that a hand carries keeps what is in it beside the empty slots of children, since it carries each
-- slot once
kept-beside : {P : Type 0} (l : Layout) (b slot : ℕ) (inside : Option P) (ns : List ℕ) (c : List (ℕ × Option P)) →
    AreApart (empty_slots l b ns c) → kept slot c ≡ Some inside → kept slot (empty_slots l b ns c) ≡ Some inside
kept-beside l b slot inside [] c apart is = is
kept-beside l b slot inside (n ∷ ns) c apart is =
    let rest = empty_slots l b ns c in
    let below = kept-beside l b slot inside ns c apart.1 is in
    let differ : slot ≢ place_number l b n = kept-each (λ k. k ≢ place_number l b n) slot inside rest apart.0 below in
    cond-false (place_number l b n == slot) (Some None) (kept slot rest) (ne_eqb (place_number l b n) slot (λ e. differ (sym e)))
    ∙ below

module _ {P E O : Type 0} (cargo : Ghosts P E O) where
  -- the hand can begin the node after a step that was listed
  can-listed : (f : Frame O) (x : Name) (i n left : ℕ) (m : Seated P E) → CanBegin cargo f m x →
      CanBegin cargo f (with_step i n left m.0, m.1) x
  can-listed f x i n left m can =
      record {
        owed = can.owed;
        owes = can.owes;
        item = can.item;
        home = can.home;
        entry = can.entry;
        start = can.start;
        key = can.key;
        drawn = can.drawn;
        goes_on = can.goes_on;
      }

  pub can-renewed : (f : Frame O) (x : Name) (m m' : Seated P E) → IsRenewed (aimed f x) m m' → CanBegin cargo f m x →
      CanBegin cargo f m' x
  can-renewed f x m m' renewed can =
      either (has_source f.tree x.node)
      (λ t.
      let did = renewed.0 t in
      subst (λ z. CanBegin cargo f z x) (sym did.did)
      (can-listed f x (index f.layout (OfSource x.block x.node)) did.read did.left m can))
      (λ none. subst (λ z. CanBegin cargo f z x) (sym (renewed.1 none)) can)

  -- and its newest step is the renewal, where the node has a source
  pub has-renewed : (aim : Aim) (m m' : Seated P E) → IsRenewed aim m m' → HasRenewed aim m'
  has-renewed aim m m' renewed has =
      let did = renewed.0 has in
      record {
        read = did.read;
        left = did.left;
        earlier = m.0.steps;
        says = did.says;
        steps_are = ap (λ (z : Seated P E). z.0.steps) did.did;
      }

  -- the renewal, by the frame that the table shows
  pub renews-at : (board f : Frame O) (slots id i value : ℕ) (x y : Name) (m : Seated P E) → board ≡ f →
      i ≡ index board.layout (OfSource x.block x.node) → y ≡ x → CanBegin cargo board m x → stamp_of value ≡ x.generation →
      source_read value ≡ clear → AllowsListed cargo f slots id m i (λ _. value) (λ n. Renews y i n value m)
  renews-at board f slots id i value x y m same i_is y_is can stamped reads =
      allows-listed cargo f slots id m i (λ _. value) (λ n. Renews y i n value m)
      (λ n m' told. lists-one i n value m m' m.0 (ap (λ z. z.0) told.me_is) refl refl refl refl)
      (subst (λ z. Allows (Running cargo z) slots id m i (λ _. value) (λ n. Renews y i n value m)) same
      (subst (λ (z : ℕ × Name). Allows (Running cargo board) slots id m z.0 (λ _. value) (λ n. Renews z.1 z.0 n value m))
      (λ k. (sym i_is k, sym y_is k))
      (renews_allowed cargo board slots id value x can.owed m can.owes stamped reads)))

  -- the store, by the frame that the table shows
  pub begins-at : (board f : Frame O) (slots id i value : ℕ) (x : Name) (aim : Aim) (m : Seated P E) → board ≡ f →
      i ≡ index board.layout (OfControl x.block x.node) → aim ≡ aimed board x → CanBegin cargo board m x →
      HasRenewed (aimed board x) m → stamp_of value ≡ x.generation → control_read value ≡ Busy 0 →
      AllowsListed cargo f slots id m i (λ _. value) (λ n. FindsControl aim Idle (BeginsAt cargo aim) i n value m)
  begins-at board f slots id i value x aim m same i_is aim_is can renewed stamped reads =
      allows-listed cargo f slots id m i (λ _. value) (λ n. FindsControl aim Idle (BeginsAt cargo aim) i n value m)
      (λ n m' told. lists-one i n value m m' _ (ap (λ z. z.0) told.did.me_is) refl refl refl refl)
      (subst (λ z. Allows (Running cargo z) slots id m i (λ _. value) (λ n. FindsControl aim Idle (BeginsAt cargo aim) i n value m)) same
      (subst (λ (z : ℕ × Aim). Allows (Running cargo board) slots id m z.0 (λ _. value) (λ n. FindsControl z.1 Idle (BeginsAt cargo z.1) z.0 n value m))
      (λ k. (sym i_is k, sym aim_is k))
      (begins_allowed cargo board slots id value x m can renewed stamped reads)))

  pub begins-told : (board : Frame O) (i read value : ℕ) (x : Name) (aim : Aim) (m m' : Seated P E) →
      i ≡ index board.layout (OfControl x.block x.node) → aim ≡ aimed board x → stamp_of value ≡ x.generation →
      control_read value ≡ Busy 0 → FindsControl aim Idle (BeginsAt cargo aim) i read value m m' →
      LeavesControl (aimed board x) Idle (Busy 0) (BeginsAt cargo (aimed board x)) m m'
  begins-told board i read value x aim m m' i_is aim_is stamped reads told =
      record {
        read = read;
        left = value;
        found = subst (λ (a : Aim). FoundControl a.name Idle read) aim_is told.found;
        says = record { stamp_is = stamped; reads = reads };
        did = subst (λ (z : ℕ × Aim). BeginsAt cargo z.1 z.0 read value m m') (λ k. (i_is k, aim_is k)) told.did;
      }

  -- what lies in the home of the node that was begun is what lay there, and no completion
  pub begun-goes-on : (f : Frame O) (i read left : ℕ) (x : Name) (m middle m' : Seated P E) → CanBegin cargo f m x →
      IsRenewed (aimed f x) m middle → BeginsAt cargo (aimed f x) i read left middle m' → IsSeated f.tree f.layout m' → (item : P) →
      kept (slot_of f.layout x) m'.1 ≡ Some (Some item) → ¬ cargo.ends item
  begun-goes-on f i read left x m middle m' can renewed did seated item home =
      let was = can-renewed f x m middle renewed can in
      let slot = slot_of f.layout x in
      let slots = ap (λ (z : Seated P E). z.1) did.me_is in
      let kids = kids_of f.tree x.node in
      let own = kept-beside f.layout x.block slot (Some was.item) kids middle.1 (subst AreApart slots seated.apart) was.home in
      subst (λ j. ¬ cargo.ends j) (inside-same was.item item (sym own ∙ ap (kept slot) (sym slots) ∙ home)) was.goes_on
    where
      inside-same : (a b : P) → Some (Some a) ≡ Some (Some b) → a ≡ b
      inside-same a b e = cc

-- what the node of this number says of its source
pub source-is : (tree : List TreeNode) (n : ℕ) (node : TreeNode) → slice_get tree n ≡ Some node → has_source tree n ≡ node.source
source-is tree n node e = ap (λ o. option_map_or (λ node. node.source) o false) e
