-- The starts that a hand owes can begin still, after calls that leave them and what lies in their homes; and
-- none comes to be a root's.
use Rattle.std.proofs.Common.{◌≡◌, inl, inr, ℕ, ◌≤◌, true, false, List, sym, ap, ◌∙◌, subst}
use Rattle.std.specs.Prelude.{Option, Some}
use Rattle.std.proofs.lemmas.Bool.{both_ways}
use Rattle.common_lemmas.proofs.Bool.{either}
use Rattle.life_rules.specs.declared.event.Name.{Name}
use Rattle.life_kept.proofs.Trees.{child-within, root-orphan}
use Rattle.node_tree.specs.declared.node.TreeNode.{TreeNode}
use Rattle.node_tree.specs.Tree.{IsTree, is_child, is_root}
use Rattle.plan_shape.specs.Blueprint.{Blueprint}
use Rattle.table_rules.specs.declared.view.Owed.{Owed}
use Rattle.table_rules.specs.Named.{find_by, count_by, Each}
use Rattle.table_steps.specs.Views.{Board}
use Rattle.table_steps.specs.Seats.{Seated}
use Rattle.table_steps.specs.Owing.{Owes}
use Rattle.table_steps.specs.Slots.{slot_of, kept, has_seen}
use Rattle.home_items.specs.declared.entry.Entry.{Entry}
use Rattle.home_items.specs.declared.item.Item.{Item}
use Rattle.exec_recv.specs.Asides.{SeesMore}
use Rattle.exec_recv.specs.Beginnings.{CanStart, AllCanStart, OwesNoRoot}
use Rattle.exec_recv.specs.Nexts.{OwesNewBelow}
use Rattle.exec_recv.proofs.Fitting.{fits-more, sees-more}

-- who owes the same owed each start before
pub owes-as : (m m' : Seated Item Entry) (y : Name) → m'.0.owed ≡ m.0.owed → Owes m'.0 y → Owes m.0 y
owes-as m m' y owed_same owes =
    record {
      owed = owes.owed;
      owes = ap (λ (l : List (Owed Entry)). find_by (λ (e : Owed Entry). e.name) l y) (sym owed_same) ∙ owes.owes;
    }

-- a child isn't the root
pub child-inner : (tree : List TreeNode) (p n : ℕ) → IsTree tree → is_child tree p n ≡ true → is_root tree n ≡ false
child-inner tree p n is below =
    either (is_root tree n)
    (λ root. absurd (both_ways (is_child tree p n) (root-orphan tree is p n (child-within tree p n below) root) below))
    (λ f. f)

module _ (board : Board Blueprint) (x : Name) (m m' : Seated Item Entry) where
  pub owes-no-more : m'.0.owed ≡ m.0.owed → OwesNewBelow board x m m'
  owes-no-more owed_same y owes = inl (owes-as m m' y owed_same owes)

  -- so no start of a root comes to be owed
  pub inner-still : IsTree board.frame.tree → OwesNewBelow board x m m' → OwesNoRoot board m → OwesNoRoot board m'
  inner-still is new inner y owes =
      elim (new y owes) [
        | inl before ↦ inner y before
        | inr below ↦ child-inner board.frame.tree x.node y.node is below
      ]

module _ (board : Board Blueprint) (m m' : Seated Item Entry) where
  -- what lies in the home of a node whose start is owed stays there
  abbrev pub KeepsHomes : Type 0
  KeepsHomes =
      (y : Name) (owed : Owed Entry) → find_by (λ (e : Owed Entry). e.name) m.0.owed y ≡ Some owed → (inside : Option Item) →
      kept (slot_of board.frame.layout y) m.1 ≡ Some inside → kept (slot_of board.frame.layout y) m'.1 ≡ Some inside

  module _ (owed_same : m'.0.owed ≡ m.0.owed) (homes : KeepsHomes) (sees : SeesMore m m') where
    pub can-still : (y : Name) → CanStart board y m → CanStart board y m'
    can-still y can =
        record {
          place = can.place;
          begin = record {
            owed = can.begin.owed;
            owes = ap (λ l. find_by (λ (e : Owed Entry). e.name) l y) owed_same ∙ can.begin.owes;
            item = can.begin.item;
            home = homes y can.begin.owed can.begin.owes (Some can.begin.item) can.begin.home;
            entry = can.begin.entry;
            start = can.begin.start;
            key = can.begin.key;
            drawn = can.begin.drawn;
            goes_on = can.begin.goes_on;
          };
          is_start = can.is_start;
          fit = fits-more can.begin.item y.node (has_seen board.frame.tree m.0 y) (has_seen board.frame.tree m'.0 y)
              (sees-more board.frame.tree m m' y sees) can.fit;
          once = subst (λ l. count_by (λ (e : Owed Entry). e.name) l y ≤ 1) (sym owed_same) can.once;
          beside = subst (λ l. Each (λ (e : Owed Entry). e.name.block ≡ y.block → e.name.generation ≡ y.generation) l) (sym owed_same) can.beside;
        }

    pub all-still : AllCanStart board m → AllCanStart board m'
    all-still all y owes = can-still y (all y (owes-as m m' y owed_same owes))
