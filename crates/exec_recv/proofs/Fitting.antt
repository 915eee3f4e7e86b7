-- What fits a home fits there still when the hand has seen more requests.
use Rattle.std.proofs.Common.{◌≡◌, ℕ, Bool, List, true, false, sym, ◌∙◌}
use Rattle.std.specs.Prelude.{Option, Some, None}
use Rattle.std.specs.Option.{option_map_or}
use Rattle.std.proofs.lemmas.Bool.{both_ways}
use Rattle.common_lemmas.proofs.Bool.{either}
use Rattle.life_rules.specs.declared.event.Name.{Name}
use Rattle.life_rules.specs.declared.event.SourceRef.{SourceRef}
use Rattle.life_rules.specs.States.{source_for}
use Rattle.node_tree.specs.declared.node.TreeNode.{TreeNode}
use Rattle.node_tree.specs.Tree.{nearest}
use Rattle.table_rules.specs.declared.view.View.{View}
use Rattle.table_rules.specs.ShownViews.{has_source_ref}
use Rattle.table_steps.specs.Seats.{Seated}
use Rattle.table_steps.specs.Hearings.{HearsAs}
use Rattle.table_steps.specs.Slots.{has_seen}
use Rattle.home_items.specs.declared.entry.Entry.{Entry}
use Rattle.home_items.specs.declared.item.Item.{Item}
use Rattle.home_items.specs.Fits.{FitsHome}
use Rattle.exec_recv.specs.Asides.{SeesMore}

pub fits-more : (item : Item) (n : ℕ) (before now : Bool) → (before ≡ true → now ≡ true) → FitsHome item n before →
    FitsHome item n now
fits-more item n before now more fits = (
  fits.0,
  λ (none : now ≡ false).
      fits.1 (either before (λ (t : before ≡ true). absurd (both_ways now none (more t))) (λ f. f)),
)

pub sees-more : (tree : List TreeNode) (m m' : Seated Item Entry) (x : Name) → SeesMore m m' → has_seen tree m.0 x ≡ true →
    has_seen tree m'.0 x ≡ true
sees-more tree m m' x sees = of (source_for x (nearest tree x.node))
  where
    of : (source : Option SourceRef) → option_map_or (has_source_ref m.0.seen) source false ≡ true →
        option_map_or (has_source_ref m'.0.seen) source false ≡ true
    of None is = is
    of (Some source) is = sees source is

-- what a hand was told holds of its view as long as that has its number and its request
pub hears-still : (tree : List TreeNode) (v v' : View Item Entry) (x : Name) (told told_children : Bool) → v'.number ≡ v.number →
    v'.requested ≡ v.requested → HearsAs tree v x told told_children → HearsAs tree v' x told told_children
hears-still tree v v' x told told_children number requested hears =
    record {
      scope = λ zero scope. hears.scope (sym number ∙ zero) scope ∙ sym requested;
      none = hears.none;
      passes = hears.passes;
      shelters = hears.shelters;
    }
