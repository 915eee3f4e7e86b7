-- What a let reads in the middle of its step of the source that it hears.
use Rattle.std.proofs.Common.{◌≡◌, ℕ, Bool, false, ◌||◌, List, ap, ◌∙◌}
use Rattle.std.specs.Prelude.{Option, is_some}
use Rattle.std.specs.Option.{option_map_or}
use Rattle.common_lemmas.proofs.Options.{known}
use Rattle.life_rules.specs.declared.event.Name.{Name}
use Rattle.life_rules.specs.declared.event.SourceRef.{SourceRef}
use Rattle.life_rules.specs.States.{source_for}
use Rattle.node_tree.specs.Tree.{nearest}
use Rattle.plan_shape.specs.Blueprint.{Blueprint}
use Rattle.table_rules.specs.declared.view.Held.{Held}
use Rattle.table_rules.specs.ShownViews.{has_source_ref}
use Rattle.table_steps.specs.Views.{Board}
use Rattle.table_steps.specs.Seats.{Seated}
use Rattle.home_items.specs.declared.entry.Entry.{Entry}
use Rattle.home_items.specs.declared.item.Item.{Item}
use Rattle.step_parts.specs.Heard.{was_told, has_heard, Looked}
use Rattle.step_parts.specs.Midway.{Ready}

-- where it reads no request, the hand has heard of none
pub look-hears : (board : Board Blueprint) (x : Name) (start : List Entry) (least : ℕ) (m m' : Seated Item Entry) → Ready board x start least m' →
    (answer : Bool) → Looked board x answer m m' → answer ≡ false → has_heard board x m' ≡ false
look-hears board x start least m m' ready answer looked unread =
    known (source_for x (nearest board.frame.tree x.node))
    (λ none.
    ap (λ (o : Option SourceRef). option_map_or (has_source_ref m'.0.seen) o false || was_told x m') none
    ∙ ap (λ (o : Option (Held Entry)). option_map_or (λ (e : Held Entry). e.told) o false) ready.is.tends.holds
    ∙ ready.is.hears.none none)
    (λ source some. looked.no unread (ap is_some some))
