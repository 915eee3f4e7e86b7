-- What lies in a home of the node's family is moved in the middle of a step.
use Rattle.std.proofs.Common.{◌≡◌, ℕ, true, ◌||◌, ◌==◌, refl, ap, ◌∙◌, subst}
use Rattle.std.specs.Prelude.{Option}
use Rattle.std.specs.List.{list_any}
use Rattle.std.proofs.lemmas.Bool.{both_ways, eqb-true, eq-eqb}
use Rattle.common_lemmas.proofs.Bool.{either}
use Rattle.life_rules.specs.declared.event.Name.{Name}
use Rattle.life_rules.specs.Views.{beside}
use Rattle.listed_words.specs.Lists.{entry}
use Rattle.node_tree.specs.Tree.{is_child}
use Rattle.plan_shape.specs.Blueprint.{Blueprint}
use Rattle.table_words.specs.Layouts.{place_number}
use Rattle.table_rules.specs.declared.view.Held.{Held}
use Rattle.table_rules.specs.Named.{find_by, without}
use Rattle.table_steps.specs.Views.{Board, Stays}
use Rattle.table_steps.specs.Seats.{Seated}
use Rattle.table_steps.specs.Finishes.{is_of_kids}
use Rattle.table_steps.specs.Slots.{slot_of, kids_of, is_of_family, held_at}
use Rattle.table_steps.specs.Steps.{control_index}
use Rattle.table_steps.specs.Swaps.{IsSwapped}
use Rattle.op_slot.specs.Tends.{HasPlaces}
use Rattle.op_slot.proofs.Places.{of-kids}
use Rattle.op_slot.proofs.Tending.{swapped-else}
use Rattle.home_items.specs.declared.entry.Entry.{Entry}
use Rattle.home_items.specs.declared.item.Item.{Item}
use Rattle.exec_recv.specs.Asides.{aside_of}
use Rattle.exec_recv.specs.Family.{AreOwedElsewhere}
use Rattle.exec_recv.specs.Seats.{HandSeat}
use Rattle.exec_recv.proofs.Moves.{moves-look}
use Rattle.exec_recv.proofs.Asiding.{aside-one}
use Rattle.exec_recv.proofs.Starts.{KeepsHomes}
use Rattle.step_parts.specs.Heard.{has_heard}
use Rattle.step_parts.specs.Midway.{KeepsOthers, ChangesHomes}
use Rattle.step_parts.proofs.Noting.{or-true}

-- the homes of the family: the node's own, and a child's
pub own-family : (board : Board Blueprint) (x : Name) →
    is_of_family board.frame.tree board.frame.layout x (slot_of board.frame.layout x) ≡ true
own-family board x =
    let slot = slot_of board.frame.layout x in
    ap (λ b. b || list_any (λ n. place_number board.frame.layout x.block n == slot) (kids_of board.frame.tree x.node))
    (eq-eqb slot slot refl)

pub kid-family : (board : Board Blueprint) (x : Name) (n : ℕ) → HasPlaces board.frame x → is_child board.frame.tree x.node n ≡ true →
    is_of_family board.frame.tree board.frame.layout x (slot_of board.frame.layout (beside x n)) ≡ true
kid-family board x n places child =
    let slot = place_number board.frame.layout x.block n in
    or-true (slot_of board.frame.layout x == slot) (is_of_kids board.frame.tree board.frame.layout x slot)
    (of-kids board.frame x places n child)

module _ (board : Board Blueprint) (x y : Name) (new old : Option Item) (m m' : Seated Item Entry) (did : IsSwapped board.frame y new old m m') where
  pub swap-beside : KeepsOthers board x m m'
  swap-beside =
      record {
        aside = aside-one (entry (control_index board y) did.word did.word) m m' (ap (λ (z : Seated Item Entry). aside_of z.0) did.me_is)
            (ap (λ (z : Seated Item Entry). z.0.steps) did.me_is) (ap (λ (z : Seated Item Entry). z.0.seen) did.me_is);
        moves = moves-look board x (control_index board y) did.word m m' (ap (λ (z : Seated Item Entry). z.0.steps) did.me_is);
        others = ap (λ (z : Seated Item Entry). without (λ (e : Held Entry). e.name) z.0.held x) did.me_is;
        owed = ap (λ (z : Seated Item Entry). z.0.owed) did.me_is;
      }

  pub swap-held : held_at m'.0 x ≡ held_at m.0 x
  swap-held = ap (λ (z : Seated Item Entry). find_by (λ (e : Held Entry). e.name) z.0.held x) did.me_is

  pub swap-heard : has_heard board x m' ≡ has_heard board x m
  swap-heard = ap (λ (z : Seated Item Entry). has_heard board x z) did.me_is

  -- what lies in the homes of nodes whose start is owed stays there
  module _ (family : is_of_family board.frame.tree board.frame.layout x (slot_of board.frame.layout y) ≡ true) (elsewhere : AreOwedElsewhere board x m) where
    pub swap-homes : KeepsHomes board m m'
    swap-homes z owed owes inside lies =
        let slot = slot_of board.frame.layout z in
        let l = board.frame.layout in
        swapped-else board.frame y new old m m' did slot
        (either (slot_of l y == slot)
        (λ t.
        absurd (both_ways (is_of_family board.frame.tree l x slot) (elsewhere z owed owes)
        (subst (λ s. is_of_family board.frame.tree l x s ≡ true) (eqb-true (slot_of l y) slot t) family)))
        (λ f. f))
        ∙ lies

-- So a call that moves what lies there leaves all else.
pub swap-changes : (board : Board Blueprint) (x y : Name) (new old : Option Item) (before after : HandSeat) → Stays board before after →
    IsSwapped board.frame y new old before.me after.me → ChangesHomes board x before after
swap-changes board x y new old before after stays did =
    record {
      stays = stays;
      beside = swap-beside board x y new old before.me after.me did;
      same_held = swap-held board x y new old before.me after.me did;
      heard = swap-heard board x y new old before.me after.me did;
    }
