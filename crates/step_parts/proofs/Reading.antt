-- Whether a child of a node has begun is read in the middle of the node's step.
use Rattle.std.proofs.Common.{◌≡◌, ℕ, true, false, ◌||◌, ◌==◌, List, ◌∷◌, refl, sym, ap, ◌∙◌}
use Rattle.std.specs.Prelude.{Option}
use Rattle.std.specs.List.{list_any}
use Rattle.std.specs.Option.{option_map_or}
use Rattle.std.proofs.lemmas.Bool.{or_left, or_right, cond-true, cond-false, eq-eqb}
use Rattle.life_rules.specs.declared.event.Name.{Name}
use Rattle.life_rules.specs.Views.{beside}
use Rattle.life_kept.proofs.Trees.{child-parent}
use Rattle.listed_words.specs.Lists.{entry}
use Rattle.node_tree.specs.Tree.{is_child}
use Rattle.op_slot.proofs.Places.{kid-within}
use Rattle.plan_shape.specs.Blueprint.{Blueprint}
use Rattle.table_rules.specs.declared.view.View.{View}
use Rattle.table_rules.specs.declared.view.Held.{Held}
use Rattle.table_steps.specs.Views.{Board, IsPlaceIn}
use Rattle.table_steps.specs.Claims.{logged}
use Rattle.table_steps.specs.Seats.{Seated}
use Rattle.table_steps.specs.Readings.{above_it, says_begun, notes_idle, KnowsIdle, HoldsAbove, IsBegunAs}
use Rattle.table_steps.specs.Steps.{control_index}
use Rattle.home_items.specs.declared.entry.Entry.{Entry}
use Rattle.home_items.specs.declared.item.Item.{Item}
use Rattle.exec_recv.specs.Asides.{aside_of}
use Rattle.exec_recv.proofs.Moves.{moves-look}
use Rattle.exec_recv.proofs.Asiding.{aside-one}
use Rattle.step_parts.specs.Midway.{Ready, KeepsReady}
use Rattle.step_parts.specs.Takes.{HasJustBegun}
use Rattle.step_parts.proofs.Noting.{NotesEntry, ChangesNotes, notes-held, notes-keeps, looks-keeps}

-- a child that hasn't begun is noted
abbrev pub with_idle : ℕ → Held Entry → Held Entry
with_idle n e = record e { idle = n ∷ e.idle }

pub idle-slight : (n : ℕ) → ChangesNotes (with_idle n)
idle-slight n =
    record {
      names = λ e. refl;
      same = λ e. record { start = refl; named = refl; told = refl; told_children = refl; lot = refl };
    }

-- of a node that was just begun no child has begun
pub begun-idle : (board : Board Blueprint) (x : Name) (n : ℕ) (m : Seated Item Entry) → is_child board.frame.tree x.node n ≡ true →
    HasJustBegun board x m → KnowsIdle x n m
begun-idle board x n m child begun =
    record {
      held = begun.held;
      holds = begun.holds;
      idle = or_left (begun.held.named == 0) _ (eq-eqb begun.held.named 0 begun.named);
    }

module _ (board : Board Blueprint) (x : Name) (start : List Entry) (n : ℕ) (least : ℕ) (m : Seated Item Entry) (ready : Ready board x start least m)
    (child : is_child board.frame.tree x.node n ≡ true) where
  -- the child can be read
  pub child-above : HoldsAbove board.frame.tree m.0 (beside x n)
  child-above =
      record {
        parent = x.node;
        parent_is = child-parent board.frame.tree x.node n child;
        held = ready.is.held;
        holds = ready.is.tends.holds;
      }

  pub child-place : IsPlaceIn board (beside x n)
  child-place = record { block = ready.is.place.block; node = kid-within board.frame x ready.is.places n child }

  pub above-is : above_it board.frame.tree (beside x n) ≡ x
  above-is =
      ap (λ (o : Option ℕ). option_map_or (λ p. beside (beside x n) p) o (beside x n))
      (child-parent board.frame.tree x.node n child)

  abbrev index : ℕ
  index = control_index board (beside x n)

  module _ (m' : Seated Item Entry) where
    -- it has begun, as its word says
    module _ (read : IsBegunAs board.frame (beside x n) true m m') where
      pub begun-so : m' ≡ (logged index read.0 m.0, m.1)
      begun-so =
          read.2
          ∙ ap (λ (v : View Item Entry). (logged index read.0 v, m.1))
          (cond-true (says_begun x.generation read.0) m.0 (notes_idle (above_it board.frame.tree (beside x n)) n m.0) (sym read.1))

      pub begun-keeps : KeepsReady board x m m'
      begun-keeps =
          looks-keeps board x m m' (ap (λ (z : Seated Item Entry). z.0.held) begun-so)
          (ap (λ (z : Seated Item Entry). z.0.owed) begun-so) (ap (λ (z : Seated Item Entry). z.1) begun-so)
          (aside-one (entry index read.0 read.0) m m' (ap (λ (z : Seated Item Entry). aside_of z.0) begun-so)
          (ap (λ (z : Seated Item Entry). z.0.steps) begun-so) (ap (λ (z : Seated Item Entry). z.0.seen) begun-so))
          (moves-look board x index read.0 m m' (ap (λ (z : Seated Item Entry). z.0.steps) begun-so))

    -- it hasn't, and the hand has noted so
    module _ (read : IsBegunAs board.frame (beside x n) false m m') where
      idle-so : m' ≡ (logged index read.0 (notes_idle x n m.0), m.1)
      idle-so =
          read.2
          ∙ ap (λ (v : View Item Entry). (logged index read.0 v, m.1))
          (cond-false (says_begun x.generation read.0) m.0 (notes_idle (above_it board.frame.tree (beside x n)) n m.0) (sym read.1)
          ∙ ap (λ (y : Name). notes_idle y n m.0) above-is)

      pub idle-notes : NotesEntry board x (with_idle n) m m'
      idle-notes =
          record {
            held = ap (λ (z : Seated Item Entry). z.0.held) idle-so;
            owed = ap (λ (z : Seated Item Entry). z.0.owed) idle-so;
            homes = ap (λ (z : Seated Item Entry). z.1) idle-so;
            aside = aside-one (entry index read.0 read.0) m m' (ap (λ (z : Seated Item Entry). aside_of z.0) idle-so)
                (ap (λ (z : Seated Item Entry). z.0.steps) idle-so) (ap (λ (z : Seated Item Entry). z.0.seen) idle-so);
            moves = moves-look board x index read.0 m m' (ap (λ (z : Seated Item Entry). z.0.steps) idle-so);
          }

      pub idle-keeps : KeepsReady board x m m'
      idle-keeps = notes-keeps board x (with_idle n) (idle-slight n) m m' idle-notes

      pub idle-known : KnowsIdle x n m'
      idle-known =
          record {
            held = with_idle n ready.is.held;
            holds = notes-held board x (with_idle n) (idle-slight n) m m' idle-notes ready.is.held ready.is.tends.holds;
            idle = or_right (ready.is.held.named == 0) _ (ap (λ b. b || list_any (λ q. q == n) ready.is.held.idle) (eq-eqb n n refl));
          }
