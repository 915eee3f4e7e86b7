-- What a hand at rest has after it took a node that was ready, and after it served one.
use Rattle.std.proofs.Common.{◌≡◌, ℕ, List, [], ◌∷◌, ◌==◌, arith, refl, sym, ap, ◌∙◌}
use Rattle.std.specs.Prelude.{Some, None}
use Rattle.std.proofs.lemmas.Bool.{cond-true}
use Rattle.life_rules.specs.declared.event.Name.{Name}
use Rattle.life_rules.specs.declared.event.Resting.{Resting}
use Rattle.life_rules.specs.declared.event.Resting.TheVariants as rest
use Rattle.life_rules.specs.Views.{same}
use Rattle.life_rules.specs.Words.{may_be_taken, resting_at}
use Rattle.life_rules.proofs.Names.{same-refl}
use Rattle.listed_words.specs.Lists.{entry}
use Rattle.plan_shape.specs.Blueprint.{Blueprint}
use Rattle.table_rules.specs.declared.view.Held.{Held}
use Rattle.table_rules.specs.declared.view.Owed.{Owed}
use Rattle.table_rules.specs.declared.view.View.{View}
use Rattle.table_rules.specs.Named.{find_by, without}
use Rattle.table_steps.specs.Views.{Board, IsPlaceIn, aimed}
use Rattle.table_steps.specs.Seats.{Seated}
use Rattle.table_steps.specs.Owing.{Owes}
use Rattle.table_steps.specs.Slots.{IsSeated}
use Rattle.table_steps.specs.Steps.{control_index}
use Rattle.table_steps.specs.Takes.{MayServe, TakenAt}
use Rattle.op_slot.proofs.Tending.{held_as}
use Rattle.home_items.specs.contracts.item.ItemCargo.TheImpl.{ghosts}
use Rattle.home_items.specs.declared.entry.Entry.{Entry}
use Rattle.home_items.specs.declared.item.Item.{Item}
use Rattle.exec_recv.specs.Asides.{Aside, aside_of, KeepsAside}
use Rattle.exec_recv.specs.Beginnings.{AllCanStart, OwesNoRoot}
use Rattle.exec_recv.specs.Sites.{Does}
use Rattle.exec_recv.specs.Over.{IsOver}
use Rattle.exec_recv.proofs.Arriving.{taken-steps}
use Rattle.exec_recv.proofs.Asiding.{aside-on, aside-one}
use Rattle.exec_recv.proofs.Places.{over-places}
use Rattle.node_walks.specs.declared.mail.ReadyNode.{ReadyNode}
use Rattle.node_walks.specs.Resting.{IsAtRest, CanGoOn}
use Rattle.node_walks.proofs.Going.{stepped-on}
use Rattle.exec_recv.specs.Since.{HasMovedSince}
use Rattle.node_walks.specs.Since.{OnlyLooks}
use Rattle.node_walks.specs.Serving.{OnlyServes, ServesNode, TakesWord}
use Rattle.exec_recv.proofs.Since.{moved-before, moved-after}
use Rattle.node_walks.proofs.Read.{looks-on}

none-some : {A : Type 0} (e : A) → None ≡ Some e → ⊥
none-some e is = cc

-- hand 0 may take what rests anywhere
pub first-serves : (from : Resting) (v : View Item Entry) → v.number ≡ 0 → MayServe from v
first-serves rest.Loop v first = ap (λ n. n == 0) first
first-serves rest.Pool v first = refl
first-serves rest.Parked v first = ap (λ n. n == 0) first

-- a hand serves a place of rest for good
pub serves-still : (from : Resting) (m m' : Seated Item Entry) → KeepsAside m m' → MayServe from m.0 → MayServe from m'.0
serves-still from m m' aside serves = ap (λ (a : Aside). may_be_taken (resting_at from) a.number) aside.same ∙ serves

-- a hand that owes nothing
module _ (board : Board Blueprint) (m : Seated Item Entry) (none : m.0.owed ≡ []) where
  owes-nothing : (y : Name) → Owes m.0 y → ⊥
  owes-nothing y owes =
      none-some owes.owed (sym (ap (λ (l : List (Owed Entry)). find_by (λ (e : Owed Entry). e.name) l y) none) ∙ owes.owes)

  none-starts : AllCanStart board m
  none-starts y owes = absurd (owes-nothing y owes)

  none-root : OwesNoRoot board m
  none-root y owes = absurd (owes-nothing y owes)

-- a node that a hand at rest took can be gone on with
module _ (board : Board Blueprint) (plan : Blueprint) (over : IsOver board plan) (x : Name) (place : IsPlaceIn board x) (i read left : ℕ) (m m' : Seated Item Entry)
    (took : TakenAt ghosts (aimed board.frame x) (board.frame.over.value ∷ []) i read left m m')
    (seated : IsSeated board.frame.tree board.frame.layout m) (rests : IsAtRest m.0) where
  pub took-aside : KeepsAside m m'
  took-aside =
      aside-one (entry i read left) m m' (ap (λ (z : Seated Item Entry). aside_of z.0) took.me_is)
      (ap (λ (z : Seated Item Entry). z.0.steps) took.me_is) (ap (λ (z : Seated Item Entry). z.0.seen) took.me_is)

  -- and its step is listed
  pub took-moved : (says : ℕ → ℕ → Type 0) → says read left → HasMovedSince i says m m'
  took-moved says said =
      record {
        fresh = entry i read left ∷ [];
        grown = ap (λ (z : Seated Item Entry). z.0.steps) took.me_is;
        word = read;
        left = left;
        there = (0, omega arith, refl);
        said = said;
      }

  pub took-can : CanGoOn board x m'
  took-can =
      let owed : m'.0.owed ≡ [] = ap (λ (z : Seated Item Entry). z.0.owed) took.me_is ∙ rests.owed in
      let e = held_as x took.start took.named took.told took.told_children None in
      record {
        can = taken-steps board x i read left m m' took seated (none-starts board m rests.owed) place (over-places board plan x over place)
            rests.scans rests.runs;
        alone = ap (λ (z : Seated Item Entry). without (λ (h : Held Entry). h.name) z.0.held x) took.me_is
            ∙ cond-true (same x x) m.0.held (e ∷ without (λ (h : Held Entry). h.name) m.0.held x) (same-refl x) ∙ rests.held;
        reported = ap (λ (z : Seated Item Entry). z.0.reported) took.me_is ∙ rests.reported;
        finished = ap (λ (z : Seated Item Entry). z.0.finished) took.me_is ∙ rests.finished;
        starts = none-starts board m' owed;
        inner = none-root board m' owed;
      }

-- a node that was served is so still, seen from earlier and later
module _ (does : Does) (board : Board Blueprint) (from : Resting) (name : Name) (m between m' : Seated Item Entry) where
  pub serves-before : KeepsAside m between → ServesNode does board from name between m' → ServesNode does board from name m m'
  serves-before aside one =
      record {
        before = one.before;
        kept = aside-on m between one.before aside one.kept;
        held = one.held;
        took = one.took;
        taken = moved-before (control_index board name) (TakesWord from name) m between m' aside one.taken;
        stepped = one.stepped;
      }

  pub serves-after : ServesNode does board from name m between → KeepsAside between m' → ServesNode does board from name m m'
  serves-after one aside =
      record {
        before = one.before;
        kept = one.kept;
        held = one.held;
        took = one.took;
        taken = moved-after (control_index board name) (TakesWord from name) m between m' one.taken aside;
        stepped = stepped-on does board name one.held between m' one.stepped aside;
      }

  -- and after looks it is all that was done
  pub only-before : OnlyLooks m between → (ready : List ReadyNode) → OnlyServes does board from name between m' ready →
      OnlyServes does board from name m m' ready
  only-before looks ready one =
      record {
        before = one.before;
        looks = looks-on m between one.before looks one.looks;
        held = one.held;
        took = one.took;
        steps = one.steps;
      }
