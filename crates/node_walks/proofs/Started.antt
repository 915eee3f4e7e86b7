-- What a hand has after it began the root of a block in which a start was placed.
use Rattle.std.proofs.Common.{◌≡◌, List, [], ◌∷◌, refl, sym, ap, ◌∙◌, subst}
use Rattle.std.specs.Prelude.{Some, None}
use Rattle.std.proofs.lemmas.Bool.{cond-true}
use Rattle.life_rules.specs.declared.event.Name.{Name}
use Rattle.life_rules.specs.Views.{same}
use Rattle.life_rules.proofs.Names.{same-refl}
use Rattle.listed_words.specs.Lists.{entry}
use Rattle.plan_shape.specs.Blueprint.{Blueprint}
use Rattle.table_rules.specs.declared.view.Owed.{Owed}
use Rattle.table_rules.specs.Named.{find_by, without}
use Rattle.table_steps.specs.declared.block.Block.{Block}
use Rattle.table_steps.specs.Views.{Board, aimed}
use Rattle.table_steps.specs.Begins.{Begins, CanBegin, notes_start, start_shown}
use Rattle.table_steps.specs.Claims.{root_name}
use Rattle.table_steps.specs.Seats.{Seated}
use Rattle.table_steps.specs.Owing.{Owes}
use Rattle.table_steps.specs.Slots.{AreApart, home_at, kept, slot_of}
use Rattle.table_steps.specs.Steps.{control_index}
use Rattle.op_slot.proofs.Tending.{renewed-same}
use Rattle.home_items.specs.contracts.item.ItemCargo.TheImpl.{ghosts}
use Rattle.home_items.specs.declared.entry.Entry.{Entry}
use Rattle.home_items.specs.declared.item.Item.{Item}
use Rattle.exec_recv.specs.Asides.{Aside, aside_of, KeepsAside}
use Rattle.exec_recv.specs.Beginnings.{OwesNoRoot}
use Rattle.exec_recv.specs.Over.{IsOver}
use Rattle.node_walks.specs.Resting.{CanGoOn}
use Rattle.exec_recv.proofs.Begun.{owed-after}
use Rattle.exec_recv.proofs.BegunAside.{renewed-aside}
use Rattle.node_walks.proofs.Going.{begun-goes}
use Rattle.node_walks.specs.Leaves.{LeavesAside}
use Rattle.node_walks.specs.Starts.{IsStartPlaced, with_started, with_claimed}
use Rattle.node_walks.proofs.Growing.{Grows, grows-one, grows-on, aside-grows, leaves-with, leaves-then, aside-leaves}
use Rattle.node_walks.proofs.Tops.{root-is, root-places}

none-some : {A : Type 0} (e : A) → None ≡ Some e → ⊥
none-some e is = cc

abbrev at_owed : Owed Entry → Name
at_owed e = e.name

module _ (board : Board Blueprint) (b : Block) (env : List Entry) (m m' : Seated Item Entry) (placed : IsStartPlaced board b env m m') where
  abbrev pub x : Name
  x = root_name board b.index b.generation

  abbrev root_owed : Owed Entry
  root_owed = record { name = x; above = []; lot = [] }

  -- it owes the root's start
  pub placed-owes : Owes m'.0 x
  placed-owes =
      record {
        owed = root_owed;
        owes = ap (λ (l : List (Owed Entry)). find_by at_owed l x) placed.owed ∙ cond-true (same x x) (Some root_owed) None (same-refl x);
      }

  -- which it can begin
  pub placed-begins : CanBegin ghosts board.frame m' x
  placed-begins = (placed.only.starts x placed-owes).begin

-- The root of the block began, in which the start was placed.
pub record HasBegun (board : Board Blueprint) (b : Block) (env : List Entry) (m m' : Seated Item Entry) : Type 0 where
  pub plan : Blueprint
  pub over : IsOver board plan
  pub middle : Seated Item Entry
  pub placed : IsStartPlaced board b env m middle
  pub did : Begins ghosts (aimed board.frame (root_name board b.index b.generation)) middle m'
  pub apart : AreApart m'.1

-- so it is where the node that began is the block's root by name
pub has-begun : (board : Board Blueprint) (plan : Blueprint) (b : Block) (env : List Entry) (m middle m' : Seated Item Entry) (name : Name) →
    IsOver board plan → IsStartPlaced board b env m middle → name ≡ root_name board b.index b.generation →
    Begins ghosts (aimed board.frame name) middle m' → AreApart m'.1 → HasBegun board b env m m'
has-begun board plan b env m middle m' name over placed is did apart =
    record {
      plan = plan;
      over = over;
      middle = middle;
      placed = placed;
      did = subst (λ (y : Name). Begins ghosts (aimed board.frame y) middle m') is did;
      apart = apart;
    }

module _ (board : Board Blueprint) (b : Block) (env : List Entry) (m m' : Seated Item Entry) (begun : HasBegun board b env m m') where
  abbrev root : Name
  root = root_name board b.index b.generation

  -- it owes no start any more
  begun-owed : m'.0.owed ≡ []
  begun-owed =
      let owed : Owed Entry = record { name = root; above = []; lot = [] } in
      owed-after board root (root-places board begun.plan begun.over b.index b.generation begun.placed.within) begun.middle m'
      (begun.placed.only.starts root (placed-owes board b env m begun.middle begun.placed)) begun.placed.only.starts begun.did begun.apart
      ∙ ap (λ (l : List (Owed Entry)). without at_owed l root) begun.placed.owed
      ∙ cond-true (same root root) [] (owed ∷ []) (same-refl root)

  owes-none : OwesNoRoot board m'
  owes-none y owes =
      absurd (none-some owes.owed (sym (ap (λ (l : List (Owed Entry)). find_by at_owed l y) begun-owed) ∙ owes.owes))

  -- so it can go on with the root
  pub begun-can : CanGoOn board root m'
  begun-can =
      begun-goes board root begun.middle m' begun.placed.only (placed-owes board b env m begun.middle begun.placed)
      (root-places board begun.plan begun.over b.index b.generation begun.placed.within) begun.did begun.apart owes-none

  -- the start that it noted is that of the environment
  abbrev shown : List Entry
  shown = start_shown ghosts (home_at board.frame.layout begun.did.middle root)

  shown-is : shown ≡ env
  shown-is =
      ap (start_shown ghosts)
      (renewed-same board.frame root begun.middle begun.did.middle begun.did.renewed
      (λ (z : Seated Item Entry). kept (slot_of board.frame.layout root) z.1) (λ i read left z. refl)
      ∙ begun.placed.home)

  renewed : KeepsAside begun.middle begun.did.middle
  renewed = renewed-aside board root begun.middle m' begun.did

  abbrev noting : Aside → Aside
  noting a = record a { noted = record { name = root; start = env } ∷ a.noted }

  begun-aside : aside_of m'.0 ≡ noting (aside_of begun.middle.0)
  begun-aside =
      let before = begun.did.middle.0 in
      ap (λ (z : Seated Item Entry). aside_of z.0) begun.did.began.did.me_is
      ∙ ap (λ t. record (aside_of before) { noted = notes_start t root shown before.noted })
      (root-is board begun.plan begun.over b.index b.generation)
      ∙ ap (λ (s : List Entry). record (aside_of before) { noted = record { name = root; start = s } ∷ before.noted }) shown-is
      ∙ ap noting renewed.same

  begun-grows : Grows begun.middle m'
  begun-grows =
      let at = begun.did.began in
      grows-on begun.middle begun.did.middle m' (aside-grows begun.middle begun.did.middle renewed)
      (grows-one (entry (control_index board root) at.read at.left) begun.did.middle m'
      (ap (λ (z : Seated Item Entry). z.0.steps) at.did.me_is) (ap (λ (z : Seated Item Entry). z.0.seen) at.did.me_is))

  -- and when it has gone on, it has started the operation
  pub started-leaves : (m2 : Seated Item Entry) → KeepsAside m' m2 → LeavesAside (with_started root env (aside_of m.0)) m m2
  started-leaves m2 went =
      leaves-then (λ (a : Aside). a) (with_started root env (aside_of m.0)) m m' m2
      (leaves-then noting (with_claimed (aside_of m.0)) m begun.middle m' begun.placed.leaves
      (leaves-with (noting (aside_of begun.middle.0)) begun.middle m' begun-aside begun-grows))
      (aside-leaves m' m2 went)
