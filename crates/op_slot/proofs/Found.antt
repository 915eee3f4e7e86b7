-- What a hand has after it searched for a free block.
use Rattle.std.proofs.Common.{◌≡◌, ℕ, [], refl, sym, ap, ◌∙◌, subst}
use Rattle.std.specs.Prelude.{Option, Some, None}
use Rattle.std.proofs.lemmas.Bool.{cond-true}
use Rattle.life_rules.specs.declared.event.Name.{Name}
use Rattle.life_rules.specs.Views.{same}
use Rattle.life_rules.proofs.Names.{same-refl}
use Rattle.atomic_table.specs.declared.shared.Seat.{Seat}
use Rattle.table_rules.specs.declared.view.View.{View}
use Rattle.table_rules.specs.declared.view.Owed.{Owed}
use Rattle.table_rules.specs.Named.{find_by}
use Rattle.table_steps.specs.declared.block.Block.{Block}
use Rattle.table_steps.specs.Views.{Board}
use Rattle.table_steps.specs.Claims.{root_name, Claimed}
use Rattle.table_steps.specs.Seats.{Seated}
use Rattle.table_steps.specs.Slots.{slot_of, kept}
use Rattle.op_slot.specs.Searches.{IsMissedBelow, IsFound, IsFoundFrom}
use Rattle.op_slot.specs.Tends.{IsCalm, Owes}
use Rattle.op_slot.proofs.Kept.{kept-first}
use Rattle.op_slot.proofs.Searching.{missed-all-same, missed-from_same}

-- a search leaves a hand that makes no scan so
module _ {P E O : Type 0} (board : Board O) where
  pub searched-calm : (count : ℕ) (old new : Seat (Option P) (View P E)) → IsMissedBelow board count old new → IsCalm old.me → IsCalm new.me
  searched-calm count old new missed calm =
      missed-all-same board (λ (z : Seated P E). z.0.scans) (λ i word z. refl) count old new missed ∙ calm

  -- a block that was claimed after that: the hand owes its root, whose home is empty
  module _ (b : Block) (middle new : Seat (Option P) (View P E)) (claimed : Claimed board b.index b middle new) where
    claimed-calm : IsCalm middle.me → IsCalm new.me
    claimed-calm calm = ap (λ (z : Seated P E). z.0.scans) claimed.me_is ∙ calm

    claimed-owes : (x : Name) → x ≡ root_name board b.index b.generation →
        Owes board.frame x (record { name = x; above = []; lot = [] }) None new.me
    claimed-owes x name =
        let root = root_name board b.index b.generation in
        let owed : Owed E = record { name = root; above = []; lot = [] } in
        subst (λ y. Owes board.frame y (record { name = y; above = []; lot = [] }) None new.me) (sym name)
        (record {
          owes = ap (λ (z : Seated P E). find_by (λ (e : Owed E). e.name) z.0.owed root) claimed.me_is
              ∙ cond-true (same root root) (Some owed) (find_by (λ (e : Owed E). e.name) middle.me.0.owed root) (same-refl root);
          home = ap (λ (z : Seated P E). kept (slot_of board.frame.layout root) z.1) claimed.me_is
              ∙ kept-first (slot_of board.frame.layout root) None middle.me.1;
        })

  module _ (b : Block) (old new : Seat (Option P) (View P E)) (found : IsFound board b old new) where
    pub found-calm : IsCalm old.me → IsCalm new.me
    found-calm calm = claimed-calm b found.middle new found.claimed (searched-calm b.index old found.middle found.missed calm)

    -- the hand owes the root of the block that it found, and the root's home is empty
    pub found-owes : (x : Name) → x ≡ root_name board b.index b.generation →
        Owes board.frame x (record { name = x; above = []; lot = [] }) None new.me
    found-owes x name = claimed-owes b found.middle new found.claimed x name

  -- so it is where the search went round from a block
  module _ (from : ℕ) (b : Block) (old new : Seat (Option P) (View P E)) (found : IsFoundFrom board from b old new) where
    pub round-calm : IsCalm old.me → IsCalm new.me
    round-calm calm =
        claimed-calm b found.middle new found.claimed
        (missed-from_same board (λ (z : Seated P E). z.0.scans) (λ i word z. refl) from found.count old found.middle found.missed ∙ calm)

    pub round-owes : (x : Name) → x ≡ root_name board b.index b.generation →
        Owes board.frame x (record { name = x; above = []; lot = [] }) None new.me
    round-owes x name = claimed-owes b found.middle new found.claimed x name
