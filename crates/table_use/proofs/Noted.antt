-- What a hand has noted of roots: a begin of a root adds to it, and other steps leave it.
use Rattle.std.proofs.Common.{◌≡◌, ℕ, ◌<◌, Bool, true, false, if◌then◌else◌, List, refl, ap, ◌∙◌}
use Rattle.std.specs.Prelude.{Option, Some}
use Rattle.std.proofs.lemmas.Bool.{cond-true}
use Rattle.life_rules.specs.declared.words.CallbackPhase.{CallbackPhase}
use Rattle.life_rules.specs.declared.event.Name.{Name}
use Rattle.node_tree.specs.Tree.{has_source}
use Rattle.life_rules.specs.Views.{same}
use Rattle.common_lemmas.proofs.Bool.{either}
use Rattle.life_rules.proofs.Names.{same-refl}
use Rattle.table_rules.specs.declared.view.View.{View}
use Rattle.table_rules.specs.declared.view.Rooted.{Rooted}
use Rattle.table_rules.specs.Named.{find_by}
use Rattle.table_steps.specs.declared.report.Report.{Report}
use Rattle.table_steps.specs.declared.report.Report.TheVariants.{Last, Others}
use Rattle.table_steps.specs.Views.{Board, aimed}
use Rattle.table_steps.specs.Awaits.{AwaitsAt}
use Rattle.table_steps.specs.Begins.{Begins, notes_start, start_shown}
use Rattle.table_steps.specs.Seats.{Seated}
use Rattle.table_steps.specs.Finishes.{FinishesAt}
use Rattle.table_steps.specs.Readings.{above_it, says_begun, notes_idle, IsBegunAs, IsPhaseAs}
use Rattle.table_steps.specs.Reports.{IsReportedAs}
use Rattle.table_steps.specs.Rests.{RestsAt}
use Rattle.table_steps.specs.Slots.{slot_of, kept}
use Rattle.table_steps.specs.Swaps.{IsSwapped}
use Rattle.table_use.specs.declared.cargo.Entry.{Entry}
use Rattle.table_use.specs.declared.cargo.Env.{Env}
use Rattle.table_use.specs.declared.cargo.Item.{Item}
use Rattle.table_use.specs.declared.cargo.Item.TheVariants.{Going}
use Rattle.table_use.specs.Uses.{IsNode, HasNoted, KeepsNotes}
use Rattle.table_use.specs.contracts.cargo.ItemCargo.TheImpl.{ghosts}
use Rattle.table_use.proofs.Nodes.{node-inner, node-root}

-- what a load of a child's word tells is no note of a root
idle-notes : (b : Bool) (x : Name) (n : ℕ) (v : View Item Entry) → (if b then v else notes_idle x n v).noted ≡ v.noted
idle-notes true x n v = refl
idle-notes false x n v = refl

module _ (board : Board ℕ) (x : Name) (m m1 : Seated Item Entry) where
  pub swapped-notes : (new old : Option Item) → IsSwapped board.frame x new old m m1 → KeepsNotes m m1
  swapped-notes new old did = ap (λ (z : Seated Item Entry). z.0.noted) did.me_is

  pub read-notes : (answer : Bool) → IsBegunAs board.frame x answer m m1 → KeepsNotes m m1
  read-notes answer did =
      ap (λ (z : Seated Item Entry). z.0.noted) did.2
      ∙ idle-notes (says_begun x.generation did.0) (above_it board.frame.tree x) x.node m.0

  pub phased-notes : (answer : CallbackPhase) → IsPhaseAs board.frame x answer m m1 → KeepsNotes m m1
  phased-notes answer did = ap (λ (z : Seated Item Entry). z.0.noted) did.2

  pub reported-notes : (answer : Report) → IsReportedAs ghosts board.frame x answer m m1 → KeepsNotes m m1
  reported-notes Last did = ap (λ (z : Seated Item Entry). z.0.noted) did.4.me_is
  reported-notes Others did = ap (λ (z : Seated Item Entry). z.0.noted) did.4

  pub awaited-notes : (nodes : List ℕ) (i read left : ℕ) → AwaitsAt ghosts (aimed board.frame x) nodes i read left m m1 → KeepsNotes m m1
  awaited-notes nodes i read left did = ap (λ (z : Seated Item Entry). z.0.noted) did.me_is

  pub rested-notes : (i read left : ℕ) → RestsAt (aimed board.frame x) i read left m m1 → KeepsNotes m m1
  rested-notes i read left did = ap (λ (z : Seated Item Entry). z.0.noted) did.me_is

  module _ (is : IsNode board x) where
    pub finished-notes : (i read left : ℕ) → x.node < 3 → FinishesAt ghosts (aimed board.frame x) i read left m m1 → KeepsNotes m m1
    finished-notes i read left below did = ap (λ (z : Seated Item Entry). z.0.noted) (did.0 (node-inner board x is below)).me_is

    module _ (did : Begins ghosts (aimed board.frame x) m m1) where
      renewed : (did.middle.0.noted ≡ m.0.noted) × (did.middle.1 ≡ m.1)
      renewed =
          either (has_source board.frame.tree x.node)
          (λ t.
          let is = (did.renewed.0 t).did in
          (ap (λ (z : Seated Item Entry). z.0.noted) is, ap (λ (z : Seated Item Entry). z.1) is))
          (λ none.
          let is = did.renewed.1 none in
          (ap (λ (z : Seated Item Entry). z.0.noted) is, ap (λ (z : Seated Item Entry). z.1) is))

      -- a node below the root begins
      pub begun-notes : x.node < 3 → KeepsNotes m m1
      begun-notes below =
          ap (λ (z : Seated Item Entry). z.0.noted) did.began.did.me_is
          ∙ ap (λ b. notes_start b x (start_shown ghosts (kept (slot_of board.frame.layout x) did.middle.1)) did.middle.0.noted)
          (node-inner board x is below)
          ∙ renewed.0

      -- the root begins
      pub begun-noted : x.node ≡ 3 → (env : Env) → kept (slot_of board.frame.layout x) m.1 ≡ Some (Some (Going env)) → HasNoted x env m1
      begun-noted three env home =
          let slot = slot_of board.frame.layout x in
          let old = did.middle.0.noted in
          let shown = start_shown ghosts (kept slot did.middle.1) in
          let entry : Rooted Entry = record { name = x; start = shown } in
          ap (λ (z : Seated Item Entry). find_by (λ (e : Rooted Entry). e.name) z.0.noted x) did.began.did.me_is
          ∙ ap (λ b. find_by (λ (e : Rooted Entry). e.name) (notes_start b x shown old) x) (node-root board x is three)
          ∙ cond-true (same x x) (Some entry) (find_by (λ (e : Rooted Entry). e.name) old x) (same-refl x)
          ∙ ap (λ h. Some (record { name = x; start = start_shown ghosts h })) (ap (kept slot) renewed.1 ∙ home)

-- what it has noted it still has, where a step leaves the notes
pub noted-still : (x : Name) (m m1 : Seated Item Entry) (env : Env) → KeepsNotes m m1 → HasNoted x env m → HasNoted x env m1
noted-still x m m1 env keeps noted = ap (λ (l : List (Rooted Entry)). find_by (λ e. e.name) l x) keeps ∙ noted
