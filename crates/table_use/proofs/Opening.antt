-- A node is opened, its callback is registered, and it is parked.
use Rattle.std.proofs.Common.{◌≡◌, ℕ, ◌<◌, true, false, ◌==◌, [], ◌∷◌, arith, refl, sym, ap, ◌∙◌}
use Rattle.std.specs.Prelude.{Option, Some, None, is_some}
use Rattle.std.proofs.lemmas.Bool.{both_ways, cond-false, eq-eqb, ne_eqb}
use Rattle.life_rules.specs.declared.words.CallbackPhase.{CallbackPhase}
use Rattle.life_rules.specs.declared.words.CallbackPhase.TheVariants.{Never, Armed as IsArmed}
use Rattle.life_rules.specs.declared.event.Name.{Name}
use Rattle.life_rules.specs.Views.{same}
use Rattle.life_rules.specs.States.{source_for}
use Rattle.node_tree.specs.Tree.{nearest, has_source}
use Rattle.common_lemmas.proofs.Bool.{either}
use Rattle.life_rules.proofs.Names.{same-other}
use Rattle.atomic_table.specs.declared.shared.Seat.{Seat}
use Rattle.table_rules.specs.declared.view.View.{View}
use Rattle.table_rules.specs.declared.view.Held.{Held}
use Rattle.table_rules.specs.Named.{find_by}
use Rattle.table_words.specs.Layouts.{place_number}
use Rattle.table_steps.specs.Views.{Board, aimed}
use Rattle.table_steps.specs.Begins.{Begins}
use Rattle.table_steps.specs.Callbacks.{CanArm}
use Rattle.table_steps.specs.Seats.{Seated}
use Rattle.table_steps.specs.Readings.{Holds, IsPhaseAs}
use Rattle.table_steps.specs.Rests.{CanRest}
use Rattle.table_steps.specs.Slots.{slot_of, kept}
use Rattle.op_slot.specs.Puts.{CanPut, FitsOwed, IsPut}
use Rattle.op_slot.specs.Tends.{Owes, Tends}
use Rattle.op_slot.proofs.Kept.{find-noted}
use Rattle.op_slot.proofs.Tending.{swapped-owes, swapped-beside, begun-tends, begun-beside, phased-tends}
use Rattle.op_slot.proofs.Leaving.{owes-puts, owes-fits, tends-rests}
use Rattle.stop_calls.specs.declared.arming.Armed.{Armed}
use Rattle.stop_calls.specs.Armings.{IsArmedSo}
use Rattle.table_use.specs.declared.cargo.Item.{Item}
use Rattle.table_use.specs.declared.cargo.Entry.{Entry}
use Rattle.table_use.specs.declared.cargo.Item.TheVariants.{Going}
use Rattle.table_use.specs.declared.cargo.Env.{Env}
use Rattle.table_use.specs.Starts.{entry_at, above_of, path, least_at}
use Rattle.table_use.specs.Uses.{IsNode, IsEnv, OwesNode, HoldsNode, HasNoted, KeepsNotes, KeepsBesideLeaf}
use Rattle.table_use.specs.contracts.cargo.ItemCargo.TheImpl.{ghosts}
use Rattle.table_use.proofs.Nodes.{node-places, leaf-alone}
use Rattle.table_use.proofs.Noted.{swapped-notes, begun-notes, begun-noted}

module _ (board : Board ℕ) (x : Name) (is : IsNode board x) (env : Env) where
  -- the start of an env goes on with that of the parent
  path-is : IsEnv board.frame x env → path env ≡ entry_at env x.node ∷ above_of env x.node
  path-is at = ap (λ n. entry_at env n ∷ above_of env n) at.node

  pub start-fits : (m : Seated Item Entry) → OwesNode board.frame x env m → FitsOwed ghosts board.frame m x (Going env)
  start-fits m owes =
      owes-fits board.frame x m ghosts (Going env) None _ owes.owes (entry_at env x.node) (path-is owes.is) owes.is.step refl owes.is.node (λ e. e)

  pub start-puts : (m : Seated Item Entry) → OwesNode board.frame x env m → CanPut ghosts board.frame m x (Going env)
  start-puts m owes = owes-puts board.frame x m ghosts (Going env) _ owes.owes (start-fits m owes)

-- a node that the hand owed was put into its home, and begun
pub record Opens (board : Board ℕ) (x : Name) (env : Env) (m m1 m2 : Seated Item Entry) : Type 0 where
  pub is : IsNode board x
  pub owes : OwesNode board.frame x env m
  pub put : IsPut board.frame x (Going env) m m1
  pub began : Begins ghosts (aimed board.frame x) m1 m2

module _ {board : Board ℕ} {x : Name} {env : Env} {m m1 m2 : Seated Item Entry} (opens : Opens board x env m m1 m2) where
  open opens use {is, owes, put, began}

  start-put : Owes board.frame x (record { name = x; above = above_of env x.node; lot = [] }) (Some (Going env)) m1
  start-put = swapped-owes board.frame x (Some (Going env)) None m m1 put _ None owes.owes

  pub start-holds : HoldsNode board.frame x env m2
  start-holds =
      record {
        is = owes.is;
        held = _;
        start = refl;
        tends = begun-tends ghosts board.frame x m1 m2 began _ (Going env) (node-places board x is) start-put;
      }

  pub start-beside : KeepsBesideLeaf board.frame x m m2
  start-beside below y owed inside apart has =
      let f = board.frame in
      let other : same x y ≡ false =
      same-other x y (λ e.
      both_ways (slot_of f.layout x == slot_of f.layout y) apart
      (eq-eqb (slot_of f.layout x) (slot_of f.layout y) (ap (slot_of f.layout) e))) in
      begun-beside ghosts f x m1 m2 began y owed inside other (leaf-alone board x is below (slot_of f.layout y))
      (swapped-beside f x (Some (Going env)) None m m1 put y owed inside apart has)

  pub start-number : m2.0.number ≡ m.0.number
  start-number =
      ap (λ (z : Seated Item Entry). z.0.number) began.began.did.me_is
      ∙ either (has_source board.frame.tree x.node) (λ t. ap (λ (z : Seated Item Entry). z.0.number) (began.renewed.0 t).did)
      (λ none. ap (λ (z : Seated Item Entry). z.0.number) (began.renewed.1 none))
      ∙ ap (λ (z : Seated Item Entry). z.0.number) put.me_is

  pub start-notes : x.node < 3 → KeepsNotes m m2
  start-notes below =
      begun-notes board x m1 m2 is began below ∙ swapped-notes board x m m1 (Some (Going env)) None put

  pub start-noted : x.node ≡ 3 → HasNoted x env m2
  start-noted three = begun-noted board x m1 m2 is began three env start-put.home

-- a node that the hand holds
module _ (board : Board ℕ) (x : Name) (is : IsNode board x) (env : Env) where
  module _ (m m1 : Seated Item Entry) (has : HoldsNode board.frame x env m) (phase : CallbackPhase) (read : IsPhaseAs board.frame x phase m m1) where
    abbrev read_held : Held Entry
    read_held = record (has.held) { phase = Some phase }

    pub read-tends : Tends board.frame x read_held (Some (Going env)) (λ _. None) m1
    read-tends = phased-tends board.frame x has.held (Some (Going env)) (λ _. None) m m1 phase read has.tends

    pub read-holds : Holds m1.0 x
    read-holds = record { held = read_held; holds = read-tends.holds }

    pub can-arm : phase ≡ Never → is_some (source_for x (nearest board.frame.tree x.node)) ≡ true → CanArm board.frame.tree m1.0 x
    can-arm never hears =
        record {
          held = read_held;
          holds = read-tends.holds;
          never = ap (λ p. Some p) never;
          hears = hears;
        }

  -- a callback that is registered leaves the homes as they were
  unfoldable pub armed-holds : (m : Seated Item Entry) (phase : CallbackPhase) (old new : Seat (Option Item) (View Item Entry)) →
      IsPhaseAs board.frame x phase m old.me → (answer : Armed) → IsArmedSo board x answer old new → HoldsNode board.frame x env m →
      HoldsNode board.frame x env new.me
  armed-holds m phase old new read answer did has =
      let tends = read-tends m old.me has phase read in
      let held = read_held m old.me has phase read in
      record {
        is = has.is;
        held = record held { phase = Some IsArmed };
        start = has.start;
        tends = record {
          holds =
              ap (λ (z : Seated Item Entry). find_by (λ (e : Held Entry). e.name) z.0.held x) did.looked.2
              ∙ ap (λ (z : Seated Item Entry). find_by (λ (e : Held Entry). e.name) z.0.held x) did.armed.me_is
              ∙ find-noted (λ (e : Held Entry). e.name) (λ (e : Held Entry). record e { phase = Some IsArmed }) (λ e. refl) x old.me.0.held held tends.holds;
          own =
              ap (λ (z : Seated Item Entry). kept (slot_of board.frame.layout x) z.1) did.looked.2
              ∙ ap (λ (z : Seated Item Entry). kept (slot_of board.frame.layout x) z.1) did.armed.me_is ∙ tends.own;
          kids = λ n child.
              ap (λ (z : Seated Item Entry). kept (place_number board.frame.layout x.block n) z.1) did.looked.2
              ∙ ap (λ (z : Seated Item Entry). kept (place_number board.frame.layout x.block n) z.1) did.armed.me_is
              ∙ tends.kids n child;
        };
      }

  pub can-park : (m : Seated Item Entry) → m.0.scans ≡ [] → HoldsNode board.frame x env m → x.node < 2 → CanRest ghosts board.frame m x
  can-park m calm has low =
      let at = has.is.node in
      let none : least_at env.node ≡ 0 = cond-false (env.node == 3) 1 0 (ne_eqb env.node 3 (λ e. absurd (omega (arith, at, low, e)))) in
      tends-rests ghosts board.frame x m has.held (λ _. None) calm (λ n child. refl) (Going env) has.tends
      (record { start = sym has.start; fit = has.is.node; goes_on = λ e. e }) (omega (arith, none)) tt
