-- A node below the root is finished with a completion.
use Rattle.std.proofs.Common.{◌≡◌, ℕ, ◌<◌, arith, refl, sym, ap, ◌∙◌}
use Rattle.std.specs.Prelude.{Option, Some, None}
use Rattle.life_rules.specs.declared.words.CallbackPhase.{CallbackPhase}
use Rattle.life_rules.specs.declared.words.CallbackPhase.TheVariants.{Never}
use Rattle.life_rules.specs.declared.words.ControlWord.TheVariants.{Busy, Done as IsDone}
use Rattle.life_rules.specs.declared.event.Name.{Name}
use Rattle.table_rules.specs.declared.view.Held.{Held}
use Rattle.table_steps.specs.Views.{Board, aimed}
use Rattle.table_steps.specs.Seats.{Seated}
use Rattle.table_steps.specs.Finishes.{CanFinish, FinishesAt, FinishedAt}
use Rattle.table_steps.specs.Readings.{Holds, IsPhaseAs}
use Rattle.table_steps.specs.Lefts.{LeavesControl}
use Rattle.op_slot.specs.Puts.{CanPut, IsPut, IsTakenOut}
use Rattle.op_slot.specs.Tends.{IsCalm, Tends}
use Rattle.op_slot.proofs.Tending.{swapped-calm, swapped-own, swapped-beside, phased-tends, phased-calm, phased-beside}
use Rattle.op_slot.proofs.Leaving.{tends-puts, tends-finishes, finished-owes, finished-beside}
use Rattle.table_use.specs.declared.cargo.Item.{Item}
use Rattle.table_use.specs.declared.cargo.Entry.{Entry}
use Rattle.table_use.specs.declared.cargo.Item.TheVariants.{Going, Kept, Done, Failed}
use Rattle.table_use.specs.Starts.{env_of, least_of, Ends, FitsAt}
use Rattle.table_use.specs.Uses.{IsNode, control_at, HoldsNode, JustEnded, KeepsBesideLeaf}
use Rattle.table_use.specs.contracts.cargo.ItemCargo.TheImpl.{ghosts}
use Rattle.table_use.proofs.Nodes.{node-places, node-inner, leaf-family}

inside-same : (a b : Item) → Some (Some a) ≡ Some (Some b) → a ≡ b
inside-same a b e = cc

-- a completion asks for no children
ended-least : (item : Item) → Ends item → least_of item ≡ 0
ended-least (Going env) ends = absurd ends
ended-least (Kept env value) ends = absurd ends
ended-least (Done env value) ends = refl
ended-least (Failed env) ends = refl

-- a node that the hand holds, with the start of this item, had its home emptied
pub record EmptiesHome (board : Board ℕ) (x : Name) (item : Item) (m m1 : Seated Item Entry) : Type 0 where
  pub is : IsNode board x
  pub has : HoldsNode board.frame x (env_of item) m
  pub out : Option Item
  pub took : IsTakenOut board.frame x out m m1

module _ {board : Board ℕ} {x : Name} {item : Item} {m m1 : Seated Item Entry}
    (empties : EmptiesHome board x item m m1) where
  open empties use {is, has, out, took}

  emptied : Tends board.frame x has.held None (λ _. None) m1
  emptied = swapped-own board.frame x None out m m1 took has.held (Some (Going (env_of item))) (λ _. None) (node-places board x is) has.tends

  pub can-fill : FitsAt item x.node → CanPut ghosts board.frame m1 x item
  can-fill fits = tends-puts board.frame x m1 has.held None (λ _. None) emptied ghosts item refl (sym has.start) fits

  module _ {m2 : Seated Item Entry} (put : IsPut board.frame x item m1 m2) where
    filled : Tends board.frame x has.held (Some item) (λ _. None) m2
    filled = swapped-own board.frame x (Some item) None m1 m2 put has.held None (λ _. None) (node-places board x is) emptied

    pub filled-holds : Holds m2.0 x
    filled-holds = record { held = has.held; holds = filled.holds }

    module _ (m3 : Seated Item Entry) (phase : CallbackPhase) (read : IsPhaseAs board.frame x phase m2 m3) where
      abbrev read_held : Held Entry
      read_held = record (has.held) { phase = Some phase }

      ready : Tends board.frame x read_held (Some item) (λ _. None) m3
      ready = phased-tends board.frame x has.held (Some item) (λ _. None) m2 m3 phase read filled

      pub ready-holds : Holds m3.0 x
      ready-holds = record { held = read_held; holds = ready.holds }

      still-calm : IsCalm m → IsCalm m3
      still-calm calm =
          phased-calm board.frame x has.held (Some item) (λ _. None) m2 m3 phase read
          (swapped-calm board.frame x (Some item) None m1 m2 put (swapped-calm board.frame x None out m m1 took calm))

      pub can-finish : IsCalm m → phase ≡ Never → Ends item → FitsAt item x.node → CanFinish ghosts board.frame m3 x
      can-finish calm never ends fits =
          let none = ended-least item ends in
          tends-finishes ghosts board.frame x m3 read_held (λ _. None) (still-calm calm) (λ n child. refl) item Never ready
          (ap (λ p. Some p) never) refl (omega (arith, none)) (sym has.start) fits ends

      module _ (inner : x.node < 3) (m4 : Seated Item Entry) (did : LeavesControl (aimed board.frame x) (Busy 0) IsDone (FinishesAt ghosts (aimed board.frame x)) m3 m4) where
        finished : FinishedAt ghosts (aimed board.frame x) (control_at board.frame x) did.read did.left m3 m4
        finished = did.did.0 (node-inner board x is inner)

        pub just-ended : JustEnded board.frame x item m4
        just-ended =
            record {
              has = record {
                entry = _;
                owes = finished-owes board.frame x m3 m4 (control_at board.frame x) did.read did.left ghosts finished;
                item_is = inside-same finished.item item (sym finished.home ∙ ready.own);
              };
              read = did.read;
              left = did.left;
              earlier = m3.0.steps;
              steps_are = ap (λ (z : Seated Item Entry). z.0.steps) finished.me_is;
              done = did.says;
            }

        pub ended-beside : KeepsBesideLeaf board.frame x m m4
        ended-beside low y owed inside apart owes =
            let f = board.frame in
            finished-beside f x m3 m4 (control_at board.frame x) did.read did.left ghosts finished y owed inside (leaf-family board x is low y apart)
            (phased-beside f x phase m2 m3 read y owed inside
            (swapped-beside f x (Some item) None m1 m2 put y owed inside apart
            (swapped-beside f x None out m m1 took y owed inside apart owes)))
