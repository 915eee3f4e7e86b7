-- A root that was taken again ends.
use Rattle.std.proofs.Common.{◌≡◌, ℕ, ◌+◌, true, List, [], ◌∷◌, refl, sym, ap, ◌∙◌, subst}
use Rattle.std.specs.Prelude.{Option, Some, None, is_some}
use Rattle.life_rules.specs.declared.words.CallbackPhase.{CallbackPhase}
use Rattle.life_rules.specs.declared.words.CallbackPhase.TheVariants.{Never}
use Rattle.life_rules.specs.declared.event.Name.{Name}
use Rattle.table_rules.specs.declared.view.Held.{Held}
use Rattle.table_steps.specs.Views.{Board, aimed}
use Rattle.table_steps.specs.Seats.{Seated}
use Rattle.table_steps.specs.Finishes.{CanFinish, FinishesAt}
use Rattle.table_steps.specs.Readings.{Holds, IsPhaseAs}
use Rattle.table_steps.specs.Releases.{CanRelease, ReleasesAt}
use Rattle.table_steps.specs.Swaps.{HasHome}
use Rattle.table_steps.specs.Takes.{TakenAt}
use Rattle.op_slot.specs.Puts.{CanPut, IsPut, IsTakenOut}
use Rattle.op_slot.specs.Tends.{IsCalm, Tends}
use Rattle.op_slot.proofs.Tending.{swapped-calm, swapped-old, swapped-own, phased-tends, phased-calm, taken-calm, taken-tends, held_as}
use Rattle.op_slot.proofs.Leaving.{tends-home, tends-puts, root-finishes, rooted-calm, rooted-releases}
use Rattle.table_use.specs.declared.cargo.Entry.{Entry}
use Rattle.table_use.specs.declared.cargo.Env.{Env}
use Rattle.table_use.specs.declared.cargo.Item.{Item}
use Rattle.table_use.specs.declared.cargo.Item.TheVariants.{Kept}
use Rattle.table_use.specs.Starts.{start_of, FitsAt, key_of}
use Rattle.table_use.specs.Uses.{IsNode, IsNotedNumber}
use Rattle.table_use.specs.contracts.cargo.ItemCargo.TheImpl.{ghosts}
use Rattle.table_use.proofs.Nodes.{node-places, node-root}

some-same : (a b : Item) → Some a ≡ Some b → a ≡ b
some-same a b e = cc

abbrev number_in : List Entry → ℕ
number_in [] = 0
number_in (e ∷ es) = e.number

-- a root was taken again
pub record TakesAgain (board : Board ℕ) (x : Name) (m m1 : Seated Item Entry) : Type 0 where
  pub is : IsNode board x
  pub three : x.node ≡ 3
  pub calm : IsCalm m
  pub at : ℕ
  pub word : ℕ
  pub taken : ℕ
  pub took : TakenAt ghosts (aimed board.frame x) (board.frame.over.value ∷ []) at word taken m m1

-- it is emptied, finished and given back
module _ {board : Board ℕ} {x : Name} {m m1 : Seated Item Entry} (again : TakesAgain board x m m1) where
  open again use {is, three, calm, at as i, word, taken, took}

  abbrev taken_held : Held Entry
  taken_held = held_as x took.start took.named took.told took.told_children None

  again-tends : Tends board.frame x taken_held (Some took.item) (λ _. None) m1
  again-tends = taken-tends ghosts board.frame x m m1 (board.frame.over.value ∷ []) i word taken took (node-places board x is)

  pub again-home : HasHome board.frame.layout m1 x
  again-home = tends-home board.frame x m1 taken_held (Some took.item) (λ _. None) again-tends

  module _ {m2 : Seated Item Entry} {o : Option Item} (out : IsTakenOut board.frame x o m1 m2) where
    empty-tends : Tends board.frame x taken_held None (λ _. None) m2
    empty-tends = swapped-own board.frame x None o m1 m2 out taken_held (Some took.item) (λ _. None) (node-places board x is) again-tends

    again-item : o ≡ Some took.item
    again-item = swapped-old board.frame x None o m1 m2 out (Some took.item) again-tends.own

    pub again-full : is_some o ≡ true
    again-full = ap is_some again-item

    -- it can be put back
    pub again-puts : (item : Item) → o ≡ Some item → CanPut ghosts board.frame m2 x item
    again-puts item some =
        subst (λ i. CanPut ghosts board.frame m2 x i) (some-same took.item item (sym again-item ∙ some))
        (tends-puts board.frame x m2 taken_held None (λ _. None) empty-tends ghosts took.item refl took.shows took.fit)

    pub again-back : (m3 : Seated Item Entry) (item : Item) → IsPut board.frame x item m2 m3 → Holds m3.0 x
    again-back m3 item put =
        let has = swapped-own board.frame x (Some item) None m2 m3 put taken_held None (λ _. None) (node-places board x is) empty-tends in
        record { held = taken_held; holds = has.holds }

    pub again-held : Holds m2.0 x
    again-held = record { held = taken_held; holds = empty-tends.holds }

    -- what it kept is right
    pub again-value : (env : Env) (v : ℕ) → o ≡ Some (Kept env v) → v ≡ env.number + board.frame.over.value
    again-value env v said =
        let item : took.item ≡ Kept env v =
        some-same took.item (Kept env v) (sym again-item ∙ said) in
        let fit = subst (λ j. FitsAt j x.node) item took.fit in
        let step : env.step ≡ board.frame.over.value = sym (ap (λ j. key_of (start_of j)) item) ∙ (ap key_of took.shows ∙ took.key.0) in
        fit.1 ∙ ap (λ s. env.number + s) step

    -- and it is of the number for which the root began
    pub again-number : (env : Env) (v : ℕ) → o ≡ Some (Kept env v) → IsNotedNumber x m env.number
    again-number env v said noted has =
        let item : took.item ≡ Kept env v = some-same took.item (Kept env v) (sym again-item ∙ said) in
        ap number_in (sym (ap start_of item) ∙ took.shows ∙ took.noted _ has)

    module _ (m3 : Seated Item Entry) (phase : CallbackPhase) (read : IsPhaseAs board.frame x phase m2 m3) where
      again-read : Tends board.frame x (record taken_held { phase = Some phase }) None (λ _. None) m3
      again-read = phased-tends board.frame x taken_held None (λ _. None) m2 m3 phase read empty-tends

      pub again-still : Holds m3.0 x
      again-still = record { held = record taken_held { phase = Some phase }; holds = again-read.holds }

      again-calm : IsCalm m3
      again-calm =
          phased-calm board.frame x taken_held None (λ _. None) m2 m3 phase read
          (swapped-calm board.frame x None o m1 m2 out (taken-calm ghosts board.frame x m m1 (board.frame.over.value ∷ []) i word taken took calm))

      pub again-finishes : phase ≡ Never → CanFinish ghosts board.frame m3 x
      again-finishes never =
          root-finishes ghosts board.frame x m3 (record taken_held { phase = Some phase }) (λ _. None) again-calm (λ n child. refl) Never
          again-read (ap (λ p. Some p) never) refl (node-root board x is three)

      module _ (m4 : Seated Item Entry) (j was done : ℕ) (did : FinishesAt ghosts (aimed board.frame x) j was done m3 m4) where
        pub again-releases : CanRelease board.frame.layout m4 x
        again-releases =
            rooted-releases board.frame x m3 m4 j was done (did.1 (node-root board x is three)) (record taken_held { phase = Some phase }) (λ _. None)
            (node-places board x is) again-read

        pub again-ends : (m5 : Seated Item Entry) (name : Name) (k opened free : ℕ) → ReleasesAt (aimed board.frame name) k opened free m4 m5 → IsCalm m5
        again-ends m5 name k opened free gave =
            ap (λ (z : Seated Item Entry). z.0.scans) gave.me_is
            ∙ rooted-calm board.frame x m3 m4 j was done (did.1 (node-root board x is three)) again-calm
