-- What the steps of rest and take owe and tell, in the contract's words.
use Rattle.std.proofs.Common.{◌≡◌, ◌≢◌, ℕ, ◌<◌, Bool, ◌==◌, List, [], ◌∷◌, refl, sym, ap, ◌∙◌, subst, eq-eqb, eqb-true}
use Rattle.std.proofs.lemmas.Bool.{both_ways}
use mathlib.Core.Option as maybe
use prog.Atomic.{either}
use Rattle.life_rules.specs.declared.words.ControlWord.TheVariants.{Busy}
use Rattle.life_rules.specs.declared.event.Name.{Name}
use Rattle.life_rules.specs.declared.event.Resting.{Resting}
use Rattle.life_rules.specs.declared.event.Resting.TheVariants.{Loop, Pool, Parked}
use Rattle.life_rules.specs.Words.{pending, resting_at}
use Rattle.common_lemmas.proofs.Bool.{either as test}
use Rattle.table_words.specs.Stamps.{stamp_of}
use Rattle.table_words.specs.Controls.{control_read}
use Rattle.table_words.specs.Layouts.{OfControl, index}
use Rattle.atomic_table.specs.Table.{Allows, step}
use Rattle.table_rules.specs.declared.cargo.Cargo.{Ghosts}
use Rattle.table_rules.specs.declared.frame.Frame.{Frame}
use Rattle.table_rules.specs.Running.{Running}
use Rattle.table_steps.specs.Views.{aimed}
use Rattle.table_steps.specs.Lefts.{SaysControl, FoundControl, FindsControl, LeavesControl}
use Rattle.table_steps.specs.Claims.{logged, ListsOne}
use Rattle.table_steps.specs.Seats.{Seated}
use Rattle.table_steps.specs.Slots.{Aim, IsSeated}
use Rattle.table_steps.specs.Rests.{CanRest, RestsAt}
use Rattle.table_steps.specs.Takes.{MayServe, TakenAt, TakesAt, IsTaken, rest_word}
use Rattle.table_kept.proofs.Listing.{AllowsListed, allows-listed, lists-one}
use Rattle.table_kept.proofs.BeginSeats.{seated-logged}
use Rattle.table_life_kept.proofs.Rest.Allowed.{rests_allowed}
use Rattle.table_life_kept.proofs.Take.Allowed.{takes_allowed}

pub rest-pending : (to : Resting) → pending (resting_at to) ≡ 0
rest-pending Loop = refl
rest-pending Pool = refl
rest-pending Parked = refl

module _ {P E O : Type 0} (cargo : Ghosts P E O) where
  -- the store, by the frame that the table shows
  pub rests-at : (board f : Frame O) (slots id i value : ℕ) (x : Name) (to : Resting) (aim : Aim) (m : Seated P E) → board ≡ f →
      i ≡ index board.layout (OfControl x.block x.node) → aim ≡ aimed board x → IsSeated board.tree board.layout m →
      CanRest cargo board m x → stamp_of value ≡ x.generation → control_read value ≡ resting_at to →
      AllowsListed cargo f slots id m i (λ _. value) (λ n. FindsControl aim (Busy 0) (RestsAt aim) i n value m)
  rests-at board f slots id i value x to aim m same i_is aim_is seated can stamped reads =
      allows-listed cargo f slots id m i (λ _. value) (λ n. FindsControl aim (Busy 0) (RestsAt aim) i n value m)
      (λ n m' told. lists-one i n value m m' _ (ap (λ z. z.0) told.did.me_is) refl refl refl refl)
      (subst (λ z. Allows (Running cargo z) slots id m i (λ _. value) (λ n. FindsControl aim (Busy 0) (RestsAt aim) i n value m)) same
      (subst (λ (z : ℕ × Aim). Allows (Running cargo board) slots id m z.0 (λ _. value) (λ n. FindsControl z.1 (Busy 0) (RestsAt z.1) z.0 n value m))
      (λ k. (sym i_is k, sym aim_is k))
      (rests_allowed cargo board slots id value x to m seated can stamped reads)))

  pub rests-told : (board : Frame O) (i read value : ℕ) (x : Name) (to : Resting) (aim : Aim) (m m' : Seated P E) →
      i ≡ index board.layout (OfControl x.block x.node) → aim ≡ aimed board x → stamp_of value ≡ x.generation →
      control_read value ≡ resting_at to → FindsControl aim (Busy 0) (RestsAt aim) i read value m m' →
      LeavesControl (aimed board x) (Busy 0) (resting_at to) (RestsAt (aimed board x)) m m'
  rests-told board i read value x to aim m m' i_is aim_is stamped reads told =
      record {
        read = read;
        left = value;
        found = subst (λ (a : Aim). FoundControl a.name (Busy 0) read) aim_is told.found;
        says = record { stamp_is = stamped; reads = reads };
        did = subst (λ (z : ℕ × Aim). RestsAt z.1 z.0 read value m m') (λ k. (i_is k, aim_is k)) told.did;
      }

  -- the exchange, by the frame that the table shows
  pub takes-at : (board f : Frame O) (slots id i old new : ℕ) (x : Name) (from : Resting) (aim : Aim) (overs : List O) (m : Seated P E) → board ≡ f →
      i ≡ index board.layout (OfControl x.block x.node) → aim ≡ aimed board x → overs ≡ board.over.value ∷ [] →
      x.block < board.layout.blocks → x.node < board.layout.nodes → MayServe from m.0 →
      stamp_of old ≡ x.generation → control_read old ≡ resting_at from → stamp_of new ≡ x.generation → control_read new ≡ Busy 0 →
      AllowsListed cargo f slots id m i (λ n. either (n == old) new n) (TakesAt cargo aim overs (step slots i old new maybe.none) m)
  takes-at board f slots id i old new x from aim overs m same i_is aim_is overs_is hb hn may stamp_old reads_old stamp_new reads_new =
      allows-listed cargo f slots id m i (λ n. either (n == old) new n) (TakesAt cargo aim overs (step slots i old new maybe.none) m)
      (λ n m' told.
      test (n == old)
      (λ t.
      let hit : n ≡ old = eqb-true n old t in
      subst (λ k. ListsOne i n k m m') (sym (ap (λ b. either b new n) t))
      (lists-one i n new m m' _ (ap (λ z. z.0) (told.0 hit).me_is) refl refl refl refl))
      (λ f.
      subst (λ k. ListsOne i n k m m') (sym (ap (λ b. either b new n) f))
      (lists-one i n n m m' m.0 (ap (λ z. z.0) (told.1 (λ e. both_ways (n == old) f (eq-eqb n old e)))) refl refl refl refl)))
      (subst (λ z. Allows (Running cargo z) slots id m i (λ n. either (n == old) new n) (TakesAt cargo aim overs (step slots i old new maybe.none) m)) same
      (subst (λ (z : ℕ × (Aim × List O)). Allows (Running cargo board) slots id m z.0 (λ n. either (n == old) new n)
      (TakesAt cargo z.1.0 z.1.1 (step slots z.0 old new maybe.none) m))
      (λ k. (sym i_is k, (sym aim_is k, sym overs_is k)))
      (takes_allowed cargo board slots id old new x from m hb hn may stamp_old reads_old stamp_new reads_new)))

  -- what it tells
  pub takes-told : (board : Frame O) (slots i old new : ℕ) (x : Name) (from : Resting) (aim : Aim) (overs : List O) (m m' : Seated P E) (was : ℕ) (answer : Bool) →
      i ≡ index board.layout (OfControl x.block x.node) → aim ≡ aimed board x → overs ≡ board.over.value ∷ [] → old ≡ rest_word x from →
      SaysControl x (Busy 0) new → answer ≡ (was == old) → TakesAt cargo aim overs (step slots i old new maybe.none) m was m' → IsTaken cargo board x from answer m m'
  takes-told board slots i old new x from aim overs m m' was answer i_is aim_is overs_is old_is says answer_is told = (
    (λ yes.
        let hit : was ≡ old = eqb-true was old (sym answer_is ∙ yes) in (
          new,
          says,
          subst (λ (z : Aim × (List O × (ℕ × ℕ))). TakenAt cargo z.0 z.1.0 z.1.1.0 z.1.1.1 new m m')
              (λ k. (aim_is k, (overs_is k, (i_is k, (hit ∙ old_is) k)))) (told.0 hit),
        )),
    (λ no.
        let miss : was ≢ old = λ e. both_ways (was == old) (sym answer_is ∙ no) (eq-eqb was old e) in
        (was, (λ e. miss (e ∙ sym old_is)), told.1 miss ∙ ap (λ j. (logged j was m.0, m.1)) i_is)),
  )

  -- the hand still carries each slot once
  pub taken-seated : (aim : Aim) (overs : List O) (slots i old new : ℕ) (m m' : Seated P E) (was : ℕ) →
      TakesAt cargo aim overs (step slots i old new maybe.none) m was m' → IsSeated aim.tree aim.layout m → IsSeated aim.tree aim.layout m'
  taken-seated aim overs slots i old new m m' was told seated =
      test (was == old)
      (λ t. (told.0 (eqb-true was old t)).seated seated)
      (λ f.
      subst (IsSeated aim.tree aim.layout) (sym (told.1 (λ e. both_ways (was == old) f (eq-eqb was old e))))
      (seated-logged aim.tree aim.layout i was m seated))
