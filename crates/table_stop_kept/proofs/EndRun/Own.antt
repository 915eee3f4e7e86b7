-- The store that removes a callback from inside its own run keeps the rule.
use Rattle.std.proofs.Common.{◌≡◌, ℕ, ◌≤◌, true, not, ◌&&◌, List, set, refl, sym, ap, ◌∙◌, subst, arith}
use Rattle.std.specs.Prelude.{Some, nat_le}
use Rattle.std.proofs.lemmas.Bool.{and_from, le-leb}
use Rattle.life_rules.specs.declared.words.CallbackPhase.{CallbackPhase}
use Rattle.life_rules.specs.declared.words.CallbackPhase.TheVariants.{Removed}
use Rattle.life_rules.specs.declared.event.Name.{Name}
use Rattle.life_rules.specs.declared.event.SourceRef.TheVariants.{Node}
use Rattle.life_rules.specs.Words.{is_held}
use Rattle.life_rules.specs.Views.{is_scanning}
use Rattle.life_rules.specs.States.{State, control_at, phase_at, with_view, with_callback}
use Rattle.life_rules.specs.StopSteps.{run_over}
use Rattle.life_rules.specs.Sound.{Sound}
use Rattle.common_lemmas.proofs.Bool.{one-most}
use Rattle.stop_kept.proofs.Phases.{Writes}
use Rattle.stop_kept.proofs.EndRun.{sound-withdraw_own}
use Rattle.table_words.specs.Stamps.{stamp_of}
use Rattle.table_words.specs.Controls.{callback_read}
use Rattle.table_words.specs.Layouts.{OfCallback, index}
use Rattle.table_rules.specs.declared.cargo.Cargo.{Ghosts}
use Rattle.table_rules.specs.declared.frame.Frame.{Frame}
use Rattle.table_rules.specs.declared.view.Held.{Held}
use Rattle.table_rules.specs.Named.{count_by, Each}
use Rattle.table_rules.specs.ShownWords.{word_of}
use Rattle.table_rules.specs.Scenes.{Scene, shown, scene}
use Rattle.table_rules.specs.Notes.{is_still, IsHeldSo}
use Rattle.table_rules.specs.Running.{Running}
use Rattle.table_steps.specs.Claims.{with_step}
use Rattle.table_steps.specs.Readings.{at_entry}
use Rattle.table_steps.specs.RunEnds.{CanWithdrawOwn, removes_own}
use Rattle.table_kept.proofs.Standing.{Standing}
use Rattle.table_kept.proofs.Among.{among}
use Rattle.table_stop_kept.proofs.Noting.{count-at}
use Rattle.table_stop_kept.proofs.HeldNotes.{each-changed}
use Rattle.table_kept.proofs.LiveNames.{place_of, place-live, name-live}
use Rattle.table_kept.proofs.HeldNow.{Holding, holds-now, others-none}
use Rattle.table_kept.proofs.Asides.{held-aside, known-aside}
use Rattle.table_stop_kept.proofs.EndRun.Runs.{ended-runs, hand_below, live, may-end, written, wrote}

-- which callback is removed as its run ends, and by which word
pub record ToRemoveOwn {P E O : Type 0} {cargo : Ghosts P E O} {f : Frame O}
    (hand : Standing cargo f) : Type 0 where
  pub name : Name
  pub can : CanWithdrawOwn hand.view name
  pub cell : ℕ
  pub number : ℕ
  pub value : ℕ
  pub stamped : stamp_of value ≡ name.generation
  pub reads : callback_read value ≡ Removed

module _ {P E O : Type 0} (cargo : Ghosts P E O) (f : Frame O) (hand : Standing cargo f)
    (task : ToRemoveOwn hand) where
  open hand use {state as s, id, view as v, running as r, at}
  open task use {name as x, can, cell as i, number as n, value, stamped, reads}

  abbrev state : State
  state = shown f s

  abbrev base : Scene P E
  base = scene f s r.past

  abbrev noted : Held E → Held E
  noted e = record e { phase = Some Removed }

  abbrev notes : List (Held E)
  notes = at_entry (λ (e : Held E). e.name) noted x v.held

  noted-counts : (y : Name) → count_by (λ (e : Held E). e.name) notes y ≡ count_by (λ (e : Held E). e.name) v.held y
  noted-counts = count-at (λ (e : Held E). e.name) noted (λ e. refl) x v.held

  abbrev removed : State
  removed = written cargo f hand x can.run notes noted-counts i n value Removed stamped reads

  wrote-removed : Writes state removed x Removed
  wrote-removed = wrote cargo f hand x can.run notes noted-counts i n value Removed stamped reads

  other-still : (y : Name) → (x ≡ y → ⊥) → (known : CallbackPhase) → is_still known (phase_at state y) → is_still known (phase_at removed y)
  other-still y ne known so = subst (is_still known) (sym (wrote-removed.there y (λ e. ne (sym e)))) so

  few : count_by (λ (e : Held E). e.name) v.held x ≤ 1
  few =
      let most = (among f s id v r.sized.seats at).held x in
      let fit = (r.stands.sound.owned.names x).held in
      let single = one-most (is_held (control_at state x)) in
      omega (arith, most, fit, single)

  notes-so : Each (IsHeldSo (record base { state = removed })) notes
  notes-so =
      each-changed (λ (e : Held E). e.name) noted x (IsHeldSo base) (IsHeldSo (record base { state = removed }))
      (λ e is so. record {
        start = so.start;
        named = so.named;
        told = so.told;
        told_children = so.told_children;
        lot = so.lot;
        phase = ap (phase_at removed) is ∙ wrote-removed.here;
        idle = so.idle;
      })
      (λ e ne so.
      held-aside base removed.callback state.source state.scope_source state.scope removed.view (λ t h. h) e
      (other-still e.name (λ is. ne (sym is))) so)
      v.held few (r.stands.views.each id v at).held

  abbrev holding : Holding hand
  holding = record { name = x; entry = can.held; holds = can.holds }

  pub remove-runs : i ≡ index f.layout (OfCallback x.block x.node) → n ≡ word_of f.layout s.words (OfCallback x.block x.node) → Running cargo f record {
    words = set s.words (index f.layout (OfCallback x.block x.node)) value;
    homes = s.homes;
    views = set s.views id (with_step i n value (removes_own f.tree x v));
  }
  remove-runs is was =
      let alive = live cargo f hand x can.run in
      let name = name-live state x alive in
      let w = state.view id in
      ended-runs cargo f hand x can.run notes noted-counts i n value Removed stamped reads (omega arith) is was
      (subst (λ y. Sound (with_view (with_callback state x.block x.node Removed) id (run_over state y w))) name
      (sound-withdraw_own state id (place_of x) r.stands.sound (hand_below cargo f hand x can.run)
      (and_from _ _
      (and_from _ _ (place-live state x alive)
      (subst (λ y. (nat_le 1 (w.runs y) && not (is_scanning w (Node y))) ≡ true) (sym name) (may-end cargo f hand x can.run)))
      (subst (λ y. nat_le 1 (w.holds y) ≡ true) (sym name) (le-leb 1 (w.holds x) (holds-now cargo f hand holding))))))
      (λ j z ne there old.
      known-aside base removed.callback state.source state.scope_source state.scope removed.view (λ t h. h) z
      (λ y counts known so.
      other-still y (λ is. absurd
      (let none = others-none cargo f hand holding j z ne there in
      let c : 1 ≤ count_by (λ (e : Held E). e.name) z.held x = subst (λ y. 1 ≤ count_by (λ (e : Held E). e.name) z.held y) (sym is) counts in
      omega (arith, none, c))) known so) old)
      notes-so
