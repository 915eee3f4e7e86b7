-- A source of an operation in which a hand has a part is there still: a request that was seen on it stands.
use Rattle.std.proofs.Common.{◌≡◌, ℕ, ◌≤◌, true, false, not, refl, arith}
use Rattle.std.proofs.lemmas.Bool.{and_parts}
use Rattle.life_rules.specs.declared.words.ControlWord.{ControlWord}
use Rattle.life_rules.specs.declared.words.ControlWord.TheVariants.{Idle, Busy, ReadyLoop, ReadyPool, Parked, Done}
use Rattle.life_rules.specs.declared.event.Name.{Name}
use Rattle.life_rules.specs.declared.event.SourceRef.{SourceRef}
use Rattle.life_rules.specs.declared.event.SourceRef.TheVariants.{Scope, Node}
use Rattle.node_tree.specs.Tree.{is_root}
use Rattle.life_rules.specs.Words.{is_idle, is_done}
use Rattle.life_rules.specs.Views.{beside}
use Rattle.life_rules.specs.States.{State, is_live, control_at, bits_at}
use Rattle.life_rules.proofs.Readings.{begun-live}
use Rattle.common_lemmas.proofs.Bool.{one-is}
use Rattle.table_rules.specs.declared.cargo.Cargo.{Ghosts}
use Rattle.table_rules.specs.declared.frame.Frame.{Frame}
use Rattle.table_rules.specs.Named.{count_by}
use Rattle.table_rules.specs.ShownViews.{has_source_ref}
use Rattle.table_rules.specs.Scenes.{shown}
use Rattle.table_steps.specs.Sights.{HasPartIn, ByNode, ByStart, ByReport, ByRun, ByRoot, KeepsAlive}
use Rattle.table_kept.proofs.Standing.{Standing}
use Rattle.table_kept.proofs.Entries.{found}
use Rattle.table_kept.proofs.Among.{among}
use Rattle.table_kept.proofs.HeldNow.{Holding, held}
use Rattle.table_stop_kept.proofs.Run.Live.{run-live}
use Rattle.table_kept.proofs.SeenStands.{seen-anywhere, seen-at, beside-present}

done-begun : (w : ControlWord) → is_done w ≡ true → is_idle w ≡ false
done-begun Idle d = cc
done-begun (Busy n) d = refl
done-begun ReadyLoop d = refl
done-begun ReadyPool d = refl
done-begun Parked d = refl
done-begun Done d = refl

module _ {P E O : Type 0} (cargo : Ghosts P E O) (f : Frame O) (hand : Standing cargo f) where
  open hand use {state as s, id, view as v, running as r, at}

  abbrev now : State
  now = shown f s

  done-live : (y : Name) → is_done (control_at now y) ≡ true → is_live now y ≡ true
  done-live y done = begun-live now y (done-begun (control_at now y) done)

  start-live : (y : Name) → 1 ≤ count_by (λ e. e.name) v.owed y → is_live now y ≡ true
  start-live y counts =
      let most = (among f s id v r.sized.seats at).owed y in
      let fit = (r.stands.sound.owned.names y).start in
      (and_parts (is_live now y) (is_idle (control_at now y)) (one-is (omega (arith, counts, most, fit)))).0

  report-live : (y : Name) → 1 ≤ count_by (λ e. e.name) v.reported y → is_live now y ≡ true
  report-live y counts =
      let most = (among f s id v r.sized.seats at).reported y in
      let fit = (r.stands.sound.owned.names y).report in
      done-live y
      (and_parts (is_done (control_at now y)) (not (is_root f.tree y.node)) (one-is (omega (arith, counts, most, fit)))).0

  root-live : (y : Name) → 1 ≤ count_by (λ e. e) v.finished y → is_live now y ≡ true
  root-live y counts =
      let most = (among f s id v r.sized.seats at).finished y in
      let fit = (r.stands.sound.owned.names y).finish in
      done-live y
      (and_parts (is_done (control_at now y)) (is_root f.tree y.node) (one-is (omega (arith, counts, most, fit)))).0

  -- a node of the operation is live
  pub part-live : (x : Name) → HasPartIn v x → (node : ℕ) × (is_live now (beside x node) ≡ true)
  part-live x (ByNode node e is) =
      let holding : Holding hand = record { name = beside x node; entry = e; holds = is } in
      (node, (held cargo f hand holding).live)
  part-live x (ByStart node e is) =
      (node, start-live (beside x node) (found (λ e. e.name) v.owed (beside x node) e is).counts)
  part-live x (ByReport node e is) =
      (node, report-live (beside x node) (found (λ e. e.name) v.reported (beside x node) e is).counts)
  part-live x (ByRun node runs) = (node, run-live cargo f hand (beside x node) runs)
  part-live x (ByRoot node counts) = (node, root-live (beside x node) counts)

  pub seen-stays : (source : SourceRef) → has_source_ref v.seen source ≡ true → KeepsAlive v source →
      (bits_at now source).requested ≡ true
  seen-stays Scope seen alive = seen-anywhere cargo f s id v r at seen
  seen-stays (Node x) seen alive =
      let part = part-live x alive in
      seen-at cargo f hand (beside x part.0) part.1 (Node x)
      (beside-present cargo f hand (beside x part.0) part.1 x.node) seen
