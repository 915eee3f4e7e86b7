-- The rule says that as many children of a node that waits for none are done as its last await named,
-- and that no item asks for more.
use Rattle.std.proofs.Common.{◌≡◌, ℕ, ◌≤◌, true, false, refl, sym, ap, ◌∙◌, arith}
use Rattle.std.specs.Prelude.{Option, Some}
use Rattle.std.proofs.lemmas.Bool.{and_from, cond-true, lt-ltb}
use Rattle.std.proofs.lemmas.Option.{same_Some}
use lib.ListN.{get_elem?}
use Rattle.life_rules.specs.declared.words.ControlWord.{ControlWord}
use Rattle.life_rules.specs.declared.words.ControlWord.TheVariants.{Idle, Busy, ReadyLoop, ReadyPool, Parked, Done}
use Rattle.life_rules.specs.declared.event.Name.{Name}
use Rattle.node_tree.specs.Tree.{is_root}
use Rattle.life_rules.specs.Words.{is_idle, is_done}
use Rattle.life_rules.specs.States.{State, is_live, control_at}
use Rattle.life_rules.proofs.Readings.{lives, begun-live}
use Rattle.life_kept.proofs.Fitting.{done-word}
use Rattle.table_words.specs.Layouts.{place_number}
use Rattle.atomic_table.specs.Table as table
use Rattle.table_rules.specs.declared.cargo.Cargo.{Ghosts}
use Rattle.table_rules.specs.declared.frame.Frame.{Frame}
use Rattle.table_rules.specs.declared.view.View.{View}
use Rattle.table_rules.specs.declared.view.Held.{Held}
use Rattle.table_rules.specs.declared.view.Reported.{Reported}
use Rattle.table_rules.specs.Named.{find_by}
use Rattle.table_rules.specs.ShownWords.{is_there}
use Rattle.table_rules.specs.Scenes.{Empty, Full, home_in, Scene, shown, scene}
use Rattle.table_rules.specs.Homes.{is_waiting, is_resting, done_below}
use Rattle.table_rules.specs.Notes.{IsReportedSo}
use Rattle.table_rules.specs.Running.{Running}
use Rattle.table_kept.proofs.Standing.{Standing}
use Rattle.table_kept.proofs.Entries.{found, each-found}
use Rattle.table_kept.proofs.HeldNow.{Holding, held, named-so}
use Rattle.table_laws.specs.Laws.{Has}
use Rattle.table_laws.specs.Bounds.{LiesAtHome, EndedWithAll, EndWithAll, FinishWithAll, HoldWithAll, RestWithAll}

record IsAtRest (c : ControlWord) : Type 0 where
  begun : is_idle c ≡ false
  waits : is_waiting c ≡ false

rests-so : (c : ControlWord) → is_resting c ≡ true → IsAtRest c
rests-so Idle r = cc
rests-so (Busy n) r = cc
rests-so ReadyLoop r = record { begun = refl; waits = refl }
rests-so ReadyPool r = record { begun = refl; waits = refl }
rests-so Parked r = record { begun = refl; waits = refl }
rests-so Done r = cc

module _ {P E O : Type 0} (cargo : Ghosts P E O) (f : Frame O) (s : table.State (Option P) (View P E)) (r : Running cargo f s) where
  abbrev now : State
  now = shown f s

  abbrev here : Scene P E
  here = scene f s r.past

  -- what lies in the home of a node that has begun, the rule sees there
  home-shown : (x : Name) (item : P) → is_live now x ≡ true → LiesAtHome f s x item → here.home x.block x.node ≡ Full item
  home-shown x item live lies =
      let l = lives now x live in
      let n = l.node in
      let e = r.frame.nodes in
      let there : is_there f.layout x.block x.node ≡ true =
      and_from _ _ (lt-ltb x.block f.layout.blocks l.block) (lt-ltb x.node f.layout.nodes (omega (arith, n, e))) in
      cond-true (is_there f.layout x.block x.node) (home_in (get_elem? s.homes (place_number f.layout x.block x.node))) Empty there
      ∙ ap home_in lies

  held-with : (h : ℕ) (v : View P E) (x : Name) (e : Held E) → Has s h v → find_by (λ e. e.name) v.held x ≡ Some e →
      e.named ≤ done_below now x
  held-with h v x e at holds =
      let hand : Standing cargo f = record { state = s; id = h; view = v; running = r; at = at } in
      let holding : Holding hand = record { name = x; entry = e; holds = holds } in
      let own = held cargo f hand holding in
      let named = named-so cargo f hand holding in
      let met = r.stands.homes.met x (ap is_idle own.word) (ap is_waiting own.word) in
      omega (arith, named, met)

  rests-with : (x : Name) (item : P) → is_resting (control_at now x) ≡ true → LiesAtHome f s x item → cargo.least item ≤ done_below now x
  rests-with x item rests lies =
      let so = rests-so (control_at now x) rests in
      let live = begun-live now x so.begun in
      let bound = r.stands.items.bound x item live (home-shown x item live lies) in
      let met = r.stands.homes.met x so.begun so.waits in
      omega (arith, bound, met)

  module _ (x : Name) (done : is_done (control_at now x) ≡ true) (below : is_root f.tree x.node ≡ false) where
    delivered-to : (h : ℕ) (v : View P E) (e : Reported P E) → Has s h v → find_by (λ e. e.name) v.reported x ≡ Some e →
        r.past.delivered x ≡ Some e.item
    delivered-to h v e at owes =
        let so : IsReportedSo here e =
        each-found (IsReportedSo here) (λ (e : Reported P E). e.name) v.reported x e owes (r.stands.views.each h v at).reported in
        ap r.past.delivered (sym (found (λ (e : Reported P E). e.name) v.reported x e owes).name_is) ∙ so.1

    ended-with : EndedWithAll cargo f s x
    ended-with =
        let t = r.stands.items.ended x done below in
        let word = done-word (control_at now x) done in
        let begun = ap is_idle word in
        let bound = r.stands.items.enough x t.0 done below t.1 in
        let met = r.stands.homes.met x begun (ap is_waiting word) in
        record {
          item = t.0;
          ends = t.2;
          enough = omega (arith, bound, met);
          home = λ other lies.
              same_Some other t.0
              (sym (r.stands.items.delivered x other done below (home-shown x other (begun-live now x begun) lies)) ∙ t.1);
          reported = λ h v e at owes. same_Some e.item t.0 (sym (delivered-to h v e at owes) ∙ t.1);
        }

pub end-with_all : {P E O : Type 0} (cargo : Ghosts P E O) → EndWithAll cargo
end-with_all cargo f s r x done below = ended-with cargo f s r x done below

pub finish-with_all : {P E O : Type 0} (cargo : Ghosts P E O) → FinishWithAll cargo
finish-with_all cargo f s r h m x item at can home =
    let asks = can.bound item home in
    let named = held-with cargo f s r h m.0 x can.leave.held at can.leave.holds in
    omega (arith, asks, named)

pub hold-with_all : {P E O : Type 0} (cargo : Ghosts P E O) → HoldWithAll cargo
hold-with_all cargo f s r h v x e at holds = held-with cargo f s r h v x e at holds

pub rest-with_all : {P E O : Type 0} (cargo : Ghosts P E O) → RestWithAll cargo
rest-with_all cargo f s r x item rests lies = rests-with cargo f s r x item rests lies
