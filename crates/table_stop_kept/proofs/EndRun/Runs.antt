-- The store by which a callback's run ends keeps the rule.
use Rattle.std.proofs.Common.{◌≡◌, ℕ, ◌+◌, ◌<◌, ◌≤◌, true, not, ◌&&◌, List, set, refl, sym, ap, ◌∙◌, subst, arith, ◌∷◌}
use Rattle.std.specs.Prelude.{Some, is_some, nat_le}
use Rattle.std.specs.Option.{option_map_or}
use Rattle.std.proofs.lemmas.Bool.{and_from, or_right, le-leb}
use mathlib.Core.Option.{some}
use lib.ListN.{get_elem?}
use Rattle.life_rules.specs.declared.words.BlockWord.{BlockWord}
use Rattle.life_rules.specs.declared.words.CallbackPhase.{CallbackPhase}
use Rattle.life_rules.specs.declared.words.CallbackPhase.TheVariants.{Never, Armed, Running as Runs, Ran, Removed}
use Rattle.life_rules.specs.declared.event.Name.{Name}
use Rattle.life_rules.specs.declared.event.SourceRef.{SourceRef}
use Rattle.life_rules.specs.declared.event.SourceRef.TheVariants.{Node}
use Rattle.life_rules.specs.Words.{is_armed, is_running, is_under_way}
use Rattle.life_rules.specs.Views.{View as PureView, lose, scan_at, is_scanning}
use Rattle.life_rules.specs.States.{State, is_live, control_at, phase_at, nearest_of, with_view, with_callback}
use Rattle.life_rules.specs.Scans.{is_next, is_next_in}
use Rattle.life_rules.specs.StopSteps.{run_over}
use Rattle.life_rules.specs.Sound.{Sound}
use Rattle.stop_kept.proofs.Standing.{runs-running}
use Rattle.stop_kept.proofs.ScanAt.{map_or-some, running-live}
use Rattle.life_rules.proofs.Names.{by_name}
use Rattle.stop_kept.proofs.Phases.{running-is, Writes, writes}
use Rattle.stop_kept.proofs.EndRun.{sound-end_run}
use Rattle.table_words.specs.Stamps.{stamp_of}
use Rattle.table_words.specs.Controls.{callback_read, callback_code}
use Rattle.table_words.specs.Layouts.{OfCallback, index}
use Rattle.listed_words.specs.Lists.{entry}
use Rattle.table_rules.specs.declared.cargo.Cargo.{Ghosts}
use Rattle.table_rules.specs.declared.frame.Frame.{Frame}
use Rattle.table_rules.specs.declared.view.View.{View}
use Rattle.table_rules.specs.declared.view.Held.{Held}
use Rattle.table_rules.specs.Named.{count_by, Each}
use Rattle.table_rules.specs.ShownWords.{block_of, word_of}
use Rattle.table_rules.specs.ShownViews.{shown_view, scan_in}
use Rattle.table_rules.specs.Scenes.{Scene, shown, scene}
use Rattle.table_rules.specs.Notes.{is_still, IsHeldSo, IsKnown}
use Rattle.table_rules.specs.Running.{Running}
use Rattle.table_steps.specs.Claims.{with_step}
use Rattle.table_steps.specs.Lefts.{FoundCallback}
use Rattle.table_steps.specs.RunEnds.{CanEndRun, passes_to, number_of, ends_run}
use Rattle.table_kept.proofs.Standing.{Standing}
use Rattle.table_kept.proofs.Seats.{at_within}
use Rattle.table_kept.proofs.Entries.{count-without}
use Rattle.table_kept.proofs.Loads.{known-listed}
use Rattle.table_kept.proofs.ViewMoves.{view-here}
use Rattle.table_kept.proofs.LiveNames.{place_of, place-live, name-live}
use Rattle.table_kept.proofs.FoundNow.{found-callback}
use Rattle.table_stop_kept.proofs.Scan.Views.{scan-passed}
use Rattle.table_kept.proofs.Asides.{known-aside}
use Rattle.table_kept.proofs.AsideSteps.{ToStepAside, callback-keeps}

-- what a hand noted of a callback that runs is so after its run
still-ran : (known : CallbackPhase) → is_still known Runs → is_still known Ran
still-ran Never h = cc
still-ran Armed h = refl
still-ran Runs h = refl
still-ran Ran h = cc
still-ran Removed h = cc

module _ {P E O : Type 0} (cargo : Ghosts P E O) (f : Frame O) (hand : Standing cargo f) (x : Name)
    (can : CanEndRun hand.view x) where
  open hand use {state as s, id, view as v, running as r, at}

  abbrev now : State
  now = shown f s

  abbrev here : Scene P E
  here = scene f s r.past

  abbrev blocks : ℕ → BlockWord
  blocks = block_of f.layout s.words

  abbrev old_view : PureView
  old_view = now.view id

  is-shown : old_view ≡ shown_view blocks v
  is-shown = view-here blocks s.views id v at

  pub hand_below : id < f.hands
  hand_below = let l = at_within s.views id v at in let m = r.sized.seats in omega (arith, l, m)

  runs-now : 1 ≤ old_view.runs x
  runs-now = subst (λ (z : PureView). 1 ≤ z.runs x) (sym is-shown) can.runs

  running : is_running (phase_at now x) ≡ true
  running = runs-running now id x r.stands.sound.runs hand_below runs-now

  pub live : is_live now x ≡ true
  live = running-live now x running

  pub runs-still : phase_at now x ≡ Runs
  runs-still = running-is (phase_at now x) running

  -- so says the word that the step finds
  pub found-running : FoundCallback x Runs (word_of f.layout s.words (OfCallback x.block x.node))
  found-running = found-callback cargo f s r x live Runs runs-still

  under_way : is_under_way (control_at now x) ≡ true
  under_way = r.stands.sound.armed x (or_right (is_armed (phase_at now x)) (is_running (phase_at now x)) running)

  -- the hand scans the source that the node hears
  pub near : (t : SourceRef) × (nearest_of now x ≡ Some t) × (is_next_in now old_view t x ≡ true)
  near = map_or-some (λ t. is_next_in now old_view t x) (nearest_of now x) (r.stands.sound.runs.next id x hand_below runs-now)

  abbrev source : SourceRef
  source = near.0

  abbrev next : ℕ
  next = number_of f.tree x + 1

  scans-it : (i : ℕ) × (scan_in v.scans source ≡ Some i)
  scans-it =
      let found = map_or-some (λ i. is_next now source i x) (old_view.scan source) near.2 in
      (found.0, ap (λ (z : PureView). z.scan source) (sym is-shown) ∙ found.1)

  abbrev u : PureView
  u = record old_view { runs = lose x old_view.runs; scan = scan_at source (Some next) old_view.scan }

  over-is : run_over now x old_view ≡ u
  over-is =
      let w : PureView = record old_view { runs = lose x old_view.runs } in
      ap (λ o. option_map_or (λ t. record w { scan = scan_at t (Some next) w.scan }) o w) near.1

  pub may-end : (nat_le 1 (old_view.runs x) && not (is_scanning old_view (Node x))) ≡ true
  may-end =
      and_from _ _ (le-leb 1 (old_view.runs x) runs-now)
      ((λ k. not (is_some ((is-shown k).scan (Node x)))) ∙ ap (λ o. not (is_some o)) can.unscanned)

  -- the view without the run, with these notes of the nodes that it holds
  module _ (held : List (Held E)) (counts : (y : Name) → count_by (λ (e : Held E). e.name) held y ≡ count_by (λ (e : Held E). e.name) v.held y) (i n left : ℕ) where
    abbrev mine : View P E
    mine = with_step i n left (ends_run f.tree x (record v { held = held }))

    shows-mine : shown_view blocks mine ≡ u
    shows-mine =
        (λ k. record (shown_view blocks v) {
          holds = λ y. counts y k;
          runs = λ y. count-without (λ (z : Name). z) v.runs x y k;
          scan = λ t. (ap (λ o. scan_in (option_map_or (λ z. passes_to z next v.scans) o v.scans) t) near.1
              ∙ scan-passed source next v.scans scans-it.0 scans-it.1 t) k;
        })
        ∙ ap (λ (z : PureView). record z { runs = lose x z.runs; scan = scan_at source (Some next) z.scan }) (sym is-shown)

    abbrev aside : ToStepAside hand
    aside = record {
      mine = mine;
      pure = u;
      shows = shows-mine;
      roles = refl;
      number = refl;
      splits = refl;
      tallied = refl;
    }

    module _ (phase : CallbackPhase) (stamped : stamp_of left ≡ x.generation) (reads : callback_read left ≡ phase) where
      abbrev pub written : State
      written = with_view (with_callback now x.block x.node phase) id u

      pub wrote : Writes now written x phase
      wrote =
          subst (λ y. Writes now written y phase) (name-live now x live)
          (writes now (place_of x) phase written.view (subst (λ y. is_under_way (control_at now y) ≡ true) (sym (name-live now x live)) under_way))

      pub ended-runs : callback_code Runs < callback_code phase → i ≡ index f.layout (OfCallback x.block x.node) → n ≡ word_of f.layout s.words (OfCallback x.block x.node) →
          Sound (with_view (with_callback now x.block x.node phase) id (run_over now x old_view)) →
          ((j : ℕ) (z : View P E) → (j ≡ id → ⊥) → get_elem? s.views j ≡ some z → IsKnown here z → IsKnown (record here { state = written }) z) →
          Each (IsHeldSo (record here { state = written })) held →
          Running cargo f record {
            words = set s.words (index f.layout (OfCallback x.block x.node)) left;
            homes = s.homes;
            views = set s.views id mine;
          }
      ended-runs rises is was sound others own =
          let old = r.stands.views.each id v at in
          callback-keeps cargo f hand aside left x phase live stamped reads
          (subst (λ p. callback_code p < callback_code phase) (sym runs-still) rises)
          (λ k. entry (is k) (was k) left ∷ v.steps)
          (subst (λ (z : PureView). Sound (with_view (with_callback now x.block x.node phase) id z)) over-is sound) others
          (known-listed (record here { state = written }) i n left (ends_run f.tree x (record v { held = held })) (record {
            held = own;
            owed = old.owed;
            reported = old.reported;
            noted = old.noted;
            unlooked = old.unlooked;
            seen_after = old.seen_after;
            seen = old.seen;
          }))

  -- the run ends
  module _ (i n value : ℕ) (stamped : stamp_of value ≡ x.generation) (reads : callback_read value ≡ Ran) where
    abbrev ended : State
    ended = written v.held (λ y. refl) i n value Ran stamped reads

    wrote-ran : Writes now ended x Ran
    wrote-ran = wrote v.held (λ y. refl) i n value Ran stamped reads

    still : (y : Name) (known : CallbackPhase) → is_still known (phase_at now y) → is_still known (phase_at ended y)
    still y known so =
        by_name y x
        (λ is.
        subst (is_still known) (sym (ap (phase_at ended) is ∙ wrote-ran.here))
        (still-ran known (subst (is_still known) (ap (phase_at now) is ∙ runs-still) so)))
        (λ ne. subst (is_still known) (sym (wrote-ran.there y ne)) so)

    known-still : (z : View P E) → IsKnown here z → IsKnown (record here { state = ended }) z
    known-still z old =
        known-aside here ended.callback now.source now.scope_source now.scope ended.view (λ t h. h) z (λ y counts known so. still y known so) old

    pub end-runs : i ≡ index f.layout (OfCallback x.block x.node) → n ≡ word_of f.layout s.words (OfCallback x.block x.node) → Running cargo f record {
      words = set s.words (index f.layout (OfCallback x.block x.node)) value;
      homes = s.homes;
      views = set s.views id (with_step i n value (ends_run f.tree x v));
    }
    end-runs is was =
        let name = name-live now x live in
        ended-runs v.held (λ y. refl) i n value Ran stamped reads (omega arith) is was
        (subst (λ y. Sound (with_view (with_callback now x.block x.node Ran) id (run_over now y old_view))) name
        (sound-end_run now id (place_of x) r.stands.sound hand_below
        (and_from _ _ (place-live now x live)
        (subst (λ y. (nat_le 1 (old_view.runs y) && not (is_scanning old_view (Node y))) ≡ true) (sym name) may-end))))
        (λ j z ne there old. known-still z old) (known-still v (r.stands.views.each id v at)).held
