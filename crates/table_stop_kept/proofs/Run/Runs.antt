-- The steps by which a scan runs its next place, or passes it, keep the rule: where the place is armed, and
-- where it isn't.
use Rattle.std.proofs.Common.{◌≡◌, ℕ, ◌+◌, ◌*◌, ◌<◌, true, false, ◌&&◌, ◌||◌, ◌==◌, List, [], ◌∷◌, length, set, refl, sym, ap, ◌∙◌, subst, arith}
use Rattle.std.specs.Prelude.{Some, is_some, slice_index}
use Rattle.std.specs.Option.{option_map_or}
use Rattle.std.specs.List.{list_any}
use Rattle.std.proofs.lemmas.Bool.{and_from, both_ways, cond-true, cond-false, eq-eqb, lt-ltb, or_left, or_right}
use Rattle.life_rules.specs.declared.words.CallbackPhase.{CallbackPhase}
use Rattle.life_rules.specs.declared.words.CallbackPhase.TheVariants.{Never, Armed, Running as Runs, Ran, Removed}
use Rattle.life_rules.specs.declared.event.Name.{Name}
use Rattle.life_rules.specs.declared.event.SourceRef.{SourceRef}
use Rattle.life_rules.specs.declared.event.SourceRef.TheVariants.{Scope, Node}
use Rattle.life_rules.specs.declared.event.SourceAt.{SourceAt}
use Rattle.life_rules.specs.declared.event.SourceAt.TheVariants.{Scope as AtScope, At}
use Rattle.life_rules.specs.Words.{is_armed, is_running}
use Rattle.life_rules.specs.Views.{View as PureView, same, gain, scan_at}
use Rattle.common_lemmas.specs.Sums.{one}
use Rattle.life_rules.specs.States.{State, is_live, name_of, phase_at, bits_at, with_view, with_callback}
use Rattle.life_rules.specs.Scans.{is_next, is_next_in}
use Rattle.life_rules.specs.StopSteps.{source_of, after_run, passed}
use Rattle.life_rules.specs.Requests.{IsScannable}
use Rattle.life_rules.specs.Sound.{Sound}
use Rattle.common_lemmas.proofs.Bool.{either}
use Rattle.life_rules.proofs.Names.{same-true, by_name}
use Rattle.life_rules.proofs.Readings.{lives}
use Rattle.stop_kept.proofs.Phases.{Writes, writes}
use Rattle.stop_kept.proofs.Run.{sound-run}
use Rattle.table_words.specs.Stamps.{stamp_of}
use Rattle.table_words.specs.Controls.{callback_read, callback_code}
use Rattle.table_words.specs.Layouts.{OfCallback, index}
use Rattle.listed_words.specs.Lists.{entry}
use Rattle.table_rules.specs.declared.cargo.Cargo.{Ghosts}
use Rattle.table_rules.specs.declared.frame.Frame.{Frame}
use Rattle.table_rules.specs.declared.view.View.{View}
use Rattle.table_rules.specs.Named.{count_by}
use Rattle.table_rules.specs.ShownWords.{block_of, word_of}
use Rattle.table_rules.specs.ShownViews.{shown_view}
use Rattle.table_rules.specs.Scenes.{Scene, shown, scene}
use Rattle.table_rules.specs.Notes.{is_still, IsKnown}
use Rattle.table_rules.specs.Running.{Running}
use Rattle.table_steps.specs.Claims.{with_step, logged}
use Rattle.table_steps.specs.Runs.{CanRun, runs_place, passes_place}
use Rattle.table_kept.proofs.Standing.{Standing}
use Rattle.table_kept.proofs.Seats.{at_within}
use Rattle.table_kept.proofs.Loads.{known-listed, known-logged}
use Rattle.table_kept.proofs.ViewMoves.{view-here}
use Rattle.table_kept.proofs.LiveNames.{name-live}
use Rattle.table_stop_kept.proofs.Scan.Views.{scan-passed}
use Rattle.table_stop_kept.proofs.Scan.Orders.{IsPresentIn, next-place}
use Rattle.table_kept.proofs.Asides.{known-aside}
use Rattle.table_kept.proofs.AsideSteps.{ToStepAside, callback-keeps, view-keeps}
use Rattle.table_stop_kept.proofs.Scan.Seal.{requested-live}

-- what a hand noted of an armed callback is so while it runs
still-runs : (known : CallbackPhase) → is_still known Armed → is_still known Runs
still-runs Never h = cc
still-runs Armed h = refl
still-runs Runs h = refl
still-runs Ran h = cc
still-runs Removed h = cc

-- no name of the list is of the place
pub none-there : (l : List Name) (x : Name) → list_any (λ y. y.block == x.block && y.node == x.node) l ≡ false → count_by (λ y. y) l x ≡ 0
none-there [] x none = refl
none-there (y ∷ ys) x none =
    let here = y.block == x.block && y.node == x.node in
    let rest = list_any (λ y. y.block == x.block && y.node == x.node) ys in
    either (same y x)
    (λ t.
    let is : y ≡ x = same-true y x t in
    absurd (both_ways (here || rest) none
    (or_left here rest (and_from _ _ (eq-eqb y.block x.block (λ k. (is k).block)) (eq-eqb y.node x.node (λ k. (is k).node))))))
    (λ ne.
    let later = none-there ys x (either rest (λ t. absurd (both_ways (here || rest) none (or_right here rest t))) (λ f. f)) in
    let zero_of : one (same y x) ≡ 0 = ap one ne in
    omega (arith, later, zero_of))

-- where a source is, at the block's present generation
abbrev at_of : SourceRef → SourceAt
at_of Scope = AtScope
at_of (Node y) = At (record { block = y.block; node = y.node })

-- at which place a scan of a source goes on, and the cell and the number of the place's word
pub record ToRun {P E O : Type 0} {cargo : Ghosts P E O} {f : Frame O}
    (hand : Standing cargo f) : Type 0 where
  pub source : SourceRef
  pub block : ℕ
  pub place : ℕ
  pub can : CanRun f.tree hand.view source block place
  pub within : block < f.layout.blocks
  pub cell : ℕ
  pub number : ℕ

module _ {P E O : Type 0} (cargo : Ghosts P E O) (f : Frame O) (hand : Standing cargo f)
    (task : ToRun hand) where
  open hand use {state as s, id, view as v, running as r, at}
  open task use {source, block as b, place as m, can, within as hb, cell as i, number as n}

  abbrev now : State
  now = shown f s

  abbrev here : Scene P E
  here = scene f s r.past

  abbrev x : Name
  x = name_of now b m

  abbrev old_view : PureView
  old_view = now.view id

  is-shown : old_view ≡ shown_view (block_of f.layout s.words) v
  is-shown = view-here (block_of f.layout s.words) s.views id v at

  hand_below : id < f.hands
  hand_below = let l = at_within s.views id v at in let k = r.sized.seats in omega (arith, l, k)

  scans-now : old_view.scan source ≡ Some can.from
  scans-now = ap (λ (z : PureView). z.scan source) is-shown ∙ can.scans

  pub scannable : IsScannable now source
  scannable = r.stands.sound.scans.cause id source hand_below (ap is_some scans-now)

  pub present : (t : SourceRef) → (bits_at now t).requested ≡ true → IsPresentIn now t
  present Scope asks = tt
  present (Node y) asks = (lives now y (requested-live now y asks)).generation

  source-is : (t : SourceRef) → (bits_at now t).requested ≡ true → source_of now (at_of t) ≡ t
  source-is Scope asks = refl
  source-is (Node y) asks = ap Node (name-live now y (requested-live now y asks))

  next-now : is_next_in now old_view source x ≡ true
  next-now =
      ap (λ o. option_map_or (λ j. is_next now source j x) o false) scans-now
      ∙ next-place now source (present source scannable.requested) can.from b m ∙ can.next

  unrun : (old_view.runs x == 0) ≡ true
  unrun = eq-eqb (old_view.runs x) 0 (ap (λ (z : PureView). z.runs x) is-shown ∙ none-there v.runs x can.unrun)

  sound-after : Sound (after_run now id (at_of source) (record { block = b; node = m }))
  sound-after =
      sound-run now id (at_of source) (record { block = b; node = m }) r.stands.sound hand_below
      (and_from _ _ (and_from _ _ (lt-ltb b f.layout.blocks hb) (lt-ltb m (length f.tree) can.within))
      (and_from _ _ (subst (λ t. is_next_in now old_view t x ≡ true) (sym (source-is source scannable.requested)) next-now) unrun))

  abbrev u_runs : PureView
  u_runs = record old_view { runs = gain x old_view.runs }

  abbrev u_passes : PureView
  u_passes = passed now source x old_view

  -- the place is armed, and runs now
  module _ (value : ℕ) (live : is_live now x ≡ true) (armed : phase_at now x ≡ Armed) (stamped : stamp_of value ≡ x.generation) (reads : callback_read value ≡ Runs) where
    abbrev written : State
    written = with_view (with_callback now b m Runs) id u_runs

    wrote : Writes now written x Runs
    wrote =
        writes now (record { block = b; node = m }) Runs written.view
        (r.stands.sound.armed x (ap (λ p. is_armed p || is_running p) armed))

    still : (y : Name) (known : CallbackPhase) → is_still known (phase_at now y) → is_still known (phase_at written y)
    still y known so =
        by_name y x
        (λ is.
        subst (is_still known) (sym (ap (phase_at written) is ∙ wrote.here))
        (still-runs known (subst (is_still known) (ap (phase_at now) is ∙ armed) so)))
        (λ ne. subst (is_still known) (sym (wrote.there y ne)) so)

    known-still : (z : View P E) → IsKnown here z → IsKnown (record here { state = written }) z
    known-still z old =
        known-aside here written.callback now.source now.scope_source now.scope written.view (λ t h. h) z (λ y counts known so. still y known so) old

    pub run-runs : i ≡ index f.layout (OfCallback b m) → n ≡ word_of f.layout s.words (OfCallback b m) → Running cargo f record {
      words = set s.words (index f.layout (OfCallback b m)) value;
      homes = s.homes;
      views = set s.views id (with_step i n value (runs_place x v));
    }
    run-runs is was =
        let k = known-still v (r.stands.views.each id v at) in
        callback-keeps cargo f hand (record {
          mine = with_step i n value (runs_place x v);
          pure = u_runs;
          shows = ap (λ (z : PureView). record z { runs = gain x z.runs }) (sym is-shown);
          roles = refl;
          number = refl;
          splits = refl;
          tallied = refl;
        }) value x Runs live stamped reads
        (subst (λ p. callback_code p < callback_code Runs) (sym armed) (omega arith))
        (λ k. entry (is k) (was k) value ∷ v.steps)
        (subst Sound (cond-true (is_armed (phase_at now x)) written (with_view now id (passed now (source_of now (at_of source)) x old_view)) (ap is_armed armed)) sound-after)
        (λ j z ne there old. known-still z old)
        (known-listed (record here { state = written }) i n value (runs_place x v) (record {
          held = k.held;
          owed = k.owed;
          reported = k.reported;
          noted = k.noted;
          unlooked = k.unlooked;
          seen_after = k.seen_after;
          seen = k.seen;
        }))

  -- it isn't, and is passed
  module _ (unarmed : is_armed (phase_at now x) ≡ false) where
    shows-passed : shown_view (block_of f.layout s.words) (logged i n (passes_place f.tree source b m v)) ≡ u_passes
    shows-passed =
        (λ k. record (shown_view (block_of f.layout s.words) v) {
          scan = λ t. scan-passed source (b * length f.tree + m + 1) v.scans can.from can.scans t k;
        })
        ∙ ap (λ (z : PureView). record z { scan = scan_at source (Some (b * length f.tree + m + 1)) z.scan }) (sym is-shown)

    known-passed : (z : View P E) → IsKnown here z → IsKnown (record here { state = with_view now id u_passes }) z
    known-passed z old =
        known-aside here now.callback now.source now.scope_source now.scope (with_view now id u_passes).view (λ t h. h) z (λ y counts known so. so) old

    abbrev aside : ToStepAside hand
    aside = record {
      mine = logged i n (passes_place f.tree source b m v);
      pure = u_passes;
      shows = shows-passed;
      roles = refl;
      number = refl;
      splits = refl;
      tallied = refl;
    }

    pub pass-runs : n ≡ slice_index s.words i → Running cargo f record {
      words = set s.words i (slice_index s.words i);
      homes = s.homes;
      views = set s.views id (logged i n (passes_place f.tree source b m v));
    }
    pass-runs is =
        let k = known-passed v (r.stands.views.each id v at) in
        view-keeps cargo f hand aside i
        (λ k. entry i (is k) (is k) ∷ v.steps)
        (subst (λ t. Sound (with_view now id (passed now t x old_view))) (source-is source scannable.requested)
        (subst Sound (cond-false (is_armed (phase_at now x)) (with_view (with_callback now b m Runs) id u_runs)
        (with_view now id (passed now (source_of now (at_of source)) x old_view)) unarmed) sound-after))
        (λ j z ne there old. known-passed z old)
        (known-logged (record here { state = with_view now id u_passes }) i n (passes_place f.tree source b m v) (record {
          held = k.held;
          owed = k.owed;
          reported = k.reported;
          noted = k.noted;
          unlooked = k.unlooked;
          seen_after = k.seen_after;
          seen = k.seen;
        }))
