-- The exchange by which a callback is removed keeps the rule.
use Rattle.std.proofs.Common.{◌≡◌, ℕ, ◌<◌, ◌≤◌, true, false, ◌&&◌, ◌==◌, cond, set, refl, sym, ap, ◌∙◌, subst, arith, eq-eqb, ◌∷◌}
use Rattle.std.specs.Prelude.{Option, Some, MatchOption, nat_le, slice_index}
use Rattle.std.specs.Option.{option_map_or}
use Rattle.std.proofs.lemmas.Bool.{and_from, cond-true, cond-false, le-leb}
use Rattle.life_rules.specs.declared.words.BlockWord.{BlockWord}
use Rattle.life_rules.specs.declared.words.CallbackPhase.{CallbackPhase}
use Rattle.life_rules.specs.declared.words.CallbackPhase.TheVariants.{Never, Armed, Running as Runs, Ran, Removed}
use Rattle.life_rules.specs.declared.event.Name.{Name}
use Rattle.life_rules.specs.Words.{is_armed, is_held, is_under_way}
use Rattle.life_rules.specs.Views.{View as PureView, note}
use Rattle.life_rules.specs.States.{State, control_at, phase_at, nearest_of, with_view, with_callback}
use Rattle.life_rules.specs.StopSteps.{after_withdraw}
use Rattle.life_rules.specs.Sound.{Sound}
use Rattle.common_lemmas.proofs.Bool.{one-most}
use Rattle.life_kept.proofs.Holding.{IsHeld}
use Rattle.stop_kept.proofs.Phases.{Writes, writes}
use Rattle.stop_kept.proofs.Withdraw.{sound-withdraw}
use Rattle.table_words.specs.Stamps.{stamp_of}
use Rattle.table_words.specs.Controls.{callback_read, callback_code}
use Rattle.table_words.specs.Layouts.{OfCallback, index}
use Rattle.listed_words.specs.Lists.{entry}
use Rattle.table_rules.specs.declared.cargo.Cargo.{Ghosts}
use Rattle.table_rules.specs.declared.frame.Frame.{Frame}
use Rattle.table_rules.specs.declared.view.View.{View}
use Rattle.table_rules.specs.declared.view.Held.{Held}
use Rattle.table_rules.specs.Named.{count_by}
use Rattle.table_rules.specs.ShownWords.{block_of, word_of}
use Rattle.table_rules.specs.ShownViews.{shown_view}
use Rattle.table_rules.specs.Scenes.{Scene, shown, scene}
use Rattle.table_rules.specs.Notes.{is_still, IsHeldSo, IsKnown}
use Rattle.table_rules.specs.Running.{Running}
use Rattle.table_steps.specs.Claims.{with_step, logged}
use Rattle.table_steps.specs.Readings.{notes_phase}
use Rattle.table_steps.specs.Callbacks.{is_registered, learns, CanWithdraw}
use Rattle.table_kept.proofs.Standing.{Standing}
use Rattle.table_kept.proofs.Entries.{each-map}
use Rattle.table_kept.proofs.Among.{among}
use Rattle.table_kept.proofs.Loads.{known-listed, known-logged}
use Rattle.table_stop_kept.proofs.Noting.{count-at, each-at}
use Rattle.table_stop_kept.proofs.HeldNotes.{each-changed}
use Rattle.table_stop_kept.proofs.ReadAllowed.{still-refl}
use Rattle.table_kept.proofs.LiveNames.{place_of, place-live, name-live}
use Rattle.table_kept.proofs.HeldNow.{Holding, shows, below, holds-now, held, phase-so, others-none}
use Rattle.table_stop_kept.proofs.Learning.{shows-learned, learned-past}
use Rattle.table_kept.proofs.Asides.{held-aside, known-aside}
use Rattle.table_kept.proofs.AsideSteps.{ToStepAside, unmoved, callback-keeps, view-keeps}

-- what the hand last read of a callback that was registered, and what it is now
registered-of : (known phase : CallbackPhase) → is_registered known ≡ true → is_still known phase → is_registered phase ≡ true
registered-of Never phase h so = cc
registered-of Armed phase h so = so
registered-of Runs phase h so = so
registered-of Ran phase h so = ap is_registered so
registered-of Removed phase h so = cc

known-of : (o : Option CallbackPhase) (known phase : CallbackPhase) → o ≡ Some known →
    MatchOption o (Unit {0}) (λ k. is_still k phase) → is_still known phase
known-of o known phase is so = subst (λ p. MatchOption p (Unit {0}) (λ k. is_still k phase)) is so

-- which callback is removed
pub record ToWithdraw {P E O : Type 0} {cargo : Ghosts P E O} {f : Frame O}
    (hand : Standing cargo f) : Type 0 where
  pub name : Name
  pub can : CanWithdraw hand.view name
  pub cell : ℕ
  pub number : ℕ

module _ {P E O : Type 0} (cargo : Ghosts P E O) (f : Frame O) (hand : Standing cargo f)
    (task : ToWithdraw hand) where
  open hand use {state as s, id, view as v, running as r, at}
  open task use {name as x, can, cell as i, number as n}

  abbrev now : State
  now = shown f s

  abbrev here : Scene P E
  here = scene f s r.past

  abbrev blocks : ℕ → BlockWord
  blocks = block_of f.layout s.words

  abbrev holding : Holding hand
  holding = record { name = x; entry = can.held; holds = can.holds }

  held-now : IsHeld now x
  held-now = held cargo f hand holding

  hand_below : id < f.hands
  hand_below = below cargo f hand holding

  pub registered : is_registered (phase_at now x) ≡ true
  registered =
      registered-of can.known (phase_at now x) can.registered
      (known-of can.held.phase can.known (phase_at now x) can.known_is (phase-so cargo f hand holding))

  abbrev old_view : PureView
  old_view = now.view id

  is-shown : old_view ≡ shown_view blocks v
  is-shown = shows cargo f hand holding

  unrun : (old_view.runs x == 0) ≡ true
  unrun = (λ k. (is-shown k).runs x == 0) ∙ eq-eqb _ 0 can.unrun

  sound-now : Sound (after_withdraw now id (place_of x))
  sound-now =
      let name = name-live now x held-now.live in
      sound-withdraw now id (place_of x) r.stands.sound hand_below
      (and_from _ _ (place-live now x held-now.live)
      (subst (λ y. (nat_le 1 (old_view.holds y) && (old_view.runs y == 0 && is_registered (phase_at now y))) ≡ true) (sym name)
      (and_from _ _ (le-leb 1 (old_view.holds x) (holds-now cargo f hand holding))
      (and_from _ _ unrun registered))))

  -- what the hand notes is shown as before
  shows-noted : (phase : CallbackPhase) (w : View P E) → shown_view blocks (notes_phase x phase w) ≡ shown_view blocks w
  shows-noted phase w =
      λ k. record (shown_view blocks w) {
        holds = λ y. count-at (λ (e : Held E). e.name) (λ (e : Held E). record e { phase = Some phase }) (λ e. refl) x w.held y k;
      }

  few : count_by (λ (e : Held E). e.name) v.held x ≤ 1
  few =
      let most = (among f s id v r.sized.seats at).held x in
      let fit = (r.stands.sound.owned.names x).held in
      let single = one-most (is_held (control_at now x)) in
      omega (arith, most, fit, single)

  -- an armed callback is removed
  module _ (value : ℕ) (armed : phase_at now x ≡ Armed) (stamped : stamp_of value ≡ x.generation) (reads : callback_read value ≡ Removed) where
    abbrev mine : View P E
    mine = with_step i n value (notes_phase x Removed v)

    abbrev written : State
    written = with_view (with_callback now x.block x.node Removed) id old_view

    sound-removed : Sound written
    sound-removed =
        let name = name-live now x held-now.live in
        let learned : State = with_view now id (record old_view { seen = option_map_or (λ source. note source true old_view.seen) (nearest_of now x) old_view.seen }) in
        let after : Sound (cond (is_armed (phase_at now x)) (with_callback now x.block x.node Removed) learned) =
        subst (λ y. Sound (cond (is_armed (phase_at now y)) (with_callback now x.block x.node Removed)
        (with_view now id (record old_view { seen = option_map_or (λ source. note source true old_view.seen) (nearest_of now y) old_view.seen })))) name sound-now in
        subst Sound (sym (unmoved (with_callback now x.block x.node Removed) id))
        (subst Sound (cond-true (is_armed (phase_at now x)) (with_callback now x.block x.node Removed) learned (ap is_armed armed)) after)

    wrote : Writes now written x Removed
    wrote =
        subst (λ y. Writes now written y Removed) (name-live now x held-now.live)
        (writes now (place_of x) Removed written.view (subst (λ y. is_under_way (control_at now y) ≡ true) (sym (name-live now x held-now.live)) (ap is_under_way held-now.word)))

    still : (y : Name) → (x ≡ y → ⊥) → (known : CallbackPhase) → is_still known (phase_at now y) → is_still known (phase_at written y)
    still y ne known so = subst (is_still known) (sym (wrote.there y (λ e. ne (sym e)))) so

    mine-known : IsKnown here v → IsKnown (record here { state = written }) mine
    mine-known old =
        let c = written.callback in
        let w = written.view in
        known-listed (record here { state = written }) i n value (notes_phase x Removed v) (record {
          held = each-changed (λ (e : Held E). e.name) (λ (e : Held E). record e { phase = Some Removed }) x (IsHeldSo here) (IsHeldSo (record here { state = written }))
              (λ e is so. record {
                start = so.start;
                named = so.named;
                told = so.told;
                told_children = so.told_children;
                lot = so.lot;
                phase = ap (phase_at written) is ∙ wrote.here;
                idle = so.idle;
              })
              (λ e ne so. held-aside here c now.source now.scope_source now.scope w (λ t h. h) e (still e.name (λ is. ne (sym is))) so)
              v.held few old.held;
          owed = old.owed;
          reported = old.reported;
          noted = old.noted;
          unlooked = old.unlooked;
          seen_after = old.seen_after;
          seen = old.seen;
        })

    abbrev aside : ToStepAside hand
    aside = record {
      mine = mine;
      pure = old_view;
      shows = shows-noted Removed v ∙ sym is-shown;
      roles = refl;
      number = refl;
      splits = refl;
      tallied = refl;
    }

    pub removed-runs : i ≡ index f.layout (OfCallback x.block x.node) → n ≡ word_of f.layout s.words (OfCallback x.block x.node) → Running cargo f record {
      words = set s.words (index f.layout (OfCallback x.block x.node)) value;
      homes = s.homes;
      views = set s.views id mine;
    }
    removed-runs is was =
        callback-keeps cargo f hand aside
        value x Removed held-now.live stamped reads
        (subst (λ p. callback_code p < callback_code Removed) (sym armed) (omega arith))
        (λ k. entry (is k) (was k) value ∷ v.steps) sound-removed
        (λ j z ne there old.
        known-aside here written.callback now.source now.scope_source now.scope written.view (λ t h. h) z
        (λ y counts known so.
        still y (λ is. absurd
        (let none = others-none cargo f hand holding j z ne there in
        let c : 1 ≤ count_by (λ (e : Held E). e.name) z.held x = subst (λ y. 1 ≤ count_by (λ (e : Held E). e.name) z.held y) (sym is) counts in
        omega (arith, none, c))) known so) old)
        (mine-known (r.stands.views.each id v at))

  -- one that runs or ran tells of the request
  module _ (unarmed : is_armed (phase_at now x) ≡ false) where
    abbrev told : View P E
    told = learns f.tree x (notes_phase x (phase_at now x) v)

    abbrev u : PureView
    u = record old_view { seen = option_map_or (λ source. note source true old_view.seen) (nearest_of now x) old_view.seen }

    shows-told : shown_view blocks (logged i n told) ≡ u
    shows-told =
        shows-learned now x held-now.live (notes_phase x (phase_at now x) v)
        ∙ ap (λ (z : PureView). record z { seen = option_map_or (λ source. note source true z.seen) (nearest_of now x) z.seen })
        (shows-noted (phase_at now x) v ∙ sym is-shown)

    sound-told : Sound (with_view now id u)
    sound-told =
        let name = name-live now x held-now.live in
        let after : Sound (cond (is_armed (phase_at now x)) (with_callback now x.block x.node Removed) (with_view now id u)) =
        subst (λ y. Sound (cond (is_armed (phase_at now y)) (with_callback now x.block x.node Removed)
        (with_view now id (record old_view { seen = option_map_or (λ source. note source true old_view.seen) (nearest_of now y) old_view.seen })))) name sound-now in
        subst Sound (cond-false (is_armed (phase_at now x)) (with_callback now x.block x.node Removed) (with_view now id u) unarmed) after

    told-known : IsKnown here v → IsKnown (record here { state = with_view now id u }) (logged i n told)
    told-known old =
        let after : Scene P E = record here { state = with_view now id u } in
        let phase = phase_at now x in
        known-logged after i n told (record {
          held = each-map (IsHeldSo here) (IsHeldSo after) (λ e so. record {
            start = so.start;
            named = so.named;
            told = so.told;
            told_children = so.told_children;
            lot = so.lot;
            phase = so.phase;
            idle = so.idle;
          }) told.held
              (each-at (λ (e : Held E). e.name) (λ (e : Held E). record e { phase = Some phase }) (λ e. refl) x (IsHeldSo here)
              (λ e is so. record {
                start = so.start;
                named = so.named;
                told = so.told;
                told_children = so.told_children;
                lot = so.lot;
                phase = subst (λ y. is_still phase (phase_at now y)) (sym is) (still-refl phase);
                idle = so.idle;
              }) v.held old.held);
          owed = old.owed;
          reported = old.reported;
          noted = old.noted;
          unlooked = old.unlooked;
          seen_after = old.seen_after;
          seen = learned-past now x held-now.live (notes_phase x phase v) old.seen;
        })

    abbrev aside_told : ToStepAside hand
    aside_told = record {
      mine = logged i n told;
      pure = u;
      shows = shows-told;
      roles = refl;
      number = refl;
      splits = refl;
      tallied = refl;
    }

    pub told-runs : n ≡ slice_index s.words i → Running cargo f record {
      words = set s.words i (slice_index s.words i);
      homes = s.homes;
      views = set s.views id (logged i n told);
    }
    told-runs is =
        view-keeps cargo f hand aside_told i
        (λ k. entry i (is k) (is k) ∷ v.steps) sound-told
        (λ j z ne there old.
        known-aside here now.callback now.source now.scope_source now.scope (with_view now id u).view (λ t h. h) z (λ y counts known so. so) old)
        (told-known (r.stands.views.each id v at))
