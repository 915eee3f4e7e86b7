-- A step that moves no home and writes no block's and no control word: what is said of homes, starts, items
-- and lots is kept where it requests nothing anew, and what the hands know is kept where no request is lost.
use Rattle.std.proofs.Common.{◌≡◌, ℕ, ◌≤◌, true, false, List, sym, ◌∙◌, subst, arith}
use Rattle.std.specs.Prelude.{Option, Some, None, MatchOption}
use Rattle.std.specs.Option.{option_map_or}
use Rattle.life_rules.specs.declared.words.CallbackPhase.{CallbackPhase}
use Rattle.life_rules.specs.declared.words.Bits.{Bits}
use Rattle.life_rules.specs.declared.scope.ScopeWord.{ScopeWord}
use Rattle.life_rules.specs.declared.event.Name.{Name}
use Rattle.life_rules.specs.declared.event.SourceRef.{SourceRef}
use Rattle.life_rules.specs.declared.event.SourceRef.TheVariants.{Node}
use Rattle.node_tree.specs.Tree.{nearest, given_by}
use Rattle.life_rules.specs.Views.{View as PureView, blank}
use Rattle.life_rules.specs.States.{State, phase_at, bits_at, nearest_of, source_for}
use Rattle.life_rules.specs.Callbacks.{nearest_is_requested}
use Rattle.table_rules.specs.declared.cargo.Cargo.{Ghosts}
use Rattle.table_rules.specs.declared.view.View.{View}
use Rattle.table_rules.specs.declared.view.Held.{Held}
use Rattle.table_rules.specs.Named.{count_by, Each}
use Rattle.table_rules.specs.Scenes.{Scene}
use Rattle.table_rules.specs.Homes.{HomesStand}
use Rattle.table_rules.specs.Starts.{StartsStand}
use Rattle.table_rules.specs.Items.{ItemsStand}
use Rattle.table_rules.specs.Lots.{LotsStand}
use Rattle.table_rules.specs.Notes.{is_still, IsHeldSo, IsKnown}
use Rattle.table_kept.proofs.Entries.{each-by}

-- the roles of a view in the lives of nodes, alone
abbrev pub owning : PureView → PureView
owning v = record blank { holds = v.holds; starts = v.starts; reports = v.reports; finished = v.finished }

module _ {P E : Type 0} (s : Scene P E) (c : ℕ → ℕ → CallbackPhase) (q : ℕ → ℕ → Bits) (z : Bits) (k : ScopeWord) (w : ℕ → PureView) where
  abbrev base : State
  base = s.state

  -- the state with other callback words, source words, scope's word and views
  abbrev pub aside_state : State
  aside_state = record base { callback = c; source = q; scope_source = z; scope = k; view = w }

  abbrev pub aside : Scene P E
  aside = record s { state = aside_state }

  abbrev with_views : (ℕ → PureView) → Scene P E
  with_views u = record s { state = record aside_state { view = u } }

  pub homes-aside : ((i : ℕ) → owning (base.view i) ≡ owning (w i)) → HomesStand s → HomesStand aside
  homes-aside same old =
      let bare : HomesStand (with_views (λ i. owning (base.view i))) =
      record {
        out = old.out;
        closed = old.closed;
        begun = old.begun;
        above = old.above;
        waiting = old.waiting;
        reported = old.reported;
        resting = old.resting;
        named = old.named;
        met = old.met;
        asked = old.asked;
      } in
      let moved : HomesStand (with_views (λ i. owning (w i))) = subst (λ u. HomesStand (with_views u)) (λ j i. same i j) bare in
      record {
        out = moved.out;
        closed = moved.closed;
        begun = moved.begun;
        above = moved.above;
        waiting = moved.waiting;
        reported = moved.reported;
        resting = moved.resting;
        named = moved.named;
        met = moved.met;
        asked = moved.asked;
      }

  module _ {O : Type 0} (cargo : Ghosts P E O) where
    pub starts-aside : (over : O) → StartsStand cargo over s → StartsStand cargo over aside
    starts-aside over old = record { shows = old.shows; descends = old.descends; key = old.key }

    pub lots-aside : LotsStand cargo s → LotsStand cargo aside
    lots-aside old = record { own = old.own; below = old.below }

    -- what is said of items reads of sources only whether a stop is requested on them
    pub items-aside : ((t : SourceRef) → (bits_at aside_state t).requested ≡ (bits_at base t).requested) →
        ItemsStand cargo s → ItemsStand cargo aside
    items-aside same old =
        let near : (y : Name) → nearest_is_requested base y ≡ nearest_is_requested aside_state y =
        λ y j. option_map_or (λ t. sym (same t) j) (nearest_of base y) false in
        record {
          fit = λ y item live is. subst (cargo.fits item y.node) (near y) (old.fit y item live is);
          goes_on = old.goes_on;
          rests = old.rests;
          bound = old.bound;
          ended = λ y done below.
              let so = old.ended y done below in
              (so.0, so.1, so.2, subst (cargo.fits so.0 y.node) (near y) so.3);
          delivered = old.delivered;
          enough = old.enough;
          failures = λ y asked calm. old.failures y (sym (same (Node y)) ∙ asked) (near y ∙ calm);
        }

  module _ (more : (t : SourceRef) → (bits_at base t).requested ≡ true → (bits_at aside_state t).requested ≡ true) where
    asked-more : (o : Option SourceRef) → option_map_or (λ t. (bits_at base t).requested) o false ≡ true →
        option_map_or (λ t. (bits_at aside_state t).requested) o false ≡ true
    asked-more None h = h
    asked-more (Some t) h = more t h

    -- what a hand knows of a node that it holds, where what it read of its callback is still so
    pub held-aside : (e : Held E) → ((known : CallbackPhase) → is_still known (phase_at base e.name) → is_still known (phase_at aside_state e.name)) →
        IsHeldSo s e → IsHeldSo aside e
    held-aside e still so =
        record {
          start = so.start;
          named = so.named;
          told = λ t. asked-more (source_for e.name (nearest base.tree e.name.node)) (so.told t);
          told_children = λ t. asked-more (source_for e.name (given_by base.tree e.name.node (nearest base.tree e.name.node))) (so.told_children t);
          lot = so.lot;
          phase = by_note e.phase so.phase;
          idle = so.idle;
        }
      where
        by_note : (o : Option CallbackPhase) → MatchOption o (Unit {0}) (λ known. is_still known (phase_at base e.name)) →
            MatchOption o (Unit {0}) (λ known. is_still known (phase_at aside_state e.name))
        by_note None h = tt
        by_note (Some known) h = still known h

    -- what a hand knows beside the nodes that it holds
    pub known-but : (u : View P E) → IsKnown s u → (held : List (Held E)) → Each (IsHeldSo aside) held →
        IsKnown aside (record u { held = held })
    known-but u old held so =
        record {
          held = so;
          owed = old.owed;
          reported = old.reported;
          noted = old.noted;
          unlooked = old.unlooked;
          seen_after = old.seen_after;
          seen = old.seen;
        }

    pub known-aside : (u : View P E) →
        ((y : Name) → 1 ≤ count_by (λ (e : Held E). e.name) u.held y → (known : CallbackPhase) →
        is_still known (phase_at base y) → is_still known (phase_at aside_state y)) → IsKnown s u → IsKnown aside u
    known-aside u still old =
        known-but u old u.held
        (each-by (λ e. e.name) (IsHeldSo s) (IsHeldSo aside) (count_by (λ (e : Held E). e.name) u.held)
        (λ e counts so. held-aside e (still e.name counts) so) u.held (λ y. omega arith) old.held)
