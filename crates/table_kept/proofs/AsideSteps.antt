-- A step that moves no home and requests nothing keeps the rule where the pure machine's step keeps what is
-- sound, and what the hands know is so: a store of a callback's word, or a step that changes a view alone.
use Rattle.std.proofs.Common.{◌≡◌, ℕ, ◌==◌, ◌≤◌, true, cond, set, refl, sym, ap, ◌∙◌, subst, length-set, ◌<◌, ◌∷◌}
use Rattle.std.specs.Prelude.{slice_index}
use Rattle.std.proofs.lemmas.Bool.{cond-true, cond-false, eqb-true}
use mathlib.Core.Option.{some}
use lib.ListN.{get_elem?}
use lib.Seq.{set-get_or}
use Rattle.life_rules.specs.declared.words.CallbackPhase.{CallbackPhase}
use Rattle.life_rules.specs.declared.event.Name.{Name}
use Rattle.life_rules.specs.Views.{View as PureView}
use Rattle.life_rules.specs.States.{State, is_live, with_view, with_callback, phase_at}
use Rattle.life_rules.specs.Sound.{Sound}
use Rattle.common_lemmas.proofs.Bool.{either}
use Rattle.stop_kept.proofs.StopFrames.{related}
use Rattle.table_words.specs.Stamps.{stamp_of}
use Rattle.table_words.specs.Controls.{callback_read, callback_code}
use Rattle.table_words.specs.Layouts.{OfCallback, index}
use Rattle.table_rules.specs.declared.cargo.Cargo.{Ghosts}
use Rattle.table_rules.specs.declared.frame.Frame.{Frame}
use Rattle.listed_words.specs.Lists.{entry}
use Rattle.table_rules.specs.declared.view.View.{View}
use Rattle.table_rules.specs.ShownWords.{block_of}
use Rattle.table_rules.specs.ShownViews.{shown_view}
use Rattle.table_rules.specs.Scenes.{Scene, shown, scene}
use Rattle.table_rules.specs.Notes.{IsKnown}
use Rattle.table_rules.specs.Running.{Stands, Running}
use Rattle.table_kept.proofs.Standing.{Standing}
use Rattle.table_kept.proofs.Stamping.{Lists, looked-risen}
use Rattle.table_kept.proofs.Counts.{tally, counts-moved}
use Rattle.table_kept.proofs.ViewMoves.{view-set, views-moved}
use Rattle.table_kept.proofs.Asides.{owning, homes-aside, starts-aside, items-aside, lots-aside}
use Rattle.table_kept.proofs.CallbackRuns.{ToWriteCallback, callback-runs}

-- the view that stands there stands there
view-same : (s : State) (h i : ℕ) → cond (i == h) (s.view h) (s.view i) ≡ s.view i
view-same s h i =
    either (i == h)
    (λ t. cond-true (i == h) (s.view h) (s.view i) t ∙ ap s.view (sym (eqb-true i h t)))
    (λ n. cond-false (i == h) (s.view h) (s.view i) n)

pub unmoved : (s : State) (h : ℕ) → with_view s h (s.view h) ≡ s
unmoved s h = λ k. record s { view = λ i. view-same s h i k }

-- what the hand knows after the step, and that it owns what it owned
pub record ToStepAside {P E O : Type 0} {cargo : Ghosts P E O} {f : Frame O}
    (hand : Standing cargo f) : Type 0 where
  pub mine : View P E
  pub pure : PureView
  pub shows : shown_view (block_of f.layout hand.state.words) mine ≡ pure
  pub roles : owning ((shown f hand.state).view hand.id) ≡ owning pure
  pub number : mine.number ≡ hand.view.number
  pub splits : mine.splits ≡ hand.view.splits
  pub tallied : tally mine ≡ tally hand.view

module _ {P E O : Type 0} (cargo : Ghosts P E O) (f : Frame O) (hand : Standing cargo f)
    (task : ToStepAside hand) where
  open hand use {state as s, id, view as v, running as r, at}
  open task use {mine, pure as u, shows, roles, number, splits, tallied}

  abbrev now : State
  now = shown f s

  abbrev here : Scene P E
  here = scene f s r.past

  same-roles : (j : ℕ) → owning (now.view j) ≡ owning ((with_view now id u).view j)
  same-roles = related now id u (λ a b. owning a ≡ owning b) (λ _. refl) roles

  -- what is said of the scene, where the callback words are these
  stands-aside : (c : ℕ → ℕ → CallbackPhase) → Sound (with_view (record now { callback = c }) id u) →
      ((j : ℕ) (z : View P E) → (j ≡ id → ⊥) → get_elem? s.views j ≡ some z → IsKnown here z →
      IsKnown (record here { state = with_view (record now { callback = c }) id u }) z) →
      IsKnown (record here { state = with_view (record now { callback = c }) id u }) mine →
      Stands cargo f.over.value (record here { state = with_view (record now { callback = c }) id u }) (set s.views id mine)
  stands-aside c sound others own =
      let after : State = with_view (record now { callback = c }) id u in
      let w = after.view in
      record {
        sound = sound;
        homes = homes-aside here c now.source now.scope_source now.scope w same-roles r.stands.homes;
        starts = starts-aside here c now.source now.scope_source now.scope w cargo f.over.value r.stands.starts;
        items = items-aside here c now.source now.scope_source now.scope w cargo (λ t. refl) r.stands.items;
        lots = lots-aside here c now.source now.scope_source now.scope w cargo r.stands.lots;
        views = views-moved here (record here { state = after }) s.views id v mine at others own number splits r.stands.views;
        counts = counts-moved now after s.views id v mine at refl tallied r.stands.counts;
      }

  -- a store of a callback's word
  module _ (value : ℕ) (x : Name) (phase : CallbackPhase) (live : is_live now x ≡ true) (stamped : stamp_of value ≡ x.generation) (reads : callback_read value ≡ phase) where
    abbrev pub written : State
    written = with_view (with_callback now x.block x.node phase) id u

    abbrev writing : ToWriteCallback hand
    writing = record {
      value = value;
      name = x;
      phase = phase;
      live = live;
      stamped = stamped;
      reads = reads;
    }

    pub callback-keeps : callback_code (phase_at now x) < callback_code phase → Lists f.layout s.words (OfCallback x.block x.node) value v mine → Sound written →
        ((j : ℕ) (z : View P E) → (j ≡ id → ⊥) → get_elem? s.views j ≡ some z → IsKnown here z →
        IsKnown (record here { state = written }) z) → IsKnown (record here { state = written }) mine →
        Running cargo f record {
          words = set s.words (index f.layout (OfCallback x.block x.node)) value;
          homes = s.homes;
          views = set s.views id mine;
        }
    callback-keeps rises lists sound others own =
        callback-runs cargo f hand writing mine u shows rises lists
        (stands-aside written.callback sound others own)

  -- a step that leaves all words as they are
  pub view-keeps : (i : ℕ) → mine.steps ≡ entry i (slice_index s.words i) (slice_index s.words i) ∷ v.steps → Sound (with_view now id u) →
      ((j : ℕ) (z : View P E) → (j ≡ id → ⊥) → get_elem? s.views j ≡ some z → IsKnown here z →
      IsKnown (record here { state = with_view now id u }) z) → IsKnown (record here { state = with_view now id u }) mine →
      Running cargo f record { words = set s.words i (slice_index s.words i); homes = s.homes; views = set s.views id mine }
  view-keeps i lists sound others own =
      let after : Scene P E = record here { state = with_view now id u } in
      let there : scene f record { words = s.words; homes = s.homes; views = set s.views id mine } r.past ≡ after =
      λ k. record here {
        state = record now {
          view = λ h. (view-set (block_of f.layout s.words) s.views id v mine at h ∙ ap (λ z. cond (h == id) z (now.view h)) shows) k;
        };
      } in
      subst (λ ws. Running cargo f record { words = ws; homes = s.homes; views = set s.views id mine }) (sym (set-get_or s.words i 0))
      (record {
        frame = r.frame;
        sized = record {
          words = r.sized.words;
          homes = r.sized.homes;
          seats = subst (λ n. n ≤ f.hands) (sym (length-set s.views id mine)) r.sized.seats;
        };
        stamped = record {
          control = r.stamped.control;
          callback = r.stamped.callback;
          source = r.stamped.source;
          settled = r.stamped.settled;
          quiet = r.stamped.quiet;
          renewed = r.stamped.renewed;
          rises = looked-risen f.layout s.views id v mine at s.words i lists r.stamped.rises;
          scope = r.stamped.scope;
        };
        past = r.past;
        stands = subst (λ z. Stands cargo f.over.value z (set s.views id mine)) (sym there) (stands-aside now.callback sound others own);
      })
