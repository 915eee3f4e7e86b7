-- A step that writes the scope's word, and changes the associations of one hand, keeps the rule where the
-- pure machine's step keeps what is sound.
use Rattle.std.proofs.Common.{◌≡◌, ℕ, ◌^◌, ◌<◌, ◌==◌, ◌≤◌, false, not, ◌&&◌, cond, List, set, refl, sym, ap, ◌∙◌, subst, length-set}
use Rattle.std.specs.Prelude.{slice_index}
use Rattle.life_rules.specs.declared.words.ControlWord.TheVariants.{Idle}
use Rattle.life_rules.specs.declared.words.CallbackPhase.TheVariants.{Never}
use Rattle.life_rules.specs.declared.scope.ScopeWord.{ScopeWord}
use Rattle.life_rules.specs.Words.{is_under_way, clear}
use Rattle.life_rules.specs.Views.{View as PureView}
use Rattle.life_rules.specs.States.{State, with_view, with_scope}
use Rattle.life_rules.specs.Sound.{Sound}
use Rattle.stop_kept.proofs.StopFrames.{related}
use Rattle.table_words.specs.Stamps.{stamp_of}
use Rattle.table_words.specs.Controls.{control_read, callback_read, source_read}
use Rattle.table_words.specs.ScopeNumbers.{scope_read}
use Rattle.table_words.specs.Layouts.{Spot, TheScope, TheScopeSource, OfControl, OfCallback, OfSource, IsSpot}
use Rattle.table_rules.specs.declared.cargo.Cargo.{Ghosts}
use Rattle.table_rules.specs.declared.frame.Frame.{Frame}
use Rattle.table_rules.specs.declared.view.View.{View}
use Rattle.table_rules.specs.ShownWords.{block_of, word_of, is_retired, is_said, said}
use Rattle.table_rules.specs.ShownViews.{view_at, shown_view}
use Rattle.table_rules.specs.Scenes.{Scene, shown, scene}
use Rattle.table_rules.specs.Grown.{HasBitsOf}
use Rattle.table_rules.specs.Running.{Stands, Running}
use Rattle.table_steps.specs.Claims.{with_step}
use Rattle.table_kept.proofs.Standing.{Standing}
use Rattle.table_kept.proofs.WordMoves.{word-here}
use Rattle.table_kept.proofs.PlaceMoves as places
use Rattle.table_kept.proofs.Loads.{known-listed}
use Rattle.table_kept.proofs.Stamping.{is_on, written-risen, unsaid-kept, renewed-kept}
use Rattle.table_kept.proofs.Counts.{counts-moved}
use Rattle.table_kept.proofs.ViewMoves.{view-here, view-set, views-same, views-moved}
use Rattle.table_kept.proofs.Asides.{owning, homes-aside, starts-aside, items-aside, lots-aside, known-aside}

-- what the scope's word says then, and which associations the hand has
pub record ToWriteScope {P E O : Type 0} {cargo : Ghosts P E O} {f : Frame O}
    (hand : Standing cargo f) : Type 0 where
  pub value : ℕ
  pub word : ScopeWord
  pub reads : scope_read value ≡ word
  pub narrow : value < 2 ^ 36
  pub bits : HasBitsOf (shown f hand.state).scope word
  pub made : ℕ
  pub making : ℕ
  pub refused : ℕ

module _ {P E O : Type 0} (cargo : Ghosts P E O) (f : Frame O) (hand : Standing cargo f)
    (task : ToWriteScope hand) where
  open hand use {state as s, id, view as v, running as r, at}
  open task use {value, word, reads, narrow, bits, made, making, refused}

  abbrev n : ℕ
  n = slice_index s.words 0

  abbrev now : State
  now = shown f s

  abbrev here : Scene P E
  here = scene f s r.past

  abbrev words : List ℕ
  words = set s.words 0 value

  spot-kept : (y : Spot) → IsSpot f.layout y → (TheScope ≡ y → ⊥) → word_of f.layout words y ≡ word_of f.layout s.words y
  spot-kept = places.spot-same f.layout s.words r.sized.words TheScope tt (λ i e. cc) value

  block-kept : (j : ℕ) → block_of f.layout words j ≡ block_of f.layout s.words j
  block-kept = places.blocks-same f.layout s.words r.sized.words TheScope tt (λ i e. cc) value

  said-kept : {A : Type 0} (first : A) (read : ℕ → A) (spot : ℕ → ℕ → Spot) →
      ((j m : ℕ) → j < f.layout.blocks → m < f.layout.nodes → IsSpot f.layout (spot j m)) →
      ((j m : ℕ) → TheScope ≡ spot j m → ⊥) → (j m : ℕ) →
      said f.layout words first read spot j m ≡ said f.layout s.words first read spot j m
  said-kept first read spot is_spot ne j m =
      places.said-same f.layout s.words r.sized.words TheScope tt (λ i e. cc) value first read spot j m (is_spot j m) (ne j m)

  stamp-kept : (y : Spot) (j : ℕ) → IsSpot f.layout y → (TheScope ≡ y → ⊥) →
      stamp_of (word_of f.layout s.words y) ≤ (block_of f.layout s.words j).generation →
      stamp_of (word_of f.layout words y) ≤ (block_of f.layout words j).generation
  stamp-kept y j is ne old =
      subst (λ b. stamp_of (word_of f.layout words y) ≤ b.generation) (sym (block-kept j))
      (subst (λ k. stamp_of k ≤ (block_of f.layout s.words j).generation) (sym (spot-kept y is ne)) old)

  settled-kept : (j m : ℕ) → j < f.layout.blocks → m < f.layout.nodes →
      is_said (block_of f.layout words j) (word_of f.layout words (OfControl j m)) ≡ false →
      is_under_way (control_read (word_of f.layout words (OfControl j m))) ≡ false
  settled-kept j m hj hm old =
      let kept = spot-kept (OfControl j m) (hj, hm) (λ e. cc) in
      ap (λ w. is_under_way (control_read w)) kept
      ∙ r.stamped.settled j m hj hm ((λ k. is_said (sym (block-kept j) k) (sym kept k)) ∙ old)

  bits-kept : HasBitsOf (scope_read n) (scope_read value)
  bits-kept = subst (HasBitsOf (scope_read n)) (sym reads) bits

  abbrev mine : View P E
  mine = with_step 0 n value (record v { made = made; making = making; refused = refused })

  abbrev u : PureView
  u = record (now.view id) { made = made; making = making; refused = refused }

  abbrev written : State
  written = with_view (with_scope now word) id u

  shows-mine : shown_view (block_of f.layout s.words) mine ≡ u
  shows-mine =
      ap (λ (z : PureView). record z { made = made; making = making; refused = refused })
      (sym (view-here (block_of f.layout s.words) s.views id v at))

  view-put : (h : ℕ) → view_at (block_of f.layout words) (set s.views id mine) h ≡ written.view h
  view-put h =
      let old = block_of f.layout s.words in
      views-same old (block_of f.layout words)
      (λ y k. not (is_retired (block-kept y.block k).state) && y.generation == (block-kept y.block k).generation)
      (set s.views id mine) h
      ∙ view-set old s.views id v mine at h
      ∙ ap (λ z. cond (h == id) z (view_at old s.views h)) shows-mine

  abbrev after : Scene P E
  after = record here { state = written }

  scene-put : scene f record { words = words; homes = s.homes; views = set s.views id mine } r.past ≡ after
  scene-put =
      λ k. record here {
        state = record now {
          block = λ j. block-kept j k;
          control = λ j m. said-kept Idle control_read OfControl (λ j m a b. (a, b)) (λ j m e. cc) j m k;
          callback = λ j m. said-kept Never callback_read OfCallback (λ j m a b. (a, b)) (λ j m e. cc) j m k;
          source = λ j m. said-kept clear source_read OfSource (λ j m a b. (a, b)) (λ j m e. cc) j m k;
          scope_source = source_read (spot-kept TheScopeSource tt (λ e. cc) k);
          scope = (ap scope_read (word-here f.layout s.words r.sized.words TheScope tt value) ∙ reads) k;
          view = λ h. view-put h k;
        };
      }

  same-roles : (j : ℕ) → owning (now.view j) ≡ owning (written.view j)
  same-roles = related now id u (λ a b. owning a ≡ owning b) (λ _. refl) refl

  stands-put : Sound written → Stands cargo f.over.value after (set s.views id mine)
  stands-put sound =
      let w = written.view in
      let kept = known-aside here now.callback now.source now.scope_source word w (λ t h. h) v (λ y counts known so. so) (r.stands.views.each id v at) in
      record {
        sound = sound;
        homes = homes-aside here now.callback now.source now.scope_source word w same-roles r.stands.homes;
        starts = starts-aside here now.callback now.source now.scope_source word w cargo f.over.value r.stands.starts;
        items = items-aside here now.callback now.source now.scope_source word w cargo (λ t. refl) r.stands.items;
        lots = lots-aside here now.callback now.source now.scope_source word w cargo r.stands.lots;
        views = views-moved here after s.views id v mine at
            (λ j z ne there old. known-aside here now.callback now.source now.scope_source word w (λ t h. h) z (λ y counts known so. so) old)
            (known-listed after 0 n value (record v { made = made; making = making; refused = refused }) (record {
              held = kept.held;
              owed = kept.owed;
              reported = kept.reported;
              noted = kept.noted;
              unlooked = kept.unlooked;
              seen_after = kept.seen_after;
              seen = kept.seen;
            }))
            refl refl r.stands.views;
        counts = counts-moved now written s.views id v mine at refl refl r.stands.counts;
      }

  pub scope-runs : Sound (with_view (with_scope now word) id (record (now.view id) { made = made; making = making; refused = refused })) →
      Running cargo f record { words = set s.words 0 value; homes = s.homes; views = set s.views id (with_step 0 (slice_index s.words 0) value (record v { made = made; making = making; refused = refused })) }
  scope-runs sound =
      record {
        frame = r.frame;
        sized = record {
          words = length-set s.words 0 value ∙ r.sized.words;
          homes = r.sized.homes;
          seats = subst (λ k. k ≤ f.hands) (sym (length-set s.views id mine)) r.sized.seats;
        };
        stamped = record {
          control = λ j m hj hm. stamp-kept (OfControl j m) j (hj, hm) (λ e. cc) (r.stamped.control j m hj hm);
          callback = λ j m hj hm. stamp-kept (OfCallback j m) j (hj, hm) (λ e. cc) (r.stamped.callback j m hj hm);
          source = λ j m hj hm. stamp-kept (OfSource j m) j (hj, hm) (λ e. cc) (r.stamped.source j m hj hm);
          settled = settled-kept;
          quiet = λ j m hj hm.
              unsaid-kept (block_of f.layout s.words j) (block_of f.layout words j) (word_of f.layout s.words (OfCallback j m)) (word_of f.layout words (OfCallback j m))
              is_on (block-kept j) (spot-kept (OfCallback j m) (hj, hm) (λ e. cc)) (r.stamped.quiet j m hj hm);
          renewed = λ j m hj hm has.
              renewed-kept f.layout s.words words j m (said-kept Idle control_read OfControl (λ j m a b. (a, b)) (λ j m e. cc) j m)
              (spot-kept (OfSource j m) (hj, hm) (λ e. cc)) (ap (λ b. b.generation) (block-kept j)) (r.stamped.renewed j m hj hm has);
          rises = written-risen f.layout s.views id v mine at s.words value TheScope r.sized.words tt bits-kept
              refl r.stamped.rises;
          scope = subst (λ w. w < 2 ^ 36) (sym (word-here f.layout s.words r.sized.words TheScope tt value)) narrow;
        };
        past = r.past;
        stands = subst (λ z. Stands cargo f.over.value z (set s.views id mine)) (sym scene-put) (stands-put sound);
      }
