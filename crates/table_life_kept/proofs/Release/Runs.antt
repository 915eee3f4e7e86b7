-- The store by which a block is given back keeps the rule.
use Rattle.std.specs.Prelude.{slice_index}
use Rattle.std.proofs.Common.{◌≡◌, ℕ, ◌-◌, ◌<◌, ◌≤◌, nat_lt, Bool, true, ◌&&◌, ◌==◌, cond, List, length, set, Option, None, refl, sym, ap, ◌∙◌, subst, arith, length-set, ◌^◌, ◌∷◌}
use Rattle.std.proofs.lemmas.Bool.{and_parts, and_from, both_ways, cond-true, cond-false, eqb-true, eq-eqb, false_from_ne_true, le-leb, lt-ltb}
use Rattle.std.proofs.lemmas.Nat.{same_from_place}
use mathlib.Core.Option.{some}
use mathlib.Core.Option as maybe
use lib.ListN.{get_elem?}
use Rattle.life_rules.specs.declared.words.BlockWord.{BlockWord}
use Rattle.life_rules.specs.declared.words.ControlWord.TheVariants.{Idle}
use Rattle.life_rules.specs.declared.words.CallbackPhase.TheVariants.{Never}
use Rattle.life_rules.specs.declared.event.Name.{Name}
use Rattle.life_rules.specs.declared.words.BlockState.{BlockState}
use Rattle.life_rules.specs.declared.words.BlockState.TheVariants.{Free, Open, Retired}
use Rattle.node_tree.specs.Tree.{is_root}
use Rattle.life_rules.specs.Words.{is_idle, is_done, clear, is_open}
use Rattle.life_rules.specs.Views.{View as PureView, lose, forget}
use Rattle.life_rules.specs.States.{State, size, is_live, control_at}
use Rattle.life_rules.specs.LifeSteps.{root_of, may_release, after_release, next_word}
use Rattle.life_rules.specs.Sound.{Sound}
use Rattle.common_lemmas.proofs.Bool.{either, one-is}
use Rattle.life_rules.proofs.Readings.{stand-at, lives, begun-live, name_of-live}
use Rattle.life_kept.proofs.Fitting.{done-word}
use Rattle.life_kept.proofs.Quiet.{MayRelease, release-needs}
use Rattle.life_kept.proofs.Release.{sound-release}
use Rattle.table_words.specs.Stamps.{stamp_of}
use Rattle.table_words.specs.Blocks.{block_read}
use Rattle.table_words.specs.Controls.{control_read, callback_read, source_read}
use Rattle.table_words.specs.ScopeNumbers.{scope_read}
use Rattle.table_words.specs.Layouts.{Spot, TheScope, TheScopeSource, OfBlock, OfControl, OfCallback, OfSource, IsSpot, index, place_number}
use Rattle.listed_words.specs.Lists.{entry}
use Rattle.table_rules.specs.declared.cargo.Cargo.{Ghosts}
use Rattle.table_rules.specs.declared.frame.Frame.{Frame}
use Rattle.table_rules.specs.declared.view.View.{View}
use Rattle.table_rules.specs.ShownWords.{block_of, word_of, is_there}
use Rattle.table_rules.specs.ShownViews.{view_at, shown_view}
use Rattle.table_rules.specs.Scenes.{Empty, Scene, shown, scene}
use Rattle.table_rules.specs.Notes.{IsRootedSo, IsKnown}
use Rattle.table_rules.specs.Counts.{AreCounted}
use Rattle.table_rules.specs.Running.{Stands, Running}
use Rattle.table_steps.specs.Claims.{with_step}
use Rattle.table_steps.specs.Slots.{slot_of, IsSeated}
use Rattle.table_steps.specs.Releases.{releases, is_own_slot, CanRelease}
use Rattle.table_kept.proofs.Standing.{Standing}
use Rattle.table_kept.proofs.Entries.{count-without, each-without, has-counts}
use Rattle.table_kept.proofs.Seats.{at_within}
use Rattle.table_kept.proofs.Among.{among}
use Rattle.table_kept.proofs.Loads.{known-listed}
use Rattle.table_kept.proofs.Stamping.{written-risen}
use Rattle.table_kept.proofs.Counts.{counts-stepped}
use Rattle.table_life_kept.proofs.OpenBlocks.{one-closed}
use Rattle.table_kept.proofs.ViewMoves.{view-here, view-set, views-moved}
use Rattle.table_kept.proofs.WordMoves.{there-place}
use Rattle.table_kept.proofs.HomeMoves.{home_of_place}
use Rattle.table_life_kept.proofs.Shedding.{deep-shed}
use Rattle.table_life_kept.proofs.ShedHomes.{ToShed, shed_homes, shed-far, shed-here}
use Rattle.table_life_kept.proofs.Release.Homes.{released_scene, homes-released, starts-released, items-released, lots-released}
use Rattle.table_life_kept.proofs.Release.Views.{known-released}
use Rattle.table_life_kept.proofs.Release.Moves.{released_words, place-kept, block-released, stamp-later, said-released}
use Rattle.table_life_kept.proofs.Release.Forgetting.{views-forget}
use Rattle.table_life_kept.proofs.Release.Stamps.{Releases, settled-after, quiet-after, renewed-after, number-more}

open-is : (w : BlockState) → is_open w ≡ true → w ≡ Open
open-is Free o = cc
open-is Open o = refl
open-is Retired o = cc

-- which block is given back, and by which word
pub record ToRelease {P E O : Type 0} {cargo : Ghosts P E O} {f : Frame O}
    (hand : Standing cargo f) : Type 0 where
  pub value : ℕ
  pub block : ℕ
  pub generation : ℕ
  pub carried : List (ℕ × Option P)
  pub seated : IsSeated f.tree f.layout (hand.view, carried)
  pub can : CanRelease f.layout (hand.view, carried) (record { block = block; generation = generation; node = length f.tree - 1 })
  pub reads : block_read value ≡ next_word (record { generation = generation; state = Open })

module _ {P E O : Type 0} (cargo : Ghosts P E O) (f : Frame O) (hand : Standing cargo f)
    (task : ToRelease hand) where
  open hand use {state as s, id, view as v, running as r, at}
  open task use {value, block as b, generation as g, carried as c, seated, can, reads}

  abbrev now : State
  now = shown f s

  abbrev here : Scene P E
  here = scene f s r.past

  abbrev x : Name
  x = record { block = b; generation = g; node = length f.tree - 1 }

  shows : now.view id ≡ shown_view (block_of f.layout s.words) v
  shows = view-here (block_of f.layout s.words) s.views id v at

  below : id < f.hands
  below = let l = at_within s.views id v at in let m = r.sized.seats in omega (arith, l, m)

  finished-now : 1 ≤ (now.view id).finished x
  finished-now = subst (λ (u : PureView). 1 ≤ u.finished x) (sym shows) (has-counts v.finished x can.finished)

  live : is_live now x ≡ true
  live =
      let all = stand-at now (λ v. v.finished) id x below in
      let fit = (r.stands.sound.owned.names x).finish in
      let some_one = finished-now in
      let done = (and_parts (is_done (control_at now x)) (is_root f.tree x.node) (one-is (omega (arith, all, fit, some_one)))).0 in
      begun-live now x (ap is_idle (done-word (control_at now x) done))

  name : root_of now b ≡ x
  name = name_of-live now x live

  may : may_release now id b ≡ true
  may =
      let l = lives now x live in
      let some_one = finished-now in
      and_from _ _ (lt-ltb b now.blocks l.block) (le-leb 1 _ (subst (λ z. 1 ≤ (now.view id).finished z) (sym name) some_one))

  needs : MayRelease now id b
  needs = release-needs now id b r.stands.sound below may

  later : Sound (after_release now id b)
  later = sound-release now id b r.stands.sound below may

  pub hb : b < f.layout.blocks
  hb = (lives now x live).block

  far : (n : ℕ) → (n < size now → ⊥) → here.home b n ≡ Empty
  far n outside =
      cond-false (is_there f.layout b n) _ Empty
      (false_from_ne_true (is_there f.layout b n) (λ t.
      outside (let l = (there-place f.layout b n t).1 in let e = r.frame.nodes in omega (arith, l, e))))

  pub word-next : block_read value ≡ next_word (block_of f.layout s.words b)
  word-next =
      reads ∙ ap (λ k. next_word (record { generation = k; state = Open })) (lives now x live).generation

  abbrev gone : ℕ → Bool
  gone = is_own_slot f.layout x

  abbrev shedding : ToShed hand
  shedding = record { carried = c; seated = seated; gone = gone }

  abbrev homes_now : List (maybe.Option (Option P))
  homes_now = shed_homes cargo f hand shedding

  abbrev after : Scene P E
  after = released_scene here id b needs later r.stands.homes far

  hn : x.node < f.layout.nodes
  hn = let l = (lives now x live).node in let e = r.frame.nodes in omega (arith, l, e)

  home-after : (i m : ℕ) → home_of_place f.layout homes_now i m ≡ after.home i m
  home-after i m =
      either (i == b && m == size now - 1)
      (λ t.
      let parts = and_parts (i == b) (m == size now - 1) t in
      (λ k. home_of_place f.layout homes_now (eqb-true i b parts.0 k) (eqb-true m (size now - 1) parts.1 k))
      ∙ shed-here cargo f hand shedding b (size now - 1) None hb hn (eq-eqb (slot_of f.layout x) (slot_of f.layout x) refl) can.home
      ∙ sym (cond-true (i == b && m == size now - 1) Empty (here.home i m) t))
      (λ apart.
      either (is_there f.layout i m)
      (λ there.
      shed-far cargo f hand shedding i m
      (false_from_ne_true (gone (place_number f.layout i m)) (λ t.
      let is = same_from_place b (size now - 1) i m f.layout.nodes hn (there-place f.layout i m there).1 (eqb-true (slot_of f.layout x) (place_number f.layout i m) t) in
      both_ways (i == b && m == size now - 1) apart (and_from _ _ (eq-eqb i b (sym is.0)) (eq-eqb m (size now - 1) (sym is.1))))))
      (λ away. cond-false (is_there f.layout i m) _ Empty away ∙ sym (cond-false (is_there f.layout i m) _ Empty away))
      ∙ sym (cond-false (i == b && m == size now - 1) Empty (here.home i m) apart))

  abbrev words : List ℕ
  words = released_words f.layout s.words r.sized.words b value hb word-next

  abbrev old_blocks : ℕ → BlockWord
  old_blocks = block_of f.layout s.words

  abbrev new_blocks : ℕ → BlockWord
  new_blocks = block_of f.layout words

  blocks-are : (i : ℕ) → new_blocks i ≡ (after_release now id b).block i
  blocks-are = block-released f.layout s.words r.sized.words b value hb word-next

  opened : is_open (old_blocks b).state ≡ true
  opened = (lives now x live).is_opened

  -- so says the word that the step finds
  pub found-open : block_read (word_of f.layout s.words (OfBlock b)) ≡ record { generation = g; state = Open }
  found-open =
      let read = block_read (word_of f.layout s.words (OfBlock b)) in
      sym (cond-true (nat_lt b f.layout.blocks) read (record { generation = 0; state = Free }) (lt-ltb b f.layout.blocks hb))
      ∙ (λ k. record { generation = sym (lives now x live).generation k; state = open-is (old_blocks b).state opened k })

  abbrev given_back : Releases cargo f
  given_back = record {
    state = s;
    id = id;
    value = value;
    block = b;
    running = r;
    within = hb;
    opened = opened;
    needs = needs;
    next = word-next;
  }

  module _ (n : ℕ) where
    abbrev i : ℕ
    i = index f.layout (OfBlock b)

    abbrev mine : View P E
    mine = with_step i n value (releases x v)

    -- what the hand knows it still knows, before and after
    mine-known : (t : Scene P E) → IsKnown t v → IsKnown t mine
    mine-known t k =
        known-listed t i n value (releases x v) (record {
          held = k.held;
          owed = k.owed;
          reported = k.reported;
          noted = each-without (IsRootedSo t) (λ e. e.name) v.noted x k.noted;
          unlooked = k.unlooked;
          seen_after = k.seen_after;
          seen = k.seen;
        })

    known-before : (j : ℕ) (z : View P E) → get_elem? (set s.views id mine) j ≡ some z → IsKnown here z
    known-before =
        (views-moved here here s.views id v mine at (λ j z _ _ k. k) (mine-known here (r.stands.views.each id v at)) refl refl r.stands.views).each

    view-mine : shown_view old_blocks mine ≡ record (now.view id) { finished = lose (root_of now b) (now.view id).finished }
    view-mine =
        let old = shown_view old_blocks v in
        (λ k. record old { finished = λ y. count-without (λ z. z) v.finished x y k })
        ∙ (λ k. record (sym shows k) { finished = lose (sym name k) (sym shows k).finished })

    view-after : (h : ℕ) → view_at new_blocks (set s.views id mine) h ≡ (after_release now id b).view h
    view-after h =
        views-forget here id b new_blocks blocks-are (set s.views id mine) h known-before
        ∙ ap (forget b) (view-set old_blocks s.views id v mine at h ∙ ap (λ z. cond (h == id) z (view_at old_blocks s.views h)) view-mine)

    scene-after : scene f record { words = words; homes = homes_now; views = set s.views id mine } r.past ≡ after
    scene-after =
        λ k. record {
          state = record {
            tree = f.tree;
            blocks = f.layout.blocks;
            hands = f.hands;
            kind = f.kind;
            most = f.most;
            block = λ j. blocks-are j k;
            control = λ j m. said-released f.layout s.words r.sized.words b value hb word-next Idle control_read OfControl
                (λ j m p q. (p, q)) (λ j m e. cc) (λ m hm. r.stamped.control b m hb hm) j m k;
            callback = λ j m. said-released f.layout s.words r.sized.words b value hb word-next Never callback_read OfCallback
                (λ j m p q. (p, q)) (λ j m e. cc) (λ m hm. r.stamped.callback b m hb hm) j m k;
            source = λ j m. said-released f.layout s.words r.sized.words b value hb word-next clear source_read OfSource
                (λ j m p q. (p, q)) (λ j m e. cc) (λ m hm. r.stamped.source b m hb hm) j m k;
            scope_source = source_read (place-kept f.layout s.words r.sized.words b value hb word-next TheScopeSource tt (λ e. cc) k);
            scope = scope_read (place-kept f.layout s.words r.sized.words b value hb word-next TheScope tt (λ e. cc) k);
            view = λ h. view-after h k;
          };
          home = λ j m. home-after j m k;
          past = r.past;
        }

    stamp-place : (y : Spot) (j m : ℕ) → IsSpot f.layout y → (OfBlock b ≡ y → ⊥) →
        stamp_of (word_of f.layout s.words y) ≤ (old_blocks j).generation → stamp_of (word_of f.layout words y) ≤ (new_blocks j).generation
    stamp-place y j m is ne old =
        stamp-later f.layout s.words r.sized.words b value hb word-next j (stamp_of (word_of f.layout words y))
        (subst (λ w. stamp_of w ≤ (old_blocks j).generation) (sym (place-kept f.layout s.words r.sized.words b value hb word-next y is ne)) old)

    -- one block less is open, and one more was given back
    release-counts : AreCounted (after_release now id b) (set s.views id mine)
    release-counts =
        let l = lives now x live in
        let less = one-closed now id b l.block l.is_opened in
        let itself = seated.itself in
        counts-stepped now (after_release now id b) s.views id v mine at refl
        (λ none. absurd (omega (arith, none, itself))) (omega (arith, less)) r.stands.counts

    pub release-runs : n ≡ slice_index s.words i → Running cargo f record { words = words; homes = homes_now; views = set s.views id mine }
    release-runs was =
        record {
          frame = r.frame;
          sized = record {
            words = length-set s.words i value ∙ r.sized.words;
            homes = deep-shed gone s.homes c ∙ r.sized.homes;
            seats = subst (λ k. k ≤ f.hands) (sym (length-set s.views id mine)) r.sized.seats;
          };
          stamped = record {
            control = λ j m hj hm. stamp-place (OfControl j m) j m (hj, hm) (λ e. cc) (r.stamped.control j m hj hm);
            callback = λ j m hj hm. stamp-place (OfCallback j m) j m (hj, hm) (λ e. cc) (r.stamped.callback j m hj hm);
            source = λ j m hj hm. stamp-place (OfSource j m) j m (hj, hm) (λ e. cc) (r.stamped.source j m hj hm);
            settled = settled-after cargo f given_back;
            quiet = quiet-after cargo f given_back;
            renewed = renewed-after cargo f given_back;
            rises = written-risen f.layout s.views id v mine at s.words value (OfBlock b) r.sized.words hb (number-more cargo f given_back)
                (ap (λ k. entry i k value ∷ v.steps) was) r.stamped.rises;
            scope = subst (λ w. w < 2 ^ 36) (sym (place-kept f.layout s.words r.sized.words b value hb word-next TheScope tt (λ e. cc))) r.stamped.scope;
          };
          past = r.past;
          stands = subst (λ z. Stands cargo f.over.value z (set s.views id mine)) (sym scene-after) (record {
            sound = later;
            homes = homes-released here id b needs later r.stands.homes far;
            starts = starts-released here id b needs later r.stands.homes far cargo f.over.value r.stands.starts;
            items = items-released here id b needs later r.stands.homes far cargo f.over.value r.stands.items;
            lots = lots-released here id b needs later r.stands.homes far cargo f.over.value r.stands.lots;
            views = views-moved here after s.views id v mine at
                (λ j z ne there. known-released here id b needs later r.stands.homes far z (among f s j z r.sized.seats there))
                (mine-known after (known-released here id b needs later r.stands.homes far v (among f s id v r.sized.seats at) (r.stands.views.each id v at)))
                refl refl r.stands.views;
            counts = release-counts;
          });
        }
