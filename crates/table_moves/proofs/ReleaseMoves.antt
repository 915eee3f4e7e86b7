-- The step by which a block is given back is a move of the pure machine.
use Rattle.std.proofs.Common.{◌≡◌, ℕ, true, ◌==◌, ◌<◌, ◌≤◌, ◌-◌, cond, List, length, arith, refl, sym, ap, ◌∙◌, subst}
use Rattle.std.specs.Prelude.{Option, slice_set}
use Rattle.std.proofs.lemmas.Bool.{and_parts, and_from, lt-ltb, le-leb}
use Rattle.common_lemmas.proofs.Bool.{one-is}
use mathlib.Core.Option.{some}
use lib.ListN.{get_elem?}
use Rattle.life_rules.specs.declared.words.CallbackPhase.TheVariants.{Never}
use Rattle.life_rules.specs.declared.words.ControlWord.TheVariants.{Idle}
use Rattle.life_rules.specs.declared.event.Name.{Name}
use Rattle.life_rules.specs.declared.event.Event.TheVariants.{Release}
use Rattle.node_tree.specs.Tree.{is_root}
use Rattle.life_rules.specs.Words.{is_idle, is_done, clear}
use Rattle.life_rules.specs.Views.{View as PureView, lose, forget}
use Rattle.life_rules.specs.States.{State, is_live, control_at}
use Rattle.life_rules.specs.LifeSteps.{root_of, after_release, may_release, next_word}
use Rattle.life_rules.specs.Steps.{Step}
use Rattle.life_rules.proofs.Readings.{lives, begun-live, stand-at, name_of-live}
use Rattle.life_kept.proofs.Fitting.{done-word}
use Rattle.table_words.specs.Blocks.{block_read}
use Rattle.table_words.specs.Controls.{control_read, callback_read, source_read}
use Rattle.table_words.specs.ScopeNumbers.{scope_read}
use Rattle.table_words.specs.Layouts.{TheScope, TheScopeSource, OfControl, OfCallback, OfSource}
use Rattle.atomic_table.specs.Table as table
use Rattle.table_rules.specs.declared.cargo.Cargo.{Ghosts}
use Rattle.table_rules.specs.declared.frame.Frame.{Frame}
use Rattle.table_rules.specs.declared.view.View.{View}
use Rattle.table_rules.specs.ShownWords.{block_of}
use Rattle.table_rules.specs.ShownViews.{view_at, shown_view}
use Rattle.table_rules.specs.Scenes.{Scene, shown, scene}
use Rattle.table_rules.specs.Notes.{IsKnown, IsRootedSo}
use Rattle.table_steps.specs.Claims.{word_index, with_step}
use Rattle.table_steps.specs.Releases.{releases}
use Rattle.table_kept.proofs.Standing.{Standing}
use Rattle.table_kept.proofs.Entries.{count-without, each-without, has-counts}
use Rattle.table_life_kept.proofs.Release.Forgetting.{views-forget}
use Rattle.table_kept.proofs.Loads.{known-listed}
use Rattle.table_life_kept.proofs.Release.Moves.{released_words, place-kept, block-released, said-released}
use Rattle.table_life_kept.proofs.Release.Runs.{ToRelease, hb, word-next}
use Rattle.table_kept.proofs.Seats.{at_within}
use Rattle.table_kept.proofs.ViewMoves.{view-here, view-set, views-moved}
use Rattle.table_moves.specs.BlockMoves.{ReleasesByMove}

-- a block that is given back
module _ {P E O : Type 0} (cargo : Ghosts P E O) (f : Frame O) (hand : Standing cargo f) (task : ToRelease hand) where
  open hand use {state as s, id, view as v, running as r, at}
  open task use {value, block as b, generation as g, can}

  abbrev now : State
  now = shown f s

  abbrev here : Scene P E
  here = scene f s r.past

  abbrev x : Name
  x = record { block = b; generation = g; node = length f.tree - 1 }

  shows : now.view id ≡ shown_view (block_of f.layout s.words) v
  shows = view-here (block_of f.layout s.words) s.views id v at

  below : id < f.hands
  below = let l = at_within s.views id v at in let m = r.sized.seats in omega (arith, l, m)

  finished-now : 1 ≤ (now.view id).finished x
  finished-now = subst (λ (u : PureView). 1 ≤ u.finished x) (sym shows) (has-counts v.finished x can.finished)

  live : is_live now x ≡ true
  live =
      let all = stand-at now (λ v. v.finished) id x below in
      let fit = (r.stands.sound.owned.names x).finish in
      let some_one = finished-now in
      let done = (and_parts (is_done (control_at now x)) (is_root f.tree x.node) (one-is (omega (arith, all, fit, some_one)))).0 in
      begun-live now x (ap is_idle (done-word (control_at now x) done))

  name : root_of now b ≡ x
  name = name_of-live now x live

  may : may_release now id b ≡ true
  may =
      let l = lives now x live in
      let some_one = finished-now in
      and_from _ _ (lt-ltb b now.blocks l.block) (le-leb 1 _ (subst (λ z. 1 ≤ (now.view id).finished z) (sym name) some_one))

  abbrev next : block_read value ≡ next_word (block_of f.layout s.words b)
  next = word-next cargo f hand task

  abbrev words : List ℕ
  words = released_words f.layout s.words r.sized.words b value (hb cargo f hand task) next

  blocks-are : (i : ℕ) → block_of f.layout words i ≡ (after_release now id b).block i
  blocks-are = block-released f.layout s.words r.sized.words b value (hb cargo f hand task) next

  module _ (i n : ℕ) where
    abbrev mine : View P E
    mine = with_step i n value (releases x v)

    mine-known : IsKnown here v → IsKnown here mine
    mine-known k =
        known-listed here i n value (releases x v) (record {
          held = k.held;
          owed = k.owed;
          reported = k.reported;
          noted = each-without (IsRootedSo here) (λ e. e.name) v.noted x k.noted;
          unlooked = k.unlooked;
          seen_after = k.seen_after;
          seen = k.seen;
        })

    known-before : (j : ℕ) (z : View P E) → get_elem? (slice_set s.views id mine) j ≡ some z → IsKnown here z
    known-before =
        (views-moved here here s.views id v mine at (λ j z _ _ k. k) (mine-known (r.stands.views.each id v at)) refl refl r.stands.views).each

    view-mine : shown_view (block_of f.layout s.words) mine ≡ record (now.view id) { finished = lose (root_of now b) (now.view id).finished }
    view-mine =
        let old = shown_view (block_of f.layout s.words) v in
        (λ k. record old { finished = λ y. count-without (λ z. z) v.finished x y k })
        ∙ (λ k. record (sym shows k) { finished = lose (sym name k) (sym shows k).finished })

    view-after : (h : ℕ) → view_at (block_of f.layout words) (slice_set s.views id mine) h ≡ (after_release now id b).view h
    view-after h =
        views-forget here id b (block_of f.layout words) blocks-are (slice_set s.views id mine) h known-before
        ∙ ap (forget b) (view-set (block_of f.layout s.words) s.views id v mine at h
        ∙ ap (λ z. cond (h == id) z (view_at (block_of f.layout s.words) s.views h)) view-mine)

    pub release-move : (s' : table.State (Option P) (View P E)) → s'.words ≡ words → s'.views ≡ slice_set s.views id mine → Step now id (Release b) (shown f s')
    release-move s' words_are views_are =
        record {
          hand_is = below;
          needs = may;
          gives = (λ k. shown f record { words = words_are k; homes = s'.homes; views = views_are k })
              ∙ (λ k. record {
                tree = f.tree;
                blocks = f.layout.blocks;
                hands = f.hands;
                kind = f.kind;
                most = f.most;
                block = λ j. blocks-are j k;
                control = λ j m. said-released f.layout s.words r.sized.words b value (hb cargo f hand task) next Idle control_read OfControl
                    (λ j m p q. (p, q)) (λ j m e. cc) (λ m hm. r.stamped.control b m (hb cargo f hand task) hm) j m k;
                callback = λ j m. said-released f.layout s.words r.sized.words b value (hb cargo f hand task) next Never callback_read OfCallback
                    (λ j m p q. (p, q)) (λ j m e. cc) (λ m hm. r.stamped.callback b m (hb cargo f hand task) hm) j m k;
                source = λ j m. said-released f.layout s.words r.sized.words b value (hb cargo f hand task) next clear source_read OfSource
                    (λ j m p q. (p, q)) (λ j m e. cc) (λ m hm. r.stamped.source b m (hb cargo f hand task) hm) j m k;
                scope_source = source_read (place-kept f.layout s.words r.sized.words b value (hb cargo f hand task) next TheScopeSource tt (λ e. cc) k);
                scope = scope_read (place-kept f.layout s.words r.sized.words b value (hb cargo f hand task) next TheScope tt (λ e. cc) k);
                view = λ h. view-after h k;
              });
        }

pub releases-by_move : {P E O : Type 0} (cargo : Ghosts P E O) → ReleasesByMove cargo
releases-by_move cargo board block generation old new of_table can did s s' r stepped =
    let hand : Standing cargo board.frame = record { state = s; id = old.id; view = old.me.0; running = r; at = stepped.before } in
    release-move cargo board.frame hand (record {
      value = did.left;
      block = block;
      generation = generation;
      carried = old.me.1;
      seated = of_table.seated;
      can = can;
      reads = did.says;
    })
    (word_index board block) did.read s' stepped.words_are
    (stepped.views_are ∙ ap (λ z. slice_set s.views old.id z.0) did.did.me_is)
