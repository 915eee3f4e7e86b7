-- A look at a stop source is a move of the pure machine, or moves nothing.
use Rattle.std.proofs.Common.{◌≡◌, ℕ, ◌<◌, Bool, true, false, not, ◌&&◌, ◌||◌, length, refl, sym, ap, ◌∙◌, subst, arith}
use Rattle.std.specs.Prelude.{Option, Some, None, slice_set}
use Rattle.std.specs.Option.{option_map_or}
use Rattle.std.proofs.lemmas.Bool.{and_parts, and_from, or_left, both_ways, cond-true, cond-false, eqb-true, lt-ltb}
use Rattle.common_lemmas.proofs.Bool.{either}
use Rattle.life_rules.specs.declared.event.Name.{Name}
use Rattle.life_rules.specs.declared.event.SourceRef.{SourceRef}
use Rattle.life_rules.specs.declared.event.SourceRef.TheVariants.{Scope, Node}
use Rattle.life_rules.specs.declared.event.Event.TheVariants.{Look}
use Rattle.node_tree.specs.Tree.{Nearest, TheScope, TheNode, Nowhere, nearest}
use Rattle.life_rules.specs.Views.{View as PureView, beside, same_source, mark, note}
use Rattle.life_rules.specs.States.{State, is_live, bits_at, name_at, source_for, with_view}
use Rattle.life_rules.specs.Scans.{is_nearest}
use Rattle.life_rules.specs.StopSteps.{is_source, source_of}
use Rattle.life_rules.specs.Steps.{Step}
use Rattle.life_rules.proofs.Names.{same_source-refl}
use Rattle.stop_kept.proofs.Standing.{phase-live}
use Rattle.table_words.specs.Layouts.{IsSpot, index}
use Rattle.atomic_table.specs.Table as table
use Rattle.atomic_table.specs.declared.shared.Seat.{Seat}
use Rattle.table_rules.specs.declared.cargo.Cargo.{Ghosts}
use Rattle.table_rules.specs.declared.frame.Frame.{Frame}
use Rattle.table_rules.specs.declared.view.View.{View}
use Rattle.table_rules.specs.ShownWords.{block_of, is_present, is_present_source, is_retired}
use Rattle.table_rules.specs.ShownViews.{shown_view, has_name}
use Rattle.table_rules.specs.Scenes.{shown}
use Rattle.table_rules.specs.Running.{Running}
use Rattle.table_steps.specs.Views.{Board}
use Rattle.table_steps.specs.Claims.{logged}
use Rattle.table_steps.specs.Sights.{spot_of, has_one, but_for, seen_after_now, IsSourceIn, IsUnlooked, looks_at, says_requested, sees}
use Rattle.table_kept.proofs.AsideSteps.{unmoved}
use Rattle.table_kept.proofs.LiveNames.{place-live}
use Rattle.table_kept.proofs.Seats.{at_within}
use Rattle.table_kept.proofs.ViewMoves.{view-here}
use Rattle.table_stop_kept.proofs.Look.State.{read-stands, stands-read}
use Rattle.table_moves.specs.Moves.{HasStepped, place_of}
use Rattle.table_moves.specs.ScanMoves.{source_at}
use Rattle.table_moves.specs.SourceMoves.{IsLookMove, LooksByMove}
use Rattle.table_moves.proofs.LookViews.{both-tests, seen-noted, seen-past, looked-after, seen-after, past-mark, past-unlooked, past-seen, present-seen}
use Rattle.table_moves.proofs.WithdrawMoves.{view-after, word-same}

module _ {P E O : Type 0} (cargo : Ghosts P E O) (board : Board O) (source : SourceRef) (word : ℕ) (old new : Seat (Option P) (View P E)) (is-in : IsSourceIn board source) (s s' : table.State (Option P) (View P E)) (r : Running cargo board.frame s) (stepped : HasStepped (index board.frame.layout (spot_of source)) word word old.id old.me.0 new.me.0 s s') where
  abbrev f : Frame O
  f = board.frame

  abbrev now : State
  now = shown f s

  abbrev id : ℕ
  id = old.id

  abbrev v : View P E
  v = old.me.0

  abbrev mine : PureView
  mine = now.view id

  below : id < f.hands
  below = let l = at_within s.views id v stepped.before in let m = r.sized.seats in omega (arith, l, m)

  is-shown : mine ≡ shown_view (block_of f.layout s.words) v
  is-shown = view-here (block_of f.layout s.words) s.views id v stepped.before

  abbrev requested : Bool
  requested = says_requested source word

  -- what the word says of a source of the present is so
  reads : is_present_source now.block source ≡ true → requested ≡ (bits_at now source).requested
  reads present =
      both-tests requested (bits_at now source).requested
      (λ says.
      read-stands cargo f s source r is-in.spot present
      (subst (λ n. says_requested source n ≡ true) (sym stepped.read_is) says))
      (λ stands.
      subst (λ n. says_requested source n ≡ true) stepped.read_is (stands-read cargo f s source r is-in.spot stands))

  -- a name of the present is what its place has now
  named-now : (x : Name) → is_present now.block x ≡ true → x ≡ name_at now (place_of x)
  named-now x present =
      let parts = and_parts (not (is_retired (now.block x.block).state)) _ present in
      λ k. record { block = x.block; generation = eqb-true _ _ parts.1 k; node = x.node }

  source-now : (t : SourceRef) → is_present_source now.block t ≡ true → t ≡ source_of now (source_at t)
  source-now Scope present = refl
  source-now (Node y) present = ap Node (named-now y present)

  sourced : (t : SourceRef) → IsSpot f.layout (spot_of t) → has_one f.tree t → is_source now (source_at t) ≡ true
  sourced Scope spot one = refl
  sourced (Node y) spot one =
      let node = spot.1 in
      let nodes = r.frame.nodes in
      and_from _ _
      (and_from _ _ (lt-ltb y.block f.layout.blocks spot.0) (lt-ltb y.node (length f.tree) (omega (arith, node, nodes)))) one

  -- the state after a look shows the view so
  shows-after : (after : Option Name) → new.me ≡ looks_at source after (index f.layout (spot_of source)) word old.me →
      (u : PureView) → shown_view (block_of f.layout s.words) (sees source after requested v) ≡ u →
      shown f s' ≡ with_view now id u
  shows-after after me_is u shows =
      view-after cargo f s id v stepped.before
      (logged (index f.layout (spot_of source)) word (sees source after requested v)) u shows s'
      (stepped.words_are ∙ word-same cargo f s id v stepped.before (index f.layout (spot_of source)) word stepped.read_is)
      (stepped.views_are ∙ ap (λ z. slice_set s.views id z.0) me_is)

  -- the hand looked at the source alone, or after a place of an older generation
  abbrev looked : SourceRef → PureView
  looked t = record mine { seen = note t (bits_at now t).requested mine.seen }

  plain-look : is_present_source now.block source ≡ true → shown f s' ≡ with_view now id (looked source) →
      Step now id (Look (source_at source) None) (shown f s')
  plain-look present is =
      record {
        hand_is = below;
        needs = sourced source is-in.spot is-in.is_one;
        gives = is ∙ ap (λ t. with_view now id (looked t)) (source-now source present);
      }

  shows-looked : is_present_source now.block source ≡ true →
      (let w = shown_view (block_of f.layout s.words) v in
      record w { seen = note source requested w.seen } ≡ looked source)
  shows-looked present =
      (λ k. let z = sym is-shown k in record z { seen = note source (reads present k) z.seen })

  none : new.me ≡ looks_at source None (index f.layout (spot_of source)) word old.me → IsLookMove now id source None (shown f s')
  none me_is =
      record {
        present = λ present.
            plain-look present
            (shows-after None me_is (looked source)
            ((λ k. record (shown_view now.block v) { seen = λ u. seen-noted now v requested source u present k })
            ∙ shows-looked present));
        past = λ past.
            shows-after None me_is mine
            ((λ k. record (shown_view now.block v) { seen = λ u. seen-past now v requested source u past k }) ∙ sym is-shown)
            ∙ unmoved now id;
      }

  -- after an arming at x
  module _ (x : Name) (may : IsUnlooked f.tree v source x) (me_is : new.me ≡ looks_at source (Some x) (index f.layout (spot_of source)) word old.me) where
    abbrev was : PureView
    was = shown_view now.block v

    abbrev seen_now : Bool
    seen_now = was.seen_after x || (requested && is_present now.block x)

    -- of an older generation
    module _ (past : is_present now.block x ≡ false) where
      unlooked-same : (y : Name) → (has_name (but_for x v.unlooked) y && is_present now.block y) ≡ was.unlooked y
      unlooked-same y =
          looked-after now v requested x y
          ∙ past-mark now v requested x was.unlooked false (past-unlooked now v requested x past) y

      after-same : (y : Name) → (has_name (seen_after_now (Some x) requested v.seen_after) y && is_present now.block y) ≡ was.seen_after y
      after-same y =
          seen-after now v requested x y
          ∙ past-mark now v requested x was.seen_after seen_now (past-seen now v requested x past) y

    -- where the source isn't of the present, the place isn't
    by-nearest : (k : Nearest) → source_for x k ≡ Some source → is_present_source now.block source ≡ false →
        is_present now.block x ≡ false
    by-nearest TheScope e past =
        let is : Scope ≡ source = cc in
        absurd (both_ways (is_present_source now.block source) past (subst (λ z. is_present_source now.block z ≡ true) is refl))
    by-nearest (TheNode p) e past =
        let is : Node (beside x p) ≡ source = cc in
        subst (λ z. is_present_source now.block z ≡ false) (sym is) past
    by-nearest Nowhere e past = cc

    abbrev looked_after : SourceRef → Name → PureView
    looked_after t y =
        record mine {
          seen = note t (bits_at now t).requested mine.seen;
          unlooked = mark y false mine.unlooked;
          seen_after = mark y (mine.seen_after y || (bits_at now t).requested) mine.seen_after;
        }

    module _ (present : is_present_source now.block source ≡ true) (there : is_present now.block x ≡ true) where
      unlooked-now : mine.unlooked x ≡ true
      unlooked-now = subst (λ (u : PureView). u.unlooked x ≡ true) (sym is-shown) (and_from _ _ may.unlooked there)

      live : is_live now x ≡ true
      live = phase-live now x (r.stands.sound.requests.noted id x below (or_left (mine.unlooked x) (mine.seen_after x) unlooked-now))

      nearest-now : is_nearest now source x ≡ true
      nearest-now = ap (λ o. option_map_or (same_source source) o false) may.nearest_is ∙ same_source-refl source

      shows-looked_after : shown_view now.block (sees source (Some x) requested v) ≡ looked_after source x
      shows-looked_after =
          (λ k. record was {
            seen = λ u. seen-noted now v requested source u present k;
            unlooked = λ y. looked-after now v requested x y k;
            seen_after = λ y. seen-after now v requested x y k;
          })
          ∙ (λ k. record was {
            seen = note source requested was.seen;
            unlooked = mark x false was.unlooked;
            seen_after = mark x (present-seen now v requested x there k) was.seen_after;
          })
          ∙ (λ k. let z = sym is-shown k in record z {
            seen = note source (reads present k) z.seen;
            unlooked = mark x false z.unlooked;
            seen_after = mark x (z.seen_after x || reads present k) z.seen_after;
          })

      look-after : Step now id (Look (source_at source) (Some (place_of x))) (shown f s')
      look-after =
          let both : (source, x) ≡ (source_of now (source_at source), name_at now (place_of x)) =
          λ k. (source-now source present k, named-now x there k) in
          record {
            hand_is = below;
            needs = and_from _ _ (place-live now x live)
                (subst (λ (z : SourceRef × Name). (mine.unlooked z.1 && is_nearest now z.0 z.1) ≡ true) both
                (and_from _ _ unlooked-now nearest-now));
            gives = shows-after (Some x) me_is (looked_after source x) shows-looked_after
                ∙ ap (λ (z : SourceRef × Name). with_view now id (looked_after z.0 z.1)) both;
          }

    some : IsLookMove now id source (Some x) (shown f s')
    some =
        record {
          present = λ present.
              either (is_present now.block x)
              (λ there.
              subst (λ p. Step now id (Look (source_at source) p) (shown f s'))
              (sym (cond-true (is_present now.block x) (Some (place_of x)) None there)) (look-after present there))
              (λ past.
              subst (λ p. Step now id (Look (source_at source) p) (shown f s'))
              (sym (cond-false (is_present now.block x) (Some (place_of x)) None past))
              (plain-look present
              (shows-after (Some x) me_is (looked source)
              ((λ k. record was {
                seen = λ u. seen-noted now v requested source u present k;
                unlooked = λ y. unlooked-same past y k;
                seen_after = λ y. after-same past y k;
              })
              ∙ shows-looked present))));
          past = λ past.
              let gone = by-nearest (nearest f.tree x.node) may.nearest_is past in
              shows-after (Some x) me_is mine
              ((λ k. record was {
                seen = λ u. seen-past now v requested source u past k;
                unlooked = λ y. unlooked-same gone y k;
                seen_after = λ y. after-same gone y k;
              })
              ∙ sym is-shown)
              ∙ unmoved now id;
        }

pub looks-by_move : {P E O : Type 0} (cargo : Ghosts P E O) → LooksByMove cargo
looks-by_move cargo board source None answer old new is_in may (word, _, me_is) s s' r stepped =
    none cargo board source word old new is_in s s' r stepped me_is
looks-by_move cargo board source (Some x) answer old new is_in may (word, _, me_is) s s' r stepped =
    some cargo board source word old new is_in s s' r stepped x may me_is
