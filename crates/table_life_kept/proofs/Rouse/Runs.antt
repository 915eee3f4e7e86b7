-- The exchange by which a parked node is woken keeps the rule.
use Rattle.std.proofs.Common.{◌≡◌, ℕ, ◌+◌, ◌<◌, Bool, true, false, ◌&&◌, ◌||◌, ◌==◌, cond, set, refl, sym, ap, ◌∙◌, subst, inl, arith, ◌∷◌}
use Rattle.std.specs.Prelude.{nat_le, slice_index}
use Rattle.std.specs.Option.{option_map_or}
use Rattle.std.proofs.lemmas.Bool.{and_from, both_ways, cond-true, cond-false, eqb-true, false_from_ne_true}
use mathlib.Core.Option.{some}
use Rattle.listed_words.specs.Lists.{entry}
use lib.ListN.{get_elem?}
use Rattle.life_rules.specs.declared.words.ControlWord.TheVariants.{ReadyLoop, Parked}
use Rattle.life_rules.specs.declared.event.Name.{Name}
use Rattle.node_tree.specs.Tree.{is_child, is_root, parent_of}
use Rattle.life_rules.specs.Words.{is_done, is_held, is_under_way, is_parked, pending, is_idle}
use Rattle.life_rules.specs.Views.{View as PureView, beside}
use Rattle.common_lemmas.specs.Sums.{one}
use Rattle.life_rules.specs.States.{State, is_live, control_at, stand}
use Rattle.life_rules.specs.ScopeSteps.{after_rouse}
use Rattle.life_rules.specs.Sound.{Sound}
use Rattle.common_lemmas.proofs.Bool.{either as test}
use Rattle.life_rules.proofs.Readings.{lives, is_live-from}
use Rattle.life_kept.proofs.Puts.{put, IsPut, stays}
use Rattle.life_kept.proofs.Trees.{child-parent, child-within, root-orphan}
use Rattle.scope_kept.proofs.Rouse.{sound-rouse}
use Rattle.table_words.specs.Stamps.{stamp_of}
use Rattle.table_words.specs.Controls.{control_read}
use Rattle.table_words.specs.Layouts.{OfControl, index}
use Rattle.table_rules.specs.declared.cargo.Cargo.{Ghosts}
use Rattle.table_rules.specs.declared.frame.Frame.{Frame}
use Rattle.table_rules.specs.declared.view.View.{View}
use Rattle.table_rules.specs.Named.{count_by}
use Rattle.table_rules.specs.ShownWords.{block_of}
use Rattle.table_rules.specs.ShownViews.{shown_view}
use Rattle.table_rules.specs.Scenes.{Home, Out, Empty, Full, is_out, is_full, Scene, shown, scene}
use Rattle.table_rules.specs.Homes.{is_waiting, is_resting, seats_of}
use Rattle.table_rules.specs.Running.{Stands, Running}
use Rattle.table_steps.specs.Claims.{with_step}
use Rattle.table_steps.specs.Rouses.{MayRouse}
use Rattle.table_life_kept.proofs.Move.Seats.{Move}
use Rattle.table_kept.proofs.Standing.{Standing}
use Rattle.table_kept.proofs.Seats.{at_within}
use Rattle.table_kept.proofs.Among.{among}
use Rattle.table_kept.proofs.Loads.{known-listed}
use Rattle.table_kept.proofs.Counts.{counts-moved}
use Rattle.table_kept.proofs.ViewMoves.{view-here, views-moved}
use Rattle.table_life_kept.proofs.Control.Runs.{ToWriteControl, control-runs}
use Rattle.table_kept.proofs.LiveNames.{place_of, place-live, name-live, begun-renewed}
use Rattle.table_kept.proofs.HeldNow.{IsQuietKid, kid-quiet}
use Rattle.table_life_kept.proofs.Move.State.{Moves, KidMoves, moved, no-seat}
use Rattle.table_life_kept.proofs.Move.Homes.{homes-moved}
use Rattle.table_life_kept.proofs.Move.Items.{Remembers, Leaves, starts-moved, items-moved, lots-moved}
use Rattle.table_life_kept.proofs.Move.Views.{known-moved}

full-home : {P : Type 0} (h : Home P) → is_full h ≡ true → is_out h ≡ false
full-home Out e = cc
full-home Empty e = cc
full-home (Full item) e = refl

and-none : (a : Bool) → (a && false) ≡ false
and-none true = refl
and-none false = refl

-- which parked node is woken, and by which word
pub record ToRouse {P E O : Type 0} {cargo : Ghosts P E O} {f : Frame O}
    (hand : Standing cargo f) : Type 0 where
  pub value : ℕ
  pub name : Name
  pub live : is_live (shown f hand.state) name ≡ true
  pub parked : control_at (shown f hand.state) name ≡ Parked
  pub may : MayRouse hand.view name
  pub stamped : stamp_of value ≡ name.generation
  pub reads : control_read value ≡ ReadyLoop

module _ {P E O : Type 0} (cargo : Ghosts P E O) (f : Frame O) (hand : Standing cargo f)
    (task : ToRouse hand) where
  open hand use {state as s, id, view as v, running as r, at}
  open task use {value, name as x, live, parked, may, stamped, reads}

  abbrev now : State
  now = shown f s

  abbrev here : Scene P E
  here = scene f s r.past

  abbrev u : PureView
  u = now.view id

  shows : u ≡ shown_view (block_of f.layout s.words) v
  shows = view-here (block_of f.layout s.words) s.views id v at

  is-below : id < f.hands
  is-below = let l = at_within s.views id v at in let m = r.sized.seats in omega (arith, l, m)

  is-put : IsPut now id x ReadyLoop u
  is-put = record { sound = r.stands.sound; hand = is-below; live = live; views = refl }

  may-now : (nat_le 1 (u.runs x) || id == 0) ≡ true
  may-now =
      (λ k. nat_le 1 ((shows k).runs x) || sym (r.stands.views.number id v at) k == 0) ∙ may

  -- no view changed
  same-views : (i : ℕ) → cond (i == id) u (now.view i) ≡ now.view i
  same-views i =
      test (i == id)
      (λ t. cond-true (i == id) u (now.view i) t ∙ ap now.view (sym (eqb-true i id t)))
      (λ n. cond-false (i == id) u (now.view i) n)

  sound-now : Sound (put now id x ReadyLoop u)
  sound-now =
      let name = name-live now x live in
      let roused : Sound (after_rouse now id (place_of x)) =
      sound-rouse now id (place_of x) r.stands.sound
      (and_from _ _ (place-live now x live)
      (subst (λ z. (is_parked (control_at now z) && (nat_le 1 (u.runs z) || id == 0)) ≡ true) (sym name)
      (and_from _ _ (ap is_parked parked) may-now))) in
      subst Sound (λ k. record (after_rouse now id (place_of x)) { view = λ i. sym (same-views i) k }) roused

  full-own : is_full (here.home x.block x.node) ≡ true
  full-own = r.stands.homes.waiting x (ap (λ c. is_waiting c || is_resting c) parked)

  rests : is_resting (control_at now x) ≡ true
  rests = ap is_resting parked

  quiet : (n : ℕ) → is_child f.tree x.node n ≡ true → IsQuietKid now x n
  quiet n = kid-quiet cargo f s r x n (ap pending parked)

  -- no hand has the slot of a child's home
  kid-home : (n : ℕ) → is_child f.tree x.node n ≡ true → is_out (here.home x.block n) ≡ false
  kid-home n child =
      let y = beside x n in
      let l = lives now x live in
      let there : is_live now y ≡ true =
      is_live-from now y (record {
        block = l.block;
        node = child-within f.tree x.node n child;
        is_opened = l.is_opened;
        generation = l.generation;
      }) in
      let q = quiet n child in
      let own = r.stands.sound.owned.names y in
      let root : is_root f.tree n ≡ false =
      false_from_ne_true (is_root f.tree n) (λ t.
      both_ways (is_child f.tree x.node n)
      (root-orphan f.tree r.stands.sound.tree x.node n (child-within f.tree x.node n child) t) child) in
      let starts = q.starts in
      let holds = own.held ∙ q.held in
      let finished = own.finish ∙ ap (λ b. one (is_done (control_at now y) && b)) root ∙ ap one (and-none (is_done (control_at now y))) in
      let above : option_map_or (λ p. stand now (λ w. w.holds) (beside y p)) (parent_of f.tree n) 0 ≡ 0 =
      ap (λ o. option_map_or (λ p. stand now (λ w. w.holds) (beside y p)) o 0) (child-parent f.tree x.node n child)
      ∙ (r.stands.sound.owned.names x).held ∙ ap (λ c. one (is_held c)) parked in
      let seats : seats_of here y ≡ 0 = omega (arith, starts, holds, finished, above) in
      r.stands.homes.out y there ∙ no-seat (seats_of here y) seats

  kid-moves : (n : ℕ) → is_child f.tree x.node n ≡ true → KidMoves here id x ReadyLoop u is-put here.home r.past n
  kid-moves n child =
      let q = quiet n child in
      let starts = stays now id x ReadyLoop u is-put (λ w. w.starts) (beside x n) refl ∙ q.starts in
      let held = q.held in
      record {
        out = kid-home n child
            ∙ sym (no-seat (stand (put now id x ReadyLoop u) (λ w. w.starts) (beside x n) + one (is_held (control_at now (beside x n))) + 0)
            (omega (arith, starts, held)));
        keeps = inl refl;
        shut = λ _. r.stands.homes.resting x n rests child;
      }

  moves : Moves here id x ReadyLoop u is-put here.home r.past
  moves =
      record {
        sound = sound-now;
        under_way = ap is_under_way parked;
        begun = refl;
        owes = λ y apart. refl;
        reports = λ y ne. omega arith;
        named_other = λ y ne. refl;
        far = λ j m own kid. refl;
        own = full-home (here.home x.block x.node) full-own;
        waits = λ _. full-own;
        settled = λ _. full-own;
        kids = kid-moves;
        named = λ none. cc;
        met = λ _. r.stands.homes.met x (ap is_idle parked) (ap is_waiting parked);
        asked = r.stands.homes.asked x;
      }

  abbrev moving : Move here
  moving = record {
    hand = id;
    name = x;
    word = ReadyLoop;
    view = u;
    put = is-put;
    home = here.home;
    past = r.past;
    moves = moves;
  }

  remembers : Remembers cargo f.over.value here moving
  remembers = record { start = λ y. refl; lot = λ y ne. refl; delivered = λ y ne. refl }

  leaves : Leaves cargo f.over.value here moving
  leaves =
      record {
        start = λ item is. r.stands.starts.shows x item live is;
        fit = λ item is. r.stands.items.fit x item live is;
        goes_on = λ item is _. r.stands.items.goes_on x item live is (ap is_done parked);
        rests = λ item is _. r.stands.items.rests x item live is rests;
        bound = λ item is. r.stands.items.bound x item live is;
        ended = λ done _. cc;
        delivered = λ item done _ _. cc;
        enough = λ item none _ _. cc;
        lot = λ item waits _. cc;
        drawn = λ n waits _ _ _. cc;
      }

  abbrev writing : ToWriteControl hand
  writing = record {
    value = value;
    name = x;
    word = ReadyLoop;
    live = live;
    stamped = stamped;
    reads = reads;
  }

  module _ (n : ℕ) where
    abbrev i : ℕ
    i = index f.layout (OfControl x.block x.node)

    abbrev mine : View P E
    mine = with_step i n value v

    abbrev after : Scene P E
    after = moved here id x ReadyLoop u is-put here.home r.past

    held-none : (z : View P E) (j : ℕ) → get_elem? s.views j ≡ some z → count_by (λ e. e.name) z.held x ≡ 0
    held-none z j there =
        let most = (among f s j z r.sized.seats there).held x in
        let fit = (r.stands.sound.owned.names x).held in
        let none : one (is_held (control_at now x)) ≡ 0 = ap (λ c. one (is_held c)) parked in
        omega (arith, most, fit, none)

    stands-roused : Stands cargo f.over.value after (set s.views id mine)
    stands-roused =
        record {
          sound = sound-now;
          homes = homes-moved here moving r.stands.homes;
          starts = starts-moved cargo f.over.value here moving remembers leaves r.stands.starts;
          items = items-moved cargo f.over.value here moving remembers leaves r.stands.items;
          lots = lots-moved cargo f.over.value here moving remembers leaves r.stands.lots;
          views = views-moved here after s.views id v mine at
              (λ j z ne there.
              known-moved here moving (λ y. refl) (λ y _. refl) (λ y _. refl) (inl refl) z
              (among f s j z r.sized.seats there) (held-none z j there))
              (known-listed after i n value v
              (known-moved here moving (λ y. refl) (λ y _. refl) (λ y _. refl) (inl refl) v
              (among f s id v r.sized.seats at) (held-none v id at) (r.stands.views.each id v at)))
              refl refl r.stands.views;
          counts = counts-moved here.state after.state s.views id v mine at refl refl r.stands.counts;
        }

    pub rouse-runs : n ≡ slice_index s.words i → Running cargo f record {
      words = set s.words i value;
      homes = s.homes;
      views = set s.views id mine;
    }
    rouse-runs was =
        control-runs cargo f hand writing mine u (sym shows)
        s.homes here.home r.past (λ j m. refl)
        (ap is_done parked) (begun-renewed cargo f s x r live (ap is_idle parked)) (ap (λ k. entry i k value ∷ v.steps) was) refl stands-roused
