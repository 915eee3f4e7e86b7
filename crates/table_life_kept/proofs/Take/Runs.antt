-- The exchange by which a node that rests is taken keeps the rule.
use Rattle.std.proofs.Common.{◌≡◌, ℕ, ◌+◌, ◌<◌, Bool, true, ◌&&◌, ◌==◌, cond, List, set, refl, sym, ap, ◌∙◌, subst, inl, inr, arith, length-set, ◌∷◌}
use Rattle.std.specs.Prelude.{Option, slice_index, nat_le}
use Rattle.std.proofs.lemmas.Bool.{and_from, cond-false}
use mathlib.Core.Option.{some}
use mathlib.Core.Option as maybe
use lib.ListN.{get_elem?}
use Rattle.life_rules.specs.declared.words.ControlWord.TheVariants.{Busy}
use Rattle.node_tree.specs.Tree.{is_child}
use Rattle.life_rules.specs.Words.{is_held, may_be_taken}
use Rattle.life_rules.specs.Views.{View as PureView, beside, gain}
use Rattle.common_lemmas.specs.Sums.{one}
use Rattle.life_rules.specs.States.{State, control_at, stand}
use Rattle.life_rules.specs.Callbacks.{nearest_is_requested}
use Rattle.life_rules.specs.Sound.{Sound}
use Rattle.life_kept.proofs.Puts.{put, IsPut, stays}
use Rattle.life_kept.proofs.RestTake.{sound-take}
use Rattle.table_words.specs.Layouts.{OfControl, index}
use Rattle.atomic_table.specs.Table as table
use Rattle.listed_words.specs.Lists.{entry}
use Rattle.table_rules.specs.declared.cargo.Cargo.{Ghosts}
use Rattle.table_rules.specs.declared.frame.Frame.{Frame}
use Rattle.table_rules.specs.declared.view.View.{View}
use Rattle.table_rules.specs.Named.{count_by}
use Rattle.table_rules.specs.ShownWords.{block_of}
use Rattle.table_rules.specs.ShownViews.{shown_view}
use Rattle.table_rules.specs.Scenes.{Home, Out, Full, is_out, is_full, Scene, shown, scene}
use Rattle.table_rules.specs.Notes.{children_are_requested}
use Rattle.table_rules.specs.Running.{Stands, Running}
use Rattle.table_steps.specs.Claims.{with_step}
use Rattle.table_steps.specs.Takes.{takes_node}
use Rattle.table_life_kept.proofs.Move.Seats.{Move}
use Rattle.table_kept.proofs.Standing.{Standing}
use Rattle.table_kept.proofs.Seats.{at_within}
use Rattle.table_kept.proofs.Among.{among}
use Rattle.table_kept.proofs.Loads.{known-listed}
use Rattle.table_kept.proofs.Counts.{counts-moved}
use Rattle.table_kept.proofs.ViewMoves.{view-here, views-moved}
use Rattle.table_life_kept.proofs.Control.Runs.{ToWriteControl, control-runs}
use Rattle.table_kept.proofs.LiveNames.{place_of, place-live, name-live, begun-renewed}
use Rattle.table_kept.proofs.KidSlots.{take_each, deep-after}
use Rattle.table_kept.proofs.HeldNow.{IsQuietKid}
use Rattle.table_life_kept.proofs.Move.State.{Moves, KidMoves, moved, some-seat}
use Rattle.table_life_kept.proofs.Move.Homes.{homes-moved}
use Rattle.table_life_kept.proofs.Move.Items.{Remembers, Leaves, starts-moved, items-moved, lots-moved}
use Rattle.table_life_kept.proofs.Move.Views.{known-moved}
use Rattle.table_life_kept.proofs.Take.Words.{IsTakeable}
use Rattle.table_life_kept.proofs.Take.Homes.{ToTake}
use Rattle.table_life_kept.proofs.Take.Homes as homes

module _ {P E O : Type 0} (cargo : Ghosts P E O) (f : Frame O) (hand : Standing cargo f)
    (task : ToTake hand) where
  open hand use {state as s, id, view as v, running as r, at}
  open task use {value, name as x, carried as c, live, may, stamped, reads}

  abbrev now : State
  now = shown f s

  abbrev here : Scene P E
  here = scene f s r.past

  word : IsTakeable (control_at now x)
  word = homes.word cargo f hand task

  place-b : x.block < f.layout.blocks
  place-b = homes.place-b cargo f hand task

  quiet : (n : ℕ) → is_child f.tree x.node n ≡ true → IsQuietKid now x n
  quiet = homes.quiet cargo f hand task

  abbrev kids : List ℕ
  kids = homes.kids cargo f hand task

  abbrev slot : ℕ
  slot = homes.slot cargo f hand task

  abbrev taken_homes : List (maybe.Option (Option P))
  taken_homes = homes.taken_homes cargo f hand task

  abbrev home : ℕ → ℕ → Home P
  home = homes.home cargo f hand task

  home-is : (j m : ℕ) → home j m
      ≡ cond (j == x.block && m == x.node) Out (cond (j == x.block && is_child f.tree x.node m) Out (here.home j m))
  home-is = homes.home-is cargo f hand task

  own-out : home x.block x.node ≡ Out
  own-out = homes.own-out cargo f hand task

  kid-out : (n : ℕ) → is_child f.tree x.node n ≡ true → home x.block n ≡ Out
  kid-out = homes.kid-out cargo f hand task

  shows : now.view id ≡ shown_view (block_of f.layout s.words) v
  shows = view-here (block_of f.layout s.words) s.views id v at

  is-below : id < f.hands
  is-below = let l = at_within s.views id v at in let m = r.sized.seats in omega (arith, l, m)

  abbrev u : PureView
  u = record (now.view id) { holds = gain x (now.view id).holds }

  is-put : IsPut now id x (Busy 0) u
  is-put = record { sound = r.stands.sound; hand = is-below; live = live; views = refl }

  sound-now : Sound (put now id x (Busy 0) u)
  sound-now =
      let name = name-live now x live in
      subst (λ z. Sound (put now id z (Busy 0) (record (now.view id) { holds = gain z (now.view id).holds }))) name
      (sound-take now id (place_of x) r.stands.sound is-below
      (and_from _ _ (place-live now x live) (subst (λ z. may_be_taken (control_at now z) id ≡ true) (sym name) may)))

  kid-moves : (n : ℕ) → is_child f.tree x.node n ≡ true → KidMoves here id x (Busy 0) u is-put home r.past n
  kid-moves n child =
      let q = quiet n child in
      record {
        out = ap is_out (kid-out n child)
            ∙ sym (some-seat (stand (put now id x (Busy 0) u) (λ v. v.starts) (beside x n) + one (is_held (control_at now (beside x n))) + 1) (omega arith));
        keeps = inr (ap is_full (kid-out n child), q.under_way, stays now id x (Busy 0) u is-put (λ v. v.reports) (beside x n) refl ∙ q.reports);
        shut = λ none. cc;
      }

  moves : Moves here id x (Busy 0) u is-put home r.past
  moves =
      record {
        sound = sound-now;
        under_way = word.under_way;
        begun = refl;
        owes = λ y apart. refl;
        reports = λ y ne. omega arith;
        named_other = λ y ne. refl;
        far = λ j m own kid.
            home-is j m ∙ cond-false (j == x.block && m == x.node) Out _ own
            ∙ cond-false (j == x.block && is_child f.tree x.node m) Out (here.home j m) kid;
        own = ap is_out own-out;
        waits = λ none. cc;
        settled = λ none. cc;
        kids = kid-moves;
        named = λ none. cc;
        met = λ _. r.stands.homes.met x word.begun (ap (nat_le 1) word.none);
        asked = r.stands.homes.asked x;
      }

  abbrev moving : Move here
  moving = record {
    hand = id;
    name = x;
    word = Busy 0;
    view = u;
    put = is-put;
    home = home;
    past = r.past;
    moves = moves;
  }

  remembers : Remembers cargo f.over.value here moving
  remembers = record { start = λ y. refl; lot = λ y ne. refl; delivered = λ y ne. refl }

  none-left : {G : Type 0} (item : P) → home x.block x.node ≡ Full item → G
  none-left item is = let e : Out ≡ Full item = sym own-out ∙ is in cc

  leaves : Leaves cargo f.over.value here moving
  leaves =
      record {
        start = λ item is. none-left item is;
        fit = λ item is. none-left item is;
        goes_on = λ item is _. none-left item is;
        rests = λ item is _. none-left item is;
        bound = λ item is. none-left item is;
        ended = λ done _. cc;
        delivered = λ item _ _ is. none-left item is;
        enough = λ item none _ _. cc;
        lot = λ item _ is. none-left item is;
        drawn = λ n waits _ _ _. cc;
      }

  abbrev writing : ToWriteControl hand
  writing = record {
    value = value;
    name = x;
    word = Busy 0;
    live = live;
    stamped = stamped;
    reads = reads;
  }

  module _ (n : ℕ) where
    abbrev i : ℕ
    i = index f.layout (OfControl x.block x.node)

    abbrev told : Bool
    told = nearest_is_requested now x

    abbrev told_kids : Bool
    told_kids = children_are_requested now x

    abbrev mine : View P E
    mine = with_step i n value (takes_node x (r.past.start x) (r.past.named x) told told_kids v)

    abbrev after : Scene P E
    after = moved here id x (Busy 0) u is-put home r.past

    held-none : (z : View P E) (j : ℕ) → get_elem? s.views j ≡ some z → count_by (λ e. e.name) z.held x ≡ 0
    held-none z j there =
        let most = (among f s j z r.sized.seats there).held x in
        let fit = (r.stands.sound.owned.names x).held in
        let none : one (is_held (control_at now x)) ≡ 0 = ap one word.held in omega (arith, most, fit, none)

    stands-taken : Stands cargo f.over.value after (set s.views id mine)
    stands-taken =
        let known = known-moved here moving (λ y. refl) (λ y _. refl) (λ y _. refl) (inl refl) v
        (among f s id v r.sized.seats at) (held-none v id at) (r.stands.views.each id v at) in
        record {
          sound = sound-now;
          homes = homes-moved here moving r.stands.homes;
          starts = starts-moved cargo f.over.value here moving remembers leaves r.stands.starts;
          items = items-moved cargo f.over.value here moving remembers leaves r.stands.items;
          lots = lots-moved cargo f.over.value here moving remembers leaves r.stands.lots;
          views = views-moved here after s.views id v mine at
              (λ j z ne there.
              known-moved here moving (λ y. refl) (λ y _. refl) (λ y _. refl) (inl refl) z
              (among f s j z r.sized.seats there) (held-none z j there))
              (known-listed after i n value (takes_node x (r.past.start x) (r.past.named x) told told_kids v) (record {
                held = (record { start = refl; named = refl; told = λ t. t; told_children = λ t. t; lot = tt; phase = tt; idle = tt }, known.held);
                owed = known.owed;
                reported = known.reported;
                noted = known.noted;
                unlooked = known.unlooked;
                seen_after = known.seen_after;
                seen = known.seen;
              }))
              refl refl r.stands.views;
          counts = counts-moved here.state after.state s.views id v mine at refl refl r.stands.counts;
        }

    pub take-runs : n ≡ slice_index s.words i → Running cargo f record {
      words = set s.words i value;
      homes = taken_homes;
      views = set s.views id mine;
    }
    take-runs was =
        control-runs cargo f hand writing mine u
        (ap (λ (z : PureView). record z { holds = gain x z.holds }) (sym shows))
        taken_homes home r.past (λ j m. refl)
        word.done (begun-renewed cargo f s x r live word.begun) (ap (λ k. entry i k value ∷ v.steps) was)
        (length-set (table.homes_after s.homes c (take_each f.layout x.block kids)) slot maybe.none
        ∙ deep-after f.layout s.homes c r.sized.homes x.block place-b kids ∙ sym r.sized.homes) stands-taken
