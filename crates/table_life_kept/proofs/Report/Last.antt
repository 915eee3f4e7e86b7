-- The subtraction by which the last child is reported keeps the rule: the hand holds the parent.
use Rattle.std.specs.Prelude.{slice_index}
use Rattle.std.proofs.Common.{◌≡◌, ℕ, ◌+◌, ◌<◌, true, ◌&&◌, ◌==◌, cond, List, set, Option, refl, sym, ap, ◌∙◌, subst, ⊎_elim, inl, inr, arith, length-set, ◌∷◌}
use Rattle.std.proofs.lemmas.Bool.{cond-true, cond-false, cases_eq, eq-eqb}
use mathlib.Core.Option.{some}
use mathlib.Core.Option as maybe
use lib.ListN.{get_elem?}
use Rattle.life_rules.specs.declared.words.ControlWord.{ControlWord}
use Rattle.life_rules.specs.declared.words.ControlWord.TheVariants.{Busy}
use Rattle.life_rules.specs.declared.event.Name.{Name}
use Rattle.node_tree.specs.Tree.{is_child}
use Rattle.life_rules.specs.Words.{is_held, is_under_way, one_less, pending, is_idle, is_done}
use Rattle.life_rules.specs.Views.{View as PureView, beside, gain, lose}
use Rattle.common_lemmas.specs.Sums.{one}
use Rattle.life_rules.specs.States.{State, is_live, control_at, stand}
use Rattle.life_rules.specs.Callbacks.{nearest_is_requested}
use Rattle.life_rules.specs.Sound.{Sound}
use Rattle.life_kept.proofs.Puts.{put, IsPut, moves as put-moves}
use Rattle.life_rules.proofs.Names.{lose-here, lose-other}
use Rattle.table_words.specs.Layouts.{OfControl, index}
use Rattle.listed_words.specs.Lists.{entry}
use Rattle.table_rules.specs.declared.cargo.Cargo.{Ghosts}
use Rattle.table_rules.specs.declared.frame.Frame.{Frame}
use Rattle.table_rules.specs.declared.view.View.{View}
use Rattle.table_rules.specs.Named.{count_by}
use Rattle.table_rules.specs.ShownWords.{block_of}
use Rattle.table_rules.specs.ShownViews.{shown_view}
use Rattle.table_rules.specs.Scenes.{Home, Out, Full, is_out, is_full, Scene, shown, scene}
use Rattle.table_rules.specs.Notes.{IsReportedSo, children_are_requested}
use Rattle.table_rules.specs.Running.{Stands, Running}
use Rattle.table_steps.specs.Claims.{with_step}
use Rattle.table_steps.specs.Reports.{reports_off, holds_last}
use Rattle.table_life_kept.proofs.Move.Seats.{Move}
use Rattle.table_kept.proofs.Standing.{Standing}
use Rattle.table_kept.proofs.Entries.{each-without, count-without}
use Rattle.table_kept.proofs.Among.{among}
use Rattle.table_kept.proofs.Loads.{known-listed}
use Rattle.table_kept.proofs.Counts.{counts-moved}
use Rattle.table_kept.proofs.ViewMoves.{views-moved}
use Rattle.table_life_kept.proofs.Control.Runs.{ToWriteControl, control-runs}
use Rattle.table_kept.proofs.LiveNames.{begun-renewed}
use Rattle.table_life_kept.proofs.LaidSlots.{deep-laid}
use Rattle.table_life_kept.proofs.Report.State.{above, shows, below, child, owes-now, reporting, reporting_last, sound-after}
use Rattle.table_life_kept.proofs.Report.LastKids.{kid-settled, unheld-before, counts-named, full-kids-done}
use Rattle.table_life_kept.proofs.Move.State.{Moves, KidMoves, moved, some-seat}
use Rattle.table_life_kept.proofs.Move.Homes.{homes-moved}
use Rattle.table_life_kept.proofs.Move.Items.{Remembers, Leaves, starts-moved, items-moved, lots-moved}
use Rattle.table_life_kept.proofs.Move.Views.{known-moved}
use Rattle.table_life_kept.proofs.Report.LastHomes.{ToReportLast}
use Rattle.table_life_kept.proofs.Report.LastHomes as homes

module _ {P E O : Type 0} (cargo : Ghosts P E O) (f : Frame O) (hand : Standing cargo f)
    (task : ToReportLast hand) where
  open hand use {state as s, id, view as v, running as r, at}
  open task use {report.{child as c, can, last}, value, carried, stamped, reads}

  abbrev now : State
  now = shown f s

  abbrev here : Scene P E
  here = scene f s r.past

  abbrev x : Name
  x = above cargo f hand c can

  live-now : is_live now x ≡ true
  live-now = homes.live-now cargo f hand task

  word-now : control_at now x ≡ Busy 1
  word-now = homes.word-now cargo f hand task

  place-b : x.block < f.layout.blocks
  place-b = homes.place-b cargo f hand task

  abbrev kids : List ℕ
  kids = homes.kids cargo f hand task

  abbrev slot : ℕ
  slot = homes.slot cargo f hand task

  abbrev inside : ℕ → Option P
  inside = homes.inside cargo f hand task

  abbrev after_kids : List (maybe.Option (Option P))
  after_kids = homes.after_kids cargo f hand task

  abbrev taken_homes : List (maybe.Option (Option P))
  taken_homes = homes.taken_homes cargo f hand task

  abbrev home : ℕ → ℕ → Home P
  home = homes.home cargo f hand task

  home-is : (j m : ℕ) → home j m
      ≡ cond (j == x.block && m == x.node) Out (cond (j == x.block && is_child f.tree x.node m) Out (here.home j m))
  home-is = homes.home-is cargo f hand task

  own-out : home x.block x.node ≡ Out
  own-out = homes.own-out cargo f hand task

  kid-out : (n : ℕ) → is_child f.tree x.node n ≡ true → home x.block n ≡ Out
  kid-out = homes.kid-out cargo f hand task

  abbrev u : PureView
  u = reporting_last cargo f hand c can

  is-put : IsPut now id x (Busy 0) u
  is-put = record { sound = r.stands.sound; hand = below cargo f hand c can; live = live-now; views = refl }

  sound-now : Sound (put now id x (Busy 0) u)
  sound-now =
      let less : one_less (control_at now x) ≡ Busy 0 = ap one_less word-now in
      subst (λ (z : ControlWord × PureView). Sound (put now id x z.0 z.1))
      (λ j. (less j, cond-true (pending (control_at now x) == 1) u (reporting cargo f hand c can) (eq-eqb _ _ last) j))
      (sound-after cargo f hand c can)

  reports-kid : (n : ℕ) → is_child f.tree x.node n ≡ true → stand (put now id x (Busy 0) u) (λ v. v.reports) (beside x n) ≡ 0
  reports-kid n own =
      let kid = kid-settled cargo f hand task.report n own in
      let m = put-moves now id x (Busy 0) u is-put (λ v. v.reports) (beside x n) in
      ⊎_elim
      (λ (e : c.node ≡ n).
      subst (λ k. stand (put now id x (Busy 0) u) (λ v. v.reports) (beside x k) ≡ 0) e
      (let own_kid = kid-settled cargo f hand task.report c.node (child cargo f hand c can) in
      let most = own_kid.most in
      let less = lose-here c (now.view id).reports in
      let owes = owes-now cargo f hand c can in
      let moved_by = put-moves now id x (Busy 0) u is-put (λ v. v.reports) c in
      omega (arith, most, less, owes, moved_by)))
      (λ ne.
      let none = kid.reports ne in
      let same = lose-other c (beside x n) (now.view id).reports (λ e. ne (λ j. (e j).node)) in
      omega (arith, m, none, same))
      (cases_eq c.node n)

  kid-moves : (n : ℕ) → is_child f.tree x.node n ≡ true → KidMoves here id x (Busy 0) u is-put home r.past n
  kid-moves n own =
      let kid = kid-settled cargo f hand task.report n own in
      record {
        out = ap is_out (kid-out n own)
            ∙ sym (some-seat (stand (put now id x (Busy 0) u) (λ v. v.starts) (beside x n) + one (is_held (control_at now (beside x n))) + 1) (omega arith));
        keeps = inr (ap is_full (kid-out n own), kid.under_way, reports-kid n own);
        shut = λ none. cc;
      }

  moves : Moves here id x (Busy 0) u is-put home r.past
  moves =
      record {
        sound = sound-now;
        under_way = ap is_under_way word-now;
        begun = refl;
        owes = λ y apart. refl;
        reports = λ y ne. omega arith;
        named_other = λ y ne. refl;
        far = λ j m own kid.
            home-is j m ∙ cond-false (j == x.block && m == x.node) Out _ own
            ∙ cond-false (j == x.block && is_child f.tree x.node m) Out (here.home j m) kid;
        own = ap is_out own-out;
        waits = λ none. cc;
        settled = λ none. cc;
        kids = kid-moves;
        named = λ none. cc;
        met = λ _.
            let count = counts-named cargo f hand task.report in
            let done = full-kids-done cargo f hand task.report in omega (arith, count, done);
        asked = r.stands.homes.asked x;
      }

  abbrev moving : Move here
  moving = record {
    hand = id;
    name = x;
    word = Busy 0;
    view = u;
    put = is-put;
    home = home;
    past = r.past;
    moves = moves;
  }

  remembers : Remembers cargo f.over.value here moving
  remembers = record { start = λ y. refl; lot = λ y ne. refl; delivered = λ y ne. refl }

  none-left : {G : Type 0} (item : P) → home x.block x.node ≡ Full item → G
  none-left item is = let e : Out ≡ Full item = sym own-out ∙ is in cc

  leaves : Leaves cargo f.over.value here moving
  leaves =
      record {
        start = λ item is. none-left item is;
        fit = λ item is. none-left item is;
        goes_on = λ item is _. none-left item is;
        rests = λ item is _. none-left item is;
        bound = λ item is. none-left item is;
        ended = λ done _. cc;
        delivered = λ item _ _ is. none-left item is;
        enough = λ item none _ _. cc;
        lot = λ item _ is. none-left item is;
        drawn = λ n waits _ _ _. cc;
      }

  abbrev writing : ToWriteControl hand
  writing = record {
    value = value;
    name = x;
    word = Busy 0;
    live = live-now;
    stamped = stamped;
    reads = reads;
  }

  module _ (n : ℕ) where
    abbrev i : ℕ
    i = index f.layout (OfControl x.block x.node)

    abbrev holding : View P E
    holding =
        holds_last x (r.past.start x) (r.past.named x) (nearest_is_requested now x) (children_are_requested now x) (r.past.lot x)
        (reports_off c v)

    abbrev mine : View P E
    mine = with_step i n value holding

    abbrev after : Scene P E
    after = moved here id x (Busy 0) u is-put home r.past

    held-none : (z : View P E) (j : ℕ) → get_elem? s.views j ≡ some z → count_by (λ e. e.name) z.held x ≡ 0
    held-none z j there =
        let most = (among f s j z r.sized.seats there).held x in
        let fit = (r.stands.sound.owned.names x).held in
        let none = unheld-before cargo f hand task.report in omega (arith, most, fit, none)

    shows-mine : shown_view (block_of f.layout s.words) mine ≡ u
    shows-mine =
        let old = shown_view (block_of f.layout s.words) v in
        (λ j. record old { reports = λ y. count-without (λ e. e.name) v.reported c y j; holds = gain x old.holds })
        ∙ ap (λ (z : PureView). record z { reports = lose c z.reports; holds = gain x z.holds }) (sym (shows cargo f hand c can))

    stands-last : Stands cargo f.over.value after (set s.views id mine)
    stands-last =
        let known = known-moved here moving (λ y. refl) (λ y _. refl) (λ y _. refl) (inl refl) v
        (among f s id v r.sized.seats at) (held-none v id at) (r.stands.views.each id v at) in
        record {
          sound = sound-now;
          homes = homes-moved here moving r.stands.homes;
          starts = starts-moved cargo f.over.value here moving remembers leaves r.stands.starts;
          items = items-moved cargo f.over.value here moving remembers leaves r.stands.items;
          lots = lots-moved cargo f.over.value here moving remembers leaves r.stands.lots;
          views = views-moved here after s.views id v mine at
              (λ j z ne there.
              known-moved here moving (λ y. refl) (λ y _. refl) (λ y _. refl) (inl refl) z
              (among f s j z r.sized.seats there) (held-none z j there))
              (known-listed after i n value holding (record {
                held = (record { start = refl; named = refl; told = λ t. t; told_children = λ t. t; lot = refl; phase = tt; idle = tt }, known.held);
                owed = known.owed;
                reported = each-without (IsReportedSo after) (λ e. e.name) v.reported c known.reported;
                noted = known.noted;
                unlooked = known.unlooked;
                seen_after = known.seen_after;
                seen = known.seen;
              }))
              refl refl r.stands.views;
          counts = counts-moved here.state after.state s.views id v mine at refl refl r.stands.counts;
        }

    pub last-runs : n ≡ slice_index s.words i → Running cargo f record { words = set s.words i value; homes = taken_homes; views = set s.views id mine }
    last-runs was =
        control-runs cargo f hand writing mine u shows-mine taken_homes home r.past (λ j m. refl)
        (ap is_done word-now) (begun-renewed cargo f s x r live-now (ap is_idle word-now)) (ap (λ k. entry i k value ∷ v.steps) was)
        (length-set after_kids slot maybe.none ∙ deep-laid f.layout s.homes carried r.sized.homes x.block place-b inside kids ∙ sym r.sized.homes)
        stands-last
