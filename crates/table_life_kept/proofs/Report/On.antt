-- The subtraction by which a child that isn't the last is reported keeps the rule.
use Rattle.std.proofs.Common.{◌≡◌, ◌≢◌, ℕ, ◌+◌, ◌-◌, Bool, true, false, ◌&&◌, ◌||◌, ◌==◌, set, refl, sym, ap, ◌∙◌, subst, inl, arith, ◌∷◌}
use Rattle.std.specs.Prelude.{nat_le, slice_index}
use Rattle.std.specs.Option.{option_map_or}
use Rattle.std.proofs.lemmas.Bool.{both_ways, cond-false, ne_eqb, false_from_ne_true, leb-false}
use mathlib.Core.Option.{some}
use lib.ListN.{get_elem?}
use Rattle.life_rules.specs.declared.words.ControlWord.{ControlWord}
use Rattle.life_rules.specs.declared.words.ControlWord.TheVariants.{Busy}
use Rattle.life_rules.specs.declared.event.Name.{Name}
use Rattle.node_tree.specs.Tree.{is_child, is_root, parent_of}
use Rattle.life_rules.specs.Words.{is_done, is_held, is_under_way, one_less, pending, is_idle}
use Rattle.life_rules.specs.Views.{View as PureView, beside, lose}
use Rattle.common_lemmas.specs.Sums.{one}
use Rattle.life_rules.specs.States.{State, size, is_live, control_at, stand}
use Rattle.life_rules.specs.Sound.{Sound}
use Rattle.common_lemmas.proofs.Totals.{total-same}
use Rattle.life_rules.proofs.Readings.{lives, is_live-from}
use Rattle.life_kept.proofs.Puts.{put, IsPut, reads-other, stays, times-same}
use Rattle.life_kept.proofs.Trees.{child-within, child-parent, root-orphan}
use Rattle.table_words.specs.Stamps.{stamp_of}
use Rattle.table_words.specs.Controls.{control_read}
use Rattle.table_words.specs.Layouts.{OfControl, index}
use Rattle.listed_words.specs.Lists.{entry}
use Rattle.table_rules.specs.declared.cargo.Cargo.{Ghosts}
use Rattle.table_rules.specs.declared.frame.Frame.{Frame}
use Rattle.table_rules.specs.declared.view.View.{View}
use Rattle.table_rules.specs.Named.{count_by}
use Rattle.table_rules.specs.ShownWords.{block_of}
use Rattle.table_rules.specs.ShownViews.{shown_view}
use Rattle.table_rules.specs.Scenes.{Home, Out, Empty, Full, is_out, is_full, Scene, shown, scene}
use Rattle.table_rules.specs.Homes.{is_waiting, is_resting, seats_of, named_below}
use Rattle.table_rules.specs.Notes.{IsReportedSo}
use Rattle.table_rules.specs.Running.{Stands, Running}
use Rattle.table_steps.specs.Claims.{with_step}
use Rattle.table_steps.specs.Reports.{CanReport, reports_off}
use Rattle.table_life_kept.proofs.Move.Seats.{Move}
use Rattle.table_kept.proofs.Standing.{Standing}
use Rattle.table_kept.proofs.Entries.{count-without, each-without}
use Rattle.table_kept.proofs.Among.{among}
use Rattle.table_kept.proofs.Loads.{known-listed}
use Rattle.table_kept.proofs.Counts.{counts-moved}
use Rattle.table_kept.proofs.ViewMoves.{views-moved}
use Rattle.table_life_kept.proofs.Control.Runs.{ToWriteControl, control-runs}
use Rattle.table_kept.proofs.LiveNames.{begun-renewed}
use Rattle.table_life_kept.proofs.Report.State.{above, shows, below, waits, word-is, above-live, reporting, reporting_last, sound-after}
use Rattle.table_life_kept.proofs.Move.State.{Moves, KidMoves, moved, parent-differs, some-seat}
use Rattle.table_life_kept.proofs.Move.Homes.{homes-moved}
use Rattle.table_life_kept.proofs.Move.Items.{Remembers, Leaves, starts-moved, items-moved, lots-moved}
use Rattle.table_life_kept.proofs.Move.Views.{known-moved}

unout : {P : Type 0} (h : Home P) → is_full h ≡ true → is_out h ≡ false
unout Out e = cc
unout Empty e = cc
unout (Full item) e = refl

no-one : (b : Bool) → one (b && false) ≡ 0
no-one true = refl
no-one false = refl

-- the report of a child after which its parent waits on, and the word that it leaves
pub record ToReportOn {P E O : Type 0} {cargo : Ghosts P E O} {f : Frame O}
    (hand : Standing cargo f) : Type 0 where
  pub value : ℕ
  pub child : Name
  pub can : CanReport f.tree hand.view child
  pub more : pending (control_at (shown f hand.state) (beside child can.parent)) ≢ 1
  pub stamped : stamp_of value ≡ child.generation
  pub reads : control_read value ≡ Busy (pending (control_at (shown f hand.state) (beside child can.parent)) - 1)

module _ {P E O : Type 0} (cargo : Ghosts P E O) (f : Frame O) (hand : Standing cargo f)
    (task : ToReportOn hand) where
  open hand use {state as s, id, view as v, running as r, at}
  open task use {value, child as c, can, more, stamped, reads}

  abbrev now : State
  now = shown f s

  abbrev here : Scene P E
  here = scene f s r.past

  abbrev x : Name
  x = above cargo f hand c can

  abbrev k : ℕ
  k = pending (control_at now x)

  abbrev w : ControlWord
  w = Busy (k - 1)

  abbrev u : PureView
  u = reporting cargo f hand c can

  live-now : is_live now x ≡ true
  live-now = above-live cargo f hand c can

  word-now : control_at now x ≡ Busy k
  word-now = word-is cargo f hand c can

  is-put : IsPut now id x w u
  is-put = record { sound = r.stands.sound; hand = below cargo f hand c can; live = live-now; views = refl }

  sound-now : Sound (put now id x w u)
  sound-now =
      let less : one_less (control_at now x) ≡ w = ap one_less word-now in
      subst (λ (z : ControlWord × PureView). Sound (put now id x z.0 z.1))
      (λ j. (less j, cond-false (k == 1) (reporting_last cargo f hand c can) u (ne_eqb k 1 more) j))
      (sound-after cargo f hand c can)

  unheld : is_held w ≡ false
  unheld = ne_eqb (k - 1) 0 (λ e. more (let l = waits cargo f hand c can in omega (arith, l, e)))

  unheld-before : one (is_held (control_at now x)) ≡ 0
  unheld-before =
      ap (λ c. one (is_held c)) word-now
      ∙ ap one (ne_eqb k 0 (λ e. let l = waits cargo f hand c can in absurd (omega (arith, l, e))))

  waits-before : is_waiting (control_at now x) ≡ true
  waits-before = some-seat k (waits cargo f hand c can)

  full-own : is_full (here.home x.block x.node) ≡ true
  full-own = r.stands.homes.waiting x (ap (λ b. b || is_resting (control_at now x)) waits-before)

  kid-moves : (n : ℕ) → is_child f.tree x.node n ≡ true → KidMoves here id x w u is-put here.home r.past n
  kid-moves n own =
      let y = beside x n in
      let l = lives now x live-now in
      let live = is_live-from now y (record {
        block = l.block;
        node = child-within f.tree x.node n own;
        is_opened = l.is_opened;
        generation = l.generation;
      }) in
      let root : is_root f.tree n ≡ false =
      false_from_ne_true (is_root f.tree n) (λ t.
      both_ways (is_child f.tree x.node n) (root-orphan f.tree r.stands.sound.tree x.node n (child-within f.tree x.node n own) t) own) in
      let names = r.stands.sound.owned.names y in
      let a = stays now id x w u is-put (λ v. v.starts) y refl in
      let b = names.held in
      let d : stand now (λ v. v.finished) y ≡ 0 =
      names.finish ∙ ap (λ t. one (is_done (control_at now y) && t)) root ∙ no-one (is_done (control_at now y)) in
      let e : option_map_or (λ q. stand now (λ v. v.holds) (beside y q)) (parent_of f.tree n) 0 ≡ 0 =
      ap (λ o. option_map_or (λ q. stand now (λ v. v.holds) (beside y q)) o 0) (child-parent f.tree x.node n own)
      ∙ (r.stands.sound.owned.names x).held ∙ unheld-before in
      let z : one (is_held w) ≡ 0 = ap one unheld in
      let sums : seats_of here y ≡ stand (put now id x w u) (λ v. v.starts) y + one (is_held (control_at now y)) + one (is_held w) =
      omega (arith, a, b, d, e, z) in
      record { out = r.stands.homes.out y live ∙ ap (nat_le 1) sums; keeps = inl refl; shut = λ none. cc }

  names-same : named_below (moved here id x w u is-put here.home r.past) x ≡ named_below here x
  names-same =
      total-same _ _ (size now) (λ n below. times-same (is_child f.tree x.node n) _ _ (λ own.
      let y = beside x n in
      let word = reads-other now id x w u is-put y (λ e. parent-differs f.tree r.stands.sound.tree x.node n own (λ j. (e j).node)) in
      let a = stays now id x w u is-put (λ v. v.starts) y refl in
      λ j. one (is_under_way (word j)) + a j + one (is_done (word j) && is_full (here.home x.block n))))

  moves : Moves here id x w u is-put here.home r.past
  moves =
      record {
        sound = sound-now;
        under_way = ap is_under_way word-now;
        begun = refl;
        owes = λ y apart. refl;
        reports = λ y ne. omega arith;
        named_other = λ y ne. refl;
        far = λ j m own kid. refl;
        own = unout (here.home x.block x.node) full-own ∙ (λ j. sym unheld j || false);
        waits = λ _. full-own;
        settled = λ none. cc;
        kids = kid-moves;
        named = λ _. names-same ∙ r.stands.homes.named x waits-before;
        met = λ none.
            absurd (more (let g = leb-false 1 (k - 1) none in let l = waits cargo f hand c can in omega (arith, g, l)));
        asked = r.stands.homes.asked x;
      }

  abbrev moving : Move here
  moving = record {
    hand = id;
    name = x;
    word = w;
    view = u;
    put = is-put;
    home = here.home;
    past = r.past;
    moves = moves;
  }

  remembers : Remembers cargo f.over.value here moving
  remembers = record { start = λ y. refl; lot = λ y ne. refl; delivered = λ y ne. refl }

  leaves : Leaves cargo f.over.value here moving
  leaves =
      record {
        start = λ item is. r.stands.starts.shows x item live-now is;
        fit = λ item is. r.stands.items.fit x item live-now is;
        goes_on = λ item is _. r.stands.items.goes_on x item live-now is (ap is_done word-now);
        rests = λ item _ none. cc;
        bound = λ item is. r.stands.items.bound x item live-now is;
        ended = λ done _. cc;
        delivered = λ item done _ _. cc;
        enough = λ item none _ _. cc;
        lot = λ item _ is. r.stands.lots.own x item waits-before is;
        drawn = λ n _ own begun so. r.stands.lots.below x n waits-before own begun so;
      }

  abbrev writing : ToWriteControl hand
  writing = record {
    value = value;
    name = x;
    word = w;
    live = live-now;
    stamped = stamped;
    reads = reads;
  }

  module _ (n : ℕ) where
    abbrev i : ℕ
    i = index f.layout (OfControl x.block x.node)

    abbrev mine : View P E
    mine = with_step i n value (reports_off c v)

    abbrev after : Scene P E
    after = moved here id x w u is-put here.home r.past

    held-none : (z : View P E) (j : ℕ) → get_elem? s.views j ≡ some z → count_by (λ e. e.name) z.held x ≡ 0
    held-none z j there =
        let most = (among f s j z r.sized.seats there).held x in
        let fit = (r.stands.sound.owned.names x).held in
        let none = unheld-before in omega (arith, most, fit, none)

    shows-mine : shown_view (block_of f.layout s.words) mine ≡ u
    shows-mine =
        let old = shown_view (block_of f.layout s.words) v in
        (λ j. record old { reports = λ y. count-without (λ e. e.name) v.reported c y j })
        ∙ ap (λ (z : PureView). record z { reports = lose c z.reports }) (sym (shows cargo f hand c can))

    stands-on : Stands cargo f.over.value after (set s.views id mine)
    stands-on =
        let known = known-moved here moving (λ y. refl) (λ y _. refl) (λ y _. refl) (inl refl) v
        (among f s id v r.sized.seats at) (held-none v id at) (r.stands.views.each id v at) in
        record {
          sound = sound-now;
          homes = homes-moved here moving r.stands.homes;
          starts = starts-moved cargo f.over.value here moving remembers leaves r.stands.starts;
          items = items-moved cargo f.over.value here moving remembers leaves r.stands.items;
          lots = lots-moved cargo f.over.value here moving remembers leaves r.stands.lots;
          views = views-moved here after s.views id v mine at
              (λ j z ne there.
              known-moved here moving (λ y. refl) (λ y _. refl) (λ y _. refl) (inl refl) z
              (among f s j z r.sized.seats there) (held-none z j there))
              (known-listed after i n value (reports_off c v) (record {
                held = known.held;
                owed = known.owed;
                reported = each-without (IsReportedSo after) (λ e. e.name) v.reported c known.reported;
                noted = known.noted;
                unlooked = known.unlooked;
                seen_after = known.seen_after;
                seen = known.seen;
              }))
              refl refl r.stands.views;
          counts = counts-moved here.state after.state s.views id v mine at refl refl r.stands.counts;
        }

    pub report-runs : n ≡ slice_index s.words i → Running cargo f record { words = set s.words i value; homes = s.homes; views = set s.views id mine }
    report-runs was =
        control-runs cargo f hand writing mine u shows-mine
        s.homes here.home r.past (λ j m. refl)
        (ap is_done word-now) (begun-renewed cargo f s x r live-now (ap is_idle word-now)) (ap (λ k. entry i k value ∷ v.steps) was) refl stands-on
