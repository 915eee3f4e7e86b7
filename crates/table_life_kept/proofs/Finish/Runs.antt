-- The store by which a node below the root is finished keeps the rule.
use Rattle.std.proofs.Common.{◌≡◌, ℕ, ◌≤◌, Bool, true, false, ◌==◌, cond, set, refl, sym, ap, ◌∙◌, subst, inl, arith, ◌∷◌}
use Rattle.std.specs.Prelude.{Some, slice_index}
use Rattle.std.proofs.lemmas.Bool.{cond-true, cond-false, eq-eqb}
use Rattle.life_rules.specs.declared.words.ControlWord.TheVariants.{Done}
use Rattle.life_rules.specs.declared.event.Name.{Name}
use Rattle.node_tree.specs.Tree.{is_child, is_root}
use Rattle.life_rules.specs.Words.{is_under_way, is_idle, is_done}
use Rattle.life_rules.specs.Views.{View as PureView, same, beside, gain, lose}
use Rattle.life_rules.specs.States.{State, name_at}
use Rattle.life_rules.specs.Callbacks.{nearest_is_requested}
use Rattle.life_rules.specs.Sound.{Sound}
use Rattle.life_rules.proofs.Names.{same-refl, same-other, gain-other}
use Rattle.life_kept.proofs.Puts.{put, IsPut}
use Rattle.table_words.specs.Stamps.{stamp_of}
use Rattle.table_words.specs.Controls.{control_read}
use Rattle.table_words.specs.Layouts.{OfControl, index}
use Rattle.listed_words.specs.Lists.{entry}
use Rattle.table_rules.specs.declared.cargo.Cargo.{Ghosts}
use Rattle.table_rules.specs.declared.frame.Frame.{Frame}
use Rattle.table_rules.specs.declared.view.View.{View}
use Rattle.table_rules.specs.Named.{without}
use Rattle.table_rules.specs.ShownWords.{block_of}
use Rattle.table_rules.specs.ShownViews.{shown_view}
use Rattle.table_rules.specs.Scenes.{Home, Empty, Full, is_out, is_full, Past, Scene, shown, scene}
use Rattle.table_rules.specs.Running.{Stands, Running}
use Rattle.table_rules.specs.Homes.{is_waiting}
use Rattle.table_steps.specs.Claims.{with_step}
use Rattle.table_steps.specs.Slots.{slot_of, is_of_family}
use Rattle.table_steps.specs.Finishes.{Completes, owes_report}
use Rattle.table_life_kept.proofs.Move.Seats.{Move}
use Rattle.table_kept.proofs.Standing.{Standing}
use Rattle.table_kept.proofs.Entries.{count-without}
use Rattle.table_kept.proofs.Among.{among}
use Rattle.table_kept.proofs.Loads.{known-listed}
use Rattle.table_kept.proofs.Counts.{counts-moved}
use Rattle.table_kept.proofs.ViewMoves.{views-moved}
use Rattle.table_life_kept.proofs.Control.Runs.{ToWriteControl, control-runs}
use Rattle.table_kept.proofs.LiveNames.{place_of, name-live, begun-renewed}
use Rattle.table_kept.proofs.HeldNow.{Holding, start-so, named-so, fit-now, others-none}
use Rattle.table_kept.proofs.BeginSeats.{or-left, kid-of-family}
use Rattle.table_life_kept.proofs.Shedding.{deep-shed}
use Rattle.table_life_kept.proofs.ShedHomes.{ToShed, not-family, shed_homes}
use Rattle.table_life_kept.proofs.Leaving.{ToLeave, is-held, is-below, shows-old, place-n, home, home-given, kid-given, home-still, kid-left}
use Rattle.table_life_kept.proofs.Move.State.{Moves, moved, parent-differs}
use Rattle.table_life_kept.proofs.Move.Homes.{homes-moved}
use Rattle.table_life_kept.proofs.Move.Items.{Remembers, Leaves, starts-moved, items-moved, lots-moved}
use Rattle.table_life_kept.proofs.Move.Views.{known-moved, known-beside, others-held}
use Rattle.table_life_kept.proofs.Finish.Ends.{ToEnd, sound-done}

-- the word by which a node below the root is finished
pub record ToFinish {P E O : Type 0} {cargo : Ghosts P E O} {f : Frame O}
    (hand : Standing cargo f) : Type 0 where
  pub ending : ToEnd hand
  pub value : ℕ
  pub below_root : is_root f.tree ending.name.node ≡ false
  pub can : Completes cargo f (hand.view, ending.carried) ending.name ending.end
  pub stamped : stamp_of value ≡ ending.name.generation
  pub reads : control_read value ≡ Done

module _ {P E O : Type 0} (cargo : Ghosts P E O) (f : Frame O) (hand : Standing cargo f)
    (task : ToFinish hand) where
  open hand use {state as s, id, view as v, running as r, at}
  open task use {ending.{name as x, carried as c, seated, end}, value, below_root, can, stamped, reads}

  abbrev now : State
  now = shown f s

  abbrev here : Scene P E
  here = scene f s r.past

  abbrev gone : ℕ → Bool
  gone = is_of_family f.tree f.layout x

  abbrev left_node : ToLeave hand
  left_node = record { name = x; carried = c; seated = seated; leave = end.leave }

  abbrev homes_now : ℕ → ℕ → Home P
  homes_now = home cargo f hand left_node gone

  abbrev u : PureView
  u = record (now.view id) { holds = lose x (now.view id).holds; reports = gain x (now.view id).reports }

  is-put : IsPut now id x Done u
  is-put =
      record {
        sound = r.stands.sound;
        hand = is-below cargo f hand left_node;
        live = (is-held cargo f hand left_node).live;
        views = refl;
      }

  sound-now : Sound (put now id x Done u)
  sound-now =
      let name = name-live now x (is-held cargo f hand left_node).live in
      subst (λ z. Sound (put now id z Done (record (now.view id) { holds = lose z (now.view id).holds; reports = gain z (now.view id).reports }))) name
      (subst (λ w. Sound (put now id (name_at now (place_of x)) Done w))
      (cond-false (is_root f.tree x.node) _ _ below_root) (sound-done cargo f hand task.ending))

  -- the rule remembers with which item the node finished
  abbrev past : Past P E
  past = record r.past { delivered = λ y. cond (same x y) (Some can.item) (r.past.delivered y) }

  delivered-here : past.delivered x ≡ Some can.item
  delivered-here = cond-true (same x x) (Some can.item) (r.past.delivered x) (same-refl x)

  delivered-other : (y : Name) → (x ≡ y → ⊥) → past.delivered y ≡ r.past.delivered y
  delivered-other y ne = cond-false (same x y) (Some can.item) (r.past.delivered y) (same-other x y ne)

  own-home : homes_now x.block x.node ≡ Full can.item
  own-home =
      home-given cargo f hand left_node gone x.node (Some can.item) (place-n cargo f hand left_node)
      (or-left (slot_of f.layout x == slot_of f.layout x) _ (eq-eqb (slot_of f.layout x) (slot_of f.layout x) refl)) can.home

  kid-home : (n : ℕ) → is_child f.tree x.node n ≡ true → homes_now x.block n ≡ Empty
  kid-home n child = kid-given cargo f hand left_node gone n child (kid-of-family f.tree f.layout x n child)

  full-own : is_full (homes_now x.block x.node) ≡ true
  full-own = ap is_full own-home

  moves : Moves here id x Done u is-put homes_now past
  moves =
      record {
        sound = sound-now;
        under_way = ap is_under_way (is-held cargo f hand left_node).word;
        begun = refl;
        owes = λ y apart. refl;
        reports = λ y ne. let e = gain-other x y (now.view id).reports ne in omega (arith, e);
        named_other = λ y ne. refl;
        far = λ j m own kid.
            home-still cargo f hand left_node gone j m
            (λ hm. not-family f.tree f.layout x j m (sym r.frame.nodes) (place-n cargo f hand left_node) hm own kid);
        own = ap is_out own-home ∙ sym below_root;
        waits = λ none. cc;
        settled = λ _. full-own;
        kids = λ n child.
            kid-left cargo f hand left_node Done u is-put homes_now past n child refl refl
            (gain-other x (beside x n) (now.view id).reports
            (λ e. parent-differs f.tree r.stands.sound.tree x.node n child (λ k. (e k).node))) (kid-home n child);
        named = λ none. cc;
        met = λ _. r.stands.homes.met x (ap is_idle (is-held cargo f hand left_node).word) (ap is_waiting (is-held cargo f hand left_node).word);
        asked = r.stands.homes.asked x;
      }

  abbrev moving : Move here
  moving = record {
    hand = id;
    name = x;
    word = Done;
    view = u;
    put = is-put;
    home = homes_now;
    past = past;
    moves = moves;
  }

  remembers : Remembers cargo f.over.value here moving
  remembers = record { start = λ y. refl; lot = λ y ne. refl; delivered = delivered-other }

  item-is : (item : P) → homes_now x.block x.node ≡ Full item → can.item ≡ item
  item-is item e = let both : Full can.item ≡ Full item = sym own-home ∙ e in cc

  abbrev held_node : Holding hand
  held_node = record { name = x; entry = end.leave.held; holds = end.leave.holds }

  fits-now : cargo.fits can.item x.node (nearest_is_requested now x)
  fits-now = fit-now cargo f hand held_node can.item can.fit

  leaves : Leaves cargo f.over.value here moving
  leaves =
      let e = end.leave.held in
      let holds = end.leave.holds in
      let holding : Holding hand = record { name = x; entry = e; holds = holds } in
      record {
        start = λ item is. ap cargo.start (sym (item-is item is)) ∙ can.start ∙ start-so cargo f hand holding;
        fit = λ item is. subst (λ i. cargo.fits i x.node (nearest_is_requested now x)) (item-is item is) fits-now;
        goes_on = λ item is going. cc;
        rests = λ item _ none. cc;
        bound = λ item is.
            subst (λ i. cargo.least i ≤ r.past.named x) (item-is item is)
            (subst (λ n. cargo.least can.item ≤ n) (named-so cargo f hand holding) (end.bound can.item can.home));
        ended = λ _ _. (can.item, delivered-here, can.ends, fits-now);
        delivered = λ item _ _ is. delivered-here ∙ ap Some (item-is item is);
        enough = λ item _ _ is.
            let same : can.item ≡ item = (let both : Some can.item ≡ Some item = sym delivered-here ∙ is in cc) in
            subst (λ i. cargo.least i ≤ r.past.named x) same
            (subst (λ n. cargo.least can.item ≤ n) (named-so cargo f hand holding) (end.bound can.item can.home));
        lot = λ item waits _. cc;
        drawn = λ n waits _ _ _. cc;
      }

  abbrev shedding : ToShed hand
  shedding = record { carried = c; seated = seated; gone = gone }

  module _ (n : ℕ) where
    abbrev i : ℕ
    i = index f.layout (OfControl x.block x.node)

    abbrev mine : View P E
    mine = with_step i n value (owes_report x (cargo.start can.item) can.item v)

    abbrev after : Scene P E
    after = moved here id x Done u is-put homes_now past

    shows-mine : shown_view (block_of f.layout s.words) mine ≡ u
    shows-mine =
        let old = shown_view (block_of f.layout s.words) v in
        (λ k. record old { holds = λ y. count-without (λ e. e.name) v.held x y k; reports = gain x old.reports })
        ∙ ap (λ (z : PureView). record z { holds = lose x z.holds; reports = gain x z.reports })
        (sym (shows-old cargo f hand left_node))

    stands-done : Stands cargo f.over.value after (set s.views id mine)
    stands-done =
        let e = end.leave.held in
        let holds = end.leave.holds in
        let holding : Holding hand = record { name = x; entry = e; holds = holds } in
        let old = r.stands.views.each id v at in
        let own_among = among f s id v r.sized.seats at in
        let known = known-beside here moving (λ y. refl) (λ y _. refl) delivered-other (inl refl) v own_among old
        (without (λ e. e.name) v.held x)
        (others-held here moving (λ y. refl) (λ y _. refl) delivered-other (inl refl) v own_among old) in
        record {
          sound = sound-now;
          homes = homes-moved here moving r.stands.homes;
          starts = starts-moved cargo f.over.value here moving remembers leaves r.stands.starts;
          items = items-moved cargo f.over.value here moving remembers leaves r.stands.items;
          lots = lots-moved cargo f.over.value here moving remembers leaves r.stands.lots;
          views = views-moved here after s.views id v mine at
              (λ j z ne there.
              known-moved here moving (λ y. refl) (λ y _. refl) delivered-other (inl refl) z
              (among f s j z r.sized.seats there) (others-none cargo f hand holding j z ne there))
              (known-listed after i n value (owes_report x (cargo.start can.item) can.item v) (record {
                held = known.held;
                owed = known.owed;
                reported = ((can.start ∙ start-so cargo f hand holding, delivered-here), known.reported);
                noted = known.noted;
                unlooked = known.unlooked;
                seen_after = known.seen_after;
                seen = known.seen;
              }))
              refl refl r.stands.views;
          counts = counts-moved here.state after.state s.views id v mine at refl refl r.stands.counts;
        }

    pub finish-runs : n ≡ slice_index s.words i → Running cargo f record {
      words = set s.words i value;
      homes = shed_homes cargo f hand shedding;
      views = set s.views id mine;
    }
    finish-runs was =
        let own = is-held cargo f hand left_node in
        let writing : ToWriteControl hand = record {
          value = value;
          name = x;
          word = Done;
          live = own.live;
          stamped = stamped;
          reads = reads;
        } in
        control-runs cargo f hand writing mine u shows-mine
        (shed_homes cargo f hand shedding) homes_now past (λ j m. refl)
        (ap is_done own.word) (begun-renewed cargo f s x r own.live (ap is_idle own.word)) (ap (λ k. entry i k value ∷ v.steps) was)
        (deep-shed gone s.homes c) stands-done
