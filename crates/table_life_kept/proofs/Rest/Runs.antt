-- The store by which a node is left at rest keeps the rule.
use Rattle.std.proofs.Common.{◌≡◌, ℕ, ◌≤◌, Bool, true, false, ◌&&◌, ◌||◌, ◌==◌, List, set, refl, sym, ap, ◌∙◌, subst, inl, arith, ◌∷◌}
use Rattle.std.specs.Prelude.{Option, Some, slice_index}
use Rattle.std.proofs.lemmas.Bool.{and_from, both_ways, eq-eqb}
use Rattle.life_rules.specs.declared.words.ControlWord.{ControlWord}
use Rattle.life_rules.specs.declared.words.ControlWord.TheVariants.{Busy}
use Rattle.life_rules.specs.declared.event.Name.{Name}
use Rattle.life_rules.specs.declared.event.Resting.{Resting}
use Rattle.life_rules.specs.declared.event.Resting.TheVariants.{Loop, Pool, Parked}
use Rattle.node_tree.specs.Tree.{is_child, is_root}
use Rattle.life_rules.specs.Words.{is_idle, is_done, is_held, is_under_way, resting_at}
use Rattle.life_rules.specs.Views.{View as PureView, lose}
use Rattle.life_rules.specs.States.{State}
use Rattle.life_rules.specs.LifeSteps.{may_leave_node}
use Rattle.life_rules.specs.Callbacks.{nearest_is_requested}
use Rattle.life_rules.specs.Sound.{Sound}
use Rattle.life_kept.proofs.Puts.{put, IsPut}
use Rattle.life_kept.proofs.Holding.{IsHeld}
use Rattle.life_kept.proofs.RestTake.{sound-rest}
use Rattle.table_words.specs.Stamps.{stamp_of}
use Rattle.table_words.specs.Controls.{control_read}
use Rattle.table_words.specs.Layouts.{OfControl, index}
use Rattle.atomic_table.specs.Table as table
use Rattle.listed_words.specs.Lists.{entry}
use Rattle.table_rules.specs.declared.cargo.Cargo.{Ghosts}
use Rattle.table_rules.specs.declared.frame.Frame.{Frame}
use Rattle.table_rules.specs.declared.view.View.{View}
use Rattle.table_rules.specs.Named.{without}
use Rattle.table_rules.specs.ShownWords.{block_of}
use Rattle.table_rules.specs.ShownViews.{shown_view}
use Rattle.table_rules.specs.Scenes.{Home, Empty, Full, is_out, is_full, Scene, shown, scene}
use Rattle.table_rules.specs.Homes.{is_waiting}
use Rattle.table_rules.specs.Running.{Stands, Running}
use Rattle.table_steps.specs.Views.{aimed}
use Rattle.table_steps.specs.Claims.{with_step}
use Rattle.table_steps.specs.Lefts.{FindsControl}
use Rattle.table_steps.specs.Slots.{Aim, slot_of, is_of_family, IsSeated}
use Rattle.table_steps.specs.Rests.{lets_go, CanRest, RestsAt}
use Rattle.table_life_kept.proofs.Move.Seats.{Move}
use Rattle.table_kept.proofs.Standing.{Standing}
use Rattle.table_kept.proofs.Entries.{count-without}
use Rattle.table_kept.proofs.Among.{among}
use Rattle.table_kept.proofs.Loads.{known-listed}
use Rattle.table_kept.proofs.Counts.{counts-moved}
use Rattle.table_kept.proofs.ViewMoves.{views-moved}
use Rattle.table_life_kept.proofs.Control.Runs.{ToWriteControl, control-runs}
use Rattle.table_kept.proofs.LiveNames.{place_of, place-live, name-live, begun-renewed}
use Rattle.table_kept.proofs.FoundNow.{found-control}
use Rattle.table_kept.proofs.HeldNow.{Holding, start-so, named-so, fit-now, others-none}
use Rattle.table_kept.proofs.BeginSeats.{or-left, kid-of-family}
use Rattle.table_life_kept.proofs.Shedding.{sheds, carries-shed, deep-shed}
use Rattle.table_life_kept.proofs.ShedHomes.{ToShed, not-family, valid-shed, shed_homes}
use Rattle.table_life_kept.proofs.Leaving.{ToLeave, is-held, is-below, shows-old, may-leave, place-n, home, home-given, kid-given, home-still, kid-left}
use Rattle.table_kept.proofs.ShedSeats.{seated-shed}
use Rattle.table_life_kept.proofs.Move.State.{Moves, moved}
use Rattle.table_life_kept.proofs.Move.Homes.{homes-moved}
use Rattle.table_life_kept.proofs.Move.Items.{Remembers, Leaves, starts-moved, items-moved, lots-moved}
use Rattle.table_life_kept.proofs.Move.Views.{known-moved, known-beside, others-held}

-- the word of a node at rest
record IsAtRest (c : ControlWord) : Type 0 where
  begun : is_idle c ≡ false
  held : is_held c ≡ false
  done : is_done c ≡ false
  waits : is_waiting c ≡ false

at-rest : (to : Resting) → IsAtRest (resting_at to)
at-rest Loop = record { begun = refl; held = refl; done = refl; waits = refl }
at-rest Pool = record { begun = refl; held = refl; done = refl; waits = refl }
at-rest Parked = record { begun = refl; held = refl; done = refl; waits = refl }

same-full : {P : Type 0} (a b : P) → Full a ≡ Full b → a ≡ b
same-full a b e = cc

-- which node is left at rest, where, and by which word
pub record ToRest {P E O : Type 0} {cargo : Ghosts P E O} {f : Frame O}
    (hand : Standing cargo f) : Type 0 where
  pub value : ℕ
  pub name : Name
  pub to : Resting
  pub carried : List (ℕ × Option P)
  pub seated : IsSeated f.tree f.layout (hand.view, carried)
  pub can : CanRest cargo f (hand.view, carried) name
  pub stamped : stamp_of value ≡ name.generation
  pub reads : control_read value ≡ resting_at to

module _ {P E O : Type 0} (cargo : Ghosts P E O) (f : Frame O) (hand : Standing cargo f)
    (task : ToRest hand) where
  open hand use {state as s, id, view as v, running as r, at}
  open task use {value, name as x, to, carried as c, seated, can, stamped, reads}

  abbrev now : State
  now = shown f s

  abbrev here : Scene P E
  here = scene f s r.past

  abbrev w : ControlWord
  w = resting_at to

  abbrev aim : Aim
  aim = aimed f x

  rest : IsAtRest w
  rest = at-rest to

  abbrev leaving : ToLeave hand
  leaving = record { name = x; carried = c; seated = seated; leave = can.leave }

  held-now : IsHeld now x
  held-now = is-held cargo f hand leaving

  abbrev u : PureView
  u = record (now.view id) { holds = lose x (now.view id).holds }

  is-put : IsPut now id x w u
  is-put = record { sound = r.stands.sound; hand = is-below cargo f hand leaving; live = held-now.live; views = refl }

  sound-now : Sound (put now id x w u)
  sound-now =
      let name = name-live now x held-now.live in
      subst (λ z. Sound (put now id z w (record (now.view id) { holds = lose z (now.view id).holds }))) name
      (sound-rest now id (place_of x) to r.stands.sound (is-below cargo f hand leaving)
      (and_from _ _ (place-live now x held-now.live)
      (subst (λ z. may_leave_node (now.view id) z ≡ true) (sym name) (may-leave cargo f hand leaving))))

  abbrev gone : ℕ → Bool
  gone = is_of_family f.tree f.layout x

  abbrev homes_now : ℕ → ℕ → Home P
  homes_now = home cargo f hand leaving gone

  own-home : homes_now x.block x.node ≡ Full can.item
  own-home =
      home-given cargo f hand leaving gone x.node (Some can.item) (place-n cargo f hand leaving)
      (or-left (slot_of f.layout x == slot_of f.layout x) _ (eq-eqb (slot_of f.layout x) (slot_of f.layout x) refl)) can.home

  kid-home : (n : ℕ) → is_child f.tree x.node n ≡ true → homes_now x.block n ≡ Empty
  kid-home n child = kid-given cargo f hand leaving gone n child (kid-of-family f.tree f.layout x n child)

  full-own : is_full (homes_now x.block x.node) ≡ true
  full-own = ap is_full own-home

  moves : Moves here id x w u is-put homes_now r.past
  moves =
      record {
        sound = sound-now;
        under_way = ap is_under_way held-now.word;
        begun = rest.begun;
        owes = λ y apart. refl;
        reports = λ y ne. omega arith;
        named_other = λ y ne. refl;
        far = λ j m own kid.
            home-still cargo f hand leaving gone j m
            (λ hm. not-family f.tree f.layout x j m (sym r.frame.nodes) (place-n cargo f hand leaving) hm own kid);
        own = ap is_out own-home ∙ (λ k. sym rest.held k || (sym rest.done k && is_root f.tree x.node));
        waits = λ _. full-own;
        settled = λ _. full-own;
        kids = λ n child.
            kid-left cargo f hand leaving w u is-put homes_now r.past n child rest.held refl refl (kid-home n child);
        named = λ waits. absurd (both_ways (is_waiting w) rest.waits waits);
        met = λ _. r.stands.homes.met x (ap is_idle held-now.word) (ap is_waiting held-now.word);
        asked = r.stands.homes.asked x;
      }

  abbrev moving : Move here
  moving = record {
    hand = id;
    name = x;
    word = w;
    view = u;
    put = is-put;
    home = homes_now;
    past = r.past;
    moves = moves;
  }

  remembers : Remembers cargo f.over.value here moving
  remembers = record { start = λ y. refl; lot = λ y ne. refl; delivered = λ y ne. refl }

  item-is : (item : P) → homes_now x.block x.node ≡ Full item → can.item ≡ item
  item-is item e = same-full can.item item (sym own-home ∙ e)

  leaves : Leaves cargo f.over.value here moving
  leaves =
      let e = can.leave.held in
      let holds = can.leave.holds in
      let holding : Holding hand = record { name = x; entry = e; holds = holds } in
      record {
        start = λ item is. ap cargo.start (sym (item-is item is)) ∙ can.start ∙ start-so cargo f hand holding;
        fit = λ item is.
            subst (λ i. cargo.fits i x.node (nearest_is_requested now x)) (item-is item is)
            (fit-now cargo f hand holding can.item can.fit);
        goes_on = λ item is _. subst (λ i. ¬ cargo.ends i) (item-is item is) can.goes_on;
        rests = λ item is _. subst (λ i. cargo.rests i x.node) (item-is item is) can.rests;
        bound = λ item is.
            subst (λ i. cargo.least i ≤ r.past.named x) (item-is item is)
            (subst (λ n. cargo.least can.item ≤ n) (named-so cargo f hand holding) can.bound);
        ended = λ done _. absurd (both_ways (is_done w) rest.done done);
        delivered = λ item done _ _. absurd (both_ways (is_done w) rest.done done);
        enough = λ item done _ _. absurd (both_ways (is_done w) rest.done done);
        lot = λ item waits _. absurd (both_ways (is_waiting w) rest.waits waits);
        drawn = λ n waits _ _ _. absurd (both_ways (is_waiting w) rest.waits waits);
      }

  abbrev shedding : ToShed hand
  shedding = record { carried = c; seated = seated; gone = gone }

  abbrev writing : ToWriteControl hand
  writing = record {
    value = value;
    name = x;
    word = w;
    live = held-now.live;
    stamped = stamped;
    reads = reads;
  }

  module _ (n : ℕ) where
    abbrev i : ℕ
    i = index f.layout (OfControl x.block x.node)

    abbrev mine : View P E
    mine = with_step i n value (lets_go x v)

    abbrev after : Scene P E
    after = moved here id x w u is-put homes_now r.past

    shows-mine : shown_view (block_of f.layout s.words) mine ≡ u
    shows-mine =
        let old = shown_view (block_of f.layout s.words) v in
        (λ k. record old { holds = λ y. count-without (λ e. e.name) v.held x y k })
        ∙ ap (λ (z : PureView). record z { holds = lose x z.holds })
        (sym (shows-old cargo f hand leaving))

    stands-rest : Stands cargo f.over.value after (set s.views id mine)
    stands-rest =
        let e = can.leave.held in
        let holds = can.leave.holds in
        let holding : Holding hand = record { name = x; entry = e; holds = holds } in
        let known = r.stands.views.each id v at in
        let mine-among = among f s id v r.sized.seats at in
        record {
          sound = sound-now;
          homes = homes-moved here moving r.stands.homes;
          starts = starts-moved cargo f.over.value here moving remembers leaves r.stands.starts;
          items = items-moved cargo f.over.value here moving remembers leaves r.stands.items;
          lots = lots-moved cargo f.over.value here moving remembers leaves r.stands.lots;
          views = views-moved here after s.views id v mine at
              (λ j z ne there.
              known-moved here moving (λ y. refl) (λ y _. refl) (λ y _. refl) (inl refl) z
              (among f s j z r.sized.seats there) (others-none cargo f hand holding j z ne there))
              (known-listed after i n value (lets_go x v)
              (known-beside here moving (λ y. refl) (λ y _. refl) (λ y _. refl) (inl refl) v
              mine-among known (without (λ e. e.name) v.held x)
              (others-held here moving (λ y. refl) (λ y _. refl) (λ y _. refl) (inl refl) v mine-among known)))
              refl refl r.stands.views;
          counts = counts-moved here.state after.state s.views id v mine at refl refl r.stands.counts;
        }

    pub rest-runs : n ≡ slice_index s.words i → Running cargo f record {
      words = set s.words i value;
      homes = shed_homes cargo f hand shedding;
      views = set s.views id mine;
    }
    rest-runs was =
        control-runs cargo f hand writing mine u shows-mine
        (shed_homes cargo f hand shedding) homes_now r.past (λ j m. refl)
        (ap is_done held-now.word) (begun-renewed cargo f s x r held-now.live (ap is_idle held-now.word)) (ap (λ k. entry i k value ∷ v.steps) was)
        (deep-shed gone s.homes c) stands-rest

  pub rests-now : (mine : View P E) × (a : table.Act (Option P)) × table.Valid s.homes c a
      × Running cargo f (table.stepped s (index f.layout (OfControl x.block x.node)) value id c mine a)
      × FindsControl aim (Busy 0) (RestsAt aim) (index f.layout (OfControl x.block x.node))
      (slice_index s.words (index f.layout (OfControl x.block x.node))) value (v, c) (mine, table.carried_after c a)
  rests-now =
      let i = index f.layout (OfControl x.block x.node) in
      let n = slice_index s.words i in
      let mine : View P E = with_step i n value (lets_go x v) in
      let is = carries-shed gone c in (
        mine,
        sheds gone c,
        valid-shed cargo f hand shedding,
        rest-runs n refl,
        record {
          found = found-control cargo f s r x held-now.live (Busy 0) held-now.word;
          did = record {
            me_is = λ k. (mine, is k);
            seated = subst (λ d. IsSeated f.tree f.layout (mine, d)) (sym is)
                (seated-shed f.tree f.layout x i n value v c seated);
          };
        },
      )
