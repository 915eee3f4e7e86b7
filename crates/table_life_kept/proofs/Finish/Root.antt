-- The store by which a root is finished keeps the rule. The hand keeps the root's home.
use Rattle.std.proofs.Common.{◌≡◌, ℕ, ◌<◌, Bool, true, false, not, ◌||◌, ◌==◌, List, length, set, refl, sym, ap, ◌∙◌, subst, inl, arith, ◌∷◌}
use Rattle.std.specs.Prelude.{slice_index}
use Rattle.std.proofs.lemmas.Bool.{and_parts, both_ways, cond-true, eqb-true, false_from_ne_true}
use Rattle.std.proofs.lemmas.Nat.{same_from_place}
use Rattle.node_tree.specs.declared.node.TreeNode.{TreeNode}
use Rattle.life_rules.specs.declared.words.ControlWord.TheVariants.{Done}
use Rattle.life_rules.specs.declared.event.Name.{Name}
use Rattle.node_tree.specs.Tree.{is_child, is_root}
use Rattle.life_rules.specs.Words.{is_held, is_under_way, is_idle, is_done}
use Rattle.life_rules.specs.Views.{View as PureView, gain, lose}
use Rattle.common_lemmas.specs.Sums.{one}
use Rattle.life_rules.specs.States.{State, name_at, stand}
use Rattle.life_rules.specs.Sound.{Sound}
use Rattle.life_kept.proofs.Puts.{put, IsPut}
use Rattle.life_kept.proofs.Trees.{child-within}
use Rattle.table_words.specs.declared.layout.Layout.{Layout}
use Rattle.table_words.specs.Stamps.{stamp_of}
use Rattle.table_words.specs.Controls.{control_read}
use Rattle.table_words.specs.Layouts.{OfControl, index, place_number}
use Rattle.listed_words.specs.Lists.{entry}
use Rattle.table_rules.specs.declared.cargo.Cargo.{Ghosts}
use Rattle.table_rules.specs.declared.frame.Frame.{Frame}
use Rattle.table_rules.specs.declared.view.View.{View}
use Rattle.table_rules.specs.Named.{without}
use Rattle.table_rules.specs.ShownWords.{block_of}
use Rattle.table_rules.specs.ShownViews.{shown_view}
use Rattle.table_rules.specs.Scenes.{Home, Empty, Full, is_out, Scene, shown, scene}
use Rattle.table_rules.specs.Homes.{seats_of, is_waiting}
use Rattle.table_rules.specs.Running.{Stands, Running}
use Rattle.table_steps.specs.Claims.{with_step}
use Rattle.table_steps.specs.Slots.{slot_of, kids_of}
use Rattle.table_steps.specs.Finishes.{is_of_kids, has_root}
use Rattle.table_life_kept.proofs.Move.Seats.{Move}
use Rattle.table_kept.proofs.Standing.{Standing}
use Rattle.table_kept.proofs.Entries.{count-without}
use Rattle.table_kept.proofs.Among.{among}
use Rattle.table_kept.proofs.Loads.{known-listed}
use Rattle.table_kept.proofs.Counts.{counts-moved}
use Rattle.table_kept.proofs.ViewMoves.{views-moved}
use Rattle.table_life_kept.proofs.Control.Runs.{ToWriteControl, control-runs}
use Rattle.table_kept.proofs.LiveNames.{place_of, name-live, begun-renewed}
use Rattle.table_kept.proofs.HeldNow.{Holding, others-none}
use Rattle.table_kept.proofs.KidSlots.{has-kid}
use Rattle.table_kept.proofs.BeginSeats.{kid-any}
use Rattle.table_kept.proofs.SlotsOut.{any-numbers}
use Rattle.table_life_kept.proofs.Shedding.{deep-shed}
use Rattle.table_life_kept.proofs.ShedHomes.{ToShed, not-family, shed_homes}
use Rattle.table_life_kept.proofs.Leaving.{ToLeave, is-held, is-below, shows-old, place-n, home, kid-given, home-still, kid-left}
use Rattle.table_life_kept.proofs.Finish.Ends.{ToEnd, sound-done}
use Rattle.table_life_kept.proofs.Move.State.{Moves, moved, parent-differs, some-seat}
use Rattle.table_life_kept.proofs.Move.Homes.{homes-moved}
use Rattle.table_life_kept.proofs.Move.Items.{Remembers, Leaves, starts-moved, items-moved, lots-moved}
use Rattle.table_life_kept.proofs.Move.Views.{known-moved, known-beside, others-held}

-- a slot outside the node's family isn't that of a child, nor is the node's own
none-right : (a b : Bool) → (a || b) ≡ false → b ≡ false
none-right true b e = cc
none-right false b e = e

own-no_kid : (tree : List TreeNode) (l : Layout) (x : Name) → length tree ≡ l.nodes → x.node < l.nodes →
    (is_child tree x.node x.node ≡ true → ⊥) → is_of_kids tree l x (slot_of l x) ≡ false
own-no_kid tree l x nodes hx none =
    false_from_ne_true (is_of_kids tree l x (slot_of l x)) (λ t.
    let n = any-numbers (λ n. place_number l x.block n == slot_of l x) (kids_of tree x.node) t in
    let child : is_child tree x.node n.0 ≡ true = (and_parts _ _ (sym (has-kid tree x.node (length tree) n.0) ∙ n.2)).1 in
    let below = child-within tree x.node n.0 child in
    let is = same_from_place x.block n.0 x.block x.node l.nodes (omega (arith, below, nodes)) hx
    (eqb-true (place_number l x.block n.0) (slot_of l x) n.1) in
    none (subst (λ m. is_child tree x.node m ≡ true) is.1 child))

-- the word by which a root is finished
pub record ToFinishRoot {P E O : Type 0} {cargo : Ghosts P E O} {f : Frame O}
    (hand : Standing cargo f) : Type 0 where
  pub ending : ToEnd hand
  pub value : ℕ
  pub root : is_root f.tree ending.name.node ≡ true
  pub stamped : stamp_of value ≡ ending.name.generation
  pub reads : control_read value ≡ Done

module _ {P E O : Type 0} (cargo : Ghosts P E O) (f : Frame O) (hand : Standing cargo f)
    (task : ToFinishRoot hand) where
  open hand use {state as s, id, view as v, running as r, at}
  open task use {ending.{name as x, carried as c, seated, end}, value, root, stamped, reads}

  abbrev now : State
  now = shown f s

  abbrev here : Scene P E
  here = scene f s r.past

  abbrev gone : ℕ → Bool
  gone = is_of_kids f.tree f.layout x

  abbrev leaving : ToLeave hand
  leaving = record { name = x; carried = c; seated = seated; leave = end.leave }

  abbrev homes_now : ℕ → ℕ → Home P
  homes_now = home cargo f hand leaving gone

  abbrev u : PureView
  u = record (now.view id) { holds = lose x (now.view id).holds; finished = gain x (now.view id).finished }

  is-put : IsPut now id x Done u
  is-put =
      record {
        sound = r.stands.sound;
        hand = is-below cargo f hand leaving;
        live = (is-held cargo f hand leaving).live;
        views = refl;
      }

  sound-now : Sound (put now id x Done u)
  sound-now =
      let name = name-live now x (is-held cargo f hand leaving).live in
      subst (λ z. Sound (put now id z Done (record (now.view id) { holds = lose z (now.view id).holds; finished = gain z (now.view id).finished }))) name
      (subst (λ w. Sound (put now id (name_at now (place_of x)) Done w))
      (cond-true (is_root f.tree x.node) _ _ root) (sound-done cargo f hand task.ending))

  no-own_kid : is_child f.tree x.node x.node ≡ true → ⊥
  no-own_kid child = parent-differs f.tree r.stands.sound.tree x.node x.node child refl

  own-still : homes_now x.block x.node ≡ here.home x.block x.node
  own-still =
      home-still cargo f hand leaving gone x.block x.node
      (λ hm. own-no_kid f.tree f.layout x (sym r.frame.nodes) (place-n cargo f hand leaving) no-own_kid)

  own-out : is_out (here.home x.block x.node) ≡ true
  own-out =
      let held = is-held cargo f hand leaving in
      let holds : stand now (λ v. v.holds) x ≡ 1 = (r.stands.sound.owned.names x).held ∙ ap (λ w. one (is_held w)) held.word in
      r.stands.homes.out x held.live ∙ some-seat (seats_of here x) (omega (arith, holds))

  kid-home : (n : ℕ) → is_child f.tree x.node n ≡ true → homes_now x.block n ≡ Empty
  kid-home n child = kid-given cargo f hand leaving gone n child (kid-any f.tree f.layout x n child)

  moves : Moves here id x Done u is-put homes_now r.past
  moves =
      record {
        sound = sound-now;
        under_way = ap is_under_way (is-held cargo f hand leaving).word;
        begun = refl;
        owes = λ y apart. refl;
        reports = λ y ne. omega arith;
        named_other = λ y ne. refl;
        far = λ j m own kid.
            home-still cargo f hand leaving gone j m
            (λ hm. none-right (slot_of f.layout x == place_number f.layout j m) (gone (place_number f.layout j m))
            (not-family f.tree f.layout x j m (sym r.frame.nodes) (place-n cargo f hand leaving) hm own kid));
        own = ap is_out own-still ∙ own-out ∙ sym root;
        waits = λ none. cc;
        settled = λ other. absurd (both_ways (not (is_root f.tree x.node)) (ap not root) other);
        kids = λ n child.
            kid-left cargo f hand leaving Done u is-put homes_now r.past n child refl refl refl (kid-home n child);
        named = λ none. cc;
        met = λ _. r.stands.homes.met x (ap is_idle (is-held cargo f hand leaving).word) (ap is_waiting (is-held cargo f hand leaving).word);
        asked = r.stands.homes.asked x;
      }

  abbrev moving : Move here
  moving = record {
    hand = id;
    name = x;
    word = Done;
    view = u;
    put = is-put;
    home = homes_now;
    past = r.past;
    moves = moves;
  }

  remembers : Remembers cargo f.over.value here moving
  remembers = record { start = λ y. refl; lot = λ y ne. refl; delivered = λ y ne. refl }

  none-left : {G : Type 0} (item : P) → homes_now x.block x.node ≡ Full item → G
  none-left item is = absurd (both_ways (is_out (homes_now x.block x.node)) (ap is_out is) (ap is_out own-still ∙ own-out))

  leaves : Leaves cargo f.over.value here moving
  leaves =
      record {
        start = λ item is. none-left item is;
        fit = λ item is. none-left item is;
        goes_on = λ item is _. none-left item is;
        rests = λ item is _. none-left item is;
        bound = λ item is. none-left item is;
        ended = λ _ other. absurd (both_ways (is_root f.tree x.node) other root);
        delivered = λ item _ _ is. none-left item is;
        enough = λ item _ other _. absurd (both_ways (is_root f.tree x.node) other root);
        lot = λ item _ is. none-left item is;
        drawn = λ n waits _ _ _. cc;
      }

  abbrev holding : Holding hand
  holding = record { name = x; entry = end.leave.held; holds = end.leave.holds }

  abbrev shedding : ToShed hand
  shedding = record { carried = c; seated = seated; gone = gone }

  module _ (n : ℕ) where
    abbrev i : ℕ
    i = index f.layout (OfControl x.block x.node)

    abbrev mine : View P E
    mine = with_step i n value (has_root x v)

    abbrev after : Scene P E
    after = moved here id x Done u is-put homes_now r.past

    shows-mine : shown_view (block_of f.layout s.words) mine ≡ u
    shows-mine =
        let old = shown_view (block_of f.layout s.words) v in
        (λ k. record old { holds = λ y. count-without (λ e. e.name) v.held x y k; finished = gain x old.finished })
        ∙ ap (λ (z : PureView). record z { holds = lose x z.holds; finished = gain x z.finished })
        (sym (shows-old cargo f hand leaving))

    stands-done : Stands cargo f.over.value after (set s.views id mine)
    stands-done =
        let old = r.stands.views.each id v at in
        let own_among = among f s id v r.sized.seats at in
        let known = known-beside here moving (λ y. refl) (λ y _. refl) (λ y _. refl) (inl refl) v own_among old
        (without (λ e. e.name) v.held x)
        (others-held here moving (λ y. refl) (λ y _. refl) (λ y _. refl) (inl refl) v own_among old) in
        record {
          sound = sound-now;
          homes = homes-moved here moving r.stands.homes;
          starts = starts-moved cargo f.over.value here moving remembers leaves r.stands.starts;
          items = items-moved cargo f.over.value here moving remembers leaves r.stands.items;
          lots = lots-moved cargo f.over.value here moving remembers leaves r.stands.lots;
          views = views-moved here after s.views id v mine at
              (λ j z ne there.
              known-moved here moving (λ y. refl) (λ y _. refl) (λ y _. refl) (inl refl) z
              (among f s j z r.sized.seats there) (others-none cargo f hand holding j z ne there))
              (known-listed after i n value (has_root x v) (record {
                held = known.held;
                owed = known.owed;
                reported = known.reported;
                noted = known.noted;
                unlooked = known.unlooked;
                seen_after = known.seen_after;
                seen = known.seen;
              }))
              refl refl r.stands.views;
          counts = counts-moved here.state after.state s.views id v mine at refl refl r.stands.counts;
        }

    pub root-runs : n ≡ slice_index s.words i → Running cargo f record {
      words = set s.words i value;
      homes = shed_homes cargo f hand shedding;
      views = set s.views id mine;
    }
    root-runs was =
        let own = is-held cargo f hand leaving in
        let writing : ToWriteControl hand = record {
          value = value;
          name = x;
          word = Done;
          live = own.live;
          stamped = stamped;
          reads = reads;
        } in
        control-runs cargo f hand writing mine u shows-mine
        (shed_homes cargo f hand shedding) homes_now r.past (λ j m. refl)
        (ap is_done own.word) (begun-renewed cargo f s x r own.live (ap is_idle own.word)) (ap (λ k. entry i k value ∷ v.steps) was)
        (deep-shed gone s.homes c) stands-done
