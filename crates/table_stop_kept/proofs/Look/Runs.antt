-- What a look at a stop source owes and tells.
use Rattle.std.proofs.Common.{◌≡◌, ℕ, ◌≤◌, true, false, ◌==◌, List, ◌∷◌, set, refl, sym, subst, length-set, ap, ◌∙◌}
use Rattle.std.specs.Prelude.{Option, Some, None, slice_index}
use Rattle.std.specs.Option.{option_map_or}
use Rattle.std.proofs.lemmas.Bool.{and_parts, cond-true, cond-false, eqb-true}
use mathlib.Core.Option.{some}
use lib.ListN.{get_elem?}
use lib.Seq.{set-get_or}
use Rattle.node_tree.specs.declared.node.TreeNode.{TreeNode}
use Rattle.life_rules.specs.declared.event.Name.{Name}
use Rattle.life_rules.specs.declared.event.SourceRef.{SourceRef}
use Rattle.life_rules.specs.declared.event.SourceRef.TheVariants.{Scope, Node}
use Rattle.node_tree.specs.Tree.{nearest, given_by}
use Rattle.life_rules.specs.Views.{View as PureView}
use Rattle.life_rules.specs.States.{bits_at, source_for}
use Rattle.life_rules.specs.Callbacks.{nearest_is_requested}
use Rattle.common_lemmas.proofs.Bool.{either}
use Rattle.stop_kept.proofs.Notes.{plain}
use Rattle.table_words.specs.declared.layout.Layout.{Layout}
use Rattle.table_words.specs.Stamps.{stamp_of}
use Rattle.table_words.specs.Controls.{source_read}
use Rattle.table_words.specs.Layouts.{IsSpot, OfSource, index}
use Rattle.atomic_table.specs.Table.{Allows, keeps}
use Rattle.atomic_table.specs.Table as table
use Rattle.table_rules.specs.declared.cargo.Cargo.{Ghosts}
use Rattle.table_rules.specs.declared.frame.Frame.{Frame}
use Rattle.table_rules.specs.declared.view.View.{View}
use Rattle.table_rules.specs.declared.view.Held.{Held}
use Rattle.table_rules.specs.Named.{Each}
use Rattle.table_rules.specs.Scenes.{Scene, shown, scene}
use Rattle.table_rules.specs.Homes.{HomesStand}
use Rattle.table_rules.specs.Notes.{IsPast, IsPastSource, IsHeldSo, IsKnown, children_are_requested}
use Rattle.table_rules.specs.Running.{Stands, Running}
use Rattle.table_steps.specs.Seats.{Seated}
use Rattle.table_steps.specs.Slots.{IsSeated}
use Rattle.table_steps.specs.Sights.{spot_of, says_requested, seen_after_now, unlooked_now, looks_at, LooksAt, MayLookAfter, StillAsked, AgreesWithTold, sees}
use Rattle.table_kept.proofs.Standing.{Standing}
use Rattle.table_kept.proofs.Listing.{AllowsListed, allows-listed, lists-one}
use Rattle.table_kept.proofs.Entries.{each-map, each-has, found, each-found}
use Rattle.table_kept.proofs.Stamping.{looked-risen}
use Rattle.table_kept.proofs.Counts.{counts-moved}
use Rattle.table_kept.proofs.ViewMoves.{views-moved}
use Rattle.table_stop_kept.proofs.Look.Sights.{each-but}
use Rattle.table_stop_kept.proofs.PartsLive.{seen-stays}
use Rattle.table_stop_kept.proofs.Look.State as looking

-- at which source the hand looks, and after which node
pub record ToLook {P E O : Type 0} {cargo : Ghosts P E O} {f : Frame O}
    (hand : Standing cargo f) : Type 0 where
  pub source : SourceRef
  pub spot : IsSpot f.layout (spot_of source)
  pub after : Option Name
  pub may : MayLookAfter f.tree hand.view source after

module _ {P E O : Type 0} (cargo : Ghosts P E O) (f : Frame O) (hand : Standing cargo f)
    (task : ToLook hand) where
  open hand use {state as s, id, view as v, running as r, at}
  open task use {source, spot, after, may}

  abbrev before : Scene P E
  before = scene f s r.past

  abbrev i : ℕ
  i = index f.layout (spot_of source)

  abbrev word : ℕ
  word = slice_index s.words i

  abbrev mine : View P E
  mine = looking.mine cargo f s source r spot id after v at may

  abbrev views : ℕ → PureView
  views = looking.views cargo f s source r spot id after v at may

  -- the scene with other views
  abbrev beside_views : (ℕ → PureView) → Scene P E
  beside_views w = record before { state = record before.state { view = w } }

  abbrev looked : Scene P E
  looked = beside_views views

  -- the homes stand as they stood, since none reads what a view notes
  homes-still : HomesStand looked
  homes-still =
      let old = r.stands.homes in
      let plain_views : (ℕ → PureView) → ℕ → PureView = λ w h. plain (w h) in
      let aside : HomesStand (beside_views (plain_views before.state.view)) =
      record {
        out = old.out;
        closed = old.closed;
        begun = old.begun;
        above = old.above;
        waiting = old.waiting;
        reported = old.reported;
        resting = old.resting;
        named = old.named;
        met = old.met;
        asked = old.asked;
      } in
      let moved : HomesStand (beside_views (plain_views views)) =
      subst (λ w. HomesStand (beside_views w))
      (λ k h. looking.same-doings cargo f s source r spot id after v at may h k) aside in
      record {
        out = moved.out;
        closed = moved.closed;
        begun = moved.begun;
        above = moved.above;
        waiting = moved.waiting;
        reported = moved.reported;
        resting = moved.resting;
        named = moved.named;
        met = moved.met;
        asked = moved.asked;
      }

  held-still : (e : Held E) → IsHeldSo before e → IsHeldSo looked e
  held-still e so =
      record {
        start = so.start;
        named = so.named;
        told = so.told;
        told_children = so.told_children;
        lot = so.lot;
        phase = so.phase;
        idle = so.idle;
      }

  known-still : (u : View P E) → IsKnown before u → IsKnown looked u
  known-still u k =
      record {
        held = each-map (IsHeldSo before) (IsHeldSo looked) held-still u.held k.held;
        owed = k.owed;
        reported = k.reported;
        noted = k.noted;
        unlooked = k.unlooked;
        seen_after = k.seen_after;
        seen = k.seen;
      }

  -- a source whose word says that a stop is requested has begun to be
  past-source : (t : SourceRef) → source ≡ t → says_requested t word ≡ true → IsPastSource before.state t
  past-source Scope is h = tt
  past-source (Node x) is h =
      let at_x : IsSpot f.layout (OfSource x.block x.node) = subst (λ t. IsSpot f.layout (spot_of t)) is spot in
      let stamped = (and_parts (stamp_of word == x.generation) (source_read word).requested h).0 in
      let old = r.stamped.source x.block x.node at_x.0 at_x.1 in
      let own = subst (λ t. stamp_of (slice_index s.words (index f.layout (spot_of t))) ≤ (before.state.block x.block).generation) (sym is) old in
      subst (λ g. g ≤ (before.state.block x.block).generation) (eqb-true (stamp_of word) x.generation stamped) own

  mine-known : IsKnown before v → IsKnown looked mine
  mine-known k =
      record {
        held = each-map (IsHeldSo before) (IsHeldSo looked) held-still v.held k.held;
        owed = k.owed;
        reported = k.reported;
        noted = k.noted;
        unlooked = unlooked after;
        seen_after = after_place after may;
        seen = either (says_requested source word)
            (λ reads. subst (Each (IsPastSource before.state)) (sym (cond-true (says_requested source word) (source ∷ v.seen) v.seen reads))
            (past-source source refl reads, k.seen))
            (λ unread. subst (Each (IsPastSource before.state)) (sym (cond-false (says_requested source word) (source ∷ v.seen) v.seen unread)) k.seen);
      }
    where
      unlooked : (a : Option Name) → Each (IsPast before.state) (unlooked_now a v.unlooked)
      unlooked None = k.unlooked
      unlooked (Some x) = each-but x (IsPast before.state) v.unlooked k.unlooked

      after_place : (a : Option Name) → MayLookAfter f.tree v source a →
          Each (IsPast before.state) (seen_after_now a (says_requested source word) v.seen_after)
      after_place None m = k.seen_after
      after_place (Some x) m =
          either (says_requested source word)
          (λ reads. subst (Each (IsPast before.state)) (sym (cond-true (says_requested source word) (x ∷ v.seen_after) v.seen_after reads))
          (each-has (IsPast before.state) x v.unlooked m.unlooked k.unlooked, k.seen_after))
          (λ unread. subst (Each (IsPast before.state)) (sym (cond-false (says_requested source word) (x ∷ v.seen_after) v.seen_after unread)) k.seen_after)

  stands-still : Stands cargo f.over.value looked (set s.views id mine)
  stands-still =
      record {
        sound = looking.look-sound cargo f s source r spot id after v at may;
        homes = homes-still;
        starts = record { shows = r.stands.starts.shows; descends = r.stands.starts.descends; key = r.stands.starts.key };
        items = record {
          fit = r.stands.items.fit;
          goes_on = r.stands.items.goes_on;
          rests = r.stands.items.rests;
          bound = r.stands.items.bound;
          ended = r.stands.items.ended;
          delivered = r.stands.items.delivered;
          enough = r.stands.items.enough;
          failures = r.stands.items.failures;
        };
        lots = record { own = r.stands.lots.own; below = r.stands.lots.below };
        views = views-moved before looked s.views id v mine at (λ j u _ _ k. known-still u k)
            (mine-known (r.stands.views.each id v at)) refl refl r.stands.views;
        counts = counts-moved before.state looked.state s.views id v mine at refl refl r.stands.counts;
      }

  pub look-keeps : Running cargo f record { words = set s.words i word; homes = s.homes; views = set s.views id mine }
  look-keeps =
      let there : scene f record { words = s.words; homes = s.homes; views = set s.views id mine } r.past ≡ looked = refl in
      subst (λ ws. Running cargo f record { words = ws; homes = s.homes; views = set s.views id mine }) (sym (set-get_or s.words i 0))
      (record {
        frame = r.frame;
        sized = record {
          words = r.sized.words;
          homes = r.sized.homes;
          seats = subst (λ n. n ≤ f.hands) (sym (length-set s.views id mine)) r.sized.seats;
        };
        stamped = record {
          control = r.stamped.control;
          callback = r.stamped.callback;
          source = r.stamped.source;
          settled = r.stamped.settled;
          quiet = r.stamped.quiet;
          renewed = r.stamped.renewed;
          rises = looked-risen f.layout s.views id v mine at s.words i refl r.stamped.rises;
          scope = r.stamped.scope;
        };
        past = r.past;
        stands = subst (λ z. Stands cargo f.over.value z (set s.views id mine)) (sym there) stands-still;
      })

-- a request that the hand has seen still stands
still-asked : {P E O : Type 0} (cargo : Ghosts P E O) (f : Frame O) (s : table.State (Option P) (View P E)) (source : SourceRef) → Running cargo f s →
    IsSpot f.layout (spot_of source) → (id : ℕ) (v : View P E) → get_elem? s.views id ≡ some v →
    StillAsked v source (says_requested source (slice_index s.words (index f.layout (spot_of source))))
still-asked cargo f s source r spot id v at seen alive =
    let hand : Standing cargo f = record { state = s; id = id; view = v; running = r; at = at } in
    looking.stands-read cargo f s source r spot (seen-stays cargo f hand source seen alive)

-- and so does one of which it was told when it came to hold a node
agrees-told : {P E O : Type 0} (cargo : Ghosts P E O) (f : Frame O) (s : table.State (Option P) (View P E)) (source : SourceRef) → Running cargo f s →
    IsSpot f.layout (spot_of source) → (id : ℕ) (v : View P E) → get_elem? s.views id ≡ some v →
    AgreesWithTold f.tree v source (says_requested source (slice_index s.words (index f.layout (spot_of source))))
agrees-told cargo f s source r spot id v at x e holds =
    let so : IsHeldSo (scene f s r.past) e =
    each-found (IsHeldSo (scene f s r.past)) (λ e. e.name) v.held x e holds (r.stands.views.each id v at).held in
    let name = (found (λ e. e.name) v.held x e holds).name_is in
    let stands : (near : Option SourceRef) → near ≡ Some source →
    option_map_or (λ t. (bits_at (shown f s) t).requested) near false ≡ true →
    says_requested source (slice_index s.words (index f.layout (spot_of source))) ≡ true =
    λ near is asked.
    looking.stands-read cargo f s source r spot
    (ap (λ o. option_map_or (λ t. (bits_at (shown f s) t).requested) o false) (sym is) ∙ asked) in
    record {
      told = λ near told.
          stands (source_for x (nearest f.tree x.node)) near
          (subst (λ z. nearest_is_requested (shown f s) z ≡ true) name (so.told told));
      told_children = λ near told.
          stands (source_for x (given_by f.tree x.node (nearest f.tree x.node))) near
          (subst (λ z. children_are_requested (shown f s) z ≡ true) name (so.told_children told));
    }

-- what the load owes
pub look_allowed : {P E O : Type 0} (cargo : Ghosts P E O) (f : Frame O) (slots id : ℕ) (source : SourceRef) (after : Option Name) (m : Seated P E) →
    IsSpot f.layout (spot_of source) → MayLookAfter f.tree m.0 source after →
    Allows (Running cargo f) slots id m (index f.layout (spot_of source)) (λ n. n)
    (λ n m'. LooksAt f.tree source after (index f.layout (spot_of source)) n m m')
look_allowed cargo f slots id source after m spot may s r deep at small =
    let hand : Standing cargo f = record { state = s; id = id; view = m.0; running = r; at = at } in
    let look : ToLook hand = record {
      source = source;
      spot = spot;
      after = after;
      may = may;
    } in (
      looking.mine cargo f s source r spot id after m.0 at may,
      keeps,
      tt,
      look-keeps cargo f hand look,
      (refl, still-asked cargo f s source r spot id m.0 at, agrees-told cargo f s source r spot id m.0 at),
    )

-- the same by the frame that the table shows
pub look-at : {P E O : Type 0} (cargo : Ghosts P E O) (board f : Frame O) (slots id i : ℕ) (tree : List TreeNode) (source t : SourceRef) (after a : Option Name) (m : Seated P E) →
    board ≡ f → tree ≡ board.tree → i ≡ index board.layout (spot_of source) → t ≡ source → a ≡ after → IsSpot board.layout (spot_of source) →
    MayLookAfter board.tree m.0 source after →
    AllowsListed cargo f slots id m i (λ n. n) (λ n m'. LooksAt tree t a i n m m')
look-at cargo board f slots id i tree source t after a m same tree_is i_is t_is a_is spot may =
    allows-listed cargo f slots id m i (λ n. n) (λ n m'. LooksAt tree t a i n m m')
    (λ n m' told. lists-one i n n m m' (sees t a (says_requested t n) m.0) (ap (λ z. z.0) told.0) refl refl refl refl)
    (subst (λ z. Allows (Running cargo z) slots id m i (λ n. n) (λ n m'. LooksAt tree t a i n m m')) same
    (subst (λ (z : ℕ × List TreeNode × SourceRef × Option Name). Allows (Running cargo board) slots id m z.0 (λ n. n) (λ n m'. LooksAt z.1 z.2 z.3 z.0 n m m'))
    (λ k. (sym i_is k, sym tree_is k, sym t_is k, sym a_is k))
    (look_allowed cargo board slots id source after m spot may)))

-- the hand still carries each slot once
pub look-seated : {P E : Type 0} (tree : List TreeNode) (l : Layout) (source : SourceRef) (after : Option Name) (i n : ℕ) (m : Seated P E) →
    IsSeated tree l m → IsSeated tree l (looks_at source after i n m)
look-seated tree l source after i n m old = record { apart = old.apart; given = old.given; itself = old.itself }
