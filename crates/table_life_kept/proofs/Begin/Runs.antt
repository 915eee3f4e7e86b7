-- The store by which a node is begun keeps the rule.
use Rattle.std.proofs.Common.{◌≡◌, ℕ, ◌<◌, ◌≤◌, Bool, true, false, ◌&&◌, ◌==◌, nat_lt, cond, List, [], ◌∷◌, length, set, refl, sym, ap, ◌∙◌, subst, arith}
use Rattle.std.specs.Prelude.{Option, Some, None, MatchOption, slice_index}
use Rattle.std.specs.List.{list_any}
use Rattle.std.proofs.lemmas.Bool.{and_from, cond-true, lt-ltb, le-leb}
use mathlib.Core.Option.{some}
use lib.ListN.{get_elem?}
use Rattle.life_rules.specs.Words.{is_done}
use Rattle.life_rules.specs.declared.words.ControlWord.TheVariants.{Idle, Busy}
use Rattle.node_tree.specs.declared.node.TreeNode.{TreeNode}
use Rattle.life_rules.specs.declared.event.Name.{Name}
use Rattle.node_tree.specs.Tree.{is_child, parent_of, has_source}
use Rattle.life_rules.specs.Views.{View as PureView, beside}
use Rattle.life_rules.specs.States.{State}
use Rattle.life_rules.specs.Callbacks.{nearest_is_requested}
use Rattle.life_rules.specs.Sound.{Sound}
use Rattle.common_lemmas.proofs.Bool.{either}
use Rattle.life_rules.proofs.Readings.{lives}
use Rattle.life_kept.proofs.Trees.{child-within}
use Rattle.life_kept.proofs.Puts.{put}
use Rattle.life_kept.proofs.Begin.{sound-begin}
use Rattle.table_words.specs.Stamps.{stamp_of}
use Rattle.table_words.specs.Controls.{control_read}
use Rattle.table_words.specs.Layouts.{OfControl, OfSource, index, place_number}
use Rattle.table_words.proofs.Spots.{place-within}
use Rattle.atomic_table.specs.Table.{Allows, homes_after}
use Rattle.atomic_table.specs.Table as table
use Rattle.listed_words.specs.Lists.{entry}
use Rattle.table_rules.specs.declared.cargo.Cargo.{Ghosts}
use Rattle.table_rules.specs.declared.frame.Frame.{Frame}
use Rattle.table_rules.specs.declared.view.View.{View}
use Rattle.table_rules.specs.declared.view.Owed.{Owed}
use Rattle.table_rules.specs.Named.{count_by, Each}
use Rattle.table_rules.specs.ShownWords.{block_of, word_of, is_there}
use Rattle.table_rules.specs.ShownViews.{shown_view}
use Rattle.table_rules.specs.Scenes.{Out, Empty, home_in, Scene, shown, scene}
use Rattle.table_rules.specs.Notes.{IsOwedSo, children_are_requested}
use Rattle.table_rules.specs.Running.{Stands, Running}
use Rattle.table_steps.specs.Views.{aimed}
use Rattle.table_steps.specs.Claims.{with_step}
use Rattle.table_steps.specs.Seats.{Seated}
use Rattle.table_steps.specs.Lefts.{FindsControl}
use Rattle.table_steps.specs.Slots.{slot_of, kids_of, kept, IsSeated}
use Rattle.table_steps.specs.Begins.{begins, CanBegin, HasRenewed, BeginsAt, start_shown}
use Rattle.table_kept.proofs.Standing.{Standing}
use Rattle.table_kept.proofs.Entries.{each-map, each-both, found, each-found}
use Rattle.table_kept.proofs.Seats.{at_within}
use Rattle.table_kept.proofs.Among.{among}
use Rattle.table_kept.proofs.Loads.{known-listed}
use Rattle.table_kept.proofs.Stamping.{newest-risen}
use Rattle.table_kept.proofs.Counts.{counts-moved}
use Rattle.table_kept.proofs.ViewMoves.{view-here, views-moved}
use Rattle.table_life_kept.proofs.Control.Runs.{ToWriteControl, control-runs}
use Rattle.table_kept.proofs.LiveNames.{place_of, place-live, name-live}
use Rattle.table_kept.proofs.FoundNow.{found-control}
use Rattle.table_kept.proofs.HomeMoves.{home_of_place, empty-home}
use Rattle.table_kept.proofs.KidSlots.{take_each, each-out, each-valid, deep-after, carries, has-kid, kids-below, kids-descend}
use Rattle.table_kept.proofs.SeenStands.{seen-stands}
use Rattle.table_life_kept.proofs.Hearing.{hears-as}
use Rattle.table_kept.proofs.BeginSeats.{kids-are, seated-begun}
use Rattle.table_life_kept.proofs.Begin.State.{MayBegin, beginning, x-live, x-idle}
use Rattle.table_life_kept.proofs.Begin.Homes.{begun_scene, kid-empty, homes-begun}
use Rattle.table_life_kept.proofs.Begin.Items.{starts-begun, items-begun, lots-begun, FitsAbove}
use Rattle.table_life_kept.proofs.Begin.Views.{begins-shown, known-begun, mine-begun}

-- what an owed entry says of the node's parent
owed-above : {P E : Type 0} (s : Scene P E) (e : Owed E) (x : Name) (p : ℕ) → e.name ≡ x → IsOwedSo s e →
    parent_of s.state.tree x.node ≡ Some p → (e.above ≡ s.past.start (beside x p)) × (e.lot ≡ s.past.lot (beside x p))
owed-above {P} {E} s e x p name so is =
    let of : Name → Option ℕ → Type 0 = λ z o.
    MatchOption o ((e.above ≡ []) × (e.lot ≡ []))
    (λ q. (e.above ≡ s.past.start (beside z q)) × (e.lot ≡ s.past.lot (beside z q))) in
    let at : of x (parent_of s.state.tree x.node) = subst (λ z. of z (parent_of s.state.tree z.node)) name so in
    subst (of x) is at

none-and : (b : Bool) → (b && false) ≡ false
none-and true = refl
none-and false = refl

-- a node is in the list of the children where it is a child
pub kids-tested : (tree : List TreeNode) (p m : ℕ) → list_any (λ q. m == q) (kids_of tree p) ≡ is_child tree p m
kids-tested tree p m =
    has-kid tree p (length tree) m
    ∙ either (is_child tree p m)
    (λ t. ap (λ b. b && is_child tree p m) (lt-ltb m (length tree) (child-within tree p m t)))
    (λ n. ap (λ b. nat_lt m (length tree) && b) n ∙ none-and (nat_lt m (length tree)) ∙ sym n)

-- which node is begun, and by which word
pub record ToBegin {P E O : Type 0} {cargo : Ghosts P E O} {f : Frame O}
    (hand : Standing cargo f) : Type 0 where
  pub value : ℕ
  pub name : Name
  pub carried : List (ℕ × Option P)
  pub can : CanBegin cargo f (hand.view, carried) name
  pub renewed : HasRenewed (aimed f name) (hand.view, carried)
  pub stamped : stamp_of value ≡ name.generation
  pub reads : control_read value ≡ Busy 0

module _ {P E O : Type 0} (cargo : Ghosts P E O) (f : Frame O) (hand : Standing cargo f)
    (task : ToBegin hand) where
  open hand use {state as s, id, view as v, running as r, at}
  open task use {value, name as x, carried as c, can, renewed, stamped, reads}

  abbrev now : State
  now = shown f s

  abbrev here : Scene P E
  here = scene f s r.past

  shows : now.view id ≡ shown_view (block_of f.layout s.words) v
  shows = view-here (block_of f.layout s.words) s.views id v at

  entry-found : (can.owed.name ≡ x) × (1 ≤ count_by (λ e. e.name) v.owed x)
  entry-found = let is = found (λ e. e.name) v.owed x can.owed can.owes in (is.name_is, is.counts)

  may : MayBegin now id x
  may =
      record {
        sound = r.stands.sound;
        below = (let l = at_within s.views id v at in let m = r.sized.seats in omega (arith, l, m));
        owes = subst (λ (u : PureView). 1 ≤ u.starts x) (sym shows) entry-found.1;
      }

  abbrev start : List E
  start = start_shown cargo (kept (slot_of f.layout x) c)

  start-is : start ≡ cargo.start can.item
  start-is = ap (start_shown cargo) can.home

  fits : FitsAbove here id x may r.stands.homes start cargo f.over.value
  fits =
      let so = each-found (IsOwedSo here) (λ e. e.name) v.owed x can.owed can.owes (r.stands.views.each id v at).owed in
      record {
        above = λ p is.
            (can.entry, start-is ∙ can.start ∙ ap (λ l. can.entry ∷ l) (owed-above here can.owed x p entry-found.0 so is).0);
        key = ap cargo.key start-is ∙ can.key;
        drawn = λ p is. ap cargo.drawn start-is ∙ can.drawn ∙ (owed-above here can.owed x p entry-found.0 so is).1;
      }

  place-b : x.block < f.layout.blocks
  place-b = (lives now x (x-live now id x may)).block

  abbrev kids : List ℕ
  kids = kids_of f.tree x.node

  kids-within : Each (λ n. n < f.layout.nodes) kids
  kids-within = subst (λ m. Each (λ n. n < m) kids) (sym r.frame.nodes) (kids-below f.tree x.node (length f.tree))

  kid-test : (m : ℕ) → list_any (λ q. m == q) kids ≡ is_child f.tree x.node m
  kid-test = kids-tested f.tree x.node

  kids-empty : Each (λ n. home_of_place f.layout s.homes x.block n ≡ Empty) kids
  kids-empty =
      each-map (λ n. is_child f.tree x.node n ≡ true) (λ n. home_of_place f.layout s.homes x.block n ≡ Empty)
      (λ n child. kid-empty here id x may r.stands.homes start n child) kids (kids-are f.tree x.node (length f.tree))

  sound-now : Sound (put now id x (Busy 0) (beginning x (now.view id)))
  sound-now =
      let live = x-live now id x may in
      let owes = may.owes in
      subst (λ z. Sound (put now id z (Busy 0) (beginning z (now.view id)))) (name-live now x live)
      (sound-begin now id (place_of x) r.stands.sound may.below
      (and_from _ _ (place-live now x live)
      (le-leb 1 _ (subst (λ z. 1 ≤ (now.view id).starts z) (sym (name-live now x live)) owes))))

  abbrev writing : ToWriteControl hand
  writing = record {
    value = value;
    name = x;
    word = Busy 0;
    live = x-live now id x may;
    stamped = stamped;
    reads = reads;
  }

  module _ (told told_kids : Bool) (told_so : told ≡ true → nearest_is_requested now x ≡ true) (kids_so : told_kids ≡ true → children_are_requested now x ≡ true) (n : ℕ) where
    abbrev i : ℕ
    i = index f.layout (OfControl x.block x.node)

    abbrev mine : View P E
    mine = with_step i n value (begins f.tree x start told told_kids v)

    abbrev after : Scene P E
    after = begun_scene here id x may r.stands.homes start

    stands-begun : Stands cargo f.over.value after (set s.views id mine)
    stands-begun =
        record {
          sound = sound-now;
          homes = homes-begun here id x may r.stands.homes start;
          starts = starts-begun here id x may r.stands.homes start cargo f.over.value fits r.stands.starts;
          items = items-begun here id x may r.stands.homes start cargo f.over.value r.stands.items;
          lots = lots-begun here id x may r.stands.homes start cargo f.over.value fits r.stands.lots;
          views = views-moved here after s.views id v mine at
              (λ j u ne e. known-begun here id x may r.stands.homes start u (among f s j u r.sized.seats e))
              (known-listed after i n value (begins f.tree x start told told_kids v)
              (mine-begun here id x may r.stands.homes start v told told_kids told_so kids_so
              (among f s id v r.sized.seats at) (r.stands.views.each id v at)))
              refl refl r.stands.views;
          counts = counts-moved here.state after.state s.views id v mine at refl refl r.stands.counts;
        }

    -- the renewal of the node's source still stands
    renewed-now : has_source f.tree x.node ≡ true → stamp_of (word_of f.layout s.words (OfSource x.block x.node)) ≡ (block_of f.layout s.words x.block).generation
    renewed-now has =
        let did = renewed has in
        let i = index f.layout (OfSource x.block x.node) in
        let l = lives now x (x-live now id x may) in
        let n = l.node in
        let e = r.frame.nodes in
        let risen = newest-risen f.layout s.words s.views id v (entry i did.read did.left) did.earlier at did.steps_are r.stamped.rises
        (OfSource x.block x.node) (l.block, omega (arith, n, e)) refl in
        let least = risen.1.stamp in
        let most = r.stamped.source x.block x.node l.block (omega (arith, n, e)) in
        let stamp = did.says.stamp_is in
        let own = l.generation in
        omega (arith, least, most, stamp, own)

    pub begin-runs : n ≡ slice_index s.words i → Running cargo f record {
      words = set s.words i value;
      homes = homes_after s.homes c (take_each f.layout x.block kids);
      views = set s.views id mine;
    }
    begin-runs was =
        let old = block_of f.layout s.words in
        control-runs cargo f hand writing mine
        (beginning x (now.view id)) (begins-shown old f.tree x start told told_kids v ∙ ap (beginning x) (sym shows))
        (homes_after s.homes c (take_each f.layout x.block kids)) after.home after.past
        (λ j m. each-out f.layout s.homes c r.sized.homes x.block place-b kids kids-within j m
        ∙ ap (λ b. cond (j == x.block && b) Out (home_of_place f.layout s.homes j m)) (kid-test m))
        (ap is_done (x-idle now id x may)) renewed-now (ap (λ k. entry i k value ∷ v.steps) was)
        (deep-after f.layout s.homes c r.sized.homes x.block place-b kids ∙ sym r.sized.homes) stands-begun

  kids-home : Each (λ n. get_elem? s.homes (place_number f.layout x.block n) ≡ some (some None)) kids
  kids-home =
      let deep = r.sized.homes in
      each-map (λ n. (n < f.layout.nodes) × (home_of_place f.layout s.homes x.block n ≡ Empty))
      (λ n. get_elem? s.homes (place_number f.layout x.block n) ≡ some (some None))
      (λ n both.
      let w = place-within f.layout x.block n place-b both.0 in
      let there : is_there f.layout x.block n ≡ true = and_from _ _ (lt-ltb x.block f.layout.blocks place-b) (lt-ltb n f.layout.nodes both.0) in
      empty-home s.homes (place_number f.layout x.block n) (omega (arith, w, deep))
      (sym (cond-true (is_there f.layout x.block n) (home_in (get_elem? s.homes (place_number f.layout x.block n))) Empty there) ∙ both.1))
      kids (each-both (λ n. n < f.layout.nodes) (λ n. home_of_place f.layout s.homes x.block n ≡ Empty) kids kids-within kids-empty)

  -- the store may be made, and tells what it does
  pub begins-now : (w : View P E) × (a : table.Act (Option P)) × table.Valid s.homes c a
      × Running cargo f (table.stepped s (index f.layout (OfControl x.block x.node)) value id c w a)
      × FindsControl (aimed f x) Idle (BeginsAt cargo (aimed f x)) (index f.layout (OfControl x.block x.node))
      (slice_index s.words (index f.layout (OfControl x.block x.node))) value (v, c) (w, table.carried_after c a)
  begins-now =
      let told = nearest_is_requested now x in
      let told_kids = children_are_requested now x in
      let i = index f.layout (OfControl x.block x.node) in
      let n = slice_index s.words i in
      let w : View P E = with_step i n value (begins f.tree x start told told_kids v) in
      let is = carries f.layout s.homes c r.sized.homes x.block place-b kids in (
        w,
        take_each f.layout x.block kids,
        each-valid f.layout s.homes c r.sized.homes x.block place-b kids kids-within
            (kids-descend f.tree x.node (length f.tree)) kids-empty,
        begin-runs told told_kids (λ t. t) (λ t. t) n refl,
        record {
          found = found-control cargo f s r x (x-live now id x may) Idle (x-idle now id x may);
          did = record {
            told = told;
            told_children = told_kids;
            seen = seen-stands cargo f hand x (x-live now id x may);
            hears = hears-as cargo f hand x;
            me_is = λ k. (w, is k);
            seated = λ old. subst (λ d. IsSeated f.tree f.layout (w, d)) (sym is)
                (seated-begun cargo f hand x c start told told_kids i n value (kids-descend f.tree x.node (length f.tree)) kids-within kids-home old);
          };
        },
      )

-- what the store owes
pub begins_allowed : {P E O : Type 0} (cargo : Ghosts P E O) (f : Frame O) (slots id value : ℕ) (x : Name) (m : Seated P E) →
    CanBegin cargo f m x → HasRenewed (aimed f x) m → stamp_of value ≡ x.generation →
    control_read value ≡ Busy 0 →
    Allows (Running cargo f) slots id m (index f.layout (OfControl x.block x.node)) (λ _. value)
    (λ n. FindsControl (aimed f x) Idle (BeginsAt cargo (aimed f x)) (index f.layout (OfControl x.block x.node)) n value m)
begins_allowed cargo f slots id value x m can renewed stamped reads s r deep at small =
    let hand : Standing cargo f = record { state = s; id = id; view = m.0; running = r; at = at } in
    let beginning : ToBegin hand = record {
      value = value;
      name = x;
      carried = m.1;
      can = can;
      renewed = renewed;
      stamped = stamped;
      reads = reads;
    } in
    begins-now cargo f hand beginning
