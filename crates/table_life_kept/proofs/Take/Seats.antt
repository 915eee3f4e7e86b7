-- A hand that takes a node that rests takes its home and its children's, and carries each slot once.
use Rattle.std.proofs.Common.{◌≡◌, ◌≢◌, ℕ, ◌<◌, Bool, true, ◌&&◌, ◌||◌, ◌==◌, cond, List, ◌∷◌, length, Option, Some, None, refl, sym, ap, ◌∙◌, arith}
use Rattle.std.specs.List.{list_any}
use Rattle.std.proofs.lemmas.Bool.{and_from, and_parts, both_ways, cond-true, cond-false, eq-eqb, false_from_ne_true, lt-ltb}
use mathlib.Core.Option.{some}
use mathlib.Core.Option as maybe
use lib.ListN.{get_elem?}
use Rattle.node_tree.specs.Tree.{is_child}
use Rattle.table_words.specs.Layouts.{place_number}
use Rattle.table_words.proofs.Spots.{place-within}
use Rattle.atomic_table.specs.Table.{takes, chain}
use Rattle.atomic_table.specs.Table as table
use Rattle.table_rules.specs.declared.cargo.Cargo.{Ghosts}
use Rattle.table_rules.specs.declared.frame.Frame.{Frame}
use Rattle.table_rules.specs.declared.view.View.{View}
use Rattle.table_rules.specs.Named.{Each}
use Rattle.table_rules.specs.ShownWords.{is_there}
use Rattle.table_rules.specs.Scenes.{Out, Empty, Full, is_full, home_in, Scene, scene}
use Rattle.table_steps.specs.Claims.{with_step}
use Rattle.table_steps.specs.Kids.{empty_slots}
use Rattle.table_steps.specs.Slots.{slot_of, kids_of, is_of_family, has_slot, IsSeated}
use Rattle.table_steps.specs.Takes.{takes_node}
use Rattle.table_kept.proofs.Standing.{Standing}
use Rattle.table_kept.proofs.Entries.{each-map, each-both}
use Rattle.table_kept.proofs.HomeMoves.{home_of_place, empty-home}
use Rattle.table_kept.proofs.KidSlots.{take_each, each-out, each-valid, kids-descend}
use Rattle.table_kept.proofs.SlotsOut.{apart-home}
use Rattle.table_kept.proofs.BeginSeats.{or-left, or-right, or-cases, kids-are, kid-of-family, each-slots, apart-slots}
use Rattle.table_life_kept.proofs.Begin.Runs.{kids-tested}
use Rattle.table_life_kept.proofs.Take.Homes.{ToTake, place-b, place-n, kid-empty, kids-within}

-- a home that is full is at home
pub full-home : {P : Type 0} (homes : List (maybe.Option (Option P))) (i : ℕ) (item : P) → home_in (get_elem? homes i) ≡ Full item →
    get_elem? homes i ≡ some (some (Some item))
full-home {P} homes i item e = of (get_elem? homes i) e
  where
    of : (o : maybe.Option (maybe.Option (Option P))) → home_in o ≡ Full item → o ≡ some (some (Some item))
    of maybe.none e = absurd (both_ways true (ap is_full (sym e)) refl)
    of (maybe.some maybe.none) e = absurd (both_ways true (ap is_full (sym e)) refl)
    of (maybe.some (maybe.some None)) e = absurd (both_ways true (ap is_full (sym e)) refl)
    of (maybe.some (maybe.some (Some other))) e = let same : other ≡ item = cc in ap (λ y. some (some (Some y))) same

module _ {P E O : Type 0} (cargo : Ghosts P E O) (f : Frame O) (hand : Standing cargo f)
    (task : ToTake hand) (item : P)
    (lies : (scene f hand.state hand.running.past).home task.name.block task.name.node ≡ Full item) where
  open hand use {state as s, id, view as v, running as r, at}
  open task use {value, name as x, carried as c, live, may, stamped, reads}

  abbrev here : Scene P E
  here = scene f s r.past

  hb : x.block < f.layout.blocks
  hb = place-b cargo f hand task

  hn : x.node < f.layout.nodes
  hn = place-n cargo f hand task

  abbrev kids : List ℕ
  kids = kids_of f.tree x.node

  abbrev slot : ℕ
  slot = place_number f.layout x.block x.node

  within : Each (λ n. n < f.layout.nodes) kids
  within = kids-within cargo f hand task

  there : (n : ℕ) → n < f.layout.nodes → is_there f.layout x.block n ≡ true
  there n l = and_from _ _ (lt-ltb x.block f.layout.blocks hb) (lt-ltb n f.layout.nodes l)

  own-home : get_elem? s.homes slot ≡ some (some (Some item))
  own-home = full-home s.homes slot item (sym (cond-true (is_there f.layout x.block x.node) (home_in (get_elem? s.homes slot)) Empty (there x.node hn)) ∙ lies)

  kids-empty : Each (λ n. home_of_place f.layout s.homes x.block n ≡ Empty) kids
  kids-empty =
      each-map (λ n. is_child f.tree x.node n ≡ true) (λ n. home_of_place f.layout s.homes x.block n ≡ Empty)
      (λ n child. kid-empty cargo f hand task n child) kids (kids-are f.tree x.node (length f.tree))

  kids-home : Each (λ n. get_elem? s.homes (place_number f.layout x.block n) ≡ some (some None)) kids
  kids-home =
      let deep = r.sized.homes in
      each-map (λ n. (n < f.layout.nodes) × (home_of_place f.layout s.homes x.block n ≡ Empty))
      (λ n. get_elem? s.homes (place_number f.layout x.block n) ≡ some (some None))
      (λ n both.
      let w = place-within f.layout x.block n hb both.0 in
      empty-home s.homes (place_number f.layout x.block n) (omega (arith, w, deep))
      (sym (cond-true (is_there f.layout x.block n) (home_in (get_elem? s.homes (place_number f.layout x.block n))) Empty (there n both.0)) ∙ both.1))
      kids (each-both (λ n. n < f.layout.nodes) (λ n. home_of_place f.layout s.homes x.block n ≡ Empty) kids within kids-empty)

  -- the own home is as it was after the children's were taken
  own-still : home_of_place f.layout (table.homes_after s.homes c (take_each f.layout x.block kids)) x.block x.node ≡ Full item
  own-still =
      each-out f.layout s.homes c r.sized.homes x.block hb kids within x.block x.node
      ∙ ap (λ b. cond (x.block == x.block && b) Out (here.home x.block x.node)) (kids-tested f.tree x.node x.node)
      ∙ cond-false (x.block == x.block && is_child f.tree x.node x.node) Out (here.home x.block x.node)
      (false_from_ne_true (x.block == x.block && is_child f.tree x.node x.node) (λ t.
      let child = (and_parts (x.block == x.block) (is_child f.tree x.node x.node) t).1 in
      let empty = kid-empty cargo f hand task x.node child in
      both_ways (is_full (here.home x.block x.node)) (ap is_full empty) (ap is_full lies)))
      ∙ lies

  pub take-valid : table.Valid s.homes c (chain (take_each f.layout x.block kids) (takes slot (Some item)))
  take-valid =
      let hs = table.homes_after s.homes c (take_each f.layout x.block kids) in (
        each-valid f.layout s.homes c r.sized.homes x.block hb kids within (kids-descend f.tree x.node (length f.tree)) kids-empty,
        full-home hs slot item (sym (cond-true (is_there f.layout x.block x.node) (home_in (get_elem? hs slot)) Empty (there x.node hn)) ∙ own-still),
      )

  module _ (start : List E) (named : ℕ) (told told_kids : Bool) (i n left : ℕ) where
    abbrev mine : View P E
    mine = with_step i n left (takes_node x start named told told_kids v)

    given-still : (d : ℕ) → has_slot f.tree f.layout v d ≡ true → has_slot f.tree f.layout mine d ≡ true
    given-still d h =
        let a = list_any (λ e. slot_of f.layout e.name == d) v.owed in
        let b = list_any (λ e. is_of_family f.tree f.layout e.name d) v.held in
        let z = list_any (λ y. slot_of f.layout y == d) v.finished in
        let own = is_of_family f.tree f.layout x d in
        or-cases a (b || z) h
        (λ owed. or-left a ((own || b) || z) owed)
        (λ more.
        or-right a ((own || b) || z)
        (or-cases b z more (λ held. or-left (own || b) z (or-right own b held)) (λ finished. or-right (own || b) z finished)))

    family : (d : ℕ) → is_of_family f.tree f.layout x d ≡ true → has_slot f.tree f.layout mine d ≡ true
    family d own = or-right _ _ (or-left _ _ (or-left _ _ own))

    pub seated-taken : IsSeated f.tree f.layout (v, c) →
        IsSeated f.tree f.layout (mine, (slot, Some item) ∷ empty_slots f.layout x.block kids c)
    seated-taken old =
        let none = kids-home in
        record {
          apart = (
            each-slots (λ d. d.0 ≢ slot) f.layout x.block kids c
                (each-map (λ m. (m < f.layout.nodes) × (get_elem? s.homes (place_number f.layout x.block m) ≡ some (some None)))
                (λ m. place_number f.layout x.block m ≢ slot)
                (λ m both e. apart-items (place_number f.layout x.block m) both.1 e) kids
                (each-both (λ m. m < f.layout.nodes) (λ m. get_elem? s.homes (place_number f.layout x.block m) ≡ some (some None)) kids within none))
                (apart-home cargo f hand slot (Some item) c own-home old.given),
            apart-slots f.layout x.block kids c (kids-descend f.tree x.node (length f.tree)) within
                (each-map (λ m. get_elem? s.homes (place_number f.layout x.block m) ≡ some (some None))
                (λ m. Each (λ d. d.0 ≢ place_number f.layout x.block m) c)
                (λ m home. apart-home cargo f hand (place_number f.layout x.block m) None c home old.given) kids none)
                old.apart,
          );
          given = (
            family slot (or-left (slot_of f.layout x == slot) _ (eq-eqb slot slot refl)),
            each-slots (λ d. has_slot f.tree f.layout mine d.0 ≡ true) f.layout x.block kids c
                (each-map (λ m. is_child f.tree x.node m ≡ true)
                (λ m. has_slot f.tree f.layout mine (place_number f.layout x.block m) ≡ true)
                (λ m child. family (place_number f.layout x.block m) (kid-of-family f.tree f.layout x m child))
                kids (kids-are f.tree x.node (length f.tree)))
                (each-map (λ d. has_slot f.tree f.layout v d.0 ≡ true) (λ d. has_slot f.tree f.layout mine d.0 ≡ true)
                (λ d. given-still d.0) c old.given),
          );
          itself = old.itself;
        }
      where
        apart-items : (k : ℕ) → get_elem? s.homes k ≡ some (some None) → k ≡ slot → ⊥
        apart-items k empty e =
            both_ways (is_full (home_in (get_elem? s.homes k))) (ap (λ o. is_full (home_in o)) empty)
            (ap (λ j. is_full (home_in (get_elem? s.homes j))) e ∙ ap (λ o. is_full (home_in o)) own-home)
