-- The slots that a hand's view gives it are out, and so are none of those that are at home.
use Rattle.std.proofs.Common.{◌≡◌, ◌≢◌, ℕ, ◌<◌, ◌≤◌, Bool, true, false, ◌||◌, ◌==◌, List, [], ◌∷◌, length, refl, sym, ap, ◌∙◌, subst, arith}
use Rattle.std.specs.Prelude.{Option, Some, None, nat_le}
use Rattle.std.specs.List.{list_any}
use Rattle.std.specs.Option.{option_map_or}
use Rattle.std.proofs.lemmas.Bool.{and_parts, and_from, cond-true, both_ways, eqb-true, eq-eqb, lt-ltb}
use Rattle.std.proofs.lemmas.Bool.Decides.{nat_tests}
use mathlib.Core.Option.{some}
use mathlib.Core.Option as maybe
use lib.ListN.{get_elem?}
use Rattle.life_rules.specs.declared.event.Name.{Name}
use Rattle.node_tree.specs.Tree.{is_child, is_root, parent_of}
use Rattle.life_rules.specs.Words.{is_idle, is_done}
use Rattle.life_rules.specs.Views.{beside}
use Rattle.life_rules.specs.States.{State, is_live, control_at, stand}
use Rattle.common_lemmas.proofs.Bool.{either, one-is}
use Rattle.life_rules.proofs.Readings.{lives, is_live-from, begun-live}
use Rattle.life_kept.proofs.Trees.{child-parent, child-within}
use Rattle.life_kept.proofs.Fitting.{held-word, done-word}
use Rattle.table_words.specs.Layouts.{place_number, places_in}
use Rattle.table_words.proofs.Spots.{place-within}
use Rattle.table_rules.specs.declared.cargo.Cargo.{Ghosts}
use Rattle.table_rules.specs.declared.frame.Frame.{Frame}
use Rattle.table_rules.specs.Named.{Each}
use Rattle.table_rules.specs.ShownWords.{is_there}
use Rattle.table_rules.specs.Scenes.{Empty, is_out, home_in, Scene, shown, scene}
use Rattle.table_rules.specs.Homes.{seats_of}
use Rattle.table_steps.specs.Slots.{slot_of, kids_of, is_of_family, has_slot}
use Rattle.table_kept.proofs.Standing.{Standing}
use Rattle.table_kept.proofs.Entries.{each-map, any-some}
use Rattle.table_kept.proofs.Among.{IsAmong, among}
use Rattle.table_kept.proofs.KidSlots.{has-kid}

pub any-numbers : (test : ℕ → Bool) (l : List ℕ) → list_any test l ≡ true →
    (n : ℕ) × (test n ≡ true) × (list_any (λ q. n == q) l ≡ true)
any-numbers test [] h = cc
any-numbers test (m ∷ ms) h =
    either (test m)
    (λ t. (m, t, ap (λ b. b || list_any (λ q. m == q) ms) (eq-eqb m m refl)))
    (λ f.
    let more = any-numbers test ms (ap (λ b. b || list_any test ms) (sym f) ∙ h) in
    (more.0, more.1, or-right (more.0 == m) (list_any (λ q. more.0 == q) ms) more.2))
  where
    or-right : (a b : Bool) → b ≡ true → (a || b) ≡ true
    or-right true b e = refl
    or-right false b e = e

home-at : {P : Type 0} (h : Option P) → is_out (home_in (maybe.some (maybe.some h))) ≡ false
home-at None = refl
home-at (Some item) = refl

module _ {P E O : Type 0} (cargo : Ghosts P E O) (f : Frame O) (hand : Standing cargo f) where
  open hand use {state as s, id, view as v, running as r, at}

  abbrev now : State
  now = shown f s

  abbrev here : Scene P E
  here = scene f s r.past

  mine : IsAmong now v
  mine = among f s id v r.sized.seats at

  -- the slot is that of the home of a live node, which some hand has
  pub record IsTaken (slot : ℕ) : Type 0 where
    pub name : Name
    pub live : is_live now name ≡ true
    pub slot_is : slot_of f.layout name ≡ slot
    pub seats : 1 ≤ seats_of here name

  of-owed : (slot : ℕ) → list_any (λ e. slot_of f.layout e.name == slot) v.owed ≡ true → IsTaken slot
  of-owed slot h =
      let p = any-some (λ e. e.name) (λ e. slot_of f.layout e.name == slot) v.owed h in
      let y = p.entry.name in
      let c = mine.owed y in
      let counts = p.counts in
      let fit = (r.stands.sound.owned.names y).start in
      let some_one : 1 ≤ stand now (λ u. u.starts) y = omega (arith, c, counts) in
      let parts = and_parts (is_live now y) (is_idle (control_at now y)) (one-is (omega (arith, some_one, fit))) in
      record { name = y; live = parts.0; slot_is = eqb-true (slot_of f.layout y) slot p.test_is; seats = omega (arith, some_one) }

  of-held : (slot : ℕ) → list_any (λ e. is_of_family f.tree f.layout e.name slot) v.held ≡ true → IsTaken slot
  of-held slot h =
      let p = any-some (λ e. e.name) (λ e. is_of_family f.tree f.layout e.name slot) v.held h in
      let y = p.entry.name in
      let c = mine.held y in
      let counts = p.counts in
      let fit = (r.stands.sound.owned.names y).held in
      let some_one : 1 ≤ stand now (λ u. u.holds) y = omega (arith, c, counts) in
      let word = held-word (control_at now y) (one-is (omega (arith, some_one, fit))) in
      let live : is_live now y ≡ true = begun-live now y (ap is_idle word) in
      either (slot_of f.layout y == slot)
      (λ t. record { name = y; live = live; slot_is = eqb-true (slot_of f.layout y) slot t; seats = omega (arith, some_one) })
      (λ none.
      let kid = any-numbers (λ n. place_number f.layout y.block n == slot) (kids_of f.tree y.node)
      (ap (λ b. b || list_any (λ n. place_number f.layout y.block n == slot) (kids_of f.tree y.node)) (sym none) ∙ p.test_is) in
      let child : is_child f.tree y.node kid.0 ≡ true =
      (and_parts _ _ (sym (has-kid f.tree y.node (length f.tree) kid.0) ∙ kid.2)).1 in
      let l = lives now y live in
      let above : option_map_or (λ p. stand now (λ u. u.holds) (beside (beside y kid.0) p)) (parent_of f.tree kid.0) 0
      ≡ stand now (λ u. u.holds) y =
      ap (λ o. option_map_or (λ p. stand now (λ u. u.holds) (beside (beside y kid.0) p)) o 0)
      (child-parent f.tree y.node kid.0 child) in
      record {
        name = beside y kid.0;
        live = is_live-from now (beside y kid.0) (record {
          block = l.block;
          node = child-within f.tree y.node kid.0 child;
          is_opened = l.is_opened;
          generation = l.generation;
        });
        slot_is = eqb-true (place_number f.layout y.block kid.0) slot kid.1;
        seats = omega (arith, some_one, above);
      })

  of-finished : (slot : ℕ) → list_any (λ x. slot_of f.layout x == slot) v.finished ≡ true → IsTaken slot
  of-finished slot h =
      let p = any-some (λ e. e) (λ x. slot_of f.layout x == slot) v.finished h in
      let y : Name = p.entry in
      let c = mine.finished y in
      let counts = p.counts in
      let fit = (r.stands.sound.owned.names y).finish in
      let some_one : 1 ≤ stand now (λ u. u.finished) y = omega (arith, c, counts) in
      let parts = and_parts (is_done (control_at now y)) (is_root f.tree y.node) (one-is (omega (arith, some_one, fit))) in
      record {
        name = y;
        live = begun-live now y (ap is_idle (done-word (control_at now y) parts.0));
        slot_is = eqb-true (slot_of f.layout y) slot p.test_is;
        seats = omega (arith, some_one);
      }

  slot-taken : (slot : ℕ) → has_slot f.tree f.layout v slot ≡ true → IsTaken slot
  slot-taken slot h =
      let a = list_any (λ e. slot_of f.layout e.name == slot) v.owed in
      let b = list_any (λ e. is_of_family f.tree f.layout e.name slot) v.held in
      let c = list_any (λ x. slot_of f.layout x == slot) v.finished in
      either a (of-owed slot)
      (λ no_a.
      either b (of-held slot)
      (λ no_b. of-finished slot ((λ k. sym no_a k || (sym no_b k || c)) ∙ h)))

  pub slot-within : (slot : ℕ) → has_slot f.tree f.layout v slot ≡ true → slot < places_in f.layout
  slot-within slot h =
      let t = slot-taken slot h in
      let l = lives now t.name t.live in
      let node = l.node in
      let e = r.frame.nodes in
      let w = place-within f.layout t.name.block t.name.node l.block (omega (arith, node, e)) in
      let is = t.slot_is in
      omega (arith, w, is)

  pub slot-out : (slot : ℕ) → has_slot f.tree f.layout v slot ≡ true → is_out (home_in (get_elem? s.homes slot)) ≡ true
  slot-out slot h =
      let t = slot-taken slot h in
      let y = t.name in
      let l = lives now y t.live in
      let node = l.node in
      let e = r.frame.nodes in
      let hn : y.node < f.layout.nodes = omega (arith, node, e) in
      let there : is_there f.layout y.block y.node ≡ true =
      and_from _ _ (lt-ltb y.block f.layout.blocks l.block) (lt-ltb y.node f.layout.nodes hn) in
      let seats = t.seats in
      let is : nat_le 1 (seats_of here y) ≡ true = grind (arith, nat_tests) in
      let out : is_out (here.home y.block y.node) ≡ true = r.stands.homes.out y t.live ∙ is in
      subst (λ k. is_out (home_in (get_elem? s.homes k)) ≡ true) t.slot_is
      (ap is_out (sym (cond-true (is_there f.layout y.block y.node) (home_in (get_elem? s.homes (slot_of f.layout y))) Empty there)) ∙ out)

  -- a slot that is at home isn't one of the hand's
  pub not-home : (slot j : ℕ) (h : Option P) → get_elem? s.homes j ≡ some (some h) → has_slot f.tree f.layout v slot ≡ true →
      slot ≢ j
  not-home slot j h home has e =
      both_ways (is_out (home_in (get_elem? s.homes slot)))
      (ap (λ k. is_out (home_in (get_elem? s.homes k))) e ∙ ap (λ o. is_out (home_in o)) home ∙ home-at h)
      (slot-out slot has)

  pub apart-home : {A : Type 0} (j : ℕ) (h : Option P) (c : List (ℕ × A)) → get_elem? s.homes j ≡ some (some h) →
      Each (λ d. has_slot f.tree f.layout v d.0 ≡ true) c → Each (λ d. d.0 ≢ j) c
  apart-home j h c home = each-map _ _ (λ d has. not-home d.0 j h home has) c
