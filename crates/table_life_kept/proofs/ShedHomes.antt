-- The homes of a table after a hand gave some of its slots back.
use Rattle.std.proofs.Common.{◌≡◌, ℕ, ◌<◌, Bool, true, false, ◌&&◌, ◌==◌, cond, List, [], ◌∷◌, length, refl, sym, ap, ◌∙◌, subst, arith}
use Rattle.std.specs.Prelude.{Option, Some, None}
use Rattle.std.specs.List.{list_any}
use Rattle.std.proofs.lemmas.Bool.{and_parts, and_from, both_ways, cond-true, cond-false, eqb-true, eq-eqb, false_from_ne_true, lt-ltb}
use Rattle.std.proofs.lemmas.Nat.{same_from_place}
use mathlib.Core.Option.{some}
use mathlib.Core.Option as maybe
use lib.ListN.{get_elem?}
use Rattle.node_tree.specs.declared.node.TreeNode.{TreeNode}
use Rattle.life_rules.specs.declared.event.Name.{Name}
use Rattle.node_tree.specs.Tree.{is_child}
use Rattle.common_lemmas.proofs.Bool.{either}
use Rattle.life_kept.proofs.Trees.{child-within}
use Rattle.table_words.specs.declared.layout.Layout.{Layout}
use Rattle.table_words.specs.Layouts.{place_number}
use Rattle.atomic_table.specs.Table.{homes_after}
use Rattle.atomic_table.specs.Table as table
use Rattle.table_rules.specs.declared.cargo.Cargo.{Ghosts}
use Rattle.table_rules.specs.declared.frame.Frame.{Frame}
use Rattle.table_rules.specs.Named.{Each}
use Rattle.table_rules.specs.ShownWords.{is_there}
use Rattle.table_rules.specs.Scenes.{Home, Out, Empty, Full, is_out, home_in}
use Rattle.table_steps.specs.Slots.{slot_of, kids_of, is_of_family, has_slot, kept, IsSeated}
use Rattle.table_kept.proofs.Standing.{Standing}
use Rattle.table_kept.proofs.Entries.{each-map}
use Rattle.table_kept.proofs.HomeMoves.{home_of_place}
use Rattle.table_kept.proofs.KidSlots.{has-kid}
use Rattle.table_kept.proofs.SlotsOut.{any-numbers, slot-within, slot-out}
use Rattle.table_kept.proofs.BeginSeats.{or-cases}
use Rattle.table_life_kept.proofs.Shedding.{sheds, shed_home, shed-at, shed-valid}

-- a slot of the node's family is that of the node or of a child
pub not-family : (tree : List TreeNode) (l : Layout) (x : Name) (j m : ℕ) → length tree ≡ l.nodes → x.node < l.nodes → m < l.nodes →
    (j == x.block && m == x.node) ≡ false → (j == x.block && is_child tree x.node m) ≡ false →
    is_of_family tree l x (place_number l j m) ≡ false
not-family tree l x j m nodes hx hm own kid =
    false_from_ne_true (is_of_family tree l x (place_number l j m)) (λ t.
    or-cases (slot_of l x == place_number l j m) (list_any (λ n. place_number l x.block n == place_number l j m) (kids_of tree x.node)) t
    (λ here.
    let is = same_from_place x.block x.node j m l.nodes hx hm (eqb-true (slot_of l x) (place_number l j m) here) in
    both_ways (j == x.block && m == x.node) own (and_from _ _ (eq-eqb j x.block (sym is.0)) (eq-eqb m x.node (sym is.1))))
    (λ there.
    let n = any-numbers (λ n. place_number l x.block n == place_number l j m) (kids_of tree x.node) there in
    let child : is_child tree x.node n.0 ≡ true = (and_parts _ _ (sym (has-kid tree x.node (length tree) n.0) ∙ n.2)).1 in
    let below = child-within tree x.node n.0 child in
    let is = same_from_place x.block n.0 j m l.nodes (omega (arith, below, nodes)) hm
    (eqb-true (place_number l x.block n.0) (place_number l j m) n.1) in
    both_ways (j == x.block && is_child tree x.node m) kid
    (and_from _ _ (eq-eqb j x.block (sym is.0)) (subst (λ k. is_child tree x.node k ≡ true) is.1 child))))

-- what holds of each carried slot holds of one that is found
pub kept-each : {S : Type 0} (Q : ℕ → Type 0) (slot : ℕ) (y : S) (c : List (ℕ × S)) → Each (λ d. Q d.0) c →
    kept slot c ≡ Some y → Q slot
kept-each Q slot y [] all is = cc
kept-each Q slot y (d ∷ ds) all is =
    either (d.0 == slot)
    (λ t. subst Q (eqb-true d.0 slot t) all.0)
    (λ f. kept-each Q slot y ds all.1 (sym (cond-false (d.0 == slot) (Some d.1) (kept slot ds) f) ∙ is))

pub out-is : {P : Type 0} (h : Home P) → is_out h ≡ true → h ≡ Out
out-is Out e = refl
out-is Empty e = cc
out-is (Full item) e = cc

-- what a hand carries, and which slots of it are given back
pub record ToShed {P E O : Type 0} {cargo : Ghosts P E O} {f : Frame O}
    (hand : Standing cargo f) : Type 0 where
  pub carried : List (ℕ × Option P)
  pub seated : IsSeated f.tree f.layout (hand.view, carried)
  pub gone : ℕ → Bool

module _ {P E O : Type 0} (cargo : Ghosts P E O) (f : Frame O) (hand : Standing cargo f)
    (task : ToShed hand) where
  open hand use {state as s, id, view as v, running as r, at}
  open task use {carried as c, seated, gone}

  abbrev pub shed_homes : List (maybe.Option (Option P))
  shed_homes = homes_after s.homes c (sheds gone c)

  pub carried-within : Each (λ d. d.0 < length s.homes) c
  carried-within =
      let deep = r.sized.homes in
      each-map (λ d. has_slot f.tree f.layout v d.0 ≡ true) (λ d. d.0 < length s.homes)
      (λ d has. let l = slot-within cargo f hand d.0 has in omega (arith, l, deep)) c seated.given

  pub valid-shed : table.Valid s.homes c (sheds gone c)
  valid-shed = shed-valid gone s.homes c seated.apart carried-within

  at-slot : (k : ℕ) → get_elem? shed_homes k ≡ shed_home (gone k) (kept k c) (get_elem? s.homes k)
  at-slot = shed-at gone s.homes c seated.apart carried-within

  -- a home that isn't given back is as it was
  pub shed-far : (j m : ℕ) → gone (place_number f.layout j m) ≡ false →
      home_of_place f.layout shed_homes j m ≡ home_of_place f.layout s.homes j m
  shed-far j m stays =
      let k = place_number f.layout j m in
      ap (λ h. cond (is_there f.layout j m) h Empty)
      (ap home_in (at-slot k) ∙ ap (λ b. home_in (shed_home b (kept k c) (get_elem? s.homes k))) stays ∙ far-by k (kept k c) refl)
    where
      far-by : (k : ℕ) (o : Option (Option P)) → kept k c ≡ o →
          home_in (shed_home false o (get_elem? s.homes k)) ≡ home_in (get_elem? s.homes k)
      far-by k None is = refl
      far-by k (Some y) is =
          sym (out-is (home_in (get_elem? s.homes k))
          (slot-out cargo f hand k (kept-each (λ slot. has_slot f.tree f.layout v slot ≡ true) k y c seated.given is)))

  -- and one that is given back has what the hand carried
  pub shed-here : (j m : ℕ) (y : Option P) → j < f.layout.blocks → m < f.layout.nodes → gone (place_number f.layout j m) ≡ true →
      kept (place_number f.layout j m) c ≡ Some y → home_of_place f.layout shed_homes j m ≡ home_in (some (some y))
  shed-here j m y hj hm goes is =
      let k = place_number f.layout j m in
      cond-true (is_there f.layout j m) (home_in (get_elem? shed_homes k)) Empty
      (and_from _ _ (lt-ltb j f.layout.blocks hj) (lt-ltb m f.layout.nodes hm))
      ∙ ap home_in (at-slot k) ∙ (λ i. home_in (shed_home (goes i) (is i) (get_elem? s.homes k)))
