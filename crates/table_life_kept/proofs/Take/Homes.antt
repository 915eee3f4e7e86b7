-- The homes after a node at rest is taken: its own and those of its children are out.
use Rattle.std.proofs.Common.{◌≡◌, ℕ, ◌<◌, Bool, true, false, ◌&&◌, ◌||◌, ◌==◌, cond, List, length, set, refl, sym, ap, ◌∙◌, subst, arith}
use Rattle.std.specs.Prelude.{Option}
use Rattle.std.specs.Option.{option_map_or}
use Rattle.std.proofs.lemmas.Bool.{and_from, both_ways, cond-true, eq-eqb, false_from_ne_true}
use mathlib.Core.Option as maybe
use Rattle.common_lemmas.proofs.Bool.{both-same}
use Rattle.life_rules.specs.declared.words.ControlWord.TheVariants.{Busy}
use Rattle.life_rules.specs.declared.event.Name.{Name}
use Rattle.node_tree.specs.Tree.{is_child, is_root, parent_of}
use Rattle.life_rules.specs.Words.{is_done, may_be_taken}
use Rattle.life_rules.specs.Views.{beside}
use Rattle.common_lemmas.specs.Sums.{one}
use Rattle.life_rules.specs.States.{State, is_live, control_at, stand}
use Rattle.life_rules.proofs.Readings.{lives, is_live-from}
use Rattle.life_kept.proofs.Trees.{child-parent, child-within, root-orphan}
use Rattle.table_words.specs.Stamps.{stamp_of}
use Rattle.table_words.specs.Controls.{control_read}
use Rattle.table_words.specs.Layouts.{place_number}
use Rattle.atomic_table.specs.Table as table
use Rattle.table_rules.specs.declared.cargo.Cargo.{Ghosts}
use Rattle.table_rules.specs.declared.frame.Frame.{Frame}
use Rattle.table_rules.specs.Named.{Each}
use Rattle.table_rules.specs.Scenes.{Home, Out, Empty, Full, Scene, shown, scene}
use Rattle.table_rules.specs.Homes.{is_waiting, seats_of}
use Rattle.table_steps.specs.Slots.{kids_of}
use Rattle.table_kept.proofs.Standing.{Standing}
use Rattle.table_kept.proofs.HomeMoves.{home_of_place, taken}
use Rattle.table_kept.proofs.KidSlots.{take_each, each-out, deep-after, kids-below}
use Rattle.table_life_kept.proofs.Begin.State.{empty-from}
use Rattle.table_life_kept.proofs.Begin.Runs.{kids-tested}
use Rattle.table_kept.proofs.HeldNow.{IsQuietKid, kid-quiet}
use Rattle.table_life_kept.proofs.Move.State.{no-seat}
use Rattle.table_life_kept.proofs.Take.Words.{IsTakeable, full-item, takeable}

-- which node at rest is taken, and by which word
pub record ToTake {P E O : Type 0} {cargo : Ghosts P E O} {f : Frame O}
    (hand : Standing cargo f) : Type 0 where
  pub value : ℕ
  pub name : Name
  pub carried : List (ℕ × Option P)
  pub live : is_live (shown f hand.state) name ≡ true
  pub may : may_be_taken (control_at (shown f hand.state) name) hand.id ≡ true
  pub stamped : stamp_of value ≡ name.generation
  pub reads : control_read value ≡ Busy 0

module _ {P E O : Type 0} (cargo : Ghosts P E O) (f : Frame O) (hand : Standing cargo f)
    (task : ToTake hand) where
  open hand use {state as s, id, view as v, running as r, at}
  open task use {value, name as x, carried as c, live, may, stamped, reads}

  abbrev pub now : State
  now = shown f s

  abbrev pub here : Scene P E
  here = scene f s r.past

  pub word : IsTakeable (control_at now x)
  word = takeable (control_at now x) id may

  pub place-b : x.block < f.layout.blocks
  place-b = (lives now x live).block

  pub place-n : x.node < f.layout.nodes
  place-n = let l = (lives now x live).node in let e = r.frame.nodes in omega (arith, l, e)

  -- an item lies in the node's home
  pub lies : (item : P) × (here.home x.block x.node ≡ Full item)
  lies = full-item (here.home x.block x.node) (r.stands.homes.waiting x (ap (λ b. is_waiting (control_at now x) || b) word.rests ∙ or-true (is_waiting (control_at now x))))
    where
      or-true : (a : Bool) → (a || true) ≡ true
      or-true true = refl
      or-true false = refl

  pub quiet : (n : ℕ) → is_child f.tree x.node n ≡ true → IsQuietKid now x n
  quiet n = kid-quiet cargo f s r x n word.none

  -- the homes of its children are at home, and empty
  pub kid-empty : (n : ℕ) → is_child f.tree x.node n ≡ true → here.home x.block n ≡ Empty
  kid-empty n child =
      let y = beside x n in
      let l = lives now x live in
      let there : is_live now y ≡ true =
      is_live-from now y (record {
        block = l.block;
        node = child-within f.tree x.node n child;
        is_opened = l.is_opened;
        generation = l.generation;
      }) in
      let q = quiet n child in
      let own = r.stands.sound.owned.names y in
      let root : is_root f.tree n ≡ false =
      false_from_ne_true (is_root f.tree n) (λ t.
      both_ways (is_child f.tree x.node n)
      (root-orphan f.tree r.stands.sound.tree x.node n (child-within f.tree x.node n child) t) child) in
      let starts = q.starts in
      let holds = own.held ∙ q.held in
      let finished = own.finish ∙ ap (λ b. one (is_done (control_at now y) && b)) root ∙ ap one (and-none (is_done (control_at now y))) in
      let above : option_map_or (λ p. stand now (λ u. u.holds) (beside y p)) (parent_of f.tree n) 0 ≡ 0 =
      ap (λ o. option_map_or (λ p. stand now (λ u. u.holds) (beside y p)) o 0) (child-parent f.tree x.node n child)
      ∙ (r.stands.sound.owned.names x).held ∙ ap one word.held in
      let seats : seats_of here y ≡ 0 = omega (arith, starts, holds, finished, above) in
      empty-from (here.home x.block n) (r.stands.homes.out y there ∙ no-seat (seats_of here y) seats)
      (r.stands.homes.resting x n word.rests child)
    where
      and-none : (a : Bool) → (a && false) ≡ false
      and-none true = refl
      and-none false = refl

  abbrev pub kids : List ℕ
  kids = kids_of f.tree x.node

  pub kids-within : Each (λ n. n < f.layout.nodes) kids
  kids-within = subst (λ m. Each (λ n. n < m) kids) (sym r.frame.nodes) (kids-below f.tree x.node (length f.tree))

  abbrev pub slot : ℕ
  slot = place_number f.layout x.block x.node

  abbrev pub taken_homes : List (maybe.Option (Option P))
  taken_homes = set (table.homes_after s.homes c (take_each f.layout x.block kids)) slot maybe.none

  abbrev pub home : ℕ → ℕ → Home P
  home = home_of_place f.layout taken_homes

  pub home-is : (j m : ℕ) → home j m
      ≡ cond (j == x.block && m == x.node) Out (cond (j == x.block && is_child f.tree x.node m) Out (here.home j m))
  home-is j m =
      taken f.layout (table.homes_after s.homes c (take_each f.layout x.block kids))
      (deep-after f.layout s.homes c r.sized.homes x.block place-b kids) x.block x.node place-b place-n j m
      ∙ ap (cond (j == x.block && m == x.node) Out)
      (each-out f.layout s.homes c r.sized.homes x.block place-b kids kids-within j m
      ∙ ap (λ b. cond (j == x.block && b) Out (here.home j m)) (kids-tested f.tree x.node m))

  pub own-out : home x.block x.node ≡ Out
  own-out = home-is x.block x.node ∙ cond-true _ Out _ (and_from _ _ (eq-eqb x.block x.block refl) (eq-eqb x.node x.node refl))

  pub kid-out : (n : ℕ) → is_child f.tree x.node n ≡ true → home x.block n ≡ Out
  kid-out n child =
      home-is x.block n
      ∙ ap (cond (x.block == x.block && n == x.node) Out)
      (cond-true (x.block == x.block && is_child f.tree x.node n) Out (here.home x.block n) (and_from _ _ (eq-eqb x.block x.block refl) child))
      ∙ both-same (x.block == x.block && n == x.node) Out
