-- The homes after the report of the last child: the parent's and those of its children are out.
use Rattle.std.proofs.Common.{◌≡◌, ℕ, ◌<◌, true, ◌&&◌, ◌||◌, ◌==◌, cond, List, length, set, Option, Some, refl, sym, ap, ◌∙◌, subst, arith}
use Rattle.std.proofs.lemmas.Bool.{and_from, and_parts, cond-true, cond-false, eq-eqb, false_from_ne_true}
use mathlib.Core.Option.{some}
use mathlib.Core.Option as maybe
use lib.ListN.{get_elem?}
use Rattle.common_lemmas.proofs.Bool.{both-same}
use Rattle.life_rules.specs.declared.words.ControlWord.TheVariants.{Busy}
use Rattle.life_rules.specs.declared.event.Name.{Name}
use Rattle.node_tree.specs.Tree.{is_child}
use Rattle.life_rules.specs.States.{State, is_live, control_at}
use Rattle.life_rules.proofs.Readings.{lives}
use Rattle.life_kept.proofs.Trees.{child-within}
use Rattle.table_words.specs.Stamps.{stamp_of}
use Rattle.table_words.specs.Controls.{control_read}
use Rattle.table_words.specs.Layouts.{place_number}
use Rattle.table_words.proofs.Spots.{place-within}
use Rattle.atomic_table.specs.Table.{takes, chain}
use Rattle.atomic_table.specs.Table as table
use Rattle.table_rules.specs.declared.cargo.Cargo.{Ghosts}
use Rattle.table_rules.specs.declared.frame.Frame.{Frame}
use Rattle.table_rules.specs.Named.{Each}
use Rattle.table_rules.specs.ShownWords.{is_there}
use Rattle.table_rules.specs.Scenes.{Home, Out, Empty, Full, is_out, home_in, Scene, shown, scene}
use Rattle.table_rules.specs.Homes.{is_resting}
use Rattle.table_steps.specs.Slots.{kids_of}
use Rattle.table_kept.proofs.Standing.{Standing}
use Rattle.table_kept.proofs.Entries.{each-map}
use Rattle.table_kept.proofs.WordMoves.{place-there}
use Rattle.table_kept.proofs.HomeMoves.{home_of_place, taken}
use Rattle.table_kept.proofs.KidSlots.{kids-below, kids-descend}
use Rattle.table_kept.proofs.BeginSeats.{kids-are}
use Rattle.table_life_kept.proofs.Begin.Runs.{kids-tested}
use Rattle.table_life_kept.proofs.Take.Words.{full-item}
use Rattle.table_life_kept.proofs.Take.Seats.{full-home}
use Rattle.table_life_kept.proofs.LaidSlots.{content_of, take_with, lies-home, deep-laid, laid-out, laid-valid}
use Rattle.table_life_kept.proofs.Report.State.{above, word-is, above-live}
use Rattle.table_life_kept.proofs.Report.LastKids.{LastReport, waits-before, kid-in, content}
use Rattle.table_life_kept.proofs.Move.State.{parent-differs}

-- the word that the last report leaves, and what the hand carries
pub record ToReportLast {P E O : Type 0} {cargo : Ghosts P E O} {f : Frame O}
    (hand : Standing cargo f) : Type 0 where
  pub report : LastReport hand
  pub value : ℕ
  pub carried : List (ℕ × Option P)
  pub stamped : stamp_of value ≡ report.child.generation
  pub reads : control_read value ≡ Busy 0

module _ {P E O : Type 0} (cargo : Ghosts P E O) (f : Frame O) (hand : Standing cargo f)
    (task : ToReportLast hand) where
  open hand use {state as s, id, view as v, running as r, at}
  open task use {report.{child as c, can, last}, value, carried, stamped, reads}

  abbrev pub now : State
  now = shown f s

  abbrev pub here : Scene P E
  here = scene f s r.past

  abbrev pub x : Name
  x = above cargo f hand c can

  pub live-now : is_live now x ≡ true
  live-now = above-live cargo f hand c can

  pub word-now : control_at now x ≡ Busy 1
  word-now = word-is cargo f hand c can ∙ ap Busy last

  pub place-b : x.block < f.layout.blocks
  place-b = (lives now x live-now).block

  pub place-n : x.node < f.layout.nodes
  place-n = let l = (lives now x live-now).node in let e = r.frame.nodes in omega (arith, l, e)

  -- an item lies in the parent's home
  pub lies : (item : P) × (here.home x.block x.node ≡ Full item)
  lies =
      full-item (here.home x.block x.node)
      (r.stands.homes.waiting x (ap (λ b. b || is_resting (control_at now x)) (waits-before cargo f hand task.report)))

  abbrev pub kids : List ℕ
  kids = kids_of f.tree x.node

  abbrev pub slot : ℕ
  slot = place_number f.layout x.block x.node

  abbrev pub inside : ℕ → Option P
  inside = content cargo f hand task.report

  pub kids-within : Each (λ n. n < f.layout.nodes) kids
  kids-within = subst (λ m. Each (λ n. n < m) kids) (sym r.frame.nodes) (kids-below f.tree x.node (length f.tree))

  -- the children's homes are at home
  pub kids-lie : Each (λ n. get_elem? s.homes (place_number f.layout x.block n) ≡ some (some (inside n))) kids
  kids-lie =
      let deep = r.sized.homes in
      each-map (λ n. is_child f.tree x.node n ≡ true) (λ n. get_elem? s.homes (place_number f.layout x.block n) ≡ some (some (inside n)))
      (λ n own.
      let hn : n < f.layout.nodes = (let l = child-within f.tree x.node n own in let e = r.frame.nodes in omega (arith, l, e)) in
      let w = place-within f.layout x.block n place-b hn in
      let home : here.home x.block n ≡ home_in (get_elem? s.homes (place_number f.layout x.block n)) =
      cond-true (is_there f.layout x.block n) (home_in (get_elem? s.homes (place_number f.layout x.block n))) Empty (place-there f.layout x.block n place-b hn) in
      lies-home s.homes (place_number f.layout x.block n) (omega (arith, w, deep))
      (ap is_out (sym home) ∙ kid-in cargo f hand task.report n own)
      ∙ ap (λ h. some (some (content_of h))) (sym home))
      kids (kids-are f.tree x.node (length f.tree))

  abbrev pub after_kids : List (maybe.Option (Option P))
  after_kids = table.homes_after s.homes carried (take_with f.layout x.block inside kids)

  abbrev pub taken_homes : List (maybe.Option (Option P))
  taken_homes = set after_kids slot maybe.none

  abbrev pub home : ℕ → ℕ → Home P
  home = home_of_place f.layout taken_homes

  laid-home : (j m : ℕ) → home_of_place f.layout after_kids j m ≡ cond (j == x.block && is_child f.tree x.node m) Out (here.home j m)
  laid-home j m =
      laid-out f.layout s.homes carried r.sized.homes x.block place-b inside kids kids-within j m
      ∙ ap (λ b. cond (j == x.block && b) Out (here.home j m)) (kids-tested f.tree x.node m)

  pub home-is : (j m : ℕ) → home j m
      ≡ cond (j == x.block && m == x.node) Out (cond (j == x.block && is_child f.tree x.node m) Out (here.home j m))
  home-is j m =
      taken f.layout after_kids (deep-laid f.layout s.homes carried r.sized.homes x.block place-b inside kids) x.block x.node place-b place-n j m
      ∙ ap (cond (j == x.block && m == x.node) Out) (laid-home j m)

  pub own-out : home x.block x.node ≡ Out
  own-out = home-is x.block x.node ∙ cond-true _ Out _ (and_from _ _ (eq-eqb x.block x.block refl) (eq-eqb x.node x.node refl))

  pub kid-out : (n : ℕ) → is_child f.tree x.node n ≡ true → home x.block n ≡ Out
  kid-out n own =
      home-is x.block n
      ∙ ap (cond (x.block == x.block && n == x.node) Out)
      (cond-true (x.block == x.block && is_child f.tree x.node n) Out (here.home x.block n) (and_from _ _ (eq-eqb x.block x.block refl) own))
      ∙ both-same (x.block == x.block && n == x.node) Out

  pub last-valid : table.Valid s.homes carried (chain (take_with f.layout x.block inside kids) (takes slot (Some lies.0)))
  last-valid =
      let still : home_of_place f.layout after_kids x.block x.node ≡ Full lies.0 =
      laid-home x.block x.node
      ∙ cond-false (x.block == x.block && is_child f.tree x.node x.node) Out (here.home x.block x.node)
      (false_from_ne_true (x.block == x.block && is_child f.tree x.node x.node) (λ t.
      parent-differs f.tree r.stands.sound.tree x.node x.node
      (and_parts (x.block == x.block) (is_child f.tree x.node x.node) t).1 refl))
      ∙ lies.1 in (
        laid-valid f.layout s.homes carried r.sized.homes x.block place-b inside kids kids-within (kids-descend f.tree x.node (length f.tree)) kids-lie,
        full-home after_kids slot lies.0
            (sym (cond-true (is_there f.layout x.block x.node) (home_in (get_elem? after_kids slot)) Empty (place-there f.layout x.block x.node place-b place-n)) ∙ still),
      )
