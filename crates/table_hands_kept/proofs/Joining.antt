-- A hand is joined to another.
use Rattle.std.proofs.Common.{◌≡◌, ℕ, ◌+◌, ◌≤◌, List, length, set, refl, sym, ◌∙◌, subst, arith, length-set}
use mathlib.Core.Option.{some}
use lib.ListN.{get_elem?}
use Rattle.life_rules.specs.States.{State}
use Rattle.table_words.specs.declared.layout.Layout.{Layout}
use Rattle.atomic_table.specs.Table as table
use Rattle.table_rules.specs.declared.cargo.Cargo.{Ghosts}
use Rattle.table_rules.specs.declared.frame.Frame.{Frame}
use Rattle.table_rules.specs.declared.view.View.{View}
use Rattle.table_rules.specs.ShownWords.{block_of}
use Rattle.table_rules.specs.Scenes.{Scene, scene}
use Rattle.table_rules.specs.Notes.{IsKnown, ViewsStand}
use Rattle.table_rules.specs.Counts.{over_all, CountsItself, AreCounted}
use Rattle.table_rules.specs.Grown.{HaveRisen}
use Rattle.table_rules.specs.Running.{Running}
use Rattle.table_steps.specs.Closings.{gathered, spent}
use Rattle.table_kept.proofs.Stamping.{same-risen}
use Rattle.table_kept.proofs.Counts.{over-set, each-set}
use Rattle.table_kept.proofs.Loads.{relisted}
use Rattle.table_kept.proofs.ViewMoves.{view-kept, views-moved}

module _ {P E : Type 0} (vs : List (View P E)) (id other : ℕ) (v w : View P E) (at : get_elem? vs id ≡ some v) (there : get_elem? (set vs id (gathered v w)) other ≡ some w) where
  abbrev once : List (View P E)
  once = set vs id (gathered v w)

  abbrev pub joined : List (View P E)
  joined = set once other (spent w)

  pub as-long : length joined ≡ length vs
  as-long = length-set once other (spent w) ∙ length-set vs id (gathered v w)

  -- one view counts what both counted
  total-same : (f : View P E → ℕ) → f (gathered v w) ≡ f v + f w → f (spent w) ≡ 0 → over_all f joined ≡ over_all f vs
  total-same f both none =
      let first = over-set f vs id v (gathered v w) at in
      let second = over-set f once other w (spent w) there in
      omega (arith, first, second, both, none)

  pub counts-joined : (s : State) → 1 ≤ v.hands → AreCounted s vs → AreCounted s joined
  counts-joined s itself old =
      let claimed = total-same (λ z. z.claimed) refl refl in
      let released = total-same (λ z. z.released) refl refl in
      let hands = total-same (λ z. z.hands) refl refl in
      let opened = old.opened in
      let many = old.hands in
      let long = as-long in
      record {
        opened = omega (arith, claimed, released, opened);
        hands = omega (arith, hands, many, long);
        spent = each-set CountsItself once other (spent w) (λ _. (refl, refl))
            (each-set CountsItself vs id (gathered v w) (λ none. absurd (omega (arith, none, itself))) old.spent);
      }

  -- the lists of their steps stay
  pub risen-joined : (l : Layout) (words : List ℕ) → HaveRisen l words vs → HaveRisen l words joined
  risen-joined l words all =
      same-risen l once other w (spent w) there words refl (same-risen l vs id v (gathered v w) at words refl all)

  known-same : (t : Scene P E) (a b : View P E) → b ≡ record a { claimed = b.claimed; released = b.released; hands = b.hands; joined = b.joined } →
      IsKnown t a → IsKnown t b
  known-same t a b same k =
      subst (IsKnown t) (sym same)
      (record {
        held = k.held;
        owed = k.owed;
        reported = k.reported;
        noted = k.noted;
        unlooked = k.unlooked;
        seen_after = k.seen_after;
        seen = k.seen;
      })

  -- what the hands know they still know
  pub views-joined : (t : Scene P E) → ViewsStand t vs → ViewsStand t joined
  views-joined t old =
      let first = views-moved t t vs id v (gathered v w) at (λ j u _ _ k. k)
      (known-same t v (gathered v w) refl (old.each id v at)) refl refl old in
      views-moved t t once other w (spent w) there (λ j u _ _ k. k)
      (known-same t w (spent w) refl (first.each other w there)) refl refl first

-- the hand takes in what the other counted
pub joins : {P E O : Type 0} (cargo : Ghosts P E O) (f : Frame O) (id other : ℕ) (v w : View P E) → 1 ≤ v.hands →
    table.Joins (Running cargo f) id v other w (gathered v w) (spent w)
joins cargo f id other v w itself s r at apart there =
    let blocks = block_of f.layout s.words in
    let now = scene f s r.past in
    let once = set s.views id (gathered v w) in
    let long = as-long s.views id other v w at there in
    let seats = r.sized.seats in
    relisted cargo f s (joined s.views id other v w at there) r
    (λ h. view-kept blocks once other w (spent w) there refl h ∙ view-kept blocks s.views id v (gathered v w) at refl h)
    (omega (arith, long, seats)) (views-joined s.views id other v w at there now r.stands.views)
    (counts-joined s.views id other v w at there now.state itself r.stands.counts)
    (risen-joined s.views id other v w at there f.layout s.words r.stamped.rises)
