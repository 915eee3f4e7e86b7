-- What the rule says at a step by which a hand leaves a node that it holds: the hand may, and nobody has
-- anything of the node's children, whose homes it gives back empty.
use Rattle.std.proofs.Common.{◌≡◌, ℕ, ◌+◌, ◌<◌, Bool, true, false, not, List, sym, ap, ◌∙◌, subst, inr, arith}
use Rattle.std.specs.Prelude.{Option, Some, None, is_some}
use Rattle.std.proofs.lemmas.Bool.{and_from, cond-false, le-leb}
use mathlib.Core.Option.{some}
use Rattle.life_rules.specs.declared.words.ControlWord.{ControlWord}
use Rattle.life_rules.specs.declared.event.Name.{Name}
use Rattle.life_rules.specs.declared.event.SourceRef.TheVariants.{Node}
use Rattle.node_tree.specs.Tree.{is_child}
use Rattle.life_rules.specs.Words.{is_held, pending}
use Rattle.life_rules.specs.Views.{View as PureView, beside, is_scanning}
use Rattle.common_lemmas.specs.Sums.{one}
use Rattle.life_rules.specs.States.{State, control_at, stand}
use Rattle.life_rules.specs.LifeSteps.{may_leave_node}
use Rattle.common_lemmas.proofs.Bool.{either}
use Rattle.life_rules.proofs.Readings.{lives}
use Rattle.life_kept.proofs.Puts.{put, IsPut, stays}
use Rattle.life_kept.proofs.Holding.{IsHeld}
use Rattle.life_kept.proofs.Trees.{child-within}
use Rattle.table_words.specs.Layouts.{place_number}
use Rattle.table_rules.specs.declared.cargo.Cargo.{Ghosts}
use Rattle.table_rules.specs.declared.frame.Frame.{Frame}
use Rattle.table_rules.specs.ShownWords.{block_of, is_there}
use Rattle.table_rules.specs.ShownViews.{shown_view}
use Rattle.table_rules.specs.Scenes.{Home, Empty, is_out, is_full, home_in, Past, Scene, shown, scene}
use Rattle.table_steps.specs.Slots.{IsSeated, kept}
use Rattle.table_steps.specs.Rests.{CanLeave}
use Rattle.table_kept.proofs.Standing.{Standing}
use Rattle.table_kept.proofs.HomeMoves.{home_of_place}
use Rattle.table_kept.proofs.WordMoves.{there-place}
use Rattle.table_kept.proofs.HeldNow.{Holding, shows, below, holds-now, held, IsQuietKid, kid-quiet}
use Rattle.table_life_kept.proofs.ShedHomes.{ToShed, shed_homes, shed-far, shed-here}
use Rattle.table_life_kept.proofs.Move.State.{KidMoves, no-seat}

-- what a step is about by which a hand leaves a node that it holds
pub record ToLeave {P E O : Type 0} {cargo : Ghosts P E O} {f : Frame O}
    (hand : Standing cargo f) : Type 0 where
  pub name : Name
  pub carried : List (ℕ × Option P)
  pub seated : IsSeated f.tree f.layout (hand.view, carried)
  pub leave : CanLeave f (hand.view, carried) name

module _ {P E O : Type 0} (cargo : Ghosts P E O) (f : Frame O) (hand : Standing cargo f)
    (task : ToLeave hand) where
  open hand use {state as s, id, view as v, running as r, at}
  open task use {name as x, carried as c, seated, leave}

  abbrev now : State
  now = shown f s

  abbrev here : Scene P E
  here = scene f s r.past

  abbrev holding : Holding hand
  holding = record { name = x; entry = leave.held; holds = leave.holds }

  pub is-held : IsHeld now x
  is-held = held cargo f hand holding

  pub is-below : id < f.hands
  is-below = below cargo f hand holding

  pub shows-old : now.view id ≡ shown_view (block_of f.layout s.words) v
  shows-old = shows cargo f hand holding

  pub may-leave : may_leave_node (now.view id) x ≡ true
  may-leave =
      let holds = holds-now cargo f hand holding in
      let scans : not (is_scanning (now.view id) (Node x)) ≡ true =
      subst (λ (z : PureView). not (is_scanning z (Node x)) ≡ true) (sym shows-old) (ap (λ o. not (is_some o)) leave.unscanned) in
      and_from _ _ (le-leb 1 ((now.view id).holds x) holds) scans

  pub place-b : x.block < f.layout.blocks
  place-b = (lives now x is-held.live).block

  pub place-n : x.node < f.layout.nodes
  place-n = let l = (lives now x is-held.live).node in let e = r.frame.nodes in omega (arith, l, e)

  pub quiet : (n : ℕ) → is_child f.tree x.node n ≡ true → IsQuietKid now x n
  quiet n = kid-quiet cargo f s r x n (ap pending is-held.word)

  -- the homes that the hand gives back, by this test on slots
  module _ (gone : ℕ → Bool) where
    abbrev shedding : ToShed hand
    shedding = record { carried = c; seated = seated; gone = gone }

    abbrev pub home : ℕ → ℕ → Home P
    home = home_of_place f.layout (shed_homes cargo f hand shedding)

    pub home-given : (n : ℕ) (y : Option P) → n < f.layout.nodes → gone (place_number f.layout x.block n) ≡ true →
        kept (place_number f.layout x.block n) c ≡ Some y → home x.block n ≡ home_in (some (some y))
    home-given n y hn goes is = shed-here cargo f hand shedding x.block n y place-b hn goes is

    pub kid-given : (n : ℕ) → is_child f.tree x.node n ≡ true → gone (place_number f.layout x.block n) ≡ true → home x.block n ≡ Empty
    kid-given n child goes =
        home-given n None (let l = child-within f.tree x.node n child in let e = r.frame.nodes in omega (arith, l, e)) goes (leave.kids n child)

    -- a home that isn't given back is as it was
    pub home-still : (j m : ℕ) → (m < f.layout.nodes → gone (place_number f.layout j m) ≡ false) → home j m ≡ here.home j m
    home-still j m stays =
        either (is_there f.layout j m)
        (λ t. shed-far cargo f hand shedding j m (stays (there-place f.layout j m t).1))
        (λ none. cond-false (is_there f.layout j m) _ Empty none ∙ sym (cond-false (is_there f.layout j m) _ Empty none))

  -- a child whose home is given back empty, by a step after which the node isn't held
  pub kid-left : (w : ControlWord) (u : PureView) (p : IsPut now id x w u) (home' : ℕ → ℕ → Home P) (past : Past P E) (n : ℕ) →
      is_child f.tree x.node n ≡ true → is_held w ≡ false → u.starts (beside x n) ≡ (now.view id).starts (beside x n) →
      u.reports (beside x n) ≡ (now.view id).reports (beside x n) → home' x.block n ≡ Empty → KidMoves here id x w u p home' past n
  kid-left w u p home' past n child unheld starts reports empty =
      let q = quiet n child in
      let a : stand (put now id x w u) (λ v. v.starts) (beside x n) ≡ 0 = stays now id x w u p (λ v. v.starts) (beside x n) starts ∙ q.starts in
      let b = q.held in
      let z : one (is_held w) ≡ 0 = ap one unheld in
      let none : is_full (home' x.block n) ≡ false = ap is_full empty in
      record {
        out = ap is_out empty
            ∙ sym (no-seat (stand (put now id x w u) (λ v. v.starts) (beside x n) + one (is_held (control_at now (beside x n))) + one (is_held w)) (omega (arith, a, b, z)));
        keeps = inr (none, q.under_way, stays now id x w u p (λ v. v.reports) (beside x n) reports ∙ q.reports);
        shut = λ _. none;
      }
