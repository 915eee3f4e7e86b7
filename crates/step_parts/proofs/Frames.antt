-- What calls within a step keep, one after the other.
use Rattle.std.proofs.Common.{◌≡◌, inl, inr, ℕ, ◌≤◌, Bool, true, List, ◌∷◌, arith, refl, sym, ap, ◌∙◌, subst}
use Rattle.std.specs.Prelude.{Option, Some, None}
use Rattle.std.proofs.lemmas.Option.{same_Some}
use Rattle.life_rules.specs.declared.event.Name.{Name}
use Rattle.life_rules.specs.declared.event.Resting.{Resting}
use Rattle.node_tree.specs.Tree.{is_child}
use Rattle.plan_shape.specs.Blueprint.{Blueprint}
use Rattle.table_rules.specs.declared.view.Held.{Held}
use Rattle.table_rules.specs.declared.view.Owed.{Owed}
use Rattle.table_rules.specs.Named.{find_by}
use Rattle.table_steps.specs.Views.{Board}
use Rattle.table_steps.specs.Seats.{Seated}
use Rattle.table_steps.specs.Hearings.{HearsAs}
use Rattle.table_steps.specs.Slots.{held_at}
use Rattle.op_slot.specs.Tends.{Tends}
use Rattle.home_items.specs.declared.entry.Entry.{Entry}
use Rattle.home_items.specs.declared.item.Item.{Item}
use Rattle.home_items.specs.Fits.{FitsHome}
use Rattle.home_items.specs.Items.{start_in, GoesOn}
use Rattle.exec_recv.specs.declared.next.Next.{Next}
use Rattle.exec_recv.specs.declared.next.Next.TheVariants.{Go, Rest, InLoop, InPool, Parked}
use Rattle.exec_recv.specs.Family.{AreOwedElsewhere}
use Rattle.exec_recv.specs.Nexts.{LeftAt, OwesNewBelow, IsNext, IsStepped}
use Rattle.exec_recv.specs.Steppable.{IsDoneBelow}
use Rattle.exec_recv.proofs.Asiding.{aside-here, aside-on}
use Rattle.exec_recv.proofs.Fitting.{hears-still}
use Rattle.exec_recv.proofs.Moves.{moves-here, moves-on}
use Rattle.exec_recv.proofs.Starts.{KeepsHomes, owes-as, all-still}
use Rattle.step_parts.specs.Midway.{IsMidway, Ready, KeepsOthers, KeepsReady}

module _ (board : Board Blueprint) (x : Name) where
  pub others-here : (m : Seated Item Entry) → KeepsOthers board x m m
  others-here m = record { aside = aside-here m; moves = moves-here board x m; others = refl; owed = refl }

  pub others-on : (m between m' : Seated Item Entry) → KeepsOthers board x m between → KeepsOthers board x between m' →
      KeepsOthers board x m m'
  others-on m between m' first next =
      record {
        aside = aside-on m between m' first.aside next.aside;
        moves = moves-on board x m between m' first.moves next.moves;
        others = next.others ∙ first.others;
        owed = next.owed ∙ first.owed;
      }

  pub keeps-here : (m : Seated Item Entry) → KeepsReady board x m m
  keeps-here m = record { beside = others-here m; midway = λ start inside least kid is. is; heard = λ h. h }

  pub keeps-on : (m between m' : Seated Item Entry) → KeepsReady board x m between → KeepsReady board x between m' →
      KeepsReady board x m m'
  keeps-on m between m' first next =
      record {
        beside = others-on m between m' first.beside next.beside;
        midway = λ start inside least kid is. next.midway start inside least kid (first.midway start inside least kid is);
        heard = λ h. next.heard (first.heard h);
      }

  -- a step that goes on from there began before
  module _ (m between m' : Seated Item Entry) (first : KeepsOthers board x m between) where
    left-after : (to : Resting) → LeftAt board x between m' to → LeftAt board x m m' to
    left-after to is =
        record {
          lets_go = is.lets_go ∙ first.others;
          read = is.read;
          left = is.left;
          earlier = is.earlier;
          steps_are = is.steps_are;
          says = is.says;
        }

    next-after : (next : Next) → IsNext board x between m' next → IsNext board x m m' next
    next-after (Go n) is =
        record { held = is.held; holds = is.holds ∙ ap (λ (l : List (Held Entry)). is.held ∷ l) first.others; can = is.can }
    next-after Rest is = is ∙ first.others
    next-after InLoop is = left-after _ is
    next-after InPool is = left-after _ is
    next-after Parked is = left-after _ is

    owes-after : OwesNewBelow board x between m' → OwesNewBelow board x m m'
    owes-after new y owes =
        elim (new y owes) [
          | inl before ↦ inl (owes-as m between y first.owed before)
          | inr below ↦ inr below
        ]

    pub stepped-after : (next : Next) → IsStepped board x between m' next → IsStepped board x m m' next
    stepped-after next is =
        record {
          aside = aside-on m between m' first.aside is.aside;
          moves = moves-on board x m between m' first.moves is.moves;
          starts = is.starts;
          owes = owes-after is.owes;
          goes = next-after next is.goes;
        }

-- what a step rests on of the entry with which the hand holds its node
pub record SameEntry (held held' : Held Entry) : Type 0 where
  pub start : held'.start ≡ held.start
  pub named : held'.named ≡ held.named
  pub told : held'.told ≡ held.told
  pub told_children : held'.told_children ≡ held.told_children
  pub lot : held'.lot ≡ held.lot

pub entry-here : (held : Held Entry) → SameEntry held held
entry-here held = record { start = refl; named = refl; told = refl; told_children = refl; lot = refl }

pub done-still : (held held' : Held Entry) (n : ℕ) (done : Item) → SameEntry held held' → IsDoneBelow held n done →
    IsDoneBelow held' n done
done-still held held' n done same is =
    record {
      ends = is.ends;
      fit = subst (λ (b : Bool). FitsHome done n b) (sym same.told_children) is.fit;
      entry = is.entry;
      below = is.below ∙ ap (λ (l : List Entry). is.entry ∷ l) (sym same.start);
      draws = same.lot ∙ is.draws;
    }

-- no start that is owed has its home in the family, as before
pub elsewhere-still : (board : Board Blueprint) (x : Name) (m m' : Seated Item Entry) → m'.0.owed ≡ m.0.owed → AreOwedElsewhere board x m →
    AreOwedElsewhere board x m'
elsewhere-still board x m m' owed_same elsewhere y owed owes =
    elsewhere y owed (ap (λ (l : List (Owed Entry)). find_by (λ (e : Owed Entry). e.name) l y) (sym owed_same) ∙ owes)

-- The homes of x and of its children were changed, by calls that leave the rest: this lies in them now.
module _ (board : Board Blueprint) (x : Name) (m m' : Seated Item Entry) (beside : KeepsOthers board x m m') (homes : KeepsHomes board m m') where
  pub midway-on : (start : List Entry) (least : ℕ) (inside inside' : Item) (kid kid' : ℕ → Option Item) →
      (was : IsMidway board x start inside least kid m) → GoesOn inside' → start_in inside' ≡ start →
      (held : Held Entry) → SameEntry was.held held → Tends board.frame x held (Some inside') kid' m' →
      ((n : ℕ) (done : Item) → is_child board.frame.tree x.node n ≡ true → kid' n ≡ Some done → kid n ≡ Some done) →
      IsMidway board x start inside' least kid' m'
  midway-on start least inside inside' kid kid' was goes_on inside_is held same tends fewer =
      record {
        place = was.place;
        places = was.places;
        calm = ap (λ a. a.scans) beside.aside.same ∙ was.calm;
        unrun = ap (λ a. a.runs) beside.aside.same ∙ was.unrun;
        held = held;
        tends = tends;
        goes_on = goes_on;
        inside_is = inside_is;
        shows = was.shows ∙ sym same.start;
        node = was.node;
        kinds = was.kinds;
        calmly = λ told. was.calmly (sym same.told ∙ told);
        key = was.key;
        hears = subst (λ (b : Bool). HearsAs board.frame.tree m'.0 x b held.told_children) (sym same.told)
            (subst (λ (b : Bool). HearsAs board.frame.tree m'.0 x was.held.told b) (sym same.told_children)
            (hears-still board.frame.tree m.0 m'.0 x was.held.told was.held.told_children (ap (λ a. a.number) beside.aside.same)
            (ap (λ a. a.requested) beside.aside.same) was.hears));
        named = subst (λ n. least ≤ n) (sym same.named) was.named;
        kids = λ n done at full. done-still was.held held n done same (was.kids n done at (fewer n done at full));
        awaited = λ n done at full. subst (λ k. 1 ≤ k) (sym same.named) (was.awaited n done at (fewer n done at full));
        starts = all-still board m m' beside.owed homes beside.aside.sees was.starts;
        elsewhere = elsewhere-still board x m m' beside.owed was.elsewhere;
      }

-- What is said of so many children holds of fewer.
module _ (board : Board Blueprint) (x : Name) (start : List Entry) (inside : Item) (m : Seated Item Entry) where
  -- what is said of the number alone changes
  pub named-so : (least less : ℕ) (kid : ℕ → Option Item) (is : IsMidway board x start inside least kid m) → less ≤ is.held.named →
      IsMidway board x start inside less kid m
  named-so least less kid is few =
      record {
        place = is.place;
        places = is.places;
        calm = is.calm;
        unrun = is.unrun;
        held = is.held;
        tends = is.tends;
        goes_on = is.goes_on;
        inside_is = is.inside_is;
        shows = is.shows;
        node = is.node;
        kinds = is.kinds;
        calmly = is.calmly;
        key = is.key;
        hears = is.hears;
        named = few;
        kids = is.kids;
        awaited = is.awaited;
        starts = is.starts;
        elsewhere = is.elsewhere;
      }

  -- as many as the entry says with which the hand holds x
  pub named-at : (least less : ℕ) (kid : ℕ → Option Item) (held : Held Entry) → held_at m.0 x ≡ Some held → less ≤ held.named →
      IsMidway board x start inside least kid m → IsMidway board x start inside less kid m
  named-at least less kid held holds few is =
      named-so least less kid is
      (subst (λ (h : Held Entry). less ≤ h.named) (same_Some held is.held (sym holds ∙ is.tends.holds)) few)

  pub midway-less : (least less : ℕ) (kid : ℕ → Option Item) → less ≤ least → IsMidway board x start inside least kid m →
      IsMidway board x start inside less kid m
  midway-less least less kid below is = named-so least less kid is (let n = is.named in omega (arith, below, n))

  -- and where each child's home is empty all are
  pub midway-none : (least : ℕ) (kid : ℕ → Option Item) → ((n : ℕ) → is_child board.frame.tree x.node n ≡ true → kid n ≡ None) →
      IsMidway board x start inside least kid m → IsMidway board x start inside least (λ _. None) m
  midway-none least kid none is =
      record {
        place = is.place;
        places = is.places;
        calm = is.calm;
        unrun = is.unrun;
        held = is.held;
        tends = record {
          holds = is.tends.holds;
          own = is.tends.own;
          kids = λ n at. is.tends.kids n at ∙ ap (λ (o : Option Item). Some o) (none n at);
        };
        goes_on = is.goes_on;
        inside_is = is.inside_is;
        shows = is.shows;
        node = is.node;
        kinds = is.kinds;
        calmly = is.calmly;
        key = is.key;
        hears = is.hears;
        named = is.named;
        kids = λ n done at full. cc;
        awaited = λ n done at full. cc;
        starts = is.starts;
        elsewhere = is.elsewhere;
      }

module _ (board : Board Blueprint) (x : Name) (start : List Entry) (m : Seated Item Entry) where
  pub ready-less : (least less : ℕ) → less ≤ least → Ready board x start least m → Ready board x start less m
  ready-less least less below ready =
      record { inside = ready.inside; is = midway-less board x start ready.inside m least less (λ _. None) below ready.is }

  pub ready-start : (least : ℕ) → Ready board x start least m → Ready board x start 0 m
  ready-start least ready = ready-less least 0 (omega arith) ready

  -- as many as the entry says with which the hand holds x
  pub ready-at : (least more : ℕ) (held : Held Entry) → held_at m.0 x ≡ Some held → more ≤ held.named → Ready board x start least m →
      Ready board x start more m
  ready-at least more held holds few ready =
      record { inside = ready.inside; is = named-at board x start ready.inside m least more (λ _. None) held holds few ready.is }
