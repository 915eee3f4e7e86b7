-- The list of steps only grows, and requests that were seen are seen still.
use Rattle.std.proofs.Common.{◌≡◌, List, [], ◌∷◌, ◌++◌, append_assoc, sym, ap, ◌∙◌}
use Rattle.life_rules.specs.declared.event.SourceRef.{SourceRef}
use Rattle.listed_words.specs.declared.seen.Seen.{Seen}
use Rattle.table_rules.specs.ShownViews.{has_source_ref}
use Rattle.table_steps.specs.Seats.{Seated}
use Rattle.home_items.specs.declared.entry.Entry.{Entry}
use Rattle.home_items.specs.declared.item.Item.{Item}
use Rattle.exec_recv.specs.Asides.{Aside, aside_of, SeesMore, KeepsAside}
use Rattle.node_walks.specs.Leaves.{LeavesAside}

pub record Grows (m m' : Seated Item Entry) : Type 0 where
  pub fresh : List Seen
  pub grown : m'.0.steps ≡ fresh ++ m.0.steps
  pub sees : SeesMore m m'

pub grows-here : (m m' : Seated Item Entry) → m'.0.steps ≡ m.0.steps → m'.0.seen ≡ m.0.seen → Grows m m'
grows-here m m' steps seen =
    record { fresh = []; grown = steps; sees = λ source is. ap (λ (l : List SourceRef). has_source_ref l source) seen ∙ is }

pub grows-one : (step : Seen) (m m' : Seated Item Entry) → m'.0.steps ≡ step ∷ m.0.steps → m'.0.seen ≡ m.0.seen → Grows m m'
grows-one step m m' steps seen =
    record {
      fresh = step ∷ [];
      grown = steps;
      sees = λ source is. ap (λ (l : List SourceRef). has_source_ref l source) seen ∙ is;
    }

pub grows-on : (m between m' : Seated Item Entry) → Grows m between → Grows between m' → Grows m m'
grows-on m between m' first next =
    record {
      fresh = next.fresh ++ first.fresh;
      grown = next.grown ∙ ap (λ (l : List Seen). next.fresh ++ l) first.grown ∙ sym (append_assoc next.fresh first.fresh m.0.steps);
      sees = λ source is. next.sees source (first.sees source is);
    }

pub aside-grows : (m m' : Seated Item Entry) → KeepsAside m m' → Grows m m'
aside-grows m m' aside = record { fresh = aside.fresh; grown = aside.grown; sees = aside.sees }

pub leaves-with : (aside : Aside) (m m' : Seated Item Entry) → aside_of m'.0 ≡ aside → Grows m m' → LeavesAside aside m m'
leaves-with aside m m' is grows = record { is = is; fresh = grows.fresh; grown = grows.grown; sees = grows.sees }

pub leaves-grows : (aside : Aside) (m m' : Seated Item Entry) → LeavesAside aside m m' → Grows m m'
leaves-grows aside m m' leaves = record { fresh = leaves.fresh; grown = leaves.grown; sees = leaves.sees }

-- a call that keeps all aside leaves it as it was
pub aside-leaves : (m m' : Seated Item Entry) → KeepsAside m m' → LeavesAside (aside_of m.0) m m'
aside-leaves m m' aside = record { is = aside.same; fresh = aside.fresh; grown = aside.grown; sees = aside.sees }

-- calls that follow each other
pub leaves-then : (change : Aside → Aside) (aside : Aside) (m between m' : Seated Item Entry) → LeavesAside aside m between →
    LeavesAside (change (aside_of between.0)) between m' → LeavesAside (change aside) m m'
leaves-then change aside m between m' first next =
    leaves-with (change aside) m m' (next.is ∙ ap change first.is)
    (grows-on m between m' (leaves-grows aside m between first) (leaves-grows (change (aside_of between.0)) between m' next))
