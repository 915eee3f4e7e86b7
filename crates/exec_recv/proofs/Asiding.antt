-- What calls leave as it was, one after the other.
use Rattle.std.proofs.Common.{◌≡◌, Bool, List, [], ◌∷◌, ◌++◌, append_assoc, refl, sym, ap, ◌∙◌}
use Rattle.life_rules.specs.declared.event.Name.{Name}
use Rattle.life_rules.specs.declared.event.SourceRef.{SourceRef}
use Rattle.listed_words.specs.declared.seen.Seen.{Seen}
use Rattle.table_rules.specs.ShownViews.{has_source_ref}
use Rattle.plan_shape.specs.Blueprint.{Blueprint}
use Rattle.table_steps.specs.Views.{Board}
use Rattle.table_steps.specs.Seats.{Seated}
use Rattle.home_items.specs.declared.entry.Entry.{Entry}
use Rattle.home_items.specs.declared.item.Item.{Item}
use Rattle.exec_recv.specs.Asides.{aside_of, KeepsAside}
use Rattle.exec_recv.specs.Deliveries.{HasStopped, HasTold}

pub aside-here : (m : Seated Item Entry) → KeepsAside m m
aside-here m = record { same = refl; fresh = []; grown = refl; sees = λ source is. is }

pub aside-on : (m between m' : Seated Item Entry) → KeepsAside m between → KeepsAside between m' → KeepsAside m m'
aside-on m between m' first next =
    record {
      same = next.same ∙ first.same;
      fresh = next.fresh ++ first.fresh;
      grown = next.grown ∙ ap (λ (l : List Seen). next.fresh ++ l) first.grown ∙ sym (append_assoc next.fresh first.fresh m.0.steps);
      sees = λ source is. next.sees source (first.sees source is);
    }

-- a step that lists itself, and touches nothing of this
pub aside-one : (step : Seen) (m m' : Seated Item Entry) → aside_of m'.0 ≡ aside_of m.0 → m'.0.steps ≡ step ∷ m.0.steps →
    m'.0.seen ≡ m.0.seen → KeepsAside m m'
aside-one step m m' same steps seen =
    record {
      same = same;
      fresh = step ∷ [];
      grown = steps;
      sees = λ source is. ap (λ (l : List SourceRef). has_source_ref l source) seen ∙ is;
    }

-- a failure was told, or there was none
pub tells-stopped : (board : Board Blueprint) (y : Name) (failed : Bool) (m m' : Seated Item Entry) → HasStopped board y m m' →
    HasTold board y failed m m'
tells-stopped board y failed m m' stopped = record { keeps = stopped.keeps; marks = λ source failed. stopped.marks; acts = stopped.acts }
