-- What a hand has after a step, and after it began a node whose start it owed.
use Rattle.std.proofs.Common.{◌≡◌, ℕ, List, [], ◌∷◌, refl, sym, ap, ◌∙◌}
use Rattle.std.specs.Prelude.{Some, None}
use Rattle.std.proofs.lemmas.Bool.{cond-true, cond-false}
use Rattle.common_lemmas.proofs.Bool.{either}
use Rattle.life_rules.specs.declared.event.Name.{Name}
use Rattle.life_rules.specs.Views.{same}
use Rattle.listed_words.specs.Lists.{entry}
use Rattle.node_tree.specs.Tree.{IsTree}
use Rattle.plan_shape.specs.Blueprint.{Blueprint}
use Rattle.table_rules.specs.declared.view.Held.{Held}
use Rattle.table_rules.specs.declared.view.Owed.{Owed}
use Rattle.table_rules.specs.Named.{find_by, without}
use Rattle.table_steps.specs.Views.{Board, aimed}
use Rattle.table_steps.specs.Begins.{Begins, begun_as, start_shown}
use Rattle.table_steps.specs.Seats.{Seated}
use Rattle.table_steps.specs.Owing.{Owes}
use Rattle.table_steps.specs.Slots.{AreApart, home_at}
use Rattle.op_slot.specs.Tends.{HasPlaces}
use Rattle.op_slot.proofs.Tending.{renewed-same}
use Rattle.home_items.specs.contracts.item.ItemCargo.TheImpl.{ghosts}
use Rattle.home_items.specs.declared.entry.Entry.{Entry}
use Rattle.home_items.specs.declared.item.Item.{Item}
use Rattle.exec_recv.specs.Asides.{KeepsAside}
use Rattle.exec_recv.specs.Beginnings.{OwesNoRoot}
use Rattle.exec_recv.specs.declared.next.Next.{Next}
use Rattle.exec_recv.specs.Nexts.{LetsGo, GoesTo, IsStepped}
use Rattle.exec_recv.specs.Sites.{Does}
use Rattle.exec_recv.proofs.Asiding.{aside-on}
use Rattle.exec_recv.proofs.Begun.{begun-starts, begun-steps}
use Rattle.exec_recv.proofs.Starts.{inner-still}
use Rattle.node_walks.specs.Resting.{IsAtRest, HasOnlyStarts, OwesOnly, CanGoOn}
use Rattle.node_walks.specs.Stepped.{HasStepped}

abbrev at_held : Held Entry → Name
at_held e = e.name

abbrev at_owed : Owed Entry → Name
at_owed e = e.name

no-some : {A : Type 0} (e : A) → None ≡ Some e → ⊥
no-some e is = cc

-- where one entry is all that is held, and the hand holds y, nothing is held besides
alone-in : (h e : Held Entry) (l rest : List (Held Entry)) (y : Name) → l ≡ h ∷ rest → rest ≡ [] → find_by at_held l y ≡ Some e →
    without at_held l y ≡ []
alone-in h e l rest y is none found =
    let all : l ≡ h ∷ [] = is ∙ ap (λ r. h ∷ r) none in
    ap (λ l. without at_held l y) all
    ∙ either (same h.name y) (λ t. cond-true (same h.name y) [] (h ∷ []) t)
    (λ f.
    absurd (no-some e (sym (cond-false (same h.name y) (Some h) None f) ∙ sym (ap (λ l. find_by at_held l y) all) ∙ found)))

-- a node that was stepped is so still later
pub stepped-on : (does : Does) (board : Board Blueprint) (x : Name) (m m1 m' : Seated Item Entry) → HasStepped does board x m m1 →
    KeepsAside m1 m' → HasStepped does board x m m'
stepped-on does board x m m1 m' is more =
    record {
      next = is.next;
      between = is.between;
      did = is.did;
      stepped = is.stepped;
      after = aside-on is.between m1 m' is.after more;
      last = is.last;
      ready = is.ready;
      walks = is.walks;
      since = aside-on is.last m1 m' is.since more;
    }

-- after a step
module _ (board : Board Blueprint) (is_tree : IsTree board.frame.tree) (x : Name) (m m' : Seated Item Entry) (next : Next)
    (go : CanGoOn board x m) (stepped : IsStepped board x m m' next) where
  aside : KeepsAside m m'
  aside = stepped.aside

  inner : OwesNoRoot board m'
  inner = inner-still board x m m' is_tree stepped.owes go.inner

  pub goes-to : (y : Name) → GoesTo board x m m' y → CanGoOn board y m'
  goes-to y goes =
      record {
        can = goes.can;
        alone = alone-in goes.held goes.can.held m'.0.held (without at_held m.0.held x) y goes.holds go.alone goes.can.tends.holds;
        reported = ap (λ a. a.reported) aside.same ∙ go.reported;
        finished = ap (λ a. a.finished) aside.same ∙ go.finished;
        starts = stepped.starts;
        inner = inner;
      }

  pub let-go : LetsGo board x m m' → OwesOnly board m'
  let-go lets =
      record {
        has = record {
          held = lets ∙ go.alone;
          reported = ap (λ a. a.reported) aside.same ∙ go.reported;
          finished = ap (λ a. a.finished) aside.same ∙ go.finished;
          runs = ap (λ a. a.runs) aside.same ∙ go.can.unrun;
          scans = ap (λ a. a.scans) aside.same ∙ go.can.calm;
          starts = stepped.starts;
        };
        inner = inner;
      }

-- a hand that owes nothing either is at rest
pub only-rests : (board : Board Blueprint) (m : Seated Item Entry) → HasOnlyStarts board m → m.0.owed ≡ [] → IsAtRest m.0
only-rests board m has none =
    record {
      held = has.held;
      owed = none;
      reported = has.reported;
      finished = has.finished;
      runs = has.runs;
      scans = has.scans;
    }

-- after it began a node whose start it owed
module _ (board : Board Blueprint) (y : Name) (m m' : Seated Item Entry) (has : HasOnlyStarts board m) (owes : Owes m.0 y)
    (places : HasPlaces board.frame y) (did : Begins ghosts (aimed board.frame y) m m') (apart : AreApart m'.1) where
  middle-is : {A : Type 0} (g : Seated Item Entry → A) →
      ((i read left : ℕ) (z : Seated Item Entry) → g (record z.0 { steps = entry i read left ∷ z.0.steps }, z.1) ≡ g z) →
      g did.middle ≡ g m
  middle-is g keeps = renewed-same board.frame y m did.middle did.renewed g keeps

  abbrev begun : Held Entry
  begun =
      begun_as board.frame.tree y (start_shown ghosts (home_at board.frame.layout did.middle y)) did.began.did.told
      did.began.did.told_children

  pub begun-goes : OwesNoRoot board m' → CanGoOn board y m'
  begun-goes inner =
      let can = begun-steps board y places m m' (has.starts y owes) has.starts did apart has.scans has.runs in
      record {
        can = can;
        alone = alone-in begun can.held m'.0.held did.middle.0.held y (ap (λ (z : Seated Item Entry). z.0.held) did.began.did.me_is)
            (middle-is (λ (z : Seated Item Entry). z.0.held) (λ i read left z. refl) ∙ has.held) can.tends.holds;
        reported = ap (λ (z : Seated Item Entry). z.0.reported) did.began.did.me_is
            ∙ middle-is (λ (z : Seated Item Entry). z.0.reported) (λ i read left z. refl) ∙ has.reported;
        finished = ap (λ (z : Seated Item Entry). z.0.finished) did.began.did.me_is
            ∙ middle-is (λ (z : Seated Item Entry). z.0.finished) (λ i read left z. refl) ∙ has.finished;
        starts = begun-starts board y places m m' (has.starts y owes) has.starts did apart;
        inner = inner;
      }
