-- A failure was told to a node's source, and its callbacks ran: all else is as before.
use Rattle.std.proofs.Common.{◌≡◌, Bool, true, false, ◌||◌, List, [], ◌∷◌, ◌++◌, append_assoc, arith, Option, refl, sym, ap, ◌∙◌}
use Rattle.std.proofs.lemmas.List.Elements.{Contains-append_right}
use Rattle.life_rules.specs.declared.event.Name.{Name}
use Rattle.life_rules.specs.declared.event.SourceRef.TheVariants.{Node}
use Rattle.listed_words.specs.declared.seen.Seen.{Seen}
use Rattle.listed_words.specs.Lists.{entry}
use Rattle.atomic_table.specs.declared.shared.Seat.{Seat}
use Rattle.plan_shape.specs.Blueprint.{Blueprint}
use Rattle.table_words.specs.Layouts.{OfSource, index}
use Rattle.table_rules.specs.declared.view.View.{View}
use Rattle.table_steps.specs.Views.{Board}
use Rattle.table_steps.specs.Seats.{Seated}
use Rattle.stop_calls.specs.declared.requesting.Request.{Request}
use Rattle.stop_calls.specs.Asides.{ComesBack, IsLonger}
use Rattle.stop_calls.specs.Requests.{IsAskedFor}
use Rattle.stop_calls.proofs.Keeping.{longer-seen}
use Rattle.home_items.specs.declared.entry.Entry.{Entry}
use Rattle.home_items.specs.declared.item.Item.{Item}
use Rattle.exec_recv.specs.Actions.{ListsActions}
use Rattle.exec_recv.specs.Asides.{aside_of, KeepsAll}
use Rattle.exec_recv.specs.Deliveries.{HasStopped}

-- what comes back keeps all that stands beside nodes and starts
pub aside-back : (m m' : Seated Item Entry) → ComesBack m m' → aside_of m'.0 ≡ aside_of m.0
aside-back m m' back =
    let a = back.passed.aside in
    λ k. record {
      number = a.number k;
      reported = a.reported k;
      finished = a.finished k;
      noted = a.noted k;
      runs = back.runs k;
      scans = back.scans k;
      made = a.made k;
      making = a.making k;
      refused = a.refused k;
      requested = a.requested k;
      claimed = a.claimed k;
      released = a.released k;
    }

or-right : (b : Bool) → (b || true) ≡ true
or-right true = refl
or-right false = refl

module _ (board : Board Blueprint) (y : Name) (answer : Request) (old new : Seat (Option Item) (View Item Entry)) (asked : IsAskedFor board (Node y) true answer old new)
    (m : Seated Item Entry) (back : ComesBack old.me m) (more : IsLonger new.me.0.steps m.0.steps) (acts : ListsActions board board.frame.over.value (Node y) old.me m) where
  abbrev told : Seen
  told = entry (index board.frame.layout (OfSource y.block y.node)) asked.word asked.left

  abbrev keeps-all : KeepsAll old.me m
  keeps-all =
      record {
        aside = record {
          same = aside-back old.me m back;
          fresh = more.made ++ told ∷ [];
          grown = more.is ∙ ap (λ (l : List Seen). more.made ++ l) (ap (λ (z : Seated Item Entry). z.0.steps) asked.me_is)
              ∙ sym (append_assoc more.made (told ∷ []) old.me.0.steps);
          sees = λ source is. longer-seen source old.me.0.seen m.0.seen back.passed.aside.seen is;
        };
        held = back.passed.held;
        owed = back.passed.aside.owed;
        homes = back.passed.aside.homes;
      }

  pub has-stopped : HasStopped board y old.me m
  has-stopped =
      record {
        keeps = keeps-all;
        marks = record {
          read = asked.word;
          left = asked.left;
          there = Contains-append_right more.made (told ∷ []) told (0, omega arith, refl);
          failed = ap (λ b. b.failed) asked.left_is ∙ or-right _;
          requested = ap (λ b. b.requested) asked.left_is;
        };
        acts = acts;
      }
