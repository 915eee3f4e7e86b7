-- A loop that was told of further names is otherwise as before, and meets the names that it was told of.
use Rattle.std.proofs.Common.{◌≡◌, Bool, length, refl, sym, ap, ◌∙◌, subst}
use Rattle.deck_relay.specs.SameDecks.{keeps-here}
use Rattle.plan_shape.specs.Blueprint.{Blueprint}
use Rattle.table_steps.specs.Seats.{Seated}
use Rattle.table_steps.specs.Views.{Board}
use Rattle.home_items.specs.declared.entry.Entry.{Entry}
use Rattle.home_items.specs.declared.item.Item.{Item}
use Rattle.exec_recv.specs.Asides.{KeepsAside}
use Rattle.exec_recv.specs.Sites.{Does}
use Rattle.run_loop.specs.declared.looped.Loop.{Loop as Looped}
use Rattle.run_loop.specs.Loops.{IsReady, KeepsCounts, deck_of, told}
use Rattle.run_loop.specs.Turns.{MeetsFirst, MeetsAll, MeetsEach}
use Rattle.run_loop.proofs.Decked.{longer-here}
use Rattle.run_loop.proofs.Meeting.{longer-on}
use Rattle.record_operations.specs.Drained.{LearnsMore}

-- of no further ones
pub learns-none : (loop : Looped) → LearnsMore loop loop
learns-none loop = record { more = longer-here (told loop); rest = refl; deck = keeps-here (deck_of loop) }

-- a loop of which only the names are others
module _ (board : Board Blueprint) (old new : Looped) (rest : new ≡ record old { names = new.names }) where
  pub named-ready : IsReady board old → IsReady board new
  named-ready ready =
      subst (IsReady board) (sym rest)
      (record { hand = ready.hand; first = ready.first; rests = ready.rests; next = ready.next; delays = ready.delays })

module _ (old between new : Looped) (learns : LearnsMore old between) where
  pub learned-counts : KeepsCounts between new → KeepsCounts old new
  learned-counts counts =
      record {
        helps = counts.helps ∙ ap (λ (l : Looped). l.helps) learns.rest;
        tally = counts.tally ∙ ap (λ (l : Looped). l.tally) learns.rest;
      }

  same-me : between.hand.me ≡ old.hand.me
  same-me = ap (λ (l : Looped). l.hand.me) learns.rest

  pub learned-aside : KeepsAside between.hand.me new.hand.me → KeepsAside old.hand.me new.hand.me
  learned-aside aside = subst (λ (m : Seated Item Entry). KeepsAside m new.hand.me) same-me aside

  pub learned-met : (does : Does) (board : Board Blueprint) → MeetsAll does board between new → MeetsEach does board old new
  learned-met does board met =
      let names = met.names.list.items in
      record {
        names = names;
        longer = longer-on (told old) (told between) names learns.more met.longer;
        meets = record {
          last = met.meets.last;
          each = subst (λ (l : Seated Item Entry × Bool). MeetsFirst does board l.1 names (length names) l.0 met.meets.last)
              (ap (λ (l : Looped). (l.hand.me, l.helps)) learns.rest) met.meets.each;
          after = met.meets.after;
        };
      }
