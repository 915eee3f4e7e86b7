use Rattle.std.proofs.Common.{◌≡◌, List, [], ◌∷◌, ◌++◌, drop, length, None, slice_get, refl, sym, ap, ◌∙◌, subst, length-drop, arith}
use Rattle.std.proofs.lemmas.Option.{slice_get_within}
use Rattle.circular_buffer.specs.Buffer.{Buffer, buffer}
use Rattle.record_loop.specs.declared.printer.Printer.{Printer}
use Rattle.record_loop.specs.declared.slot.Slot.{Slot}
use Rattle.record_loop.specs.Printing.{Printed}
use Rattle.record_loop.proofs.PrintingLaws.{AtLeast-nil}
use Rattle.record_loop.proofs.StandingLaws.{Standing-hands}
use Rattle.record_loop.proofs.WritingLaws.{Standing-writes, Standing-fails}
use Rattle.record_loop.proofs.in_flight.InFlight.write_next.Goals as goal

-- an empty list has no first element to drop
none-dropped : (slots : List Slot) → None ≡ slice_get slots 0 → drop 1 slots ≡ slots
none-dropped [] is = refl
none-dropped (slot ∷ slots) is = cc

pub returns-in_default-clause-stays : goal.returns-in_default-clause-stays
returns-in_default-clause-stays g c = λ opening lines standing.
    let slots = c.args.self.now.slots in
    Standing-hands (λ outcomes printed. printed) (AtLeast-nil (g.K.Sink.told c.args.out.now).written)
    (c.pop_front.ensures.items ∙ ap (λ (items : List Slot). buffer items slots.capacity) (none-dropped slots.items (sym c.in_default.is ∙ c.pop_front.ensures.value)))
    refl refl standing

pub returns-then-not-failed-clause-stays : goal.returns-then-not-failed-clause-stays
returns-then-not-failed-clause-stays g c = λ opening lines standing.
    let popped = c.pop_front.ensures.items in
    Standing-writes (g.O.Operations.state c.settle-outcome.new.operations) _ _ c.in-Some.slot c.settle-outcome.result standing
    (sym c.pop_front.ensures.value ∙ c.in-Some.is) c.settle-outcome.ensures
    (λ outcomes. c.print.ensures.prints opening.form opening.sink outcomes) c.print.ensures.grows
    (ap (λ (b : Buffer Slot). b.items) popped) (ap (λ (b : Buffer Slot). b.capacity) popped) refl
    (c.is_failure-failed.ensures.no c.if-not-failed.true) refl

pub returns-clause-stays : goal.returns-clause-stays
returns-clause-stays g c = λ opening lines standing.
    let popped = c.pop_front.ensures.items in
    let requested = c.request.ensures.requested in
    let failed = c.is_failure-failed.ensures.yes c.if-not-failed.false in
    let later = g.K.Sink.told c.print.new.out in
    Standing-fails (g.O.Operations.state c.settle-outcome.new.operations) later c.request.new.self c.in-Some.slot c.settle-outcome.result standing
    (sym c.pop_front.ensures.value ∙ c.in-Some.is) c.settle-outcome.ensures
    (λ outcomes printed. subst (λ (p : Printer). Printed opening.form opening.sink later p (outcomes ++ c.settle-outcome.result ∷ [])) (sym requested.printer) (c.print.ensures.prints opening.form opening.sink outcomes printed))
    c.print.ensures.grows
    (ap (λ (b : Buffer Slot). b.items) (requested.slots ∙ popped)) (ap (λ (b : Buffer Slot). b.capacity) (requested.slots ∙ popped)) requested.settings_are
    failed.0 failed.1 c.request.ensures.again c.request.ensures.first requested.requested

-- one record in flight less, and one line more
pub returns-clause-slots : goal.returns-clause-slots
returns-clause-slots g c =
    let items = c.args.self.now.slots.items in
    omega (arith, ap (λ (b : Buffer Slot). length b.items) (c.request.ensures.requested.slots ∙ c.pop_front.ensures.items), length-drop 1 items)

pub returns-clause-read : goal.returns-clause-read
returns-clause-read g c =
    let items = c.args.self.now.slots.items in
    omega (
      arith,
      ap (λ (b : Buffer Slot). length b.items) (c.request.ensures.requested.slots ∙ c.pop_front.ensures.items),
      length-drop 1 items,
      slice_get_within items 0 c.in-Some.slot (sym c.pop_front.ensures.value ∙ c.in-Some.is),
      ap (λ (p : Printer). p.summary.lines) c.request.ensures.requested.printer,
      c.print.ensures.lines,
    )
