use Rattle.std.proofs.Common.{ℕ, ◌+◌, Result, Ok, Err, IsOk, OnOk, refl, ap}
use Rattle.record_loop.proofs.BeginningLaws.{Counted-begins}
use Rattle.record_loop.proofs.in_flight.InFlight.begin_next.Goals as goal

-- what a call answers where it went well
ok_of : {T E P : Type 0} (r : Result T E) → IsOk r → OnOk r P → P
ok_of (Ok v) is holds = holds
ok_of (Err e) is holds = cc

pub returns-clause-begun : goal.returns-clause-begun
returns-clause-begun g c = λ sink opening lines line text kept counted.
    let pushed = ok_of c.try_push_back.result (c.try_push_back.ensures.variant.1 c.requires.room) c.try_push_back.ensures.ok in
    Counted-begins (g.O.Operations.state c.begin-slot.new.operations) _ line c.begin-slot.result c.args.self.now.settings.input _ _ counted c.begin-slot.ensures
    refl (ap (λ (n : ℕ). n + 1) c.count_read.ensures.value) text kept (ap (λ b. b.items) pushed) (ap (λ b. b.capacity) pushed) c.requires.room refl refl refl
