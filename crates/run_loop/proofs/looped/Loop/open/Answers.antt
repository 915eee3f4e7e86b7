use Rattle.std.proofs.Common.{◌≡◌, ℕ, zero, suc, length, arith, refl, ap, ◌∙◌}
use Rattle.std.proofs.lemmas.List.{length-replicate}
use Rattle.std.specs.Prelude.{None}
use Rattle.timer_wheel.specs.Delays.{DelayList, delay_at, opened, places}
use Rattle.run_loop.proofs.looped.Loop.open.Goals as goal

-- no delay waits in a list that was opened
none-waits : (n place : ℕ) → delay_at (opened n) place ≡ None
none-waits zero place = refl
none-waits (suc n) zero = refl
none-waits (suc n) (suc place) = none-waits n place

pub returns-clause-opened : goal.returns-clause-opened
returns-clause-opened c =
    let blocks = c.blocks-blocks.ensures.blocks in
    let served = c.in-Ok-with_capacity.ensures.capacity in
    let room = c.in-Ok.ensures.room in
    let list : c.in-Ok-open.delays ≡ opened c.room_of.result = c.in-Ok-open.ensures in
    let count : places c.in-Ok-open.delays ≡ c.room_of.result =
    ap places list ∙ length-replicate c.room_of.result None in
    record {
      hand_is = refl;
      names = c.in-Ok.ensures.empty;
      room = omega (arith, blocks, room);
      served_room = omega (arith, blocks, served);
      next = refl;
      helps = refl;
      tally = c.new.ensures;
      delays = record {
        room = λ some.
            let enough = c.room_of.ensures.all (rw c.deref.ensures.value some) in
            omega (arith, count, enough);
        are = rw c.requires.over.over c.in-Ok-delays_of.ensures;
      };
      waiting = record {
        turn = ap (λ (d : DelayList). d.turn) list;
        none = λ place.
            ap (λ (d : DelayList). delay_at d place) list ∙ none-waits c.room_of.result place;
      };
      deck = c.in-Ok.ensures.deck;
      root = c.in-Ok.ensures.root ∙ c.size-nodes.ensures.size ∙ ap length c.tree.ensures.tree;
    }
