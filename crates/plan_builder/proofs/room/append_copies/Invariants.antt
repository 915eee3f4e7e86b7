use Rattle.std.proofs.Common.{◌≡◌, ◌+◌, ◌≤◌, ◌++◌, replicate, vec_len}
use Rattle.std.specs.Prelude.{vec_capacity}
use Rattle.plan_builder.proofs.room.append_copies.Given as goal

abbrev pub invariant-loop : goal.invariant-loop
invariant-loop g l = record {
  items : l.items.items ≡ l.fn.items.items ++ replicate l.counter l.item;
  length : vec_len l.items ≡ vec_len l.fn.items + l.counter;
  room : vec_capacity l.fn.items ≤ vec_capacity l.items;
}
