use Rattle.std.proofs.Common.{◌≡◌, ◌+◌, ◌*◌, drop}
use Rattle.serde_json.specs.View.{items_view}
use Rattle.plan_reader.specs.Walked.{walk, each, none_listed}
use Rattle.plan_reader.proofs.RootedWalk.{Leads}
use Rattle.plan_reader.proofs.walk.Walk.+walk.Given as goal

abbrev pub decreases-node : goal.decreases-node
decreases-node l = 8 * l.levels

abbrev pub decreases-each : goal.decreases-each
decreases-each l = 8 * l.levels + 1

abbrev pub decreases-list : goal.decreases-list
decreases-list l = 8 * l.levels + 2

abbrev pub decreases-child : goal.decreases-child
decreases-child l = 8 * l.levels + 2

abbrev pub decreases-ahead : goal.decreases-ahead
decreases-ahead l = 8 * l.levels + 3

abbrev pub decreases-when_all : goal.decreases-when_all
decreases-when_all l = 8 * l.levels + 3

abbrev pub decreases-bulk : goal.decreases-bulk
decreases-bulk l = 8 * l.levels + 3

abbrev pub decreases-binding : goal.decreases-binding
decreases-binding l = 8 * l.levels + 3

abbrev pub decreases-adaptor : goal.decreases-adaptor
decreases-adaptor l = 8 * l.levels + 3

abbrev pub decreases-parts : goal.decreases-parts
decreases-parts l = 8 * l.levels + 4

abbrev pub invariant-each-values : goal.invariant-each-values
invariant-each-values l = record {
  so_far : each (walk l.levels) (items_view l.values) (none_listed l.initial.self)
      ≡ each (walk l.levels) (items_view (drop l.value-index l.values))
      (record { walked = l.self; numbers = l.numbers.items });
  leads : Leads l.initial.self l.self l.numbers.items;
}
