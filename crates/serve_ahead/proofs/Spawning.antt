-- The start of the operation that an `ahead`'s first child runs as.
use Rattle.std.proofs.Common.{◌≡◌, ℕ, ◌+◌, ◌-◌, ◌≤◌, Bool, true, List, [], ◌∷◌, length, inl, inr, Option, Some, None, refl, sym, ap, ◌∙◌, subst, arith}
use Rattle.std.proofs.lemmas.Option.{same_Some, slice_get_within}
use Rattle.exec_value.specs.declared.data.Datum.{Datum}
use Rattle.plan_rules.specs.declared.node.Node.TheVariants.{Ahead}
use Rattle.plan_shape.specs.Blueprint.{Blueprint}
use Rattle.plan_kinds.specs.TreeLaws.{IsSpawned}
use Rattle.table_steps.specs.Views.{Board}
use Rattle.home_items.specs.declared.entry.Entry.{Entry}
use Rattle.home_items.specs.Entries.{plan_of, node_of, args_of, record_start}
use Rattle.home_items.specs.HasKinds.{HasKinds}
use Rattle.home_items.specs.Parcels.{Delivery}
use Rattle.home_items.specs.Starts.{IsReceiverStart}
use Rattle.home_items.proofs.Beginning.{spawned-kinds}
use Rattle.exec_recv.specs.Seats.{HandSeat}
use Rattle.exec_recv.specs.Sites.{plan_at}
use Rattle.start_laws.proofs.Pairs.{start-kinds}
use Rattle.step_parts.specs.Stepping.{Stepping}
use Rattle.node_walks.specs.Starts.{CanRun}
use Rattle.serve_ahead.specs.declared.taking.AheadAt.{AheadAt}
use Rattle.serve_ahead.specs.Spawned.{spawned_start}
use Rattle.serve_ahead.specs.Takes.{HasAtHand, IsAheadIn}
use Rattle.serve_ahead.proofs.AtHand.{of}

-- the first child of an `ahead` is spawned
pub first-spawned : (board : Board Blueprint) (at : AheadAt) → IsAheadIn board at → IsSpawned (plan_at board).nodes at.first
first-spawned board at ahead = record { ahead = at.name.node; second = at.second; node = ahead }

-- where a plan has a node, a record's start is one of its receiver node
pub record-receiver : (plan : Blueprint) (args : List Datum) (number : ℕ) (asked : Bool) (first : ℕ) → IsSpawned plan.nodes first →
    IsReceiverStart (record_start plan args number asked)
record-receiver plan args number asked first spawned =
    let within = slice_get_within plan.nodes spawned.ahead (Ahead first spawned.second) spawned.node in
    record {
      node = refl;
      top = length plan.nodes - 1;
      names = refl;
      is_top = inl (omega (arith, within));
      whole = refl;
    }

-- the operation of an `ahead` that is at hand may be run
pub spawned-runs : (board : Board Blueprint) (at : AheadAt) (t : Stepping) (kept : Option Delivery) (hand : HandSeat) →
    HasAtHand board at t kept hand → CanRun board (spawned_start at.first t.start)
spawned-runs board at t kept hand has =
    let is = of board at t kept hand has in
    let spawned : IsSpawned (plan_of t.start).nodes at.first =
    record { ahead = node_of t.start; second = at.second; node = is.node_is } in
    record {
      receiver = record { node = refl; top = at.first; names = refl; is_top = inr spawned; whole = refl };
      plan = has.taken.ready.is.key;
      kinds = λ child names.
          subst (λ n. HasKinds (plan_of t.start) n (args_of t.start)) (same_Some at.first child names)
          (spawned-kinds (plan_of t.start) is.runnable at.first spawned (args_of t.start)
          (start-kinds t.start (Ahead at.first at.second) is.start_is is.node_is));
    }
