-- The start of a child, whatever the child runs with.
use Rattle.std.specs.Prelude.{slice_get}
use Rattle.std.proofs.Common.{◌≡◌, ℕ, Bool, List, [], ◌∷◌, Option, Some, refl, ap, ◌∙◌}
use Rattle.exec_value.specs.declared.data.Datum.{Datum}
use Rattle.plan_rules.specs.declared.node.Node.{Node}
use Rattle.plan_rules.specs.declared.node.Node.TheVariants.{Part}
use Rattle.plan_kinds.specs.Built.{IsNoPart}
use Rattle.home_items.specs.declared.entry.Entry.{Entry}
use Rattle.home_items.specs.Entries.{plan_of, node_of, begun_with, drawn_of, no_row, start_below, start_with}
use Rattle.home_items.specs.Starts.{IsStart}
use Rattle.home_items.proofs.Lots.{plain-draws}
use Rattle.home_items.proofs.Starting.{plain-start}

module _ (n : ℕ) (carried : List Datum) (asked : Bool) (above : List Entry) where
  -- it goes on with the start above
  pub record IsBelow (start : List Entry) : Type 0 where
    pub entry : Entry
    pub is : start ≡ entry ∷ above
    pub plan : plan_of start ≡ plan_of above
    pub node : node_of start ≡ n

  begun-below : (o : Option Node) → IsBelow (begun_with o n carried asked above)
  begun-below (Some (Part bulk part)) = record { entry = _; is = refl; plan = refl; node = refl }
  begun-below o = record { entry = _; is = refl; plan = refl; node = refl }

  pub with-below : IsBelow (start_with n carried asked above)
  with-below = begun-below (slice_get (plan_of above).nodes n)

below-draws : (n : ℕ) (carried : List Datum) (asked : Bool) (above : List Entry) → IsStart above → IsNoPart (slice_get (plan_of above).nodes n) →
    drawn_of (start_below n carried [] asked above) ≡ no_row
below-draws n carried asked [] is plain = absurd is
below-draws n carried asked (p ∷ above) is plain = plain-draws (slice_get p.plan.nodes n) [] plain

-- a child that is no part draws no row
pub with-draws : (n : ℕ) (carried : List Datum) (asked : Bool) (above : List Entry) → IsStart above → IsNoPart (slice_get (plan_of above).nodes n) →
    drawn_of (start_with n carried asked above) ≡ no_row
with-draws n carried asked above is plain =
    ap drawn_of (plain-start n carried asked above plain) ∙ below-draws n carried asked above is plain
