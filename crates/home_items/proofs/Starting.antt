-- Starts that are made of others.
use Rattle.std.specs.Prelude.{slice_get}
use Rattle.std.proofs.Common.{◌≡◌, ℕ, ℤ, Bool, List, [], ◌∷◌, Option, Some, None, inr, refl, sym, ◌∙◌}
use Rattle.exec_value.specs.declared.data.Datum.{Datum}
use Rattle.exec_value.specs.declared.data.Datum.TheVariants.{Row}
use Rattle.plan_rules.specs.declared.node.Node.{Node}
use Rattle.plan_rules.specs.declared.node.Node.TheVariants.{Part}
use Rattle.plan_kinds.specs.Built.{IsNoPart}
use Rattle.plan_kinds.specs.TreeLaws.{IsSpawned}
use Rattle.home_items.specs.declared.entry.Entry.{Entry}
use Rattle.home_items.specs.Shares.{part_args}
use Rattle.home_items.specs.Entries.{plan_of, plan_node, record_number, asked_of, child_of, carried_by, carried_of, start_naming, start_below, begun_with, start_with}
use Rattle.home_items.specs.Starts.{IsReceiver, IsReceiverStart, BeginsBelow, IsStart}
use Rattle.home_items.specs.Environments.{IsEnvironment}
use Rattle.home_items.proofs.Collecting.{receiver-none}

-- what begins below a start is a start
pub below-start : (e : Entry) (above : List Entry) → BeginsBelow (e ∷ above) → IsStart above → IsStart (e ∷ above)
below-start e [] begins is = absurd begins
below-start e (p ∷ above) begins is = (begins, is)

module _ (node : ℕ) (args : List Datum) (asked : Bool) (above : List Entry) where
  begun-start : (o : Option Node) → BeginsBelow (begun_with o node args asked above) → IsStart above →
      IsStart (begun_with o node args asked above)
  begun-start (Some (Part bulk part)) begins is = below-start _ above begins is
  begun-start o begins is = below-start _ above begins is

  -- what a child is begun with is a start
  pub starts-below : BeginsBelow (start_with node args asked above) → IsStart above → IsStart (start_with node args asked above)
  starts-below = begun-start (slice_get (plan_of above).nodes node)

  begun-plain : (o : Option Node) → IsNoPart o → begun_with o node args asked above ≡ start_below node args [] asked above
  begun-plain (Some (Part bulk part)) plain = absurd plain
  begun-plain o plain = refl

  -- a child that is no part has what it is begun with as its arguments
  pub plain-start : IsNoPart (slice_get (plan_of above).nodes node) →
      start_with node args asked above ≡ start_below node args [] asked above
  plain-start = begun-plain (slice_get (plan_of above).nodes node)

  plain-by : (o : Option Node) (e : Entry) → IsNoPart o → e.args ≡ args → carried_by o e ≡ args
  plain-by (Some (Part bulk part)) e plain same = absurd plain
  plain-by o e plain same = same

  -- and runs with it
  pub plain-carries : IsNoPart (slice_get (plan_of above).nodes node) → carried_of (start_with node args asked above) ≡ args
  plain-carries plain = rw (plain-start plain) (plain-by (slice_get (plan_of above).nodes node) _ plain refl)

  begun-says : (o : Option Node) → (record_number (begun_with o node args asked above) ≡ record_number above)
      × (asked_of (begun_with o node args asked above) ≡ asked) × (child_of (begun_with o node args asked above) ≡ None)
  begun-says (Some (Part bulk part)) = (refl, refl, refl)
  begun-says o = (refl, refl, refl)

  -- an environment that is made below another shows a start
  pub below-answers : (number : ℕ) → number ≡ record_number above → IsStart (start_with node args asked above) →
      carried_of (start_with node args asked above) ≡ args →
      IsEnvironment args number asked None (start_with node args asked above)
  below-answers number same is carries =
      let says = begun-says (slice_get (plan_of above).nodes node) in
      record { start_is = is; args_are = carries; number_is = says.0 ∙ sym same; asked_is = says.1; child_is = says.2 }

-- a part shows its share of the row that it is begun with
pub part-start : (node : ℕ) (whole : List ℤ) (asked : Bool) (above : List Entry) (bulk part : ℕ) →
    slice_get (plan_of above).nodes node ≡ Some (Part bulk part) →
    start_with node (Row whole ∷ []) asked above ≡ start_below node (part_args whole part) whole asked above
part-start node whole asked above bulk part at = rw at refl

-- the receiver node runs with its arguments
receiver-by : (o : Option Node) (e : Entry) → o ≡ None → carried_by o e ≡ e.args
receiver-by None e none = refl
receiver-by (Some node) e none = cc

pub receiver-carries : (e : Entry) → IsReceiver e → carried_of (e ∷ []) ≡ e.args
receiver-carries e is = receiver-by (plan_node e) e (receiver-none e is)

-- a start of the receiver node may name any node that is spawned
pub naming-answers : (args : List Datum) (number : ℕ) (asked : Bool) (child : Option ℕ) (first : ℕ) (start : List Entry) →
    IsEnvironment args number asked child start → IsReceiverStart start → IsSpawned (plan_of start).nodes first →
    IsEnvironment args number asked (Some first) (start_naming first start)
naming-answers args number asked child first [] answers is spawned = absurd is
naming-answers args number asked child first (e ∷ p ∷ above) answers is spawned = absurd is
naming-answers args number asked child first (e ∷ []) answers is spawned =
    let names : IsReceiver (record e { child = Some first }) =
    record { node = is.node; top = first; names = refl; is_top = inr spawned; whole = is.whole } in
    record {
      start_is = names;
      args_are = receiver-carries (record e { child = Some first }) names ∙ sym (receiver-carries e is) ∙ answers.args_are;
      number_is = answers.number_is;
      asked_is = answers.asked_is;
      child_is = refl;
    }
