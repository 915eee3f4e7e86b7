-- A start for a record may run: its datum is of the kind with which the plan's root runs.
use Rattle.std.proofs.Common.{◌≡◌, ℕ, ◌+◌, ◌-◌, Bool, [], ◌∷◌, length, inl, refl, sym, subst, arith}
use Rattle.std.specs.Prelude.{Some, slice_get}
use Rattle.std.proofs.lemmas.Option.{same_Some}
use Rattle.exec_value.specs.Kinds.{HasKind}
use Rattle.exec_value.specs.declared.data.Datum.{Datum}
use Rattle.plan_kinds.specs.Reached.{Reaches}
use Rattle.plan_kinds.proofs.Kept.{plain-arguments}
use Rattle.plan_kinds.proofs.Roots.{last-no_part}
use Rattle.plan_shape.specs.Blueprint.{Blueprint, IsPlan}
use Rattle.table_steps.specs.Views.{Board}
use Rattle.home_items.specs.Entries.{carried_of, record_start}
use Rattle.home_items.specs.HasKinds.{HasKinds}
use Rattle.home_items.specs.Starts.{IsReceiverStart}
use Rattle.home_items.proofs.Starting.{receiver-carries}
use Rattle.exec_recv.specs.Over.{IsOver}
use Rattle.node_walks.specs.Starts.{CanRun}

module _ (plan : Blueprint) (is : IsPlan plan) (datum : Datum) (number : ℕ) (asked : Bool) where
  abbrev root : ℕ
  root = length plan.nodes - 1

  root-last : length plan.nodes ≡ root + 1
  root-last = let some = is.some in omega (arith, some)

  pub starts-receiver : IsReceiverStart (record_start plan (datum ∷ []) number asked)
  starts-receiver =
      record { node = refl; top = root; names = refl; is_top = inl (sym root-last); whole = refl }

  -- and carries its datum
  pub carries-datum : carried_of (record_start plan (datum ∷ []) number asked) ≡ datum ∷ []
  carries-datum = receiver-carries _ starts-receiver

  root-kinds : HasKind datum plan.settings.input → HasKinds plan root (datum ∷ [])
  root-kinds kind =
      record {
        shape = Some (plan.settings.input ∷ []);
        reached = Reaches.root root-last;
        kinds = plain-arguments (slice_get plan.nodes root)
            (last-no_part plan is root root-last (slice_get plan.nodes root) refl)
            (Some (plan.settings.input ∷ [])) (datum ∷ []) (kind, tt);
      }

  pub can-run : (board : Board Blueprint) → IsOver board plan → HasKind datum plan.settings.input →
      CanRun board (record_start plan (datum ∷ []) number asked)
  can-run board over kind =
      record {
        receiver = starts-receiver;
        plan = sym over.over;
        kinds = λ child names.
            subst (λ n. HasKinds plan n (datum ∷ [])) (same_Some root child names) (root-kinds kind);
      }
