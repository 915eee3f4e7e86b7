-- The canonical text of a plan is read as that plan.
use Rattle.std.specs.Prelude.{◌==◌, nat_lt, codes, IfOk}
use Rattle.std.specs.Option.{option_or, option_map, option_map_or}
use Rattle.std.specs.Str.{IsUtf8}
use Rattle.std.proofs.Common.{◌≡◌, ℕ, ◌+◌, ◌-◌, ◌≤◌, true, cond, List, length, Option, Some, None, Result, Ok, Err, refl, ap, ◌∙◌, arith}
use Rattle.std.specs.Prelude.{take}
use Rattle.std.proofs.lemmas.Bool.{le-ltb, cond-false}
use Rattle.std.proofs.lemmas.List.{take_all}
use Rattle.std.proofs.lemmas.Str.{is_utf8-from_IsUtf8}
use Rattle.serde_json.specs.Data.{Data, number, unsigned, string, object, Members, no_members, member, depth}
use Rattle.serde_json.specs.Read.{read, max_depth}
use Rattle.plan_rules.specs.declared.node.Node.{Node}
use Rattle.plan_rules.specs.declared.settings.Settings.{Settings}
use Rattle.plan_shape.specs.declared.fault.BuildFault.{BuildFault}
use Rattle.plan_shape.specs.declared.fault.BuildFault.TheVariants.{TooManyNodes, Misplaced}
use Rattle.plan_shape.specs.Blueprint.{Blueprint, IsPlan}
use Rattle.plan_shape.specs.Finish.{is_misplaced}
use Rattle.plan_shape.specs.Least.{least}
use Rattle.plan_shape.specs.Refusals.{fault_if}
use Rattle.plan_shape.proofs.ForestLaws.{shallow_at}
use Rattle.plan_shape.proofs.LeastLemmas.{least-None}
use Rattle.plan_parts.specs.declared.reading.Reading.TheVariants.{Good}
use Rattle.plan_parts.specs.declared.reading.TheConstants.{NO_FAULT}
use Rattle.plan_reader.specs.declared.fault.PlanFault.TheVariants.{TooLong, NotJson}
use Rattle.plan_reader.specs.declared.plan.TheConstants.{MOST_LEVELS}
use Rattle.plan_reader.specs.declared.read.TheConstants.{MOST_PLAN_BYTES}
use Rattle.plan_reader.specs.Limits.{plan_limit}
use Rattle.plan_reader.specs.PlanFile.{IsPlanOf}
use Rattle.plan_reader.specs.Plans.{found_in, found_unless, is_first_version, joined, json_of, plan_of, walked_of}
use Rattle.plan_reader.specs.Walked.{Walked, at_start, child_at, walk}
use Rattle.plan_writer.specs.Canonical.{plan_data, plan_members, with_stop, on_error_name, scope_name}
use Rattle.plan_writer.specs.Nodes.{kind_name, node_data}
use Rattle.plan_writer.specs.FilePlan.{IsFilePlan}
use Rattle.plan_writer.specs.ReadBack.{IsReadBack, walked_to}
use Rattle.plan_writer.proofs.SettingsBack.{first-back, settings-back}
use Rattle.plan_writer.proofs.Small.{IsSmall, AreSmall, object-small, put-small, weaker}

module _ (plan : Blueprint) (is_plan : IsPlan plan) where
  abbrev root : ℕ
  root = length plan.nodes - 1

  root-within : root + 1 ≡ length plan.nodes
  root-within = let some = is_plan.some in omega (arith, some)

  -- the plan passes no limit
  no-limit : plan_limit plan.nodes plan.settings ≡ None
  no-limit =
      let misplaced : Option BuildFault = option_map Misplaced (least (is_misplaced plan.nodes) (length plan.nodes)) in
      ap (λ b. option_or (fault_if b TooManyNodes) misplaced) is_plan.small
      ∙ ap (option_map Misplaced) (least-None (is_misplaced plan.nodes) (length plan.nodes) is_plan.well_placed)

  -- the plan's value
  root-of : (stop : Option ℕ) (settings : Settings) (d : Data) (start : Walked)
      → child_at (walk MOST_LEVELS) (codes "root") (object (with_stop stop
      (member (codes "input") (string (kind_name settings.input))
      (member (codes "on_error") (string (on_error_name settings.on_error_stop))
      (member (codes "root") d
      (member (codes "scope") (string (scope_name settings.scope))
      (member (codes "version") (number (unsigned settings.version)) no_members))))))) start
      ≡ walk MOST_LEVELS d start
  unfolding child_at
  root-of None settings d start = refl
  root-of (Some records) settings d start = refl

  module _ (back : IsReadBack plan root) where
    pub plan-small : IsSmall 115 (plan_data plan)
    plan-small =
        let deep = shallow_at plan.nodes root is_plan.forest (let last = root-within in omega (arith, last)) in
        let shallow = back.shallow in
        let small : IsSmall 114 (node_data plan.nodes root) =
        record { whole = back.whole_numbers; shallow = omega (arith, shallow, deep) } in
        let version : AreSmall 114 (member (codes "version") (number (unsigned plan.settings.version)) no_members) =
        record { whole = refl; shallow = omega arith } in
        let scope : AreSmall 114 (member (codes "scope") (string (scope_name plan.settings.scope))
        (member (codes "version") (number (unsigned plan.settings.version)) no_members)) =
        record { whole = refl; shallow = omega arith } in
        let rooted = put-small 114 (codes "root") (node_data plan.nodes root) _ small scope in
        let error = put-small 114 (codes "on_error") (string (on_error_name plan.settings.on_error_stop)) _
        (record { whole = refl; shallow = omega arith }) rooted in
        let input = put-small 114 (codes "input") (string (kind_name plan.settings.input)) _
        (record { whole = refl; shallow = omega arith }) error in
        weaker (114 + 1) 115 (plan_data plan) (omega arith) (object-small 114 (plan_members plan.settings (node_data plan.nodes root))
        (stopped plan.settings.stop_after _ input))
      where
        stopped : (stop : Option ℕ) (ms : Members) → AreSmall 114 ms → AreSmall 114 (with_stop stop ms)
        stopped None ms are = are
        stopped (Some records) ms are =
            put-small 114 (codes "stop_after") (number (unsigned records)) ms (record { whole = refl; shallow = omega arith }) are

    module _ (is : IsFilePlan plan) where
      walked-back : walked_of (plan_data plan) ≡ walked_to plan (length plan.nodes)
      unfolding walked_of
      walked-back =
          let d = node_data plan.nodes root in
          let deep = shallow_at plan.nodes root is_plan.forest (let last = root-within in omega (arith, last)) in
          root-of plan.settings.stop_after plan.settings d (at_start (is_first_version (plan_data plan)))
          ∙ ap (λ b. walk MOST_LEVELS d (at_start b)) (first-back plan.settings d is_plan.settings_are)
          ∙ back.walked 0 (length plan.nodes) MOST_LEVELS is.order (omega (arith, deep))
          ∙ ap (walked_to plan) root-within

      plan-back : plan_of (plan_data plan) ≡ Ok (record { plan = plan; elements = true })
      unfolding plan_of
      plan-back =
          let all : take (length plan.nodes) plan.nodes ≡ plan.nodes = take_all (length plan.nodes) plan.nodes (omega arith) in
          let made : List Node → Walked = λ ns.
          record { nodes = ns; elements = true; faults = NO_FAULT; is_first = plan.settings.version == 1 } in
          ap (λ r. joined r (walked_of (plan_data plan))) (settings-back plan.settings (node_data plan.nodes root) is_plan.settings_are)
          ∙ ap (joined (Good plan.settings)) (walked-back ∙ ap made all)
          ∙ ap (λ o. found_unless o plan.settings (made plan.nodes)) no-limit

      pub text-back : (bytes : List ℕ) → IsUtf8 bytes → read bytes ≡ Some (plan_data plan)
          → length bytes ≤ MOST_PLAN_BYTES → IsPlanOf bytes plan
      unfolding found_in json_of
      text-back bytes utf8 reads short =
          let json : json_of bytes ≡ Some (plan_data plan) =
          ap (λ b. cond b (read bytes) None) (is_utf8-from_IsUtf8 bytes utf8) ∙ reads in
          let whole : found_in bytes ≡ Ok (record { plan = plan; elements = true }) =
          cond-false (nat_lt MOST_PLAN_BYTES (length bytes)) (Err TooLong) (option_map_or plan_of (json_of bytes) (Err NotJson))
          (le-ltb MOST_PLAN_BYTES (length bytes) short)
          ∙ ap (λ o. option_map_or plan_of o (Err NotJson)) json ∙ plan-back in
          (record { plan = plan; elements = true }, whole, record { same = refl; matches = record { elements = refl; kinds = is.kinds }; rules = is.rules })

-- bytes that are written for the plan's value
pub bytes-back : {V E : Type 0} (r : Result V E) (items : V → List ℕ) (plan : Blueprint) → IsPlan plan
    → IsReadBack plan (length plan.nodes - 1) → (d : Data) → d ≡ plan_data plan
    → IfOk r (λ v. IsUtf8 (items v)) → IfOk r (λ v. depth d ≤ max_depth → read (items v) ≡ Some d)
    → IfOk r (λ v. IsFilePlan plan → length (items v) ≤ MOST_PLAN_BYTES → IsPlanOf (items v) plan)
bytes-back (Ok v) items plan is_plan back d same utf8 reads = λ is short.
    let shallow = (plan-small plan is_plan back).shallow in
    let deep : depth d ≤ max_depth = omega (arith, ap depth same, shallow) in
    text-back plan is_plan back is (items v) utf8 (reads deep ∙ ap Some same) short
bytes-back (Err e) items plan is_plan back d same utf8 reads = tt
