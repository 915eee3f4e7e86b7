-- The canonical text of a plan.
use Rattle.std.specs.Prelude.{◌-◌, ℕ, Bool, true, false, List, length, Option, Some, None, codes}
use Rattle.serde_json.specs.Data.{Data, number, unsigned, string, object, Members, no_members, member, put}
use Rattle.serde_json.specs.Written.{compact_text}
use Rattle.node_tree.specs.declared.scope_kind.ScopeKind.{ScopeKind}
use Rattle.node_tree.specs.declared.scope_kind.ScopeKind.TheVariants.{Simple, Counting}
use Rattle.plan_rules.specs.declared.settings.Settings.{Settings}
use Rattle.plan_shape.specs.Blueprint.{Blueprint}
use Rattle.plan_writer.specs.Nodes.{kind_name, node_data}

-- the names of the scopes, and of what is done on an error
abbrev pub scope_name : ScopeKind → List ℕ
scope_name Simple = codes "simple"
scope_name Counting = codes "counting"

abbrev pub on_error_name : Bool → List ℕ
on_error_name true = codes "stop"
on_error_name false = codes "go"

-- the members, with the rule of a stop after some records where it is set
abbrev pub with_stop : Option ℕ → Members → Members
with_stop None ms = ms
with_stop (Some records) ms = put (codes "stop_after") (number (unsigned records)) ms

-- the members of a plan's object with this root
abbrev pub plan_members : Settings → Data → Members
plan_members settings root =
    with_stop settings.stop_after
    (member (codes "input") (string (kind_name settings.input))
    (member (codes "on_error") (string (on_error_name settings.on_error_stop))
    (member (codes "root") root
    (member (codes "scope") (string (scope_name settings.scope))
    (member (codes "version") (number (unsigned settings.version)) no_members)))))

-- a plan as a JSON value: its settings, and its last node, which is the root
abbrev pub plan_data : Blueprint → Data
plan_data plan = object (plan_members plan.settings (node_data plan.nodes (length plan.nodes - 1)))

-- its text, without blanks
abbrev pub plan_text : Blueprint → List ℕ
plan_text plan = compact_text (plan_data plan)
