-- Which settings exclude each other.
use Rattle.std.specs.Prelude.{Bool, true, false, ◌&&◌, ◌||◌, is_some}
use Rattle.node_tree.specs.declared.scope_kind.ScopeKind.{ScopeKind}
use Rattle.node_tree.specs.declared.scope_kind.ScopeKind.TheVariants.{Simple, Counting}
use Rattle.plan_rules.specs.declared.settings.Settings.{Settings}

-- Is this a scope without a stop source?
abbrev pub is_simple : ScopeKind → Bool
is_simple Simple = true
is_simple Counting = false

-- Does a rule of these settings request a stop?
abbrev pub has_stop_rule : Settings → Bool
has_stop_rule settings = is_some settings.stop_after || settings.on_error_stop

-- The settings exclude each other where a rule requests a stop of a simple scope, which takes no
-- stop request.
abbrev pub exclude_each_other : Settings → Bool
exclude_each_other settings = is_simple settings.scope && has_stop_rule settings
