-- Which settings stand where nothing is told, and what one more changes.
use Rattle.std.specs.Prelude.{ℕ, List, [], ◌++◌, codes}
use Rattle.plan_notation.specs.Settings.{Settings}
use Rattle.plan_notation.specs.declared.grammar.Setting.{Setting}
use Rattle.plan_notation.specs.declared.grammar.Setting.TheVariants as setting

abbrev pub settings_at_first : Settings
settings_at_first = record {
  version = codes "1";
  input = codes "\"int\"";
  scope = codes "\"counting\"";
  on_error = codes "\"go\"";
  stop_after = [];
  scope_at = 0;
}

-- of a setting that is told twice the last counts
abbrev pub with_setting : Setting → List ℕ → ℕ → Settings → Settings
with_setting setting.Version value at s = record s { version = value }
with_setting setting.Input value at s = record s { input = value }
with_setting setting.Scope value at s = record s { scope = value; scope_at = at }
with_setting setting.OnError value at s = record s { on_error = value }
with_setting setting.StopAfter value at s =
    record s { stop_after = codes ",\"stop_after\":" ++ value }
