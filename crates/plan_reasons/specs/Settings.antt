-- What is wrong with the keys of a plan file beside its nodes.
use Rattle.std.specs.Prelude.{ℕ, ◌++◌, List, if◌then◌else◌, codes}
use Rattle.std.specs.Option.{option_map_or}
use Rattle.serde_json.specs.Data.{Data}
use Rattle.serde_json.specs.Find.{get}
use Rattle.plan_parts.specs.Objects.{number_at}
use Rattle.plan_reader.specs.Plans.{input_at, on_error_at, plan_keys, scope_at, stop_at, version_read}
use Rattle.plan_reasons.specs.declared.own.Fault.{Fault}
use Rattle.plan_reasons.specs.declared.part.Part.{Part}
use Rattle.plan_reasons.specs.declared.part.Part.TheVariants.{Root, Version, Input, Scope, StopAfter, OnError}
use Rattle.plan_reasons.specs.Own.{faults_of, has, key_faults}
use Rattle.plan_reasons.specs.Sentences.{unknown_key, wrong_at}

-- the first of the settings that has the fault; where none has it the root isn't there
abbrev pub wrong_setting : Fault → Data → Part
wrong_setting fault d =
    if has fault (faults_of (version_read (number_at (codes "version") d))) then Version
    else (if has fault (faults_of (input_at d)) then Input
    else (if has fault (faults_of (scope_at d)) then Scope
    else (if has fault (faults_of (stop_at d)) then StopAfter
    else (if has fault (faults_of (on_error_at d)) then OnError else Root))))

unfoldable pub settings_wrong : Fault → Data → List ℕ
settings_wrong fault d =
    if has fault (key_faults plan_keys d) then unknown_key (codes "a plan") plan_keys d
    else wrong_at (codes "a plan") (wrong_setting fault d) d

-- which rule excludes a simple scope
abbrev pub rule : Data → List ℕ
rule d = option_map_or (λ stop. codes "stop_after") (get (codes "stop_after") d) (codes "on_error")

abbrev pub excluded : Data → List ℕ
excluded d =
    codes "a simple scope takes no stop request, and \"" ++ (rule d ++ codes "\" makes one")
