-- Which values a node can have, and whether its kinds match: by the shape of its arguments, and by
-- the signatures of its children and of its bodies.
use Rattle.std.specs.Prelude.{Bool, true, false, ◌&&◌, List, [], ◌∷◌, map, Some, None}
use Rattle.std.specs.Option.{option_and_then}
use Rattle.exec_value.specs.Kinds.{kind_of}
use Rattle.exec_value.specs.declared.kinds.Kind.{Kind}
use Rattle.exec_value.specs.declared.kinds.Kind.TheVariants.{Int, Text, MaybeInt, MaybeText}
use Rattle.exec_job.specs.Takes.{is_row, is_element, takes}
use Rattle.plan_rules.specs.declared.node.Node.{Node}
use Rattle.plan_rules.specs.declared.node.Node.TheVariants.{Input, Just, JustError, JustStopped, Schedule, Delay, ReadEnv, Then, UponError, UponStopped, LetValue, LetError, LetStopped, StartsOn, ContinuesOn, StoppedAsOptional, StoppedAsError, Bulk, WhenAll, Part, Unstoppable, Ahead}
use Rattle.plan_kinds.specs.declared.sig.Sig.{Sig}
use Rattle.plan_kinds.specs.Equal.{same_kinds}
use Rattle.plan_kinds.specs.Shapes.{Shape, common, all_agree, joined, never_or, is_few}
use Rattle.plan_kinds.specs.Gives.{int_alone, text_alone, row_alone, gives, picks}

-- a number that is no node counts as stopped
abbrev pub no_node : Sig
no_node = record { value = None; may_error = false; may_stop = true }

-- the signature of the one child
abbrev pub only : List Sig → Sig
only (sig ∷ sigs) = sig
only [] = no_node

-- the shapes of the values
abbrev pub shapes_of : List Sig → List Shape
shapes_of sigs = map (λ (sig : Sig). sig.value) sigs

-- under which arguments the bodies of a let run: the child's value, an error's name, or no data
abbrev pub body_arguments : Node → List Sig → Shape
body_arguments (LetValue child pick bodies) own = (only own).value
body_arguments (LetError child pick bodies) own = text_alone
body_arguments (LetStopped child pick bodies) own = Some []
body_arguments node own = None

-- the kind of what may be missing
abbrev pub maybe_of : Kind → Kind
maybe_of Int = MaybeInt
maybe_of Text = MaybeText
maybe_of kind = kind

-- the shape of a node's value, where its kinds match
abbrev pub value_case : Node → Shape → List Sig → List Sig → Shape
value_case Input a own behind = a
value_case (Just values) a own behind = Some (map kind_of values)
value_case (JustError e) a own behind = None
value_case JustStopped a own behind = None
value_case (Schedule on) a own behind = Some []
value_case (Delay turns) a own behind = Some []
value_case (ReadEnv query) a own behind = int_alone
value_case (Then child job) a own behind = option_and_then (gives job) (only own).value
value_case (UponError child job) a own behind =
    common ((only own).value ∷ gives job (Text ∷ []) ∷ [])
value_case (UponStopped child job) a own behind = common ((only own).value ∷ gives job [] ∷ [])
value_case (LetValue child pick bodies) a own behind = common (shapes_of behind)
value_case (LetError child pick bodies) a own behind =
    common ((only own).value ∷ shapes_of behind)
value_case (LetStopped child pick bodies) a own behind =
    common ((only own).value ∷ shapes_of behind)
value_case (StartsOn on child) a own behind = (only own).value
value_case (ContinuesOn child on) a own behind = (only own).value
value_case (StoppedAsOptional child of) a own behind = Some (maybe_of of ∷ [])
value_case (StoppedAsError child e) a own behind = (only own).value
value_case (Bulk child job) a own behind = (only own).value
value_case (WhenAll children) a own behind = joined (shapes_of own)
value_case (Part bulk part) a own behind = row_alone
value_case (Unstoppable child) a own behind = (only own).value
value_case (Ahead first second) a own behind = joined (shapes_of own)

-- the kinds of a node match; those of the kinds that aren't listed always do
abbrev pub match_case : Node → List Sig → List Sig → Bool
match_case (Then child job) own behind = never_or (takes job) (only own).value
match_case (UponError child job) own behind =
    takes job (Text ∷ []) && all_agree ((only own).value ∷ gives job (Text ∷ []) ∷ [])
match_case (UponStopped child job) own behind =
    takes job [] && all_agree ((only own).value ∷ gives job [] ∷ [])
match_case (LetValue child pick bodies) own behind =
    never_or (picks pick) (only own).value && all_agree (shapes_of behind)
match_case (LetError child pick bodies) own behind =
    picks pick (Text ∷ []) && all_agree ((only own).value ∷ shapes_of behind)
match_case (LetStopped child pick bodies) own behind =
    picks pick [] && all_agree ((only own).value ∷ shapes_of behind)
match_case (StoppedAsOptional child of) own behind =
    never_or (same_kinds (of ∷ [])) (only own).value
match_case (Bulk child job) own behind = is_element job && never_or is_row (only own).value
match_case (WhenAll children) own behind = never_or is_few (joined (shapes_of own))
match_case (Ahead first second) own behind = never_or is_few (joined (shapes_of own))
match_case node own behind = true
