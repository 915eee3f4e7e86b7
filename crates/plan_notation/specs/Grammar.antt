-- Which words there are, and what each takes. The names of nodes and jobs are those of plan files.
use Rattle.std.specs.Prelude.{ℕ, Bool, true, false, ◌==◌, nat_lt, List, [], ◌∷◌, Option, Some, None, codes, if◌then◌else◌}
use Rattle.std.specs.List.{list_any}
use Rattle.std.specs.Str.{bytes_eq}
use Rattle.plan_parts.specs.Named.{named}
use Rattle.plan_parts.specs.declared.job_word.JobWord.{JobWord}
use Rattle.plan_parts.specs.declared.job_word.JobWord.TheVariants as job
use Rattle.plan_parts.specs.declared.job_word.PlainJob.TheVariants as plain
use Rattle.plan_reader.specs.declared.node_word.Adaptor.TheVariants as adaptor
use Rattle.plan_reader.specs.declared.node_word.Leaf.TheVariants as leaf
use Rattle.plan_reader.specs.declared.node_word.NodeWord.{NodeWord}
use Rattle.plan_reader.specs.declared.node_word.NodeWord.TheVariants as node
use Rattle.plan_notation.specs.declared.grammar.Setting.{Setting}
use Rattle.plan_notation.specs.declared.grammar.Setting.TheVariants as setting
use Rattle.plan_notation.specs.declared.wanted.Wanted.{Wanted}
use Rattle.plan_notation.specs.declared.wanted.Wanted.TheVariants as wanted

-- the settings, and what each takes
abbrev pub setting_of_name : List ℕ → Option Setting
setting_of_name = named (
    (codes "version", setting.Version) ∷ (codes "input", setting.Input)
    ∷ (codes "scope", setting.Scope) ∷ (codes "on_error", setting.OnError)
    ∷ (codes "stop_after", setting.StopAfter) ∷ [])

abbrev pub wanted_by_setting : Setting → Wanted
wanted_by_setting setting.Version = wanted.Version
wanted_by_setting setting.Input = wanted.Input
wanted_by_setting setting.Scope = wanted.Scope
wanted_by_setting setting.OnError = wanted.OnError
wanted_by_setting setting.StopAfter = wanted.Number

-- a node that begins a sender; each other takes the sender before a bar
abbrev pub begins_sender : NodeWord → Bool
begins_sender (node.Leaf word) = true
begins_sender node.WhenAll = true
begins_sender node.Ahead = true
begins_sender (node.Adaptor adaptor.StartsOn) = true
begins_sender other = false

-- a node with arguments in brackets
abbrev pub has_brackets : NodeWord → Bool
has_brackets (node.Leaf leaf.Input) = false
has_brackets (node.Leaf leaf.JustStopped) = false
has_brackets (node.Adaptor adaptor.Unstoppable) = false
has_brackets word = true

-- what a node takes that takes one argument
abbrev pub only_wanted : NodeWord → Option Wanted
only_wanted (node.Leaf leaf.JustError) = Some wanted.Text
only_wanted (node.Leaf leaf.Schedule) = Some wanted.Context
only_wanted (node.Leaf leaf.Delay) = Some wanted.Number
only_wanted (node.Leaf leaf.ReadEnv) = Some wanted.Query
only_wanted (node.Adaptor adaptor.Then) = Some wanted.Job
only_wanted (node.Adaptor adaptor.UponError) = Some wanted.Job
only_wanted (node.Adaptor adaptor.UponStopped) = Some wanted.Job
only_wanted (node.Adaptor adaptor.ContinuesOn) = Some wanted.Context
only_wanted (node.Adaptor adaptor.StoppedAsOptional) = Some wanted.Kind
only_wanted (node.Adaptor adaptor.StoppedAsError) = Some wanted.Text
only_wanted node.Bulk = Some wanted.ElementJob
only_wanted word = None

-- what a node takes behind so many arguments; none: it takes no more
abbrev pub starts_on_wants : ℕ → Option Wanted
starts_on_wants count =
    if count == 0 then Some wanted.Context
    else (if count == 1 then Some wanted.Sender else None)

abbrev pub wanted_by_node : NodeWord → ℕ → Option Wanted
wanted_by_node (node.Leaf leaf.Just) count = Some wanted.Constant
wanted_by_node node.WhenAll count = Some wanted.Sender
wanted_by_node (node.Let binding) count = Some (if count == 0 then wanted.Job else wanted.Sender)
wanted_by_node node.Ahead count = if nat_lt count 2 then Some wanted.Sender else None
wanted_by_node (node.Adaptor adaptor.StartsOn) count = starts_on_wants count
wanted_by_node word count = if count == 0 then only_wanted word else None

-- the fewest arguments of a node; too few children and bodies are refused as in any plan
abbrev pub fewest : NodeWord → ℕ
fewest (node.Leaf leaf.Just) = 0
fewest node.WhenAll = 0
fewest node.Ahead = 2
fewest (node.Adaptor adaptor.StartsOn) = 2
fewest word = 1

-- a job over the elements of a row
abbrev pub is_element_word : JobWord → Bool
is_element_word (job.Arithmetic arithmetic) = true
is_element_word job.Within = true
is_element_word (job.Plain plain.Neg) = true
is_element_word (job.Plain plain.Index) = true
is_element_word word = false

-- what a job takes that takes one constant
abbrev pub only_wanted_by_job : JobWord → Option Wanted
only_wanted_by_job (job.Arithmetic arithmetic) = Some wanted.Number
only_wanted_by_job job.At = Some wanted.Number
only_wanted_by_job job.Fail = Some wanted.Text
only_wanted_by_job job.Append = Some wanted.Text
only_wanted_by_job job.ValueOr = Some wanted.Scalar
only_wanted_by_job word = None

-- what a job takes behind so many constants; none: it takes no more
abbrev pub wanted_by_job : JobWord → ℕ → Option Wanted
wanted_by_job job.Give count = Some wanted.Constant
wanted_by_job job.Within count = if nat_lt count 2 then Some wanted.Number else None
wanted_by_job word count = if count == 0 then only_wanted_by_job word else None

abbrev pub fewest_of_job : JobWord → ℕ
fewest_of_job (job.Plain word) = 0
fewest_of_job job.Give = 0
fewest_of_job job.Within = 2
fewest_of_job other = 1

-- the words that are wanted
abbrev pub wanted_words : Wanted → List (List ℕ)
wanted_words wanted.Context = codes "loop" ∷ codes "pool" ∷ []
wanted_words wanted.Query = codes "stop" ∷ codes "record" ∷ []
wanted_words wanted.Kind = codes "int" ∷ codes "text" ∷ []
wanted_words wanted.Input = codes "int" ∷ codes "text" ∷ codes "row" ∷ []
wanted_words wanted.Scope = codes "simple" ∷ codes "counting" ∷ []
wanted_words wanted.OnError = codes "go" ∷ codes "stop" ∷ []
wanted_words wanted.Version = codes "1" ∷ codes "2" ∷ []
wanted_words other = []

abbrev pub is_one_of : List (List ℕ) → List ℕ → Bool
is_one_of words name = list_any (bytes_eq name) words
