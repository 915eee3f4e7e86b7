-- The names of nodes and jobs in JSON, with what stands behind them.
use Rattle.std.specs.Prelude.{ℕ, List, codes}
use Rattle.plan_parts.specs.declared.job_word.Arithmetic.{Arithmetic as OneNumber}
use Rattle.plan_parts.specs.declared.job_word.Arithmetic.TheVariants.{Add, Sub, Mul, Div}
use Rattle.plan_parts.specs.declared.job_word.PlainJob.{PlainJob}
use Rattle.plan_parts.specs.declared.job_word.PlainJob.TheVariants.{Neg, Index, Iota, Sum, Join, Length, Parse, Show, Pass}
use Rattle.plan_reader.specs.declared.node_word.Adaptor.{Adaptor as AdaptorWord}
use Rattle.plan_reader.specs.declared.node_word.Adaptor.TheVariants.{Then, UponError, UponStopped, StartsOn, ContinuesOn, StoppedAsOptional, StoppedAsError, Unstoppable}
use Rattle.plan_reader.specs.declared.node_word.Leaf.{Leaf as LeafWord}
use Rattle.plan_reader.specs.declared.node_word.Leaf.TheVariants.{Input, Just, JustError, JustStopped, Schedule, Delay, ReadEnv}
use Rattle.plan_reader.specs.declared.node_word.Let.{Let as LetWord}
use Rattle.plan_reader.specs.declared.node_word.Let.TheVariants.{Value, Error, Stopped}

-- how a node without children begins: its name, and the key of its argument
abbrev pub leaf_name : LeafWord → List ℕ
leaf_name Input = codes "{\"do\":\"input\""
leaf_name Just = codes "{\"do\":\"just\",\"values\":"
leaf_name JustError = codes "{\"do\":\"just_error\",\"error\":"
leaf_name JustStopped = codes "{\"do\":\"just_stopped\""
leaf_name Schedule = codes "{\"do\":\"schedule\",\"on\":"
leaf_name Delay = codes "{\"do\":\"delay\",\"turns\":"
leaf_name ReadEnv = codes "{\"do\":\"read_env\",\"query\":"

-- of a node over one child, with the key of its argument
abbrev pub adaptor_name : AdaptorWord → List ℕ
adaptor_name Then = codes ",\"do\":\"then\",\"job\":"
adaptor_name UponError = codes ",\"do\":\"upon_error\",\"job\":"
adaptor_name UponStopped = codes ",\"do\":\"upon_stopped\",\"job\":"
adaptor_name StartsOn = codes ",\"do\":\"starts_on\",\"on\":"
adaptor_name ContinuesOn = codes ",\"do\":\"continues_on\",\"on\":"
adaptor_name StoppedAsOptional = codes ",\"do\":\"stopped_as_optional\",\"of\":"
adaptor_name StoppedAsError = codes ",\"do\":\"stopped_as_error\",\"error\":"
adaptor_name Unstoppable = codes ",\"do\":\"unstoppable\""

-- of a node over bodies, with the key of its pick
abbrev pub let_name : LetWord → List ℕ
let_name Value = codes ",\"do\":\"let_value\",\"pick\":"
let_name Error = codes ",\"do\":\"let_error\",\"pick\":"
let_name Stopped = codes ",\"do\":\"let_stopped\",\"pick\":"

-- of a job without constants
abbrev pub plain_name : PlainJob → List ℕ
plain_name Neg = codes "\"neg\""
plain_name Index = codes "\"index\""
plain_name Iota = codes "\"iota\""
plain_name Sum = codes "\"sum\""
plain_name Join = codes "\"join\""
plain_name Length = codes "\"length\""
plain_name Parse = codes "\"parse\""
plain_name Show = codes "\"show\""
plain_name Pass = codes "\"pass\""

-- of a job with one number
abbrev pub arithmetic_name : OneNumber → List ℕ
arithmetic_name Add = codes "\"add\""
arithmetic_name Sub = codes "\"sub\""
arithmetic_name Mul = codes "\"mul\""
arithmetic_name Div = codes "\"div\""
