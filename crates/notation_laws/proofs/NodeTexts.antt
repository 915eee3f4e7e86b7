-- The JSON of a node is that of its parts.
use Rattle.std.proofs.Common.{◌≡◌, ℕ, List, [], ◌∷◌, map, codes, refl, sym, ap, ◌∙◌}
use Rattle.json.specs.Print.{escape_byte}
use Rattle.serde_json.specs.Data.{Data, string}
use Rattle.serde_json.specs.Written.{compact_text}
use Rattle.exec_value.specs.declared.data.Datum.{Datum}
use Rattle.exec_value.specs.declared.kinds.Kind.{Kind}
use Rattle.node_tree.specs.declared.context.Context.{Context}
use Rattle.plan_rules.specs.declared.node.Query.{Query}
use Rattle.plan_rules.specs.declared.node.Node.TheVariants as n
use Rattle.exec_job.specs.declared.job.Job.{Job}
use Rattle.plan_reader.specs.declared.node_word.Adaptor.TheVariants as adaptor
use Rattle.plan_reader.specs.declared.node_word.Leaf.TheVariants as leaf
use Rattle.plan_reader.specs.declared.node_word.Let.{Let as LetWord}
use Rattle.plan_reader.specs.declared.node_word.Let.TheVariants as lets
use Rattle.plan_reader.specs.declared.node_word.NodeWord.TheVariants as node
use Rattle.plan_writer.specs.Jobs.{job_data}
use Rattle.plan_writer.specs.Nodes.{context_name, kind_name, list_data, node_object, query_name}
use Rattle.plan_writer.specs.Values.{constant_data}
use Rattle.plan_notation.specs.Assembled.{array_text, five, node_json, three}
use Rattle.plan_notation.specs.Names.{leaf_name, let_name}
use Rattle.plan_notation.specs.Tokens.{constant_word, count_word, text_word}
use Rattle.notation_laws.proofs.Arrays.{array_json, map_map}

-- a word as JSON
abbrev pub word_json_of : List ℕ → List ℕ
word_json_of word = compact_text (string word)

module _ (value : ℕ → Data) where
  pub just_text : (values : List Datum) → compact_text (node_object (n.Just values) value)
      ≡ node_json (node.Leaf leaf.Just) [] (map constant_word values)
  unfolding escape_byte
  just_text values =
      ap (λ (a : List ℕ). three (leaf_name leaf.Just) a (codes "}"))
      (sym (ap array_text (sym (map_map compact_text constant_data values)) ∙ array_json (map constant_data values)))

  pub just_error_text : (error : List ℕ) → compact_text (node_object (n.JustError error) value)
      ≡ node_json (node.Leaf leaf.JustError) [] (text_word error ∷ [])
  unfolding escape_byte
  just_error_text error = refl

  pub schedule_text : (on : Context) → compact_text (node_object (n.Schedule on) value)
      ≡ node_json (node.Leaf leaf.Schedule) [] (word_json_of (context_name on) ∷ [])
  unfolding escape_byte
  schedule_text on = refl

  pub delay_text : (turns : ℕ) → compact_text (node_object (n.Delay turns) value)
      ≡ node_json (node.Leaf leaf.Delay) [] (count_word turns ∷ [])
  unfolding escape_byte
  delay_text turns = refl

  pub read_env_text : (query : Query) → compact_text (node_object (n.ReadEnv query) value)
      ≡ node_json (node.Leaf leaf.ReadEnv) [] (word_json_of (query_name query) ∷ [])
  unfolding escape_byte
  read_env_text query = refl

  pub then_text : (child : ℕ) (job : Job) → compact_text (node_object (n.Then child job) value)
      ≡ node_json (node.Adaptor adaptor.Then) (compact_text (value child)) (compact_text (job_data job) ∷ [])
  unfolding escape_byte
  then_text child job = refl

  pub upon_error_text : (child : ℕ) (job : Job) → compact_text (node_object (n.UponError child job) value)
      ≡ node_json (node.Adaptor adaptor.UponError) (compact_text (value child)) (compact_text (job_data job) ∷ [])
  unfolding escape_byte
  upon_error_text child job = refl

  pub upon_stopped_text : (child : ℕ) (job : Job) → compact_text (node_object (n.UponStopped child job) value)
      ≡ node_json (node.Adaptor adaptor.UponStopped) (compact_text (value child)) (compact_text (job_data job) ∷ [])
  unfolding escape_byte
  upon_stopped_text child job = refl

  pub bulk_text : (child : ℕ) (job : Job) → compact_text (node_object (n.Bulk child job) value)
      ≡ node_json node.Bulk (compact_text (value child)) (compact_text (job_data job) ∷ [])
  unfolding escape_byte
  bulk_text child job = refl

  pub starts_on_text : (on : Context) (child : ℕ) → compact_text (node_object (n.StartsOn on child) value)
      ≡ node_json (node.Adaptor adaptor.StartsOn) [] (word_json_of (context_name on) ∷ compact_text (value child) ∷ [])
  unfolding escape_byte
  starts_on_text on child = refl

  pub continues_on_text : (child : ℕ) (on : Context) → compact_text (node_object (n.ContinuesOn child on) value)
      ≡ node_json (node.Adaptor adaptor.ContinuesOn) (compact_text (value child)) (word_json_of (context_name on) ∷ [])
  unfolding escape_byte
  continues_on_text child on = refl

  pub stopped_as_optional_text : (child : ℕ) (of : Kind) → compact_text (node_object (n.StoppedAsOptional child of) value)
      ≡ node_json (node.Adaptor adaptor.StoppedAsOptional) (compact_text (value child)) (word_json_of (kind_name of) ∷ [])
  unfolding escape_byte
  stopped_as_optional_text child of = refl

  pub stopped_as_error_text : (child : ℕ) (error : List ℕ) → compact_text (node_object (n.StoppedAsError child error) value)
      ≡ node_json (node.Adaptor adaptor.StoppedAsError) (compact_text (value child)) (text_word error ∷ [])
  unfolding escape_byte
  stopped_as_error_text child error = refl

  pub unstoppable_text : (child : ℕ) → compact_text (node_object (n.Unstoppable child) value)
      ≡ node_json (node.Adaptor adaptor.Unstoppable) (compact_text (value child)) []
  unfolding escape_byte
  unstoppable_text child = refl

  pub ahead_text : (first second : ℕ) → compact_text (node_object (n.Ahead first second) value)
      ≡ node_json node.Ahead [] (compact_text (value first) ∷ compact_text (value second) ∷ [])
  unfolding escape_byte
  ahead_text first second = refl

  -- the children of a list, as an array
  listed_text : (ns : List ℕ) → compact_text (list_data value ns) ≡ array_text (map (λ k. compact_text (value k)) ns)
  listed_text ns = sym (ap array_text (sym (map_map compact_text value ns)) ∙ array_json (map value ns))

  pub when_all_text : (children : List ℕ) → compact_text (node_object (n.WhenAll children) value)
      ≡ node_json node.WhenAll [] (map (λ k. compact_text (value k)) children)
  unfolding escape_byte
  when_all_text children =
      ap (λ (a : List ℕ). three (codes "{\"children\":") a (codes ",\"do\":\"when_all\"}")) (listed_text children)

  -- a let's pick and bodies
  let_json : (word : LetWord) (child pick : List ℕ) (bodies : List ℕ)
      → five (codes "{\"bodies\":") (compact_text (list_data value bodies)) (codes ",\"child\":") child (three (let_name word) pick (codes "}"))
      ≡ node_json (node.Let word) child (pick ∷ map (λ k. compact_text (value k)) bodies)
  let_json word child pick bodies =
      ap (λ (a : List ℕ). five (codes "{\"bodies\":") a (codes ",\"child\":") child (three (let_name word) pick (codes "}"))) (listed_text bodies)

  pub let_value_text : (child : ℕ) (pick : Job) (bodies : List ℕ) → compact_text (node_object (n.LetValue child pick bodies) value)
      ≡ node_json (node.Let lets.Value) (compact_text (value child)) (compact_text (job_data pick) ∷ map (λ k. compact_text (value k)) bodies)
  unfolding escape_byte
  let_value_text child pick bodies = let_json lets.Value (compact_text (value child)) (compact_text (job_data pick)) bodies

  pub let_error_text : (child : ℕ) (pick : Job) (bodies : List ℕ) → compact_text (node_object (n.LetError child pick bodies) value)
      ≡ node_json (node.Let lets.Error) (compact_text (value child)) (compact_text (job_data pick) ∷ map (λ k. compact_text (value k)) bodies)
  unfolding escape_byte
  let_error_text child pick bodies = let_json lets.Error (compact_text (value child)) (compact_text (job_data pick)) bodies

  pub let_stopped_text : (child : ℕ) (pick : Job) (bodies : List ℕ) → compact_text (node_object (n.LetStopped child pick bodies) value)
      ≡ node_json (node.Let lets.Stopped) (compact_text (value child)) (compact_text (job_data pick) ∷ map (λ k. compact_text (value k)) bodies)
  unfolding escape_byte
  let_stopped_text child pick bodies = let_json lets.Stopped (compact_text (value child)) (compact_text (job_data pick)) bodies
