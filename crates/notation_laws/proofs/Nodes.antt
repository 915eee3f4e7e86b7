-- The tokens of any node are read as its JSON, if those of the nodes below it are.
use Rattle.std.proofs.Common.{◌≡◌, ℕ, ◌+◌, ◌<◌, Bool, true, false, List, [], ◌∷◌, ◌++◌, All, Some, map, codes, nat_lt, refl, arith}
use Rattle.std.proofs.lemmas.List.Elements.{All-head, All-tail}
use Rattle.json.specs.Print.{escape_byte}
use Rattle.serde_json.specs.Data.{Data}
use Rattle.serde_json.specs.Written.{compact_text}
use Rattle.exec_value.specs.ErrorName.{is_error_name}
use Rattle.exec_job.specs.declared.job.Job.{Job}
use Rattle.plan_rules.specs.Children.{named_by}
use Rattle.plan_rules.specs.declared.node.Node.{Node}
use Rattle.plan_rules.specs.declared.node.Node.TheVariants as n
use Rattle.plan_shape.specs.Conditions.{MeetsConditions}
use Rattle.plan_shape.specs.declared.limits.TheConstants.{MOST_DEPTH}
use Rattle.plan_reader.specs.declared.node_word.Adaptor.TheVariants as adaptor
use Rattle.plan_reader.specs.declared.node_word.Leaf.TheVariants as leaf
use Rattle.plan_reader.specs.declared.node_word.Let.{Let as LetWord}
use Rattle.plan_reader.specs.declared.node_word.Let.TheVariants as lets
use Rattle.plan_reader.specs.declared.node_word.NodeWord.{NodeWord}
use Rattle.plan_reader.specs.declared.node_word.NodeWord.TheVariants as node
use Rattle.plan_writer.specs.Held.{IsHeldNode}
use Rattle.plan_writer.specs.Jobs.{job_data}
use Rattle.plan_writer.specs.Nodes.{context_name, kind_name, node_object, query_name}
use Rattle.plan_notation.specs.declared.constant.ConstantKind.TheVariants as constant
use Rattle.plan_notation.specs.declared.wanted.Wanted.{Wanted}
use Rattle.plan_notation.specs.declared.wanted.Wanted.TheVariants as wanted
use Rattle.plan_notation.specs.Assembled.{node_json}
use Rattle.plan_notation.specs.Grammar.{fewest, has_brackets, wanted_by_node}
use Rattle.plan_notation.specs.Machine.{allows}
use Rattle.plan_notation.specs.NodeTokens.{Done, later_nodes, node_words, nodes_words, words_at}
use Rattle.plan_notation.specs.Tokens.{constant_word, constants_words, count_word, job_words, text_word}
use Rattle.notation_laws.proofs.Arguments.{IsPlain}
use Rattle.notation_laws.proofs.Begins.{BeginsAs, bare_run}
use Rattle.notation_laws.proofs.Constants.{count_token, text_token}
use Rattle.notation_laws.proofs.JobRun.{HasTokens, word_of}
use Rattle.notation_laws.proofs.JobSteps.{job_wanted}
use Rattle.notation_laws.proofs.JobTokens.{element_lawful, element_named, has_tokens}
use Rattle.notation_laws.proofs.Names.{error_name_utf8}
use Rattle.notation_laws.proofs.NodeRuns.{ChildIsRead, ahead_body, constants_body, job_body, let_body, senders_body, starts_on_body, word_body}
use Rattle.notation_laws.proofs.NodeTexts as text
use Rattle.notation_laws.proofs.Senders.{AdaptsAs, IsRead, bare_over_run, begun_run, over_run, read_as, read_lower}
use Rattle.notation_laws.proofs.Words.{IsArgumentToken, constant_read, context_read, kind_read, query_read}

module _ (done : Done) (value : ℕ → Data) (height : ℕ) (shallow : height < MOST_DEPTH) where
  abbrev text_of : ℕ → List ℕ
  text_of child = compact_text (value child)

  abbrev Child : ℕ → Type 0
  Child = ChildIsRead done value height

  -- an error's name
  error_read : (name : List ℕ) → is_error_name name ≡ true → IsArgumentToken wanted.Text (text_word name) (text_word name)
  error_read name is =
      constant_read wanted.Text (text_word name) constant.Text refl (text_token name (error_name_utf8 name is)) refl

  -- a leaf with one argument
  leaf_run : (w : List ℕ) (word : NodeWord) → BeginsAs w word → has_brackets word ≡ true → (want : Wanted) → IsPlain want
      → wanted_by_node word 0 ≡ Some want → nat_lt 1 (fewest word) ≡ false → (t text : List ℕ) → IsArgumentToken want t text
      → IsRead (w ∷ codes "(" ∷ t ∷ codes ")" ∷ []) (node_json word [] (text ∷ [])) (height + 1)
  leaf_run w word is brackets want plain wants many t text token =
      begun_run w word is brackets height (t ∷ []) (text ∷ [])
      (word_body word [] height shallow want plain wants many t text token)

  -- over a sender, with one argument
  one_run : (child : ℕ) → Child child → (w : List ℕ) (word : NodeWord) → AdaptsAs w word → has_brackets word ≡ true → (want : Wanted) → IsPlain want
      → wanted_by_node word 0 ≡ Some want → nat_lt 1 (fewest word) ≡ false → (t text : List ℕ) → IsArgumentToken want t text
      → IsRead (words_at done child ++ codes "|" ∷ w ∷ codes "(" ∷ t ∷ codes ")" ∷ []) (node_json word (text_of child) (text ∷ [])) (height + 1)
  one_run child read w word is brackets want plain wants many t text token =
      over_run (words_at done child) (text_of child) height read w word is brackets (t ∷ []) (text ∷ [])
      (λ c. word_body word c height shallow want plain wants many t text token)

  -- over a sender, with a job
  work_run : (child : ℕ) → Child child → (w : List ℕ) (word : NodeWord) → AdaptsAs w word → has_brackets word ≡ true → (elements : Bool) (job : Job)
      → wanted_by_node word 0 ≡ Some (job_wanted elements) → nat_lt 1 (fewest word) ≡ false
      → HasTokens job → allows (job_wanted elements) (word_of job) ≡ true
      → IsRead (words_at done child ++ codes "|" ∷ w ∷ codes "(" ∷ (job_words job ++ codes ")" ∷ []))
      (node_json word (text_of child) (compact_text (job_data job) ∷ [])) (height + 1)
  work_run child read w word is brackets elements job wants many has allowed =
      over_run (words_at done child) (text_of child) height read w word is brackets (job_words job) (compact_text (job_data job) ∷ [])
      (λ c. job_body word c height shallow elements job wants many has allowed)

  -- over a sender, with a pick and bodies
  bound_run : (child : ℕ) (bodies : List ℕ) → All Child (child ∷ bodies) → (w : List ℕ) (word : LetWord) → AdaptsAs w (node.Let word)
      → (pick : Job) → HasTokens pick
      → IsRead (words_at done child ++ codes "|" ∷ w ∷ codes "(" ∷ ((job_words pick ++ later_nodes done bodies) ++ codes ")" ∷ []))
      (node_json (node.Let word) (text_of child) (compact_text (job_data pick) ∷ map text_of bodies)) (height + 1)
  bound_run child bodies are w word is pick has =
      over_run (words_at done child) (text_of child) height (All-head Child child bodies are) w (node.Let word) is refl
      (job_words pick ++ later_nodes done bodies) (compact_text (job_data pick) ∷ map text_of bodies)
      (λ c. let_body done value word c height shallow pick has bodies (All-tail Child child bodies are))

  abbrev Reads : Node → Type 0
  Reads n = IsRead (node_words done n) (compact_text (node_object n value)) (height + 1)

  read_input : Reads n.Input
  unfolding escape_byte
  read_input = read_lower (codes "input" ∷ []) (codes "{\"do\":\"input\"}") 1 (height + 1) (omega arith) (λ said frames s c. c.input)

  read_just_stopped : Reads n.JustStopped
  unfolding escape_byte
  read_just_stopped =
      read_lower (codes "just_stopped" ∷ []) (codes "{\"do\":\"just_stopped\"}") 1 (height + 1) (omega arith)
      (λ said frames s c. bare_run said c.e c.sender frames c.cs c.spots s c.begins (codes "just_stopped") (node.Leaf leaf.JustStopped)
      (record { ascii = refl; no_setting = refl; no_close = refl; named = refl; begins = refl }) refl)

  pub node_read : (n : Node) → MeetsConditions n → IsHeldNode n → All Child (named_by n) → Reads n
  node_read n.Input meets held are = read_input
  node_read (n.Just values) meets held are =
      read_as (node_words done (n.Just values)) (compact_text (node_object (n.Just values) value)) _ (height + 1) (text.just_text value values)
      (begun_run (codes "just") (node.Leaf leaf.Just) (record { ascii = refl; no_setting = refl; no_close = refl; named = refl; begins = refl }) refl height
      (constants_words values) (map constant_word values) (constants_body height shallow values meets held.each))
  node_read (n.JustError error) meets held are =
      read_as (node_words done (n.JustError error)) (compact_text (node_object (n.JustError error) value)) _ (height + 1) (text.just_error_text value error)
      (leaf_run (codes "just_error") (node.Leaf leaf.JustError) (record { ascii = refl; no_setting = refl; no_close = refl; named = refl; begins = refl }) refl
      wanted.Text (λ f w at s. refl) refl refl (text_word error) (text_word error) (error_read error meets))
  node_read n.JustStopped meets held are = read_just_stopped
  node_read (n.Schedule on) meets held are =
      read_as (node_words done (n.Schedule on)) (compact_text (node_object (n.Schedule on) value)) _ (height + 1) (text.schedule_text value on)
      (leaf_run (codes "schedule") (node.Leaf leaf.Schedule) (record { ascii = refl; no_setting = refl; no_close = refl; named = refl; begins = refl }) refl
      wanted.Context (λ f w at s. refl) refl refl (context_name on) (text.word_json_of (context_name on)) (context_read on))
  node_read (n.Delay turns) meets held are =
      read_as (node_words done (n.Delay turns)) (compact_text (node_object (n.Delay turns) value)) _ (height + 1) (text.delay_text value turns)
      (leaf_run (codes "delay") (node.Leaf leaf.Delay) (record { ascii = refl; no_setting = refl; no_close = refl; named = refl; begins = refl }) refl
      wanted.Number (λ f w at s. refl) refl refl (count_word turns) (count_word turns)
      (constant_read wanted.Number (count_word turns) constant.Number refl (count_token turns (omega (arith, meets))) refl))
  node_read (n.ReadEnv query) meets held are =
      read_as (node_words done (n.ReadEnv query)) (compact_text (node_object (n.ReadEnv query) value)) _ (height + 1) (text.read_env_text value query)
      (leaf_run (codes "read_env") (node.Leaf leaf.ReadEnv) (record { ascii = refl; no_setting = refl; no_close = refl; named = refl; begins = refl }) refl
      wanted.Query (λ f w at s. refl) refl refl (query_name query) (text.word_json_of (query_name query)) (query_read query))
  node_read (n.Then child job) meets held are =
      read_as (node_words done (n.Then child job)) (compact_text (node_object (n.Then child job) value)) _ (height + 1) (text.then_text value child job)
      (work_run child (All-head Child child [] are) (codes "then") (node.Adaptor adaptor.Then) (record { ascii = refl; named = refl; begins = refl }) refl
      false job refl refl (has_tokens job meets held) refl)
  node_read (n.UponError child job) meets held are =
      read_as (node_words done (n.UponError child job)) (compact_text (node_object (n.UponError child job) value)) _ (height + 1) (text.upon_error_text value child job)
      (work_run child (All-head Child child [] are) (codes "upon_error") (node.Adaptor adaptor.UponError) (record { ascii = refl; named = refl; begins = refl }) refl
      false job refl refl (has_tokens job meets held) refl)
  node_read (n.UponStopped child job) meets held are =
      read_as (node_words done (n.UponStopped child job)) (compact_text (node_object (n.UponStopped child job) value)) _ (height + 1) (text.upon_stopped_text value child job)
      (work_run child (All-head Child child [] are) (codes "upon_stopped") (node.Adaptor adaptor.UponStopped) (record { ascii = refl; named = refl; begins = refl }) refl
      false job refl refl (has_tokens job meets held) refl)
  node_read (n.LetValue child pick bodies) meets held are =
      read_as (node_words done (n.LetValue child pick bodies)) (compact_text (node_object (n.LetValue child pick bodies) value)) _ (height + 1) (text.let_value_text value child pick bodies)
      (bound_run child bodies are (codes "let_value") lets.Value (record { ascii = refl; named = refl; begins = refl }) pick (has_tokens pick meets held))
  node_read (n.LetError child pick bodies) meets held are =
      read_as (node_words done (n.LetError child pick bodies)) (compact_text (node_object (n.LetError child pick bodies) value)) _ (height + 1) (text.let_error_text value child pick bodies)
      (bound_run child bodies are (codes "let_error") lets.Error (record { ascii = refl; named = refl; begins = refl }) pick (has_tokens pick meets held))
  node_read (n.LetStopped child pick bodies) meets held are =
      read_as (node_words done (n.LetStopped child pick bodies)) (compact_text (node_object (n.LetStopped child pick bodies) value)) _ (height + 1) (text.let_stopped_text value child pick bodies)
      (bound_run child bodies are (codes "let_stopped") lets.Stopped (record { ascii = refl; named = refl; begins = refl }) pick (has_tokens pick meets held))
  node_read (n.StartsOn on child) meets held are =
      read_as (node_words done (n.StartsOn on child)) (compact_text (node_object (n.StartsOn on child) value)) _ (height + 1) (text.starts_on_text value on child)
      (begun_run (codes "starts_on") (node.Adaptor adaptor.StartsOn) (record { ascii = refl; no_setting = refl; no_close = refl; named = refl; begins = refl }) refl height
      (context_name on ∷ codes "," ∷ words_at done child) (text.word_json_of (context_name on) ∷ text_of child ∷ [])
      (starts_on_body done value height shallow (context_name on) (text.word_json_of (context_name on)) (context_read on) child (All-head Child child [] are)))
  node_read (n.ContinuesOn child on) meets held are =
      read_as (node_words done (n.ContinuesOn child on)) (compact_text (node_object (n.ContinuesOn child on) value)) _ (height + 1) (text.continues_on_text value child on)
      (one_run child (All-head Child child [] are) (codes "continues_on") (node.Adaptor adaptor.ContinuesOn) (record { ascii = refl; named = refl; begins = refl }) refl
      wanted.Context (λ f w at s. refl) refl refl (context_name on) (text.word_json_of (context_name on)) (context_read on))
  node_read (n.StoppedAsOptional child of) meets held are =
      read_as (node_words done (n.StoppedAsOptional child of)) (compact_text (node_object (n.StoppedAsOptional child of) value)) _ (height + 1) (text.stopped_as_optional_text value child of)
      (one_run child (All-head Child child [] are) (codes "stopped_as_optional") (node.Adaptor adaptor.StoppedAsOptional) (record { ascii = refl; named = refl; begins = refl }) refl
      wanted.Kind (λ f w at s. refl) refl refl (kind_name of) (text.word_json_of (kind_name of)) (kind_read of meets))
  node_read (n.StoppedAsError child error) meets held are =
      read_as (node_words done (n.StoppedAsError child error)) (compact_text (node_object (n.StoppedAsError child error) value)) _ (height + 1) (text.stopped_as_error_text value child error)
      (one_run child (All-head Child child [] are) (codes "stopped_as_error") (node.Adaptor adaptor.StoppedAsError) (record { ascii = refl; named = refl; begins = refl }) refl
      wanted.Text (λ f w at s. refl) refl refl (text_word error) (text_word error) (error_read error meets))
  node_read (n.Bulk child job) meets held are =
      read_as (node_words done (n.Bulk child job)) (compact_text (node_object (n.Bulk child job) value)) _ (height + 1) (text.bulk_text value child job)
      (work_run child (All-head Child child [] are) (codes "bulk") node.Bulk (record { ascii = refl; named = refl; begins = refl }) refl
      true job refl refl (has_tokens job (element_lawful job meets) held) (element_named job meets))
  node_read (n.WhenAll children) meets held are =
      read_as (node_words done (n.WhenAll children)) (compact_text (node_object (n.WhenAll children) value)) _ (height + 1) (text.when_all_text value children)
      (begun_run (codes "when_all") node.WhenAll (record { ascii = refl; no_setting = refl; no_close = refl; named = refl; begins = refl }) refl height
      (nodes_words done children) (map text_of children) (senders_body done value height shallow children are))
  node_read (n.Part bulk part) meets held are = absurd meets
  node_read (n.Unstoppable child) meets held are =
      read_as (node_words done (n.Unstoppable child)) (compact_text (node_object (n.Unstoppable child) value)) _ (height + 1) (text.unstoppable_text value child)
      (bare_over_run (words_at done child) (text_of child) height shallow (All-head Child child [] are) (codes "unstoppable") (node.Adaptor adaptor.Unstoppable)
      (record { ascii = refl; named = refl; begins = refl }) refl)
  node_read (n.Ahead first second) meets held are =
      read_as (node_words done (n.Ahead first second)) (compact_text (node_object (n.Ahead first second) value)) _ (height + 1) (text.ahead_text value first second)
      (begun_run (codes "ahead") node.Ahead (record { ascii = refl; no_setting = refl; no_close = refl; named = refl; begins = refl }) refl height
      (words_at done first ++ codes "," ∷ words_at done second) (text_of first ∷ text_of second ∷ [])
      (ahead_body done value height shallow first second (All-head Child first (second ∷ []) are)
      (All-head Child second [] (All-tail Child first (second ∷ []) are))))
