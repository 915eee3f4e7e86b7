-- The tokens of a node are read as its JSON, if those of the nodes below it are.
use Rattle.std.proofs.Common.{◌≡◌, ℕ, ◌<◌, ◌≤◌, Bool, true, false, List, [], ◌∷◌, ◌++◌, All, length, map, Some, codes, cond, nat_lt, append_assoc, refl, ap, arith}
use Rattle.std.proofs.lemmas.Bool.{le-ltb, ne_eqb}
use Rattle.std.proofs.lemmas.List.Elements.{All-head, All-tail}
use Rattle.serde_json.specs.Data.{Data}
use Rattle.serde_json.specs.Written.{compact_text}
use Rattle.exec_value.specs.Kinds.{IsConstant}
use Rattle.exec_value.specs.declared.data.Datum.{Datum}
use Rattle.exec_job.specs.declared.job.Job.{Job}
use Rattle.plan_shape.specs.declared.limits.TheConstants.{MOST_DEPTH}
use Rattle.plan_reader.specs.declared.node_word.Adaptor.TheVariants as adaptor
use Rattle.plan_reader.specs.declared.node_word.Leaf.TheVariants as leaf
use Rattle.plan_reader.specs.declared.node_word.Let.{Let as LetWord}
use Rattle.plan_reader.specs.declared.node_word.NodeWord.{NodeWord}
use Rattle.plan_reader.specs.declared.node_word.NodeWord.TheVariants as node
use Rattle.plan_writer.specs.Held.{IsHeldDatum}
use Rattle.plan_writer.specs.Jobs.{job_data}
use Rattle.plan_notation.specs.declared.machine.Expect.TheVariants as expect
use Rattle.plan_notation.specs.declared.wanted.Wanted.{Wanted}
use Rattle.plan_notation.specs.declared.wanted.Wanted.TheVariants as wanted
use Rattle.plan_notation.specs.Grammar.{fewest, wanted_by_node}
use Rattle.plan_notation.specs.Machine.{allows}
use Rattle.plan_notation.specs.NodeTokens.{Done, later_nodes, nodes_words, words_at}
use Rattle.plan_notation.specs.Tokens.{constant_word, constants_words, job_words}
use Rattle.notation_laws.proofs.Arguments.{AreArguments, IsPlain, all_run, closing_run, items_words, plain_next}
use Rattle.notation_laws.proofs.Constants.{constant_token}
use Rattle.notation_laws.proofs.JobRun.{HasTokens, word_of}
use Rattle.notation_laws.proofs.JobSteps.{job_wanted}
use Rattle.notation_laws.proofs.Places.{Argued, Closed, Place, Within}
use Rattle.notation_laws.proofs.Runs.{leads_more, leads_on, leads_one, leads_same}
use Rattle.notation_laws.proofs.Senders.{IsBody, IsRead, job_next, place, sender_next}
use Rattle.notation_laws.proofs.Words.{IsArgumentToken, constant_read}

-- behind a pick come senders
sender_behind : (word : LetWord) (count : ℕ) → 1 ≤ count → wanted_by_node (node.Let word) count ≡ Some wanted.Sender
sender_behind word count some =
    ap (λ (q : Bool). Some (cond q wanted.Job wanted.Sender)) (ne_eqb count 0 (λ none. omega (arith, none, some)))

-- ---- what stands in brackets

-- one token
pub word_body : (word : NodeWord) (child : List ℕ) (height : ℕ) → height < MOST_DEPTH → (want : Wanted) → IsPlain want
    → wanted_by_node word 0 ≡ Some want → nat_lt 1 (fewest word) ≡ false → (w text : List ℕ) → IsArgumentToken want w text
    → IsBody word child height (w ∷ []) (text ∷ [])
word_body word child height shallow want plain wants many w text is said frames m within =
    let p = place said frames word child height in
    leads_on (w ∷ []) (codes ")" ∷ []) m (Argued p (text ∷ [])) (Closed p (text ∷ []))
    (plain_next p want w text plain is.no_close is.read true [] m wants within)
    (λ m1 next. leads_one (codes ")") m1 (Closed p (text ∷ [])) (next.close (record { many = many; shallow = shallow })))

-- a job
pub job_body : (word : NodeWord) (child : List ℕ) (height : ℕ) → height < MOST_DEPTH → (elements : Bool) (job : Job)
    → wanted_by_node word 0 ≡ Some (job_wanted elements) → nat_lt 1 (fewest word) ≡ false
    → HasTokens job → allows (job_wanted elements) (word_of job) ≡ true
    → IsBody word child height (job_words job) (compact_text (job_data job) ∷ [])
job_body word child height shallow elements job wants many has allowed said frames m within =
    let p = place said frames word child height in
    let args = compact_text (job_data job) ∷ [] in
    leads_on (job_words job) (codes ")" ∷ []) m (Argued p args) (Closed p args)
    (job_next p elements job has allowed wants m within)
    (λ m1 next. leads_one (codes ")") m1 (Closed p args) (next.close (record { many = many; shallow = shallow })))

-- constants
constants_are : (p : Place) → p.word ≡ node.Leaf leaf.Just → (values : List Datum) → All IsConstant values → All IsHeldDatum values
    → AreArguments p 0 (λ d. constant_word d ∷ []) constant_word values
constants_are p is [] are held = tt
constants_are p is (d ∷ values) are held =
    let c = constant_token d (All-head IsConstant d values are) (All-head IsHeldDatum d values held) in
    let at = constant_read wanted.Constant (constant_word d) c.0 refl c.1 refl in (
      λ first arguments m some within. plain_next p wanted.Constant (constant_word d) (constant_word d) (λ f w at' s. refl) at.no_close at.read
          first arguments m (ap (λ (w : NodeWord). wanted_by_node w (length arguments)) is) within,
      constants_are p is values (All-tail IsConstant d values are) (All-tail IsHeldDatum d values held),
    )

constants_items : (values : List Datum) → constants_words values ≡ items_words (λ d. constant_word d ∷ []) values
constants_items [] = refl
constants_items (d ∷ values) = refl

pub constants_body : (height : ℕ) → height < MOST_DEPTH → (values : List Datum) → All IsConstant values → All IsHeldDatum values
    → IsBody (node.Leaf leaf.Just) [] height (constants_words values) (map constant_word values)
constants_body height shallow values are held said frames m within =
    let p = place said frames (node.Leaf leaf.Just) [] height in
    leads_same (constants_words values ++ codes ")" ∷ []) _ m (Closed p (map constant_word values)) (ap (λ (ws : List (List ℕ)). ws ++ codes ")" ∷ []) (constants_items values))
    (all_run p 0 (λ d. constant_word d ∷ []) constant_word values (constants_are p refl values are held) m (omega arith)
    (record { many = le-ltb (length (map constant_word values)) 0 (omega arith); shallow = shallow }) within)

-- ---- senders

module _ (done : Done) (value : ℕ → Data) where
  abbrev pub ChildIsRead : ℕ → ℕ → Type 0
  ChildIsRead height child = IsRead (words_at done child) (compact_text (value child)) height

  abbrev text_of : ℕ → List ℕ
  text_of child = compact_text (value child)

  -- as arguments of a node that takes them behind so many
  senders_are : (p : Place) (least : ℕ) → ((count : ℕ) → least ≤ count → wanted_by_node p.word count ≡ Some wanted.Sender)
      → (children : List ℕ) → All (ChildIsRead p.height) children → AreArguments p least (words_at done) text_of children
  senders_are p least wants [] are = tt
  senders_are p least wants (c ∷ children) are = (
    λ first arguments m some within. sender_next p (words_at done c) (text_of c) (All-head (ChildIsRead p.height) c children are)
        first arguments m (wants (length arguments) some) within,
    senders_are p least wants children (All-tail (ChildIsRead p.height) c children are),
  )

  nodes_items : (children : List ℕ) → nodes_words done children ≡ items_words (words_at done) children
  nodes_items [] = refl
  nodes_items (c ∷ children) = refl

  pub senders_body : (height : ℕ) → height < MOST_DEPTH → (children : List ℕ) → All (ChildIsRead height) children
      → IsBody node.WhenAll [] height (nodes_words done children) (map text_of children)
  senders_body height shallow children are said frames m within =
      let p = place said frames node.WhenAll [] height in
      leads_same (nodes_words done children ++ codes ")" ∷ []) _ m (Closed p (map text_of children)) (ap (λ (ws : List (List ℕ)). ws ++ codes ")" ∷ []) (nodes_items children))
      (all_run p 0 (words_at done) text_of children (senders_are p 0 (λ count some. refl) children are) m (omega arith)
      (record { many = le-ltb (length (map text_of children)) 0 (omega arith); shallow = shallow }) within)

  pub let_body : (word : LetWord) (child : List ℕ) (height : ℕ) → height < MOST_DEPTH → (pick : Job) → HasTokens pick
      → (bodies : List ℕ) → All (ChildIsRead height) bodies
      → IsBody (node.Let word) child height (job_words pick ++ later_nodes done bodies) (compact_text (job_data pick) ∷ map text_of bodies)
  let_body word child height shallow pick has bodies are said frames m within =
      let p = place said frames (node.Let word) child height in
      let args = compact_text (job_data pick) ∷ [] in
      let Q = Closed p (compact_text (job_data pick) ∷ map text_of bodies) in
      leads_same ((job_words pick ++ later_nodes done bodies) ++ codes ")" ∷ []) (job_words pick ++ (later_nodes done bodies ++ codes ")" ∷ [])) m Q
      (append_assoc (job_words pick) (later_nodes done bodies) (codes ")" ∷ []))
      (leads_on (job_words pick) (later_nodes done bodies ++ codes ")" ∷ []) m (Argued p args) Q
      (job_next p false pick has refl refl m within)
      (λ m1 next. closing_run p 1 (words_at done) text_of bodies (senders_are p 1 (sender_behind word) bodies are) args m1 (omega arith)
      (record { many = le-ltb (length (compact_text (job_data pick) ∷ map text_of bodies)) 1 (omega arith); shallow = shallow }) next))

  pub ahead_body : (height : ℕ) → height < MOST_DEPTH → (first second : ℕ) → ChildIsRead height first → ChildIsRead height second
      → IsBody node.Ahead [] height (words_at done first ++ codes "," ∷ words_at done second) (text_of first ∷ text_of second ∷ [])
  ahead_body height shallow first second one two said frames m within =
      let p = place said frames node.Ahead [] height in
      let Q = Closed p (text_of first ∷ text_of second ∷ []) in
      leads_same ((words_at done first ++ codes "," ∷ words_at done second) ++ codes ")" ∷ []) (words_at done first ++ codes "," ∷ (words_at done second ++ codes ")" ∷ [])) m Q
      (append_assoc (words_at done first) (codes "," ∷ words_at done second) (codes ")" ∷ []))
      (leads_on (words_at done first) (codes "," ∷ (words_at done second ++ codes ")" ∷ [])) m (Argued p (text_of first ∷ [])) Q
      (sender_next p (words_at done first) (text_of first) one true [] m refl within)
      (λ m1 next. leads_more (codes ",") (words_at done second ++ codes ")" ∷ []) m1 (Within p expect.Argument (text_of first ∷ [])) Q next.comma
      (λ m2 w. leads_on (words_at done second) (codes ")" ∷ []) m2 (Argued p (text_of first ∷ text_of second ∷ [])) Q
      (sender_next p (words_at done second) (text_of second) two false (text_of first ∷ []) m2 refl w)
      (λ m3 last. leads_one (codes ")") m3 Q (last.close (record { many = refl; shallow = shallow }))))))

  pub starts_on_body : (height : ℕ) → height < MOST_DEPTH → (w text : List ℕ) → IsArgumentToken wanted.Context w text
      → (child : ℕ) → ChildIsRead height child
      → IsBody (node.Adaptor adaptor.StartsOn) [] height (w ∷ codes "," ∷ words_at done child) (text ∷ text_of child ∷ [])
  starts_on_body height shallow w text is child read said frames m within =
      let p = place said frames (node.Adaptor adaptor.StartsOn) [] height in
      let Q = Closed p (text ∷ text_of child ∷ []) in
      leads_on (w ∷ []) (codes "," ∷ (words_at done child ++ codes ")" ∷ [])) m (Argued p (text ∷ [])) Q
      (plain_next p wanted.Context w text (λ f w' at s. refl) is.no_close is.read true [] m refl within)
      (λ m1 next. leads_more (codes ",") (words_at done child ++ codes ")" ∷ []) m1 (Within p expect.Argument (text ∷ [])) Q next.comma
      (λ m2 w2. leads_on (words_at done child) (codes ")" ∷ []) m2 (Argued p (text ∷ text_of child ∷ [])) Q
      (sender_next p (words_at done child) (text_of child) read false (text ∷ []) m2 refl w2)
      (λ m3 last. leads_one (codes ")") m3 Q (last.close (record { many = refl; shallow = shallow })))))
