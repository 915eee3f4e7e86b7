-- The tokens of nodes are tokens.
use Rattle.std.proofs.Common.{◌≡◌, ℕ, zero, suc, Bool, true, List, [], ◌∷◌, ◌++◌, codes, refl}
use Rattle.std.specs.List.{list_all}
use Rattle.std.proofs.lemmas.Bool.{and_from, and_parts, or_left}
use Rattle.exec_value.specs.declared.data.Datum.{Datum}
use Rattle.exec_job.specs.declared.job.Job.{Job}
use Rattle.plan_rules.specs.declared.node.Node.{Node}
use Rattle.plan_rules.specs.declared.node.Node.TheVariants.{Input, Just, JustError, JustStopped, Schedule, Delay, ReadEnv, Then, UponError, UponStopped, LetValue, LetError, LetStopped, StartsOn, ContinuesOn, StoppedAsOptional, StoppedAsError, Bulk, WhenAll, Part, Unstoppable, Ahead}
use Rattle.plan_writer.specs.Nodes.{context_name, kind_name, query_name}
use Rattle.plan_words.specs.Wholes.{is_sign, is_token, is_whole}
use Rattle.plan_words.proofs.Numerals.{decimal_whole}
use Rattle.plan_notation.specs.NodeTokens.{Done, all_words, in_brackets, later_nodes, let_words, node_words, nodes_words, behind_child, words_at, words_from}
use Rattle.plan_notation.specs.Tokens.{constant_word, constants_words, count_word, job_words, later_constants, text_word}
use Rattle.plan_notation.proofs.WholeWords.{both_all, constant_whole, context_whole, job_whole, kind_whole, query_whole, quoted_whole}

whole_tokens : (words : List (List ℕ)) → list_all is_whole words ≡ true → list_all is_token words ≡ true
whole_tokens [] h = refl
whole_tokens (w ∷ words) h =
    let is = and_parts (is_whole w) (list_all is_whole words) h in
    and_from (is_token w) (list_all is_token words) (or_left (is_whole w) (is_sign w) is.0) (whole_tokens words is.1)

abbrev AreTokens : List (List ℕ) → Type 0
AreTokens words = list_all is_token words ≡ true

abbrev areDone : List (List (List ℕ)) → Bool
areDone = list_all (list_all is_token)

at_tokens : (done : Done) (n : ℕ) → areDone done ≡ true → AreTokens (words_at done n)
at_tokens [] n h = refl
at_tokens (ws ∷ done) zero h = (and_parts (list_all is_token ws) (areDone done) h).0
at_tokens (ws ∷ done) (suc n) h = at_tokens done n (and_parts (list_all is_token ws) (areDone done) h).1

later_tokens : (done : Done) (ns : List ℕ) → areDone done ≡ true → AreTokens (later_nodes done ns)
later_tokens done [] h = refl
later_tokens done (n ∷ ns) h =
    both_all is_token (codes "," ∷ words_at done n) (later_nodes done ns) (at_tokens done n h) (later_tokens done ns h)

nodes_tokens : (done : Done) (ns : List ℕ) → areDone done ≡ true → AreTokens (nodes_words done ns)
nodes_tokens done [] h = refl
nodes_tokens done (n ∷ ns) h =
    both_all is_token (words_at done n) (later_nodes done ns) (at_tokens done n h) (later_tokens done ns h)

bracketed_tokens : (name : List ℕ) (arguments : List (List ℕ)) → is_whole name ≡ true → AreTokens arguments → AreTokens (in_brackets name arguments)
bracketed_tokens name arguments h k =
    and_from (is_token name) (list_all is_token (codes "(" ∷ (arguments ++ codes ")" ∷ []))) (or_left (is_whole name) (is_sign name) h)
    (both_all is_token arguments (codes ")" ∷ []) k refl)

one_token : (word : List ℕ) → is_whole word ≡ true → AreTokens (word ∷ [])
one_token word h = and_from (is_token word) true (or_left (is_whole word) (is_sign word) h) refl

over_tokens : (done : Done) (child : ℕ) (words : List (List ℕ)) → areDone done ≡ true → AreTokens words → AreTokens (behind_child done child words)
over_tokens done child words h k = both_all is_token (words_at done child) (codes "|" ∷ words) (at_tokens done child h) k

job_tokens : (job : Job) → AreTokens (job_words job)
job_tokens job = whole_tokens (job_words job) (job_whole job)

let_tokens : (done : Done) (child : ℕ) (name : List ℕ) (pick : Job) (bodies : List ℕ) → areDone done ≡ true → is_whole name ≡ true
    → AreTokens (let_words done child name (job_words pick) bodies)
let_tokens done child name pick bodies h k =
    over_tokens done child (in_brackets name (job_words pick ++ later_nodes done bodies)) h
    (bracketed_tokens name (job_words pick ++ later_nodes done bodies) k (both_all is_token (job_words pick) (later_nodes done bodies) (job_tokens pick) (later_tokens done bodies h)))

later_constants_tokens : (values : List Datum) → AreTokens (later_constants values)
later_constants_tokens [] = refl
later_constants_tokens (d ∷ values) =
    and_from (is_token (constant_word d)) (list_all is_token (later_constants values)) (or_left (is_whole (constant_word d)) (is_sign (constant_word d)) (constant_whole d))
    (later_constants_tokens values)

constants_tokens : (values : List Datum) → AreTokens (constants_words values)
constants_tokens [] = refl
constants_tokens (d ∷ values) =
    and_from (is_token (constant_word d)) (list_all is_token (later_constants values)) (or_left (is_whole (constant_word d)) (is_sign (constant_word d)) (constant_whole d))
    (later_constants_tokens values)

over_job : (done : Done) (child : ℕ) (name : List ℕ) (job : Job) → areDone done ≡ true → is_whole name ≡ true
    → AreTokens (behind_child done child (in_brackets name (job_words job)))
over_job done child name job h k = over_tokens done child (in_brackets name (job_words job)) h (bracketed_tokens name (job_words job) k (job_tokens job))

over_word : (done : Done) (child : ℕ) (name word : List ℕ) → areDone done ≡ true → is_whole name ≡ true → is_whole word ≡ true
    → AreTokens (behind_child done child (in_brackets name (word ∷ [])))
over_word done child name word h k w = over_tokens done child (in_brackets name (word ∷ [])) h (bracketed_tokens name (word ∷ []) k (one_token word w))

node_tokens : (done : Done) (node : Node) → areDone done ≡ true → AreTokens (node_words done node)
node_tokens done Input h = refl
node_tokens done (Just values) h = bracketed_tokens (codes "just") (constants_words values) refl (constants_tokens values)
node_tokens done (JustError error) h =
    bracketed_tokens (codes "just_error") (text_word error ∷ []) refl (one_token (text_word error) (quoted_whole error))
node_tokens done JustStopped h = refl
node_tokens done (Schedule on) h =
    bracketed_tokens (codes "schedule") (context_name on ∷ []) refl (one_token (context_name on) (context_whole on))
node_tokens done (Delay turns) h =
    bracketed_tokens (codes "delay") (count_word turns ∷ []) refl (one_token (count_word turns) (decimal_whole turns))
node_tokens done (ReadEnv query) h =
    bracketed_tokens (codes "read_env") (query_name query ∷ []) refl (one_token (query_name query) (query_whole query))
node_tokens done (Then child job) h = over_job done child (codes "then") job h refl
node_tokens done (UponError child job) h = over_job done child (codes "upon_error") job h refl
node_tokens done (UponStopped child job) h = over_job done child (codes "upon_stopped") job h refl
node_tokens done (LetValue child pick bodies) h = let_tokens done child (codes "let_value") pick bodies h refl
node_tokens done (LetError child pick bodies) h = let_tokens done child (codes "let_error") pick bodies h refl
node_tokens done (LetStopped child pick bodies) h = let_tokens done child (codes "let_stopped") pick bodies h refl
node_tokens done (StartsOn on child) h =
    bracketed_tokens (codes "starts_on") (context_name on ∷ codes "," ∷ words_at done child) refl
    (and_from (is_token (context_name on)) (list_all is_token (codes "," ∷ words_at done child)) (or_left (is_whole (context_name on)) (is_sign (context_name on)) (context_whole on))
    (at_tokens done child h))
node_tokens done (ContinuesOn child on) h = over_word done child (codes "continues_on") (context_name on) h refl (context_whole on)
node_tokens done (StoppedAsOptional child of) h =
    over_word done child (codes "stopped_as_optional") (kind_name of) h refl (kind_whole of)
node_tokens done (StoppedAsError child error) h =
    over_word done child (codes "stopped_as_error") (text_word error) h refl (quoted_whole error)
node_tokens done (Bulk child job) h = over_job done child (codes "bulk") job h refl
node_tokens done (WhenAll children) h =
    bracketed_tokens (codes "when_all") (nodes_words done children) refl (nodes_tokens done children h)
node_tokens done (Part bulk part) h = refl
node_tokens done (Unstoppable child) h = over_tokens done child (codes "unstoppable" ∷ []) h refl
node_tokens done (Ahead first second) h =
    bracketed_tokens (codes "ahead") (words_at done first ++ codes "," ∷ words_at done second) refl
    (both_all is_token (words_at done first) (codes "," ∷ words_at done second) (at_tokens done first h) (at_tokens done second h))

from_tokens : (nodes : List Node) (done : Done) → areDone done ≡ true → areDone (words_from nodes done) ≡ true
from_tokens [] done h = h
from_tokens (node ∷ nodes) done h =
    from_tokens nodes (done ++ node_words done node ∷ [])
    (both_all (list_all is_token) done (node_words done node ∷ []) h
    (and_from (list_all is_token (node_words done node)) true (node_tokens done node h) refl))

pub nodes_are_tokens : (nodes : List Node) (n : ℕ) → list_all is_token (words_at (all_words nodes) n) ≡ true
nodes_are_tokens nodes n = at_tokens (all_words nodes) n (from_tokens nodes [] refl)
