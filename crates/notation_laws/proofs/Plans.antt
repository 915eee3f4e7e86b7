-- The tokens of each node of a plan are read as its JSON.
use Rattle.std.specs.Prelude.{slice_get}
use Rattle.std.proofs.Common.{◌≡◌, inl, inr, ℕ, zero, suc, ◌+◌, ◌-◌, ◌<◌, ◌≤◌, List, [], ◌∷◌, ◌++◌, All, length, Some, nat_lt, length-append, refl, sym, ap, subst, ◌∙◌, arith}
use Rattle.std.proofs.lemmas.Bool.{cases_Bool, ltb-false, ltb-true}
use Rattle.std.proofs.lemmas.List.Elements.{All-cons, All-head, All-nil, All-tail}
use Rattle.serde_json.specs.Written.{compact_text}
use Rattle.plan_rules.specs.Children.{named_by}
use Rattle.plan_rules.specs.declared.node.Node.{Node}
use Rattle.plan_shape.specs.Conditions.{MeetsConditions}
use Rattle.plan_shape.specs.Depths.{depth_of}
use Rattle.plan_shape.specs.declared.limits.TheConstants.{MOST_DEPTH}
use Rattle.plan_writer.specs.Held.{IsHeldNode}
use Rattle.plan_writer.specs.Nodes.{node_data, node_object}
use Rattle.plan_writer.specs.Order.{IsWritten}
use Rattle.plan_notation.specs.NodeTokens.{Done, all_words, node_words, words_at, words_from}
use Rattle.notation_laws.proofs.NodeRuns.{ChildIsRead}
use Rattle.notation_laws.proofs.Nodes.{node_read}
use Rattle.notation_laws.proofs.Senders.{IsRead, read_as, read_lower}

-- what is used of a plan's nodes
pub record AreNodes (nodes : List Node) : Type 0 where
  pub below : (n : ℕ) (node : Node) → slice_get nodes n ≡ Some node → All (λ c. IsWritten nodes c × (c < n)) (named_by node)
  pub deeper : (n : ℕ) (node : Node) → slice_get nodes n ≡ Some node → All (λ c. depth_of nodes c + 1 ≤ depth_of nodes n) (named_by node)
  pub shallow : (n : ℕ) (node : Node) → slice_get nodes n ≡ Some node → depth_of nodes n ≤ MOST_DEPTH
  pub deep : (n : ℕ) (node : Node) → slice_get nodes n ≡ Some node → 1 ≤ depth_of nodes n
  pub object : (n : ℕ) (node : Node) → slice_get nodes n ≡ Some node → node_data nodes n ≡ node_object node (node_data nodes)
  pub held : (n : ℕ) (node : Node) → slice_get nodes n ≡ Some node → IsHeldNode node

-- two lists of tokens
words_left : (done more : Done) (k : ℕ) → k < length done → words_at (done ++ more) k ≡ words_at done k
words_left [] more k h = absurd (omega arith)
words_left (x ∷ done) more zero h = refl
words_left (x ∷ done) more (suc k) h = words_left done more k (omega arith)

words_end : (done : Done) (x : List (List ℕ)) → words_at (done ++ x ∷ []) (length done) ≡ x
words_end [] x = refl
words_end (y ∷ done) x = words_end done x

All-both_weaker : (P Q R : ℕ → Type 0) → ((c : ℕ) → P c → Q c → R c) → (xs : List ℕ) → All P xs → All Q xs → All R xs
All-both_weaker P Q R f [] p q = All-nil R
All-both_weaker P Q R f (x ∷ xs) p q =
    All-cons R x xs (f x (All-head P x xs p) (All-head Q x xs q)) (All-both_weaker P Q R f xs (All-tail P x xs p) (All-tail Q x xs q))

-- the node that stands there
same_some : {A : Type 0} (a b : A) → Some a ≡ Some b → a ≡ b
same_some a b e = cc

module _ (nodes : List Node) (are : AreNodes nodes) where
  -- those that stand in the text are read
  abbrev AreDone : Done → Type 0
  AreDone done = (k : ℕ) → k < length done → IsWritten nodes k
      → IsRead (words_at done k) (compact_text (node_data nodes k)) (depth_of nodes k)

  -- the nodes below it are less high
  children : (done : Done) (node : Node) → AreDone done → slice_get nodes (length done) ≡ Some node
      → All (ChildIsRead done (node_data nodes) (depth_of nodes (length done) - 1)) (named_by node)
  children done node is at =
      let n = length done in
      let P = λ (c : ℕ). IsWritten nodes c × (c < n) in
      let Q = λ (c : ℕ). depth_of nodes c + 1 ≤ depth_of nodes n in
      All-both_weaker P Q (ChildIsRead done (node_data nodes) (depth_of nodes n - 1))
      (λ c p q. read_lower (words_at done c) (compact_text (node_data nodes c)) (depth_of nodes c) (depth_of nodes n - 1) (omega (arith, q))
      (is c p.1 p.0)) (named_by node) (are.below n node at) (are.deeper n node at)

  next_read : (done : Done) (node : Node) → AreDone done → slice_get nodes (length done) ≡ Some node → MeetsConditions node
      → IsRead (node_words done node) (compact_text (node_data nodes (length done))) (depth_of nodes (length done))
  next_read done node is at meets =
      let n = length done in
      let height = depth_of nodes n - 1 in
      let most = are.shallow n node at in
      let least = are.deep n node at in
      let low : height < MOST_DEPTH = omega (arith, most, least) in
      let words = node_words done node in
      let text = compact_text (node_object node (node_data nodes)) in
      read_as words (compact_text (node_data nodes n)) text (depth_of nodes n) (ap compact_text (are.object n node at))
      (read_lower words text (height + 1) (depth_of nodes n) (omega (arith, least))
      (node_read done (node_data nodes) height low node meets (are.held n node at) (children done node is at)))

  both_done : (done : Done) (node : Node) → AreDone done → slice_get nodes (length done) ≡ Some node
      → AreDone (done ++ node_words done node ∷ [])
  both_done done node is at k within written =
      elim (cases_Bool (nat_lt k (length done))) [
        | inl e ↦
            let before = ltb-true k (length done) e in
            subst (λ (ws : List (List ℕ)). IsRead ws (compact_text (node_data nodes k)) (depth_of nodes k))
            (sym (words_left done (node_words done node ∷ []) k before)) (is k before written)
        | inr e ↦
            let past = ltb-false k (length done) e in
            let here : length done ≡ k = omega (arith, past, within, length-append done (node_words done node ∷ [])) in
            let stands : node ≡ written.0 = same_some node written.0 (sym at ∙ ap (slice_get nodes) here ∙ written.1) in
            subst (λ (j : ℕ). IsRead (words_at (done ++ node_words done node ∷ []) j) (compact_text (node_data nodes j)) (depth_of nodes j)) here
            (subst (λ (ws : List (List ℕ)). IsRead ws (compact_text (node_data nodes (length done))) (depth_of nodes (length done)))
            (sym (words_end done (node_words done node)))
            (next_read done node is at (subst MeetsConditions (sym stands) written.2)))
      ]

  from_done : (rest : List Node) (done : Done)
      → ((i : ℕ) (node : Node) → slice_get rest i ≡ Some node → slice_get nodes (length done + i) ≡ Some node)
      → AreDone done → AreDone (words_from rest done)
  from_done [] done at is = is
  from_done (node ∷ rest) done at is =
      let more = done ++ node_words done node ∷ [] in
      let first : length done + 0 ≡ length done = omega arith in
      from_done rest more
      (λ i x e. let place : length done + suc i ≡ length more + i = omega (arith, length-append done (node_words done node ∷ [])) in
      ap (slice_get nodes) (sym place) ∙ at (suc i) x e)
      (both_done done node is (ap (slice_get nodes) (sym first) ∙ at 0 node refl))

  length_from : (rest : List Node) (done : Done) → length (words_from rest done) ≡ length done + length rest
  length_from [] done = omega arith
  length_from (node ∷ rest) done =
      let more = length_from rest (done ++ node_words done node ∷ []) in
      omega (arith, more, length-append done (node_words done node ∷ []))

  pub plan_read : (n : ℕ) → n < length nodes → IsWritten nodes n
      → IsRead (words_at (all_words nodes) n) (compact_text (node_data nodes n)) (depth_of nodes n)
  plan_read n within written =
      let all = length_from nodes [] in
      from_done nodes [] (λ i node e. let same : 0 + i ≡ i = omega arith in ap (slice_get nodes) same ∙ e) (λ k none. absurd (omega (arith, none))) n (omega (arith, all, within)) written
