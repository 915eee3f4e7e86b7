use Rattle.std.proofs.Common.{◌≡◌, ◌++◌, [], ◌∷◌, ℕ, List, codes, sym, subst, OnOk}
use Rattle.plan_rules.specs.declared.node.Node.{Node}
use Rattle.plan_notation.specs.NodeTokens.{in_brackets, node_words, behind_child}
use Rattle.plan_notation.proofs.adaptors.put_adaptor.Goals as goal

pub returns-in-ContinuesOn-clause-words : goal.returns-in-ContinuesOn-clause-words
returns-in-ContinuesOn-clause-words c =
    let told = subst (λ (w : List ℕ). OnOk c.put_word_over.result (c.put_word_over.new.words ≡ c.args.words.now ++ behind_child c.args.done.now c.in-ContinuesOn.child (in_brackets (codes "continues_on") (w ∷ []))))
    c.context_name.ensures c.put_word_over.ensures in
    subst (λ (n : Node). OnOk c.put_word_over.result (c.put_word_over.new.words ≡ c.args.words.now ++ node_words c.args.done.now n)) (sym c.in-ContinuesOn.is) told

pub returns-in-StoppedAsOptional-clause-words : goal.returns-in-StoppedAsOptional-clause-words
returns-in-StoppedAsOptional-clause-words c =
    let told = subst (λ (w : List ℕ). OnOk c.put_word_over-in-StoppedAsOptional.result (c.put_word_over-in-StoppedAsOptional.new.words ≡ c.args.words.now ++ behind_child c.args.done.now c.in-StoppedAsOptional.child (in_brackets (codes "stopped_as_optional") (w ∷ []))))
    c.kind_name.ensures c.put_word_over-in-StoppedAsOptional.ensures in
    subst (λ (n : Node). OnOk c.put_word_over-in-StoppedAsOptional.result (c.put_word_over-in-StoppedAsOptional.new.words ≡ c.args.words.now ++ node_words c.args.done.now n)) (sym c.in-StoppedAsOptional.is) told

pub returns-in-StoppedAsError-clause-words : goal.returns-in-StoppedAsError-clause-words
returns-in-StoppedAsError-clause-words c =
    let told = c.put_text_over.ensures in
    subst (λ (n : Node). OnOk c.put_text_over.result (c.put_text_over.new.words ≡ c.args.words.now ++ node_words c.args.done.now n)) (sym c.in-StoppedAsError.is) told

pub returns-in-Unstoppable-clause-words : goal.returns-in-Unstoppable-clause-words
returns-in-Unstoppable-clause-words c =
    let told = c.put_over.ensures in
    subst (λ (n : Node). OnOk c.put_over.result (c.put_over.new.words ≡ c.args.words.now ++ node_words c.args.done.now n)) (sym c.in-Unstoppable.is) told
