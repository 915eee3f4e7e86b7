use Rattle.std.proofs.Common.{◌≡◌, ◌<◌, true, Option, Some, length, sym, ap, ◌∙◌, arith}
use Rattle.std.specs.Prelude.{nat_lt, is_some, slice_get}
use Rattle.std.specs.Option.{option_and_then}
use Rattle.std.proofs.lemmas.Bool.{and_parts, and_from, ltb-true, lt-ltb, not_from_true}
use Rattle.exec_life.specs.StateLists.{machine}
use Rattle.life_rules.specs.declared.event.SourceAt.TheVariants.{At}
use Rattle.life_rules.specs.declared.event.SourceRef.TheVariants.{Node}
use Rattle.life_rules.specs.States.{size, name_of}
use Rattle.life_rules.specs.Views.{is_scanning}
use Rattle.node_tree.specs.declared.node.TreeNode.{TreeNode}
use Rattle.node_tree.specs.Tree.{parent_of}
use Rattle.step_reasons.specs.LifeReasons.{parent_reason}
use Rattle.step_reasons.specs.Scanning.{place_of}
use Rattle.step_reasons.proofs.Told.{parent-within}
use Rattle.step_reasons.proofs.Passing.{stopped}
use Rattle.step_reasons.proofs.Views.{source-knows}
use Rattle.step_reasons.proofs.life_reasons.parent_reason.Goals as goal

pub scans-requires : goal.scans-requires
scans-requires c =
    let s = machine c.args.state.now in
    let p = c.args.place in
    let there = and_parts (nat_lt p.block s.blocks) (nat_lt p.node (size s)) c.requires.place in
    let parent : parent_of s.tree p.node ≡ Some c.in-Some.node =
    ap (λ o. option_and_then (λ (node : TreeNode). node.parent) o) (ap (λ tree. slice_get tree p.node) (sym c.tree.ensures) ∙ c.node.ensures) ∙ c.in-Some.is in
    let within = parent-within s.tree c.words-words.ensures.sound.tree p.node c.in-Some.node (ltb-true p.node (size s) there.1) parent in
    source-knows s c.args.hand _ (At (place_of p.block c.in-Some.node)) c.view.ensures.tells
    (and_from (nat_lt p.block s.blocks) (nat_lt c.in-Some.node (size s)) there.0 (lt-ltb c.in-Some.node (size s) within))

pub returns-then-scans : goal.returns-then-scans
returns-then-scans c =
    let s = machine c.args.state.now in
    let p = c.args.place in
    let q = c.in-Some.node in
    let parent : parent_of s.tree p.node ≡ Some q =
    ap (λ o. option_and_then (λ (node : TreeNode). node.parent) o) (ap (λ tree. slice_get tree p.node) (sym c.tree.ensures) ∙ c.node.ensures) ∙ c.in-Some.is in
    let scanning : is_scanning (s.view c.args.hand) (Node (name_of s p.block q)) ≡ true =
    ap is_some (c.view.ensures.tells.scans (At (place_of p.block q))) ∙ sym c.scans.ensures ∙ c.if-scans.true in
    sym (ap (parent_reason s c.args.hand p) parent ∙ stopped _ _ _ (not_from_true _ scanning))
