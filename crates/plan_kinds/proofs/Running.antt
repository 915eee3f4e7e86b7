-- What holds of all nodes that a node names holds of its children and of its bodies.
use Rattle.std.specs.Prelude.{All}
use Rattle.std.proofs.Common.{ℕ, []}
use Rattle.std.proofs.lemmas.List.Elements.{All-nil, All-cons}
use Rattle.plan_rules.specs.declared.node.Node.{Node}
use Rattle.plan_rules.specs.declared.node.Node.TheVariants.{LetValue, LetError, LetStopped}
use Rattle.plan_rules.specs.Children.{named_by}
use Rattle.plan_laws.proofs.Children.{head-of, tail-of}
use Rattle.plan_kinds.specs.Runs.{run_by, bodies_of}

pub run-of : (These : ℕ → Type 0) (node : Node) → All These (named_by node) → All These (run_by node)
run-of These (LetValue x pick xs) all = All-cons These x [] (head-of These x xs all) (All-nil These)
run-of These (LetError x pick xs) all = All-cons These x [] (head-of These x xs all) (All-nil These)
run-of These (LetStopped x pick xs) all = All-cons These x [] (head-of These x xs all) (All-nil These)
run-of These node all = all

pub bodies-of : (These : ℕ → Type 0) (node : Node) → All These (named_by node) → All These (bodies_of node)
bodies-of These (LetValue x pick xs) all = tail-of These x xs all
bodies-of These (LetError x pick xs) all = tail-of These x xs all
bodies-of These (LetStopped x pick xs) all = tail-of These x xs all
bodies-of These node all = All-nil These
