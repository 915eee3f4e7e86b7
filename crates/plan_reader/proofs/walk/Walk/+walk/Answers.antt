use Rattle.std.proofs.Common.{◌≡◌, ◌<◌, map, sym, ap, ◌∙◌, subst, arith, rules}
use Rattle.std.specs.Prelude.{OnOk, codes}
use Rattle.serde_json.specs.View.{view, items_view}
use Rattle.plan_reader.specs.NodeWords.{node_named}
use Rattle.plan_reader.specs.Walked.{Listed, Walked, each, walk}
use Rattle.std.proofs.lemmas.Grind.{common_steps}
use Rattle.std.proofs.lemmas.List.{at_drop_all}
use Rattle.plan_reader.proofs.DescentLemmas.{adaptor-roots, child-tidy, leaf-roots, let-roots, list-roots, next-leads, one-root, two-roots}
use Rattle.plan_reader.proofs.RootedWalk.{leads-tidy}
use Rattle.plan_reader.proofs.WalkLemmas.{walk-zero, walk-no_name, walk-named, walk-known}
use Rattle.plan_reader.proofs.walk.Walk.+walk.Goals as goal

pub node-returns-then-levels-eq0 : goal.node-returns-then-levels-eq0
node-returns-then-levels-eq0 t c =
    c.blame.ensures ∙ walk-zero c.args.levels (view c.args.value.now) c.args.self.now c.if-levels-eq0.true

pub node-returns-in-Some-node_named : goal.node-returns-in-Some-node_named
node-returns-in-Some-node_named t c =
    let some : 0 < c.args.levels = omega arith in
    let d = view c.args.value.now in
    let word = c.in-Some-node_named.word in
    let known = walk-known c.args.levels d c.args.self.now c.check_keys.new.self c.in-Some.name.now word
    (map (λ key. key.now) c.node_keys.result.now) some c.in-Some.ensures
    (c.in-Some-node_named.ensures ∙ ap (λ b. node_named b c.in-Some.name.now) c.is_first.ensures)
    c.check_keys.ensures c.node_keys.ensures in
    let P : Walked → Type 0 = λ w. OnOk c.parts.result (c.parts.new.self ≡ w) in
    subst P known c.parts.ensures

pub node-returns-in-None-node_named : goal.node-returns-in-None-node_named
node-returns-in-None-node_named t c =
    let some : 0 < c.args.levels = omega arith in
    c.blame-in-None-node_named.ensures
    ∙ walk-named c.args.levels (view c.args.value.now) c.args.self.now c.in-Some.name.now _ some
    (sym c.in-Some.ensures)
    (c.in-None-node_named.ensures ∙ ap (λ b. node_named b c.in-Some.name.now) c.is_first.ensures)

pub node-returns-in-None : goal.node-returns-in-None
node-returns-in-None t c =
    let some : 0 < c.args.levels = omega arith in
    c.blame-in-None.ensures
    ∙ walk-no_name c.args.levels (view c.args.value.now) c.args.self.now some (sym c.in-None.ensures)

-- children are roots when their parent is made
pub parts-take-requires-clause-roots : goal.parts-take-requires-clause-roots
parts-take-requires-clause-roots t c =
    let step = c.in_ok-reading-in-Leaf in
    leaf-roots c.in-Leaf.leaf (view c.args.value.now) c.args.self.now step.reading step.ensures.value

pub adaptor-take-requires-clause-roots : goal.adaptor-take-requires-clause-roots
adaptor-take-requires-clause-roots t c =
    adaptor-roots c.args.levels c.args.adaptor (view c.args.value.now) c.args.self.now c.child.new.self c.last.result
    c.in_ok-reading.reading c.requires c.in_ok-child.ensures c.last.ensures c.in_ok-reading.ensures.value

pub binding-list-requires : goal.binding-list-requires
binding-list-requires t c = (
  search rules,
  child-tidy c.args.levels (codes "child") (view c.args.value.now) c.args.self.now c.child.new.self c.requires
      c.in_ok-child.ensures,
)

pub binding-take-requires-clause-roots : goal.binding-take-requires-clause-roots
binding-take-requires-clause-roots t c =
    let numbers = c.from_vec-bodies.ensures ∙ c.in_ok-numbers.ensures.numbers in
    let-roots c.args.levels c.args.binding (view c.args.value.now) c.args.self.now c.child.new.self c.list.new.self
    c.last-child.result c.from_vec-bodies.result c.in_ok-reading.reading c.requires c.in_ok-child.ensures
    c.last-child.ensures c.in_ok-numbers.ensures.walked numbers c.in_ok-reading.ensures.value

pub bulk-take_bulk-requires : goal.bulk-take_bulk-requires
bulk-take_bulk-requires t c =
    one-root c.args.levels (codes "child") (view c.args.value.now) c.args.self.now c.child.new.self c.last-child.result
    c.requires c.in_ok-child.ensures c.last-child.ensures

pub when_all-make-requires-clause-roots : goal.when_all-make-requires-clause-roots
when_all-make-requires-clause-roots t c =
    list-roots c.args.levels (codes "children") (view c.args.value.now) c.args.self.now c.list.new.self
    c.from_vec-children.result c.requires c.in_ok-numbers.ensures.walked
    (c.from_vec-children.ensures ∙ c.in_ok-numbers.ensures.numbers)

pub ahead-child-requires-2 : goal.ahead-child-requires-2
ahead-child-requires-2 t c = (
  search rules,
  child-tidy c.args.levels (codes "first") (view c.args.value.now) c.args.self.now c.child.new.self c.requires
      c.in_ok-child.ensures,
)

pub ahead-make-requires-clause-roots : goal.ahead-make-requires-clause-roots
ahead-make-requires-clause-roots t c =
    two-roots c.args.levels (view c.args.value.now) c.args.self.now c.child.new.self c.child-2.new.self
    c.last-first.result c.last-second.result c.requires c.in_ok-child.ensures c.last-first.ensures
    c.in_ok-child-2.ensures c.last-second.ensures

pub each-node-requires : goal.each-node-requires
each-node-requires t c = (
  search rules,
  leads-tidy c.args.self.now c.values.self c.values.numbers.items c.values.invariant.leads,
)

-- each node of an array is a root more
pub each-values-preserved : goal.each-values-preserved
each-values-preserved t c = record {
  so_far = grind (arith, common_steps);
  leads =
      next-leads c.args.levels _ c.args.self.now c.values.self c.node.new.self c.values.numbers.items
      c.push.new.self.items c.last.result c.values.invariant.leads c.in_ok-node.ensures c.last.ensures
      c.in_ok-push.ensures.items;
}

pub each-returns-clause-walked : goal.each-returns-clause-walked
each-returns-clause-walked t c =
    let st : Listed = record { walked = c.values.self; numbers = c.values.numbers.items } in
    let all = at_drop_all (λ values. each (walk c.args.levels) (items_view values) st)
    c.args.values.now c.values.value-index c.values-test.false in
    sym (ap (λ (l : Listed). l.walked) (c.values.invariant.so_far ∙ all))

pub each-returns-clause-numbers : goal.each-returns-clause-numbers
each-returns-clause-numbers t c =
    let st : Listed = record { walked = c.values.self; numbers = c.values.numbers.items } in
    let all = at_drop_all (λ values. each (walk c.args.levels) (items_view values) st)
    c.args.values.now c.values.value-index c.values-test.false in
    sym (ap (λ (l : Listed). l.numbers) (c.values.invariant.so_far ∙ all))
