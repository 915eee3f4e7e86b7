use Rattle.std.proofs.Common.{◌≡◌, ℕ, ◌+◌, ◌<◌, max, List, [], ◌∷◌, length, map, take, get_or, sym, ap, ◌∙◌, arith}
use Rattle.std.specs.Prelude.{fold}
use Rattle.std.proofs.lemmas.List.{map_more}
use Rattle.std.proofs.lemmas.List.Sums.{fold-append}
use Rattle.plan_builder.specs.declared.position.Position.{Position}
use Rattle.plan_shape.specs.Depths.{depth_of}
use Rattle.plan_builder.specs.Positions.{position_of}
use Rattle.plan_shape.proofs.ForestLaws.{shallow_at}
use Rattle.plan_builder.proofs.builder.PlanBuilder.deepest.Goals as goal

deepest-more : (f : ℕ → ℕ) (xs : List ℕ) (i : ℕ) → i < length xs →
    fold max 0 (map f (take (i + 1) xs)) ≡ max (fold max 0 (map f (take i xs))) (f (get_or xs i 0))
deepest-more f xs i l =
    ap (fold max 0) (map_more f xs i 0 l) ∙ fold-append max 0 (map f (take i xs)) (f (get_or xs i 0) ∷ [])

pub loop-child-preserved : goal.loop-child-preserved
loop-child-preserved c =
    let nodes = c.self.inside.nodes.items in
    let i = c.loop-child.child-index in
    let kid : ℕ = get_or c.args.children.now i 0 in
    let kept = c.loop-child.invariant in
    let inside : kid < length c.args.self.now = c.requires i 0 (omega arith) in
    let same : length c.args.self.now ≡ length nodes = ap length (sym c.self.view_is) in
    let here : kid < length nodes = omega arith in
    let read : c.index.result.now ≡ position_of nodes kid =
    c.index.ensures ∙ c.self.invariant.told kid c.index.result.now here in
    let depth : c.index.result.now.depth ≡ depth_of nodes kid = ap (λ (p : Position). p.depth) read in
    let shallow = shallow_at nodes kid c.self.invariant.forest here in
    record {
      deepest =
          c.max-deepest.ensures
          ∙ ap (λ d. max c.loop-child.deepest d) (depth ∙ ap (λ ns. depth_of ns kid) c.self.view_is)
          ∙ ap (λ d. max d (depth_of c.args.self.now kid)) kept.deepest
          ∙ sym (deepest-more (depth_of c.args.self.now) c.args.children.now i (omega arith));
      bound = omega (arith, kept.bound, shallow, depth, c.max-deepest.ensures);
    }
