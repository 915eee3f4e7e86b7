-- The source that a step names exists.
use Rattle.std.proofs.Common.{◌≡◌, ℕ, true, false, Option, Some, None, refl, ap, ◌∙◌}
use Rattle.std.specs.Option.{option_map_or}
use Rattle.std.specs.Prelude.{◌==◌, nat_lt}
use Rattle.std.proofs.lemmas.Bool.{and_parts, and_from, lt-ltb, eqb-true}
use Rattle.life_rules.specs.declared.event.Name.{Name}
use Rattle.life_rules.specs.declared.event.Place.{Place}
use Rattle.life_rules.specs.declared.event.SourceAt.{SourceAt}
use Rattle.life_rules.specs.declared.event.SourceAt.TheVariants.{Scope as AtScope, At}
use Rattle.life_rules.specs.Scans.{is_next, is_next_in, is_nearest}
use Rattle.life_rules.specs.States.{State, size, is_place, name_at, source_for}
use Rattle.life_rules.specs.StopSteps.{source_of, is_source, may_look, may_run}
use Rattle.node_tree.specs.Tree.{Nearest, TheScope, TheNode, Nowhere, nearest, has_source}
use Rattle.life_rules.specs.Views.{beside, same_source}
use Rattle.life_rules.proofs.Names.{same-true}
use Rattle.common_lemmas.proofs.Options.{map_or-some}
use Rattle.node_tree.proofs.Walk.{nearest-source}

near-by : (s : State) (p : Place) (source : SourceAt) (near : Nearest) → is_place s p ≡ true →
    nearest s.tree p.node ≡ near →
    option_map_or (same_source (source_of s source)) (source_for (name_at s p) near) false ≡ true →
    is_source s source ≡ true
near-by s p AtScope near there e h = refl
near-by s p (At q) TheScope there e h = absurd (cc)
near-by s p (At q) (TheNode m) there e h =
    let x = name_at s p in
    let at : name_at s q ≡ beside x m = same-true (name_at s q) (beside x m) h in
    let block : q.block ≡ p.block = ap (λ (y : Name). y.block) at in
    let node : q.node ≡ m = ap (λ (y : Name). y.node) at in
    let has = nearest-source s.tree p.node m e in
    let parts = and_parts (nat_lt p.block s.blocks) (nat_lt p.node (size s)) there in
    let within : is_place s q ≡ true =
    and_from (nat_lt q.block s.blocks) (nat_lt q.node (size s))
    (ap (λ k. nat_lt k s.blocks) block ∙ parts.0)
    (ap (λ k. nat_lt k (size s)) node ∙ lt-ltb m (size s) has.1) in
    and_from (is_place s q) (has_source s.tree q.node) within (ap (has_source s.tree) node ∙ has.0)
near-by s p (At q) Nowhere there e h = absurd (cc)

-- the source on which a callback is registered
pub near-source : (s : State) (p : Place) (source : SourceAt) → is_place s p ≡ true →
    is_nearest s (source_of s source) (name_at s p) ≡ true → is_source s source ≡ true
near-source s p source there h = near-by s p source (nearest s.tree p.node) there refl h

pub look-source : (s : State) (h : ℕ) (source : SourceAt) (after : Option Place) →
    may_look s h source after ≡ true → is_source s source ≡ true
look-source s h source None may = may
look-source s h source (Some p) may =
    let x = name_at s p in
    let parts = and_parts (is_place s p) _ may in
    let more = and_parts ((s.view h).unlooked x) (is_nearest s (source_of s source) x) parts.1 in
    near-source s p source parts.0 more.1

pub run-source : (s : State) (h : ℕ) (source : SourceAt) (p : Place) → may_run s h source p ≡ true →
    is_source s source ≡ true
run-source s h source p may =
    let x = name_at s p in
    let v = s.view h in
    let parts = and_parts (is_place s p) _ may in
    let next = and_parts (is_next_in s v (source_of s source) x) (v.runs x == 0) parts.1 in
    let at = map_or-some (λ i. is_next s (source_of s source) i x) (v.scan (source_of s source)) next.0 in
    near-source s p source parts.0 (and_parts (is_nearest s (source_of s source) x) _ at.2).0

pub runs-none : (s : State) (h : ℕ) (source : SourceAt) (p : Place) → may_run s h source p ≡ true →
    (s.view h).runs (name_at s p) ≡ 0
runs-none s h source p may =
    let x = name_at s p in
    let v = s.view h in
    let parts = and_parts (is_place s p) _ may in
    eqb-true (v.runs x) 0 (and_parts (is_next_in s v (source_of s source) x) (v.runs x == 0) parts.1).1
