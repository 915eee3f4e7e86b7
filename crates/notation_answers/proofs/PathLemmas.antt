-- Steps of a path.
use Rattle.std.proofs.Common.{◌≡◌, ◌<◌, ◌≤◌, ℕ, zero, suc, ◌+◌, ◌-◌, List, Option, Some, None, drop, refl, ap, ◌∙◌, arith}
use Rattle.plan_notation.specs.Frames.{SpotSeen}
use Rattle.notation_answers.specs.Paths.{child_at, node_on_path, node_behind, path_behind, step_of}
use Rattle.notation_answers.specs.declared.path.Step.{Step}

pub path_ended : (n : ℕ) (spots : List SpotSeen) (path : List ℕ) (number : ℕ) → step_of path ≡ None
    → node_on_path n spots path number ≡ number
path_ended zero spots path number h = refl
path_ended (suc n) spots path number h =
    ap (λ (o : Option Step). node_on_path n spots (path_behind o path) (node_behind o spots number)) h
    ∙ path_ended n spots path number h

-- one step on, with so many left of all
pub path_goes : (all count : ℕ) (spots : List SpotSeen) (path : List ℕ) (number : ℕ) (step : Step) → count < all
    → step_of path ≡ Some step
    → node_on_path (all - count) spots path number ≡ node_on_path (all - (count + 1)) spots (drop step.length path) (child_at spots number step.child)
path_goes all count spots path number step within h =
    let left : all - count ≡ suc (all - (count + 1)) = omega arith in
    ap (λ (n : ℕ). node_on_path n spots path number) left
    ∙ ap (λ (o : Option Step). node_on_path (all - (count + 1)) spots (path_behind o path) (node_behind o spots number)) h

pub path_done : (all count : ℕ) (spots : List SpotSeen) (path : List ℕ) (number : ℕ) → all ≤ count
    → node_on_path (all - count) spots path number ≡ number
path_done all count spots path number past =
    let left : all - count ≡ 0 = omega arith in ap (λ (n : ℕ). node_on_path n spots path number) left
