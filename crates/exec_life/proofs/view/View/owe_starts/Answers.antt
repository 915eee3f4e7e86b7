use Rattle.std.proofs.Common.{ℕ, refl, ap, ◌∙◌, get_or}
use Rattle.life_rules.specs.States.{set_at}
use Rattle.exec_life.specs.declared.view.Role.{Role}
use Rattle.exec_life.specs.declared.view.Role.TheVariants.{OwesStart}
use Rattle.exec_life.specs.ViewLists.{ViewLists, role_in}
use Rattle.exec_life.proofs.AwaitMeans.{owes-more}
use Rattle.exec_life.proofs.view.View.owe_starts.Goals as goal

pub loop-node-preserved : goal.loop-node-preserved
loop-node-preserved c =
    let kept = c.loop-node.invariant in
    let b = c.args.block in
    let nodes = c.args.nodes.now in
    let new = c.set_role.new.self in
    let node = get_or nodes c.loop-node.node-index 0 in
    record {
      cell =
          c.set_role.ensures.cell
          ∙ ap (λ (f : ℕ → ℕ → Role). set_at f b node OwesStart) kept.cell
          ∙ owes-more (role_in c.args.self.now) b c.loop-node.node-index nodes node 0 c.loop-node-test.true refl;
      rest = c.set_role.ensures.rest ∙ ap (λ (u : ViewLists). record u { roles = new.roles }) kept.rest;
    }
