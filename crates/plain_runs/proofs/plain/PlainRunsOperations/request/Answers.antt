use Rattle.std.proofs.Common.{refl, ap, ◌∙◌}
use Rattle.plain_runs.specs.PlainWork.{Plain, plain_work}
use Rattle.plain_runs.proofs.plain.PlainRunsOperations.request.Goals as goal

pub returns : goal.returns
returns g c = record {
  plan = ap (λ (p : Plain). p.plan) c.self.view_is;
  table = refl;
  running = ap (λ (p : Plain). (plain_work p).running) c.self.view_is;
  requested = refl;
  collected = ap (λ (p : Plain). p.collected) c.self.view_is;
  tickets = λ t begun is. ap (λ (p : Plain). (plain_work p).tickets t) c.self.view_is ∙ is;
}
