use Rattle.std.proofs.Common.{◌≡◌, ℕ, List, subst, IfOk}
use Rattle.plan_notation.specs.Assembled.{plan_json}
use Rattle.plan_notation.specs.Settings.{Settings}
use Rattle.plan_notation.proofs.machine.Machine.json.Goals as goal

pub returns : goal.returns
returns c =
    subst (λ (s : Settings). IfOk c.plan_json.result (λ text. text.items ≡ plan_json s c.args.self.now.sender.text)) c.said.ensures
    (subst (λ (t : List ℕ). IfOk c.plan_json.result (λ text. text.items ≡ plan_json c.said.result.now t)) c.sender_text.ensures
    c.plan_json.ensures)
