use Rattle.std.proofs.Common.{◌≡◌, refl, false, ◌||◌, sym, ap, ◌∙◌}
use Rattle.life_rules.specs.States.{set_at}
use Rattle.exec_life.specs.Grids.{at}
use Rattle.exec_life.proofs.view.View.look_after.Goals as goal
use Rattle.exec_life.proofs.view.View.look_after.Goals.{then-get, else-get}

pub returns : goal.returns
returns c =
    let either : c.if-get.seen_after ≡ (c.get.result || c.args.read) =
    elim c.if-get.branch [
      | then-get w ↦ w.seen_after-is ∙ w.if-get.true ∙ sym (ap (λ k. k || c.args.read) w.if-get.true)
      | else-get w ↦ w.seen_after-is ∙ sym (ap (λ k. k || c.args.read) w.if-get.false)
    ] in
    let was : c.get.result ≡ at false c.self.inside.seen_after c.args.place.block c.args.place.node = c.get.ensures false in
    rw (← c.self.view_is)
    (record {
      unlooked_is = c.set-2.ensures.cell false;
      seen_after_is =
          c.set.ensures.cell false
          ∙ ap (λ b. set_at (at false c.self.inside.seen_after) c.args.place.block c.args.place.node b)
          (either ∙ ap (λ k. k || c.args.read) was);
      rest = refl;
    })
