use Rattle.scope_kept.proofs.scope_keeps_sound.Goals as goal
use Rattle.scope_kept.proofs.Steps.{keeps-rouse, keeps-enter, keeps-mark_used, keeps-leave, keeps-close, keeps-join, keeps-seal}

pub returns : goal.returns
returns c =
    record {
      rouse = keeps-rouse;
      enter = keeps-enter;
      mark_used = keeps-mark_used;
      leave = keeps-leave;
      close = keeps-close;
      join = keeps-join;
      seal = keeps-seal;
    }
