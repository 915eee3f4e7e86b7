use Rattle.std.proofs.Common.{refl}
use Rattle.std.proofs.lemmas.Bool.{both_ways}
use Rattle.step_parts.proofs.Ended.{keeps-same}
use Rattle.exec_bulk.proofs.beginning.may_rest_on.Goals as goal

pub returns : goal.returns
returns g c =
    record {
      keeps = keeps-same c.args.site.now c.args.taken.now c.args.hand.now c.requires.taken.stays.hand;
      looked = λ yes. absurd (both_ways c.args.saw c.if-saw.false yes);
      none = λ _. refl;
    }

pub returns-then-saw : goal.returns-then-saw
returns-then-saw g c =
    record {
      keeps = c.hear.ensures.keeps;
      looked = λ _. c.hear.ensures.looked;
      none = λ no. absurd (both_ways c.args.saw no c.if-saw.true);
    }
