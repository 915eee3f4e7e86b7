use Rattle.std.proofs.Common.{refl}
use Rattle.steal_pool.proofs.working.take_any.Goals as goal

pub returns-in-Some : goal.returns-in-Some
returns-in-Some g c =
    record {
      stays = c.search.ensures.stays;
      rests = c.search.ensures.rests;
      aside = c.search.ensures.aside;
      works = c.in-Some.ensures.served;
      desk = c.search.ensures.desk;
    }

pub returns-in-None : goal.returns-in-None
returns-in-None g c =
    record {
      stays = c.search.ensures.stays;
      rests = c.search.ensures.rests;
      aside = c.search.ensures.aside;
      works = record { idle = (c.in-None.ensures.none (c.search.ensures.still refl)).1; looks = c.in-None.ensures.looks };
      desk = c.search.ensures.desk;
    }
