use Rattle.std.proofs.Common.{inl, inr, sym, ◌∙◌}
use Rattle.std.proofs.lemmas.Bool.{both_ways}
use Rattle.common_lemmas.proofs.Bool.{either}
use Rattle.home_items.specs.Entries.{asked_of, carried_of}
use Rattle.step_parts.proofs.Ended.{taken-on}
use Rattle.exec_all.specs.Starts.{is_light}
use Rattle.exec_all.proofs.Begun.{asked-stops, look-stops, large-wants, begun-still, begun-idle}
use Rattle.exec_all.proofs.beginning.begin_all.Goals as goal

pub complete_stopped-requires : goal.complete_stopped-requires
complete_stopped-requires g c =
    let may = c.requires.may in
    record {
      may = asked-stops c.args.site.now c.args.taken c.args.children.now c.args.hand.now may.taken may.node_is (sym c.asked.ensures ∙ c.if-asked.true);
    }

pub listen-requires-clause-taken : goal.listen-requires-clause-taken
listen-requires-clause-taken g c =
    taken-on c.args.site.now c.args.taken c.args.hand.now c.of.new.hand c.of.ensures.keeps c.requires.may.taken

pub listen-requires-clause-begun : goal.listen-requires-clause-begun
listen-requires-clause-begun g c =
    begun-still c.args.site.now c.args.taken.name c.args.hand.now.me c.of.new.hand.me c.requires.may.begun c.of.ensures.same_held

pub complete_stopped-requires-then-listen : goal.complete_stopped-requires-then-listen
complete_stopped-requires-then-listen g c =
    let copied = taken-on c.args.site.now c.args.taken c.args.hand.now c.of.new.hand c.of.ensures.keeps c.requires.may.taken in
    let looked = taken-on c.args.site.now c.args.taken c.of.new.hand c.listen.new.hand c.listen.ensures.keeps copied in
    record {
      may = look-stops c.args.site.now c.args.taken c.args.children.now c.listen.new.hand looked c.requires.may.node_is c.of.new.hand
          c.listen.result c.listen.ensures.listens.looked c.if-listen.true;
    }

pub start_all-requires : goal.start_all-requires
start_all-requires g c =
    let copied = taken-on c.args.site.now c.args.taken c.args.hand.now c.of.new.hand c.of.ensures.keeps c.requires.may.taken in
    let begun = begun-still c.args.site.now c.args.taken.name c.args.hand.now.me c.of.new.hand.me c.requires.may.begun c.of.ensures.same_held in
    record {
      may = record {
        taken = taken-on c.args.site.now c.args.taken c.of.new.hand c.listen.new.hand c.listen.ensures.keeps copied;
        node_is = c.requires.may.node_is;
        unasked = sym c.asked.ensures ∙ c.if-asked.false;
        idle = begun-idle c.args.site.now c.args.taken.name c.args.children.now c.of.new.hand.me c.listen.new.hand.me begun c.listen.ensures.idle;
        copies_are = c.in-Ok.ensures.ok;
      };
    }

pub want_memory-requires : goal.want_memory-requires
want_memory-requires g c =
    let copied = taken-on c.args.site.now c.args.taken c.args.hand.now c.of.new.hand c.of.ensures.keeps c.requires.may.taken in
    record {
      may = large-wants c.args.site.now c.args.taken c.args.children.now c.of.new.hand copied c.requires.may.node_is
          (λ light. let ok = c.in-Err.ensures.light light in cc);
    }

pub returns-then-asked-clause-begins : goal.returns-then-asked-clause-begins
returns-then-asked-clause-begins g c =
    record {
      stops = λ asked. c.complete_stopped.ensures;
      begins = λ unasked. absurd (both_ways (asked_of c.args.taken.start) unasked (sym c.asked.ensures ∙ c.if-asked.true));
    }

pub returns-then-listen-clause-begins : goal.returns-then-listen-clause-begins
returns-then-listen-clause-begins g c =
    record {
      stops = λ asked. absurd (both_ways (asked_of c.args.taken.start) (sym c.asked.ensures ∙ c.if-asked.false) asked);
      begins = λ unasked. record {
        middle = c.of.new.hand;
        keeps = c.of.ensures.keeps;
        goes_on = inl (record {
          answer = c.listen.result;
          middle = c.listen.new.hand;
          listens = c.listen.ensures.listens;
          stops = λ is. c.complete_stopped-then-listen.ensures;
          starts = λ is. absurd (both_ways c.listen.result is c.if-listen.true);
        });
      };
    }

pub returns-else-listen-clause-begins : goal.returns-else-listen-clause-begins
returns-else-listen-clause-begins g c =
    record {
      stops = λ asked. absurd (both_ways (asked_of c.args.taken.start) (sym c.asked.ensures ∙ c.if-asked.false) asked);
      begins = λ unasked. record {
        middle = c.of.new.hand;
        keeps = c.of.ensures.keeps;
        goes_on = inl (record {
          answer = c.listen.result;
          middle = c.listen.new.hand;
          listens = c.listen.ensures.listens;
          stops = λ is. absurd (both_ways c.listen.result c.if-listen.false is);
          starts = λ is. c.start_all.ensures;
        });
      };
    }

pub returns-in-Err-clause-begins : goal.returns-in-Err-clause-begins
returns-in-Err-clause-begins g c =
    record {
      stops = λ asked. absurd (both_ways (asked_of c.args.taken.start) (sym c.asked.ensures ∙ c.if-asked.false) asked);
      begins = λ unasked. record {
        middle = c.of.new.hand;
        keeps = c.of.ensures.keeps;
        goes_on = inr (record {
          large = either (is_light (carried_of c.args.taken.start)) (λ t. let ok = c.in-Err.ensures.light t in cc) (λ f. f);
          completes = c.want_memory.ensures;
        });
      };
    }
