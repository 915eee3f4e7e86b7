use Rattle.std.proofs.Common.{◌≡◌, false, arith, sym, ap, ◌∙◌, inl, ⊎_elim}
use Rattle.life_rules.specs.declared.words.BlockState.TheVariants.{Open, Retired}
use Rattle.life_rules.specs.Words.{is_free}
use Rattle.table_words.specs.Layouts.{OfBlock, index}
use Rattle.table_kept.proofs.Loads.{looks_allowed}
use Rattle.table_hands_kept.proofs.Hands.{hand-logged}
use Rattle.table_life_kept.proofs.Claim.Told.{told, seen_at}
use Rattle.op_table.proofs.table.OpTable.claim_at.Goals as goal

pub load-found-requires-clause-table : goal.load-found-requires-clause-table
load-found-requires-clause-table g c =
    c.requires.table.table_is ∙ sym (ap (λ b. b.table_id) c.self.view_is)

pub load-found-requires-clause-within : goal.load-found-requires-clause-within
load-found-requires-clause-within g c =
    let counts = c.self.invariant.2 in
    let within = c.block-index.ensures.within in
    omega (arith, counts, within)

pub load-found-requires-clause-allows : goal.load-found-requires-clause-allows
load-found-requires-clause-allows g c =
    looks_allowed g.P.Cargo c.self.inside.table.key _ c.args.seat.now.id c.block-index.result
    c.args.seat.now.me.0 c.args.seat.now.me.1 c.requires.table.seated.itself

pub returns-in-Free-clause-claimed : goal.returns-in-Free-clause-claimed
returns-in-Free-clause-claimed g c =
    told g.row.P.Denot g.row.P-Entry.Denot c.args.self.now (record {
      block = c.args.block;
      found = c.load-found.result;
      before = c.args.seat.now;
      seeing = c.load-found.new.hand;
      after = c.claim_from.new.seat;
      seen = seen_at c.args.self.now c.args.block c.block-index.result c.load-found.result c.args.seat.now c.load-found.new.hand (c.block-index.ensures.value ∙ ap (λ b. index b.frame.layout (OfBlock c.args.block)) c.self.view_is) c.load-found.ensures.2.rest;
      free = ap (λ w. is_free w.state) (sym c.read_block.ensures) ∙ ap is_free c.in-Free.is;
    }) c.claim_from.result
    c.claim_from.ensures.claimed

pub returns-in-Open : goal.returns-in-Open
returns-in-Open g c =
    let free : is_free c.read_block.result.state ≡ false =
    ⊎_elim (λ (e : c.read_block.result.state ≡ Open). ap is_free e)
    (λ (e : c.read_block.result.state ≡ Retired). ap is_free e) c.in-Open.is in
    record {
      stays = hand-logged c.args.self.now c.args.seat.now c.load-found.new.hand c.requires.table (c.load-found.ensures.0, c.load-found.ensures.1)
          c.block-index.result c.load-found.result c.load-found.ensures.2.rest;
      claimed = inl (record {
        word = c.load-found.result;
        taken = ap (λ w. is_free w.state) (sym c.read_block.ensures) ∙ free;
        me_is = seen_at c.args.self.now c.args.block c.block-index.result c.load-found.result c.args.seat.now
            c.load-found.new.hand (c.block-index.ensures.value ∙ ap (λ b. index b.frame.layout (OfBlock c.args.block)) c.self.view_is) c.load-found.ensures.2.rest;
      });
      owed = tt;
    }

pub claim_from-requires-clause-table : goal.claim_from-requires-clause-table
claim_from-requires-clause-table g c κs _ = (
    hand-logged c.args.self.now c.args.seat.now c.load-found.new.hand c.requires.table
    (c.load-found.ensures.0, c.load-found.ensures.1) c.block-index.result c.load-found.result
    c.load-found.ensures.2.rest).hand
