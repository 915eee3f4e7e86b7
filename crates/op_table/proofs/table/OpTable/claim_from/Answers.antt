use Rattle.std.proofs.Common.{ℕ, arith, refl, sym, ap, ◌∙◌, subst}
use Rattle.life_rules.specs.declared.words.BlockState.TheVariants.{Open}
use Rattle.table_words.specs.Blocks.{block_read}
use Rattle.table_steps.specs.Owing.{OwesNoneThere}
use Rattle.table_steps.specs.Claims.{logged, root_name}
use Rattle.table_words.specs.Layouts.{OfBlock, index}
use Rattle.table_hands_kept.proofs.Hands.{hand-aimed, hand-logged}
use Rattle.table_life_kept.proofs.Claim.Allowed.{claims_at}
use Rattle.table_life_kept.proofs.Claim.Told.{won}
use Rattle.op_table.proofs.table.OpTable.claim_from.Goals as goal

pub compare_exchange-was-requires-clause-table : goal.compare_exchange-was-requires-clause-table
compare_exchange-was-requires-clause-table g c =
    c.requires.table.table_is ∙ sym (ap (λ b. b.table_id) c.self.view_is)

pub compare_exchange-was-requires-clause-within : goal.compare_exchange-was-requires-clause-within
compare_exchange-was-requires-clause-within g c =
    let counts = c.self.invariant.2 in
    let within = c.block-index.ensures.within in
    omega (arith, counts, within)

pub compare_exchange-was-requires-clause-allows : goal.compare_exchange-was-requires-clause-allows
compare_exchange-was-requires-clause-allows g c =
    let frame = sym (ap (λ b. b.frame) c.self.view_is) ∙ sym c.self.invariant.0 in
    claims_at g.P.Cargo c.args.self.now.frame c.self.inside.table.key _ c.args.seat.now.id c.args.block
    c.block-index.result c.args.found c.block_number-open.result c.args.seat.now.me
    (root_name c.args.self.now c.args.block (block_read c.args.found).generation) g.K.Subject.aim frame
    c.requires.table.seated.itself c.requires.block (c.block-index.ensures.value ∙ ap (λ b. index b.frame.layout (OfBlock c.args.block)) c.self.view_is) c.requires.free
    (c.block_number-open.ensures.reads
    ∙ ap (λ (n : ℕ). record { generation = n; state = Open }) c.stamp-generation.ensures)
    refl c.requires.subject c.requires.table.seated.itself

pub returns-then-was-found-clause-claimed : goal.returns-then-was-found-clause-claimed
returns-then-was-found-clause-claimed g c =
    won g.row.P.Denot g.row.P-Entry.Denot c.args.self.now c.args.block c.args.found c.stamp-generation.result
    c.block-index.result c.compare_exchange-was.result c.block_number-open.result g.K.Subject.aim c.args.seat.now
    c.compare_exchange-was.new.hand c.stamp-generation.ensures (c.block-index.ensures.value ∙ ap (λ b. index b.frame.layout (OfBlock c.args.block)) c.self.view_is) c.if-was-found.true
    c.requires.subject c.block_number-open.ensures.reads (c.compare_exchange-was.ensures.2.rest.0 c.if-was-found.true).3 (c.compare_exchange-was.ensures.2.rest.0 c.if-was-found.true).0

pub returns-then-was-found-clause-stays : goal.returns-then-was-found-clause-stays
returns-then-was-found-clause-stays g c =
    hand-aimed c.args.self.now c.args.seat.now c.compare_exchange-was.new.hand c.requires.table
    (c.compare_exchange-was.ensures.0, c.compare_exchange-was.ensures.1) (root_name c.args.self.now c.args.block (block_read c.args.found).generation)
    g.K.Subject.aim c.requires.subject (c.compare_exchange-was.ensures.2.rest.0 c.if-was-found.true).1

pub returns-else-was-found-clause-stays : goal.returns-else-was-found-clause-stays
returns-else-was-found-clause-stays g c =
    hand-logged c.args.self.now c.args.seat.now c.compare_exchange-was.new.hand c.requires.table
    (c.compare_exchange-was.ensures.0, c.compare_exchange-was.ensures.1) c.block-index.result c.compare_exchange-was.result
    (c.compare_exchange-was.ensures.2.rest.1 c.if-was-found.false)

pub returns-else-was-found-clause-claimed : goal.returns-else-was-found-clause-claimed
returns-else-was-found-clause-claimed g c =
    record {
      other = c.compare_exchange-was.result;
      differs = c.if-was-found.false;
      me_is = c.compare_exchange-was.ensures.2.rest.1 c.if-was-found.false
          ∙ ap (λ i. (logged i c.compare_exchange-was.result c.args.seat.now.me.0, c.args.seat.now.me.1))
          (c.block-index.ensures.value ∙ ap (λ b. index b.frame.layout (OfBlock c.args.block)) c.self.view_is);
    }

pub returns-then-was-found-clause-owed : goal.returns-then-was-found-clause-owed
returns-then-was-found-clause-owed g c =
    subst (OwesNoneThere c.args.seat.now.me.0)
    (ap (λ a. a.name) c.requires.subject ∙ ap (root_name c.args.self.now c.args.block) (sym c.stamp-generation.ensures))
    (c.compare_exchange-was.ensures.2.rest.0 c.if-was-found.true).2
