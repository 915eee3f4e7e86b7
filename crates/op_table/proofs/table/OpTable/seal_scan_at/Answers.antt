use Rattle.std.proofs.Common.{arith, sym, ap, ◌∙◌, subst}
use Rattle.std.specs.Prelude.{bit_or}
use Rattle.table_words.specs.Layouts.{index}
use Rattle.table_steps.specs.Slots.{IsSeated}
use Rattle.table_steps.specs.Claims.{with_step}
use Rattle.table_steps.specs.Sights.{spot_of}
use Rattle.table_steps.specs.ScanSeals.{seals_scan, SaysUnscanned}
use Rattle.table_hands_kept.proofs.Hands.{hand-seated}
use Rattle.table_stop_kept.proofs.Scan.Seal.{seals-at, seal-seated, left-scanned}
use Rattle.op_table.proofs.table.OpTable.seal_scan_at.Goals as goal

pub fetch_or-word-requires-clause-table : goal.fetch_or-word-requires-clause-table
fetch_or-word-requires-clause-table g c =
    c.requires.table.table_is ∙ sym (ap (λ b. b.table_id) c.self.view_is)

pub fetch_or-word-requires-clause-within : goal.fetch_or-word-requires-clause-within
fetch_or-word-requires-clause-within g c =
    let counts = c.self.invariant.2 in
    let within = c.source_index-index.ensures.within in
    omega (arith, counts, within)

pub fetch_or-word-requires-clause-allows : goal.fetch_or-word-requires-clause-allows
fetch_or-word-requires-clause-allows g c =
    seals-at g.P.Cargo c.args.self.now.frame c.self.inside.table.key _ c.args.seat.now.id
    c.source_index-index.result c.args.source g.K.Regard.source c.args.seat.now.me
    (sym (ap (λ b. b.frame) c.self.view_is) ∙ sym c.self.invariant.0)
    (c.source_index-index.ensures.value ∙ ap (λ b. index b.frame.layout (spot_of c.args.source)) c.self.view_is)
    c.requires.source_is c.requires.source.spot c.requires.source.is_one c.requires.needs c.requires.table.seated.itself

pub returns-clause-stays : goal.returns-clause-stays
returns-clause-stays g c =
    let b = c.args.self.now in
    hand-seated b c.args.seat.now c.fetch_or-word.new.hand c.requires.table (c.fetch_or-word.ensures.0, c.fetch_or-word.ensures.1)
    (subst (IsSeated b.frame.tree b.frame.layout) (sym c.fetch_or-word.ensures.2.rest.me_is)
    (seal-seated b.frame.tree b.frame.layout c.source_index-index.result c.fetch_or-word.result (bit_or c.fetch_or-word.result 4) g.K.Regard.source
    c.args.seat.now.me c.requires.table.seated))

pub returns-clause-sealed : goal.returns-clause-sealed
returns-clause-sealed g c =
    let word = c.fetch_or-word.result in
    let m = c.args.seat.now.me in
    record {
      read = word;
      left = bit_or word 4;
      found = subst (λ t. SaysUnscanned t word) c.requires.source_is c.fetch_or-word.ensures.2.rest.found;
      stamp_is = (left-scanned word).0;
      left_is = (left-scanned word).1;
      me_is = c.fetch_or-word.ensures.2.rest.me_is
          ∙ ap (λ t. (with_step c.source_index-index.result word (bit_or word 4) (seals_scan t m.0), m.1)) c.requires.source_is
          ∙ ap (λ i. (with_step i word (bit_or word 4) (seals_scan c.args.source m.0), m.1))
          (c.source_index-index.ensures.value ∙ ap (λ b. index b.frame.layout (spot_of c.args.source)) c.self.view_is);
    }
