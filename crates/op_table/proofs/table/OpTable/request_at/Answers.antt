use Rattle.std.proofs.Common.{◌≡◌, not, arith, sym, ap, ◌∙◌, subst}
use Rattle.life_rules.specs.declared.words.Bits.{Bits}
use Rattle.std.specs.Prelude.{bit_or}
use Rattle.table_words.specs.Stamps.{stamp_of}
use Rattle.table_words.specs.Controls.{source_read}
use Rattle.table_words.specs.Layouts.{index}
use Rattle.table_steps.specs.Slots.{IsSeated}
use Rattle.table_steps.specs.Claims.{with_step}
use Rattle.table_steps.specs.Sights.{spot_of, StillAsked}
use Rattle.table_steps.specs.Requests.{mask, asks, asks_at, IsWordOf}
use Rattle.table_hands_kept.proofs.Hands.{hand-seated}
use Rattle.table_stop_kept.proofs.Request.Runs.{mask-stamp, mask-read}
use Rattle.table_stop_kept.proofs.Request.Allowed.{asks-at, asked-seated}
use Rattle.op_table.proofs.table.OpTable.request_at.Goals as goal

pub fetch_or-word-requires-clause-table : goal.fetch_or-word-requires-clause-table
fetch_or-word-requires-clause-table g c =
    c.requires.table.table_is ∙ sym (ap (λ b. b.table_id) c.self.view_is)

pub fetch_or-word-requires-clause-within : goal.fetch_or-word-requires-clause-within
fetch_or-word-requires-clause-within g c =
    let counts = c.self.invariant.2 in
    let within = c.source_index-index.ensures.within in
    omega (arith, counts, within)

pub fetch_or-word-requires-clause-allows : goal.fetch_or-word-requires-clause-allows
fetch_or-word-requires-clause-allows g c =
    asks-at g.P.Cargo c.args.self.now.frame c.self.inside.table.key _ c.args.seat.now.id
    c.source_index-index.result c.mask.result c.args.source g.K.Regard.source c.args.failure c.args.seat.now.me
    (sym (ap (λ b. b.frame) c.self.view_is) ∙ sym c.self.invariant.0)
    (c.source_index-index.ensures.value ∙ ap (λ b. index b.frame.layout (spot_of c.args.source)) c.self.view_is)
    c.mask.ensures c.requires.source_is c.requires.source.spot c.requires.source.is_one c.requires.needs c.requires.table.seated.itself

pub returns-clause-stays : goal.returns-clause-stays
returns-clause-stays g c =
    let b = c.args.self.now in
    hand-seated b c.args.seat.now c.fetch_or-word.new.hand c.requires.table (c.fetch_or-word.ensures.0, c.fetch_or-word.ensures.1)
    (subst (IsSeated b.frame.tree b.frame.layout) (sym c.fetch_or-word.ensures.2.rest.me_is)
    (asked-seated b.frame.tree b.frame.layout c.source_index-index.result c.fetch_or-word.result (bit_or c.fetch_or-word.result c.mask.result) g.K.Regard.source
    c.args.seat.now.me c.requires.table.seated))

pub returns-clause-asked : goal.returns-clause-asked
returns-clause-asked g c =
    let word = c.fetch_or-word.result in
    let m = c.args.seat.now.me in
    let source = c.args.source in
    let left = bit_or word c.mask.result in
    let masked : left ≡ bit_or word (mask c.args.failure) = ap (bit_or word) c.mask.ensures in
    let at = index c.args.self.now.frame.layout (spot_of source) in
    record {
      word = word;
      is_of = subst (λ t. IsWordOf t word) c.requires.source_is c.fetch_or-word.ensures.2.rest.is_of;
      answer_is = c.read_source.ensures;
      left = left;
      stamp_is = ap stamp_of masked ∙ mask-stamp word c.args.failure;
      left_is = ap source_read masked ∙ mask-read word c.args.failure c.read_source.result (sym c.read_source.ensures);
      stands = subst (λ (b : Bits). StillAsked m.0 source b.requested) (sym c.read_source.ensures)
          (subst (λ t. StillAsked m.0 t (source_read word).requested) c.requires.source_is c.fetch_or-word.ensures.2.rest.stands);
      me_is = c.fetch_or-word.ensures.2.rest.me_is
          ∙ ap (λ t. asks_at t c.source_index-index.result word left m) c.requires.source_is
          ∙ ap (λ i. asks_at source i word left m)
          (c.source_index-index.ensures.value ∙ ap (λ b. index b.frame.layout (spot_of source)) c.self.view_is)
          ∙ ap (λ (b : Bits). (with_step at word left (asks source (not b.requested) m.0), m.1)) (sym c.read_source.ensures);
    }
