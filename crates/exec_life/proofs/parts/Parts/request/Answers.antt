use Rattle.std.proofs.Common.{◌≡◌, ◌||◌, true, false, subst, sym, ap, ◌∙◌}
use Rattle.std.proofs.lemmas.Bool.{and_parts, not-true, not-false}
use Rattle.life_rules.specs.StopSteps.{source_of, is_source}
use Rattle.exec_life.specs.Parts.{lists_of, shown}
use Rattle.exec_life.proofs.Puts.{hand-view}
use Rattle.life_rules.specs.declared.words.Bits.{Bits}
use Rattle.life_rules.specs.States.{bits_at}
use Rattle.exec_life.specs.WordWrites.{SetsSource}
use Rattle.exec_life.proofs.StopMeans.{knows-source, knows-still, request-means, request_again-means}
use Rattle.exec_life.proofs.ViewMeans.{source-rest}
use Rattle.exec_life.proofs.parts.Parts.request.Goals as goal
use Rattle.exec_life.proofs.parts.Parts.request.Goals.{then-bits, else-bits}

pub set_seen-requires : goal.set_seen-requires
set_seen-requires c =
    let d = lists_of c.args.self.now in
    let v = c.index_mut-view.result.now in
    let has = hand-view d c.args.hand v c.requires.ready.state c.requires.ready.hand_is c.index_mut-view.ensures.value in
    knows-source d c.args.hand v c.args.source has
    (and_parts (is_source (shown c.args.self.now) c.args.source) _ c.requires.needs).0

pub begin_scan-requires : goal.begin_scan-requires
begin_scan-requires c =
    let d = lists_of c.args.self.now in
    let v = c.index_mut-view.result.now in
    let has = hand-view d c.args.hand v c.requires.ready.state c.requires.ready.hand_is c.index_mut-view.ensures.value in
    knows-still v c.set_seen.new.self c.args.source (source-rest v c.set_seen.new.self c.args.source true c.set_seen.ensures)
    (knows-source d c.args.hand v c.args.source has
    (and_parts (is_source (shown c.args.self.now) c.args.source) _ c.requires.needs).0)

pub returns-then-not-bits : goal.returns-then-not-bits
returns-then-not-bits c =
    let d = lists_of c.args.self.now in
    let v = c.index_mut-view.result.now in
    let has = hand-view d c.args.hand v c.requires.ready.state c.requires.ready.hand_is c.index_mut-view.ensures.value in
    let failing : c.if-bits.failed ≡ (c.bits-bits.result.failed || c.args.failure) =
    elim c.if-bits.branch [
      | then-bits w ↦ w.failed-is ∙ w.if-bits.true ∙ sym (ap (λ k. k || c.args.failure) w.if-bits.true)
      | else-bits w ↦ w.failed-is ∙ sym (ap (λ k. k || c.args.failure) w.if-bits.false)
    ] in
    let was : Bits → Bits = λ b. record b { requested = true; failed = b.failed || c.args.failure } in
    let word = rw failing at c.set_source.ensures in
    let set_word : SetsSource d.words c.set_source.new.self c.args.source
    (was (bits_at (shown c.args.self.now) (source_of (shown c.args.self.now) c.args.source))) =
    subst (λ b. SetsSource d.words c.set_source.new.self c.args.source (was b)) c.bits-bits.ensures word in
    let first : (bits_at (shown c.args.self.now) (source_of (shown c.args.self.now) c.args.source)).requested ≡ false =
    sym (ap (λ (b : Bits). b.requested) c.bits-bits.ensures) ∙ not-true _ c.if-not-bits.true in
    request-means d c.args.hand v c.set_seen.new.self has c.set_source.new.self c.begin_scan.new.self c.args.source
    c.args.failure first c.set_seen.ensures c.begin_scan.ensures set_word

pub returns-else-not-bits : goal.returns-else-not-bits
returns-else-not-bits c =
    let d = lists_of c.args.self.now in
    let v = c.index_mut-view.result.now in
    let has = hand-view d c.args.hand v c.requires.ready.state c.requires.ready.hand_is c.index_mut-view.ensures.value in
    let failing : c.if-bits.failed ≡ (c.bits-bits.result.failed || c.args.failure) =
    elim c.if-bits.branch [
      | then-bits w ↦ w.failed-is ∙ w.if-bits.true ∙ sym (ap (λ k. k || c.args.failure) w.if-bits.true)
      | else-bits w ↦ w.failed-is ∙ sym (ap (λ k. k || c.args.failure) w.if-bits.false)
    ] in
    let was : Bits → Bits = λ b. record b { requested = true; failed = b.failed || c.args.failure } in
    let word = rw failing at c.set_source.ensures in
    let set_word : SetsSource d.words c.set_source.new.self c.args.source
    (was (bits_at (shown c.args.self.now) (source_of (shown c.args.self.now) c.args.source))) =
    subst (λ b. SetsSource d.words c.set_source.new.self c.args.source (was b)) c.bits-bits.ensures word in
    let again : (bits_at (shown c.args.self.now) (source_of (shown c.args.self.now) c.args.source)).requested ≡ true =
    sym (ap (λ (b : Bits). b.requested) c.bits-bits.ensures) ∙ not-false _ c.if-not-bits.false in
    request_again-means d c.args.hand v c.set_seen.new.self has c.set_source.new.self c.args.source c.args.failure
    again c.set_seen.ensures set_word
