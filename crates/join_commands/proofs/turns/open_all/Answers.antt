use Rattle.std.proofs.Common.{◌≡◌, ◌<◌, ◌≤◌, ◌+◌, ◌++◌, ◌∷◌, [], ℕ, List, length, get_or, take, false, sym, subst, ◌∙◌, arith}
use Rattle.std.specs.Prelude.{is_err, vec_len}
use Rattle.std.specs.Borrow.{Bor}
use Rattle.std.proofs.lemmas.List.{take_all}
use Rattle.std.proofs.lemmas.Slice.Zip.{AllZip-long}
use Rattle.part_lines.specs.Readers.{ReaderView}
use Rattle.join_commands.specs.Parts.{IsWholePart}
use Rattle.join_commands.specs.Turns.{AreAtStarts}
use Rattle.join_commands.proofs.EndLaws.{at_part_quiet, look_to_join}
use Rattle.join_commands.proofs.JoinLaws.{one_more, pushed, zip_both}
use Rattle.join_commands.proofs.OrderLaws.{unopened_reads}
use Rattle.join_commands.proofs.TurnLaws.{at_begin, starts_more}
use Rattle.join_commands.proofs.turns.open_all.Goals as goal

pub returns-in-Err-clause-hindered : goal.returns-in-Err-clause-hindered
returns-in-Err-clause-hindered g c = λ all parts known whole.
    unopened_reads all _ (get_or parts c.loop-at.at []) c.loop-at.at c.in-Err.fault c.at_part.result
    (zip_both (λ (n : Bor (List ℕ)) s. IsWholePart all n.now s) c.args.names.now parts c.loop-at.at _ [] whole c.loop-at-test.true)
    (c.in-Err.ensures.missing all (c.loop-at.invariant.texts ∙ known)) c.at_part.ensures

pub returns-in-Err-clause-cause : goal.returns-in-Err-clause-cause
returns-in-Err-clause-cause g c = look_to_join _ _ _ c.loop-at.at c.in-Err.fault c.at_part.result c.loop-at.invariant.faults c.in-Err.ensures.cause c.at_part.ensures

pub loop-at-preserved : goal.loop-at-preserved
loop-at-preserved g c =
    let before : List ReaderView = c.loop-at.readers.items in
    let pushes : is_err c.push.result ≡ false = sym c.is_err.ensures.value ∙ c.if-is_err.false in
    let items : c.push.new.self.items ≡ before ++ c.in-Ok.reader ∷ [] = pushed c.push.result c.push.new.self.items before c.in-Ok.reader c.push.ensures.items pushes in
    record {
      starts = λ all parts known whole.
          let i : ℕ = c.loop-at.at in
          let long : length parts ≡ length c.args.names.now = AllZip-long (λ (n : Bor (List ℕ)) s. IsWholePart all n.now s) c.args.names.now parts whole in
          let below : i < length parts = omega (arith, long, c.loop-at-test.true) in
          subst (λ (l : List ReaderView). AreAtStarts (take (i + 1) parts) l) (sym items)
          (starts_more parts before i c.in-Ok.reader below (c.loop-at.invariant.starts all parts known whole)
          (at_begin all _ (get_or parts i []) c.in-Ok.reader
          (zip_both (λ (n : Bor (List ℕ)) s. IsWholePart all n.now s) c.args.names.now parts i _ [] whole c.loop-at-test.true)
          (c.in-Ok.ensures.opens all (c.loop-at.invariant.texts ∙ known)) c.in-Ok.ensures.start));
      many = one_more c.push.result (vec_len c.push.new.self) (vec_len c.loop-at.readers) c.loop-at.at c.push.ensures.len pushes c.loop-at.invariant.many;
      texts = c.in-Ok.ensures.same ∙ c.loop-at.invariant.texts;
      faults = c.in-Ok.ensures.cause.still (λ e. cc) ∙ c.loop-at.invariant.faults;
    }

pub returns-clause-starts : goal.returns-clause-starts
returns-clause-starts g c = λ all parts known whole.
    let long : length parts ≡ length c.args.names.now = AllZip-long (λ (n : Bor (List ℕ)) s. IsWholePart all n.now s) c.args.names.now parts whole in
    let past : length parts ≤ c.loop-at.at = omega (arith, long, c.loop-at-test.false) in
    subst (λ (l : List (List (List ℕ))). AreAtStarts l c.loop-at.readers.items) (take_all c.loop-at.at parts past) (c.loop-at.invariant.starts all parts known whole)

pub returns-in-Err-clause-quiet : goal.returns-in-Err-clause-quiet
returns-in-Err-clause-quiet g c = at_part_quiet c.loop-at.at c.in-Err.fault c.at_part.result c.at_part.ensures

pub returns-then-is_err-clause-same : goal.returns-then-is_err-clause-same
returns-then-is_err-clause-same g c = c.in-Ok.ensures.same ∙ c.loop-at.invariant.texts

pub returns-in-Err-clause-same : goal.returns-in-Err-clause-same
returns-in-Err-clause-same g c = c.in-Err.ensures.same ∙ c.loop-at.invariant.texts

pub returns-clause-same : goal.returns-clause-same
returns-clause-same g c = c.loop-at.invariant.texts
