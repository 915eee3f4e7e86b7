use Rattle.std.proofs.Common.{◌≡◌, ℕ, ◌+◌, ◌<◌, ◌≤◌, List, [], ◌∷◌, ◌++◌, length, Some, None, Err, subst, sym, ap, ◌∙◌, arith}
use Rattle.std.proofs.lemmas.Bool.Decides.{nat_tests}
use Rattle.std.proofs.lemmas.List.{length_push}
use Rattle.trace_text.specs.declared.limits.TheConstants.{ENTRIES}
use Rattle.trace_text.proofs.ReadLaws.{entries_in, entries-all, entries-cut_off, entries-full, entries-read, cut-shorter}
use Rattle.trace_text.proofs.reading.read_all.Goals as goal

pub returns-in_default-clause-read : goal.returns-in_default-clause-read
returns-in_default-clause-read g c =
    let o = c.args.opening.now in
    let es = c.loop-rest.items.items in
    let some : 0 < length c.loop-rest.rest.now = grind (arith, nat_tests) in
    let number : length o.nodes + 2 + length es ≡ c.size-base.result + 2 + c.len.result = omega (arith, c.loop-rest.invariant.base, c.len.ensures) in
    sym c.loop-rest.invariant.read
    ∙ entries-cut_off (g.T.OnLine.said_on o) (length o.nodes + 2) c.loop-rest.rest.now es c.in_default.ensures some
    ∙ ap (λ (n : ℕ). Err n) number

pub returns-then-len-eq-ENTRIES-clause-read : goal.returns-then-len-eq-ENTRIES-clause-read
returns-then-len-eq-ENTRIES-clause-read g c =
    let o = c.args.opening.now in
    let es = c.loop-rest.items.items in
    let number : length o.nodes + 2 + length es ≡ c.size-base.result + 2 + c.len.result = omega (arith, c.loop-rest.invariant.base, c.len.ensures) in
    let full : length es ≡ ENTRIES = omega (arith, c.len-in-loop-rest.ensures, c.if-len-eq-ENTRIES.true) in
    sym c.loop-rest.invariant.read
    ∙ entries-full (g.T.OnLine.said_on o) (length o.nodes + 2) c.loop-rest.rest.now es _ c.in-Some.ensures full
    ∙ ap (λ (n : ℕ). Err n) number

pub returns-in_default-read-clause-read : goal.returns-in_default-read-clause-read
returns-in_default-read-clause-read g c =
    let o = c.args.opening.now in
    let es = c.loop-rest.items.items in
    let number : length o.nodes + 2 + length es ≡ c.size-base.result + 2 + c.len.result = omega (arith, c.loop-rest.invariant.base, c.len.ensures) in
    let room : length es ≡ ENTRIES → ⊥ = λ full. c.if-len-eq-ENTRIES.false (omega (arith, c.len-in-loop-rest.ensures, full)) in
    sym c.loop-rest.invariant.read
    ∙ entries-read (g.T.OnLine.said_on o) (length o.nodes + 2) c.loop-rest.rest.now es _ None c.in-Some.ensures room (sym c.in_default-read.is ∙ c.in-Ok.ensures)
    ∙ ap (λ (n : ℕ). Err n) number

pub loop-rest-smaller : goal.loop-rest-smaller
loop-rest-smaller g c = cut-shorter c.loop-rest.rest.now _ c.in-Some.ensures

pub loop-rest-preserved : goal.loop-rest-preserved
loop-rest-preserved g c =
    let o = c.args.opening.now in
    let es = c.loop-rest.items.items in
    let e = c.in-Some-read.item in
    let so_far = c.loop-rest.invariant in
    let room : length es ≡ ENTRIES → ⊥ = λ full. c.if-len-eq-ENTRIES.false (omega (arith, c.len-in-loop-rest.ensures, full)) in
    let is : Some e ≡ g.T.OnLine.said_on o c.in-Some.cut.front.now = sym c.in-Some-read.is ∙ c.in-Ok.ensures in
    let more : c.push.new.self.items ≡ es ++ e ∷ [] = c.in-Ok-push.ensures.items in
    let few : length (es ++ e ∷ []) ≤ ENTRIES = omega (arith, so_far.few, room, length_push es e) in
    record {
      read =
          ap (entries_in (g.T.OnLine.said_on o) (length o.nodes + 2) c.in-Some.cut.rest.now) more
          ∙ sym (entries-read (g.T.OnLine.said_on o) (length o.nodes + 2) c.loop-rest.rest.now es _ (Some e) c.in-Some.ensures room is)
          ∙ so_far.read;
      few = subst (λ (l : List _). length l ≤ ENTRIES) (sym more) few;
      base = so_far.base;
      small = so_far.small;
    }

pub returns-clause-read : goal.returns-clause-read
returns-clause-read g c =
    let o = c.args.opening.now in
    let none : length c.loop-rest.rest.now ≡ 0 = grind (arith, nat_tests) in
    sym c.loop-rest.invariant.read
    ∙ entries-all (g.T.OnLine.said_on o) (length o.nodes + 2) c.loop-rest.rest.now c.loop-rest.items.items none
