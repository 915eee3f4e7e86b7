use Rattle.std.proofs.Common.{◌≡◌, ℕ, ◌+◌, ◌-◌, ◌≤◌, ◌/◌, ◌%◌, Bool, true, false, sym, ap, ◌∙◌, subst, inl, inr, arith}
use Rattle.std.proofs.lemmas.Bool.{cases_lt}
use Rattle.life_rules.specs.Scans.{has_none, is_nearest, place_at}
use Rattle.life_rules.specs.States.{name_of}
use Rattle.life_rules.specs.StopSteps.{source_of}
use Rattle.exec_life.specs.Parts.{shown}
use Rattle.exec_life.proofs.Below.{has_none-nothing, has_none-found, has_none-push}
use Rattle.exec_life.proofs.parts.Parts.has_none.Goals as goal

pub loop-number-init : goal.loop-number-init
loop-number-init c =
    let s = shown c.args.self.now in
    let source = source_of s c.args.source in
    let none : 0 ≡ c.args.from - c.args.from = omega arith in
    record {
      none = subst (λ k. has_none s source c.args.from k ≡ true) none (has_none-nothing s source c.args.from);
      size_is = c.size-size.ensures.size;
    }

pub returns-then-is_nearest : goal.returns-then-is_nearest
returns-then-is_nearest c =
    let s = shown c.args.self.now in
    let source = source_of s c.args.source in
    let n = c.loop-number.number in
    let from : c.args.from ≤ n = c.loop-number.auto.number in
    let test : ℕ → Bool = λ k. is_nearest s source (name_of s (n / k) (n % k)) in
    let here : is_nearest s source (place_at s n) ≡ true =
    sym (ap test c.size-size.ensures.size) ∙ sym c.if-is_nearest.ensures in
    sym (has_none-found s source c.args.from (c.args.to - c.args.from) n from (omega arith) here)

pub loop-number-preserved : goal.loop-number-preserved
loop-number-preserved c =
    let s = shown c.args.self.now in
    let source = source_of s c.args.source in
    let n = c.loop-number.number in
    let i = c.args.from in
    let from : i ≤ n = c.loop-number.auto.number in
    let test : ℕ → Bool = λ k. is_nearest s source (name_of s (n / k) (n % k)) in
    let number : n ≡ i + (n - i) = omega arith in
    let here : is_nearest s source (place_at s (i + (n - i))) ≡ false =
    ap (λ j. is_nearest s source (place_at s j)) (sym number)
    ∙ sym (ap test c.size-size.ensures.size) ∙ sym c.if-is_nearest.ensures in
    let count : (n - i) + 1 ≡ (n + 1) - i = omega arith in
    record {
      none =
          subst (λ k. has_none s source i k ≡ true) count
          (has_none-push s source i (n - i) c.loop-number.invariant.none here);
      size_is = c.size-size.ensures.size;
    }

pub returns : goal.returns
returns c =
    let s = shown c.args.self.now in
    let source = source_of s c.args.source in
    let i = c.args.from in
    let kept = c.loop-number.invariant.none in
    elim (cases_lt c.args.to i) [
      | inl before ↦
          let count : 0 ≡ c.args.to - i = omega arith in
          sym (subst (λ k. has_none s source i k ≡ true) count (has_none-nothing s source i))
      | inr after ↦
          let end : c.loop-number.number ≤ c.args.to = c.loop-number.auto.number-end after in
          let count : c.loop-number.number - i ≡ c.args.to - i = omega arith in
          sym (subst (λ k. has_none s source i k ≡ true) count kept)
    ]
