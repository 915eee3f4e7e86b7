use mir.Val.{bool_byte}
use Rattle.std.proofs.Common.{◌≡◌, ◌≤◌, ℕ, ◌+◌, Bool, true, false, refl, ap, ◌∙◌, arith}
use Rattle.std.specs.Prelude.{if◌then◌else◌}
use Rattle.std.proofs.lemmas.Int.{ints}
use Rattle.line_summary.proofs.summary.Summary.add.Goals as goal

-- a line of a sort adds one to its count
added : (m n : ℕ) (b t : Bool) → n ≡ bool_byte b → b ≡ t → m + n ≡ m + (if t then 1 else 0)
added m n true true is same = ap (λ k. m + k) is
added m n true false is same = cc
added m n false true is same = cc
added m n false false is same = ap (λ k. m + k) is

-- and no count passes that of all lines
few : (m n l : ℕ) (b : Bool) → n ≡ bool_byte b → m ≤ l → m + n ≤ l + 1
few m n l true is below = let one : n ≡ 1 = is in omega (arith, one, below)
few m n l false is below = let none : n ≡ 0 = is in omega (arith, none, below)

pub returns : goal.returns
returns c =
    let self = c.args.self.now in
    record {
      lines = refl;
      values = added self.values c.from.result c.is_value.result _ c.from.ensures c.is_value.ensures;
      errors = added self.errors c.from-2.result c.is_error.result _ c.from-2.ensures c.is_error.ensures;
      stopped = added self.stopped c.from-3.result c.is_stopped.result _ c.from-3.ensures c.is_stopped.ensures;
      no_memory = added self.no_memory c.from-4.result c.is_out_of_memory.result _ c.from-4.ensures c.is_out_of_memory.ensures;
      bad = added self.bad c.from-5.result c.is_bad_record.result _ c.from-5.ensures c.is_bad_record.ensures;
      sum = omega (arith, ints, c.line_sum.ensures.exact);
    }

pub invariant_of-self : goal.invariant_of-self
invariant_of-self c =
    let self = c.args.self.now in
    record {
      few_values = few self.values c.from.result self.lines c.is_value.result c.from.ensures self.few_values;
      few_errors = few self.errors c.from-2.result self.lines c.is_error.result c.from-2.ensures self.few_errors;
      few_stopped = few self.stopped c.from-3.result self.lines c.is_stopped.result c.from-3.ensures self.few_stopped;
      few_no_memory = few self.no_memory c.from-4.result self.lines c.is_out_of_memory.result c.from-4.ensures self.few_no_memory;
      few_bad = few self.bad c.from-5.result self.lines c.is_bad_record.result c.from-5.ensures self.few_bad;
      within = record { above = omega (arith, ints, c.line_sum.ensures.within, self.within); below = omega (arith, ints, c.line_sum.ensures.within, self.within) };
    }
