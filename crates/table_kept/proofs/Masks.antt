-- What a word reads after one of its bits was set, or its count fell by one.
use Rattle.std.proofs.Common.{◌≡◌, ℕ, ◌+◌, ◌-◌, ◌*◌, ◌/◌, ◌%◌, ◌^◌, ◌≤◌, true, ◌==◌, refl, ap, ◌∙◌, arith, max, ◌<◌, Bool, false, ◌≢◌, inl, inr, sym}
use Rattle.std.specs.Prelude.{bit_or, Result, Ok, Err, MatchResult}
use Rattle.std.specs.Int.Bits.{or_zero_r}
use Rattle.std.proofs.lemmas.Bool.{eq-eqb, ne_eqb, cond-true, cond-false, both_ways, eqb-true, cases_eq}
use Rattle.std.proofs.lemmas.Nat.{or_mod, or_shr}
use lib.Bits.{or_step}
use prog.Atomic as atomic
use Rattle.common_lemmas.proofs.Bool.{either}
use Rattle.life_rules.specs.declared.scope.ScopeWord.{ScopeWord}
use Rattle.table_words.specs.Stamps.{stamp_of, code_of, bit}
use Rattle.table_words.specs.ScopeNumbers.{scope_read, scope_written}
use Rattle.table_steps.specs.ScopeMoves.{as_joined, AnswersSeal}

-- the number with its lowest, its second or its third bit set
pub or-one : (s : ℕ) → bit_or s 1 ≡ s / 2 * 2 + 1
or-one s =
    let step : bit_or s 1 ≡ bit_or (s / 2) 0 * 2 + max (s % 2) 1 = or_step s 1 in
    let none : bit_or (s / 2) 0 ≡ s / 2 = or_zero_r (s / 2) in omega (arith, step, none)

pub or-two : (s : ℕ) → bit_or s 2 ≡ (s / 4 * 2 + 1) * 2 + s % 2
or-two s =
    let step : bit_or s 2 ≡ bit_or (s / 2) 1 * 2 + max (s % 2) 0 = or_step s 2 in
    let one = or-one (s / 2) in omega (arith, step, one)

pub or-four : (s : ℕ) → bit_or s 4 ≡ (s / 8 * 2 + 1) * 4 + s % 4
or-four s =
    let step : bit_or s 4 ≡ bit_or (s / 2) 2 * 2 + max (s % 2) 0 = or_step s 4 in
    let two = or-two (s / 2) in omega (arith, step, two)

bit-most : (b : Bool) → bit b ≤ 1
bit-most true = omega arith
bit-most false = omega arith

-- the number of a scope's word is below 2 ^ 36
pub written-narrow : (w : ScopeWord) (n : ℕ) → n ≡ scope_written w → scope_read n ≡ w → n < 2 ^ 36
written-narrow w n value reads =
    let count : code_of n ≡ w.count = ap (λ (z : ScopeWord). z.count) reads in
    let a = bit-most w.used in
    let b = bit-most w.closed in
    let c = bit-most w.joining in
    let d = bit-most w.joined in omega (arith, value, count, a, b, c, d)

bit-is : (n : ℕ) → n < 2 → bit (n == 1) ≡ n
bit-is n below =
    either (n == 1) (λ t. cond-true (n == 1) 1 0 t ∙ sym (eqb-true n 1 t))
    (λ f.
    elim (cases_eq n 1) [
      | inl one ↦ absurd (both_ways (n == 1) f (eq-eqb n 1 one))
      | inr other ↦ cond-false (n == 1) 1 0 f ∙ omega (arith, below, other)
    ])

-- a word below that is the number of what it says
pub narrow-exact : (w : ℕ) → w < 2 ^ 36 → scope_written (scope_read w) ≡ w
narrow-exact w narrow =
    let t = stamp_of w in
    let a = bit-is (t % 2) (omega arith) in
    let b = bit-is (t / 2 % 2) (omega arith) in
    let c = bit-is (t / 4 % 2) (omega arith) in
    let d = bit-is (t / 8 % 2) (omega arith) in omega (arith, narrow, a, b, c, d)

-- a word that isn't what says this says something else
pub says-other : (w : ℕ) (expected : ScopeWord) → w < 2 ^ 36 → w ≢ scope_written expected → scope_read w ≢ expected
says-other w expected narrow other is = other (sym (narrow-exact w narrow) ∙ ap scope_written is)

-- so the answer to a seal that failed says something else than was expected
pub seal-cause : (w : ℕ) (expected : ScopeWord) → w < 2 ^ 36 → (answer : Result (Unit {0}) ScopeWord) →
    MatchResult answer (λ _. w ≡ scope_written expected) (λ read. (w ≢ scope_written expected) × (read ≡ scope_read w)) →
    MatchResult answer (λ _. w ≡ scope_written expected) (λ read. (read ≢ expected) × (read ≡ scope_read w))
seal-cause w expected narrow (Ok done) is = is
seal-cause w expected narrow (Err read) is = ((λ same. says-other w expected narrow is.0 (sym is.1 ∙ same)), is.1)

-- and what the exchange left says that the scope is joined, or is what it found
pub seal-left : (w old new : ℕ) (expected : ScopeWord) → old ≡ scope_written expected → scope_read new ≡ as_joined expected → w < 2 ^ 36 →
    (answer : Result (Unit {0}) ScopeWord) → AnswersSeal w old answer →
    MatchResult answer (λ _. (w ≡ scope_written expected) × (scope_read (atomic.either (w == old) new w) ≡ as_joined expected))
    (λ read. (read ≢ expected) × (read ≡ scope_read w) × (atomic.either (w == old) new w ≡ w))
seal-left w old new expected old_is says narrow (Ok done) is = (
  is ∙ old_is,
  ap (λ b. scope_read (atomic.either b new w)) (eq-eqb w old is) ∙ says,
)
seal-left w old new expected old_is says narrow (Err read) is =
    let told = seal-cause w expected narrow (Err read) ((λ e. is.0 (e ∙ sym old_is)), is.1) in
    (told.0, told.1, ap (λ b. atomic.either b new w) (ne_eqb w old is.0))

module _ (w : ℕ) where
  -- a mask of bits above the count leaves the count
  count-kept : (m : ℕ) → m % 2 ^ 32 ≡ 0 → code_of (bit_or w m) ≡ code_of w
  count-kept m e = or_mod w m 32 ∙ ap (bit_or (w % 2 ^ 32)) e ∙ or_zero_r (w % 2 ^ 32)

  flags-are : (m k : ℕ) → m / 2 ^ 32 ≡ k → stamp_of (bit_or w m) ≡ bit_or (stamp_of w) k
  flags-are m k e = or_shr w m 32 ∙ ap (bit_or (w / 2 ^ 32)) e

  abbrev s : ℕ
  s = stamp_of w

  -- a mask of one of the four bits above the count leaves the word as narrow
  pub narrow-used : w < 2 ^ 36 → bit_or w (2 ^ 32) < 2 ^ 36
  narrow-used narrow = let f = flags-are (2 ^ 32) 1 refl ∙ or-one s in omega (arith, f, narrow)

  pub narrow-closed : w < 2 ^ 36 → bit_or w (2 ^ 33) < 2 ^ 36
  narrow-closed narrow = let f = flags-are (2 ^ 33) 2 refl ∙ or-two s in omega (arith, f, narrow)

  pub narrow-joining : w < 2 ^ 36 → bit_or w (2 ^ 34) < 2 ^ 36
  narrow-joining narrow = let f = flags-are (2 ^ 34) 4 refl ∙ or-four s in omega (arith, f, narrow)

  pub reads-used : scope_read (bit_or w (2 ^ 32)) ≡ record (scope_read w) { used = true }
  reads-used =
      let f = flags-are (2 ^ 32) 1 refl ∙ or-one s in
      let t = stamp_of (bit_or w (2 ^ 32)) in
      let a : t % 2 ≡ 1 = omega (arith, f) in
      let b : t / 2 % 2 ≡ s / 2 % 2 = omega (arith, f) in
      let c : t / 4 % 2 ≡ s / 4 % 2 = omega (arith, f) in
      let d : t / 8 % 2 ≡ s / 8 % 2 = omega (arith, f) in
      λ i. record {
        used = eq-eqb (t % 2) 1 a i;
        closed = b i == 1;
        joining = c i == 1;
        joined = d i == 1;
        count = count-kept (2 ^ 32) refl i;
      }

  pub reads-closed : scope_read (bit_or w (2 ^ 33)) ≡ record (scope_read w) { closed = true }
  reads-closed =
      let f = flags-are (2 ^ 33) 2 refl ∙ or-two s in
      let t = stamp_of (bit_or w (2 ^ 33)) in
      let a : t % 2 ≡ s % 2 = omega (arith, f) in
      let b : t / 2 % 2 ≡ 1 = omega (arith, f) in
      let c : t / 4 % 2 ≡ s / 4 % 2 = omega (arith, f) in
      let d : t / 8 % 2 ≡ s / 8 % 2 = omega (arith, f) in
      λ i. record {
        used = a i == 1;
        closed = eq-eqb (t / 2 % 2) 1 b i;
        joining = c i == 1;
        joined = d i == 1;
        count = count-kept (2 ^ 33) refl i;
      }

  pub reads-joining : scope_read (bit_or w (2 ^ 34)) ≡ record (scope_read w) { joining = true }
  reads-joining =
      let f = flags-are (2 ^ 34) 4 refl ∙ or-four s in
      let t = stamp_of (bit_or w (2 ^ 34)) in
      let a : t % 2 ≡ s % 2 = omega (arith, f) in
      let b : t / 2 % 2 ≡ s / 2 % 2 = omega (arith, f) in
      let c : t / 4 % 2 ≡ 1 = omega (arith, f) in
      let d : t / 8 % 2 ≡ s / 8 % 2 = omega (arith, f) in
      λ i. record {
        used = a i == 1;
        closed = b i == 1;
        joining = eq-eqb (t / 4 % 2) 1 c i;
        joined = d i == 1;
        count = count-kept (2 ^ 34) refl i;
      }

  -- and the count less one, where it isn't 0
  pub reads-less : 1 ≤ code_of w → w ≤ 2 ^ 64 - 1 →
      scope_read ((w + (2 ^ 64 - 1)) % 2 ^ 64) ≡ record (scope_read w) { count = code_of w - 1 }
  reads-less some within =
      let u = (w + (2 ^ 64 - 1)) % 2 ^ 64 in
      let less : u ≡ w - 1 = omega (arith, some, within) in
      let flags : stamp_of u ≡ s = omega (arith, less, some) in
      let count : code_of u ≡ code_of w - 1 = omega (arith, less, some) in
      λ i. record {
        used = flags i % 2 == 1;
        closed = flags i / 2 % 2 == 1;
        joining = flags i / 4 % 2 == 1;
        joined = flags i / 8 % 2 == 1;
        count = count i;
      }

  -- and the count and one, where there is room for it
  pub reads-more : code_of w + 1 ≤ 2 ^ 32 - 1 → w ≤ 2 ^ 64 - 1 →
      scope_read ((w + 1) % 2 ^ 64) ≡ record (scope_read w) { count = code_of w + 1 }
  reads-more room within =
      let u = (w + 1) % 2 ^ 64 in
      let more : u ≡ w + 1 = omega (arith, room, within) in
      let flags : stamp_of u ≡ s = omega (arith, more, room) in
      let count : code_of u ≡ code_of w + 1 = omega (arith, more, room) in
      λ i. record {
        used = flags i % 2 == 1;
        closed = flags i / 2 % 2 == 1;
        joining = flags i / 4 % 2 == 1;
        joined = flags i / 8 % 2 == 1;
        count = count i;
      }
