-- The bits of the scope's word only rise.
use Rattle.std.proofs.Common.{◌≡◌, ◌≢◌, ◌⊎◌, inl, inr, ℕ, ◌+◌, ◌≤◌, Bool, true, false, not, ◌&&◌, ◌==◌, refl, sym, ap, ◌∙◌, subst, arith, List}
use Rattle.std.proofs.lemmas.Bool.{and_parts, and_from, or_parts, eqb-true, not-true, not-false, not_from_false, true≢false}
use Rattle.life_rules.specs.declared.scope.ScopeWord.{ScopeWord}
use Rattle.life_rules.specs.Scopes.{may_seal}
use Rattle.table_words.specs.Stamps.{bit}
use Rattle.listed_words.specs.declared.seen.Seen.{Seen}
use Rattle.table_rules.specs.Grown.{HasBitsOf, KeepsBits}
use Rattle.count_scope.specs.Seals.{IsFresh}
use Rattle.count_scope.specs.Tries.{is_settled}

pub same-bits : (w : ScopeWord) → HasBitsOf w w
same-bits w = record { used = λ e. e; closed = λ e. e; joining = λ e. e; joined = λ e. e }

pub more-bits : (a b c : ScopeWord) → HasBitsOf a b → HasBitsOf b c → HasBitsOf a c
more-bits a b c x y =
    record {
      used = λ e. y.used (x.used e);
      closed = λ e. y.closed (x.closed e);
      joining = λ e. y.joining (x.joining e);
      joined = λ e. y.joined (x.joined e);
    }

-- what the hand knows of its newest step is kept by the word that it reads next
pub fresh-kept : (w : ScopeWord) (steps : List Seen) (now : ScopeWord) → IsFresh w steps → KeepsBits steps now → HasBitsOf w now
fresh-kept w steps now fresh keeps =
    more-bits w _ now fresh.bits ((subst (λ s. KeepsBits s now) fresh.steps_are keeps).0 refl).1

-- what it means that a word may be sealed
pub sealed-parts : (w : ScopeWord) → may_seal w ≡ true → (w.joining ≡ true) × (w.joined ≡ false) × (w.count ≡ 0)
sealed-parts w h =
    let a = and_parts (w.joining && not w.joined) (w.count == 0) h in
    let b = and_parts w.joining (not w.joined) a.0 in
    (b.0, not-true w.joined b.1, eqb-true w.count 0 a.1)

-- a word that joins and isn't settled may be sealed
pub unsettled-seals : (w : ScopeWord) → w.joining ≡ true → is_settled w ≡ false → may_seal w ≡ true
unsettled-seals w joins h =
    let a = or_parts w.joined (not (w.count == 0)) h in
    and_from (w.joining && not w.joined) (w.count == 0)
    (and_from w.joining (not w.joined) joins (not_from_false w.joined a.0))
    (not-false (w.count == 0) a.1)

-- so many of the used and the closed bit are clear
abbrev pub clear_in : ScopeWord → ℕ
clear_in w = bit (not w.used) + bit (not w.closed)

one-rises : (b c : Bool) → (b ≡ true → c ≡ true) → (c ≡ b) ⊎ (bit (not c) + 1 ≡ bit (not b))
one-rises true true h = inl refl
one-rises true false h = absurd (true≢false (sym (h refl)))
one-rises false true h = inr refl
one-rises false false h = inl refl

few-clear : (b c : Bool) → bit b + bit c ≤ 2
few-clear true true = omega arith
few-clear true false = omega arith
few-clear false true = omega arith
few-clear false false = omega arith

pub two-at-most : (w : ScopeWord) → clear_in w ≤ 2
two-at-most w = few-clear (not w.used) (not w.closed)

-- of two words that may be sealed, the later one is the same, or has one of these bits more
pub clear-falls : (a b : ScopeWord) → may_seal a ≡ true → may_seal b ≡ true → HasBitsOf a b → b ≢ a → clear_in b + 1 ≤ clear_in a
clear-falls a b of_a of_b bits differs =
    let p = sealed-parts a of_a in
    let q = sealed-parts b of_b in
    let same : b.used ≡ a.used → b.closed ≡ a.closed → b ≡ a =
    λ used closed i. record {
      used = used i;
      closed = closed i;
      joining = (q.0 ∙ sym p.0) i;
      joined = (q.1 ∙ sym p.1) i;
      count = (q.2 ∙ sym p.2) i;
    } in
    elim (one-rises a.used b.used bits.used) [
      | inl u ↦ elim (one-rises a.closed b.closed bits.closed) [
        | inl c ↦ absurd (differs (same u c))
        | inr c ↦ let e : bit (not b.used) ≡ bit (not a.used) = ap (λ x. bit (not x)) u in omega (arith, e, c)
      ]
      | inr u ↦ elim (one-rises a.closed b.closed bits.closed) [
        | inl c ↦ let e : bit (not b.closed) ≡ bit (not a.closed) = ap (λ x. bit (not x)) c in omega (arith, e, u)
        | inr c ↦ omega (arith, u, c)
      ]
    ]
