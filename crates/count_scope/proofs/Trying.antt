-- The tries of a seal, one after the other.
use Rattle.std.proofs.Common.{◌≡◌, inl, inr, ℕ, ◌+◌, ◌≤◌, true, false, List, [], ◌∷◌, length, refl, sym, ap, ◌∙◌, subst, arith}
use Rattle.std.specs.Prelude.{Option, Ok, Err, MatchResult}
use Rattle.std.proofs.lemmas.Bool.{cases_Bool}
use Rattle.life_rules.specs.declared.scope.ScopeWord.{ScopeWord}
use Rattle.life_rules.specs.Scopes.{may_seal}
use Rattle.table_words.specs.ScopeNumbers.{scope_read, scope_written}
use Rattle.atomic_table.specs.declared.shared.Seat.{Seat}
use Rattle.table_rules.specs.declared.view.View.{View}
use Rattle.table_rules.specs.Grown.{HasBitsOf}
use Rattle.table_steps.specs.Claims.{with_step, logged}
use Rattle.table_steps.specs.Seats.{Seated}
use Rattle.table_steps.specs.ScopeMoves.{as_joined, IsSealedAs}
use Rattle.count_scope.specs.Tries.{Sealed, is_settled, expected_after, AllFailed}
use Rattle.count_scope.specs.Seals.{IsFresh, listed, Seals}
use Rattle.count_scope.proofs.Rising.{same-bits, fresh-kept, sealed-parts, unsettled-seals, clear_in, clear-falls, two-at-most}

-- the try sealed, or read a word that asks no seal
abbrev pub IsEnd : Sealed → Type 0
IsEnd answer = MatchResult answer (λ _. Unit {0}) (λ read. is_settled read ≡ true)

module _ {P E : Type 0} (first : ScopeWord) (m : Seated P E) where
  -- tries that read these words failed, and the next one expects this word
  pub record Goes (expected : ScopeWord) (words : List ℕ) (m' : Seated P E) : Type 0 where
    pub expects : expected_after first words ≡ expected
    pub me_is : m' ≡ (listed words m.0, m.1)
    pub failed : AllFailed first words
    pub seals : may_seal expected ≡ true
    pub fresh : IsFresh expected m'.0.steps
    pub risen : clear_in expected + length words ≤ clear_in first

  pub goes-first : may_seal first ≡ true → IsFresh first m.0.steps → Goes first [] m
  goes-first seals fresh =
      record { expects = refl; me_is = refl; failed = tt; seals = seals; fresh = fresh; risen = omega arith }

  -- one more try failed, and what it read may be sealed still
  pub goes-on : (expected read : ScopeWord) (words : List ℕ) (old new : Seat (Option P) (View P E)) → Goes expected words old.me →
      IsSealedAs expected (Err read) old new → is_settled read ≡ false → (word : ℕ) × Goes read (word ∷ words) new.me
  goes-on expected read words old new goes tried unsettled =
      let is : read ≡ scope_read tried.word = tried.cause.1 in
      let kept : HasBitsOf expected read =
      subst (HasBitsOf expected) (sym is) (fresh-kept expected old.me.0.steps (scope_read tried.word) goes.fresh tried.bits) in
      let may : may_seal read ≡ true =
      unsettled-seals read (kept.joining (sealed-parts expected goes.seals).0) unsettled in
      let falls = clear-falls expected read goes.seals may kept tried.cause.0 in
      let before = goes.risen in (
        tried.word,
        record {
          expects = sym is;
          me_is = tried.me_is ∙ ap (λ k. (with_step 0 tried.word k old.me.0, old.me.1)) tried.cause.2
              ∙ ap (λ (z : Seated P E). (logged 0 tried.word z.0, z.1)) goes.me_is;
          failed = (
            λ same. tried.cause.0 (is ∙ same ∙ goes.expects),
            subst (λ w. may_seal w ≡ true) is may,
            goes.failed,
          );
          seals = may;
          fresh = record {
            read = tried.word;
            left = tried.left;
            older = old.me.0.steps;
            steps_are = ap (λ (z : Seated P E). z.0.steps) tried.me_is;
            bits = subst (HasBitsOf read) (is ∙ ap scope_read (sym tried.cause.2)) (same-bits read);
          };
          risen = omega (arith, falls, before);
        },
      )

  -- where two failed so, the third one sealed or read a word that asks no seal
  pub third-ends : (expected : ScopeWord) (answer : Sealed) (words : List ℕ) (old new : Seat (Option P) (View P E)) →
      Goes expected words old.me → length words ≡ 2 → IsSealedAs expected answer old new → IsEnd answer
  third-ends expected (Ok _) words old new goes two tried = tt
  third-ends expected (Err read) words old new goes two tried =
      elim (cases_Bool (is_settled read)) [
        | inl settled ↦ settled
        | inr not_yet ↦
            let on = goes-on expected read words old new goes tried not_yet in
            let risen = on.1.risen in
            let most = two-at-most first in
            absurd (omega (arith, risen, most, two))
      ]

  ends-as : (expected : ScopeWord) (answer : Sealed) (words : List ℕ) (old new : Seat (Option P) (View P E)) →
      Goes expected words old.me → (tried : IsSealedAs expected answer old new) → IsEnd answer →
      MatchResult answer
      (λ _. (tried.word ≡ scope_written (expected_after first words)) × (scope_read tried.left ≡ as_joined (expected_after first words)))
      (λ read. (read ≡ scope_read tried.word) × (is_settled read ≡ true) × (tried.left ≡ tried.word))
  ends-as expected (Ok _) words old new goes tried end = (
    tried.cause.0 ∙ ap scope_written (sym goes.expects),
    tried.cause.1 ∙ ap as_joined (sym goes.expects),
  )
  ends-as expected (Err read) words old new goes tried end = (tried.cause.1, end, tried.cause.2)

  -- after the last try the seal has ended
  pub goes-end : (expected : ScopeWord) (answer : Sealed) (words : List ℕ) (old new : Seat (Option P) (View P E)) →
      Goes expected words old.me → IsSealedAs expected answer old new → IsEnd answer → Seals first answer m new.me
  goes-end expected answer words old new goes tried end =
      let risen = goes.risen in
      let most = two-at-most first in
      record {
        words = tried.word ∷ words;
        left = tried.left;
        me_is = tried.me_is ∙ ap (λ (z : Seated P E). (with_step 0 tried.word tried.left z.0, z.1)) goes.me_is;
        tries = record {
          last = tried.word;
          before = words;
          words_are = refl;
          few = omega (arith, risen, most);
          failed = goes.failed;
          ends = ends-as expected answer words old new goes tried end;
        };
      }
