-- A mark that a place's word makes once and for all: it stays while the name lives, and counts as
-- made when the name's generation is over.
use Rattle.std.specs.Prelude.{◌==◌, nat_lt}
use Rattle.std.proofs.Common.{◌≡◌, ℕ, ◌≤◌, Bool, true, false, cond, ◌&&◌, ◌||◌, sym, ap, ap₂, ◌∙◌, subst, inl, inr, arith}
use Rattle.std.proofs.lemmas.Bool.{cond-true, cond-false, and_parts, or_cases, or_left, or_right, eqb-true, ltb-true, both_ways}
use Rattle.life_rules.specs.declared.event.Name.{Name}
use Rattle.life_rules.specs.declared.words.BlockWord.{BlockWord}
use Rattle.life_rules.specs.Words.{is_open, is_free}
use Rattle.life_rules.specs.States.{State, size, name_of, is_live, set_at}
use Rattle.life_rules.specs.LifeSteps.{after_claim, after_release, next_word}
use Rattle.common_lemmas.proofs.Bool.{either}
use Rattle.life_rules.proofs.Readings.{lives, name_of-live}
use Rattle.life_laws.specs.Histories.{is_over, is_past}
use Rattle.life_laws.proofs.Blocks.{free-shut, is_over-claim, is_past-next}

-- x is live where its block's word is this one
abbrev lives_by : State → Name → BlockWord → Bool
lives_by s x w =
    nat_lt x.block s.blocks
    && (nat_lt x.node (size s) && (is_open w.state && x.generation == w.generation))

module _ {A : Type 0} (dull : A) (test : A → Bool) (plain : test dull ≡ false) where
  -- the word of x, as it reads, passes the test
  abbrev pub passes : State → (ℕ → ℕ → A) → Name → Bool
  passes s f x = test (cond (is_live s x) (f x.block x.node) dull)

  abbrev pub is_marked : State → (ℕ → ℕ → A) → Name → Bool
  is_marked s f x = passes s f x || is_over s x

  -- only a live name's word passes
  pub passes-live : (s : State) (f : ℕ → ℕ → A) (x : Name) → passes s f x ≡ true → is_live s x ≡ true
  passes-live s f x pass =
      either (is_live s x) (λ live. live)
      (λ dead. absurd (both_ways _ (ap test (cond-false (is_live s x) _ _ dead) ∙ plain) pass))

  -- what a write to one place leaves of x's mark
  pub passes-written : (s : State) (f : ℕ → ℕ → A) (b n : ℕ) (w : A) (x : Name) →
      (is_live s (name_of s b n) ≡ true → test (f b n) ≡ true → test w ≡ true) →
      passes s f x ≡ true → passes s (set_at f b n w) x ≡ true
  passes-written s f b n w x stays pass =
      let live : is_live s x ≡ true = passes-live s f x pass in
      let read : test (f x.block x.node) ≡ true =
      subst (λ v. test v ≡ true) (cond-true (is_live s x) _ _ live) pass in
      let now : passes s (set_at f b n w) x ≡ test (set_at f b n w x.block x.node) =
      ap test (cond-true (is_live s x) _ _ live) in
      now ∙ either (x.block == b && x.node == n)
      (λ here.
      let parts = and_parts (x.block == b) (x.node == n) here in
      let block : x.block ≡ b = eqb-true _ _ parts.0 in
      let node : x.node ≡ n = eqb-true _ _ parts.1 in
      let now_live : is_live s (name_of s b n) ≡ true =
      ap₂ (λ i j. is_live s (name_of s i j)) (sym block) (sym node)
      ∙ ap (is_live s) (name_of-live s x live) ∙ live in
      ap test (cond-true (x.block == b && x.node == n) w (f x.block x.node) here)
      ∙ stays now_live (ap test (ap₂ f (sym block) (sym node)) ∙ read))
      (λ there.
      ap test (cond-false (x.block == b && x.node == n) w (f x.block x.node) there) ∙ read)

  -- a state in which the same names are over keeps the mark where the word does
  pub marked-from : (s t : State) (f g : ℕ → ℕ → A) (x : Name) → is_over t x ≡ is_over s x →
      (passes s f x ≡ true → passes t g x ≡ true) → is_marked s f x ≡ true → is_marked t g x ≡ true
  marked-from s t f g x over pass mark =
      elim (or_cases (passes s f x) (is_over s x) mark) [
        | inl p ↦ or_left _ _ (pass p)
        | inr o ↦ or_right _ _ (over ∙ o)
      ]

  pub marked-claim : (s : State) (h b : ℕ) (f : ℕ → ℕ → A) (x : Name) → is_free (s.block b).state ≡ true →
      is_marked s f x ≡ true → is_marked (after_claim s h b) f x ≡ true
  marked-claim s h b f x free =
      marked-from s (after_claim s h b) f f x (is_over-claim s h b x free) (λ pass.
      let opened = (lives s x (passes-live s f x pass)).is_opened in
      either (x.block == b)
      (λ here.
      let shut : is_open (s.block x.block).state ≡ false =
      subst (λ i. is_open (s.block i).state ≡ false) (sym (eqb-true _ _ here)) (free-shut _ free) in
      absurd (both_ways _ shut opened))
      (λ there.
      let word : (after_claim s h b).block x.block ≡ s.block x.block =
      cond-false (x.block == b) _ (s.block x.block) there in
      ap (λ w. test (cond (lives_by s x w) (f x.block x.node) dull)) word ∙ pass))

  -- what is marked is of a generation that has come
  marked-come : (s : State) (f : ℕ → ℕ → A) (x : Name) → is_marked s f x ≡ true →
      x.generation ≤ (s.block x.block).generation
  marked-come s f x mark =
      elim (or_cases (passes s f x) (is_over s x) mark) [
        | inl pass ↦ let same = (lives s x (passes-live s f x pass)).generation in omega (arith, same)
        | inr over ↦ elim (or_cases (nat_lt x.generation (s.block x.block).generation) _ over) [
          | inl below ↦ let less = ltb-true _ _ below in omega (arith, less)
          | inr at ↦
              let same = eqb-true _ _ (and_parts (x.generation == (s.block x.block).generation) _ at).0 in
              omega (arith, same)
        ]
      ]

  pub marked-release : (s : State) (h b : ℕ) (f : ℕ → ℕ → A) (x : Name) → is_marked s f x ≡ true →
      is_marked (after_release s h b) (λ i n. cond (i == b) dull (f i n)) x ≡ true
  marked-release s h b f x mark =
      either (x.block == b)
      (λ here.
      let at : x.block ≡ b = eqb-true _ _ here in
      let come : x.generation ≤ (s.block b).generation =
      subst (λ i. x.generation ≤ (s.block i).generation) at (marked-come s f x mark) in
      let word : (after_release s h b).block x.block ≡ next_word (s.block b) =
      cond-true (x.block == b) (next_word (s.block b)) (s.block x.block) here in
      or_right _ _ (ap (λ w. is_past w x.generation) word ∙ is_past-next (s.block b) x.generation come))
      (λ there.
      let word : (after_release s h b).block x.block ≡ s.block x.block =
      cond-false (x.block == b) _ (s.block x.block) there in
      let read : cond (x.block == b) dull (f x.block x.node) ≡ f x.block x.node =
      cond-false (x.block == b) _ _ there in
      ap₂ (λ w v. test (cond (lives_by s x w) v dull) || is_past w x.generation) word read ∙ mark)
