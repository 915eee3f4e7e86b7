-- How a claim and a release move what reads at a name, and when its generation is over.
use Rattle.std.specs.Prelude.{◌==◌, nat_lt}
use Rattle.std.proofs.Common.{◌≡◌, ℕ, ◌+◌, ◌≤◌, true, false, ◌&&◌, ◌||◌, refl, sym, ap, ◌∙◌, inl, inr, arith}
use Rattle.std.proofs.lemmas.Bool.{cond-true, cond-false, and_right, and_from, or_from, or_left, or_right, eqb-true, eq-eqb, lt-ltb, le-ltb, cases_lt, false≢true}
use Rattle.life_rules.specs.declared.words.BlockWord.{BlockWord}
use Rattle.life_rules.specs.declared.words.BlockState.{BlockState}
use Rattle.life_rules.specs.declared.words.BlockState.TheVariants.{Free, Open, Retired}
use Rattle.life_rules.specs.declared.event.Name.{Name}
use Rattle.life_rules.specs.Words.{is_open, is_free}
use Rattle.life_rules.specs.States.{State, is_live}
use Rattle.life_rules.specs.LifeSteps.{after_claim, next_word, last_generation}
use Rattle.common_lemmas.proofs.Bool.{either}
use Rattle.life_rules.proofs.Readings.{lives}
use Rattle.life_laws.specs.Histories.{is_over, is_past, is_retired}

open-unretired : (state : BlockState) → is_open state ≡ true → is_retired state ≡ false
open-unretired Free o = refl
open-unretired Open o = refl
open-unretired Retired o = absurd (false≢true o)

free-unretired : (state : BlockState) → is_free state ≡ true → is_retired state ≡ false
free-unretired Free f = refl
free-unretired Open f = refl
free-unretired Retired f = absurd (false≢true f)

pub free-shut : (state : BlockState) → is_free state ≡ true → is_open state ≡ false
free-shut Free f = refl
free-shut Open f = absurd (false≢true f)
free-shut Retired f = refl

-- a live name's generation isn't over
pub is_over-live : (s : State) (x : Name) → is_live s x ≡ true → is_over s x ≡ false
is_over-live s x l =
    let a = lives s x l in
    or_from _ _ (le-ltb x.generation (s.block x.block).generation (omega (arith, a.generation)))
    (and_right _ _ (open-unretired _ a.is_opened))

-- a claim ends no generation
pub is_over-claim : (s : State) (h b : ℕ) (x : Name) → is_free (s.block b).state ≡ true →
    is_over (after_claim s h b) x ≡ is_over s x
is_over-claim s h b x free =
    let opened : BlockWord = record (s.block b) { state = Open } in
    either (x.block == b)
    (λ here.
    let now : is_over (after_claim s h b) x ≡ is_past opened x.generation =
    ap (λ w. is_past w x.generation) (cond-true (x.block == b) opened (s.block x.block) here) in
    let retired : is_retired (s.block b).state ≡ false = free-unretired _ free in
    let same : is_past opened x.generation ≡ is_past (s.block b) x.generation =
    ap (λ r. nat_lt x.generation (s.block b).generation || (x.generation == (s.block b).generation && r))
    (sym retired) in
    now ∙ same ∙ ap (λ i. is_past (s.block i) x.generation) (sym (eqb-true _ _ here)))
    (λ there. ap (λ w. is_past w x.generation) (cond-false (x.block == b) opened (s.block x.block) there))

-- a generation that had come is over after its block's release
pub is_past-next : (w : BlockWord) (generation : ℕ) → generation ≤ w.generation →
    is_past (next_word w) generation ≡ true
is_past-next w generation l =
    let retired : BlockWord = record { generation = w.generation; state = Retired } in
    let free : BlockWord = record { generation = w.generation + 1; state = Free } in
    either (w.generation == last_generation)
    (λ last. ap (λ v. is_past v generation) (cond-true (w.generation == last_generation) retired free last)
    ∙ elim (cases_lt generation w.generation) [
      | inl below ↦ or_left _ _ (lt-ltb _ _ below)
      | inr not_below ↦
          let at : generation ≡ w.generation = omega arith in
          or_right _ _ (and_from _ _ (eq-eqb _ _ at) refl)
    ])
    (λ more. ap (λ v. is_past v generation) (cond-false (w.generation == last_generation) retired free more)
    ∙ or_left _ _ (lt-ltb generation (w.generation + 1) (omega arith)))
