-- A step that tells what it read and left may be made as one that lists itself.
use Rattle.std.proofs.Common.{◌≡◌, ℕ, ◌∷◌, ap, ◌∙◌}
use Rattle.std.specs.Prelude.{slice_index}
use Rattle.atomic_table.specs.Table.{Allows}
use Rattle.listed_words.specs.Lists.{entry, Listed}
use Rattle.table_rules.specs.declared.cargo.Cargo.{Ghosts}
use Rattle.table_rules.specs.declared.frame.Frame.{Frame}
use Rattle.table_rules.specs.declared.view.View.{View}
use Rattle.table_rules.specs.Running.{Running}
use Rattle.table_rules.specs.Traces.{Traced}
use Rattle.table_steps.specs.Claims.{with_step, ListsOne}
use Rattle.table_steps.specs.Seats.{Seated}
use Rattle.table_kept.proofs.Tracing.{traced-step}

-- a hand that stands for itself alone may make the step, which lists itself, and tells this
abbrev pub AllowsListed : {P E O : Type 0} → Ghosts P E O → Frame O → ℕ → ℕ → Seated P E → ℕ → (ℕ → ℕ) → (ℕ → Seated P E → Type 0) → Type 0
AllowsListed {P} {E} cargo f slots id m i left told =
    m.0.hands ≡ 1 → Allows (Traced cargo f) slots id m i left
    (λ n m'. Listed (λ (v : View P E). v.steps) (λ (v : View P E). v.splits) i n (left n) (told n) m m')

pub allows-listed : {P E O : Type 0} (cargo : Ghosts P E O) (f : Frame O) (slots id : ℕ) (m : Seated P E) (i : ℕ) (left : ℕ → ℕ) (told : ℕ → Seated P E → Type 0) →
    ((n : ℕ) (m' : Seated P E) → told n m' → ListsOne i n (left n) m m') →
    Allows (Running cargo f) slots id m i left told → AllowsListed cargo f slots id m i left told
allows-listed cargo f slots id m i left told lists allows itself s old deep at small =
    let step = allows s old.runs deep at small in
    let one = lists _ _ step.4 in (
      step.0,
      step.1,
      step.2,
      traced-step cargo f s id i (slice_index s.words i) (left (slice_index s.words i)) m.0 step.0 m.1 step.1 old at itself
          one.steps_are one.joined_are one.hands_are step.3,
      record { entry_is = one.steps_are; splits_are = one.splits_are; rest = step.4 },
    )

-- a hand that knows this, with the step listed, lists it
pub lists-one : {P E : Type 0} (i n left : ℕ) (m m' : Seated P E) (w : View P E) → m'.0 ≡ with_step i n left w →
    w.steps ≡ m.0.steps → w.splits ≡ m.0.splits → w.joined ≡ m.0.joined → w.hands ≡ m.0.hands → ListsOne i n left m m'
lists-one i n left m m' w is steps splits joined hands =
    record {
      steps_are = ap (λ v. v.steps) is ∙ ap (λ l. entry i n left ∷ l) steps;
      splits_are = ap (λ v. v.splits) is ∙ splits;
      joined_are = ap (λ v. v.joined) is ∙ joined;
      hands_are = ap (λ v. v.hands) is ∙ hands;
    }
