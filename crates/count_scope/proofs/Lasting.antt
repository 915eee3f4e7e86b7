-- The bits that a call read or left in the scope's word stay, so what they say stays.
use Rattle.std.proofs.Common.{◌≡◌, ◌⊎◌, inl, inr, ℕ, Bool, true, false, List, [], ◌∷◌, sym, ap, ◌∙◌}
use Rattle.std.specs.Prelude.{Option, Ok, Err}
use Rattle.std.proofs.lemmas.Bool.{cases_Bool, cond-false}
use Rattle.life_rules.specs.declared.scope.ScopeWord.{ScopeWord}
use Rattle.life_rules.specs.Scopes.{may_seal}
use Rattle.table_words.specs.ScopeNumbers.{scope_read}
use Rattle.atomic_table.specs.Table as table
use Rattle.atomic_table.specs.declared.shared.Seat.{Seat}
use Rattle.table_rules.specs.declared.cargo.Cargo.{Ghosts}
use Rattle.table_rules.specs.declared.frame.Frame.{Frame}
use Rattle.table_rules.specs.declared.view.View.{View}
use Rattle.table_rules.specs.ShownWords.{scope_of}
use Rattle.table_rules.specs.Running.{Running}
use Rattle.table_steps.specs.Claims.{with_step}
use Rattle.table_steps.specs.Seats.{Seated}
use Rattle.table_laws.specs.Lasting.{StillLists, IsEmptied}
use Rattle.table_laws.proofs.Lasting.{scope-later, emptied-since}
use Rattle.count_scope.specs.declared.joining.JoinStart.TheVariants.{Joined, Waiting}
use Rattle.count_scope.specs.Seals.{tried, listed}
use Rattle.count_scope.specs.Associations.{MarksWhere, associated}
use Rattle.count_scope.specs.Joins.{start_of, StartsWhere}
use Rattle.count_scope.specs.Lasting.{StartedIsEmpty, LeftIsEmpty, AssociatedIsUsed, ClosedStays}

-- an answer by a word says that it is joined only where it is
joined-of : (w : ScopeWord) → Joined ≡ start_of w → w.joined ≡ true
joined-of w e =
    elim (cases_Bool w.joined) [
      | inl t ↦ t
      | inr f ↦ let no : Joined ≡ Waiting = e ∙ cond-false w.joined Joined Waiting f in cc
    ]

-- the newest of the tries left the scope joined; or there was none, and the first word was joined
joined-by : (asks : Bool) (first : ScopeWord) (words : List ℕ) (last : ℕ) → StartsWhere asks first words last Joined →
    ((words ≡ []) × (first.joined ≡ true))
    ⊎ ((word : ℕ) × (before : List ℕ) × (words ≡ word ∷ before) × ((scope_read last).joined ≡ true))
joined-by true first words last (Ok _, tries, e) =
    inr (tries.last, tries.before, tries.words_are, ap (λ (w : ScopeWord). w.joined) tries.ends.1)
joined-by true first words last (Err read, tries, e) =
    inr (
      tries.last,
      tries.before,
      tries.words_are,
      ap (λ n. (scope_read n).joined) tries.ends.2 ∙ ap (λ (w : ScopeWord). w.joined) (sym tries.ends.0) ∙ joined-of read e,
    )
joined-by false first words last (none, e) = inl (none, joined-of first e)

module _ {P E O : Type 0} (cargo : Ghosts P E O) where
  -- the hand's newest step was such a try
  tried-empties : (words : List ℕ) (last word : ℕ) (before : List ℕ) (v : View P E) (c : List (ℕ × Option P)) (new : Seat (Option P) (View P E)) →
      new.me ≡ (tried words last v, c) → words ≡ word ∷ before → (scope_read last).joined ≡ true →
      (f : Frame O) (s : table.State (Option P) (View P E)) → Running cargo f s → StillLists new s → IsEmptied f s
  tried-empties words last word before v c new me_is words_are joined f s r lists =
      emptied-since cargo f s r new word last (listed before v).steps
      (ap (λ (z : Seated P E). z.0.steps) me_is ∙ ap (λ ws. (tried ws last v).steps) words_are) lists joined

  pub started-is_empty : StartedIsEmpty cargo
  started-is_empty m new did f s r lists =
      let v : View P E = with_step 0 did.read did.left m.0 in
      elim (joined-by (may_seal (scope_read did.left)) (scope_read did.left) did.words did.last did.starts) [
        | inl none ↦
            emptied-since cargo f s r new did.read did.left m.0.steps
            (ap (λ (z : Seated P E). z.0.steps) did.me_is ∙ ap (λ ws. (tried ws did.last v).steps) none.0) lists none.1
        | inr by ↦ tried-empties did.words did.last by.0 by.1 v m.1 new did.me_is by.2 by.3 f s r lists
      ]

  pub left-is_empty : LeftIsEmpty cargo
  left-is_empty m new did tries f s r lists =
      tried-empties did.words did.last tries.last tries.before (with_step 0 did.word did.left m.0) m.1 new did.me_is tries.words_are
      (ap (λ (w : ScopeWord). w.joined) tries.ends.1) f s r lists

  -- by the entry where the used bit was read, and by the mark else
  used-by : (was : Bool) (word left : ℕ) (m : Seated P E) (new : Seat (Option P) (View P E)) → (scope_read left).used ≡ was →
      MarksWhere was (associated (with_step 0 word left m.0, m.1)) new.me →
      (f : Frame O) (s : table.State (Option P) (View P E)) → Running cargo f s → StillLists new s → (scope_of f.layout s.words).used ≡ true
  used-by true word left m new was marks f s r lists =
      (scope-later cargo f s r new word left m.0.steps (ap (λ (z : Seated P E). z.0.steps) marks) lists).used was
  used-by false word left m new was mark f s r lists =
      (scope-later cargo f s r new mark.read mark.left _ (ap (λ (z : Seated P E). z.0.steps) mark.me_is) lists).used
      (ap (λ (w : ScopeWord). w.used) mark.left_is)

  pub associated-is_used : AssociatedIsUsed cargo
  associated-is_used most place m new did f s r lists =
      used-by (scope_read did.word).used did.word did.left m new (ap (λ (w : ScopeWord). w.used) did.left_is) did.ends.1 f s r lists

  pub closed-stays : ClosedStays cargo
  closed-stays m new did f s r lists =
      (scope-later cargo f s r new did.read did.left m.0.steps (ap (λ (z : Seated P E). z.0.steps) did.me_is) lists).closed
      (ap (λ (w : ScopeWord). w.closed) did.left_is)
