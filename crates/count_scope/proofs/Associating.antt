-- What an entry leaves: an association that may be left, or one in the making.
use Rattle.std.proofs.Common.{◌≡◌, ℕ, ◌+◌, ◌-◌, false, cond, sym, ap, ◌∙◌, subst, arith}
use Rattle.std.specs.Prelude.{Option, Some, None, Err, is_some, nat_le}
use Rattle.std.proofs.lemmas.Bool.{cond-true, cond-false, le-leb}
use Rattle.life_rules.specs.declared.scope.ScopeWord.{ScopeWord}
use Rattle.life_rules.specs.declared.scope.Refused.{Refused}
use Rattle.life_rules.specs.Scopes.{refusal, is_refused}
use Rattle.atomic_table.specs.declared.shared.Seat.{Seat}
use Rattle.table_rules.specs.declared.view.View.{View}
use Rattle.table_steps.specs.Views.{Board}
use Rattle.table_steps.specs.Claims.{with_step}
use Rattle.table_steps.specs.Seats.{Seated}
use Rattle.table_steps.specs.ScopeMoves.{IsMaking, MayLeaveScope, leaves_scope, with_one_more}
use Rattle.count_scope.specs.Leaves.{Leaves}
use Rattle.count_scope.specs.Associations.{Associates}
use Rattle.table_steps.specs.ScopeEntries.{enters, IsEntered}

module _ {P E : Type 0} (most : ℕ) (w : ScopeWord) (v : View P E) where
  abbrev refuses : View P E
  refuses = record v { refused = v.refused + 1 }

  abbrev made_now : View P E
  made_now = record v { made = v.made + 1 }

  abbrev started : View P E
  started = record v { making = v.making + 1 }

  abbrev kept : View P E
  kept = cond w.used made_now started

  entry-refused : (cause : Refused) → refusal w most ≡ Some cause → enters most w v ≡ refuses
  entry-refused cause is = cond-true (is_refused w most) refuses kept (ap is_some is)

  entry-started : refusal w most ≡ None → w.used ≡ false → enters most w v ≡ started
  entry-started is unused = cond-false (is_refused w most) refuses kept (ap is_some is) ∙ cond-false w.used made_now started unused

module _ {P E O : Type 0} (board : Board O) (answer : ScopeWord) (old middle : Seat (Option P) (View P E)) (entered : IsEntered board answer old middle) where
  abbrev most : ℕ
  most = board.frame.most

  abbrev word : ℕ
  word = entered.read

  abbrev v : View P E
  v = old.me.0

  after-entry : (z : View P E) → enters most answer v ≡ z → middle.me ≡ (with_step 0 word entered.left z, old.me.1)
  after-entry z is = entered.me_is ∙ ap (λ (y : View P E). (with_step 0 word entered.left y, old.me.1)) is

  -- what was told of that word, by the most that the scope takes
  module _ {told : Option Refused} {n : ℕ} (told_is : told ≡ refusal answer n) (n_is : n ≡ most) where
    so-told : (o : Option Refused) → told ≡ o → refusal answer most ≡ o
    so-told o is = sym (told_is ∙ ap (refusal answer) n_is) ∙ is

    -- an association that is refused may be left
    pub refused-leaves : (cause : Refused) → told ≡ Some cause → MayLeaveScope middle.me.0
    refused-leaves cause is =
        let refused = entry-refused most answer v cause (so-told (Some cause) is) in
        subst (λ (m : Seated P E). MayLeaveScope m.0) (sym (after-entry (refuses most answer v) refused)) (omega arith)

    -- one that isn't is in the making, where the scope wasn't used before
    pub kept-starts : told ≡ None → answer.used ≡ false → IsMaking middle.me.0
    kept-starts is unused =
        let begun = entry-started most answer v (so-told None is) unused in
        subst (λ (m : Seated P E). IsMaking m.0) (sym (after-entry (started most answer v) begun)) (omega arith)

    -- where one that was refused was left again, the hand is as before but for its steps
    refused-back : (cause : Refused) → told ≡ Some cause →
        ◌≡◌ {A = Seated P E} (leaves_scope middle.me.0, middle.me.1) (with_step 0 word entered.left v, old.me.1)
    refused-back cause is =
        let turned : View P E = with_step 0 word entered.left (refuses most answer v) in
        let fewer : v.refused + 1 - 1 ≡ v.refused = omega arith in
        let back : leaves_scope turned ≡ with_step 0 word entered.left v =
        cond-true (nat_le 1 turned.refused) (record turned { refused = turned.refused - 1 }) (record turned { made = turned.made - 1 })
        (le-leb 1 turned.refused (omega arith))
        ∙ (λ k. record turned { refused = fewer k }) in
        ap (λ (m : Seated P E). (leaves_scope m.0, m.1))
        (after-entry (refuses most answer v) (entry-refused most answer v cause (so-told (Some cause) is)))
        ∙ (λ k. (back k, old.me.1))

    pub refused-associates : (cause : Refused) (new : Seated P E) → told ≡ Some cause →
        Leaves (leaves_scope middle.me.0, middle.me.1) new → Associates most (Err cause) old.me new
    refused-associates cause new is leaves =
        record {
          word = word;
          left = entered.left;
          left_is = entered.left_is ∙ ap with_one_more entered.answer_is;
          ends = (
            subst (λ w. refusal w most ≡ Some cause) entered.answer_is (so-told (Some cause) is),
            subst (λ (m : Seated P E). Leaves m new) (refused-back cause is) leaves,
          );
        }
