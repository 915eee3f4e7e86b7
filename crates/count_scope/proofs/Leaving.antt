-- How an association is left, and the scope sealed where it was the last.
use Rattle.std.proofs.Common.{◌≡◌, ◌-◌, true, false, not, ◌&&◌, ◌==◌, [], refl, sym, ap, ◌∙◌, subst, arith}
use Rattle.std.specs.Prelude.{Option, nat_le}
use Rattle.std.proofs.lemmas.Bool.{and_parts, and_from, cond-false, lt-leb}
use Rattle.life_rules.specs.declared.scope.ScopeWord.{ScopeWord}
use Rattle.life_rules.specs.Scopes.{may_seal}
use Rattle.table_words.specs.ScopeNumbers.{scope_read}
use Rattle.atomic_table.specs.declared.shared.Seat.{Seat}
use Rattle.table_rules.specs.declared.view.View.{View}
use Rattle.table_rules.specs.Grown.{HasBitsOf}
use Rattle.table_steps.specs.Seats.{Seated}
use Rattle.table_steps.specs.ScopeMoves.{leaves_scope, with_one_less, MovesScope}
use Rattle.count_scope.specs.Tries.{Sealed, AreTries}
use Rattle.count_scope.specs.Seals.{IsFresh, tried, Seals}
use Rattle.count_scope.specs.Leaves.{is_last, emptied, SealsWhere, HasAssociation, disassociated, Leaves}

-- a word by which the last one leaves may be sealed once it has left
pub last-seals : (w : ScopeWord) → is_last w ≡ true → may_seal (emptied w) ≡ true
last-seals w last =
    and_from (w.joining && not w.joined) (0 == 0) (and_parts (w.count == 1) (w.joining && not w.joined) last).1 refl

module _ {P E : Type 0} (change : View P E → View P E) (answer : ScopeWord) (old middle : Seat (Option P) (View P E)) (moves : MovesScope with_one_less change answer old middle) where
  -- the hand's newest step read that word
  pub left-fresh : IsFresh (emptied answer) middle.me.0.steps
  left-fresh =
      record {
        read = moves.read;
        left = moves.left;
        older = (change old.me.0).steps;
        steps_are = ap (λ (m : Seated P E). m.0.steps) moves.me_is;
        bits = subst (HasBitsOf (emptied answer)) (sym moves.left_is)
            (record { used = λ e. e; closed = λ e. e; joining = λ e. e; joined = λ e. e });
      }

  abbrev asks : is_last (scope_read moves.read) ≡ is_last answer
  asks = ap is_last (sym moves.answer_is)

  less : scope_read moves.left ≡ with_one_less (scope_read moves.read)
  less = moves.left_is ∙ ap with_one_less moves.answer_is

  -- it wasn't the last one
  pub left-others : is_last answer ≡ false → Leaves (change old.me.0, old.me.1) middle.me
  left-others others =
      record {
        word = moves.read;
        left = moves.left;
        left_is = less;
        words = [];
        last = 0;
        me_is = moves.me_is;
        seals = subst (λ b. SealsWhere b (emptied (scope_read moves.read)) [] 0) (sym (asks ∙ others)) refl;
      }

  -- it was, and the scope was sealed by these tries
  pub left-last : (sealed : Sealed) (new : Seated P E) → is_last answer ≡ true →
      Seals (emptied answer) sealed middle.me new → Leaves (change old.me.0, old.me.1) new
  left-last sealed new last seals =
      record {
        word = moves.read;
        left = moves.left;
        left_is = less;
        words = seals.words;
        last = seals.left;
        me_is = seals.me_is ∙ ap (λ (m : Seated P E). (tried seals.words seals.left m.0, m.1)) moves.me_is;
        seals = subst (λ b. SealsWhere b (emptied (scope_read moves.read)) seals.words seals.left) (sym (asks ∙ last)) (
          sealed,
          subst (λ w. AreTries (emptied w) sealed seals.words seals.left) moves.answer_is seals.tries,
        );
      }

module _ {P E : Type 0} (v : View P E) where
  -- a hand that has no association being refused leaves one that was made
  pub made-left : v.refused ≡ 0 → leaves_scope v ≡ record v { made = v.made - 1 }
  made-left none =
      cond-false (nat_le 1 v.refused) (record v { refused = v.refused - 1 }) (record v { made = v.made - 1 })
      (lt-leb 1 v.refused (omega (arith, none)))

-- the leave of a hand that has an association
pub disassociates : {P E : Type 0} (m m' : Seated P E) → HasAssociation m.0 → Leaves (leaves_scope m.0, m.1) m' → Leaves (disassociated m) m'
disassociates {P} {E} m m' has left =
    let settled = has.settled in
    subst (λ (v : View P E). Leaves (v, m.1) m') (made-left m.0 (omega (arith, settled))) left
