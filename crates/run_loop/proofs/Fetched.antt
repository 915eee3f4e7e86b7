-- Names that a loop takes of its hand's deck, and those that it is told of.
use Rattle.std.proofs.Common.{◌≡◌, ◌≢◌, List, [], ◌∷◌, length, refl, sym, ap, subst, arith}
use Rattle.std.specs.Prelude.{Option, Some, None, IfSome, IfNone}
use Rattle.life_rules.specs.declared.event.Name.{Name}
use Rattle.deck_relay.specs.declared.deck.Deck.{Deck}
use Rattle.deck_relay.specs.Moves.{FindsNone, Takes}
use Rattle.run_loop.specs.declared.loop_mail.LoopMail.{LoopMail}
use Rattle.run_loop.specs.Fetches.{FindsNoneOf, IsPushed, IsShared, TakesOf}

-- a list of no names is empty, and one of some isn't
pub is-empty : (names : List Name) → length names ≡ 0 → names ≡ []
is-empty [] none = refl
is-empty (name ∷ names) none = absurd (omega (arith, none))

pub has-some : (names : List Name) → (length names ≡ 0 → ⊥) → names ≢ []
has-some names some is = some (ap length is)

-- where there is a deck
module _ (o o' : Option Deck) (deck deck' : Deck) (is : o ≡ Some deck) (is' : o' ≡ Some deck') where
  both : (P : Option Deck → Option Deck → Type 0) → P (Some deck) (Some deck') → P o o'
  both P p = subst (λ (t : Option Deck × Option Deck). P t.0 t.1) (λ j. (sym is j, sym is' j)) p

  pub taken-of : (answer : Option Name) → IfSome answer (λ name. Takes name deck deck') → IfSome answer (λ name. TakesOf name o o')
  taken-of (Some name) takes = both (TakesOf name) takes
  taken-of None takes = tt

  pub none-of : (answer : Option Name) → IfNone answer (FindsNone deck deck') → IfNone answer (FindsNoneOf o o')
  none-of (Some name) none = tt
  none-of None none = both FindsNoneOf none

  pub shared-of : (name : Name) (old new : LoopMail) → new.list ≡ old.list → IsPushed name deck deck' → IsShared name old new o o'
  shared-of name old new same pushed = both (IsShared name old new) (same, pushed)

-- and where there is none
pub finds-none : (o : Option Deck) → o ≡ None → FindsNoneOf o o
finds-none o is = subst (λ (p : Option Deck). FindsNoneOf p p) (sym is) tt
