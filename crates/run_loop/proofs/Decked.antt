-- A deck that stays, and lists of names that became longer.
use Rattle.std.proofs.Common.{◌≡◌, ℕ, List, [], append-nil, sym, subst}
use Rattle.std.specs.Prelude.{Option, Some}
use Rattle.std.specs.declared.alloc.Global.{Global}
use Rattle.std.specs.declared.vec.Vec.{Vec}
use Rattle.life_rules.specs.declared.event.Name.{Name}
use Rattle.deck_relay.specs.declared.deck.Deck.{Deck}
use Rattle.deck_relay.specs.Decks.{IsSameDeck}
use Rattle.deck_relay.specs.SameDecks.{KeepsDeck, keeps-here}
use Rattle.loop_queue.specs.declared.entry.Drained.{Drained}
use Rattle.loop_queue.specs.declared.entry.Drained.TheVariants.{Emptied, Most, NoMemory}
use Rattle.loop_queue.specs.declared.post.LoopPost.{LoopPost}
use Rattle.loop_queue.specs.Moves.{Moves, Drains}
use Rattle.run_loop.specs.Longer.{AreMoreNames}

-- where it isn't touched
pub keeps-same : (old new : Option Deck) → new ≡ old → KeepsDeck old new
keeps-same old new is = subst (λ o. KeepsDeck old o) (sym is) (keeps-here old)

-- and where it is there
pub keeps-some : (o o' : Option Deck) (deck deck' : Deck) → o ≡ Some deck → o' ≡ Some deck' → IsSameDeck deck deck' → KeepsDeck o o'
keeps-some o o' deck deck' is is' same =
    subst (λ (t : Option Deck × Option Deck). KeepsDeck t.0 t.1) (λ j. (sym is j, sym is' j)) same

-- a list is as long as itself, and longer with one name more, or where it isn't touched
pub longer-here : (names : List Name) → AreMoreNames names names
longer-here names = record { others = []; is = sym (append-nil names) }

-- what a drain leaves of a list
moves-longer : (count : ℕ) (names longer : List Name) (old new : LoopPost) → Moves count names longer old new → AreMoreNames names longer
moves-longer count names longer old new moves = record { others = _; is = moves.is }

pub drains-longer : (answer : Drained) (names : List Name) (longer : Vec Name Global) (old new : LoopPost) → Drains answer names longer old new →
    AreMoreNames names longer.items
drains-longer (Emptied count) names longer old new did = moves-longer count names longer.items old did.last did.moves
drains-longer Most names longer old new did = moves-longer 4096 names longer.items old new did
drains-longer (NoMemory count) names longer old new did = moves-longer count names longer.items old new did.moves
