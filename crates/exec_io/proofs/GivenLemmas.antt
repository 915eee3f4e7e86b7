-- What a shelf gave under a name is what stands there.
use Rattle.std.proofs.Common.{◌≡◌, ℕ, ◌+◌, List, take, Option, None, Some, sym, subst}
use Rattle.std.specs.Prelude.{IsSomeAnd}
use Rattle.exec_io.specs.Shelves.{Texts, text_of, Gives, Stands}

pub given-stands : (most : ℕ) (texts : Option Texts) (name bytes : List ℕ) (P : List ℕ → Type 0) → Gives most texts name bytes → Stands most texts name P → P bytes
given-stands most None name bytes P gives stands = absurd stands
given-stands most (Some known) name bytes P gives stands = told (text_of known name) gives stands
  where
    told : (found : Option (List ℕ)) → IsSomeAnd found (λ text. bytes ≡ take (most + 1) text) → IsSomeAnd found (λ text. P (take (most + 1) text)) → P bytes
    told None gives stands = absurd stands
    told (Some text) gives stands = subst P (sym gives) stands
