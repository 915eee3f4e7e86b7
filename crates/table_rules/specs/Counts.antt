-- How many blocks the hands claimed and gave back.
use Rattle.std.specs.Prelude.{◌≡◌, ℕ, ◌+◌, List, [], ◌∷◌, length}
use Rattle.life_rules.specs.Words.{is_open}
use Rattle.common_lemmas.specs.Sums.{one}
use Rattle.life_rules.specs.States.{State}
use Rattle.common_lemmas.specs.Sums.{total}
use Rattle.table_rules.specs.declared.view.View.{View}
use Rattle.table_rules.specs.Named.{Each}

-- so many blocks are open
abbrev pub open_blocks : State → ℕ
open_blocks s = total (λ b. one (is_open (s.block b).state)) s.blocks

-- this of each entry, added up
abbrev pub over_all : {A : Type 0} → (A → ℕ) → List A → ℕ
over_all f [] = 0
over_all f (a ∷ rest) = f a + over_all f rest

-- a hand that was joined to another counts nothing any more
abbrev pub CountsItself : {P E : Type 0} → View P E → Type 0
CountsItself v = v.hands ≡ 0 → (v.claimed ≡ 0) × (v.released ≡ 0)

pub record AreCounted {P E : Type 0} (s : State) (views : List (View P E)) : Type 0 where
  -- a block is open from its claim until it is given back
  pub opened : open_blocks s + over_all (λ v. v.released) views ≡ over_all (λ v. v.claimed) views
  pub hands : over_all (λ v. v.hands) views ≡ length views
  pub spent : Each CountsItself views
