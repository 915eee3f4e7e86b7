-- How a hand gives homes back.
use Rattle.std.specs.Prelude.{ℕ, Bool, if◌then◌else◌, List, [], ◌∷◌}

-- the slots that the hand still carries after it gave those back that are so
abbrev pub shed : {A : Type 0} → (ℕ → Bool) → List (ℕ × A) → List (ℕ × A)
shed gone [] = []
shed gone (c ∷ cs) = if gone c.0 then shed gone cs else c ∷ shed gone cs
