-- How a view's lists are read by name.
use Rattle.std.specs.Prelude.{◌⊎◌, ℕ, ◌+◌, if◌then◌else◌, List, [], ◌∷◌, Option, Some, None}
use Rattle.life_rules.specs.declared.event.Name.{Name}
use Rattle.common_lemmas.specs.Sums.{one}
use Rattle.life_rules.specs.Views.{same}

-- how often the list has an entry of x
abbrev pub count_by : {A : Type 0} → (A → Name) → List A → Name → ℕ
count_by name [] x = 0
count_by name (e ∷ es) x = count_by name es x + one (same (name e) x)

-- the first entry of x
abbrev pub find_by : {A : Type 0} → (A → Name) → List A → Name → Option A
find_by name [] x = None
find_by name (e ∷ es) x = if same (name e) x then Some e else find_by name es x

-- the list without its first entry of x
abbrev pub without : {A : Type 0} → (A → Name) → List A → Name → List A
without name [] x = []
without name (e ∷ es) x = if same (name e) x then es else e ∷ without name es x

-- P holds of some entry
abbrev pub AnyOf : {A : Type 0} → (A → Type 0) → List A → Type 0
AnyOf P [] = ⊥
AnyOf P (e ∷ es) = P e ⊎ AnyOf P es

-- P holds of each entry
abbrev pub Each : {A : Type 0} → (A → Type 0) → List A → Type 0
Each P [] = Unit {0}
Each P (e ∷ es) = P e × Each P es
