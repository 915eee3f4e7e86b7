-- What a view owes: starts of nodes.
use Rattle.std.specs.Prelude.{◌≡◌, ◌≢◌, ℕ, Some}
use Rattle.life_rules.specs.declared.event.Name.{Name}
use Rattle.table_rules.specs.declared.view.View.{View}
use Rattle.table_rules.specs.declared.view.Owed.{Owed}
use Rattle.table_rules.specs.Named.{count_by, Each}
use Rattle.table_steps.specs.Slots.{owed_at}

-- how often the view owes the start of x
abbrev pub owing : {P E : Type 0} → View P E → Name → ℕ
owing v x = count_by (λ e. e.name) v.owed x

-- the view owes the start of x
pub record Owes {P E : Type 0} (v : View P E) (x : Name) : Type 0 where
  pub owed : Owed E
  pub owes : owed_at v x ≡ Some owed

-- the view owes no start in the block of x
abbrev pub OwesNoneThere : {P E : Type 0} → View P E → Name → Type 0
OwesNoneThere v x = Each (λ e. e.name.block ≢ x.block) v.owed

-- the starts that the view owes in the block of x are of x's generation
abbrev pub AreOfItsBlock : {P E : Type 0} → View P E → Name → Type 0
AreOfItsBlock v x = Each (λ e. e.name.block ≡ x.block → e.name.generation ≡ x.generation) v.owed
