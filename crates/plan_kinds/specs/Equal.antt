-- That `==` on kinds tells whether they are equal.
use Rattle.std.specs.Prelude.{◌≡◌, Bool, List, refl}
use Rattle.std.specs.Bool.{Decides}
use Rattle.std.specs.Cmp.{IsEquivalence, decided}
use Rattle.std.specs.Cmp.Lexicographic.{pointwise, pointwise_decides}
use Rattle.exec_value.specs.declared.kinds.Kind.{Kind}
use Rattle.exec_value.specs.declared.kinds.Kind.TheVariants.{Int, Text, Row, MaybeInt, MaybeText}
use Rattle.exec_value.specs.contracts.kinds.KindPartialEq.TheImpl.{ghosts}

-- what `==` answers on two kinds
abbrev pub kind_eq : Kind → Kind → Bool
kind_eq = ghosts.eq

-- it tells whether they are equal
pub Decides-kind_eq : (x y : Kind) → Decides (kind_eq x y) (x ≡ y)
Decides-kind_eq Int Int = (λ e. refl, λ e. refl)
Decides-kind_eq Text Text = (λ e. refl, λ e. refl)
Decides-kind_eq Row Row = (λ e. refl, λ e. refl)
Decides-kind_eq MaybeInt MaybeInt = (λ e. refl, λ e. refl)
Decides-kind_eq MaybeText MaybeText = (λ e. refl, λ e. refl)
Decides-kind_eq x y = (λ e. cc, λ e. cc)

-- as an equivalence
pub kind_equiv : IsEquivalence kind_eq
kind_equiv = decided kind_eq Decides-kind_eq

-- both lists have the same kinds in the same order
abbrev pub same_kinds : List Kind → List Kind → Bool
same_kinds = pointwise kind_eq

pub Decides-same_kinds : (x y : List Kind) → Decides (same_kinds x y) (x ≡ y)
Decides-same_kinds = pointwise_decides Decides-kind_eq
