-- That `==` on data tells whether they are equal.
use Rattle.std.specs.Prelude.{◌≡◌, ℤ, Bool, List, refl}
use Rattle.std.specs.Bool.{Decides}
use Rattle.std.specs.Cmp.{IsEquivalence, decided, signed_Decides}
use Rattle.std.specs.Cmp.Lexicographic.{pointwise, pointwise_decides, bytes_decides}
use Rattle.std.specs.Ordering.{int_eq}
use Rattle.std.proofs.Common.{ap}
use Rattle.exec_value.specs.declared.data.Datum.{Datum}
use Rattle.exec_value.specs.declared.data.Datum.TheVariants.{Int, Text, Row, SomeInt, SomeText, Nothing}
use Rattle.exec_value.specs.contracts.data.DatumPartialEq.TheImpl.{ghosts}

-- what `==` answers on two data
abbrev pub datum_eq : Datum → Datum → Bool
datum_eq = ghosts.eq

rows : (a b : List ℤ) → Decides (pointwise int_eq a b) (a ≡ b)
rows = pointwise_decides signed_Decides

-- it tells whether they are equal
pub Decides-datum_eq : (x y : Datum) → Decides (datum_eq x y) (x ≡ y)
Decides-datum_eq (Int m) (Int n) = let d = signed_Decides m n in (
  λ e. ap (λ z. Int z) (d.0 e),
  λ e. d.1 cc,
)
Decides-datum_eq (Text a) (Text b) = let d = bytes_decides a b in (
  λ e. ap (λ l. Text l) (d.0 e),
  λ e. d.1 cc,
)
Decides-datum_eq (Row a) (Row b) = let d = rows a b in (λ e. ap (λ l. Row l) (d.0 e), λ e. d.1 cc)
Decides-datum_eq (SomeInt m) (SomeInt n) = let d = signed_Decides m n in
    (λ e. ap (λ z. SomeInt z) (d.0 e), λ e. d.1 cc)
Decides-datum_eq (SomeText a) (SomeText b) = let d = bytes_decides a b in
    (λ e. ap (λ l. SomeText l) (d.0 e), λ e. d.1 cc)
Decides-datum_eq Nothing Nothing = (λ e. refl, λ e. refl)
Decides-datum_eq x y = (λ e. cc, λ e. cc)

-- as an equivalence
pub datum_equiv : IsEquivalence datum_eq
datum_equiv = decided datum_eq Decides-datum_eq
