-- Needs that are passed, and the first that isn't.
use Rattle.std.proofs.Common.{◌≡◌, Bool, true, false, ◌&&◌, Option, None, Some, refl, subst}
use Rattle.std.specs.Prelude.{is_none}
use Rattle.step_reasons.specs.declared.fact.Fact.{Fact}
use Rattle.step_reasons.specs.Unless.{unless}

pub passed : (b : Bool) (fact : Fact) (rest : Option Fact) → b ≡ true → unless b fact rest ≡ rest
unfolding unless
passed true fact rest e = refl
passed false fact rest e = cc

pub stopped : (b : Bool) (fact : Fact) (rest : Option Fact) → b ≡ false → unless b fact rest ≡ Some fact
unfolding unless
stopped true fact rest e = cc
stopped false fact rest e = refl

-- a reason is that of the first need that doesn't hold
pub on : (P : Fact → Type 0) (b : Bool) (fact : Fact) (rest : Option Fact) (found : Fact) → unless b fact rest ≡ Some found
    → (b ≡ false → P fact) → (b ≡ true → rest ≡ Some found → P found) → P found
unfolding unless
on P true fact rest found e stop pass = pass refl e
on P false fact rest found e stop pass = let same : fact ≡ found = cc in subst P same (stop refl)

-- where all needs hold there is none
pub done : (P : Fact → Type 0) (found : Fact) → ◌≡◌ {A = Option Fact} None (Some found) → P found
done P found e = cc

-- one need more
pub more : (b : Bool) (fact : Fact) (rest : Option Fact) (may : Bool) → is_none rest ≡ may → is_none (unless b fact rest) ≡ (b && may)
unfolding unless
more true fact rest may e = e
more false fact rest may e = refl

pub last : (b : Bool) (fact : Fact) → is_none (unless b fact None) ≡ b
unfolding unless
last true fact = refl
last false fact = refl

pub none-test : (o : Option Fact) → is_none o ≡ true → o ≡ None
none-test None e = refl
none-test (Some fact) e = cc

-- needs in another grouping
pub grouped : (a b c : Bool) → (a && (b && c)) ≡ ((a && b) && c)
grouped true b c = refl
grouped false b c = refl

pub grouped_last : (a b c d : Bool) → (a && (b && (c && d))) ≡ ((a && (b && c)) && d)
grouped_last true true c d = refl
grouped_last true false c d = refl
grouped_last false b c d = refl

pub turned : (a b : Bool) → (a && b) ≡ (b && a)
turned true true = refl
turned true false = refl
turned false true = refl
turned false false = refl

pub twice : (a b : Bool) → (a && (a && b)) ≡ (a && b)
twice true b = refl
twice false b = refl

pub twice_both : (a b c : Bool) → (a && (b && (a && (b && c)))) ≡ (a && (b && c))
twice_both true true c = refl
twice_both true false c = refl
twice_both false b c = refl

pub run_twice : (a b c : Bool) → (a && (c && (a && (b && c)))) ≡ (a && (b && c))
run_twice true true true = refl
run_twice true true false = refl
run_twice true false true = refl
run_twice true false false = refl
run_twice false b c = refl

-- one that doesn't hold
pub no_left : (a b : Bool) → a ≡ false → (a && b) ≡ false
no_left true b e = cc
no_left false b e = refl

pub no_right : (a b : Bool) → b ≡ false → (a && b) ≡ false
no_right true b e = e
no_right false b e = refl

-- where a need of the first two doesn't hold, those behind them don't count
pub two-some : (a b : Bool) (f g : Fact) (rest : Option Fact) (found : Fact) → unless a f (unless b g None) ≡ Some found → unless a f (unless b g rest) ≡ Some found
unfolding unless
two-some true true f g rest found e = cc
two-some true false f g rest found e = e
two-some false b f g rest found e = e

-- where both hold, only those behind them do
pub two-none : (a b : Bool) (f g : Fact) (rest : Option Fact) → unless a f (unless b g None) ≡ None → unless a f (unless b g rest) ≡ rest
unfolding unless
two-none true true f g rest e = refl
two-none true false f g rest e = cc
two-none false b f g rest e = cc

pub three-some : (a b c : Bool) (f g h : Fact) (rest : Option Fact) (found : Fact) → unless a f (unless b g (unless c h None)) ≡ Some found → unless a f (unless b g (unless c h rest)) ≡ Some found
unfolding unless
three-some true true true f g h rest found e = cc
three-some true true false f g h rest found e = e
three-some true false c f g h rest found e = e
three-some false b c f g h rest found e = e

-- of three needs of which two hold the other fails
pub middle-fails : (a b c : Bool) → (a && (b && c)) ≡ false → a ≡ true → c ≡ true → b ≡ false
middle-fails true true c e p q = let wrong : true ≡ false = cc in cc
middle-fails true false c e p q = refl
middle-fails false b c e p q = cc
