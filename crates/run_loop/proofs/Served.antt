-- Nodes that were taken and stepped, one after the other, and the names that their steps left.
use Rattle.std.proofs.Common.{◌≡◌, ℕ, zero, suc, ◌+◌, ◌-◌, ◌^◌, ◌≤◌, min, true, false, arith, refl, ◌∙◌, subst}
use Rattle.std.proofs.lemmas.Bool.{both_ways}
use Rattle.std.specs.Prelude.{Option, Some, None, IfSome, IfNone, is_some}
use Rattle.life_rules.specs.declared.event.Name.{Name}
use Rattle.life_rules.specs.declared.event.Resting.{Resting}
use Rattle.plan_shape.specs.Blueprint.{Blueprint}
use Rattle.table_steps.specs.Views.{Board}
use Rattle.exec_recv.specs.Sites.{Does}
use Rattle.node_walks.specs.Mails.{HearsAll}
use Rattle.node_walks.specs.Since.{OnlyLooks}
use Rattle.node_walks.specs.Serving.{OnlyServes}
use Rattle.node_walks.proofs.Read.{looks-here, looks-on}
use Rattle.run_loop.specs.Fetches.{HearsName}
use Rattle.run_loop.specs.Serves.{HandMoment, OnlyLooked, Taking, ServesOne, Serves, ServesMore}

-- a place where none was taken
pub none-taken : (answer : Option Name) (A : Type 0) → is_some answer ≡ false → IfNone answer A → A
none-taken (Some name) A none fact = absurd (both_ways true none refl)
none-taken None A none fact = fact

-- nothing was done
pub looked-here : (m : HandMoment) → OnlyLooked m m
looked-here m = record { looks = looks-here m.me; unheard = refl }

-- looks after looks
pub looked-on : (m between m' : HandMoment) → OnlyLooked m between → OnlyLooked between m' → OnlyLooked m m'
looked-on m between m' first next =
    record { looks = looks-on m.me between.me m'.me first.looks next.looks; unheard = next.unheard ∙ first.unheard }

-- and those at a place where none was taken
pub looked-none : (answer : Option Name) (m m' : HandMoment) → is_some answer ≡ false → IfNone answer (OnlyLooks m.me m'.me) →
    IfNone answer (m'.names ≡ m.names) → OnlyLooked m m'
looked-none answer m m' none looks unheard =
    record {
      looks = none-taken answer (OnlyLooks m.me m'.me) none looks;
      unheard = none-taken answer (m'.names ≡ m.names) none unheard;
    }

module _ (does : Does) (board : Board Blueprint) (may : Taking) where
  -- one that a place of the table had
  pub one-taken : (from : Resting) (answer : Option Name) (m m' : HandMoment) → ((name : Name) → may from name) →
      is_some answer ≡ true →
      IfSome answer (λ name. HearsAll HearsName m.names m'.names (OnlyServes does board from name m.me m'.me)) → ServesOne does board may m m'
  one-taken from (Some name) m m' may_be some one = record { name = name; from = from; may_be = may_be name; serves = one }
  one-taken from None m m' may_be some one = absurd (both_ways false refl some)

  -- looks after several
  looks-after : (count : ℕ) (m between m' : HandMoment) → Serves does board may count m between → OnlyLooked between m' →
      Serves does board may count m m'
  looks-after zero m between m' serves looks = looked-on m between m' serves looks
  looks-after (suc count) m between m' serves looks =
      record {
        between = serves.between;
        before = serves.before;
        served = serves.served;
        one = serves.one;
        looks = looked-on serves.served between m' serves.looks looks;
      }

  -- and others after several
  serves-then : (count more : ℕ) (m between m' : HandMoment) → Serves does board may count m between →
      Serves does board may more between m' → Serves does board may (count + more) m m'
  serves-then count zero m between m' first next =
      let is : count ≡ count + 0 = omega arith in
      subst (λ n. Serves does board may n m m') is (looks-after count m between m' first next)
  serves-then count (suc more) m between m' first next =
      let is : suc (count + more) ≡ count + suc more = omega arith in
      let all : Serves does board may (suc (count + more)) m m' =
      record {
        between = next.between;
        before = serves-then count more m between next.between first next.before;
        served = next.served;
        one = next.one;
        looks = next.looks;
      }
      in
      subst (λ n. Serves does board may n m m') is all

  -- none more, where words were only looked at
  pub more-none : (count : ℕ) (m m' : HandMoment) → count ≤ 2 ^ 32 - 1 → OnlyLooked m m' → ServesMore does board may count count m m'
  more-none count m m' few looks = record { count = 0; counted = omega (arith, few); serves = looks }

  -- one more
  pub more-one : (count more : ℕ) (m m' : HandMoment) → more ≡ min (count + 1) (2 ^ 32 - 1) → ServesOne does board may m m' →
      ServesMore does board may count more m m'
  more-one count more m m' is one =
      record {
        count = 1;
        counted = is;
        serves = record { between = m; before = looked-here m; served = m'; one = one; looks = looked-here m' };
      }

  -- more, and then more
  pub more-on : (count more most : ℕ) (m between m' : HandMoment) → ServesMore does board may count more m between →
      ServesMore does board may more most between m' → ServesMore does board may count most m m'
  more-on count more most m between m' first next =
      record {
        count = first.count + next.count;
        counted = let one = first.counted in let two = next.counted in
            let all : most ≡ min (count + (first.count + next.count)) (2 ^ 32 - 1) = omega (arith, one, two) in all;
        serves = serves-then first.count next.count m between m' first.serves next.serves;
      }

  -- none, where none was counted
  pub more-first : (more : ℕ) (m between m' : HandMoment) → ServesMore does board may 0 0 m between →
      ServesMore does board may 0 more between m' → ServesMore does board may 0 more m m'
  more-first more m between m' first next = more-on 0 0 more m between m' first next

-- what may be taken by one rule may be by a wider one
module _ (does : Does) (board : Board Blueprint) (may wider : Taking) (is : (from : Resting) (name : Name) → may from name → wider from name) where
  serves-by : (count : ℕ) (m m' : HandMoment) → Serves does board may count m m' → Serves does board wider count m m'
  serves-by zero m m' serves = serves
  serves-by (suc count) m m' serves =
      record {
        between = serves.between;
        before = serves-by count m serves.between serves.before;
        served = serves.served;
        one = record {
          name = serves.one.name;
          from = serves.one.from;
          may_be = is serves.one.from serves.one.name serves.one.may_be;
          serves = serves.one.serves;
        };
        looks = serves.looks;
      }

  pub more-by : (count more : ℕ) (m m' : HandMoment) → ServesMore does board may count more m m' →
      ServesMore does board wider count more m m'
  more-by count more m m' serves =
      record { count = serves.count; counted = serves.counted; serves = serves-by serves.count m m' serves.serves }
