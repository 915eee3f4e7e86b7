-- What each step does at most once for a mark that stays, a whole list of moves does at most once.
use Rattle.std.specs.Prelude.{nat_lt}
use Rattle.std.proofs.Common.{◌≡◌, ◌+◌, ◌<◌, ◌≤◌, Bool, true, ◌&&◌, List, [], ◌∷◌, sym, ap, subst, arith}
use Rattle.std.proofs.lemmas.Bool.{and_parts, ltb-true, cond-true, cond-false}
use Rattle.common_lemmas.specs.Sums.{one}
use Rattle.life_rules.specs.States.{State}
use Rattle.life_rules.specs.Steps.{Move, is_step, moved, run, may_happen, after}
use Rattle.life_rules.specs.Sound.{Sound}
use Rattle.common_lemmas.proofs.Bool.{either}
use Rattle.life_laws.specs.Histories.{times}

-- what the law of preservation says of one move
abbrev pub MovesKeep : Type 0
MovesKeep = (s : State) (m : Move) → Sound s → Sound (moved s m)

-- a mark that each step keeps, and that a step which passes the test newly makes
pub move-marked : (test : Bool) (mark : State → Bool) (s : State) (m : Move) →
    (m.hand < s.hands → may_happen s m.hand m.event ≡ true →
    one test + one (mark s) ≤ one (mark (after s m.hand m.event))) →
    one (is_step s m && test) + one (mark s) ≤ one (mark (moved s m))
move-marked test mark s m each =
    either (is_step s m)
    (λ step.
    let parts = and_parts (nat_lt m.hand s.hands) _ step in
    let here = each (ltb-true _ _ parts.0) parts.1 in
    let tested : one (is_step s m && test) ≡ one test = ap (λ b. one (b && test)) step in
    subst (λ t. one (is_step s m && test) + one (mark s) ≤ one (mark t))
    (sym (cond-true (is_step s m) _ _ step)) (omega (arith, tested, here)))
    (λ other.
    let untested : one (is_step s m && test) ≡ 0 = ap (λ b. one (b && test)) other in
    subst (λ t. one (is_step s m && test) + one (mark s) ≤ one (mark t))
    (sym (cond-false (is_step s m) _ _ other)) (omega (arith, untested)))

pub times-marked : MovesKeep → (test : State → Move → Bool) (mark : State → Bool) →
    ((s : State) (m : Move) → Sound s →
    one (is_step s m && test s m) + one (mark s) ≤ one (mark (moved s m))) →
    (ms : List Move) (s : State) → Sound s → times test ms s + one (mark s) ≤ one (mark (run ms s))
times-marked law test mark each [] s sound = omega arith
times-marked law test mark each (m ∷ ms) s sound =
    let here = each s m sound in
    let rest = times-marked law test mark each ms (moved s m) (law s m sound) in
    omega (arith, here, rest)
