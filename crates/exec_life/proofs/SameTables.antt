-- No step changes the tree, the numbers of blocks and hands, or the scope's kind and greatest number.
use Rattle.std.proofs.Common.{ℕ, Bool, true, false, cond, Option, Some, None, refl}
use Rattle.std.specs.Option.{option_map_or}
use Rattle.life_rules.specs.declared.event.Event.{Event}
use Rattle.life_rules.specs.declared.event.Event.TheVariants.{Claim, Begin, Await, Rest, Take, Finish, Report, Release, Arm, Look, Request, Run, EndRun, Withdraw, WithdrawOwn, SealScan, Skip, Rouse, Enter, MarkUsed, Leave, Close, Join, Seal}
use Rattle.life_rules.specs.declared.event.SourceAt.TheVariants.{Scope as AtScope, At}
use Rattle.life_rules.specs.LifeSteps.{reported_to}
use Rattle.life_rules.specs.States.{State, name_at, name_of, phase_at}
use Rattle.life_rules.specs.Steps.{after}
use Rattle.node_tree.specs.Tree.{parent_of}
use Rattle.life_rules.specs.Words.{is_armed}
use Rattle.exec_life.specs.Reading.{SameTable}

same : (s : State) → SameTable s s
same s = record { tree = refl; blocks = refl; hands = refl; kind = refl; most = refl }

by_parent : (s : State) (o : Option ℕ) (f : ℕ → State) → ((q : ℕ) → SameTable s (f q)) → SameTable s (option_map_or f o s)
by_parent s None f each = same s
by_parent s (Some q) f each = each q

by_test : (s : State) (b : Bool) (x y : State) → SameTable s x → SameTable s y → SameTable s (cond b x y)
by_test s true x y one other = one
by_test s false x y one other = other

pub table-stays : (s : State) (h : ℕ) (event : Event) → SameTable s (after s h event)
table-stays s h (Claim b) =
    record { tree = refl; blocks = refl; hands = refl; kind = refl; most = refl }
table-stays s h (Begin p) =
    record { tree = refl; blocks = refl; hands = refl; kind = refl; most = refl }
table-stays s h (Await p ns) =
    record { tree = refl; blocks = refl; hands = refl; kind = refl; most = refl }
table-stays s h (Rest p to) =
    record { tree = refl; blocks = refl; hands = refl; kind = refl; most = refl }
table-stays s h (Take p) =
    record { tree = refl; blocks = refl; hands = refl; kind = refl; most = refl }
table-stays s h (Finish p) =
    record { tree = refl; blocks = refl; hands = refl; kind = refl; most = refl }
table-stays s h (Report p) =
    by_parent s (parent_of s.tree p.node) (λ q. reported_to s h p (name_of s p.block q))
    (λ q. record { tree = refl; blocks = refl; hands = refl; kind = refl; most = refl })
table-stays s h (Release b) =
    record { tree = refl; blocks = refl; hands = refl; kind = refl; most = refl }
table-stays s h (Arm p) =
    record { tree = refl; blocks = refl; hands = refl; kind = refl; most = refl }
table-stays s h (Look t None) =
    record { tree = refl; blocks = refl; hands = refl; kind = refl; most = refl }
table-stays s h (Look t (Some p)) =
    record { tree = refl; blocks = refl; hands = refl; kind = refl; most = refl }
table-stays s h (Request AtScope f) =
    record { tree = refl; blocks = refl; hands = refl; kind = refl; most = refl }
table-stays s h (Request (At p) f) =
    record { tree = refl; blocks = refl; hands = refl; kind = refl; most = refl }
table-stays s h (Run t p) =
    by_test s (is_armed (phase_at s (name_at s p))) _ _
    (record { tree = refl; blocks = refl; hands = refl; kind = refl; most = refl })
    (record { tree = refl; blocks = refl; hands = refl; kind = refl; most = refl })
table-stays s h (EndRun p) =
    record { tree = refl; blocks = refl; hands = refl; kind = refl; most = refl }
table-stays s h (Withdraw p) =
    by_test s (is_armed (phase_at s (name_at s p))) _ _
    (record { tree = refl; blocks = refl; hands = refl; kind = refl; most = refl })
    (record { tree = refl; blocks = refl; hands = refl; kind = refl; most = refl })
table-stays s h (WithdrawOwn p) =
    record { tree = refl; blocks = refl; hands = refl; kind = refl; most = refl }
table-stays s h (SealScan AtScope) =
    record { tree = refl; blocks = refl; hands = refl; kind = refl; most = refl }
table-stays s h (SealScan (At p)) =
    record { tree = refl; blocks = refl; hands = refl; kind = refl; most = refl }
table-stays s h (Skip b) =
    record { tree = refl; blocks = refl; hands = refl; kind = refl; most = refl }
table-stays s h (Rouse p) =
    record { tree = refl; blocks = refl; hands = refl; kind = refl; most = refl }
table-stays s h Enter =
    record { tree = refl; blocks = refl; hands = refl; kind = refl; most = refl }
table-stays s h MarkUsed =
    record { tree = refl; blocks = refl; hands = refl; kind = refl; most = refl }
table-stays s h Leave =
    record { tree = refl; blocks = refl; hands = refl; kind = refl; most = refl }
table-stays s h Close =
    record { tree = refl; blocks = refl; hands = refl; kind = refl; most = refl }
table-stays s h Join =
    record { tree = refl; blocks = refl; hands = refl; kind = refl; most = refl }
table-stays s h (Seal w) =
    record { tree = refl; blocks = refl; hands = refl; kind = refl; most = refl }
