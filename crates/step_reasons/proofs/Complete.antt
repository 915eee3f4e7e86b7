-- A step has a reason exactly where it may not be taken.
use Rattle.std.proofs.Common.{◌≡◌, ◌↔◌, ℕ, Bool, true, false, not, ◌&&◌, ◌||◌, List, [], ◌∷◌, length, Option, None, Some, refl, sym, ap, ◌∙◌}
use Rattle.std.specs.Prelude.{is_none, is_some, nat_lt, nat_le, ◌==◌}
use Rattle.std.specs.List.{list_all}
use Rattle.std.specs.Option.{option_map_or}
use Rattle.common_lemmas.specs.Lists.{are_different}
use Rattle.life_rules.specs.declared.event.Event.{Event}
use Rattle.life_rules.specs.declared.event.Event.TheVariants.{Claim, Begin, Await, Rest, Take, Finish, Report, Release, Arm, Look, Request, Run, EndRun, Withdraw, WithdrawOwn, SealScan, Skip, Rouse, Enter, MarkUsed, Leave, Close, Join, Seal}
use Rattle.life_rules.specs.declared.event.Place.{Place}
use Rattle.life_rules.specs.declared.event.SourceRef.TheVariants.{Scope, Node}
use Rattle.life_rules.specs.LifeSteps.{may_leave_node, may_be_awaited}
use Rattle.life_rules.specs.Scans.{is_nearest, is_next_in, is_past_all}
use Rattle.life_rules.specs.States.{State, size, is_place, name_of, name_at, control_at, phase_at}
use Rattle.life_rules.specs.Steps.{may_happen, is_step}
use Rattle.life_rules.specs.StopSteps.{source_of, is_source, some_below, may_request_first, may_repeat, may_request, may_seal_scan}
use Rattle.life_rules.specs.Views.{beside, is_scanning}
use Rattle.life_rules.specs.Words.{is_free, is_idle, is_armed, is_running}
use Rattle.node_tree.specs.Tree.{is_child, parent_of}
use Rattle.step_reasons.specs.Laws.{RefusedStepsHaveReasons, move}
use Rattle.step_reasons.specs.LifeReasons.{leave_reason, children_reason, parent_reason}
use Rattle.step_reasons.specs.Reasons.{event_reason, reason_of}
use Rattle.step_reasons.proofs.Passing.{more, last, none-test, grouped, grouped_last, turned, twice, twice_both, run_twice}

-- the node may be let go
leaves : (s : State) (h : ℕ) (p : Place) (rest : Option _) (may : Bool) → is_none rest ≡ may → is_none (leave_reason s h p rest) ≡ (may_leave_node (s.view h) (name_at s p) && may)
leaves s h p rest may e =
    more _ _ _ _ (more _ _ _ _ e)
    ∙ grouped (nat_le 1 ((s.view h).holds (name_at s p))) (not (is_scanning (s.view h) (Node (name_at s p)))) may

leaves-last : (s : State) (h : ℕ) (p : Place) → is_none (leave_reason s h p None) ≡ may_leave_node (s.view h) (name_at s p)
leaves-last s h p = more _ _ _ _ (last _ _)

children : (s : State) (p : Place) (nodes : List ℕ) → is_none (children_reason s p nodes) ≡ list_all (may_be_awaited s (name_at s p)) nodes
children s p [] = refl
children s p (n ∷ ns) =
    more _ _ _ _ (more _ _ _ _ (children s p ns))
    ∙ grouped (is_child s.tree p.node n) (is_idle (control_at s (beside (name_at s p) n))) (list_all (may_be_awaited s (name_at s p)) ns)

parents : (s : State) (h : ℕ) (p : Place) (parent : Option ℕ) → is_none (parent_reason s h p parent) ≡ option_map_or (λ q. not (is_scanning (s.view h) (Node (name_of s p.block q)))) parent false
parents s h p None = refl
parents s h p (Some q) = last _ _

complete : (s : State) (h : ℕ) (event : Event) → is_none (event_reason s h event) ≡ may_happen s h event
complete s h (Claim b) = more _ _ _ _ (last _ _)
complete s h (Begin p) = more _ _ _ _ (last _ _)
complete s h (Await p nodes) = more _ _ _ _ (leaves s h p _ _ (more _ _ _ _ (more _ _ _ _ (children s p nodes))))
complete s h (Rest p to) = more _ _ _ _ (leaves-last s h p)
complete s h (Take p) = more _ _ _ _ (last _ _)
complete s h (Finish p) = more _ _ _ _ (leaves s h p _ _ (last _ _))
complete s h (Report p) = more _ _ _ _ (more _ _ _ _ (parents s h p (parent_of s.tree p.node)))
complete s h (Release b) = more _ _ _ _ (last _ _)
complete s h (Arm p) = more _ _ _ _ (more _ _ _ _ (more _ _ _ _ (last _ _)))
complete s h (Look at None) = last _ _
complete s h (Look at (Some p)) =
    more _ _ _ _ (more _ _ _ _ (last _ _))
    ∙ ap (λ b. is_place s p && b) (turned (is_nearest s (source_of s at) (name_at s p)) ((s.view h).unlooked (name_at s p)))
complete s h (Request at failure) =
    more _ _ _ _ (last _ _)
    ∙ twice (is_source s at) (may_request_first s h at failure || may_repeat s (s.view h) (source_of s at) failure)
complete s h (Run at p) =
    more _ _ _ _ (more _ _ _ _ (last _ _))
    ∙ run_twice (is_place s p) (is_next_in s (s.view h) (source_of s at) (name_at s p)) ((s.view h).runs (name_at s p) == 0)
complete s h (EndRun p) = more _ _ _ _ (more _ _ _ _ (last _ _))
complete s h (Withdraw p) = more _ _ _ _ (more _ _ _ _ (more _ _ _ _ (last _ _)))
complete s h (WithdrawOwn p) =
    more _ _ _ _ (more _ _ _ _ (more _ _ _ _ (last _ _)))
    ∙ grouped_last (is_place s p) (nat_le 1 ((s.view h).runs (name_at s p))) (not (is_scanning (s.view h) (Node (name_at s p)))) (nat_le 1 ((s.view h).holds (name_at s p)))
complete s h (SealScan at) =
    more _ _ _ _ (last _ _)
    ∙ twice (is_source s at) (option_map_or (λ i. is_past_all s (source_of s at) i) ((s.view h).scan (source_of s at)) false)
complete s h (Skip b) =
    more _ _ _ _ (more _ _ _ _ (last _ _))
    ∙ twice_both (nat_lt b s.blocks) (is_free (s.block b).state)
    (some_below (λ n. is_next_in s (s.view h) Scope (name_of s b n) && (s.view h).runs (name_of s b n) == 0) (size s))
complete s h (Rouse p) = more _ _ _ _ (more _ _ _ _ (last _ _))
complete s h Enter = last _ _
complete s h MarkUsed = last _ _
complete s h Leave = last _ _
complete s h Close = refl
complete s h Join = refl
complete s h (Seal expected) = last _ _

-- whether there is none, as a test
pub reason-step : (s : State) (h : ℕ) (event : Event) → is_none (reason_of s h event) ≡ is_step s (move h event)
reason-step s h event = more _ _ _ _ (complete s h event)

pub refused-steps : RefusedStepsHaveReasons
refused-steps s h event = (
  λ e. sym (reason-step s h event) ∙ ap is_none e,
  λ step. none-test (reason_of s h event) (reason-step s h event ∙ step),
)
