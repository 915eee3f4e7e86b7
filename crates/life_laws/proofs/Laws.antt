-- The law over all events, and its consequences in each state that can be reached.
use Rattle.std.specs.Prelude.{nat_lt}
use Rattle.std.proofs.Common.{◌≡◌, true, List, [], ◌∷◌, refl, sym, ap, subst, inl, inr, arith}
use Rattle.std.proofs.lemmas.Bool.{and_parts, ltb-true, or_left, cond-true, cond-false}
use Rattle.life_rules.specs.declared.event.Event.{Event}
use Rattle.life_rules.specs.declared.event.Event.TheVariants.{Claim, Begin, Await, Rest, Take, Finish, Report, Release, Arm, Look, Request, Run, EndRun, Withdraw, WithdrawOwn, SealScan, Skip, Rouse, Enter, MarkUsed, Leave, Close, Join, Seal}
use Rattle.life_rules.specs.States.{State, phase_at}
use Rattle.life_rules.specs.Steps.{Move, is_step, moved, run}
use Rattle.life_rules.specs.Keeping.{KeepsSound}
use Rattle.life_rules.specs.Sound.{Sound}
use Rattle.common_lemmas.proofs.Bool.{either, one-true}
use Rattle.common_lemmas.proofs.Totals.{total-zero}
use Rattle.life_rules.proofs.Opened.{sound-opening}
use Rattle.life_kept.proofs.Claim.{sound-claim}
use Rattle.life_kept.proofs.Begin.{sound-begin}
use Rattle.life_kept.proofs.Await.{sound-await}
use Rattle.life_kept.proofs.RestTake.{sound-rest, sound-take}
use Rattle.life_kept.proofs.Finish.{sound-finish}
use Rattle.life_kept.proofs.Report.{sound-report}
use Rattle.life_kept.proofs.Release.{sound-release}
use Rattle.life_kept.proofs.Quiet.{quiet-at_release}
use Rattle.stop_kept.proofs.Arm.{sound-arm}
use Rattle.stop_kept.proofs.Look.{sound-look}
use Rattle.stop_kept.proofs.Withdraw.{sound-withdraw}
use Rattle.stop_kept.proofs.Request.{sound-request}
use Rattle.stop_kept.proofs.Run.{sound-run}
use Rattle.stop_kept.proofs.EndRun.{sound-end_run, sound-withdraw_own}
use Rattle.stop_kept.proofs.SealScan.{sound-seal_scan}
use Rattle.stop_kept.proofs.Skip.{sound-skip}
use Rattle.scope_kept.proofs.Steps.{keeps-rouse, keeps-enter, keeps-mark_used, keeps-leave, keeps-close, keeps-join, keeps-seal}
use Rattle.scope_kept.proofs.Counts.{all_kept}
use Rattle.life_laws.specs.Reached.{first}
use Rattle.life_laws.specs.Laws.{SoundIsKept, ReachedIsSound, FinishesOnce, StaysDone, ParentsWait, ReleasesQuiet, RunsOnce, StaysRemoved, MissesNone, JoinedIsEmpty, LeavesOnce, CountsFew, RequestedByHand0}
use Rattle.life_laws.proofs.Times.{MovesKeep}
use Rattle.life_laws.proofs.CallbackRuns.{is_gone, is_spent, callbacks-once}
use Rattle.life_laws.proofs.Endings.{endings-once, done-stays}
use Rattle.life_laws.proofs.Memberships.{memberships-balance}
use Rattle.life_laws.proofs.Consequences.{parents-wait, count-most}

-- each event keeps what is sound
pub sound-after : (event : Event) → KeepsSound event
sound-after (Claim block) s h sound l may = sound-claim s h block sound l may
sound-after (Begin place) s h sound l may = sound-begin s h place sound l may
sound-after (Await place nodes) s h sound l may = sound-await s h place nodes sound l may
sound-after (Rest place to) s h sound l may = sound-rest s h place to sound l may
sound-after (Take place) s h sound l may = sound-take s h place sound l may
sound-after (Finish place) s h sound l may = sound-finish s h place sound l may
sound-after (Report place) s h sound l may = sound-report s h place sound l may
sound-after (Release block) s h sound l may = sound-release s h block sound l may
sound-after (Arm place) s h sound l may = sound-arm s h place sound l may
sound-after (Look at place) s h sound l may = sound-look s h at place sound l may
sound-after (Request at failure) s h sound l may = sound-request s h at failure sound l may
sound-after (Run at place) s h sound l may = sound-run s h at place sound l may
sound-after (EndRun place) s h sound l may = sound-end_run s h place sound l may
sound-after (Withdraw place) s h sound l may = sound-withdraw s h place sound l may
sound-after (WithdrawOwn place) s h sound l may = sound-withdraw_own s h place sound l may
sound-after (SealScan at) s h sound l may = sound-seal_scan s h at sound l may
sound-after (Skip block) s h sound l may = sound-skip s h block sound l may
sound-after (Rouse place) s h sound l may = keeps-rouse place s h sound l may
sound-after Enter s h sound l may = keeps-enter s h sound l may
sound-after MarkUsed s h sound l may = keeps-mark_used s h sound l may
sound-after Leave s h sound l may = keeps-leave s h sound l may
sound-after Close s h sound l may = keeps-close s h sound l may
sound-after Join s h sound l may = keeps-join s h sound l may
sound-after (Seal expected) s h sound l may = keeps-seal expected s h sound l may

pub sound-step : SoundIsKept
sound-step old hand event new sound step =
    subst Sound (sym step.gives) (sound-after event old hand sound step.hand_is step.needs)

moves-keep : MovesKeep
moves-keep s m sound =
    either (is_step s m)
    (λ step.
    let parts = and_parts (nat_lt m.hand s.hands) _ step in
    subst Sound (sym (cond-true (is_step s m) _ _ step))
    (sound-after m.event s m.hand sound (ltb-true _ _ parts.0) parts.1))
    (λ other. subst Sound (sym (cond-false (is_step s m) _ _ other)) sound)

sound-run_of : (ms : List Move) (s : State) → Sound s → Sound (run ms s)
sound-run_of [] s sound = sound
sound-run_of (m ∷ ms) s sound = sound-run_of ms (moved s m) (moves-keep s m sound)

pub sound-reached : ReachedIsSound
sound-reached s r =
    subst Sound (sym r.leads)
    (sound-run_of r.moves (first r) (sound-opening r.nodes r.blocks r.hands r.kind r.most r.tree r.some_hand))

pub finishes-once : FinishesOnce
finishes-once s r x ms =
    let once = endings-once moves-keep x ms s (sound-reached s r) in
    omega (arith, once)

pub stays-done : StaysDone
stays-done s r x ms done live = done-stays moves-keep x ms s (sound-reached s r) done live

pub waits-parent : ParentsWait
waits-parent s r h place n l may within child begun =
    parents-wait s h place n (sound-reached s r) l may within child begun

pub releases-quiet : ReleasesQuiet
releases-quiet s r h b l may = quiet-at_release s h b (sound-reached s r) l may

pub runs-once : RunsOnce
runs-once s r x ms =
    let once = callbacks-once moves-keep x ms s (sound-reached s r) in
    omega (arith, once)

pub stays-removed : StaysRemoved
stays-removed s r x ms phase =
    let once = callbacks-once moves-keep x ms s (sound-reached s r) in
    let gone : is_gone (phase_at s x) ≡ true =
    elim phase [ inl removed ↦ ap is_gone removed | inr ran ↦ ap is_gone ran ] in
    let spent : is_spent s x ≡ true = or_left _ _ gone in
    omega (arith, once, one-true spent)

pub misses-none : MissesNone
misses-none s r x source scanned nearest armed =
    (sound-reached s r).missed x source nearest armed (inl scanned)

pub joined-is_empty : JoinedIsEmpty
joined-is_empty s r joined = (sound-reached s r).associations.joined joined

pub leaves-once : LeavesOnce
leaves-once s r joined =
    let balance = memberships-balance r.moves (first r) in
    let none : all_kept s ≡ 0 = (sound-reached s r).associations.joined joined in
    let last : all_kept (run r.moves (first r)) ≡ all_kept s = ap all_kept (sym r.leads) in
    let at_first : all_kept (first r) ≡ 0 = total-zero _ r.hands (λ _ _. refl) in
    omega (arith, balance, none, last, at_first)

pub counts-few : CountsFew
counts-few s r = count-most s (sound-reached s r)

pub requested-by_hand_0 : RequestedByHand0
requested-by_hand_0 s r = (sound-reached s r).scope.by_hand_0
