-- What becomes of the blocks of plain runs.
use Rattle.std.proofs.Common.{◌≡◌, ℕ, ◌^◌, ◌+◌, ◌<◌, ◌≤◌, Bool, true, false, List, [], ◌∷◌, ◌++◌, length, get_or, set, replicate, Option, Some, None, IsSome, cond, sum_by, refl, sym, ap, ◌∙◌, subst, inl, inr, length-append, arith}
use Rattle.std.proofs.lemmas.Bool.{cases_eq, cases_lt}
use Rattle.std.specs.Prelude.{is_some}
use Rattle.std.proofs.lemmas.List.Sums.{sum_by-set}
use Rattle.std.proofs.lemmas.List.{get_or-set_same, get_or-set_other, get_or_past, length-replicate, replicate-append-replicate}
use Rattle.common_lemmas.proofs.Lists.{get_or-replicate_same}
use Rattle.std.proofs.Math.ListN.{length-set}
use Rattle.std.specs.Option.{option_map}
use Rattle.exec_value.specs.Kinds.{HasKind}
use Rattle.exec_value.specs.declared.data.Datum.{Datum}
use Rattle.exec_value.specs.declared.outcome.Completion.{Completion}
use Rattle.plan_kinds.specs.Reached.{KindsMatch}
use Rattle.plan_rules.specs.Settle.{stop_state}
use Rattle.plan_settle.specs.Root.{settled_root}
use Rattle.plan_kinds.specs.Small.{IsSmall}
use Rattle.plan_shape.specs.Blueprint.{Blueprint}
use Rattle.line_rules.specs.PlanTerms.{AllowsRecord}
use Rattle.line_rules.proofs.PlanLaws.{plan-covers, settled-allows}
use Rattle.plain_runs.specs.declared.started.Started.{Started}
use Rattle.plain_runs.specs.PlainWork.{Completes, WantsMemory, Plain, begun_of, no_table, plain_work, IsSoundPlain}
use Rattle.plan_rules.specs.Seen.{seen_state}
use Rattle.run_tally.specs.Gathered.{gathered}
use Rattle.record_loop.specs.Works.{Begun, Work, CollectsTicket, MayCompleteWork}

-- what is settled is allowed, under what the operation may have seen
seen-allows : (plan : Blueprint) (number : ℕ) (datum : Datum) (asked requested : Bool) (done : Completion) → done ≡ settled_root plan datum number asked → AllowsRecord plan number datum (seen_state asked requested) done
seen-allows plan number datum true requested done is = subst (AllowsRecord plan number datum (seen_state true requested)) (sym is) (settled-allows plan number datum true)
seen-allows plan number datum false false done is = subst (AllowsRecord plan number datum (seen_state false false)) (sym is) (settled-allows plan number datum false)
seen-allows plan number datum false true done is =
    subst (AllowsRecord plan number datum (seen_state false true)) (sym is)
    (plan-covers WantsMemory plan 0 number datum (stop_state false) (settled_root plan datum number false) (settled-allows plan number datum false))

-- an operation completes as its evaluation did
evaluated-may : (work : Work) (started : Started) (completion : Completion) → Completes work.plan started completion → MayCompleteWork WantsMemory work (begun_of started) completion
evaluated-may work started completion (inl settled) = inr (seen-allows work.plan started.number started.datum started.asked work.requested completion settled)
evaluated-may work started completion (inr wants) = inl (wants.0, inr wants.1)

abbrev one : Option Started → ℕ
one block = cond (is_some block) 1 0

fewer-run : (old new : Plain) (at : ℕ) (started : Started) → new.blocks ≡ set old.blocks at None → at < length old.blocks → get_or old.blocks at None ≡ Some started → (plain_work old).running ≡ (plain_work new).running + 1
fewer-run old new at started blocks within is =
    omega (arith, ap (sum_by one) blocks, sum_by-set one old.blocks at None None within, ap one is)

-- the operation of a block is collected, and the block is free
pub collects-at : (old new : Plain) (at next : ℕ) (small : Bool) (started : Started) (completion : Completion) → new.plan ≡ old.plan → new.requested ≡ old.requested → new.collected ≡ gathered old.plan no_table started.number completion ∷ old.collected → new.blocks ≡ set old.blocks at None → at < length old.blocks
    → get_or old.blocks at None ≡ Some started → Completes old.plan started completion → CollectsTicket WantsMemory (plain_work old) (plain_work new) at completion
collects-at old new at next small started completion plan requested counted blocks within is completes = record {
  plan = plan;
  table = refl;
  running = fewer-run old new at started blocks within is;
  requested = requested;
  collected = λ begun has.
      let same : begun_of started ≡ begun = let e : Some (begun_of started) ≡ Some begun = sym (ap (option_map begun_of) is) ∙ has in cc in
      counted ∙ ap (λ (x : Begun). gathered old.plan no_table x.number completion ∷ old.collected) same;
  free = ap (option_map begun_of) (ap (λ (bs : List (Option Started)). get_or bs at None) blocks ∙ get_or-set_same old.blocks at None None within);
  others = λ b begun apart has.
      ap (λ (bs : List (Option Started)). option_map begun_of (get_or bs b None)) blocks ∙ ap (option_map begun_of) (get_or-set_other old.blocks at b None None apart) ∙ has;
  ends = λ begun has.
      let same : begun_of started ≡ begun = let e : Some (begun_of started) ≡ Some begun = sym (ap (option_map begun_of) is) ∙ has in cc in
      subst (λ (x : Begun). MayCompleteWork WantsMemory (plain_work old) x completion) same (evaluated-may (plain_work old) started completion completes);
}

-- the blocks are sound with what one of them has now
sound-set : {plan : Blueprint} {next later : ℕ} {small : Bool} (blocks : List (Option Started)) (at : ℕ) (block : Option Started) → IsSoundPlain plan blocks next small → at < length blocks
    → ((started : Started) → block ≡ Some started → HasKind started.datum plan.settings.input) → later < length blocks → IsSoundPlain plan (set blocks at block) later small
sound-set {plan = plan} blocks at block sound within kind fits = record {
  matching = sound.matching;
  kinds = λ b other is. kinds b other is;
  wants = sound.wants;
  within = simp length-set fits;
  few = simp length-set sound.few;
}
  where
    kinds : (b : ℕ) (other : Started) → get_or (set blocks at block) b None ≡ Some other → HasKind other.datum plan.settings.input
    kinds b other is = elim (cases_eq b at) [
      | inl here ↦ kind other (sym (ap (λ k. get_or (set blocks at block) k None) here ∙ get_or-set_same blocks at block None within) ∙ is)
      | inr there ↦ sound.kinds b other (sym (get_or-set_other blocks at b block None there) ∙ is)
    ]

-- an operation more
pub sound-puts : {plan : Blueprint} {items : List (Option Started)} {next later : ℕ} {small : Bool} (blocks : List (Option Started)) (at : ℕ) (started : Started) → items ≡ set blocks at (Some started) → IsSoundPlain plan blocks next small → at < length blocks
    → HasKind started.datum plan.settings.input → later < length blocks → IsSoundPlain plan items later small
sound-puts {plan = plan} {later = later} {small = small} blocks at started is sound within kind fits =
    subst (λ (bs : List (Option Started)). IsSoundPlain plan bs later small) (sym is)
    (sound-set blocks at (Some started) sound within (λ other same. let e : started ≡ other = cc in subst (λ (x : Started). HasKind x.datum plan.settings.input) e kind) fits)

-- and one less
pub sound-frees : {plan : Blueprint} {items : List (Option Started)} {next : ℕ} {small : Bool} (blocks : List (Option Started)) (at : ℕ) → items ≡ set blocks at None → IsSoundPlain plan blocks next small → at < length blocks → IsSoundPlain plan items next small
sound-frees {plan = plan} {next = next} {small = small} blocks at is sound within =
    subst (λ (bs : List (Option Started)). IsSoundPlain plan bs next small) (sym is)
    (sound-set blocks at None sound within (λ other same. cc) sound.within)

-- a free block more
pub free-more : {items : List (Option Started)} (free : List (Option Started)) → items ≡ free ++ None ∷ [] → free ≡ replicate (length free) None → items ≡ replicate (length items) None
free-more free is are =
    is ∙ ap (λ (bs : List (Option Started)). bs ++ None ∷ []) are ∙ replicate-append-replicate (length free) 1 None
    ∙ ap (λ n. replicate n None) (sym (ap length is ∙ length-append free (None ∷ [])))

-- free blocks are sound
pub sound-free : (plan : Blueprint) (blocks : ℕ) (small : Bool) (items : List (Option Started)) → items ≡ replicate blocks None → 0 < blocks → blocks ≤ 2 ^ 16 → KindsMatch plan.nodes plan.settings.input → (small ≡ false → ¬ IsSmall plan) → IsSoundPlain plan items 0 small
sound-free plan blocks small items free some few kinds wants = record {
  matching = kinds;
  kinds = λ b started is. absurd (let e : None ≡ Some started = sym (ap (λ (bs : List (Option Started)). get_or bs b None) free ∙ get_or-replicate_same blocks b None) ∙ is in cc);
  wants = wants;
  within = omega (arith, count, some);
  few = omega (arith, count, few);
}
  where
    count : length items ≡ blocks
    count = ap length free ∙ length-replicate blocks None

-- a block that is set leaves their number
pub length-sets : {items : List (Option Started)} (blocks : List (Option Started)) (at : ℕ) (block : Option Started) → items ≡ set blocks at block → length items ≡ length blocks
length-sets blocks at block is = ap length is ∙ simp length-set

-- a block that has an operation is there
pub within-begun : (plain : Plain) (at : ℕ) → IsSome ((plain_work plain).tickets at) → at < length plain.blocks
within-begun plain at begun = elim (cases_lt at (length plain.blocks)) [
  | inl less ↦ less
  | inr more ↦ absurd (
      let none : IsSome (option_map begun_of None) = subst (λ (block : Option Started). IsSome (option_map begun_of block)) (get_or_past plain.blocks at None more) begun in cc
      )
]
