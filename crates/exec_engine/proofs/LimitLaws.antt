-- Which runs come to the end of their records.
use Rattle.std.proofs.Common.{◌≡◌, ◌⊎◌, ℕ, List, [], ◌++◌, Option, None, Some, refl, sym, ap, ◌∙◌, subst, inl, inr, append-nil}
use Rattle.std.specs.Prelude.{IfSome, IsSomeAnd}
use Rattle.std.specs.Io.KnownBytes.{Consumes, IsAtEnd}
use Rattle.exec_value.specs.declared.kinds.Kind.{Kind}
use Rattle.exec_value.specs.declared.outcome.Outcome.{Outcome}
use Rattle.exec_io.specs.Views.{SourceView}
use Rattle.plan_shape.specs.Blueprint.{Blueprint}
use Rattle.plan_reader.specs.PlanFile.{IsPlanOf}
use Rattle.record_lines.specs.declared.ending.End.TheVariants.{Ended, Limit as LimitEnd}
use Rattle.record_lines.specs.Records.{IsBeyond}
use Rattle.record_lines.proofs.RecordLaws.{IsBeyond-append}
use Rattle.exec_status.specs.declared.status.Status.{Status}
use Rattle.exec_status.specs.declared.status.Status.TheVariants.{AllValues, NotAllValues, Usage, PlanRefused, NoMemory, ReadFault, WriteFault, Limit}
use Rattle.exec_engine.specs.declared.task.Origin.{Origin}
use Rattle.exec_engine.specs.declared.task.Origin.TheVariants.{Source, Generated}
use Rattle.exec_engine.specs.declared.tally.Tally.{Tally}
use Rattle.exec_engine.specs.declared.task.Task.{Task}
use Rattle.exec_engine.specs.Complete.{IsFinished}
use Rattle.exec_engine.specs.Opening.{Finds}
use Rattle.exec_engine.specs.Surroundings.{Surroundings}
use Rattle.exec_engine.specs.Says.{Lines, Says}
use Rattle.exec_engine.specs.Taken.{Takes, SourcePassesLimit, KeepsLimit, IsWithin}
use Rattle.exec_engine.proofs.RefusedLaws.{refused-stands}

-- bytes that pass a limit begin a source that does
beyond-reads : (source left : Option (List ℕ)) (bytes : List ℕ) → Consumes source left bytes → IsBeyond bytes → IfSome source IsBeyond
beyond-reads None left bytes consumed beyond = tt
beyond-reads (Some all) None bytes consumed beyond = absurd consumed
beyond-reads (Some all) (Some rest) bytes consumed beyond = subst IsBeyond (sym consumed) (IsBeyond-append bytes rest beyond)

-- and a source that was read to its end passes none where its bytes don't
within-reads : (source left : Option (List ℕ)) (bytes : List ℕ) → Consumes source left bytes → IsAtEnd left → ¬ IsBeyond bytes → IfSome source (λ all. ¬ IsBeyond all)
within-reads None left bytes consumed at_end within = tt
within-reads (Some all) None bytes consumed at_end within = absurd consumed
within-reads (Some all) (Some rest) bytes consumed at_end within =
    λ beyond. within (subst IsBeyond (consumed ∙ ap (λ bs. bytes ++ bs) at_end ∙ append-nil bytes) beyond)

takes-beyond : (origin : Origin) (kind : Kind) (before after : SourceView) (records : List (List ℕ)) → Takes origin kind before after LimitEnd [] records → SourcePassesLimit origin before
takes-beyond (Source form) kind before after records takes =
    beyond-reads before.left after.left (takes.bytes ++ []) takes.reads.consumed (IsBeyond-append takes.bytes [] (takes.reads.beyond refl))
takes-beyond (Generated count) kind before after records takes = absurd (let e : LimitEnd ≡ Ended = takes.ended in cc)

takes-within : (origin : Origin) (kind : Kind) (before after : SourceView) (records : List (List ℕ)) → Takes origin kind before after Ended [] records → KeepsLimit origin before
takes-within (Source form) kind before after records takes =
    within-reads before.left after.left (takes.bytes ++ []) takes.reads.consumed (takes.reads.at_end refl) (λ beyond. takes.reads.within (λ e. cc) (subst IsBeyond (append-nil takes.bytes) beyond))
takes-within (Generated count) kind before after records takes = tt

-- no limit is passed within the limits
not-beyond : (origin : Origin) (before : SourceView) → SourcePassesLimit origin before → IsWithin origin before → ⊥
not-beyond (Source form) before beyond within = both before.left beyond within
  where
    both : (source : Option (List ℕ)) → IfSome source IsBeyond → IsSomeAnd source (λ all. ¬ IsBeyond all) → ⊥
    both None beyond within = within
    both (Some all) beyond within = within beyond
not-beyond (Generated count) before beyond within = beyond

module _ (task : Task) (old new : Surroundings) (tally : Tally) where
  lines-within : {outcomes : List Outcome} → Lines task old new Ended [] outcomes → KeepsLimit task.origin old.records
  lines-within lines = takes-within task.origin lines.plan.settings.input old.records new.records lines.records lines.takes

  -- a limit is answered where the records pass one
  pub says-beyond : (status : Status) → Says task old new tally status → status ≡ Limit → SourcePassesLimit task.origin old.records
  says-beyond status says is =
      let limit = subst (Says task old new tally) is says in
      let lines = limit.lines in
      takes-beyond task.origin lines.plan.settings.input old.records new.records lines.records lines.takes

  -- and the end where they don't
  pub says-within : (status : Status) → Says task old new tally status → (status ≡ AllValues) ⊎ (status ≡ NotAllValues) → KeepsLimit task.origin old.records
  says-within status says (inl is) =
      let prints = subst (Says task old new tally) is says in
      lines-within prints.lines
  says-within status says (inr is) =
      let prints = subst (Says task old new tally) is says in
      lines-within prints.lines

  -- without a fault a run of a plan that stands there, whose records are within the limits, comes to
  -- the end
  pub says-finished : (plan : Blueprint) (status : Status) → Finds old task (λ bytes. IsPlanOf bytes plan) → IsWithin task.origin old.records
      → ¬ (status ≡ ReadFault) → ¬ (status ≡ WriteFault) → Says task old new tally status → IsFinished status
  says-finished plan AllValues stands within read write says = inl refl
  says-finished plan NotAllValues stands within read write says = inr (inl refl)
  says-finished plan Usage stands within read write says = absurd says
  says-finished plan PlanRefused stands within read write says = absurd (refused-stands plan says.0.0 says.0.1 stands)
  says-finished plan NoMemory stands within read write says = inr (inr refl)
  says-finished plan ReadFault stands within read write says = absurd (read refl)
  says-finished plan WriteFault stands within read write says = absurd (write refl)
  says-finished plan Limit stands within read write says =
      let lines = says.lines in
      absurd (not-beyond task.origin old.records (takes-beyond task.origin lines.plan.settings.input old.records new.records lines.records lines.takes) within)
