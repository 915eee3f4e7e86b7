-- What follows where a file had no answer.
use Rattle.std.proofs.Common.{◌≡◌, ◌≢◌, ◌⊎◌, ℕ, List, Result, Ok, Err, refl, sym, ap, ◌∙◌, subst, inl, inr}
use Rattle.std.specs.Prelude.{IfErr}
use Rattle.exec_io.specs.Causes.{Rose}
use Rattle.exec_io.specs.Views.{ShelfView, SinkView}
use Rattle.exec_status.specs.declared.file.FileFault.{FileFault}
use Rattle.exec_status.specs.declared.file.FileFault.TheVariants.{Refused, ReadFault as NotRead, NoMemory as NoFileMemory}
use Rattle.exec_status.specs.declared.status.Status.{Status}
use Rattle.exec_status.specs.declared.status.Status.TheVariants.{PlanRefused, NoMemory, ReadFault, WriteFault}
use Rattle.exec_status.specs.Files.{ReadsShelf, IsOfShelf, IsFaultOf, Misses, GivesUp, RunsShort}
use Rattle.exec_status.specs.Noted.{Concludes, Noted}
use Rattle.exec_status.specs.Noted.Concludes.{quiet, told, failed}
use Rattle.exec_status.proofs.Concluding.{concluded, read_fault-concluded, write_fault-concluded, Noted-concluded}

-- bytes that are there are no fault of the shelf
pub no-read_fault : {T C G : Type 0} (refuses : C → Type 0) (r : Result T (FileFault C)) → IfErr r (IsFaultOf refuses) → r ≡ Err NotRead → G
no-read_fault refuses (Ok x) is e = cc
no-read_fault refuses (Err (Refused cause)) is e = cc
no-read_fault refuses (Err NotRead) is e = absurd is
no-read_fault refuses (Err NoFileMemory) is e = cc

-- a fault of the shelf
pub shelf-miss : {C : Type 0} (has : C → Type 0) (fault : FileFault C) → IsOfShelf fault → Misses has fault
shelf-miss has (Refused cause) is = absurd is
shelf-miss has NotRead is = tt
shelf-miss has NoFileMemory is = tt

-- a fault of the bytes
pub bytes-miss : {T C : Type 0} (refuses has : C → Type 0) (r : Result T (FileFault C)) → ((cause : C) → refuses cause → has cause) → IfErr r (IsFaultOf refuses) → IfErr r (Misses has)
bytes-miss refuses has (Ok x) to is = tt
bytes-miss refuses has (Err (Refused cause)) to is = to cause is
bytes-miss refuses has (Err NotRead) to is = tt
bytes-miss refuses has (Err NoFileMemory) to is = tt

module _ {T U C : Type 0} {name : List ℕ} {old new : ShelfView} where
  -- what was made of the bytes that were read
  pub reads-bytes : (x : T) (refuses : C → Type 0) (result : Result U (FileFault C)) → ReadsShelf {T = T} {C = C} name old new (Ok x) → IfErr result (IsFaultOf refuses) → ReadsShelf name old new result
  reads-bytes x refuses result reads faults = record {
    asks = reads.asks;
    same = reads.same;
    later = reads.later;
    cause = no-read_fault refuses result faults;
    still = λ _. reads.still (λ e. cc);
  }

  -- a fault that is handed on
  pub reads-fault : (fault : FileFault C) → ReadsShelf {T = T} name old new (Err fault) → ReadsShelf {T = U} name old new (Err fault)
  reads-fault fault reads = record {
    asks = reads.asks;
    same = reads.same;
    later = reads.later;
    cause = λ e. let is : fault ≡ NotRead = cc in reads.cause (ap (λ (f : FileFault C). Err f) is);
    still = λ other. reads.still (λ e. let is : fault ≡ NotRead = cc in other (ap (λ (f : FileFault C). Err f) is));
  }

-- want of memory, as far as notes were told of it
pub short-concluded : {first last : SinkView} (result : Status) → Concludes NoMemory first last result → RunsShort first last result
short-concluded result (quiet none same) = absurd (cc)
short-concluded result (told some all) = inl refl
short-concluded result (failed some front) = inr (refl, front)

module _ {C : Type 0} (text : C → List ℕ) (first last : SinkView) where
  -- a property of the statuses that may stand
  pub missed-status : (P : Status → Type 0) (has : C → Type 0) (fault : FileFault C) (result : Status) → ((cause : C) → has cause → P PlanRefused) → P ReadFault → P NoMemory → P WriteFault
      → Misses has fault → GivesUp text fault first last result → P result
  missed-status P has (Refused cause) result refused read memory write misses gives_up = subst P (sym gives_up.0) (refused cause misses)
  missed-status P has NotRead result refused read memory write misses gives_up = concluded P ReadFault result read (λ _. write) gives_up
  missed-status P has NoFileMemory result refused read memory write misses gives_up = concluded P NoMemory result memory (λ _. write) gives_up

  -- what notes hold
  pub missed-noted : (came : Status → Type 0) (refused : List ℕ → Type 0) (has : C → Type 0) (fault : FileFault C) (result : Status) → ((cause : C) → has cause → refused (text cause)) → came ReadFault → came NoMemory
      → Misses has fault → GivesUp text fault first last result → Noted came refused first last result
  missed-noted came refused has (Refused cause) result to read memory misses gives_up = subst (Noted came refused first last) (sym gives_up.0) (text cause, to cause misses, gives_up.1)
  missed-noted came refused has NotRead result to read memory misses gives_up = Noted-concluded came refused ReadFault result read tt gives_up
  missed-noted came refused has NoFileMemory result to read memory misses gives_up = Noted-concluded came refused NoMemory result memory tt gives_up

  -- a read fault is the shelf's, and a write fault is that of notes
  pub missed-read : (fault : FileFault C) (result : Status) → GivesUp text fault first last result → result ≡ ReadFault → fault ≡ NotRead
  missed-read (Refused cause) result gives_up e = absurd (let wrong : PlanRefused ≡ ReadFault = sym gives_up.0 ∙ e in cc)
  missed-read NotRead result gives_up e = refl
  missed-read NoFileMemory result gives_up e = absurd (let wrong : NoMemory ≡ ReadFault = read_fault-concluded NoMemory result gives_up e in cc)

  pub missed-write : (fault : FileFault C) (result : Status) → GivesUp text fault first last result → result ≡ WriteFault → Rose first.faults last.faults
  missed-write (Refused cause) result gives_up e = absurd (let wrong : PlanRefused ≡ WriteFault = sym gives_up.0 ∙ e in cc)
  missed-write NotRead result gives_up e = elim (write_fault-concluded ReadFault result gives_up e) [ inl wrong ↦ absurd (cc) | inr rose ↦ rose ]
  missed-write NoFileMemory result gives_up e = elim (write_fault-concluded NoMemory result gives_up e) [ inl wrong ↦ absurd (cc) | inr rose ↦ rose ]

  -- where neither is answered the shelf didn't fail
  pub missed-still : (fault : FileFault C) (result : Status) → GivesUp text fault first last result → result ≢ ReadFault → result ≢ WriteFault → fault ≢ NotRead
  missed-still (Refused cause) result gives_up read write e = cc
  missed-still NotRead result gives_up read write e = concluded (λ s. (s ≢ ReadFault) → (s ≢ WriteFault) → ⊥) ReadFault result (λ r w. r refl) (λ _ r w. w refl) gives_up read write
  missed-still NoFileMemory result gives_up read write e = cc

  -- where the shelf didn't fail the file was refused, or memory ran out
  pub missed-refused : (fault : FileFault C) (result : Status) → GivesUp text fault first last result → fault ≢ NotRead → (result ≡ PlanRefused) ⊎ RunsShort first last result
  missed-refused (Refused cause) result gives_up other = inl gives_up.0
  missed-refused NotRead result gives_up other = absurd (other refl)
  missed-refused NoFileMemory result gives_up other = inr (short-concluded result gives_up)
