-- What looking through a part shows.
use Rattle.std.proofs.Common.{◌≡◌, ℕ, List, length, Option, Some, None, refl, sym, ap, ◌∙◌, subst}
use Rattle.std.specs.Prelude.{IsSomeAnd, count_by}
use Rattle.exec_io.specs.Shelves.{Texts, text_of}
use Rattle.exec_status.specs.declared.status.Status.{Status}
use Rattle.part_lines.specs.declared.reader.PartFault.{PartFault}
use Rattle.part_lines.specs.declared.reader.PartFault.TheVariants.{Missing, NotLine, Failed, NoMemory}
use Rattle.part_lines.specs.declared.tally.Tally.{Tally}
use Rattle.part_lines.specs.Faults.{StopsPart}
use Rattle.part_lines.specs.Tallies.{HoldsTallied, Tallies, says_value}
use Rattle.join_commands.specs.declared.fault.LookFault.{LookFault}
use Rattle.join_commands.specs.declared.refusal.Cause.TheVariants.{StatusDiffers}
use Rattle.join_commands.specs.Faults.{IsLookFault, of_lines}
use Rattle.join_commands.specs.Parts.{IsTallied, IsPartRefusedFor, ToldStatus, out_name}
use Rattle.join_commands.specs.Statuses.{counts_status, lines_status}

-- a text that is there
pub text_there : (text ahead : Option (List ℕ)) → IsSomeAnd text (λ bytes. ahead ≡ Some bytes) → (bytes : List ℕ) × (text ≡ Some bytes) × (ahead ≡ Some bytes)
text_there None ahead there = absurd there
text_there (Some bytes) ahead there = (bytes, refl, there)

-- why its lines aren't those of a part
pub stopped : (all : Texts) (name text : List ℕ) (fault : PartFault) (look : LookFault) → text_of all (out_name name) ≡ Some text → StopsPart text fault
    → look ≡ of_lines fault → IsLookFault all name look
stopped all name text (NotLine number) look is stops same = subst (IsLookFault all name) (sym same) (text, is, stops)
stopped all name text Missing look is stops same = absurd stops
stopped all name text Failed look is stops same = subst (IsLookFault all name) (sym same) tt
stopped all name text NoMemory look is stops same = subst (IsLookFault all name) (sym same) tt

-- the status that lines say is the one by their tally
pub by_tally : (tally : Tally) (said : List (List ℕ)) → Tallies tally said → counts_status tally.lines tally.values tally.no_memory ≡ lines_status said
by_tally tally said counted =
    ap (λ n. counts_status n tally.values tally.no_memory) counted.lines ∙ (ap (λ n. counts_status (length said) n tally.no_memory) counted.values
    ∙ ap (λ n. counts_status (length said) (count_by says_value said) n) counted.no_memory)

-- a part whose run ended as its lines say
pub whole : (all : Texts) (name text : List ℕ) (tally : Tally) (told found : Status) → text_of all (out_name name) ≡ Some text → HoldsTallied text tally
    → ToldStatus all name (Some told) → found ≡ counts_status tally.lines tally.values tally.no_memory → told ≡ found → IsTallied all name tally
whole all name text tally told found is holds ended by same = (
  holds.0,
  record {
    lines = (text, is, holds.1);
    status = subst (λ (s : Status). ToldStatus all name (Some s)) (same ∙ (by ∙ by_tally tally holds.0 holds.2)) ended;
  },
  holds.2,
)

-- a part whose run ended in another way
pub differs : (all : Texts) (name text : List ℕ) (tally : Tally) (told found : Status) → text_of all (out_name name) ≡ Some text → HoldsTallied text tally
    → ToldStatus all name (Some told) → found ≡ counts_status tally.lines tally.values tally.no_memory → (told ≡ found → ⊥) → IsPartRefusedFor all name (StatusDiffers told found)
differs all name text tally told found is holds ended by other =
    (holds.0, (text, is, holds.1), ended, by ∙ by_tally tally holds.0 holds.2, other)
