-- Why the summary of a part isn't read.
use Rattle.std.proofs.Common.{◌≡◌, ℕ, List, Some}
use Rattle.exec_io.specs.Shelves.{Texts, text_of}
use Rattle.join_commands.specs.declared.fault.LookFault.{LookFault}
use Rattle.join_commands.specs.declared.fault.LookFault.TheVariants.{Refused, ReadFault, NoMemory}
use Rattle.join_commands.specs.declared.refusal.Cause.TheVariants.{NoStatus, StatusIsnt, NoLines, NotLine, StatusDiffers, NotDealt, NoSummary, Contradicts, TooLarge, Changed}
use Rattle.join_commands.specs.Parts.{out_name}
use Rattle.join_commands.specs.Unsummed.{IsSumFault, IsUnreadSummary}

-- its text isn't read
pub of_unread : (all : Texts) (name text : List ℕ) (fault : LookFault) → text_of all (out_name name) ≡ Some text → IsUnreadSummary text fault → IsSumFault all name fault
of_unread all name text (Refused NoStatus) there is = absurd is
of_unread all name text (Refused (StatusIsnt said)) there is = absurd is
of_unread all name text (Refused NoLines) there is = absurd is
of_unread all name text (Refused (NotLine number)) there is = absurd is
of_unread all name text (Refused (StatusDiffers told found)) there is = absurd is
of_unread all name text (Refused (NotDealt number ended)) there is = absurd is
of_unread all name text (Refused NoSummary) there is = (text, there, is)
of_unread all name text (Refused (Contradicts numbers)) there is = (text, there, is)
of_unread all name text (Refused TooLarge) there is = absurd is
of_unread all name text (Refused Changed) there is = absurd is
of_unread all name text ReadFault there is = tt
of_unread all name text NoMemory there is = tt
