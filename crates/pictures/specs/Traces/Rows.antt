-- The rows of entries.
use Rattle.std.specs.Prelude.{ℕ, ◌+◌, Bool, false, List, [], ◌∷◌, ◌++◌, length, codes, decimal, nat_eq, Option, if◌then◌else◌}
use Rattle.std.specs.List.{concat}
use Rattle.std.specs.Option.{option_map_or}
use Rattle.life_rules.specs.declared.event.Event.{Event}
use Rattle.life_rules.specs.declared.event.Event.TheVariants.{Arm, Look, Request, Run, EndRun, Withdraw, WithdrawOwn, SealScan, Skip, Rouse, Enter, MarkUsed, Leave, Close, Join, Seal}
use Rattle.trace_text.specs.declared.entry.Entry.{Entry}
use Rattle.trace_text.specs.Texts.{event_text}
use Rattle.pictures.specs.declared.traces.frame.Frame.{Frame}
use Rattle.pictures.specs.Traces.Frames.{is_shown, row_top}
use Rattle.pictures.specs.Traces.Layout.{lane_x}

-- the class of an event, which gives its colour
abbrev pub class_of : Event → List ℕ
class_of (Arm place) = codes "callback"
class_of (EndRun place) = codes "callback"
class_of (Withdraw place) = codes "callback"
class_of (WithdrawOwn place) = codes "callback"
class_of (Rouse place) = codes "callback"
class_of (Look at after) = codes "scan"
class_of (Request at failure) = codes "scan"
class_of (Run at place) = codes "scan"
class_of (SealScan at) = codes "scan"
class_of (Skip block) = codes "scan"
class_of Enter = codes "scope"
class_of MarkUsed = codes "scope"
class_of Leave = codes "scope"
class_of Close = codes "scope"
class_of Join = codes "scope"
class_of (Seal expected) = codes "scope"
class_of event = codes "life"

-- the entry of this number, from 0, is the one that is refused, which is counted from 1
abbrev pub is_marked : Option ℕ → ℕ → Bool
is_marked refused n = option_map_or (λ entry. nat_eq entry (n + 1)) refused false

-- the mark of the entry that is refused, behind its row
unfoldable pub mark_text : Frame → ℕ → List ℕ
mark_text frame n = concat (
    codes "<rect class=\"refused\" x=\"0\" y=\"" ∷ decimal (row_top frame n)
    ∷ codes "\" width=\"100%\" height=\"20\"/>\n" ∷ [])

abbrev pub mark_where : Frame → ℕ → Bool → List ℕ
mark_where frame n marked = if marked then mark_text frame n else []

-- the start of a row, as far as the entry's number, from 1
unfoldable pub row_start : Frame → ℕ → Entry → List ℕ
row_start frame n entry = concat (
    codes "<text class=\"" ∷ class_of entry.event ∷ codes "\" x=\""
    ∷ decimal (18 + lane_x frame.blocks entry.hand) ∷ codes "\" y=\"" ∷ decimal
    (14 + row_top frame n)
    ∷ codes "\">" ∷ decimal (n + 1) ∷ codes " " ∷ [])

-- the word behind the text of the entry that is refused
abbrev pub refused_word : Bool → List ℕ
refused_word marked = if marked then codes " refused" else []

-- the row of an entry: its number and its text, as the trace has it, but for the hand
unfoldable pub entry_row_text : Frame → ℕ → Bool → Entry → List ℕ
entry_row_text frame n marked entry =
    mark_where frame n marked
    ++ (row_start frame n entry
    ++ (event_text entry.event ++ concat (refused_word marked ∷ codes "</text>\n" ∷ [])))

-- the row of an entry, where it is shown
abbrev pub shown_row : Frame → Option ℕ → ℕ → Entry → List ℕ
shown_row frame refused n entry =
    if is_shown frame n then entry_row_text frame n (is_marked refused n) entry else []

-- how many bytes the text of an entry has, where it is shown
abbrev pub length_at : Frame → ℕ → Entry → ℕ
length_at frame n entry = if is_shown frame n then length (event_text entry.event) else 0
