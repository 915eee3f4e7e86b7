-- How a text is read, line by line. The answer is what the text says, or the first line that goes
-- wrong.
use Rattle.std.specs.Prelude.{◌≡◌, ℕ, zero, suc, ◌+◌, ⊤, Bool, true, not, ◌&&◌, ◌==◌, nat_lt, nat_le, if◌then◌else◌, List, [], ◌∷◌, ◌++◌, length, Option, Some, None, Result, Ok, Err, MatchResult}
use Rattle.std.proofs.Common.{Vec, Global}
use Rattle.std.specs.List.{find, range_with_len}
use Rattle.std.specs.Option.{option_and_then, option_map_or}
use Rattle.std.specs.Str.{bytes_eq}
use Rattle.node_tree.specs.declared.node.TreeNode.{TreeNode}
use Rattle.node_tree.specs.Tree.{is_node}
use Rattle.trace_text.specs.declared.entry.Choice.{Choice}
use Rattle.trace_text.specs.declared.entry.Entry.{Entry}
use Rattle.trace_text.specs.declared.fault.TraceFault.{TraceFault}
use Rattle.trace_text.specs.declared.fault.TraceFault.TheVariants.{TooLong, Line, NoMemory}
use Rattle.trace_text.specs.declared.header.Header.{Header}
use Rattle.trace_text.specs.declared.limits.TheConstants.{NODES, BLOCKS, HANDS, ASSOCIATIONS, ENTRIES}
use Rattle.trace_text.specs.Setups.{Setup}
use Rattle.trace_text.specs.Texts.{line_feed, numbers_text, node_text, entry_text, choice_text}
use Rattle.trace_text.specs.Values.{TraceValue, ScheduleValue, has_entry, has_choice}
use Rattle.trace_text.specs.Words.{header_in, node_in, entry_in, choice_in}

-- the lines that a line feed ends, and what stands behind the last of them
pub record Lines : Type 0 where
  pub ended : List (List ℕ)
  pub rest : List ℕ

-- a byte in front begins the first line, or the rest where no line is ended
abbrev pub byte_before : ℕ → List (List ℕ) → List ℕ → Lines
byte_before b [] rest = record { ended = []; rest = b ∷ rest }
byte_before b (line ∷ lines) rest = record { ended = (b ∷ line) ∷ lines; rest = rest }

unfoldable pub lines_in : List ℕ → Lines
lines_in [] = record { ended = []; rest = [] }
lines_in (b ∷ bs) =
    if b == line_feed then record { ended = [] ∷ (lines_in bs).ended; rest = (lines_in bs).rest }
    else byte_before b (lines_in bs).ended (lines_in bs).rest

-- a line says x exactly where it is the text of x, and x is good
abbrev pub said : {X : Type 0} → (X → List ℕ) → (X → Bool) → Option X → List ℕ → Option X
said text good read line =
    option_and_then (λ x. if good x && bytes_eq (text x) line then Some x else None) read

abbrev pub entry_of : Setup → List ℕ → Option Entry
entry_of o line = said entry_text (has_entry o) (entry_in line) line

abbrev pub choice_of : Setup → List ℕ → Option Choice
choice_of o line = said choice_text (has_choice o) (choice_in line) line

-- the node's parent is one of so many nodes
abbrev pub has_parent : ℕ → TreeNode → Bool
has_parent nodes node = option_map_or (λ p. nat_lt p nodes) node.parent true

abbrev pub node_of : ℕ → List ℕ → Option TreeNode
node_of nodes line = said node_text (has_parent nodes) (node_in line) line

abbrev pub header_text : Header → List ℕ
header_text h = numbers_text h.nodes h.blocks h.hands h.kind h.most

-- all numbers are within the limits
abbrev pub is_within : Header → Bool
is_within h =
    (nat_le 1 h.nodes && nat_le h.nodes NODES)
    && ((nat_le 1 h.blocks && nat_le h.blocks BLOCKS)
    && ((nat_le 1 h.hands && nat_le h.hands HANDS)
    && (nat_le 1 h.most && nat_le h.most ASSOCIATIONS)))

abbrev pub header_of : List ℕ → Option Header
header_of line = said header_text is_within (header_in line) line

-- the entries on these lines, the first of which has the number base, after those so far
abbrev pub entries_of : {X : Type 0} → (List ℕ → Option X) → ℕ → List (List ℕ) → List ℕ → List X →
    Result (List X) ℕ
entries_of one base [] rest so_far = if length rest == 0 then Ok so_far
    else Err (base + length so_far)
entries_of one base (line ∷ lines) rest so_far =
    if length so_far == ENTRIES then Err (base + length so_far)
    else option_map_or (λ x. entries_of one base lines rest (so_far ++ x ∷ [])) (one line)
    (Err (base + length so_far))

pub record Nodes : Type 0 where
  pub nodes : List TreeNode
  pub later : List (List ℕ)

-- so many nodes on these lines, after those so far, and the lines behind them
abbrev pub nodes_of : ℕ → ℕ → List (List ℕ) → List TreeNode → Result Nodes ℕ
nodes_of total zero lines so_far = Ok (record { nodes = so_far; later = lines })
nodes_of total (suc left) [] so_far = Err (2 + length so_far)
nodes_of total (suc left) (line ∷ lines) so_far =
    option_map_or (λ x. nodes_of total left lines (so_far ++ x ∷ [])) (node_of total line)
    (Err (2 + length so_far))

-- the first node that breaks a rule of trees
abbrev pub first_fault : List TreeNode → Option ℕ
first_fault nodes = find (λ n. not (is_node nodes n)) (range_with_len 0 (length nodes))

pub record Opened : Type 0 where
  pub setup : Setup
  pub later : List (List ℕ)

abbrev pub setup_of : Header → List TreeNode → Setup
setup_of h nodes = record {
  nodes = nodes;
  blocks = h.blocks;
  hands = h.hands;
  kind = h.kind;
  most = h.most;
}

abbrev pub tree_of : Header → Result Nodes ℕ → Result Opened ℕ
tree_of h (Err n) = Err n
tree_of h (Ok s) =
    option_map_or (λ n. Err (n + 2)) (first_fault s.nodes)
    (Ok (record { setup = setup_of h s.nodes; later = s.later }))

-- what the lines open with
abbrev pub opening_of : List (List ℕ) → Result Opened ℕ
opening_of [] = Err 1
opening_of (line ∷ lines) = option_map_or (λ h. tree_of h (nodes_of h.nodes h.nodes lines []))
    (header_of line) (Err 1)

-- an opening with these entries
abbrev pub with_entries : {X V : Type 0} → (Setup → List X → V) → Setup → Result (List X) ℕ →
    Result V ℕ
with_entries make o (Ok entries) = Ok (make o entries)
with_entries make o (Err n) = Err n

abbrev pub whole_of : {X V : Type 0} → (Setup → List ℕ → Option X) → (Setup → List X → V) → List ℕ →
    Result Opened ℕ → Result V ℕ
whole_of one make rest (Err n) = Err n
whole_of one make rest (Ok p) = with_entries make p.setup
    (entries_of (one p.setup) (length p.setup.nodes + 2) p.later rest [])

abbrev pub trace_with : Setup → List Entry → TraceValue
trace_with o entries = record { opening = o; entries = entries }

abbrev pub schedule_with : Setup → List Choice → ScheduleValue
schedule_with o entries = record { opening = o; entries = entries }

-- the trace, or schedule, that a text is of
unfoldable pub trace_in : List ℕ → Result TraceValue ℕ
trace_in bytes = whole_of entry_of trace_with (lines_in bytes).rest
    (opening_of (lines_in bytes).ended)

unfoldable pub schedule_in : List ℕ → Result ScheduleValue ℕ
schedule_in bytes = whole_of choice_of schedule_with (lines_in bytes).rest
    (opening_of (lines_in bytes).ended)

-- the fault is what the reading answers; want of memory may come everywhere
abbrev pub IsFaultOf : {A : Type 0} → Result A ℕ → TraceFault → Type 0
IsFaultOf read TooLong = ⊥
IsFaultOf read (Line n) = read ≡ Err n
IsFaultOf read NoMemory = ⊤

-- the nodes on the first lines of a text were read, and the bytes behind them are left
pub record NodesRead (total : ℕ) (old new : List ℕ) (nodes : List TreeNode) : Type 0 where
  pub read : nodes_of total total (lines_in old).ended [] ≡ Ok
      (record { nodes = nodes; later = (lines_in new).ended })
  pub left : (lines_in new).rest ≡ (lines_in old).rest

abbrev pub ReadsNodes : Result (Vec TreeNode Global) TraceFault → ℕ → List ℕ → List ℕ → Type 0
ReadsNodes result total old new =
    MatchResult result (λ v. NodesRead total old new v.items)
    (IsFaultOf (nodes_of total total (lines_in old).ended []))

-- the opening at the front of a text was read, and the bytes behind it are left
pub record OpeningRead (old new : List ℕ) (o : Setup) : Type 0 where
  pub read : opening_of (lines_in old).ended ≡ Ok
      (record { setup = o; later = (lines_in new).ended })
  pub left : (lines_in new).rest ≡ (lines_in old).rest

abbrev pub ReadsOpening : Result Setup TraceFault → List ℕ → List ℕ → Type 0
ReadsOpening result old new =
    MatchResult result (OpeningRead old new) (IsFaultOf (opening_of (lines_in old).ended))
