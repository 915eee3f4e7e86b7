-- The text of what traces and schedules say.
use Rattle.std.specs.Prelude.{ℕ, Bool, true, false, if◌then◌else◌, List, [], ◌∷◌, ◌++◌, length, map, codes, decimal, Option, Some, None}
use Rattle.std.specs.List.{flat_map, join_with_byte}
use Rattle.life_rules.specs.declared.event.Event.{Event}
use Rattle.life_rules.specs.declared.event.Event.TheVariants.{Claim, Begin, Await, Rest, Take, Finish, Report, Release, Arm, Look, Request, Run, EndRun, Withdraw, WithdrawOwn, SealScan, Skip, Rouse, Enter, MarkUsed, Leave, Close, Join, Seal}
use Rattle.life_rules.specs.declared.event.Place.{Place}
use Rattle.life_rules.specs.declared.event.Resting.{Resting}
use Rattle.life_rules.specs.declared.event.Resting.TheVariants.{Loop, Pool, Parked}
use Rattle.life_rules.specs.declared.event.SourceAt.{SourceAt}
use Rattle.life_rules.specs.declared.event.SourceAt.TheVariants.{Scope, At}
use Rattle.node_tree.specs.declared.scope_kind.ScopeKind.{ScopeKind}
use Rattle.node_tree.specs.declared.scope_kind.ScopeKind.TheVariants.{Simple, Counting}
use Rattle.life_rules.specs.declared.scope.ScopeWord.{ScopeWord}
use Rattle.node_tree.specs.declared.node.TreeNode.{TreeNode}
use Rattle.trace_text.specs.declared.entry.Choice.{Choice}
use Rattle.trace_text.specs.declared.entry.Entry.{Entry}
use Rattle.trace_text.specs.Setups.{Setup}
use Rattle.trace_text.specs.Values.{TraceValue, ScheduleValue}

abbrev pub line_feed : ℕ
line_feed = 10

abbrev pub blank : ℕ
blank = 32

abbrev pub comma : ℕ
comma = 44

abbrev pub dot : ℕ
dot = 46

-- one text, a blank, and another
abbrev pub apart : List ℕ → List ℕ → List ℕ
apart a b = a ++ blank ∷ b

abbrev pub place_text : Place → List ℕ
place_text p = decimal p.block ++ dot ∷ decimal p.node

abbrev pub source_text : SourceAt → List ℕ
source_text Scope = codes "scope"
source_text (At p) = place_text p

-- numbers with commas between them
abbrev pub children_text : List ℕ → List ℕ
children_text children = join_with_byte comma (map decimal children)

abbrev pub resting_text : Resting → List ℕ
resting_text Loop = codes "loop"
resting_text Pool = codes "pool"
resting_text Parked = codes "parked"

-- a look names a place only where it comes after an arming
abbrev pub after_text : Option Place → List ℕ
after_text None = []
after_text (Some p) = blank ∷ place_text p

abbrev pub cause_text : Bool → List ℕ
cause_text false = codes "plain"
cause_text true = codes "failure"

abbrev pub bit_text : Bool → List ℕ
bit_text false = codes "0"
bit_text true = codes "1"

abbrev pub scope_text : ScopeWord → List ℕ
scope_text w =
    apart (bit_text w.used) (apart (bit_text w.closed)
    (apart (bit_text w.joining) (apart (bit_text w.joined) (decimal w.count))))

abbrev pub event_text : Event → List ℕ
event_text (Claim block) = codes "claim " ++ decimal block
event_text (Begin place) = codes "begin " ++ place_text place
event_text (Await place children) = codes "await "
    ++ apart (place_text place) (children_text children)
event_text (Rest place to) = codes "rest " ++ apart (place_text place) (resting_text to)
event_text (Take place) = codes "take " ++ place_text place
event_text (Finish place) = codes "finish " ++ place_text place
event_text (Report place) = codes "report " ++ place_text place
event_text (Release block) = codes "release " ++ decimal block
event_text (Arm place) = codes "arm " ++ place_text place
event_text (Look source after) = codes "look " ++ (source_text source ++ after_text after)
event_text (Request source failure) = codes "request "
    ++ apart (source_text source) (cause_text failure)
event_text (Run source place) = codes "run " ++ apart (source_text source) (place_text place)
event_text (EndRun place) = codes "end_run " ++ place_text place
event_text (Withdraw place) = codes "withdraw " ++ place_text place
event_text (WithdrawOwn place) = codes "withdraw_own " ++ place_text place
event_text (SealScan source) = codes "seal_scan " ++ source_text source
event_text (Skip block) = codes "skip " ++ decimal block
event_text (Rouse place) = codes "rouse " ++ place_text place
event_text Enter = codes "enter"
event_text MarkUsed = codes "mark_used"
event_text Leave = codes "leave"
event_text Close = codes "close"
event_text Join = codes "join"
event_text (Seal expected) = codes "seal " ++ scope_text expected

abbrev pub entry_text : Entry → List ℕ
entry_text e = apart (decimal e.hand) (event_text e.event)

abbrev pub choice_text : Choice → List ℕ
choice_text c = apart (decimal c.hand) (decimal c.choice)

abbrev pub parent_text : Option ℕ → List ℕ
parent_text None = codes "-"
parent_text (Some p) = decimal p

abbrev pub mark_text : TreeNode → List ℕ
mark_text node =
    if node.source then codes "source" else (
    if node.unstoppable then codes "unstoppable" else codes "plain")

abbrev pub node_text : TreeNode → List ℕ
node_text node = codes "node " ++ apart (parent_text node.parent) (mark_text node)

abbrev pub kind_text : ScopeKind → List ℕ
kind_text Simple = codes "simple"
kind_text Counting = codes "counting"

-- the numbers of an opening
abbrev pub numbers_text : ℕ → ℕ → ℕ → ScopeKind → ℕ → List ℕ
numbers_text nodes blocks hands kind most =
    codes "exec "
    ++ apart (decimal nodes)
    (apart (decimal blocks) (apart (decimal hands) (apart (kind_text kind) (decimal most))))

-- each of these on a line of its own
abbrev pub lines : {X : Type 0} → (X → List ℕ) → List X → List ℕ
lines text xs = flat_map (λ x. text x ++ line_feed ∷ []) xs

-- the first line, and a line for each node
abbrev pub setup_text : Setup → List ℕ
setup_text o =
    numbers_text (length o.nodes) o.blocks o.hands o.kind o.most
    ++ line_feed ∷ lines node_text o.nodes

abbrev pub trace_text : TraceValue → List ℕ
trace_text t = setup_text t.opening ++ lines entry_text t.entries

abbrev pub schedule_text : ScheduleValue → List ℕ
schedule_text t = setup_text t.opening ++ lines choice_text t.entries
