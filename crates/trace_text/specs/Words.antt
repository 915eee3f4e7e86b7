-- What the words of a line say. Each is read so that what `Texts` writes of it is read back;
-- whether it was written so is seen when the line is written again.
use Rattle.std.specs.Prelude.{ℕ, ◌+◌, ◌-◌, ◌*◌, ◌^◌, Bool, true, false, ◌&&◌, ◌==◌, nat_lt, if◌then◌else◌, List, [], ◌∷◌, codes, Option, Some, None}
use Rattle.std.specs.Char.{is_ascii_digit}
use Rattle.std.specs.List.{slice_split}
use Rattle.std.specs.Option.{option_map, option_and_then}
use Rattle.std.specs.Str.{bytes_eq}
use Rattle.life_rules.specs.declared.event.Event.{Event}
use Rattle.life_rules.specs.declared.event.Event.TheVariants.{Await, Rest, Look, Request, Run, SealScan, Seal}
use Rattle.life_rules.specs.declared.event.Place.{Place}
use Rattle.life_rules.specs.declared.event.Resting.{Resting}
use Rattle.life_rules.specs.declared.event.Resting.TheVariants.{Loop, Pool, Parked}
use Rattle.life_rules.specs.declared.event.SourceAt.{SourceAt}
use Rattle.life_rules.specs.declared.event.SourceAt.TheVariants.{Scope, At}
use Rattle.node_tree.specs.declared.scope_kind.ScopeKind.{ScopeKind}
use Rattle.node_tree.specs.declared.scope_kind.ScopeKind.TheVariants.{Simple, Counting}
use Rattle.life_rules.specs.declared.scope.ScopeWord.{ScopeWord}
use Rattle.node_tree.specs.declared.node.TreeNode.{TreeNode}
use Rattle.trace_text.specs.declared.entry.Choice.{Choice}
use Rattle.trace_text.specs.declared.entry.Entry.{Entry}
use Rattle.trace_text.specs.declared.header.Header.{Header}
use Rattle.trace_text.specs.declared.kinds.BareKind.{BareKind}
use Rattle.trace_text.specs.declared.kinds.BareKind.TheVariants.{Enter as AnEnter, MarkUsed as AMarkUsed, Leave as ALeave, Close as AClose, Join as AJoin}
use Rattle.trace_text.specs.declared.kinds.BlockKind.{BlockKind}
use Rattle.trace_text.specs.declared.kinds.BlockKind.TheVariants.{Claim as AClaim, Release as ARelease, Skip as ASkip}
use Rattle.trace_text.specs.declared.kinds.PlaceKind.{PlaceKind}
use Rattle.trace_text.specs.declared.kinds.PlaceKind.TheVariants.{Begin as ABegin, Take as ATake, Finish as AFinish, Report as AReport, Arm as AnArm, EndRun as AnEndRun, Withdraw as AWithdraw, WithdrawOwn as AWithdrawOwn, Rouse as ARouse}
use Rattle.trace_text.specs.Kinds.{block_event, place_event, bare_event}
use Rattle.trace_text.specs.Texts.{blank, comma, dot}

-- bytes in two, at the first byte of this kind
pub record Halves : Type 0 where
  pub front : List ℕ
  pub rest : List ℕ

abbrev pub cut_at : ℕ → List ℕ → Option Halves
cut_at c [] = None
cut_at c (b ∷ bs) =
    if b == c then Some (record { front = []; rest = bs })
    else option_map (λ h. record { front = b ∷ h.front; rest = h.rest }) (cut_at c bs)

-- two parts together, where both are there
abbrev pub both : {A B C : Type 0} → (A → B → C) → Option A → Option B → Option C
both f a b = option_and_then (λ x. option_map (f x) b) a

-- what two halves say together
abbrev pub in_halves : {A B C : Type 0} → (A → B → C) → (List ℕ → Option A) → (List ℕ → Option B) →
    ℕ → List ℕ → Option C
in_halves f first second c bytes =
    option_and_then (λ h. both f (first h.front) (second h.rest)) (cut_at c bytes)

-- a number, and one digit more
abbrev pub with_digit : ℕ → ℕ → Option ℕ
with_digit n b =
    if is_ascii_digit b && nat_lt (n * 10 + (b - 48)) (2 ^ 32) then Some (n * 10 + (b - 48))
    else None

abbrev pub number_from : ℕ → List ℕ → Option ℕ
number_from n [] = Some n
number_from n (b ∷ bs) = option_and_then (λ m. number_from m bs) (with_digit n b)

-- the number of decimal digits, where an u32 holds it
unfoldable pub number_in : List ℕ → Option ℕ
number_in bytes = number_from 0 bytes

abbrev pub place_at : ℕ → ℕ → Place
place_at b n = record { block = b; node = n }

unfoldable pub place_in : List ℕ → Option Place
place_in bytes = in_halves place_at number_in number_in dot bytes

unfoldable pub source_in : List ℕ → Option SourceAt
source_in bytes = if bytes_eq bytes (codes "scope") then Some Scope
    else option_map At (place_in bytes)

-- numbers, one after another
abbrev pub numbers_in : List (List ℕ) → Option (List ℕ)
numbers_in [] = Some []
numbers_in (part ∷ parts) = both (λ n ns. n ∷ ns) (number_in part) (numbers_in parts)

-- the numbers between commas
unfoldable pub children_in : List ℕ → Option (List ℕ)
children_in bytes = numbers_in (slice_split (λ b. b == comma) bytes)

unfoldable pub resting_in : List ℕ → Option Resting
resting_in bytes =
    if bytes_eq bytes (codes "loop") then Some Loop else (
    if bytes_eq bytes (codes "pool") then Some Pool else (
    if bytes_eq bytes (codes "parked") then Some Parked else None))

unfoldable pub cause_in : List ℕ → Option Bool
cause_in bytes =
    if bytes_eq bytes (codes "plain") then Some false else (
    if bytes_eq bytes (codes "failure") then Some true else None)

unfoldable pub bit_in : List ℕ → Option Bool
bit_in bytes =
    if bytes_eq bytes (codes "0") then Some false else (
    if bytes_eq bytes (codes "1") then Some true else None)

unfoldable pub kind_in : List ℕ → Option ScopeKind
kind_in bytes =
    if bytes_eq bytes (codes "simple") then Some Simple else (
    if bytes_eq bytes (codes "counting") then Some Counting else None)

-- the word of a scope: four bits and the count, with blanks between them
abbrev pub counted : Bool → ℕ → ScopeWord
counted joined count = record {
  used = false;
  closed = false;
  joining = false;
  joined = joined;
  count = count;
}

abbrev pub with_joining : Bool → ScopeWord → ScopeWord
with_joining joining w = record w { joining = joining }

abbrev pub with_closed : Bool → ScopeWord → ScopeWord
with_closed closed w = record w { closed = closed }

abbrev pub with_used : Bool → ScopeWord → ScopeWord
with_used used w = record w { used = used }

unfoldable pub counted_in : List ℕ → Option ScopeWord
counted_in bytes = in_halves counted bit_in number_in blank bytes

unfoldable pub joining_in : List ℕ → Option ScopeWord
joining_in bytes = in_halves with_joining bit_in counted_in blank bytes

unfoldable pub closed_in : List ℕ → Option ScopeWord
closed_in bytes = in_halves with_closed bit_in joining_in blank bytes

unfoldable pub scope_in : List ℕ → Option ScopeWord
scope_in bytes = in_halves with_used bit_in closed_in blank bytes

unfoldable pub block_kind_in : List ℕ → Option BlockKind
block_kind_in word =
    if bytes_eq word (codes "claim") then Some AClaim else (
    if bytes_eq word (codes "release") then Some ARelease else (
    if bytes_eq word (codes "skip") then Some ASkip else None))

unfoldable pub place_kind_in : List ℕ → Option PlaceKind
place_kind_in word =
    if bytes_eq word (codes "begin") then Some ABegin else (
    if bytes_eq word (codes "take") then Some ATake else (
    if bytes_eq word (codes "finish") then Some AFinish else (
    if bytes_eq word (codes "report") then Some AReport else (
    if bytes_eq word (codes "arm") then Some AnArm else (
    if bytes_eq word (codes "end_run") then Some AnEndRun else (
    if bytes_eq word (codes "withdraw") then Some AWithdraw else (
    if bytes_eq word (codes "withdraw_own") then Some AWithdrawOwn else (
    if bytes_eq word (codes "rouse") then Some ARouse else None))))))))

unfoldable pub bare_kind_in : List ℕ → Option BareKind
bare_kind_in word =
    if bytes_eq word (codes "enter") then Some AnEnter else (
    if bytes_eq word (codes "mark_used") then Some AMarkUsed else (
    if bytes_eq word (codes "leave") then Some ALeave else (
    if bytes_eq word (codes "close") then Some AClose else (
    if bytes_eq word (codes "join") then Some AJoin else None))))

-- a look names a place behind its source, or ends there
unfoldable pub look_in : List ℕ → Option Event
look_in bytes =
    elim (cut_at blank bytes) [
      | None ↦ option_map (λ source. Look source None) (source_in bytes)
      | Some h ↦ both (λ source p. Look source (Some p)) (source_in h.front) (place_in h.rest)
    ]

-- the event of a kind that has more than a block or a place, awaits aside
unfoldable pub plain_in : List ℕ → List ℕ → Option Event
plain_in word rest =
    if bytes_eq word (codes "rest") then in_halves Rest place_in resting_in blank rest else (
    if bytes_eq word (codes "look") then look_in rest else (
    if bytes_eq word (codes "request") then in_halves Request source_in cause_in blank rest else (
    if bytes_eq word (codes "run") then in_halves Run source_in place_in blank rest else (
    if bytes_eq word (codes "seal_scan") then option_map SealScan (source_in rest) else (
    if bytes_eq word (codes "seal") then option_map Seal (scope_in rest) else None)))))

unfoldable pub other_in : List ℕ → List ℕ → Option Event
other_in word rest =
    if bytes_eq word (codes "await") then in_halves Await place_in children_in blank rest
    else plain_in word rest

-- the event of this kind
unfoldable pub kind_event_in : List ℕ → List ℕ → Option Event
kind_event_in word rest =
    elim (block_kind_in word) [
      | Some kind ↦ option_map (block_event kind) (number_in rest)
      | None ↦ elim (place_kind_in word) [
        | Some kind ↦ option_map (place_event kind) (place_in rest)
        | None ↦ other_in word rest
      ]
    ]

unfoldable pub event_in : List ℕ → Option Event
event_in bytes =
    elim (cut_at blank bytes) [
      | None ↦ option_map bare_event (bare_kind_in bytes)
      | Some h ↦ kind_event_in h.front h.rest
    ]

abbrev pub entry_at : ℕ → Event → Entry
entry_at hand event = record { hand = hand; event = event }

abbrev pub choice_at : ℕ → ℕ → Choice
choice_at hand choice = record { hand = hand; choice = choice }

unfoldable pub entry_in : List ℕ → Option Entry
entry_in line = in_halves entry_at number_in event_in blank line

unfoldable pub choice_in : List ℕ → Option Choice
choice_in line = in_halves choice_at number_in number_in blank line

-- the parent of a node, none for a dash
unfoldable pub parent_in : List ℕ → Option (Option ℕ)
parent_in bytes = if bytes_eq bytes (codes "-") then Some None
    else option_map Some (number_in bytes)

abbrev pub node_at : Option ℕ → Bool → Bool → TreeNode
node_at parent source unstoppable = record {
  parent = parent;
  source = source;
  unstoppable = unstoppable;
}

-- a node without its parent
unfoldable pub marked_in : List ℕ → Option TreeNode
marked_in bytes =
    if bytes_eq bytes (codes "plain") then Some (node_at None false false) else (
    if bytes_eq bytes (codes "source") then Some (node_at None true false) else (
    if bytes_eq bytes (codes "unstoppable") then Some (node_at None false true) else None))

abbrev pub with_parent : Option ℕ → TreeNode → TreeNode
with_parent parent node = record node { parent = parent }

-- what stands behind this word
abbrev pub behind : {A : Type 0} → List ℕ → (List ℕ → Option A) → List ℕ → Option A
behind word read line =
    option_and_then (λ h. if bytes_eq h.front word then read h.rest else None) (cut_at blank line)

unfoldable pub marks_in : List ℕ → Option TreeNode
marks_in bytes = in_halves with_parent parent_in marked_in blank bytes

unfoldable pub node_in : List ℕ → Option TreeNode
node_in line = behind (codes "node") marks_in line

abbrev pub header_at : ScopeKind → ℕ → Header
header_at kind most = record { nodes = 0; blocks = 0; hands = 0; kind = kind; most = most }

abbrev pub with_hands : ℕ → Header → Header
with_hands hands h = record h { hands = hands }

abbrev pub with_blocks : ℕ → Header → Header
with_blocks blocks h = record h { blocks = blocks }

abbrev pub with_nodes : ℕ → Header → Header
with_nodes nodes h = record h { nodes = nodes }

unfoldable pub scope_numbers_in : List ℕ → Option Header
scope_numbers_in bytes = in_halves header_at kind_in number_in blank bytes

unfoldable pub hands_in : List ℕ → Option Header
hands_in bytes = in_halves with_hands number_in scope_numbers_in blank bytes

unfoldable pub blocks_in : List ℕ → Option Header
blocks_in bytes = in_halves with_blocks number_in hands_in blank bytes

unfoldable pub nodes_in : List ℕ → Option Header
nodes_in bytes = in_halves with_nodes number_in blocks_in blank bytes

unfoldable pub header_in : List ℕ → Option Header
header_in line = behind (codes "exec") nodes_in line
