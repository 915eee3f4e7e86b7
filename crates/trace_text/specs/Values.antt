-- What traces and schedules are seen as, and which there are.
use Rattle.std.specs.Prelude.{ℕ, ◌≤◌, ◌^◌, Bool, true, ◌&&◌, nat_lt, nat_le, List, length, IsTrue}
use Rattle.std.specs.List.{list_all}
use Rattle.std.specs.Option.{option_map_or}
use Rattle.life_rules.specs.declared.event.Event.{Event}
use Rattle.life_rules.specs.declared.event.Event.TheVariants.{Claim, Begin, Await, Rest, Take, Finish, Report, Release, Arm, Look, Request, Run, EndRun, Withdraw, WithdrawOwn, SealScan, Skip, Rouse, Enter, MarkUsed, Leave, Close, Join, Seal}
use Rattle.life_rules.specs.declared.event.Place.{Place}
use Rattle.life_rules.specs.declared.event.SourceAt.{SourceAt}
use Rattle.life_rules.specs.declared.event.SourceAt.TheVariants.{Scope, At}
use Rattle.trace_text.specs.declared.entry.Entry.{Entry}
use Rattle.trace_text.specs.declared.entry.Choice.{Choice}
use Rattle.trace_text.specs.declared.limits.TheConstants.{ENTRIES}
use Rattle.trace_text.specs.Setups.{Setup, IsSetup}

pub record TraceValue : Type 0 where
  pub opening : Setup
  pub entries : List Entry

pub record ScheduleValue : Type 0 where
  pub opening : Setup
  pub entries : List Choice

-- the node is there
abbrev pub has_node : Setup → ℕ → Bool
has_node o n = nat_lt n (length o.nodes)

abbrev pub has_block : Setup → ℕ → Bool
has_block o b = nat_lt b o.blocks

-- the place is there
abbrev pub has_place : Setup → Place → Bool
has_place o p = has_block o p.block && has_node o p.node

abbrev pub has_source : Setup → SourceAt → Bool
has_source o Scope = true
has_source o (At p) = has_place o p

-- at least one child is named, and all that are named are there
abbrev pub has_children : Setup → List ℕ → Bool
has_children o children = nat_le 1 (length children) && list_all (has_node o) children

-- all that the event names is there
abbrev pub has_event : Setup → Event → Bool
has_event o (Claim block) = has_block o block
has_event o (Begin place) = has_place o place
has_event o (Await place children) = has_place o place && has_children o children
has_event o (Rest place to) = has_place o place
has_event o (Take place) = has_place o place
has_event o (Finish place) = has_place o place
has_event o (Report place) = has_place o place
has_event o (Release block) = has_block o block
has_event o (Arm place) = has_place o place
has_event o (Look source after) = has_source o source && option_map_or (has_place o) after true
has_event o (Request source failure) = has_source o source
has_event o (Run source place) = has_source o source && has_place o place
has_event o (EndRun place) = has_place o place
has_event o (Withdraw place) = has_place o place
has_event o (WithdrawOwn place) = has_place o place
has_event o (SealScan source) = has_source o source
has_event o (Skip block) = has_block o block
has_event o (Rouse place) = has_place o place
has_event o Enter = true
has_event o MarkUsed = true
has_event o Leave = true
has_event o Close = true
has_event o Join = true
has_event o (Seal expected) = nat_lt expected.count (2 ^ 32)

-- all that the entry names is there
abbrev pub has_entry : Setup → Entry → Bool
has_entry o e = nat_lt e.hand o.hands && has_event o e.event

abbrev pub has_choice : Setup → Choice → Bool
has_choice o c = nat_lt c.hand o.hands && nat_lt c.choice (2 ^ 32)

-- not too many entries, and all that they name is there
pub record IsTrace (t : TraceValue) : Type 0 where
  pub opening : IsSetup t.opening
  pub few : length t.entries ≤ ENTRIES
  pub each : IsTrue (list_all (has_entry t.opening) t.entries)

pub record IsSchedule (t : ScheduleValue) : Type 0 where
  pub opening : IsSetup t.opening
  pub few : length t.entries ≤ ENTRIES
  pub each : IsTrue (list_all (has_choice t.opening) t.entries)
