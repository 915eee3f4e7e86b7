-- Whether a callback is armed.
use Rattle.std.specs.Prelude.{◌==◌, Bool, false, not, ◌&&◌, ◌||◌, List}
use Rattle.std.specs.List.{fold}
use Rattle.life_rules.specs.declared.event.Event.{Event}
use Rattle.life_rules.specs.declared.event.Event.TheVariants.{Arm, Run, Withdraw}
use Rattle.life_rules.specs.declared.event.Place.{Place}
use Rattle.trace_text.specs.declared.entry.Entry.{Entry}

-- these are one place
abbrev pub same_place : Place → Place → Bool
same_place p q = (p.block == q.block) && (p.node == q.node)

-- whether the callback of a place is armed after an event, by whether it was before
abbrev pub armed_by : Place → Bool → Event → Bool
armed_by place armed (Arm given) = armed || same_place given place
armed_by place armed (Withdraw given) = armed && not (same_place given place)
armed_by place armed (Run source given) = armed && not (same_place given place)
armed_by place armed event = armed

abbrev pub armed_after : Place → Bool → Entry → Bool
armed_after place armed entry = armed_by place armed entry.event

-- the callback of a place is armed after these entries: it was registered, and since then neither
-- removed nor run
abbrev pub is_still_armed : Place → List Entry → Bool
is_still_armed place earlier = fold (armed_after place) false earlier
