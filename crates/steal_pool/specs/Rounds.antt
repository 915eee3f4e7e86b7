-- What a round of a worker tells.
use Rattle.std.specs.Prelude.{⊤}
use Rattle.plan_shape.specs.Blueprint.{Blueprint}
use Rattle.table_steps.specs.Views.{Board}
use Rattle.table_steps.specs.Seats.{Seated}
use Rattle.home_items.specs.declared.entry.Entry.{Entry}
use Rattle.home_items.specs.declared.item.Item.{Item}
use Rattle.steal_pool.specs.declared.serving.Round.{Round}
use Rattle.steal_pool.specs.declared.serving.Round.TheVariants.{Took, Idle, Ended}
use Rattle.steal_pool.specs.Works.{HasEnded}

-- Where it says that the worker ended, the scope is joined. Of another nothing is told.
abbrev pub Comes : Board Blueprint → Round → Seated Item Entry → Seated Item Entry → Type 0
Comes board Ended m m' = HasEnded board m m'
Comes board Took m m' = ⊤
Comes board Idle m m' = ⊤
