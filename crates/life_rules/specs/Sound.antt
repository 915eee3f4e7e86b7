-- What holds between any two steps.
use Rattle.std.specs.Prelude.{◌<◌}
use Rattle.node_tree.specs.Tree.{IsTree}
use Rattle.life_rules.specs.States.{State}
use Rattle.life_rules.specs.Owned.{Owned, Counted}
use Rattle.life_rules.specs.Callbacks.{BeginsInOrder, ArmedLives, RunsAreScanned}
use Rattle.life_rules.specs.Requests.{ScansStand, RequestsFollow, NothingMissed}
use Rattle.life_rules.specs.Associations.{Associations, ScopeRequested}

pub record Sound (s : State) : Type 0 where
  pub tree : IsTree s.tree
  pub hands : 0 < s.hands
  pub owned : Owned s
  pub counted : Counted s
  pub begins : BeginsInOrder s
  pub armed : ArmedLives s
  pub runs : RunsAreScanned s
  pub scans : ScansStand s
  pub requests : RequestsFollow s
  pub missed : NothingMissed s
  pub associations : Associations s
  pub scope : ScopeRequested s
