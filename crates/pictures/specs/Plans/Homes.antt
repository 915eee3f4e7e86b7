-- The contexts in which a node may be.
use Rattle.std.specs.Prelude.{ℕ, List, codes}
use Rattle.node_tree.specs.declared.context.Context.{Context}
use Rattle.node_tree.specs.declared.context.Context.TheVariants as context
use Rattle.plan_rules.specs.declared.node.Node.{Node}
use Rattle.plan_rules.specs.declared.node.Node.TheVariants.{Schedule, Delay, StartsOn, ContinuesOn, Bulk, Part, Ahead}
use Rattle.pictures.specs.declared.plans.home.Home.{Home}
use Rattle.pictures.specs.declared.plans.home.Home.TheVariants.{Loop, Pool, Either}

-- this context and no other
abbrev pub one_home : Context → Home
one_home context.Loop = Loop
one_home context.Pool = Pool

-- the contexts of both
abbrev pub either : Home → Home → Home
either Loop Loop = Loop
either Pool Pool = Pool
either first second = Either

-- the colour of a box whose node is started there
abbrev pub fill_of : Home → List ℕ
fill_of Loop = codes "#d0e4ff"
fill_of Pool = codes "#ffe3c2"
fill_of Either = codes "#e6d5f5"

-- the colour of the border of a box whose node completes there
abbrev pub border_of : Home → List ℕ
border_of Loop = codes "#1f5fbf"
border_of Pool = codes "#c05a00"
border_of Either = codes "#7030a0"

-- where a node starts its children, where it is started there itself; an `ahead` waits for the
-- loop, which starts them there
abbrev pub home_below : Node → Home → Home
home_below (StartsOn on child) start = one_home on
home_below (Ahead first second) start = Loop
home_below node start = start

-- where a node completes, where all below it complete there; a bulk goes on in the pool, where its
-- parts are, unless its row has no number; and the loop joins what an `ahead` gives
abbrev pub home_behind : Node → Home → Home
home_behind (Schedule on) home = one_home on
home_behind (ContinuesOn child on) home = one_home on
home_behind (Delay turns) home = Loop
home_behind (Part bulk part) home = Pool
home_behind (Bulk child job) home = either home Pool
home_behind (Ahead first second) home = Loop
home_behind node home = home
