-- What the loop serves: nodes that it takes where they rest, and goes on with.
use Rattle.std.specs.Prelude.{◌≡◌, ℕ, zero, suc, ◌+◌, ◌-◌, ◌^◌, min, Bool, true, ⊤}
use Rattle.life_rules.specs.declared.event.Name.{Name}
use Rattle.life_rules.specs.declared.event.Resting.{Resting}
use Rattle.life_rules.specs.declared.event.Resting.TheVariants as rest
use Rattle.plan_shape.specs.Blueprint.{Blueprint}
use Rattle.table_steps.specs.Views.{Board}
use Rattle.table_steps.specs.Seats.{Seated}
use Rattle.home_items.specs.declared.entry.Entry.{Entry}
use Rattle.home_items.specs.declared.item.Item.{Item}
use Rattle.exec_recv.specs.Seats.{HandSeat}
use Rattle.exec_recv.specs.Sites.{Does}
use Rattle.node_walks.specs.Mails.{HearsAll}
use Rattle.node_walks.specs.Since.{OnlyLooks}
use Rattle.node_walks.specs.Serving.{OnlyServes}
use Rattle.run_loop.specs.declared.looped.Loop.{Loop as Looped}
use Rattle.run_loop.specs.declared.loop_mail.LoopMail.{LoopMail}
use Rattle.run_loop.specs.Fetches.{FetchesWhere, HearsName}

-- Which nodes may be taken, and where they rest.
abbrev pub Taking : Type 1
Taking = Resting → Name → Type 0

-- What rests in the loop may be, and where the loop helps what rests in the pool.
abbrev pub IsOpen : Bool → Resting → Type 0
IsOpen helps rest.Loop = ⊤
IsOpen helps rest.Pool = helps ≡ true
IsOpen helps rest.Parked = ⊥

abbrev pub MayHelp : Bool → Taking
MayHelp helps = λ from name. IsOpen helps from

-- What serving nodes changes: the view of the loop's hand with its homes, and the loop's names.
pub record HandMoment : Type 0 where
  pub me : Seated Item Entry
  pub names : LoopMail

abbrev pub moment : HandSeat → LoopMail → HandMoment
moment hand names = record { me = hand.me; names = names }

-- Words were only looked at, and the names are as before.
pub record OnlyLooked (m m' : HandMoment) : Type 0 where
  pub looks : OnlyLooks m.me m'.me
  pub unheard : m'.names ≡ m.names

module _ (does : Does) (board : Board Blueprint) (may : Taking) where
  -- A node that may be taken was, where it rested, and stepped. Nothing else was done, but looks
  -- before that. The loop took note of each node that the steps left ready, in their order.
  pub record ServesOne (m m' : HandMoment) : Type 0 where
    pub name : Name
    pub from : Resting
    pub may_be : may from name
    pub serves : HearsAll HearsName m.names m'.names (OnlyServes does board from name m.me m'.me)

  -- One was after this, and then words were only looked at.
  pub record ServesAfter (Before : HandMoment → Type 0) (m' : HandMoment) : Type 0 where
    pub between : HandMoment
    pub before : Before between
    pub served : HandMoment
    pub one : ServesOne between served
    pub looks : OnlyLooked served m'

  -- So many were, one after the other. Beside that words were only looked at.
  abbrev pub Serves : ℕ → HandMoment → HandMoment → Type 0
  Serves zero m m' = OnlyLooked m m'
  Serves (suc count) m m' = ServesAfter (λ between. Serves count m between) m'

  -- So many were as the one number has grown to the other, which is at most 2 ^ 32 - 1.
  pub record ServesMore (before after : ℕ) (m m' : HandMoment) : Type 0 where
    pub count : ℕ
    pub counted : after ≡ min (before + count) (2 ^ 32 - 1)
    pub serves : Serves count m m'

-- A loop took and stepped so many nodes, one after the other, each of which might be. Nothing else
-- was done, but looks. The number counts up to 2 ^ 32 - 1. First the names that the loop was told
-- of made room, or where there were none that which it took of its deck. Then it took note of each
-- node that these steps left ready, in their order, and of nothing else.
pub record ServesAll (does : Does) (board : Board Blueprint) (may : Taking) (count : ℕ)
    (old new : Looped) : Type 0 where
  pub fetched : LoopMail
  pub fetches : FetchesWhere old.helps old.names fetched
  pub serves : ServesMore does board may 0 count
      (moment old.hand (record fetched { list = old.served })) (moment new.hand new.names)
