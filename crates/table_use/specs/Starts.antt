-- What the items of these operations show, and which values are right.
use Rattle.std.specs.Prelude.{◌≡◌, ◌⊎◌, ℕ, zero, suc, ◌+◌, Bool, true, false, ◌==◌, if◌then◌else◌, List, [], ◌∷◌}
use Rattle.table_use.specs.declared.cargo.Entry.{Entry}
use Rattle.table_use.specs.declared.cargo.Env.{Env}
use Rattle.table_use.specs.declared.cargo.Item.{Item}
use Rattle.table_use.specs.declared.cargo.Item.TheVariants.{Going, Kept, Done, Failed}

-- the entry of this node in the same operation
abbrev pub entry_at : Env → ℕ → Entry
entry_at env node = record { node = node; number = env.number; step = env.step }

-- the start of what stands above a node
abbrev pub above_of : Env → ℕ → List Entry
above_of env zero = entry_at env 3 ∷ []
above_of env (suc zero) = entry_at env 2 ∷ entry_at env 3 ∷ []
above_of env (suc (suc zero)) = entry_at env 3 ∷ []
above_of env (suc (suc (suc node))) = []

abbrev pub path : Env → List Entry
path env = entry_at env env.node ∷ above_of env env.node

-- the value that an operation answers
abbrev pub answer_of : Env → ℕ
answer_of env = env.number + env.step

-- with which the node of this number completes
abbrev pub done_at : Env → ℕ → Item
done_at env node = Done (record env { node = node }) (answer_of env)

abbrev pub env_of : Item → Env
env_of (Going env) = env
env_of (Kept env value) = env
env_of (Done env value) = env
env_of (Failed env) = env

abbrev pub value_of : Item → ℕ
value_of (Going env) = 0
value_of (Kept env value) = value
value_of (Done env value) = value
value_of (Failed env) = 0

abbrev pub is_done : Item → Bool
is_done (Going env) = false
is_done (Kept env value) = false
is_done (Done env value) = true
is_done (Failed env) = false

abbrev pub start_of : Item → List Entry
start_of item = path (env_of item)

-- only a completion ends
abbrev pub Ends : Item → Type 0
Ends (Going env) = ⊥
Ends (Kept env value) = ⊥
Ends (Done env value) = Unit {0}
Ends (Failed env) = Unit {0}

-- the number is that of the parent
abbrev pub IsParent : ℕ → ℕ → Type 0
IsParent zero parent = parent ≡ 3
IsParent (suc zero) parent = parent ≡ 2
IsParent (suc (suc zero)) parent = parent ≡ 3
IsParent (suc (suc (suc node))) parent = ⊥

-- an item fits its own node, and a value in it is right; one of a failure also fits the parent,
-- which says that it failed. None rests on a request
abbrev pub FitsAt : Item → ℕ → Type 0
FitsAt (Going env) node = env.node ≡ node
FitsAt (Kept env value) node = (env.node ≡ node) × (value ≡ answer_of env)
FitsAt (Done env value) node = (env.node ≡ node) × (value ≡ answer_of env)
FitsAt (Failed env) node = (env.node ≡ node) ⊎ IsParent env.node node

abbrev pub Fits : Item → ℕ → Bool → Type 0
Fits item node requested = FitsAt item node

-- a root that goes on or keeps a value names a child when it waits; the others ask for none
abbrev pub least_at : ℕ → ℕ
least_at node = if node == 3 then 1 else 0

abbrev pub least_of : Item → ℕ
least_of (Going env) = least_at env.node
least_of (Kept env value) = least_at env.node
least_of (Done env value) = 0
least_of (Failed env) = 0

-- all starts of a table share the step
abbrev pub key_of : List Entry → ℕ
key_of [] = 0
key_of (e ∷ es) = e.step
