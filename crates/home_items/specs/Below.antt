-- How a start goes on below another: what a child has of its parent's.
use Rattle.std.specs.Prelude.{◌≡◌, ◌⊎◌, ℕ, ℤ, Bool, false, List, [], ◌∷◌, Contains, slice_get, Option, Some, None, Ok}
use Rattle.std.specs.Option.{option_to_list}
use Rattle.exec_value.specs.declared.data.Datum.{Datum}
use Rattle.exec_value.specs.declared.data.Datum.TheVariants.{Int, Row}
use Rattle.exec_value.specs.declared.outcome.Completion.{Completion}
use Rattle.exec_value.specs.declared.outcome.Completion.TheVariants.{Value}
use Rattle.exec_job.specs.declared.job.Job.{Job}
use Rattle.exec_job.specs.Apply.{apply_of}
use Rattle.plan_rules.specs.declared.node.Node.{Node}
use Rattle.plan_rules.specs.declared.node.Node.TheVariants.{LetValue, LetError, LetStopped, Bulk, WhenAll, Part, Unstoppable, Ahead}
use Rattle.plan_rules.specs.Images.{value_data, error_data, stopped_data}
use Rattle.plan_rules.specs.Allowed.{Allowed, body_at}
use Rattle.plan_kinds.specs.Runs.{run_by}
use Rattle.home_items.specs.declared.entry.Entry.{Entry}
use Rattle.home_items.specs.Entries.{plan_node}
use Rattle.home_items.specs.Shares.{part_args}
use Rattle.plan_rules.specs.Seen.{seen_state}

-- The children that run with their parent's arguments. Of the receiver node it is the one that its
-- start names; the first child of an `ahead` stands under the receiver node.
abbrev pub run_below : Option Node → Entry → List ℕ
run_below None p = option_to_list p.child
run_below (Some (Ahead first second)) p = second ∷ []
run_below (Some node) p = run_by node

-- What a child has of `asked`: below a `when_all`, whose source is its own, and below an
-- `unstoppable`, no request was made before the start.
abbrev pub asked_below : Option Node → Bool → Bool
asked_below (Some (WhenAll children)) asked = false
asked_below (Some (Unstoppable child)) asked = false
asked_below _ asked = asked

-- The child runs with its parent's arguments.
pub record IsPlainChild (parent : Option Node) (e p : Entry) : Type 0 where
  pub runs : Contains (run_below parent p) e.node
  pub args : e.args ≡ p.args
  pub asked : e.asked ≡ asked_below parent p.asked
  pub whole : e.whole ≡ []

-- The completion is allowed for node n with the arguments of this entry, where a request may have
-- been seen, or none was.
abbrev pub AllowedWith : Entry → Bool → ℕ → Completion → Type 0
AllowedWith e seen n done = Allowed e.plan.nodes n e.args e.number (seen_state e.asked seen) done

-- The body of a let runs with the data of a completion of the let's child, on the let's channel,
-- and by these data it is picked.
pub record IsBody (channel : Completion → Option (List Datum)) (child : ℕ) (pick : Job)
    (bodies : List ℕ) (seen : Bool) (e p : Entry) : Type 0 where
  pub done : Completion
  pub allowed : AllowedWith p seen child done
  pub args : channel done ≡ Some e.args
  pub number : ℤ
  pub picks : apply_of pick e.args ≡ Ok (Int number ∷ [])
  pub body : e.node ≡ body_at bodies number
  pub asked : e.asked ≡ p.asked
  pub whole : e.whole ≡ []

-- The part of a bulk shows a whole row, which is a value of the bulk's child, and runs with its
-- share of it.
pub record IsPart (child : ℕ) (seen : Bool) (e p : Entry) : Type 0 where
  pub part : ℕ
  pub node : slice_get p.plan.nodes e.node ≡ Some (Part p.node part)
  pub allowed : AllowedWith p seen child (Value (Row e.whole ∷ []))
  pub args : e.args ≡ part_args e.whole part
  pub asked : e.asked ≡ p.asked

-- by the parent's node: a let also runs bodies, and a bulk parts
abbrev pub ByNode : Option Node → Bool → Entry → Entry → Type 0
ByNode (Some (LetValue child pick bodies)) seen e p =
    IsPlainChild (Some (LetValue child pick bodies)) e p
    ⊎ IsBody value_data child pick bodies seen e p
ByNode (Some (LetError child pick bodies)) seen e p =
    IsPlainChild (Some (LetError child pick bodies)) e p
    ⊎ IsBody error_data child pick bodies seen e p
ByNode (Some (LetStopped child pick bodies)) seen e p =
    IsPlainChild (Some (LetStopped child pick bodies)) e p
    ⊎ IsBody stopped_data child pick bodies seen e p
ByNode (Some (Bulk child job)) seen e p =
    IsPlainChild (Some (Bulk child job)) e p ⊎ IsPart child seen e p
ByNode parent seen e p = IsPlainChild parent e p

-- The entry e goes on below p, where a request may have been seen above them, or none was.
pub record GoesBelow (seen : Bool) (e p : Entry) : Type 0 where
  pub plan : e.plan ≡ p.plan
  pub number : e.number ≡ p.number
  pub child : e.child ≡ None
  pub by : ByNode (plan_node p) seen e p
