-- What a deque, or the shared queue, keeps of its names and of all that give and take.
use Rattle.std.specs.Prelude.{◌≡◌, ℕ, ◌+◌, ◌-◌, List, [], ◌++◌, sum_by}
use mathlib.Core.Option.{some}
use lib.ListN.{get_elem?}
use Rattle.life_rules.specs.declared.event.Name.{Name}
use Rattle.deck_relay.specs.declared.tokens.Tokens.{Tokens}

abbrev pub tokens : ℕ → List Name → List Name → Tokens
tokens share given taken = record { share = share; given = given; taken = taken }

-- The first pass has every share.
abbrev pub at_first : Tokens
at_first = tokens 32 [] []

abbrev pub spent : Tokens
spent = tokens 0 [] []

-- A new pass gets one share of another.
abbrev pub without_one : Tokens → Tokens
without_one v = record v { share = v.share - 1 }

abbrev pub with_one : Tokens
with_one = tokens 1 [] []

abbrev pub giving : Tokens → List Name → Tokens
giving v names = record v { given = v.given ++ names }

abbrev pub taking : Tokens → List Name → Tokens
taking v names = record v { taken = v.taken ++ names }

abbrev pub both : Tokens → Tokens → Tokens
both v w = tokens (v.share + w.share) (v.given ++ w.given) (v.taken ++ w.taken)

-- Whatever each name weighs: what was given weighs what was taken and what is held.
pub record Balanced (items : List Name) (views : List Tokens) : Type 0 where
  pub whole : sum_by (λ v. v.share) views ≡ 32
  pub even : (weight : Name → ℕ) →
      sum_by (λ v. sum_by weight v.given) views
      ≡ sum_by (λ v. sum_by weight v.taken) views + sum_by weight items
  -- without a share a pass did nothing
  pub idle : (pass : ℕ) (v : Tokens) → get_elem? views pass ≡ some v → v.share ≡ 0 →
      (v.given ≡ []) × (v.taken ≡ [])

-- At a moment these names were held, and this pass was among those that gave and took.
pub record Stood (v : Tokens) (items : List Name) : Type 0 where
  pub views : List Tokens
  pub pass : ℕ
  pub there : get_elem? views pass ≡ some v
  pub balanced : Balanced items views

-- What is learned with every share: what the pass gave weighs what it took and what is held.
abbrev pub Tells : Tokens → List Name → Type 0
Tells v items = (weight : Name → ℕ) →
    sum_by weight v.given ≡ sum_by weight v.taken + sum_by weight items
