-- Where the homes are, and which are full.
use Rattle.std.specs.Prelude.{◌≡◌, ℕ, ◌+◌, ◌*◌, ◌≤◌, Bool, true, false, ◌&&◌, ◌||◌, nat_le, Some}
use Rattle.std.specs.Option.{option_map_or}
use Rattle.life_rules.specs.declared.words.ControlWord.{ControlWord}
use Rattle.life_rules.specs.declared.words.ControlWord.TheVariants.{Idle, Busy, ReadyLoop, ReadyPool, Parked, Done}
use Rattle.life_rules.specs.declared.event.Name.{Name}
use Rattle.node_tree.specs.Tree.{is_child, parent_of}
use Rattle.life_rules.specs.Words.{is_open, is_idle, is_done, is_under_way, pending}
use Rattle.common_lemmas.specs.Sums.{one}
use Rattle.life_rules.specs.Views.{beside}
use Rattle.life_rules.specs.States.{State, size, is_live, control_at, stand}
use Rattle.common_lemmas.specs.Sums.{total}
use Rattle.table_rules.specs.Scenes.{Home, Empty, is_out, is_full, Scene}

-- a node that rests, ready in a context or parked
abbrev pub is_resting : ControlWord → Bool
is_resting Idle = false
is_resting (Busy children) = false
is_resting ReadyLoop = true
is_resting ReadyPool = true
is_resting Parked = true
is_resting Done = false

-- a node that waits for children
abbrev pub is_waiting : ControlWord → Bool
is_waiting word = nat_le 1 (pending word)

-- how many children of x are done
abbrev pub done_below : State → Name → ℕ
done_below s x =
    total (λ n. one (is_child s.tree x.node n) * one (is_done (control_at s (beside x n)))) (size s)

module _ {P E : Type 0} (s : Scene P E) where
  abbrev pub home_of : Name → Home P
  home_of x = s.home x.block x.node

  -- how often a hand has the slot of x's home: it owes x's start, holds x or its parent, or holds
  -- the finished root
  abbrev pub seats_of : Name → ℕ
  seats_of x =
      stand s.state (λ v. v.starts) x + stand s.state (λ v. v.holds) x
      + stand s.state (λ v. v.finished) x
      + option_map_or (λ p. stand s.state (λ v. v.holds) (beside x p))
      (parent_of s.state.tree x.node) 0

  -- what the children of x that its last await named count for together: those under way, those
  -- whose start is owed, and those that are done with a full home
  abbrev pub named_below : Name → ℕ
  named_below x =
      total (λ n.
      one (is_child s.state.tree x.node n)
      * (one (is_under_way (control_at s.state (beside x n)))
      + stand s.state (λ v. v.starts) (beside x n)
      + one (is_done (control_at s.state (beside x n)) && is_full (home_of (beside x n)))))
      (size s.state)

  pub record HomesStand : Type 0 where
    -- a home is out exactly where a hand has its slot
    pub out : (x : Name) → is_live s.state x ≡ true → is_out (home_of x) ≡ nat_le 1 (seats_of x)
    -- the homes of a block that isn't open are empty
    pub closed : (b n : ℕ) → is_open (s.state.block b).state ≡ false → s.home b n ≡ Empty
    -- a full home is of a node that has begun, and whose parent isn't done
    pub begun : (x : Name) → is_live s.state x ≡ true → is_full (home_of x) ≡ true →
        is_idle (control_at s.state x) ≡ false
    pub above : (x : Name) (p : ℕ) → is_live s.state x ≡ true → is_full (home_of x) ≡ true →
        parent_of s.state.tree x.node ≡ Some p → is_done (control_at s.state (beside x p)) ≡ false
    -- a node that waits or rests has a full home, and so has one whose report is owed
    pub waiting : (x : Name) →
        (is_waiting (control_at s.state x) || is_resting (control_at s.state x)) ≡ true →
        is_full (home_of x) ≡ true
    pub reported : (x : Name) → 1 ≤ stand s.state (λ v. v.reports) x → is_full (home_of x) ≡ true
    -- the children's homes of a node that rests are empty
    pub resting : (x : Name) (n : ℕ) → is_resting (control_at s.state x) ≡ true →
        is_child s.state.tree x.node n ≡ true → is_full (home_of (beside x n)) ≡ false
    -- of the children that a waiting node's last await named none is forgotten
    pub named : (x : Name) → is_waiting (control_at s.state x) ≡ true →
        named_below x ≡ s.past.named x
    -- of a node that has begun and waits for none, as many children are done as that named
    pub met : (x : Name) → is_idle (control_at s.state x) ≡ false →
        is_waiting (control_at s.state x) ≡ false → s.past.named x ≤ done_below s.state x
    -- no child has begun of a node whose last await named none
    pub asked : (x : Name) (n : ℕ) → is_child s.state.tree x.node n ≡ true →
        is_idle (control_at s.state (beside x n)) ≡ false → 1 ≤ s.past.named x
