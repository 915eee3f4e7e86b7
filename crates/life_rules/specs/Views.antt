-- What one hand knows of its own doings. A hand is the token by which one thread works on the
-- words.
use Rattle.std.specs.Prelude.{ℕ, ◌+◌, ◌-◌, Bool, true, false, ◌&&◌, ◌||◌, not, ◌==◌, if◌then◌else◌, List, Option, None, is_some}
use Rattle.std.specs.List.{list_any}
use Rattle.common_lemmas.specs.Sums.{one}
use Rattle.life_rules.specs.declared.event.Name.{Name}
use Rattle.life_rules.specs.declared.event.SourceRef.{SourceRef}
use Rattle.life_rules.specs.declared.event.SourceRef.TheVariants.{Scope, Node}

-- both are the same place at the same generation
abbrev pub same : Name → Name → Bool
same x y = x.block == y.block && (x.generation == y.generation && x.node == y.node)

abbrev pub same_source : SourceRef → SourceRef → Bool
same_source Scope Scope = true
same_source Scope (Node y) = false
same_source (Node x) Scope = false
same_source (Node x) (Node y) = same x y

-- the name of a node of the same operation
abbrev pub beside : Name → ℕ → Name
beside x n = record { block = x.block; generation = x.generation; node = n }

-- The first five say how often the view has a name so.
pub record View : Type 0 where
  -- the nodes that it holds
  pub holds : Name → ℕ
  -- the nodes that it owes a start
  pub starts : Name → ℕ
  -- the nodes whose report to their parent it owes
  pub reports : Name → ℕ
  -- the finished roots that it holds
  pub finished : Name → ℕ
  -- the places whose callback it runs
  pub runs : Name → ℕ
  -- the sources whose places it scans, each with the index from which the scan goes on
  pub scan : SourceRef → Option ℕ
  -- the places that it armed and hasn't looked after yet
  pub unlooked : Name → Bool
  -- the places after whose arming it has seen the request
  pub seen_after : Name → Bool
  -- the sources on which it has seen the request
  pub seen : SourceRef → Bool
  -- its associations with the scope: made, in the making, and being refused
  pub made : ℕ
  pub making : ℕ
  pub refused : ℕ
  -- whether it made the scope's request
  pub requested : Bool

-- a hand that has done nothing
abbrev pub blank : View
blank =
    record {
      holds = λ _. 0;
      starts = λ _. 0;
      reports = λ _. 0;
      finished = λ _. 0;
      runs = λ _. 0;
      scan = λ _. None;
      unlooked = λ _. false;
      seen_after = λ _. false;
      seen = λ _. false;
      made = 0;
      making = 0;
      refused = 0;
      requested = false;
    }

-- once more x
abbrev pub gain : Name → (Name → ℕ) → Name → ℕ
gain x f y = f y + one (same x y)

-- once less x
abbrev pub lose : Name → (Name → ℕ) → Name → ℕ
lose x f y = f y - one (same x y)

-- once more each of these nodes of x's operation
abbrev pub gain_each : Name → List ℕ → (Name → ℕ) → Name → ℕ
gain_each x nodes f y = f y + one (list_any (λ n. same (beside x n) y) nodes)

-- f, but b at x
abbrev pub mark : Name → Bool → (Name → Bool) → Name → Bool
mark x b f y = if same x y then b else f y

-- f, and at this source also where b
abbrev pub note : SourceRef → Bool → (SourceRef → Bool) → SourceRef → Bool
note source b f t = f t || (same_source source t && b)

-- the scan of this source stands there, the others as before
abbrev pub scan_at : SourceRef → Option ℕ → (SourceRef → Option ℕ) → SourceRef → Option ℕ
scan_at source i f t = if same_source source t then i else f t

abbrev pub is_scanning : View → SourceRef → Bool
is_scanning v source = is_some (v.scan source)

abbrev pub is_in_block : ℕ → SourceRef → Bool
is_in_block b Scope = false
is_in_block b (Node x) = x.block == b

-- the view without what it noted of a block that is given back
abbrev pub forget : ℕ → View → View
forget b v =
    record v {
      unlooked = λ x. v.unlooked x && not (x.block == b);
      seen_after = λ x. v.seen_after x && not (x.block == b);
      seen = λ t. v.seen t && not (is_in_block b t);
    }
