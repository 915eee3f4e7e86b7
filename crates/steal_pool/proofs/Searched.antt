-- What a worker read of the table's nodes, and is known later.
use Rattle.std.proofs.Common.{◌≡◌, inl, inr, ℕ, ◌+◌, ◌-◌, ◌≤◌, Bool, true, length, arith, sym, ◌∙◌, subst}
use Rattle.std.proofs.lemmas.Bool.{both_ways, cases_lt, eq-eqb}
use Rattle.std.specs.Prelude.{Option, Some, None, IfSome, IfNone}
use Rattle.atomic_table.specs.declared.shared.Seat.{Seat}
use Rattle.life_rules.specs.declared.event.Name.{Name}
use Rattle.life_rules.specs.declared.event.Resting.TheVariants as rest
use Rattle.life_rules.specs.declared.scope.ScopeWord.{ScopeWord}
use Rattle.node_tree.specs.declared.context.Context.TheVariants.{Pool}
use Rattle.node_tree.specs.Tree.{is_root}
use Rattle.plan_shape.specs.Blueprint.{Blueprint}
use Rattle.table_words.specs.Layouts.{OfControl, index}
use Rattle.table_rules.specs.declared.view.View.{View}
use Rattle.table_steps.specs.Views.{Board, IsSameHand}
use Rattle.table_steps.specs.Seats.{Seated}
use Rattle.count_scope.specs.Looks.{Reads}
use Rattle.home_items.specs.declared.entry.Entry.{Entry}
use Rattle.home_items.specs.declared.item.Item.{Item}
use Rattle.exec_recv.specs.Asides.{KeepsAside}
use Rattle.exec_recv.specs.Sites.{Does}
use Rattle.exec_recv.proofs.Asiding.{aside-here, aside-on}
use Rattle.node_walks.specs.Since.{OnlyLooks}
use Rattle.node_walks.specs.Serving.{IsUnready, ServesNode, WasUnready}
use Rattle.exec_recv.proofs.Since.{since-before, since-after}
use Rattle.node_walks.proofs.Read.{looked-only, looked-since, looks-on}
use Rattle.node_walks.proofs.Took.{serves-before}
use Rattle.steal_pool.specs.declared.working.Worked.{Worked}
use Rattle.steal_pool.specs.declared.working.Worked.TheVariants.{Took, Idle}
use Rattle.steal_pool.specs.Works.{AreIdle, AreIdleBelow, FindsNode, IsIdle, FindsNone, SaysJoined, HasEnded, Works}

pub same-on : (old between new : Seat (Option Item) (View Item Entry)) → IsSameHand old between → IsSameHand between new → IsSameHand old new
same-on old between new first next = (next.0 ∙ first.0, next.1 ∙ first.1)

module _ (board : Board Blueprint) (m between m' : Seated Item Entry) where
  -- the same, seen from earlier and later
  pub unready-before : (block node : ℕ) → KeepsAside m between → WasUnready board between m' Pool block node → WasUnready board m m' Pool block node
  unready-before block node aside read =
      since-before (index board.frame.layout (OfControl block node)) (IsUnready Pool) m between m' aside read

  unready-after : (block node : ℕ) → WasUnready board m between Pool block node → KeepsAside between m' → WasUnready board m m' Pool block node
  unready-after block node read aside =
      since-after (index board.frame.layout (OfControl block node)) (IsUnready Pool) m between m' read aside

  pub idle-before : KeepsAside m between → IsIdle board between m' → IsIdle board m m'
  idle-before aside idle block within node below inner = unready-before block node aside (idle block within node below inner)

  pub idle-after : IsIdle board m between → KeepsAside between m' → IsIdle board m m'
  idle-after idle aside block within node below inner = unready-after block node (idle block within node below inner) aside

  -- one node more
  pub nodes-more : (block count : ℕ) → KeepsAside m between → KeepsAside between m' → AreIdle board m between block count →
      WasUnready board between m' Pool block count → AreIdle board m m' block (count + 1)
  nodes-more block count first next all one node below inner =
      elim (cases_lt node count) [
        | inl less ↦ unready-after block node (all node less inner) next
        | inr past ↦
            let is : count ≡ node = omega (arith, below, past) in
            subst (λ (n : ℕ). WasUnready board m m' Pool block n) is (unready-before block count first one)
      ]

  -- and one block more
  pub blocks-more : (block : ℕ) → KeepsAside m between → KeepsAside between m' → AreIdleBelow board m between block →
      AreIdle board between m' block (length board.frame.tree) → AreIdleBelow board m m' (block + 1)
  blocks-more block first next all one other below node within inner =
      elim (cases_lt other block) [
        | inl less ↦ unready-after other node (all other less node within inner) next
        | inr past ↦
            let is : block ≡ other = omega (arith, below, past) in
            subst (λ (k : ℕ). WasUnready board m m' Pool k node) is (unready-before block node first (one node within inner))
      ]

  -- what one look answered, after another
  pub served-before : (does : Does) (answer : Option Name) → KeepsAside m between →
      IfSome answer (λ name. ServesNode does board rest.Pool name between m') → IfSome answer (λ name. ServesNode does board rest.Pool name m m')
  served-before does (Some name) aside one = serves-before does board rest.Pool name m between m' aside one
  served-before does None aside one = tt

  pub finds-before : (block node : ℕ) (found : Bool) (answer : Option Name) → KeepsAside m between →
      IfNone answer (WasUnready board between m' Pool block node) → IfNone answer (FindsNode board m m' block node found found)
  finds-before block node found (Some name) aside read = tt
  finds-before block node found None aside read = λ not. (not, unready-before block node aside read)

  -- and that it answered none after looks alone
  pub looks-before : (answer : Option Name) → OnlyLooks m between → IfNone answer (OnlyLooks between m') → IfNone answer (OnlyLooks m m')
  looks-before (Some name) first next = tt
  looks-before None first next = looks-on m between m' first next

  -- what a worker did, after looks
  pub works-before : (does : Does) (worked : Worked) → OnlyLooks m between → Works does board worked between m' → Works does board worked m m'
  works-before does (Took name) looks one = serves-before does board rest.Pool name m between m' looks.aside one
  works-before does Idle looks none = record { idle = idle-before looks.aside none.idle; looks = looks-on m between m' looks none.looks }

  pub ended-before : KeepsAside m between → HasEnded board between m' → HasEnded board m m'
  ended-before aside ended =
      record { before = ended.before; kept = aside-on m between ended.before aside ended.kept; last = ended.last; joined = ended.joined }

-- all nodes but the last are all but the root
pub nodes-all : (board : Board Blueprint) (block count : ℕ) (m m' : Seated Item Entry) → length board.frame.tree - 1 ≤ count →
    AreIdle board m m' block count → AreIdle board m m' block (length board.frame.tree)
nodes-all board block count m m' enough all node below inner =
    elim (cases_lt node count) [
      | inl less ↦ all node less inner
      | inr past ↦
          let last : node + 1 ≡ length board.frame.tree = omega (arith, below, past, enough) in
          absurd (both_ways (is_root board.frame.tree node) inner (eq-eqb (node + 1) (length board.frame.tree) last))
    ]

-- a look at the scope after a look at all nodes
module _ (board : Board Blueprint) (joined : Bool) (m between m' : Seated Item Entry) (read : Reads (λ (w : ScopeWord). w.joined) joined between m') where
  pub scope-looks : OnlyLooks between m'
  scope-looks = looked-only 0 read.word between m' read.me_is

  pub then-ended : FindsNone board m between → joined ≡ true → HasEnded board m m'
  then-ended none is =
      record {
        before = m;
        kept = aside-here m;
        last = record {
          idle = idle-after board m between m' none.idle scope-looks.aside;
          looks = looks-on m between m' none.looks scope-looks;
        };
        joined = since-before 0 SaysJoined m between m' none.looks.aside
            (looked-since 0 read.word between m' read.me_is SaysJoined (sym read.answer_is ∙ is));
      }
