-- A block is claimed, and a node waits for its children.
use Rattle.std.proofs.Common.{◌≡◌, inl, inr, ℕ, zero, suc, ◌≤◌, Bool, true, false, ◌&&◌, ◌||◌, ◌==◌, List, [], ◌∷◌, length, arith, refl, sym, ap, ◌∙◌, subst}
use Rattle.std.specs.Prelude.{Option, Some, None}
use Rattle.std.specs.List.{list_any, list_all}
use Rattle.std.proofs.lemmas.Bool.{and_from, or_right, cond-true, cond-false, eq-eqb}
use Rattle.common_lemmas.proofs.Bool.{either}
use Rattle.life_rules.specs.declared.event.Name.{Name}
use Rattle.common_lemmas.specs.Lists.{are_different}
use Rattle.node_tree.specs.Tree.{is_child}
use Rattle.life_rules.specs.Views.{beside}
use Rattle.atomic_table.specs.declared.shared.Seat.{Seat}
use Rattle.table_rules.specs.declared.view.View.{View}
use Rattle.table_rules.specs.declared.view.Reported.{Reported}
use Rattle.table_rules.specs.Named.{find_by}
use Rattle.table_steps.specs.declared.block.Block.{Block}
use Rattle.table_steps.specs.Views.{Board, aimed}
use Rattle.table_steps.specs.Awaits.{is_named, AwaitsAt, CanAwait}
use Rattle.table_steps.specs.Claims.{Missed}
use Rattle.table_steps.specs.Seats.{Seated}
use Rattle.table_steps.specs.Readings.{IsBegunAs, HoldsAbove}
use Rattle.table_steps.specs.Slots.{knows_idle}
use Rattle.op_slot.specs.Searches.{IsMissedBelow, IsFound}
use Rattle.op_slot.specs.Tends.{AreApart, IsCalm, KeepsOwed, OwesReport, Owes}
use Rattle.op_slot.proofs.Places.{kids-apart}
use Rattle.op_slot.proofs.Tending.{read-tends, read-calm}
use Rattle.op_slot.proofs.Leaving.{tends-awaits, awaited-owes}
use Rattle.table_use.specs.declared.cargo.Item.{Item}
use Rattle.table_use.specs.declared.cargo.Entry.{Entry}
use Rattle.table_use.specs.declared.cargo.Env.{Env}
use Rattle.table_use.specs.declared.cargo.Item.TheVariants.{Going}
use Rattle.table_use.specs.Starts.{above_of, least_at}
use Rattle.table_use.specs.Uses.{use_tree, IsNode, OwesNode, OwesKid, HoldsNode, KeepsPlays, KeepsReports}
use Rattle.table_use.specs.contracts.cargo.ItemCargo.TheImpl.{ghosts}
use Rattle.table_use.proofs.Nodes.{node-places, kid-above, kid-held, kid-here, kid-of, path-below}

-- calls that leave what the hand runs and scans do so together
pub plays-on : (m m1 m2 : Seated Item Entry) → KeepsPlays m m1 → KeepsPlays m1 m2 → KeepsPlays m m2
plays-on m m1 m2 first second = record { runs = second.runs ∙ first.runs; scans = second.scans ∙ first.scans }

-- a search for a free block is one
module _ (board : Board ℕ) where
  missed-plays : (b : ℕ) (old new : Seat (Option Item) (View Item Entry)) → Missed board b old new → KeepsPlays old.me new.me
  missed-plays b old new missed =
      elim missed [
        | inl was ↦ record { runs = ap (λ (z : Seated Item Entry). z.0.runs) was.me_is; scans = ap (λ (z : Seated Item Entry). z.0.scans) was.me_is }
        | inr was ↦ record { runs = ap (λ (z : Seated Item Entry). z.0.runs) was.me_is; scans = ap (λ (z : Seated Item Entry). z.0.scans) was.me_is }
      ]

  pub searched-plays : (count : ℕ) (old new : Seat (Option Item) (View Item Entry)) → IsMissedBelow board count old new → KeepsPlays old.me new.me
  searched-plays zero old new missed =
      record { runs = ap (λ (z : Seated Item Entry). z.0.runs) missed; scans = ap (λ (z : Seated Item Entry). z.0.scans) missed }
  searched-plays (suc b) old new missed =
      plays-on old.me missed.0.me new.me (searched-plays b old missed.0 missed.1) (missed-plays b missed.0 new missed.2)

  pub found-plays : (b : Block) (old new : Seat (Option Item) (View Item Entry)) → IsFound board b old new → KeepsPlays old.me new.me
  found-plays b old new found =
      plays-on old.me found.middle.me new.me (searched-plays b.index old found.middle found.missed)
      (record {
        runs = ap (λ (z : Seated Item Entry). z.0.runs) found.claimed.me_is;
        scans = ap (λ (z : Seated Item Entry). z.0.scans) found.claimed.me_is;
      })

  missed-number : (b : ℕ) (old new : Seat (Option Item) (View Item Entry)) → Missed board b old new → new.me.0.number ≡ old.me.0.number
  missed-number b old new missed =
      elim missed [
        | inl was ↦ ap (λ (z : Seated Item Entry). z.0.number) was.me_is
        | inr was ↦ ap (λ (z : Seated Item Entry). z.0.number) was.me_is
      ]

  pub searched-number : (count : ℕ) (old new : Seat (Option Item) (View Item Entry)) → IsMissedBelow board count old new → new.me.0.number ≡ old.me.0.number
  searched-number zero old new missed = ap (λ (z : Seated Item Entry). z.0.number) missed
  searched-number (suc b) old new missed = missed-number b missed.0 new missed.2 ∙ searched-number b old missed.0 missed.1

  pub found-number : (b : Block) (old new : Seat (Option Item) (View Item Entry)) → IsFound board b old new → new.me.0.number ≡ old.me.0.number
  found-number b old new found = ap (λ (z : Seated Item Entry). z.0.number) found.claimed.me_is ∙ searched-number b.index old found.middle found.missed

-- a root that was claimed is owed
pub claimed-owes : (board : Board ℕ) (x : Name) (env : Env) (m : Seated Item Entry) → x.node ≡ 3 → env.node ≡ 3 → env.step ≡ board.frame.over.value →
    Owes board.frame x (record { name = x; above = []; lot = [] }) None m → OwesNode board.frame x env m
claimed-owes board x env m three node step owes =
    record {
      is = record { node = node ∙ sym three; step = step };
      owes = subst (λ (s : List Entry). Owes board.frame x (record { name = x; above = s; lot = [] }) None m) (sym (ap (above_of env) three)) owes;
    }

least-low : (node : ℕ) → least_at node ≤ 1
least-low node =
    either (node == 3) (λ t. let is = cond-true {A = ℕ} (node == 3) 1 0 t in omega (arith, is))
    (λ f. let is = cond-false {A = ℕ} (node == 3) 1 0 f in omega (arith, is))

-- a child's parent is held
pub first-held : (board : Board ℕ) (x : Name) (is : IsNode board x) (env : Env) (m : Seated Item Entry) → HoldsNode board.frame x env m →
    (y : Name) (n : ℕ) → is_child use_tree x.node n ≡ true → y ≡ beside x n → HoldsAbove board.frame.tree m.0 y
first-held board x is env m holds y n child name =
    subst (λ (z : Name). HoldsAbove board.frame.tree m.0 z) (sym name)
    (kid-held board x is n (kid-here board x is n child) holds.held (Some (Going env)) (λ _. None) m holds.tends)

-- a node that the hand holds waits for children that it has read so
module _ {board : Board ℕ} {x : Name} {env : Env} {m : Seated Item Entry} (is : IsNode board x)
    (holds : HoldsNode board.frame x env m) (nodes : List ℕ) where
  can-wait : IsCalm m → 1 ≤ length nodes → are_different nodes ≡ true →
      list_all (λ n. is_child board.frame.tree x.node n && knows_idle holds.held n) nodes ≡ true →
      CanAwait ghosts board.frame m x nodes
  can-wait calm some different idle =
      tends-awaits ghosts board.frame x m holds.held (λ _. None) calm (λ n child. refl) (Going env) nodes holds.tends
      (record { start = sym holds.start; fit = holds.is.node; goes_on = λ e. e }) (let low = least-low env.node in omega (arith, low, some)) some different idle

  waits-owes : (m1 : Seated Item Entry) (i was left n : ℕ) → AwaitsAt ghosts (aimed board.frame x) nodes i was left m m1 → is_child use_tree x.node n ≡ true →
      is_named nodes n ≡ true → OwesKid board.frame x n env m1
  waits-owes m1 i was left n did child named =
      record {
        is = record { node = refl; step = holds.is.step };
        owes = subst (λ (s : List Entry). Owes board.frame (beside x n) (record { name = beside x n; above = s; lot = [] }) None m1)
            (path-below env x.node n holds.is.node child)
            (awaited-owes board.frame x m m1 i was left ghosts nodes did holds.held (Going env) (λ _. None) n (node-places board x is) holds.tends
            (kid-here board x is n child) named);
      }

-- a child of a node that the hand holds was read as not begun
pub record ReadIdle (board : Board ℕ) (x : Name) (env : Env) (n : ℕ) (m m1 : Seated Item Entry) : Type 0 where
  pub is : IsNode board x
  pub child : is_child use_tree x.node n ≡ true
  pub holds : HoldsNode board.frame x env m
  pub calm : IsCalm m
  pub name : Name
  pub name_is : name ≡ beside x n
  pub answer : Bool
  pub no : answer ≡ false
  pub read : IsBegunAs board.frame name answer m m1

module _ {board : Board ℕ} {x : Name} {env : Env} {n : ℕ} {m m1 : Seated Item Entry}
    (idle : ReadIdle board x env n m m1) where
  open idle use {is, child, holds, calm, name, name_is, answer, no, read}

  here : is_child board.frame.tree x.node n ≡ true
  here = kid-here board x is n child

  kid-read : IsBegunAs board.frame (beside x n) false m m1
  kid-read = subst (λ z. IsBegunAs board.frame z false m m1) name_is (subst (λ b. IsBegunAs board.frame name b m m1) no read)

  -- the hand notes it
  abbrev noted-idle : HoldsNode board.frame x env m1
  noted-idle = record {
    is = holds.is;
    held = record (holds.held) { idle = n ∷ holds.held.idle };
    start = holds.start;
    tends = read-tends board.frame x holds.held (Some (Going env)) (λ _. None) m m1 (beside x n) (kid-above board x is n here) kid-read holds.tends;
  }

  noted-calm : IsCalm m1
  noted-calm = read-calm board.frame x holds.held (Some (Going env)) (λ _. None) m m1 (beside x n) kid-read calm

  -- and waits for this child
  own : (n == n) ≡ true
  own = eq-eqb n n refl

  pub one-waits : CanAwait ghosts board.frame m1 x (n ∷ [])
  one-waits =
      can-wait is noted-idle (n ∷ []) noted-calm (omega arith) refl
      (and_from _ _
      (and_from _ _ here (or_right (holds.held.named == 0) _ (ap (λ b. b || list_any (λ q. q == n) holds.held.idle) own))) refl)

  pub one-owes : (m2 : Seated Item Entry) (i was left : ℕ) → AwaitsAt ghosts (aimed board.frame x) (n ∷ []) i was left m1 m2 → OwesKid board.frame x n env m2
  one-owes m2 i was left did = waits-owes is noted-idle (n ∷ []) m2 i was left n did child (ap (λ b. b || is_named [] n) own)

-- the root's second child can be read after the first
pub second-held : {board : Board ℕ} {x : Name} {env : Env} {m m1 : Seated Item Entry} (leaf : ReadIdle board x env 0 m m1) → x.node ≡ 3 →
    (right : Name) → right ≡ beside x 2 → HoldsAbove board.frame.tree m1.0 right
second-held {board = board} {x = x} {env = env} {m1 = m1} leaf three right right_is =
    subst (λ (w : Name). HoldsAbove board.frame.tree m1.0 w) (sym right_is)
    (kid-held board x leaf.is 2 (kid-of board x leaf.is 3 2 three refl) (noted-idle leaf).held (Some (Going env)) (λ _. None) m1 (noted-idle leaf).tends)

-- the branch of a root was read so too, after the leaf
pub record ReadBoth (board : Board ℕ) (x : Name) (env : Env) (m m1 m2 : Seated Item Entry) : Type 0 where
  pub three : x.node ≡ 3
  pub leaf : ReadIdle board x env 0 m m1
  pub name : Name
  pub name_is : name ≡ beside x 2
  pub answer : Bool
  pub no : answer ≡ false
  pub read : IsBegunAs board.frame name answer m1 m2

-- the root waits for both
module _ {board : Board ℕ} {x : Name} {env : Env} {m m1 m2 : Seated Item Entry}
    (both : ReadBoth board x env m m1 m2) where
  open both use {three, leaf, name, name_is, answer, no, read}

  abbrev branch : ReadIdle board x env 2 m1 m2
  branch = record {
    is = leaf.is;
    child = ap (λ p. is_child use_tree p 2) three;
    holds = noted-idle leaf;
    calm = noted-calm leaf;
    name = name;
    name_is = name_is;
    answer = answer;
    no = no;
    read = read;
  }

  known : ((noted-idle branch).held.named == 0 || true) ≡ true
  known = or_right ((noted-idle branch).held.named == 0) true refl

  pub root-waits : CanAwait ghosts board.frame m2 x (0 ∷ 2 ∷ [])
  root-waits =
      can-wait leaf.is (noted-idle branch) (0 ∷ 2 ∷ []) (noted-calm branch) (omega arith) refl
      (and_from _ _ (and_from _ _ (here leaf) known) (and_from _ _ (and_from _ _ (here branch) known) refl))

  module _ (m3 : Seated Item Entry) (i was busy : ℕ) (did : AwaitsAt ghosts (aimed board.frame x) (0 ∷ 2 ∷ []) i was busy m2 m3) where
    pub leaf-owes : OwesKid board.frame x 0 env m3
    leaf-owes = waits-owes leaf.is (noted-idle branch) (0 ∷ 2 ∷ []) m3 i was busy 0 did leaf.child refl

    pub branch-owed : OwesKid board.frame x 2 env m3
    branch-owed = waits-owes leaf.is (noted-idle branch) (0 ∷ 2 ∷ []) m3 i was busy 2 did (branch.child) refl

-- the branch is owed while the leaf is taken to its end
pub branch-stays : (board : Board ℕ) (x : Name) (is : IsNode board x) → x.node ≡ 3 → (env : Env) (leaf branch : Name) → leaf ≡ beside x 0 → branch ≡ beside x 2 →
    (m m1 m2 : Seated Item Entry) → KeepsOwed board.frame leaf m m1 → KeepsOwed board.frame leaf m1 m2 → OwesKid board.frame x 2 env m →
    OwesNode board.frame branch (record env { node = 2 }) m2
branch-stays board x is three env leaf branch leaf_is branch_is m m1 m2 first second owes =
    let apart : AreApart board.frame leaf (beside x 2) =
    subst (λ (z : Name). AreApart board.frame z (beside x 2)) (sym leaf_is)
    (kids-apart board.frame x (node-places board x is) 0 2 (kid-of board x is 3 0 three refl) (kid-of board x is 3 2 three refl) refl) in
    subst (λ (z : Name). OwesNode board.frame z (record env { node = 2 }) m2) (sym branch_is)
    (record { is = owes.is; owes = second (beside x 2) _ None apart (first (beside x 2) _ None apart owes.owes) })

-- a child is owed by its own name
pub owed-kid : (board : Board ℕ) (x : Name) (n : ℕ) (env : Env) (m : Seated Item Entry) (y : Name) → y ≡ beside x n → OwesKid board.frame x n env m →
    OwesNode board.frame y (record env { node = n }) m
owed-kid board x n env m y name owes = subst (λ (z : Name). OwesNode board.frame z (record env { node = n }) m) (sym name) owes

-- a report is owed as long as the hand keeps what it owes
pub still-owes : (m m1 : Seated Item Entry) (x : Name) (entry : Reported Item Entry) → KeepsReports m m1 → OwesReport x entry m → OwesReport x entry m1
still-owes m m1 x entry keeps owes = ap (λ (l : List (Reported Item Entry)). find_by (λ (e : Reported Item Entry). e.name) l x) keeps ∙ owes
