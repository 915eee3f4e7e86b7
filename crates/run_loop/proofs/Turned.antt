-- Nodes that a turn passed over, and names that it left, one after the other.
use Rattle.std.proofs.Common.{◌≡◌, inl, inr, ℕ, ◌+◌, Bool, true, false, List, length, arith, refl, sym, ap, ◌∙◌, subst}
use Rattle.std.specs.Prelude.{◌≢◌, slice_get, is_some, Option, Some, None, IfSome}
use Rattle.std.proofs.lemmas.Bool.{both_ways, cases_lt}
use Rattle.std.proofs.lemmas.Option.{same_Some}
use Rattle.life_rules.specs.declared.event.Name.{Name}
use Rattle.life_rules.specs.declared.event.Resting.{Resting}
use Rattle.life_rules.specs.declared.event.Resting.TheVariants as rest
use Rattle.node_tree.specs.declared.context.Context.TheVariants.{Loop, Pool}
use Rattle.plan_shape.specs.Blueprint.{Blueprint}
use Rattle.table_words.specs.Layouts.{OfControl, index}
use Rattle.table_steps.specs.Views.{Board}
use Rattle.table_steps.specs.Seats.{Seated}
use Rattle.table_steps.specs.Steps.{control_index}
use Rattle.table_steps.specs.Takes.{rest_word}
use Rattle.home_items.specs.declared.entry.Entry.{Entry}
use Rattle.home_items.specs.declared.item.Item.{Item}
use Rattle.exec_recv.specs.Asides.{KeepsAside}
use Rattle.exec_recv.specs.Sites.{Does}
use Rattle.node_walks.specs.Serving.{IsUnready, ServesNode, TakesWord}
use Rattle.exec_recv.proofs.Since.{moved-before, moved-after, since-before, since-after}
use Rattle.run_loop.specs.Serves.{IsOpen}
use Rattle.run_loop.specs.Turns.{WasPassed, ArePassed, ArePassedBelow, TakesNothing, IsInner, WasLeft, IsLeft, AreLeft, WasTakenThere, WasMet, AreMet, AreMetBelow}

module _ (board : Board Blueprint) (helps : Bool) (block : ℕ) (m between m' : Seated Item Entry) where
  pub passed-before : (node : ℕ) → KeepsAside m between → WasPassed board between m' helps block node → WasPassed board m m' helps block node
  passed-before node aside passed =
      let i = index board.frame.layout (OfControl block node) in
      record {
        loop = since-before i (IsUnready Loop) m between m' aside passed.loop;
        pool = λ help. since-before i (IsUnready Pool) m between m' aside (passed.pool help);
      }

  pub passed-after : (node : ℕ) → WasPassed board m between helps block node → KeepsAside between m' → WasPassed board m m' helps block node
  passed-after node passed aside =
      let i = index board.frame.layout (OfControl block node) in
      record {
        loop = since-after i (IsUnready Loop) m between m' passed.loop aside;
        pool = λ help. since-after i (IsUnready Pool) m between m' (passed.pool help) aside;
      }

  -- one node more
  pub passed-more : (count : ℕ) → KeepsAside m between → KeepsAside between m' → ArePassed board m between helps block count →
      WasPassed board between m' helps block count → ArePassed board m m' helps block (count + 1)
  passed-more count first next all one node below inner =
      elim (cases_lt node count) [
        | inl less ↦ passed-after node (all node less inner) next
        | inr past ↦
            let is : count ≡ node = omega (arith, below, past) in
            subst (λ (n : ℕ). WasPassed board m m' helps block n) is (passed-before count first one)
      ]

  -- and one block more
  pub blocks-more : KeepsAside m between → KeepsAside between m' → ArePassedBelow board m between helps block →
      ArePassed board between m' helps block (length board.frame.tree) → ArePassedBelow board m m' helps (block + 1)
  blocks-more first next all one other below node within inner =
      elim (cases_lt other block) [
        | inl less ↦ later other node (all other less node within inner)
        | inr past ↦
            let is : block ≡ other = omega (arith, below, past) in
            subst (λ (k : ℕ). WasPassed board m m' helps k node) is (passed-before node first (one node within inner))
      ]
    where
      later : (other node : ℕ) → WasPassed board m between helps other node → WasPassed board m m' helps other node
      later other node passed =
          let i = index board.frame.layout (OfControl other node) in
          record {
            loop = since-after i (IsUnready Loop) m between m' passed.loop next;
            pool = λ help. since-after i (IsUnready Pool) m between m' (passed.pool help) next;
          }

-- a node that was taken at its place of the table
pub taken-there : (does : Does) (board : Board Blueprint) (helps : Bool) (from : Resting) (answer : Option Name) (block node : ℕ)
    (m m' : Seated Item Entry) → is_some answer ≡ true → IsOpen helps from →
    IfSome answer (λ name. ServesNode does board from name m m') →
    IfSome answer (λ name. (name.block ≡ block) × (name.node ≡ node)) → WasTakenThere board m m' helps block node
taken-there does board helps from (Some name) block node m m' some may_be served there =
    record { name = name; there = there; from = from; may_be = may_be; taken = served.taken }
taken-there does board helps from None block node m m' some may_be served there = absurd (both_ways false refl some)

-- what is met is so still, seen from earlier and later
module _ (board : Board Blueprint) (helps : Bool) (m between m' : Seated Item Entry) where
  there-before : (block node : ℕ) → KeepsAside m between → WasTakenThere board between m' helps block node →
      WasTakenThere board m m' helps block node
  there-before block node aside one =
      record {
        name = one.name;
        there = one.there;
        from = one.from;
        may_be = one.may_be;
        taken = moved-before (control_index board one.name) (TakesWord one.from one.name) m between m' aside one.taken;
      }

  there-after : (block node : ℕ) → WasTakenThere board m between helps block node → KeepsAside between m' →
      WasTakenThere board m m' helps block node
  there-after block node one aside =
      record {
        name = one.name;
        there = one.there;
        from = one.from;
        may_be = one.may_be;
        taken = moved-after (control_index board one.name) (TakesWord one.from one.name) m between m' one.taken aside;
      }

  pub met-before : (block node : ℕ) → KeepsAside m between → WasMet board between m' helps block node → WasMet board m m' helps block node
  met-before block node aside (inl taken) = inl (there-before block node aside taken)
  met-before block node aside (inr passed) = inr (passed-before board helps block m between m' node aside passed)

  met-after : (block node : ℕ) → WasMet board m between helps block node → KeepsAside between m' → WasMet board m m' helps block node
  met-after block node (inl taken) aside = inl (there-after block node taken aside)
  met-after block node (inr passed) aside = inr (passed-after board helps block m between m' node passed aside)

  -- one node more
  pub node-met : (block count : ℕ) → KeepsAside m between → KeepsAside between m' → AreMet board m between helps block count →
      WasMet board between m' helps block count → AreMet board m m' helps block (count + 1)
  node-met block count first next all one node below inner =
      elim (cases_lt node count) [
        | inl less ↦ met-after block node (all node less inner) next
        | inr past ↦
            let is : count ≡ node = omega (arith, below, past) in
            subst (λ (n : ℕ). WasMet board m m' helps block n) is (met-before block count first one)
      ]

  -- and one block more
  pub block-met : (block : ℕ) → KeepsAside m between → KeepsAside between m' → AreMetBelow board m between helps block →
      AreMet board between m' helps block (length board.frame.tree) → AreMetBelow board m m' helps (block + 1)
  block-met block first next all one other below node within inner =
      elim (cases_lt other block) [
        | inl less ↦ met-after other node (all other less node within inner) next
        | inr past ↦
            let is : block ≡ other = omega (arith, below, past) in
            subst (λ (k : ℕ). WasMet board m m' helps k node) is (met-before block node first (one node within inner))
      ]

-- a scan that comes after something else
pub nothing-later : (board : Board Blueprint) (helps : Bool) (m between m' : Seated Item Entry) → KeepsAside m between →
    TakesNothing board between m' helps → TakesNothing board m m' helps
nothing-later board helps m between m' aside all block within node below inner =
    passed-before board helps block m between m' node aside (all block within node below inner)

module _ (board : Board Blueprint) (helps : Bool) (m between m' : Seated Item Entry) where
  pub left-before : (name : Name) → KeepsAside m between → WasLeft board between m' helps name → WasLeft board m m' helps name
  left-before name aside left =
      let i = control_index board name in
      record {
        loop = since-before i (λ word. word ≢ rest_word name rest.Loop) m between m' aside left.loop;
        pool = λ help. since-before i (λ word. word ≢ rest_word name rest.Pool) m between m' aside (left.pool help);
      }

  pub left-after : (name : Name) → WasLeft board m between helps name → KeepsAside between m' → WasLeft board m m' helps name
  left-after name left aside =
      let i = control_index board name in
      record {
        loop = since-after i (λ word. word ≢ rest_word name rest.Loop) m between m' left.loop aside;
        pool = λ help. since-after i (λ word. word ≢ rest_word name rest.Pool) m between m' (left.pool help) aside;
      }

  -- one name more
  pub left-more : (names : List Name) (count : ℕ) (name : Name) → slice_get names count ≡ Some name → KeepsAside m between →
      KeepsAside between m' → AreLeft board m between helps names count →
      IsLeft board between m' helps name → AreLeft board m m' helps names (count + 1)
  left-more names count name at first next all one k other below at_k inner =
      elim (cases_lt k count) [
        | inl less ↦ left-after other (all k other less at_k inner) next
        | inr past ↦
            let is : count ≡ k = omega (arith, below, past) in
            let same_name : name ≡ other = same_Some name other (sym at ∙ ap (λ i. slice_get names i) is ∙ at_k) in
            subst (λ (x : Name). WasLeft board m m' helps x) same_name
            (left-before name first (one (subst (λ (x : Name). IsInner board x) (sym same_name) inner)))
      ]

-- all names that were left, and something else after them
pub left-later : (board : Board Blueprint) (helps : Bool) (m between m' : Seated Item Entry) (names : List Name) →
    AreLeft board m between helps names (length names) → KeepsAside between m' → AreLeft board m m' helps names (length names)
left-later board helps m between m' names all next k name below at inner =
    left-after board helps m between m' name (all k name below at inner) next
