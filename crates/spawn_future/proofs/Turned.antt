-- What a turn has served so far.
use Rattle.std.proofs.Common.{◌≡◌, ℕ, ◌+◌, ◌<◌, Bool, false, List, [], ◌∷◌, ◌++◌, length, inl, inr, refl, sym, ap, ◌∙◌, subst, arith}
use Rattle.std.specs.Prelude.{Option, Some, None, slice_get}
use Rattle.std.proofs.lemmas.Bool.{cases_eq, cond-true, cond-false}
use Rattle.std.proofs.lemmas.List.{length-append}
use Rattle.std.proofs.lemmas.Option.{slice_get_within}
use Rattle.common_lemmas.proofs.Bool.{either}
use Rattle.atomic_table.specs.declared.shared.Seat.{Seat}
use Rattle.life_rules.specs.declared.event.Name.{Name}
use Rattle.life_rules.specs.Words.{is_parked}
use Rattle.plan_rules.specs.declared.node.Node.{Node}
use Rattle.plan_rules.specs.declared.node.Node.TheVariants.{Ahead}
use Rattle.plan_shape.specs.Blueprint.{Blueprint}
use Rattle.plan_kinds.proofs.Trees.{trees-show}
use Rattle.table_rules.specs.declared.view.View.{View}
use Rattle.table_words.specs.Controls.{control_read}
use Rattle.table_words.specs.Layouts.{OfControl, index}
use Rattle.table_words.specs.Stamps.{stamp_of}
use Rattle.table_steps.specs.Looks.{IsReadAs}
use Rattle.table_steps.specs.Views.{Board, IsPlaceIn}
use Rattle.table_steps.specs.Seats.{Seated}
use Rattle.home_items.specs.declared.entry.Entry.{Entry}
use Rattle.home_items.specs.declared.item.Item.{Item}
use Rattle.exec_recv.specs.Asides.{KeepsAside}
use Rattle.exec_recv.specs.Over.{IsOver}
use Rattle.exec_recv.specs.Sites.{plan_at}
use Rattle.node_walks.specs.Since.{OnlyLooks}
use Rattle.exec_recv.proofs.Since.{since-after, since-before}
use Rattle.node_walks.proofs.Read.{looked-only, looked-since, looks-here, looks-on}
use Rattle.serve_ahead.specs.declared.taking.AheadAt.{AheadAt}
use Rattle.serve_ahead.specs.Takes.{IsAheadIn}
use Rattle.spawn_future.specs.declared.future.Future.{Future}
use Rattle.spawn_future.specs.Counts.{BeginsAndEnds}
use Rattle.spawn_future.specs.Turns.{HasAhead, IsAheadOf, WasUnparked, IsUnparked, AreUnparked, PassesPlace, ServesEach, ServesPlace, Turns}
use Rattle.spawn_future.proofs.Counted.{counts-same, counts-on}

no-name : {A : Type 0} (e : A) → None ≡ Some e → ⊥
no-name e is = cc

same-name : (a b : Name) → Some a ≡ Some b → a ≡ b
same-name a b e = cc

pub same-node : (a b : Node) → Some a ≡ Some b → a ≡ b
same-node a b e = cc

-- an `ahead` of the plan has a place in each block
pub node-within : (board : Board Blueprint) (node : ℕ) → IsOver board (plan_at board) → HasAhead (plan_at board) node → node < board.frame.layout.nodes
node-within board node over has =
    let top = plan_at board in
    let size : length board.frame.tree ≡ length top.nodes + 1 = ap length over.tree ∙ (trees-show top over.is_plan).size in
    let within = slice_get_within top.nodes node (Ahead has.first has.second) has.is in
    let nodes = over.nodes in
    omega (arith, size, within, nodes)

-- where it stands it is an `ahead` of the table's plan
pub ahead-in : (board : Board Blueprint) (name : Name) (at : AheadAt) → IsAheadOf (plan_at board) name at → IsAheadIn board at
ahead-in board name at is = ap (λ (x : Name). slice_get (plan_at board).nodes x.node) is.name_is ∙ is.is

-- a look at a place
module _ (board : Board Blueprint) (block node : ℕ) (answer : Option Name) (old new : Seat (Option Item) (View Item Entry))
    (read : IsReadAs board block node is_parked answer old new) where
  says : Bool
  says = is_parked (control_read read.word)

  pub parked-looks : OnlyLooks old.me new.me
  parked-looks = looked-only (index board.frame.layout (OfControl block node)) read.word old.me new.me read.me_is

  -- that answered none
  pub parked-none : answer ≡ None → WasUnparked board block node old.me new.me
  parked-none none =
      looked-since (index board.frame.layout (OfControl block node)) read.word old.me new.me read.me_is
      (λ word. is_parked (control_read word) ≡ false)
      (either (is_parked (control_read read.word))
      (λ t. absurd (no-name _ (sym none ∙ read.answer_is ∙ cond-true (is_parked (control_read read.word)) (Some _) None t))) (λ f. f))

  -- and one that answered a name
  pub parked-name : (name : Name) → answer ≡ Some name → record { block = block; generation = stamp_of read.word; node = node } ≡ name
  parked-name name some =
      either (is_parked (control_read read.word))
      (λ t. same-name _ name (sym (read.answer_is ∙ cond-true (is_parked (control_read read.word)) _ None t) ∙ some))
      (λ f. absurd (no-name name (sym (read.answer_is ∙ cond-false (is_parked (control_read read.word)) _ None f) ∙ some)))

  pub parked-place : (name : Name) → answer ≡ Some name → block < board.frame.layout.blocks → node < board.frame.layout.nodes →
      IsPlaceIn board name
  parked-place name some in_blocks in_nodes =
      subst (λ (x : Name). IsPlaceIn board x) (parked-name name some) (record { block = in_blocks; node = in_nodes })

  pub parked-ahead : (plan : Blueprint) (name : Name) → answer ≡ Some name → HasAhead plan node → HasAhead plan name.node
  parked-ahead plan name some has = subst (λ n. HasAhead plan n) (ap (λ (x : Name). x.node) (parked-name name some)) has

module _ (board : Board Blueprint) (plan : Blueprint) where
  -- what was served is so still, seen from earlier
  serves-before : (each : List AheadAt) (old new : List (Option Future)) (first next last : Seat (Option Item) (View Item Entry)) →
      OnlyLooks first.me next.me → ServesEach board plan each old new next last → ServesEach board plan each old new first last
  serves-before [] old new first next last looks is = (is.0, looks-on first.me next.me last.me looks is.1)
  serves-before (at ∷ others) old new first next last looks is = record {
    ahead = is.ahead;
    found = is.found;
    looks = looks-on first.me next.me is.found.me looks is.looks;
    slots = is.slots;
    served = is.served;
    serves = is.serves;
    others = is.others;
  }

  serves-append : (each more : List AheadAt) (old between new : List (Option Future)) (first next last : Seat (Option Item) (View Item Entry)) →
      ServesEach board plan each old between first next → ServesEach board plan more between new next last →
      ServesEach board plan (each ++ more) old new first last
  serves-append [] more old between new first next last is then =
      serves-before more old new first next last is.1
      (subst (λ (l : List (Option Future)). ServesEach board plan more l new next last) is.0 then)
  serves-append (at ∷ others) more old between new first next last is then = record {
    ahead = is.ahead;
    found = is.found;
    looks = is.looks;
    slots = is.slots;
    served = is.served;
    serves = is.serves;
    others = serves-append others more is.slots between new is.served next last is.others then;
  }

  -- none so far
  pub turns-none : (slots : List (Option Future)) (hand : Seat (Option Item) (View Item Entry)) → Turns board plan slots slots hand hand 0
  turns-none slots hand = record {
    leaves = counts-same board slots hand.me hand.me (looks-here hand.me).aside;
    each = [];
    count_is = refl;
    serves = (refl, looks-here hand.me);
  }

  -- some more
  pub turns-on : (old between new : List (Option Future)) (first next last : Seat (Option Item) (View Item Entry)) (a b : ℕ) →
      Turns board plan old between first next a → Turns board plan between new next last b → Turns board plan old new first last (a + b)
  turns-on old between new first next last a b one two =
      let count_1 = one.count_is in let count_2 = two.count_is in
      let all = length-append one.each two.each in
      record {
        leaves = counts-on board old between new first.me next.me last.me one.leaves two.leaves;
        each = one.each ++ two.each;
        count_is = omega (arith, count_1, count_2, all);
        serves = serves-append one.each two.each old between new first next last one.serves two.serves;
      }

  -- one place: it was served, or passed
  pub turns-one : (old new : List (Option Future)) (hand hand' : Seat (Option Item) (View Item Entry)) →
      BeginsAndEnds board old new hand.me hand'.me → ServesPlace board plan old new hand hand' → Turns board plan old new hand hand' 1
  turns-one old new hand hand' leaves is = record { leaves = leaves; each = is.at ∷ []; count_is = refl; serves = is.serves }

  pub turns-passed : (block node : ℕ) (old new : List (Option Future)) (hand hand' : Seat (Option Item) (View Item Entry)) →
      BeginsAndEnds board old new hand.me hand'.me → PassesPlace board block node old new hand.me hand'.me →
      Turns board plan old new hand hand' 0
  turns-passed block node old new hand hand' leaves is =
      record { leaves = leaves; each = []; count_is = refl; serves = (is.slots, is.looks) }

  -- where none was served words were only looked at
  none-each : (each : List AheadAt) (old new : List (Option Future)) (hand hand' : Seat (Option Item) (View Item Entry)) → 0 ≡ length each →
      ServesEach board plan each old new hand hand' → OnlyLooks hand.me hand'.me
  none-each [] old new hand hand' none is = is.1
  none-each (at ∷ others) old new hand hand' none is = absurd (omega (arith, none))

  pub turned-none : (old new : List (Option Future)) (hand hand' : Seat (Option Item) (View Item Entry)) (count : ℕ) → count ≡ 0 →
      Turns board plan old new hand hand' count → KeepsAside hand.me hand'.me
  turned-none old new hand hand' count none is =
      (none-each is.each old new hand hand' (sym none ∙ is.count_is) is.serves).aside

  -- a place that was read so, seen from earlier and later
  pub unparked-after : (block node : ℕ) (m between m' : Seated Item Entry) → WasUnparked board block node m between → KeepsAside between m' →
      WasUnparked board block node m m'
  unparked-after block node m between m' read keeps =
      since-after (index board.frame.layout (OfControl block node)) (λ word. is_parked (control_read word) ≡ false) m between m' read keeps

  pub unparked-before : (block node : ℕ) (m between m' : Seated Item Entry) → KeepsAside m between → WasUnparked board block node between m' →
      WasUnparked board block node m m'
  unparked-before block node m between m' keeps read =
      since-before (index board.frame.layout (OfControl block node)) (λ word. is_parked (control_read word) ≡ false) m between m' keeps read

  -- one block more, where none was served in it either
  pub blocks-more : (node block count more : ℕ) (old between new : List (Option Future)) (first next last : Seat (Option Item) (View Item Entry)) →
      Turns board plan old between first next count → Turns board plan between new next last more →
      (count ≡ 0 → (b : ℕ) → b < block → WasUnparked board b node first.me next.me) →
      (more ≡ 0 → WasUnparked board block node next.me last.me) →
      count + more ≡ 0 → (b : ℕ) → b < block + 1 → WasUnparked board b node first.me last.me
  blocks-more node block count more old between new first next last one two earlier here none b below =
      let none_1 : count ≡ 0 = omega (arith, none) in
      let none_2 : more ≡ 0 = omega (arith, none) in
      elim (cases_eq b block) [
        | inl at ↦
            subst (λ k. WasUnparked board k node first.me last.me) (sym at)
            (unparked-before block node first.me next.me last.me (turned-none old between first next count none_1 one) (here none_2))
        | inr apart ↦
            unparked-after b node first.me next.me last.me (earlier none_1 b (omega (arith, below, apart)))
            (turned-none between new next last more none_2 two)
      ]

  -- and one node more
  pub nodes-more : (node count more : ℕ) (old between new : List (Option Future)) (first next last : Seat (Option Item) (View Item Entry)) →
      Turns board plan old between first next count → Turns board plan between new next last more →
      (count ≡ 0 → AreUnparked board plan node first.me next.me) → (more ≡ 0 → IsUnparked board plan node next.me last.me) →
      count + more ≡ 0 → AreUnparked board plan (node + 1) first.me last.me
  nodes-more node count more old between new first next last one two earlier here none n below a b stands block inside =
      let none_1 : count ≡ 0 = omega (arith, none) in
      let none_2 : more ≡ 0 = omega (arith, none) in
      elim (cases_eq n node) [
        | inl at ↦
            unparked-before block n first.me next.me last.me (turned-none old between first next count none_1 one)
            (subst (λ k. IsUnparked board plan k next.me last.me) (sym at) (here none_2) a b stands block inside)
        | inr apart ↦
            unparked-after block n first.me next.me last.me (earlier none_1 n (omega (arith, below, apart)) a b stands block inside)
            (turned-none between new next last more none_2 two)
      ]
