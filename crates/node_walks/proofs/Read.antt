-- What was read since an earlier moment, and is known later.
use Rattle.std.proofs.Common.{◌≡◌, ℕ, List, [], ◌∷◌, ◌++◌, append_assoc, refl, sym, ap, ◌∙◌, subst}
use Rattle.std.specs.Prelude.{◌≢◌, ◌<◌, Option, Some, None}
use Rattle.std.proofs.lemmas.Bool.{cond-true, cond-false}
use Rattle.common_lemmas.proofs.Bool.{either}
use Rattle.atomic_table.specs.declared.shared.Seat.{Seat}
use Rattle.life_rules.specs.declared.event.Name.{Name}
use Rattle.life_rules.specs.declared.event.Resting.{Resting}
use Rattle.listed_words.specs.declared.seen.Seen.{Seen}
use Rattle.listed_words.specs.Lists.{entry}
use Rattle.node_tree.specs.declared.context.Context.{Context}
use Rattle.plan_shape.specs.Blueprint.{Blueprint}
use Rattle.table_rules.specs.declared.view.View.{View}
use Rattle.table_rules.specs.Named.{Each}
use Rattle.table_words.specs.Controls.{control_read}
use Rattle.table_words.specs.Layouts.{OfControl, index}
use Rattle.table_words.specs.Stamps.{stamp_of}
use Rattle.table_steps.specs.Views.{Board, IsPlaceIn}
use Rattle.table_steps.specs.Claims.{logged}
use Rattle.table_steps.specs.Seats.{Seated}
use Rattle.table_steps.specs.Looks.{is_ready_in, IsReadAs}
use Rattle.table_steps.specs.Steps.{control_index}
use Rattle.table_steps.specs.Takes.{rest_word}
use Rattle.home_items.specs.declared.entry.Entry.{Entry}
use Rattle.home_items.specs.declared.item.Item.{Item}
use Rattle.exec_recv.specs.Asides.{aside_of, KeepsAside}
use Rattle.exec_recv.proofs.Asiding.{aside-here, aside-on, aside-one}
use Rattle.node_walks.specs.Resting.{IsAtRest}
use Rattle.exec_recv.specs.Since.{HasReadSince, IsLook}
use Rattle.exec_recv.proofs.Since.{moved-one}
use Rattle.node_walks.specs.Since.{OnlyLooks}
use Rattle.node_walks.specs.Serving.{IsUnready, WasMissed, WasUnready}

none-some : {A : Type 0} (e : A) → None ≡ Some e → ⊥
none-some e is = cc

some-same : {A : Type 0} (a b : A) → Some a ≡ Some b → a ≡ b
some-same a b e = cc

-- a load, or a take that lost, lists itself
module _ (i word : ℕ) (m m' : Seated Item Entry) (is : m' ≡ (logged i word m.0, m.1)) where
  pub looked-rests : IsAtRest m.0 → IsAtRest m'.0
  looked-rests rests =
      record {
        held = ap (λ (z : Seated Item Entry). z.0.held) is ∙ rests.held;
        owed = ap (λ (z : Seated Item Entry). z.0.owed) is ∙ rests.owed;
        reported = ap (λ (z : Seated Item Entry). z.0.reported) is ∙ rests.reported;
        finished = ap (λ (z : Seated Item Entry). z.0.finished) is ∙ rests.finished;
        runs = ap (λ (z : Seated Item Entry). z.0.runs) is ∙ rests.runs;
        scans = ap (λ (z : Seated Item Entry). z.0.scans) is ∙ rests.scans;
      }

  pub looked-aside : KeepsAside m m'
  looked-aside =
      aside-one (entry i word word) m m' (ap (λ (z : Seated Item Entry). aside_of z.0) is) (ap (λ (z : Seated Item Entry). z.0.steps) is)
      (ap (λ (z : Seated Item Entry). z.0.seen) is)

  pub looked-since : (says : ℕ → Type 0) → says word → HasReadSince i says m m'
  looked-since says said =
      moved-one i word word (λ read left. says read) m m' (ap (λ (z : Seated Item Entry). z.0.steps) is) said

  pub looked-only : OnlyLooks m m'
  looked-only =
      record {
        aside = looked-aside;
        fresh = entry i word word ∷ [];
        grown = ap (λ (z : Seated Item Entry). z.0.steps) is;
        each = (refl, tt);
      }

-- no step, and looks after looks
pub looks-here : (m : Seated Item Entry) → OnlyLooks m m
looks-here m = record { aside = aside-here m; fresh = []; grown = refl; each = tt }

each-append : (first next : List Seen) → Each IsLook next → Each IsLook first → Each IsLook (next ++ first)
each-append first [] looks all = all
each-append first (step ∷ steps) looks all = (looks.0, each-append first steps looks.1 all)

pub looks-on : (m between m' : Seated Item Entry) → OnlyLooks m between → OnlyLooks between m' → OnlyLooks m m'
looks-on m between m' first next =
    record {
      aside = aside-on m between m' first.aside next.aside;
      fresh = next.fresh ++ first.fresh;
      grown = next.grown ∙ ap (λ (l : List Seen). next.fresh ++ l) first.grown ∙ sym (append_assoc next.fresh first.fresh m.0.steps);
      each = each-append first.fresh next.fresh next.each first.each;
    }

-- a look that answered none read that the node isn't ready
pub read-unready : (board : Board Blueprint) (on : Context) (block node : ℕ) (answer : Option Name) (old new : Seat (Option Item) (View Item Entry)) →
    IsReadAs board block node (is_ready_in on) answer old new → answer ≡ None → WasUnready board old.me new.me on block node
read-unready board on block node answer old new read none =
    let said = is_ready_in on (control_read read.word) in
    looked-since (index board.frame.layout (OfControl block node)) read.word old.me new.me read.me_is (IsUnready on)
    (either said (λ t. absurd (none-some _ (sym none ∙ read.answer_is ∙ cond-true said (Some _) None t))) (λ f. f))

-- and a look that answered a name named a place of the table
pub read-place : (board : Board Blueprint) (on : Context) (block node : ℕ) (answer : Option Name) (name : Name) (old new : Seat (Option Item) (View Item Entry)) →
    IsReadAs board block node (is_ready_in on) answer old new → answer ≡ Some name → block < board.frame.layout.blocks →
    node < board.frame.layout.nodes → IsPlaceIn board name
read-place board on block node answer name old new read some in_blocks in_nodes =
    let said = is_ready_in on (control_read read.word) in
    either said
    (λ t.
    let is : record { block = block; generation = stamp_of read.word; node = node } ≡ name =
    some-same _ name (sym (read.answer_is ∙ cond-true said _ None t) ∙ some) in
    subst (λ (x : Name). IsPlaceIn board x) is (record { block = in_blocks; node = in_nodes }))
    (λ f. absurd (none-some name (sym (read.answer_is ∙ cond-false said _ None f) ∙ some)))

-- a take that lost read another word than that of a node that rests there
pub lost-missed : (board : Board Blueprint) (from : Resting) (x : Name) (m m' : Seated Item Entry) →
    ((found : ℕ) × (found ≢ rest_word x from) × (m' ≡ (logged (control_index board x) found m.0, m.1))) → WasMissed board m m' from x
lost-missed board from x m m' lost =
    looked-since (control_index board x) lost.0 m m' lost.2 (λ word. word ≢ rest_word x from) lost.1

-- and the name is of that place
pub read-there : (board : Board Blueprint) (on : Context) (block node : ℕ) (answer : Option Name) (name : Name) (old new : Seat (Option Item) (View Item Entry)) →
    IsReadAs board block node (is_ready_in on) answer old new → answer ≡ Some name → (name.block ≡ block) × (name.node ≡ node)
read-there board on block node answer name old new read some =
    let said = is_ready_in on (control_read read.word) in
    either said
    (λ t.
    let is : record { block = block; generation = stamp_of read.word; node = node } ≡ name =
    some-same _ name (sym (read.answer_is ∙ cond-true said _ None t) ∙ some) in
    (ap (λ (x : Name). x.block) (sym is), ap (λ (x : Name). x.node) (sym is)))
    (λ f. absurd (none-some name (sym (read.answer_is ∙ cond-false said _ None f) ∙ some)))
