-- What the calls of the table list.
use Rattle.std.proofs.Common.{◌≡◌, ◌⊎◌, ℕ, ◌+◌, List, [], ◌∷◌, ◌++◌, length, Option, Some, None, refl, sym, ap, ◌∙◌, inl, inr, arith, length-append}
use Rattle.std.specs.Prelude.{All, ◌-◌, Bool, if◌then◌else◌, nat_le}
use Rattle.std.proofs.lemmas.Bool.{cond-true, cond-false}
use Rattle.std.proofs.lemmas.List.Elements.{All-nil, All-cons, All-append}
use Rattle.std.proofs.lemmas.List.{append_assoc}
use Rattle.life_rules.specs.declared.event.Name.{Name}
use Rattle.life_rules.specs.declared.event.SourceRef.{SourceRef}
use Rattle.life_rules.specs.declared.scope.ScopeWord.{ScopeWord}
use Rattle.life_rules.specs.declared.words.CallbackPhase.{CallbackPhase}
use Rattle.life_rules.specs.declared.words.CallbackPhase.TheVariants.{Removed}
use Rattle.life_rules.specs.Scopes.{is_refused}
use Rattle.life_rules.specs.Words.{is_armed}
use Rattle.common_lemmas.proofs.Bool.{either}
use Rattle.atomic_table.specs.declared.shared.Seat.{Seat}
use Rattle.listed_words.specs.declared.seen.Seen.{Seen}
use Rattle.listed_words.specs.Lists.{entry}
use Rattle.table_rules.specs.declared.cargo.Cargo.{Ghosts}
use Rattle.table_rules.specs.declared.view.View.{View}
use Rattle.table_steps.specs.declared.report.Report.{Report}
use Rattle.table_steps.specs.declared.report.Report.TheVariants.{Last, Others}
use Rattle.table_steps.specs.Callbacks.{IsWithdrawn, callback_index, withdraws, learns}
use Rattle.table_steps.specs.Views.{Board}
use Rattle.table_steps.specs.Claims.{IsAnswer, word_index, logged}
use Rattle.table_steps.specs.Seats.{Seated}
use Rattle.table_steps.specs.declared.block.Block.{Block}
use Rattle.table_steps.specs.Readings.{IsBegunAs, above_it, notes_idle, notes_phase, says_begun}
use Rattle.table_steps.specs.Reports.{IsReportedAs}
use Rattle.table_steps.specs.Runs.{IsRun, listed, run_index}
use Rattle.table_steps.specs.ScopeEntries.{IsEntered, enters}
use Rattle.table_steps.specs.ScopeMoves.{MovesScope, with_one_less, leaves_scope}
use Rattle.table_steps.specs.Skips.{IsSkipped, skips, says_free}
use Rattle.table_steps.specs.Steps.{control_index}
use Rattle.node_tree.specs.Tree.{is_root}
use Rattle.table_laws.specs.CallLists.{ListsOne, ListsTwo, ListsSome, ListedIsMade, NodesListTheirSteps, CallbacksListTheirSteps, BlocksListTheirSteps, SourcesListTheirSteps, ScopesListTheirSteps}

-- words that were read one after another under one index
pub read-there : (at : ℕ) (words : List ℕ) (steps : List Seen) →
    (newer : List Seen) × (listed at words steps ≡ newer ++ steps) × All (λ (e : Seen). e.index ≡ at) newer
read-there at [] steps = ([], refl, All-nil (λ (e : Seen). e.index ≡ at))
read-there at (word ∷ later) steps =
    let There : Seen → Type 0 = λ (e : Seen). e.index ≡ at in
    let one : List Seen = entry at word word ∷ [] in
    let rest = read-there at later (entry at word word ∷ steps) in (
      rest.0 ++ one,
      rest.1 ∙ sym (append_assoc rest.0 one steps),
      All-append There rest.0 one rest.2 (All-cons There (entry at word word) [] refl (All-nil There)),
    )

module _ {P E : Type 0} where
  pub lists-some : (at read left : ℕ) (words : List ℕ) (m m' : Seated P E) →
      m'.0.steps ≡ entry at read left ∷ listed at words m.0.steps → ListsSome at m m'
  lists-some at read left words m m' steps =
      let rest = read-there at words m.0.steps in
      record {
        newest = entry at read left;
        others = rest.0;
        steps_are = steps ∙ ap (λ l. entry at read left ∷ l) rest.1;
        all_there = All-cons (λ (e : Seen). e.index ≡ at) (entry at read left) rest.0 refl rest.2;
      }

  -- one step, by what the hand knows after it
  pub lists-one : {at read left : ℕ} {m m' : Seated P E} → m'.0.steps ≡ entry at read left ∷ m.0.steps → ListsOne at m m'
  lists-one {at} {read} {left} steps = record { read = read; left = left; steps_are = steps }

  -- a view that is one of two, which list the same
  of-two : (test : Bool) (v w : View P E) (steps : List Seen) → v.steps ≡ steps → w.steps ≡ steps →
      (if test then v else w).steps ≡ steps
  of-two test v w steps one two =
      either test
      (λ t. ap (λ (x : View P E). x.steps) (cond-true test v w t) ∙ one)
      (λ f. ap (λ (x : View P E). x.steps) (cond-false test v w f) ∙ two)

  -- a step that lists itself in what the hand knows otherwise
  pub lists-in : {at read left : ℕ} {m m' : Seated P E} (v : View P E) → m'.0.steps ≡ entry at read left ∷ v.steps →
      v.steps ≡ m.0.steps → ListsOne at m m'
  lists-in {at} {read} {left} v steps same = lists-one (steps ∙ ap (λ l. entry at read left ∷ l) same)

looks-list : {P E O : Type 0} (board : Board O) (x : Name) (old new : Seat (Option P) (View P E)) (answer : Bool) →
    IsBegunAs board.frame x answer old.me new.me → ListsOne (control_index board x) old.me new.me
looks-list board x old new answer did =
    let v = old.me.0 in
    let idle = notes_idle (above_it board.frame.tree x) x.node v in
    lists-in (if says_begun x.generation did.0 then v else idle) (ap (λ m. m.0.steps) did.2)
    (of-two (says_begun x.generation did.0) v idle v.steps refl refl)

reports-list : {P E O : Type 0} (cargo : Ghosts P E O) (board : Board O) (x : Name) (old new : Seat (Option P) (View P E)) (answer : Report) →
    IsReportedAs cargo board.frame x answer old.me new.me →
    ListsOne (control_index board (above_it board.frame.tree x)) old.me new.me
reports-list cargo board x old new Last did = lists-one (ap (λ m. m.0.steps) did.4.me_is)
reports-list cargo board x old new Others did = lists-one (ap (λ m. m.0.steps) did.4)

pub nodes-list : {P E O : Type 0} (cargo : Ghosts P E O) → NodesListTheirSteps cargo
nodes-list cargo board x old new = record {
  begun = λ did. (
    λ t. record {
      middle = did.middle;
      one = lists-one (ap (λ m. m.0.steps) (did.renewed.0 t).did);
      two = lists-one (ap (λ m. m.0.steps) did.began.did.me_is);
    },
    λ f.
        let same = did.renewed.1 f in
        lists-one (ap (λ m. m.0.steps) did.began.did.me_is ∙ ap (λ m. entry _ did.began.read did.began.left ∷ m.0.steps) same),
  );
  awaited = λ nodes did. lists-one (ap (λ m. m.0.steps) did.did.me_is);
  rested = λ to did. lists-one (ap (λ m. m.0.steps) did.did.me_is);
  finished = λ did.
      either (is_root board.frame.tree x.node)
      (λ t. lists-one (ap (λ m. m.0.steps) (did.did.1 t).me_is))
      (λ f. lists-one (ap (λ m. m.0.steps) (did.did.0 f).me_is));
  taken = λ from answer did.
      either answer
      (λ t. lists-one (ap (λ m. m.0.steps) (did.0 t).2.me_is))
      (λ f. lists-one (ap (λ m. m.0.steps) (did.1 f).2));
  reported = λ answer did. reports-list cargo board x old new answer did;
  roused = λ answer did. lists-one (ap (λ m. m.0.steps) did.me_is);
  looked = λ answer did. looks-list board x old new answer did;
  swapped = λ item before did. lists-one (ap (λ m. m.0.steps) did.me_is);
}

pub listed-made : (P E : Type 0) → ListedIsMade P E
listed-made P E at m m' some same =
    let grew = ap length some.steps_are in
    let here : length m'.0.steps ≡ length m.0.steps = ap length same in
    absurd (omega (arith, grew, here, length-append some.others m.0.steps))

withdraws-list : {P E O : Type 0} (board : Board O) (x : Name) (old new : Seat (Option P) (View P E)) (answer : CallbackPhase) →
    IsWithdrawn board x answer old new → ListsOne (callback_index board x) old.me new.me
withdraws-list board x old new answer did =
    let v = old.me.0 in
    let removed = notes_phase x Removed v in
    let found = notes_phase x answer v in
    lists-in (withdraws board.frame.tree x answer v) (ap (λ m. m.0.steps) did.me_is)
    (of-two (is_armed answer) removed (learns board.frame.tree x found) v.steps refl refl)

pub callbacks-list : (P E O : Type 0) → CallbacksListTheirSteps P E O
callbacks-list P E O board x old new = record {
  armed = λ did. lists-one (ap (λ m. m.0.steps) did.me_is);
  read = λ answer did. lists-one (ap (λ m. m.0.steps) did.2);
  ended = λ did. lists-one (ap (λ m. m.0.steps) did.me_is);
  removed = λ did. lists-one (ap (λ m. m.0.steps) did.me_is);
  withdrawn = λ answer did. withdraws-list board x old new answer did;
}

claims-list : {P E O : Type 0} (board : Board O) (block : ℕ) (old new : Seat (Option P) (View P E)) (answer : Option Block) →
    IsAnswer board block answer old new →
    ListsOne (word_index board block) old.me new.me
    ⊎ ListsTwo (word_index board block) (word_index board block) old.me new.me
claims-list board block old new (Some b) did =
    inr (record {
      middle = (logged (word_index board block) did.word old.me.0, old.me.1);
      one = lists-one refl;
      two = lists-one (ap (λ m. m.0.steps) did.me_is);
    })
claims-list board block old new None did =
    elim did [
      | inl taken ↦ inl (lists-one (ap (λ m. m.0.steps) taken.me_is))
      | inr moved ↦ inr (record {
        middle = (logged (word_index board block) moved.word old.me.0, old.me.1);
        one = lists-one refl;
        two = lists-one (ap (λ m. m.0.steps) moved.me_is);
      })
    ]

skips-list : {P E O : Type 0} (board : Board O) (block : ℕ) (old new : Seat (Option P) (View P E)) (answer : Bool) →
    IsSkipped board block answer old new → ListsOne (word_index board block) old.me new.me
skips-list board block old new answer did =
    let v = old.me.0 in
    let past = skips board.frame.tree block v in
    lists-in (if says_free did.word then past else v) (ap (λ m. m.0.steps) did.me_is)
    (of-two (says_free did.word) past v v.steps refl refl)

pub blocks-list : (P E O : Type 0) → BlocksListTheirSteps P E O
blocks-list P E O board block node old new = record {
  claimed = λ answer did. claims-list board block old new answer did;
  released = λ generation did. lists-one (ap (λ m. m.0.steps) did.did.me_is);
  skipped = λ answer did. skips-list board block old new answer did;
  looked = λ test answer did. lists-one (ap (λ m. m.0.steps) did.me_is);
}

runs-list : {P E O : Type 0} (board : Board O) (source : SourceRef) (block node : ℕ) (old new : Seat (Option P) (View P E)) (answer : Option Name) →
    IsRun board source block node answer old new → ListsSome (run_index board block node) old.me new.me
runs-list board source block node old new (Some name) did =
    lists-some _ _ did.left (did.word ∷ did.tries) old.me new.me (ap (λ m. m.0.steps) did.me_is)
runs-list board source block node old new None did =
    lists-some _ did.last did.last did.words old.me new.me (ap (λ m. m.0.steps) did.me_is)

pub sources-list : (P E O : Type 0) → SourcesListTheirSteps P E O
sources-list P E O board source block node old new = record {
  looked = λ after answer did. lists-one (ap (λ m. m.0.steps) did.2);
  asked = λ failure answer did. lists-one (ap (λ m. m.0.steps) did.me_is);
  sealed = λ did. lists-one (ap (λ m. m.0.steps) did.me_is);
  run = λ answer did. runs-list board source block node old new answer did;
}

enters-list : {P E O : Type 0} (board : Board O) (old new : Seat (Option P) (View P E)) (answer : ScopeWord) →
    IsEntered board answer old new → ListsOne 0 old.me new.me
enters-list board old new answer did =
    let v = old.me.0 in
    let refused = record v { refused = v.refused + 1 } in
    let made = record v { made = v.made + 1 } in
    let making = record v { making = v.making + 1 } in
    lists-in (enters board.frame.most answer v) (ap (λ m. m.0.steps) did.me_is)
    (of-two (is_refused answer board.frame.most) refused (if answer.used then made else making) v.steps refl
    (of-two answer.used made making v.steps refl refl))

leaves-list : {P E O : Type 0} (board : Board O) (old new : Seat (Option P) (View P E)) (answer : ScopeWord) →
    MovesScope with_one_less leaves_scope answer old new → ListsOne 0 old.me new.me
leaves-list board old new answer did =
    let v = old.me.0 in
    let refused = record v { refused = v.refused - 1 } in
    let made = record v { made = v.made - 1 } in
    lists-in (leaves_scope v) (ap (λ m. m.0.steps) did.me_is)
    (of-two (nat_le 1 v.refused) refused made v.steps refl refl)

pub scopes-list : (P E O : Type 0) → ScopesListTheirSteps P E O
scopes-list P E O board old new = record {
  read = λ answer did. lists-one (ap (λ m. m.0.steps) did.me_is);
  entered = λ answer did. enters-list board old new answer did;
  made = λ did. lists-one (ap (λ m. m.0.steps) did.1.me_is);
  set = λ sets answer did. lists-one (ap (λ m. m.0.steps) did.me_is);
  left = λ answer did. leaves-list board old new answer did;
  sealed = λ expected answer did. lists-one (ap (λ m. m.0.steps) did.me_is);
}
