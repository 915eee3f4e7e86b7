-- What a list of steps says of a callback that is over, and which steps list that.
use Rattle.std.proofs.Common.{◌≡◌, ℕ, ◌≤◌, Bool, true, false, ◌==◌, List, [], ◌∷◌, ◌++◌, refl, sym, ap, ◌∙◌, inl, inr, arith}
use Rattle.std.specs.Prelude.{Option}
use Rattle.std.specs.List.{list_any}
use Rattle.std.proofs.lemmas.Bool.{and_parts, and_from, or_cases, or_left, or_right, cond-true, cond-false, eqb-true, eq-eqb}
use Rattle.life_rules.specs.declared.words.CallbackPhase.{CallbackPhase}
use Rattle.life_rules.specs.declared.words.CallbackPhase.TheVariants.{Never, Armed, Running as Runs, Ran, Removed}
use Rattle.life_rules.specs.declared.event.Name.{Name}
use Rattle.life_rules.specs.Words.{is_armed, is_running}
use Rattle.common_lemmas.proofs.Bool.{either}
use Rattle.table_words.specs.declared.layout.Layout.{Layout}
use Rattle.table_words.specs.Stamps.{stamp_of, code_of}
use Rattle.table_words.specs.Controls.{callback_read, callback_of_code, callback_written}
use Rattle.table_words.specs.Layouts.{OfCallback, IsSpot, index}
use Rattle.atomic_table.specs.declared.shared.Seat.{Seat}
use Rattle.table_rules.specs.declared.view.View.{View}
use Rattle.listed_words.specs.declared.seen.Seen.{Seen}
use Rattle.listed_words.specs.Lists.{entry}
use Rattle.table_rules.specs.Named.{Each}
use Rattle.table_rules.specs.ShownWords.{word_of}
use Rattle.table_rules.specs.Grown.{HasRisen}
use Rattle.table_steps.specs.Views.{Board}
use Rattle.table_steps.specs.Readings.{says_phase}
use Rattle.table_steps.specs.Callbacks.{callback_index, is_registered, left_by, LeftCallback}
use Rattle.table_laws.specs.Listed.{is_over, says_over, lists_over, FoundNoRun, EndsIt}

-- of a list whose entries all keep Q, an entry that passes the test
any-each : {A : Type 0} (test : A → Bool) (Q : A → Type 0) (l : List A) → list_any test l ≡ true → Each Q l →
    (e : A) × (test e ≡ true) × Q e
any-each test Q [] h all = cc
any-each test Q (e ∷ es) h all =
    elim (or_cases (test e) (list_any test es) h) [
      | inl here ↦ (e, here, all.0)
      | inr more ↦ any-each test Q es more all.1
    ]

any-later : {A : Type 0} (test : A → Bool) (newer l : List A) → list_any test l ≡ true → list_any test (newer ++ l) ≡ true
any-later test [] l h = h
any-later test (e ∷ es) l h = or_right (test e) (list_any test (es ++ l)) (any-later test es l h)

-- a word listed for x's callback that says at x's generation that it is over
pub record IsListed (l : Layout) (words : List ℕ) (x : Name) : Type 0 where
  pub word : ℕ
  pub stamp_is : stamp_of word ≡ x.generation
  pub over : is_over (callback_read word) ≡ true
  pub rises : word ≤ word_of l words (OfCallback x.block x.node)

pub listed : {P E : Type 0} (l : Layout) (words : List ℕ) (v : View P E) (x : Name) → IsSpot l (OfCallback x.block x.node) →
    Each (HasRisen l words) v.steps → lists_over l v x ≡ true → IsListed l words x
listed l words v x spot risen lists =
    let e = any-each (says_over l x) (HasRisen l words) v.steps lists risen in
    let parts = and_parts (e.0.index == index l (OfCallback x.block x.node)) (is_over (says_phase x.generation e.0.left)) e.1 in
    let rises = (e.2 (OfCallback x.block x.node) spot (eqb-true _ _ parts.0)).1 in
    let w = e.0.left in
    either (stamp_of w == x.generation)
    (λ t. record {
      word = w;
      stamp_is = eqb-true _ _ t;
      over = ap is_over (sym (cond-true (stamp_of w == x.generation) (callback_read w) Never t)) ∙ parts.1;
      rises = rises;
    })
    (λ f.
    let no : is_over Never ≡ true = ap is_over (sym (cond-false (stamp_of w == x.generation) (callback_read w) Never f)) ∙ parts.1 in cc)

registered-over : (p : CallbackPhase) → is_registered p ≡ true → is_armed p ≡ false → is_running p ≡ false → is_over p ≡ true
registered-over Never h a r = cc
registered-over Armed h a r = cc
registered-over Runs h a r = cc
registered-over Ran h a r = refl
registered-over Removed h a r = refl

-- what was written as removed says so
removed-over : (generation : ℕ) → is_over (says_phase generation (callback_written generation Removed)) ≡ true
removed-over g =
    let w = callback_written g Removed in
    let code : code_of w ≡ 4 = omega arith in
    let stamp : stamp_of w ≡ g = omega arith in
    ap is_over (cond-true (stamp_of w == g) (callback_read w) Never (eq-eqb _ _ stamp)) ∙ ap (λ c. is_over (callback_of_code c)) code

module _ {P E O : Type 0} (board : Board O) (x : Name) (old new : Seat (Option P) (View P E)) where
  -- where the newest step is listed so, the list says it
  newest-over : (read left : ℕ) (earlier : List Seen) → new.me.0.steps ≡ entry (callback_index board x) read left ∷ earlier →
      is_over (says_phase x.generation left) ≡ true → lists_over board.frame.layout new.me.0 x ≡ true
  newest-over read left earlier steps over =
      let test = says_over board.frame.layout x in
      ap (list_any test) steps
      ∙ or_left (test (entry (callback_index board x) read left)) (list_any test earlier)
      (and_from _ _ (eq-eqb (callback_index board x) (callback_index board x) refl) over)

  no-run-over : FoundNoRun board x old new → lists_over board.frame.layout new.me.0 x ≡ true
  no-run-over found =
      let told = found.withdrawn in
      let phase = says_phase x.generation told.word in
      newest-over told.word (left_by x.generation told.word) _ (ap (λ m. m.0.steps) told.me_is)
      (either (is_armed phase)
      (λ armed.
      ap (λ w. is_over (says_phase x.generation w)) (cond-true (is_armed phase) (callback_written x.generation Removed) told.word armed)
      ∙ removed-over x.generation)
      (λ unarmed.
      ap (λ w. is_over (says_phase x.generation w)) (cond-false (is_armed phase) (callback_written x.generation Removed) told.word unarmed)
      ∙ registered-over phase (ap is_registered (sym told.answer_is) ∙ told.registered) unarmed (ap is_running (sym told.answer_is) ∙ found.no_run)))

  left-over : (before phase : CallbackPhase) (change : View P E → View P E) → LeftCallback board x before phase change old new → is_over phase ≡ true →
      lists_over board.frame.layout new.me.0 x ≡ true
  left-over before phase change left over =
      let w = left.left in
      newest-over left.read w _ (ap (λ m. m.0.steps) left.me_is)
      (ap is_over (cond-true (stamp_of w == x.generation) (callback_read w) Never (eq-eqb _ _ left.says.stamp_is) ∙ left.says.reads) ∙ over)

  pub ends-over : EndsIt board x old new → lists_over board.frame.layout new.me.0 x ≡ true
  ends-over ends =
      elim ends [
        | inl found ↦ no-run-over found
        | inr left ↦ elim left [
          | inl ran ↦ left-over Runs Ran _ ran refl
          | inr removed ↦ left-over Runs Removed _ removed refl
        ]
      ]

-- a list that grew still says it
pub grown-over : {P E : Type 0} (l : Layout) (v w : View P E) (x : Name) (newer : List Seen) → w.steps ≡ newer ++ v.steps →
    lists_over l v x ≡ true → lists_over l w x ≡ true
grown-over l v w x newer steps over = ap (list_any (says_over l x)) steps ∙ any-later (says_over l x) newer v.steps over
