-- A callback runs at most once at its generation, by one hand, and never after its removal.
use Rattle.std.proofs.Common.{◌≡◌, ℕ, ◌≤◌, true, false, ◌||◌, refl, sym, ap, ◌∙◌, subst, arith}
use Rattle.std.specs.Prelude.{Option, nat_le}
use Rattle.std.proofs.lemmas.Bool.{and_parts, and_from, or_left, or_right, both_ways, false_from_ne_true, cond-true, cond-false, eqb-true, lt-ltb, leb-true, leb-false}
use Rattle.life_rules.specs.declared.words.CallbackPhase.{CallbackPhase}
use Rattle.life_rules.specs.declared.words.CallbackPhase.TheVariants.{Never, Armed, Running as Runs, Ran, Removed}
use Rattle.life_rules.specs.declared.event.Name.{Name}
use Rattle.life_rules.specs.Words.{is_never, is_armed, is_running}
use Rattle.life_rules.specs.Views.{View as PureView}
use Rattle.common_lemmas.specs.Sums.{one}
use Rattle.life_rules.specs.States.{State, is_live, phase_at}
use Rattle.common_lemmas.proofs.Bool.{either, one-true}
use Rattle.life_rules.proofs.Readings.{lives}
use Rattle.common_lemmas.proofs.Totals.{total-single}
use Rattle.stop_kept.proofs.Standing.{phase-live, runs-running}
use Rattle.table_words.specs.Stamps.{stamp_of, code_of}
use Rattle.table_words.specs.Controls.{callback_read, callback_code}
use Rattle.table_words.specs.Layouts.{OfCallback, IsSpot}
use Rattle.atomic_table.specs.Table as table
use Rattle.table_rules.specs.declared.cargo.Cargo.{Ghosts}
use Rattle.table_rules.specs.declared.frame.Frame.{Frame}
use Rattle.table_rules.specs.declared.view.View.{View}
use Rattle.table_rules.specs.Named.{count_by}
use Rattle.table_rules.specs.ShownWords.{word_of, is_there, is_said, said_at}
use Rattle.table_rules.specs.Scenes.{shown}
use Rattle.table_rules.specs.Running.{Running}
use Rattle.table_kept.proofs.Codes.{phase-rises}
use Rattle.table_laws.specs.Listed.{is_over, lists_over, RunsNoMore}
use Rattle.table_laws.specs.Laws.{Has, NeverAgain, IsOnlyRun, RunsOnce, RemovedForGood}
use Rattle.table_laws.proofs.Standing.{below, shows, among}
use Rattle.table_laws.proofs.Listing.{IsListed, listed, ends-over, grown-over}

over-code : (p : CallbackPhase) → is_over p ≡ true → 3 ≤ callback_code p
over-code Never h = cc
over-code Armed h = cc
over-code Runs h = cc
over-code Ran h = omega arith
over-code Removed h = omega arith

on-code : (p : CallbackPhase) → (is_armed p || is_running p) ≡ true → callback_code p ≤ 2
on-code Never h = cc
on-code Armed h = omega arith
on-code Runs h = omega arith
on-code Ran h = cc
on-code Removed h = cc

once-armed : (p : CallbackPhase) → is_running p ≡ true → is_never p ≡ false
once-armed Never h = cc
once-armed Armed h = refl
once-armed Runs h = refl
once-armed Ran h = refl
once-armed Removed h = refl

module _ {P E O : Type 0} (cargo : Ghosts P E O) (f : Frame O) (s : table.State (Option P) (View P E)) (r : Running cargo f s) where
  abbrev now : State
  now = shown f s

  module _ (x : Name) where
    abbrev word : ℕ
    word = word_of f.layout s.words (OfCallback x.block x.node)

    -- the phase is none, or what the word says at x's generation
    by-word : (Q : CallbackPhase → Type 0) → Q Never → (stamp_of word ≡ x.generation → Q (callback_read word)) → Q (phase_at now x)
    by-word Q never said =
        either (is_live now x)
        (λ live.
        let l = lives now x live in
        let n = l.node in
        let e = r.frame.nodes in
        let there : is_there f.layout x.block x.node ≡ true =
        and_from _ _ (lt-ltb x.block f.layout.blocks l.block) (lt-ltb x.node f.layout.nodes (omega (arith, n, e))) in
        let says : phase_at now x ≡ said_at (now.block x.block) Never callback_read word =
        cond-true (is_live now x) (now.callback x.block x.node) Never live
        ∙ cond-true (is_there f.layout x.block x.node) (said_at (now.block x.block) Never callback_read word) Never there in
        either (is_said (now.block x.block) word)
        (λ t.
        subst Q (sym (says ∙ cond-true (is_said (now.block x.block) word) (callback_read word) Never t))
        (said (eqb-true _ _ (and_parts _ _ t).1 ∙ sym l.generation)))
        (λ u. subst Q (sym (says ∙ cond-false (is_said (now.block x.block) word) (callback_read word) Never u)) never))
        (λ dead. subst Q (sym (cond-false (is_live now x) (now.callback x.block x.node) Never dead)) never)

    -- after a word that said that it is over, none is armed or running at that generation
    word-over : IsListed f.layout s.words x → stamp_of word ≡ x.generation →
        (is_armed (callback_read word) || is_running (callback_read word)) ≡ false
    word-over e stamp =
        false_from_ne_true (is_armed (callback_read word) || is_running (callback_read word)) (λ on.
        let few = on-code (callback_read word) on in
        let many = over-code (callback_read e.word) e.over in
        let less = phase-rises (code_of word) (code_of e.word) (omega (arith, few, many)) in
        let rises = e.rises in
        let same = e.stamp_is in
        absurd (omega (arith, less, rises, same, stamp)))

    no-more : IsListed f.layout s.words x → RunsNoMore f s x
    no-more e =
        record {
          still = by-word (λ p. (is_armed p || is_running p) ≡ false) refl (word-over e);
          other = λ armed same.
              both_ways (is_armed (callback_read word) || is_running (callback_read word)) (word-over e (ap (λ y. y.generation) same))
              (or_left (is_armed (callback_read word)) (is_running (callback_read word)) armed);
        }

  again-never : (h : ℕ) (v : View P E) (x : Name) → Has s h v → IsSpot f.layout (OfCallback x.block x.node) →
      lists_over f.layout v x ≡ true → RunsNoMore f s x
  again-never h v x at spot lists = no-more x (listed f.layout s.words v x spot (r.stamped.rises h v at) lists)

  module _ (h : ℕ) (v : View P E) (x : Name) (at : Has s h v) (runs : 1 ≤ count_by (λ y. y) v.runs x) where
    here : 1 ≤ (now.view h).runs x
    here = subst (λ (u : PureView). 1 ≤ u.runs x) (sym (shows cargo f s r h v at)) runs

    running : is_running (phase_at now x) ≡ true
    running = runs-running now h x r.stands.sound.runs (below cargo f s r h v at) here

    one-run : one (is_running (phase_at now x)) ≡ 1
    one-run = one-true running

    spot : IsSpot f.layout (OfCallback x.block x.node)
    spot =
        let l = lives now x (phase-live now x (once-armed (phase_at now x) running)) in
        let n = l.node in
        let e = r.frame.nodes in (l.block, omega (arith, n, e))

    only-run : IsOnlyRun f s h v x
    only-run =
        record {
          once = (let most = among cargo f s r h v at (λ u. u.runs) x in
              let fit = r.stands.sound.runs.runs x in
              let one = one-run in
              omega (arith, most, fit, one, runs));
          alone = λ j u there other.
              either (nat_le 1 (count_by (λ y. y) u.runs x))
              (λ t.
              let some_one : 1 ≤ (now.view j).runs x =
              subst (λ (z : PureView). 1 ≤ z.runs x) (sym (shows cargo f s r j u there)) (leb-true 1 (count_by (λ y. y) u.runs x) t) in
              let fit = r.stands.sound.runs.runs x in
              let one = one-run in
              absurd (other (total-single (λ i. (now.view i).runs x) f.hands j h (omega (arith, fit, one))
              (below cargo f s r j u there) (below cargo f s r h v at) some_one here)))
              (λ f. let none = leb-false 1 (count_by (λ y. y) u.runs x) f in omega (arith, none));
          first = λ j u there.
              false_from_ne_true (lists_over f.layout u x) (λ lists.
              both_ways (is_armed (phase_at now x) || is_running (phase_at now x)) (again-never j u x there spot lists).still
              (or_right (is_armed (phase_at now x)) (is_running (phase_at now x)) running));
        }

pub never-again : {P E O : Type 0} (cargo : Ghosts P E O) → NeverAgain cargo
never-again cargo f s r h v x at spot lists = again-never cargo f s r h v x at spot lists

pub runs-once : {P E O : Type 0} (cargo : Ghosts P E O) → RunsOnce cargo
runs-once cargo f s r h v x at runs = only-run cargo f s r h v x at runs

pub removed-for_good : {P E O : Type 0} (cargo : Ghosts P E O) → RemovedForGood cargo
removed-for_good cargo board x old new place ends s r h v at grew =
    again-never cargo board.frame s r h v x at (place.block, place.node)
    (grown-over board.frame.layout new.me.0 v x grew.0 grew.1 (ends-over board x old new ends))
