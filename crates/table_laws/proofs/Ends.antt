-- A node that is done is over, its children ended before it, and nothing touches its block any more.
use Rattle.std.proofs.Common.{◌≡◌, ℕ, ◌-◌, ◌≤◌, true, false, ◌&&◌, ◌||◌, ◌==◌, length, refl, sym, ap, ◌∙◌, subst, arith}
use Rattle.std.specs.Prelude.{◌≢◌, Option}
use Rattle.std.specs.Option.{option_map_or}
use Rattle.std.proofs.lemmas.Bool.{and_parts, and_from, and_right, not-false, cond-true, cond-false, eq-eqb, lt-ltb, le-leb}
use Rattle.life_rules.specs.declared.words.ControlWord.TheVariants.{Idle, Done}
use Rattle.life_rules.specs.declared.event.Name.{Name}
use Rattle.life_rules.specs.declared.event.Resting.{Resting}
use Rattle.life_rules.specs.declared.event.Resting.TheVariants as rest
use Rattle.node_tree.specs.Tree.{is_child, is_root}
use Rattle.life_rules.specs.Words.{is_idle, is_held, is_done, pending, resting_at}
use Rattle.life_rules.specs.Views.{View as PureView, beside}
use Rattle.common_lemmas.specs.Sums.{one}
use Rattle.life_rules.specs.States.{State, is_live, control_at}
use Rattle.life_rules.specs.LifeSteps.{root_of, may_release}
use Rattle.life_rules.specs.Quiet.{Quiet}
use Rattle.common_lemmas.proofs.Bool.{either, one-is, one-false}
use Rattle.life_rules.proofs.Readings.{lives, begun-live, name_of-live}
use Rattle.life_kept.proofs.Fitting.{done-word}
use Rattle.life_kept.proofs.Holding.{weight-most}
use Rattle.life_kept.proofs.Quiet.{quiet-at_release}
use Rattle.life_kept.proofs.Trees.{child-within}
use Rattle.table_words.specs.Stamps.{code_of}
use Rattle.table_words.specs.Controls.{control_read, control_of_code}
use Rattle.table_words.specs.Layouts.{OfControl}
use Rattle.atomic_table.specs.Table as table
use Rattle.table_rules.specs.declared.cargo.Cargo.{Ghosts}
use Rattle.table_rules.specs.declared.frame.Frame.{Frame}
use Rattle.table_rules.specs.declared.view.View.{View}
use Rattle.table_rules.specs.Named.{count_by}
use Rattle.table_rules.specs.ShownWords.{word_of, is_there, is_said, said_at}
use Rattle.table_rules.specs.Scenes.{shown}
use Rattle.table_rules.specs.Running.{Running}
use Rattle.table_steps.specs.Seats.{Seated}
use Rattle.table_steps.specs.Readings.{above_it}
use Rattle.table_steps.specs.Takes.{rest_word}
use Rattle.table_steps.specs.Reports.{CanReport}
use Rattle.table_steps.specs.Finishes.{CanEnd}
use Rattle.table_steps.specs.Releases.{CanReleaseBlock}
use Rattle.table_kept.proofs.Standing.{Standing}
use Rattle.table_kept.proofs.Entries.{found, has-counts}
use Rattle.table_kept.proofs.HeldNow.{Holding, held, kid-quiet}
use Rattle.table_laws.specs.Laws.{Has, IsOver, DoneIsOver, ParentsWait, ReleasesQuiet}
use Rattle.table_laws.proofs.Standing.{below, shows, among}

-- the word of a node that rests reads so
pub rest-reads : (x : Name) (from : Resting) → control_read (rest_word x from) ≡ resting_at from
rest-reads x rest.Loop = let e : code_of (rest_word x rest.Loop) ≡ 2 = omega arith in ap control_of_code e
rest-reads x rest.Pool = let e : code_of (rest_word x rest.Pool) ≡ 3 = omega arith in ap control_of_code e
rest-reads x rest.Parked = let e : code_of (rest_word x rest.Parked) ≡ 4 = omega arith in ap control_of_code e

pub rest-goes_on : (from : Resting) → is_done (resting_at from) ≡ false
rest-goes_on rest.Loop = refl
rest-goes_on rest.Pool = refl
rest-goes_on rest.Parked = refl

module _ {P E O : Type 0} (cargo : Ghosts P E O) (f : Frame O) (s : table.State (Option P) (View P E)) (r : Running cargo f s) where
  abbrev now : State
  now = shown f s

  -- a node that isn't held, isn't owed and waits for nothing, and whose word says of no rest, is over
  module _ (x : Name) (unheld : is_held (control_at now x) ≡ false) (unowed : (is_live now x && is_idle (control_at now x)) ≡ false) (unpending : pending (control_at now x) ≡ 0) where
    none-held : (h : ℕ) (v : View P E) → Has s h v → count_by (λ e. e.name) v.held x ≡ 0
    none-held h v at =
        let most = among cargo f s r h v at (λ u. u.holds) x in
        let fit = (r.stands.sound.owned.names x).held in
        let none : one (is_held (control_at now x)) ≡ 0 = one-false unheld in
        omega (arith, most, fit, none)

    none-owed : (h : ℕ) (v : View P E) → Has s h v → count_by (λ e. e.name) v.owed x ≡ 0
    none-owed h v at =
        let most = among cargo f s r h v at (λ u. u.starts) x in
        let fit = (r.stands.sound.owned.names x).start in
        let none : one (is_live now x && is_idle (control_at now x)) ≡ 0 = one-false unowed in
        omega (arith, most, fit, none)

    none-reported : (h : ℕ) (v : View P E) (child : Name) → Has s h v → above_it f.tree child ≡ x → ¬ CanReport f.tree v child
    none-reported h v child at above can =
        let up = beside child can.parent in
        let is : up ≡ x = ap (λ o. option_map_or (λ p. beside child p) o child) (sym can.parent_is) ∙ above in
        let of_it : is_child f.tree can.parent child.node ≡ true =
        ap (λ o. option_map_or (λ q. q == can.parent) o false) can.parent_is ∙ eq-eqb can.parent can.parent refl in
        let most = weight-most now up child.node r.stands.sound (child-within f.tree can.parent child.node of_it) of_it in
        let none : pending (control_at now up) ≡ 0 = ap (λ y. pending (control_at now y)) is ∙ unpending in
        let owes = (found (λ e. e.name) v.reported child can.entry can.owes).counts in
        let all = among cargo f s r h v at (λ u. u.reports) child in
        absurd (omega (arith, most, none, owes, all))

    pub now-over : ((from : Resting) → word_of f.layout s.words (OfControl x.block x.node) ≢ rest_word x from) → IsOver cargo f s x
    now-over unrested =
        record {
          unheld = none-held;
          unowed = none-owed;
          begin = λ h m at can.
              let none = none-owed h m.0 at in
              let owes = (found (λ e. e.name) m.0.owed x can.owed can.owes).counts in
              absurd (omega (arith, none, owes));
          leave = λ h m at can.
              let none = none-held h m.0 at in
              let holds = (found (λ e. e.name) m.0.held x can.held can.holds).counts in
              absurd (omega (arith, none, holds));
          report = none-reported;
          rest = unrested;
        }

  module _ (x : Name) (done : is_done (control_at now x) ≡ true) where
    word : control_at now x ≡ Done
    word = done-word (control_at now x) done

    none-rests : (from : Resting) → word_of f.layout s.words (OfControl x.block x.node) ≡ rest_word x from → ⊥
    none-rests from same =
        let w = word_of f.layout s.words (OfControl x.block x.node) in
        let live = begun-live now x (ap is_idle word) in
        let l = lives now x live in
        let n = l.node in
        let e = r.frame.nodes in
        let there : is_there f.layout x.block x.node ≡ true =
        and_from _ _ (lt-ltb x.block f.layout.blocks l.block) (lt-ltb x.node f.layout.nodes (omega (arith, n, e))) in
        let says : control_at now x ≡ said_at (now.block x.block) Idle control_read w =
        cond-true (is_live now x) (now.control x.block x.node) Idle live
        ∙ cond-true (is_there f.layout x.block x.node) (said_at (now.block x.block) Idle control_read w) Idle there in
        either (is_said (now.block x.block) w)
        (λ t.
        let rests : control_at now x ≡ resting_at from =
        says ∙ cond-true (is_said (now.block x.block) w) (control_read w) Idle t ∙ ap control_read same ∙ rest-reads x from in
        let no : true ≡ false = sym done ∙ ap is_done rests ∙ rest-goes_on from in cc)
        (λ n.
        let idle : control_at now x ≡ Idle = says ∙ cond-false (is_said (now.block x.block) w) (control_read w) Idle n in
        let no : true ≡ false = sym done ∙ ap is_done idle in cc)

    done-over : IsOver cargo f s x
    done-over =
        now-over x (ap is_held word) (and_right (is_live now x) (is_idle (control_at now x)) (ap is_idle word)) (ap pending word)
        none-rests

  ended-kid : (h : ℕ) (m : Seated P E) (x : Name) (n : ℕ) → Has s h m.0 → CanEnd cargo f m x → is_child f.tree x.node n ≡ true →
      is_idle (control_at now (beside x n)) ≡ false →
      (is_done (control_at now (beside x n)) ≡ true)
      × ((j : ℕ) (u : View P E) → Has s j u → count_by (λ e. e.name) u.reported (beside x n) ≡ 0)
  ended-kid h m x n at can child begun =
      let hand : Standing cargo f = record {
        state = s;
        id = h;
        view = m.0;
        running = r;
        at = at;
      } in
      let holding : Holding hand = record {
        name = x;
        entry = can.leave.held;
        holds = can.leave.holds;
      } in
      let kid = control_at now (beside x n) in
      let own = held cargo f hand holding in
      let quiet = kid-quiet cargo f s r x n (ap pending own.word) child in
      let ended : (is_idle kid || is_done kid) ≡ true = not-false (is_idle kid || is_done kid) quiet.under_way in (
        ap (λ b. b || is_done kid) (sym begun) ∙ ended,
        λ j u there.
            let most = among cargo f s r j u there (λ z. z.reports) (beside x n) in
            let none = quiet.reports in
            omega (arith, most, none),
      )

  quiet-block : (h : ℕ) (m : Seated P E) (block generation : ℕ) → Has s h m.0 → CanReleaseBlock f block generation m → Quiet now block
  quiet-block h m block generation at can =
      let x : Name = record { block = block; generation = generation; node = length f.tree - 1 } in
      let counts = has-counts m.0.finished x can.finished in
      let most = among cargo f s r h m.0 at (λ u. u.finished) x in
      let fit = (r.stands.sound.owned.names x).finish in
      let done = (and_parts (is_done (control_at now x)) (is_root f.tree x.node) (one-is (omega (arith, counts, most, fit)))).0 in
      let live = begun-live now x (ap is_idle (done-word (control_at now x) done)) in
      let here : 1 ≤ (now.view h).finished x = subst (λ (u : PureView). 1 ≤ u.finished x) (sym (shows cargo f s r h m.0 at)) counts in
      let root : root_of now block ≡ x = name_of-live now x live in
      let may : may_release now h block ≡ true =
      and_from _ _ (lt-ltb block now.blocks (lives now x live).block)
      (le-leb 1 ((now.view h).finished (root_of now block)) (subst (λ y. 1 ≤ (now.view h).finished y) (sym root) here)) in
      quiet-at_release now h block r.stands.sound (below cargo f s r h m.0 at) may

pub done-is_over : {P E O : Type 0} (cargo : Ghosts P E O) → DoneIsOver cargo
done-is_over cargo f s r x done = done-over cargo f s r x done

pub parents-wait : {P E O : Type 0} (cargo : Ghosts P E O) → ParentsWait cargo
parents-wait cargo f s r h m x n at can child begun = ended-kid cargo f s r h m x n at can child begun

pub releases-quiet : {P E O : Type 0} (cargo : Ghosts P E O) → ReleasesQuiet cargo
releases-quiet cargo f s r h m block generation at can = quiet-block cargo f s r h m block generation at can
