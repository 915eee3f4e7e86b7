-- What the load and the exchanges of a run owe, and what they tell the hand.
use Rattle.std.proofs.Common.{◌≡◌, ℕ, ◌<◌, true, ◌==◌, List, refl, sym, ap, ◌∙◌, subst, eq-eqb, ne_eqb}
use Rattle.std.specs.Prelude.{slice_index}
use Rattle.std.proofs.lemmas.Bool.{cond-true, cond-false}
use mathlib.Core.Option as maybe
use mathlib.Core.Logic.{dite}
use native.Mathlib.Decide.{ℕ_discrete}
use prog.Atomic.{either}
use Rattle.node_tree.specs.declared.node.TreeNode.{TreeNode}
use Rattle.life_rules.specs.declared.words.CallbackPhase.TheVariants.{Running as Runs}
use Rattle.life_rules.specs.declared.event.Name.{Name}
use Rattle.life_rules.specs.declared.event.SourceRef.{SourceRef}
use Rattle.common_lemmas.proofs.Bool.{either as test}
use Rattle.table_words.specs.declared.layout.Layout.{Layout}
use Rattle.table_words.specs.Stamps.{stamp_of}
use Rattle.table_words.specs.Controls.{callback_read}
use Rattle.table_words.specs.Layouts.{OfCallback, index}
use Rattle.atomic_table.specs.Table.{Allows, step, keeps, stepped}
use Rattle.table_rules.specs.declared.cargo.Cargo.{Ghosts}
use Rattle.table_rules.specs.declared.frame.Frame.{Frame}
use Rattle.table_rules.specs.declared.view.View.{View}
use Rattle.table_rules.specs.Running.{Running}
use Rattle.table_steps.specs.Views.{aimed}
use Rattle.table_steps.specs.Claims.{with_step, logged, ListsOne}
use Rattle.table_steps.specs.Seats.{Seated}
use Rattle.table_steps.specs.Slots.{Aim, IsSeated}
use Rattle.table_steps.specs.Runs.{says_armed, place_named, node_named, runs_place, passes_place, meets_at, RunsAt, CanRun, IsNewest}
use Rattle.table_kept.proofs.Standing.{Standing}
use Rattle.table_kept.proofs.Listing.{AllowsListed, allows-listed, lists-one}
use Rattle.table_kept.proofs.BeginSeats.{seated-logged}
use Rattle.table_stop_kept.proofs.ArmedWords.{armed-later}
use Rattle.table_stop_kept.proofs.Run.Meets.{ToMeet, entry-rises, met-runs, of-scan, won-runs}

-- the place at which a scan of a source goes on, for the hand that makes the scan
pub record NextPlace (P E : Type 0) {O : Type 0} (f : Frame O) : Type 0 where
  pub slots : ℕ
  pub id : ℕ
  pub source : SourceRef
  pub block : ℕ
  pub place : ℕ
  pub seated : Seated P E
  pub can : CanRun f.tree seated.0 source block place
  pub within : block < f.layout.blocks

module _ {P E O : Type 0} (cargo : Ghosts P E O) (f : Frame O) (task : NextPlace P E f) where
  open task use {slots, id, source, block as b, place as m, seated, can, within as hb}

  abbrev place : ℕ
  place = index f.layout (OfCallback b m)

  -- what the load owes
  meets_allowed : Allows (Running cargo f) slots id seated place (λ n. n) (λ n m'. m' ≡ meets_at (aimed f (place_named b m)) source place n seated)
  meets_allowed s r deep at small =
      let hand : Standing cargo f = record {
        state = s;
        id = id;
        view = seated.0;
        running = r;
        at = at;
      } in
      let meeting : ToMeet hand = record {
        slots = slots;
        source = source;
        block = b;
        place = m;
        carried = seated.1;
        can = can;
        within = hb;
      } in (
        (meets_at (aimed f (place_named b m)) source place (slice_index s.words place) seated).0,
        keeps,
        tt,
        met-runs cargo f hand meeting,
        refl,
      )

  -- what the exchange owes, of a word that was read as armed
  runs_allowed : (old new : ℕ) → says_armed old ≡ true → IsNewest place old seated.0 → stamp_of new ≡ stamp_of old → callback_read new ≡ Runs →
      Allows (Running cargo f) slots id seated place (λ n. either (n == old) new n)
      (RunsAt (aimed f (place_named b m)) source (step slots place old new maybe.none) seated)
  runs_allowed old new armed newest stamped reads s r deep at small =
      let hand : Standing cargo f = record {
        state = s;
        id = id;
        view = seated.0;
        running = r;
        at = at;
      } in
      let meeting : ToMeet hand = record {
        slots = slots;
        source = source;
        block = b;
        place = m;
        carried = seated.1;
        can = can;
        within = hb;
      } in
      let n = slice_index s.words place in
      dite (ℕ_discrete n old)
      (λ hit.
      let here : says_armed n ≡ true = ap says_armed hit ∙ armed in
      let ran : View P E = with_step place n new (runs_place (node_named b m n) seated.0) in (
        ran,
        keeps,
        tt,
        subst (λ k. Running cargo f (stepped s place k id seated.1 ran keeps)) (sym (ap (λ t. either t new n) (eq-eqb n old hit)))
            (won-runs cargo f hand meeting here new (stamped ∙ ap stamp_of (sym hit)) reads),
        ((λ _. (refl, of-scan cargo f hand meeting here)), (λ miss. absurd (miss hit))),
      ))
      (λ miss.
      let met : View P E = (meets_at (aimed f (place_named b m)) source place n seated).0 in (
        met,
        keeps,
        tt,
        subst (λ k. Running cargo f (stepped s place k id seated.1 met keeps)) (sym (ap (λ t. either t new n) (ne_eqb n old miss)))
            (met-runs cargo f hand meeting),
        (
          (λ hit. absurd (miss hit)),
          (λ _. (
            refl,
            λ again. armed-later old n armed again (entry-rises cargo f hand meeting old newest) miss,
          )),
        ),
      ))

-- what a word that was met tells is listed
met-lists : {P E : Type 0} (aim : Aim) (source : SourceRef) (i n : ℕ) (me : Seated P E) → ListsOne i n n me (meets_at aim source i n me)
met-lists {P} {E} aim source i n me =
    let passed : View P E = passes_place aim.tree source aim.name.block aim.name.node me.0 in
    test (says_armed n)
    (λ armed. lists-one i n n me _ me.0 (ap (logged i n) (cond-true (says_armed n) me.0 passed armed)) refl refl refl refl)
    (λ unarmed. lists-one i n n me _ passed (ap (logged i n) (cond-false (says_armed n) me.0 passed unarmed)) refl refl refl refl)

-- the same by the frame that the table shows
-- the same by the frame that the table shows
pub record NextPlaceAt (P E : Type 0) {O : Type 0} (board f : Frame O) : Type 0 where
  pub slots : ℕ
  pub id : ℕ
  pub cell : ℕ
  pub source : SourceRef
  pub other_source : SourceRef
  pub block : ℕ
  pub place : ℕ
  pub aim : Aim
  pub seated : Seated P E
  pub same : board ≡ f
  pub i_is : cell ≡ index board.layout (OfCallback block place)
  pub aim_is : aim ≡ aimed board (place_named block place)
  pub t_is : other_source ≡ source
  pub can : CanRun board.tree seated.0 source block place
  pub within : block < board.layout.blocks

module _ {P E O : Type 0} (cargo : Ghosts P E O) (board f : Frame O)
    (task : NextPlaceAt P E board f) where
  open task use {slots, id, cell, source, other_source as t, block as b, place as m, aim, seated, same, i_is, aim_is, t_is, can, within as hb}

  abbrev next_place : NextPlace P E board
  next_place = record {
    slots = slots;
    id = id;
    source = source;
    block = b;
    place = m;
    seated = seated;
    can = can;
    within = hb;
  }

  pub meets-at : AllowsListed cargo f slots id seated cell (λ n. n) (λ n m'. m' ≡ meets_at aim t cell n seated)
  meets-at =
      allows-listed cargo f slots id seated cell (λ n. n) (λ n m'. m' ≡ meets_at aim t cell n seated)
      (λ n m' told. subst (ListsOne cell n n seated) (sym told) (met-lists aim t cell n seated))
      (subst (λ z. Allows (Running cargo z) slots id seated cell (λ n. n) (λ n m'. m' ≡ meets_at aim t cell n seated)) same
      (subst (λ (z : ℕ × Aim × SourceRef). Allows (Running cargo board) slots id seated z.0 (λ n. n) (λ n m'. m' ≡ meets_at z.1 z.2 z.0 n seated))
      (λ k. (sym i_is k, sym aim_is k, sym t_is k))
      (meets_allowed cargo board next_place)))

  pub runs-at : (old new : ℕ) → says_armed old ≡ true → IsNewest (index board.layout (OfCallback b m)) old seated.0 →
      stamp_of new ≡ stamp_of old → callback_read new ≡ Runs →
      AllowsListed cargo f slots id seated cell (λ n. either (n == old) new n) (RunsAt aim t (step slots cell old new maybe.none) seated)
  runs-at old new armed newest stamped reads =
      allows-listed cargo f slots id seated cell (λ n. either (n == old) new n) (RunsAt aim t (step slots cell old new maybe.none) seated)
      (λ n m' told.
      dite (ℕ_discrete n old)
      (λ hit.
      subst (λ k. ListsOne cell n k seated m') (sym (ap (λ b. either b new n) (eq-eqb n old hit)))
      (lists-one cell n new seated m' _ (ap (λ z. z.0) (told.0 hit).0) refl refl refl refl))
      (λ miss.
      subst (λ k. ListsOne cell n k seated m') (sym (ap (λ b. either b new n) (ne_eqb n old miss)))
      (subst (ListsOne cell n n seated) (sym (told.1 miss).0) (met-lists aim t cell n seated))))
      (subst (λ z. Allows (Running cargo z) slots id seated cell (λ n. either (n == old) new n) (RunsAt aim t (step slots cell old new maybe.none) seated)) same
      (subst (λ (z : ℕ × Aim × SourceRef). Allows (Running cargo board) slots id seated z.0 (λ n. either (n == old) new n) (RunsAt z.1 z.2 (step slots z.0 old new maybe.none) seated))
      (λ k. (sym i_is k, sym aim_is k, sym t_is k))
      (runs_allowed cargo board next_place old new armed newest stamped reads)))

-- the hand still carries each slot once
module _ {P E : Type 0} (tree : List TreeNode) (l : Layout) (i n : ℕ) (me : Seated P E) (old : IsSeated tree l me) where
  pub run-seated : (left : ℕ) (x : Name) → IsSeated tree l (with_step i n left (runs_place x me.0), me.1)
  run-seated left x = record { apart = old.apart; given = old.given; itself = old.itself }

  pub met-seated : (aim : Aim) (source : SourceRef) → IsSeated tree l (meets_at aim source i n me)
  met-seated aim source =
      let passed : View P E = passes_place aim.tree source aim.name.block aim.name.node me.0 in
      test (says_armed n)
      (λ armed.
      subst (λ (z : View P E). IsSeated tree l (logged i n z, me.1)) (sym (cond-true (says_armed n) me.0 passed armed))
      (seated-logged tree l i n me old))
      (λ unarmed.
      subst (λ (z : View P E). IsSeated tree l (logged i n z, me.1)) (sym (cond-false (says_armed n) me.0 passed unarmed))
      (record { apart = old.apart; given = old.given; itself = old.itself }))
