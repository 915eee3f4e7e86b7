-- The steps on the counting scope's word are moves of the pure machine.
use Rattle.std.proofs.Common.{◌≡◌, ℕ, Bool, true, false, not, ◌&&◌, ◌==◌, ◌<◌, ◌≤◌, ◌+◌, ◌-◌, cond, List, arith, refl, sym, ap, ◌∙◌, subst, eq-eqb}
use Rattle.std.specs.Prelude.{Option, nat_le, slice_set}
use Rattle.std.proofs.lemmas.Bool.{and_from, cond-true, cond-false, le-leb}
use Rattle.common_lemmas.proofs.Bool.{either}
use mathlib.Core.Option as maybe
use Rattle.life_rules.specs.declared.words.BlockWord.{BlockWord}
use Rattle.life_rules.specs.declared.words.CallbackPhase.TheVariants.{Never}
use Rattle.life_rules.specs.declared.words.ControlWord.TheVariants.{Idle}
use Rattle.life_rules.specs.declared.scope.ScopeWord.{ScopeWord}
use Rattle.life_rules.specs.Words.{clear}
use Rattle.life_rules.specs.Views.{View as PureView}
use Rattle.life_rules.specs.States.{State, with_view, with_scope}
use Rattle.life_rules.specs.Scopes.{is_refused, may_seal}
use Rattle.life_rules.specs.ScopeSteps.{agree, same_word, entered, left}
use Rattle.table_words.specs.Controls.{control_read, callback_read, source_read}
use Rattle.table_words.specs.ScopeNumbers.{scope_read}
use Rattle.table_words.specs.Layouts.{Spot, TheScope, TheScopeSource, OfControl, OfCallback, OfSource, IsSpot}
use Rattle.atomic_table.specs.Table as table
use Rattle.table_rules.specs.declared.cargo.Cargo.{Ghosts}
use Rattle.table_rules.specs.declared.frame.Frame.{Frame}
use Rattle.table_rules.specs.declared.view.View.{View}
use Rattle.table_rules.specs.ShownWords.{block_of, said, is_retired}
use Rattle.table_rules.specs.ShownViews.{view_at, shown_view}
use Rattle.table_rules.specs.Scenes.{shown}
use Rattle.table_rules.specs.Running.{Running}
use Rattle.table_steps.specs.Claims.{with_step}
use Rattle.table_steps.specs.ScopeEntries.{enters}
use Rattle.table_steps.specs.ScopeMoves.{as_joined, as_used, with_one_more, with_one_less, makes, leaves_scope}
use Rattle.table_steps.specs.ScopeSets.{closing, joining}
use Rattle.table_kept.proofs.AsideSteps.{unmoved}
use Rattle.table_kept.proofs.PlaceMoves as places
use Rattle.table_kept.proofs.Seats.{at_within}
use Rattle.table_kept.proofs.ViewMoves.{view-here, view-set, views-same}
use Rattle.table_kept.proofs.WordMoves.{word-here}
use Rattle.table_laws.specs.Laws.{Has}
use Rattle.table_moves.specs.ScopeMoves.{EntersByMove, MakesByMove, LeavesByMove, ClosesByMove, JoinsByMove, SealsByMove}

-- the scope's word was written, and the hand's view changed
module _ {P E O : Type 0} (cargo : Ghosts P E O) (f : Frame O) (s : table.State (Option P) (View P E)) (r : Running cargo f s) (id : ℕ) (v : View P E) (at : Has s id v) where
  abbrev now : State
  now = shown f s

  below : id < f.hands
  below = let l = at_within s.views id v at in let most = r.sized.seats in omega (arith, l, most)

  is-shown : now.view id ≡ shown_view (block_of f.layout s.words) v
  is-shown = view-here (block_of f.layout s.words) s.views id v at

  module _ (value : ℕ) (word : ScopeWord) (reads : scope_read value ≡ word) (mine : View P E) (u : PureView) (shows-mine : shown_view (block_of f.layout s.words) mine ≡ u) where
    abbrev words : List ℕ
    words = slice_set s.words 0 value

    block-kept : (j : ℕ) → block_of f.layout words j ≡ block_of f.layout s.words j
    block-kept = places.blocks-same f.layout s.words r.sized.words TheScope tt (λ i e. cc) value

    said-kept : {A : Type 0} (first : A) (read : ℕ → A) (spot : ℕ → ℕ → Spot) →
        ((j m : ℕ) → j < f.layout.blocks → m < f.layout.nodes → IsSpot f.layout (spot j m)) →
        ((j m : ℕ) → TheScope ≡ spot j m → ⊥) → (j m : ℕ) →
        said f.layout words first read spot j m ≡ said f.layout s.words first read spot j m
    said-kept first read spot is_spot ne j m =
        places.said-same f.layout s.words r.sized.words TheScope tt (λ i e. cc) value first read spot j m (is_spot j m) (ne j m)

    abbrev written : State
    written = with_view (with_scope now word) id u

    view-put : (h : ℕ) → view_at (block_of f.layout words) (slice_set s.views id mine) h ≡ written.view h
    view-put h =
        let before = block_of f.layout s.words in
        views-same before (block_of f.layout words)
        (λ y k. not (is_retired (block-kept y.block k).state) && y.generation == (block-kept y.block k).generation)
        (slice_set s.views id mine) h
        ∙ view-set before s.views id v mine at h
        ∙ ap (λ z. cond (h == id) z (view_at before s.views h)) shows-mine

    shown-put : (homes : List (maybe.Option (Option P))) →
        shown f record { words = words; homes = homes; views = slice_set s.views id mine } ≡ written
    shown-put homes =
        λ k. record {
          tree = f.tree;
          blocks = f.layout.blocks;
          hands = f.hands;
          kind = f.kind;
          most = f.most;
          block = λ j. block-kept j k;
          control = λ j m. said-kept Idle control_read OfControl (λ j m a b. (a, b)) (λ j m e. cc) j m k;
          callback = λ j m. said-kept Never callback_read OfCallback (λ j m a b. (a, b)) (λ j m e. cc) j m k;
          source = λ j m. said-kept clear source_read OfSource (λ j m a b. (a, b)) (λ j m e. cc) j m k;
          scope_source = source_read (places.spot-same f.layout s.words r.sized.words TheScope tt (λ i e. cc) value TheScopeSource tt (λ e. cc) k);
          scope = (ap scope_read (word-here f.layout s.words r.sized.words TheScope tt value) ∙ reads) k;
          view = λ h. view-put h k;
        }

    shown-after : (s' : table.State (Option P) (View P E)) → s'.words ≡ words → s'.views ≡ slice_set s.views id mine → shown f s' ≡ written
    shown-after s' words_are views_are =
        (λ k. shown f record { words = words_are k; homes = s'.homes; views = views_are k }) ∙ shown-put s'.homes

-- what is shown of a view that entered an association, and of one that left one
shows-enters : {P E : Type 0} (blocks : ℕ → BlockWord) (most : ℕ) (w : ScopeWord) (v : View P E) →
    shown_view blocks (enters most w v) ≡ entered w most (shown_view blocks v)
shows-enters {P} {E} blocks most w v =
    let refused : View P E = record v { refused = v.refused + 1 } in
    let made : View P E = record v { made = v.made + 1 } in
    let making : View P E = record v { making = v.making + 1 } in
    let on : View P E = cond w.used made making in
    either (is_refused w most)
    (λ t.
    ap (shown_view blocks) (cond-true (is_refused w most) refused on t)
    ∙ sym (cond-true (is_refused w most) (shown_view blocks refused) (cond w.used (shown_view blocks made) (shown_view blocks making)) t))
    (λ n.
    ap (shown_view blocks) (cond-false (is_refused w most) refused on n)
    ∙ either w.used
    (λ t. ap (shown_view blocks) (cond-true w.used made making t) ∙ sym (cond-true w.used (shown_view blocks made) (shown_view blocks making) t))
    (λ m. ap (shown_view blocks) (cond-false w.used made making m) ∙ sym (cond-false w.used (shown_view blocks made) (shown_view blocks making) m))
    ∙ sym (cond-false (is_refused w most) (shown_view blocks refused) (cond w.used (shown_view blocks made) (shown_view blocks making)) n))

shows-leaves : {P E : Type 0} (blocks : ℕ → BlockWord) (v : View P E) → shown_view blocks (leaves_scope v) ≡ left (shown_view blocks v)
shows-leaves {P} {E} blocks v =
    let refused : View P E = record v { refused = v.refused - 1 } in
    let made : View P E = record v { made = v.made - 1 } in
    either (nat_le 1 v.refused)
    (λ t. ap (shown_view blocks) (cond-true (nat_le 1 v.refused) refused made t) ∙ sym (cond-true (nat_le 1 v.refused) (shown_view blocks refused) (shown_view blocks made) t))
    (λ n. ap (shown_view blocks) (cond-false (nat_le 1 v.refused) refused made n) ∙ sym (cond-false (nat_le 1 v.refused) (shown_view blocks refused) (shown_view blocks made) n))

pub enters-by_move : {P E O : Type 0} (cargo : Ghosts P E O) → EntersByMove cargo
enters-by_move cargo board answer old new may did s s' r stepped =
    let f = board.frame in
    let id = old.id in
    let v = old.me.0 in
    let blocks = block_of f.layout s.words in
    let shows = is-shown cargo f s r id v stepped.before in
    let scope_is : (shown f s).scope ≡ answer = ap scope_read stepped.read_is ∙ sym did.answer_is in
    record {
      hand_is = below cargo f s r id v stepped.before;
      needs = subst (λ (z : PureView). (z.making + z.refused == 0) ≡ true) (sym shows) (eq-eqb _ 0 may);
      gives = shown-after cargo f s r id v stepped.before did.left (with_one_more answer) did.left_is
          (with_step 0 did.read did.left (enters f.most answer v)) (entered answer f.most ((shown f s).view id))
          (shows-enters blocks f.most answer v ∙ ap (entered answer f.most) (sym shows)) s' stepped.words_are
          (stepped.views_are ∙ ap (λ z. slice_set s.views id z.0) did.me_is)
          ∙ ap (λ (w : ScopeWord). with_view (with_scope (shown f s) (with_one_more w)) id (entered w f.most ((shown f s).view id))) (sym scope_is);
    }

pub makes-by_move : {P E O : Type 0} (cargo : Ghosts P E O) → MakesByMove cargo
makes-by_move cargo board answer old new making did s s' r stepped =
    let f = board.frame in
    let id = old.id in
    let v = old.me.0 in
    let shows = is-shown cargo f s r id v stepped.before in
    let scope_is : (shown f s).scope ≡ answer = ap scope_read stepped.read_is ∙ sym did.answer_is in
    let u : PureView = record ((shown f s).view id) { making = ((shown f s).view id).making - 1; made = ((shown f s).view id).made + 1 } in
    record {
      hand_is = below cargo f s r id v stepped.before;
      needs = le-leb 1 _ (subst (λ (z : PureView). 1 ≤ z.making) (sym shows) making);
      gives = shown-after cargo f s r id v stepped.before did.left (as_used answer) did.left_is
          (with_step 0 did.read did.left (makes v)) u
          (ap (λ (z : PureView). record z { making = z.making - 1; made = z.made + 1 }) (sym shows)) s' stepped.words_are
          (stepped.views_are ∙ ap (λ z. slice_set s.views id z.0) did.me_is)
          ∙ ap (λ (w : ScopeWord). with_view (with_scope (shown f s) (as_used w)) id u) (sym scope_is);
    }

pub leaves-by_move : {P E O : Type 0} (cargo : Ghosts P E O) → LeavesByMove cargo
leaves-by_move cargo board answer old new may did s s' r stepped =
    let f = board.frame in
    let id = old.id in
    let v = old.me.0 in
    let blocks = block_of f.layout s.words in
    let shows = is-shown cargo f s r id v stepped.before in
    let scope_is : (shown f s).scope ≡ answer = ap scope_read stepped.read_is ∙ sym did.answer_is in
    record {
      hand_is = below cargo f s r id v stepped.before;
      needs = le-leb 1 _ (subst (λ (z : PureView). 1 ≤ z.made + z.refused) (sym shows) may);
      gives = shown-after cargo f s r id v stepped.before did.left (with_one_less answer) did.left_is
          (with_step 0 did.read did.left (leaves_scope v)) (left ((shown f s).view id))
          (shows-leaves blocks v ∙ ap left (sym shows)) s' stepped.words_are
          (stepped.views_are ∙ ap (λ z. slice_set s.views id z.0) did.me_is)
          ∙ ap (λ (w : ScopeWord). with_view (with_scope (shown f s) (with_one_less w)) id (left ((shown f s).view id))) (sym scope_is);
    }

-- a step that changes no view
module _ {P E O : Type 0} (cargo : Ghosts P E O) (f : Frame O) (s : table.State (Option P) (View P E)) (r : Running cargo f s) (id : ℕ) (v : View P E) (at : Has s id v) where
  word-after : (read value : ℕ) (word : ScopeWord) → scope_read value ≡ word → (s' : table.State (Option P) (View P E)) →
      s'.words ≡ slice_set s.words 0 value → s'.views ≡ slice_set s.views id (with_step 0 read value v) → shown f s' ≡ with_scope (shown f s) word
  word-after read value word reads s' words_are views_are =
      shown-after cargo f s r id v at value word reads (with_step 0 read value v) ((shown f s).view id) (sym (is-shown cargo f s r id v at))
      s' words_are views_are
      ∙ unmoved (with_scope (shown f s) word) id

pub closes-by_move : {P E O : Type 0} (cargo : Ghosts P E O) → ClosesByMove cargo
closes-by_move cargo board answer old new did s s' r stepped =
    let f = board.frame in
    let scope_is : (shown f s).scope ≡ answer = ap scope_read stepped.read_is ∙ sym did.answer_is in
    record {
      hand_is = below cargo f s r old.id old.me.0 stepped.before;
      needs = refl;
      gives = word-after cargo f s r old.id old.me.0 stepped.before did.read did.left (closing answer) did.left_is s' stepped.words_are
          (stepped.views_are ∙ ap (λ z. slice_set s.views old.id z.0) did.me_is)
          ∙ ap (λ (w : ScopeWord). with_scope (shown f s) (closing w)) (sym scope_is);
    }

pub joins-by_move : {P E O : Type 0} (cargo : Ghosts P E O) → JoinsByMove cargo
joins-by_move cargo board answer old new did s s' r stepped =
    let f = board.frame in
    let scope_is : (shown f s).scope ≡ answer = ap scope_read stepped.read_is ∙ sym did.answer_is in
    record {
      hand_is = below cargo f s r old.id old.me.0 stepped.before;
      needs = refl;
      gives = word-after cargo f s r old.id old.me.0 stepped.before did.read did.left (joining answer) did.left_is s' stepped.words_are
          (stepped.views_are ∙ ap (λ z. slice_set s.views old.id z.0) did.me_is)
          ∙ ap (λ (w : ScopeWord). with_scope (shown f s) (joining w)) (sym scope_is);
    }

pub seals-by_move : {P E O : Type 0} (cargo : Ghosts P E O) → SealsByMove cargo
seals-by_move cargo board expected old new may did reads s s' r stepped =
    let f = board.frame in
    let scope_is : (shown f s).scope ≡ expected = ap scope_read stepped.read_is ∙ reads in
    record {
      hand_is = below cargo f s r old.id old.me.0 stepped.before;
      needs = and_from (same_word (shown f s).scope expected) (may_seal expected)
          (subst (λ z. same_word z expected ≡ true) (sym scope_is) (same-refl expected)) may;
      gives = word-after cargo f s r old.id old.me.0 stepped.before did.word did.left (as_joined expected) did.cause.1 s' stepped.words_are
          (stepped.views_are ∙ ap (λ z. slice_set s.views old.id z.0) did.me_is)
          ∙ ap (λ (w : ScopeWord). with_scope (shown f s) (as_joined w)) (sym scope_is);
    }
  where
    agree-refl : (b : Bool) → agree b b ≡ true
    agree-refl true = refl
    agree-refl false = refl

    same-refl : (w : ScopeWord) → same_word w w ≡ true
    same-refl w =
        and_from _ _ (agree-refl w.used)
        (and_from _ _ (agree-refl w.closed)
        (and_from _ _ (agree-refl w.joining) (and_from _ _ (agree-refl w.joined) (eq-eqb w.count w.count refl))))
