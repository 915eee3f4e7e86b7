-- Which steps of a scan begin the run of a callback: of each due one, that of its place.
use Rattle.std.proofs.Common.{◌≡◌, inl, inr, ℕ, zero, suc, Bool, true, false, List, [], ◌∷◌, ◌++◌, append_assoc, refl, sym, ap, ◌∙◌, arith}
use Rattle.std.specs.Prelude.{Option, Some, if◌then◌else◌}
use Rattle.std.proofs.lemmas.Bool.{cases_lt}
use Rattle.life_rules.specs.declared.event.Name.{Name}
use Rattle.life_rules.specs.declared.event.SourceRef.{SourceRef}
use Rattle.life_rules.specs.declared.event.SourceRef.TheVariants.{Scope, Node}
use Rattle.life_rules.specs.declared.words.CallbackPhase.TheVariants.{Armed, Running, Ran}
use Rattle.life_rules.specs.States.{source_for}
use Rattle.life_rules.specs.Views.{beside}
use Rattle.node_tree.specs.Tree.{nearest, Nearest, TheScope, TheNode, Nowhere}
use Rattle.atomic_table.specs.declared.shared.Seat.{Seat}
use Rattle.listed_words.specs.declared.seen.Seen.{Seen}
use Rattle.listed_words.specs.Lists.{entry}
use Rattle.plan_shape.specs.Blueprint.{Blueprint}
use Rattle.table_words.specs.Controls.{callback_read}
use Rattle.table_words.specs.Layouts.{Spot, TheScopeSource, OfControl, OfCallback, OfSource, IsSpot, index}
use Rattle.table_words.proofs.Spots.{apart}
use Rattle.table_rules.specs.declared.view.View.{View}
use Rattle.table_rules.specs.Named.{Each}
use Rattle.table_steps.specs.Views.{Board, IsPlaceIn}
use Rattle.table_steps.specs.Claims.{word_index}
use Rattle.table_steps.specs.Seats.{Seated}
use Rattle.table_steps.specs.Callbacks.{callback_index}
use Rattle.table_steps.specs.Lefts.{SaysCallback}
use Rattle.table_steps.specs.Remembers.{running}
use Rattle.table_steps.specs.Runs.{HasPassed, last_of, listed, run_index}
use Rattle.table_steps.specs.ScanSeals.{IsScanSealed}
use Rattle.table_steps.specs.Sights.{IsSourceIn, spot_of}
use Rattle.table_steps.specs.Skips.{IsSkipped, says_free, skips}
use Rattle.table_steps.specs.Steps.{control_index}
use Rattle.stop_calls.specs.declared.scanning.Scan.{Scan}
use Rattle.stop_calls.specs.Removals.{IsOver}
use Rattle.stop_calls.specs.Walks.{Passes, Walks, IsFound, IsThrough}
use Rattle.home_items.specs.declared.entry.Entry.{Entry}
use Rattle.home_items.specs.declared.item.Item.{Item}
use Rattle.exec_recv.specs.Actions.{BeginsRun, ListsActions, Acts}
use Rattle.exec_recv.specs.Areas.{IsWithin}
use Rattle.exec_recv.proofs.Acting.{BeginsNone, AddsOthers, MayReach, each-both, others-here, others-one, others-on, place-within, within-more, all-more, due-act, lists-others, lists-on}

same-name : (x y : Name) → x.block ≡ y.block → x.generation ≡ y.generation → x.node ≡ y.node → x ≡ y
same-name x y block generation node = λ k. record { block = block k; generation = generation k; node = node k }

same-node : (a b : Name) → Some (Node a) ≡ Some (Node b) → a ≡ b
same-node a b is = cc

armed-other : Armed ≡ Running → ⊥
armed-other is = cc

ran-other : Ran ≡ Running → ⊥
ran-other is = cc

-- words that aren't a callback's
scope-other : (block node : ℕ) → TheScopeSource ≡ OfCallback block node → ⊥
scope-other block node is = cc

control-other : (b n block node : ℕ) → OfControl b n ≡ OfCallback block node → ⊥
control-other b n block node is = cc

source-other : (b n block node : ℕ) → OfSource b n ≡ OfCallback block node → ⊥
source-other b n block node is = cc

same-place : (b n block node : ℕ) → OfCallback b n ≡ OfCallback block node → (block ≡ b) × (node ≡ n)
same-place b n block node is = (cc, cc)

abbrev steps_of : View Item Entry → List Seen
steps_of v = v.steps

module _ (board : Board Blueprint) where
  -- a step begins no run that leaves the word as it read it, that leaves the word of a callback which ran, or that
  -- is on another word than a callback's
  kept-none : (i word : ℕ) → BeginsNone board (entry i word word)
  kept-none i word y begins = armed-other (sym begins.armed.reads ∙ begins.running.reads)

  ran-none : (i read left : ℕ) → callback_read left ≡ Ran → BeginsNone board (entry i read left)
  ran-none i read left ran y begins = ran-other (sym ran ∙ begins.running.reads)

  other-none : (spot : Spot) → IsSpot board.frame.layout spot → ((block node : ℕ) → spot ≡ OfCallback block node → ⊥) → (read left : ℕ) →
      BeginsNone board (entry (index board.frame.layout spot) read left)
  other-none spot there other read left y begins =
      other y.block y.node
      (apart board.frame.layout spot (OfCallback y.block y.node) there (begins.place.block, begins.place.node) begins.index_is)

  pub control-none : (x : Name) → IsPlaceIn board x → (read left : ℕ) → BeginsNone board (entry (control_index board x) read left)
  control-none x place read left =
      other-none (OfControl x.block x.node) (place.block, place.node) (control-other x.block x.node) read left

  pub source-none : (source : SourceRef) → IsSourceIn board source → (read left : ℕ) →
      BeginsNone board (entry (index board.frame.layout (spot_of source)) read left)
  source-none Scope is_one read left = other-none TheScopeSource is_one.spot scope-other read left
  source-none (Node x) is_one read left = other-none (OfSource x.block x.node) is_one.spot (source-other x.block x.node) read left

  -- one that leaves the callback of x running begins no other's run
  run-of : (x : Name) → IsPlaceIn board x → (read left : ℕ) → SaysCallback x Running left → (y : Name) →
      BeginsRun board y (entry (run_index board x.block x.node) read left) → y ≡ x
  run-of x place read left says y begins =
      let at =
      same-place x.block x.node y.block y.node
      (apart board.frame.layout (OfCallback x.block x.node) (OfCallback y.block y.node) (place.block, place.node)
      (begins.place.block, begins.place.node) begins.index_is) in
      same-name y x at.0 (sym begins.running.stamp_is ∙ says.stamp_is) at.1

  -- the scan of its source may come to a place
  reached : (source : SourceRef) (x : Name) (n : Nearest) → source_for x n ≡ Some source → MayReach board source x
  reached Scope x n near = tt
  reached (Node y) x TheScope near = cc
  reached (Node y) x (TheNode p) near = ap (λ (z : Name). z.block) (same-node (beside x p) y near)
  reached (Node y) x Nowhere near = cc

  -- words that were read and stayed
  listed-others : (source : SourceRef) (i : ℕ) (words : List ℕ) (l : List Seen) → AddsOthers board source l (listed i words l)
  listed-others source i [] l = others-here board source l l refl
  listed-others source i (word ∷ words) l =
      others-on board source l (entry i word word ∷ l) (listed i (word ∷ words) l)
      (others-one board source (entry i word word) l (entry i word word ∷ l) refl (kept-none i word) (inl refl))
      (listed-others source i words (entry i word word ∷ l))

  skips-steps : (b : Bool) (v w : View Item Entry) → w.steps ≡ v.steps → steps_of (if b then w else v) ≡ v.steps
  skips-steps true v w same = same
  skips-steps false v w same = refl

  module _ (source : SourceRef) (old new : Seat (Option Item) (View Item Entry)) where
    block-others : (block : ℕ) (free : Bool) → IsSkipped board block free old new → AddsOthers board source old.me.0.steps new.me.0.steps
    block-others block free told =
        let v = old.me.0 in
        let step : Seen = entry (word_index board block) told.word told.word in
        others-one board source step v.steps new.me.0.steps
        (ap (λ (z : Seated Item Entry). z.0.steps) told.me_is
        ∙ ap (λ (l : List Seen). step ∷ l) (skips-steps (says_free told.word) v (skips board.frame.tree block v) refl))
        (kept-none (word_index board block) told.word) (inl refl)

    place-others : (block node : ℕ) → HasPassed board source block node old new → AddsOthers board source old.me.0.steps new.me.0.steps
    place-others block node told =
        let i : ℕ = run_index board block node in
        let l = old.me.0.steps in
        others-on board source l (listed i told.words l) new.me.0.steps (listed-others source i told.words l)
        (others-one board source (entry i told.last told.last) (listed i told.words l) new.me.0.steps
        (ap (λ (z : Seated Item Entry). z.0.steps) told.me_is) (kept-none i told.last) (inl refl))

    passes-others : (read read' : Option ℕ) → Passes board source read read' old new → AddsOthers board source old.me.0.steps new.me.0.steps
    passes-others read read' passes =
        elim passes [
          | inl p ↦ block-others p.0 true p.1.reads.told
          | inr q ↦ elim q [
            | inl e ↦ block-others e.0 false e.1.reads.told
            | inr p ↦ place-others p.block p.node p.told
          ]
        ]

  walks-others : (source : SourceRef) (count : ℕ) (read : Option ℕ) (old new : Seat (Option Item) (View Item Entry)) → Walks board source count read old new →
      AddsOthers board source old.me.0.steps new.me.0.steps
  walks-others source zero read old new walks =
      others-here board source old.me.0.steps new.me.0.steps (ap (λ (z : Seated Item Entry). z.0.steps) walks.1)
  walks-others source (suc count) read old new walks =
      others-on board source old.me.0.steps walks.1.me.0.steps new.me.0.steps (walks-others source count walks.0 old walks.1 walks.2)
      (passes-others source walks.1 new walks.0 read walks.3)

  -- A scan's next.
  pub through-others : (before after : Scan) (old new : Seat (Option Item) (View Item Entry)) → IsThrough board before old new after →
      AddsOthers board before.source old.me.0.steps new.me.0.steps
  through-others before after old new t = walks-others before.source t.count t.read old new t.passed

  -- the newest of the new steps begins the run of x, and no others begin one
  pub record AddsRun (source : SourceRef) (x : Name) (l l' : List Seen) : Type 0 where
    pub newest : Seen
    pub others : List Seen
    pub is : l' ≡ newest ∷ others ++ l
    pub of : (y : Name) → BeginsRun board y newest → y ≡ x
    pub none : Each (BeginsNone board) others
    pub reach : MayReach board source x
    pub within : Each (IsWithin board source) (newest ∷ others)

  found-run : (before after : Scan) (old new : Seat (Option Item) (View Item Entry)) (x : Name) → IsPlaceIn board x → IsFound board before old new after x →
      AddsRun before.source x old.me.0.steps new.me.0.steps
  found-run before after old new x place f =
      let b = f.begun in
      let i : ℕ = run_index board x.block x.node in
      let mid = f.middle.me.0.steps in
      let words : List ℕ = b.word ∷ b.tries in
      let adds =
      others-on board before.source old.me.0.steps mid (listed i words mid) (walks-others before.source f.count f.read old f.middle f.passed)
      (listed-others before.source i words mid) in
      let newest : Seen = entry i (last_of b.word b.tries) b.left in
      let reach = reached before.source x (nearest board.frame.tree x.node) b.of_scan.nearest_is in
      record {
        newest = newest;
        others = adds.made;
        is = ap (λ (z : Seated Item Entry). z.0.steps) b.me_is ∙ ap (λ (l : List Seen). newest ∷ l) adds.is;
        of = run-of x place (last_of b.word b.tries) b.left b.says;
        none = adds.others;
        reach = reach;
        within = (
          within-more board before.source x reach newest
              (place-within board x (OfCallback x.block x.node) (place.block, place.node) refl (last_of b.word b.tries) b.left),
          adds.within,
        );
      }

  -- the end of a run
  over-others : (source : SourceRef) (x : Name) → IsPlaceIn board x → MayReach board source x → (old new : Seat (Option Item) (View Item Entry)) →
      IsOver board x old new → AddsOthers board source old.me.0.steps new.me.0.steps
  over-others source x place reach old new over =
      elim (cases_lt 0 (running old.me.0 x)) [
        | inl some ↦
            let e = over.ends (omega (arith, some)) in
            others-one board source (entry (callback_index board x) e.read e.left) old.me.0.steps new.me.0.steps
            (ap (λ (z : Seated Item Entry). z.0.steps) e.me_is) (ran-none (callback_index board x) e.read e.left e.says.reads)
            (within-more board source x reach _
            (place-within board x (OfCallback x.block x.node) (place.block, place.node) refl e.read e.left))
        | inr none ↦
            others-here board source old.me.0.steps new.me.0.steps
            (ap (λ (z : Seated Item Entry). z.0.steps) (over.was_removed (omega (arith, none))))
      ]

  -- the word of the source itself
  pub source-within : (source : SourceRef) → IsSourceIn board source → (read left : ℕ) →
      IsWithin board source (entry (index board.frame.layout (spot_of source)) read left)
  source-within Scope is_one read left = inr (record { spot = TheScopeSource; is = is_one.spot; may = tt; index_is = refl })
  source-within (Node y) is_one read left =
      inr (record { spot = OfSource y.block y.node; is = is_one.spot; may = refl; index_is = refl })

  -- and a scan's seal
  pub sealed-others : (source : SourceRef) (old new : Seat (Option Item) (View Item Entry)) → IsSourceIn board source → IsScanSealed board source old new →
      AddsOthers board source old.me.0.steps new.me.0.steps
  sealed-others source old new is_one sealed =
      others-one board source (entry (index board.frame.layout (spot_of source)) sealed.read sealed.left) old.me.0.steps new.me.0.steps
      (ap (λ (z : Seated Item Entry). z.0.steps) sealed.me_is) (source-none source is_one sealed.read sealed.left)
      (source-within source is_one sealed.read sealed.left)

  -- From due to due: the callback's run begins, it acts, and its run ends.
  module _ (plan : Blueprint) (before after : Scan) (old new mid end : Seat (Option Item) (View Item Entry)) (x : Name) where
    pub due-lists : IsPlaceIn board x → IsFound board before old new after x → Acts board plan x new.me mid.me → IsOver board x mid end →
        ListsActions board plan before.source old.me end.me
    due-lists place f acts over =
        let run = found-run before after old new x place f in
        let made = acts.lists.steps.made in
        let ran : ListsActions board plan before.source old.me mid.me =
        record {
          steps = record {
            made = made ++ run.newest ∷ run.others;
            is =
                acts.lists.steps.is ∙ ap (λ (l : List Seen). made ++ l) run.is
                ∙ sym (append_assoc made (run.newest ∷ run.others) old.me.0.steps);
          };
          within = each-both (IsWithin board before.source) made (run.newest ∷ run.others)
              (all-more board before.source x run.reach made acts.lists.within) run.within;
          act = due-act board plan x run.newest run.of run.others run.none made acts.lists.act acts.acted;
        } in
        lists-on board plan before.source old.me mid.me end.me ran
        (lists-others board plan before.source mid.me end.me (over-others before.source x place run.reach mid end over))
