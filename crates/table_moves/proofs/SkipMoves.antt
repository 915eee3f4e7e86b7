-- The step by which a scan passes a free block is a move of the pure machine.
use Rattle.std.proofs.Common.{◌≡◌, ℕ, true, false, ◌&&◌, ◌==◌, ◌<◌, ◌+◌, ◌*◌, length, arith, refl, sym, ap, ◌∙◌, eq-eqb}
use Rattle.std.specs.Prelude.{Some, nat_lt, slice_index, slice_set}
use Rattle.std.specs.Option.{option_map_or}
use Rattle.std.proofs.lemmas.Bool.{and_from, both_ways, cond-true, cond-false, false_from_ne_true, lt-ltb}
use Rattle.common_lemmas.specs.Sums.{one}
use Rattle.life_rules.specs.declared.words.BlockWord.{BlockWord}
use Rattle.life_rules.specs.declared.words.BlockState.{BlockState}
use Rattle.life_rules.specs.declared.words.BlockState.TheVariants.{Free, Open, Retired}
use Rattle.life_rules.specs.declared.words.CallbackPhase.TheVariants.{Never}
use Rattle.life_rules.specs.declared.event.Name.{Name}
use Rattle.life_rules.specs.declared.event.SourceRef.TheVariants.{Scope}
use Rattle.life_rules.specs.Words.{is_free, is_open, is_running}
use Rattle.life_rules.specs.Views.{View as PureView, scan_at}
use Rattle.life_rules.specs.States.{State, is_live, phase_at, name_of}
use Rattle.life_rules.specs.Scans.{is_next, is_next_in}
use Rattle.life_rules.proofs.Readings.{lives, stand-at}
use Rattle.table_words.specs.Blocks.{block_read}
use Rattle.table_rules.specs.declared.cargo.Cargo.{Ghosts}
use Rattle.table_rules.specs.declared.view.View.{View}
use Rattle.table_rules.specs.ShownWords.{block_of}
use Rattle.table_rules.specs.ShownViews.{shown_view}
use Rattle.table_rules.specs.Scenes.{shown}
use Rattle.table_steps.specs.Claims.{word_index, logged}
use Rattle.table_steps.specs.Skips.{says_free, skips}
use Rattle.table_stop_kept.proofs.Scan.Orders.{next-place}
use Rattle.table_stop_kept.proofs.Scan.Views.{scan-passed}
use Rattle.table_kept.proofs.Seats.{at_within}
use Rattle.table_stop_kept.proofs.Scan.Skip.{some_below-from}
use Rattle.table_kept.proofs.ViewMoves.{view-here}
use Rattle.table_moves.specs.ScanMoves.{SkipsByMove}
use Rattle.table_moves.proofs.WithdrawMoves.{view-after, word-same}

free-shut : (w : BlockState) → is_free w ≡ true → is_open w ≡ false
free-shut Free e = refl
free-shut Open e = cc
free-shut Retired e = cc

pub skips-by_move : {P E O : Type 0} (cargo : Ghosts P E O) → SkipsByMove cargo
skips-by_move {P} {E} cargo board b old new hb can did s s' r stepped =
    let f = board.frame in
    let now : State = shown f s in
    let id = old.id in
    let v = old.me.0 in
    let i = word_index board b in
    let blocks = block_of f.layout s.words in
    let x : Name = name_of now b can.node in
    let is_shown : now.view id ≡ shown_view blocks v = view-here blocks s.views id v stepped.before in
    let below : id < f.hands = (let l = at_within s.views id v stepped.before in let k = r.sized.seats in omega (arith, l, k)) in
    let free_read : says_free did.word ≡ true = sym did.answer_is in
    let is_block : now.block b ≡ block_read did.word =
    cond-true (nat_lt b f.layout.blocks) (block_read (slice_index s.words i)) (record { generation = 0; state = Free }) (lt-ltb b f.layout.blocks hb)
    ∙ ap block_read stepped.read_is in
    let free : is_free (now.block b).state ≡ true = ap (λ (w : BlockWord). is_free w.state) is_block ∙ free_read in
    let dead : is_live now x ≡ false =
    false_from_ne_true (is_live now x) (λ live. both_ways (is_open (now.block b).state) (free-shut (now.block b).state free) (lives now x live).is_opened) in
    let never : phase_at now x ≡ Never = cond-false (is_live now x) (now.callback b can.node) Never dead in
    let unrun : ((now.view id).runs x == 0) ≡ true =
    (let part = stand-at now (λ w. w.runs) id x below in
    let all = r.stands.sound.runs.runs x in
    let none : one (is_running (phase_at now x)) ≡ 0 = ap (λ p. one (is_running p)) never in
    eq-eqb ((now.view id).runs x) 0 (omega (arith, part, all, none))) in
    let scans_now : (now.view id).scan Scope ≡ Some can.from = ap (λ (w : PureView). w.scan Scope) is_shown ∙ can.scans in
    let next_now : is_next_in now (now.view id) Scope x ≡ true =
    ap (λ o. option_map_or (λ j. is_next now Scope j x) o false) scans_now ∙ next-place now Scope tt can.from b can.node ∙ can.next in
    let to : ℕ = (b + 1) * length f.tree in
    let skipped : View P E = skips f.tree b v in
    record {
      hand_is = below;
      needs = and_from _ _ (lt-ltb b f.layout.blocks hb)
          (and_from _ _ free
          (some_below-from (λ m. is_next_in now (now.view id) Scope (name_of now b m) && (now.view id).runs (name_of now b m) == 0)
          (length f.tree) can.node can.within (and_from _ _ next_now unrun)));
      gives = view-after cargo f s id v stepped.before (logged i did.word skipped)
          (record (now.view id) { scan = scan_at Scope (Some to) (now.view id).scan })
          ((λ k. record (shown_view blocks v) { scan = λ t. scan-passed Scope to v.scans can.from can.scans t k })
          ∙ ap (λ (z : PureView). record z { scan = scan_at Scope (Some to) z.scan }) (sym is_shown))
          s' (stepped.words_are ∙ word-same cargo f s id v stepped.before i did.word stepped.read_is)
          (stepped.views_are ∙ ap (λ z. slice_set s.views id z.0) did.me_is
          ∙ ap (λ z. slice_set s.views id (logged i did.word z)) (cond-true (says_free did.word) skipped v free_read));
    }
