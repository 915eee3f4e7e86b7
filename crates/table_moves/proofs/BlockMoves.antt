-- The exchange by which a block is claimed is a move of the pure machine.
use Rattle.std.proofs.Common.{◌≡◌, ℕ, true, not, ◌&&◌, ◌==◌, ◌<◌, ◌-◌, cond, List, length, arith, sym, ap, ◌∙◌}
use Rattle.std.specs.Prelude.{Option, nat_lt, slice_index, slice_set}
use Rattle.std.proofs.lemmas.Bool.{and_from, cond-true, lt-ltb}
use Rattle.life_rules.specs.declared.words.BlockWord.{BlockWord}
use Rattle.life_rules.specs.declared.words.BlockState.TheVariants.{Free, Open}
use Rattle.life_rules.specs.declared.words.CallbackPhase.TheVariants.{Never}
use Rattle.life_rules.specs.declared.words.ControlWord.TheVariants.{Idle}
use Rattle.life_rules.specs.declared.event.Name.{Name}
use Rattle.life_rules.specs.declared.event.Event.TheVariants.{Claim}
use Rattle.life_rules.specs.Words.{is_free, clear}
use Rattle.life_rules.specs.Views.{View as PureView, gain}
use Rattle.life_rules.specs.States.{State}
use Rattle.life_rules.specs.LifeSteps.{root_of}
use Rattle.life_rules.specs.Steps.{Step}
use Rattle.table_words.specs.Blocks.{block_read}
use Rattle.table_words.specs.Controls.{control_read, callback_read, source_read}
use Rattle.table_words.specs.ScopeNumbers.{scope_read}
use Rattle.table_words.specs.Layouts.{TheScope, TheScopeSource, OfControl, OfCallback, OfSource}
use Rattle.atomic_table.specs.Table as table
use Rattle.table_rules.specs.declared.cargo.Cargo.{Ghosts}
use Rattle.table_rules.specs.declared.frame.Frame.{Frame}
use Rattle.table_rules.specs.declared.view.View.{View}
use Rattle.table_rules.specs.ShownWords.{block_of, is_present}
use Rattle.table_rules.specs.ShownViews.{view_at}
use Rattle.table_rules.specs.Scenes.{shown}
use Rattle.table_rules.specs.Running.{Running}
use Rattle.table_steps.specs.Views.{Board}
use Rattle.table_steps.specs.Claims.{word_index, with_step, logged, owes_root, root_name}
use Rattle.table_kept.proofs.Seats.{at_within}
use Rattle.table_kept.proofs.ViewMoves.{view-here, view-set, views-same}
use Rattle.table_kept.proofs.WordMoves.{block-after, generation-after, retired-after, place-after, said-after}
use Rattle.table_laws.specs.Laws.{Has}
use Rattle.table_moves.specs.BlockMoves.{ClaimsByMove}

-- a claim of a block that was read as free
module _ {P E O : Type 0} (cargo : Ghosts P E O) (board : Board O) (block : ℕ) (generation read left : ℕ) (free : block_read read ≡ record { generation = generation; state = Free }) (opened : block_read left ≡ record { generation = generation; state = Open }) (within : block < board.frame.layout.blocks) (id : ℕ) (v : View P E) (s : table.State (Option P) (View P E)) (r : Running cargo board.frame s) (at : Has s id v) (is-read : slice_index s.words (word_index board block) ≡ read) where
  abbrev f : Frame O
  f = board.frame

  abbrev now : State
  now = shown f s

  abbrev root : Name
  root = root_name board block generation

  abbrev words : List ℕ
  words = slice_set s.words (word_index board block) left

  was : block_of f.layout s.words block ≡ record { generation = generation; state = Free }
  was =
      cond-true (nat_lt block f.layout.blocks) (block_read (slice_index s.words (word_index board block))) (record { generation = 0; state = Free })
      (lt-ltb block f.layout.blocks within)
      ∙ ap block_read is-read ∙ free

  free-now : is_free (block_of f.layout s.words block).state ≡ true
  free-now = ap (λ (w : BlockWord). is_free w.state) was

  reads : block_read left ≡ record (block_of f.layout s.words block) { state = Open }
  reads = opened ∙ (λ k. record { generation = (sym was k).generation; state = Open })

  root-is : root_of now block ≡ root
  root-is = λ k. record { block = block; generation = (was k).generation; node = length f.tree - 1 }

  present-same : (x : Name) → is_present (block_of f.layout words) x ≡ is_present (block_of f.layout s.words) x
  present-same x =
      λ k. not (retired-after f.layout s.words r.sized.words block left within free-now reads x.block k)
      && x.generation == generation-after f.layout s.words r.sized.words block left within free-now reads x.block k

  abbrev mine : View P E
  mine = with_step (word_index board block) read left (owes_root root v)

  abbrev more : Name → PureView → PureView
  more x u = record u { starts = gain x u.starts }

  view-claimed : (h : ℕ) → view_at (block_of f.layout words) (slice_set s.views id mine) h
      ≡ cond (h == id) (more (root_of now block) (now.view id)) (now.view h)
  view-claimed h =
      let before = block_of f.layout s.words in
      views-same before (block_of f.layout words) present-same (slice_set s.views id mine) h
      ∙ view-set before s.views id v mine at h
      ∙ ap (λ u. cond (h == id) (more root u) (view_at before s.views h)) (sym (view-here before s.views id v at))
      ∙ ap (λ x. cond (h == id) (more x (now.view id)) (now.view h)) (sym root-is)

  pub claim-move : (s' : table.State (Option P) (View P E)) → s'.words ≡ words → s'.views ≡ slice_set s.views id mine → Step now id (Claim block) (shown f s')
  claim-move s' words_are views_are =
      record {
        hand_is = (let l = at_within s.views id v at in let most = r.sized.seats in omega (arith, l, most));
        needs = and_from _ _ (lt-ltb block f.layout.blocks within) free-now;
        gives = (λ k. shown f record { words = words_are k; homes = s'.homes; views = views_are k })
            ∙ (λ k. record {
              tree = f.tree;
              blocks = f.layout.blocks;
              hands = f.hands;
              kind = f.kind;
              most = f.most;
              block = λ j. block-after f.layout s.words r.sized.words block left within free-now reads j k;
              control = λ j m. said-after f.layout s.words r.sized.words block left within free-now reads Idle control_read OfControl
                  (λ j m x y. (x, y)) (λ j m e. cc) j m k;
              callback = λ j m. said-after f.layout s.words r.sized.words block left within free-now reads Never callback_read OfCallback
                  (λ j m x y. (x, y)) (λ j m e. cc) j m k;
              source = λ j m. said-after f.layout s.words r.sized.words block left within free-now reads clear source_read OfSource
                  (λ j m x y. (x, y)) (λ j m e. cc) j m k;
              scope_source = source_read (place-after f.layout s.words r.sized.words block left within free-now reads TheScopeSource tt (λ e. cc) k);
              scope = scope_read (place-after f.layout s.words r.sized.words block left within free-now reads TheScope tt (λ e. cc) k);
              view = λ h. view-claimed h k;
            });
      }

pub claims-by_move : {P E O : Type 0} (cargo : Ghosts P E O) → ClaimsByMove cargo
claims-by_move cargo board block b old new within did s s' r stepped =
    claim-move cargo board block b.generation did.word did.left did.free did.opened within old.id (logged (word_index board block) did.word old.me.0)
    s r stepped.before stepped.read_is s' stepped.words_are
    (stepped.views_are ∙ ap (λ z. slice_set s.views old.id z.0) did.me_is)
