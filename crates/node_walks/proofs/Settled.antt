-- How the callback of a root is settled: a phase that was read is noted, and a removal doesn't wait.
use Rattle.std.proofs.Common.{◌≡◌, true, ◌||◌, List, [], ◌∷◌, arith, refl, sym, ap, ◌∙◌}
use Rattle.std.specs.Prelude.{Option, Some, None}
use Rattle.std.specs.Option.{option_map_or}
use Rattle.std.proofs.lemmas.Bool.{cond-true, cond-false}
use Rattle.common_lemmas.proofs.Bool.{either}
use Rattle.atomic_table.specs.declared.shared.Seat.{Seat}
use Rattle.life_rules.specs.declared.event.Name.{Name}
use Rattle.life_rules.specs.declared.event.SourceRef.{SourceRef}
use Rattle.life_rules.specs.declared.event.SourceRef.TheVariants.{Node}
use Rattle.life_rules.specs.declared.words.CallbackPhase.{CallbackPhase}
use Rattle.life_rules.specs.declared.words.CallbackPhase.TheVariants.{Armed, Ran as HasRun, Removed}
use Rattle.life_rules.specs.States.{source_for}
use Rattle.life_rules.specs.Views.{same, same_source}
use Rattle.listed_words.specs.Lists.{entry}
use Rattle.node_tree.specs.Tree.{nearest}
use Rattle.plan_shape.specs.Blueprint.{Blueprint}
use Rattle.table_rules.specs.declared.view.View.{View}
use Rattle.table_rules.specs.declared.view.Held.{Held}
use Rattle.table_rules.specs.declared.view.Scanning.{Scanning}
use Rattle.table_rules.specs.Named.{count_by, find_by}
use Rattle.table_rules.specs.ShownViews.{has_source_ref, scan_in}
use Rattle.table_steps.specs.Views.{Board}
use Rattle.table_steps.specs.Callbacks.{callback_index, is_registered, left_by}
use Rattle.table_steps.specs.Seats.{Seated}
use Rattle.table_steps.specs.Finishes.{is_settled}
use Rattle.table_steps.specs.Readings.{at_entry, Holds, IsPhaseAs}
use Rattle.table_steps.specs.Slots.{slot_of, kept}
use Rattle.table_words.specs.Layouts.{place_number}
use Rattle.stop_calls.specs.Removals.{MayWithdraw, IsReadAs, IsInside}
use Rattle.home_items.specs.declared.entry.Entry.{Entry}
use Rattle.home_items.specs.declared.item.Item.{Item}
use Rattle.exec_recv.specs.Areas.{MovesWithin}
use Rattle.exec_recv.specs.Asides.{Aside, aside_of, KeepsAside}
use Rattle.exec_recv.proofs.Moves.{moves-look, moves-callback, moves-on}
use Rattle.exec_recv.proofs.Asiding.{aside-on, aside-one}
use Rattle.node_walks.specs.Emptied.{HasEmptyRoot, SettlesRoot}

abbrev at_held : Held Entry → Name
at_held e = e.name

none-some : {A : Type 0} (e : A) → None ≡ Some e → ⊥
none-some e is = cc

some-same : {A : Type 0} (a b : A) → Some a ≡ Some b → a ≡ b
some-same a b e = cc

-- a source that came to a list of requests that were seen leaves the others there
more-seen : (near : Option SourceRef) (seen : List SourceRef) (source : SourceRef) → has_source_ref seen source ≡ true →
    has_source_ref (option_map_or (λ s. s ∷ seen) near seen) source ≡ true
more-seen None seen source is = is
more-seen (Some near) seen source is =
    either (same_source near source) (λ t. ap (λ b. b || has_source_ref seen source) t)
    (λ f. ap (λ b. b || has_source_ref seen source) f ∙ is)

abbrev with_phase : CallbackPhase → Held Entry → Held Entry
with_phase phase e = record e { phase = Some phase }

module _ (board : Board Blueprint) (x : Name) (m m' : Seated Item Entry) (empty : HasEmptyRoot board x m) where
  -- the one entry that is held is of the root
  pub held-name : same empty.held.name x ≡ true
  held-name =
      either (same empty.held.name x) (λ t. t)
      (λ f.
      absurd
      (none-some empty.held
      (sym (cond-false (same empty.held.name x) (Some empty.held) None f)
      ∙ sym (ap (λ (l : List (Held Entry)). find_by at_held l x) empty.alone) ∙ empty.tends.holds)))

  -- the phase that was noted of it is all that changed, beside a request that was seen
  module _ (phase : CallbackPhase) (aside : KeepsAside m m') (held : m'.0.held ≡ at_entry at_held (with_phase phase) x m.0.held)
      (owed : m'.0.owed ≡ m.0.owed) (homes : m'.1 ≡ m.1) where
    pub noted-alone : m'.0.held ≡ with_phase phase empty.held ∷ []
    noted-alone =
        held ∙ ap (at_entry at_held (with_phase phase) x) empty.alone
        ∙ cond-true (same empty.held.name x) (with_phase phase empty.held ∷ []) (empty.held ∷ []) held-name

    abbrev pub noted-empty : HasEmptyRoot board x m'
    noted-empty =
        record {
          first = ap (λ (a : Aside). a.number) aside.same ∙ empty.first;
          root = empty.root;
          hears = empty.hears;
          places = empty.places;
          runs = ap (λ (a : Aside). a.runs) aside.same ∙ empty.runs;
          scans = ap (λ (a : Aside). a.scans) aside.same ∙ empty.scans;
          held = with_phase phase empty.held;
          tends = record {
            holds = ap (λ (l : List (Held Entry)). find_by at_held l x) noted-alone
                ∙ cond-true (same empty.held.name x) (Some (with_phase phase empty.held)) None held-name;
            own = ap (λ cs. kept (slot_of board.frame.layout x) cs) homes ∙ empty.tends.own;
            kids = λ n child. ap (λ cs. kept (place_number board.frame.layout x.block n) cs) homes ∙ empty.tends.kids n child;
          };
          alone = noted-alone;
        }

    pub noted-settled : MovesWithin board x m m' → is_settled phase ≡ true → SettlesRoot board x m m'
    noted-settled moves settled =
        record { keeps = aside; moves = moves; owed = owed; is = record { empty = noted-empty; settled = settled } }

  -- so it is where the phase was read
  module _ (phase : CallbackPhase) (read : IsPhaseAs board.frame x phase m m') where
    pub read-aside : KeepsAside m m'
    read-aside =
        aside-one (entry (callback_index board x) read.0 read.0) m m' (ap (λ (z : Seated Item Entry). aside_of z.0) read.2)
        (ap (λ (z : Seated Item Entry). z.0.steps) read.2) (ap (λ (z : Seated Item Entry). z.0.seen) read.2)

    pub read-moves : MovesWithin board x m m'
    read-moves = moves-look board x (callback_index board x) read.0 m m' (ap (λ (z : Seated Item Entry). z.0.steps) read.2)

    pub read-held : m'.0.held ≡ at_entry at_held (with_phase phase) x m.0.held
    read-held =
        ap (λ (z : Seated Item Entry). z.0.held) read.2
        ∙ ap (λ (p : CallbackPhase). at_entry at_held (with_phase p) x m.0.held) (sym read.1)

    pub read-owed : m'.0.owed ≡ m.0.owed
    read-owed = ap (λ (z : Seated Item Entry). z.0.owed) read.2

    abbrev pub read-empty : HasEmptyRoot board x m'
    read-empty = noted-empty phase read-aside read-held read-owed (ap (λ (z : Seated Item Entry). z.1) read.2)

    pub read-settled : is_settled phase ≡ true → SettlesRoot board x m m'
    read-settled settled =
        noted-settled phase read-aside read-held read-owed (ap (λ (z : Seated Item Entry). z.1) read.2) read-moves settled

    pub read-keeps : KeepsAside m m'
    read-keeps = read-aside

    pub may-withdraw : is_registered phase ≡ true → MayWithdraw m'.0 x
    may-withdraw registered =
        record {
          held = read-empty.held;
          holds = read-empty.tends.holds;
          known = phase;
          known_is = refl;
          registered = registered;
          unscanned = λ runs. ap (λ (l : List Scanning). scan_in l (Node x)) read-empty.scans;
        }

-- the hand can read the phase
pub can-read : (board : Board Blueprint) (x : Name) (m : Seated Item Entry) → HasEmptyRoot board x m → Holds m.0 x
can-read board x m empty = record { held = empty.held; holds = empty.tends.holds }

module _ (board : Board Blueprint) (x : Name) (old new : Seat (Option Item) (View Item Entry)) (empty : HasEmptyRoot board x old.me) where
  -- it was armed, and is removed
  pub armed-settled : IsReadAs board x old new Armed → SettlesRoot board x old.me new.me
  armed-settled tried =
      let is = tried.told.me_is in
      noted-settled board x old.me new.me empty Removed
      (aside-one (entry (callback_index board x) tried.told.word _) old.me new.me (ap (λ (z : Seated Item Entry). aside_of z.0) is)
      (ap (λ (z : Seated Item Entry). z.0.steps) is) (ap (λ (z : Seated Item Entry). z.0.seen) is))
      (ap (λ (z : Seated Item Entry). z.0.held) is) (ap (λ (z : Seated Item Entry). z.0.owed) is) (ap (λ (z : Seated Item Entry). z.1) is)
      (moves-callback board x tried.told.word _ old.me new.me (ap (λ (z : Seated Item Entry). z.0.steps) is)) refl

  -- or it ran, and the request was seen
  pub ran-settled : IsReadAs board x old new HasRun → SettlesRoot board x old.me new.me
  ran-settled tried =
      let is = tried.told.me_is in
      noted-settled board x old.me new.me empty HasRun
      (record {
        same = ap (λ (z : Seated Item Entry). aside_of z.0) is;
        fresh = entry (callback_index board x) tried.told.word (left_by x.generation tried.told.word) ∷ [];
        grown = ap (λ (z : Seated Item Entry). z.0.steps) is;
        sees = λ source seen.
            ap (λ (z : Seated Item Entry). has_source_ref z.0.seen source) is
            ∙ more-seen (source_for x (nearest board.frame.tree x.node)) old.me.0.seen source seen;
      })
      (ap (λ (z : Seated Item Entry). z.0.held) is) (ap (λ (z : Seated Item Entry). z.0.owed) is) (ap (λ (z : Seated Item Entry). z.1) is)
      (moves-callback board x tried.told.word (left_by x.generation tried.told.word) old.me new.me (ap (λ (z : Seated Item Entry). z.0.steps) is)) refl

  -- the hand runs no callback
  pub not-inside : IsInside board x old new → ⊥
  not-inside inside =
      let runs = inside.runs in
      let none : count_by (λ (y : Name). y) old.me.0.runs x ≡ 0 = ap (λ (l : List Name). count_by (λ (y : Name). y) l x) empty.runs in
      omega (arith, runs, none)

-- calls that follow each other
pub settled-on : (board : Board Blueprint) (x : Name) (m between m' : Seated Item Entry) → KeepsAside m between → MovesWithin board x m between →
    between.0.owed ≡ m.0.owed → SettlesRoot board x between m' → SettlesRoot board x m m'
settled-on board x m between m' first moves owed next =
    record {
      keeps = aside-on m between m' first next.keeps;
      moves = moves-on board x m between m' moves next.moves;
      owed = next.owed ∙ owed;
      is = next.is;
    }
