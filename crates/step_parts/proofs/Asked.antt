-- A look at the source that a node hears, in the middle of its step, and the registration of its callback there.
use Rattle.std.proofs.Common.{◌≡◌, Bool, true, false, ◌||◌, List, [], ◌∷◌, refl, sym, ap, ◌∙◌, subst}
use Rattle.std.specs.Prelude.{Option, Some, None, MatchOption, is_some}
use Rattle.std.specs.Option.{option_map_or}
use Rattle.std.proofs.lemmas.Bool.{both_ways}
use Rattle.common_lemmas.proofs.Bool.{either}
use Rattle.atomic_table.specs.declared.shared.Seat.{Seat}
use Rattle.life_rules.specs.declared.event.Name.{Name}
use Rattle.life_rules.specs.declared.event.SourceRef.{SourceRef}
use Rattle.life_rules.specs.declared.event.SourceRef.TheVariants.{Scope, Node}
use Rattle.life_rules.specs.declared.words.CallbackPhase.TheVariants.{Armed as IsArmed}
use Rattle.life_rules.specs.States.{source_for}
use Rattle.life_rules.specs.Views.{beside, same_source}
use Rattle.life_rules.proofs.Names.{same_source-refl}
use Rattle.listed_words.specs.Lists.{entry}
use Rattle.node_tree.specs.Tree.{nearest, Nearest, TheScope, TheNode, Nowhere}
use Rattle.plan_shape.specs.Blueprint.{Blueprint}
use Rattle.table_words.specs.Layouts.{index}
use Rattle.table_rules.specs.declared.view.View.{View}
use Rattle.table_rules.specs.declared.view.Held.{Held}
use Rattle.table_rules.specs.ShownViews.{has_source_ref}
use Rattle.table_steps.specs.Views.{Board}
use Rattle.table_steps.specs.Callbacks.{callback_index}
use Rattle.table_steps.specs.Seats.{Seated}
use Rattle.table_steps.specs.Sights.{spot_of, says_requested, seen_now, IsLookedAt, StillAsked, AgreesWithTold, KeepsAlive, ByNode}
use Rattle.table_steps.specs.Slots.{has_seen, held_at}
use Rattle.stop_calls.specs.declared.arming.Armed.{Armed}
use Rattle.stop_calls.specs.Armings.{is_asked, IsArmedSo}
use Rattle.home_items.specs.declared.entry.Entry.{Entry}
use Rattle.home_items.specs.declared.item.Item.{Item}
use Rattle.exec_recv.specs.Asides.{aside_of, KeepsAside}
use Rattle.exec_recv.specs.Since.{HasReadSince}
use Rattle.exec_recv.proofs.Asiding.{aside-one}
use Rattle.exec_recv.proofs.Moves.{moves-look, moves-callback}
use Rattle.exec_recv.proofs.Since.{moved-one, since-before}
use Rattle.step_parts.specs.Heard.{MaySee, was_told, has_heard, Looked}
use Rattle.step_parts.specs.Kids.{KeepsIdle}
use Rattle.step_parts.specs.Midway.{KeepsReady}
use Rattle.step_parts.proofs.Frames.{keeps-on}
use Rattle.step_parts.proofs.Noting.{NotesEntry, notes-held, notes-keeps, looks-keeps, or-true}
use Rattle.step_parts.proofs.Settled.{with_phase, phase-slight}

seen-still : (source : SourceRef) (answer : Bool) (seen : List SourceRef) (other : SourceRef) → has_source_ref seen other ≡ true →
    has_source_ref (seen_now source answer seen) other ≡ true
seen-still source true seen other is = or-true (same_source source other) (has_source_ref seen other) is
seen-still source false seen other is = is

-- a look at the source that x hears
abbrev HasLooked : Board Blueprint → Name → Bool → Seated Item Entry → Seated Item Entry → Option SourceRef → Type 0
HasLooked board x answer m m' near =
    MatchOption near (answer ≡ false) (λ source. HasReadSince (index board.frame.layout (spot_of source)) (λ word. says_requested source word ≡ answer) m m')

-- a look is one of what is done from before it on
pub looked-from : (board : Board Blueprint) (x : Name) (answer : Bool) (m before m' : Seated Item Entry) → KeepsAside m before →
    Looked board x answer before m' → Looked board x answer m m'
looked-from board x answer m before m' first looked =
    record { read = of (source_for x (nearest board.frame.tree x.node)) looked.read; yes = looked.yes; no = looked.no }
  where
    of : (near : Option SourceRef) → HasLooked board x answer before m' near → HasLooked board x answer m m' near
    of None none = none
    of (Some source) read =
        since-before (index board.frame.layout (spot_of source)) (λ word. says_requested source word ≡ answer) m before m' first read

module _ (board : Board Blueprint) (x : Name) (source : SourceRef) (after : Option Name) (answer : Bool) (old new : Seat (Option Item) (View Item Entry))
    (near : source_for x (nearest board.frame.tree x.node) ≡ Some source) (looked : IsLookedAt board source after answer old new) where
  look-aside : KeepsAside old.me new.me
  look-aside =
      record {
        same = ap (λ (z : Seated Item Entry). aside_of z.0) looked.2;
        fresh = entry (index board.frame.layout (spot_of source)) looked.0 looked.0 ∷ [];
        grown = ap (λ (z : Seated Item Entry). z.0.steps) looked.2;
        sees = λ other is.
            ap (λ (z : Seated Item Entry). has_source_ref z.0.seen other) looked.2
            ∙ seen-still source _ old.me.0.seen other is;
      }

  -- and the word was read
  look-reads : HasLooked board x answer old.me new.me (source_for x (nearest board.frame.tree x.node))
  look-reads =
      subst (λ (o : Option SourceRef). HasLooked board x answer old.me new.me o) (sym near)
      (moved-one (index board.frame.layout (spot_of source)) looked.0 looked.0 (λ word left. says_requested source word ≡ answer) old.me new.me
      (ap (λ (z : Seated Item Entry). z.0.steps) looked.2) (sym looked.1))

  pub look-keeps : KeepsReady board x old.me new.me
  look-keeps =
      looks-keeps board x old.me new.me (ap (λ (z : Seated Item Entry). z.0.held) looked.2) (ap (λ (z : Seated Item Entry). z.0.owed) looked.2)
      (ap (λ (z : Seated Item Entry). z.1) looked.2) look-aside
      (moves-look board x (index board.frame.layout (spot_of source)) looked.0 old.me new.me (ap (λ (z : Seated Item Entry). z.0.steps) looked.2))

  seen-here : (m : Seated Item Entry) → has_seen board.frame.tree m.0 x ≡ has_source_ref m.0.seen source
  seen-here m = ap (λ (o : Option SourceRef). option_map_or (has_source_ref m.0.seen) o false) near

  look-yes : answer ≡ true → has_seen board.frame.tree new.me.0 x ≡ true
  look-yes is =
      seen-here new.me
      ∙ ap (λ (z : Seated Item Entry). has_source_ref z.0.seen source) looked.2
      ∙ ap (λ b. has_source_ref (seen_now source b old.me.0.seen) source) (sym looked.1 ∙ is)
      ∙ ap (λ b. b || has_source_ref old.me.0.seen source) (same_source-refl source)

  pub look-held : held_at new.me.0 x ≡ held_at old.me.0 x
  look-held = ap (λ (z : Seated Item Entry). held_at z.0 x) looked.2

  -- where no request was read, none was heard of: one that was seen or told of would stand
  module _ (held : Held Entry) (holds : held_at old.me.0 x ≡ Some held) (still : has_source_ref old.me.0.seen source ≡ true → answer ≡ true)
      (told : held.told ≡ true → answer ≡ true) where
    look-no : answer ≡ false → has_heard board x new.me ≡ false
    look-no not =
        either (has_heard board x new.me)
        (λ t.
        either (has_seen board.frame.tree new.me.0 x)
        (λ seen.
        let before : has_source_ref old.me.0.seen source ≡ true =
        sym (ap (λ b. has_source_ref (seen_now source b old.me.0.seen) source) (sym looked.1 ∙ not))
        ∙ sym (ap (λ (z : Seated Item Entry). has_source_ref z.0.seen source) looked.2) ∙ sym (seen-here new.me) ∙ seen in
        absurd (both_ways answer not (still before)))
        (λ unseen.
        let was : was_told x new.me ≡ true = ap (λ b. b || was_told x new.me) (sym unseen) ∙ t in
        let bit : held.told ≡ true =
        sym (ap (λ (o : Option (Held Entry)). option_map_or (λ (e : Held Entry). e.told) o false) (look-held ∙ holds)) ∙ was in
        absurd (both_ways answer not (told bit))))
        (λ f. f)

    look-looked : Looked board x answer old.me new.me
    look-looked = record { read = look-reads; yes = look-yes; no = λ not some. look-no not }

  -- The hand holds x.
  module _ (held : Held Entry) (holds : held_at old.me.0 x ≡ Some held) where
    -- so the source can't go away under it
    stays-alive : KeepsAlive old.me.0 source
    stays-alive = of (nearest board.frame.tree x.node) near
      where
        some-source : (a b : SourceRef) → Some a ≡ Some b → a ≡ b
        some-source a b e = cc

        none-source : (a : SourceRef) → None ≡ Some a → ⊥
        none-source a e = cc

        of : (n : Nearest) → source_for x n ≡ Some source → KeepsAlive old.me.0 source
        of TheScope e = subst (KeepsAlive old.me.0) (some-source Scope source e) tt
        of (TheNode p) e = subst (KeepsAlive old.me.0) (some-source (Node (beside x p)) source e) (ByNode x.node held holds)
        of Nowhere e = absurd (none-source source e)

    -- and what was answered is what it knows
    pub hears-so : StillAsked old.me.0 source answer → AgreesWithTold board.frame.tree old.me.0 source answer → Looked board x answer old.me new.me
    hears-so still told = look-looked held holds (λ seen. still seen stays-alive) ((told x held holds).told near)

-- The node's callback is registered on that source, and then the source is looked at.
module _ (board : Board Blueprint) (x : Name) (answer : Armed) (old new : Seat (Option Item) (View Item Entry)) (armed : IsArmedSo board x answer old new) where
  arm-notes : NotesEntry board x (with_phase IsArmed) old.me armed.middle.me
  arm-notes =
      let so = armed.armed.me_is in
      record {
        held = ap (λ (z : Seated Item Entry). z.0.held) so;
        owed = ap (λ (z : Seated Item Entry). z.0.owed) so;
        homes = ap (λ (z : Seated Item Entry). z.1) so;
        aside = aside-one (entry (callback_index board x) armed.armed.read armed.armed.left) old.me armed.middle.me
            (ap (λ (z : Seated Item Entry). aside_of z.0) so) (ap (λ (z : Seated Item Entry). z.0.steps) so)
            (ap (λ (z : Seated Item Entry). z.0.seen) so);
        moves = moves-callback board x armed.armed.read armed.armed.left old.me armed.middle.me (ap (λ (z : Seated Item Entry). z.0.steps) so);
      }

  pub arm-keeps : KeepsReady board x old.me new.me
  arm-keeps =
      keeps-on board x old.me armed.middle.me new.me
      (notes-keeps board x (with_phase IsArmed) (phase-slight IsArmed) old.me armed.middle.me arm-notes)
      (look-keeps board x armed.source (Some x) (is_asked answer) armed.middle new armed.nearest_is armed.looked)

  module _ (held : Held Entry) (holds : held_at old.me.0 x ≡ Some held) where
    armed-held : held_at armed.middle.me.0 x ≡ Some (with_phase IsArmed held)
    armed-held = notes-held board x (with_phase IsArmed) (phase-slight IsArmed) old.me armed.middle.me arm-notes held holds

    -- the hand knows it armed
    pub arm-held : held_at new.me.0 x ≡ Some (with_phase IsArmed held)
    arm-held = look-held board x armed.source (Some x) (is_asked answer) armed.middle new armed.nearest_is armed.looked ∙ armed-held

    pub arm-looks : Looked board x (is_asked answer) old.me new.me
    arm-looks =
        looked-from board x (is_asked answer) old.me armed.middle.me new.me arm-notes.aside
        (look-looked board x armed.source (Some x) (is_asked answer) armed.middle new armed.nearest_is armed.looked (with_phase IsArmed held)
        armed-held
        (λ seen. armed.stands (sym (ap (λ (z : Seated Item Entry). has_source_ref z.0.seen armed.source) armed.armed.me_is) ∙ seen))
        ((armed.told x held holds).told armed.nearest_is))

  -- and of which children it knew that they haven't begun
  pub arm-idle : KeepsIdle x old.me new.me
  arm-idle =
      record {
        held = λ before had. with_phase IsArmed before;
        holds = arm-held;
        still = λ before had n knows. knows;
      }

pub idle-here : (x : Name) (m : Seated Item Entry) → KeepsIdle x m m
idle-here x m = record { held = λ before had. before; holds = λ before had. had; still = λ before had n knows. knows }

-- where x hears no source, there is no look
pub deaf-looked : (board : Board Blueprint) (x : Name) (m : Seated Item Entry) → source_for x (nearest board.frame.tree x.node) ≡ None → Looked board x false m m
deaf-looked board x m near =
    record {
      read = subst (λ (o : Option SourceRef). HasLooked board x false m m o) (sym near) refl;
      yes = λ e. cc;
      no = λ e some. absurd (none-some (source_for x (nearest board.frame.tree x.node)) near some);
    }
  where
    none-some : (o : Option SourceRef) → o ≡ None → is_some o ≡ true → ⊥
    none-some None e t = cc
    none-some (Some s) e t = cc

-- what a look answers may be said of what was seen
pub look-sees : (board : Board Blueprint) (x : Name) (answer : Bool) (m m' : Seated Item Entry) → Looked board x answer m m' → MaySee board x answer m'
look-sees board x false m m' looked none = refl
look-sees board x true m m' looked none =
    absurd (both_ways (has_heard board x m') none (ap (λ b. b || was_told x m') (looked.yes refl)))
