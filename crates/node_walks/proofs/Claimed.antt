-- What a hand at rest has after it claimed a block and put a start into the home of its root.
use Rattle.std.proofs.Common.{◌≡◌, inl, inr, ℕ, zero, suc, ◌+◌, ◌≤◌, Bool, true, false, List, [], ◌∷◌, length, arith, refl, sym, ap, ◌∙◌, subst}
use Rattle.std.specs.Prelude.{Option, Some, None}
use Rattle.std.proofs.lemmas.Bool.{cond-true, cond-false}
use Rattle.common_lemmas.specs.Sums.{one}
use Rattle.common_lemmas.proofs.Bool.{either}
use Rattle.atomic_table.specs.declared.shared.Seat.{Seat}
use Rattle.life_rules.specs.declared.event.Name.{Name}
use Rattle.life_rules.specs.Views.{same}
use Rattle.life_rules.proofs.Names.{same-true, same-refl}
use Rattle.listed_words.specs.Lists.{entry}
use Rattle.plan_shape.specs.Blueprint.{Blueprint}
use Rattle.table_rules.specs.declared.view.View.{View}
use Rattle.table_rules.specs.declared.view.Owed.{Owed}
use Rattle.table_rules.specs.Named.{find_by, count_by, Each}
use Rattle.table_steps.specs.declared.block.Block.{Block}
use Rattle.table_steps.specs.Views.{Board}
use Rattle.table_steps.specs.Claims.{root_name, word_index, logged, Missed}
use Rattle.table_steps.specs.Seats.{Seated}
use Rattle.table_steps.specs.Slots.{has_seen}
use Rattle.table_steps.specs.Steps.{control_index}
use Rattle.op_slot.specs.Puts.{FitsOwed, CanPut, IsPut}
use Rattle.op_slot.specs.Searches.{block_round, IsMissedFrom, IsFoundFrom}
use Rattle.op_slot.specs.Tends.{Owes as OwesWith}
use Rattle.op_slot.proofs.Found.{round-owes}
use Rattle.op_slot.proofs.Leaving.{owes-fits, owes-puts}
use Rattle.op_slot.proofs.Searching.{missed-from_same}
use Rattle.op_slot.proofs.Tending.{swapped-home}
use Rattle.home_items.specs.contracts.item.ItemCargo.TheImpl.{ghosts}
use Rattle.home_items.specs.declared.entry.Entry.{Entry}
use Rattle.home_items.specs.declared.item.Item.{Item}
use Rattle.home_items.specs.Contents.{Start}
use Rattle.home_items.specs.Entries.{plan_of, node_of, drawn_of}
use Rattle.home_items.specs.Fits.{FitsHome, FitsChild}
use Rattle.home_items.specs.Starts.{IsReceiver, IsReceiverStart}
use Rattle.exec_recv.specs.Asides.{Aside, aside_of}
use Rattle.exec_recv.specs.Beginnings.{CanStart, AllCanStart}
use Rattle.exec_recv.specs.Over.{IsOver}
use Rattle.node_walks.specs.Resting.{IsAtRest, HasOnlyStarts}
use Rattle.node_walks.specs.Starts.{CanRun, IsStartPlaced, with_claimed}
use Rattle.node_walks.proofs.Growing.{Grows, grows-here, grows-one, grows-on, leaves-with}
use Rattle.node_walks.proofs.Tops.{root-number, root-place}

abbrev at_owed : Owed Entry → Name
at_owed e = e.name

one-most : (b : Bool) → 0 + one b ≤ 1
one-most true = omega arith
one-most false = omega arith

none-some : {A : Type 0} (e : A) → None ≡ Some e → ⊥
none-some e is = cc

-- a start of the receiver node is one entry
pub one-entry : (start : List Entry) → IsReceiverStart start → (e : Entry) × (start ≡ e ∷ []) × IsReceiver e
one-entry [] is = absurd is
one-entry (e ∷ []) is = (e, refl, is)
one-entry (e ∷ p ∷ above) is = absurd is

-- and fits the receiver node's home, whatever was requested
pub start-fits : (start : List Entry) → IsReceiverStart start → FitsChild start → (n : ℕ) → node_of start ≡ n → (requested : Bool) →
    FitsHome (Start start) n requested
start-fits [] is kinds n node requested = absurd is
start-fits (e ∷ []) is kinds n node requested = (
  inl (record { node = node; kinds = kinds; keeps = tt; small = λ small full. none-some _ full }),
  λ unasked. record { start = tt; saw = refl },
)
start-fits (e ∷ p ∷ above) is kinds n node requested = absurd is

-- blocks that were missed leave a list of steps that grew
missed-one : (board : Board Blueprint) (block : ℕ) (old new : Seat (Option Item) (View Item Entry)) → Missed board block old new →
    Grows old.me new.me
missed-one board block old new missed =
    let i = word_index board block in
    elim missed [
      | inl was ↦
          grows-one (entry i was.word was.word) old.me new.me (ap (λ (z : Seated Item Entry). z.0.steps) was.me_is)
          (ap (λ (z : Seated Item Entry). z.0.seen) was.me_is)
      | inr was ↦
          let between : Seated Item Entry = (logged i was.word old.me.0, old.me.1) in
          grows-on old.me between new.me (grows-one (entry i was.word was.word) old.me between refl refl)
          (grows-one (entry i was.other was.other) between new.me (ap (λ (z : Seated Item Entry). z.0.steps) was.me_is)
          (ap (λ (z : Seated Item Entry). z.0.seen) was.me_is))
    ]

pub missed-grows : (board : Board Blueprint) (from count : ℕ) (old new : Seat (Option Item) (View Item Entry)) →
    IsMissedFrom board from count old new → Grows old.me new.me
missed-grows board from zero old new missed =
    grows-here old.me new.me (ap (λ (z : Seated Item Entry). z.0.steps) missed) (ap (λ (z : Seated Item Entry). z.0.seen) missed)
missed-grows board from (suc count) old new missed =
    grows-on old.me missed.0.me new.me (missed-grows board from count old missed.0 missed.1)
    (missed-one board (block_round board.frame.layout.blocks from count) missed.0 new missed.2)

-- and a hand that was at rest so
module _ (board : Board Blueprint) (from count : ℕ) (old new : Seat (Option Item) (View Item Entry)) (missed : IsMissedFrom board from count old new) where
  missed-is : {A : Type 0} (g : Seated Item Entry → A) → ((i word : ℕ) (z : Seated Item Entry) → g (logged i word z.0, z.1) ≡ g z) →
      g new.me ≡ g old.me
  missed-is g same_g = missed-from_same board g same_g from count old new missed

  pub missed-number : new.me.0.number ≡ old.me.0.number
  missed-number = missed-is (λ (z : Seated Item Entry). z.0.number) (λ i word z. refl)

  pub missed-rests : IsAtRest old.me.0 → IsAtRest new.me.0
  missed-rests rests =
      record {
        held = missed-is (λ (z : Seated Item Entry). z.0.held) (λ i word z. refl) ∙ rests.held;
        owed = missed-is (λ (z : Seated Item Entry). z.0.owed) (λ i word z. refl) ∙ rests.owed;
        reported = missed-is (λ (z : Seated Item Entry). z.0.reported) (λ i word z. refl) ∙ rests.reported;
        finished = missed-is (λ (z : Seated Item Entry). z.0.finished) (λ i word z. refl) ∙ rests.finished;
        runs = missed-is (λ (z : Seated Item Entry). z.0.runs) (λ i word z. refl) ∙ rests.runs;
        scans = missed-is (λ (z : Seated Item Entry). z.0.scans) (λ i word z. refl) ∙ rests.scans;
      }

-- A hand at rest claimed the block, for an operation with a start of the receiver node.
pub record HasClaimed (board : Board Blueprint) (b : Block) (env : List Entry) (old new : Seat (Option Item) (View Item Entry)) : Type 0 where
  pub over : IsOver board board.frame.over.value
  pub run : CanRun board env
  pub rests : IsAtRest old.me.0
  pub from : ℕ
  pub found : IsFoundFrom board from b old new

module _ (board : Board Blueprint) (b : Block) (env : List Entry) (old new : Seat (Option Item) (View Item Entry)) (did : HasClaimed board b env old new) where
  abbrev x : Name
  x = root_name board b.index b.generation

  abbrev root_owed : Owed Entry
  root_owed = record { name = x; above = []; lot = [] }

  -- of the hand's view a claim changes what it owes, and how many blocks it claimed
  middle-is : {A : Type 0} (g : Seated Item Entry → A) → ((i word : ℕ) (z : Seated Item Entry) → g (logged i word z.0, z.1) ≡ g z) →
      g did.found.middle.me ≡ g old.me
  middle-is g same_g = missed-from_same board g same_g did.from did.found.count old did.found.middle did.found.missed

  claimed-aside : aside_of new.me.0 ≡ record (aside_of old.me.0) { claimed = old.me.0.claimed + 1 }
  claimed-aside =
      ap (λ (z : Seated Item Entry). aside_of z.0) did.found.claimed.me_is
      ∙ ap (λ (a : Aside). record a { claimed = a.claimed + 1 })
      (middle-is (λ (z : Seated Item Entry). aside_of z.0) (λ i word z. refl))

  claimed-held : new.me.0.held ≡ old.me.0.held
  claimed-held =
      ap (λ (z : Seated Item Entry). z.0.held) did.found.claimed.me_is ∙ middle-is (λ (z : Seated Item Entry). z.0.held) (λ i word z. refl)

  claimed-owed : new.me.0.owed ≡ root_owed ∷ old.me.0.owed
  claimed-owed =
      ap (λ (z : Seated Item Entry). z.0.owed) did.found.claimed.me_is
      ∙ ap (λ (l : List (Owed Entry)). root_owed ∷ l) (middle-is (λ (z : Seated Item Entry). z.0.owed) (λ i word z. refl))

  claimed-grows : Grows old.me new.me
  claimed-grows =
      let i = word_index board b.index in
      let claimed = did.found.claimed in
      let between : Seated Item Entry = (logged i claimed.word did.found.middle.me.0, did.found.middle.me.1) in
      grows-on old.me did.found.middle.me new.me (missed-grows board did.from did.found.count old did.found.middle did.found.missed)
      (grows-on did.found.middle.me between new.me (grows-one (entry i claimed.word claimed.word) did.found.middle.me between refl refl)
      (grows-one (entry i claimed.word claimed.left) between new.me (ap (λ (z : Seated Item Entry). z.0.steps) claimed.me_is)
      (ap (λ (z : Seated Item Entry). z.0.seen) claimed.me_is)))

  claimed-has : OwesWith board.frame x root_owed None new.me
  claimed-has = round-owes board did.from b old new did.found x refl

  -- the start can be put into the root's home
  root-node : node_of env ≡ x.node
  root-node =
      let is = one-entry env did.run.receiver in
      ap node_of is.1 ∙ is.2.node ∙ ap (λ (p : Blueprint). length p.nodes) (sym (ap plan_of is.1) ∙ did.run.plan)
      ∙ sym (root-number board board.frame.over.value did.over b.index b.generation)

  fits-root : (requested : Bool) → FitsHome (Start env) x.node requested
  fits-root requested = start-fits env did.run.receiver did.run.kinds x.node root-node requested

  claimed-fits : FitsOwed ghosts board.frame new.me x (Start env)
  claimed-fits =
      let is = one-entry env did.run.receiver in
      owes-fits board.frame x new.me ghosts (Start env) None root_owed claimed-has is.0 is.1 did.run.plan
      (ap drawn_of is.1) (fits-root (has_seen board.frame.tree new.me.0 x)) (λ no. no)

  pub claimed-puts : CanPut ghosts board.frame new.me x (Start env)
  claimed-puts = owes-puts board.frame x new.me ghosts (Start env) root_owed claimed-has claimed-fits

  -- after that the hand has nothing but this start, which can begin
  module _ (m2 : Seated Item Entry) (put : IsPut board.frame x (Start env) new.me m2) where
    put-aside : aside_of m2.0 ≡ aside_of new.me.0
    put-aside = ap (λ (z : Seated Item Entry). aside_of z.0) put.me_is

    put-grows : Grows new.me m2
    put-grows =
        grows-one (entry (control_index board x) put.word put.word) new.me m2 (ap (λ (z : Seated Item Entry). z.0.steps) put.me_is)
        (ap (λ (z : Seated Item Entry). z.0.seen) put.me_is)

    put-owed : m2.0.owed ≡ root_owed ∷ []
    put-owed =
        ap (λ (z : Seated Item Entry). z.0.owed) put.me_is ∙ claimed-owed ∙ ap (λ (l : List (Owed Entry)). root_owed ∷ l) did.rests.owed

    root-owes : find_by at_owed m2.0.owed x ≡ Some root_owed
    root-owes =
        ap (λ (l : List (Owed Entry)). find_by at_owed l x) put-owed ∙ cond-true (same x x) (Some root_owed) None (same-refl x)

    put-starts-root : CanStart board x m2
    put-starts-root =
        let is = one-entry env did.run.receiver in
        record {
          place = root-place board board.frame.over.value did.over b.index b.generation did.found.within;
          begin = record {
            owed = root_owed;
            owes = root-owes;
            item = Start env;
            home = swapped-home board.frame x (Some (Start env)) None new.me m2 put;
            entry = is.0;
            start = is.1;
            key = did.run.plan;
            drawn = ap drawn_of is.1;
            goes_on = λ no. no;
          };
          is_start = refl;
          fit = fits-root (has_seen board.frame.tree m2.0 x);
          once = subst (λ (l : List (Owed Entry)). count_by at_owed l x ≤ 1) (sym put-owed) (one-most (same x x));
          beside = subst (λ (l : List (Owed Entry)). Each (λ e. e.name.block ≡ x.block → e.name.generation ≡ x.generation) l) (sym put-owed)
              (λ block. refl, tt);
        }

    put-starts : AllCanStart board m2
    put-starts y owes =
        let found_y : find_by at_owed (root_owed ∷ []) y ≡ Some owes.owed = ap (λ (l : List (Owed Entry)). find_by at_owed l y) (sym put-owed) ∙ owes.owes in
        either (same x y)
        (λ t. subst (λ (z : Name). CanStart board z m2) (same-true x y t) put-starts-root)
        (λ f. absurd (none-some owes.owed (sym (cond-false (same x y) (Some root_owed) None f) ∙ found_y)))

    put-only : HasOnlyStarts board m2
    put-only =
        let is = put-aside ∙ claimed-aside in
        record {
          held = ap (λ (z : Seated Item Entry). z.0.held) put.me_is ∙ claimed-held ∙ did.rests.held;
          reported = ap (λ (a : Aside). a.reported) is ∙ did.rests.reported;
          finished = ap (λ (a : Aside). a.finished) is ∙ did.rests.finished;
          runs = ap (λ (a : Aside). a.runs) is ∙ did.rests.runs;
          scans = ap (λ (a : Aside). a.scans) is ∙ did.rests.scans;
          starts = put-starts;
        }

    -- so the start is placed
    pub is-placed : IsStartPlaced board b env old.me m2
    is-placed =
        record {
          within = did.found.within;
          unnoted = did.found.unnoted;
          owed = put-owed;
          only = put-only;
          home = swapped-home board.frame x (Some (Start env)) None new.me m2 put;
          leaves = leaves-with (with_claimed (aside_of old.me.0)) old.me m2 (put-aside ∙ claimed-aside) (grows-on old.me new.me m2 claimed-grows put-grows);
        }
