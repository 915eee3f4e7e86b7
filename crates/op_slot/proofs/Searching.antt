-- How a search goes on from block to block.
use Rattle.std.proofs.Common.{◌≡◌, inl, inr, ℕ, zero, suc, ◌+◌, ◌-◌, ◌<◌, ◌≤◌, true, refl, sym, ap, ◌∙◌, subst, arith, add-one}
use Rattle.std.specs.Prelude.{nat_lt, Option, Some, None}
use Rattle.std.proofs.lemmas.Bool.{cond-true, lt-ltb}
use Rattle.atomic_table.specs.declared.shared.Seat.{Seat}
use Rattle.table_rules.specs.declared.view.View.{View}
use Rattle.table_rules.specs.declared.view.Rooted.{Rooted}
use Rattle.table_rules.specs.Named.{find_by}
use Rattle.table_steps.specs.declared.block.Block.{Block}
use Rattle.table_steps.specs.Views.{Board}
use Rattle.table_steps.specs.Claims.{root_name, word_index, logged, Claimed, Missed, IsAnswer}
use Rattle.table_steps.specs.Seats.{Seated}
use Rattle.op_slot.specs.Searches.{block_round, IsMissedBelow, IsFound, IsSearched, IsMissedFrom, IsFoundFrom, IsSearchedFrom}

-- a block that was missed is missed by steps that change nothing, so what the list of steps doesn't tell is as
-- before
module _ {P E O A : Type 0} (board : Board O) (g : Seated P E → A) (same_g : (i word : ℕ) (z : Seated P E) → g (logged i word z.0, z.1) ≡ g z) where
  missed-same : (b : ℕ) (old new : Seat (Option P) (View P E)) → Missed board b old new → g new.me ≡ g old.me
  missed-same b old new missed =
      let i = word_index board b in
      elim missed [
        | inl was ↦ ap g was.me_is ∙ same_g i was.word old.me
        | inr was ↦ ap g was.me_is ∙ same_g i was.other (logged i was.word old.me.0, old.me.1) ∙ same_g i was.word old.me
      ]

  pub missed-from_same : (from count : ℕ) (old new : Seat (Option P) (View P E)) → IsMissedFrom board from count old new → g new.me ≡ g old.me
  missed-from_same from zero old new missed = ap g missed
  missed-from_same from (suc n) old new missed =
      missed-same (block_round board.frame.layout.blocks from n) missed.0 new missed.2 ∙ missed-from_same from n old missed.0 missed.1

  pub missed-all-same : (count : ℕ) (old new : Seat (Option P) (View P E)) → IsMissedBelow board count old new → g new.me ≡ g old.me
  missed-all-same zero old new missed = ap g missed
  missed-all-same (suc b) old new missed =
      missed-same b missed.0 new missed.2 ∙ missed-all-same b old missed.0 missed.1

-- the answer was this block
pub searched-found : {P E O : Type 0} (board : Board O) (old new : Seat (Option P) (View P E)) (answer : Option Block) (b : Block) →
    answer ≡ Some b → IsSearched board answer old new → IsFound board b old new
searched-found board old new answer b some told = subst (λ r. IsSearched board r old new) some told

-- a search that has missed so many blocks round from this one, and what a try of the next left
pub record Round (P E : Type 0) {O : Type 0} (board : Board O) : Type 0 where
  pub from : ℕ
  pub step : ℕ
  pub block : ℕ
  pub at : block ≡ block_round board.frame.layout.blocks from step
  pub old : Seat (Option P) (View P E)
  pub middle : Seat (Option P) (View P E)
  pub new : Seat (Option P) (View P E)
  pub before : IsMissedFrom board from step old middle

module _ (P E : Type 0) {O : Type 0} (board : Board O) (round : Round P E board) where
  open round use {from, step, block, at, old, middle, new, before}

  -- one more block round was missed
  pub missed-round : (answer : Option Block) → answer ≡ None → IsAnswer board block answer middle new →
      IsMissedFrom board from (step + 1) old new
  missed-round answer none told =
      let missed : Missed board block middle new = subst (λ r. IsAnswer board block r middle new) none told in
      subst (λ k. IsMissedFrom board from k old new) (sym (add-one step))
      (middle, before, subst (λ k. Missed board k middle new) at missed)

  -- the block was claimed
  pub found-round : (answer : Option Block) (b : Block) → answer ≡ Some b → step < board.frame.layout.blocks → block < board.frame.layout.blocks →
      IsAnswer board block answer middle new → IsFoundFrom board from b old new
  found-round answer b some few within told =
      let claimed : Claimed board block b middle new = subst (λ r. IsAnswer board block r middle new) some told in
      let is = sym claimed.block_is in
      record {
        count = step;
        few = few;
        block_is = claimed.block_is ∙ at;
        middle = middle;
        within = subst (λ k. k < board.frame.layout.blocks) is within;
        missed = before;
        claimed = subst (λ k. Claimed board k b middle new) is claimed;
        unnoted =
            let root = root_name board b.index b.generation in
            let noted = λ (z : Seated P E). find_by (λ (e : Rooted E). e.name) z.0.noted root in
            sym (missed-from_same board noted (λ i word z. refl) from step old middle before)
            ∙ subst (λ k. find_by (λ (e : Rooted E). e.name) middle.me.0.noted (root_name board k b.generation) ≡ None) is
            claimed.unnoted;
      }

-- round from block 0 the blocks come in their order
round-first : (blocks n : ℕ) → n < blocks → block_round blocks 0 n ≡ n
round-first blocks n few =
    let here : nat_lt n (blocks - 0) ≡ true = lt-ltb n (blocks - 0) (omega (arith, few)) in
    cond-true (nat_lt n (blocks - 0)) (0 + n) (n - (blocks - 0)) here ∙ omega arith

module _ {P E O : Type 0} (board : Board O) (old : Seat (Option P) (View P E)) where
  -- so what was missed round from it was missed below
  missed-below : (count : ℕ) (new : Seat (Option P) (View P E)) → count ≤ board.frame.layout.blocks → IsMissedFrom board 0 count old new →
      IsMissedBelow board count old new
  missed-below zero new few missed = missed
  missed-below (suc n) new few missed = (
    missed.0,
    missed-below n missed.0 (omega (arith, few)) missed.1,
    subst (λ k. Missed board k missed.0 new) (round-first board.frame.layout.blocks n (omega (arith, few))) missed.2,
  )

  -- and what was found there is what a search from the first block finds
  pub searched-any : (new : Seat (Option P) (View P E)) (answer : Option Block) → IsSearchedFrom board 0 answer old new → IsSearched board answer old new
  searched-any new None told = missed-below board.frame.layout.blocks new (omega arith) told
  searched-any new (Some b) told =
      let is : told.count ≡ b.index = sym (told.block_is ∙ round-first board.frame.layout.blocks told.count told.few) in
      let few = told.few in
      record {
        middle = told.middle;
        within = told.within;
        missed = subst (λ k. IsMissedBelow board k old told.middle) is (missed-below told.count told.middle (omega (arith, few)) told.missed);
        claimed = told.claimed;
        unnoted = told.unnoted;
      }
