-- What the swaps of the counting scope's word owe.
use Rattle.std.proofs.Common.{◌≡◌, ℕ, ◌-◌, ◌^◌, ◌<◌, true, ◌==◌, List, refl, sym, ap, ◌∙◌, subst, eq-eqb, ne_eqb}
use Rattle.std.specs.Prelude.{length, Option, bit_or, nat_le, slice_index}
use Rattle.std.proofs.lemmas.Bool.{cond-true, cond-false}
use mathlib.Core.Option.{some}
use mathlib.Core.Logic.{dite}
use native.Mathlib.Decide.{ℕ_discrete}
use prog.Atomic.{either}
use lib.ListN.{get_elem?}
use Rattle.node_tree.specs.declared.node.TreeNode.{TreeNode}
use Rattle.life_rules.specs.declared.scope.ScopeWord.{ScopeWord}
use Rattle.life_rules.specs.Scopes.{may_seal}
use Rattle.life_rules.specs.ScopeSteps.{left}
use Rattle.common_lemmas.proofs.Bool.{either as test}
use Rattle.table_words.specs.declared.layout.Layout.{Layout}
use Rattle.table_words.specs.ScopeNumbers.{scope_read}
use Rattle.atomic_table.specs.Table.{keeps, stepped}
use Rattle.atomic_table.specs.Table as table
use Rattle.table_rules.specs.declared.cargo.Cargo.{Ghosts}
use Rattle.table_rules.specs.declared.frame.Frame.{Frame}
use Rattle.table_rules.specs.declared.view.View.{View}
use Rattle.table_rules.specs.Running.{Running}
use Rattle.table_steps.specs.Lefts.{less_one}
use Rattle.table_steps.specs.Claims.{with_step, ListsOne}
use Rattle.table_steps.specs.Seats.{Seated}
use Rattle.table_steps.specs.Slots.{IsSeated}
use Rattle.table_steps.specs.ScopeMoves.{IsMaking, MayLeaveScope, makes, leaves_scope, SealsAt, MovesScopeAt, with_one_less, as_used}
use Rattle.table_kept.proofs.Standing.{Standing}
use Rattle.table_kept.proofs.Listing.{AllowsListed, allows-listed, lists-one}
use Rattle.table_kept.proofs.Loads.{looks_keep}
use Rattle.table_kept.proofs.Masks.{reads-used}
use Rattle.table_kept.proofs.Stamping.{kept-bits}
use Rattle.table_scope_kept.proofs.ScopeKinds.{counts-less, leaves-runs, makes-runs, seals-runs}

-- the step is listed, whatever it tells
leaves-list : {P E : Type 0} (i n left : ℕ) (m m' : Seated P E) → m'.0 ≡ with_step i n left (leaves_scope m.0) → ListsOne i n left m m'
leaves-list {P} {E} i n left m m' is =
    let v : View P E = m.0 in
    let refused : View P E = record v { refused = v.refused - 1 } in
    let made : View P E = record v { made = v.made - 1 } in
    let Same : View P E → Type 0 = λ z. (z.steps ≡ v.steps) × (z.splits ≡ v.splits) × (z.joined ≡ v.joined) × (z.hands ≡ v.hands) in
    let same : Same (leaves_scope v) =
    test (nat_le 1 v.refused)
    (λ t. subst Same (sym (cond-true (nat_le 1 v.refused) refused made t)) (refl, refl, refl, refl))
    (λ no. subst Same (sym (cond-false (nat_le 1 v.refused) refused made no)) (refl, refl, refl, refl)) in
    lists-one i n left m m' (leaves_scope v) is same.0 same.1 same.2 same.3

module _ {P E O : Type 0} (cargo : Ghosts P E O) (f : Frame O) (slots id : ℕ) (m : Seated P E) where
  pub makes_allowed : IsMaking m.0 →
      AllowsListed cargo f slots id m 0 (λ n. bit_or n (2 ^ 32)) (λ n. MovesScopeAt as_used (λ _. makes) 0 n (bit_or n (2 ^ 32)) m)
  makes_allowed making =
      allows-listed cargo f slots id m 0 (λ n. bit_or n (2 ^ 32)) (λ n. MovesScopeAt as_used (λ _. makes) 0 n (bit_or n (2 ^ 32)) m)
      (λ n m' told. lists-one 0 n (bit_or n (2 ^ 32)) m m' (makes m.0) (ap (λ z. z.0) told.me_is) refl refl refl refl)
      (λ s r deep at small.
      let hand : Standing cargo f = record {
        state = s;
        id = id;
        view = m.0;
        running = r;
        at = at;
      } in (
        with_step 0 (slice_index s.words 0) (bit_or (slice_index s.words 0) (2 ^ 32)) (makes m.0),
        keeps,
        tt,
        makes-runs cargo f hand making,
        record { me_is = refl; left_is = reads-used (slice_index s.words 0) },
      ))

  pub leaves_allowed : MayLeaveScope m.0 →
      AllowsListed cargo f slots id m 0 less_one (λ n. MovesScopeAt with_one_less (λ _. leaves_scope) 0 n (less_one n) m)
  leaves_allowed may =
      allows-listed cargo f slots id m 0 less_one (λ n. MovesScopeAt with_one_less (λ _. leaves_scope) 0 n (less_one n) m)
      (λ n m' told. leaves-list 0 n (less_one n) m m' (ap (λ z. z.0) told.me_is))
      (λ s r deep at small.
      let hand : Standing cargo f = record {
        state = s;
        id = id;
        view = m.0;
        running = r;
        at = at;
      } in (
        with_step 0 (slice_index s.words 0) (less_one (slice_index s.words 0)) (leaves_scope m.0),
        keeps,
        tt,
        leaves-runs cargo f hand may small,
        record { me_is = refl; left_is = counts-less cargo f hand may small },
      ))

  pub seals_allowed : (expected : ScopeWord) (old new : ℕ) → may_seal expected ≡ true → scope_read old ≡ expected → scope_read new ≡ record expected { joined = true } →
      new < 2 ^ 36 → AllowsListed cargo f slots id m 0 (λ n. either (n == old) new n) (λ n. SealsAt 0 n (either (n == old) new n) m)
  seals_allowed expected old new may reads_old reads_new narrow =
      allows-listed cargo f slots id m 0 (λ n. either (n == old) new n) (λ n. SealsAt 0 n (either (n == old) new n) m)
      (λ n m' told. lists-one 0 n (either (n == old) new n) m m' m.0 (ap (λ z. z.0) told.me_is) refl refl refl refl)
      (λ s r deep at small. seals-now s r deep at)
    where
      mine : table.State (Option P) (View P E) → View P E
      mine s = let n = slice_index s.words 0 in with_step 0 n (either (n == old) new n) m.0

      seals-now : (s : table.State (Option P) (View P E)) → Running cargo f s → length s.homes ≡ slots → get_elem? s.views id ≡ some m.0 →
          (w : View P E) × (a : table.Act (Option P)) × table.Valid s.homes m.1 a
          × Running cargo f (stepped s 0 (either (slice_index s.words 0 == old) new (slice_index s.words 0)) id m.1 w a)
          × SealsAt 0 (slice_index s.words 0) (either (slice_index s.words 0 == old) new (slice_index s.words 0)) m (w, table.carried_after m.1 a)
      seals-now s r deep at =
          let n = slice_index s.words 0 in
          let told : SealsAt 0 n (either (n == old) new n) m (mine s, m.1) =
          record {
            me_is = refl;
            narrow = r.stamped.scope;
            bits = kept-bits f.layout s.words s.views id m.0 at r.stamped.rises;
          } in
          let Kept : ℕ → Type 0 = λ k. Running cargo f (stepped s 0 k id m.1 (with_step 0 n k m.0) keeps) in
          dite (ℕ_discrete n old)
          (λ hit. (
            mine s,
            keeps,
            tt,
            subst Kept (sym (ap (λ t. either t new n) (eq-eqb n old hit)))
                (seals-runs cargo f (record {
                  state = s;
                  id = id;
                  view = m.0;
                  running = r;
                  at = at;
                }) expected new may (ap scope_read hit ∙ reads_old) reads_new narrow),
            told,
          ))
          (λ miss. (
            mine s,
            keeps,
            tt,
            subst Kept (sym (ap (λ t. either t new n) (ne_eqb n old miss)))
                (looks_keep cargo f s id 0 m.0 r at),
            told,
          ))

-- the hand still carries each slot once
pub made-seated : {P E : Type 0} (tree : List TreeNode) (l : Layout) (n left : ℕ) (m : Seated P E) → IsSeated tree l m →
    IsSeated tree l (with_step 0 n left (makes m.0), m.1)
made-seated tree l n left m old = record { apart = old.apart; given = old.given; itself = old.itself }

pub left-seated : {P E : Type 0} (tree : List TreeNode) (l : Layout) (n left : ℕ) (m : Seated P E) → IsSeated tree l m →
    IsSeated tree l (with_step 0 n left (leaves_scope m.0), m.1)
left-seated {P} {E} tree l n left m old =
    let v : View P E = m.0 in
    test (nat_le 1 v.refused)
    (λ t.
    subst (λ (z : View P E). IsSeated tree l (with_step 0 n left z, m.1)) (sym (cond-true (nat_le 1 v.refused) (record v { refused = v.refused - 1 }) (record v { made = v.made - 1 }) t))
    (record { apart = old.apart; given = old.given; itself = old.itself }))
    (λ no.
    subst (λ (z : View P E). IsSeated tree l (with_step 0 n left z, m.1)) (sym (cond-false (nat_le 1 v.refused) (record v { refused = v.refused - 1 }) (record v { made = v.made - 1 }) no))
    (record { apart = old.apart; given = old.given; itself = old.itself }))
