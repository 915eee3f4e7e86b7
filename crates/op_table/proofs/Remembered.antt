-- A hand remembers the same after a step that changed neither what it owes nor what it runs.
use Rattle.std.proofs.Common.{◌≡◌, ℕ, ◌∷◌, Bool, true, false, cond, ◌+◌, ◌-◌, List, refl, ap, ◌∙◌, inl, inr}
use Rattle.std.specs.Prelude.{Option, nat_le}
use Rattle.node_tree.specs.declared.node.TreeNode.{TreeNode}
use Rattle.life_rules.specs.declared.event.Name.{Name}
use Rattle.life_rules.specs.declared.event.Resting.{Resting}
use Rattle.life_rules.specs.declared.words.CallbackPhase.{CallbackPhase}
use Rattle.life_rules.specs.declared.words.CallbackPhase.TheVariants.{Removed}
use Rattle.life_rules.specs.declared.scope.ScopeWord.{ScopeWord}
use Rattle.life_rules.specs.Words.{is_armed}
use Rattle.life_rules.specs.Scopes.{is_refused}
use Rattle.node_tree.specs.Tree.{is_root}
use Rattle.common_lemmas.proofs.Bool.{either}
use Rattle.atomic_table.specs.Table.{rest}
use Rattle.atomic_table.specs.declared.shared.Seat.{Seat}
use Rattle.name_set.specs.Sets.{Marks}
use Rattle.table_rules.specs.declared.cargo.Cargo.{Ghosts}
use Rattle.table_rules.specs.declared.frame.Frame.{Frame}
use Rattle.table_rules.specs.declared.view.View.{View}
use Rattle.table_rules.specs.Named.{count_by}
use Rattle.table_steps.specs.declared.report.Report.{Report}
use Rattle.table_steps.specs.declared.report.Report.TheVariants.{Last, Others}
use Rattle.table_steps.specs.Owing.{owing}
use Rattle.table_steps.specs.Seats.{Seated}
use Rattle.table_steps.specs.Claims.{Missed}
use Rattle.table_steps.specs.Remembers.{running, Remembers}
use Rattle.table_steps.specs.Readings.{says_begun, notes_idle, notes_phase}
use Rattle.table_steps.specs.Callbacks.{learns, withdraws}
use Rattle.table_steps.specs.Skips.{says_free, skips}
use Rattle.table_steps.specs.Slots.{Aim}
use Rattle.table_steps.specs.Swaps.{TurnsTo}
use Rattle.table_steps.specs.Finishes.{FinishesAt}
use Rattle.table_steps.specs.Takes.{IsTaken}
use Rattle.table_steps.specs.Reports.{IsReportedAs}
use Rattle.table_steps.specs.ScopeMoves.{MovesScope, leaves_scope}
use Rattle.table_steps.specs.ScopeEntries.{enters}
use Rattle.table_steps.specs.Views.{Board, Stays}
use Rattle.table_kept.proofs.Remembering.{exactly-still}

module _ {P E : Type 0} where
  -- the one view owes and runs what the other does
  abbrev pub IsAlike : View P E → View P E → Type 0
  IsAlike w v = (w.owed ≡ v.owed) × (w.runs ≡ v.runs)

  alike-either : (b : Bool) (x y v : View P E) → IsAlike x v → IsAlike y v → IsAlike (cond b x y) v
  alike-either true x y v a b = a
  alike-either false x y v a b = b

  pub alike-entered : (most : ℕ) (word : ScopeWord) (v : View P E) → IsAlike (enters most word v) v
  alike-entered most word v =
      alike-either (is_refused word most) (record v { refused = v.refused + 1 })
      (cond word.used
      (record v { made = v.made + 1 }) (record v { making = v.making + 1 })) v (refl, refl)
      (alike-either word.used (record v { made = v.made + 1 }) (record v {
        making = v.making + 1;
      }) v
      (refl, refl) (refl, refl))

  pub alike-left : (v : View P E) → IsAlike (leaves_scope v) v
  alike-left v =
      alike-either (nat_le 1 v.refused) (record v { refused = v.refused - 1 })
      (record v { made = v.made - 1 }) v
      (refl, refl) (refl, refl)

  pub alike-read : (x : Name) (n generation word : ℕ) (v : View P E) →
      IsAlike (cond (says_begun generation word) v (notes_idle x n v)) v
  alike-read x n generation word v =
      alike-either (says_begun generation word) v (notes_idle x n v) v (refl, refl) (refl, refl)

  pub alike-skipped : (tree : List TreeNode) (block word : ℕ) (v : View P E) →
      IsAlike (cond (says_free word) (skips tree block v) v) v
  alike-skipped tree block word v =
      alike-either (says_free word) (skips tree block v) v v (refl, refl) (refl, refl)

  pub alike-withdrawn : (tree : List TreeNode) (x : Name) (phase : CallbackPhase) (v : View P E) →
      IsAlike (withdraws tree x phase v) v
  alike-withdrawn tree x phase v =
      alike-either (is_armed phase) (notes_phase x Removed v) (learns tree x (notes_phase x phase v)) v
      (refl, refl) (refl, refl)

  pub alike-missed : {O : Type 0} (board : Board O) (block : ℕ) (old new : Seat (Option P) (View P E)) →
      Missed board block old new → IsAlike new.me.0 old.me.0
  alike-missed board block old new (inl taken) =
      (ap (λ m. m.0.owed) taken.me_is, ap (λ m. m.0.runs) taken.me_is)
  alike-missed board block old new (inr moved) =
      (ap (λ m. m.0.owed) moved.me_is, ap (λ m. m.0.runs) moved.me_is)

  module _ {O : Type 0} (cargo : Ghosts P E O) where
    pub alike-finished : (aim : Aim) (i read left : ℕ) (m m' : Seated P E) →
        FinishesAt cargo aim i read left m m' → IsAlike m'.0 m.0
    alike-finished aim i read left m m' did =
        either (is_root aim.tree aim.name.node)
        (λ t. let is = (did.1 t).me_is in (ap (λ z. z.0.owed) is, ap (λ z. z.0.runs) is))
        (λ f. let is = (did.0 f).me_is in (ap (λ z. z.0.owed) is, ap (λ z. z.0.runs) is))

    pub alike-taken : (f : Frame O) (x : Name) (from : Resting) (answer : Bool) (m m' : Seated P E) →
        IsTaken cargo f x from answer m m' → IsAlike m'.0 m.0
    alike-taken f x from true m m' did =
        let is = (did.0 refl).2.me_is in (ap (λ z. z.0.owed) is, ap (λ z. z.0.runs) is)
    alike-taken f x from false m m' did =
        let is = (did.1 refl).2 in (ap (λ z. z.0.owed) is, ap (λ z. z.0.runs) is)

    pub alike-reported : (f : Frame O) (child : Name) (answer : Report) (m m' : Seated P E) →
        IsReportedAs cargo f child answer m m' → IsAlike m'.0 m.0
    alike-reported f child Last m m' did =
        let is = did.4.me_is in (ap (λ z. z.0.owed) is, ap (λ z. z.0.runs) is)
    alike-reported f child Others m m' did =
        let is = did.4 in (ap (λ z. z.0.owed) is, ap (λ z. z.0.runs) is)

  module _ {old new : Seat (Option P) (View P E)}
      {starts callbacks : Marks} (was : Remembers old starts callbacks) where
    pub remembers-still : new.table_id ≡ old.table_id → IsAlike new.me.0 old.me.0 →
        Remembers new starts callbacks
    remembers-still table same =
        record {
          owed = exactly-still was.owed new.table_id (owing new.me.0) table
              (λ y. ap (λ l. count_by (λ e. e.name) l y) same.0);
          runs = exactly-still was.runs new.table_id (running new.me.0) table
              (λ y. ap (λ l. count_by (λ z. z) l y) same.1);
        }

    -- after a step on the scope's word
    pub remembers-moved : {O : Type 0} {board : Board O} (stays : Stays board old new)
        {leaves : ScopeWord → ScopeWord} {change : View P E → View P E} {answer : ScopeWord} →
        MovesScope leaves change answer old new → IsAlike (change old.me.0) old.me.0 →
        Remembers new starts callbacks
    remembers-moved stays did same =
        remembers-still stays.same.0
        (ap (λ m. m.0.owed) did.me_is ∙ same.0, ap (λ m. m.0.runs) did.me_is ∙ same.1)

  -- after a load that turned the hand to a home, whatever is left there
  pub remembers-turned : {seat : Seat (Option P) (View P E)} {starts callbacks : Marks}
      {aim : Aim} {i word : ℕ} (turned : Seat (Option P) (View P E)) →
      Remembers seat starts callbacks → turned.table_id ≡ seat.table_id →
      TurnsTo aim i word seat.me turned.me → (slot : ℕ) (left : Option P) →
      Remembers (record turned { me = (turned.me.0, (slot, left) ∷ rest turned.me.1) })
      starts callbacks
  remembers-turned turned was table did slot left =
      remembers-still was table
      (ap (λ m. m.0.owed) did.me_is, ap (λ m. m.0.runs) did.me_is)
