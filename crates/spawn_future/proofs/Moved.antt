-- Calls on the scope change a hand's associations and its list of steps, and nothing else of what it knows.
use Rattle.std.proofs.Common.{◌≡◌, ℕ, ◌+◌, ◌-◌, Bool, true, false, List, [], ◌∷◌, ◌++◌, append_assoc, refl, sym, ap, ◌∙◌}
use Rattle.std.specs.Prelude.{Ok, Err}
use Rattle.count_scope.specs.declared.members.Association.{Association}
use Rattle.count_scope.specs.Associations.{associated, Associates, MarksWhere}
use Rattle.count_scope.specs.Leaves.{disassociated, Leaves}
use Rattle.count_scope.specs.Seals.{seen_after, tried}
use Rattle.life_rules.specs.declared.scope.Refused.{Refused}
use Rattle.life_rules.specs.declared.event.SourceRef.{SourceRef}
use Rattle.listed_words.specs.declared.seen.Seen.{Seen}
use Rattle.listed_words.specs.Lists.{entry}
use Rattle.table_rules.specs.declared.view.View.{View}
use Rattle.table_rules.specs.ShownViews.{has_source_ref}
use Rattle.table_words.specs.ScopeNumbers.{scope_read}
use Rattle.table_steps.specs.Claims.{with_step}
use Rattle.table_steps.specs.Seats.{Seated}
use Rattle.table_steps.specs.ScopeEntries.{MayEnter}
use Rattle.home_items.specs.declared.entry.Entry.{Entry}
use Rattle.home_items.specs.declared.item.Item.{Item}
use Rattle.exec_recv.specs.Asides.{aside_of}
use Rattle.node_walks.specs.Resting.{IsAtRest}
use Rattle.node_walks.specs.Leaves.{LeavesAside}

-- the hand has so many associations now, and made these steps
pub record Moves (made : ℕ) (m m' : Seated Item Entry) : Type 0 where
  pub fresh : List Seen
  pub is : m'.0 ≡ record m.0 { made = made; steps = fresh ++ m.0.steps }

module _ (made : ℕ) (m m' : Seated Item Entry) (did : Moves made m m') where
  pub moved-rests : IsAtRest m.0 → IsAtRest m'.0
  moved-rests rests =
      record {
        held = ap (λ (z : View Item Entry). z.held) did.is ∙ rests.held;
        owed = ap (λ (z : View Item Entry). z.owed) did.is ∙ rests.owed;
        reported = ap (λ (z : View Item Entry). z.reported) did.is ∙ rests.reported;
        finished = ap (λ (z : View Item Entry). z.finished) did.is ∙ rests.finished;
        runs = ap (λ (z : View Item Entry). z.runs) did.is ∙ rests.runs;
        scans = ap (λ (z : View Item Entry). z.scans) did.is ∙ rests.scans;
      }

  pub moved-settled : MayEnter m.0 → MayEnter m'.0
  moved-settled settled = ap (λ (z : View Item Entry). z.making + z.refused) did.is ∙ settled

  pub moved-leaves : LeavesAside (record (aside_of m.0) { made = made }) m m'
  moved-leaves =
      record {
        is = ap aside_of did.is;
        fresh = did.fresh;
        grown = ap (λ (z : View Item Entry). z.steps) did.is;
        sees = λ (source : SourceRef) seen. ap (λ (z : View Item Entry). has_source_ref z.seen source) did.is ∙ seen;
      }

-- after another step
moves-on : (made : ℕ) (step : Seen) (m m' : Seated Item Entry) →
    Moves made (record m.0 { steps = step ∷ m.0.steps }, m.1) m' → Moves made m m'
moves-on made step m m' did =
    record {
      fresh = did.fresh ++ (step ∷ []);
      is = did.is
          ∙ ap (λ (l : List Seen). record m.0 { made = made; steps = l }) (sym (append_assoc did.fresh (step ∷ []) m.0.steps));
    }

-- the steps that are listed of words that were read one after another
seen-newer : (words : List ℕ) (steps : List Seen) → (newer : List Seen) × (seen_after words steps ≡ newer ++ steps)
seen-newer [] steps = ([], refl)
seen-newer (word ∷ words) steps =
    let rest = seen-newer words steps in (entry 0 word word ∷ rest.0, ap (λ (l : List Seen). entry 0 word word ∷ l) rest.1)

-- tries of a seal only list steps
tried-moves : (made read left last : ℕ) (words : List ℕ) (m m' : Seated Item Entry) →
    m' ≡ (tried words last (with_step 0 read left (record m.0 { made = made })), m.1) → Moves made m m'
tried-moves made read left last [] m m' is =
    record { fresh = entry 0 read left ∷ []; is = ap (λ (z : Seated Item Entry). z.0) is }
tried-moves made read left last (word ∷ words) m m' is =
    let s : Seen = entry 0 read left in
    let rest = seen-newer words (s ∷ m.0.steps) in
    record {
      fresh = entry 0 word last ∷ rest.0 ++ (s ∷ []);
      is = ap (λ (z : Seated Item Entry). z.0) is
          ∙ ap (λ (l : List Seen). record m.0 { made = made; steps = entry 0 word last ∷ l })
          (rest.1 ∙ sym (append_assoc rest.0 (s ∷ []) m.0.steps));
    }

module _ (m m' : Seated Item Entry) where
  -- an association was made
  marked-moves : (used : Bool) (word left : ℕ) → MarksWhere used (associated (with_step 0 word left m.0, m.1)) m' →
      Moves (m.0.made + 1) m m'
  marked-moves true word left is =
      record { fresh = entry 0 word left ∷ []; is = ap (λ (z : Seated Item Entry). z.0) is }
  marked-moves false word left mark =
      record {
        fresh = entry 0 mark.read mark.left ∷ entry 0 word left ∷ [];
        is = ap (λ (z : Seated Item Entry). z.0) mark.me_is;
      }

  pub associated-moves : (most : ℕ) (a : Association) → Associates most (Ok a) m m' → Moves (m.0.made + 1) m m'
  associated-moves most a did = marked-moves (scope_read did.word).used did.word did.left did.ends.1

  -- or refused
  pub refused-moves : (most : ℕ) (cause : Refused) → Associates most (Err cause) m m' → Moves m.0.made m m'
  refused-moves most cause did =
      let back = did.ends.1 in
      moves-on m.0.made (entry 0 did.word did.left) m m'
      (tried-moves m.0.made back.word back.left back.last back.words (with_step 0 did.word did.left m.0, m.1) m' back.me_is)

  -- one was left
  pub left-moves : Leaves (disassociated m) m' → Moves (m.0.made - 1) m m'
  left-moves did = tried-moves (m.0.made - 1) did.word did.left did.last did.words m m' did.me_is
