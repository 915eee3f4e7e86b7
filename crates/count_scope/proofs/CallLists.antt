-- What the calls on a scope list.
use Rattle.std.proofs.Common.{◌≡◌, ℕ, ◌≤◌, Bool, true, false, List, [], ◌∷◌, ◌++◌, length, refl, sym, ap, ◌∙◌, arith, length-append}
use Rattle.std.specs.Prelude.{All}
use Rattle.std.proofs.lemmas.List.{append_assoc}
use Rattle.std.proofs.lemmas.List.Elements.{All-nil, All-cons, All-append}
use Rattle.life_rules.specs.declared.scope.ScopeWord.{ScopeWord}
use Rattle.life_rules.specs.Scopes.{may_seal}
use Rattle.table_words.specs.ScopeNumbers.{scope_read}
use Rattle.listed_words.specs.declared.seen.Seen.{Seen}
use Rattle.listed_words.specs.Lists.{entry}
use Rattle.table_rules.specs.declared.view.View.{View}
use Rattle.table_steps.specs.Claims.{with_step}
use Rattle.table_steps.specs.Seats.{Seated}
use Rattle.count_scope.specs.declared.joining.JoinStart.{JoinStart}
use Rattle.count_scope.specs.Seals.{seen_after, tried}
use Rattle.count_scope.specs.Leaves.{is_last, emptied, SealsWhere, Leaves}
use Rattle.count_scope.specs.Associations.{associated, MarksWhere}
use Rattle.count_scope.specs.Joins.{StartsWhere}
use Rattle.count_scope.specs.CallLists.{ListsFew, ListsTries, ListsMark, ScopeCallsListTheirSteps}

abbrev There : Seen → Type 0
There e = e.index ≡ 0

there-one : (s : Seen) → There s → All There (s ∷ [])
there-one s is = All-cons There s [] is (All-nil There)

-- the steps that are listed of words that were read one after another
seen-newer : (words : List ℕ) (steps : List Seen) →
    (newer : List Seen) × (seen_after words steps ≡ newer ++ steps) × All There newer × (length newer ≡ length words)
seen-newer [] steps = ([], refl, All-nil There, refl)
seen-newer (word ∷ words) steps =
    let rest = seen-newer words steps in
    let s = entry 0 word word in
    let as_many = rest.3 in (
      s ∷ rest.0,
      ap (λ l. s ∷ l) rest.1,
      All-cons There s rest.0 refl rest.2,
      omega (arith, as_many),
    )

-- where a join seals, it does so by tries, as a leave does
starts-seals : (asks : Bool) (first : ScopeWord) (words : List ℕ) (last : ℕ) (answer : JoinStart) →
    StartsWhere asks first words last answer → SealsWhere asks first words last
starts-seals true first words last answer starts = (starts.0, starts.1)
starts-seals false first words last answer starts = starts.0

module _ {P E : Type 0} where
  abbrev steps_of : Seated P E → List Seen
  steps_of m = m.0.steps

  -- a step, and then tries
  tries-few : (word left newest last : ℕ) (before : List ℕ) (v : View P E) (m m' : Seated P E) → v.steps ≡ m.0.steps →
      m'.0.steps ≡ (tried (newest ∷ before) last (with_step 0 word left v)).steps → length before ≤ 2 → ListsFew 2 4 m m'
  tries-few word left newest last before v m m' same steps few =
      let s : Seen = entry 0 word left in
      let t : Seen = entry 0 newest last in
      let rest = seen-newer before (s ∷ v.steps) in
      let as_many = rest.3 in
      record {
        some = record {
          newest = t;
          others = rest.0 ++ (s ∷ []);
          steps_are = steps
              ∙ ap (λ l. t ∷ l)
              (rest.1 ∙ ap (λ l. rest.0 ++ (s ∷ l)) same ∙ sym (append_assoc rest.0 (s ∷ []) m.0.steps));
          all_there = All-cons There t (rest.0 ++ (s ∷ [])) refl (All-append There rest.0 (s ∷ []) rest.2 (there-one s refl));
        };
        enough = omega (arith, length-append rest.0 (s ∷ []));
        few = omega (arith, few, as_many, length-append rest.0 (s ∷ []));
      }

  -- a step, and tries where they are asked
  seals-list : (asks : Bool) (first : ScopeWord) (word left last : ℕ) (words : List ℕ) (v : View P E) (m m' : Seated P E) →
      v.steps ≡ m.0.steps → m'.0.steps ≡ (tried words last (with_step 0 word left v)).steps →
      SealsWhere asks first words last → ListsTries asks m m'
  seals-list true first word left last words v m m' same steps seals =
      let tries = seals.1 in
      let few = tries.few in
      let those = ap length tries.words_are in
      tries-few word left tries.last last tries.before v m m' same
      (steps ∙ ap (λ l. (tried l last (with_step 0 word left v)).steps) tries.words_are)
      (omega (arith, few, those))
  seals-list false first word left last words v m m' same steps none =
      record {
        read = word;
        left = left;
        steps_are = steps ∙ ap (λ l. (tried l last (with_step 0 word left v)).steps) none ∙ ap (λ l. entry 0 word left ∷ l) same;
      }

  leave-lists : (m m0 m' : Seated P E) → m0.0.steps ≡ m.0.steps → (did : Leaves m0 m') →
      ListsTries (is_last (scope_read did.word)) m m'
  leave-lists m m0 m' same did =
      seals-list (is_last (scope_read did.word)) (emptied (scope_read did.word)) did.word did.left did.last did.words m0.0 m m' same
      (ap steps_of did.me_is) did.seals

  -- an entry, and a leave behind it
  behind-entry : (asks : Bool) (word left : ℕ) (m m' : Seated P E) → ListsTries asks (with_step 0 word left m.0, m.1) m' → ListsFew 2 5 m m'
  behind-entry true word left m m' more =
      let s : Seen = entry 0 word left in
      let others = more.some.others in
      let newest = more.some.newest in
      let enough = more.enough in
      let few = more.few in
      record {
        some = record {
          newest = newest;
          others = others ++ (s ∷ []);
          steps_are = more.some.steps_are ∙ ap (λ l. newest ∷ l) (sym (append_assoc others (s ∷ []) m.0.steps));
          all_there = All-append There (newest ∷ others) (s ∷ []) more.some.all_there (there-one s refl);
        };
        enough = omega (arith, enough, length-append others (s ∷ []));
        few = omega (arith, few, length-append others (s ∷ []));
      }
  behind-entry false word left m m' one =
      let s : Seen = entry 0 word left in
      let t : Seen = entry 0 one.read one.left in
      record {
        some = record {
          newest = t;
          others = s ∷ [];
          steps_are = one.steps_are;
          all_there = All-cons There t (s ∷ []) refl (there-one s refl);
        };
        enough = omega arith;
        few = omega arith;
      }

  -- an entry, and the mark where the scope wasn't used
  marks-list : (used : Bool) (word left : ℕ) (m m' : Seated P E) → MarksWhere used (associated (with_step 0 word left m.0, m.1)) m' →
      ListsMark used m m'
  marks-list true word left m m' is = record { read = word; left = left; steps_are = ap steps_of is }
  marks-list false word left m m' mark =
      record {
        middle = (with_step 0 word left m.0, m.1);
        one = record { read = word; left = left; steps_are = refl };
        two = record { read = mark.read; left = mark.left; steps_are = ap steps_of mark.me_is };
      }

pub calls-list : (P E O : Type 0) → ScopeCallsListTheirSteps P E O
calls-list P E O board old new =
    let m = old.me in
    let m' = new.me in
    record {
      made = λ most place did. marks-list (scope_read did.word).used did.word did.left m m' did.ends.1;
      refused = λ most cause did.
          let back = did.ends.1 in
          behind-entry (is_last (scope_read back.word)) did.word did.left m m'
          (leave-lists (with_step 0 did.word did.left m.0, m.1) (with_step 0 did.word did.left m.0, m.1) m' refl back);
      left = λ did. leave-lists m _ m' refl did;
      closed = λ did. record { read = did.read; left = did.left; steps_are = ap steps_of did.me_is };
      started = λ answer did.
          seals-list (may_seal (scope_read did.left)) (scope_read did.left) did.read did.left did.last did.words m.0 m m' refl
          (ap steps_of did.me_is)
          (starts-seals (may_seal (scope_read did.left)) (scope_read did.left) did.words did.last answer did.starts);
      joined = λ answer did. record { read = did.word; left = did.word; steps_are = ap steps_of did.me_is };
      looked = λ answer did. record { read = did.word; left = did.word; steps_are = ap steps_of did.me_is };
      requested = λ answer did. record { read = did.word; left = did.left; steps_are = ap steps_of did.me_is };
    }
