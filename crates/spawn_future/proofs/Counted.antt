-- How many operations were begun and ended, and what else the hand's view says.
use Rattle.std.proofs.Common.{◌≡◌, ℕ, ◌+◌, ◌<◌, Bool, true, false, List, [], ◌∷◌, ◌++◌, append_assoc, length, set, get_or, cond, inl, inr, refl, sym, ap, ◌∙◌, subst, arith}
use Rattle.std.specs.Prelude.{Option, Some, None, count_by}
use Rattle.std.specs.Option.{option_map_or}
use Rattle.std.proofs.lemmas.Bool.{cases_eq, cond-true, cond-false}
use Rattle.std.proofs.lemmas.List.Sums.{sum_by-cons, sum_by-set}
use Rattle.common_lemmas.proofs.Bool.{either}
use Rattle.life_rules.specs.declared.event.Name.{Name}
use Rattle.life_rules.specs.Views.{same}
use Rattle.life_rules.proofs.Names.{same-true}
use Rattle.listed_words.specs.declared.seen.Seen.{Seen}
use Rattle.plan_shape.specs.Blueprint.{Blueprint}
use Rattle.table_rules.specs.declared.view.Rooted.{Rooted}
use Rattle.table_rules.specs.Named.{find_by, without}
use Rattle.table_steps.specs.Slots.{noted_at}
use Rattle.table_steps.specs.Views.{Board}
use Rattle.table_steps.specs.Seats.{Seated}
use Rattle.home_items.specs.declared.entry.Entry.{Entry}
use Rattle.home_items.specs.declared.item.Item.{Item}
use Rattle.exec_recv.specs.Asides.{Aside, aside_of, KeepsAside}
use Rattle.exec_recv.proofs.Asiding.{aside-here}
use Rattle.node_walks.specs.declared.completing.Ended.{Ended}
use Rattle.spawn_future.specs.declared.future.Future.{Future}
use Rattle.spawn_future.specs.Counts.{beside_blocks, IsOfNoFuture, futures_of, BeginsAndEnds}
use Rattle.spawn_future.specs.Keeping.{root_of, AreKept, Enters, Ends}
use Rattle.spawn_future.specs.Slots.{Has, IsMarkedAt}
use Rattle.spawn_future.proofs.Kept.{others-noted, others-stay}
use Rattle.spawn_future.proofs.Slotted.{one-more, one-less, one-same, was-there, is-here, stays-there, has-within}

abbrev name_of : Rooted Entry → Name
name_of e = e.name

abbrev one_note : Name → Rooted Entry → ℕ
one_note x e = cond (same e.name x) 1 0

-- a note more
notes-more : (x : Name) (e : Rooted Entry) (l : List (Rooted Entry)) →
    count_by (λ (e : Rooted Entry). same e.name x) (e ∷ l) ≡ one_note x e + count_by (λ (e : Rooted Entry). same e.name x) l
notes-more x e l = sum_by-cons (one_note x) e l

some-note : {A : Type 0} (e : A) → None ≡ Some e → ⊥
some-note e is = cc

-- or less, where one is noted
notes-less : (x root : Name) (l : List (Rooted Entry)) (found : Rooted Entry) → find_by name_of l root ≡ Some found →
    count_by (λ (e : Rooted Entry). same e.name x) (without name_of l root) + cond (same root x) 1 0
    ≡ count_by (λ (e : Rooted Entry). same e.name x) l
notes-less x root [] found is = absurd (some-note found is)
notes-less x root (e ∷ l) found is =
    either (same e.name root)
    (λ here.
    let gone = ap (count_by (λ (e : Rooted Entry). same e.name x)) (cond-true (same e.name root) l (e ∷ without name_of l root) here) in
    let at : one_note x e ≡ cond (same root x) 1 0 = ap (λ y. cond (same y x) 1 0) (same-true e.name root here) in
    let more = notes-more x e l in
    omega (arith, gone, at, more))
    (λ there.
    let stays = ap (count_by (λ (e : Rooted Entry). same e.name x)) (cond-false (same e.name root) l (e ∷ without name_of l root) there) in
    let rest = notes-less x root l found (sym (cond-false (same e.name root) (Some e) (find_by name_of l root) there) ∙ is) in
    let one = notes-more x e (without name_of l root) in
    let more = notes-more x e l in
    omega (arith, stays, rest, one, more))

abbrev has_root : Board Blueprint → Name → Option Future → Bool
has_root board x o = option_map_or (λ (f : Future). same (root_of board f) x) o false

abbrev one_future : Board Blueprint → Name → Option Future → ℕ
one_future board x o = cond (has_root board x o) 1 0

module _ (board : Board Blueprint) where
  -- calls that leave all that the view says beside
  pub counts-same : (slots : List (Option Future)) (m m' : Seated Item Entry) → KeepsAside m m' → BeginsAndEnds board slots slots m m'
  counts-same slots m m' keeps = record {
    begun = 0;
    ended = 0;
    kept = refl;
    made = let made = ap (λ (a : Aside). a.made) keeps.same in omega (arith, made);
    claimed = let claimed = ap (λ (a : Aside). a.claimed) keeps.same in omega (arith, claimed);
    released = let released = ap (λ (a : Aside). a.released) keeps.same in omega (arith, released);
    aside = ap (beside_blocks (aside_of m.0)) keeps.same;
    notes = record {
      noted = λ x e none at. ap (λ (a : Aside). find_by name_of a.noted x) keeps.same ∙ at;
      apart = λ x e none at. none;
      balance = λ x.
          let notes = ap (λ (a : Aside). count_by (λ (e : Rooted Entry). same e.name x) a.noted) keeps.same in
          omega (arith, notes);
    };
    fresh = keeps.fresh;
    grown = keeps.grown;
    sees = keeps.sees;
  }

  -- one call after another
  pub counts-on : (first next last : List (Option Future)) (m between m' : Seated Item Entry) → BeginsAndEnds board first next m between →
      BeginsAndEnds board next last between m' → BeginsAndEnds board first last m m'
  counts-on first next last m between m' one two =
      let kept_1 = one.kept in let kept_2 = two.kept in
      let made_1 = one.made in let made_2 = two.made in
      let claimed_1 = one.claimed in let claimed_2 = two.claimed in
      let released_1 = one.released in let released_2 = two.released in
      record {
        begun = one.begun + two.begun;
        ended = one.ended + two.ended;
        kept = omega (arith, kept_1, kept_2);
        made = omega (arith, made_1, made_2);
        claimed = omega (arith, claimed_1, claimed_2);
        released = omega (arith, released_1, released_2);
        aside = ap (beside_blocks (aside_of m.0)) two.aside ∙ one.aside;
        notes = record {
          noted = λ x e none at. two.notes.noted x e (one.notes.apart x e none at) (one.notes.noted x e none at);
          apart = λ x e none at. two.notes.apart x e (one.notes.apart x e none at) (one.notes.noted x e none at);
          balance = λ x.
              let notes_1 = one.notes.balance x in let notes_2 = two.notes.balance x in
              omega (arith, notes_1, notes_2);
        };
        fresh = two.fresh ++ one.fresh;
        grown = two.grown ∙ ap (λ (l : List Seen). two.fresh ++ l) one.grown ∙ sym (append_assoc two.fresh one.fresh m.0.steps);
        sees = λ source seen. two.sees source (one.sees source seen);
      }

  module _ (slots : List (Option Future)) (t : ℕ) (within : t < length slots) (f : Future) (x : Name) where
    -- a future more or less of a root, or as many
    futures-set : (o : Option Future) →
        futures_of board x (set slots t o) + one_future board x (get_or slots t None) ≡ futures_of board x slots + one_future board x o
    futures-set o = let sums = sum_by-set (one_future board x) slots t o None within in omega (arith, sums)

  -- one was begun
  module _ (slots : List (Option Future)) (t : ℕ) (within : t < length slots) (m m' : Seated Item Entry) (kept : AreKept board slots m)
      (f : Future) (free : get_or slots t None ≡ None) (start : List Entry) (enters : Enters board f.block start m m') where
    abbrev note : Rooted Entry
    note = record { name = root_of board f; start = start }

    noted-is : m'.0.noted ≡ note ∷ m.0.noted
    noted-is = ap (λ (a : Aside). a.noted) enters.leaves.is

    -- what is noted is another root's
    other-root : (x : Name) (e : Rooted Entry) → noted_at m.0 x ≡ Some e → root_of board f ≡ x → ⊥
    other-root x e at here = some-note e (sym enters.unnoted ∙ ap (noted_at m.0) here ∙ at)

    begun-apart : (x : Name) (e : Rooted Entry) → IsOfNoFuture board slots x → noted_at m.0 x ≡ Some e →
        IsOfNoFuture board (set slots t (Some f)) x
    begun-apart x e none at u p has is = elim (cases_eq u t) [
      | inl here ↦ other-root x e at (ap (root_of board) (is-here slots t within f u p here has) ∙ is)
      | inr there ↦ none u p (was-there slots t within (Some f) u p there has) is
    ]

    pub counts-begun : BeginsAndEnds board slots (set slots t (Some f)) m m'
    counts-begun =
        let more = one-more slots t within f free in
        let made = ap (λ (a : Aside). a.made) enters.leaves.is in
        let claimed = ap (λ (a : Aside). a.claimed) enters.leaves.is in
        let released = ap (λ (a : Aside). a.released) enters.leaves.is in
        record {
          begun = 1;
          ended = 0;
          kept = omega (arith, more);
          made = omega (arith, made);
          claimed = omega (arith, claimed);
          released = omega (arith, released);
          aside = ap (beside_blocks (aside_of m.0)) enters.leaves.is;
          notes = record {
            noted = λ x e none at.
                ap (λ (l : List (Rooted Entry)). find_by name_of l x) noted-is ∙ others-noted note m.0.noted x (other-root x e at) ∙ at;
            apart = begun-apart;
            balance = λ x.
                let notes = ap (count_by (λ (e : Rooted Entry). same e.name x)) noted-is in
                let one = notes-more x note m.0.noted in
                let futures = futures-set slots t within f x (Some f) in
                let none : one_future board x (get_or slots t None) ≡ 0 = ap (one_future board x) free in
                omega (arith, notes, one, futures, none);
          };
          fresh = enters.leaves.fresh;
          grown = enters.leaves.grown;
          sees = enters.leaves.sees;
        }

  -- one was ended
  module _ (slots : List (Option Future)) (t : ℕ) (within : t < length slots) (m m' : Seated Item Entry) (kept : AreKept board slots m)
      (f : Future) (has : Has slots t f) (c : Ended) (ends : Ends board f.block m m' c) where
    ended-noted : m'.0.noted ≡ without name_of m.0.noted (root_of board f)
    ended-noted = ap (λ (a : Aside). a.noted) ends.leaves.is

    pub counts-ended : BeginsAndEnds board slots (set slots t None) m m'
    counts-ended =
        let less = one-less slots t within f has in
        let some = kept.made in
        let made = ap (λ (a : Aside). a.made) ends.leaves.is in
        let claimed = ap (λ (a : Aside). a.claimed) ends.leaves.is in
        let released = ap (λ (a : Aside). a.released) ends.leaves.is in
        record {
          begun = 0;
          ended = 1;
          kept = omega (arith, less);
          made = omega (arith, less, some, made);
          claimed = omega (arith, claimed);
          released = omega (arith, released);
          aside = ap (beside_blocks (aside_of m.0)) ends.leaves.is;
          notes = record {
            noted = λ x e none at.
                ap (λ (l : List (Rooted Entry)). find_by name_of l x) ended-noted
                ∙ others-stay m.0.noted (root_of board f) x (none t f has) ∙ at;
            apart = λ x e none at u p has_p is. none u p (stays-there slots t within u p has_p).1 is;
            balance = λ x.
                let notes = ap (count_by (λ (e : Rooted Entry). same e.name x)) ended-noted in
                let one = notes-less x (root_of board f) m.0.noted _ (kept.each t f has).noted in
                let futures = futures-set slots t within f x None in
                let here : one_future board x (get_or slots t None) ≡ cond (same (root_of board f) x) 1 0 =
                ap (one_future board x) has in
                omega (arith, notes, one, futures, here);
          };
          fresh = ends.leaves.fresh;
          grown = ends.leaves.grown;
          sees = ends.leaves.sees;
        }

  -- one was abandoned
  pub counts-marked : (slots later : List (Option Future)) (t : ℕ) (m : Seated Item Entry) → IsMarkedAt slots later t →
      BeginsAndEnds board slots later m m
  counts-marked slots later t m marked =
      let within = has-within slots t marked.future marked.had in
      let f : Future = record marked.future { abandoned = true } in
      let same_count = one-same slots t within marked.future f marked.had in
      let here = counts-same slots m m (aside-here m) in
      subst (λ (l : List (Option Future)). BeginsAndEnds board slots l m m) (sym marked.slots)
      (record {
        begun = 0;
        ended = 0;
        kept = omega (arith, same_count);
        made = refl;
        claimed = omega arith;
        released = omega arith;
        aside = here.aside;
        notes = record {
          noted = λ x e none at. at;
          apart = λ x e none at u p has is.
              elim (cases_eq u t) [
                | inl at_t ↦
                    none t marked.future marked.had
                    (ap (root_of board) (is-here slots t within f u p at_t has) ∙ is)
                | inr there ↦ none u p (was-there slots t within (Some f) u p there has) is
              ];
          balance = λ x.
              let futures = futures-set slots t within f x (Some f) in
              let before : one_future board x (get_or slots t None) ≡ one_future board x (Some f) =
              ap (one_future board x) marked.had in
              omega (arith, futures, before);
        };
        fresh = here.fresh;
        grown = here.grown;
        sees = here.sees;
      })
