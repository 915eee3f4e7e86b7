-- The operations that a hand has noted, when one comes and when one goes.
use Rattle.std.proofs.Common.{◌≡◌, ◌≢◌, ℕ, ◌+◌, ◌<◌, Bool, List, [], ◌∷◌, length, set, get_or, cond, inl, inr, sym, ap, ◌∙◌, subst, arith}
use Rattle.std.specs.Prelude.{Option, Some, None, is_some}
use Rattle.std.proofs.lemmas.Bool.{cases_eq}
use Rattle.std.proofs.lemmas.List.{get_or-set_same, get_or-set_other}
use Rattle.std.proofs.lemmas.List.Sums.{sum_by-set}
use Rattle.std.proofs.lemmas.Option.{none-some, same_Some}
use Rattle.exec_value.specs.declared.data.Datum.{Datum}
use Rattle.life_rules.specs.declared.event.Name.{Name}
use Rattle.plan_shape.specs.Blueprint.{Blueprint}
use Rattle.table_rules.specs.declared.view.Rooted.{Rooted}
use Rattle.table_rules.specs.Named.{find_by}
use Rattle.table_steps.specs.Views.{Board}
use Rattle.home_items.specs.declared.entry.Entry.{Entry}
use Rattle.home_items.specs.Entries.{record_start}
use Rattle.exec_recv.specs.Asides.{Aside}
use Rattle.record_operations.specs.declared.tickets.Operation.{Operation}
use Rattle.record_operations.specs.Calls.{with_entered, with_left}
use Rattle.record_operations.specs.Runs.{root_of, taken}
use Rattle.record_operations.specs.Sound.{Has, IsOfRecord, AreListed}
use Rattle.record_operations.proofs.Named.{first-found, others-found, others-stay}

abbrev pub name_of : Rooted Entry → Name
name_of e = e.name

abbrev pub one_if : Option Operation → ℕ
one_if o = cond (is_some o) 1 0

module _ (operations : List (Option Operation)) (t : ℕ) (within : t < length operations) where
  -- what the ticket has now
  pub put-here : (o : Option Operation) → get_or (set operations t o) t None ≡ o
  put-here o = get_or-set_same operations t o None within

  pub put-there : (o : Option Operation) (u : ℕ) → u ≢ t → get_or (set operations t o) u None ≡ get_or operations u None
  put-there o u apart = get_or-set_other operations t u o None apart

  -- one more is taken, or one less
  pub one-more : (o : Operation) → get_or operations t None ≡ None → taken (set operations t (Some o)) ≡ taken operations + 1
  one-more o free =
      let sums = sum_by-set one_if operations t (Some o) None within in
      let none : one_if (get_or operations t None) ≡ 0 = ap one_if free in
      omega (arith, sums, none)

  pub one-less : (o : Operation) → Has operations t o → taken operations ≡ taken (set operations t None) + 1
  one-less o has =
      let sums = sum_by-set one_if operations t None None within in
      let one : one_if (get_or operations t None) ≡ 1 = ap one_if has in
      omega (arith, sums, one)

module _ (board : Board Blueprint) (plan : Blueprint) (aside : Aside) (operations : List (Option Operation)) {kept : ℕ}
    (listed : AreListed board plan aside operations kept) where
  -- a root of which no start is noted is none of theirs
  pub unnoted-apart : (x : Name) → find_by name_of aside.noted x ≡ None → (u : ℕ) (p : Operation) → Has operations u p →
      x ≡ root_of board p → ⊥
  unnoted-apart x none u p has at =
      let start = (listed.each u p has).start in
      let gone : find_by name_of aside.noted (root_of board p) ≡ None =
      ap (find_by name_of aside.noted) (sym at) ∙ none in
      cc

  module _ (t : ℕ) (within : t < length operations) where
    -- an operation is started
    module _ (o : Operation) (free : get_or operations t None ≡ None) (inside : o.block.index < board.frame.layout.blocks)
        (none : find_by name_of aside.noted (root_of board o) ≡ None) (number : ℕ) (datum : Datum) (asked : Bool) where
      abbrev start : List Entry
      start = record_start plan (datum ∷ []) number asked

      abbrev grown : Aside
      grown = with_entered (root_of board o) start aside

      pub entered-here : find_by name_of grown.noted (root_of board o) ≡ Some (record { name = root_of board o; start = start })
      entered-here = first-found name_of (record { name = root_of board o; start = start }) aside.noted

      pub entered-there : (u : ℕ) (p : Operation) → Has operations u p →
          find_by name_of grown.noted (root_of board p) ≡ find_by name_of aside.noted (root_of board p)
      entered-there u p has =
          others-found name_of (record { name = root_of board o; start = start }) aside.noted (root_of board p)
          (unnoted-apart (root_of board o) none u p has)

      -- what the other tickets had they have
      was-there : (u : ℕ) (p : Operation) → u ≢ t → Has (set operations t (Some o)) u p → Has operations u p
      was-there u p apart has = sym (put-there operations t within (Some o) u apart) ∙ has

      is-here : (u : ℕ) (p : Operation) → u ≡ t → Has (set operations t (Some o)) u p → o ≡ p
      is-here u p at has =
          same_Some o p
          (sym (put-here operations t within (Some o)) ∙ ap (λ k. get_or (set operations t (Some o)) k None) (sym at) ∙ has)

      entered-record : (u : ℕ) (p : Operation) → Has (set operations t (Some o)) u p → IsOfRecord board plan grown.noted p
      entered-record u p has = elim (cases_eq u t) [
        | inl here ↦
            subst (IsOfRecord board plan grown.noted) (is-here u p here has)
            (record { within = inside; number = number; datum = datum; asked = asked; start = entered-here })
        | inr there ↦
            let before = listed.each u p (was-there u p there has) in
            record {
              within = before.within;
              number = before.number;
              datum = before.datum;
              asked = before.asked;
              start = entered-there u p (was-there u p there has) ∙ before.start;
            }
      ]

      entered-apart : (u w : ℕ) (p q : Operation) → Has (set operations t (Some o)) u p → Has (set operations t (Some o)) w q →
          root_of board p ≡ root_of board q → u ≡ w
      entered-apart u w p q has_p has_q at = elim (cases_eq u t) [
        | inl here ↦
            elim (cases_eq w t) [
              | inl here_too ↦ here ∙ sym here_too
              | inr there ↦
                  absurd
                  (unnoted-apart (root_of board o) none w q (was-there w q there has_q)
                  (ap (root_of board) (is-here u p here has_p) ∙ at))
            ]
        | inr there ↦
            elim (cases_eq w t) [
              | inl here_too ↦
                  absurd
                  (unnoted-apart (root_of board o) none u p (was-there u p there has_p)
                  (ap (root_of board) (is-here w q here_too has_q) ∙ sym at))
              | inr there_too ↦ listed.apart u w p q (was-there u p there has_p) (was-there w q there_too has_q) at
            ]
      ]

      pub entered-listed : AreListed board plan grown (set operations t (Some o)) kept
      entered-listed =
          let more = one-more operations t within o free in
          let made = listed.made in
          let claimed = listed.claimed in
          record {
            made = omega (arith, more, made);
            claimed = omega (arith, more, claimed);
            each = entered-record;
            apart = entered-apart;
          }

    -- one is collected
    module _ (o : Operation) (has : Has operations t o) where
      abbrev shrunk : Aside
      shrunk = with_left (root_of board o) aside

      stays-there : (u : ℕ) (p : Operation) → Has (set operations t None) u p → (u ≢ t) × Has operations u p
      stays-there u p has_p = elim (cases_eq u t) [
        | inl here ↦
            absurd
            (none-some p
            (sym (put-here operations t within None) ∙ ap (λ k. get_or (set operations t None) k None) (sym here) ∙ has_p))
        | inr there ↦ (there, sym (put-there operations t within None u there) ∙ has_p)
      ]

      pub left-there : (u : ℕ) (p : Operation) → u ≢ t → Has operations u p →
          find_by name_of shrunk.noted (root_of board p) ≡ find_by name_of aside.noted (root_of board p)
      left-there u p apart has_p =
          others-stay name_of aside.noted (root_of board o) (root_of board p)
          (λ at. apart (sym (listed.apart t u o p has has_p at)))

      left-record : (u : ℕ) (p : Operation) → Has (set operations t None) u p → IsOfRecord board plan shrunk.noted p
      left-record u p has_p =
          let there = stays-there u p has_p in
          let before = listed.each u p there.1 in
          record {
            within = before.within;
            number = before.number;
            datum = before.datum;
            asked = before.asked;
            start = left-there u p there.0 there.1 ∙ before.start;
          }

      pub left-listed : AreListed board plan shrunk (set operations t None) kept
      left-listed =
          let less = one-less operations t within o has in
          let made = listed.made in
          let claimed = listed.claimed in
          record {
            made = omega (arith, less, made);
            claimed = omega (arith, less, claimed);
            each = left-record;
            apart = λ u w p q has_p has_q at.
                listed.apart u w p q (stays-there u p has_p).1 (stays-there w q has_q).1 at;
          }
