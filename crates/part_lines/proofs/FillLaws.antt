-- What a reader finds ahead.
use Rattle.std.proofs.Common.{◌≡◌, ◌≢◌, ℕ, List, [], ◌++◌, length, Option, Some, None, Result, Ok, Err, eqb, inl, inr, refl, sym, ap, ◌∙◌, subst, append-nil, arith, length-append}
use Rattle.std.specs.Prelude.{IfErr, IfSome}
use Rattle.std.proofs.lemmas.Bool.{cases_Bool, cond-true, cond-false, false≢true}
use Rattle.std.specs.Io.KnownBytes.{IsAtEnd, Keeps}
use Rattle.record_lines.specs.Lines.{HasNoLineFeed}
use Rattle.part_lines.specs.declared.limits.TheConstants.{MOST_HELD}
use Rattle.part_lines.specs.declared.line.Said.{Said}
use Rattle.part_lines.specs.declared.reader.PartFault.{PartFault}
use Rattle.part_lines.specs.declared.reader.PartFault.TheVariants.{Missing, NotLine, Failed, NoMemory}
use Rattle.part_lines.specs.Faults.{IsFaultAt, IsNoLine, at_end}
use Rattle.part_lines.specs.Lines.{BeginsLine, LineEndsAt}
use Rattle.part_lines.specs.Readers.{IsSaidOrFault, bytes_ahead}
use Rattle.part_lines.proofs.LineLaws.{begins_before, too_long_held, no_line_feed}

pub keeps_same : (told : Option (List ℕ)) → Keeps told told
keeps_same None = tt
keeps_same (Some xs) = refl

pub keeps_then : (old mid new : Option (List ℕ)) → Keeps old mid → Keeps mid new → Keeps old new
keeps_then None mid new first second = tt
keeps_then (Some xs) None new first second = absurd first
keeps_then (Some xs) (Some ys) None first second = absurd second
keeps_then (Some xs) (Some ys) (Some zs) first second = second ∙ first

-- what holds of what is ahead afterwards held before
pub held_before : (P : List ℕ → Type 0) (old new : Option (List ℕ)) → Keeps old new → IfSome new P → IfSome old P
held_before P None new keeps holds = tt
held_before P (Some xs) None keeps holds = absurd keeps
held_before P (Some xs) (Some ys) keeps holds = subst P keeps holds

-- a window that is full has no line
pub full_window : (number : ℕ) (at_hand : List ℕ) (left : Option (List ℕ)) → HasNoLineFeed at_hand → length at_hand ≡ MOST_HELD → IfSome (bytes_ahead at_hand left) (IsNoLine number)
full_window number at_hand None free full = tt
full_window number at_hand (Some more) free full = record {
  some = λ e. omega (arith, full, length-append at_hand more, ap length e);
  no_line = too_long_held number at_hand more free (omega (arith, full));
}

-- at the end of a file bytes without a line feed are no line
pub at_its_end : (number : ℕ) (at_hand : List ℕ) (left : Option (List ℕ)) → HasNoLineFeed at_hand → at_hand ≢ [] → IsAtEnd left → IfSome (bytes_ahead at_hand left) (IsNoLine number)
at_its_end number at_hand None free some end = tt
at_its_end number at_hand (Some more) free some end =
    let whole : at_hand ++ more ≡ at_hand = ap (λ (l : List ℕ). at_hand ++ l) end ∙ append-nil at_hand in
    subst (IsNoLine number) (sym whole) (record { some = some; no_line = no_line_feed number at_hand free })

-- what the end of a file says of what was ahead before
pub at_end_fault : (number : ℕ) (at_hand : List ℕ) (left old : Option (List ℕ)) (r : Result (Option ℕ) PartFault) → r ≡ at_end at_hand number → HasNoLineFeed at_hand → IsAtEnd left
    → Keeps old (bytes_ahead at_hand left) → IfErr r (IsFaultAt old number)
at_end_fault number at_hand left old r is free end keeps =
    let P : Result (Option ℕ) PartFault → Type 0 = λ answer. IfErr answer (IsFaultAt old number) in
    elim (cases_Bool (eqb (length at_hand) 0)) [
      | inl empty ↦ subst P (sym (is ∙ cond-true (eqb (length at_hand) 0) (Ok None) (Err (NotLine number)) empty)) tt
      | inr some ↦
          subst P (sym (is ∙ cond-false (eqb (length at_hand) 0) (Ok None) (Err (NotLine number)) some))
          (refl, held_before (IsNoLine number) old (bytes_ahead at_hand left) keeps (at_its_end number at_hand left free (λ e. false≢true (sym some ∙ ap (λ (l : List ℕ). eqb (length l) 0) e)) end))
    ]

-- bytes that aren't the line of a number
not_the_line : (number : ℕ) (at_hand : List ℕ) (end : ℕ) (left : Option (List ℕ)) → LineEndsAt at_hand end → ¬ BeginsLine number at_hand → IfSome (bytes_ahead at_hand left) (IsNoLine number)
not_the_line number at_hand end None ends none = tt
not_the_line number at_hand end (Some more) ends none = record {
  some = λ e. omega (arith, ends.within, length-append at_hand more, ap length e);
  no_line = λ begins. none (begins_before at_hand more end number ends begins);
}

pub said_fault : (number : ℕ) (at_hand : List ℕ) (end : ℕ) (left old : Option (List ℕ)) (r : Result (Option Said) PartFault) → LineEndsAt at_hand end → IsSaidOrFault at_hand number r
    → Keeps old (bytes_ahead at_hand left) → IfErr r (IsFaultAt old number)
said_fault number at_hand end left old (Ok said) ends is keeps = tt
said_fault number at_hand end left old (Err Missing) ends is keeps = is
said_fault number at_hand end left old (Err (NotLine at)) ends is keeps =
    (is.0, held_before (IsNoLine number) old (bytes_ahead at_hand left) keeps (not_the_line number at_hand end left ends is.1))
said_fault number at_hand end left old (Err Failed) ends is keeps = tt
said_fault number at_hand end left old (Err NoMemory) ends is keeps = tt
