-- The laws of what a cutter keeps of a stream.
use Rattle.std.proofs.Common.{◌≡◌, ◌≢◌, ℕ, ◌+◌, ◌<◌, ◌==◌, Bool, true, false, not, MatchOption, if◌then◌else◌, List, [], ◌++◌, Option, length, take, refl, sym, ap, ◌∙◌, subst, inl, inr, arith, length-append}
use Rattle.std.specs.Bool.{then_some}
use Rattle.std.proofs.lemmas.Bool.{eqb-true, eqb-false, cases_lt, cases_eq, eq-eqb, ne_eqb, cond-true, cond-false}
use Rattle.std.proofs.lemmas.List.{take_all, take-take, take-append-le, length-take, length-take-le, nil_from_length, append-nil}
use Rattle.record_lines.specs.declared.ending.End.TheVariants.{Ended}
use Rattle.record_lines.specs.declared.limits.TheConstants.{MOST_LINE}
use Rattle.record_lines.specs.declared.line_end.LineEnd.{LineEnd}
use Rattle.record_lines.specs.Lines.{whole_lines, rest_of, without_cr, text_of, HasNoLineFeed}
use Rattle.record_lines.specs.LineEnds.{IsSplitAt}
use Rattle.record_lines.specs.Records.{records_of}
use Rattle.record_lines.specs.Cutters.{room, Held, held_by, line_kept, StandsAfter, HasLine, GoesOn, EndsLine, EndsStream, line_after, Finishes}
use Rattle.record_lines.proofs.LineLaws.{rest_of-nil, whole_lines-same, rest_of-more, whole_lines-line, rest_of-line}
use Rattle.record_lines.proofs.TextLaws.{length-without_cr, text_of-long}
use Rattle.record_lines.proofs.RecordLaws.{last_line-none, last_line-some}

room-is : room ≡ MOST_LINE + 2
unfolding room
room-is = refl

-- the first bytes of a list stand for it, where no more of what follows is wanted
take_of-take : (n : ℕ) (xs ys : List ℕ) → take n (take n xs ++ ys) ≡ take n (xs ++ ys)
take_of-take n xs ys = elim (cases_lt (length xs) n) [
  | inl short ↦ ap (λ zs. take n (zs ++ ys)) (take_all n xs (omega arith))
  | inr long ↦
      take-append-le n (take n xs) ys (omega (arith, length-take-le n xs long))
      ∙ take-take n n xs (omega arith)
      ∙ sym (take-append-le n xs ys long)
]

-- the text of a line can be read from what is kept of it
pub text_of-kept : (line : List ℕ) → text_of (without_cr (take room line)) ≡ text_of (without_cr line)
text_of-kept line = elim (cases_lt room (length line)) [
  | inr short ↦ ap (λ bytes. text_of (without_cr bytes)) (take_all room line short)
  | inl long ↦
      let size = length-take-le room line (omega arith) in
      text_of-long (without_cr (take room line)) (omega (arith, room-is, size, length-without_cr (take room line)))
      ∙ sym (text_of-long (without_cr line) (omega (arith, room-is, length-without_cr line)))
]

-- a list whose first bytes are none has none
nil_from_kept : (bytes : List ℕ) → length (take room bytes) ≡ 0 → bytes ≡ []
nil_from_kept bytes none = elim (cases_lt (length bytes) room) [
  | inl short ↦ nil_from_length bytes (ap length (sym (take_all room bytes (omega arith))) ∙ none)
  | inr long ↦ absurd (omega (arith, room-is, length-take-le room bytes long))
]

-- a cutter that keeps nothing stands at the start
pub StandsAfter-start : (held : Held) → held.rest ≡ [] → StandsAfter held []
StandsAfter-start held none =
    record { keeps = none ∙ sym (ap (take room) rest_of-nil ∙ take_all room [] (omega arith)) }

-- a piece without a line feed goes on with the rest
pub GoesOn-from_kept : (old new : Held) (bytes piece : List ℕ) → StandsAfter old bytes → HasNoLineFeed piece
    → new.rest ≡ take room (old.rest ++ piece) → GoesOn piece new bytes
GoesOn-from_kept old new bytes piece stood free kept = record {
  lines = whole_lines-same bytes piece free;
  stands = record {
    keeps =
        kept ∙ ap (λ rest. take room (rest ++ piece)) stood.keeps ∙ take_of-take room (rest_of bytes) piece
        ∙ ap (take room) (sym (rest_of-more bytes piece free));
  };
}

-- the text of a line that began in the piece where it ends
HasLine-from_front : (new : Held) (end : LineEnd) → new.line ≡ [] → HasLine new end (without_cr end.front.now)
HasLine-from_front new end none =
    record { text = ap (λ line. text_of (without_cr (if length line == 0 then end.front.now else line))) none }

-- the text of a line that began before it
HasLine-from_kept : (new : Held) (end : LineEnd) (line : List ℕ) → 0 < length new.line → new.line ≡ take room line
    → HasLine new end (without_cr line)
HasLine-from_kept new end line some kept = record {
  text =
      let there = cond-false (length new.line == 0) end.front.now new.line (ne_eqb (length new.line) 0 (omega arith)) in
      ap (λ line. text_of (without_cr line)) (there ∙ kept) ∙ text_of-kept line;
}

HasLine-from_end : (old new : Held) (bytes : List ℕ) (end : LineEnd) → StandsAfter old bytes
    → new.line ≡ line_kept old.rest end.front.now → HasLine new end (line_after bytes end)
HasLine-from_end old new bytes end stood kept = elim (cases_eq (length old.rest) 0) [
  | inl none ↦
      let P : List ℕ → Type 0 = λ rest. HasLine new end (without_cr (rest ++ end.front.now)) in
      let start : rest_of bytes ≡ [] = nil_from_kept (rest_of bytes) (ap length (sym stood.keeps) ∙ none) in
      subst P (sym start) (HasLine-from_front new end (kept ∙ cond-true (length old.rest == 0) [] _ (eq-eqb (length old.rest) 0 none)))
  | inr some ↦
      let front = end.front.now in
      let whole = old.rest ++ front in
      let joined = kept ∙ cond-false (length old.rest == 0) [] (take room whole) (ne_eqb (length old.rest) 0 some) in
      let total = length-append old.rest front in
      let size : 0 < length new.line = omega (arith, room-is, some, total, ap length joined ∙ length-take room whole) in
      let first = ap (λ rest. take room (rest ++ front)) stood.keeps ∙ take_of-take room (rest_of bytes) front in
      HasLine-from_kept new end (rest_of bytes ++ front) size (joined ∙ first)
]

-- the first line feed of a piece ends a line
pub EndsLine-from_kept : (old new : Held) (bytes piece : List ℕ) (end : LineEnd) → StandsAfter old bytes → IsSplitAt piece end
    → new.rest ≡ [] → new.line ≡ line_kept old.rest end.front.now → EndsLine new bytes end
EndsLine-from_kept old new bytes piece end stood split none kept = record {
  lines = whole_lines-line bytes end.front.now split.front;
  line = HasLine-from_end old new bytes end stood kept;
  stands = record {
    keeps = none ∙ sym (ap (take room) (rest_of-line bytes end.front.now split.front) ∙ take_all room [] (omega arith));
  };
}

-- a stream that ends without a rest has no last line
pub records_of-no_rest : (old : Held) (bytes : List ℕ) → StandsAfter old bytes → length old.rest ≡ 0
    → records_of bytes Ended ≡ whole_lines bytes
records_of-no_rest old bytes stood none =
    ap (λ lines. whole_lines bytes ++ lines)
    (last_line-none (rest_of bytes) (nil_from_kept (rest_of bytes) (ap length (sym stood.keeps) ∙ none)))
    ∙ append-nil (whole_lines bytes)

-- a rest is the last line of a stream that ends
pub EndsStream-from_kept : (old new : Held) (bytes : List ℕ) (end : LineEnd) → StandsAfter old bytes
    → length old.rest ≢ 0 → new.line ≡ old.rest → EndsStream new bytes end
EndsStream-from_kept old new bytes end stood some kept =
    let size : 0 < length new.line = omega (arith, some, ap length kept) in
    let none_kept : rest_of bytes ≡ [] → length old.rest ≡ 0 =
    λ none. ap length (stood.keeps ∙ ap (take room) none ∙ take_all room [] (omega arith)) in
    let there : rest_of bytes ≢ [] = λ none. some (none_kept none) in
    record {
      lines = ap (λ lines. whole_lines bytes ++ lines) (last_line-some (rest_of bytes) there);
      line = HasLine-from_kept new end (rest_of bytes) size (kept ∙ stood.keeps);
    }

-- where a line is open, what is kept is of it
pub kept-is : (kept : List ℕ) (is_ended : Bool) (held : Held) → held_by kept is_ended ≡ held → length held.rest ≢ 0 → kept ≡ held.rest
kept-is kept true held is some = absurd (some (ap (λ held. length held.rest) (sym is)))
kept-is kept false held is some = ap (λ held. held.rest) is

-- what the end of the stream may say of its last line
abbrev SaysLast : Held → List ℕ → Option LineEnd → Type 0
SaysLast new bytes result = MatchOption result (records_of bytes Ended ≡ whole_lines bytes) (EndsStream new bytes)

-- the end of the stream, by whether no line is open
pub Finishes-from_kept : (kept : List ℕ) (is_ended : Bool) (old : Held) (is_empty : Bool) (end : LineEnd) (result : Option LineEnd)
    → held_by kept is_ended ≡ old → is_empty ≡ (length old.rest == 0) → result ≡ then_some (not is_empty) end
    → Finishes old (held_by kept true) result
Finishes-from_kept kept is_ended old true end result view is found =
    let none = eqb-true (length old.rest) 0 (sym is) in
    λ bytes stood. subst (SaysLast (held_by kept true) bytes) (sym found) (records_of-no_rest old bytes stood none)
Finishes-from_kept kept is_ended old false end result view is found =
    let new = held_by kept true in
    let some : length old.rest ≢ 0 = eqb-false (length old.rest) 0 (sym is) in
    let line = kept-is kept is_ended old view some in
    λ bytes stood. subst (SaysLast new bytes) (sym found) (EndsStream-from_kept old new bytes end stood some line)
