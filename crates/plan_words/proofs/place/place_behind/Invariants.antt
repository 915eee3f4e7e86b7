use Rattle.std.proofs.Common.{◌≡◌, ◌≤◌, ◌+◌, drop}
use Rattle.std.specs.List.{fold}
use Rattle.plan_words.specs.Places.{after_byte}
use Rattle.plan_words.proofs.place.place_behind.Given as goal

-- the place after the bytes that were passed
abbrev pub invariant-loop-byte : goal.invariant-loop-byte
invariant-loop-byte l = record {
  place : fold after_byte l.place (drop l.byte-index l.byte-items) ≡ fold after_byte l.initial.place l.byte-items;
  line : l.place.line ≤ l.byte-index + 1;
  column : l.place.column ≤ l.byte-index + 1;
}
