-- The word of the counting scope as a number: four bits above the count.
use Rattle.std.specs.Prelude.{ℕ, ◌+◌, ◌*◌, ◌/◌, ◌%◌, ◌==◌}
use Rattle.life_rules.specs.declared.scope.ScopeWord.{ScopeWord}
use Rattle.table_words.specs.Stamps.{stamp_of, code_of, packed, bit}

abbrev pub scope_flags : ScopeWord → ℕ
scope_flags w = bit w.used + 2 * bit w.closed + 4 * bit w.joining + 8 * bit w.joined

abbrev pub scope_written : ScopeWord → ℕ
scope_written w = packed (scope_flags w) w.count

abbrev pub scope_read : ℕ → ScopeWord
scope_read w =
    record {
      used = stamp_of w % 2 == 1;
      closed = stamp_of w / 2 % 2 == 1;
      joining = stamp_of w / 4 % 2 == 1;
      joined = stamp_of w / 8 % 2 == 1;
      count = code_of w;
    }
