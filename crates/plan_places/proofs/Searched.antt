-- The first node that is sought, one level down.
use Rattle.std.proofs.Common.{◌≡◌, ℕ, zero, suc, ◌-◌, ◌<◌, Bool, true, false, List, Some, None, refl, ap, ◌∙◌, arith, sub-one}
use Rattle.std.specs.Prelude.{if◌then◌else◌}
use Rattle.serde_json.specs.Data.{Data}
use Rattle.plan_reader.specs.declared.node_word.NodeWord.{NodeWord}
use Rattle.plan_places.specs.declared.seeking.Search.{Search}
use Rattle.plan_places.specs.declared.sought.Sought.{Sought}
use Rattle.plan_reasons.specs.Own.{node_word_at}
use Rattle.plan_places.specs.Seeking.{below, first_at, in_known, in_parts, is_it, site_at}

-- no level
pub first-zero : (v : Bool) (levels : ℕ) (s : Sought) (path : List ℕ) (d : Data) → levels ≡ 0
    → None ≡ first_at v levels s path d
unfolding first_at
first-zero v levels s path d is = rw is refl

-- one level down
first-suc : (v : Bool) (levels : ℕ) (s : Sought) (path : List ℕ) (d : Data) → 0 < levels
    → first_at v levels s path d
    ≡ (if is_it v s d then Some (site_at v s path d)
    else in_known (λ word. first_at v (levels - 1) (below s word)) (node_word_at v d) path d)
unfolding first_at
first-suc v zero s path d some = absurd (omega arith)
first-suc v (suc levels) s path d some = rw sub-one refl

-- a node that is sought
pub first-here : (v : Bool) (levels : ℕ) (s : Sought) (path : List ℕ) (d : Data) → 0 < levels
    → is_it v s d ≡ true → Some (site_at v s path d) ≡ first_at v levels s path d
first-here v levels s path d some is = rw (first-suc v levels s path d some, is) refl

-- one whose name isn't known
pub first-unknown : (v : Bool) (levels : ℕ) (s : Sought) (path : List ℕ) (d : Data) → 0 < levels
    → is_it v s d ≡ false → node_word_at v d ≡ None → None ≡ first_at v levels s path d
first-unknown v levels s path d some other unknown =
    rw (first-suc v levels s path d some, other, unknown) refl

-- one whose name is known
first-known : (v : Bool) (levels : ℕ) (s : Sought) (path : List ℕ) (d : Data) (word : NodeWord)
    → 0 < levels → is_it v s d ≡ false → node_word_at v d ≡ Some word
    → in_parts (first_at v (levels - 1) (below s word)) word path d ≡ first_at v levels s path d
first-known v levels s path d word some other known =
    rw (first-suc v levels s path d some, other, known) refl

pub first-below : (self under : Search) (path : List ℕ) (d : Data) (word : NodeWord)
    → 0 < self.levels → is_it self.is_first self.sought d ≡ false
    → node_word_at self.is_first d ≡ Some word
    → under ≡ record self { levels = self.levels - 1; sought = below self.sought word }
    → in_parts (first_at under.is_first under.levels under.sought) word path d
    ≡ first_at self.is_first self.levels self.sought path d
first-below self under path d word some other known is =
    ap (λ (u : Search). in_parts (first_at u.is_first u.levels u.sought) word path d) is
    ∙ first-known self.is_first self.levels self.sought path d word some other known
