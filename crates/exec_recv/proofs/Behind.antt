-- Homes that a hand came to have lie in front of those that it had, and are others.
use Rattle.std.proofs.Common.{◌≡◌, ℕ, false, ◌||◌, ◌==◌, List, [], ◌∷◌, refl, sym, ap, ◌∙◌}
use Rattle.std.specs.Prelude.{◌≢◌, Option, Some, None}
use Rattle.std.specs.List.{list_any}
use Rattle.std.proofs.lemmas.Bool.{cond-false, eqb-true, ne_eqb}
use Rattle.common_lemmas.proofs.Bool.{either}
use Rattle.life_rules.specs.declared.event.Name.{Name}
use Rattle.node_tree.specs.declared.node.TreeNode.{TreeNode}
use Rattle.table_words.specs.declared.layout.Layout.{Layout}
use Rattle.table_words.specs.Layouts.{place_number}
use Rattle.table_rules.specs.Named.{Each}
use Rattle.table_steps.specs.Kids.{empty_slots}
use Rattle.table_steps.specs.Reports.{laid}
use Rattle.table_steps.specs.Slots.{AreApart, slot_of, kids_of, kept, is_of_family}

-- a slot in which something lies is another than one that none of these is
other-slot : {A : Type 0} (s slot : ℕ) (cs : List (ℕ × A)) (v : A) → Each (λ d. d.0 ≢ s) cs → kept slot cs ≡ Some v →
    (s == slot) ≡ false
other-slot s slot [] v apart is = cc
other-slot s slot (d ∷ ds) v apart is =
    either (d.0 == slot)
    (λ t. ne_eqb s slot (λ e. apart.0 (eqb-true d.0 slot t ∙ sym e)))
    (λ f. other-slot s slot ds v apart.1 (sym (cond-false (d.0 == slot) (Some d.1) (kept slot ds) f) ∙ is))

-- behind one more slot it is kept
pub behind-one : {A : Type 0} (s slot : ℕ) (inside : A) (cs : List (ℕ × A)) (v : A) → AreApart ((s, inside) ∷ cs) → kept slot cs ≡ Some v →
    (kept slot ((s, inside) ∷ cs) ≡ Some v) × ((s == slot) ≡ false)
behind-one s slot inside cs v apart is =
    let other = other-slot s slot cs v apart.0 is in
    (cond-false (s == slot) (Some inside) (kept slot cs) other ∙ is, other)

-- the slot is none of the homes of these nodes
abbrev pub AreBeside : Layout → ℕ → List ℕ → ℕ → Type 0
AreBeside l b ns slot = list_any (λ n. place_number l b n == slot) ns ≡ false

module _ {P : Type 0} (l : Layout) (b : ℕ) where
  -- and behind the homes of these nodes
  pub behind-laid : (ns : List ℕ) (content : ℕ → Option P) (rest : List (ℕ × Option P)) (slot : ℕ) (v : Option P) →
      AreApart (laid l b ns content rest) → kept slot rest ≡ Some v →
      (kept slot (laid l b ns content rest) ≡ Some v) × AreBeside l b ns slot
  behind-laid [] content rest slot v apart is = (is, refl)
  behind-laid (n ∷ ns) content rest slot v apart is =
      let more = behind-laid ns content rest slot v apart.1 is in
      let here = behind-one (place_number l b n) slot (content n) (laid l b ns content rest) v apart more.0 in
      (here.0, ap (λ t. t || list_any (λ k. place_number l b k == slot) ns) here.1 ∙ more.1)

  -- empty homes are laid with nothing
  pub empty-laid : (ns : List ℕ) (rest : List (ℕ × Option P)) → empty_slots l b ns rest ≡ laid l b ns (λ _. None) rest
  empty-laid [] rest = refl
  empty-laid (n ∷ ns) rest = ap (λ cs. (place_number l b n, None) ∷ cs) (empty-laid ns rest)

-- behind the homes of a whole family
pub behind-family : {P : Type 0} (tree : List TreeNode) (l : Layout) (x : Name) (own : Option P) (content : ℕ → Option P) (rest : List (ℕ × Option P)) (slot : ℕ) (v : Option P) →
    AreApart ((slot_of l x, own) ∷ laid l x.block (kids_of tree x.node) content rest) → kept slot rest ≡ Some v →
    (kept slot ((slot_of l x, own) ∷ laid l x.block (kids_of tree x.node) content rest) ≡ Some v)
    × (is_of_family tree l x slot ≡ false)
behind-family tree l x own content rest slot v apart is =
    let kids = kids_of tree x.node in
    let below = behind-laid l x.block kids content rest slot v apart.1 is in
    let here = behind-one (slot_of l x) slot own (laid l x.block kids content rest) v apart below.0 in
    (here.0, ap (λ t. t || list_any (λ k. place_number l x.block k == slot) kids) here.1 ∙ below.1)
