-- Names by the numbers of their places.
use Rattle.std.proofs.Common.{◌≡◌, ℕ, ◌+◌, ◌*◌, ◌/◌, ◌%◌, ◌<◌, ◌≤◌, ◌==◌, true, sym, ap, ◌∙◌, arith}
use Rattle.std.specs.Prelude.{nat_lt, slice_index}
use Rattle.std.proofs.lemmas.Bool.{and_parts, and_from, eqb-true, eq-eqb, ltb-true, lt-ltb}
use Rattle.std.proofs.lemmas.Nat.{div-mul-add, mod-mul-add, mul-add-lt, row-Below, div-add-mod'}
use Rattle.std.proofs.Math.Nat.{mod-lt}
use Rattle.life_rules.specs.declared.event.Name.{Name}
use Rattle.table_words.specs.declared.layout.Layout.{Layout}
use Rattle.table_words.specs.Layouts.{place_number, places_in}
use Rattle.name_set.specs.Sets.{Marks, is_marked, is_place_of, has, IsPlaceOf}

-- two names of one number have one place
pub record IsSamePlace (x y : Name) : Type 0 where
  pub block : x.block ≡ y.block
  pub node : x.node ≡ y.node

pub same-place : (l : Layout) (x y : Name) → IsPlaceOf l x → IsPlaceOf l y →
    place_number l x.block x.node ≡ place_number l y.block y.node → IsSamePlace x y
same-place l x y px py e =
    record {
      block = sym (div-mul-add x.block l.nodes x.node px.node) ∙ ap (λ p. p / l.nodes) e
          ∙ div-mul-add y.block l.nodes y.node py.node;
      node = sym (mod-mul-add x.block l.nodes x.node px.node) ∙ ap (λ p. p % l.nodes) e
          ∙ mod-mul-add y.block l.nodes y.node py.node;
    }

-- what it is to have a name
pub record Has (m : Marks) (x : Name) : Type 0 where
  pub place : IsPlaceOf m.layout x
  pub marked : is_marked m.bits (place_number m.layout x.block x.node) ≡ true
  pub generation : slice_index m.generations x.block ≡ x.generation

pub had : (m : Marks) (x : Name) → has m x ≡ true → Has m x
had m x h =
    let a = and_parts (is_place_of m.layout x) _ h in
    let p = and_parts (nat_lt x.block m.layout.blocks) (nat_lt x.node m.layout.nodes) a.0 in
    let b = and_parts (is_marked m.bits (place_number m.layout x.block x.node)) (slice_index m.generations x.block == x.generation) a.1 in
    record {
      place = record { block = ltb-true _ _ p.0; node = ltb-true _ _ p.1 };
      marked = b.0;
      generation = eqb-true _ _ b.1;
    }

pub having : (m : Marks) (x : Name) → Has m x → has m x ≡ true
having m x h =
    and_from (is_place_of m.layout x) _ (and_from _ _ (lt-ltb _ _ h.place.block) (lt-ltb _ _ h.place.node))
    (and_from _ _ h.marked (eq-eqb _ _ h.generation))

-- the place of a number
pub record IsPlaceAt (l : Layout) (p : ℕ) : Type 0 where
  pub block : p / l.nodes < l.blocks
  pub node : p % l.nodes < l.nodes
  pub number : place_number l (p / l.nodes) (p % l.nodes) ≡ p

pub place-at : (l : Layout) (p : ℕ) → 1 ≤ l.nodes → p < places_in l → IsPlaceAt l p
place-at l p some below =
    let turned = native.Mathlib.Nat.mul_comm l.nodes l.blocks in
    record {
      block = (row-Below p l.nodes l.nodes l.blocks (omega (arith, below, turned)) (omega arith)).1;
      node = mod-lt p (omega (arith, some));
      number = div-add-mod' p l.nodes;
    }

-- and its number is below the number of bits
pub bit-within : (l : Layout) (x : Name) (words : ℕ) → IsPlaceOf l x → words ≡ places_in l / 64 + 1 →
    place_number l x.block x.node < 64 * words
bit-within l x words p is =
    let w = mul-add-lt x.block l.nodes x.node l.blocks p.block p.node in
    let turned = native.Mathlib.Nat.mul_comm l.nodes l.blocks in
    omega (arith, w, turned, is)
