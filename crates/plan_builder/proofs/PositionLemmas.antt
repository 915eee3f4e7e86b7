-- How the positions of a builder grow with a node.
use Rattle.std.proofs.Common.{◌≡◌, ℕ, ◌+◌, Bool, List, [], ◌∷◌, ◌++◌, length, get_or, replicate, Some, sym, ap, ◌∙◌, arith, length-append}
use Rattle.std.specs.Prelude.{◌||◌, nat_eq}
use Rattle.std.specs.List.{list_any}
use Rattle.std.proofs.lemmas.Bool.{cond-true, cond-false, or_left, or_right, or_from}
use Rattle.std.proofs.lemmas.List.{length_push, length-replicate, get_or-replicate, get_or_append_left, get_or-append-add, get_or_push}
use Rattle.std.proofs.lemmas.List.Folds.{list_any-append}
use Rattle.common_lemmas.proofs.Bool.{either}
use Rattle.plan_builder.specs.declared.position.Position.{Position}
use Rattle.plan_builder.specs.Positions.{part_position, free_position, adopted, Adopts, Gains}

-- children that are adopted in two lists
adopted-append : (front back : List ℕ) (parent n : ℕ) (p : Position) →
    adopted back parent n (adopted front parent n p) ≡ adopted (front ++ back) parent n p
adopted-append front back parent n p =
    let a : Bool = list_any (nat_eq n) front in
    let b : Bool = list_any (nat_eq n) back in
    let both : list_any (nat_eq n) (front ++ back) ≡ (a || b) = list_any-append (nat_eq n) front back in
    let given : Position = record p { parent = Some parent } in
    let once : Position = adopted front parent n p in
    let twice : Position = record once { parent = Some parent } in
    either b
    (λ t.
    cond-true b twice once t
    ∙ either a
    (λ u. ap (λ (q : Position). let r : Position = record q { parent = Some parent } in r) (cond-true a given p u))
    (λ u. ap (λ (q : Position). let r : Position = record q { parent = Some parent } in r) (cond-false a given p u))
    ∙ sym (cond-true (list_any (nat_eq n) (front ++ back)) given p (both ∙ or_right a b t)))
    (λ f.
    cond-false b twice once f
    ∙ either a
    (λ u.
    cond-true a given p u
    ∙ sym (cond-true (list_any (nat_eq n) (front ++ back)) given p (both ∙ or_left a b u)))
    (λ u.
    cond-false a given p u
    ∙ sym (cond-false (list_any (nat_eq n) (front ++ back)) given p (both ∙ or_from a b u f))))

pub gains_all : (old once twice new : List Position) (front back : List ℕ) (parent parts depth : ℕ) →
    Adopts old once front parent → Adopts once twice back parent →
    new ≡ (twice ++ replicate parts (part_position parent)) ++ free_position depth ∷ [] →
    Gains old new (front ++ back) parent parts depth
gains_all old once twice new front back parent parts depth first second is =
    let copies : List Position = replicate parts (part_position parent) in
    let last : Position = free_position depth in
    let whole = ap length is ∙ length_push (twice ++ copies) last in
    let longer = length-append twice copies in
    let many = length-replicate parts (part_position parent) in
    record {
      as_long = omega (arith, whole, longer, many, first.as_long, second.as_long);
      before = λ n d l.
          ap (λ ps. get_or ps n d) is
          ∙ get_or_append_left (twice ++ copies) (last ∷ []) d n (omega (arith, l, longer, first.as_long, second.as_long))
          ∙ get_or_append_left twice copies d n (omega (arith, l, first.as_long, second.as_long))
          ∙ second.each n d (omega (arith, l, first.as_long))
          ∙ ap (adopted back parent n) (first.each n d l)
          ∙ adopted-append front back parent n (get_or old n d);
      part = λ i d l.
          let at : length old + i ≡ length twice + i = omega (arith, first.as_long, second.as_long) in
          ap (λ ps. get_or ps (length old + i) d) is
          ∙ get_or_append_left (twice ++ copies) (last ∷ []) d (length old + i) (omega (arith, l, longer, many, first.as_long, second.as_long))
          ∙ ap (λ k. get_or (twice ++ copies) k d) at
          ∙ get_or-append-add twice copies i d
          ∙ get_or-replicate parts i (part_position parent) d l;
      last = λ d.
          ap (λ ps. get_or ps (length old + parts) d) is
          ∙ get_or_push (twice ++ copies) last d (length old + parts) (omega (arith, longer, many, first.as_long, second.as_long));
    }
