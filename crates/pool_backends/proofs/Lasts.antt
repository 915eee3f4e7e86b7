-- The last of the names that a ring keeps.
use Rattle.std.proofs.Common.{◌≡◌, inl, inr, suc, ◌+◌, ◌-◌, ◌<◌, ◌≤◌, List, [], ◌∷◌, ◌++◌, length, get_or, take, arith, refl, sym, ap, ◌∙◌, subst}
use Rattle.std.specs.Prelude.{slice_get, Option, IfSome, IfNone}
use Rattle.std.proofs.Math.Seq.{take-suc, take-length}
use Rattle.std.proofs.lemmas.Option.{slice_get_cases}
use Rattle.circular_buffer.specs.Buffer.{Buffer, buffer}
use Rattle.life_rules.specs.declared.event.Name.{Name}
use Rattle.pool_backends.specs.declared.order.Order.TheVariants.{Lifo}
use Rattle.pool_backends.specs.declared.ring.RingBackend.{RingBackend}
use Rattle.pool_backends.specs.Rings.{stock_of}
use Rattle.pool_backends.specs.Stocks.{HandsOut, HasNone, with_next}

-- the rest, and then the last
parted : (l : List Name) (x : Name) → length l - 1 + 1 ≡ length l → get_or l (length l - 1) x ≡ x → l ≡ take (length l - 1) l ++ x ∷ []
parted l x some last =
    let less : length l - 1 < length l = omega (arith, some) in
    let one : suc (length l - 1) ≡ length l = omega (arith, some) in
    sym (ap (λ n. take n l) one ∙ take-length l) ∙ take-suc l (length l - 1) x less ∙ ap (λ y. take (length l - 1) l ++ y ∷ []) last

no-names : (l : List Name) → length l ≡ 0 → l ≡ []
no-names [] zero = refl
no-names (x ∷ l) more = absurd (omega (arith, more))

-- a ring that gave the last of its names, and one that had none to give
module _ (old : RingBackend) (names : Buffer Name) (result : Option Name)
    (value : result ≡ slice_get old.names.items (length old.names.items - 1))
    (items : names ≡ buffer (take (length old.names.items - 1) old.names.items) old.names.capacity) where
  pub gives-last : old.order ≡ Lifo → IfSome result (HandsOut (stock_of old) (stock_of (record old { names = names })))
  gives-last lifo =
      elim (slice_get_cases old.names.items (length old.names.items - 1)).1 [
        | inl at ↦ subst (λ r. IfSome r (HandsOut (stock_of old) (stock_of (record old { names = names })))) (sym (value ∙ at.2)) (gives at.0 at.1 at.3)
        | inr past ↦ subst (λ r. IfSome r (HandsOut (stock_of old) (stock_of (record old { names = names })))) (sym (value ∙ past.1)) tt
      ]
    where
      gives : (x : Name) → length old.names.items - 1 < length old.names.items → get_or old.names.items (length old.names.items - 1) x ≡ x →
          HandsOut (stock_of old) (stock_of (record old { names = names })) x
      gives x less last =
          record {
            names = parted old.names.items x (omega (arith, less)) last ∙ sym (ap (λ b. b.items ++ x ∷ []) items)
                ∙ sym (ap (λ order. with_next order x names.items) lifo);
            rest = ap (λ n. record { pending = names.items; arranged = old.order; capacity = n }) (ap (λ (b : Buffer Name). b.capacity) items);
          }

  pub finds-none : IfNone result (HasNone (stock_of old) (stock_of (record old { names = names })))
  finds-none =
      elim (slice_get_cases old.names.items (length old.names.items - 1)).1 [
        | inl at ↦ subst (λ r. IfNone r (HasNone (stock_of old) (stock_of (record old { names = names })))) (sym (value ∙ at.2)) tt
        | inr past ↦ subst (λ r. IfNone r (HasNone (stock_of old) (stock_of (record old { names = names })))) (sym (value ∙ past.1)) (none past.0)
      ]
    where
      none : length old.names.items ≤ length old.names.items - 1 → HasNone (stock_of old) (stock_of (record old { names = names }))
      none past =
          let is : old.names.items ≡ [] = no-names old.names.items (omega (arith, past)) in
          record {
            none = is;
            same = ap (λ (b : Buffer Name). record { pending = b.items; arranged = old.order; capacity = b.capacity })
                (items ∙ ap (λ l. buffer (take (length l - 1) l) old.names.capacity) is ∙ sym (ap (λ l. buffer l old.names.capacity) is));
          }
