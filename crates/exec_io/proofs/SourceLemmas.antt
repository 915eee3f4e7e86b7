-- What a read from memory gives.
use Rattle.std.proofs.Common.{◌≡◌, ℕ, ◌<◌, min, List, [], ◌++◌, length, take, drop, sym, ap, ◌∙◌, arith, length-append, length-take, length-drop, take-append-drop}
use Rattle.std.proofs.lemmas.List.{take_at, drop_all}

module _ (left buf after : List ℕ) (n : ℕ) (count : n ≡ min (length left) (length buf)) (is_after : after ≡ take n left ++ drop n buf) where
  -- the front of the buffer is the next bytes
  pub reads_next : left ≡ take n after ++ drop n left
  reads_next =
      let part : length (take n left) ≡ n = omega (arith, length-take n left, count) in
      sym (take-append-drop n left) ∙ ap (λ l. l ++ drop n left) (sym (ap (take n) is_after ∙ take_at (take n left) (drop n buf) n part))

  -- no byte is given only where none is left
  pub ends : n ≡ 0 → 0 < length after → drop n left ≡ []
  ends none room =
      drop_all n left (omega (arith, ap length is_after, length-append (take n left) (drop n buf), length-take n left, length-drop n buf, count, none, room))
