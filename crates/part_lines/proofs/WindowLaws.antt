-- What a window holds after bytes were passed, and after more were read.
use Rattle.std.proofs.Common.{◌≡◌, ℕ, ◌+◌, ◌-◌, ◌≤◌, List, [], ◌++◌, length, take, drop, false, Option, Some, None, Result, Ok, Err, refl, sym, ap, ◌∙◌, append_assoc, append-nil, zero-le, arith, length-take, length-drop, length-append}
use Rattle.std.specs.Prelude.{OnOk, slice_range, is_err}
use Rattle.std.specs.Io.KnownBytes.{Consumes, IsAtEnd, Keeps}
use Rattle.std.proofs.Math.Seq.{take-append-add}
use Rattle.std.proofs.lemmas.List.{drop-take, drop-drop, take-append-le, take_all, take_at}
use Rattle.std.proofs.lemmas.Slice.{take-put_mid_below}
use Rattle.part_lines.specs.Readers.{bytes_ahead}
use borrow.Rule.Slice.PartMut.{put_mid, post_of}

-- a call that didn't fail
pub on_ok : {T E P : Type 0} (r : Result T E) → is_err r ≡ false → OnOk r P → P
on_ok (Ok v) fine p = p
on_ok (Err e) fine p = cc

-- bytes are passed
pub passed_bytes : (bytes : List ℕ) (start end count : ℕ) → start ≤ end → end ≤ length bytes → count ≤ length (slice_range bytes start end)
    → slice_range bytes (start + count) end ≡ drop count (slice_range bytes start end)
passed_bytes bytes start end count ordered within few =
    let m : ℕ = end - (start + count) in
    let split : end - start ≡ count + m = omega (arith, few, length-take (end - start) (drop start bytes), length-drop start bytes) in
    sym (
    ap (λ n. drop count (take n (drop start bytes))) split ∙ drop-take count m (drop start bytes)
    ∙ ap (take m) (drop-drop count start bytes)
    )

-- bytes are read behind the first ones
pub filled : (bytes ys : List ℕ) (count k n : ℕ) → count ≤ length bytes → n ≤ length ys → take (count + n) (put_mid count k bytes ys) ≡ take count bytes ++ take n ys
filled bytes ys count k n within few =
    let long : length (take count bytes) ≡ count = omega (arith, length-take count bytes) in
    ap (λ m. take (m + n) (take count bytes ++ (ys ++ post_of count k bytes))) (sym long)
    ∙ take-append-add (take count bytes) (ys ++ post_of count k bytes) n
    ∙ ap (λ (l : List ℕ). take count bytes ++ l) (take-append-le n ys (post_of count k bytes) few)

-- what is ahead stays so
pub keeps_read : (old new read : List ℕ) (left left' : Option (List ℕ)) → new ≡ old ++ read → Consumes left left' read → Keeps (bytes_ahead old left) (bytes_ahead new left')
keeps_read old new read None left' e consumes = tt
keeps_read old new read (Some xs) None e consumes = absurd consumes
keeps_read old new read (Some xs) (Some ys) e consumes =
    ap (λ (l : List ℕ). l ++ ys) e ∙ append_assoc old read ys ∙ ap (λ (l : List ℕ). old ++ l) (sym consumes)

-- the front of a file that stands in a buffer
pub record HasFront (text : List ℕ) (left : Option (List ℕ)) (front : List ℕ) : Type 0 where
  pub rest : List ℕ
  pub left_is : left ≡ Some rest
  pub text_is : text ≡ front ++ rest

pub more_front : (text front read front' : List ℕ) (left left' : Option (List ℕ)) → HasFront text left front → front' ≡ front ++ read → Consumes left left' read → HasFront text left' front'
more_front text front read front' left None has e consumes = absurd (none left has.left_is consumes)
  where
    none : (l : Option (List ℕ)) → l ≡ Some has.rest → Consumes l None read → ⊥
    none None is consumes = cc
    none (Some xs) is consumes = consumes
more_front text front read front' left (Some ys) has e consumes = record {
  rest = ys;
  left_is = refl;
  text_is =
      has.text_is ∙ ap (λ (l : List ℕ). front ++ l) (some left has.left_is consumes) ∙ sym (append_assoc front read ys)
      ∙ ap (λ (l : List ℕ). l ++ ys) (sym e);
}
  where
    some : (l : Option (List ℕ)) → l ≡ Some has.rest → Consumes l (Some ys) read → has.rest ≡ read ++ ys
    some None is consumes = cc
    some (Some xs) is consumes = let same : xs ≡ has.rest = cc in sym same ∙ consumes

-- a buffer is as long after a write behind the first bytes
pub long_after : (bytes ys : List ℕ) (count k n : ℕ) → count ≤ length bytes → n ≤ length ys → count + n ≤ length (put_mid count k bytes ys)
long_after bytes ys count k n within few =
    omega (arith, within, few, length-append (take count bytes) (ys ++ post_of count k bytes), length-append ys (post_of count k bytes), length-take count bytes)

-- the file has ended
pub front_ended : (text front read : List ℕ) (left left' : Option (List ℕ)) → HasFront text left front → read ≡ [] → Consumes left left' read → IsAtEnd left' → text ≡ front
front_ended text front read left left' has none consumes end =
    let same : front ≡ front ++ read = sym (ap (λ (l : List ℕ). front ++ l) none ∙ append-nil front) in
    let after : HasFront text left' front = more_front text front read front left left' has same consumes in
    after.text_is ∙ ap (λ (l : List ℕ). front ++ l) (nothing left' after.rest after.left_is end) ∙ append-nil front
  where
    nothing : (l : Option (List ℕ)) (rest : List ℕ) → l ≡ Some rest → IsAtEnd l → rest ≡ []
    nothing None rest is end = cc
    nothing (Some xs) rest is end = cc

-- the buffer holds the whole text, or as much of it as it has room for
pub held_all : (bytes ys text : List ℕ) (count k : ℕ) → count ≤ length bytes → text ≡ take count bytes → take count (put_mid count k bytes ys) ≡ take (length (put_mid count k bytes ys)) text
held_all bytes ys text count k within is =
    let room = long_after bytes ys count k 0 within zero-le in
    take-put_mid_below count k bytes ys count (omega arith) within
    ∙ sym (ap (take (length (put_mid count k bytes ys))) is ∙ take_all (length (put_mid count k bytes ys)) (take count bytes) (omega (arith, room, length-take count bytes)))

pub held_front : (bytes text : List ℕ) (left : Option (List ℕ)) (count : ℕ) → count ≤ length bytes → length bytes ≤ count → HasFront text left (take count bytes) → take count bytes ≡ take (length bytes) text
held_front bytes text left count within full has =
    let long : length (take count bytes) ≡ length bytes = omega (arith, within, full, length-take count bytes) in
    sym (ap (take (length bytes)) has.text_is ∙ take_at (take count bytes) has.rest (length bytes) long)
