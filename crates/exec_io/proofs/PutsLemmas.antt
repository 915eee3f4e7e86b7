-- How several writes make one.
use Rattle.std.proofs.Common.{◌≡◌, ℕ, ◌+◌, ◌≤◌, ◌<◌, List, [], ◌∷◌, ◌++◌, length, take, drop, get_or, Option, Result, Ok, Err, refl, sym, ap, ◌∙◌, subst, arith, length-append, length-drop, length-take, zero-le, ◌-◌}
use Rattle.std.specs.Result.{IsErr}
use Rattle.std.specs.List.{flat_map}
use Rattle.std.proofs.lemmas.List.{take-append-drop, take-append-le, take_all, take_more, flat_map_more}
use Rattle.std.proofs.lemmas.Grind.{flat_map-append}
use Rattle.std.proofs.Math.Seq.{take-add, take-append-add, take-length}
use Rattle.exec_io.specs.declared.fault.Failed.{Failed}
use Rattle.exec_io.specs.Causes.{HasCause, Rose}
use Rattle.exec_io.specs.Sinks.{Appends, AddsAtMost}
use Rattle.exec_io.proofs.SinkLemmas.{Appends-nil, Appends-trans, AddsAtMost-zero, AddsAtMost-trans, AddsAtMost-more}
use Rattle.exec_io.specs.Views.{SinkView}
use Rattle.exec_io.specs.Writing.{AppendsFront, Puts}

-- all the bytes are a front of them
pub AppendsFront-whole : {old new : Option (List ℕ)} {bytes : List ℕ} → Appends old new bytes → AppendsFront old new bytes
AppendsFront-whole {old = old} {new = new} {bytes = bytes} all = record {
  count = length bytes;
  within = omega arith;
  grown = subst (Appends old new) (sym (take-length bytes)) all;
}

-- none of them are
pub AppendsFront-none : {old new : Option (List ℕ)} (bytes : List ℕ) → Appends old new [] → AppendsFront old new bytes
AppendsFront-none bytes none = record { count = 0; within = zero-le; grown = none }

-- a front of the first bytes is a front of more
pub AppendsFront-cut : {old new : Option (List ℕ)} {bytes : List ℕ} (more : List ℕ) → AppendsFront old new bytes → AppendsFront old new (bytes ++ more)
AppendsFront-cut {old = old} {new = new} {bytes = bytes} more front = record {
  count = front.count;
  within = omega (arith, length-append bytes more, front.within);
  grown = subst (Appends old new) (sym (take-append-le front.count bytes more front.within)) front.grown;
}

-- the first bytes, and then a front of the next
pub AppendsFront-then : {old mid new : Option (List ℕ)} {bytes more : List ℕ} → Appends old mid bytes → AppendsFront mid new more → AppendsFront old new (bytes ++ more)
AppendsFront-then {old = old} {new = new} {bytes = bytes} {more = more} first front = record {
  count = length bytes + front.count;
  within = omega (arith, length-append bytes more, front.within);
  grown = subst (Appends old new) (sym (take-append-add bytes more front.count)) (Appends-trans first front.grown);
}

-- before the first write
pub Puts-nil : (s : SinkView) → Puts s s (Ok tt) []
Puts-nil s = record {
  ok = Appends-nil s.written;
  part = AppendsFront-none [] (Appends-nil s.written);
  held = AddsAtMost-zero s.outstanding;
  cause = record { later = omega arith; failed = tt; still = refl };
}

-- one write after another, whose answer is the second's
pub Puts-then : {s t u : SinkView} {r : Result (Unit {0}) Failed} {xs ys : List ℕ} → Puts s t (Ok tt) xs → Puts t u r ys → Puts s u r (xs ++ ys)
Puts-then {s = s} {t = t} {u = u} {r = Ok v} {xs = xs} {ys = ys} first second = record {
  ok = Appends-trans first.ok second.ok;
  part = AppendsFront-then first.ok second.part;
  held = AddsAtMost-more (AddsAtMost-trans first.held second.held) (omega (arith, length-append xs ys));
  cause = record { later = omega (arith, first.cause.later, second.cause.later); failed = tt; still = second.cause.still ∙ first.cause.still };
}
Puts-then {s = s} {t = t} {u = u} {r = Err e} {xs = xs} {ys = ys} first second = record {
  ok = tt;
  part = AppendsFront-then first.ok second.part;
  held = AddsAtMost-more (AddsAtMost-trans first.held second.held) (omega (arith, length-append xs ys));
  cause = record {
    later = omega (arith, first.cause.later, second.cause.later);
    failed = subst (λ (n : ℕ). Rose n u.faults) first.cause.still second.cause.failed;
    still = tt;
  };
}

-- a write that failed, where more was to come; the answer that hands this on is r
pub Puts-stop : {s t : SinkView} {e : Failed} {r : Result (Unit {0}) Failed} {xs : List ℕ} (ys : List ℕ) → IsErr r → Puts s t (Err e) xs → Puts s t r (xs ++ ys)
Puts-stop {r = Ok v} ys failed put = cc
Puts-stop {r = Err e} {xs = xs} ys failed put = record {
  ok = tt;
  part = AppendsFront-cut ys put.part;
  held = AddsAtMost-more put.held (omega (arith, length-append xs ys));
  cause = record { later = put.cause.later; failed = put.cause.failed; still = tt };
}

-- the front that a write took
pub Puts-took : {s t : SinkView} (bytes : List ℕ) (n : ℕ) → n ≤ length bytes → Appends s.written t.written (take n bytes) → AddsAtMost s.outstanding t.outstanding n → HasCause {E = Failed} s.faults t.faults (Ok n) → Puts s t (Ok tt) (take n bytes)
Puts-took bytes n within grown held cause = record {
  ok = grown;
  part = AppendsFront-whole grown;
  held = AddsAtMost-more held (omega (arith, length-take n bytes));
  cause = record { later = cause.later; failed = tt; still = cause.still };
}

-- a write of a front of what is left, after what was written of the bytes
pub Puts-more : {s t u : SinkView} (bytes piece : List ℕ) (done n : ℕ) → piece ≡ drop done bytes → Puts s t (Ok tt) (take done bytes) → n ≤ length piece → Appends t.written u.written (take n piece) → AddsAtMost t.outstanding u.outstanding n → HasCause {E = Failed} t.faults u.faults (Ok n) → Puts s u (Ok tt) (take (done + n) bytes)
Puts-more {s = s} {u = u} bytes piece done n rest before within grown held cause =
    let e : take done bytes ++ take n piece ≡ take (done + n) bytes = ap (λ (l : List ℕ). take done bytes ++ take n l) rest ∙ sym (take-add done n bytes) in
    subst (Puts s u (Ok tt)) e (Puts-then before (Puts-took piece n within grown held cause))

-- the items before one, and it
pub Puts-item : {X : Type 0} {s t u : SinkView} {r : Result (Unit {0}) Failed} (f : X → List ℕ) (xs : List X) (i : ℕ) (x d : X) → x ≡ get_or xs i d → i < length xs → Puts s t (Ok tt) (flat_map f (take i xs)) → Puts t u r (f x) → Puts s u r (flat_map f (take (i + 1) xs))
Puts-item {s = s} {u = u} {r = r} f xs i x d is here before item =
    let e : flat_map f (take i xs) ++ f x ≡ flat_map f (take (i + 1) xs) = flat_map_more f [] (take i xs) x ∙ ap (λ y. flat_map f (take i xs ++ y ∷ [])) is ∙ ap (flat_map f) (sym (take_more xs i d here)) in
    subst (Puts s u r) e (Puts-then before item)

-- the first items, where the write failed and more items were to come
pub Puts-front_stop : {X : Type 0} {s t : SinkView} {e : Failed} {r : Result (Unit {0}) Failed} (f : X → List ℕ) (xs : List X) (i : ℕ) → IsErr r → Puts s t (Err e) (flat_map f (take i xs)) → Puts s t r (flat_map f xs)
Puts-front_stop {s = s} {t = t} {r = r} f xs i failed put =
    let e : flat_map f (take i xs) ++ flat_map f (drop i xs) ≡ flat_map f xs = sym (flat_map-append f (take i xs) (drop i xs)) ∙ ap (flat_map f) (take-append-drop i xs) in
    subst (Puts s t r) e (Puts-stop (flat_map f (drop i xs)) failed put)

-- an item whose write failed, where more items were to come
pub Puts-item_stop : {X : Type 0} {s t u : SinkView} {e : Failed} {r : Result (Unit {0}) Failed} (f : X → List ℕ) (xs : List X) (i : ℕ) (x d : X) → x ≡ get_or xs i d → i < length xs → IsErr r → Puts s t (Ok tt) (flat_map f (take i xs)) → Puts t u (Err e) (f x) → Puts s u r (flat_map f xs)
Puts-item_stop f xs i x d is here failed before item = Puts-front_stop f xs (i + 1) failed (Puts-item f xs i x d is here before item)

-- what `&bytes[done..]` reads
pub rest_of : {X : Type 0} (bytes : List X) (done : ℕ) → take (length bytes - done) (drop done bytes) ≡ drop done bytes
rest_of bytes done = take_all (length bytes - done) (drop done bytes) (omega (arith, length-drop done bytes))
