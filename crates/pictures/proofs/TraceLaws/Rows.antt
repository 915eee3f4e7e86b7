-- What each row of a picture gives.
use Rattle.std.proofs.Common.{◌≡◌, ℕ, ◌+◌, ◌<◌, ◌≤◌, List, [], length, take, get_or, Option, Some, Result, Ok, Err, sym, ap, ◌∙◌, arith}
use Rattle.std.specs.Prelude.{slice_get, max, OnOk}
use Rattle.std.specs.List.{flat_map, fold, range_with_len}
use Rattle.std.specs.Option.{option_map_or}
use Rattle.std.proofs.lemmas.List.{take_all}
use Rattle.std.proofs.lemmas.List.Sums.{fold_more}
use Rattle.std.proofs.lemmas.List.FromFn.{length-range_with_len, get_or-range_with_len}
use Rattle.trace_text.specs.declared.entry.Entry.{Entry}
use Rattle.pictures.specs.Adding.{Adds}
use Rattle.pictures.proofs.Joining.{Adds-each, Adds-more}
use Rattle.pictures.specs.declared.traces.frame.Frame.{Frame}
use Rattle.pictures.specs.Traces.Bars.{bar_at, bar_in, begun}
use Rattle.pictures.specs.Traces.Rows.{length_at, shown_row}
use Rattle.pictures.specs.Traces.Picture.{shown_length, row_of}

-- of each number below a bound: one number more, and all of them
module _ (g : ℕ → List ℕ) (bound i : ℕ) where
  pub row-more : {old mid new : List ℕ} → Adds old mid (flat_map g (take i (range_with_len 0 bound))) → Adds mid new (g i) → i < bound → Adds old new (flat_map g (take (i + 1) (range_with_len 0 bound)))
  row-more p q here =
      Adds-more g (range_with_len 0 bound) i i 0 p q (omega (arith, here, length-range_with_len 0 bound))
      (omega (arith, get_or-range_with_len 0 bound i 0 here))

  pub row-each : {old new : List ℕ} → Adds old new (flat_map g (take i (range_with_len 0 bound))) → bound ≤ i → Adds old new (flat_map g (range_with_len 0 bound))
  row-each p all = Adds-each g (range_with_len 0 bound) i p (omega (arith, all, length-range_with_len 0 bound))

-- the row of an entry that is there
pub row-here : (frame : Frame) (refused : Option ℕ) (entries : List Entry) (n : ℕ) (entry : Entry) → slice_get entries n ≡ Some entry → shown_row frame refused n entry ≡ row_of frame refused entries n
row-here frame refused entries n entry at =
    sym (ap (λ (o : Option Entry). option_map_or (shown_row frame refused n) o []) at)

-- its length
pub length-here : (frame : Frame) (entries : List Entry) (n : ℕ) (entry : Entry) → slice_get entries n ≡ Some entry → length_at frame n entry ≡ shown_length frame entries n
length-here frame entries n entry at =
    sym (ap (λ (o : Option Entry). option_map_or (length_at frame n) o 0) at)

-- the longest of one more
pub longest-more : (f : ℕ → ℕ) (bound i most long : ℕ) → most ≡ fold (λ most n. max (f n) most) 0 (take i (range_with_len 0 bound)) → long ≡ f i → i < bound → max long most ≡ fold (λ most n. max (f n) most) 0 (take (i + 1) (range_with_len 0 bound))
longest-more f bound i most long so_far is here =
    let all = range_with_len 0 bound in
    let step = λ (most : ℕ) (n : ℕ). max (f n) most in
    let inside : i < length all = omega (arith, here, length-range_with_len 0 bound) in
    let at : get_or all i 0 ≡ i = omega (arith, get_or-range_with_len 0 bound i 0 here) in
    ap (λ l. max l most) is ∙ ap (max (f i)) so_far
    ∙ sym (fold_more step 0 all i 0 inside ∙ ap (step (fold step 0 (take i all))) at)

pub longest-all : (f : ℕ → ℕ) (bound i most : ℕ) → most ≡ fold (λ most n. max (f n) most) 0 (take i (range_with_len 0 bound)) → bound ≤ i → most ≡ fold (λ most n. max (f n) most) 0 (range_with_len 0 bound)
longest-all f bound i most so_far all =
    so_far ∙ ap (fold (λ (most : ℕ) (n : ℕ). max (f n) most) 0) (take_all i (range_with_len 0 bound) (omega (arith, all, length-range_with_len 0 bound)))

-- the bar of an entry that is there
pub bar-here : (frame : Frame) (entries : List Entry) (n : ℕ) (entry : Entry) → slice_get entries n ≡ Some entry → bar_at frame entries n ≡ option_map_or (bar_in frame entries n) (begun entry (take n entries)) []
unfolding bar_at
bar-here frame entries n entry at =
    ap (λ (o : Option Entry). option_map_or (λ e. option_map_or (bar_in frame entries n) (begun e (take n entries)) []) o []) at

-- what follows where a call succeeded
pub on_ok : {T E A B : Type 0} (r : Result T E) → (A → B) → OnOk r A → OnOk r B
on_ok (Ok x) follows is = follows is
on_ok (Err e) follows is = tt
