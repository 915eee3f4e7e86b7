-- The slots of a node's children are taken one after another, with what is in them.
use Rattle.std.proofs.Common.{◌≡◌, ◌≢◌, ℕ, zero, suc, ◌<◌, true, false, ◌&&◌, ◌==◌, cond, List, [], ◌∷◌, length, refl, sym, ap, ◌∙◌, arith, length-set}
use Rattle.std.specs.Prelude.{Option, Some, None, is_some}
use Rattle.std.specs.List.{list_any}
use Rattle.std.proofs.lemmas.Bool.{cond-false, both_ways}
use Rattle.std.proofs.lemmas.Nat.{same_from_place}
use mathlib.Core.Option.{some}
use mathlib.Core.Option as maybe
use lib.ListN.{get_elem?}
use Rattle.table_words.specs.declared.layout.Layout.{Layout}
use Rattle.table_words.specs.Layouts.{place_number, places_in}
use Rattle.atomic_table.specs.Table.{Act, keeps, takes, chain, homes_after, carried_after, Valid}
use Rattle.atomic_table.proofs.Lists.{set_else}
use Rattle.table_rules.specs.Named.{Each}
use Rattle.table_rules.specs.Scenes.{Home, Out, Empty, Full, is_out, is_full, home_in}
use Rattle.table_steps.specs.Reports.{laid}
use Rattle.table_steps.specs.Slots.{AreApart}
use Rattle.table_kept.proofs.HomeMoves.{home_of_place, taken}
use Rattle.table_kept.proofs.KidSlots.{Descends, both-out, and-none}

-- what a home has in it
abbrev pub content_of : {P : Type 0} → Home P → Option P
content_of Out = None
content_of Empty = None
content_of (Full item) = Some item

pub content-full : {P : Type 0} (h : Home P) (item : P) → content_of h ≡ Some item → h ≡ Full item
content-full Out item e = cc
content-full Empty item e = cc
content-full (Full other) item e = let same : other ≡ item = cc in ap Full same

pub content-some : {P : Type 0} (h : Home P) → is_some (content_of h) ≡ is_full h
content-some Out = refl
content-some Empty = refl
content-some (Full item) = refl

-- a home that isn't out is at home with what is in it
pub lies-home : {P : Type 0} (homes : List (maybe.Option (Option P))) (i : ℕ) → i < length homes →
    is_out (home_in (get_elem? homes i)) ≡ false → get_elem? homes i ≡ some (some (content_of (home_in (get_elem? homes i))))
lies-home [] i h e = absurd (omega (arith, h))
lies-home (maybe.none ∷ xs) zero h e = absurd (both_ways true e refl)
lies-home (maybe.some None ∷ xs) zero h e = refl
lies-home (maybe.some (Some item) ∷ xs) zero h e = refl
lies-home (x ∷ xs) (suc i) h e = lies-home xs i (omega (arith, h)) e

-- the act that takes the homes of these nodes with what is in them
pub take_with : {P : Type 0} → Layout → ℕ → (ℕ → Option P) → List ℕ → Act (Option P)
take_with l b content [] = keeps
take_with l b content (n ∷ ns) = chain (take_with l b content ns) (takes (place_number l b n) (content n))

module _ {P : Type 0} (l : Layout) (homes : List (maybe.Option (Option P))) (c : List (ℕ × Option P)) (deep : length homes ≡ places_in l) (b : ℕ) (hb : b < l.blocks) (content : ℕ → Option P) where
  abbrev after_them : List ℕ → List (maybe.Option (Option P))
  after_them ns = homes_after homes c (take_with l b content ns)

  pub carries-laid : (ns : List ℕ) → carried_after c (take_with l b content ns) ≡ laid l b ns content c
  unfolding take_with
  carries-laid [] = refl
  carries-laid (n ∷ ns) = λ k. (place_number l b n, content n) ∷ carries-laid ns k

  pub deep-laid : (ns : List ℕ) → length (after_them ns) ≡ places_in l
  unfolding take_with
  deep-laid [] = deep
  deep-laid (n ∷ ns) = length-set (after_them ns) (place_number l b n) maybe.none ∙ deep-laid ns

  -- these homes are out, the others are as before
  pub laid-out : (ns : List ℕ) → Each (λ n. n < l.nodes) ns → (i m : ℕ) →
      home_of_place l (after_them ns) i m ≡ cond (i == b && list_any (λ q. m == q) ns) Out (home_of_place l homes i m)
  unfolding take_with
  laid-out [] all i m = sym (cond-false (i == b && false) Out (home_of_place l homes i m) (and-none (i == b)))
  laid-out (n ∷ ns) all i m =
      taken l (after_them ns) (deep-laid ns) b n hb all.0 i m
      ∙ ap (cond (i == b && m == n) Out) (laid-out ns all.1 i m)
      ∙ both-out (i == b) (m == n) (list_any (λ q. m == q) ns) Out (home_of_place l homes i m)

  -- a slot of another node is as it was
  still-there : (ns : List ℕ) (k : ℕ) → Each (λ m. k ≢ place_number l b m) ns → get_elem? (after_them ns) k ≡ get_elem? homes k
  unfolding take_with
  still-there [] k apart = refl
  still-there (n ∷ ns) k apart =
      set_else (after_them ns) (place_number l b n) k maybe.none apart.0 ∙ still-there ns k apart.1

  -- the slots of nodes below are others
  pub apart-below : (n : ℕ) (ns : List ℕ) → n < l.nodes → Each (λ m. m < n) ns → Each (λ m. m < l.nodes) ns →
      Each (λ m. place_number l b n ≢ place_number l b m) ns
  apart-below n [] hn below near = tt
  apart-below n (m ∷ ms) hn below near = (
    (λ e.
        let same = (same_from_place b n b m l.nodes hn near.0 e).1 in
        let h = below.0 in absurd (omega (arith, same, h))),
    apart-below n ms hn below.1 near.1,
  )

  pub laid-still : (ns : List ℕ) (k : ℕ) → Each (λ m. k ≢ place_number l b m) ns → get_elem? (after_them ns) k ≡ get_elem? homes k
  laid-still = still-there

  pub laid-valid : (ns : List ℕ) → Each (λ n. n < l.nodes) ns → Descends ns →
      Each (λ n. get_elem? homes (place_number l b n) ≡ some (some (content n))) ns → Valid homes c (take_with l b content ns)
  unfolding take_with
  laid-valid [] all down lie = tt
  laid-valid (n ∷ ns) all down lie = (
    laid-valid ns all.1 down.1 lie.1,
    still-there ns (place_number l b n) (apart-below n ns all.0 down.0 all.1) ∙ lie.0,
  )

pub each-laid : {P : Type 0} (Q : ℕ × Option P → Type 0) (l : Layout) (b : ℕ) (ns : List ℕ) (content : ℕ → Option P) (c : List (ℕ × Option P)) →
    Each (λ n. Q (place_number l b n, content n)) ns → Each Q c → Each Q (laid l b ns content c)
each-laid Q l b [] content c all rest = rest
each-laid Q l b (n ∷ ns) content c all rest = (all.0, each-laid Q l b ns content c all.1 rest)

pub apart-laid : {P : Type 0} (l : Layout) (b : ℕ) (ns : List ℕ) (content : ℕ → Option P) (c : List (ℕ × Option P)) → Descends ns →
    Each (λ n. n < l.nodes) ns → Each (λ n. Each (λ d. d.0 ≢ place_number l b n) c) ns → AreApart c →
    AreApart (laid l b ns content c)
apart-laid l b [] content c down within others apart = apart
apart-laid l b (n ∷ ns) content c down within others apart = (
  each-laid (λ d. d.0 ≢ place_number l b n) l b ns content c (below ns down.0 within.1) others.0,
  apart-laid l b ns content c down.1 within.1 others.1 apart,
)
  where
    below : (ms : List ℕ) → Each (λ m. m < n) ms → Each (λ m. m < l.nodes) ms →
        Each (λ m. place_number l b m ≢ place_number l b n) ms
    below [] less near = tt
    below (m ∷ ms) less near = (
      (λ e.
          let same = (same_from_place b m b n l.nodes near.0 within.0 e).1 in
          let h = less.0 in absurd (omega (arith, same, h))),
      below ms less.1 near.1,
    )
