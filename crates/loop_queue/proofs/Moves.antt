-- Each move keeps the rule of the queue.
use Rattle.std.proofs.Common.{◌≡◌, ◌≢◌, ℕ, zero, ◌+◌, ◌<◌, ◌≤◌, ◌⊎◌, false, ◌&&◌, ◌||◌, List, [], ◌∷◌, ◌++◌, length, set, nat_eq, sum_by, cond, inl, inr, ⊎_elim, arith, refl, sym, ap, ◌∙◌, subst, append_assoc, append-nil, length-append, eq-eqb, ne_eqb}
use Rattle.std.proofs.lemmas.Bool.{cases_eq, or_parts, and_cases}
use mathlib.Core.Option.{some}
use lib.ListN.{get_elem?}
use Rattle.crossbeam_queue.specs.Fifo.{Pushes, Pops, Forks, Merges, Learns}
use Rattle.crossbeam_queue.proofs.Lists.{at_set}
use Rattle.std.proofs.Math.ListN.{length-set}
use Rattle.loop_queue.specs.declared.entry.Entry.{Entry}
use Rattle.loop_queue.specs.declared.queue.Known.{Known}
use Rattle.loop_queue.specs.Rule.{Ordered, Fits, Stood, Tells, of_post, at_first, without_next, with_next, posting, draining, both, spent, has_some}
use Rattle.loop_queue.proofs.Views.{Each, each-set, each-more, below, there-is, sum-set, sum-more, at-most, two-at-most, sum-only}
use Rattle.loop_queue.proofs.Entries.{of-append, of-other, has-none}

abbrev shares : List Known → ℕ
shares views = sum_by (λ v. v.share) views

abbrev drains : List Known → ℕ
drains views = sum_by (λ v. length v.drained) views

-- what a view of an old pass says of the whole, at another number of drained entries
refits : (owner : ℕ → ℕ) (gone items : List Entry) (n m : ℕ) (views : List Known) → m ≡ n →
    Each (Fits owner gone items n) views → Each (Fits owner gone items m) views
refits owner gone items n m views same all j u e = subst (λ k. Fits owner gone items k j u) (sym same) (all j u e)

room-kept : (owner : ℕ → ℕ) (views : List Known) (pass : ℕ) (w : Known) → ((k : ℕ) → owner k < length views) →
    (k : ℕ) → owner k < length (set views pass w)
room-kept owner views pass w there k = subst (λ n. owner k < n) (sym (length-set views pass w)) (there k)

none-there : (F : ℕ → Known → Type 0) → Each F []
none-there F pass v at = absurd (let h = below [] pass v at in let no : ⊥ = omega (arith, h) in no)

pub begins : Ordered [] (at_first ∷ [])
begins =
    let F : ℕ → Known → Type 0 = Fits (λ k. 0) [] [] 0 in
    record {
      whole = refl;
      owner = λ k. 0;
      there = λ k. omega arith;
      gone = [];
      fits = each-more F [] at_first
          (record {
            idle = λ none. (refl, refl);
            owns = λ k low high. refl;
            apart = λ k other. refl;
            order = λ k own. refl;
            sole = λ plain all. refl;
          })
          (none-there F);
    }

-- an entry joins the queue
pub posts : (room pass : ℕ) (v : Known) (x : Entry) → 0 < v.share → v.from ≤ x.post → x.post < v.upto →
    Pushes Ordered room pass v x (λ w. w ≡ posting v x)
posts room pass v x part low high items views short h at =
    let w : Known = posting v x in
    let old = h.fits pass v at in
    let more : (k : ℕ) → of_post k (h.gone ++ (items ++ x ∷ [])) ≡ of_post k (h.gone ++ items) ++ of_post k (x ∷ []) =
    λ k. ap (of_post k) (sym (append_assoc h.gone items (x ∷ []))) ∙ of-append k (h.gone ++ items) (x ∷ []) in
    let same : drains (set views pass w) ≡ drains views =
    let s = sum-set (λ u. length u.drained) views pass v w at in omega (arith, s) in
    let mine : Fits h.owner h.gone (items ++ x ∷ []) (drains views) pass w =
    record {
      idle = λ none. absurd (let no : ⊥ = omega (arith, none, part) in no);
      owns = old.owns;
      apart = λ k other. of-append k v.posted (x ∷ []) ∙ ap (λ l. l ++ of_post k (x ∷ [])) (old.apart k other)
          ∙ of-other k x (λ is. other (ap h.owner is ∙ old.owns x.post low high));
      order = λ k own. of-append k v.posted (x ∷ []) ∙ ap (λ l. l ++ of_post k (x ∷ [])) (old.order k own) ∙ sym (more k);
      sole = old.sole;
    } in
    let others : (j : ℕ) (u : Known) → j ≢ pass → get_elem? views j ≡ some u → Fits h.owner h.gone (items ++ x ∷ []) (drains views) j u =
    λ j u apart e. let f = h.fits j u e in
    record {
      idle = f.idle;
      owns = f.owns;
      apart = f.apart;
      order = λ k own. f.order k own ∙ sym (append-nil (of_post k (h.gone ++ items)))
          ∙ sym (ap (λ l. of_post k (h.gone ++ items) ++ l) (of-other k x (λ is. apart (sym own ∙ ap h.owner is ∙ old.owns x.post low high))))
          ∙ sym (more k);
      sole = f.sole;
    } in (
      w,
      record {
        whole = let s = sum-set (λ u. u.share) views pass v w at in omega (arith, s, h.whole);
        owner = h.owner;
        there = room-kept h.owner views pass w h.there;
        gone = h.gone;
        fits = refits h.owner h.gone (items ++ x ∷ []) (drains views) (drains (set views pass w)) (set views pass w) same
            (each-set (Fits h.owner h.gone (items ++ x ∷ []) (drains views)) views pass w mine others);
      },
      refl,
    )

-- an entry leaves the queue
pub takes : (pass : ℕ) (v : Known) → 0 < v.share → Pops Ordered pass v (λ x w. w ≡ draining v x)
takes pass v part x items views h at =
    let w : Known = draining v x in
    let old = h.fits pass v at in
    let gone : List Entry = h.gone ++ x ∷ [] in
    let along : h.gone ++ (x ∷ items) ≡ gone ++ items = sym (append_assoc h.gone (x ∷ []) items) in
    let n : ℕ = drains views + 1 in
    let same : drains (set views pass w) ≡ n =
    let s = sum-set (λ u. length u.drained) views pass v w at in omega (arith, s, length-append v.drained (x ∷ [])) in
    let mine : Fits h.owner gone items n pass w =
    record {
      idle = λ none. absurd (let no : ⊥ = omega (arith, none, part) in no);
      owns = old.owns;
      apart = old.apart;
      order = λ k own. old.order k own ∙ ap (of_post k) along;
      sole = λ plain all. ap (λ l. l ++ x ∷ [])
          (old.sole plain (let d = length-append v.drained (x ∷ []) in omega (arith, all, d)));
    } in
    let others : (j : ℕ) (u : Known) → j ≢ pass → get_elem? views j ≡ some u → Fits h.owner gone items n j u =
    λ j u apart e. let f = h.fits j u e in
    record {
      idle = f.idle;
      owns = f.owns;
      apart = f.apart;
      order = λ k own. f.order k own ∙ ap (of_post k) along;
      sole = λ plain all. absurd (let m = at-most (λ y. length y.drained) views j u e in let no : ⊥ = omega (arith, all, m) in no);
    } in (
      w,
      record {
        whole = let s = sum-set (λ u. u.share) views pass v w at in omega (arith, s, h.whole);
        owner = h.owner;
        there = room-kept h.owner views pass w h.there;
        gone = gone;
        fits = refits h.owner gone items n (drains (set views pass w)) (set views pass w) same
            (each-set (Fits h.owner gone items n) views pass w mine others);
      },
      refl,
    )

-- what a pass learns at a moment, and with every share
pub stands : (pass : ℕ) (v : Known) → Learns Ordered pass v (Stood v)
stands pass v items views h at = record { views = views; pass = pass; there = at; ordered = h }

pub tells : (pass : ℕ) (v : Known) → v.share ≡ 32 → Learns Ordered pass v (Tells v)
tells pass v all items views h at =
    let f = h.fits pass v at in
    let none : (j : ℕ) (u : Known) → j ≢ pass → get_elem? views j ≡ some u → u.share ≡ 0 =
    λ j u apart e. let two = two-at-most (λ y. y.share) views j pass u v apart e at in omega (arith, two, all, h.whole) in
    let order : (k : ℕ) → of_post k v.posted ≡ of_post k (h.gone ++ items) =
    λ k. ⊎_elim (λ own. f.order k own)
    (λ other. let owner = there-is views (h.owner k) (h.there k) in
    let g = h.fits (h.owner k) owner.0 owner.1 in
    f.apart k other ∙ sym (ap (of_post k) (g.idle (none (h.owner k) owner.0 other owner.1)).0) ∙ g.order k refl)
    (cases_eq (h.owner k) pass) in
    record {
      gone = h.gone;
      order = order;
      sole = λ plain. f.sole plain
          (sum-only (λ y. length y.drained) views pass v at
          (λ j u apart e. ap length ((h.fits j u e).idle (none j u apart e)).1));
    }

-- the owner of a number after its pass came back to another
abbrev gathered : ℕ → ℕ → (ℕ → ℕ) → ℕ → ℕ
gathered other pass owner k = cond (nat_eq (owner k) other) pass (owner k)

gathered-yes : (other pass : ℕ) (owner : ℕ → ℕ) (k : ℕ) → owner k ≡ other → gathered other pass owner k ≡ pass
gathered-yes other pass owner k is = ap (λ b. cond b pass (owner k)) (eq-eqb (owner k) other is)

gathered-no : (other pass : ℕ) (owner : ℕ → ℕ) (k : ℕ) → owner k ≢ other → gathered other pass owner k ≡ owner k
gathered-no other pass owner k apart = ap (λ b. cond b pass (owner k)) (ne_eqb (owner k) other apart)

-- and after a new pass got a number
abbrev given : ℕ → ℕ → (ℕ → ℕ) → ℕ → ℕ
given number pass owner k = cond (nat_eq k number) pass (owner k)

given-yes : (number pass : ℕ) (owner : ℕ → ℕ) (k : ℕ) → k ≡ number → given number pass owner k ≡ pass
given-yes number pass owner k is = ap (λ b. cond b pass (owner k)) (eq-eqb k number is)

given-no : (number pass : ℕ) (owner : ℕ → ℕ) (k : ℕ) → k ≢ number → given number pass owner k ≡ owner k
given-no number pass owner k apart = ap (λ b. cond b pass (owner k)) (ne_eqb k number apart)

-- a new pass is made, with the next number
pub forks : (pass : ℕ) (v : Known) → 1 < v.share → v.from < v.upto → v.posted ≡ [] → v.drained ≡ [] → v.mixed ≡ false →
    Forks Ordered pass v (without_next v) (with_next v)
forks pass v parts free bare dry plain items views h at =
    let left : Known = without_next v in
    let right : Known = with_next v in
    let old = h.fits pass v at in
    let vs : List Known = set views pass left in
    let fresh : ℕ = length vs in
    let long : fresh ≡ length views = length-set views pass left in
    let owner : ℕ → ℕ = given v.from fresh h.owner in
    let n : ℕ = drains views in
    let place : pass < length views = below views pass v at in
    let mine-own : h.owner v.from ≡ pass = old.owns v.from (omega arith) free in
    let none-gone : n ≡ 0 → [] ≡ h.gone =
    λ zero. let d : length v.drained ≡ 0 = ap length dry in sym dry ∙ old.sole plain (omega (arith, zero, d)) in
    let back : (k j : ℕ) → j < length views → owner k ≡ j → k ≢ v.from =
    λ k j short is same. let e = sym (given-yes v.from fresh h.owner k same) ∙ is in let no : ⊥ = omega (arith, e, long, short) in no in
    let was : (k j : ℕ) → j < length views → owner k ≡ j → h.owner k ≡ j =
    λ k j short is. sym (given-no v.from fresh h.owner k (back k j short is)) ∙ is in
    let now : (k j : ℕ) → j ≢ pass → h.owner k ≡ j → owner k ≡ j =
    λ k j apart is. given-no v.from fresh h.owner k (λ same. apart (sym is ∙ ap h.owner same ∙ mine-own)) ∙ is in
    let mine : Fits owner h.gone items n pass left =
    record {
      idle = λ none. absurd (let no : ⊥ = omega (arith, none, parts) in no);
      owns = λ k low high. given-no v.from fresh h.owner k (λ same. let no : ⊥ = omega (arith, same, low) in no)
          ∙ old.owns k (omega (arith, low)) high;
      apart = λ k other. ap (of_post k) bare;
      order = λ k own. old.order k (was k pass place own);
      sole = old.sole;
    } in
    let others : (j : ℕ) (u : Known) → j ≢ pass → get_elem? views j ≡ some u → Fits owner h.gone items n j u =
    λ j u apart e. let f = h.fits j u e in
    let short = below views j u e in
    record {
      idle = f.idle;
      owns = λ k low high. now k j apart (f.owns k low high);
      apart = λ k other. f.apart k (λ is. other (now k j apart is));
      order = λ k own. f.order k (was k j short own);
      sole = f.sole;
    } in
    let last : Fits owner h.gone items n fresh right =
    record {
      idle = λ none. absurd (let no : ⊥ = omega (arith, none) in no);
      owns = λ k low high. given-yes v.from fresh h.owner k (omega (arith, low, high));
      apart = λ k other. refl;
      order = λ k own. ⊎_elim
          (λ is. sym (ap (of_post k) bare) ∙ old.order k (ap h.owner is ∙ mine-own))
          (λ other. absurd (let t = h.there k in let e = sym (given-no v.from fresh h.owner k other) ∙ own in let no : ⊥ = omega (arith, t, e, long) in no))
          (cases_eq k v.from);
      sole = λ fine all. none-gone all;
    } in
    record {
      whole = let s = sum-set (λ u. u.share) views pass v left at in let m = sum-more (λ u. u.share) vs right in omega (arith, s, m, h.whole, parts);
      owner = owner;
      there = λ k. let l = length-append vs (right ∷ []) in ⊎_elim
          (λ is. let e = given-yes v.from fresh h.owner k is in omega (arith, e, l))
          (λ other. let e = given-no v.from fresh h.owner k other in let t = h.there k in omega (arith, e, l, t, long))
          (cases_eq k v.from);
      gone = h.gone;
      fits = refits owner h.gone items n (drains (vs ++ right ∷ [])) (vs ++ right ∷ [])
          (let s = sum-set (λ u. length u.drained) views pass v left at in let m = sum-more (λ u. length u.drained) vs right in omega (arith, s, m))
          (each-more (Fits owner h.gone items n) vs right last (each-set (Fits owner h.gone items n) views pass left mine others));
    }

-- where two that drained are one and the order is known, one of them drained nothing
one-dry : (v w : Known) → (both v w).mixed ≡ false →
    (v.mixed ≡ false) × (w.mixed ≡ false) × ((v.drained ≡ []) ⊎ (w.drained ≡ []))
one-dry v w fine =
    let first = or_parts v.mixed (w.mixed || (has_some v.drained && has_some w.drained)) fine in
    let second = or_parts w.mixed (has_some v.drained && has_some w.drained) first.1 in (
      first.0,
      second.0,
      ⊎_elim (λ none. inl (has-none v.drained none)) (λ none. inr (has-none w.drained none))
          (and_cases (has_some v.drained) (has_some w.drained) second.1),
    )

-- a pass takes in another
pub merges : (pass : ℕ) (v : Known) (other : ℕ) (w : Known) → Merges Ordered pass v other w (both v w) spent
merges pass v other w items views h at two at-other =
    let one : Known = both v w in
    let vs : List Known = set views pass one in
    let was : get_elem? views other ≡ some w =
    ⊎_elim (λ x. absurd (two x.0)) (λ x. x.1) (at_set views pass other one w at-other) in
    let old = h.fits pass v at in
    let theirs = h.fits other w was in
    let owner : ℕ → ℕ = gathered other pass h.owner in
    let n : ℕ = drains views in
    let same-sum : (f : Known → ℕ) → f one ≡ f v + f w → f spent ≡ 0 → sum_by f (set vs other spent) ≡ sum_by f views =
    λ f adds none. let s = sum-set f views pass v one at in let t = sum-set f vs other w spent at-other in omega (arith, s, t, adds, none) in
    let now : (k j : ℕ) → j ≢ other → h.owner k ≡ j → owner k ≡ j =
    λ k j apart is. gathered-no other pass h.owner k (λ same. apart (sym is ∙ same)) ∙ is in
    let back : (k j : ℕ) → j ≢ pass → owner k ≡ j → h.owner k ≡ j =
    λ k j apart is. ⊎_elim (λ same. absurd (apart (sym is ∙ gathered-yes other pass h.owner k same)))
    (λ differs. sym (gathered-no other pass h.owner k differs) ∙ is) (cases_eq (h.owner k) other) in
    let mine : Fits owner h.gone items n pass one =
    record {
      idle = λ none.
          let a = old.idle (omega (arith, none)) in
          let b = theirs.idle (omega (arith, none)) in
          (ap (λ l. l ++ w.posted) a.0 ∙ b.0, ap (λ l. l ++ w.drained) a.1 ∙ b.1);
      owns = λ k low high. now k pass (λ is. two (sym is)) (old.owns k low high);
      apart = λ k none.
          let a = old.apart k (λ is. none (now k pass (λ same. two (sym same)) is)) in
          let b = theirs.apart k (λ is. none (gathered-yes other pass h.owner k is)) in
          of-append k v.posted w.posted ∙ ap (λ l. l ++ of_post k w.posted) a ∙ b;
      order = λ k own. of-append k v.posted w.posted ∙ ⊎_elim
          (λ is. ap (λ l. l ++ of_post k w.posted) (old.apart k (λ same. two (sym is ∙ same))) ∙ theirs.order k is)
          (λ differs. ap (λ l. of_post k v.posted ++ l) (theirs.apart k differs) ∙ append-nil (of_post k v.posted)
          ∙ old.order k (sym (gathered-no other pass h.owner k differs) ∙ own))
          (cases_eq (h.owner k) other);
      sole = λ fine all.
          let dry = one-dry v w fine in
          let l = length-append v.drained w.drained in
          ⊎_elim
          (λ none. ap (λ d. d ++ w.drained) none ∙ theirs.sole dry.1 (let z : length v.drained ≡ 0 = ap length none in omega (arith, all, l, z)))
          (λ none. ap (λ d. v.drained ++ d) none ∙ append-nil v.drained ∙ old.sole dry.0 (let z : length w.drained ≡ 0 = ap length none in omega (arith, all, l, z)))
          dry.2;
    } in
    let last : Fits owner h.gone items n other spent =
    record {
      idle = λ none. (refl, refl);
      owns = λ k low high. absurd (let no : ⊥ = omega (arith, low, high) in no);
      apart = λ k none. refl;
      order = λ k own. absurd (⊎_elim
          (λ is. two (sym own ∙ gathered-yes other pass h.owner k is))
          (λ differs. differs (sym (gathered-no other pass h.owner k differs) ∙ own))
          (cases_eq (h.owner k) other));
      sole = λ fine all. absurd (cc);
    } in
    let others : (j : ℕ) (u : Known) → j ≢ other → get_elem? vs j ≡ some u → Fits owner h.gone items n j u =
    λ j u apart e. each-set (λ i y. i ≢ other → Fits owner h.gone items n i y) views pass one (λ _. mine)
    (λ i y differs at-i not-other. let f = h.fits i y at-i in
    record {
      idle = f.idle;
      owns = λ k low high. now k i not-other (f.owns k low high);
      apart = λ k none. f.apart k (λ is. none (now k i not-other is));
      order = λ k own. f.order k (back k i differs own);
      sole = f.sole;
    })
    j u e apart in
    record {
      whole = let s = same-sum (λ u. u.share) refl refl in omega (arith, s, h.whole);
      owner = owner;
      there = λ k. room-kept owner vs other spent (room-kept owner views pass one
          (λ i. ⊎_elim (λ is. let e = gathered-yes other pass h.owner i is in let b = below views pass v at in omega (arith, e, b))
          (λ differs. let e = gathered-no other pass h.owner i differs in let t = h.there i in omega (arith, e, t)) (cases_eq (h.owner i) other))) k;
      gone = h.gone;
      fits = refits owner h.gone items n (drains (set vs other spent)) (set vs other spent)
          (same-sum (λ u. length u.drained) (length-append v.drained w.drained) refl)
          (each-set (Fits owner h.gone items n) vs other spent last others);
    }
