-- What a job makes of the elements of a share, one after the other.
use Rattle.std.proofs.Common.{◌≡◌, ℕ, ◌+◌, ◌<◌, ℤ, List, [], ◌∷◌, ◌++◌, ◌≤◌, length, get_or, drop, Result, Ok, Err, IsOk, refl, sym, ap, subst, ◌∙◌, arith}
use Rattle.std.specs.Result.{IsErr}
use Rattle.std.specs.declared.alloc.AllocError.{AllocError}
use Rattle.std.proofs.lemmas.List.{append_assoc, at_drop_more, drop_all}
use Rattle.exec_job.specs.declared.fault.JobFault.{JobFault}
use Rattle.exec_job.specs.declared.job.Job.{Job}
use Rattle.exec_job.specs.Element.{at_index}
use Rattle.exec_job.specs.Fault.{name_of}
use Rattle.exec_value.specs.declared.limits.TheConstants.{INLINE_BYTES}
use Rattle.exec_value.specs.declared.outcome.Completion.{Completion}
use Rattle.exec_value.specs.declared.outcome.Completion.TheVariants.{Error}
use Rattle.node_images.specs.Makes.{CompletesInPlace}
use Rattle.plan_rules.specs.Bulks.{error_at, in_front, each_of, row_ending}
use Rattle.exec_bulk.proofs.Making.{row-large}
use Rattle.exec_bulk.specs.Elements.{MakesEach}

-- results that stand before others
abbrev pub after : List ℤ → Result (List ℤ) (List ℕ) → Result (List ℤ) (List ℕ)
after made (Ok behind) = Ok (made ++ behind)
after made (Err name) = Err name

after-one : (made : List ℤ) (index : ℕ) (y : ℤ) (behind : Result (List ℤ) (List ℕ)) →
    after made (in_front index (Ok y) behind) ≡ after (made ++ y ∷ []) behind
after-one made index y (Ok ys) = ap Ok (sym (append_assoc made (y ∷ []) ys))
after-one made index y (Err name) = refl

-- the elements up to a place are done, where the first has this index
abbrev pub IsDoneTo : Job → ℕ → List ℤ → ℕ → List ℤ → Type 0
IsDoneTo job first xs place made = each_of job first xs ≡ after made (each_of job (first + place) (drop place xs))

module _ (job : Job) (first : ℕ) (xs made : List ℤ) (place : ℕ) (d : ℤ) (done : IsDoneTo job first xs place made)
    (within : place < length xs) where
  here : each_of job first xs
      ≡ after made (in_front (first + place) (at_index job (first + place) (get_or xs place d))
      (each_of job (first + place + 1) (drop (place + 1) xs)))
  here = done ∙ at_drop_more (λ rest. after made (each_of job (first + place) rest)) xs place d within

  pub done-more : (y : ℤ) → at_index job (first + place) (get_or xs place d) ≡ Ok y →
      IsDoneTo job first xs (place + 1) (made ++ y ∷ [])
  done-more y same =
      let on : first + place + 1 ≡ first + (place + 1) = omega arith in
      let rest : List ℤ = drop (place + 1) xs in
      let behind : Result (List ℤ) (List ℕ) = each_of job (first + place + 1) rest in
      here ∙ ap (λ answer. after made (in_front (first + place) answer behind)) same ∙ after-one made (first + place) y behind
      ∙ ap (λ i. after (made ++ y ∷ []) (each_of job i rest)) on

  pub done-fault : (fault : JobFault) → at_index job (first + place) (get_or xs place d) ≡ Err fault →
      each_of job first xs ≡ Err (error_at (name_of fault) (first + place))
  done-fault fault same =
      let behind : Result (List ℤ) (List ℕ) = each_of job (first + place + 1) (drop (place + 1) xs) in
      here ∙ ap (λ answer. after made (in_front (first + place) answer behind)) same

-- a list of one element is that element
pub single : (xs : List ℤ) (d : ℤ) → 1 ≤ length xs → length xs < 2 → xs ≡ get_or xs 0 d ∷ []
single [] d some few = absurd (omega (arith, some))
single (x ∷ []) d some few = refl
single (x ∷ y ∷ xs) d some few = absurd (omega (arith, few))

-- where no number fails, it is a row, which doesn't stand in place
pub none-fails : (job : Job) (first : ℕ) (xs made : List ℤ) (place : ℕ) → IsDoneTo job first xs place made → length xs ≤ place →
    CompletesInPlace (row_ending (each_of job first xs)) → ⊥
none-fails job first xs made place done all stands =
    let row : each_of job first xs ≡ Ok (made ++ []) =
    done ∙ ap (λ rest. after made (each_of job (first + place) rest)) (drop_all place xs all) in
    row-large (each_of job first xs) (subst IsOk (sym row) refl) stands

-- the error of a number that fails has no memory only where its name is long
pub fails-large : (name : List ℕ) (made : Result (List ℤ) (List ℕ)) → made ≡ Err name → (length name ≤ INLINE_BYTES → ⊥) →
    CompletesInPlace (row_ending made) → ⊥
fails-large name made is large stands = large (subst (λ (r : Result (List ℤ) (List ℕ)). CompletesInPlace (row_ending r)) is stands)

-- a call ends with the error of a number that fails, or finds no memory where that or a row doesn't stand in place
module _ (job : Job) (first : ℕ) (xs : List ℤ) where
  pub makes-fault : (name : List ℕ) (done : Completion) → each_of job first xs ≡ Err name → done ≡ Error name →
      MakesEach job first xs (Ok done)
  makes-fault name done fails same = record { exact = same ∙ sym (ap row_ending fails); in_place = λ stands. refl }

  pub makes-none : (r : Result Completion AllocError) → IsErr r → (CompletesInPlace (row_ending (each_of job first xs)) → ⊥) →
      MakesEach job first xs r
  makes-none (Ok done) err large = cc
  makes-none (Err e) err large = record { exact = tt; in_place = λ stands. absurd (large stands) }
