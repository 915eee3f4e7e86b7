-- What a job makes of the elements of a row, one after the other.
use Rattle.std.proofs.Common.{◌≡◌, ℕ, ◌+◌, ◌<◌, ℤ, List, [], ◌∷◌, ◌++◌, length, get_or, drop, Result, Ok, Err, refl, sym, ap, ◌∙◌}
use Rattle.std.proofs.lemmas.List.{append_assoc, at_drop_more}
use Rattle.exec_job.specs.declared.fault.JobFault.{JobFault}
use Rattle.exec_job.specs.declared.job.Job.{Job}
use Rattle.exec_job.specs.Element.{at_index}
use Rattle.exec_job.specs.Fault.{name_of}
use Rattle.plan_rules.specs.Bulks.{error_at, in_front, each_of}

-- results that stand before others
abbrev pub after : List ℤ → Result (List ℤ) (List ℕ) → Result (List ℤ) (List ℕ)
after made (Ok behind) = Ok (made ++ behind)
after made (Err name) = Err name

after-one : (made : List ℤ) (index : ℕ) (y : ℤ) (behind : Result (List ℤ) (List ℕ)) →
    after made (in_front index (Ok y) behind) ≡ after (made ++ y ∷ []) behind
after-one made index y (Ok ys) = ap Ok (sym (append_assoc made (y ∷ []) ys))
after-one made index y (Err name) = refl

-- the elements up to an index are done
abbrev pub IsDoneTo : Job → List ℤ → ℕ → List ℤ → Type 0
IsDoneTo job xs index made = each_of job 0 xs ≡ after made (each_of job index (drop index xs))

module _ (job : Job) (xs made : List ℤ) (index : ℕ) (d : ℤ) (done : IsDoneTo job xs index made)
    (within : index < length xs) where
  here : each_of job 0 xs
      ≡ after made (in_front index (at_index job index (get_or xs index d))
      (each_of job (index + 1) (drop (index + 1) xs)))
  here = done ∙ at_drop_more (λ rest. after made (each_of job index rest)) xs index d within

  pub done-more : (y : ℤ) → at_index job index (get_or xs index d) ≡ Ok y →
      IsDoneTo job xs (index + 1) (made ++ y ∷ [])
  done-more y same =
      let behind : Result (List ℤ) (List ℕ) = each_of job (index + 1) (drop (index + 1) xs) in
      here ∙ ap (λ answer. after made (in_front index answer behind)) same ∙ after-one made index y behind

  pub done-fault : (fault : JobFault) → at_index job index (get_or xs index d) ≡ Err fault →
      each_of job 0 xs ≡ Err (error_at (name_of fault) index)
  done-fault fault same =
      let behind : Result (List ℤ) (List ℕ) = each_of job (index + 1) (drop (index + 1) xs) in
      here ∙ ap (λ answer. after made (in_front index answer behind)) same
