-- How the reads that a source tells grow.
use Rattle.std.proofs.Common.{List, [], ◌∷◌, ◌++◌, Option, None, Some, sym, ap, ◌∙◌, append_assoc, append-nil}
use Rattle.std.proofs.lemmas.List.Elements.{All-nil, All-cons, All-append}
use Rattle.record_loop.specs.ReadStarts.{ReadStart, ReadsOnce, ReadsOnly}

module _ {P : ReadStart → Type 0} where
  -- nothing was read
  pub ReadsOnly-nil : (reads : Option (List ReadStart)) → ReadsOnly P reads reads
  ReadsOnly-nil None = record { grown = tt }
  ReadsOnly-nil (Some xs) = record { grown = record { more = []; grown = sym (append-nil xs); each = All-nil P } }

  -- one read was made
  pub ReadsOnly-one : (start : ReadStart) (old new : Option (List ReadStart)) → ReadsOnce start old new → P start → ReadsOnly P old new
  ReadsOnly-one start old None once is = record { grown = tt }
  ReadsOnly-one start None (Some ys) once is = absurd once.grown
  ReadsOnly-one start (Some xs) (Some ys) once is = record {
    grown = record { more = start ∷ []; grown = once.grown; each = All-cons P start [] is (All-nil P) };
  }

  -- reads were made after others
  pub ReadsOnly-trans : (old mid new : Option (List ReadStart)) → ReadsOnly P old mid → ReadsOnly P mid new → ReadsOnly P old new
  ReadsOnly-trans old mid None first second = record { grown = tt }
  ReadsOnly-trans old None (Some zs) first second = absurd second.grown
  ReadsOnly-trans None (Some ys) (Some zs) first second = absurd first.grown
  ReadsOnly-trans (Some xs) (Some ys) (Some zs) first second = record {
    grown = record {
      more = first.grown.more ++ second.grown.more;
      grown = second.grown.grown ∙ ap (λ (rs : List ReadStart). rs ++ second.grown.more) first.grown.grown ∙ append_assoc xs first.grown.more second.grown.more;
      each = All-append P first.grown.more second.grown.more first.grown.each second.grown.each;
    };
  }
