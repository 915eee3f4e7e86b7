-- Lists that are gone through together, and lines of parts that follow each other.
use Rattle.std.proofs.Common.{◌≡◌, ℕ, zero, suc, ◌+◌, ◌<◌, List, [], ◌∷◌, ◌++◌, length, get_or, take, Some, Result, Ok, Err, false, sym, ap, ◌∙◌, subst, append_assoc, append-nil, arith}
use Rattle.std.specs.Prelude.{slice_get, is_ok, is_err, if◌then◌else◌}
use Rattle.std.specs.Borrow.{Bor}
use Rattle.std.specs.List.{AllZip}
use Rattle.std.proofs.lemmas.List.{take_more, get_or_default}
use Rattle.std.proofs.lemmas.Slice.Zip.{all_zipped_more}
use Rattle.exec_io.specs.Shelves.{Texts}
use Rattle.part_lines.specs.declared.tally.Tally.{Tally}
use Rattle.join_commands.specs.declared.fault.JoinFault.{JoinFault}
use Rattle.join_commands.specs.declared.fault.LookFault.{LookFault}
use Rattle.join_commands.specs.declared.fault.LookFault.TheVariants.{Refused, ReadFault, NoMemory}
use Rattle.join_commands.specs.declared.refusal.Cause.{Cause}
use Rattle.join_commands.specs.declared.refusal.Cause.TheVariants.{NoStatus, StatusIsnt, NoLines, NotLine, StatusDiffers, NotDealt, NoSummary, Contradicts, TooLarge, Changed}
use Rattle.join_commands.specs.Faults.{IsJoinFault, IsLookFault, IsRefusedAt, at_part}
use Rattle.join_commands.specs.Joins.{AreTallied}
use Rattle.join_commands.specs.Parts.{IsPartRefusedFor, IsTallied}
use Rattle.part_lines.specs.Streams.{in_order}

-- what is got at a place
pub got_at : {A : Type 0} (xs : List A) (i : ℕ) (x : A) → i < length xs → x ≡ get_or xs i x → slice_get xs i ≡ Some x
got_at [] i x below is = absurd (omega arith)
got_at (y ∷ xs) zero x below is = ap Some (sym is)
got_at (y ∷ xs) (suc i) x below is = got_at xs i x (omega arith) is

-- what holds of two lists holds at a place of them
pub zip_at : {A B : Type 0} (R : A → B → Type 0) (xs : List A) (ys : List B) (i : ℕ) (x : A) (e : B) → AllZip R xs ys → i < length xs → x ≡ get_or xs i x → R x (get_or ys i e)
zip_at R [] ys i x e each below is = absurd (omega arith)
zip_at R (z ∷ xs) [] i x e each below is = absurd each
zip_at R (z ∷ xs) (y ∷ ys) zero x e each below is = subst (λ v. R v y) (sym is) each.0
zip_at R (z ∷ xs) (y ∷ ys) (suc i) x e each below is = zip_at R xs ys i x e each.1 (omega arith) is

-- the same where the elements are read with other defaults
pub zip_both : {A B : Type 0} (R : A → B → Type 0) (xs : List A) (ys : List B) (i : ℕ) (d : A) (e : B) → AllZip R xs ys → i < length xs → R (get_or xs i d) (get_or ys i e)
zip_both R [] ys i d e each below = absurd (omega arith)
zip_both R (z ∷ xs) [] i d e each below = absurd each
zip_both R (z ∷ xs) (y ∷ ys) zero d e each below = each.0
zip_both R (z ∷ xs) (y ∷ ys) (suc i) d e each below = zip_both R xs ys i d e each.1 (omega arith)

-- what is pushed is at the end
pub pushed : {A T E : Type 0} (result : Result T E) (new old : List A) (x : A) → new ≡ (if is_ok result then old ++ x ∷ [] else old) → is_err result ≡ false
    → new ≡ old ++ x ∷ []
pushed (Ok done) new old x is fails = is
pushed (Err fault) new old x is fails = cc

-- and there is one more
pub one_more : {T E : Type 0} (result : Result T E) (new old at : ℕ) → new ≡ (if is_ok result then old + 1 else old) → is_err result ≡ false → old ≡ at → new ≡ at + 1
one_more (Ok done) new old at is fails same = is ∙ ap (λ (n : ℕ). n + 1) same
one_more (Err fault) new old at is fails same = cc

-- one part more
pub in_order_more : (parts : List (List (List ℕ))) (i : ℕ) → i < length parts → in_order (take (i + 1) parts) ≡ in_order (take i parts) ++ get_or parts i []
in_order_more [] i below = absurd (omega arith)
in_order_more (part ∷ parts) zero below = append-nil part
in_order_more (part ∷ parts) (suc i) below =
    ap (λ k. in_order (take k (part ∷ parts))) (let e : suc i + 1 ≡ suc (i + 1) = omega arith in e)
    ∙ (ap (λ (l : List (List ℕ)). part ++ l) (in_order_more parts i (omega arith)) ∙ sym (append_assoc part (in_order (take i parts)) (get_or parts i [])))

-- one tally more
pub tallied_more : (all : Texts) (names : List (Bor (List ℕ))) (i : ℕ) (name : Bor (List ℕ)) (tallies : List Tally) (tally : Tally) → i < length names → name ≡ get_or names i name
    → AreTallied all (take i names) tallies → IsTallied all name.now tally → AreTallied all (take (i + 1) names) (tallies ++ tally ∷ [])
tallied_more all names i name tallies tally below is before one =
    subst (λ (l : List (Bor (List ℕ))). AreTallied all l (tallies ++ tally ∷ []))
    (ap (λ (n : Bor (List ℕ)). take i names ++ n ∷ []) is ∙ sym (take_more names i name below))
    (all_zipped_more (λ (n : Bor (List ℕ)) t. IsTallied all n.now t) (take i names) tallies name tally before one)

pub tallied_at : (all : Texts) (names : List (Bor (List ℕ))) (i : ℕ) (d : Bor (List ℕ)) (tallies : List Tally) (tally : Tally) → i < length names
    → AreTallied all (take i names) tallies → IsTallied all (get_or names i d).now tally → AreTallied all (take (i + 1) names) (tallies ++ tally ∷ [])
tallied_at all names i d tallies tally below before one =
    tallied_more all names i (get_or names i d) tallies tally below (get_or_default names i d (get_or names i d) below) before one

-- a part that is refused is refused at its place
refused_at : (all : Texts) (names : List (Bor (List ℕ))) (at : ℕ) (name : Bor (List ℕ)) (cause : Cause) → slice_get names at ≡ Some name → IsPartRefusedFor all name.now cause → IsRefusedAt all names at cause
refused_at all names at name (NotDealt number ended) is has = absurd has
refused_at all names at name NoStatus is has = (name, is, has)
refused_at all names at name (StatusIsnt said) is has = (name, is, has)
refused_at all names at name NoLines is has = (name, is, has)
refused_at all names at name (NotLine number) is has = (name, is, has)
refused_at all names at name (StatusDiffers told found) is has = (name, is, has)
refused_at all names at name NoSummary is has = absurd has
refused_at all names at name (Contradicts numbers) is has = absurd has
refused_at all names at name TooLarge is has = absurd has
refused_at all names at name Changed is has = absurd has

-- a part that isn't read stops the joining
pub stops_at : (all : Texts) (names : List (Bor (List ℕ))) (at : ℕ) (name : Bor (List ℕ)) (fault : LookFault) (join : JoinFault) → at < length names → name ≡ get_or names at name
    → IsLookFault all name.now fault → join ≡ at_part at fault → IsJoinFault all names join
stops_at all names at name (Refused cause) join below is refused same = subst (IsJoinFault all names) (sym same) (refused_at all names at name cause (got_at names at name below is) refused)
stops_at all names at name ReadFault join below is refused same = subst (IsJoinFault all names) (sym same) tt
stops_at all names at name NoMemory join below is refused same = subst (IsJoinFault all names) (sym same) tt

pub stops_there : (all : Texts) (names : List (Bor (List ℕ))) (i : ℕ) (d : Bor (List ℕ)) (fault : LookFault) (join : JoinFault) → i < length names
    → IsLookFault all (get_or names i d).now fault → join ≡ at_part i fault → IsJoinFault all names join
stops_there all names i d fault join below refused same =
    stops_at all names i (get_or names i d) fault join below (get_or_default names i d (get_or names i d) below) refused same
