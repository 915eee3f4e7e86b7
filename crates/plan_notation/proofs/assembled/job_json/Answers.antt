use Rattle.std.proofs.Common.{◌≡◌, ℕ, List, map, codes, sym, ap, subst, ◌∙◌, IfOk}
use Rattle.plan_parts.specs.declared.job_word.JobWord.{JobWord}
use Rattle.plan_parts.specs.declared.job_word.JobWord.TheVariants as job
use Rattle.plan_notation.specs.Assembled.{five, job_json, piece_at, three}
use Rattle.plan_notation.proofs.assembled.job_json.Goals as goal

pub returns-in-Within : goal.returns-in-Within
returns-in-Within c =
    let pieces = map (λ piece. piece.items) c.args.constants.now in
    let lo = c.piece_at-first.ensures in
    let hi = c.piece_at-second.ensures in
    let same : five (codes "{\"hi\":") c.piece_at-second.result.now (codes ",\"job\":\"within\",\"lo\":") c.piece_at-first.result.now (codes "}")
    ≡ job_json job.Within pieces =
    ap (λ (h : List ℕ). five (codes "{\"hi\":") h (codes ",\"job\":\"within\",\"lo\":") c.piece_at-first.result.now (codes "}")) hi
    ∙ ap (λ (l : List ℕ). five (codes "{\"hi\":") (piece_at pieces 1) (codes ",\"job\":\"within\",\"lo\":") l (codes "}")) lo in
    let told = subst (λ (bytes : List ℕ). IfOk c.five-in-Within.result (λ text. text.items ≡ bytes)) same c.five-in-Within.ensures in
    subst (λ (j : JobWord). IfOk c.five-in-Within.result (λ text. text.items ≡ job_json j pieces)) (sym c.in-Within.is) told

pub returns-in-Fail : goal.returns-in-Fail
returns-in-Fail c =
    let pieces = map (λ piece. piece.items) c.args.constants.now in
    let same : three (codes "{\"error\":") c.piece_at-first.result.now (codes ",\"job\":\"fail\"}") ≡ job_json job.Fail pieces =
    ap (λ (name : List ℕ). three (codes "{\"error\":") name (codes ",\"job\":\"fail\"}")) c.piece_at-first.ensures in
    let told = subst (λ (bytes : List ℕ). IfOk c.three-in-Fail.result (λ text. text.items ≡ bytes)) same c.three-in-Fail.ensures in
    subst (λ (j : JobWord). IfOk c.three-in-Fail.result (λ text. text.items ≡ job_json j pieces)) (sym c.in-Fail.is) told
