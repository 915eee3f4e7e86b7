use Rattle.std.proofs.Common.{◌≡◌, ℕ, List, length, take, sym, ap, ◌∙◌}
use Rattle.exec_io.specs.Shelves.{text_of}
use Rattle.join_commands.specs.Parts.{status_name}
use Rattle.join_commands.proofs.OpenLaws.{opened_text}
use Rattle.join_commands.proofs.StatusLaws.{told_of, untold_of}
use Rattle.join_commands.proofs.status.told_status.Goals as goal

pub returns-in-Ok-read_front-clause-told : goal.returns-in-Ok-read_front-clause-told
returns-in-Ok-read_front-clause-told g c = λ all known.
    let named : c.deref.result.now ≡ status_name c.args.name.now = c.deref.ensures ∙ c.in-Ok.ensures in
    let has = opened_text g.F.Folder.left (g.F.Folder.told c.args.folder.now).texts all c.deref.result.now c.in-Ok-open.file known c.in-Ok-open.ensures.opens in
    let text : List ℕ = has.0 in
    let long : length c.read_front.new.buf ≡ 9 = c.read_front.auto.buf in
    let front : take c.in-Ok-read_front.count c.read_front.new.buf ≡ take 9 text = c.in-Ok-read_front.ensures.front text has.2 ∙ ap (λ n. take n text) long in
    told_of all c.args.name.now text (take c.in-Ok-read_front.count c.read_front.new.buf) c.told_or_refused.result (ap (λ (n : List ℕ). text_of all n) (sym named) ∙ has.1) front c.told_or_refused.ensures.told

pub returns-in-Ok-read_front-clause-fault : goal.returns-in-Ok-read_front-clause-fault
returns-in-Ok-read_front-clause-fault g c = λ all known.
    let named : c.deref.result.now ≡ status_name c.args.name.now = c.deref.ensures ∙ c.in-Ok.ensures in
    let has = opened_text g.F.Folder.left (g.F.Folder.told c.args.folder.now).texts all c.deref.result.now c.in-Ok-open.file known c.in-Ok-open.ensures.opens in
    let text : List ℕ = has.0 in
    let long : length c.read_front.new.buf ≡ 9 = c.read_front.auto.buf in
    let front : take c.in-Ok-read_front.count c.read_front.new.buf ≡ take 9 text = c.in-Ok-read_front.ensures.front text has.2 ∙ ap (λ n. take n text) long in
    untold_of all c.args.name.now text (take c.in-Ok-read_front.count c.read_front.new.buf) c.told_or_refused.result (ap (λ (n : List ℕ). text_of all n) (sym named) ∙ has.1) front c.told_or_refused.ensures.refused

pub returns-in-Err-Missing-clause-same : goal.returns-in-Err-Missing-clause-same
returns-in-Err-Missing-clause-same g c = c.in-Err-Missing.ensures.same

pub returns-in-Err-Failed-clause-same : goal.returns-in-Err-Failed-clause-same
returns-in-Err-Failed-clause-same g c = c.in-Err-Failed.ensures.same

pub returns-in-Err-NoMemory-clause-same : goal.returns-in-Err-NoMemory-clause-same
returns-in-Err-NoMemory-clause-same g c = c.in-Err-NoMemory.ensures.same

pub returns-in-Ok-read_front-clause-same : goal.returns-in-Ok-read_front-clause-same
returns-in-Ok-read_front-clause-same g c = c.in-Ok-read_front.ensures.same ∙ c.in-Ok-open.ensures.same
