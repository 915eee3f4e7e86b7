-- What a plan is written in is read as the plan's canonical JSON.
use Rattle.std.proofs.Common.{◌≡◌, ℕ, ◌-◌, ◌<◌, List, [], ◌++◌, length, Option, Some, None, Ok, codes, refl, ap, ◌∙◌, arith}
use Rattle.json.specs.Print.{escape_byte}
use Rattle.serde_json.specs.Data.{Data, member, no_members, number, object, string, unsigned}
use Rattle.serde_json.specs.Written.{compact_text}
use Rattle.plan_rules.specs.declared.settings.Settings.{Settings as PlanSettings}
use Rattle.plan_shape.specs.Blueprint.{AreSettings, Blueprint}
use Rattle.plan_shape.specs.Depths.{depth_of}
use Rattle.plan_words.specs.Cutting.{tokens_of}
use Rattle.plan_words.specs.Seen.{words_in}
use Rattle.plan_writer.specs.Canonical.{on_error_name, plan_members, plan_text, scope_name, with_stop}
use Rattle.plan_writer.specs.Nodes.{kind_name, node_data}
use Rattle.plan_writer.specs.Order.{IsWritten}
use Rattle.plan_notation.specs.declared.machine.Expect.TheVariants as expect
use Rattle.plan_notation.specs.Assembled.{five, plan_json, three}
use Rattle.plan_notation.specs.Frames.{no_sender}
use Rattle.plan_notation.specs.Machine.{Outcome, machine_at_start}
use Rattle.plan_notation.specs.NodeTokens.{all_words, notation_words, words_at}
use Rattle.plan_notation.specs.Reading.{json_in, json_of_reads, reads_at_end, reads_if_done, then_reads}
use Rattle.plan_notation.specs.States.{MachineState}
use Rattle.plan_notation.specs.Tokens.{count_word, settings_words}
use Rattle.notation_laws.proofs.Begins.{start_begins}
use Rattle.notation_laws.proofs.Places.{SenderRead}
use Rattle.notation_laws.proofs.Plans.{AreNodes, plan_read}
use Rattle.notation_laws.proofs.Runs.{Leads, Reached, leads_from, leads_on, leads_weaker, st}
use Rattle.notation_laws.proofs.SettingRuns.{Told, quoted, settings_run, stop_text}
use Rattle.notation_laws.proofs.Words.{quoted_kind}

-- ---- the JSON of a plan is that of its parts

abbrev json_with : (version input scope on_error stop_after root : List ℕ) → List ℕ
json_with version input scope on_error stop_after root =
    five (codes "{\"input\":") input (codes ",\"on_error\":") on_error
    (five (codes ",\"root\":") root (codes ",\"scope\":") scope
    (three stop_after (codes ",\"version\":") (version ++ codes "}")))

members_json : (s : PlanSettings) (stop : Option ℕ) (root : Data)
    → json_with (count_word s.version) (quoted_kind s.input) (quoted (scope_name s.scope)) (quoted (on_error_name s.on_error_stop))
    (stop_text stop) (compact_text root)
    ≡ compact_text (object (with_stop stop
    (member (codes "input") (string (kind_name s.input))
    (member (codes "on_error") (string (on_error_name s.on_error_stop))
    (member (codes "root") root
    (member (codes "scope") (string (scope_name s.scope))
    (member (codes "version") (number (unsigned s.version)) no_members)))))))
unfolding escape_byte
members_json s None root = refl
members_json s (Some count) root = refl

same_parts : (v v' i i' c c' o o' a a' r r' : List ℕ) → v ≡ v' → i ≡ i' → c ≡ c' → o ≡ o' → a ≡ a' → r ≡ r'
    → json_with v i c o a r ≡ json_with v' i' c' o' a' r'
same_parts v v' i i' c c' o o' a a' r r' ev ei ec eo ea er =
    ap (λ (x : List ℕ). json_with x i c o a r) ev
    ∙ ap (λ (x : List ℕ). json_with v' x c o a r) ei
    ∙ ap (λ (x : List ℕ). json_with v' i' x o a r) ec
    ∙ ap (λ (x : List ℕ). json_with v' i' c' x a r) eo
    ∙ ap (λ (x : List ℕ). json_with v' i' c' o' x r) ea
    ∙ ap (λ (x : List ℕ). json_with v' i' c' o' a' x) er

whole_json : (s : PlanSettings) (m : MachineState) (told : Told s m) (root : Data) (text : List ℕ) → text ≡ compact_text root
    → plan_json told.said text ≡ compact_text (object (plan_members s root))
whole_json s m told root text is =
    same_parts told.said.version (count_word s.version) told.said.input (quoted_kind s.input) told.said.scope (quoted (scope_name s.scope))
    told.said.on_error (quoted (on_error_name s.on_error_stop)) told.said.stop_after (stop_text s.stop_after) text (compact_text root)
    told.version_is told.input_is told.scope_is told.on_error_is told.stop_after_is is
    ∙ members_json s s.stop_after root

-- ---- a text

-- the settings and the root were read
record WholeRead (plan : Blueprint) (new : MachineState) : Type 0 where
  before : MachineState
  told : Told plan.settings before
  read : SenderRead (compact_text (node_data plan.nodes (length plan.nodes - 1))) (depth_of plan.nodes (length plan.nodes - 1)) told.said [] new

plan_run : (plan : Blueprint) → AreNodes plan.nodes → AreSettings plan.settings → 0 < length plan.nodes
    → IsWritten plan.nodes (length plan.nodes - 1) → Leads (notation_words plan) machine_at_start (WholeRead plan)
plan_run plan nodes settings some root =
    let n = length plan.nodes - 1 in
    let words = words_at (all_words plan.nodes) n in
    let text = compact_text (node_data plan.nodes n) in
    let Q = WholeRead plan in
    leads_on (settings_words plan.settings) words machine_at_start (Told plan.settings) Q (settings_run plan.settings settings)
    (λ m t. leads_from words m (st t.said expect.Start no_sender [] [] []) Q t.is
    (leads_weaker words (st t.said expect.Start no_sender [] [] []) (SenderRead text (depth_of plan.nodes n) t.said []) Q
    (λ m1 r. record { before = m; told = t; read = r })
    (plan_read plan.nodes nodes n (omega (arith, some)) root t.said [] (st t.said expect.Start no_sender [] [] []) (start_begins t.said no_sender [] []))))

ends_as : (plan : Blueprint) (text : List ℕ) → Reached (tokens_of text) machine_at_start (WholeRead plan)
    → json_in text ≡ Ok (plan_text plan)
ends_as plan text r =
    let whole = r.holds in
    ap (λ (o : Outcome). json_of_reads (then_reads (reads_at_end (length text)) o)) r.runs
    ∙ ap (λ (o : Outcome). json_of_reads (then_reads (reads_if_done (length text)) o)) whole.read.is
    ∙ ap Ok (whole_json plan.settings whole.before whole.told (node_data plan.nodes (length plan.nodes - 1)) whole.read.sender.text whole.read.text_is)

pub text_read : (plan : Blueprint) → AreNodes plan.nodes → AreSettings plan.settings → 0 < length plan.nodes
    → IsWritten plan.nodes (length plan.nodes - 1) → (text : List ℕ) → words_in text ≡ notation_words plan
    → json_in text ≡ Ok (plan_text plan)
unfolding words_in
text_read plan nodes settings some root text is =
    ends_as plan text ((plan_run plan nodes settings some root).go (tokens_of text) is)
