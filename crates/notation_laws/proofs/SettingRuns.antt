-- The tokens of a plan's settings are read as they are in its JSON.
use Rattle.std.specs.Prelude.{IfSome, IsTrue}
use Rattle.std.specs.Fmt.{digits}
use Rattle.std.proofs.Common.{◌≡◌, inl, inr, ℕ, Bool, true, false, List, [], ◌∷◌, ◌++◌, Option, Some, None, Ok, Result, nat_eq, nat_le, codes, refl, sym, ap, ◌∙◌, arith}
use Rattle.std.proofs.lemmas.Bool.{and_parts, cases_Bool, cond-false, cond-true, eqb-false, eqb-true, leb-true}
use Rattle.json.specs.Print.{escape_byte}
use Rattle.serde_json.specs.Data.{string}
use Rattle.serde_json.specs.Written.{compact_text}
use Rattle.exec_value.specs.declared.kinds.Kind.{Kind}
use Rattle.node_tree.specs.declared.scope_kind.ScopeKind.{ScopeKind}
use Rattle.node_tree.specs.declared.scope_kind.ScopeKind.TheVariants as scope
use Rattle.plan_rules.specs.declared.settings.Settings.{Settings as PlanSettings}
use Rattle.plan_shape.specs.Blueprint.{AreSettings}
use Rattle.plan_shape.specs.Conditions.{is_within}
use Rattle.plan_shape.specs.declared.limits.TheConstants.{MOST_STOP_AFTER}
use Rattle.plan_writer.specs.Canonical.{on_error_name, scope_name}
use Rattle.plan_writer.specs.Nodes.{kind_name}
use Rattle.plan_words.specs.declared.kind.TokenKind.TheVariants as kind
use Rattle.plan_notation.specs.declared.constant.ConstantKind.TheVariants as constant
use Rattle.plan_notation.specs.declared.grammar.Setting.{Setting}
use Rattle.plan_notation.specs.declared.grammar.Setting.TheVariants as setting
use Rattle.plan_notation.specs.declared.machine.Expect.TheVariants as expect
use Rattle.plan_notation.specs.declared.wanted.Refusal.{Refusal}
use Rattle.plan_notation.specs.declared.wanted.Wanted.TheVariants as wanted
use Rattle.plan_notation.specs.Arguments.{is_kind}
use Rattle.plan_notation.specs.Frames.{no_sender}
use Rattle.plan_notation.specs.Grammar.{setting_of_name, wanted_by_setting}
use Rattle.plan_notation.specs.Machine.{after_setting, machine_at_start, started, told_as}
use Rattle.plan_notation.specs.Said.{settings_at_first, with_setting}
use Rattle.plan_notation.specs.Settings.{Settings}
use Rattle.plan_notation.specs.States.{MachineState}
use Rattle.plan_notation.specs.Tokens.{count_word, on_error_words, scope_words, settings_words, stop_words, version_words, word_pair}
use Rattle.notation_laws.proofs.Constants.{count_token}
use Rattle.notation_laws.proofs.NamesRead.{is_ascii, name_as}
use Rattle.notation_laws.proofs.Runs.{Leads, leads_from, leads_more, leads_none, leads_on, leads_one, leads_same, leads_weaker, st, steps_to, token}
use Rattle.notation_laws.proofs.Words.{input_token, quoted_kind, simple_token, stop_token, version_token, IsArgumentToken, constant_read}

-- what a text says of settings, but for where the scope is told
pub record SaysOf (version input scope on_error stop_after : List ℕ) (m : MachineState) : Type 0 where
  pub said : Settings
  pub is : m ≡ st said expect.Start no_sender [] [] []
  pub version_is : said.version ≡ version
  pub input_is : said.input ≡ input
  pub scope_is : said.scope ≡ scope
  pub on_error_is : said.on_error ≡ on_error
  pub stop_after_is : said.stop_after ≡ stop_after

-- one setting but the kind of the records
setting_run : (said : Settings) (w : List ℕ) (which : Setting) (value text : List ℕ) → is_ascii w ≡ true
    → ((at : ℕ) (s : MachineState) → started (Some which) (token w at) s ≡ Ok (record s { expect = expect.Setting which at }))
    → setting_of_name w ≡ Some which → IsArgumentToken (wanted_by_setting which) value text
    → Leads (w ∷ value ∷ []) (st said expect.Start no_sender [] [] [])
    (λ m. (at : ℕ) × (m ≡ st (with_setting which text at said) expect.Start no_sender [] [] []))
setting_run said w which value text ascii starts named is =
    let s = st said expect.Start no_sender [] [] [] in
    let told = λ (at : ℕ). st said (expect.Setting which at) no_sender [] [] [] in
    let Q = λ (m : MachineState). (at : ℕ) × (m ≡ st (with_setting which text at said) expect.Start no_sender [] [] []) in
    leads_more w (value ∷ []) s (λ m. (at : ℕ) × (m ≡ told at)) Q
    (steps_to w s told
    (λ at. ap (λ (o : Option Setting). started o (token w at) s) (ap setting_of_name (name_as w ascii) ∙ named) ∙ starts at s)
    (λ m. (at : ℕ) × (m ≡ told at)) (λ at. (at, refl)))
    (λ m named'. leads_from (value ∷ []) m (told named'.0) Q named'.1
    (leads_one value (told named'.0) Q
    (steps_to value (told named'.0) (λ at. st (with_setting which text named'.0 said) expect.Start no_sender [] [] [])
    (λ at. ap (λ (r : Result (List ℕ) Refusal). told_as which named'.0 r (told named'.0)) (is.read at)) Q
    (λ at. (named'.0, refl)))))

-- the kind of the records
input_run : (said : Settings) (value text : List ℕ) → is_kind (token value 0) kind.Word ≡ true → IsArgumentToken wanted.Input value text
    → Leads (codes "input" ∷ value ∷ []) (st said expect.Start no_sender [] [] [])
    (λ m. (at : ℕ) × (m ≡ st (with_setting setting.Input text at said) expect.Start no_sender [] [] []))
input_run said value text word is =
    let s = st said expect.Start no_sender [] [] [] in
    let told = λ (at : ℕ). st said (expect.Input at) no_sender [] [] [] in
    let Q = λ (m : MachineState). (at : ℕ) × (m ≡ st (with_setting setting.Input text at said) expect.Start no_sender [] [] []) in
    leads_more (codes "input") (value ∷ []) s (λ m. (at : ℕ) × (m ≡ told at)) Q
    (steps_to (codes "input") s told
    (λ at. ap (λ (o : Option Setting). started o (token (codes "input") at) s) (ap setting_of_name (name_as (codes "input") refl)))
    (λ m. (at : ℕ) × (m ≡ told at)) (λ at. (at, refl)))
    (λ m named. leads_from (value ∷ []) m (told named.0) Q named.1
    (leads_one value (told named.0) Q
    (steps_to value (told named.0) (λ at. st (with_setting setting.Input text named.0 said) expect.Start no_sender [] [] [])
    (λ at. cond-true (is_kind (token value at) kind.Word) (after_setting setting.Input named.0 (token value at) (told named.0)) _ word
    ∙ ap (λ (r : Result (List ℕ) Refusal). told_as setting.Input named.0 r (told named.0)) (is.read at)) Q
    (λ at. (named.0, refl)))))

-- ---- each of a plan's settings

abbrev pub stop_text : Option ℕ → List ℕ
stop_text None = []
stop_text (Some count) = codes ",\"stop_after\":" ++ count_word count

-- the version, if it isn't the first
one_or_two : (v : ℕ) → is_within 1 2 v ≡ true → nat_eq v 2 ≡ false → v ≡ 1
one_or_two v within other =
    let is = and_parts (nat_le 1 v) (nat_le v 2) within in
    let least = leb-true 1 v is.0 in
    let most = leb-true v 2 is.1 in
    let not_two = eqb-false v 2 other in
    omega (arith, least, most, not_two)

first_version : codes "1" ≡ count_word 1
unfolding digits
first_version = refl

second_version : codes "2" ≡ count_word 2
unfolding digits
second_version = refl

abbrev AtFirst : List ℕ → MachineState → Type 0
AtFirst version = SaysOf version (codes "\"int\"") (codes "\"counting\"") (codes "\"go\"") []

version_run : (v : ℕ) → is_within 1 2 v ≡ true → Leads (version_words v) machine_at_start (AtFirst (count_word v))
version_run v within =
    elim (cases_Bool (nat_eq v 2)) [
      | inl e ↦
          let version : codes "2" ≡ count_word v = second_version ∙ ap count_word (sym (eqb-true v 2 e)) in
          leads_same (version_words v) (word_pair (codes "version") (codes "2")) machine_at_start (AtFirst (count_word v)) (cond-true (nat_eq v 2) _ _ e)
          (leads_weaker (word_pair (codes "version") (codes "2")) machine_at_start
          (λ m. (at : ℕ) × (m ≡ st (with_setting setting.Version (codes "2") at settings_at_first) expect.Start no_sender [] [] [])) (AtFirst (count_word v))
          (λ m told. record {
            said = with_setting setting.Version (codes "2") told.0 settings_at_first;
            is = told.1;
            version_is = version;
            input_is = refl;
            scope_is = refl;
            on_error_is = refl;
            stop_after_is = refl;
          })
          (setting_run settings_at_first (codes "version") setting.Version (codes "2") (codes "2") refl (λ at s. refl) refl version_token))
      | inr e ↦
          let version : codes "1" ≡ count_word v = first_version ∙ ap count_word (sym (one_or_two v within e)) in
          leads_same (version_words v) [] machine_at_start (AtFirst (count_word v)) (cond-false (nat_eq v 2) _ _ e)
          (leads_none machine_at_start (AtFirst (count_word v))
          (record { said = settings_at_first; is = refl; version_is = version; input_is = refl; scope_is = refl; on_error_is = refl; stop_after_is = refl }))
    ]

-- the kind of the records
kind_run : (of : Kind) (version input scope on_error stop_after : List ℕ) (m : MachineState) → SaysOf version input scope on_error stop_after m
    → Leads (word_pair (codes "input") (kind_name of)) m (SaysOf version (quoted_kind of) scope on_error stop_after)
kind_run of version input scope on_error stop_after m t =
    let is = input_token of in
    let Q = SaysOf version (quoted_kind of) scope on_error stop_after in
    let s = st t.said expect.Start no_sender [] [] [] in
    leads_from (word_pair (codes "input") (kind_name of)) m s Q t.is
    (leads_weaker (word_pair (codes "input") (kind_name of)) s
    (λ m1. (at : ℕ) × (m1 ≡ st (with_setting setting.Input (quoted_kind of) at t.said) expect.Start no_sender [] [] [])) Q
    (λ m1 told. record {
      said = with_setting setting.Input (quoted_kind of) told.0 t.said;
      is = told.1;
      version_is = t.version_is;
      input_is = refl;
      scope_is = t.scope_is;
      on_error_is = t.on_error_is;
      stop_after_is = t.stop_after_is;
    })
    (input_run t.said (kind_name of) (quoted_kind of) is.word is.read))

abbrev pub quoted : List ℕ → List ℕ
quoted word = compact_text (string word)

counting_text : codes "\"counting\"" ≡ quoted (codes "counting")
unfolding escape_byte
counting_text = refl

going_text : codes "\"go\"" ≡ quoted (codes "go")
unfolding escape_byte
going_text = refl

scope_run : (kind : ScopeKind) (version input on_error stop_after : List ℕ) (m : MachineState)
    → SaysOf version input (codes "\"counting\"") on_error stop_after m
    → Leads (scope_words kind) m (SaysOf version input (quoted (scope_name kind)) on_error stop_after)
scope_run scope.Simple version input on_error stop_after m t =
    let Q = SaysOf version input (quoted (codes "simple")) on_error stop_after in
    let s = st t.said expect.Start no_sender [] [] [] in
    leads_from (word_pair (codes "scope") (codes "simple")) m s Q t.is
    (leads_weaker (word_pair (codes "scope") (codes "simple")) s
    (λ m1. (at : ℕ) × (m1 ≡ st (with_setting setting.Scope (quoted (codes "simple")) at t.said) expect.Start no_sender [] [] [])) Q
    (λ m1 told. record {
      said = with_setting setting.Scope (quoted (codes "simple")) told.0 t.said;
      is = told.1;
      version_is = t.version_is;
      input_is = t.input_is;
      scope_is = refl;
      on_error_is = t.on_error_is;
      stop_after_is = t.stop_after_is;
    })
    (setting_run t.said (codes "scope") setting.Scope (codes "simple") (quoted (codes "simple")) refl (λ at s'. refl) refl simple_token))
scope_run scope.Counting version input on_error stop_after m t =
    leads_none m (SaysOf version input (quoted (codes "counting")) on_error stop_after)
    (record {
      said = t.said;
      is = t.is;
      version_is = t.version_is;
      input_is = t.input_is;
      scope_is = t.scope_is ∙ counting_text;
      on_error_is = t.on_error_is;
      stop_after_is = t.stop_after_is;
    })

on_error_run : (stops : Bool) (version input scope stop_after : List ℕ) (m : MachineState)
    → SaysOf version input scope (codes "\"go\"") stop_after m
    → Leads (on_error_words stops) m (SaysOf version input scope (quoted (on_error_name stops)) stop_after)
on_error_run true version input scope stop_after m t =
    let Q = SaysOf version input scope (quoted (codes "stop")) stop_after in
    let s = st t.said expect.Start no_sender [] [] [] in
    leads_from (word_pair (codes "on_error") (codes "stop")) m s Q t.is
    (leads_weaker (word_pair (codes "on_error") (codes "stop")) s
    (λ m1. (at : ℕ) × (m1 ≡ st (with_setting setting.OnError (quoted (codes "stop")) at t.said) expect.Start no_sender [] [] [])) Q
    (λ m1 told. record {
      said = with_setting setting.OnError (quoted (codes "stop")) told.0 t.said;
      is = told.1;
      version_is = t.version_is;
      input_is = t.input_is;
      scope_is = t.scope_is;
      on_error_is = refl;
      stop_after_is = t.stop_after_is;
    })
    (setting_run t.said (codes "on_error") setting.OnError (codes "stop") (quoted (codes "stop")) refl (λ at s'. refl) refl stop_token))
on_error_run false version input scope stop_after m t =
    leads_none m (SaysOf version input scope (quoted (codes "go")) stop_after)
    (record {
      said = t.said;
      is = t.is;
      version_is = t.version_is;
      input_is = t.input_is;
      scope_is = t.scope_is;
      on_error_is = t.on_error_is ∙ going_text;
      stop_after_is = t.stop_after_is;
    })

stop_run : (stop : Option ℕ) → IfSome stop (λ count. IsTrue (is_within 1 MOST_STOP_AFTER count))
    → (version input scope on_error : List ℕ) (m : MachineState) → SaysOf version input scope on_error [] m
    → Leads (stop_words stop) m (SaysOf version input scope on_error (stop_text stop))
stop_run (Some count) within version input scope on_error m t =
    let Q = SaysOf version input scope on_error (stop_text (Some count)) in
    let s = st t.said expect.Start no_sender [] [] [] in
    let most = leb-true count MOST_STOP_AFTER (and_parts (nat_le 1 count) (nat_le count MOST_STOP_AFTER) within).1 in
    leads_from (word_pair (codes "stop_after") (count_word count)) m s Q t.is
    (leads_weaker (word_pair (codes "stop_after") (count_word count)) s
    (λ m1. (at : ℕ) × (m1 ≡ st (with_setting setting.StopAfter (count_word count) at t.said) expect.Start no_sender [] [] [])) Q
    (λ m1 told. record {
      said = with_setting setting.StopAfter (count_word count) told.0 t.said;
      is = told.1;
      version_is = t.version_is;
      input_is = t.input_is;
      scope_is = t.scope_is;
      on_error_is = t.on_error_is;
      stop_after_is = refl;
    })
    (setting_run t.said (codes "stop_after") setting.StopAfter (count_word count) (count_word count) refl (λ at s'. refl) refl
    (constant_read wanted.Number (count_word count) constant.Number refl (count_token count (omega (arith, most))) refl)))
stop_run None within version input scope on_error m t = leads_none m (SaysOf version input scope on_error []) t

-- all of them
abbrev pub Told : PlanSettings → MachineState → Type 0
Told s = SaysOf (count_word s.version) (quoted_kind s.input) (quoted (scope_name s.scope)) (quoted (on_error_name s.on_error_stop)) (stop_text s.stop_after)

pub settings_run : (s : PlanSettings) → AreSettings s → Leads (settings_words s) machine_at_start (Told s)
settings_run s are =
    let v = count_word s.version in
    let i = quoted_kind s.input in
    let c = quoted (scope_name s.scope) in
    let o = quoted (on_error_name s.on_error_stop) in
    let first = codes "\"counting\"" in
    let going = codes "\"go\"" in
    let rest3 = on_error_words s.on_error_stop ++ stop_words s.stop_after in
    let rest2 = scope_words s.scope ++ rest3 in
    leads_on (version_words s.version) (word_pair (codes "input") (kind_name s.input) ++ rest2) machine_at_start (AtFirst v) (Told s)
    (version_run s.version are.version)
    (λ m t. leads_on (word_pair (codes "input") (kind_name s.input)) rest2 m (SaysOf v i first going []) (Told s)
    (kind_run s.input v (codes "\"int\"") first going [] m t)
    (λ m1 t1. leads_on (scope_words s.scope) rest3 m1 (SaysOf v i c going []) (Told s)
    (scope_run s.scope v i going [] m1 t1)
    (λ m2 t2. leads_on (on_error_words s.on_error_stop) (stop_words s.stop_after) m2 (SaysOf v i c o []) (Told s)
    (on_error_run s.on_error_stop v i c [] m2 t2)
    (λ m3 t3. stop_run s.stop_after are.stop_after v i c o m3 t3))))
