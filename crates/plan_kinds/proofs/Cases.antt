-- Each kind of node keeps kinds, where those below it do.
use Rattle.std.specs.Prelude.{All, slice_index, min}
use Rattle.std.proofs.Common.{◌≡◌, ℕ, ◌-◌, ◌<◌, ℤ, pos, negsuc, true, false, IsTrue, List, [], ◌∷◌, length, Some, None, inl, inr, refl, arith, Bool}
use Rattle.exec_value.specs.declared.data.Datum.{Datum}
use Rattle.exec_value.specs.declared.data.Datum.TheVariants.{Int}
use Rattle.exec_value.specs.declared.outcome.Completion.{Completion}
use Rattle.exec_value.specs.declared.outcome.Completion.TheVariants.{Value, Error, Stopped}
use Rattle.plan_rules.specs.declared.node.Node.{Node}
use Rattle.plan_rules.specs.declared.node.Node.TheVariants.{Input, Just, JustError, JustStopped, Schedule, Delay, ReadEnv, Then, UponError, UponStopped, LetValue, LetError, LetStopped, StartsOn, ContinuesOn, StoppedAsOptional, StoppedAsError, Bulk, WhenAll, Part, Unstoppable, Ahead}
use Rattle.plan_rules.specs.declared.node.Query.{Query}
use Rattle.plan_rules.specs.declared.node.Query.TheVariants.{Stop, Record}
use Rattle.plan_rules.specs.declared.stop.StopState.{StopState}
use Rattle.plan_rules.specs.declared.stop.StopState.TheVariants.{Never, May, Stands}
use Rattle.plan_rules.specs.Allowed.{Meaning, OrStopped, Asks, AllOf, body_at, Case}
use Rattle.plan_rules.specs.Images.{then_of, upon_error_of, upon_stopped_of, as_optional, as_error}
use Rattle.plan_rules.specs.Bulks.{bulk_of}
use Rattle.plan_laws.proofs.Children.{head-of, second-of}
use Rattle.plan_kinds.specs.Shapes.{Shape, HasShape}
use Rattle.plan_kinds.specs.Gives.{int_alone, text_alone}
use Rattle.plan_kinds.specs.Runs.{run_by, bodies_of}
use Rattle.plan_kinds.specs.Values.{body_arguments, value_case, match_case}
use Rattle.plan_kinds.specs.Flags.{error_case, stop_case}
use Rattle.plan_kinds.specs.Signatures.{Signatures, own_sigs, body_sigs, sig_case, Fits}
use Rattle.plan_kinds.specs.Built.{IsWhole, AreArguments}
use Rattle.plan_kinds.proofs.Jobs.{have-own_kinds}
use Rattle.plan_kinds.proofs.Fitting.{FitsAs, same-fits, matched-fits, stopped-fits, wider-fits}
use Rattle.plan_kinds.proofs.OneChild.{then-fits, upon_error-fits, upon_stopped-fits, optional-fits, error-fits}
use Rattle.plan_kinds.proofs.Elements.{bulk-fits, part-fits}
use Rattle.plan_kinds.proofs.Lets.{let_value-fits, let_error-fits, let_stopped-fits}
use Rattle.plan_kinds.proofs.Joining.{all-fits, ahead-fits}

asks-fits : (query : Query) (number : ℕ) (q : StopState) (c : Completion) → Asks query number q c →
    FitsAs int_alone false false c
asks-fits Record number q c h = same-fits int_alone false false (Value (Int (pos number) ∷ [])) c (tt, tt) h
asks-fits Stop number Never c h = same-fits int_alone false false (Value (Int (pos 0) ∷ [])) c (tt, tt) h
asks-fits Stop number May c h = elim h [
  | inl e ↦ same-fits int_alone false false (Value (Int (pos 0) ∷ [])) c (tt, tt) e
  | inr e ↦ same-fits int_alone false false (Value (Int (pos 1) ∷ [])) c (tt, tt) e
]
asks-fits Stop number Stands c h = same-fits int_alone false false (Value (Int (pos 1) ∷ [])) c (tt, tt) h

-- a turn of a context
turn-fits : (q : StopState) (c : Completion) → OrStopped q (λ d. d ≡ Value []) c → FitsAs (Some []) false true c
turn-fits q c h =
    stopped-fits (Some []) false q (λ d. d ≡ Value [])
    (λ d e. same-fits (Some []) false true (Value []) d tt e) c h

module _ (Below : ℕ → Meaning) (below : Signatures) where
  -- what the case of a node says under arguments of this shape
  abbrev value : Node → Shape → Shape
  value node a = value_case node a (own_sigs below node a) (body_sigs below node a)

  abbrev errs : List Node → Node → Shape → Bool
  errs nodes node a = error_case nodes node (own_sigs below node a) (body_sigs below node a)

  abbrev stops : Node → Shape → Bool
  stops node a = stop_case node (own_sigs below node a) (body_sigs below node a)

  abbrev pub match_at : Node → Shape → Bool
  match_at node a = match_case node (own_sigs below node a) (body_sigs below node a)

  -- node k completes as its signature says, for arguments of this shape
  abbrev pub Keeps : Shape → ℕ → Type 0
  Keeps a k =
      (values : List Datum) → HasShape values a → (q : StopState) (c : Completion) → Below k values q c →
      Fits (below k a) c

  -- the body that a number names
  body-keeps : (bodies : List ℕ) → 0 < length bodies → (b : Shape) → All (Keeps b) bodies → (q : StopState) →
      (k : ℤ) (values : List Datum) → HasShape values b → (c : Completion) → Below (body_at bodies k) values q c →
      Fits (below (body_at bodies k) b) c
  body-keeps bodies some b all q (pos k) values have c h =
      all (min k (length bodies - 1)) 0 (omega arith) values have q c h
  body-keeps bodies some b all q (negsuc k) values have c h = all 0 0 (omega arith) values have q c h

  hop-fits : (x : ℕ) (a : Shape) → All (Keeps a) (x ∷ []) → (values : List Datum) → HasShape values a →
      (q : StopState) (c : Completion) → OrStopped q (Below x values q) c →
      FitsAs (below x a).value (below x a).may_error true c
  hop-fits x a run values have q c h =
      let own = below x a in
      stopped-fits own.value own.may_error q (Below x values q)
      (λ d z. wider-fits own.value own.may_error own.may_error own.may_stop true (λ e. e) (λ e. refl) d
      (head-of (Keeps a) x [] run values have q d z)) c h

  case-fits : (nodes : List Node) (r : ℕ) (node : Node) (a : Shape) → IsTrue (match_at node a) →
      IsWhole nodes node → All (Keeps a) (run_by node) →
      All (Keeps (body_arguments node (own_sigs below node a))) (bodies_of node) →
      (values : List Datum) → AreArguments (Some node) a values → (q : StopState) (c : Completion) →
      Case nodes r node Below values q c →
      FitsAs (value node a) (errs nodes node a) (stops node a) c
  case-fits nodes r Input a match whole run bodies values have q c h =
      same-fits a false false (Value values) c have h
  case-fits nodes r (Just constants) a match whole run bodies values have q c h =
      same-fits (value (Just constants) a) false false (Value constants) c (have-own_kinds constants) h
  case-fits nodes r (JustError e) a match whole run bodies values have q c h =
      same-fits None true false (Error e) c refl h
  case-fits nodes r JustStopped a match whole run bodies values have q c h =
      same-fits None false true Stopped c refl h
  case-fits nodes r (Schedule on) a match whole run bodies values have q c h = turn-fits q c h
  case-fits nodes r (Delay turns) a match whole run bodies values have q c h = turn-fits q c h
  case-fits nodes r (ReadEnv query) a match whole run bodies values have q c h = asks-fits query r q c h
  case-fits nodes r (Then x job) a match whole run bodies values have q c h =
      let own = below x a in
      same-fits (value (Then x job) a) (errs nodes (Then x job) a) own.may_stop
      (then_of job h.0) c
      (then-fits job own.value own.may_error own.may_stop match h.0
      (head-of (Keeps a) x [] run values have q h.0 h.1)) h.2
  case-fits nodes r (UponError x job) a match whole run bodies values have q c h =
      let own = below x a in
      same-fits (value (UponError x job) a) (errs nodes (UponError x job) a) own.may_stop
      (upon_error_of job h.0) c
      (upon_error-fits job own.value own.may_error own.may_stop match h.0
      (head-of (Keeps a) x [] run values have q h.0 h.1)) h.2
  case-fits nodes r (UponStopped x job) a match whole run bodies values have q c h =
      let own = below x a in
      same-fits (value (UponStopped x job) a) (errs nodes (UponStopped x job) a) false
      (upon_stopped_of job h.0) c
      (upon_stopped-fits job own.value own.may_error own.may_stop match h.0
      (head-of (Keeps a) x [] run values have q h.0 h.1)) h.2
  case-fits nodes r (LetValue x pick xs) a match whole run bodies values have q c h =
      let own = below x a in
      let_value-fits below xs whole pick own.value own.may_error own.may_stop (λ n b d. Below n b q d)
      (body-keeps xs whole own.value bodies q) match h.0
      (head-of (Keeps a) x [] run values have q h.0 h.1) c h.2
  case-fits nodes r (LetError x pick xs) a match whole run bodies values have q c h =
      let own = below x a in
      let_error-fits below xs whole pick own.value own.may_error own.may_stop (λ n b d. Below n b q d)
      (body-keeps xs whole text_alone bodies q) match h.0
      (head-of (Keeps a) x [] run values have q h.0 h.1) c h.2
  case-fits nodes r (LetStopped x pick xs) a match whole run bodies values have q c h =
      let own = below x a in
      let_stopped-fits below xs whole pick own.value own.may_error own.may_stop (λ n b d. Below n b q d)
      (body-keeps xs whole (Some []) bodies q) match h.0
      (head-of (Keeps a) x [] run values have q h.0 h.1) c h.2
  case-fits nodes r (StartsOn on x) a match whole run bodies values have q c h =
      hop-fits x a run values have q c h
  case-fits nodes r (ContinuesOn x on) a match whole run bodies values have q c h =
      hop-fits x a run values have q c h
  case-fits nodes r (StoppedAsOptional x of) a match whole run bodies values have q c h =
      let own = below x a in
      same-fits (value (StoppedAsOptional x of) a) own.may_error false (as_optional h.0) c
      (optional-fits of own.value own.may_error own.may_stop whole match h.0
      (head-of (Keeps a) x [] run values have q h.0 h.1)) h.2
  case-fits nodes r (StoppedAsError x e) a match whole run bodies values have q c h =
      let own = below x a in
      same-fits own.value (errs nodes (StoppedAsError x e) a) false (as_error e h.0) c
      (error-fits e own.value own.may_error own.may_stop h.0
      (head-of (Keeps a) x [] run values have q h.0 h.1)) h.2
  case-fits nodes r (Bulk x job) a match whole run bodies values have q c h =
      let own = below x a in
      same-fits own.value (errs nodes (Bulk x job) a) own.may_stop (bulk_of job h.0) c
      (bulk-fits job own.value own.may_error own.may_stop match h.0
      (head-of (Keeps a) x [] run values have q h.0 h.1)) h.2
  case-fits nodes r (WhenAll xs) a match whole run bodies values have q c h =
      let child : StopState → ℕ → Completion → Type 0 = λ s i d. Below (slice_index xs i) values s d in
      stopped-fits (value (WhenAll xs) a) (errs nodes (WhenAll xs) a) q (AllOf child q (length xs))
      (all-fits below a xs child q (λ s i within d x. run i 0 within values have s d x)) c h
  case-fits nodes r (Part bulk part) a match whole run bodies values share q c h =
      part-fits nodes bulk whole values share c h
  case-fits nodes r (Unstoppable x) a match whole run bodies values have q c h =
      head-of (Keeps a) x [] run values have Never c h
  case-fits nodes r (Ahead x y) a match whole run bodies values have q c h =
      ahead-fits (below x a) (below y a) (Below x values q) (Below y values q)
      (λ d z. head-of (Keeps a) x (y ∷ []) run values have q d z)
      (λ d z. second-of (Keeps a) x y [] run values have q d z) c h

  -- which the signature of its case says
  pub case-keeps : (nodes : List Node) (r : ℕ) (node : Node) (a : Shape) → IsTrue (match_at node a) →
      IsWhole nodes node → All (Keeps a) (run_by node) →
      All (Keeps (body_arguments node (own_sigs below node a))) (bodies_of node) →
      (values : List Datum) → AreArguments (Some node) a values → (q : StopState) (c : Completion) →
      Case nodes r node Below values q c → Fits (sig_case nodes node below a) c
  case-keeps nodes r node a match whole run bodies values have q c h =
      matched-fits (match_at node a) (value node a) (errs nodes node a) (stops node a) c match (case-fits nodes r node a match whole run bodies values have q c h)
