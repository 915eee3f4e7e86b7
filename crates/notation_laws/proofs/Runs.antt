-- How tokens lead from one state to another, wherever they stand.
use Rattle.std.proofs.Common.{◌≡◌, ℕ, false, List, [], ◌∷◌, ◌++◌, Ok, Err, refl, sym, ap, subst, ◌∙◌}
use Rattle.std.proofs.lemmas.Bool.{cond-false}
use Rattle.plan_words.specs.declared.kind.TokenKind.TheVariants as kind
use Rattle.plan_words.specs.Lexemes.{Lexeme}
use Rattle.plan_words.specs.Seen.{texts}
use Rattle.plan_notation.specs.declared.machine.Expect.{Expect}
use Rattle.plan_notation.specs.declared.machine.Expect.TheVariants as expect
use Rattle.plan_notation.specs.Arguments.{is_kind}
use Rattle.plan_notation.specs.Frames.{DoneSender, FrameSeen, SpotSeen}
use Rattle.plan_notation.specs.Machine.{Outcome, after_sender, token_step, step_from, then_on}
use Rattle.plan_notation.specs.Reading.{last_begun, run_tokens}
use Rattle.plan_notation.specs.Settings.{Settings}
use Rattle.plan_notation.specs.States.{MachineState}

-- a token, and a state by its parts
abbrev pub token : List ℕ → ℕ → Lexeme
token text at = record { text = text; at = at }

abbrev pub st : Settings → Expect → DoneSender → List FrameSeen → List (List ℕ) → List SpotSeen → MachineState
st said e sender frames constants spots = record {
  said = said;
  expect = e;
  sender = sender;
  frames = frames;
  constants = constants;
  spots = spots;
}

-- tokens of these bytes lead from a state to one of which this holds
pub record Reached (ts : List Lexeme) (s : MachineState) (P : MachineState → Type 0) : Type 0 where
  pub new : MachineState
  pub runs : run_tokens ts s ≡ Ok new
  pub holds : P new

pub record Leads (words : List (List ℕ)) (s : MachineState) (P : MachineState → Type 0) : Type 0 where
  pub go : (ts : List Lexeme) → texts ts ≡ words → Reached ts s P

-- one token
pub record Steps (word : List ℕ) (s : MachineState) (P : MachineState → Type 0) : Type 0 where
  pub to : (at : ℕ) → MachineState
  pub steps : (at : ℕ) → token_step (token word at) s ≡ Ok (to at)
  pub holds : (at : ℕ) → P (to at)

then_ok : (o : Outcome) (m : MachineState) (next : MachineState → Outcome) → o ≡ Ok m → then_on next o ≡ next m
then_ok o m next e = ap (then_on next) e

-- tokens in two parts
record Parts (xs ys : List (List ℕ)) (ts : List Lexeme) : Type 0 where
  before : List Lexeme
  behind : List Lexeme
  whole : ts ≡ before ++ behind
  first : texts before ≡ xs
  later : texts behind ≡ ys

parts : (xs ys : List (List ℕ)) (ts : List Lexeme) → texts ts ≡ xs ++ ys → Parts xs ys ts
parts [] ys ts e = record { before = []; behind = ts; whole = refl; first = refl; later = e }
parts (x ∷ xs) ys [] e = absurd (let no : [] ≡ x ∷ (xs ++ ys) = e in cc)
parts (x ∷ xs) ys (t ∷ ts) e =
    let head : t.text ≡ x = cc in
    let tail : texts ts ≡ xs ++ ys = cc in
    let more = parts xs ys ts tail in
    record {
      before = t ∷ more.before;
      behind = more.behind;
      whole = ap (λ (us : List Lexeme). t ∷ us) more.whole;
      first = let same = more.first in cc;
      later = more.later;
    }

then_then : (o : Outcome) (ts us : List Lexeme) → ((m : MachineState) → run_tokens (ts ++ us) m ≡ then_on (run_tokens us) (run_tokens ts m))
    → then_on (run_tokens (ts ++ us)) o ≡ then_on (run_tokens us) (then_on (run_tokens ts) o)
then_then (Ok m) ts us e = e m
then_then (Err refusal) ts us e = refl

run_append : (ts us : List Lexeme) (s : MachineState) → run_tokens (ts ++ us) s ≡ then_on (run_tokens us) (run_tokens ts s)
run_append [] us s = refl
run_append (t ∷ ts) us s = then_then (token_step t s) ts us (λ m. run_append ts us m)

pub leads_none : (s : MachineState) (P : MachineState → Type 0) → P s → Leads [] s P
leads_none s P p = record { go = λ ts e. record { new = s; runs = ap (λ (us : List Lexeme). run_tokens us s) (no_tokens ts e); holds = p } }
  where
    no_tokens : (ts : List Lexeme) → texts ts ≡ [] → ts ≡ []
    no_tokens [] e = refl
    no_tokens (t ∷ ts) e = absurd (let no : t.text ∷ texts ts ≡ [] = e in cc)

pub leads_on : (xs ys : List (List ℕ)) (s : MachineState) (P Q : MachineState → Type 0)
    → Leads xs s P → ((m : MachineState) → P m → Leads ys m Q) → Leads (xs ++ ys) s Q
leads_on xs ys s P Q first later = record { go = λ ts e. go ts (parts xs ys ts e) }
  where
    go : (ts : List Lexeme) → Parts xs ys ts → Reached ts s Q
    go ts p =
        let one = first.go p.before p.first in
        let two = (later one.new one.holds).go p.behind p.later in
        record {
          new = two.new;
          runs = ap (λ (us : List Lexeme). run_tokens us s) p.whole ∙ run_append p.before p.behind s
              ∙ then_ok (run_tokens p.before s) one.new (run_tokens p.behind) one.runs ∙ two.runs;
          holds = two.holds;
        }

pub leads_more : (word : List ℕ) (words : List (List ℕ)) (s : MachineState) (P Q : MachineState → Type 0)
    → Steps word s P → ((m : MachineState) → P m → Leads words m Q) → Leads (word ∷ words) s Q
leads_more word words s P Q first later = record { go = λ ts e. go ts e }
  where
    go : (ts : List Lexeme) → texts ts ≡ word ∷ words → Reached ts s Q
    go [] e = absurd (let no : [] ≡ word ∷ words = e in cc)
    go (t ∷ ts) e =
        let head : t.text ≡ word = cc in
        let tail : texts ts ≡ words = cc in
        let stepped : token_step t s ≡ Ok (first.to t.at) =
        ap (λ (w : List ℕ). token_step (token w t.at) s) head ∙ first.steps t.at in
        let rest = (later (first.to t.at) (first.holds t.at)).go ts tail in
        record {
          new = rest.new;
          runs = then_ok (token_step t s) (first.to t.at) (run_tokens ts) stepped ∙ rest.runs;
          holds = rest.holds;
        }

pub leads_one : (word : List ℕ) (s : MachineState) (P : MachineState → Type 0) → Steps word s P → Leads (word ∷ []) s P
leads_one word s P first = leads_more word [] s P P first (λ m p. leads_none m P p)

pub leads_weaker : (words : List (List ℕ)) (s : MachineState) (P Q : MachineState → Type 0) → ((m : MachineState) → P m → Q m) → Leads words s P → Leads words s Q
leads_weaker words s P Q weaker leads = record {
  go = λ ts e. let at = leads.go ts e in record { new = at.new; runs = at.runs; holds = weaker at.new at.holds };
}

pub leads_from : (words : List (List ℕ)) (s t : MachineState) (P : MachineState → Type 0) → s ≡ t → Leads words t P → Leads words s P
leads_from words s t P e leads = subst (λ u. Leads words u P) (sym e) leads

pub leads_same : (words others : List (List ℕ)) (s : MachineState) (P : MachineState → Type 0) → words ≡ others
    → Leads others s P → Leads words s P
leads_same words others s P e leads = subst (λ (ws : List (List ℕ)). Leads ws s P) (sym e) leads

-- one token, to one state whatever its place
pub steps_to : (word : List ℕ) (s : MachineState) (to : ℕ → MachineState) → ((at : ℕ) → token_step (token word at) s ≡ Ok (to at))
    → (P : MachineState → Type 0) → ((at : ℕ) → P (to at)) → Steps word s P
steps_to word s to steps P holds = record { to = to; steps = steps; holds = holds }

-- ---- behind a sender that was read: an `input` at the head of a text is no node before the next token

-- the next token, which is no word, finds the sender done
ok_or : MachineState → Outcome → MachineState
ok_or d (Ok s) = s
ok_or d (Err refusal) = d

same_ok : (s d : MachineState) → ◌≡◌ {A = Outcome} (Ok s) (Ok d) → s ≡ d
unfolding ok_or
same_ok s d e = ap (ok_or s) e

pub behind : (new : MachineState) (said : Settings) (sender : DoneSender) (frames : List FrameSeen) (cs : List (List ℕ)) (spots : List SpotSeen)
    → last_begun new.expect new ≡ Ok (st said expect.Behind sender frames cs spots)
    → (t : Lexeme) → is_kind t kind.Word ≡ false
    → token_step t new ≡ after_sender t (st said expect.Behind sender frames cs spots)
behind new said sender frames cs spots begun t word = go new.expect new refl begun
  where
    done : (s : MachineState) → s ≡ st said expect.Behind sender frames cs spots → token_step t s ≡ after_sender t (st said expect.Behind sender frames cs spots)
    done s e = ap (token_step t) e

    go : (e : Expect) (s : MachineState) → s.expect ≡ e → last_begun e s ≡ Ok (st said expect.Behind sender frames cs spots)
        → token_step t s ≡ after_sender t (st said expect.Behind sender frames cs spots)
    go (expect.Input at) s is h =
        ap (λ (e : Expect). step_from e t s) is
        ∙ cond-false (is_kind t kind.Word) _ _ word
        ∙ ap (then_on (after_sender t)) h
    go expect.Start s is h = done s (same_ok s (st said expect.Behind sender frames cs spots) h)
    go (expect.Setting which at) s is h = done s (same_ok s (st said expect.Behind sender frames cs spots) h)
    go expect.Adaptor s is h = done s (same_ok s (st said expect.Behind sender frames cs spots) h)
    go expect.Bracket s is h = done s (same_ok s (st said expect.Behind sender frames cs spots) h)
    go expect.First s is h = done s (same_ok s (st said expect.Behind sender frames cs spots) h)
    go expect.Argument s is h = done s (same_ok s (st said expect.Behind sender frames cs spots) h)
    go (expect.Job job) s is h = done s (same_ok s (st said expect.Behind sender frames cs spots) h)
    go expect.Separator s is h = done s (same_ok s (st said expect.Behind sender frames cs spots) h)
    go expect.Behind s is h = done s (same_ok s (st said expect.Behind sender frames cs spots) h)

-- so what the tokens lead to is the same from there
pub leads_behind : (new : MachineState) (said : Settings) (sender : DoneSender) (frames : List FrameSeen) (cs : List (List ℕ)) (spots : List SpotSeen)
    → last_begun new.expect new ≡ Ok (st said expect.Behind sender frames cs spots)
    → (word : List ℕ) (words : List (List ℕ)) → is_kind (token word 0) kind.Word ≡ false → (P : MachineState → Type 0)
    → Leads (word ∷ words) (st said expect.Behind sender frames cs spots) P → Leads (word ∷ words) new P
leads_behind new said sender frames cs spots begun word words no_word P leads = record { go = λ ts e. go ts e }
  where
    go : (ts : List Lexeme) → texts ts ≡ word ∷ words → Reached ts new P
    go [] e = absurd (let no : [] ≡ word ∷ words = e in cc)
    go (t ∷ ts) e =
        let head : t.text ≡ word = cc in
        let other : is_kind t kind.Word ≡ false = ap (λ (w : List ℕ). is_kind (token w 0) kind.Word) head ∙ no_word in
        let there = leads.go (t ∷ ts) e in
        record {
          new = there.new;
          runs = ap (then_on (run_tokens ts)) (behind new said sender frames cs spots begun t other) ∙ there.runs;
          holds = there.holds;
        }
