-- Senders that are read wherever one may begin, and nodes over one.
use Rattle.std.proofs.Common.{◌≡◌, ℕ, ◌+◌, ◌<◌, ◌≤◌, Bool, true, false, List, [], ◌∷◌, ◌++◌, length, Option, Some, Ok, nat_le, codes, refl, sym, ap, subst, ◌∙◌, arith}
use Rattle.std.proofs.lemmas.Bool.{cond-false, cond-true, lt-leb}
use Rattle.serde_json.specs.Written.{compact_text}
use Rattle.exec_job.specs.declared.job.Job.{Job}
use Rattle.plan_shape.specs.declared.limits.TheConstants.{MOST_DEPTH}
use Rattle.plan_reader.specs.declared.node_word.NodeWord.{NodeWord}
use Rattle.plan_reader.specs.NodeWords.{node_named}
use Rattle.plan_writer.specs.Jobs.{job_data}
use Rattle.plan_notation.specs.declared.machine.Expect.TheVariants as expect
use Rattle.plan_notation.specs.declared.wanted.Wanted.TheVariants as wanted
use Rattle.plan_notation.specs.Assembled.{node_json}
use Rattle.plan_notation.specs.Frames.{DoneSender, FrameSeen, SpotSeen, frame_over, new_frame, no_sender}
use Rattle.plan_notation.specs.Grammar.{begins_sender, has_brackets, wanted_by_node}
use Rattle.plan_notation.specs.Machine.{allows, begin, finish, named_adaptor, put, token_step}
use Rattle.plan_notation.specs.Settings.{Settings}
use Rattle.plan_notation.specs.States.{MachineState}
use Rattle.plan_notation.specs.Tokens.{job_words}
use Rattle.notation_laws.proofs.Arguments.{job_argued, sender_argued}
use Rattle.notation_laws.proofs.Begins.{BeginsAs, CanBegin, argument_begins, bracket_run}
use Rattle.notation_laws.proofs.JobRun.{HasTokens, job_run, word_of}
use Rattle.notation_laws.proofs.JobRuns.{JobRead}
use Rattle.notation_laws.proofs.JobSteps.{at_argument, job_wanted}
use Rattle.notation_laws.proofs.NamesRead.{is_ascii, name_as}
use Rattle.notation_laws.proofs.Places.{Argued, Closed, Place, SenderRead, Within, frame}
use Rattle.notation_laws.proofs.Runs.{Leads, leads_behind, leads_from, leads_more, leads_on, leads_one, leads_weaker, st, steps_to, token}

-- these tokens are a sender of this JSON, of at most this height
abbrev pub IsRead : List (List ℕ) → List ℕ → ℕ → Type 0
IsRead words text height =
    (said : Settings) (frames : List FrameSeen) (s : MachineState) → CanBegin said frames s
    → Leads words s (SenderRead text height said frames)

abbrev pub place : Settings → List FrameSeen → NodeWord → List ℕ → ℕ → Place
place said frames word child height = record { said = said; frames = frames; word = word; child = child; height = height }

lower : (text : List ℕ) (a b : ℕ) (said : Settings) (frames : List FrameSeen) (m : MachineState) → a ≤ b
    → SenderRead text a said frames m → SenderRead text b said frames m
lower text a b said frames m less r = record {
  sender = r.sender;
  cs = r.cs;
  spots = r.spots;
  is = r.is;
  text_is = r.text_is;
  height_is = let at = r.height_is in omega (arith, at, less);
}

pub read_lower : (words : List (List ℕ)) (text : List ℕ) (a b : ℕ) → a ≤ b → IsRead words text a → IsRead words text b
read_lower words text a b less read said frames s c =
    leads_weaker words s (SenderRead text a said frames) (SenderRead text b said frames)
    (λ m r. lower text a b said frames m less r) (read said frames s c)

pub read_as : (words : List (List ℕ)) (text other : List ℕ) (height : ℕ) → text ≡ other → IsRead words other height → IsRead words text height
read_as words text other height e read = subst (λ (t : List ℕ). IsRead words t height) (sym e) read

-- ---- a sender, or a job, as an argument

pub sender_next : (p : Place) (words : List (List ℕ)) (text : List ℕ) → IsRead words text p.height
    → (first : Bool) (arguments : List (List ℕ)) (m : MachineState) → wanted_by_node p.word (length arguments) ≡ Some wanted.Sender
    → Within p (at_argument first) arguments m → Leads words m (Argued p (arguments ++ text ∷ []))
sender_next p words text read first arguments m wants w =
    let f = frame p w.at arguments w.height w.below in
    let s = st p.said (at_argument first) w.sender (f ∷ p.frames) w.cs w.spots in
    let P = Argued p (arguments ++ text ∷ []) in
    leads_from words m s P w.is
    (leads_weaker words s (SenderRead text p.height p.said (f ∷ p.frames)) P
    (λ m1 r. sender_argued p arguments w.at w.height w.below text m1 w.least r)
    (read p.said (f ∷ p.frames) s (argument_begins p.said w.sender f p.frames w.cs w.spots first wants)))

pub job_next : (p : Place) (elements : Bool) (job : Job) → HasTokens job → allows (job_wanted elements) (word_of job) ≡ true
    → wanted_by_node p.word 0 ≡ Some (job_wanted elements) → (m : MachineState) → Within p expect.First [] m
    → Leads (job_words job) m (Argued p (compact_text (job_data job) ∷ []))
job_next p elements job has allowed wants m w =
    let f = frame p w.at [] w.height w.below in
    let s = st p.said expect.First w.sender (f ∷ p.frames) w.cs w.spots in
    let P = Argued p (compact_text (job_data job) ∷ []) in
    leads_from (job_words job) m s P w.is
    (leads_weaker (job_words job) s (JobRead job p.said w.sender (f ∷ p.frames) w.spots) P
    (λ m1 r. job_argued p job w.sender w.at w.height w.below w.spots m1 w.least r)
    (job_run p.said w.sender f p.frames w.spots elements true w.cs wants job has allowed))

-- ---- a node that begins a sender

-- what stands in its brackets, and the last of these
abbrev pub IsBody : NodeWord → List ℕ → ℕ → List (List ℕ) → List (List ℕ) → Type 0
IsBody word child height words arguments =
    (said : Settings) (frames : List FrameSeen) (m : MachineState)
    → Within (place said frames word child height) expect.First [] m
    → Leads (words ++ codes ")" ∷ []) m (Closed (place said frames word child height) arguments)

pub begun_run : (w : List ℕ) (word : NodeWord) → BeginsAs w word → has_brackets word ≡ true
    → (height : ℕ) (words arguments : List (List ℕ)) → IsBody word [] height words arguments
    → IsRead (w ∷ codes "(" ∷ (words ++ codes ")" ∷ [])) (node_json word [] arguments) (height + 1)
begun_run w word is brackets height words arguments body said frames s c =
    bracket_run said frames s c w word is brackets height (words ++ codes ")" ∷ [])
    (SenderRead (node_json word [] arguments) (height + 1) said frames) (body said frames)

-- ---- a node over a sender

pub record AdaptsAs (w : List ℕ) (word : NodeWord) : Type 0 where
  pub ascii : is_ascii w ≡ true
  pub named : node_named false w ≡ Some word
  pub begins : begins_sender word ≡ false

adaptor_named : (said : Settings) (sender : DoneSender) (frames : List FrameSeen) (cs : List (List ℕ)) (spots : List SpotSeen)
    (w : List ℕ) (word : NodeWord) (at : ℕ) → AdaptsAs w word
    → token_step (token w at) (st said expect.Adaptor sender frames cs spots)
    ≡ begin word at (Some sender) (st said expect.Adaptor no_sender frames cs spots)
adaptor_named said sender frames cs spots w word at is =
    let s = st said expect.Adaptor sender frames cs spots in
    ap (λ (o : Option NodeWord). named_adaptor o (token w at) s) (ap (node_named false) (name_as w is.ascii) ∙ is.named)
    ∙ cond-false (begins_sender word) _ (begin word at (Some sender) (st said expect.Adaptor no_sender frames cs spots)) is.begins

-- the bar and the name
adaptor_run : (said : Settings) (frames : List FrameSeen) (text : List ℕ) (height : ℕ) (m : MachineState)
    (r : SenderRead text height said frames m) (w : List ℕ) (words : List (List ℕ)) (Q : MachineState → Type 0)
    → Leads (w ∷ words) (st said expect.Adaptor r.sender frames r.cs r.spots) Q
    → Leads (codes "|" ∷ w ∷ words) m Q
adaptor_run said frames text height m r w words Q later =
    let behind = st said expect.Behind r.sender frames r.cs r.spots in
    let adaptor = st said expect.Adaptor r.sender frames r.cs r.spots in
    leads_behind m said r.sender frames r.cs r.spots r.is (codes "|") (w ∷ words) refl Q
    (leads_more (codes "|") (w ∷ words) behind (λ m1. m1 ≡ adaptor) Q
    (steps_to (codes "|") behind (λ at. adaptor) (λ at. refl) (λ m1. m1 ≡ adaptor) (λ at. refl))
    (λ m1 e. leads_from (w ∷ words) m1 adaptor Q e later))

-- with arguments in brackets
opened_run : (said : Settings) (frames : List FrameSeen) (sender : DoneSender) (cs : List (List ℕ)) (spots : List SpotSeen)
    (height : ℕ) → sender.height ≤ height → (w : List ℕ) (word : NodeWord) → AdaptsAs w word → has_brackets word ≡ true
    → (words : List (List ℕ)) (Q : MachineState → Type 0)
    → ((m : MachineState) → Within (place said frames word sender.text height) expect.First [] m → Leads words m Q)
    → Leads (w ∷ codes "(" ∷ words) (st said expect.Adaptor sender frames cs spots) Q
opened_run said frames sender cs spots height least w word is brackets words Q later =
    let p = place said frames word sender.text height in
    let s = st said expect.Adaptor sender frames cs spots in
    let over = λ (at : ℕ). frame_over sender (new_frame word at) in
    leads_more w (codes "(" ∷ words) s (λ m. (at : ℕ) × (m ≡ st said expect.Bracket no_sender (over at ∷ frames) cs spots)) Q
    (steps_to w s (λ at. st said expect.Bracket no_sender (over at ∷ frames) cs spots)
    (λ at. adaptor_named said sender frames cs spots w word at is
    ∙ cond-true (has_brackets word) (Ok (st said expect.Bracket no_sender (over at ∷ frames) cs spots)) _ brackets)
    (λ m. (at : ℕ) × (m ≡ st said expect.Bracket no_sender (over at ∷ frames) cs spots)) (λ at. (at, refl)))
    (λ m named. leads_from (codes "(" ∷ words) m (st said expect.Bracket no_sender (over named.0 ∷ frames) cs spots) Q named.1
    (leads_more (codes "(") words (st said expect.Bracket no_sender (over named.0 ∷ frames) cs spots) (Within p expect.First []) Q
    (steps_to (codes "(") (st said expect.Bracket no_sender (over named.0 ∷ frames) cs spots)
    (λ at. st said expect.First no_sender (over named.0 ∷ frames) cs spots) (λ at. refl) (Within p expect.First [])
    (λ at. record { sender = no_sender; at = named.0; height = sender.height; below = sender.number ∷ []; cs = cs; spots = spots; is = refl; least = least }))
    later))

pub over_run : (child_words : List (List ℕ)) (child : List ℕ) (height : ℕ) → IsRead child_words child height
    → (w : List ℕ) (word : NodeWord) → AdaptsAs w word → has_brackets word ≡ true
    → (words arguments : List (List ℕ)) → ((c : List ℕ) → IsBody word c height words arguments)
    → IsRead (child_words ++ codes "|" ∷ w ∷ codes "(" ∷ (words ++ codes ")" ∷ [])) (node_json word child arguments) (height + 1)
over_run child_words child height read w word is brackets words arguments body said frames s c =
    let Q = SenderRead (node_json word child arguments) (height + 1) said frames in
    let rest = words ++ codes ")" ∷ [] in
    leads_on child_words (codes "|" ∷ w ∷ codes "(" ∷ rest) s (SenderRead child height said frames) Q
    (read said frames s c)
    (λ m r. adaptor_run said frames child height m r w (codes "(" ∷ rest) Q
    (opened_run said frames r.sender r.cs r.spots height r.height_is w word is brackets rest Q
    (λ m1 within. leads_weaker rest m1 (Closed (place said frames word r.sender.text height) arguments) Q
    (λ m2 last. subst (λ (t : List ℕ). SenderRead (node_json word t arguments) (height + 1) said frames m2) r.text_is last)
    (body r.sender.text said frames m1 within))))

-- without brackets
pub bare_over_run : (child_words : List (List ℕ)) (child : List ℕ) (height : ℕ) → height < MOST_DEPTH → IsRead child_words child height
    → (w : List ℕ) (word : NodeWord) → AdaptsAs w word → has_brackets word ≡ false
    → IsRead (child_words ++ codes "|" ∷ w ∷ []) (node_json word child []) (height + 1)
bare_over_run child_words child height shallow read w word is bare said frames s c =
    let Q = SenderRead (node_json word child []) (height + 1) said frames in
    leads_on child_words (codes "|" ∷ w ∷ []) s (SenderRead child height said frames) Q
    (read said frames s c)
    (λ m r. adaptor_run said frames child height m r w [] Q
    (leads_one w (st said expect.Adaptor r.sender frames r.cs r.spots) Q
    (let from = st said expect.Adaptor no_sender frames r.cs r.spots in
    let f = λ (at : ℕ). frame_over r.sender (new_frame word at) in
    let low = r.height_is in
    steps_to w (st said expect.Adaptor r.sender frames r.cs r.spots) (λ at. put (f at) from)
    (λ at. adaptor_named said r.sender frames r.cs r.spots w word at is
    ∙ cond-false (has_brackets word) _ (finish (f at) from) bare
    ∙ cond-false (nat_le MOST_DEPTH r.sender.height) _ (Ok (put (f at) from)) (lt-leb MOST_DEPTH r.sender.height (omega (arith, low, shallow))))
    Q
    (λ at. let to = put (f at) from in
    record {
      sender = to.sender;
      cs = r.cs;
      spots = to.spots;
      is = refl;
      text_is = ap (λ (t : List ℕ). node_json word t []) r.text_is;
      height_is = omega (arith, low);
    }))))
