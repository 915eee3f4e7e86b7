-- How the arguments of a node are read, whatever they are.
use Rattle.std.proofs.Common.{◌≡◌, ℕ, ◌≤◌, Bool, true, false, List, [], ◌∷◌, ◌++◌, length, map, Option, Some, Ok, Result, cond, nat_lt, codes, append_assoc, append-nil, length-append, refl, sym, ap, subst, ◌∙◌, arith}
use Rattle.std.specs.List.{flat_map}
use Rattle.std.proofs.lemmas.Bool.{cond-false}
use Rattle.serde_json.specs.Written.{compact_text}
use Rattle.exec_job.specs.declared.job.Job.{Job}
use Rattle.plan_words.specs.declared.kind.TokenKind.TheVariants as kind
use Rattle.plan_notation.specs.declared.machine.Expect.TheVariants as expect
use Rattle.plan_notation.specs.declared.wanted.Refusal.{Refusal}
use Rattle.plan_notation.specs.declared.wanted.Wanted.{Wanted}
use Rattle.plan_notation.specs.Arguments.{argument_text, is_kind}
use Rattle.plan_notation.specs.Assembled.{job_json}
use Rattle.plan_notation.specs.Frames.{DoneSender, FrameSeen, SpotSeen, no_sender}
use Rattle.plan_notation.specs.Grammar.{fewest_of_job, wanted_by_node}
use Rattle.plan_notation.specs.Machine.{argued, job_ended, put, token_step, with_text}
use Rattle.plan_notation.specs.States.{MachineState}
use Rattle.plan_writer.specs.Jobs.{job_data}
use Rattle.notation_laws.proofs.JobRuns.{JobRead}
use Rattle.notation_laws.proofs.JobSteps.{argument_next, at_argument}
use Rattle.notation_laws.proofs.Places.{Argued, CanClose, Closed, Place, SenderRead, Within, closed, closes, frame, word_argued}
use Rattle.notation_laws.proofs.Runs.{Leads, behind, leads_more, leads_none, leads_on, leads_one, leads_same, leads_weaker, st, steps_to, token}

-- these tokens are one argument more, of this JSON, behind so many or more
abbrev pub IsArgument : Place → ℕ → List (List ℕ) → List ℕ → Type 0
IsArgument p least words text =
    (first : Bool) (arguments : List (List ℕ)) (m : MachineState) → least ≤ length arguments
    → Within p (at_argument first) arguments m
    → Leads words m (Argued p (arguments ++ text ∷ []))

-- a word, or a constant
abbrev pub IsPlain : Wanted → Type 0
IsPlain w = (f : FrameSeen) (t-word : List ℕ) (at : ℕ) (s : MachineState)
    → argued (Some w) f (token t-word at) s ≡ with_text (argument_text w (token t-word at)) f s

pub plain_next : (p : Place) (want : Wanted) (w text : List ℕ) → IsPlain want
    → is_kind (token w 0) kind.Close ≡ false → ((at : ℕ) → argument_text want (token w at) ≡ Ok text)
    → (first : Bool) (arguments : List (List ℕ)) (m : MachineState)
    → wanted_by_node p.word (length arguments) ≡ Some want
    → Within p (at_argument first) arguments m
    → Leads (w ∷ []) m (Argued p (arguments ++ text ∷ []))
plain_next p want w text plain no_close is first arguments m wants within =
    let f = frame p within.at arguments within.height within.below in
    let s = st p.said (at_argument first) within.sender p.frames within.cs within.spots in
    let args = arguments ++ text ∷ [] in
    let to = st p.said expect.Separator within.sender (frame p within.at args within.height within.below ∷ p.frames) within.cs within.spots in
    leads_one w m (Argued p args)
    (steps_to w m (λ at. to)
    (λ at. ap (token_step (token w at)) within.is
    ∙ argument_next p.said within.sender f p.frames within.spots first within.cs w at no_close
    ∙ ap (λ (o : Option Wanted). argued o f (token w at) s) wants
    ∙ plain f w at s
    ∙ ap (λ (r : Result (List ℕ) Refusal). with_text r f s) (is at))
    (Argued p args)
    (λ at. word_argued p args to
    (record {
      sender = within.sender;
      at = within.at;
      height = within.height;
      below = within.below;
      cs = within.cs;
      spots = within.spots;
      is = refl;
      least = within.least;
    })))

-- a job
pub job_argued : (p : Place) (job : Job) (sender : DoneSender) (at height : ℕ) (below : List ℕ) (spots : List SpotSeen) (m : MachineState)
    → height ≤ p.height → JobRead job p.said sender (frame p at [] height below ∷ p.frames) spots m
    → Argued p (compact_text (job_data job) ∷ []) m
job_argued p job sender at height below spots m least read =
    let text = job_json read.word read.cs in
    let f = frame p at (text ∷ []) height below in
    let s = st p.said (expect.Job read.word) sender (frame p at [] height below ∷ p.frames) read.cs spots in
    let next = st p.said expect.Argument sender (f ∷ p.frames) read.cs spots in
    let to = put f (st p.said (expect.Job read.word) sender p.frames read.cs spots) in
    let P : List ℕ → Type 0 = λ t. Argued p (t ∷ []) m in
    subst P read.text (record {
      comma = steps_to (codes ",") m (λ pos. next)
          (λ pos. ap (token_step (token (codes ",") pos)) read.is
          ∙ cond-false (nat_lt (length read.cs) (fewest_of_job read.word)) _ (job_ended text (frame p at [] height below ∷ p.frames) (token (codes ",") pos) s) read.enough)
          (Within p expect.Argument (text ∷ []))
          (λ pos. record { sender = sender; at = at; height = height; below = below; cs = read.cs; spots = spots; is = refl; least = least });
      close = λ can. steps_to (codes ")") m (λ pos. to)
          (λ pos. ap (token_step (token (codes ")") pos)) read.is
          ∙ cond-false (nat_lt (length read.cs) (fewest_of_job read.word)) _ (job_ended text (frame p at [] height below ∷ p.frames) (token (codes ")") pos) s) read.enough
          ∙ closes p (text ∷ []) (expect.Job read.word) sender at height below read.cs spots pos can least)
          (Closed p (text ∷ []))
          (λ pos. closed p (text ∷ []) (expect.Job read.word) sender at height below read.cs spots least);
    })

-- a sender
higher : (q : Bool) (x y most : ℕ) → x ≤ most → y ≤ most → cond q y x ≤ most
higher true x y most hx hy = hy
higher false x y most hx hy = hx

pub sender_argued : (p : Place) (arguments : List (List ℕ)) (at height : ℕ) (below : List ℕ) (text : List ℕ) (m : MachineState)
    → height ≤ p.height → SenderRead text p.height p.said (frame p at arguments height below ∷ p.frames) m
    → Argued p (arguments ++ text ∷ []) m
sender_argued p arguments at height below text m least read =
    let x = read.sender in
    let high = cond (nat_lt height x.height) x.height height in
    let under = below ++ x.number ∷ [] in
    let args = arguments ++ x.text ∷ [] in
    let f = frame p at args high under in
    let done = behind m p.said x (frame p at arguments height below ∷ p.frames) read.cs read.spots read.is in
    let next = st p.said expect.Argument no_sender (f ∷ p.frames) read.cs read.spots in
    let to = put f (st p.said expect.Behind no_sender p.frames read.cs read.spots) in
    let least_high = higher (nat_lt height x.height) height x.height p.height least read.height_is in
    let P : List ℕ → Type 0 = λ t. Argued p (arguments ++ t ∷ []) m in
    subst P read.text_is (record {
      comma = steps_to (codes ",") m (λ pos. next) (λ pos. done (token (codes ",") pos) refl)
          (Within p expect.Argument args)
          (λ pos. record { sender = no_sender; at = at; height = high; below = under; cs = read.cs; spots = read.spots; is = refl; least = least_high });
      close = λ can. steps_to (codes ")") m (λ pos. to)
          (λ pos. done (token (codes ")") pos) refl
          ∙ closes p args expect.Behind no_sender at high under read.cs read.spots pos can least_high)
          (Closed p args)
          (λ pos. closed p args expect.Behind no_sender at high under read.cs read.spots least_high);
    })

-- ---- arguments with commas between them

abbrev pub later_words : {X : Type 0} → (X → List (List ℕ)) → List X → List (List ℕ)
later_words words = flat_map (λ x. codes "," ∷ words x)

abbrev pub items_words : {X : Type 0} → (X → List (List ℕ)) → List X → List (List ℕ)
items_words words [] = []
items_words words (x ∷ xs) = words x ++ later_words words xs

module _ {X : Type 0} (p : Place) (least : ℕ) (words : X → List (List ℕ)) (text : X → List ℕ) where
  abbrev pub AreArguments : List X → Type 0
  AreArguments [] = Unit {0}
  AreArguments (x ∷ xs) = IsArgument p least (words x) (text x) × AreArguments xs

  pub later_run : (xs : List X) → AreArguments xs → (arguments : List (List ℕ)) (m : MachineState)
      → least ≤ length arguments → Argued p arguments m
      → Leads (later_words words xs) m (Argued p (arguments ++ map text xs))
  later_run [] are arguments m some here =
      leads_none m (Argued p (arguments ++ []))
      (subst (λ (l : List (List ℕ)). Argued p l m) (sym (append-nil arguments)) here)
  later_run (x ∷ xs) are arguments m some here =
      let Q = Argued p (arguments ++ text x ∷ map text xs) in
      let one = arguments ++ text x ∷ [] in
      leads_more (codes ",") (words x ++ later_words words xs) m (Within p expect.Argument arguments) Q here.comma
      (λ m1 within. leads_on (words x) (later_words words xs) m1 (Argued p one) Q (are.0 false arguments m1 some within)
      (λ m2 next. leads_weaker (later_words words xs) m2 (Argued p (one ++ map text xs)) Q
      (λ m3 last. subst (λ (l : List (List ℕ)). Argued p l m3) (append_assoc arguments (text x ∷ []) (map text xs)) last)
      (later_run xs are.1 one m2 (omega (arith, some, length-append arguments (text x ∷ []))) next)))

  -- and the last bracket
  pub closing_run : (xs : List X) → AreArguments xs → (arguments : List (List ℕ)) (m : MachineState)
      → least ≤ length arguments → CanClose p (arguments ++ map text xs) → Argued p arguments m
      → Leads (later_words words xs ++ codes ")" ∷ []) m (Closed p (arguments ++ map text xs))
  closing_run xs are arguments m some can here =
      leads_on (later_words words xs) (codes ")" ∷ []) m (Argued p (arguments ++ map text xs)) (Closed p (arguments ++ map text xs))
      (later_run xs are arguments m some here)
      (λ m1 last. leads_one (codes ")") m1 (Closed p (arguments ++ map text xs)) (last.close can))

  -- from the first on
  pub all_run : (xs : List X) → AreArguments xs → (m : MachineState) → least ≤ 0 → CanClose p (map text xs)
      → Within p expect.First [] m → Leads (items_words words xs ++ codes ")" ∷ []) m (Closed p (map text xs))
  all_run [] are m none can within =
      let to = put (frame p within.at [] within.height within.below) (st p.said expect.First within.sender p.frames within.cs within.spots) in
      leads_one (codes ")") m (Closed p [])
      (steps_to (codes ")") m (λ pos. to)
      (λ pos. ap (token_step (token (codes ")") pos)) within.is
      ∙ closes p [] expect.First within.sender within.at within.height within.below within.cs within.spots pos can within.least)
      (Closed p [])
      (λ pos. closed p [] expect.First within.sender within.at within.height within.below within.cs within.spots within.least))
  all_run (x ∷ xs) are m none can within =
      let Q = Closed p (text x ∷ map text xs) in
      leads_same ((words x ++ later_words words xs) ++ codes ")" ∷ []) (words x ++ (later_words words xs ++ codes ")" ∷ [])) m Q
      (append_assoc (words x) (later_words words xs) (codes ")" ∷ []))
      (leads_on (words x) (later_words words xs ++ codes ")" ∷ []) m (Argued p (text x ∷ [])) Q (are.0 true [] m none within)
      (λ m1 next. closing_run xs are.1 (text x ∷ []) m1 (omega (arith, none)) can next))
