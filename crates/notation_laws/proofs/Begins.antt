-- Where a sender begins, and how a node begins one.
use Rattle.std.proofs.Common.{◌≡◌, ℕ, Bool, true, false, List, [], ◌∷◌, length, Option, Some, None, Ok, codes, refl, ap, ◌∙◌, arith}
use Rattle.std.proofs.lemmas.Bool.{cond-false, cond-true}
use Rattle.plan_words.specs.declared.kind.TokenKind.TheVariants as kind
use Rattle.plan_reader.specs.declared.node_word.Leaf.TheVariants as leaf
use Rattle.plan_reader.specs.declared.node_word.NodeWord.{NodeWord}
use Rattle.plan_reader.specs.declared.node_word.NodeWord.TheVariants as node
use Rattle.plan_reader.specs.NodeWords.{node_named}
use Rattle.plan_notation.specs.declared.grammar.Setting.{Setting}
use Rattle.plan_notation.specs.declared.machine.Expect.{Expect}
use Rattle.plan_notation.specs.declared.machine.Expect.TheVariants as expect
use Rattle.plan_notation.specs.declared.wanted.Wanted.{Wanted}
use Rattle.plan_notation.specs.declared.wanted.Wanted.TheVariants as wanted
use Rattle.plan_notation.specs.Arguments.{is_kind, token_name}
use Rattle.plan_notation.specs.Assembled.{node_json}
use Rattle.plan_notation.specs.Frames.{DoneSender, FrameSeen, SpotSeen, new_frame}
use Rattle.plan_notation.specs.Grammar.{begins_sender, has_brackets, setting_of_name, wanted_by_node}
use Rattle.plan_notation.specs.Machine.{argued, begin, in_expect, named_sender, pushed, put, started, token_step}
use Rattle.plan_notation.specs.Settings.{Settings}
use Rattle.plan_notation.specs.States.{MachineState}
use Rattle.notation_laws.proofs.JobSteps.{argument_next, at_argument}
use Rattle.notation_laws.proofs.NamesRead.{is_ascii, name_as}
use Rattle.notation_laws.proofs.Places.{Place, SenderRead, Within}
use Rattle.notation_laws.proofs.Runs.{Leads, leads_from, leads_more, leads_one, st, steps_to, token}

-- a name that begins a sender
pub record BeginsAs (w : List ℕ) (word : NodeWord) : Type 0 where
  pub ascii : is_ascii w ≡ true
  pub no_setting : setting_of_name w ≡ None
  pub no_close : is_kind (token w 0) kind.Close ≡ false
  pub named : node_named false w ≡ Some word
  pub begins : begins_sender word ≡ true

-- such a name begins a node here
abbrev pub BeginsHere : Settings → Expect → DoneSender → List FrameSeen → List (List ℕ) → List SpotSeen → MachineState → Type 0
BeginsHere said e sender frames cs spots s =
    (w : List ℕ) (word : NodeWord) (at : ℕ) → BeginsAs w word
    → token_step (token w at) s ≡ begin word at None (st said e sender frames cs spots)

-- a sender may begin here, also an `input`, which at the head of a text may be a setting
pub record CanBegin (said : Settings) (frames : List FrameSeen) (s : MachineState) : Type 0 where
  pub e : Expect
  pub sender : DoneSender
  pub cs : List (List ℕ)
  pub spots : List SpotSeen
  pub begins : BeginsHere said e sender frames cs spots s
  pub input : Leads (codes "input" ∷ []) s (SenderRead (codes "{\"do\":\"input\"}") 1 said frames)

-- a node without brackets
pub bare_run : (said : Settings) (e : Expect) (sender : DoneSender) (frames : List FrameSeen) (cs : List (List ℕ)) (spots : List SpotSeen)
    (s : MachineState) → BeginsHere said e sender frames cs spots s
    → (w : List ℕ) (word : NodeWord) → BeginsAs w word → has_brackets word ≡ false
    → Leads (w ∷ []) s (SenderRead (node_json word [] []) 1 said frames)
bare_run said e sender frames cs spots s begins w word is bare =
    let from = st said e sender frames cs spots in
    let P = SenderRead (node_json word [] []) 1 said frames in
    leads_one w s P
    (steps_to w s (λ at. put (new_frame word at) from)
    (λ at. begins w word at is ∙ cond-false (has_brackets word) _ (Ok (put (new_frame word at) from)) bare)
    P
    (λ at. let to = put (new_frame word at) from in
    record { sender = to.sender; cs = cs; spots = to.spots; is = refl; text_is = refl; height_is = omega arith }))

-- a node with brackets
pub bracket_run : (said : Settings) (frames : List FrameSeen) (s : MachineState) → CanBegin said frames s
    → (w : List ℕ) (word : NodeWord) → BeginsAs w word → has_brackets word ≡ true
    → (height : ℕ) (words : List (List ℕ)) (Q : MachineState → Type 0)
    → ((m : MachineState) → Within (record { said = said; frames = frames; word = word; child = []; height = height }) expect.First [] m → Leads words m Q)
    → Leads (w ∷ codes "(" ∷ words) s Q
bracket_run said frames s c w word is brackets height words Q later =
    let p : Place = record { said = said; frames = frames; word = word; child = []; height = height } in
    let from = st said c.e c.sender frames c.cs c.spots in
    leads_more w (codes "(" ∷ words) s
    (λ m. (at : ℕ) × (m ≡ st said expect.Bracket c.sender (new_frame word at ∷ frames) c.cs c.spots)) Q
    (steps_to w s (λ at. st said expect.Bracket c.sender (new_frame word at ∷ frames) c.cs c.spots)
    (λ at. c.begins w word at is
    ∙ cond-true (has_brackets word) (Ok (in_expect expect.Bracket (pushed (new_frame word at) from))) _ brackets)
    (λ m. (at : ℕ) × (m ≡ st said expect.Bracket c.sender (new_frame word at ∷ frames) c.cs c.spots)) (λ at. (at, refl)))
    (λ m named. leads_from (codes "(" ∷ words) m (st said expect.Bracket c.sender (new_frame word named.0 ∷ frames) c.cs c.spots) Q named.1
    (leads_more (codes "(") words (st said expect.Bracket c.sender (new_frame word named.0 ∷ frames) c.cs c.spots) (Within p expect.First []) Q
    (steps_to (codes "(") (st said expect.Bracket c.sender (new_frame word named.0 ∷ frames) c.cs c.spots)
    (λ at. st said expect.First c.sender (new_frame word named.0 ∷ frames) c.cs c.spots) (λ at. refl) (Within p expect.First [])
    (λ at. record { sender = c.sender; at = named.0; height = 0; below = []; cs = c.cs; spots = c.spots; is = refl; least = omega arith }))
    later))

-- ---- as an argument, and at the head of a text

-- a name as it is read
sender_named : (w : List ℕ) (word : NodeWord) (at : ℕ) (s : MachineState) → is_ascii w ≡ true → node_named false w ≡ Some word
    → begins_sender word ≡ true → named_sender (node_named false (token_name w)) (token w at) s ≡ begin word at None s
sender_named w word at s ascii named begins =
    ap (λ (o : Option NodeWord). named_sender o (token w at) s) (ap (node_named false) (name_as w ascii) ∙ named)
    ∙ cond-true (begins_sender word) (begin word at None s) _ begins

argument_begins_as : (said : Settings) (sender : DoneSender) (f : FrameSeen) (fs : List FrameSeen) (cs : List (List ℕ)) (spots : List SpotSeen)
    (first : Bool) → wanted_by_node f.word (length f.arguments) ≡ Some wanted.Sender
    → (w : List ℕ) (word : NodeWord) (at : ℕ) → is_ascii w ≡ true → is_kind (token w 0) kind.Close ≡ false
    → node_named false w ≡ Some word → begins_sender word ≡ true
    → token_step (token w at) (st said (at_argument first) sender (f ∷ fs) cs spots)
    ≡ begin word at None (st said (at_argument first) sender (f ∷ fs) cs spots)
argument_begins_as said sender f fs cs spots first is w word at ascii no_close named begins =
    argument_next said sender f fs spots first cs w at no_close
    ∙ ap (λ (o : Option Wanted). argued o f (token w at) (st said (at_argument first) sender fs cs spots)) is
    ∙ sender_named w word at (st said (at_argument first) sender (f ∷ fs) cs spots) ascii named begins

pub argument_begins : (said : Settings) (sender : DoneSender) (f : FrameSeen) (fs : List FrameSeen) (cs : List (List ℕ)) (spots : List SpotSeen)
    (first : Bool) → wanted_by_node f.word (length f.arguments) ≡ Some wanted.Sender
    → CanBegin said (f ∷ fs) (st said (at_argument first) sender (f ∷ fs) cs spots)
argument_begins said sender f fs cs spots first is =
    let s = st said (at_argument first) sender (f ∷ fs) cs spots in
    let P = SenderRead (codes "{\"do\":\"input\"}") 1 said (f ∷ fs) in
    record {
      e = at_argument first;
      sender = sender;
      cs = cs;
      spots = spots;
      begins = λ w word at begins. argument_begins_as said sender f fs cs spots first is w word at begins.ascii begins.no_close begins.named begins.begins;
      input = leads_one (codes "input") s P
          (steps_to (codes "input") s (λ at. put (new_frame (node.Leaf leaf.Input) at) s)
          (λ at. argument_begins_as said sender f fs cs spots first is (codes "input") (node.Leaf leaf.Input) at refl refl refl refl) P
          (λ at. let to = put (new_frame (node.Leaf leaf.Input) at) s in
          record { sender = to.sender; cs = cs; spots = to.spots; is = refl; text_is = refl; height_is = omega arith }));
    }

pub start_begins : (said : Settings) (sender : DoneSender) (cs : List (List ℕ)) (spots : List SpotSeen)
    → CanBegin said [] (st said expect.Start sender [] cs spots)
start_begins said sender cs spots =
    let s = st said expect.Start sender [] cs spots in
    let P = SenderRead (codes "{\"do\":\"input\"}") 1 said [] in
    record {
      e = expect.Start;
      sender = sender;
      cs = cs;
      spots = spots;
      begins = λ w word at is.
          ap (λ (o : Option Setting). started o (token w at) s) (ap setting_of_name (name_as w is.ascii) ∙ is.no_setting)
          ∙ sender_named w word at s is.ascii is.named is.begins;
      input = leads_one (codes "input") s P
          (steps_to (codes "input") s (λ at. st said (expect.Input at) sender [] cs spots)
          (λ at. ap (λ (o : Option Setting). started o (token (codes "input") at) s) (ap setting_of_name (name_as (codes "input") refl))) P
          (λ at. let to = put (new_frame (node.Leaf leaf.Input) at) (st said (expect.Input at) sender [] cs spots) in
          record { sender = to.sender; cs = cs; spots = to.spots; is = refl; text_is = refl; height_is = omega arith }));
    }
