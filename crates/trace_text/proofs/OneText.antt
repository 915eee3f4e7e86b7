-- A text that is read as a trace, or as a schedule, is the text of that.
use Rattle.std.proofs.Common.{◌≡◌, ℕ, zero, suc, ◌+◌, Bool, ◌&&◌, eqb, List, [], ◌∷◌, ◌++◌, length, Option, Some, None, Result, Ok, Err, refl, sym, ap, subst, ◌∙◌, append_assoc, length-append, arith}
use Rattle.std.specs.Option.{option_map_or}
use Rattle.std.specs.Str.{bytes_eq}
use Rattle.std.proofs.lemmas.Bool.{and_parts, cond-true, cond-false, eqb-true}
use Rattle.std.proofs.lemmas.List.{append-nil, flat_map_more, nil_from_length}
use Rattle.std.proofs.lemmas.Slice.Eq.{bytes_eq-Decides}
use Rattle.std.proofs.lemmas.Option.{same_Some}
use Rattle.common_lemmas.proofs.Bool.{either}
use Rattle.node_tree.specs.declared.node.TreeNode.{TreeNode}
use Rattle.common_lemmas.proofs.Options.{known}
use Rattle.trace_text.specs.declared.header.Header.{Header}
use Rattle.trace_text.specs.declared.limits.TheConstants.{ENTRIES}
use Rattle.trace_text.specs.Reading.{Lines, Nodes, Opened, byte_before, lines_in, said, entry_of, choice_of, node_of, nodes_of, header_text, header_of, is_within, has_parent, first_fault, setup_of, tree_of, opening_of, entries_of, with_entries, whole_of, trace_with, schedule_with, trace_in, schedule_in}
use Rattle.trace_text.specs.Setups.{Setup}
use Rattle.trace_text.specs.Texts.{line_feed, lines, node_text, entry_text, choice_text, numbers_text, setup_text, trace_text, schedule_text}
use Rattle.trace_text.specs.Values.{TraceValue, ScheduleValue, has_entry, has_choice}
use Rattle.trace_text.specs.Words.{entry_in, choice_in, node_in, header_in}
use Rattle.trace_text.proofs.ReadLaws.{none-some}

-- these lines, each with its line feed
abbrev joined : List (List ℕ) → List ℕ
joined ls = lines (λ (line : List ℕ). line) ls

abbrev whole_text : Lines → List ℕ
whole_text l = joined l.ended ++ l.rest

byte_before-whole : (b : ℕ) (ended : List (List ℕ)) (rest : List ℕ) → whole_text (byte_before b ended rest) ≡ b ∷ (joined ended ++ rest)
byte_before-whole b [] rest = refl
byte_before-whole b (line ∷ ended) rest = refl

-- a text is its lines and what stands behind them
lines_in-whole : (bytes : List ℕ) → whole_text (lines_in bytes) ≡ bytes
unfolding lines_in
lines_in-whole [] = refl
lines_in-whole (b ∷ bs) =
    let ends_here : Lines = record { ended = [] ∷ (lines_in bs).ended; rest = (lines_in bs).rest } in
    let goes_on : Lines = byte_before b (lines_in bs).ended (lines_in bs).rest in
    either (eqb b line_feed)
    (λ ends.
    ap whole_text (cond-true (eqb b line_feed) ends_here goes_on ends)
    ∙ ap (λ (l : List ℕ). line_feed ∷ l) (lines_in-whole bs)
    ∙ ap (λ (c : ℕ). c ∷ bs) (sym (eqb-true b line_feed ends)))
    (λ other.
    ap whole_text (cond-false (eqb b line_feed) ends_here goes_on other)
    ∙ byte_before-whole b (lines_in bs).ended (lines_in bs).rest
    ∙ ap (λ (l : List ℕ). b ∷ l) (lines_in-whole bs))

-- a line that says x is the text of x
said-line : {X : Type 0} (text : X → List ℕ) (good : X → Bool) (read : Option X) (line : List ℕ) (x : X) → said text good read line ≡ Some x → text x ≡ line
said-line text good None line x e = none-some x e
said-line text good (Some y) line x e =
    either (good y && bytes_eq (text y) line)
    (λ is.
    let same : y ≡ x = same_Some y x (sym (cond-true (good y && bytes_eq (text y) line) (Some y) None is) ∙ e) in
    ap text (sym same) ∙ (bytes_eq-Decides (text y) line).0 (and_parts (good y) (bytes_eq (text y) line) is).1)
    (λ other. none-some x (sym (cond-false (good y && bytes_eq (text y) line) (Some y) None other) ∙ e))

-- each line that one says x of is the text of x
abbrev Tells : {X : Type 0} → (List ℕ → Option X) → (X → List ℕ) → Type 0
Tells {X} one text = (line : List ℕ) (x : X) → one line ≡ Some x → text x ≡ line

-- the text of x, after the texts before it, is its line after them
line-more : {X : Type 0} (text : X → List ℕ) (so_far : List X) (x : X) (line behind : List ℕ) → text x ≡ line →
    lines text (so_far ++ x ∷ []) ++ behind ≡ lines text so_far ++ ((line ++ line_feed ∷ []) ++ behind)
line-more text so_far x line behind is =
    ap (λ (l : List ℕ). l ++ behind) (sym (flat_map_more (λ y. text y ++ line_feed ∷ []) [] so_far x))
    ∙ ap (λ (l : List ℕ). (lines text so_far ++ (l ++ line_feed ∷ [])) ++ behind) is
    ∙ append_assoc (lines text so_far) (line ++ line_feed ∷ []) behind

ok-same : {A : Type 0} (x y : A) → ◌≡◌ {A = Result A ℕ} (Ok x) (Ok y) → x ≡ y
ok-same x y e = cc

err-ok : {A G : Type 0} (n : ℕ) (x : A) → Err n ≡ Ok x → G
err-ok n x e = cc

known_result : {A G : Type 0} (r : Result A ℕ) → ((x : A) → r ≡ Ok x → G) → ((n : ℕ) → r ≡ Err n → G) → G
known_result (Ok x) is_ok is_err = is_ok x refl
known_result (Err n) is_ok is_err = is_err n refl

-- the lines of entries are their texts
entries-text : {X : Type 0} (one : List ℕ → Option X) (text : X → List ℕ) → Tells one text → (base : ℕ) (ls : List (List ℕ)) (rest : List ℕ) (so_far xs : List X) →
    entries_of one base ls rest so_far ≡ Ok xs → lines text xs ≡ lines text so_far ++ (joined ls ++ rest)
entries-text one text tells base [] rest so_far xs e =
    either (eqb (length rest) 0)
    (λ none.
    let same = ok-same so_far xs (sym (cond-true (eqb (length rest) 0) (Ok so_far) (Err (base + length so_far)) none) ∙ e) in
    ap (lines text) (sym same)
    ∙ sym (append-nil (lines text so_far))
    ∙ ap (λ (l : List ℕ). lines text so_far ++ l) (sym (nil_from_length rest (eqb-true (length rest) 0 none))))
    (λ some. err-ok (base + length so_far) xs (sym (cond-false (eqb (length rest) 0) (Ok so_far) (Err (base + length so_far)) some) ∙ e))
entries-text one text tells base (line ∷ ls) rest so_far xs e =
    let fault : Result (List _) ℕ = Err (base + length so_far) in
    let more = option_map_or (λ x. entries_of one base ls rest (so_far ++ x ∷ [])) (one line) fault in
    either (eqb (length so_far) ENTRIES)
    (λ full. err-ok (base + length so_far) xs (sym (cond-true (eqb (length so_far) ENTRIES) fault more full) ∙ e))
    (λ room.
    let later = sym (cond-false (eqb (length so_far) ENTRIES) fault more room) ∙ e in
    known (one line)
    (λ none. err-ok (base + length so_far) xs (sym (ap (λ (o : Option _). option_map_or (λ x. entries_of one base ls rest (so_far ++ x ∷ [])) o fault) none) ∙ later))
    (λ x some.
    let read = sym (ap (λ (o : Option _). option_map_or (λ y. entries_of one base ls rest (so_far ++ y ∷ [])) o fault) some) ∙ later in
    entries-text one text tells base ls rest (so_far ++ x ∷ []) xs read
    ∙ line-more text so_far x line (joined ls ++ rest) (tells line x some)
    ∙ ap (λ (l : List ℕ). lines text so_far ++ l) (sym (append_assoc (line ++ line_feed ∷ []) (joined ls) rest))))

-- the lines of nodes are their texts, and there are as many as were to come
record NodesText (left : ℕ) (ls : List (List ℕ)) (so_far : List TreeNode) (s : Nodes) : Type 0 where
  text : lines node_text s.nodes ++ joined s.later ≡ lines node_text so_far ++ joined ls
  count : length s.nodes ≡ length so_far + left

node-tells : (total : ℕ) → Tells (node_of total) node_text
node-tells total line x = said-line node_text (has_parent total) (node_in line) line x

nodes-text : (total left : ℕ) (ls : List (List ℕ)) (so_far : List TreeNode) (s : Nodes) → nodes_of total left ls so_far ≡ Ok s → NodesText left ls so_far s
nodes-text total zero ls so_far s e =
    let here : Nodes = record { nodes = so_far; later = ls } in
    subst (NodesText zero ls so_far) (ok-same here s e) (record { text = refl; count = omega arith })
nodes-text total (suc left) [] so_far s e = err-ok (2 + length so_far) s e
nodes-text total (suc left) (line ∷ ls) so_far s e =
    let fault : Result Nodes ℕ = Err (2 + length so_far) in
    known (node_of total line)
    (λ none. err-ok (2 + length so_far) s (sym (ap (λ (o : Option TreeNode). option_map_or (λ x. nodes_of total left ls (so_far ++ x ∷ [])) o fault) none) ∙ e))
    (λ x some.
    let read = sym (ap (λ (o : Option TreeNode). option_map_or (λ y. nodes_of total left ls (so_far ++ y ∷ [])) o fault) some) ∙ e in
    let others = nodes-text total left ls (so_far ++ x ∷ []) s read in
    record {
      text = others.text ∙ line-more node_text so_far x line (joined ls) (node-tells total line x some);
      count = omega (arith, others.count, length-append so_far (x ∷ []));
    })

-- the lines of an opening are its text
abbrev OpeningText : List (List ℕ) → Opened → Type 0
OpeningText ls p = setup_text p.setup ++ joined p.later ≡ joined ls

setup-text : (h : Header) (line : List ℕ) (ls : List (List ℕ)) (s : Nodes) → header_text h ≡ line → NodesText h.nodes ls [] s →
    OpeningText (line ∷ ls) (record { setup = setup_of h s.nodes; later = s.later })
setup-text h line ls s is nodes =
    let count : length s.nodes ≡ h.nodes = omega (arith, nodes.count) in
    append_assoc (numbers_text (length s.nodes) h.blocks h.hands h.kind h.most) (line_feed ∷ lines node_text s.nodes) (joined s.later)
    ∙ ap (λ (n : ℕ). numbers_text n h.blocks h.hands h.kind h.most ++ line_feed ∷ (lines node_text s.nodes ++ joined s.later)) count
    ∙ ap (λ (l : List ℕ). l ++ line_feed ∷ (lines node_text s.nodes ++ joined s.later)) is
    ∙ ap (λ (l : List ℕ). line ++ line_feed ∷ l) nodes.text
    ∙ sym (append_assoc line (line_feed ∷ []) (joined ls))

tree-text : (h : Header) (line : List ℕ) (ls : List (List ℕ)) (s : Nodes) (p : Opened) → header_text h ≡ line → NodesText h.nodes ls [] s → tree_of h (Ok s) ≡ Ok p → OpeningText (line ∷ ls) p
tree-text h line ls s p is nodes e =
    let whole : Opened = record { setup = setup_of h s.nodes; later = s.later } in
    known (first_fault s.nodes)
    (λ none.
    let same = ok-same whole p (sym (ap (λ (o : Option ℕ). option_map_or (λ n. Err (n + 2)) o (Ok whole)) none) ∙ e) in
    subst (OpeningText (line ∷ ls)) same (setup-text h line ls s is nodes))
    (λ n some. err-ok (n + 2) p (sym (ap (λ (o : Option ℕ). option_map_or (λ n. Err (n + 2)) o (Ok whole)) some) ∙ e))

opening-text : (ls : List (List ℕ)) (p : Opened) → opening_of ls ≡ Ok p → OpeningText ls p
opening-text [] p e = err-ok 1 p e
opening-text (line ∷ ls) p e =
    let fault : Result Opened ℕ = Err 1 in
    known (header_of line)
    (λ none. err-ok 1 p (sym (ap (λ (o : Option Header). option_map_or (λ h. tree_of h (nodes_of h.nodes h.nodes ls [])) o fault) none) ∙ e))
    (λ h some.
    let read = sym (ap (λ (o : Option Header). option_map_or (λ k. tree_of k (nodes_of k.nodes k.nodes ls [])) o fault) some) ∙ e in
    known_result (nodes_of h.nodes h.nodes ls [])
    (λ s nodes.
    tree-text h line ls s p (said-line header_text is_within (header_in line) line h some) (nodes-text h.nodes h.nodes ls [] s nodes)
    (sym (ap (tree_of h) nodes) ∙ read))
    (λ n bad. err-ok n p (sym (ap (tree_of h) bad) ∙ read)))

-- what is read of a text has it as its text
whole-text : {X V : Type 0} (one : Setup → List ℕ → Option X) (make : Setup → List X → V) (text : X → List ℕ) (text_of : V → List ℕ) (bytes : List ℕ) (v : V) →
    ((o : Setup) → Tells (one o) text) → ((o : Setup) (xs : List X) → text_of (make o xs) ≡ setup_text o ++ lines text xs) →
    whole_of one make (lines_in bytes).rest (opening_of (lines_in bytes).ended) ≡ Ok v → text_of v ≡ bytes
whole-text one make text text_of bytes v tells is e =
    let l = lines_in bytes in
    known_result (opening_of l.ended)
    (λ p opened.
    let read = sym (ap (whole_of one make l.rest) opened) ∙ e in
    known_result (entries_of (one p.setup) (length p.setup.nodes + 2) p.later l.rest [])
    (λ xs entries.
    let same = ok-same (make p.setup xs) v (sym (ap (with_entries make p.setup) entries) ∙ read) in
    ap text_of (sym same)
    ∙ is p.setup xs
    ∙ ap (λ (t : List ℕ). setup_text p.setup ++ t) (entries-text (one p.setup) text (tells p.setup) (length p.setup.nodes + 2) p.later l.rest [] xs entries)
    ∙ sym (append_assoc (setup_text p.setup) (joined p.later) l.rest)
    ∙ ap (λ (t : List ℕ). t ++ l.rest) (opening-text l.ended p opened)
    ∙ lines_in-whole bytes)
    (λ n bad. err-ok n v (sym (ap (with_entries make p.setup) bad) ∙ read)))
    (λ n bad. err-ok n v (sym (ap (whole_of one make l.rest) bad) ∙ e))

-- a trace has one text
pub trace-text : (bytes : List ℕ) (t : TraceValue) → trace_in bytes ≡ Ok t → trace_text t ≡ bytes
unfolding trace_in
trace-text bytes t e =
    whole-text entry_of trace_with entry_text trace_text bytes t
    (λ o line x. said-line entry_text (has_entry o) (entry_in line) line x) (λ o xs. refl) e

-- so has a schedule
pub schedule-text : (bytes : List ℕ) (t : ScheduleValue) → schedule_in bytes ≡ Ok t → schedule_text t ≡ bytes
unfolding schedule_in
schedule-text bytes t e =
    whole-text choice_of schedule_with choice_text schedule_text bytes t
    (λ o line x. said-line choice_text (has_choice o) (choice_in line) line x) (λ o xs. refl) e
