-- How a text is read, line by line.
use Rattle.std.proofs.Common.{◌≡◌, ℕ, zero, suc, ◌+◌, ◌-◌, ◌<◌, ◌≤◌, Bool, true, false, not, cond, eqb, List, [], ◌∷◌, ◌++◌, length, Option, Some, None, Result, Ok, Err, inl, inr, refl, sym, ap, subst, ◌∙◌, arith}
use Rattle.std.specs.Option.{option_map, option_map_or}
use Rattle.std.specs.Prelude.{nat_le, MatchResult, ◌&&◌}
use Rattle.std.specs.List.{find, range_with_len, list_all}
use Rattle.std.specs.Str.{bytes_eq}
use Rattle.std.proofs.lemmas.Bool.{cond-true, cond-false, ne_eqb, eq-eqb, and_parts, and_from, leb-true, not_from_true, not_from_false, cases_eq}
use Rattle.std.proofs.lemmas.List.Folds.{list_all-append}
use Rattle.std.proofs.lemmas.Option.{same_Some}
use Rattle.common_lemmas.proofs.Bool.{either}
use Rattle.node_tree.specs.declared.node.TreeNode.{TreeNode}
use Rattle.common_lemmas.proofs.Options.{known}
use Rattle.trace_text.specs.declared.limits.TheConstants.{NODES, BLOCKS, HANDS, ASSOCIATIONS, ENTRIES}
use Rattle.node_tree.specs.Tree.{IsTree, IsFirstFault, is_node}
use Rattle.trace_text.specs.declared.fault.TraceFault.{TraceFault}
use Rattle.trace_text.specs.declared.fault.TraceFault.TheVariants.{TooLong, Line, NoMemory}
use Rattle.trace_text.specs.declared.header.Header.{Header}
use Rattle.trace_text.specs.Reading.{Lines, Opened, byte_before, lines_in, said, entries_of, nodes_of, node_of, header_of, Nodes, first_fault, setup_of, tree_of, opening_of, with_entries, whole_of, IsFaultOf, NodesRead, OpeningRead, ReadsOpening, is_within}
use Rattle.trace_text.specs.Setups.{Setup, IsWithin}
use Rattle.trace_text.specs.Texts.{line_feed}
use Rattle.trace_text.specs.Words.{Halves, cut_at}

abbrev with_byte : ℕ → Halves → Halves
with_byte b h = record { front = b ∷ h.front; rest = h.rest }

abbrev after_line : Halves → Lines
after_line h = record { ended = h.front ∷ (lines_in h.rest).ended; rest = (lines_in h.rest).rest }

pub none-some : {A G : Type 0} (x : A) → None ≡ Some x → G
none-some x e = cc

-- a line that is cut off is the first
pub lines_in-cut : (bytes : List ℕ) (h : Halves) → cut_at line_feed bytes ≡ Some h → lines_in bytes ≡ after_line h
unfolding lines_in
lines_in-cut [] h e = none-some h e
lines_in-cut (b ∷ bs) h e =
    either (eqb b line_feed)
    (λ ends.
    let same : record { front = []; rest = bs } ≡ h =
    same_Some (record { front = []; rest = bs }) h (sym (cond-true (eqb b line_feed) (Some (record { front = []; rest = bs })) (option_map (with_byte b) (cut_at line_feed bs)) ends) ∙ e) in
    cond-true (eqb b line_feed) (record { ended = [] ∷ (lines_in bs).ended; rest = (lines_in bs).rest }) (byte_before b (lines_in bs).ended (lines_in bs).rest) ends
    ∙ ap after_line same)
    (λ other.
    let later : option_map (with_byte b) (cut_at line_feed bs) ≡ Some h =
    sym (cond-false (eqb b line_feed) (Some (record { front = []; rest = bs })) (option_map (with_byte b) (cut_at line_feed bs)) other) ∙ e in
    cond-false (eqb b line_feed) (record { ended = [] ∷ (lines_in bs).ended; rest = (lines_in bs).rest }) (byte_before b (lines_in bs).ended (lines_in bs).rest) other
    ∙ known (cut_at line_feed bs)
    (λ none. none-some h (sym (ap (option_map (with_byte b)) none) ∙ later))
    (λ k some.
    ap (λ (l : Lines). byte_before b l.ended l.rest) (lines_in-cut bs k some)
    ∙ ap after_line (same_Some (with_byte b k) h (sym (ap (option_map (with_byte b)) some) ∙ later))))

-- what no line feed ends is the rest
pub lines_in-none : (bytes : List ℕ) → cut_at line_feed bytes ≡ None → lines_in bytes ≡ record { ended = []; rest = bytes }
unfolding lines_in
lines_in-none [] e = refl
lines_in-none (b ∷ bs) e =
    either (eqb b line_feed)
    (λ ends. none-some _ (sym e ∙ cond-true (eqb b line_feed) (Some (record { front = []; rest = bs })) (option_map (with_byte b) (cut_at line_feed bs)) ends))
    (λ other.
    let later : option_map (with_byte b) (cut_at line_feed bs) ≡ None =
    sym (cond-false (eqb b line_feed) (Some (record { front = []; rest = bs })) (option_map (with_byte b) (cut_at line_feed bs)) other) ∙ e in
    cond-false (eqb b line_feed) (record { ended = [] ∷ (lines_in bs).ended; rest = (lines_in bs).rest }) (byte_before b (lines_in bs).ended (lines_in bs).rest) other
    ∙ known (cut_at line_feed bs)
    (λ none. ap (λ (l : Lines). byte_before b l.ended l.rest) (lines_in-none bs none))
    (λ k some. none-some (with_byte b k) (sym later ∙ ap (option_map (with_byte b)) some)))

-- what is left is shorter
pub cut-shorter : (bytes : List ℕ) (h : Halves) → cut_at line_feed bytes ≡ Some h → length h.rest < length bytes
cut-shorter [] h e = none-some h e
cut-shorter (b ∷ bs) h e =
    either (eqb b line_feed)
    (λ ends.
    let same : record { front = []; rest = bs } ≡ h =
    same_Some (record { front = []; rest = bs }) h (sym (cond-true (eqb b line_feed) (Some (record { front = []; rest = bs })) (option_map (with_byte b) (cut_at line_feed bs)) ends) ∙ e) in
    let rest : bs ≡ h.rest = ap (λ (k : Halves). k.rest) same in
    let long : length bs ≡ length h.rest = ap length rest in
    omega arith)
    (λ other.
    let later : option_map (with_byte b) (cut_at line_feed bs) ≡ Some h =
    sym (cond-false (eqb b line_feed) (Some (record { front = []; rest = bs })) (option_map (with_byte b) (cut_at line_feed bs)) other) ∙ e in
    known (cut_at line_feed bs)
    (λ none. none-some h (sym (ap (option_map (with_byte b)) none) ∙ later))
    (λ k some.
    let same : with_byte b k ≡ h = same_Some (with_byte b k) h (sym (ap (option_map (with_byte b)) some) ∙ later) in
    let long : length k.rest ≡ length h.rest = ap (λ (u : Halves). length u.rest) same in
    let below = cut-shorter bs k some in
    omega arith))

-- the entries that the lines of a text say
abbrev pub entries_in : {X : Type 0} → (List ℕ → Option X) → ℕ → List ℕ → List X → Result (List X) ℕ
entries_in one base bytes so_far = entries_of one base (lines_in bytes).ended (lines_in bytes).rest so_far

pub entries-all : {X : Type 0} (one : List ℕ → Option X) (base : ℕ) (bytes : List ℕ) (so_far : List X) → length bytes ≡ 0 → entries_in one base bytes so_far ≡ Ok so_far
unfolding lines_in
entries-all one base [] so_far none = refl
entries-all one base (b ∷ bs) so_far none = absurd (omega (arith, none))

pub entries-cut_off : {X : Type 0} (one : List ℕ → Option X) (base : ℕ) (bytes : List ℕ) (so_far : List X) → cut_at line_feed bytes ≡ None → 0 < length bytes → entries_in one base bytes so_far ≡ Err (base + length so_far)
entries-cut_off one base bytes so_far none some =
    ap (λ (l : Lines). entries_of one base l.ended l.rest so_far) (lines_in-none bytes none)
    ∙ cond-false (eqb (length bytes) 0) (Ok so_far) (Err (base + length so_far)) (ne_eqb (length bytes) 0 (λ e. absurd (omega (arith, e, some))))

abbrev more_entries : {X : Type 0} → (List ℕ → Option X) → ℕ → List ℕ → List X → Option X → Result (List X) ℕ
more_entries one base rest so_far read = option_map_or (λ x. entries_in one base rest (so_far ++ x ∷ [])) read (Err (base + length so_far))

entries-line : {X : Type 0} (one : List ℕ → Option X) (base : ℕ) (bytes : List ℕ) (so_far : List X) (h : Halves) → cut_at line_feed bytes ≡ Some h →
    entries_in one base bytes so_far ≡ cond (eqb (length so_far) ENTRIES) (Err (base + length so_far)) (more_entries one base h.rest so_far (one h.front))
entries-line one base bytes so_far h e = ap (λ (l : Lines). entries_of one base l.ended l.rest so_far) (lines_in-cut bytes h e)

pub entries-full : {X : Type 0} (one : List ℕ → Option X) (base : ℕ) (bytes : List ℕ) (so_far : List X) (h : Halves) → cut_at line_feed bytes ≡ Some h → length so_far ≡ ENTRIES →
    entries_in one base bytes so_far ≡ Err (base + length so_far)
entries-full one base bytes so_far h e full =
    entries-line one base bytes so_far h e ∙ cond-true (eqb (length so_far) ENTRIES) _ _ (eq-eqb (length so_far) ENTRIES full)

pub entries-read : {X : Type 0} (one : List ℕ → Option X) (base : ℕ) (bytes : List ℕ) (so_far : List X) (h : Halves) (read : Option X) → cut_at line_feed bytes ≡ Some h → (length so_far ≡ ENTRIES → ⊥) →
    read ≡ one h.front → entries_in one base bytes so_far ≡ more_entries one base h.rest so_far read
entries-read one base bytes so_far h read e room is =
    entries-line one base bytes so_far h e
    ∙ cond-false (eqb (length so_far) ENTRIES) _ _ (ne_eqb (length so_far) ENTRIES room)
    ∙ ap (more_entries one base h.rest so_far) (sym is)

-- what a line says is good
pub said-good : {X : Type 0} (text : X → List ℕ) (good : X → Bool) (read : Option X) (line : List ℕ) (x : X) → said text good read line ≡ Some x → good x ≡ true
said-good text good None line x e = none-some x e
said-good text good (Some y) line x e =
    either (good y && bytes_eq (text y) line)
    (λ is.
    let same : y ≡ x = same_Some y x (sym (cond-true (good y && bytes_eq (text y) line) (Some y) None is) ∙ e) in
    subst (λ z. good z ≡ true) same (and_parts (good y) (bytes_eq (text y) line) is).0)
    (λ other. none-some x (sym (cond-false (good y && bytes_eq (text y) line) (Some y) None other) ∙ e))

ok-inside : {X : Type 0} {a b : List X} → ◌≡◌ {A = Result (List X) ℕ} (Ok a) (Ok b) → a ≡ b
ok-inside e = cc

ok-other : {X G : Type 0} {n : ℕ} {b : List X} → ◌≡◌ {A = Result (List X) ℕ} (Err n) (Ok b) → G
ok-other e = absurd (cc)

-- where all that a line says is good, so is each entry
entries-are_good : {X : Type 0} (one : List ℕ → Option X) (good : X → Bool) (base : ℕ) (lines : List (List ℕ)) (rest : List ℕ) (so_far es : List X) →
    ((line : List ℕ) (x : X) → one line ≡ Some x → good x ≡ true) → list_all good so_far ≡ true → entries_of one base lines rest so_far ≡ Ok es → list_all good es ≡ true
entries-are_good one good base [] rest so_far es each front e =
    either (eqb (length rest) 0)
    (λ all. subst (λ (l : List _). list_all good l ≡ true) (ok-inside (sym (cond-true (eqb (length rest) 0) (Ok so_far) (Err (base + length so_far)) all) ∙ e)) front)
    (λ more. ok-other (sym (cond-false (eqb (length rest) 0) (Ok so_far) (Err (base + length so_far)) more) ∙ e))
entries-are_good one good base (line ∷ lines) rest so_far es each front e =
    let later = λ (read : Option _). option_map_or (λ x. entries_of one base lines rest (so_far ++ x ∷ [])) read (Err (base + length so_far)) in
    either (eqb (length so_far) ENTRIES)
    (λ full. ok-other (sym (cond-true (eqb (length so_far) ENTRIES) (Err (base + length so_far)) (later (one line)) full) ∙ e))
    (λ room.
    let reads : later (one line) ≡ Ok es = sym (cond-false (eqb (length so_far) ENTRIES) (Err (base + length so_far)) (later (one line)) room) ∙ e in
    known (one line)
    (λ none. ok-other (sym (ap later none) ∙ reads))
    (λ x says.
    let front_and_x : list_all good (so_far ++ x ∷ []) ≡ true =
    list_all-append good so_far (x ∷ []) ∙ and_from (list_all good so_far) (list_all good (x ∷ [])) front (and_from (good x) true (each line x says) refl) in
    entries-are_good one good base lines rest (so_far ++ x ∷ []) es each front_and_x (sym (ap later says) ∙ reads)))

-- where an entry is what a line says, and good
pub entries-good : {X : Type 0} (text : X → List ℕ) (good : X → Bool) (read : List ℕ → Option X) (base : ℕ) (bytes : List ℕ) (es : List X) →
    entries_in (λ line. said text good (read line) line) base bytes [] ≡ Ok es → list_all good es ≡ true
entries-good text good read base bytes es e =
    entries-are_good (λ line. said text good (read line) line) good base (lines_in bytes).ended (lines_in bytes).rest [] es
    (λ line x says. said-good text good (read line) line x says) refl e

-- the nodes that the lines of a text say
pub nodes-none : (total left : ℕ) (bytes : List ℕ) (so_far : List TreeNode) → 0 < left → cut_at line_feed bytes ≡ None → nodes_of total left (lines_in bytes).ended so_far ≡ Err (2 + length so_far)
nodes-none total zero bytes so_far some none = absurd (omega (arith, some))
nodes-none total (suc left) bytes so_far some none = ap (λ (l : Lines). nodes_of total (suc left) l.ended so_far) (lines_in-none bytes none)

pub nodes-read : (total left : ℕ) (bytes : List ℕ) (so_far : List TreeNode) (h : Halves) (read : Option TreeNode) → 0 < left → cut_at line_feed bytes ≡ Some h → read ≡ node_of total h.front →
    nodes_of total left (lines_in bytes).ended so_far ≡ option_map_or (λ x. nodes_of total (left - 1) (lines_in h.rest).ended (so_far ++ x ∷ [])) read (Err (2 + length so_far))
nodes-read total zero bytes so_far h read some e is = absurd (omega (arith, some))
nodes-read total (suc left) bytes so_far h read some e is =
    let one : left ≡ suc left - 1 = omega arith in
    ap (λ (l : Lines). nodes_of total (suc left) l.ended so_far) (lines_in-cut bytes h e)
    ∙ ap (λ (o : Option TreeNode). option_map_or (λ x. nodes_of total left (lines_in h.rest).ended (so_far ++ x ∷ [])) o (Err (2 + length so_far))) (sym is)
    ∙ ap (λ (k : ℕ). option_map_or (λ x. nodes_of total k (lines_in h.rest).ended (so_far ++ x ∷ [])) read (Err (2 + length so_far))) one

-- the first of some numbers that passes a test
find-none : (test : ℕ → Bool) (a n : ℕ) → ((k : ℕ) → a ≤ k → k < a + n → test k ≡ false) → find test (range_with_len a n) ≡ None
find-none test a zero none = refl
find-none test a (suc n) none =
    cond-false (test a) (Some a) (find test (range_with_len (a + 1) n)) (none a (omega arith) (omega arith))
    ∙ find-none test (a + 1) n (λ k from below. none k (omega (arith, from)) (omega (arith, below)))

find-first : (test : ℕ → Bool) (a n k : ℕ) → a ≤ k → k < a + n → test k ≡ true → ((j : ℕ) → a ≤ j → j < k → test j ≡ false) → find test (range_with_len a n) ≡ Some k
find-first test a zero k from below passes none = absurd (omega (arith, from, below))
find-first test a (suc n) k from below passes none =
    elim (cases_eq a k) [
      | inl here ↦
          cond-true (test a) (Some a) (find test (range_with_len (a + 1) n)) (subst (λ j. test j ≡ true) (sym here) passes)
          ∙ ap (λ (j : ℕ). Some j) here
      | inr later ↦
          cond-false (test a) (Some a) (find test (range_with_len (a + 1) n)) (none a (omega arith) (omega (arith, from, later)))
          ∙ find-first test (a + 1) n k (omega (arith, from, later)) (omega (arith, below)) passes (λ j at before. none j (omega (arith, at)) before)
    ]

pub first_fault-none : (nodes : List TreeNode) → IsTree nodes → first_fault nodes ≡ None
first_fault-none nodes tree =
    find-none (λ n. not (is_node nodes n)) 0 (length nodes) (λ k from below. not_from_true (is_node nodes k) (tree.each k (omega (arith, below))))

pub first_fault-some : (nodes : List TreeNode) (n : ℕ) → 0 < length nodes → IsFirstFault nodes n → first_fault nodes ≡ Some n
first_fault-some nodes n some fault =
    find-first (λ k. not (is_node nodes k)) 0 (length nodes) n (omega arith) (omega (arith, fault.within, some))
    (not_from_false (is_node nodes n) fault.fault) (λ j from before. not_from_true (is_node nodes j) (fault.below j before))

-- a fault of the opening is one of the whole
pub whole-fault : {X V : Type 0} (one : Setup → List ℕ → Option X) (make : Setup → List X → V) (rest : List ℕ) (r : Result Opened ℕ) (f : TraceFault) → IsFaultOf r f → IsFaultOf (whole_of one make rest r) f
whole-fault one make rest r TooLong is = is
whole-fault one make rest r (Line n) is = ap (whole_of one make rest) is
whole-fault one make rest r NoMemory is = tt

-- so is one of the entries
pub entries-fault : {X V : Type 0} (make : Setup → List X → V) (o : Setup) (r : Result (List X) ℕ) (f : TraceFault) → IsFaultOf r f → IsFaultOf (with_entries make o r) f
entries-fault make o r TooLong is = is
entries-fault make o r (Line n) is = ap (with_entries make o) is
entries-fault make o r NoMemory is = tt

-- behind an opening that was read
pub whole-open : {X V : Type 0} (one : Setup → List ℕ → Option X) (make : Setup → List X → V) (old new : List ℕ) (o : Setup) → OpeningRead old new o →
    whole_of one make (lines_in old).rest (opening_of (lines_in old).ended) ≡ with_entries make o (entries_in (one o) (length o.nodes + 2) new [])
whole-open one make old new o is =
    ap (whole_of one make (lines_in old).rest) is.read
    ∙ ap (λ (rest : List ℕ). with_entries make o (entries_of (one o) (length o.nodes + 2) (lines_in new).ended rest [])) (sym is.left)

-- the opening
pub opening-none : (bytes : List ℕ) → cut_at line_feed bytes ≡ None → opening_of (lines_in bytes).ended ≡ Err 1
opening-none bytes none = ap (λ (l : Lines). opening_of l.ended) (lines_in-none bytes none)

pub opening-read : (bytes : List ℕ) (h : Halves) (read : Option Header) → cut_at line_feed bytes ≡ Some h → read ≡ header_of h.front →
    opening_of (lines_in bytes).ended ≡ option_map_or (λ k. tree_of k (nodes_of k.nodes k.nodes (lines_in h.rest).ended [])) read (Err 1)
opening-read bytes h read e is =
    ap (λ (l : Lines). opening_of l.ended) (lines_in-cut bytes h e)
    ∙ ap (λ (o : Option Header). option_map_or (λ k. tree_of k (nodes_of k.nodes k.nodes (lines_in h.rest).ended [])) o (Err 1)) (sym is)

pub tree-fault : (h : Header) (r : Result Nodes ℕ) (f : TraceFault) → IsFaultOf r f → IsFaultOf (tree_of h r) f
tree-fault h r TooLong is = is
tree-fault h r (Line n) is = ap (tree_of h) is
tree-fault h r NoMemory is = tt

abbrev setup_or : Result Opened ℕ → Setup → Setup
setup_or (Ok p) d = p.setup
setup_or (Err n) d = d

abbrev as_opened : Setup → List (List ℕ) → Result Opened ℕ
as_opened o later = Ok (record { setup = o; later = later })

abbrev tree_told : Header → List TreeNode → List (List ℕ) → Option ℕ → Result Opened ℕ
tree_told h nodes later f = option_map_or (λ n. Err (n + 2)) f (as_opened (setup_of h nodes) later)

-- whether the nodes are a tree doesn't depend on the lines behind them
tree-later : (h : Header) (nodes : List TreeNode) (later : List (List ℕ)) (f : Option ℕ) (o : Setup) → tree_told h nodes [] f ≡ as_opened o [] → tree_told h nodes later f ≡ as_opened o later
tree-later h nodes later None o e =
    let same = ap (λ (r : Result Opened ℕ). setup_or r o) e in
    ap (λ (u : Setup). as_opened u later) same
tree-later h nodes later (Some n) o e = absurd (cc)

tree-later_fault : (h : Header) (nodes : List TreeNode) (later : List (List ℕ)) (f : Option ℕ) (n : ℕ) → tree_told h nodes [] f ≡ Err n → tree_told h nodes later f ≡ Err n
tree-later_fault h nodes later None n e = absurd (cc)
tree-later_fault h nodes later (Some k) n e = e

-- an opening whose header and nodes were read
pub opened : (old mid new : List ℕ) (h : Header) (nodes : List TreeNode) (r : Result Setup TraceFault) →
    opening_of (lines_in old).ended ≡ tree_of h (nodes_of h.nodes h.nodes (lines_in mid).ended []) → (lines_in mid).rest ≡ (lines_in old).rest → NodesRead h.nodes mid new nodes →
    MatchResult r (λ o. tree_of h (Ok (record { nodes = nodes; later = [] })) ≡ Ok (record { setup = o; later = [] })) (IsFaultOf (tree_of h (Ok (record { nodes = nodes; later = [] })))) →
    ReadsOpening r old new
opened old mid new h nodes (Ok o) is left read tree =
    record {
      read = is ∙ ap (tree_of h) read.read ∙ tree-later h nodes (lines_in new).ended (first_fault nodes) o tree;
      left = read.left ∙ left;
    }
opened old mid new h nodes (Err TooLong) is left read tree = tree
opened old mid new h nodes (Err (Line n)) is left read tree = is ∙ ap (tree_of h) read.read ∙ tree-later_fault h nodes (lines_in new).ended (first_fault nodes) n tree
opened old mid new h nodes (Err NoMemory) is left read tree = tt

-- what is within the limits, as facts
pub within-limits : (h : Header) → is_within h ≡ true → IsWithin h.nodes h.blocks h.hands h.most
within-limits h e =
    let nodes = and_parts (nat_le 1 h.nodes && nat_le h.nodes NODES) _ e in
    let blocks = and_parts (nat_le 1 h.blocks && nat_le h.blocks BLOCKS) _ nodes.1 in
    let hands = and_parts (nat_le 1 h.hands && nat_le h.hands HANDS) (nat_le 1 h.most && nat_le h.most ASSOCIATIONS) blocks.1 in
    let n = and_parts (nat_le 1 h.nodes) (nat_le h.nodes NODES) nodes.0 in
    let b = and_parts (nat_le 1 h.blocks) (nat_le h.blocks BLOCKS) blocks.0 in
    let a = and_parts (nat_le 1 h.hands) (nat_le h.hands HANDS) hands.0 in
    let m = and_parts (nat_le 1 h.most) (nat_le h.most ASSOCIATIONS) hands.1 in
    record {
      some_node = leb-true 1 h.nodes n.0;
      few_nodes = leb-true h.nodes NODES n.1;
      some_block = leb-true 1 h.blocks b.0;
      few_blocks = leb-true h.blocks BLOCKS b.1;
      some_hand = leb-true 1 h.hands a.0;
      few_hands = leb-true h.hands HANDS a.1;
      some_association = leb-true 1 h.most m.0;
      few_associations = leb-true h.most ASSOCIATIONS m.1;
    }
