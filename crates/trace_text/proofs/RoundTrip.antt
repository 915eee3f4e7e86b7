-- The text of a trace is read as that trace.
use Rattle.std.proofs.Common.{◌≡◌, ℕ, suc, ◌+◌, ◌-◌, ◌<◌, ◌≤◌, Bool, true, false, not, ◌&&◌, List, [], ◌∷◌, ◌++◌, length, get_or, Option, Some, None, Result, Ok, Err, refl, sym, ap, subst, ◌∙◌, append_assoc, length-append, arith}
use Rattle.std.specs.Prelude.{nat_lt, nat_le, is_none, if◌then◌else◌}
use Rattle.std.specs.List.{list_all, slice_get}
use Rattle.std.specs.Option.{option_map_or, option_and_then}
use Rattle.std.proofs.lemmas.Bool.{and_parts, and_from, le-leb, cond-true, cond-false, false≢true}
use Rattle.std.proofs.lemmas.List.{append-nil}
use Rattle.std.proofs.lemmas.Option.{slice_get-get_or}
use Rattle.common_lemmas.proofs.Bool.{either}
use Rattle.node_tree.specs.declared.node.TreeNode.{TreeNode}
use Rattle.node_tree.specs.declared.node.TheConstants.{MOST_NODES}
use Rattle.node_tree.specs.Tree.{IsTree, has_place, has_source, is_unstoppable, parent_of, is_root}
use Rattle.trace_text.specs.declared.entry.Entry.{Entry}
use Rattle.trace_text.specs.declared.header.Header.{Header}
use Rattle.trace_text.specs.declared.limits.TheConstants.{NODES, BLOCKS, HANDS, ASSOCIATIONS, ENTRIES}
use Rattle.trace_text.specs.Reading.{Lines, Nodes, Opened, OpeningRead, lines_in, entry_of, node_of, nodes_of, header_text, is_within, has_parent, setup_of, tree_of, with_entries, trace_with, trace_in}
use Rattle.trace_text.specs.Setups.{Setup, IsSetup}
use Rattle.trace_text.specs.Texts.{line_feed, lines, node_text, entry_text, setup_text, trace_text}
use Rattle.trace_text.specs.Values.{TraceValue, IsTrace, has_entry}
use Rattle.trace_text.specs.Words.{Halves, cut_at, entry_in}
use Rattle.trace_text.proofs.EventLaws.{Few, entry-read}
use Rattle.trace_text.proofs.HeaderLaws.{said-text, header-back, header-line, node-back, node-line}
use Rattle.trace_text.proofs.LineLaws.{IsLine, entry-line}
use Rattle.trace_text.proofs.ReadLaws.{entries_in, entries-all, entries-read, lines_in-cut, nodes-read, opening-read, whole-open, first_fault-none}
use Rattle.trace_text.proofs.WordLaws.{cut_at-front}

-- the line of x says x
pub record SaidBack {X : Type 0} (one : List ℕ → Option X) (text : X → List ℕ) (x : X) : Type 0 where
  pub reads : one (text x) ≡ Some x
  pub line : IsLine (text x)

abbrev pub AllBack : {X : Type 0} → (List ℕ → Option X) → (X → List ℕ) → List X → Type 0
AllBack one text [] = Unit {0}
AllBack one text (x ∷ xs) = SaidBack one text x × AllBack one text xs

-- a line in front is cut off
front-cut : (text rest : List ℕ) → IsLine text → cut_at line_feed ((text ++ line_feed ∷ []) ++ rest) ≡ Some (record { front = text; rest = rest })
front-cut text rest line = ap (cut_at line_feed) (append_assoc text (line_feed ∷ []) rest) ∙ cut_at-front line_feed text rest line

-- entries are read back
entries-back : {X : Type 0} (one : List ℕ → Option X) (text : X → List ℕ) (base : ℕ) (xs so_far : List X) → AllBack one text xs → length so_far + length xs ≤ ENTRIES →
    entries_in one base (lines text xs) so_far ≡ Ok (so_far ++ xs)
entries-back one text base [] so_far back few =
    entries-all one base [] so_far refl ∙ ap (λ (l : List _). Ok l) (sym (append-nil so_far))
entries-back one text base (x ∷ xs) so_far back few =
    let rest = lines text xs in
    let more : length (so_far ++ x ∷ []) + length xs ≤ ENTRIES = omega (arith, length-append so_far (x ∷ []), few) in
    entries-read one base (lines text (x ∷ xs)) so_far (record { front = text x; rest = rest }) (Some x) (front-cut (text x) rest back.0.line)
    (λ full. absurd (omega (arith, full, few))) (sym back.0.reads)
    ∙ entries-back one text base xs (so_far ++ x ∷ []) back.1 more
    ∙ ap (λ (l : List _). Ok l) (append_assoc so_far (x ∷ []) xs)

abbrev as_nodes : List TreeNode → List (List ℕ) → Nodes
as_nodes nodes later = record { nodes = nodes; later = later }

-- so are nodes, in front of other lines
pub record NodesBack (total : ℕ) (nodes so_far : List TreeNode) (rest : List ℕ) : Type 0 where
  pub read : nodes_of total (length nodes) (lines_in (lines node_text nodes ++ rest)).ended so_far ≡ Ok (record { nodes = so_far ++ nodes; later = (lines_in rest).ended })
  pub left : (lines_in (lines node_text nodes ++ rest)).rest ≡ (lines_in rest).rest

nodes-back : (total : ℕ) (nodes so_far : List TreeNode) (rest : List ℕ) → AllBack (node_of total) node_text nodes → NodesBack total nodes so_far rest
nodes-back total [] so_far rest back =
    record {
      read = ap (λ (l : List TreeNode). Ok (as_nodes l (lines_in rest).ended)) (sym (append-nil so_far));
      left = refl;
    }
nodes-back total (x ∷ xs) so_far rest back =
    let later = lines node_text xs ++ rest in
    let h : Halves = record { front = node_text x; rest = later } in
    let whole : lines node_text (x ∷ xs) ++ rest ≡ (node_text x ++ line_feed ∷ []) ++ later = append_assoc (node_text x ++ line_feed ∷ []) (lines node_text xs) rest in
    let cut : cut_at line_feed (lines node_text (x ∷ xs) ++ rest) ≡ Some h = ap (cut_at line_feed) whole ∙ front-cut (node_text x) later back.0.line in
    let others = nodes-back total xs (so_far ++ x ∷ []) rest back.1 in
    let one : suc (length xs) - 1 ≡ length xs = omega arith in
    record {
      read =
          nodes-read total (suc (length xs)) (lines node_text (x ∷ xs) ++ rest) so_far h (Some x) (omega arith) cut (sym back.0.reads)
          ∙ ap (λ (k : ℕ). nodes_of total k (lines_in later).ended (so_far ++ x ∷ [])) one
          ∙ others.read
          ∙ ap (λ (l : List TreeNode). Ok (as_nodes l (lines_in rest).ended)) (append_assoc so_far (x ∷ []) xs);
      left = ap (λ (l : Lines). l.rest) (lines_in-cut (lines node_text (x ∷ xs) ++ rest) h cut) ∙ others.left;
    }

-- where a node's place is, by its parent
abbrev placed_by : List TreeNode → ℕ → Option ℕ → Bool
placed_by tree n parent = if is_root tree n then is_none parent else option_map_or (λ p. nat_lt n p && nat_lt p (length tree)) parent false

parent-good : (tree : List TreeNode) (n : ℕ) (parent : Option ℕ) → placed_by tree n parent ≡ true → option_map_or (λ p. nat_lt p (length tree)) parent true ≡ true
parent-good tree n None place = refl
parent-good tree n (Some p) place =
    either (is_root tree n)
    (λ root. absurd (false≢true (sym (cond-true (is_root tree n) false (nat_lt n p && nat_lt p (length tree)) root) ∙ place)))
    (λ other. (and_parts (nat_lt n p) (nat_lt p (length tree)) (sym (cond-false (is_root tree n) false (nat_lt n p && nat_lt p (length tree)) other) ∙ place)).1)

-- the nodes of a tree
node-good : (tree : List TreeNode) (k : ℕ) (d : TreeNode) → IsTree tree → k < length tree →
    (has_parent (length tree) (get_or tree k d) ≡ true) × (not ((get_or tree k d).source && (get_or tree k d).unstoppable) ≡ true)
node-good tree k d is here =
    let node = get_or tree k d in
    let there : slice_get tree k ≡ Some node = slice_get-get_or tree k d here in
    let parts = and_parts (has_place tree k && nat_lt k MOST_NODES) (not (has_source tree k && is_unstoppable tree k)) (is.each k here) in
    let place = (and_parts (has_place tree k) (nat_lt k MOST_NODES) parts.0).0 in
    let source : has_source tree k ≡ node.source = ap (λ (o : Option TreeNode). option_map_or (λ n. n.source) o false) there in
    let unstoppable : is_unstoppable tree k ≡ node.unstoppable = ap (λ (o : Option TreeNode). option_map_or (λ n. n.unstoppable) o false) there in
    let parent : parent_of tree k ≡ node.parent = ap (λ (o : Option TreeNode). option_and_then (λ (n : TreeNode). n.parent) o) there in (
      parent-good tree k node.parent (ap (placed_by tree k) (sym parent) ∙ place),
      subst (λ (b : Bool). not (b && node.unstoppable) ≡ true) source (subst (λ (b : Bool). not (has_source tree k && b) ≡ true) unstoppable parts.1),
    )

nodes-all : (total : ℕ) (nodes : List TreeNode) (d : TreeNode) → total ≤ 65536 →
    ((k : ℕ) → k < length nodes → (has_parent total (get_or nodes k d) ≡ true) × (not ((get_or nodes k d).source && (get_or nodes k d).unstoppable) ≡ true)) → AllBack (node_of total) node_text nodes
nodes-all total [] d few good = tt
nodes-all total (x ∷ xs) d few good =
    let first = good 0 (omega arith) in (
      record { reads = node-back x total few first.0 first.1; line = node-line x total few first.0 },
      nodes-all total xs d few (λ k below. good (suc k) (omega (arith, below))),
    )

entries-good : (o : Setup) (es : List Entry) → Few o → list_all (has_entry o) es ≡ true → AllBack (entry_of o) entry_text es
entries-good o [] few all = tt
entries-good o (e ∷ es) few all =
    let parts = and_parts (has_entry o e) (list_all (has_entry o) es) all in (
      record {
        reads = said-text entry_text (has_entry o) (entry_in (entry_text e)) e (entry-read o e few parts.0) parts.0;
        line = entry-line o e few parts.0;
      },
      entries-good o es few parts.1,
    )

abbrev header_in_front : Setup → Header
header_in_front o = record { nodes = length o.nodes; blocks = o.blocks; hands = o.hands; kind = o.kind; most = o.most }

header-good : (o : Setup) → IsSetup o → is_within (header_in_front o) ≡ true
header-good o is =
    let w = is.within in
    let both : (n most : ℕ) → 1 ≤ n → n ≤ most → (nat_le 1 n && nat_le n most) ≡ true =
    λ n most some few. and_from (nat_le 1 n) (nat_le n most) (le-leb 1 n some) (le-leb n most few) in
    and_from (nat_le 1 (length o.nodes) && nat_le (length o.nodes) NODES) _ (both (length o.nodes) NODES w.some_node w.few_nodes)
    (and_from (nat_le 1 o.blocks && nat_le o.blocks BLOCKS) _ (both o.blocks BLOCKS w.some_block w.few_blocks)
    (and_from (nat_le 1 o.hands && nat_le o.hands HANDS) (nat_le 1 o.most && nat_le o.most ASSOCIATIONS) (both o.hands HANDS w.some_hand w.few_hands)
    (both o.most ASSOCIATIONS w.some_association w.few_associations)))

abbrev told : Header → List TreeNode → List (List ℕ) → Option ℕ → Result Opened ℕ
told h nodes later fault = option_map_or (λ n. Err (n + 2)) fault (Ok (record { setup = setup_of h nodes; later = later }))

-- an opening is read back, in front of other lines
opening-back : (o : Setup) (rest : List ℕ) → IsSetup o → OpeningRead (setup_text o ++ rest) rest o
opening-back o rest is =
    let h = header_in_front o in
    let within = header-good o is in
    let later = lines node_text o.nodes ++ rest in
    let cuts : Halves = record { front = header_text h; rest = later } in
    let whole : setup_text o ++ rest ≡ header_text h ++ line_feed ∷ later = append_assoc (header_text h) (line_feed ∷ lines node_text o.nodes) rest in
    let cut : cut_at line_feed (setup_text o ++ rest) ≡ Some cuts = ap (cut_at line_feed) whole ∙ cut_at-front line_feed (header_text h) later (header-line h within) in
    let d : TreeNode = record { parent = None; source = false; unstoppable = false } in
    let few : length o.nodes ≤ 65536 = omega (arith, is.within.few_nodes) in
    let nodes = nodes-back (length o.nodes) o.nodes [] rest (nodes-all (length o.nodes) o.nodes d few (λ k below. node-good o.nodes k d is.tree below)) in
    record {
      read =
          opening-read (setup_text o ++ rest) cuts (Some h) cut (sym (header-back h within))
          ∙ ap (tree_of h) nodes.read
          ∙ ap (told h o.nodes (lines_in rest).ended) (first_fault-none o.nodes is.tree);
      left = sym (ap (λ (l : Lines). l.rest) (lines_in-cut (setup_text o ++ rest) cuts cut) ∙ nodes.left);
    }

-- a trace is read back
pub trace-back : (t : TraceValue) → IsTrace t → trace_in (trace_text t) ≡ Ok t
unfolding trace_in
trace-back t is =
    let o = t.opening in
    let w = is.opening.within in
    let few : Few o = (omega (arith, w.few_blocks), omega (arith, w.few_nodes), omega (arith, w.few_hands)) in
    let rest = lines entry_text t.entries in
    let most : 0 + length t.entries ≤ ENTRIES = omega (arith, is.few) in
    whole-open entry_of trace_with (trace_text t) rest o (opening-back o rest is.opening)
    ∙ ap (with_entries trace_with o) (entries-back (entry_of o) entry_text (length o.nodes + 2) t.entries [] (entries-good o t.entries few is.each) most)
