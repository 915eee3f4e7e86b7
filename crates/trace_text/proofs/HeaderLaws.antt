-- What is written of an opening's lines is read back.
use Rattle.std.proofs.Common.{◌≡◌, ℕ, ◌<◌, ◌≤◌, ◌^◌, Bool, true, false, not, ◌&&◌, List, [], codes, Option, Some, None, refl, sym, ap, ◌∙◌, arith}
use Rattle.std.specs.Prelude.{nat_lt}
use Rattle.std.specs.Fmt.{decimal}
use Rattle.std.specs.Option.{option_map, option_map_or}
use Rattle.std.specs.Str.{bytes_eq}
use Rattle.std.proofs.lemmas.Bool.{and_from, cond-true, cond-false, ltb-true, false≢true}
use Rattle.std.proofs.lemmas.Fmt.{decimal_is_IsNumeral}
use Rattle.std.proofs.lemmas.List.{append-nil}
use Rattle.std.proofs.lemmas.Slice.Eq.{bytes_eq-Decides}
use Rattle.node_tree.specs.declared.scope_kind.ScopeKind.{ScopeKind}
use Rattle.node_tree.specs.declared.scope_kind.ScopeKind.TheVariants.{Simple, Counting}
use Rattle.node_tree.specs.declared.node.TreeNode.{TreeNode}
use Rattle.trace_text.specs.declared.header.Header.{Header}
use Rattle.trace_text.specs.Reading.{said, has_parent, node_of, header_text, is_within, header_of}
use Rattle.trace_text.specs.Texts.{line_feed, blank, apart, parent_text, mark_text, node_text, kind_text}
use Rattle.trace_text.specs.Words.{number_in, kind_in, parent_in, marked_in, node_at, with_parent, marks_in, node_in, header_at, with_hands, with_blocks, with_nodes, scope_numbers_in, hands_in, blocks_in, nodes_in, header_in}
use Rattle.trace_text.proofs.EventLaws.{numeral-other, no-digit}
use Rattle.trace_text.proofs.LineLaws.{IsLine, decimal-line, named-line, apart-line, lacks-codes}
use Rattle.trace_text.proofs.ReadLaws.{within-limits}
use Rattle.trace_text.proofs.WordLaws.{Lacks, in_halves-text, decimal-lacks, number_in-decimal}

-- the text of what is good says it
pub said-text : {X : Type 0} (text : X → List ℕ) (good : X → Bool) (read : Option X) (x : X) → read ≡ Some x → good x ≡ true → said text good read (text x) ≡ Some x
said-text text good read x is fine =
    ap (λ (o : Option _). said text good o (text x)) is
    ∙ cond-true (good x && bytes_eq (text x) (text x)) (Some x) None (and_from (good x) (bytes_eq (text x) (text x)) fine ((bytes_eq-Decides (text x) (text x)).1 refl))

kind-read : (kind : ScopeKind) → kind_in (kind_text kind) ≡ Some kind
unfolding kind_in
kind-read Simple = refl
kind-read Counting = refl

kind-blank : (kind : ScopeKind) → Lacks blank (kind_text kind)
kind-blank Simple = lacks-codes blank (codes "simple") refl
kind-blank Counting = lacks-codes blank (codes "counting") refl

kind-line : (kind : ScopeKind) → IsLine (kind_text kind)
kind-line Simple = lacks-codes line_feed (codes "simple") refl
kind-line Counting = lacks-codes line_feed (codes "counting") refl

decimal-blank : (n : ℕ) → n < 2 ^ 32 → Lacks blank (decimal n)
decimal-blank n fits = decimal-lacks blank n fits no-digit

scope_numbers-read : (kind : ScopeKind) (most : ℕ) → most < 2 ^ 32 → scope_numbers_in (apart (kind_text kind) (decimal most)) ≡ Some (header_at kind most)
unfolding scope_numbers_in
scope_numbers-read kind most fits =
    in_halves-text header_at kind_in number_in blank (kind_text kind) (decimal most) kind most (kind-blank kind) (kind-read kind) (number_in-decimal most fits)

hands-read : (hands : ℕ) (kind : ScopeKind) (most : ℕ) → hands < 2 ^ 32 → most < 2 ^ 32 →
    hands_in (apart (decimal hands) (apart (kind_text kind) (decimal most))) ≡ Some (with_hands hands (header_at kind most))
unfolding hands_in
hands-read hands kind most h m =
    in_halves-text with_hands number_in scope_numbers_in blank (decimal hands) (apart (kind_text kind) (decimal most)) hands (header_at kind most)
    (decimal-blank hands h) (number_in-decimal hands h) (scope_numbers-read kind most m)

blocks-read : (blocks hands : ℕ) (kind : ScopeKind) (most : ℕ) → blocks < 2 ^ 32 → hands < 2 ^ 32 → most < 2 ^ 32 →
    blocks_in (apart (decimal blocks) (apart (decimal hands) (apart (kind_text kind) (decimal most)))) ≡ Some (with_blocks blocks (with_hands hands (header_at kind most)))
unfolding blocks_in
blocks-read blocks hands kind most b h m =
    in_halves-text with_blocks number_in hands_in blank (decimal blocks) (apart (decimal hands) (apart (kind_text kind) (decimal most))) blocks (with_hands hands (header_at kind most))
    (decimal-blank blocks b) (number_in-decimal blocks b) (hands-read hands kind most h m)

nodes-number-read : (h : Header) → h.nodes < 2 ^ 32 → h.blocks < 2 ^ 32 → h.hands < 2 ^ 32 → h.most < 2 ^ 32 →
    nodes_in (apart (decimal h.nodes) (apart (decimal h.blocks) (apart (decimal h.hands) (apart (kind_text h.kind) (decimal h.most))))) ≡ Some h
unfolding nodes_in
nodes-number-read k n b h m =
    in_halves-text with_nodes number_in blocks_in blank (decimal k.nodes) (apart (decimal k.blocks) (apart (decimal k.hands) (apart (kind_text k.kind) (decimal k.most))))
    k.nodes (with_blocks k.blocks (with_hands k.hands (header_at k.kind k.most)))
    (decimal-blank k.nodes n) (number_in-decimal k.nodes n) (blocks-read k.blocks k.hands k.kind k.most b h m)

header-read : (h : Header) → h.nodes < 2 ^ 32 → h.blocks < 2 ^ 32 → h.hands < 2 ^ 32 → h.most < 2 ^ 32 → header_in (header_text h) ≡ Some h
unfolding header_in
header-read h n b a m = nodes-number-read h n b a m

-- the first line
pub header-back : (h : Header) → is_within h ≡ true → header_of (header_text h) ≡ Some h
header-back h within =
    let w = within-limits h within in
    said-text header_text is_within (header_in (header_text h)) h
    (header-read h (omega (arith, w.few_nodes)) (omega (arith, w.few_blocks)) (omega (arith, w.few_hands)) (omega (arith, w.few_associations))) within

pub header-line : (h : Header) → is_within h ≡ true → IsLine (header_text h)
header-line h within =
    let w = within-limits h within in
    let most = decimal-line h.most (omega (arith, w.few_associations)) in
    let kind = apart-line (kind_text h.kind) (decimal h.most) (kind-line h.kind) most in
    let hands = apart-line (decimal h.hands) (apart (kind_text h.kind) (decimal h.most)) (decimal-line h.hands (omega (arith, w.few_hands))) kind in
    let blocks = apart-line (decimal h.blocks) (apart (decimal h.hands) (apart (kind_text h.kind) (decimal h.most))) (decimal-line h.blocks (omega (arith, w.few_blocks))) hands in
    named-line (codes "exec ") (apart (decimal h.nodes) (apart (decimal h.blocks) (apart (decimal h.hands) (apart (kind_text h.kind) (decimal h.most))))) refl
    (apart-line (decimal h.nodes) (apart (decimal h.blocks) (apart (decimal h.hands) (apart (kind_text h.kind) (decimal h.most)))) (decimal-line h.nodes (omega (arith, w.few_nodes))) blocks)

-- a node
parent-read : (parent : Option ℕ) (nodes : ℕ) → nodes ≤ 65536 → option_map_or (λ p. nat_lt p nodes) parent true ≡ true → parent_in (parent_text parent) ≡ Some parent
unfolding parent_in
parent-read None nodes few below = refl
parent-read (Some p) nodes few below =
    let fits : p < 2 ^ 32 = omega (arith, ltb-true p nodes below, few) in
    let numeral = (decimal_is_IsNumeral p (omega (arith, fits))).0 in
    let other : bytes_eq (decimal p) (codes "-") ≡ false =
    ap (λ (l : List ℕ). bytes_eq l (codes "-")) (sym (append-nil (decimal p))) ∙ numeral-other (decimal p) [] [] 45 numeral (λ digit. absurd (omega (arith, digit.0))) in
    cond-false (bytes_eq (decimal p) (codes "-")) (Some None) (option_map (λ q. Some q) (number_in (decimal p))) other
    ∙ ap (option_map (λ q. Some q)) (number_in-decimal p fits)

parent-fits : (parent : Option ℕ) (nodes : ℕ) → nodes ≤ 65536 → option_map_or (λ p. nat_lt p nodes) parent true ≡ true → Lacks blank (parent_text parent) × IsLine (parent_text parent)
parent-fits None nodes few below = (lacks-codes blank (codes "-") refl, lacks-codes line_feed (codes "-") refl)
parent-fits (Some p) nodes few below =
    let fits : p < 2 ^ 32 = omega (arith, ltb-true p nodes below, few) in
    (decimal-blank p fits, decimal-line p fits)

marked-read : (parent : Option ℕ) (s u : Bool) → not (s && u) ≡ true → marked_in (mark_text (node_at parent s u)) ≡ Some (node_at None s u)
unfolding marked_in
marked-read parent true true one = absurd (false≢true one)
marked-read parent true false one = refl
marked-read parent false true one = refl
marked-read parent false false one = refl

mark-line : (parent : Option ℕ) (s u : Bool) → IsLine (mark_text (node_at parent s u))
mark-line parent true u = lacks-codes line_feed (codes "source") refl
mark-line parent false true = lacks-codes line_feed (codes "unstoppable") refl
mark-line parent false false = lacks-codes line_feed (codes "plain") refl

node-read : (node : TreeNode) (nodes : ℕ) → nodes ≤ 65536 → has_parent nodes node ≡ true → not (node.source && node.unstoppable) ≡ true → node_in (node_text node) ≡ Some node
unfolding node_in marks_in
node-read node nodes few below one =
    in_halves-text with_parent parent_in marked_in blank (parent_text node.parent) (mark_text node) node.parent (node_at None node.source node.unstoppable)
    (parent-fits node.parent nodes few below).0 (parent-read node.parent nodes few below) (marked-read node.parent node.source node.unstoppable one)

pub node-back : (node : TreeNode) (nodes : ℕ) → nodes ≤ 65536 → has_parent nodes node ≡ true → not (node.source && node.unstoppable) ≡ true → node_of nodes (node_text node) ≡ Some node
node-back node nodes few below one = said-text node_text (has_parent nodes) (node_in (node_text node)) node (node-read node nodes few below one) below

pub node-line : (node : TreeNode) (nodes : ℕ) → nodes ≤ 65536 → has_parent nodes node ≡ true → IsLine (node_text node)
node-line node nodes few below =
    named-line (codes "node ") (apart (parent_text node.parent) (mark_text node)) refl
    (apart-line (parent_text node.parent) (mark_text node) (parent-fits node.parent nodes few below).1 (mark-line node.parent node.source node.unstoppable))
