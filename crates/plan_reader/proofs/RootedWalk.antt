-- A walk that finds nothing wrong makes nodes of which one alone has no parent: the last.
use Rattle.std.proofs.Common.{◌≡◌, ℕ, zero, suc, Bool, true, false, cond, List, [], ◌∷◌, ◌++◌, Option, Some, None, refl, sym, ◌∙◌, subst}
use Rattle.std.specs.Prelude.{codes, option_and_then}
use Rattle.std.specs.Option.{option_map_or}
use Rattle.std.proofs.lemmas.Bool.{false≢true}
use Rattle.serde_json.specs.Data.{Data, Items, no_items, item}
use Rattle.serde_json.specs.Find.{get, as_array}
use Rattle.exec_job.specs.Takes.{is_element}
use Rattle.exec_job.specs.declared.job.Job.{Job}
use Rattle.exec_job.specs.declared.job.Job.TheVariants.{Neg}
use Rattle.plan_rules.specs.declared.node.Node.{Node}
use Rattle.plan_rules.specs.declared.node.Node.TheVariants as node
use Rattle.plan_shape.specs.declared.fault.BuildFault.{BuildFault}
use Rattle.plan_parts.specs.declared.reading.Faults.{Faults}
use Rattle.plan_parts.specs.declared.reading.Reading.{Reading}
use Rattle.plan_parts.specs.declared.reading.Reading.TheVariants.{Good, Bad}
use Rattle.plan_parts.specs.declared.reading.TheConstants.{FORM_FAULT, LIMIT_FAULT, NAME_FAULT}
use Rattle.plan_parts.specs.Jobs.{job_at}
use Rattle.plan_parts.specs.Objects.{has_unknown_key, text_at}
use Rattle.plan_parts.specs.Reading.{any_fault}
use Rattle.plan_reader.specs.Limits.{node_limit}
use Rattle.plan_reader.specs.NodeParts.{adaptor_node, leaf_node, let_node}
use Rattle.plan_reader.specs.NodeWords.{node_keys, node_named}
use Rattle.plan_reader.specs.Roots.{AreRoots, AreTidy, IsTidy}
use Rattle.plan_reader.specs.Walked.{Below, Listed, Walked, blame, child_at, each, last, list_at, made, make, named_node, none_listed, parts, take, take_bulk, walk, with_child}
use Rattle.plan_reader.specs.declared.node_word.NodeWord.{NodeWord}
use Rattle.plan_reader.specs.declared.node_word.NodeWord.TheVariants.{Leaf, Adaptor, Let, Bulk, WhenAll, Ahead}
use Rattle.plan_reader.proofs.FaultLemmas.{Tells, any-both, tells-job_at}
use Rattle.plan_reader.proofs.OverLemmas.{IsOver, Reads, is_late, is_late_adaptor, late_of, node_named-late, reads-adaptor, reads-leaf, reads-let}
use Rattle.plan_reader.proofs.FreeLemmas.{unused}
use Rattle.plan_reader.proofs.RootLemmas.{Rooted, rooted-append, rooted-none, rooted-over, roots_free}

-- what holds where nothing is wrong after a part of a walk: nothing was before, and these nodes alone of
-- those that were made have no parent
pub record Leading (w v : Walked) (roots : List ℕ) : Type 0 where
  pub sound : any_fault w.faults ≡ false
  pub version : v.is_first ≡ w.is_first
  pub rooted : Rooted w.is_first w.nodes v.nodes roots

abbrev pub Leads : Walked → Walked → List ℕ → Type 0
Leads w v roots = any_fault v.faults ≡ false → Leading w v roots

-- a fault that was noted stays
pub noted : (faults : Faults) (w : Walked) → any_fault faults ≡ true
    → any_fault (blame faults w).faults ≡ false → ⊥
noted faults w is none = false≢true (sym none ∙ any-both w.faults faults is)

pub leads-tidy : (w v : Walked) (roots : List ℕ) → Leads w v roots → IsTidy v
leads-tidy w v roots leads none =
    let l = leads none in
    subst (λ b. AreTidy b v.nodes) (sym l.version) l.rooted.tidy

pub leads-roots : (w v : Walked) (roots : List ℕ) → Leads w v roots → AreRoots v roots
leads-roots w v roots leads none =
    let l = leads none in
    unused v.nodes roots (roots_free w.is_first w.nodes v.nodes roots l.rooted) l.rooted.once

pub leads-none : (w : Walked) → IsTidy w → Leads w w []
leads-none w tidy none =
    record { sound = none; version = refl; rooted = rooted-none w.is_first w.nodes (tidy none) }

pub leads-append : (w v u : Walked) (ks js : List ℕ) → Leads w v ks → Leads v u js → Leads w u (ks ++ js)
leads-append w v u ks js first second none =
    let s = second none in
    let r = first s.sound in
    let next : Rooted w.is_first v.nodes u.nodes js =
    subst (λ b. Rooted b v.nodes u.nodes js) r.version s.rooted in
    record {
      sound = r.sound;
      version = s.version ∙ r.version;
      rooted = rooted-append w.is_first w.nodes v.nodes u.nodes ks js r.rooted next;
    }

-- one node more, over these
made-leads : (o : Option BuildFault) (n : Node) (w v : Walked) (roots : List ℕ) (late : Bool)
    → IsOver roots late n → (w.is_first ≡ true → late ≡ false) → Leads w v roots
    → Leads w (made o n v) (last (made o n v) ∷ [])
made-leads None n w v roots late over early leads none =
    let l = leads none in
    record {
      sound = l.sound;
      version = l.version;
      rooted =
          rooted-over w.is_first w.nodes v.nodes roots n l.rooted over.names
          (λ first. over.version ∙ early first);
    }
made-leads (Some fault) n w v roots late over early leads none = absurd (noted LIMIT_FAULT v refl none)

make-case : (b : Bool) (n : Node) (w v : Walked) (roots : List ℕ) (late : Bool) → any_fault v.faults ≡ b
    → IsOver roots late n → (w.is_first ≡ true → late ≡ false) → Leads w v roots
    → Leads w (cond b v (made (node_limit v.nodes n) n v)) (last (cond b v (made (node_limit v.nodes n) n v)) ∷ [])
make-case true n w v roots late is over early leads none = absurd (false≢true (sym none ∙ is))
make-case false n w v roots late is over early leads none =
    made-leads (node_limit v.nodes n) n w v roots late over early leads none

pub make-leads : (n : Node) (w v : Walked) (roots : List ℕ) (late : Bool)
    → IsOver roots late n → (w.is_first ≡ true → late ≡ false) → Leads w v roots
    → Leads w (make n v) (last (make n v) ∷ [])
unfolding make
make-leads n w v roots late over early leads = make-case (any_fault v.faults) n w v roots late refl over early leads

pub take-leads : (r : Reading Node) (w v : Walked) (roots : List ℕ) (late : Bool)
    → Reads roots late r → (w.is_first ≡ true → late ≡ false) → Leads w v roots
    → Leads w (take r v) (last (take r v) ∷ [])
take-leads (Good n) w v roots late reads early leads none =
    make-leads n w v roots late reads.over early leads none
take-leads (Bad faults) w v roots late reads early leads none = absurd (noted faults v reads.tells none)

over-bulk : (child : ℕ) (job : Job) → IsOver (child ∷ []) false (node.Bulk child job)
over-bulk child job = record { names = refl; version = refl }

leads-elements : (w v : Walked) (roots : List ℕ) → Leads w v roots
    → Leads w (record v { elements = false }) roots
leads-elements w v roots leads none =
    let l = leads none in record { sound = l.sound; version = l.version; rooted = l.rooted }

bulk-case : (b : Bool) (w v : Walked) (child : ℕ) (job : Job) → Leads w v (child ∷ [])
    → Leads w (cond b (make (node.Bulk child job) v) (make (node.Bulk child Neg) (record v { elements = false })))
    (last (cond b (make (node.Bulk child job) v) (make (node.Bulk child Neg) (record v { elements = false }))) ∷ [])
bulk-case true w v child job leads =
    make-leads (node.Bulk child job) w v (child ∷ []) false (over-bulk child job) (λ first. refl) leads
bulk-case false w v child job leads =
    make-leads (node.Bulk child Neg) w (record v { elements = false }) (child ∷ []) false (over-bulk child Neg)
    (λ first. refl) (leads-elements w v (child ∷ []) leads)

bulk-leads : (r : Reading Job) (w v : Walked) (child : ℕ) → Tells r → Leads w v (child ∷ [])
    → Leads w (take_bulk child r v) (last (take_bulk child r v) ∷ [])
bulk-leads (Good job) w v child tells leads none = bulk-case (is_element job) w v child job leads none
bulk-leads (Bad faults) w v child tells leads none = absurd (noted faults v tells none)

-- a walk below a node gives one root
abbrev pub GivesRoot : Below → Type 0
GivesRoot below = (d : Data) (w : Walked) → IsTidy w → Leads w (below d w) (last (below d w) ∷ [])

child-case : (below : Below) (o : Option Data) (w : Walked) → GivesRoot below → IsTidy w
    → Leads w (option_map_or (λ child. below child w) o (blame FORM_FAULT w))
    (last (option_map_or (λ child. below child w) o (blame FORM_FAULT w)) ∷ [])
child-case below (Some child) w gives tidy none = gives child w tidy none
child-case below None w gives tidy none = absurd (noted FORM_FAULT w refl none)

pub child-leads : (below : Below) (key : List ℕ) (d : Data) (w : Walked) → GivesRoot below → IsTidy w
    → Leads w (child_at below key d w) (last (child_at below key d w) ∷ [])
unfolding child_at
child-leads below key d w gives tidy = child-case below (get key d) w gives tidy

pub each-leads : (below : Below) (ds : Items) (w : Walked) (l : Listed) → GivesRoot below
    → Leads w l.walked l.numbers
    → Leads w (each below ds l).walked (each below ds l).numbers
each-leads below no_items w l gives leads = leads
each-leads below (item d ds) w l gives leads =
    each-leads below ds w (with_child below d l) gives
    (leads-append w l.walked (below d l.walked) l.numbers (last (below d l.walked) ∷ []) leads
    (gives d l.walked (leads-tidy w l.walked l.numbers leads)))

list-case : (below : Below) (o : Option Items) (w : Walked) → GivesRoot below → IsTidy w
    → Leads w (option_map_or (λ ds. each below ds (none_listed w)) o (none_listed (blame FORM_FAULT w))).walked
    (option_map_or (λ ds. each below ds (none_listed w)) o (none_listed (blame FORM_FAULT w))).numbers
list-case below (Some ds) w gives tidy none =
    each-leads below ds w (none_listed w) gives (leads-none w tidy) none
list-case below None w gives tidy none = absurd (noted FORM_FAULT w refl none)

pub list-leads : (below : Below) (key : List ℕ) (d : Data) (w : Walked) → GivesRoot below → IsTidy w
    → Leads w (list_at below key d w).walked (list_at below key d w).numbers
unfolding list_at
list-leads below key d w gives tidy = list-case below (option_and_then as_array (get key d)) w gives tidy

-- the parts of a node
parts-leads : (below : Below) (word : NodeWord) (d : Data) (w : Walked) → GivesRoot below
    → (w.is_first ≡ true → is_late word ≡ false) → IsTidy w
    → Leads w (parts below word d w) (last (parts below word d w) ∷ [])
unfolding parts
parts-leads below (Leaf leaf) d w gives early tidy =
    take-leads (leaf_node leaf d) w w [] false (reads-leaf leaf d) (λ first. refl) (leads-none w tidy)
parts-leads below (Adaptor adaptor) d w gives early tidy =
    let v : Walked = child_at below (codes "child") d w in
    take-leads (adaptor_node adaptor d (last v)) w v (last v ∷ []) (is_late_adaptor adaptor)
    (reads-adaptor adaptor d (last v)) early (child-leads below (codes "child") d w gives tidy)
parts-leads below (Let binding) d w gives early tidy =
    let v : Walked = child_at below (codes "child") d w in
    let l : Listed = list_at below (codes "bodies") d v in
    let first = child-leads below (codes "child") d w gives tidy in
    let second = list-leads below (codes "bodies") d v gives (leads-tidy w v (last v ∷ []) first) in
    take-leads (let_node binding d (last v) l.numbers) w l.walked (last v ∷ l.numbers) false
    (reads-let binding d (last v) l.numbers) (λ is. refl)
    (leads-append w v l.walked (last v ∷ []) l.numbers first second)
parts-leads below Bulk d w gives early tidy =
    let v : Walked = child_at below (codes "child") d w in
    bulk-leads (job_at (codes "job") d) w v (last v) (tells-job_at (codes "job") d)
    (child-leads below (codes "child") d w gives tidy)
parts-leads below WhenAll d w gives early tidy =
    let l : Listed = list_at below (codes "children") d w in
    make-leads (node.WhenAll l.numbers) w l.walked l.numbers false (record { names = refl; version = refl })
    (λ is. refl) (list-leads below (codes "children") d w gives tidy)
parts-leads below Ahead d w gives early tidy =
    let v : Walked = child_at below (codes "first") d w in
    let u : Walked = child_at below (codes "second") d v in
    let first = child-leads below (codes "first") d w gives tidy in
    let second = child-leads below (codes "second") d v gives (leads-tidy w v (last v ∷ []) first) in
    make-leads (node.Ahead (last v) (last u)) w u (last v ∷ last u ∷ []) true
    (record { names = refl; version = refl }) early
    (leads-append w v u (last v ∷ []) (last u ∷ []) first second)

keys-case : (b : Bool) (below : Below) (word : NodeWord) (d : Data) (w : Walked) → GivesRoot below
    → (w.is_first ≡ true → is_late word ≡ false) → IsTidy w
    → Leads w (parts below word d (cond b (blame NAME_FAULT w) w))
    (last (parts below word d (cond b (blame NAME_FAULT w) w)) ∷ [])
keys-case true below word d w gives early tidy none =
    let after = parts-leads below word d (blame NAME_FAULT w) gives early
    (λ other. absurd (noted NAME_FAULT w refl other)) none in
    absurd (noted NAME_FAULT w refl after.sound)
keys-case false below word d w gives early tidy none = parts-leads below word d w gives early tidy none

named-leads : (below : Below) (o : Option NodeWord) (d : Data) (w : Walked) → GivesRoot below
    → (w.is_first ≡ true → late_of o ≡ false) → IsTidy w
    → Leads w (named_node below o d w) (last (named_node below o d w) ∷ [])
named-leads below (Some word) d w gives early tidy none =
    keys-case (has_unknown_key (node_keys word) d) below word d w gives early tidy none
named-leads below None d w gives early tidy none = absurd (noted NAME_FAULT w refl none)

name-case : (below : Below) (o : Option (List ℕ)) (d : Data) (w : Walked) → GivesRoot below → IsTidy w
    → Leads w (option_map_or (λ name. named_node below (node_named w.is_first name) d w) o (blame FORM_FAULT w))
    (last (option_map_or (λ name. named_node below (node_named w.is_first name) d w) o (blame FORM_FAULT w)) ∷ [])
name-case below (Some name) d w gives tidy none =
    named-leads below (node_named w.is_first name) d w gives (node_named-late w.is_first name) tidy none
name-case below None d w gives tidy none = absurd (noted FORM_FAULT w refl none)

pub walk-gives_root : (levels : ℕ) → GivesRoot (walk levels)
unfolding walk
walk-gives_root zero d w tidy none = absurd (noted LIMIT_FAULT w refl none)
walk-gives_root (suc levels) d w tidy none =
    name-case (walk levels) (text_at (codes "do") d) d w (walk-gives_root levels) tidy none
