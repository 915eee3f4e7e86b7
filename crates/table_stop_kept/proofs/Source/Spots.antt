-- Where a source's word stands, what it says, and when the source is live.
use Rattle.std.proofs.Common.{◌≡◌, ℕ, true}
use Rattle.life_rules.specs.declared.words.Bits.{Bits}
use Rattle.life_rules.specs.declared.event.SourceRef.{SourceRef}
use Rattle.life_rules.specs.declared.event.SourceRef.TheVariants.{Scope, Node}
use Rattle.life_rules.specs.States.{State, is_live}
use Rattle.table_words.specs.Stamps.{stamp_of}
use Rattle.table_words.specs.Controls.{source_read}
use Rattle.table_words.specs.Layouts.{TheScope, OfBlock, OfControl, OfCallback}
use Rattle.table_steps.specs.Sights.{spot_of}

-- the word says these bits of the source: that of a node at its generation
abbrev pub SaysOf : ℕ → Bits → SourceRef → Type 0
SaysOf value bits Scope = source_read value ≡ bits
SaysOf value bits (Node y) = (source_read value ≡ bits) × (stamp_of value ≡ y.generation)

-- the source is the scope's, or of a live node
abbrev pub IsLiveSource : State → SourceRef → Type 0
IsLiveSource s Scope = Unit {0}
IsLiveSource s (Node y) = is_live s y ≡ true

pub no-block : (source : SourceRef) (i : ℕ) → spot_of source ≡ OfBlock i → ⊥
no-block Scope i e = cc
no-block (Node y) i e = cc

pub no-control : (source : SourceRef) (j m : ℕ) → spot_of source ≡ OfControl j m → ⊥
no-control Scope j m e = cc
no-control (Node y) j m e = cc

pub no-callback : (source : SourceRef) (j m : ℕ) → spot_of source ≡ OfCallback j m → ⊥
no-callback Scope j m e = cc
no-callback (Node y) j m e = cc

pub no-scope : (source : SourceRef) → spot_of source ≡ TheScope → ⊥
no-scope Scope e = cc
no-scope (Node y) e = cc
