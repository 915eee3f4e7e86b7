-- The first node of a file that is sought: a node comes before those below it.
use Rattle.std.specs.Prelude.{ℕ, zero, suc, ◌+◌, ◌-◌, ◌==◌, ◌||◌, ◌&&◌, Bool, true, false, List, codes, Option, Some, None, option_and_then, if◌then◌else◌}
use Rattle.std.specs.Option.{option_or}
use Rattle.serde_json.specs.Data.{Data, Items, no_items, item}
use Rattle.serde_json.specs.Find.{as_array, get}
use Rattle.plan_reader.specs.declared.node_word.Adaptor.TheVariants.{Unstoppable}
use Rattle.plan_reader.specs.declared.node_word.NodeWord.{NodeWord}
use Rattle.plan_reader.specs.declared.node_word.NodeWord.TheVariants.{Leaf, Adaptor, Let, Bulk, WhenAll, Ahead}
use Rattle.plan_places.specs.declared.path.Key.{Key}
use Rattle.plan_places.specs.declared.path.Key.TheVariants as key
use Rattle.plan_places.specs.declared.seeking.Search.{Search}
use Rattle.plan_places.specs.declared.sought.Sought.{Sought}
use Rattle.plan_places.specs.declared.sought.Sought.TheVariants as sought
use Rattle.plan_reasons.specs.Jobs.{other_job}
use Rattle.plan_reasons.specs.Nodes.{node_wrong}
use Rattle.plan_reasons.specs.Own.{bars_bulk, has, own_faults, node_word_at}
use Rattle.plan_places.specs.Paths.{at_item, at_key, key_name}

-- an `ahead`
abbrev pub is_ahead_word : Option NodeWord → Bool
is_ahead_word (Some Ahead) = true
is_ahead_word word = false

-- the value is a node that is sought
abbrev pub is_it : Bool → Sought → Data → Bool
is_it is_first (sought.Own fault) d = has fault (own_faults is_first d)
is_it is_first sought.OtherJob d = bars_bulk (node_word_at is_first d) d
is_it is_first (sought.Below left) d = left == 0
is_it is_first (sought.Ahead barred) d = barred && is_ahead_word (node_word_at is_first d)

-- no `ahead` may stand below a node of this name
abbrev pub bars : NodeWord → Bool
bars (Adaptor Unstoppable) = true
bars WhenAll = true
bars Ahead = true
bars word = false

-- what is sought below a node of this name
abbrev pub below : Sought → NodeWord → Sought
below (sought.Below left) word = sought.Below (left - 1)
below (sought.Ahead barred) word = sought.Ahead (barred || bars word)
below other word = other

-- why such a node is refused
unfoldable pub reason_of : Bool → Sought → Data → List ℕ
reason_of is_first (sought.Own fault) d = node_wrong fault is_first d
reason_of is_first sought.OtherJob d = other_job d
reason_of is_first (sought.Below left) d = codes "the node stands more than 56 deep"
reason_of is_first (sought.Ahead barred) d =
    codes "an ahead stands below a when_all, an unstoppable or another ahead"

-- a node that was found: its path, and why it is refused
pub record Site : Type 0 where
  pub path : List ℕ
  pub reason : List ℕ

abbrev pub site_at : Bool → Sought → List ℕ → Data → Site
site_at is_first sought path d = record { path = path; reason = reason_of is_first sought d }

-- what is found at a node, whose path this is
abbrev pub Finds : Type 0
Finds = List ℕ → Data → Option Site

-- at the node at a key
unfoldable pub in_child : Finds → Key → Finds
in_child finds key path d = option_and_then (finds (at_key path key)) (get (key_name key) d)

-- at the nodes of an array, from this number on
abbrev pub in_items : Finds → ℕ → List ℕ → Items → Option Site
in_items finds index path no_items = None
in_items finds index path (item d ds) =
    option_or (finds (at_item path index) d) (in_items finds (index + 1) path ds)

-- at the nodes of the array at a key
unfoldable pub in_array : Finds → Key → Finds
in_array finds key path d =
    option_and_then (in_items finds 0 (at_key path key))
    (option_and_then as_array (get (key_name key) d))

-- at the nodes below a node of this name
unfoldable pub in_parts : Finds → NodeWord → Finds
in_parts finds (Leaf leaf) path d = None
in_parts finds (Adaptor adaptor) path d = in_child finds key.Child path d
in_parts finds Bulk path d = in_child finds key.Child path d
in_parts finds (Let binding) path d =
    option_or (in_child finds key.Child path d) (in_array finds key.Bodies path d)
in_parts finds WhenAll path d = in_array finds key.Children path d
in_parts finds Ahead path d =
    option_or (in_child finds key.First path d) (in_child finds key.Second path d)

-- at the nodes below a node, if its name is known
abbrev pub in_known : (NodeWord → Finds) → Option NodeWord → Finds
in_known finds None path d = None
in_known finds (Some word) path d = in_parts (finds word) word path d

-- the first node that is sought, among this one and those below it, so many levels deep
unfoldable pub first_at : Bool → ℕ → Sought → Finds
first_at is_first zero sought path d = None
first_at is_first (suc levels) sought path d =
    if is_it is_first sought d then Some (site_at is_first sought path d)
    else in_known (λ word. first_at is_first levels (below sought word))
    (node_word_at is_first d) path d

-- what a search finds
abbrev pub found_by : Search → Finds
found_by search = first_at search.is_first search.levels search.sought
