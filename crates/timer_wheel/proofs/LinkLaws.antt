-- LinkLaws: nodes stay linked when one is put in or taken out.
use Rattle.std.proofs.Common.{◌≡◌, ◌≢◌, ℕ, zero, suc, ◌+◌, ◌<◌, ◌≤◌, Option, Some, None, sym, ap, ◌∙◌, inl, inr, arith}
use Rattle.std.proofs.lemmas.Bool.{cases_eq, cases_lt}
use Rattle.timer_wheel.specs.Links.{AreLinked, Descend}

-- a function that is written at one number
pub record Writes {A : Type 0} (old new : ℕ → A) (at : ℕ) (value : A) : Type 0 where
  pub here : new at ≡ value
  pub others : (k : ℕ) → k ≢ at → new k ≡ old k

-- a function that is written at two numbers
pub record WritesBoth {A : Type 0} (old new : ℕ → A) (i : ℕ) (v : A) (j : ℕ) (w : A) : Type 0 where
  pub first : new i ≡ v
  pub second : new j ≡ w
  pub others : (k : ℕ) → k ≢ i → k ≢ j → new k ≡ old k

pub WritesBoth-from : {A : Type 0} (old mid new : ℕ → A) (i : ℕ) (v : A) (j : ℕ) (w : A)
    → i ≢ j → Writes old mid i v → Writes mid new j w → WritesBoth old new i v j w
WritesBoth-from old mid new i v j w apart one two = record {
  first = two.others i apart ∙ one.here;
  second = two.here;
  others = λ k not_i not_j. two.others k not_j ∙ one.others k not_i;
}

pub WritesBoth-swapped : {A : Type 0} (old new : ℕ → A) (i : ℕ) (v : A) (j : ℕ) (w : A)
    → WritesBoth old new i v j w → WritesBoth old new j w i v
WritesBoth-swapped old new i v j w both =
    record { first = both.second; second = both.first; others = λ k not_j not_i. both.others k not_i not_j }

-- a node in no bucket is none that stands in one
pub apart : (home : ℕ → Option ℕ) (x y bucket : ℕ) → home x ≡ None → home y ≡ Some bucket → y ≢ x
apart home x y bucket none some same = cc

-- a node is taken out from between two others
pub AreLinked-take_out : (ahead behind ahead' behind' : ℕ → ℕ) (home home' : ℕ → Option ℕ) (x bucket : ℕ)
    → AreLinked ahead behind home → AreLinked behind ahead home → home x ≡ Some bucket
    → ahead x ≢ x → Writes ahead ahead' (behind x) (ahead x) → Writes behind behind' (ahead x) (behind x)
    → Writes home home' x None → AreLinked ahead' behind' home'
AreLinked-take_out ahead behind ahead' behind' home home' x bucket forth back in_it after_ne ws wb wh node b stands =
    let node_ne : node ≢ x = apart home' x node b wh.here stands in
    let stood : home node ≡ Some b = sym (wh.others node node_ne) ∙ stands in
    elim (cases_eq node (behind x)) [
      | inl before ↦
          let to : ahead' node ≡ ahead x = ap ahead' before ∙ ws.here in
          let same : Some bucket ≡ Some b = sym (back x bucket in_it).0 ∙ ap home (sym before) ∙ stood in
          (ap home' to ∙ wh.others (ahead x) after_ne ∙ (forth x bucket in_it).0 ∙ same, ap behind' to ∙ wb.here ∙ sym before)
      | inr other ↦
          let to : ahead' node ≡ ahead node = ws.others node other in
          let link = forth node b stood in
          let not_x : ahead node ≢ x = λ e. other (sym link.1 ∙ ap behind e) in
          let not_after : ahead node ≢ ahead x = λ e. node_ne (sym link.1 ∙ ap behind e ∙ (forth x bucket in_it).1) in
          (ap home' to ∙ wh.others (ahead node) not_x ∙ link.0, ap behind' to ∙ wb.others (ahead node) not_after ∙ link.1)
    ]

-- a node is put in between a head and the first node
pub AreLinked-put : (ahead behind ahead' behind' : ℕ → ℕ) (home home' : ℕ → Option ℕ) (x bucket head first : ℕ)
    → AreLinked ahead behind home → home x ≡ None → home head ≡ Some bucket → home first ≡ Some bucket → behind first ≡ head
    → WritesBoth ahead ahead' x first head x → WritesBoth behind behind' first x x head
    → Writes home home' x (Some bucket) → AreLinked ahead' behind' home'
AreLinked-put ahead behind ahead' behind' home home' x bucket head first forth free head_in first_in back ws wb wh node b stands =
    let first_ne : first ≢ x = apart home x first bucket free first_in in
    elim (cases_eq node x) [
      | inl here ↦
          let to : ahead' node ≡ first = ap ahead' here ∙ ws.first in
          let same : Some bucket ≡ Some b = sym wh.here ∙ ap home' (sym here) ∙ stands in
          (ap home' to ∙ wh.others first first_ne ∙ first_in ∙ same, ap behind' to ∙ wb.first ∙ sym here)
      | inr node_ne ↦
          let stood : home node ≡ Some b = sym (wh.others node node_ne) ∙ stands in
          elim (cases_eq node head) [
            | inl at ↦
                let to : ahead' node ≡ x = ap ahead' at ∙ ws.second in
                let same : Some bucket ≡ Some b = sym head_in ∙ ap home (sym at) ∙ stood in
                (ap home' to ∙ wh.here ∙ same, ap behind' to ∙ wb.second ∙ sym at)
            | inr other ↦
                let to : ahead' node ≡ ahead node = ws.others node node_ne other in
                let link = forth node b stood in
                let not_x : ahead node ≢ x = apart home x (ahead node) b free link.0 in
                let not_first : ahead node ≢ first = λ e. other (sym link.1 ∙ ap behind e ∙ back) in
                (ap home' to ∙ wh.others (ahead node) not_x ∙ link.0, ap behind' to ∙ wb.others (ahead node) not_first not_x ∙ link.1)
          ]
    ]

-- the ranks of those that stay in their lists still descend
pub Descend-take_out : (places : ℕ) (ahead behind ahead' : ℕ → ℕ) (home home' : ℕ → Option ℕ) (rank : ℕ → ℕ) (x bucket : ℕ)
    → Descend places ahead home rank → AreLinked behind ahead home → x < places → home x ≡ Some bucket
    → Writes ahead ahead' (behind x) (ahead x) → Writes home home' x None → Descend places ahead' home' rank
Descend-take_out places ahead behind ahead' home home' rank x bucket falls back place in_it ws wh node b within stands =
    let node_ne : node ≢ x = apart home' x node b wh.here stands in
    let stood : home node ≡ Some b = sym (wh.others node node_ne) ∙ stands in
    let down = falls node b within stood in
    elim (cases_eq node (behind x)) [
      | inl before ↦
          let to : ahead' node ≡ ahead x = ap ahead' before ∙ ws.here in
          let to_x : ahead node ≡ x = ap ahead before ∙ (back x bucket in_it).1 in
          omega (arith, falls x bucket place in_it, down, ap rank to, ap rank to_x)
      | inr other ↦ omega (arith, down, ap rank (ws.others node other))
    ]

-- and so do they with a new first one, whose rank is above that of the one that was first
pub Descend-put : (places : ℕ) (ahead behind ahead' : ℕ → ℕ) (home home' : ℕ → Option ℕ) (rank rank' : ℕ → ℕ)
    (x bucket head first : ℕ) → AreLinked ahead behind home → Descend places ahead home rank → places ≤ head
    → home x ≡ None → home first ≡ Some bucket → WritesBoth ahead ahead' x first head x
    → Writes home home' x (Some bucket) → Writes rank rank' x (rank first + 1) → Descend places ahead' home' rank'
Descend-put places ahead behind ahead' home home' rank rank' x bucket head first forth falls past free first_in ws wh wr
    node b within stands =
    elim (cases_eq node x) [
      | inl here ↦
          let to : ahead' node ≡ first = ap ahead' here ∙ ws.first in
          let first_ne : first ≢ x = apart home x first bucket free first_in in
          omega (arith, ap rank' to, wr.others first first_ne, ap rank' here, wr.here)
      | inr node_ne ↦
          let stood : home node ≡ Some b = sym (wh.others node node_ne) ∙ stands in
          let not_head : node ≢ head = omega arith in
          let to : ahead' node ≡ ahead node = ws.others node node_ne not_head in
          let not_x : ahead node ≢ x = apart home x (ahead node) b free (forth node b stood).0 in
          omega (arith, ap rank' to, wr.others (ahead node) not_x, wr.others node node_ne, falls node b within stood)
    ]

-- where a head follows itself, no place stands in its bucket
empty-go : (places : ℕ) (ahead behind : ℕ → ℕ) (home : ℕ → Option ℕ) (rank : ℕ → ℕ) (head bucket : ℕ)
    → AreLinked ahead behind home → Descend places ahead home rank → places ≤ head
    → ((node : ℕ) → places ≤ node → home node ≡ Some bucket → node ≡ head) → behind head ≡ head
    → (most node : ℕ) → rank node < most → node < places → home node ≡ Some bucket → ⊥
empty-go places ahead behind home rank head bucket forth falls past only back zero node under within stands = omega arith
empty-go places ahead behind home rank head bucket forth falls past only back (suc most) node under within stands =
    let link = forth node bucket stands in
    let down = falls node bucket within stands in
    elim (cases_lt (ahead node) places) [
      | inl place ↦
          empty-go places ahead behind home rank head bucket forth falls past only back most (ahead node)
          (omega (arith, down)) place link.0
      | inr beyond ↦
          let at : ahead node ≡ head = only (ahead node) beyond link.0 in
          let same : node ≡ head = sym link.1 ∙ ap behind at ∙ back in
          omega arith
    ]

pub none-stands : (places : ℕ) (ahead behind : ℕ → ℕ) (home : ℕ → Option ℕ) (rank : ℕ → ℕ) (head bucket : ℕ)
    → AreLinked ahead behind home → Descend places ahead home rank → places ≤ head
    → ((node : ℕ) → places ≤ node → home node ≡ Some bucket → node ≡ head) → behind head ≡ head
    → (node : ℕ) → node < places → home node ≢ Some bucket
none-stands places ahead behind home rank head bucket forth falls past only back node within stands =
    empty-go places ahead behind home rank head bucket forth falls past only back (rank node + 1) node (omega arith) within stands
