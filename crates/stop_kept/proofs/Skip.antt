-- A scan's skip of a free block keeps what is sound.
use Rattle.std.proofs.Common.{◌≡◌, ℕ, ◌<◌, ◌≤◌, true, false, inl, inr, refl, ap, ◌∙◌, subst, arith, ◌*◌, ◌&&◌, ◌+◌, ◌==◌, mul-le-mul_right}
use Rattle.std.proofs.lemmas.Bool.{and_parts, both_ways, cases_lt}
use Rattle.life_rules.specs.declared.event.Name.{Name}
use Rattle.life_rules.specs.declared.event.SourceRef.TheVariants.{Scope}
use Rattle.life_rules.specs.declared.words.BlockState.{BlockState}
use Rattle.life_rules.specs.declared.words.BlockState.TheVariants.{Free, Open, Retired}
use Rattle.life_rules.specs.Words.{is_open, is_free}
use Rattle.life_rules.specs.States.{State, size, is_live, name_of}
use Rattle.common_lemmas.specs.Sums.{total}
use Rattle.life_rules.specs.Scans.{index, is_next_in}
use Rattle.life_rules.specs.StopSteps.{may_skip, after_skip}
use Rattle.life_rules.specs.Sound.{Sound}
use Rattle.life_rules.proofs.Readings.{lives}
use Rattle.life_rules.proofs.ScanOrder.{next-first}
use Rattle.stop_kept.proofs.StopFrames.{related}
use Rattle.stop_kept.proofs.Standing.{runs-running}
use Rattle.stop_kept.proofs.ScanAt.{armed-live, running-live, nearest-for, Next, next_of, runs-other}
use Rattle.stop_kept.proofs.Passes.{passer, Passes, sound-passing}
use Rattle.stop_kept.proofs.Grounds.{some_below-at}

free-shut : (b : BlockState) → is_free b ≡ true → is_open b ≡ false
free-shut Free e = refl
free-shut Open e = cc
free-shut Retired e = cc

-- no place of a block that isn't open is live
none-live : (s : State) (b : ℕ) (y : Name) → is_open (s.block b).state ≡ false →
    is_live s y ≡ true →
    y.block ≡ b → ⊥
none-live s b y shut live at =
    both_ways _ shut (subst (λ i. is_open (s.block i).state ≡ true) at (lives s y live).is_opened)

-- a place from a node of row b on, and before the next row, is of row b
in_row : (b c k m n : ℕ) → m < k → b * k + n ≤ c * k + m → n < k → c * k + m < (b + 1) * k → c ≡ b
in_row b c k m n small from large below =
    elim (cases_lt c b) [
      | inl before ↦
          let step : c + 1 ≤ b = omega (arith, before) in
          let rows : (c + 1) * k ≤ b * k = mul-le-mul_right k step in
          absurd (omega (arith, rows, small, from))
      | inr after ↦
          elim (cases_lt b c) [
            | inl behind ↦
                let step : b + 1 ≤ c = omega (arith, behind) in
                let rows : (b + 1) * k ≤ c * k = mul-le-mul_right k step in
                absurd (omega (arith, rows, below))
            | inr here ↦ omega (arith, after, here)
          ]
    ]

skips : (s : State) (h b n : ℕ) → Sound s → h < s.hands → is_open (s.block b).state ≡ false →
    (g : Next s (s.view h) Scope b n) →
    Passes s h s.callback (s.view h).runs Scope g.i ((b + 1) * size s)
skips s h b n sound l shut g =
    let v = s.view h in
    let x : Name = name_of s b n in
    let j : ℕ = (b + 1) * size s in
    record {
      at = g.at;
      shut = λ b n e. refl;
      begins = λ y e. let fresh = sound.begins y e in
          record { callback = fresh.callback; source = fresh.source; children = fresh.children };
      armed = sound.armed;
      runs = λ y.
          ap (λ f. total f s.hands)
          (λ k i. related s h (passer v v.runs Scope j) (λ v u. u.runs y ≡ v.runs y) (λ _. refl) refl i k)
          ∙ sound.runs.runs y;
      others = λ y run. (
        run,
        λ near.
            let at : y ≡ x = runs-other s h Scope b n sound l g y run near in
            none-live s b y shut (running-live s y (runs-running s h y sound.runs l run)) (ap (λ z. z.block) at),
      );
      ran = λ y e. e;
      within = λ y e. refl;
      never = λ y e. e;
      still = λ y armed. (
        armed,
        λ near below.
            elim (cases_lt (index s y) g.i) [
              | inl before ↦ before
              | inr ahead ↦
                  let live : is_live s y ≡ true = armed-live s y armed in
                  let from : index s x ≤ index s y =
                  next-first s Scope g.i x y g.next live (nearest-for s y Scope near) ahead in
                  let row : y.block ≡ b =
                  in_row b y.block (size s) y.node n (lives s y live).node from g.node below in
                  absurd (none-live s b y shut live row)
            ],
      );
    }

pub sound-skip : (s : State) (h b : ℕ) → Sound s → h < s.hands → may_skip s h b ≡ true →
    Sound (after_skip s h b)
sound-skip s h b sound l may =
    let v = s.view h in
    let a = and_parts _ _ may in
    let d = and_parts _ _ a.1 in
    let shut : is_open (s.block b).state ≡ false = free-shut (s.block b).state d.0 in
    let at = some_below-at (λ n. is_next_in s v Scope (name_of s b n) && v.runs (name_of s b n) == 0) (size s) d.1 in
    let next : is_next_in s v Scope (name_of s b at.0) ≡ true = (and_parts _ _ at.2).0 in
    let g : Next s v Scope b at.0 = next_of s v Scope b at.0 at.1 next in
    sound-passing s h s.callback v.runs Scope g.i ((b + 1) * size s) (skips s h b at.0 sound l shut g) sound
