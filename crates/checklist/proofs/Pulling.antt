-- Pulls as far as they have come.
use Rattle.std.proofs.Common.{◌≡◌, ℕ, ◌+◌, ◌-◌, ◌*◌, ◌^◌, ◌<◌, ◌≤◌, min, max, ap, ◌∙◌, arith}
use Rattle.checklist.specs.Pulls.{PulledAll}

-- the next place is the next multiple, or beyond every place
pub record Pulling (length step place made : ℕ) : Type 0 where
  pub at : place ≡ min (made * step) (2 ^ 64 - 1)
  pub fewer : made ≤ place
  pub near : 0 < made → (made - 1) * step < length

pub pulling_none : (length step : ℕ) → Pulling length step 0 0
pulling_none length step = record { at = omega arith; fewer = omega arith; near = λ h. absurd (omega arith) }

pub pulling_more : (length step place made next last : ℕ) → 1 ≤ step → place < length → length < 2 ^ 64 → Pulling length step place made → next ≡ min (place + step) (2 ^ 64 - 1)
    → last ≡ made + 1 → Pulling length step next last
pulling_more length step place made next last one more fits p e f =
    let here : made * step ≡ place = omega (arith, p.at) in
    let product : last * step ≡ made * step + step = ap (λ k. k * step) f ∙ (let r : (made + 1) * step ≡ made * step + step = omega arith in r) in
    let before : (last - 1) * step ≡ made * step = ap (λ k. k * step) (let r : last - 1 ≡ made = omega arith in r) in
    record { at = omega arith; fewer = omega (arith, p.fewer); near = λ _. omega arith }

pub pulled_all : (length every place made last : ℕ) → length ≤ place → Pulling length (max every 1) place made → last ≡ made + 1 → PulledAll length every last
pulled_all length every place made last over p e = record { before = made; all = e; far = omega (arith, p.at); near = p.near }
