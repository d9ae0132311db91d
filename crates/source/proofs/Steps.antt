-- What a step of a source that may fail gives, by cases of its answer.
use Rattle.std.proofs.Common.{◌≡◌, ℕ, List, [], ◌∷◌, length, get_or, drop, Ok, Err, Some, None, sym, refl, ap, ap₂, arith}
use Rattle.error.specs.Numbers.{Ending, clean, fault_number, kind_number}
use Rattle.error.specs.declared.Fault.{Fault}
use Rattle.error.specs.declared.FaultKind.{FaultKind}
use Rattle.error.specs.declared.FaultKind.TheVariants.{InputIo, InputDecoding}
use Rattle.source.specs.Steps.{Step, step_number, step_of}

-- the first character is given and dropped; with none ahead nothing changes, and the end comes with its ending
abbrev pub Steps : Step → List ℕ → List ℕ → Ending → Type 0
Steps (Ok (Some c)) before after ending = before ≡ c ∷ after
Steps (Ok None) before after ending = (before ≡ []) × (after ≡ []) × (clean ≡ ending)
Steps (Err fault) before after ending = (before ≡ []) × (after ≡ []) × (Err fault ≡ ending)

one_kind : (a b : FaultKind) → kind_number a ≡ kind_number b → a ≡ b
one_kind InputIo InputIo e = refl
one_kind InputIo InputDecoding e = absurd (omega arith)
one_kind InputDecoding InputIo e = absurd (omega arith)
one_kind InputDecoding InputDecoding e = refl

-- a fault is determined by its number and its place
pub one_fault : (a b : Fault) → fault_number a ≡ fault_number b → a ≡ b
one_fault a b e =
    ap₂ (λ (k : FaultKind) (p : ℕ). record { kind = k; place = p })
    (one_kind a.kind b.kind (ap (λ (x : ℕ × List ℕ). x.0) e))
    (ap (λ (x : ℕ × List ℕ). get_or x.1 0 0) e)

-- the values of an ending that was told as one
values : (a b : Fault) → step_number (Err a) ≡ step_number (Err b) → fault_number a ≡ fault_number b
values a b e = ap (λ (x : ℕ × List ℕ). (get_or x.1 0 0, drop 1 x.1)) e

pub stepped : (r : Step) (before after : List ℕ) (ending : Ending) → step_number r ≡ step_of before ending → after ≡ drop 1 before → Steps r before after ending
stepped (Ok (Some d)) (c ∷ cs) after ending e a = ap₂ (λ x xs. x ∷ xs) (ap (λ (x : ℕ × List ℕ). get_or x.1 0 0) (sym e)) (sym a)
stepped (Ok (Some d)) [] after ending e a = absurd (omega (arith, ap (λ (x : ℕ × List ℕ). x.0) e))
stepped (Ok None) (c ∷ cs) after ending e a = absurd (omega (arith, ap (λ (x : ℕ × List ℕ). x.0) e))
stepped (Ok None) [] after (Ok done) e a = (refl, a, refl)
stepped (Ok None) [] after (Err fault) e a = absurd (omega (arith, ap (λ (x : ℕ × List ℕ). length x.1) e))
stepped (Err fault) (c ∷ cs) after ending e a = absurd (omega (arith, ap (λ (x : ℕ × List ℕ). x.0) e))
stepped (Err fault) [] after (Ok done) e a = absurd (omega (arith, ap (λ (x : ℕ × List ℕ). length x.1) e))
stepped (Err fault) [] after (Err other) e a = (refl, a, ap Err (one_fault fault other (values fault other e)))
