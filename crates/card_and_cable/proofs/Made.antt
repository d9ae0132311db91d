-- Two inputs are made, one of a text and one of a source, which is never refused.
use Rattle.std.proofs.Common.{◌≡◌, ℕ, List, [], sym, ap, subst}
use Rattle.error.proofs.Numbered.{refusal_some}
use Rattle.utf8.specs.Checking.{ChecksText}
use Rattle.reading.specs.SameReadings.{MadeTwo, both, first, second}

module _ (bytes : List ℕ) (answer : ℕ × List ℕ) where
  checked_as : (told : ℕ × List ℕ) → answer ≡ told → ChecksText bytes told → ChecksText bytes answer
  checked_as told e c = subst (λ (x : ℕ × List ℕ). ChecksText bytes x) (sym e) c

  pub checked_first : MadeTwo (λ x. ChecksText bytes x) (λ x. x ≡ (0, [])) answer → ChecksText bytes answer
  checked_first (both c d e) = checked_as (0, []) e c
  checked_first (first refusal c e) = checked_as _ e c
  checked_first (second refusal c d e) = absurd (refusal_some refusal (ap (λ (x : ℕ × List ℕ). x.0) d))

  pub checked_second : MadeTwo (λ x. x ≡ (0, [])) (λ x. ChecksText bytes x) answer → ChecksText bytes answer
  checked_second (both c d e) = checked_as (0, []) e d
  checked_second (first refusal c e) = absurd (refusal_some refusal (ap (λ (x : ℕ × List ℕ). x.0) c))
  checked_second (second refusal c d e) = checked_as _ e d
