-- A marker that was asked for, where no answer counts as no.
use Rattle.std.proofs.Common.{◌≡◌, ℕ, ◌<◌, ◌≤◌, Bool, false, List, Ok, Err, Option, Result, ap, ◌∙◌}
use Rattle.std.specs.Result.{result_unwrap_or}
use Rattle.error.specs.Numbers.{outcome}
use Rattle.error.specs.declared.Refusal.{Refusal}
use Rattle.error.proofs.Numbered.{refusal_some}
use Rattle.input.specs.declared.Marker.{Marker}
use Rattle.input.specs.Tests.{flag, marker_in, Shown, Marks, is_marker}
use Rattle.input.proofs.Marking.{marker_told, marker_seen}

pub told_or : (which : Option Marker → Bool) (window : ℕ) (s : Shown) (ahead : ℕ → ℕ) (r : Result Bool Refusal) → 4 ≤ window → ((n : ℕ) → n < 4 → s.at n ≡ ahead n)
    → Marks window s.at s.marker → outcome flag r ≡ is_marker which s → result_unwrap_or r false ≡ which (marker_in ahead)
told_or which window s ahead (Ok is) wide same marks e = marker_told which window s ahead is wide same marks e
told_or which window s ahead (Err refusal) wide same marks e =
    absurd (refusal_some refusal (ap (λ (a : ℕ × List ℕ). a.0) (e ∙ marker_seen which window s wide marks)))
