-- How often a cable is pulled.
use Rattle.std.specs.Prelude.{◌≡◌, ℕ, ◌+◌, ◌-◌, ◌*◌, ◌<◌, ◌≤◌, max}

-- once at 0 and at each multiple of `every`, or of 1 if that is 0, that lies before the end, and once at the end
pub record PulledAll (length every made : ℕ) : Type 0 where
  pub before : ℕ
  pub all : made ≡ before + 1
  pub far : length ≤ before * max every 1
  pub near : 0 < before → (before - 1) * max every 1 < length
