-- A count of slots fits a place.
use Rattle.std.proofs.Common.{ℕ, ◌<◌, ◌≤◌, arith}
use Rattle.error.specs.Limit.{place_fits}
use Rattle.receiver.specs.SlotLimit.{slot_limit, slots_fit}

pub few : (n : ℕ) → n ≤ slot_limit → n < 65536
few n h = omega (arith, place_fits n (omega (arith, slots_fit n h)))
