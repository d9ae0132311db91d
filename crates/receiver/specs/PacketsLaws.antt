-- What holds of all packets as a source.
use Rattle.std.specs.Prelude.{◌≡◌, ℕ, ◌+◌, ◌≤◌, true, List, [], ◌∷◌, length, Some, None, Option, refl}
use Rattle.std.proofs.Common.{arith}
use Rattle.std.proofs.Math.Utf8.{encodes, scalar, scalars}
use Rattle.std.proofs.lemmas.Bool.{cond_both, and_from}
use Rattle.error.specs.Limit.{text_limit}
use Rattle.source.specs.Codes.{stated_end}
use Rattle.source.specs.declared.codes.CodesEnding.{CodesEnding}
use Rattle.source.specs.declared.codes.CodesEnding.TheVariants.{Clean as ToEnd, InputIo as Failed}
use Rattle.source.specs.Steps.{Placed}
use Rattle.input.specs.Held.{fours}
use Rattle.receiver.specs.declared.packets.Packets.{Packets}
use Rattle.receiver.specs.SlotLimit.{slots_fit}
use Rattle.receiver.specs.Packets.{slot_chars, packets_ahead, packets_given, packets_ending}

received_characters : (slots : List (Option ℕ)) → scalars (slot_chars slots) ≡ true
received_characters [] = refl
received_characters (None ∷ slots) = received_characters slots
received_characters (Some c ∷ slots) =
    let P : List ℕ → Type 0 = λ cs. scalars cs ≡ true in
    let rest = received_characters slots in
    cond_both (scalar c) _ _ P (λ e. and_from (scalar c) _ e rest) (λ _. rest)

pub received_fewer : (slots : List (Option ℕ)) → length (slot_chars slots) ≤ length slots
received_fewer [] = omega arith
received_fewer (None ∷ slots) = omega (arith, received_fewer slots)
received_fewer (Some c ∷ slots) =
    let P : List ℕ → Type 0 = λ cs. length cs ≤ length (Some c ∷ slots) in
    let rest = received_fewer slots in
    cond_both (scalar c) _ _ P (λ _. omega (arith, rest)) (λ _. omega (arith, rest))

pub packets_characters : (p : Packets) → scalars (packets_ahead p) ≡ true
packets_characters p = received_characters p.slots.now

pub packets_short : (p : Packets) → length (encodes (packets_ahead p)) ≤ text_limit
packets_short p =
    let e = fours (packets_ahead p) in
    let f = received_fewer p.slots.now in
    let t = slots_fit (length p.slots.now) (omega (arith, p.short)) in
    omega arith

stated_placed : (ending : CodesEnding) (given : ℕ) (ahead : List ℕ)
    → Placed (stated_end ending (given + length ahead)) given ahead
stated_placed ToEnd given ahead = tt
stated_placed Failed given ahead = refl

pub packets_placed : (p : Packets) → Placed (packets_ending p) (packets_given p) (packets_ahead p)
packets_placed p = stated_placed p.ending p.given (packets_ahead p)
