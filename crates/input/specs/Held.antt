-- Characters held beside those that are still to come.
use Rattle.std.specs.Prelude.{◌≡◌, ℕ, zero, suc, ◌+◌, ◌*◌, ◌<◌, ◌≤◌, true, ◌⊎◌, List, [], ◌∷◌, ◌++◌, length, take, slice_index, slice_set, refl}
use Rattle.std.proofs.lemmas.Bool.{and_from, and_parts}
use Rattle.std.proofs.Common.{sym, ap, ◌∙◌, inl, inr, ⊎_elim, arith, length-append}
use Rattle.std.proofs.Math.Decide.{dec_lt}
use Rattle.std.proofs.Math.ListN.{get_or-append, get_or-eq_default}
use Rattle.std.proofs.Math.Utf8.{scalar, scalars, encode, encodes}
use Rattle.std.proofs.lemmas.Str.{encodes-append, length-encode, len_utf8_bounds}
use Rattle.error.specs.Limit.{text_limit}

pub held_characters : (held come : List ℕ) → scalars held ≡ true → scalars come ≡ true
    → scalars (held ++ come) ≡ true
held_characters [] come f g = g
held_characters (c ∷ held) come f g =
    let p = and_parts (scalar c) _ f in and_from (scalar c) _ p.0 (held_characters held come p.1 g)

pub scalars_take : (n : ℕ) (cs : List ℕ) → scalars cs ≡ true → scalars (take n cs) ≡ true
scalars_take zero cs f = refl
scalars_take (suc n) [] f = refl
scalars_take (suc n) (c ∷ cs) f =
    let p = and_parts (scalar c) _ f in and_from (scalar c) _ p.0 (scalars_take n cs p.1)

pub scalars_set : (cs : List ℕ) (k c : ℕ) → scalar c ≡ true → scalars cs ≡ true
    → scalars (slice_set cs k c) ≡ true
scalars_set [] k c s f = f
scalars_set (x ∷ cs) zero c s f = and_from (scalar c) _ s (and_parts (scalar x) _ f).1
scalars_set (x ∷ cs) (suc k) c s f =
    let p = and_parts (scalar x) _ f in and_from (scalar x) _ p.0 (scalars_set cs k c s p.1)

-- four bytes each at most
pub fours : (cs : List ℕ) → length (encodes cs) ≤ 4 * length cs
fours [] = omega arith
fours (c ∷ cs) =
    omega (
      arith,
      length-encode c,
      (len_utf8_bounds c).1,
      fours cs,
      length-append (encode c) (encodes cs),
    )

-- sixteen characters are at most 64 bytes
pub held_short : (held come : List ℕ) → length held ≤ 16 → length (encodes come) ≤ text_limit
    → length (encodes (held ++ come)) ≤ text_limit + 64
held_short held come h k =
    let parts = ap length (encodes-append held come) in
    omega (arith, parts ∙ length-append (encodes held) (encodes come), fours held)

-- what is held is shown, and NUL where nothing comes after it
pub held_shows : (held come : List ℕ) (n : ℕ) → (length held ≤ n → come ≡ [])
    → slice_index held n ≡ slice_index (held ++ come) n
held_shows held come n none = ⊎_elim inside outside (split n (length held))
  where
    split : (a b : ℕ) → (a < b) ⊎ (b ≤ a)
    split a b = elim (dec_lt a b) [ yes p ↦ inl p | no p ↦ inr (omega arith) ]

    inside : n < length held → slice_index held n ≡ slice_index (held ++ come) n
    inside l = sym (get_or-append held come 0 n l)

    outside : length held ≤ n → slice_index held n ≡ slice_index (held ++ come) n
    outside l =
        let all : length (held ++ come) ≤ n =
        omega (arith, length-append held come, ap length (none l)) in
        get_or-eq_default held 0 l ∙ sym (get_or-eq_default (held ++ come) 0 all)
