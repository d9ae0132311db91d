-- What is drawn, taken and drawn again.
use Rattle.std.proofs.Common.{◌≡◌, ℕ, ◌<◌, Bool, true, false, cond, ◌||◌, ltb, List, [], ◌∷◌, ◌++◌, length, Some, None, Option, sym, refl, ap, ◌∙◌, ap₂, arith, ltb-true}
use Rattle.error.specs.Numbers.{Ending, clean}
use Rattle.char_traits.specs.Chars.{breakz}
use Rattle.input.specs.View.{View, Keeps, exactly}
use Rattle.input.specs.Calls.{none_left, first_of, first_in_line}
use Rattle.input.proofs.Keeping.{never, one_is_none}
use Rattle.buffered.specs.declared.ring.Ring.{Ring}
use Rattle.source.specs.Met.{to_come}
use Rattle.buffered.specs.Ring.{queue}
use Rattle.buffered.specs.declared.feed.Feed.{Feed}
use Rattle.buffered.specs.Feed.{feed_ahead, held_count, Fills, Feeds}
use Rattle.buffered.specs.Buffered.{ring_manner}

abbrev pub view_of : {S : Type 0} → (S → List ℕ) → Feed S → ℕ → View S
view_of ahead x window =
    record {
      ahead = feed_ahead ahead x;
      window = window;
      ending = clean;
      met = x.met;
      told = false;
      manner = ring_manner;
      held = x.source;
    }

or_true : (b : Bool) → b || true ≡ true
or_true true = refl
or_true false = refl

or_left : (a b : Bool) → a ≡ true → a || b ≡ true
or_left true b h = refl
or_left false b h = absurd (never h)

or_false : (b : Bool) → b || false ≡ b
or_false true = refl
or_false false = refl

module _ {S : Type 0} (ahead : S → List ℕ) (kept : S → Ending) (ended : S → Bool) where
  pub feeds_on : (x y z : Feed S) → Feeds kept ended x y → Feeds kept ended y z → Feeds kept ended x z
  feeds_on x y z f g =
      record {
        stays = λ m. g.stays (f.stays m);
        keeps = g.keeps ∙ f.keeps;
        ends = λ h m. g.ends (f.ends h) m;
      }

  -- the same source beside another ring
  pub beside : (x : Feed S) (ring : Ring) → Feeds kept ended x (record { source = x.source; ring = ring; met = x.met })
  beside x ring = record { stays = λ m. m; keeps = refl; ends = λ h m. h m }

  -- a ring that is as long as its window, or has met its end, stays so
  pub stays_filled : (upto window : ℕ) (x y : Feed S) → (held_count x < window → x.met ≡ true) → Fills ahead upto x y
      → held_count y < window → y.met ≡ true
  stays_filled upto window x y filled f h = f.met ∙ or_left x.met _ (filled (omega (arith, f.grows)))

  module _ (x y : Feed S) (one : Fills ahead 1 x y) where
    -- the next character was looked for
    pub looked_next : y.met ≡ x.met || none_left (feed_ahead ahead x)
    looked_next = one.met ∙ ap (λ b. x.met || b) (one_is_none (feed_ahead ahead x))

    pub first_held : first_of (queue y.ring) ≡ first_of (feed_ahead ahead x)
    first_held = go (queue y.ring) refl
      where
        go : (q : List ℕ) → queue y.ring ≡ q → first_of q ≡ first_of (feed_ahead ahead x)
        go [] e =
            let m = one.full (omega (arith, ap length e)) in
            let none : feed_ahead ahead y ≡ [] = ap₂ (λ p b. p ++ cond b [] (ahead y.source)) e m in
            ap first_of (sym none ∙ one.same)
        go (c ∷ q) e = ap (λ p. first_of (p ++ to_come y.met (ahead y.source))) (sym e) ∙ ap first_of one.same

    widen : (a b d : Bool) → (d ≡ true → a ≡ true) → a || b ≡ a || (b || d)
    widen true b d h = refl
    widen false true d h = refl
    widen false false true h = h refl
    widen false false false h = refl

    pub keeps_next : (window : ℕ) → (length (feed_ahead ahead x) < window → x.met ≡ true)
        → Keeps (none_left (feed_ahead ahead x)) (exactly 0) (view_of ahead x window) (view_of ahead y window)
    keeps_next window waits =
        record {
          manner = refl;
          ending = refl;
          window = omega arith;
          still = one.still;
          steady = λ _. omega arith;
          stays = λ m. looked_next ∙ or_left x.met _ m;
          meets = λ e. looked_next ∙ ap (λ b. x.met || b) e ∙ or_true x.met;
          narrow = λ _. omega arith;
          late = λ _.
              looked_next
              ∙ widen x.met (none_left (feed_ahead ahead x)) (ltb (length (feed_ahead ahead y)) window)
              (λ t. let lt = ltb-true _ _ t in waits (omega (arith, ap length one.same)));
        }

-- nothing is read at the end of a line
pub line_break : (a : List ℕ) (r : Option ℕ) (c : ℕ) → r ≡ first_of a → r ≡ Some c → breakz c ≡ true → None ≡ first_in_line a
line_break [] r c e f b = refl
line_break (d ∷ a) r c e f b =
    let same : d ≡ c = cc in
    ap (λ (t : Bool). cond t None (Some d)) (sym (ap breakz same ∙ b))
