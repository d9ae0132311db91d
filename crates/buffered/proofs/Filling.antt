-- A ring as far as it has been filled.
use Rattle.std.proofs.Common.{◌≡◌, ℕ, ◌<◌, ◌≤◌, Bool, true, false, cond, ◌||◌, ltb, List, [], ◌∷◌, ◌++◌, length, sym, refl, ap, ◌∙◌, append_assoc, arith, length-append, lt-ltb, le-ltb}
use Rattle.error.specs.Numbers.{Ending}
use Rattle.input.proofs.Keeping.{never}
use Rattle.buffered.specs.declared.ring.Ring.{Ring}
use Rattle.source.specs.Met.{to_come}
use Rattle.buffered.specs.Ring.{queue}
use Rattle.buffered.specs.declared.feed.Feed.{Feed}
use Rattle.buffered.specs.Feed.{feed_ahead, held_count, Frugal, Fills, Feeds}

module _ {S : Type 0} (ahead : S → List ℕ) (kept : S → Ending) (ended : S → Bool) (upto : ℕ) (x : Feed S) where
  pub record Filling (y : Feed S) : Type 0 where
    pub same : feed_ahead ahead y ≡ feed_ahead ahead x
    pub grows : held_count x ≤ held_count y
    pub few : Frugal 0 upto x y
    pub met : y.met ≡ true → x.met || ltb (length (feed_ahead ahead x)) upto ≡ true
    pub unmet : y.met ≡ false → x.met ≡ false
    pub still : x.met ≡ true → y.source ≡ x.source
    pub feeds : Feeds kept ended x y

  pub fill_none : Filling x
  fill_none =
      record {
        same = refl;
        grows = omega arith;
        few = omega arith;
        met = λ t. ap (λ b. b || ltb (length (feed_ahead ahead x)) upto) t;
        unmet = λ t. t;
        still = λ _. refl;
        feeds = record { stays = λ m. m; keeps = refl; ends = λ h m. h m };
      }

  -- nothing was drawn if the end was met before
  unmoved : (y : Feed S) (t : S) → Filling y → y.met ≡ false → x.met ≡ true → t ≡ x.source
  unmoved y t i un m = absurd (never (sym (i.unmet un) ∙ m))

  all_open : (y : Feed S) → y.met ≡ false → feed_ahead ahead y ≡ queue y.ring ++ ahead y.source
  all_open y un = ap (λ (b : Bool). queue y.ring ++ cond b [] (ahead y.source)) un

  pub fill_more : (y : Feed S) (c : ℕ) (ring : Ring) (t : S) → Filling y → y.met ≡ false → held_count y < upto → queue ring ≡ queue y.ring ++ (c ∷ []) → ahead y.source ≡ c ∷ ahead t
      → kept t ≡ kept y.source → Filling (record { source = t; ring = ring; met = y.met })
  fill_more y c ring t i un lt q a k =
      record {
        same =
            ap (λ (b : Bool). queue ring ++ cond b [] (ahead t)) un ∙ ap (λ xs. xs ++ ahead t) q
            ∙ append_assoc (queue y.ring) (c ∷ []) (ahead t)
            ∙ ap (λ xs. queue y.ring ++ xs) (sym a)
            ∙ sym (all_open y un)
            ∙ i.same;
        grows = omega (arith, i.grows, ap length q ∙ length-append (queue y.ring) (c ∷ []));
        few = omega (arith, lt, ap length q ∙ length-append (queue y.ring) (c ∷ []));
        met = i.met;
        unmet = i.unmet;
        still = unmoved y t i un;
        feeds = record { stays = i.feeds.stays; keeps = k ∙ i.feeds.keeps; ends = λ h m. absurd (never (sym un ∙ m)) };
      }

  or_true : (a b : Bool) → b ≡ true → a || b ≡ true
  or_true true b h = refl
  or_true false b h = h

  pub fill_end : (y : Feed S) (t : S) → Filling y → y.met ≡ false → held_count y < upto → ahead y.source ≡ [] → kept t ≡ kept y.source
      → ended t ≡ true → Filling (record { source = t; ring = y.ring; met = true })
  fill_end y t i un lt none k e =
      let all : queue y.ring ++ [] ≡ feed_ahead ahead x = ap (λ xs. queue y.ring ++ xs) (sym none) ∙ sym (all_open y un) ∙ i.same in
      let few : length (feed_ahead ahead x) < upto = omega (arith, ap length (sym all) ∙ length-append (queue y.ring) []) in
      record {
        same = all;
        grows = i.grows;
        few = i.few;
        met = λ _. or_true x.met _ (lt-ltb _ _ few);
        unmet = λ t. absurd (never (sym t));
        still = unmoved y t i un;
        feeds = record { stays = λ _. refl; keeps = k ∙ i.feeds.keeps; ends = λ _ _. e };
      }

  pub fill_all : (y : Feed S) → Filling y → (y.met ≡ false → upto ≤ held_count y) → Fills ahead upto x y
  fill_all y i full = go y.met refl
    where
      go : (b : Bool) → y.met ≡ b → Fills ahead upto x y
      go true m = record { same = i.same; met = m ∙ sym (i.met m); full = λ _. m; grows = i.grows; few = i.few; still = i.still }
      go false m =
          let held = full m in
          let many : upto ≤ length (feed_ahead ahead x) = omega (arith, ap length (sym i.same) ∙ length-append (queue y.ring) (to_come y.met (ahead y.source))) in
          record {
            same = i.same;
            met = m ∙ sym (ap (λ b. b || ltb (length (feed_ahead ahead x)) upto) (i.unmet m) ∙ le-ltb _ _ many);
            full = λ lt. absurd (omega arith);
            grows = i.grows;
            few = i.few;
            still = i.still;
          }
