-- A skip one character after another, each looked for, up to the end.
use Rattle.std.proofs.Common.{◌≡◌, ℕ, ◌+◌, ◌-◌, ◌<◌, ◌≤◌, Bool, true, false, ◌||◌, ltb, List, [], ◌∷◌, length, drop, is_some, Option, sym, refl, ap, ◌∙◌, subst, arith, lt-ltb, le-ltb, length-drop, drop_of_length-le, drop-drop}
use Rattle.std.proofs.Math.Decide.{dec_lt}
use Rattle.input.specs.View.{View, IsSound, Look, exactly, Keeps}
use Rattle.input.specs.Calls.{none_left, first_of, TakesNext, Skips}
use Rattle.input.proofs.Keeping.{never, prompt_of, steady_of, still, both}

or_true : (b : Bool) → true ≡ b || true
or_true true = refl
or_true false = refl

-- two calls in a row are one, where the second found the end and asked for nothing
to_end : {H : Type 0} (finds : Bool) (look : Look) (v u w : View H) → Keeps finds look v u → Keeps true (exactly 0) u w → Keeps true look v w
to_end finds look v u w f g =
    record {
      manner = g.manner ∙ f.manner;
      ending = g.ending ∙ f.ending;
      window = omega (arith, f.window, g.window);
      stays = λ m. g.stays (f.stays m);
      still = λ m. g.still (f.stays m) ∙ f.still m;
      meets = g.meets;
      narrow = λ p. omega (arith, f.narrow p, g.narrow (prompt_of v.manner u.manner f.manner p));
      steady = λ p. omega (arith, f.steady p, g.steady (steady_of v.manner u.manner f.manner p));
      late = λ _. g.meets refl ∙ or_true v.met;
    }

none_of : (a : List ℕ) → length a ≡ 0 → none_left a ≡ true
none_of [] e = refl
none_of (c ∷ a) e = absurd (omega arith)

some_of : (a : List ℕ) → 0 < length a → none_left a ≡ false
some_of [] e = absurd (omega arith)
some_of (c ∷ a) e = refl

first_none : (a : List ℕ) → is_some (first_of a) ≡ false → length a ≡ 0
first_none [] h = refl
first_none (c ∷ a) h = absurd (never (sym h))

module _ {H : Type 0} where
  finding : (b c : Bool) (v w : View H) → b ≡ c → Keeps b (exactly 0) v w → Keeps c (exactly 0) v w
  finding b c v w e k = subst (λ (f : Bool). Keeps f (exactly 0) v w) e k

  -- one more is taken, if one is ahead
  skips_more : (done : ℕ) (v u w : View H) (r : Option ℕ) → Skips done v u → TakesNext r u w → Skips (done + 1) v w
  skips_more done v u w r s t =
      let len : length u.ahead ≡ length v.ahead - done = ap length s.ahead ∙ length-drop done v.ahead in
      let fewer : length w.ahead ≤ length u.ahead = omega (arith, ap length t.ahead ∙ length-drop 1 u.ahead) in
      let P : Type 0 = Keeps (ltb (length v.ahead) (done + 1)) (exactly 0) v w in
      let past : length v.ahead < done + 1 → P =
      λ lt. finding _ _ v w (sym (lt-ltb _ _ lt))
      (to_end _ (exactly 0) v u w s.keeps (finding _ _ u w (none_of u.ahead (omega arith)) t.keeps)) in
      let within : done + 1 ≤ length v.ahead → P =
      λ le. finding _ _ v w (sym (le-ltb _ _ le))
      (both false (exactly 0) v u w fewer (finding _ _ v u (le-ltb _ _ (omega arith)) s.keeps)
      (finding _ _ u w (some_of u.ahead (omega arith)) t.keeps)) in
      record {
        keeps = elim (dec_lt (length v.ahead) (done + 1)) [ yes lt ↦ past lt | no ge ↦ within (omega arith) ];
        told = t.told ∙ s.told;
        ahead = t.ahead ∙ ap (drop 1) s.ahead ∙ drop-drop 1 done v.ahead;
      }

  -- of so many, so many are left
  pub skips_left : (count left : ℕ) (v u w : View H) (r : Option ℕ) → left ≤ count → 0 < left → Skips (count - left) v u → TakesNext r u w
      → Skips (count - (left - 1)) v w
  skips_left count left v u w r few some s t =
      let one : (count - left) + 1 ≡ count - (left - 1) = omega arith in
      subst (λ (n : ℕ). Skips n v w) one (skips_more (count - left) v u w r s t)

  pub skips_none : (count : ℕ) (v : View H) → IsSound v → Skips (count - count) v v
  skips_none count v sound =
      let none : 0 ≡ count - count = omega arith in
      let start : Skips 0 v v = record { keeps = finding _ _ v v (sym (le-ltb _ _ (omega arith))) (still v sound); told = refl; ahead = refl } in
      subst (λ (n : ℕ). Skips n v v) none start

  -- none was ahead, however many were left
  pub skips_end : (count left : ℕ) (v u w : View H) (r : Option ℕ) → left ≤ count → 0 < left → Skips (count - left) v u → TakesNext r u w → is_some r ≡ false
      → Skips count v w
  skips_end count left v u w r few some s t none =
      let len : length u.ahead ≡ length v.ahead - (count - left) = ap length s.ahead ∙ length-drop (count - left) v.ahead in
      let gone : length u.ahead ≡ 0 = first_none u.ahead (ap is_some (sym t.first) ∙ none) in
      let next = skips_more (count - left) v u w r s t in
      let all : ltb (length v.ahead) ((count - left) + 1) ≡ ltb (length v.ahead) count =
      lt-ltb _ _ (omega arith) ∙ sym (lt-ltb _ _ (omega arith)) in
      record {
        keeps = finding _ _ v w all next.keeps;
        told = next.told;
        ahead = next.ahead ∙ drop_of_length-le v.ahead (omega arith) ∙ sym (drop_of_length-le v.ahead (omega arith));
      }
