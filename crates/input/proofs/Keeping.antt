-- One call after another.
use Rattle.std.proofs.Common.{◌≡◌, ℕ, ◌≤◌, Bool, true, false, ◌||◌, ltb, List, [], ◌∷◌, length, sym, refl, ap, ◌∙◌, arith, ltb-true, lt-ltb, le-ltb}
use Rattle.std.proofs.lemmas.Bool.{both_ways}
use Rattle.input.specs.View.{View, Manner, IsSound, Look, exactly, Keeps}
use Rattle.input.specs.Calls.{none_left}

pub never : false ≡ true → ⊥
never = both_ways false refl

pub prompt_of : (m n : Manner) → n ≡ m → m.prompt ≡ true → n.prompt ≡ true
prompt_of m n e p = ap (λ (x : Manner). x.prompt) e ∙ p

pub steady_of : (m n : Manner) → n ≡ m → m.steady ≡ true → n.steady ≡ true
steady_of m n e p = ap (λ (x : Manner). x.steady) e ∙ p

-- an input that stands still keeps what every call keeps
pub still : {H : Type 0} (v : View H) → IsSound v → Keeps false (exactly 0) v v
still v s =
    record {
      manner = refl;
      ending = refl;
      window = omega arith;
      stays = λ h. h;
      still = λ _. refl;
      meets = λ h. absurd (never h);
      narrow = λ _. omega arith;
      steady = λ _. omega arith;
      late = λ _. late v.met (ltb (length v.ahead) v.window) (λ h. s.waits (ltb-true _ _ h));
    }
  where
    late : (m b : Bool) → (b ≡ true → m ≡ true) → m ≡ (m || (false || b))
    late true b h = refl
    late false true h = h refl
    late false false h = refl

-- two calls in a row are one, where the first did not find the end and the second asked for nothing
pub both : {H : Type 0} (finds : Bool) (look : Look) (v u w : View H) → length w.ahead ≤ length u.ahead → Keeps false look v u → Keeps finds (exactly 0) u w
    → Keeps finds look v w
both finds look v u w h f g =
    record {
      manner = g.manner ∙ f.manner;
      ending = g.ending ∙ f.ending;
      window = omega (arith, f.window, g.window);
      stays = λ m. g.stays (f.stays m);
      still = λ m. g.still (f.stays m) ∙ f.still m;
      meets = g.meets;
      narrow = λ p. omega (arith, f.narrow p, g.narrow (prompt_of v.manner u.manner f.manner p));
      steady = λ p. omega (arith, f.steady p, g.steady (steady_of v.manner u.manner f.manner p));
      late = λ p.
          g.late (prompt_of v.manner u.manner f.manner p) ∙ ap (λ (b : Bool). b || (finds || ltb (length w.ahead) w.window)) (f.late p)
          ∙ join v.met (ltb (length u.ahead) u.window) finds (ltb (length w.ahead) w.window)
          (λ t. let lt = ltb-true _ _ t in lt-ltb _ _ (omega (arith, g.window)));
    }
  where
    join : (m x e y : Bool) → (x ≡ true → y ≡ true) → (m || (false || x)) || (e || y) ≡ m || (e || y)
    join true x e y h = refl
    join false true true y h = refl
    join false true false y h = sym (h refl)
    join false false e y h = refl

pub none_is : (a : List ℕ) → none_left a ≡ true → a ≡ []
none_is [] e = refl
none_is (c ∷ cs) e = absurd (never e)

pub one_is_none : (a : List ℕ) → ltb (length a) 1 ≡ none_left a
one_is_none [] = refl
one_is_none (c ∷ cs) = le-ltb (length (c ∷ cs)) 1 (omega arith)
