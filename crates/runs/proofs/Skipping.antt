-- Blanks as far as they were skipped.
use Rattle.std.proofs.Common.{◌≡◌, ℕ, ◌+◌, ◌<◌, Bool, true, false, ◌||◌, eqb, [], ◌∷◌, ◌++◌, length, drop, Some, None, Option, sym, refl, ap, ◌∙◌, arith}
use Rattle.std.proofs.Math.Bool.{or-false}
use Rattle.input.specs.View.{View, IsSound, exactly}
use Rattle.input.specs.Calls.{Skips}
use Rattle.input.specs.Tests.{flag}
use Rattle.runs.specs.declared.SkipTabs.{SkipTabs}
use Rattle.runs.specs.declared.Colon.TheVariants.{Free}
use Rattle.runs.specs.Runs.{has, goes, separates, blanks_of}
use Rattle.runs.specs.Scans.{PeeksRun, SkipsRun, flags_of}
use Rattle.runs.proofs.Asking.{whole, run_short, ahead_short, all, skips_all}
use Rattle.runs.proofs.Running.{first_none, Running, first, run_more, run_ended}

-- n blanks were taken, from v to w, and these kinds of them
pub record Skipping {H : Type 0} (tabs : SkipTabs) (n : ℕ) (tab space : Bool) (v w : View H) : Type 0 where
  pub run : Running (goes (separates tabs) Free) whole n v w
  pub tabs_seen : has 0x09 (blanks_of tabs v.ahead) ≡ tab || has 0x09 (blanks_of tabs w.ahead)
  pub spaces_seen : has 0x20 (blanks_of tabs v.ahead) ≡ space || has 0x20 (blanks_of tabs w.ahead)

pub so_few : {H : Type 0} (tabs : SkipTabs) (n : ℕ) (tab space : Bool) (v w : View H) → IsSound v → Skipping tabs n tab space v w → n < 131072
so_few tabs n tab space v w s k =
    let go = goes (separates tabs) Free in
    omega (arith, k.run.so_far, ap length (all go v s), run_short go v.ahead, ahead_short v s)

or_more : (s a b : Bool) → s || (a || b) ≡ (s || a) || b
or_more true a b = refl
or_more false a b = refl

module _ {H : Type 0} (tabs : SkipTabs) (n : ℕ) (tab space : Bool) (v u o : View H) (r : Option ℕ) (s : IsSound v) (k : Skipping tabs n tab space v u) (peeks : PeeksRun (goes (separates tabs) Free) r u o) where
  more : n < whole
  more = omega (arith, so_few tabs n tab space v u s k)

  pub skipped_more : (c : ℕ) → Some c ≡ r → (w : View H) → Skips 1 o w → (new_tab new_space : Bool) → new_tab ≡ tab || eqb c 0x09 → new_space ≡ space || eqb c 0x20
      → Skipping tabs (n + 1) new_tab new_space v w
  skipped_more c is w skips nt ns i j =
      let go = goes (separates tabs) Free in
      let rest : blanks_of tabs u.ahead ≡ c ∷ blanks_of tabs w.ahead =
      (first go whole n v u o r k.run peeks c is more).run ∙ ap (λ xs. c ∷ blanks_of tabs xs) (ap (drop 1) (sym peeks.ahead) ∙ sym skips.ahead) in
      record {
        run = run_more go whole n v u o r k.run peeks c is more w skips;
        tabs_seen = k.tabs_seen ∙ ap (λ xs. tab || has 0x09 xs) rest ∙ or_more tab (eqb c 0x09) _ ∙ ap (λ b. b || has 0x09 (blanks_of tabs w.ahead)) (sym i);
        spaces_seen = k.spaces_seen ∙ ap (λ xs. space || has 0x20 xs) rest ∙ or_more space (eqb c 0x20) _ ∙ ap (λ b. b || has 0x20 (blanks_of tabs w.ahead)) (sym j);
      }

  -- no blank is next
  module _ (over : None ≡ r) where
    none : blanks_of tabs u.ahead ≡ []
    none = first_none (blanks_of tabs u.ahead) (over ∙ peeks.first)

    pub skipped_all : SkipsRun true (exactly 0) (blanks_of tabs v.ahead) n v o
    skipped_all =
        let go = goes (separates tabs) Free in
        skips_all go v s n o (run_ended go whole n v u o r k.run peeks over more)

    pub skipped_flags : flag tab ++ flag space ≡ flags_of (blanks_of tabs v.ahead)
    skipped_flags =
        let t : tab ≡ has 0x09 (blanks_of tabs v.ahead) = sym (k.tabs_seen ∙ ap (λ xs. tab || has 0x09 xs) none ∙ or-false tab) in
        let e : space ≡ has 0x20 (blanks_of tabs v.ahead) = sym (k.spaces_seen ∙ ap (λ xs. space || has 0x20 xs) none ∙ or-false space) in
        λ i. flag (t i) ++ flag (e i)
