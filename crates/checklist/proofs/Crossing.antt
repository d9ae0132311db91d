-- Runs within a line pass no line end.
use Rattle.std.proofs.Common.{◌≡◌, ℕ, suc, ◌+◌, ◌≤◌, Bool, true, false, cond, not, ◌&&◌, List, [], ◌∷◌, ◌++◌, length, get_or, drop, sym, refl, ap, ◌∙◌, arith, length-drop}
use mathlib.Core.List.{IsPrefix}
use Rattle.std.proofs.lemmas.Bool.Decides.{nat_tests}
use Rattle.char_traits.specs.Chars.{breakz, printable, not_breakz, printable_not_breakz, plain_safe}
use Rattle.input.specs.Calls.{none_left}
use Rattle.input.proofs.Keeping.{never}
use Rattle.runs.specs.declared.SkipTabs.{SkipTabs}
use Rattle.runs.specs.declared.SkipTabs.TheVariants.{Yes, No}
use Rattle.runs.specs.declared.Colon.TheVariants.{Free, Leads}
use Rattle.runs.specs.Runs.{goes, run_by, run_of, separates, blanks_of, after_blanks, at_hash, comment_of, eol_run}
use Rattle.runs.proofs.Fronts.{prefix_left, run_prefix, eol_prefix}
use Rattle.checklist.specs.Lines.{line_ends}

ends_append : (a b : List ℕ) → line_ends (a ++ b) ≡ line_ends a + line_ends b
ends_append [] b = omega arith
ends_append (c ∷ a) b =
    elim (breakz c) as (λ x. cond x (suc (line_ends (a ++ b))) (line_ends (a ++ b)) ≡ cond x (suc (line_ends a)) (line_ends a) + line_ends b)
    [ true ↦ omega (arith, ends_append a b) | false ↦ ends_append a b ]

-- a run of characters that end no line
run_free : (go : ℕ → ℕ → Bool) → ((c after : ℕ) → go c after ≡ true → breakz c ≡ false) → (a : List ℕ) → line_ends (run_by go a) ≡ 0
run_free go in_line [] = refl
run_free go in_line (c ∷ a) = step (run_free go in_line a) (go c (get_or a 0 0)) refl
  where
    step : line_ends (run_by go a) ≡ 0 → (b : Bool) → go c (get_or a 0 0) ≡ b → line_ends (cond b (c ∷ run_by go a) []) ≡ 0
    step rest true e = ap (λ (x : Bool). cond x (suc (line_ends (run_by go a))) (line_ends (run_by go a))) (in_line c (get_or a 0 0) e) ∙ rest
    step rest false e = refl

pub front_keeps : (run a : List ℕ) → IsPrefix run a → line_ends run ≡ 0 → line_ends (drop (length run) a) ≡ line_ends a
front_keeps run a f free = let e = ap line_ends (prefix_left run a f) ∙ ends_append run (drop (length run) a) in omega arith

separates_in_line : (tabs : SkipTabs) (c : ℕ) → separates tabs c ≡ true → breakz c ≡ false
separates_in_line Yes c e = grind (arith, nat_tests)
separates_in_line No c e = grind (arith, nat_tests)

not_breakz_in_line : (c : ℕ) → not_breakz c ≡ true → breakz c ≡ false
not_breakz_in_line c e = grind (arith, nat_tests)

plain_in_line : (c after : ℕ) → goes (plain_safe false) Leads c after ≡ true → breakz c ≡ false
plain_in_line c after e = grind (arith, nat_tests)

printable_in_line : (c : ℕ) → printable_not_breakz c ≡ true → breakz c ≡ false
printable_in_line c e = second (printable c) (breakz c) e
  where
    second : (a b : Bool) → a && not b ≡ true → b ≡ false
    second true false e = refl
    second true true e = sym e
    second false b e = absurd (never e)

comment_free : (a : List ℕ) → line_ends (comment_of a) ≡ 0
comment_free a =
    elim (at_hash a) as (λ b. line_ends (cond b (run_of not_breakz a) []) ≡ 0) [ true ↦ run_free (goes not_breakz Free) (λ c _. not_breakz_in_line c) a | false ↦ refl ]

eol_free : (tabs : SkipTabs) (a : List ℕ) → line_ends (eol_run tabs a) ≡ 0
eol_free tabs a =
    let b = run_free (goes (separates tabs) Free) (λ c _. separates_in_line tabs c) a in
    let m : line_ends (cond (none_left (blanks_of tabs a)) [] (comment_of (after_blanks tabs a))) ≡ 0 =
    elim (none_left (blanks_of tabs a)) as (λ x. line_ends (cond x [] (comment_of (after_blanks tabs a))) ≡ 0) [ true ↦ refl | false ↦ comment_free (after_blanks tabs a) ] in
    let e = ends_append (blanks_of tabs a) (cond (none_left (blanks_of tabs a)) [] (comment_of (after_blanks tabs a))) in
    omega arith

-- what a skip leaves ahead, by the number that it told
module _ (n : ℕ) (before after : List ℕ) where
  left : (run : List ℕ) → IsPrefix run before → line_ends run ≡ 0 → n ≡ length run → after ≡ drop n before → line_ends after ≡ line_ends before
  left run f free number e = ap line_ends (e ∙ ap (λ k. drop k before) number) ∙ front_keeps run before f free

  pub eol_keeps : (tabs : SkipTabs) → n ≡ length (eol_run tabs before) → after ≡ drop n before → line_ends after ≡ line_ends before
  eol_keeps tabs = left (eol_run tabs before) (eol_prefix tabs before) (eol_free tabs before)

  pub plain_keeps : n ≡ length (run_by (goes (plain_safe false) Leads) before) → after ≡ drop n before → line_ends after ≡ line_ends before
  plain_keeps = left (run_by (goes (plain_safe false) Leads) before) (run_prefix (goes (plain_safe false) Leads) before) (run_free (goes (plain_safe false) Leads) plain_in_line before)

  pub printable_keeps : n ≡ length (run_of printable_not_breakz before) → after ≡ drop n before → line_ends after ≡ line_ends before
  printable_keeps =
      left (run_of printable_not_breakz before) (run_prefix (goes printable_not_breakz Free) before) (run_free (goes printable_not_breakz Free) (λ c _. printable_in_line c) before)

  pub dropped_fewer : after ≡ drop n before → length after ≤ length before
  dropped_fewer e = omega (arith, ap length e ∙ length-drop n before)
