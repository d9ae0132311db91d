-- Blanks, and a comment after them.
use Rattle.std.proofs.Common.{◌≡◌, ℕ, ◌+◌, ◌<◌, ◌≤◌, Bool, true, false, cond, ◌&&◌, List, [], ◌∷◌, ◌++◌, length, drop, Ok, Err, sym, refl, ap, ◌∙◌, subst, append-nil, arith, length-append, length-drop, drop-drop}
use Rattle.std.proofs.lemmas.Bool.{ne_eqb}
use Rattle.error.specs.declared.Refusal.TheVariants.{CommentNotSeparated}
use Rattle.char_traits.specs.Chars.{not_breakz}
use Rattle.input.specs.View.{View, Look, exactly, Keeps}
use Rattle.input.specs.Calls.{none_left}
use Rattle.input.proofs.Keeping.{both}
use Rattle.runs.specs.declared.SkipTabs.{SkipTabs}
use Rattle.runs.specs.declared.WhitespaceResult.{WhitespaceResult}
use Rattle.runs.specs.Runs.{run_of, blanks_of, after_blanks, at_hash, comment_of, eol_run}
use Rattle.runs.specs.Scans.{scan_look, SkipsRun, flags_of, SkipsBlanks, SkipsToEol}
use Rattle.runs.proofs.Asking.{skips_as}

-- one run after another, where the first did not find the end
pub skips_both : {H : Type 0} (look : Look) (one other : List ℕ) (n m : ℕ) (v u w : View H) → none_left u.ahead ≡ false → SkipsRun true look one n v u → SkipsRun true (exactly 0) other m u w
    → SkipsRun true look (one ++ other) (n + m) v w
skips_both look one other n m v u w some f k =
    let len : length w.ahead ≤ length u.ahead = omega (arith, ap length k.ahead ∙ length-drop m u.ahead) in
    record {
      keeps = both (none_left w.ahead) look v u w len (subst (λ (b : Bool). Keeps b look v u) some f.keeps) k.keeps;
      told = k.told ∙ f.told;
      wide = omega (arith, f.wide, k.keeps.window);
      number = omega (arith, f.number, k.number, length-append one other);
      ahead = k.ahead ∙ ap (drop m) f.ahead ∙ drop-drop m n v.ahead ∙ ap (λ j. drop j v.ahead) (omega arith);
    }

no_length : (a : List ℕ) → length a ≡ 0 → a ≡ []
no_length [] e = refl
no_length (c ∷ a) e = absurd (omega arith)

some_length : (a : List ℕ) → 0 < length a → none_left a ≡ false
some_length [] h = absurd (omega arith)
some_length (c ∷ a) h = refl

hash_left : (a : List ℕ) → at_hash a ≡ true → none_left a ≡ false
hash_left [] e = absurd (let z : ◌≡◌ {A = ℕ} 0 1 = ap (λ (b : Bool). cond b 1 0) (sym (ne_eqb 0 0x23 (λ h. omega arith)) ∙ e) in omega arith)
hash_left (c ∷ a) e = refl

module _ {H : Type 0} (tabs : SkipTabs) (v u : View H) (n : ℕ) (seen : WhitespaceResult) (b : SkipsBlanks tabs (n, seen) v u) where
  after_is : u.ahead ≡ after_blanks tabs v.ahead
  after_is = b.skips.ahead ∙ ap (λ k. drop k v.ahead) b.skips.number

  -- no comment follows
  pub no_comment : at_hash u.ahead ≡ false → SkipsToEol tabs (n, Ok seen) v u
  no_comment not =
      let after : at_hash (after_blanks tabs v.ahead) ≡ false = ap at_hash (sym after_is) ∙ not in
      record {
        skips = skips_as true (scan_look v.manner) (blanks_of tabs v.ahead) (eol_run tabs v.ahead) n v u
            (b.skips.number ∙ sym (ap length (run (none_left (blanks_of tabs v.ahead)) after))) b.skips;
        answer = ap (λ f. (0, f)) b.seen ∙ sym (ap (λ (x : Bool). cond x (5, []) (0, flags_of (blanks_of tabs v.ahead))) (separated (blanks_of tabs v.ahead) refl after));
      }
    where
      run : (none : Bool) → at_hash (after_blanks tabs v.ahead) ≡ false → blanks_of tabs v.ahead ++ cond none [] (comment_of (after_blanks tabs v.ahead)) ≡ blanks_of tabs v.ahead
      run true e = append-nil (blanks_of tabs v.ahead)
      run false e =
          ap (λ (x : Bool). blanks_of tabs v.ahead ++ cond x (run_of not_breakz (after_blanks tabs v.ahead)) []) e ∙ append-nil (blanks_of tabs v.ahead)

      separated : (bs : List ℕ) → blanks_of tabs v.ahead ≡ bs → at_hash (after_blanks tabs v.ahead) ≡ false → none_left bs && at_hash v.ahead ≡ false
      separated [] is e = ap (λ xs. at_hash (drop (length xs) v.ahead)) (sym is) ∙ e
      separated (c ∷ bs) is e = refl

  module _ (hash : at_hash u.ahead ≡ true) where
    -- a comment with no blank before it
    pub bare_comment : n ≡ 0 → SkipsToEol tabs (0, Err CommentNotSeparated) v u
    bare_comment zero =
        let none : blanks_of tabs v.ahead ≡ [] = no_length (blanks_of tabs v.ahead) (sym b.skips.number ∙ zero) in
        let here : at_hash v.ahead ≡ true = ap (λ xs. at_hash (drop (length xs) v.ahead)) (sym none) ∙ ap at_hash (sym after_is) ∙ hash in
        let run : blanks_of tabs v.ahead ≡ eol_run tabs v.ahead = none ∙ sym (λ i. none i ++ cond (none_left (none i)) [] (comment_of (after_blanks tabs v.ahead))) in
        record {
          skips =
              subst (λ (k : ℕ). SkipsRun true (scan_look v.manner) (eol_run tabs v.ahead) k v u) zero
              (skips_as true (scan_look v.manner) (blanks_of tabs v.ahead) (eol_run tabs v.ahead) n v u (b.skips.number ∙ ap length run) b.skips);
          answer = sym (λ i. cond (none_left (none i) && here i) (5, []) (0, flags_of (blanks_of tabs v.ahead)));
        }

    pub some_ahead : none_left u.ahead ≡ false
    some_ahead = hash_left u.ahead hash

    pub comment_after : (n ≡ 0 → ⊥) → (m : ℕ) (w : View H) → SkipsRun true (exactly 0) (run_of not_breakz u.ahead) m u w → SkipsToEol tabs (n + m, Ok seen) v w
    comment_after more m w k =
        let some : none_left (blanks_of tabs v.ahead) ≡ false = some_length (blanks_of tabs v.ahead) (let l = b.skips.number in omega arith) in
        let after : at_hash (after_blanks tabs v.ahead) ≡ true = ap at_hash (sym after_is) ∙ hash in
        let run : blanks_of tabs v.ahead ++ run_of not_breakz u.ahead ≡ eol_run tabs v.ahead =
        ap (λ xs. blanks_of tabs v.ahead ++ run_of not_breakz xs) after_is
        ∙ sym (λ i. blanks_of tabs v.ahead ++ cond (some i) [] (cond (after i) (run_of not_breakz (after_blanks tabs v.ahead)) [])) in
        record {
          skips =
              subst (λ (taken : List ℕ). SkipsRun true (scan_look v.manner) taken (n + m) v w) run
              (skips_both (scan_look v.manner) (blanks_of tabs v.ahead) (run_of not_breakz u.ahead) n m v u w some_ahead b.skips k);
          answer = ap (λ f. (0, f)) b.seen ∙ sym (ap (λ (x : Bool). cond (x && at_hash v.ahead) (5, []) (0, flags_of (blanks_of tabs v.ahead))) some);
        }
