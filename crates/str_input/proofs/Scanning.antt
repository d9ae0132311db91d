-- What the scans of a text promise, from the characters that were taken.
use Rattle.std.proofs.Common.{◌≡◌, ℕ, ◌+◌, ◌≤◌, min, Bool, true, false, cond, ◌&&◌, List, [], ◌∷◌, length, drop, Ok, sym, refl, ap, ◌∙◌, subst, arith, length-append}
use Rattle.std.proofs.lemmas.List.{take_all, drop-drop}
use Rattle.std.proofs.lemmas.Bool.{false≢true, cond-true, cond-false}
use Rattle.std.proofs.lemmas.Str.{length-le-encodes}
use Rattle.error.specs.Limit.{text_limit}
use Rattle.input.specs.View.{Look, exactly, Keeps}
use Rattle.input.specs.Calls.{none_left}
use Rattle.char_traits.specs.Chars.{not_breakz}
use Rattle.runs.specs.declared.Fetched.{Fetched}
use Rattle.runs.specs.declared.SkipTabs.{SkipTabs}
use Rattle.runs.specs.declared.WhitespaceResult.{WhitespaceResult}
use Rattle.runs.specs.Runs.{run_by, run_of, plain_run, blanks_of, at_hash, comment_of, after_blanks, eol_run, unseparated}
use Rattle.runs.specs.Rooms.{beyond}
use Rattle.runs.specs.Scans.{scan_look, chunk_look, room_look, flags_of, Fetches, FetchesChunk, SkipsBlanks, SkipsToEol}
use Rattle.text_bytes.specs.Ends.{AppendsRun}
use Rattle.runs.proofs.Fronts.{prefix_short, run_prefix}
use Rattle.str_input.specs.declared.str_input.StrInput.{StrInput}
use Rattle.str_input.specs.Text.{ahead_of, text_manner, text_view, MovesOn}
use Rattle.str_input.specs.Laws.{ahead_short}

-- a run is no longer than its text
pub run_short : (x : StrInput) (go : ℕ → ℕ → Bool) → length (run_by go (ahead_of x)) ≤ text_limit
run_short x go =
    let front = prefix_short (run_by go (ahead_of x)) (ahead_of x) (run_prefix go (ahead_of x)) in
    omega (arith, front, length-le-encodes (ahead_of x), ahead_short x, x.short)

keeps : (finds : Bool) (look : Look) (n : ℕ) (x y : StrInput) → MovesOn n x y
    → Keeps finds look (text_view x) (text_view y)
keeps finds look n x y t =
    record {
      manner = refl;
      ending = refl;
      window = omega (arith, t.window);
      stays = λ _. refl;
      still = λ _. refl;
      meets = λ _. refl;
      narrow = λ e. absurd (false≢true e);
      steady = λ _. omega (arith, t.window);
      late = λ e. absurd (false≢true e);
    }

pub moves_both : (x u y : StrInput) (n m : ℕ) → MovesOn n x u → MovesOn m u y → MovesOn (n + m) x y
moves_both x u y n m t s =
    record {
      text = s.text ∙ t.text;
      window = s.window ∙ t.window;
      ahead = s.ahead ∙ ap (drop m) t.ahead ∙ drop-drop m n (ahead_of x) ∙ ap (λ k. drop k (ahead_of x)) (omega arith);
    }

-- a chunk is all of a run
pub fetches_chunk : (in_flow : Bool) (count : ℕ) (room : List ℕ) (filled : ℕ) (r : Fetched)
    (left : List ℕ) (x y : StrInput)
    → AppendsRun (plain_run in_flow (ahead_of x)) room filled r left → MovesOn r.count x y
    → (beyond room filled ≡ true → y ≡ x)
    → FetchesChunk in_flow count room filled (true, r) left (text_view x) (text_view y)
fetches_chunk in_flow count room filled r left x y a t u =
    let run = plain_run in_flow (ahead_of x) in
    record { wants = length run; takes = subst whole (sym (take_all (length run) run (omega arith))) all }
  where
    whole : List ℕ → Type 0
    whole run = Fetches false (chunk_look text_manner count) run room filled r left (text_view x) (text_view y)

    small : (b : Bool) → min 16 (cond b (exactly 0) (chunk_look text_manner count)).least ≤ y.window
    small true = omega arith
    small false = omega arith

    all : whole (plain_run in_flow (ahead_of x))
    all =
        record {
          skips =
              record {
                keeps = keeps false (room_look room filled (chunk_look text_manner count)) r.count x y t;
                told = refl;
                wide = small (beyond room filled);
                number = a.number;
                ahead = t.ahead;
              };
          writes = a.writes;
          unmoved = λ e _. ap text_view (u e);
        }

-- blanks, and then a comment
module _ (tabs : SkipTabs) (ahead : List ℕ) (k : ℕ) (is : k ≡ length (blanks_of tabs ahead)) (blanks : k ≡ 0 → ⊥) where
  some : none_left (blanks_of tabs ahead) ≡ false
  some = not_none (blanks_of tabs ahead) (λ e. blanks (is ∙ e))
    where
      not_none : (xs : List ℕ) → (length xs ≡ 0 → ⊥) → none_left xs ≡ false
      not_none [] h = absurd (h refl)
      not_none (x ∷ xs) h = refl

  pub eol_number : (m : ℕ) (rest : List ℕ) → rest ≡ drop k ahead → at_hash rest ≡ true
      → m ≡ length (run_of not_breakz rest) → k + m ≡ length (eol_run tabs ahead)
  eol_number m rest e hash number =
      let same : rest ≡ after_blanks tabs ahead = e ∙ ap (λ n. drop n ahead) is in
      let comment : run_of not_breakz rest ≡ comment_of (after_blanks tabs ahead) =
      sym (cond-true (at_hash rest) (run_of not_breakz rest) [] hash) ∙ ap comment_of same
      in
      let then : comment_of (after_blanks tabs ahead) ≡ cond (none_left (blanks_of tabs ahead)) [] (comment_of (after_blanks tabs ahead)) =
      sym (cond-false (none_left (blanks_of tabs ahead)) _ _ some)
      in
      let l = length-append (blanks_of tabs ahead) (cond (none_left (blanks_of tabs ahead)) [] (comment_of (after_blanks tabs ahead))) in
      let n : m ≡ length (cond (none_left (blanks_of tabs ahead)) [] (comment_of (after_blanks tabs ahead))) = number ∙ ap length (comment ∙ then) in
      omega arith

  pub separated : unseparated tabs ahead ≡ false
  separated = ap (λ b. b && at_hash ahead) some

-- blanks and a comment in a text
pub skips_comment : (tabs : SkipTabs) (x u y : StrInput) (n m : ℕ) (seen : WhitespaceResult)
    → SkipsBlanks tabs (n, seen) (text_view x) (text_view u) → MovesOn n x u
    → at_hash (ahead_of u) ≡ true → (n ≡ 0 → ⊥) → m ≡ length (run_of not_breakz (ahead_of u))
    → MovesOn m u y → SkipsToEol tabs (n + m, Ok seen) (text_view x) (text_view y)
skips_comment tabs x u y n m seen b t hash more number s =
    let both = moves_both x u y n m t s in
    record {
      skips =
          record {
            keeps = keeps (none_left (ahead_of y)) (scan_look text_manner) (n + m) x y both;
            told = refl;
            wide = omega arith;
            number = eol_number tabs (ahead_of x) n b.skips.number more m (ahead_of u) t.ahead hash number;
            ahead = both.ahead;
          };
      answer =
          ap (λ f. (0, f)) b.seen
          ∙ sym (ap (λ (z : Bool). cond z (5, []) (0, flags_of (blanks_of tabs (ahead_of x)))) (separated tabs (ahead_of x) n b.skips.number more));
    }
