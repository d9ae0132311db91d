-- Characters taken one after the other.
use Rattle.std.proofs.Common.{◌≡◌, ℕ, ◌+◌, ◌≤◌, List, [], ◌∷◌, length, drop, sym, ap, ◌∙◌, arith, length-drop}
use Rattle.std.proofs.lemmas.List.{drop-drop, drop_all}

-- what is left of the characters after n of them
module _ (all left : List ℕ) (n : ℕ) (is : left ≡ drop n all) where
  pub one_more : (c : ℕ) (rest : List ℕ) → left ≡ c ∷ rest → rest ≡ drop (n + 1) all
  one_more c rest e = ap (drop 1) (sym e ∙ is) ∙ drop-drop 1 n all

  pub no_more : (count : ℕ) → n ≤ count → left ≡ [] → left ≡ drop count all
  no_more count h e = let l = length-drop n all in e ∙ sym (drop_all count all (omega (arith, ap length (sym is ∙ e))))
