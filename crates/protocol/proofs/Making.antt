-- Words that ask for no input.
use Rattle.std.proofs.Common.{rules, ◌≡◌, ℕ, List, ◌∷◌, codes, vec_items, Vec, Some, None, Option, MatchOption, IsSomeAnd, sym, subst, refl}
use Rattle.protocol.specs.Makes.{Bytes, ReadsBytes, Makes, AsksFor}
use Rattle.std.specs.declared.alloc.Global.{Global}
use Rattle.protocol.specs.declared.make.Make.{Make}

-- the words stand for no bytes
abbrev NoBytes : List (List ℕ) → Type 0
NoBytes words = (bytes : List ℕ) → Bytes bytes words → ⊥

slice_none : (rest : List (List ℕ)) → NoBytes rest → (make : Make) → Makes (codes "slice" ∷ rest) make → ⊥
slice_none rest none (Make.Slice bytes) makes = none (vec_items bytes) makes.1
slice_none rest none make makes = search rules

text_none : (rest : List (List ℕ)) → NoBytes rest → (make : Make) → Makes (codes "ring" ∷ codes "text" ∷ rest) make → ⊥
text_none rest none (Make.Text bytes) makes = none (vec_items bytes) makes.1.1
text_none rest none make makes = search rules

bytes_none : (rest : List (List ℕ)) → NoBytes rest → (make : Make) → Makes (codes "ring" ∷ codes "bytes" ∷ rest) make → ⊥
bytes_none rest none (Make.Bytes bytes) makes = none (vec_items bytes) makes.1.1
bytes_none rest none make makes = search rules

-- what is made of bytes that were read, or of none
abbrev Made : (Vec ℕ Global → Make) → Option (Vec ℕ Global) → Option Make → Type 0
Made make told made = MatchOption told (made ≡ None) (λ bytes. IsSomeAnd made (λ m. m ≡ make bytes))

made_by : (words rest : List (List ℕ)) (make : Vec ℕ Global → Make) (told : Option (Vec ℕ Global)) (made : Option Make) → (NoBytes rest → (m : Make) → Makes words m → ⊥) → ((v : Vec ℕ Global) → Bytes (vec_items v) rest → Makes words (make v)) → ReadsBytes rest told → Made make told made → AsksFor words made
made_by words rest make None made none some reads is = subst (AsksFor words) (sym is) (none reads)
made_by words rest make (Some v) None none some reads is = elim is [ ]
made_by words rest make (Some v) (Some m) none some reads is = subst (Makes words) (sym is) (some v reads)

pub slice_made : (words rest : List (List ℕ)) (told : Option (Vec ℕ Global)) (made : Option Make) → words ≡ codes "slice" ∷ rest → ReadsBytes rest told → Made Make.Slice told made → AsksFor words made
slice_made words rest told made e reads is =
    subst (λ ws. AsksFor ws made) (sym e) (made_by (codes "slice" ∷ rest) rest Make.Slice told made (slice_none rest) (λ v k. (refl, k)) reads is)

pub text_made : (words rest : List (List ℕ)) (told : Option (Vec ℕ Global)) (made : Option Make) → words ≡ codes "text" ∷ rest → ReadsBytes rest told → Made Make.Text told made → AsksFor (codes "ring" ∷ words) made
text_made words rest told made e reads is =
    subst (λ ws. AsksFor (codes "ring" ∷ ws) made) (sym e) (made_by (codes "ring" ∷ codes "text" ∷ rest) rest Make.Text told made (text_none rest) (λ v k. (refl, (refl, k))) reads is)

pub bytes_made : (words rest : List (List ℕ)) (told : Option (Vec ℕ Global)) (made : Option Make) → words ≡ codes "bytes" ∷ rest → ReadsBytes rest told → Made Make.Bytes told made → AsksFor (codes "ring" ∷ words) made
bytes_made words rest told made e reads is =
    subst (λ ws. AsksFor (codes "ring" ∷ ws) made) (sym e) (made_by (codes "ring" ∷ codes "bytes" ∷ rest) rest Make.Bytes told made (bytes_none rest) (λ v k. (refl, (refl, k))) reads is)
