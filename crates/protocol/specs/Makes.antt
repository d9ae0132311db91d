-- What a line with the name `new` asks for.
use Rattle.std.specs.Prelude.{◌≡◌, ℕ, List, [], ◌∷◌, drop, vec_items, codes, Some, None, Option, Vec, ◌⊎◌}
use Rattle.std.specs.declared.alloc.Global.{Global}
use Rattle.std.specs.Bool.{⊤}
use Rattle.std.specs.Str.{IsUtf8}
use Rattle.protocol.specs.Words.{words_of}
use Rattle.protocol.specs.Values.{StandsFor, ending_name}
use Rattle.protocol.specs.Forms.{Code}
use Rattle.protocol.specs.declared.make.Make.{Make}

-- the words begin with these, and the rest is as told
abbrev pub Begins : List (List ℕ) → (List (List ℕ) → Type 0) → List (List ℕ) → Type 0
Begins [] rest words = rest words
Begins (name ∷ names) rest [] = ⊥
Begins (name ∷ names) rest (word ∷ words) = (name ≡ word) × Begins names rest words

-- one word stands for these bytes, or there is no word and no byte
abbrev pub Bytes : List ℕ → List (List ℕ) → Type 0
Bytes bytes [] = bytes ≡ []
Bytes bytes (word ∷ []) = StandsFor word bytes
Bytes bytes (word ∷ second ∷ words) = ⊥

-- the bytes that the words stand for, or none where they stand for none
abbrev pub ReadsBytes : List (List ℕ) → Option (Vec ℕ Global) → Type 0
ReadsBytes words None = (bytes : List ℕ) → Bytes bytes words → ⊥
ReadsBytes words (Some bytes) = Bytes (vec_items bytes) words

-- each word is a code
abbrev pub Codes : List ℕ → List (List ℕ) → Type 0
Codes [] [] = ⊤
Codes [] (word ∷ words) = ⊥
Codes (c ∷ cs) [] = ⊥
Codes (c ∷ cs) (word ∷ words) = Code c word × Codes cs words

-- the codes that the words are, or none where some word is no code
abbrev pub ReadsCodes : List (List ℕ) → Option (Vec ℕ Global) → Type 0
ReadsCodes words None = (list : List ℕ) → Codes list words → ⊥
ReadsCodes words (Some list) = Codes (vec_items list) words

-- the words after the name ask for this input
abbrev pub Makes : List (List ℕ) → Make → Type 0
Makes words (Make.Slice bytes) = Begins (codes "slice" ∷ []) (Bytes (vec_items bytes)) words
Makes words (Make.Text bytes) =
    Begins (codes "ring" ∷ codes "text" ∷ []) (Bytes (vec_items bytes)) words
Makes words (Make.Bytes bytes) =
    Begins (codes "ring" ∷ codes "bytes" ∷ []) (Bytes (vec_items bytes)) words
Makes words (Make.Codes list ending) =
    Begins (codes "ring" ∷ codes "codes" ∷ ending_name ending ∷ []) (Codes (vec_items list)) words

-- the input that the words ask for, or none where they ask for none
abbrev pub AsksFor : List (List ℕ) → Option Make → Type 0
AsksFor words None = (make : Make) → Makes words make → ⊥
AsksFor words (Some make) = Makes words make

-- the input that a line asks for; what is no text asks for none
abbrev pub IsNewLine : List ℕ → Option Make → Type 0
IsNewLine line told =
    (IsUtf8 line × AsksFor (drop 1 (words_of line)) told)
    ⊎ ((IsUtf8 line → ⊥) × (told ≡ None))
