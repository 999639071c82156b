-- The words of a line, and which words begin one.
use Rattle.std.specs.Prelude.{◌≡◌, ℕ, true, nat_eq, bytes_eq, if◌then◌else◌, List, [], ◌∷◌, codes}
use Rattle.std.specs.List.{list_any, slice_split}

-- what stands before, between and after the bytes of this value
abbrev pub parts_of : ℕ → List ℕ → List (List ℕ)
parts_of separator bytes = slice_split (λ b. nat_eq b separator) bytes

-- A space parts two words. The empty line is one empty word.
abbrev pub words_of : List ℕ → List (List ℕ)
words_of line = parts_of 32 line

-- the bytes up to the first space, or all of them
abbrev pub first_word : List ℕ → List ℕ
first_word [] = []
first_word (b ∷ bs) = if nat_eq b 32 then [] else b ∷ first_word bs

-- the words of the language
abbrev pub known_words : List (List ℕ)
known_words =
    codes "nic" ∷ codes "app" ∷ codes "vsic" ∷ codes "vnic" ∷ codes "vsa" ∷ codes "grow" ∷ codes "bind" ∷ codes "unbind"
    ∷ codes "filter" ∷ codes "use" ∷ codes "rate" ∷ codes "pace" ∷ codes "door" ∷ codes "watch" ∷ codes "drop"
    ∷ codes "buf" ∷ codes "fill" ∷ codes "show" ∷ codes "copy" ∷ codes "free" ∷ codes "peek" ∷ codes "poke" ∷ codes "get"
    ∷ codes "put" ∷ codes "flush" ∷ codes "reap" ∷ codes "post" ∷ codes "send" ∷ codes "take" ∷ codes "sock"
    ∷ codes "sendto" ∷ codes "recv" ∷ codes "look" ∷ codes "log" ∷ codes "queue" ∷ codes "append" ∷ codes "push"
    ∷ codes "trim" ∷ codes "pop" ∷ codes "walk" ∷ codes "poll" ∷ codes "settle" ∷ codes "close" ∷ codes "dev"
    ∷ codes "wire" ∷ codes "tick" ∷ []

-- the line begins with a word of the language
abbrev pub IsKnown : List ℕ → Type 0
IsKnown line = list_any (bytes_eq (first_word line)) known_words ≡ true
