-- Items that are read one by one into places.
use Rattle.std.proofs.Common.{◌≡◌, ℕ, suc, ◌+◌, ◌-◌, ◌<◌, ◌≤◌, List, [], ◌∷◌, ◌++◌, length, take, drop, get_or, set, replicate, Option, Some, None, refl, sym, ap, ◌∙◌, arith}
use Rattle.std.proofs.lemmas.List.{append_assoc, append-nil, drop_all, drop_more, take_more_set, length-set, length-replicate, length-take-le, drop-set-lt, drop-replicate, take-append-drop}
use Rattle.std.proofs.Math.Nat.{sub-zero}
use Rattle.ark_script.specs.Lists.{eight_places}
use Rattle.ark_forms.specs.Listed.{each_of}
use Rattle.ark_forms.specs.Reading.{◌>>=◌}

-- the first of the words are read into the first places, and the others are left
pub record Read {A : Type 0} (f : List ℕ → Option A) (room : ℕ) (words : List (List ℕ)) (none : A) (count : ℕ) (places : List A) : Type 0 where
  pub whole : each_of f room words ≡ (each_of f (room - count) (drop count words) >>= λ xs. Some (take count places ++ xs))
  pub within : count ≤ room
  pub size : length places ≡ room
  pub free : drop count places ≡ replicate (room - count) none

rebind : {A : Type 0} (o : Option (List A)) (x : A) (front : List A)
    → ((o >>= λ xs. Some (x ∷ xs)) >>= λ xs. Some (front ++ xs)) ≡ (o >>= λ xs. Some ((front ++ x ∷ []) ++ xs))
rebind None x front = refl
rebind (Some xs) x front = ap Some (sym (append_assoc front (x ∷ []) xs))

same_front : {A : Type 0} (o : Option (List A)) → (o >>= λ xs. Some ([] ++ xs)) ≡ o
same_front None = refl
same_front (Some xs) = refl

pub none_read : {A : Type 0} (f : List ℕ → Option A) (room : ℕ) (words : List (List ℕ)) (none : A) → Read f room words none 0 (replicate room none)
none_read f room words none = record {
  whole = rw (sub-zero room) (sym (same_front (each_of f room words)));
  within = omega arith;
  size = length-replicate room none;
  free = rw (sub-zero room) refl;
}

-- the word at the count, and those behind it
cut : (words : List (List ℕ)) (count : ℕ) (word : List ℕ) → count < length words → word ≡ get_or words count word
    → drop count words ≡ word ∷ drop (count + 1) words
cut words count word more is = drop_more words count word more ∙ ap (λ (x : List ℕ). x ∷ drop (count + 1) words) (sym is)

pub one_read : {A : Type 0} (f : List ℕ → Option A) (room : ℕ) (words : List (List ℕ)) (none : A) (count : ℕ) (places : List A) (word : List ℕ) (x : A)
    → count < room → count < length words → word ≡ get_or words count word → f word ≡ Some x
    → Read f room words none count places → Read f room words none (count + 1) (set places count x)
one_read f room words none count places word x fits more is read h =
    let free : room - count ≡ suc (room - (count + 1)) = omega arith in
    let front = take_more_set places count x (let size = h.size in omega arith) in record {
      whole = h.whole ∙ rw (free, cut words count word more is, front) (rw read (rebind (each_of f (room - (count + 1)) (drop (count + 1) words)) x (take count places)));
      within = omega arith;
      size = length-set places count x ∙ h.size;
      free = drop-set-lt (count + 1) places count x (omega arith)
          ∙ ap (drop 1) (sym (drop_more places count none (let size = h.size in omega arith)) ∙ h.free)
          ∙ drop-replicate 1 (room - count) none ∙ ap (λ (n : ℕ). replicate n none) (omega arith);
    }

pub bad_read : {A : Type 0} (f : List ℕ → Option A) (room : ℕ) (words : List (List ℕ)) (none : A) (count : ℕ) (places : List A) (word : List ℕ)
    → count < room → count < length words → word ≡ get_or words count word → f word ≡ None
    → Read f room words none count places → each_of f room words ≡ None
bad_read f room words none count places word fits more is bad h =
    let free : room - count ≡ suc (room - (count + 1)) = omega arith in
    h.whole ∙ rw (free, cut words count word more is) (rw bad refl)

pub full_read : {A : Type 0} (f : List ℕ → Option A) (room : ℕ) (words : List (List ℕ)) (none : A) (count : ℕ) (places : List A) (word : List ℕ)
    → count ≡ room → count < length words → word ≡ get_or words count word → Read f room words none count places → each_of f room words ≡ None
full_read f room words none count places word full more is h =
    let free : room - count ≡ 0 = omega arith in
    h.whole ∙ rw (free, cut words count word more is) refl

pub all_read : {A : Type 0} (f : List ℕ → Option A) (room : ℕ) (words : List (List ℕ)) (none : A) (count : ℕ) (places : List A)
    → count ≡ length words → Read f room words none count places → each_of f room words ≡ Some (take count places)
all_read f room words none count places all h =
    h.whole ∙ rw (drop_all count words (omega arith)) (ap Some (append-nil (take count places)))

-- the places are those of the items that were read
pub places_filled : {A : Type 0} (f : List ℕ → Option A) (words : List (List ℕ)) (none : A) (count : ℕ) (places : List A)
    → Read f 8 words none count places → (length (take count places) ≡ count) × (eight_places none (take count places) ≡ places)
places_filled f words none count places h =
    let len : length (take count places) ≡ count = length-take-le count places (let size = h.size in let within = h.within in omega arith) in
    (len, rw (len, ← h.free) (take-append-drop count places))
