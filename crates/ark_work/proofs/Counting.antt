-- One reply more.
use Rattle.std.proofs.Common.{◌≡◌, ℕ, ◌+◌, Bool, true, false, List, [], ◌∷◌, ◌++◌, length, filter, refl, sym, ap, arith, ◌∙◌}
use Rattle.std.specs.Str.{bytes_eq}
use Rattle.std.proofs.lemmas.List.Elements.{filter-append}
use Rattle.std.proofs.lemmas.List.{length-append}
use Rattle.ark_work.specs.Tallied.{first_word, replies_with}

abbrev is_first : List ℕ → List ℕ → Bool
is_first word reply = bytes_eq (first_word reply) word

with_one : (word : List ℕ) (replies : List (List ℕ)) (reply : List ℕ) (n : ℕ) → length (filter (is_first word) (reply ∷ [])) ≡ n
    → replies_with word (replies ++ reply ∷ []) ≡ replies_with word replies + n
with_one word replies reply n is =
    ap length (filter-append (is_first word) replies (reply ∷ []))
    ∙ length-append (filter (is_first word) replies) (filter (is_first word) (reply ∷ []))
    ∙ ap (λ k. replies_with word replies + k) is

-- a reply that begins with the word
pub one_more : (word : List ℕ) (replies : List (List ℕ)) (reply : List ℕ) → bytes_eq (first_word reply) word ≡ true
    → replies_with word replies + 1 ≡ replies_with word (replies ++ reply ∷ [])
one_more word replies reply is = sym (with_one word replies reply 1 (rw is refl))

-- a reply that begins with another
pub as_many : (word : List ℕ) (replies : List (List ℕ)) (reply : List ℕ) → bytes_eq (first_word reply) word ≡ false
    → replies_with word replies ≡ replies_with word (replies ++ reply ∷ [])
as_many word replies reply is = sym (with_one word replies reply 0 (rw is refl) ∙ (omega arith))
