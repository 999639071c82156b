-- Words behind the first, read one by one.
use Rattle.std.specs.Prelude.{List, ℕ, Option, Some}
use Rattle.ark_forms.specs.Reading.{◌>>=◌, one_of, two_of, three_of, four_of, five_of, six_of}

unfoldable pub one_read : {A : Type 0} → (List ℕ → Option A) → List (List ℕ) → Option A
one_read f words = do
  p ← one_of words
  a ← f p
  Some a

unfoldable pub two_read : {A B : Type 0} → (List ℕ → Option A) → (List ℕ → Option B) → List (List ℕ) → Option (A × B)
two_read f g words = do
  p ← two_of words
  a ← f p.0
  b ← g p.1
  Some (a, b)

unfoldable pub three_read : {A B C : Type 0} → (List ℕ → Option A) → (List ℕ → Option B) → (List ℕ → Option C) → List (List ℕ) → Option (A × B × C)
three_read f g h words = do
  p ← three_of words
  a ← f p.0
  b ← g p.1
  c ← h p.2
  Some (a, b, c)

unfoldable pub four_read : {A B C D : Type 0} → (List ℕ → Option A) → (List ℕ → Option B) → (List ℕ → Option C) → (List ℕ → Option D) → List (List ℕ) → Option (A × B × C × D)
four_read f g h i words = do
  p ← four_of words
  a ← f p.0
  b ← g p.1
  c ← h p.2
  d ← i p.3
  Some (a, b, c, d)

unfoldable pub five_read : {A B C D E : Type 0} → (List ℕ → Option A) → (List ℕ → Option B) → (List ℕ → Option C) → (List ℕ → Option D) → (List ℕ → Option E) → List (List ℕ) → Option (A × B × C × D × E)
five_read f g h i j words = do
  p ← five_of words
  a ← f p.0
  b ← g p.1
  c ← h p.2
  d ← i p.3
  e ← j p.4
  Some (a, b, c, d, e)

unfoldable pub six_read : {A B C D E F : Type 0} → (List ℕ → Option A) → (List ℕ → Option B) → (List ℕ → Option C) → (List ℕ → Option D) → (List ℕ → Option E) → (List ℕ → Option F) → List (List ℕ) → Option (A × B × C × D × E × F)
six_read f g h i j k words = do
  p ← six_of words
  a ← f p.0
  b ← g p.1
  c ← h p.2
  d ← i p.3
  e ← j p.4
  f ← k p.5
  Some (a, b, c, d, e, f)
