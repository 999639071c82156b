-- Readers that give just what a relation says.
use Rattle.std.proofs.Common.{◌≡◌, Option, Some, None, refl}
use Rattle.ark_forms.specs.Reading.{◌>>=◌}

-- f gives x where P says so, and nowhere else
pub record Reads {W A : Type 0} (f : W → Option A) (P : A → W → Type 0) : Type 0 where
  pub sound : (words : W) (x : A) → f words ≡ Some x → P x words
  pub complete : (words : W) (x : A) → P x words → f words ≡ Some x

-- what a value after `>>=` shows
pub bind_some : {A B : Type 0} (o : Option A) (f : A → Option B) (y : B) → (o >>= f) ≡ Some y → (x : A) × (o ≡ Some x) × (f x ≡ Some y)
bind_some None f y h = cc
bind_some (Some x) f y h = (x, refl, h)
