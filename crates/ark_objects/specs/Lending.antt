use Rattle.std.specs.Prelude.{ℕ, List, Option, Some, slice_set}
use Rattle.std.specs.Borrow.{Lends, Fml, RattleType, MutBor}
use Rattle.ark_objects.specs.contracts.objects.Objects.{the_row}

module _ (T : RattleType) (s : MutBor (List (Option T.Denot))) (key : ℕ) where
  -- once the borrow ends, the key has the last value written through it
  abbrev pub LendsObject : MutBor T.Denot → Fml
  LendsObject r = Lends (the_row T) T s r (λ w. slice_set s.now key (Some w))
