-- What a list of stages owes, so that whatever a stop leaves of it opens to the list before or after. No standard fixes it.
use Rattle.std.specs.Prelude.{◌≡◌, ◌⊎◌, ◌<◌, ℕ, false, List, [], ◌∷◌, length, get_or, if◌then◌else◌}
use Rattle.ark_base.specs.declared.kind.Kind.{Kind}
use Rattle.ark_media.specs.Journal.{block}
use Rattle.ark_entry.specs.Entry.{AreWhole}
use Rattle.ark_entry.specs.Found.{Found, found_of}
use Rattle.ark_caladan.specs.Stages.{Stage, reads, writes, decides, syncs, Moment, resting, after_calls}

-- each of the places is in an area of n blocks
abbrev pub AllIn : ℕ → List ℕ → Type 0
AllIn n places = (i : ℕ) → i < length places → get_or places i 0 < n

-- all that differs is written
abbrev pub AllWritten : ℕ → Moment → Type 0
AllWritten n m = (k : ℕ) → k < n → (m.old k ≡ m.new k) ⊎ ((i : ℕ) × (i < m.written) × (get_or m.places i 0 ≡ k))

-- the contents of an area of n blocks that have at each place the block of one view or of the other
pub record IsBetween (n : ℕ) (a b : ℕ → List ℕ) (contents : List (List ℕ)) : Type 0 where
  pub size : length contents ≡ n
  pub whole : AreWhole contents
  pub each : (k : ℕ) → k < n → (block contents k ≡ a k) ⊎ (block contents k ≡ b k)

-- what is found in any such contents is x; or it is x or y
abbrev pub IsFound : Kind → ℕ → (ℕ → List ℕ) → (ℕ → List ℕ) → Found → Type 0
IsFound kind n a b x = (contents : List (List ℕ)) → IsBetween n a b contents → found_of kind contents ≡ x

abbrev pub IsFoundEither : Kind → ℕ → (ℕ → List ℕ) → (ℕ → List ℕ) → Found → Found → Type 0
IsFoundEither kind n a b x y = (contents : List (List ℕ)) → IsBetween n a b contents
    → (found_of kind contents ≡ x) ⊎ (found_of kind contents ≡ y)

-- of two lists, the one that stands at a moment
abbrev pub list_at : Moment → Found → Found → Found
list_at m x y = if m.took then y else x

-- The stages lead from here to rest. What is found stays x up to the write that decides, is x or y until the sync behind it, and
-- stays y from then on. A write begins at rest, and a sync comes when all that differs is written.
abbrev pub Leads : Kind → ℕ → Found → Found → Moment → List Stage → Type 0
Leads kind n x y m [] = (m.old ≡ m.new) × IsFound kind n m.old m.new (list_at m x y)
Leads kind n x y m (reads places ∷ ss) =
    (m.old ≡ m.new) × AllIn n places × IsFound kind n m.old m.new (list_at m x y) × Leads kind n x y m ss
Leads kind n x y m (writes b places ∷ ss) =
    (m.old ≡ m.new) × AllIn n places × IsFound kind n m.new b (list_at m x y)
    × Leads kind n x y (after_calls m (writes b places) (length places)) ss
Leads kind n x y m (decides b p ∷ ss) =
    (m.old ≡ m.new) × (p < n) × (m.took ≡ false) × IsFoundEither kind n m.new b x y × IsFound kind n m.new m.new x × IsFound kind n b b y
    × ((k : ℕ) → k < n → (m.new k ≡ b k) ⊎ (p ≡ k)) × Leads kind n x y (after_calls m (decides b p) 1) ss
Leads kind n x y m (syncs ∷ ss) =
    AllWritten n m × IsFoundEither kind n m.old m.new x y × IsFound kind n m.new m.new (list_at m x y)
    × Leads kind n x y (resting m.new m.took) ss
