-- What events beside some blocks leave.
use Rattle.std.proofs.Common.{◌≡◌, ℕ, ◌<◌, Bool, true, false, List, [], ◌∷◌, length, get_or, refl, sym, ◌∙◌, ap, subst, Contains}
use Rattle.std.proofs.lemmas.Bool.{false≢true}
use Rattle.std.proofs.lemmas.List.Elements.{Contains-get_or}
use Rattle.ark_media.specs.Journal.{Event, Read, Write, Sync, Out, History, block, current, onto, device_events}
use Rattle.ark_media.specs.Stops.{MayHold, Whole}
use Rattle.ark_media.proofs.Stopping.{current_other, other_write, sync_narrows}
use Rattle.ark_media.specs.Standing.{after}
use Rattle.ark_held.specs.Beside.{AreBeside}
use Rattle.ark_held.specs.Keeps.{SameAt}

other : (blocks : List ℕ) (m n : ℕ) → Contains blocks n → (Contains blocks m → ⊥) → n ≡ m → ⊥
other blocks m n has apart same = apart (subst (λ (k : ℕ). Contains blocks k) same has)

-- a block of theirs has the same content
pub current_beside : (base : List (List ℕ)) (blocks : List ℕ) (es j : List Event) (n : ℕ) → Contains blocks n → AreBeside blocks es → block (current base (onto es j)) n ≡ block (current base j) n
current_beside base blocks [] j n has beside = refl
current_beside base blocks (Write m c took ok ∷ es) j n has beside = current_beside base blocks es (Write m c took ok ∷ j) n has beside.1 ∙ current_other base j m n c took ok (other blocks m n has beside.0)
current_beside base blocks (Read m ok ∷ es) j n has beside = current_beside base blocks es (Read m ok ∷ j) n has beside
current_beside base blocks (Sync ok ∷ es) j n has beside = current_beside base blocks es (Sync ok ∷ j) n has beside
current_beside base blocks (Out bytes ∷ es) j n has beside = current_beside base blocks es (Out bytes ∷ j) n has beside

-- and a stop may leave no more of it
pub may_beside : (base : List (List ℕ)) (blocks : List ℕ) (es j : List Event) (n : ℕ) → n < length base → Contains blocks n → AreBeside blocks es → (c : List ℕ) → MayHold Whole base (onto es j) n c → MayHold Whole base j n c
may_beside base blocks [] j n lt has beside c left = left
may_beside base blocks (Write m w took ok ∷ es) j n lt has beside c left = other_write Whole base j m n w took ok (other blocks m n has beside.0) c (may_beside base blocks es (Write m w took ok ∷ j) n lt has beside.1 c left)
may_beside base blocks (Read m ok ∷ es) j n lt has beside c left = may_beside base blocks es (Read m ok ∷ j) n lt has beside c left
may_beside base blocks (Sync ok ∷ es) j n lt has beside c left = sync_narrows Whole (λ b. refl) base j ok n lt c (may_beside base blocks es (Sync ok ∷ j) n lt has beside c left)
may_beside base blocks (Out bytes ∷ es) j n lt has beside c left = may_beside base blocks es (Out bytes ∷ j) n lt has beside c left

pub same_beside : (h : History) (es : List Event) (blocks : List ℕ) → ((n : ℕ) → Contains blocks n → n < length h.base) → AreBeside blocks es → SameAt h (after h es) blocks
same_beside h es blocks inside beside k lt =
    let has = Contains-get_or blocks k 0 lt in (
      current_beside h.base blocks es h.journal (get_or blocks k 0) has beside,
      λ c left. may_beside h.base blocks es h.journal (get_or blocks k 0) (inside (get_or blocks k 0) has) has beside c left,
    )

abbrev is_call : List Event → Bool
is_call [] = false
is_call (e ∷ es) = true

pub not_silent : (e : Event) (es : List Event) → e ∷ es ≡ [] → ⊥
not_silent e es h = false≢true (sym (ap is_call h))

-- outputs write no block
pub outputs_beside : (blocks : List ℕ) (es : List Event) → device_events es ≡ [] → AreBeside blocks es
outputs_beside blocks [] silent = tt
outputs_beside blocks (Out bytes ∷ es) silent = outputs_beside blocks es silent
outputs_beside blocks (Write n c took ok ∷ es) silent = absurd (not_silent _ _ silent)
outputs_beside blocks (Read n ok ∷ es) silent = absurd (not_silent _ _ silent)
outputs_beside blocks (Sync ok ∷ es) silent = absurd (not_silent _ _ silent)

-- the same blocks, of the same history
pub same_history : (h : History) (blocks : List ℕ) → SameAt h h blocks
same_history h blocks k lt = (refl, λ c left. left)
