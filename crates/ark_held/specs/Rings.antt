-- The storage cards of an application, by key, and their descriptors.
use Rattle.std.specs.Prelude.{◌≡◌, ◌<◌, ℕ, Bool, List, [], ◌∷◌, ◌++◌, length, drop, Option, Some, None, option_map, IfSome, Contains}
use Rattle.ark_objects.specs.Held.{at, Changes}
use Rattle.ark_vic.specs.Queue.{Queue, members}
use Rattle.ark_vic.specs.declared.descriptor.Descriptor.{Descriptor}
use Rattle.ark_vsic.specs.Card.{Card, bound_without, head_of}
use Rattle.ark_vsic.specs.Moves.{CanMove}
use Rattle.ark_held.specs.Kept.{CardKept}
use Rattle.ark_held.specs.declared.card.StorageCard.{StorageCard}

-- what a table keeps of a card
abbrev pub kept_card : StorageCard → CardKept
kept_card c = record {
  ring = c.vsic.ring;
  bound = c.vsic.bound;
  pace = option_map (λ p. record { rate = c.rate; pace = p }) c.vsic.pace;
  door = c.door;
  log = c.log;
}

abbrev pub card_kept : List (Option StorageCard) → ℕ → Option CardKept
card_kept cards key = option_map kept_card (at cards key)

-- In a memory of these frames the oldest descriptor's next block can be moved, and the first one of each descriptor.
pub record IsSoundRing (taken : List Bool) (q : Queue) : Type 0 where
  pub oldest : IfSome (head_of q) (λ d. CanMove taken q.moved d)
  pub each : (d : Descriptor) → Contains q.posted d → CanMove taken 0 d
  pub none : q.posted ≡ [] → q.moved ≡ 0

-- the ring of each card, in a memory of so many frames
abbrev pub AreSound : ℕ → List (Option StorageCard) → Type 0
AreSound frames cards = (taken : List Bool) → length taken ≡ frames
    → (key : ℕ) (c : StorageCard) → at cards key ≡ Some c → IsSoundRing taken c.vsic.ring

-- a ring for so many descriptors, of which there is none
abbrev pub no_ring : ℕ → Queue
no_ring size = record { posted = []; unreaped = []; moved = 0; size = size }

-- a card that nothing watches, and on which no log is open
abbrev pub new_card : Card → StorageCard
new_card vsic = record { vsic = vsic; rate = 0; door = None; log = None }

-- with one more descriptor posted
abbrev pub with_posted : Descriptor → StorageCard → StorageCard
with_posted d c = record c { vsic = record c.vsic { ring = record c.vsic.ring { posted = c.vsic.ring.posted ++ d ∷ [] } } }

-- without the oldest completion
abbrev pub with_reaped : StorageCard → StorageCard
with_reaped c = record c { vsic = record c.vsic { ring = record c.vsic.ring { unreaped = drop 1 c.vsic.ring.unreaped } } }

-- the card of a key has room for one more descriptor
pub record HasRoomFor (cards : List (Option StorageCard)) (key : ℕ) : Type 0 where
  pub one : StorageCard
  pub there : at cards key ≡ Some one
  pub room : members one.vsic.ring < one.vsic.ring.size

-- the card of a key, if there is one, is changed so
abbrev pub ChangesCard : List (Option StorageCard) → List (Option StorageCard) → ℕ → (StorageCard → StorageCard) → Type 0
ChangesCard old new key f = (one : StorageCard) → at old key ≡ Some one → Changes old new key (Some (f one))

-- without the area of a grant among those that are bound
abbrev pub unbound : ℕ → StorageCard → StorageCard
unbound grant c = record c { vsic = record c.vsic { bound = bound_without grant c.vsic.bound } }

-- the card of a key is gone, and no other has the area of a grant bound any more
pub record LosesCard (old new : List (Option StorageCard)) (key grant : ℕ) : Type 0 where
  pub rest : List (Option StorageCard)
  pub gone : Changes old rest key None
  pub cards : (k : ℕ) → at new k ≡ option_map (unbound grant) (at rest k)
