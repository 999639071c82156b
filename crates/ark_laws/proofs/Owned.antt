-- What a line may read or write is in the areas of its own application, or new, or its slot.
use Rattle.std.proofs.Common.{◌≡◌, ◌⊎◌, inl, inr, ℕ, Bool, true, false, List, [], ◌∷◌, ◌++◌, subst, arith, cond}
use Rattle.std.proofs.lemmas.List.Elements.{Contains-append_cases}
use Rattle.std.specs.Prelude.{Option, Some, bytes_eq, Contains}
use Rattle.std.specs.List.{flat_map}
use Rattle.ark_script.specs.Line as w
use Rattle.ark_script.specs.Line.{Line}
use Rattle.ark_machine.specs.Machine.{Held, label_numbered}
use Rattle.ark_machine.specs.Control.{is_open_on}
use Rattle.ark_machine.specs.Plane.{blocks_at, asked_blocks}
use Rattle.ark_machine.specs.System.{System, machine_of, owner}
use Rattle.ark_machine.specs.Follow.{slots_for}
use Rattle.ark_machine.specs.Confined.{bound_to, blocks_numbered, open_blocks, reach, readable, writable}
use Rattle.ark_machine.specs.Grants.{GrantsApart}
use Rattle.ark_machine.proofs.Grants.{no_table_block}
use Rattle.ark_laws.proofs.Granted.{areas_apart, new_apart}

-- a block of an area of the application
abbrev IsOwn : System → List ℕ → ℕ → Type 0
IsOwn s a n = (l : List ℕ) × Contains (blocks_at s.plane a l) n

none_in : {A : Type 0} (x : A) → Contains [] x → ⊥
none_in x h = absurd (omega (arith, h.1))

in_flat : {X : Type 0} (f : X → List ℕ) (xs : List X) (n : ℕ) → Contains (flat_map f xs) n → (x : X) × Contains (f x) n
in_flat f [] n h = absurd (omega (arith, h.1))
in_flat f (x ∷ xs) n h = by (Contains-append_cases (f x) (flat_map f xs) n h) (in_flat f xs n)
  where
    by : Contains (f x) n ⊎ Contains (flat_map f xs) n → (Contains (flat_map f xs) n → (y : _) × Contains (f y) n) → (y : _) × Contains (f y) n
    by (inl here) next = (x, here)
    by (inr later) next = next later

open_own : (s : System) (a v : List ℕ) (h : Held) (n : ℕ) → Contains (open_blocks s a v h) n → IsOwn s a n
open_own s a v h n = by (is_open_on v h.object)
  where
    by : (b : Bool) → Contains (cond b (blocks_at s.plane a h.label) []) n → IsOwn s a n
    by true here = (h.label, here)
    by false here = absurd (omega (arith, here.1))

reach_own : (s : System) (a v : List ℕ) (n : ℕ) → Contains (reach s a v) n → IsOwn s a n
reach_own s a v n h = by (Contains-append_cases bound logs n h)
  where
    bound : List ℕ
    bound = flat_map (λ k. blocks_numbered s a (machine_of s a) k) (bound_to (machine_of s a) v)

    logs : List ℕ
    logs = flat_map (λ x. open_blocks s a v x) (machine_of s a).held

    by : Contains bound n ⊎ Contains logs n → IsOwn s a n
    by (inl here) = let found = in_flat (λ k. blocks_numbered s a (machine_of s a) k) (bound_to (machine_of s a) v) n here in (label_numbered (machine_of s a) found.0, found.1)
    by (inr here) = let found = in_flat (λ x. open_blocks s a v x) (machine_of s a).held n here in open_own s a v found.0 n found.1

same_owner : (b a : List ℕ) → ◌≡◌ {A = Option (List ℕ)} (Some b) (Some a) → b ≡ a
same_owner b a h = cc

own_of : (s : System) (a b l : List ℕ) (n : ℕ) → ◌≡◌ {A = Option (List ℕ)} (Some b) (Some a) → Contains (blocks_at s.plane b l) n → IsOwn s a n
own_of s a b l n is h = subst (λ c. IsOwn s c n) (same_owner b a is) (l, h)

pub reads_own : (s : System) (line : Line) (a : List ℕ) (n : ℕ) → owner line ≡ Some a → Contains (readable s line) n → IsOwn s a n
reads_own s (w.peek b l off) a n is h = own_of s a b l n is h
reads_own s (w.walk b l k) a n is h = own_of s a b l n is h
reads_own s (w.log b l v) a n is h = own_of s a b l n is h
reads_own s (w.queue b l v) a n is h = own_of s a b l n is h
reads_own s (w.settle b l) a n is h = own_of s a b l n is h
reads_own s (w.dev b v) a n is h = subst (λ c. IsOwn s c n) (same_owner b a is) (reach_own s b v n h)
reads_own s _ a n is h = absurd (none_in n h)

-- an own block, a new one, or the slot
abbrev IsWritten : System → Line → List ℕ → ℕ → Type 0
IsWritten s line a n = IsOwn s a n ⊎ (Contains (asked_blocks s.plane line) n ⊎ Contains (slots_for s.plane a line) n)

slot_of_own : (s : System) (a b : List ℕ) (line : Line) (n : ℕ) → ◌≡◌ {A = Option (List ℕ)} (Some b) (Some a) → Contains (slots_for s.plane b line) n → IsWritten s line a n
slot_of_own s a b line n is h = inr (inr (subst (λ c. Contains (slots_for s.plane c line) n) (same_owner b a is) h))

slot_or_new : (s : System) (a b : List ℕ) (line : Line) (n : ℕ) → ◌≡◌ {A = Option (List ℕ)} (Some b) (Some a) → Contains (slots_for s.plane b line ++ asked_blocks s.plane line) n → IsWritten s line a n
slot_or_new s a b line n is h = by (Contains-append_cases (slots_for s.plane b line) (asked_blocks s.plane line) n h)
  where
    by : Contains (slots_for s.plane b line) n ⊎ Contains (asked_blocks s.plane line) n → IsWritten s line a n
    by (inl slot) = slot_of_own s a b line n is slot
    by (inr new) = inr (inl new)

pub writes_own : (s : System) (line : Line) (a : List ℕ) (n : ℕ) → owner line ≡ Some a → Contains (writable s line) n → IsWritten s line a n
writes_own s (w.poke b l off bytes) a n is h = inl (own_of s a b l n is h)
writes_own s (w.log b l v) a n is h = inl (own_of s a b l n is h)
writes_own s (w.queue b l v) a n is h = inl (own_of s a b l n is h)
writes_own s (w.settle b l) a n is h = inl (own_of s a b l n is h)
writes_own s (w.dev b v) a n is h = inl (subst (λ c. IsOwn s c n) (same_owner b a is) (reach_own s b v n h))
writes_own s (w.vsa b l k kind) a n is h = slot_or_new s a b (w.vsa b l k kind) n is h
writes_own s (w.grow b l k) a n is h = slot_or_new s a b (w.grow b l k) n is h
writes_own s (w.drop b x) a n is h = slot_of_own s a b (w.drop b x) n is h
writes_own s _ a n is h = absurd (none_in n h)

-- no line reads a block of another application's area
pub no_other_read : (s : System) (line : Line) (a b l : List ℕ) (n : ℕ) → GrantsApart s.plane → owner line ≡ Some a → bytes_eq a b ≡ false → Contains (readable s line) n → Contains (blocks_at s.plane b l) n → ⊥
no_other_read s line a b l n h is apart may theirs =
    let own = reads_own s line a n is may in
    areas_apart s.plane a b own.0 l n h apart own.1 theirs

-- nor writes one
pub no_other_written : (s : System) (line : Line) (a b l : List ℕ) (n : ℕ) → GrantsApart s.plane → owner line ≡ Some a → bytes_eq a b ≡ false → Contains (writable s line) n → Contains (blocks_at s.plane b l) n → ⊥
no_other_written s line a b l n h is apart may theirs = by (writes_own s line a n is may)
  where
    by : IsWritten s line a n → ⊥
    by (inl own) = areas_apart s.plane a b own.0 l n h apart own.1 theirs
    by (inr (inl new)) = new_apart s.plane line b l n new theirs
    by (inr (inr slot)) = no_table_block s.plane a line b l n h slot theirs
