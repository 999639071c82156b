-- What a stop may leave of a block of another application's area, after the device events of a line.
use Rattle.std.proofs.Common.{◌≡◌, ℕ, ◌<◌, false, List, [], ◌∷◌, length, refl, sym, subst}
use Rattle.std.specs.Prelude.{Some, bytes_eq, Contains}
use Rattle.ark_media.specs.Journal.{Event, Read, Write, Sync, Out, onto}
use Rattle.ark_media.specs.Stops.{MayHold, Whole, AnyBytes}
use Rattle.ark_media.proofs.Stopping.{other_write, sync_narrows, any_same}
use Rattle.ark_script.specs.Line.{Line}
use Rattle.ark_machine.specs.Plane.{blocks_at}
use Rattle.ark_machine.specs.System.{System, owner}
use Rattle.ark_machine.specs.Confined.{writable, IsAllowed, AllAllowed}
use Rattle.ark_machine.specs.Grants.{GrantsApart}
use Rattle.ark_laws.proofs.Owned.{no_other_written}

event_left : (Torn : List ℕ → List ℕ → Type 0) → ((c : List ℕ) → Torn c c) → (s : System) (line : Line) (e : Event) (base : List (List ℕ)) (j : List Event) (n : ℕ) (c : List ℕ) → (Contains (writable s line) n → ⊥) → n < length base
    → IsAllowed s line e → MayHold Torn base (e ∷ j) n c → MayHold Torn base j n c
event_left Torn whole s line (Read m ok) base j n c free lt may h = h
event_left Torn whole s line (Write m written took ok) base j n c free lt may h = other_write Torn base j m n written took ok (λ e. free (subst (λ k. Contains (writable s line) k) (sym e) may)) c h
event_left Torn whole s line (Sync ok) base j n c free lt may h = sync_narrows Torn whole base j ok n lt c h
event_left Torn whole s line (Out bytes) base j n c free lt may h = h

events_left : (Torn : List ℕ → List ℕ → Type 0) → ((c : List ℕ) → Torn c c) → (s : System) (line : Line) (es : List Event) (base : List (List ℕ)) (j : List Event) (n : ℕ) (c : List ℕ) → (Contains (writable s line) n → ⊥) → n < length base
    → AllAllowed s line es → MayHold Torn base (onto es j) n c → MayHold Torn base j n c
events_left Torn whole s line [] base j n c free lt may h = h
events_left Torn whole s line (e ∷ es) base j n c free lt may h = event_left Torn whole s line e base j n c free lt may.0 (events_left Torn whole s line es base (e ∷ j) n c free lt may.1 h)

-- where a stop leaves what was written whole
pub others_whole : (s : System) (line : Line) (a b l : List ℕ) (es : List Event) (base : List (List ℕ)) (j : List Event) (n : ℕ) (c : List ℕ) → GrantsApart s.plane → owner line ≡ Some a → bytes_eq a b ≡ false → AllAllowed s line es
    → Contains (blocks_at s.plane b l) n → n < length base → MayHold Whole base (onto es j) n c → MayHold Whole base j n c
others_whole s line a b l es base j n c apart is other may theirs lt h =
    events_left Whole (λ x. refl) s line es base j n c (λ it. no_other_written s line a b l n apart is other it theirs) lt may h

-- where it may leave any bytes
pub others_torn : (s : System) (line : Line) (a b l : List ℕ) (es : List Event) (base : List (List ℕ)) (j : List Event) (n : ℕ) (c : List ℕ) → GrantsApart s.plane → owner line ≡ Some a → bytes_eq a b ≡ false → AllAllowed s line es
    → Contains (blocks_at s.plane b l) n → n < length base → MayHold AnyBytes base (onto es j) n c → MayHold AnyBytes base j n c
others_torn s line a b l es base j n c apart is other may theirs lt h =
    events_left AnyBytes any_same s line es base j n c (λ it. no_other_written s line a b l n apart is other it theirs) lt may h
