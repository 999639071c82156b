-- A header's buffer that is taken and given back, and a card that changes twice.
use Rattle.std.proofs.Common.{◌≡◌, ℕ, ◌&&◌, Bool, true, List, length, replicate, refl, sym, ◌∙◌, subst, arith}
use Rattle.std.specs.Prelude.{◌==◌, Some}
use Rattle.ark_base.specs.declared.kind.Kind.{Kind}
use Rattle.ark_chain.specs.declared.surveying.Seen.{Seen}
use Rattle.ark_vic.specs.Queue.{members}
use Rattle.ark_log.specs.Closed.{HasBuffersIn}
use Rattle.ark_log.specs.Loaded.{loaded_chain}
use Rattle.ark_log.specs.Open.{OpenChain}
use Rattle.ark_log.specs.Stages.{IsWhole}
use Rattle.ark_held.specs.Idle.{IsUnused}
use Rattle.ark_held.specs.declared.card.StorageCard.{StorageCard}
use Rattle.ark_held.proofs.Lists.{some_same}
use Rattle.std.proofs.Math.Logic.{∥∥₁_map}
use Rattle.ark_objects.specs.Held.{at, Changes}
use Rattle.ark_region.specs.Frames.{Apart, IsLeastPlace, IsTaken, LiesInRegion, Piece, Space, bytes_of, frames_of, put}
use Rattle.ark_log.specs.Buffers.{IsNewBuffer}
use Rattle.ark_held.specs.Stored.{AllIn}
use Rattle.ark_held.specs.declared.buffer.Buffer.{Buffer}
use Rattle.ark_held.proofs.Storing.{in_more}
use Rattle.std.specs.Prelude.{Option}

-- buffers lie in a memory of as many frames
pub all_in : (t u : List Bool) (buffers : List (Option Buffer)) → length u ≡ length t → ∥ AllIn t buffers ∥₁ → ∥ AllIn u buffers ∥₁
all_in t u buffers long lie = ∥∥₁_map lie (λ all key b there. in_more t u b long (all key b there))

-- a buffer of this length that was taken
pub new_buffer : (old new : Space) (len : ℕ) (b : Piece) → b.len ≡ len → IsLeastPlace (IsTaken old.taken) (length old.taken) (frames_of len) b.start → LiesInRegion new.taken b → new.taken ≡ put old.taken b.start (replicate (frames_of len) true)
    → bytes_of new b ≡ replicate len 0 → ((a : Piece) → Apart b a → bytes_of new a ≡ bytes_of old a) → IsNewBuffer old new (replicate len 0) b
new_buffer old new len b is place lies taken here others = record {
  place = subst (λ (n : ℕ). IsLeastPlace (IsTaken old.taken) (length old.taken) (frames_of n) b.start) (sym is) place;
  lies = lies;
  taken = subst (λ (n : ℕ). new.taken ≡ put old.taken b.start (replicate (frames_of n) true)) (sym is) taken;
  here = here;
  others = others;
}

-- one change behind another
pub changes_twice : {T : Type 0} (a b c : List (Option T)) (key : ℕ) (one two : T) → Changes a b key (Some one) → Changes b c key (Some two) → Changes a c key (Some two)
changes_twice a b c key one two first second = record { changed = second.changed; others = λ other apart. second.others other apart ∙ first.others other apart }

-- the header of a log that was loaded is all that it has, and lies in a memory of as many frames
pub loaded_lies : (taken : List Bool) (chain : OpenChain) (header : Piece) (was : List Bool) (kind : Kind) (grant room : ℕ) (seen : Seen) (lengths : List ℕ) → chain ≡ loaded_chain kind grant room header seen lengths → LiesInRegion was header → length taken ≡ length was → HasBuffersIn taken chain
loaded_lies taken chain header was kind grant room seen lengths is lies long = subst (λ (v : OpenChain). HasBuffersIn taken v) (sym is) (record {
  header = omega (arith, lies, long);
  waiting = λ k w lt. absurd (omega (arith, lt));
})

-- no descriptor has it
pub loaded_whole : (chain : OpenChain) (header : Piece) (kind : Kind) (grant room : ℕ) (seen : Seen) (lengths : List ℕ) → chain ≡ loaded_chain kind grant room header seen lengths → IsWhole chain
loaded_whole chain header kind grant room seen lengths is = subst IsWhole (sym is) (record { header = refl; entries = λ k w lt. absurd (omega (arith, lt)) })

-- a ring of which nothing is used
pub unused : (cards : List (Option StorageCard)) (key : ℕ) (one : StorageCard) → at cards key ≡ Some one → members one.vsic.ring ≡ 0 → IsUnused cards key
unused cards key one here none c there =
    let same = some_same (at cards key) one c here there in
    subst (λ (z : StorageCard). ((length z.vsic.ring.posted == 0) && (length z.vsic.ring.unreaped == 0)) ≡ true) same
    (let posted : length one.vsic.ring.posted ≡ 0 = omega (arith, none) in
    let unreaped : length one.vsic.ring.unreaped ≡ 0 = omega (arith, none) in
    rw (posted, unreaped) refl)
