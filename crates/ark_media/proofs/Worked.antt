-- Two blocks, one of which is written, and what a stop may leave of them, worked out.
use Rattle.std.proofs.Common.{◌≡◌, ◌≢◌, ◌<◌, inl, inr, ⊎_elim, ℕ, zero, suc, true, List, [], ◌∷◌, get_or, refl, ap, arith}
use Rattle.std.proofs.lemmas.List.Elements.{All-cons, All-nil, All-head}
use Rattle.ark_media.specs.Journal.{Event, Write, Sync, block}
use Rattle.ark_media.specs.Stops.{MayHold, MayLeave, LeftInWords, Whole, AreBytes, AnyBytes}
use Rattle.ark_media.proofs.Stopping.{left_in_words, left_by_recursion, other_write, sync_narrows, now_left, synced_alone, any_same}

-- blocks of one byte
base : List (List ℕ)
base = (1 ∷ []) ∷ ((2 ∷ []) ∷ [])

-- a write of block 1 that took
written : List Event
written = Write 1 (7 ∷ []) true true ∷ []

image : ℕ → List (List ℕ)
image b = (1 ∷ []) ∷ ((b ∷ []) ∷ [])

is_byte : (b : ℕ) → b < 256 → AreBytes (b ∷ [])
is_byte b lt = All-cons (λ (x : ℕ). x < 256) b [] lt (All-nil (λ (x : ℕ). x < 256))

-- before a sync the old block may be left, or the new one
old_left : MayLeave Whole base written (image 2)
unfolding base written image
old_left = record { size = refl; each = holds }
  where
    holds : (n : ℕ) → n < 2 → MayHold Whole base written n (block (image 2) n)
    holds zero lt = inr refl
    holds (suc zero) lt = inr refl
    holds (suc (suc n)) lt = absurd (omega arith)

new_left : MayLeave Whole base written (image 7)
unfolding base written image
new_left = now_left Whole (λ c. refl) base written

-- where it may be torn, any byte
torn_left : MayLeave AnyBytes base written (image 9)
unfolding base written image
torn_left = record { size = refl; each = holds }
  where
    holds : (n : ℕ) → n < 2 → MayHold AnyBytes base written n (block (image 9) n)
    holds zero lt = inr refl
    holds (suc zero) lt = inl (refl, record { size = refl; bytes = λ are. is_byte 9 (omega arith) })
    holds (suc (suc n)) lt = absurd (omega arith)

-- but nothing that is no byte
no_byte : MayHold AnyBytes base written 1 (300 ∷ []) → ⊥
unfolding base written
no_byte left = ⊎_elim
    (λ here. let large : 300 < 256 = All-head (λ (x : ℕ). x < 256) 300 [] (here.1.bytes (is_byte 7 (omega arith))) in omega arith)
    (λ is. let same : 300 ≡ 2 = ap (λ (l : List ℕ). get_or l 0 0) is in omega arith)
    left

whole_words : LeftInWords Whole base written (image 2)
whole_words = left_in_words Whole base written (image 2) old_left

torn_words : LeftInWords AnyBytes base written (image 9)
torn_words = left_in_words AnyBytes base written (image 9) torn_left

whole_back : MayLeave Whole base written (image 2)
whole_back = left_by_recursion Whole base written (image 2) whole_words

torn_back : MayLeave AnyBytes base written (image 9)
torn_back = left_by_recursion AnyBytes base written (image 9) torn_words

-- the write of block 1 adds nothing to block 0
apart : ◌≢◌ {A = ℕ} 0 1
apart is = absurd (omega arith)

whole_other : MayHold Whole base [] 0 (1 ∷ [])
unfolding base written image
whole_other = other_write Whole base [] 1 0 (7 ∷ []) true true apart (1 ∷ []) (old_left.each 0 (omega arith))

torn_other : MayHold AnyBytes base [] 0 (1 ∷ [])
unfolding base written image
torn_other = other_write AnyBytes base [] 1 0 (7 ∷ []) true true apart (1 ∷ []) (torn_left.each 0 (omega arith))

-- what is left after a sync was left before it
whole_before : MayHold Whole base written 1 (7 ∷ [])
unfolding base written
whole_before = sync_narrows Whole (λ c. refl) base written true 1 (omega arith) (7 ∷ []) refl

torn_before : MayHold AnyBytes base written 1 (7 ∷ [])
unfolding base written
torn_before = sync_narrows AnyBytes any_same base written true 1 (omega arith) (7 ∷ []) refl

-- after the sync the new block is there, and no other
synced : (x : List (List ℕ)) → MayLeave Whole base (Sync true ∷ written) x → x ≡ image 7
unfolding base written image
synced x left = synced_alone Whole base written x left

new_stays : MayLeave AnyBytes base (Sync true ∷ written) (image 7)
unfolding base written image
new_stays = now_left AnyBytes any_same base (Sync true ∷ written)

torn_synced : (x : List (List ℕ)) → MayLeave AnyBytes base (Sync true ∷ written) x → x ≡ image 7
unfolding base written image
torn_synced x left = synced_alone AnyBytes base written x left
