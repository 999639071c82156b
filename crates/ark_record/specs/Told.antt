-- The laws of a disk that is told by its record, written out.
use Rattle.std.specs.Prelude.{◌≡◌, ◌==◌, ℕ, zero, suc, Bool, true, false, List, [], ◌∷◌, ◌++◌, length, replicate, Option, Some, None, refl}
use Rattle.std.proofs.Common.{◌∙◌, subst, le_of_suc-le-suc, not-suc-le-zero}
use Rattle.std.proofs.lemmas.Bool.{and_parts, and_from, eq-eqb, eqb-true}
use Rattle.std.proofs.lemmas.List.{length-replicate}
use Rattle.ark_media.specs.Journal.{Event, History, AllBlocks, zero_block}
use Rattle.ark_media.specs.Going.{moves_none, moves_then}
use Rattle.ark_record.specs.Answer.{Answer, Attached, Made, Got, Gave, Synced, Fetched, Put}
use Rattle.ark_record.specs.Replay.{Supposed, Past, Model, are_blocks, is_image, after, replay, model_of}
use Rattle.ark_record.specs.Watch.{told_if, told_by, beside_by, GoesOn}

pub goes_on_none : (p : Past) → GoesOn p [] p
goes_on_none p = record { supposed = refl; moves = moves_none (told_by p) (beside_by p) }

pub goes_on_then : (es fs : List Event) (a b c : Past) → GoesOn a es b → GoesOn b fs c → GoesOn a (es ++ fs) c
goes_on_then es fs a b c p q = record {
  supposed = q.supposed ∙ p.supposed;
  moves = moves_then es fs (told_by a) (told_by b) (told_by c) (beside_by a) (beside_by b) (beside_by c) p.moves q.moves;
}

zeros_are : (n : ℕ) → are_blocks (replicate n zero_block) ≡ true
zeros_are zero = refl
zeros_are (suc n) = and_from (length zero_block == 512) (are_blocks (replicate n zero_block)) (eq-eqb (length zero_block) 512 (length-replicate {A = ℕ} 512 0)) (zeros_are n)

fresh_is : (n : ℕ) → is_image n (replicate n zero_block) ≡ true
fresh_is n = and_from (length (replicate n zero_block) == n) (are_blocks (replicate n zero_block)) (eq-eqb (length (replicate n zero_block)) n (length-replicate n zero_block)) (zeros_are n)

-- the base is an image of the device, where all answers were honest
abbrev IsBased : Model → Type 0
IsBased m = m.is_honest ≡ true → is_image m.blocks m.base ≡ true

based_after : (a : Answer) (m : Model) → IsBased m → IsBased (after a m)
based_after (Attached name n true) m was = λ honest. (and_parts m.is_honest _ honest).1
based_after (Attached name n false) m was = was
based_after (Made name n true) m was = λ honest. fresh_is n
based_after (Made name n false) m was = was
based_after (Got n true bytes) m was = λ honest. was (and_parts m.is_honest _ honest).0
based_after (Got n false bytes) m was = was
based_after (Gave n true bytes) m was = was
based_after (Gave n false bytes) m was = was
based_after (Synced ok) m was = was
based_after (Fetched true bytes) m was = λ honest. was (and_parts m.is_honest _ honest).0
based_after (Fetched false bytes) m was = was
based_after (Put true bytes) m was = was
based_after (Put false bytes) m was = was

based : (s : Supposed) (calls : List Answer) → IsBased (replay s calls)
based s [] = λ honest. refl
based s (a ∷ earlier) = based_after a (replay s earlier) (based s earlier)

abbrev HasBase : ℕ → Option History → Type 0
HasBase n None = Unit {0}
HasBase n (Some h) = is_image n h.base ≡ true

has_base : (b : Bool) (h : History) (n : ℕ) → (b ≡ true → is_image n h.base ≡ true) → HasBase n (told_if b h)
has_base true h n image = image refl
has_base false h n image = tt

image_told : (p : Past) (h : History) → (told_by p).history ≡ Some h → is_image (model_of p).blocks h.base ≡ true
image_told p h is =
    let m = model_of p in
    subst (HasBase m.blocks) is (has_base m.is_honest (record { base = m.base; journal = m.journal }) m.blocks (based p.supposed p.calls))

-- The base that is told has the size of the device,
pub size_told : (p : Past) (h : History) → (told_by p).history ≡ Some h → length h.base ≡ (model_of p).blocks
size_told p h is = eqb-true (length h.base) (model_of p).blocks (and_parts (length h.base == (model_of p).blocks) (are_blocks h.base) (image_told p h is)).0

pub each_is : (image : List (List ℕ)) → are_blocks image ≡ true → AllBlocks image
each_is [] are n inside = absurd (not-suc-le-zero inside)
each_is (b ∷ bs) are zero inside = eqb-true (length b) 512 (and_parts (length b == 512) (are_blocks bs) are).0
each_is (b ∷ bs) are (suc n) inside = each_is bs (and_parts (length b == 512) (are_blocks bs) are).1 n (le_of_suc-le-suc inside)

-- and its blocks have 512 bytes.
pub blocks_told : (p : Past) (h : History) → (told_by p).history ≡ Some h → AllBlocks h.base
blocks_told p h is = each_is h.base (and_parts (length h.base == (model_of p).blocks) (are_blocks h.base) (image_told p h is)).1
