-- What each event does to what a stop may leave, and that the recursion says what the words say.
use Rattle.std.proofs.Common.{◌≡◌, ◌⊎◌, inl, inr, ⊎_elim, ℕ, ◌<◌, Bool, true, false, List, [], ◌∷◌, ◌++◌, length, refl, sym, ◌∙◌, ap, subst, arith, get_or-set_same, get_or-set_other}
use Rattle.std.proofs.lemmas.Bool.{cases_eq}
use Rattle.std.proofs.lemmas.List.{length-set, ext_get_or}
use Rattle.ark_media.specs.Journal.{Event, Read, Write, Sync, Out, block, current}
use Rattle.ark_media.specs.Stops.{MayHold, MayLeave, AnyBytes, NoSync, WrittenIn, IsLeft, LeftInWords}
use Rattle.ark_media.specs.StopLaws.{StopLaws}

abbrev Image : Type 0
Image = List (List ℕ)

pub length-current : (base : Image) (j : List Event) → length (current base j) ≡ length base
length-current base [] = refl
length-current base (Write n c true ok ∷ j) = length-set (current base j) n c ∙ length-current base j
length-current base (Write n c false ok ∷ j) = length-current base j
length-current base (Read n ok ∷ j) = length-current base j
length-current base (Sync ok ∷ j) = length-current base j
length-current base (Out bytes ∷ j) = length-current base j

-- a write that took is read at its block
pub current_same : (base : Image) (j : List Event) (n : ℕ) (c : List ℕ) (ok : Bool) → n < length base → block (current base (Write n c true ok ∷ j)) n ≡ c
current_same base j n c ok lt = get_or-set_same (current base j) n c [] (omega (arith, length-current base j, lt))

-- and at no other
pub current_other : (base : Image) (j : List Event) (m n : ℕ) (c : List ℕ) (took ok : Bool) → (n ≡ m → ⊥) → block (current base (Write m c took ok ∷ j)) n ≡ block (current base j) n
current_other base j m n c true ok ne = get_or-set_other (current base j) m n c [] ne
current_other base j m n c false ok ne = refl

-- a write leaves what the other blocks may be
pub other_write : (Torn : List ℕ → List ℕ → Type 0) (base : Image) (j : List Event) (m n : ℕ) (c : List ℕ) (took ok : Bool) → (n ≡ m → ⊥) → (b : List ℕ) → MayHold Torn base (Write m c took ok ∷ j) n b → MayHold Torn base j n b
other_write Torn base j m n c took ok ne b (inl here) = absurd (ne (sym here.0))
other_write Torn base j m n c took ok ne b (inr left) = left

-- what is there now is one of the contents that a stop may leave
pub now_may : (Torn : List ℕ → List ℕ → Type 0) → ((c : List ℕ) → Torn c c) → (base : Image) (j : List Event) (n : ℕ) → n < length base → MayHold Torn base j n (block (current base j) n)
now_may Torn whole base [] n lt = refl
now_may Torn whole base (Write m c true ok ∷ j) n lt = elim (cases_eq n m) [
  | inl same ↦ inl (sym same, subst (λ (b : List ℕ). Torn c b) (sym (subst (λ (k : ℕ). block (current base (Write m c true ok ∷ j)) k ≡ c) (sym same) (current_same base j m c ok (omega (arith, same, lt))))) (whole c))
  | inr ne ↦ inr (subst (λ (b : List ℕ). MayHold Torn base j n b) (sym (current_other base j m n c true ok ne)) (now_may Torn whole base j n lt))
]
now_may Torn whole base (Write m c false ok ∷ j) n lt = inr (now_may Torn whole base j n lt)
now_may Torn whole base (Read m ok ∷ j) n lt = now_may Torn whole base j n lt
now_may Torn whole base (Sync true ∷ j) n lt = refl
now_may Torn whole base (Sync false ∷ j) n lt = now_may Torn whole base j n lt
now_may Torn whole base (Out bytes ∷ j) n lt = now_may Torn whole base j n lt

-- so what stands is an image that it may leave
pub now_left : (Torn : List ℕ → List ℕ → Type 0) → ((c : List ℕ) → Torn c c) → (base : Image) (j : List Event) → MayLeave Torn base j (current base j)
now_left Torn whole base j = record { size = length-current base j; each = λ n lt. now_may Torn whole base j n lt }

-- and after a sync that succeeded the only one
pub synced_alone : (Torn : List ℕ → List ℕ → Type 0) (base : Image) (j : List Event) (image : Image) → MayLeave Torn base (Sync true ∷ j) image → image ≡ current base j
synced_alone Torn base j image leaves =
    ext_get_or [] image (current base j) (leaves.size ∙ sym (length-current base j)) (λ n lt. leaves.each n (omega (arith, leaves.size, lt)))

-- any bytes: also those that were written
pub any_same : (c : List ℕ) → AnyBytes c c
any_same c = record { size = refl; bytes = λ are. are }

-- a sync narrows
pub sync_narrows : (Torn : List ℕ → List ℕ → Type 0) → ((c : List ℕ) → Torn c c) → (base : Image) (j : List Event) (ok : Bool) (n : ℕ) → n < length base → (b : List ℕ) → MayHold Torn base (Sync ok ∷ j) n b → MayHold Torn base j n b
sync_narrows Torn whole base j true n lt b is = subst (λ (c : List ℕ). MayHold Torn base j n c) (sym is) (now_may Torn whole base j n lt)
sync_narrows Torn whole base j false n lt b left = left

-- the recursion says what the words say
parts : (j : List Event) → (since : List Event) × (synced : List Event) × (j ≡ since ++ synced) × NoSync since × ((synced ≡ []) ⊎ ((before : List Event) × (synced ≡ Sync true ∷ before)))
parts [] = ([], [], refl, tt, inl refl)
parts (Write m w took ok ∷ j) = let r = parts j in (Write m w took ok ∷ r.0, r.1, ap (λ (l : List Event). Write m w took ok ∷ l) r.2, r.3, r.4)
parts (Read m ok ∷ j) = let r = parts j in (Read m ok ∷ r.0, r.1, ap (λ (l : List Event). Read m ok ∷ l) r.2, r.3, r.4)
parts (Out b ∷ j) = let r = parts j in (Out b ∷ r.0, r.1, ap (λ (l : List Event). Out b ∷ l) r.2, r.3, r.4)
parts (Sync false ∷ j) = let r = parts j in (Sync false ∷ r.0, r.1, ap (λ (l : List Event). Sync false ∷ l) r.2, r.3, r.4)
parts (Sync true ∷ j) = ([], Sync true ∷ j, refl, tt, inr (j, refl))

pub left_from : (Torn : List ℕ → List ℕ → Type 0) (base : Image) (j : List Event) (n : ℕ) (c : List ℕ) → MayHold Torn base j n c → IsLeft Torn base j n c
left_from Torn base [] n c is = record { since = []; synced = []; split = refl; no_sync = tt; at_sync = inl refl; choice = inl is }
left_from Torn base (Write m w took ok ∷ j) n c (inl here) =
    let rest = parts j in
    record { since = Write m w took ok ∷ rest.0; synced = rest.1; split = ap (λ (l : List Event). Write m w took ok ∷ l) rest.2; no_sync = rest.3; at_sync = rest.4; choice = inr (inl here) }
left_from Torn base (Write m w took ok ∷ j) n c (inr old) =
    let r = left_from Torn base j n c old in
    record { since = Write m w took ok ∷ r.since; synced = r.synced; split = ap (λ (l : List Event). Write m w took ok ∷ l) r.split; no_sync = r.no_sync; at_sync = r.at_sync; choice = ⊎_elim (λ x. inl x) (λ x. inr (inr x)) r.choice }
left_from Torn base (Read m ok ∷ j) n c old =
    let r = left_from Torn base j n c old in
    record { since = Read m ok ∷ r.since; synced = r.synced; split = ap (λ (l : List Event). Read m ok ∷ l) r.split; no_sync = r.no_sync; at_sync = r.at_sync; choice = r.choice }
left_from Torn base (Out b ∷ j) n c old =
    let r = left_from Torn base j n c old in
    record { since = Out b ∷ r.since; synced = r.synced; split = ap (λ (l : List Event). Out b ∷ l) r.split; no_sync = r.no_sync; at_sync = r.at_sync; choice = r.choice }
left_from Torn base (Sync false ∷ j) n c old =
    let r = left_from Torn base j n c old in
    record { since = Sync false ∷ r.since; synced = r.synced; split = ap (λ (l : List Event). Sync false ∷ l) r.split; no_sync = r.no_sync; at_sync = r.at_sync; choice = r.choice }
left_from Torn base (Sync true ∷ j) n c is = record { since = []; synced = Sync true ∷ j; split = refl; no_sync = tt; at_sync = inr (j, refl); choice = inl is }

synced_holds : (Torn : List ℕ → List ℕ → Type 0) (base : Image) (synced : List Event) (n : ℕ) (c : List ℕ) → (synced ≡ []) ⊎ ((before : List Event) × (synced ≡ Sync true ∷ before)) → c ≡ block (current base synced) n → MayHold Torn base synced n c
synced_holds Torn base synced n c (inl none) is = subst (λ (l : List Event). MayHold Torn base l n c) (sym none) (is ∙ ap (λ (l : List Event). block (current base l) n) none)
synced_holds Torn base synced n c (inr some) is = subst (λ (l : List Event). MayHold Torn base l n c) (sym some.1) (is ∙ ap (λ (l : List Event). block (current base l) n) some.1)

since_holds : (Torn : List ℕ → List ℕ → Type 0) (base : Image) (since synced : List Event) (n : ℕ) (c : List ℕ) → NoSync since → MayHold Torn base synced n c ⊎ WrittenIn Torn since n c → MayHold Torn base (since ++ synced) n c
since_holds Torn base [] synced n c none (inl old) = old
since_holds Torn base [] synced n c none (inr new) = absurd new
since_holds Torn base (Write m w took ok ∷ since) synced n c none (inl old) = inr (since_holds Torn base since synced n c none (inl old))
since_holds Torn base (Write m w took ok ∷ since) synced n c none (inr (inl here)) = inl here
since_holds Torn base (Write m w took ok ∷ since) synced n c none (inr (inr there)) = inr (since_holds Torn base since synced n c none (inr there))
since_holds Torn base (Read m ok ∷ since) synced n c none either = since_holds Torn base since synced n c none either
since_holds Torn base (Out b ∷ since) synced n c none either = since_holds Torn base since synced n c none either
since_holds Torn base (Sync false ∷ since) synced n c none either = since_holds Torn base since synced n c none either
since_holds Torn base (Sync true ∷ since) synced n c none either = absurd none

pub from_left : (Torn : List ℕ → List ℕ → Type 0) (base : Image) (j : List Event) (n : ℕ) (c : List ℕ) → IsLeft Torn base j n c → MayHold Torn base j n c
from_left Torn base j n c left = subst (λ (l : List Event). MayHold Torn base l n c) (sym left.split)
    (since_holds Torn base left.since left.synced n c left.no_sync (⊎_elim (λ is. inl (synced_holds Torn base left.synced n c left.at_sync is)) (λ new. inr new) left.choice))

-- an image that a stop may leave, in words and by the recursion
pub left_in_words : (Torn : List ℕ → List ℕ → Type 0) (base : Image) (j : List Event) (x : Image) → MayLeave Torn base j x → LeftInWords Torn base j x
left_in_words Torn base j x m = record { size = m.size; each = λ n lt. left_from Torn base j n (block x n) (m.each n lt) }

pub left_by_recursion : (Torn : List ℕ → List ℕ → Type 0) (base : Image) (j : List Event) (x : Image) → LeftInWords Torn base j x → MayLeave Torn base j x
left_by_recursion Torn base j x m = record { size = m.size; each = λ n lt. from_left Torn base j n (block x n) (m.each n lt) }

-- all laws of a model in which a stop may leave what was written
pub stop_laws : (Torn : List ℕ → List ℕ → Type 0) → ((c : List ℕ) → Torn c c) → StopLaws Torn
stop_laws Torn same = record {
  in_words = left_in_words Torn;
  by_recursion = left_by_recursion Torn;
  write_adds = λ base j m n c took ok b other. other_write Torn base j m n c took ok other b;
  sync_narrows = λ base j ok n b inside. sync_narrows Torn same base j ok n inside b;
  now_may = now_left Torn same;
  synced = synced_alone Torn;
}
