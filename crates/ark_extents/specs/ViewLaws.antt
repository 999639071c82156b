-- How a view goes on: the laws of a disk, written out for a view.
use Rattle.std.specs.Prelude.{◌≡◌, ◌<◌, All, ℕ, List, [], ◌∷◌, ◌++◌, Option, Some, None, get_or, map, length, option_map, is_some, refl}
use Rattle.std.proofs.Common.{sym, ◌∙◌, ap, subst, inl, inr, ⊎_elim}
use Rattle.std.proofs.lemmas.Bool.{false≢true}
use Rattle.std.proofs.lemmas.List.{length-map, get_or-map}
use Rattle.std.proofs.lemmas.List.Elements.{All-get_or}
use Rattle.ark_media.specs.Journal.{Event, Read, Write, Sync, Out, History, AllBlocks, onto, block, HasFailed}
use Rattle.ark_media.specs.Calls.{Told, Tells}
use Rattle.ark_extents.specs.Views.{view_told, view_image, view_events, view_history, read_at, write_at, ArePlaced, outer, AreWithin, GoesOver}

map_append : (blocks : List ℕ) (xs ys : List Event) → map (outer blocks) (xs ++ ys) ≡ map (outer blocks) xs ++ map (outer blocks) ys
map_append blocks [] ys = refl
map_append blocks (x ∷ xs) ys = ap (λ (l : List Event). outer blocks x ∷ l) (map_append blocks xs ys)

within_append : (n : ℕ) (xs ys : List Event) → AreWithin n xs → AreWithin n ys → AreWithin n (xs ++ ys)
within_append n [] ys a b = b
within_append n (Read k ok ∷ xs) ys a b = (a.0, within_append n xs ys a.1 b)
within_append n (Write k content took ok ∷ xs) ys a b = (a.0, within_append n xs ys a.1 b)
within_append n (Sync ok ∷ xs) ys a b = within_append n xs ys a b
within_append n (Out bytes ∷ xs) ys a b = within_append n xs ys a b

pub over_more : {D : Type 0} (goes : D → List Event → D → Type 0) → ((a b c : D) (es fs : List Event) → goes a es b → goes b fs c → goes a (es ++ fs) c)
    → (blocks again : List ℕ) (a b c : D) (es fs : List Event) → again ≡ blocks → GoesOver goes blocks es a b → GoesOver goes again fs b c → GoesOver goes blocks (es ++ fs) a c
over_more goes more blocks again a b c es fs same first rest =
    let next = subst (λ (l : List ℕ). GoesOver goes l fs b c) same rest in
    record {
      within = within_append (length blocks) es fs first.within next.within;
      goes_on = subst (λ (l : List Event). goes a l c) (sym (map_append blocks es fs)) (more a b c (map (outer blocks) es) (map (outer blocks) fs) first.goes_on next.goes_on);
    }

events_over : (blocks : List ℕ) → ArePlaced blocks → (events before : List Event) → AreWithin (length blocks) events
    → view_events blocks (onto (map (outer blocks) events) before) ≡ onto events (view_events blocks before)
events_over blocks placed [] before within = refl
events_over blocks placed (Read k ok ∷ events) before within = events_over blocks placed events (Read (get_or blocks k 0) ok ∷ before) within.1
    ∙ ap (λ (o : Option ℕ). onto events (read_at o ok (view_events blocks before))) (placed k within.0)
events_over blocks placed (Write k c took ok ∷ events) before within = events_over blocks placed events (Write (get_or blocks k 0) c took ok ∷ before) within.1
    ∙ ap (λ (o : Option ℕ). onto events (write_at o c took ok (view_events blocks before))) (placed k within.0)
events_over blocks placed (Sync ok ∷ events) before within = events_over blocks placed events (Sync ok ∷ before) within
events_over blocks placed (Out bytes ∷ events) before within = events_over blocks placed events (Out bytes ∷ before) within

failed_over : (blocks : List ℕ) (events : List Event) → HasFailed events → HasFailed (map (outer blocks) events)
failed_over blocks [] h = h
failed_over blocks (Read k ok ∷ events) h = ⊎_elim (λ x. inl x) (λ x. inr (failed_over blocks events x)) h
failed_over blocks (Write k c took ok ∷ events) h = ⊎_elim (λ x. inl x) (λ x. inr (failed_over blocks events x)) h
failed_over blocks (Sync ok ∷ events) h = ⊎_elim (λ x. inl x) (λ x. inr (failed_over blocks events x)) h
failed_over blocks (Out bytes ∷ events) h = ⊎_elim (λ x. inl x) (λ x. inr (failed_over blocks events x)) h

abbrev value_or : {A : Type 0} → A → Option A → A
value_or x None = x
value_or x (Some y) = y

pub some_map : {A B : Type 0} (f : A → B) (o : Option A) (y : B) → option_map f o ≡ Some y → (x : A) × (o ≡ Some x) × (f x ≡ y)
some_map f (Some x) y is = (x, refl, ap (λ o. value_or (f x) o) is)
some_map f None y is = absurd (false≢true (ap is_some is))

tells_over : (blocks : List ℕ) → ArePlaced blocks → (events : List Event) (old new : Told) → AreWithin (length blocks) events → Tells (map (outer blocks) events) old new
    → Tells events (view_told blocks old) (view_told blocks new)
tells_over blocks placed events old new within tells = record {
  adds = record {
    told = λ h is.
        let n = some_map (view_history blocks) new.history h is in
        let m = tells.adds.told n.0 n.1 in (
          view_events blocks m.0,
          ap (λ (o : Option History). option_map (view_history blocks) o) m.1 ∙ ap (λ (y : History). Some (record { base = y.base; journal = view_events blocks m.0 })) n.2,
          sym (ap (λ (y : History). y.journal) n.2) ∙ ap (λ (l : List Event). view_events blocks l) m.2 ∙ events_over blocks placed events m.0 within,
        );
  };
  blocks = refl;
  later = tells.later;
  cause = λ bad. tells.cause (failed_over blocks events bad);
}

pub over_told : {D : Type 0} (goes : D → List Event → D → Type 0) (told : D → Told) → ((a b : D) (es : List Event) → goes a es b → Tells es (told a) (told b))
    → (blocks again : List ℕ) → ArePlaced blocks → (a b : D) (es : List Event) → again ≡ blocks → GoesOver goes blocks es a b → Tells es (view_told blocks (told a)) (view_told again (told b))
over_told goes told law blocks again placed a b es same over =
    subst (λ (l : List ℕ). Tells es (view_told blocks (told a)) (view_told l (told b))) (sym same)
    (tells_over blocks placed es (told a) (told b) over.within (law a b (map (outer blocks) es) over.goes_on))

-- the base of a view has as many blocks as the view
pub view_size : (blocks : List ℕ) (o : Option History) (h : History) → option_map (view_history blocks) o ≡ Some h → length h.base ≡ length blocks
view_size blocks o h is =
    let s = some_map (view_history blocks) o h is in
    sym (ap (λ (y : History). length y.base) s.2) ∙ length-map blocks (λ n. block s.0.base n)

view_each : (blocks : List ℕ) (base : List (List ℕ)) → AllBlocks base → All (λ n. n < length base) blocks → AllBlocks (view_image blocks base)
view_each blocks base whole inside k at =
    let here : k < length blocks = subst (λ m. k < m) (length-map blocks (λ n. block base n)) at in
    let same : block (view_image blocks base) k ≡ block base (get_or blocks k 0) = get_or-map (λ n. block base n) blocks k 0 [] here in
    subst (λ (b : List ℕ). length b ≡ 512) (sym same) (whole (get_or blocks k 0) (All-get_or (λ n. n < length base) blocks k 0 here inside))

-- each block of a view's base has 512 bytes, as those of its disk's base have
pub view_blocks : (blocks : List ℕ) (told : Told) → ((h : History) → told.history ≡ Some h → length h.base ≡ told.blocks) → ((h : History) → told.history ≡ Some h → AllBlocks h.base)
    → All (λ n. n < told.blocks) blocks → (h : History) → option_map (view_history blocks) told.history ≡ Some h → AllBlocks h.base
view_blocks blocks told size whole inside h is =
    let s = some_map (view_history blocks) told.history h is in
    subst (λ (y : History). AllBlocks y.base) s.2
    (view_each blocks s.0.base (whole s.0 s.1) (subst (λ m. All (λ n. n < m) blocks) (sym (size s.0 s.1)) inside))
