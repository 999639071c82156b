-- Entries that were found one behind another.
use Rattle.std.proofs.Common.{◌≡◌, ℕ, ◌+◌, ◌-◌, ◌^◌, ◌<◌, ◌≤◌, Bool, true, List, [], ◌∷◌, ◌++◌, map, All, Some, None, length, take, drop, refl, sym, ◌∙◌, ap, subst, arith, length-append, append-nil}
use Rattle.std.proofs.lemmas.List.{map-append, length-map}
use Rattle.std.proofs.lemmas.List.Elements.{All-push}
use Rattle.circular_buffer.specs.Buffer.{Buffer, buffer, keep_last}
use Rattle.ark_media.specs.Journal.{Event, AllBlocks}
use Rattle.ark_media.specs.Calls.{Went}
use Rattle.ark_entry.specs.Entry.{entry_blocks}
use Rattle.ark_entry.specs.Reading.{reading, Entry, Finds, Stands}
use Rattle.ark_entry.proofs.Readings.{some_block}
use Rattle.ark_entry.proofs.Standing.{stands_push, stands_then, none_end}
use Rattle.ark_chain.specs.Survey.{reads_at, blocks_used, ends_of, all_ends, Rise}
use Rattle.ark_chain.specs.Walking.{IsNext, FitsAt, HasEntries, HasWalked, AreFound}
use Rattle.ark_chain.proofs.Places.{blocks_more, rise_more, ends_rise, all_ends_more}
use Rattle.ark_chain.proofs.Looking.{none_read, reads_then}

-- entries of these lengths stand from the start on, up to a place
abbrev pub AreStanding : ℕ → ℕ → ℕ → List ℕ → ℕ → List (List ℕ) → Type 0
AreStanding room start first lengths used image =
    AllBlocks image → (xs : List (List ℕ)) × (lengths ≡ map (λ p. length p) xs) × Stands room start (reading (drop 1 image) start) 0 first xs used

pub none_stands : (room start first : ℕ) (lengths : List ℕ) (image : List (List ℕ)) → lengths ≡ [] → AreStanding room start first lengths 0 image
none_stands room start first lengths image is whole = ([], is, refl)

-- none are there yet
module _ (room first : ℕ) (lengths : List ℕ) (is : lengths ≡ []) where
  pub none_entries : first ≤ 2 ^ 62 + 1 → HasEntries room first lengths 0
  none_entries low = subst (λ (l : List ℕ). HasEntries room first l 0) (sym is) (record { used_is = refl; fits = omega arith; few = omega arith; short = λ k d lt. absurd (omega (arith, lt)); last = omega (arith, low) })

  pub none_once : Rise 0 (all_ends 0 lengths) 0
  none_once = subst (λ (l : List ℕ). Rise 0 (all_ends 0 l) 0) (sym is) (omega arith)

  pub none_went : {D : Type 0} (goes : D → List Event → D → Type 0) → ((d : D) → goes d [] d) → (start : ℕ) (d : D) → Went goes (reads_at room start (all_ends 0 lengths)) true d d
  none_went goes none start d = subst (λ (l : List ℕ). Went goes (reads_at room start (all_ends 0 l)) true d d) (sym is) (none_read goes none d)

-- a length is noted where there is room
pub pushed : (old new : Buffer ℕ) (len : ℕ) → new ≡ buffer (keep_last old.capacity (old.items ++ len ∷ [])) old.capacity → length old.items < old.capacity → new.items ≡ old.items ++ len ∷ []
pushed old new len is fits =
    let long : length (old.items ++ len ∷ []) ≡ length old.items + 1 = length-append old.items (len ∷ []) in
    let none : length (old.items ++ len ∷ []) - old.capacity ≡ 0 = omega (arith, long, fits) in
    ap (λ (b : Buffer ℕ). b.items) is ∙ ap (λ n. drop n (old.items ++ len ∷ [])) none

-- what holds of the entries so far holds with one more
module _ (room first number : ℕ) (lengths more : List ℕ) (used up len : ℕ) (is : more ≡ lengths ++ len ∷ []) (sum : up ≡ used + entry_blocks len) where
  pub step_count : length more ≡ length lengths + 1
  step_count = ap length is ∙ length-append lengths (len ∷ [])

  pub step_entries : number ≡ first + length lengths → HasEntries room first lengths used → FitsAt room used number len → HasEntries room first more up
  step_entries numbered has fits =
      let b : 1 ≤ entry_blocks len = some_block len in
      record {
        used_is = sum ∙ ap (λ n. n + entry_blocks len) has.used_is ∙ sym (ap blocks_used is ∙ blocks_more lengths len);
        fits = omega (arith, sum, fits.fits);
        few = omega (arith, step_count, has.few, b, sum);
        short = subst (λ (l : List ℕ). All (λ n. n ≤ 32768) l) (sym is) (All-push (λ n. n ≤ 32768) lengths len has.short fits.short);
        last = omega (arith, step_count, numbered, fits.low);
      }

  pub step_once : used ≡ blocks_used lengths → Rise 0 (all_ends 0 lengths) used → Rise 0 (all_ends 0 more) up
  step_once used_is once =
      subst (λ (l : List ℕ). Rise 0 l up) (sym (ap (all_ends 0) is ∙ all_ends_more lengths len used used_is))
      (rise_more 0 (all_ends 0 lengths) (ends_of used len) used up once (subst (λ (n : ℕ). Rise used (ends_of used len) n) (sym sum) (ends_rise used len)))

  pub step_went : {D : Type 0} (goes : D → List Event → D → Type 0) → ((a b c : D) (es fs : List Event) → goes a es b → goes b fs c → goes a (es ++ fs) c) → (start : ℕ) (a b c : D) (places : List ℕ) → places ≡ ends_of used len
      → used ≡ blocks_used lengths → Went goes (reads_at room start (all_ends 0 lengths)) true a b → Went goes (reads_at room start places) true b c → Went goes (reads_at room start (all_ends 0 more)) true a c
  step_went goes joins start a b c places are used_is first next =
      subst (λ (l : List ℕ). Went goes (reads_at room start l) true a c) (ap (λ (t : List ℕ). all_ends 0 lengths ++ t) are ∙ sym (ap (all_ends 0) is ∙ all_ends_more lengths len used used_is))
      (reads_then goes joins room start (all_ends 0 lengths) places true a b c first next)

  pub step_standing : (start : ℕ) (image : List (List ℕ)) → number ≡ first + length lengths → AreStanding room start first lengths used image → IsNext room start used number (Some len) image → AreStanding room start first more up image
  step_standing start image numbered stand next whole =
      let s = stand whole in
      let n = next whole in
      let count : number ≡ first + length s.0 = numbered ∙ ap (λ (l : List ℕ). first + length l) s.1 ∙ ap (λ k. first + k) (length-map s.0 (λ p. length p)) in
      let entry = subst (λ (m : ℕ). Entry room start (reading (drop 1 image) start) used m n.0) count n.2 in
      let to : used + entry_blocks (length n.0) ≡ up = ap (λ k. used + entry_blocks k) n.1 ∙ sym sum in (
        s.0 ++ n.0 ∷ [],
        is ∙ (λ i. s.1 i ++ sym n.1 i ∷ []) ∙ sym (map-append (λ p. length p) s.0 (n.0 ∷ [])),
        subst (λ (k : ℕ). Stands room start (reading (drop 1 image) start) 0 first (s.0 ++ n.0 ∷ []) k) to (stands_push room start (reading (drop 1 image) start) 0 first s.0 n.0 used s.2 entry),
      )

-- the walk ends behind the entries so far, with at most the ends of one more
pub walk_ends : {D : Type 0} (goes : D → List Event → D → Type 0) → ((a b c : D) (es fs : List Event) → goes a es b → goes b fs c → goes a (es ++ fs) c) → (room start : ℕ) (lengths : List ℕ) (used : ℕ) (ok : Bool) (a b c : D)
    → used ≡ blocks_used lengths → Went goes (reads_at room start (all_ends 0 lengths)) true a b → Rise 0 (all_ends 0 lengths) used
    → (places : List ℕ) → Went goes (reads_at room start places) ok b c → Rise used places room → (len n : ℕ) → places ≡ take n (ends_of used len) → HasWalked goes room start ok lengths a c
walk_ends goes joins room start lengths used ok a b c used_is first once places next more len n are = record {
  places = all_ends 0 lengths ++ places;
  went = reads_then goes joins room start (all_ends 0 lengths) places ok a b c first next;
  once = rise_more 0 (all_ends 0 lengths) places used room once more;
  ends = (len, n, ap (λ (t : List ℕ). all_ends 0 lengths ++ t) (are ∙ ap (λ v. take n (ends_of v len)) used_is));
}

pub standing_found : (room start first number : ℕ) (lengths : List ℕ) (used : ℕ) (image : List (List ℕ)) → number ≡ first + length lengths → AreStanding room start first lengths used image
    → IsNext room start used number None image → AreFound room start first lengths image
standing_found room start first number lengths used image numbered stand next whole =
    let s = stand whole in
    let count : number ≡ first + length s.0 = numbered ∙ ap (λ (l : List ℕ). first + length l) s.1 ∙ ap (λ k. first + k) (length-map s.0 (λ p. length p)) in
    let none = subst (λ (m : ℕ). Finds room start (reading (drop 1 image) start) used m []) count (next whole) in (
      s.0,
      s.1,
      subst (λ (l : List (List ℕ)). Finds room start (reading (drop 1 image) start) 0 first l) (append-nil s.0)
          (stands_then room start (reading (drop 1 image) start) 0 first s.0 [] used s.2 none),
    )

-- no entry stands behind the ring's last block
pub none_behind : (room start used number : ℕ) (image : List (List ℕ)) → room ≤ used → IsNext room start used number None image
none_behind room start used number image past whole payload e = none_end room start (reading (drop 1 image) start) used number payload past e
