-- An entry that was read over an area's blocks, said of the disk below.
use Rattle.std.proofs.Common.{◌≡◌, ℕ, ◌+◌, ◌≤◌, Bool, true, false, List, [], ◌∷◌, Option, length, take, drop, map, refl, sym, ◌∙◌, ap, subst, arith}
use Rattle.std.specs.Prelude.{Result, Ok, Err, Some, IfOk, IfErr, OnOk, option_map}
use Rattle.std.proofs.lemmas.List.{length-drop, length-map}
use Rattle.ark_media.specs.Journal.{Event, History, block, current}
use Rattle.ark_media.specs.Calls.{GoesBy, Makes, OnTold, Told, Went}
use Rattle.ark_media.specs.Standing.{after}
use Rattle.ark_extents.specs.Views.{GoesOver, outer, view_history, view_told}
use Rattle.ark_entry.specs.Entry.{entry_blocks}
use Rattle.ark_caladan.specs.Views.{OnDisk, contents_at}
use Rattle.ark_chain.specs.Single.{IsPayload, behind}
use Rattle.ark_chain.specs.Survey.{block_at, reads}
use Rattle.ark_chain.proofs.Looking.{reads_leave}
use Rattle.ark_log.specs.Open.{OpenChain}
use Rattle.ark_log.specs.Refused.{length_of}
use Rattle.ark_log.specs.Walked.{HasAt, IsNotRead, WentToRead, place_of}
use Rattle.ark_log.specs.declared.walking.ReadAt.{ReadAt}
use Rattle.ark_log.specs.declared.walking.ReadAt.TheVariants.{NoEntry, DeviceFault}
use Rattle.ark_running.specs.Opening.{ReadsArea, blocks_of}
use Rattle.ark_running.proofs.AreaOpened.{area_places}
use Rattle.ark_running.proofs.Viewed.{places_read, reads_outer, view_shows}
use Rattle.ark_logs.specs.Walking.{IsWalk}

-- A view V of a disk D: what it tells, and how it goes on.
module _ {V D : Type 0} (spans : V → List ℕ) (disk : V → D) (Same : V → V → Type 0) (goes : D → List Event → D → Type 0) (told : D → Told) where
  abbrev ViewGoes : V → List Event → V → Type 0
  ViewGoes old es new = (spans new ≡ spans old) × Same old new × GoesOver goes (spans old) es (disk old) (disk new)

  abbrev told_of_view : V → Told
  told_of_view v = view_told (spans v) (told (disk v))

  -- the view's disk went on by reads of its blocks
  record WasRead (ok : Bool) (old new : V) : Type 0 where
    events : List Event
    goes_on : goes (disk old) events (disk new)
    read : ReadsArea (spans old) ok events
    same : spans new ≡ spans old

  was_read : (places : List ℕ) (ok : Bool) (old new : V) → Went ViewGoes (reads places) ok old new → WasRead ok old new
  was_read places ok old new went =
      let in_area = places_read (length (spans old)) places ok went.events went.makes went.goes_on.2.within in
      record {
        events = map (outer (spans old)) went.events;
        goes_on = went.goes_on.2.goes_on;
        read = record { read = blocks_of (spans old) in_area.0; area = area_places (spans old) in_area.0 in_area.1; made = reads_outer (spans old) in_area.0 ok went.events in_area.2 };
        same = went.goes_on.0;
      }

  -- what was told of the view's image is so of the image below
  tells : (ok : Bool) (old new : V) (w : WasRead ok old new) (Holds : List (List ℕ) → Type 0) → OnTold (told_of_view new) Holds → (h : History) → (told (disk new)).history ≡ Some (after h w.events) → OnDisk (spans old) h.base
      → Holds (contents_at (current h.base h.journal) (spans old))
  tells ok old new w Holds holds h is on_disk =
      let later = after h w.events in
      let here = subst (λ (l : List ℕ). OnTold (view_told l (told (disk new))) Holds) w.same holds in
      let image = here (view_history (spans old) later) (ap (λ (o : Option History). option_map (view_history (spans old)) o) is) in
      subst Holds (view_shows later (spans old) on_disk ∙ ap (λ (x : List (List ℕ)). contents_at x (spans old)) (reads_leave h.base w.read.read ok w.events h.journal w.read.made)) image

  module _ (v : OpenChain) (n : ℕ) where
    -- what a read of an entry comes to
    is_walk : (result : Result ℕ ReadAt) (old new : V) (out : List ℕ) → v.room + 1 ≡ length (spans old) → WentToRead ViewGoes v n result old new → OnOk result (HasAt v n) → IfOk result (λ len. len ≡ length_of v n) → IfOk result (λ len. len ≤ 32768)
        → IfErr result (IsNotRead v n) → OnOk result (OnTold (told_of_view new) (IsPayload v.room (place_of v n) (length_of v n) out))
        → GoesBy goes (disk old) (disk new) (IsWalk (told (disk new)) v (spans old) n result out)
    is_walk (Ok len) old new out fits went there is short none payload =
        let w = was_read (map (λ u. block_at v.room (place_of v n) u) (0 ∷ behind (entry_blocks (length_of v n)))) true old new went in
        record {
          events = w.events;
          goes_on = w.goes_on;
          does = record {
            there = there;
            is = is;
            short = short;
            read = w.read;
            payload = λ h told_is on_disk.
                let image = contents_at (current h.base h.journal) (spans old) in
                let all : length image ≡ length (spans old) = length-map (spans old) (λ n. block (current h.base h.journal) n) in
                let ring : length (drop 1 image) ≡ v.room = omega (arith, fits, all, length-drop 1 image) in
                ap (λ k. take k out) is ∙ tells true old new w (IsPayload v.room (place_of v n) (length_of v n) out) payload h told_is on_disk ring;
          };
        }
    is_walk (Err NoEntry) old new out fits went there is short none payload = record { events = []; goes_on = nothing went.events went.makes went.goes_on.2; does = (none, refl) }
      where
        nothing : (es : List Event) → Makes [] true es → GoesOver goes (spans old) es (disk old) (disk new) → goes (disk old) [] (disk new)
        nothing [] makes on = on.goes_on
        nothing (e ∷ es) makes on = absurd makes
    is_walk (Err DeviceFault) old new out fits went there is short none payload =
        let w = was_read (map (λ u. block_at v.room (place_of v n) u) (0 ∷ behind went.0)) false old new went.2 in
        record { events = w.events; goes_on = w.goes_on; does = (none, w.read) }

  -- the same at the names of whoever made the view
  pub walk_by : (blocks : List ℕ) (x y : D) (old new : V) → spans old ≡ blocks → disk old ≡ x → disk new ≡ y → (v : OpenChain) (n : ℕ) → v.room + 1 ≡ length blocks → (result : Result ℕ ReadAt) (out shown : List ℕ) → out ≡ shown
      → WentToRead ViewGoes v n result old new → OnOk result (HasAt v n) → IfOk result (λ len. len ≡ length_of v n) → IfOk result (λ len. len ≤ 32768) → IfErr result (IsNotRead v n) → OnOk result (OnTold (told_of_view new) (IsPayload v.room (place_of v n) (length_of v n) out))
      → GoesBy goes x y (IsWalk (told y) v blocks n result shown)
  walk_by blocks x y old new at begins ends v n fits result out shown same went there is short none payload =
      subst (λ (z : D). GoesBy goes z y (IsWalk (told y) v blocks n result shown)) begins
      (subst (λ (z : D). GoesBy goes (disk old) z (IsWalk (told z) v blocks n result shown)) ends
      (subst (λ (l : List ℕ). GoesBy goes (disk old) (disk new) (IsWalk (told (disk new)) v l n result shown)) at
      (subst (λ (o : List ℕ). GoesBy goes (disk old) (disk new) (IsWalk (told (disk new)) v (spans old) n result o)) same
      (is_walk v n result old new out (fits ∙ ap (λ (l : List ℕ). length l) (sym at)) went there is short none payload))))
