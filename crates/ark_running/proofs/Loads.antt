-- What the events on a view of an area were, on its device, as an opening made them.
use Rattle.std.proofs.Common.{◌≡◌, ◌⊎◌, inl, inr, ℕ, ◌<◌, Bool, true, false, List, [], ◌∷◌, ◌++◌, Option, Some, length, get_or, map, sym, ◌∙◌, ap, subst, append-nil, if◌then◌else◌}
use Rattle.std.specs.Prelude.{Result, Ok, Err, option_map}
use Rattle.std.specs.List.{AllByRecursion}
use Rattle.std.proofs.lemmas.List.{map-append}
use Rattle.ark_base.specs.declared.kind.Kind.{Kind}
use Rattle.ark_media.specs.Journal.{AllBlocks, Event, History, current, device_events, onto}
use Rattle.ark_media.specs.Calls.{Call, Makes, OnTold, Reads, Syncs, Tells, Told, Writes}
use Rattle.ark_media.specs.Going.{onto-append}
use Rattle.ark_media.specs.Standing.{after}
use Rattle.ark_media.proofs.Planning.{makes_append, makes_devices}
use Rattle.ark_extents.specs.Views.{GoesOver, outer, view_history, view_told}
use Rattle.ark_extents.specs.ViewLaws.{over_more}
use Rattle.ark_entry.specs.Found.{damaged, found_of}
use Rattle.ark_caladan.specs.Listed.{AreFull}
use Rattle.ark_caladan.specs.Views.{OnDisk, contents_at}
use Rattle.ark_chain.specs.declared.surveying.Seen.{Seen}
use Rattle.ark_chain.specs.declared.surveying.SurveyFault.{SurveyFault}
use Rattle.ark_chain.specs.declared.surveying.SurveyFault.TheVariants as survey
use Rattle.ark_chain.specs.Repair.{AreNoted, HasInspected, clears, outside, reads_behind}
use Rattle.ark_chain.specs.Survey.{HasFound, block_at, is_damage, is_read, reads, reads_at}
use Rattle.ark_chain.proofs.Looking.{reads_leave}
use Rattle.ark_log.specs.declared.loading.LoadFault.TheVariants.{Memory, DeviceFault, Damaged}
use Rattle.ark_log.specs.Loaded.{HasFailedToLoad, HasNotFound, HasRepaired, header_bytes}
use Rattle.ark_running.specs.Opening.{HasRepairedAt, ReadsArea, blocks_of, opening_calls}
use Rattle.ark_running.proofs.AreaOpened.{area_places}
use Rattle.ark_running.proofs.Viewed.{area_whole, onto_same, places_read, reads_outer, repair_outer, view_shows}

-- Where the disk tells that these events came behind a history in which these blocks are full, this is so of that history.
abbrev pub WhereFull : Told → List ℕ → List Event → (History → Type 0) → Type 0
WhereFull told blocks es Holds = (h : History) → told.history ≡ Some (after h es) → OnDisk blocks h.base → AreFull h blocks → Holds h

-- A view V of a disk D at its blocks: what it tells, and how it goes on.
module _ {V D : Type 0} (spans : V → List ℕ) (disk : V → D) (Same : V → V → Type 0) (goes : D → List Event → D → Type 0) (told : D → Told)
    (more : (a b c : D) (es fs : List Event) → goes a es b → goes b fs c → goes a (es ++ fs) c) (tells : (a b : D) (es : List Event) → goes a es b → Tells es (told a) (told b)) where
  abbrev pub ViewGoes : V → List Event → V → Type 0
  ViewGoes old es new = (spans new ≡ spans old) × Same old new × GoesOver goes (spans old) es (disk old) (disk new)

  abbrev pub told_of_view : V → Told
  told_of_view v = view_told (spans v) (told (disk v))

  -- what was told before some events, by what is told behind them
  told_before : (a b : D) (h : History) (es fs : List Event) → goes a fs b → (told b).history ≡ Some (after h (es ++ fs)) → (told a).history ≡ Some (after h es)
  told_before a b h es fs went is =
      let before = (tells a b fs went).adds.told (after h (es ++ fs)) is in
      let journal : onto es h.journal ≡ before.0 = onto_same fs (onto es h.journal) before.0 (sym (onto-append es fs h.journal) ∙ before.2) in
      before.1 ∙ ap (λ (j : List Event). Some (record { base = h.base; journal = j })) (sym journal)

  -- What an inspection read: the view's disk went on by reads of its blocks.
  record WasRead (ok : Bool) (old new : V) : Type 0 where
    events : List Event
    read : List ℕ
    inside : AllByRecursion (λ k. k < length (spans old)) read
    made : Makes (reads (blocks_of (spans old) read)) ok (map (outer (spans old)) events)
    same : spans new ≡ spans old
    over : GoesOver goes (spans old) events (disk old) (disk new)

  -- a survey's reads, and those behind it
  read_twice : (room start : ℕ) (places : List ℕ) (surveyed : Result Seen SurveyFault) (ok : Bool) (es fs : List Event)
      → Makes (Reads 0 ∷ reads_at room start places) (is_read surveyed) es → Makes (reads_behind room surveyed) ok fs
      → (ns : List ℕ) × Makes (reads ns) (is_read (if ok then surveyed else Err survey.DeviceFault)) (es ++ fs)
  read_twice room start places (Ok seen) true es fs first next = (
    (0 ∷ map (λ u. block_at room start u) places) ++ outside room seen.start seen.used room,
    subst (λ (cs : List Call). Makes cs true (es ++ fs)) (sym (map-append (λ n. Reads n) (0 ∷ map (λ u. block_at room start u) places) (outside room seen.start seen.used room)))
        (makes_append (Reads 0 ∷ reads_at room start places) (reads (outside room seen.start seen.used room)) true es fs first next),
  )
  read_twice room start places (Ok seen) false es fs first next = (
    (0 ∷ map (λ u. block_at room start u) places) ++ outside room seen.start seen.used room,
    subst (λ (cs : List Call). Makes cs false (es ++ fs)) (sym (map-append (λ n. Reads n) (0 ∷ map (λ u. block_at room start u) places) (outside room seen.start seen.used room)))
        (makes_append (Reads 0 ∷ reads_at room start places) (reads (outside room seen.start seen.used room)) false es fs first next),
  )
  read_twice room start places (Err fault) true es [] first next = (0 ∷ map (λ u. block_at room start u) places, subst (λ (l : List Event). Makes (Reads 0 ∷ reads_at room start places) (is_damage fault) l) (sym (append-nil es)) first)
  read_twice room start places (Err fault) true es (f ∷ fs) first next = absurd next
  read_twice room start places (Err fault) false es [] first next = absurd (cc (next))
  read_twice room start places (Err fault) false es (f ∷ fs) first next = absurd next

  was_read : (kind : Kind) (result : Result Seen SurveyFault) (lengths : List ℕ) (old new : V) → HasInspected ViewGoes told_of_view kind result lengths old new → WasRead (is_read result) old new
  was_read kind result lengths old new inspected =
      let first = inspected.survey.went in
      let next = inspected.behind in
      let over = over_more goes more (spans old) (spans inspected.between) (disk old) (disk inspected.between) (disk new) first.events next.events first.goes_on.0 first.goes_on.2 next.goes_on.2 in
      let both = read_twice inspected.survey.room inspected.survey.start inspected.survey.places inspected.surveyed inspected.ok first.events next.events first.makes next.makes in
      let made = subst (λ (r : Result Seen SurveyFault). Makes (reads both.0) (is_read r) (first.events ++ next.events)) (sym inspected.answer) both.1 in
      let places = places_read (length (spans old)) both.0 (is_read result) (first.events ++ next.events) made over.within in
      record {
        events = first.events ++ next.events;
        read = places.0;
        inside = places.1;
        made = reads_outer (spans old) places.0 (is_read result) (first.events ++ next.events) places.2;
        same = next.goes_on.0 ∙ first.goes_on.0;
        over = over;
      }

  -- What was told of the image that a view shows behind reads is so of the image before them.
  shown : (old new : V) (read : WasRead true old new) (h : History) → (told (disk new)).history ≡ Some (after h (map (outer (spans old)) read.events)) → OnDisk (spans old) h.base
      → (Holds : List (List ℕ) → Type 0) → OnTold (told_of_view new) Holds → Holds (contents_at (current h.base h.journal) (spans old))
  shown old new read h is on_disk Holds holds =
      let later = after h (map (outer (spans old)) read.events) in
      let here = subst (λ (l : List ℕ). OnTold (view_told l (told (disk new))) Holds) read.same holds in
      let image = here (view_history (spans old) later) (ap (λ (o : Option History). option_map (view_history (spans old)) o) is) in
      subst Holds (view_shows later (spans old) on_disk ∙ ap (λ (x : List (List ℕ)). contents_at x (spans old)) (reads_leave h.base (blocks_of (spans old) read.read) true (map (outer (spans old)) read.events) h.journal read.made)) image

  -- a read that failed, or a list that is damaged
  area_read : (kind : Kind) (fault : SurveyFault) (old new : V) (has : HasNotFound ViewGoes told_of_view kind fault old new) → WasRead (is_damage fault) old new
  area_read kind fault old new has = was_read kind (Err fault) has.lengths old new has.inspected

  reads_area : (ok : Bool) (old new : V) (read : WasRead ok old new) → ReadsArea (spans old) ok (map (outer (spans old)) read.events)
  reads_area ok old new read = record { read = blocks_of (spans old) read.read; area = area_places (spans old) read.read read.inside; made = read.made }

  -- a repair
  pub repaired_at : (kind : Kind) (seen : Seen) (lengths : List ℕ) (ok : Bool) (old new : V) → HasRepaired ViewGoes told_of_view kind seen lengths ok old new
      → (es : List Event) × goes (disk old) es (disk new) × (device_events es ≡ es) × WhereFull (told (disk new)) (spans old) es (λ h. HasRepairedAt kind h (spans old) seen lengths ok es)
  repaired_at kind seen lengths ok old new has =
      let blocks = spans old in
      let read = was_read kind (Ok seen) lengths old has.between has.inspected in
      let next = has.repaired in
      let over = over_more goes more blocks (spans has.between) (disk old) (disk has.between) (disk new) read.events next.events read.same read.over next.goes_on.2 in
      let apart = map-append (outer blocks) read.events next.events in
      let made : Makes (opening_calls (blocks_of blocks read.read) (blocks_of blocks has.noted) (get_or blocks 0 0) (header_bytes kind seen)) ok (map (outer blocks) (read.events ++ next.events)) =
      subst (λ (es : List Event). Makes (opening_calls (blocks_of blocks read.read) (blocks_of blocks has.noted) (get_or blocks 0 0) (header_bytes kind seen)) ok es) (sym apart)
      (makes_append (reads (blocks_of blocks read.read)) (Syncs ∷ (clears (blocks_of blocks has.noted) ++ Writes (get_or blocks 0 0) (header_bytes kind seen) ∷ Syncs ∷ [])) ok
      (map (outer blocks) read.events) (map (outer blocks) next.events) read.made (repair_outer blocks has.noted (header_bytes kind seen) ok next.events next.makes)) in (
        map (outer blocks) (read.events ++ next.events),
        over.goes_on,
        makes_devices (opening_calls (blocks_of blocks read.read) (blocks_of blocks has.noted) (get_or blocks 0 0) (header_bytes kind seen)) ok (map (outer blocks) (read.events ++ next.events)) made,
        λ h is on_disk full.
            let step = subst (λ (l : List ℕ). GoesOver goes l next.events (disk has.between) (disk new)) read.same next.goes_on.2 in
            let there = told_before (disk has.between) (disk new) h (map (outer blocks) read.events) (map (outer blocks) next.events) step.goes_on
            (subst (λ (es : List Event). (told (disk new)).history ≡ Some (after h es)) apart is) in
            record {
              found = shown old has.between read h there on_disk (λ image. AllBlocks image → HasFound kind seen lengths image) has.found (area_whole h blocks on_disk full);
              is_seen = has.is_seen;
              few = has.few;
              noted = has.noted;
              is_noted = shown old has.between read h there on_disk (AreNoted seen has.noted) has.is_noted;
              read = read.read;
              inside = read.inside;
              made = made;
            },
      )

  -- a list that is damaged
  pub damaged_at : (kind : Kind) (n : ℕ) (old new : V) → HasFailedToLoad ViewGoes told_of_view kind (Damaged n) old new
      → (es : List Event) × goes (disk old) es (disk new) × ReadsArea (spans old) true es
      × WhereFull (told (disk new)) (spans old) es (λ h. found_of kind (contents_at (current h.base h.journal) (spans old)) ≡ damaged n)
  damaged_at kind n old new has =
      let read = area_read kind (survey.Damaged n) old new has.0 in (
        map (outer (spans old)) read.events,
        read.over.goes_on,
        reads_area true old new read,
        λ h is on_disk full. shown old new read h is on_disk (λ image. AllBlocks image → found_of kind image ≡ damaged n) has.1 (area_whole h (spans old) on_disk full),
      )

  -- a device call that failed: a read, or one of a repair
  pub failed_at : (kind : Kind) (old new : V) → HasFailedToLoad ViewGoes told_of_view kind DeviceFault old new
      → (es : List Event) × goes (disk old) es (disk new)
      × (ReadsArea (spans old) false es ⊎ ((seen : Seen) × (lengths : List ℕ) × (device_events es ≡ es) × WhereFull (told (disk new)) (spans old) es (λ h. HasRepairedAt kind h (spans old) seen lengths false es)))
  failed_at kind old new (inl has) =
      let read = area_read kind survey.DeviceFault old new has in
      (map (outer (spans old)) read.events, read.over.goes_on, inl (reads_area false old new read))
  failed_at kind old new (inr has) =
      let at = repaired_at kind has.0 has.1 false old new has.2 in
      (at.0, at.1, inr (has.0, has.1, at.2, at.3))

  -- The same of a view whose blocks are these, where its disk was this one and became that one.
  module _ (blocks : List ℕ) (from to : D) (old new : V) (seen_at : spans old ≡ blocks) (begins : disk old ≡ from) (ends : disk new ≡ to) where
    by_names : (P : List ℕ → D → D → Type 0) → P (spans old) (disk old) (disk new) → P blocks from to
    by_names P here = subst (λ (d : D). P blocks from d) ends (subst (λ (d : D). P blocks d (disk new)) begins (subst (λ (l : List ℕ). P l (disk old) (disk new)) seen_at here))

    pub repaired_from : (kind : Kind) (seen : Seen) (lengths : List ℕ) (ok : Bool) → HasRepaired ViewGoes told_of_view kind seen lengths ok old new
        → (es : List Event) × goes from es to × (device_events es ≡ es) × WhereFull (told to) blocks es (λ h. HasRepairedAt kind h blocks seen lengths ok es)
    repaired_from kind seen lengths ok has =
        by_names (λ blocks from to. (es : List Event) × goes from es to × (device_events es ≡ es) × WhereFull (told to) blocks es (λ h. HasRepairedAt kind h blocks seen lengths ok es)) (repaired_at kind seen lengths ok old new has)

    pub damaged_from : (kind : Kind) (n : ℕ) → HasFailedToLoad ViewGoes told_of_view kind (Damaged n) old new
        → (es : List Event) × goes from es to × ReadsArea blocks true es
        × WhereFull (told to) blocks es (λ h. found_of kind (contents_at (current h.base h.journal) blocks) ≡ damaged n)
    damaged_from kind n has =
        by_names (λ blocks from to. (es : List Event) × goes from es to × ReadsArea blocks true es × WhereFull (told to) blocks es (λ h. found_of kind (contents_at (current h.base h.journal) blocks) ≡ damaged n))
        (damaged_at kind n old new has)

    pub failed_from : (kind : Kind) → HasFailedToLoad ViewGoes told_of_view kind DeviceFault old new
        → (es : List Event) × goes from es to
        × (ReadsArea blocks false es ⊎ ((seen : Seen) × (lengths : List ℕ) × (device_events es ≡ es) × WhereFull (told to) blocks es (λ h. HasRepairedAt kind h blocks seen lengths false es)))
    failed_from kind has =
        by_names (λ blocks from to. (es : List Event) × goes from es to
        × (ReadsArea blocks false es ⊎ ((seen : Seen) × (lengths : List ℕ) × (device_events es ≡ es) × WhereFull (told to) blocks es (λ h. HasRepairedAt kind h blocks seen lengths false es)))) (failed_at kind old new has)

    -- no call was made for want of memory
    pub none_from : (kind : Kind) → HasFailedToLoad ViewGoes told_of_view kind Memory old new → to ≡ from
    none_from kind has = sym ends ∙ ap disk has ∙ begins
