-- An open log goes on when one more command waits.
use Rattle.std.proofs.Common.{◌≡◌, ◌⊎◌, inl, inr, ℕ, ◌+◌, ◌-◌, ◌≤◌, ◌<◌, Bool, true, false, not, List, [], ◌∷◌, ◌++◌, length, map, ◌%◌, Option, refl, sym, ap, ◌∙◌, subst, arith}
use Rattle.std.specs.Prelude.{All, sum_by, slice_get}
use Rattle.std.specs.List.{AllByRecursion}
use Rattle.std.proofs.lemmas.List.{length-map, length_push, map-append, take-append-le}
use Rattle.std.proofs.lemmas.List.Elements.{All-push}
use Rattle.ark_media.specs.Journal.{History}
use Rattle.ark_region.specs.Frames.{Piece, Space, LiesInRegion, ShareNoFrame}
use Rattle.ark_vic.specs.Queue.{Queue}
use Rattle.ark_vic.specs.declared.descriptor.Descriptor.{Descriptor}
use Rattle.ark_vic.specs.declared.descriptor.Completion.{Completion}
use Rattle.ark_entry.specs.Entry.{entry_blocks}
use Rattle.ark_entry.specs.Header as head
use Rattle.ark_entry.specs.Found.{Entries}
use Rattle.ark_caladan.specs.Chain as log
use Rattle.ark_caladan.specs.Chain.{Command, Log, Opened, after_all, commands, entries, in_progress, list_choices, oldest_of, pending, stored_after}
use Rattle.ark_caladan.specs.Listed.{IsFoundIn}
use Rattle.ark_caladan.specs.Open.{Layout}
use Rattle.ark_caladan.specs.Plans.{CanWait, added_by}
use Rattle.ark_caladan.specs.Postings.{HoldEntries, HoldsEntry, place_behind}
use Rattle.ark_caladan.specs.Standing.{LogStands, LogStandsAs, OpenStands, idle, makes_calls}
use Rattle.ark_caladan.proofs.Buffers.{hold_more}
use Rattle.ark_caladan.proofs.Standing.{accepts}
use Rattle.ark_log.specs.declared.command.Command.{Command as Named}
use Rattle.ark_log.specs.declared.command.Command.TheVariants.{Append, Trim, Pop}
use Rattle.ark_log.specs.declared.command.Waiting.{Waiting}
use Rattle.ark_log.specs.declared.stage.Stage.{Stage}
use Rattle.ark_log.specs.declared.stage.Stage.TheVariants.{Load, Draft, Mark, Header, Clear, Flush}
use Rattle.ark_log.specs.Open.{OpenChain, IsRight, CanCome, LeadTo, first_after}
use Rattle.ark_log.specs.Stages.{HasEntryBuffer, IsOfStage, IsWhole, first_with, freed, header_after, oldest, oldest_in, posting_of, stage_with, stages_of}
use Rattle.ark_log.specs.Stands.{StandsFor}
use Rattle.ark_running.specs.Accepted.{with_one_more, with_opened}
use Rattle.ark_running.specs.Buffers.{HasNoneOfTrim, HasReadFor, HaveLengths, IsLengthOf, IsRoomOf, blocks_read, buffers_of, entry_bytes_in, header_piece, pieces_of}
use Rattle.ark_running.specs.Ringed.{HasHeaderFor, IsRingBy, IsUnderWay, progress_by, progress_of}
use Rattle.ark_running.specs.Running.{HasBuffersOf, HasEntries, HasReadSoFar, IsOpenFor, IsRunning, Where}
use Rattle.ark_running.proofs.Framing.{all_joined}
use Rattle.ark_running.proofs.Having.{has_more}
use Rattle.ark_running.proofs.More.{as_many, lengths_more, long_with, oldest_more, pieces_more, rooms_more, with_more}

-- one more command waits, that may add a length
abbrev pub grown : OpenChain → Waiting → List ℕ → ℕ → ℕ → OpenChain
grown v x more used coming = record v { waiting = v.waiting ++ x ∷ []; lengths = v.lengths ++ more; used = used; coming = coming }

module _ (v : OpenChain) (x : Waiting) (more : List ℕ) (used coming : ℕ) where
  abbrev u : OpenChain
  u = grown v x more used coming

  -- The descriptor of a stage is the same with one more command behind.
  module _ (right : IsRight v) (some : 0 < length v.waiting) where
    first_is : oldest u ≡ oldest v
    first_is = oldest_more v.waiting x some

    -- the entries that the oldest command drops are in the list
    drops_low : first_after (oldest v).command v.first - v.first ≤ length v.lengths
    drops_low = by v.waiting some right.in_turn
      where
        low : (c : Named) → CanCome c v.first (v.first + v.count) → first_after c v.first - v.first ≤ length v.lengths
        low (Append n) can = omega arith
        low (Trim n) can = omega (arith, can.0, can.1, right.counted)
        low (Pop n) can = omega (arith, can.0, can.1, right.counted)

        by : (ws : List Waiting) → 0 < length ws → LeadTo v.first (v.first + v.count) ws v.coming (v.first + length v.lengths) → first_after (oldest_in ws).command v.first - v.first ≤ length v.lengths
        by [] less is = absurd (omega (arith, less))
        by (w ∷ ws) less is = low w.command is.0

    freed_is : freed u (oldest u).command ≡ freed v (oldest v).command
    freed_is = ap (λ w. freed u w.command) first_is ∙ ap (λ t. sum_by entry_blocks t) (take-append-le (first_after (oldest v).command v.first - v.first) v.lengths more drops_low)

    head_is : header_after u (oldest u).command ≡ header_after v (oldest v).command
    head_is i = record {
      first = first_after (first_is i).command v.first;
      start = (v.start + freed_is i) % v.room;
      count = v.count - (first_after (first_is i).command v.first - v.first);
      end = (v.start + v.stored) % v.room;
    }

    entry_is : (buf : Option Piece) → oldest_in (first_with buf u.waiting) ≡ oldest_in (first_with buf v.waiting)
    entry_is buf =
        let long = long_with buf v.waiting in
        ap oldest_in (with_more buf v.waiting x some) ∙ oldest_more (first_with buf v.waiting) x (omega (arith, long, some))

    posting_is : (stage : Stage) (buf : Option Piece) → posting_of (stage_with u stage buf) stage ≡ posting_of (stage_with v stage buf) stage
    posting_is Load buf = ap (λ w. posting_of (record v { waiting = w ∷ [] }) Load) (entry_is buf)
    posting_is Draft buf = ap (λ w. posting_of (record v { waiting = w ∷ [] }) Draft) (entry_is buf)
    posting_is Mark buf = ap (λ w. posting_of (record v { waiting = w ∷ [] }) Mark) (entry_is buf)
    posting_is Header buf = refl
    posting_is Clear buf = ap (λ n. record (posting_of v Clear) { count = n }) freed_is
    posting_is Flush buf = refl

    its_is : (stage : Stage) (buf : Option Piece) → IsOfStage v stage buf → IsOfStage u stage buf
    its_is Load buf its = subst (λ w. IsOfStage (record v { waiting = w ∷ [] }) Load buf) (sym first_is) its
    its_is Draft buf its = subst (λ w. IsOfStage (record v { waiting = w ∷ [] }) Draft buf) (sym first_is) its
    its_is Mark buf its = subst (λ w. IsOfStage (record v { waiting = w ∷ [] }) Mark buf) (sym first_is) its
    its_is Header buf its = its
    its_is Clear buf its = tt
    its_is Flush buf its = tt

    head_kept : (stage : Stage) (space : Space) → HasHeaderFor stage v space → HasHeaderFor stage u space
    head_kept Header space is = is ∙ ap (λ h. head.bytes_of v.kind h) (sym head_is)
    head_kept Load space is = tt
    head_kept Draft space is = tt
    head_kept Mark space is = tt
    head_kept Clear space is = tt
    head_kept Flush space is = tt

    module _ (has : HasEntryBuffer x.command x.buf) where
      abbrev HasIts : Waiting → Type 0
      HasIts w = HasEntryBuffer w.command w.buf

      whole_entry : (buf : Option Piece) → All HasIts (first_with buf v.waiting) → All HasIts (first_with buf u.waiting)
      whole_entry buf all = subst (λ ws. All HasIts ws) (sym (with_more buf v.waiting x some)) (All-push HasIts (first_with buf v.waiting) x all has)

      whole_with : (stage : Stage) (buf : Option Piece) → IsWhole (stage_with v stage buf) → IsWhole (stage_with u stage buf)
      whole_with Load buf whole = record { header = whole.header; entries = whole_entry buf whole.entries }
      whole_with Draft buf whole = record { header = whole.header; entries = whole_entry buf whole.entries }
      whole_with Mark buf whole = record { header = whole.header; entries = whole_entry buf whole.entries }
      whole_with Header buf whole = record { header = whole.header; entries = All-push HasIts v.waiting x whole.entries has }
      whole_with Clear buf whole = record { header = whole.header; entries = All-push HasIts v.waiting x whole.entries has }
      whole_with Flush buf whole = record { header = whole.header; entries = All-push HasIts v.waiting x whole.entries has }

      way_more : (stage : Stage) (buf : Option Piece) → IsUnderWay v stage buf → IsUnderWay u stage buf
      way_more stage buf way = record {
        some = let long = length_push v.waiting x in omega (arith, long);
        is = ap (λ w. slice_get (stages_of w.command) v.done) first_is ∙ way.is;
        going = way.going;
        its = its_is stage buf way.its;
        whole = whole_with stage buf way.whole;
      }

  -- The ring has what it had; where no command waits, nothing of the log.
  module _ (right : IsRight v) (has : HasEntryBuffer x.command x.buf) (space : Space) where
    ring_more : (moved : ℕ) (ds : List Descriptor) (us : List Completion) → IsRingBy v space moved ds us → IsRingBy u space moved ds us
    ring_more moved [] [] is = (
      is.0,
      record {
        whole = record { header = is.1.whole.header; entries = All-push HasIts v.waiting x is.1.whole.entries has };
        begins = is.1.begins;
      },
    )
      where
        HasIts : Waiting → Type 0
        HasIts w = HasEntryBuffer w.command w.buf
    ring_more moved (d ∷ []) [] is = (
      is.0,
      is.1,
      record {
        way = way_more right is.2.way.some has is.0 is.1 is.2.way;
        its = is.2.its ∙ sym (posting_is right is.2.way.some is.0 is.1);
        header = head_kept right is.2.way.some is.0 space is.2.header;
        more = is.2.more;
      },
    )
    ring_more moved [] (c ∷ []) is = (is.0, (is.1.0, way_more right is.1.1.some has is.1.0 c.buf is.1.1))
    ring_more moved [] (c ∷ y ∷ us) is = absurd is
    ring_more moved (d ∷ []) (c ∷ us) is = absurd is
    ring_more moved (d ∷ y ∷ ds) us is = absurd is

-- a command waits, or the ring has nothing of the log
pub waits_or_rests : (v : OpenChain) (space : Space) (moved : ℕ) (ds : List Descriptor) (us : List Completion) → v.failed ≡ false → IsRingBy v space moved ds us → (0 < length v.waiting) ⊎ ((progress_by ds us moved ≡ idle) × (v.done ≡ 0))
waits_or_rests v space moved [] [] going is = inr (refl, is.1.begins going)
waits_or_rests v space moved (d ∷ []) [] going is = inl is.2.way.some
waits_or_rests v space moved [] (c ∷ []) going is = inl is.1.1.some
waits_or_rests v space moved [] (c ∷ y ∷ us) going is = absurd is
waits_or_rests v space moved (d ∷ []) (c ∷ us) going is = absurd is
waits_or_rests v space moved (d ∷ y ∷ ds) us going is = absurd is

-- the command in progress is the same
oldest_stays : (ms : List log.Waiting) (m : log.Waiting) (took : Bool) → 0 < length ms → oldest_of (ms ++ m ∷ []) took ≡ oldest_of ms took
oldest_stays [] m took some = absurd (omega (arith, some))
oldest_stays (x ∷ ms) m took some = refl

-- What is open, with one more command that waits. x is the command as it is kept, m as its machine has it.
module _ (h : History) (blocks : List ℕ) (space : Space) (ring : Queue) (v : OpenChain) (p : Layout) (g : Log) (o : Opened) (runs : IsRunning h blocks space ring v p g o) (x : Waiting) (m : log.Waiting) (more : List ℕ) (used coming : ℕ) where
  abbrev l : Entries
  l = entries g.list

  abbrev cs : List Command
  cs = commands o

  abbrev w : OpenChain
  w = grown v x more used coming

  abbrev o2 : Opened
  o2 = with_one_more o m

  -- its commands
  commands_are : cs ++ m.command ∷ [] ≡ commands o2
  commands_are = sym (map-append (λ (y : log.Waiting). y.command) o.waiting (m ∷ []))

  many : length v.waiting ≡ length o.waiting
  many = as_many v.waiting o.waiting runs.is.stands.waiting

  area_more : v.failed ≡ false → CanWait v.room l (cs ++ m.command ∷ []) → LogStands h blocks (with_opened g o2) p (progress_of ring)
  area_more going can = by (makes_calls o (progress_of ring)) refl (subst (λ (y : Option Opened). LogStandsAs h blocks g p (progress_of ring) y) runs.is.opened runs.area)
    where
      waits : (0 < length v.waiting) ⊎ ((progress_of ring ≡ idle) × (v.done ≡ 0))
      waits = waits_or_rests v space ring.moved ring.posted ring.unreaped going runs.ring

      room_is : v.room ≡ g.blocks - 1
      room_is = let is = runs.is.room in omega (arith, is)

      free : length cs ≡ 0 → progress_of ring ≡ idle
      free none = elim waits [ inl some ↦ (let long = length-map o.waiting (λ (y : log.Waiting). y.command) in absurd (omega (arith, some, many, long, none))) | inr rests ↦ rests.0 ]

      some : makes_calls o (progress_of ring) ≡ false → 0 < length o.waiting
      some off = elim waits [ inl there ↦ omega (arith, there, many) | inr rests ↦ absurd (let both : not o.failed ≡ false = ap (makes_calls o) (sym rests.0) ∙ off in let on : not o.failed ≡ true = ap not (sym runs.is.failed ∙ going) in cc (both, on)) ]

      by : (t : Bool) → makes_calls o (progress_of ring) ≡ t → OpenStands t h blocks g o p (progress_of ring) → OpenStands (makes_calls o (progress_of ring)) h blocks (with_opened g o2) o2 p (progress_of ring)
      by true is goes = subst (λ t. OpenStands t h blocks (with_opened g o2) o2 p (progress_of ring)) (sym is) (accepts blocks g p h o (progress_of ring) m goes (subst (λ n. CanWait n l (cs ++ m.command ∷ [])) room_is can) free)
      by false is listed =
          let same : in_progress g ≡ oldest_of o2.waiting o.decided = ap (λ (y : Option Opened). pending y g.left) runs.is.opened ∙ sym (oldest_stays o.waiting m o.decided (some is)) in
          subst (λ t. OpenStands t h blocks (with_opened g o2) o2 p (progress_of ring)) (sym is)
          (subst (λ (y : Option (Command × Bool)). IsFoundIn g.kind h blocks (stored_after g.list y) (list_choices g.list y)) same listed)

  -- what is asked of the new command
  pub record CanBeMore (after : Space) : Type 0 where
    pub going : v.failed ≡ false
    pub right : IsRight w
    pub stands : StandsFor w l (cs ++ m.command ∷ [])
    pub can : CanWait v.room l (cs ++ m.command ∷ [])
    pub long : IsLengthOf (after_all l cs) x.len m.command
    pub room : IsRoomOf x m
    pub none : HasNoneOfTrim x.command x.buf
    pub has : HasEntryBuffer x.command x.buf
    pub lies : AllByRecursion (LiesInRegion after.taken) (buffers_of x)
    pub apart : ShareNoFrame (pieces_of v ++ buffers_of x)
    pub holds : HoldsEntry v.room (place_behind p.says l + sum_by added_by cs) 0 m.command (entry_bytes_in after x)

  -- it goes on with it, where its buffers in memory are as they were
  module _ (asked : CanBeMore space) where
    same_moments : (P : List Command → Type 0) → P (cs ++ m.command ∷ []) → P (commands o2)
    same_moments P is = subst P commands_are is

    all_pieces : pieces_of w ≡ pieces_of v ++ buffers_of x
    all_pieces = ap (λ t. header_piece v ∷ t) (pieces_more v.waiting x)

    some_or_done : (0 < length cs) ⊎ (v.done ≡ 0)
    some_or_done = elim (waits_or_rests v space ring.moved ring.posted ring.unreaped asked.going runs.ring) [
      | inl some ↦ (let long = length-map o.waiting (λ (y : log.Waiting). y.command) in inl (omega (arith, some, many, long)))
      | inr rests ↦ inr rests.1
    ]

    open_more : IsOpenFor w p (with_opened g o2) o2
    open_more = record {
      right = asked.right;
      kind = runs.is.kind;
      room = runs.is.room;
      opened = refl;
      list = runs.is.list;
      stands = same_moments (λ ys. StandsFor w l ys) asked.stands;
      can = same_moments (λ ys. CanWait v.room l ys) asked.can;
      lengths = same_moments (λ ys. HaveLengths l w.waiting ys) (lengths_more l v.waiting cs x m.command runs.is.lengths asked.long);
      start = runs.is.start;
      done = runs.is.done;
      failed = runs.is.failed;
      header = runs.is.header;
      rooms = rooms_more v.waiting o.waiting x m runs.is.rooms asked.room;
      trims = all_joined (λ y. HasNoneOfTrim y.command y.buf) v.waiting (x ∷ []) runs.is.trims (asked.none, tt);
    }

    buffers_more : HasBuffersOf space w p l (commands o2)
    buffers_more = record {
      lies = subst (λ bs. AllByRecursion (LiesInRegion space.taken) bs) (sym all_pieces) (all_joined (LiesInRegion space.taken) (pieces_of v) (buffers_of x) runs.buffers.lies asked.lies);
      apart = subst ShareNoFrame (sym all_pieces) asked.apart;
      hold = subst (λ bs. HoldEntries v.room (place_behind p.says l) v.done (commands o2) bs) (sym (map-append (entry_bytes_in space) v.waiting (x ∷ [])))
          (same_moments (λ ys. HoldEntries v.room (place_behind p.says l) v.done ys (map (entry_bytes_in space) v.waiting ++ entry_bytes_in space x ∷ []))
          (hold_more v.room (place_behind p.says l) v.done cs (map (entry_bytes_in space) v.waiting) m.command (entry_bytes_in space x) some_or_done runs.buffers.hold asked.holds));
    }

    read_more : HasReadSoFar space w p o2 (progress_of ring)
    read_more = elim (waits_or_rests v space ring.moved ring.posted ring.unreaped asked.going runs.ring) [
      | inl some ↦ subst (λ y. Where (makes_calls o (progress_of ring)) (HasReadFor y.command p.stored (blocks_read v.done (entry_blocks y.len) (progress_of ring)) (entry_bytes_in space y))) (sym (oldest_more v.waiting x some)) runs.read
      | inr rests ↦ subst (λ n. Where (makes_calls o (progress_of ring)) (HasReadFor (oldest w).command p.stored (blocks_read n (entry_blocks (oldest w).len) (progress_of ring)) (entry_bytes_in space (oldest w)))) (sym rests.1)
          (subst (λ q. Where (makes_calls o q) (HasReadFor (oldest w).command p.stored (blocks_read 0 (entry_blocks (oldest w).len) q) (entry_bytes_in space (oldest w)))) (sym rests.0) (none_read (not o.failed) (oldest w).command (entry_bytes_in space (oldest w))))
    ]
      where
        none : (c : Named) (bytes : List ℕ) → HasReadFor c p.stored 0 bytes
        none (Append n) bytes = tt
        none (Trim n) bytes = tt
        none (Pop n) bytes = refl

        none_read : (t : Bool) (c : Named) (bytes : List ℕ) → Where t (HasReadFor c p.stored 0 bytes)
        none_read true c bytes = none c bytes
        none_read false c bytes = tt

    pub goes_on : IsRunning h blocks space ring w p (with_opened g o2) o2
    goes_on = record {
      is = open_more;
      size = runs.size;
      on_disk = runs.on_disk;
      full = runs.full;
      area = area_more asked.going asked.can;
      has = same_moments (λ ys. HasEntries g.kind (g.blocks - 1) h blocks p l ys) (has_more g.kind (g.blocks - 1) h blocks p l cs m.command runs.has);
      ring = ring_more v x more used coming runs.is.right asked.has space ring.moved ring.posted ring.unreaped runs.ring;
      buffers = buffers_more;
      read = read_more;
    }
