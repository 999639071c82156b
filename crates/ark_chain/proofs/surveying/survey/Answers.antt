use Rattle.std.proofs.Common.{◌≡◌, ◌+◌, ◌-◌, ◌%◌, ◌∙◌, ℕ, List, inl, inr, [], ◌∷◌, true, false, Ok, refl, sym, ap, subst, arith}
use Rattle.ark_media.specs.Journal.{current}
use Rattle.ark_media.specs.Calls.{Reads}
use Rattle.ark_media.proofs.Planning.{went_then}
use Rattle.ark_chain.specs.Survey.{AreEnds, reads_at}
use Rattle.ark_chain.specs.Walking.{IsHeader}
use Rattle.ark_chain.proofs.Looking.{still_told, same_blocks, image_long}
use Rattle.ark_chain.proofs.Finding.{bad_head, list_seen, list_short}
use Rattle.ark_chain.proofs.surveying.survey.Goals as goal

pub returns-in-Err-clause-went : goal.returns-in-Err-clause-went
returns-in-Err-clause-went g c = record {
  room = c.blocks-room.result - 1;
  ring = omega (arith, c.requires.two, c.blocks-room.ensures);
  start = 0;
  places = [];
  went = c.in-Err.ensures.went;
  once = omega arith;
  ends = subst (λ (l : List ℕ). AreEnds l []) (sym c.requires.empty) (0, 0, refl);
  from_start = inl refl;
}

pub returns-in-Err-clause-found : goal.returns-in-Err-clause-found
returns-in-Err-clause-found g c h is =
    let room = c.blocks-room.result - 1 in
    let ring : room + 1 ≡ (g.D.Disk.told c.args.disk.now).blocks = omega (arith, c.requires.two, c.blocks-room.ensures) in
    bad_head c.args.kind (current h.base h.journal) room
    (image_long g.D.Disk.goes g.D.Disk.told g.met.D.Disk.goes_told g.met.D.Disk.size_is (Reads 0 ∷ []) _ c.args.disk.now c.read_head.new.disk c.in-Err.ensures.went (room + 1) ring h is)
    c.in-Err.fault c.args.lengths.now.items (c.in-Err.ensures.head h is)

pub returns-in-Err-note_entries-clause-went : goal.returns-in-Err-note_entries-clause-went
returns-in-Err-note_entries-clause-went g c =
    let room = c.blocks-room.result - 1 in
    let head = c.in-Ok.head in
    let walked = c.in-Err-note_entries.ensures.went in
    record {
      room = room;
      ring = omega (arith, c.requires.two, c.blocks-room.ensures);
      start = head.start;
      places = walked.places;
      went = went_then g.D.Disk.goes g.met.D.Disk.goes_more (Reads 0 ∷ []) (reads_at room head.start walked.places) false c.args.disk.now c.read_head.new.disk c.note_entries.new.disk c.in-Ok.ensures.went walked.went;
      once = walked.once;
      ends = walked.ends;
      from_start = inr (λ h is. (
        head.first,
        head.count,
        head.end,
        still_told g.D.Disk.goes g.D.Disk.told g.met.D.Disk.goes_told _ false c.read_head.new.disk c.note_entries.new.disk walked.went (IsHeader c.args.kind room (Ok head)) c.in-Ok.ensures.head h is,
      ));
    }

pub returns-then-count-head-clause-went : goal.returns-then-count-head-clause-went
returns-then-count-head-clause-went g c =
    let room = c.blocks-room.result - 1 in
    let head = c.in-Ok.head in
    let walked = c.in-Ok-note_entries.ensures.went in
    record {
      room = room;
      ring = omega (arith, c.requires.two, c.blocks-room.ensures);
      start = head.start;
      places = walked.places;
      went = went_then g.D.Disk.goes g.met.D.Disk.goes_more (Reads 0 ∷ []) (reads_at room head.start walked.places) true c.args.disk.now c.read_head.new.disk c.note_entries.new.disk c.in-Ok.ensures.went walked.went;
      once = walked.once;
      ends = walked.ends;
      from_start = inr (λ h is. (
        head.first,
        head.count,
        head.end,
        still_told g.D.Disk.goes g.D.Disk.told g.met.D.Disk.goes_told _ true c.read_head.new.disk c.note_entries.new.disk walked.went (IsHeader c.args.kind room (Ok head)) c.in-Ok.ensures.head h is,
      ));
    }

pub returns-then-count-head-clause-found : goal.returns-then-count-head-clause-found
returns-then-count-head-clause-found g c h is =
    let room = c.blocks-room.result - 1 in
    let ring : room + 1 ≡ (g.D.Disk.told c.args.disk.now).blocks = omega (arith, c.requires.two, c.blocks-room.ensures) in
    let head = c.in-Ok.head in
    let walked = c.in-Ok-note_entries.ensures.went in
    let before : (g.D.Disk.told c.read_head.new.disk).blocks ≡ (g.D.Disk.told c.args.disk.now).blocks = same_blocks g.D.Disk.goes g.D.Disk.told g.met.D.Disk.goes_told (Reads 0 ∷ []) true c.args.disk.now c.read_head.new.disk c.in-Ok.ensures.went in
    list_short c.args.kind (current h.base h.journal) room
    (image_long g.D.Disk.goes g.D.Disk.told g.met.D.Disk.goes_told g.met.D.Disk.size_is _ true c.read_head.new.disk c.note_entries.new.disk walked.went (room + 1) (ring ∙ sym before) h is)
    head c.note_entries.new.lengths.items (omega (arith, c.requires.two, c.blocks-room.ensures))
    (still_told g.D.Disk.goes g.D.Disk.told g.met.D.Disk.goes_told _ true c.read_head.new.disk c.note_entries.new.disk walked.went (IsHeader c.args.kind room (Ok head)) c.in-Ok.ensures.head h is)
    (c.in-Ok-note_entries.ensures.found h is) (head.first + c.from.result) (omega (arith, c.if-count-head.true, c.len-count.ensures.len)) (ap (λ n. head.first + n) (c.from.ensures ∙ c.len-count.ensures.len))

pub returns-clause-went : goal.returns-clause-went
returns-clause-went g c =
    let room = c.blocks-room.result - 1 in
    let head = c.in-Ok.head in
    let walked = c.in-Ok-note_entries.ensures.went in
    record {
      room = room;
      ring = omega (arith, c.requires.two, c.blocks-room.ensures);
      start = head.start;
      places = walked.places;
      went = went_then g.D.Disk.goes g.met.D.Disk.goes_more (Reads 0 ∷ []) (reads_at room head.start walked.places) true c.args.disk.now c.read_head.new.disk c.note_entries.new.disk c.in-Ok.ensures.went walked.went;
      once = walked.once;
      ends = walked.ends;
      from_start = inr (λ h is. (
        head.first,
        head.count,
        head.end,
        still_told g.D.Disk.goes g.D.Disk.told g.met.D.Disk.goes_told _ true c.read_head.new.disk c.note_entries.new.disk walked.went (IsHeader c.args.kind room (Ok head)) c.in-Ok.ensures.head h is,
      ));
    }

pub returns-clause-found : goal.returns-clause-found
returns-clause-found g c h is =
    let room = c.blocks-room.result - 1 in
    let ring : room + 1 ≡ (g.D.Disk.told c.args.disk.now).blocks = omega (arith, c.requires.two, c.blocks-room.ensures) in
    let head = c.in-Ok.head in
    let walked = c.in-Ok-note_entries.ensures.went in
    let before : (g.D.Disk.told c.read_head.new.disk).blocks ≡ (g.D.Disk.told c.args.disk.now).blocks = same_blocks g.D.Disk.goes g.D.Disk.told g.met.D.Disk.goes_told (Reads 0 ∷ []) true c.args.disk.now c.read_head.new.disk c.in-Ok.ensures.went in
    list_seen c.args.kind (current h.base h.journal) room
    (image_long g.D.Disk.goes g.D.Disk.told g.met.D.Disk.goes_told g.met.D.Disk.size_is _ true c.read_head.new.disk c.note_entries.new.disk walked.went (room + 1) (ring ∙ sym before) h is)
    head c.note_entries.new.lengths.items (omega (arith, c.requires.two, c.blocks-room.ensures))
    (still_told g.D.Disk.goes g.D.Disk.told g.met.D.Disk.goes_told _ true c.read_head.new.disk c.note_entries.new.disk walked.went (IsHeader c.args.kind room (Ok head)) c.in-Ok.ensures.head h is)
    (c.in-Ok-note_entries.ensures.found h is) (record { first = head.first; start = head.start; count = c.len-count.result; used = c.in-Ok-note_entries.used; end = c.index.result })
    (omega (arith, c.if-count-head.false, c.len-count.ensures.len)) refl refl c.len-count.ensures.len

pub returns-clause-seen : goal.returns-clause-seen
returns-clause-seen g c =
    let entries = c.in-Ok-note_entries.ensures.entries in
    let right = c.in-Ok.ensures.right in
    let start = c.in-Ok.head.start in
    record {
      count = c.len-count.ensures.len;
      short = entries.short;
      used = entries.used_is;
      fits = omega (arith, entries.fits, entries.used_is, c.requires.two, c.blocks-room.ensures);
      start = omega (arith, right.start, c.requires.two, c.blocks-room.ensures);
      end = ap (λ n. n + 1) (c.index.ensures ∙ (λ i. (start + entries.used_is i) % (c.blocks-room.ensures i - 1)));
      some = right.some;
      last = omega (arith, entries.last, c.len-count.ensures.len);
    }
