use Rattle.std.proofs.Common.{◌≡◌, ◌+◌, ◌-◌, ◌∙◌, [], ◌∷◌, true, false, refl, sym, ap, arith}
use Rattle.ark_media.specs.Journal.{block, current}
use Rattle.ark_media.specs.Calls.{Reads}
use Rattle.ark_entry.specs.Entry.{entry_blocks}
use Rattle.ark_chain.specs.Survey.{block_at, last_of, ends_of}
use Rattle.ark_chain.proofs.Places.{rise_wide, ends_rise, two_ends}
use Rattle.ark_chain.proofs.Looking.{none_read, one_read, reads_then, looked_stop, still_told, same_blocks, image_long}
use Rattle.ark_chain.proofs.Nexts.{some_next, none_next, unmarked_next}
use Rattle.ark_chain.proofs.next.next_entry.Goals as goal

pub returns-then-used-from-clause-went : goal.returns-then-used-from-clause-went
returns-then-used-from-clause-went g c = record { places = []; went = none_read g.D.Disk.goes g.met.D.Disk.goes_none c.args.disk.now; once = c.requires.within; ends = (0, 0, refl) }

pub returns-in_err-read-clause-went : goal.returns-in_err-read-clause-went
returns-in_err-read-clause-went g c =
    let room = c.args.from.now.room in
    let start = c.args.from.now.start in
    looked_stop g.D.Disk.goes room start c.args.used c.from_residual.result c.args.disk.now c.read.new.self c.from_residual.ensures.0 (c.args.used ∷ [])
    (one_read g.D.Disk.goes room start c.args.used c.place.result false c.args.disk.now c.read.new.self c.place.ensures.place c.in_err-read.ensures.went)
    (omega arith, omega (arith, c.if-used-from.false, c.requires.within)) 0 1 refl

pub returns-in_default-clause-went : goal.returns-in_default-clause-went
returns-in_default-clause-went g c =
    let room = c.args.from.now.room in
    let start = c.args.from.now.start in
    record {
      places = c.args.used ∷ [];
      went = one_read g.D.Disk.goes room start c.args.used c.place.result true c.args.disk.now c.read.new.self c.place.ensures.place c.in_ok-read.ensures.went;
      once = (omega arith, omega (arith, c.if-used-from.false, c.requires.within));
      ends = (0, 1, refl);
    }

pub returns-in_default-clause-next : goal.returns-in_default-clause-next
returns-in_default-clause-next g c h is =
    let room = c.args.from.now.room in
    let start = c.args.from.now.start in
    let image = current h.base h.journal in
    none_next image room start c.args.used c.args.number
    (image_long g.D.Disk.goes g.D.Disk.told g.met.D.Disk.goes_told g.met.D.Disk.size_is (Reads c.place.result ∷ []) true c.args.disk.now c.read.new.self c.in_ok-read.ensures.went (room + 1) c.requires.inside h is)
    c.requires.some c.read.new.out (ap (block image) (sym c.place.ensures.place) ∙ sym (c.in_ok-read.ensures.honest.told h is)) (c.head_len.ensures.none c.in_default.is)

pub returns-in_err-ended-clause-went : goal.returns-in_err-ended-clause-went
returns-in_err-ended-clause-went g c =
    let room = c.args.from.now.room in
    let start = c.args.from.now.start in
    let len = c.in-Some.len in
    looked_stop g.D.Disk.goes room start c.args.used c.from_residual-in_err-ended.result c.args.disk.now c.is_ended.new.disk c.from_residual-in_err-ended.ensures.0 (ends_of c.args.used len)
    (reads_then g.D.Disk.goes g.met.D.Disk.goes_more room start (c.args.used ∷ []) (last_of c.args.used (entry_blocks len - 1)) false c.args.disk.now c.read.new.self c.is_ended.new.disk
    (one_read g.D.Disk.goes room start c.args.used c.place.result true c.args.disk.now c.read.new.self c.place.ensures.place c.in_ok-read.ensures.went)
    c.in_err-ended.ensures.went)
    (rise_wide c.args.used (ends_of c.args.used len) (c.args.used + entry_blocks len) room c.in-Some.ensures.head.fits.fits (ends_rise c.args.used len)) len 2 (sym (two_ends c.args.used len))

pub returns-then-ended-clause-went : goal.returns-then-ended-clause-went
returns-then-ended-clause-went g c =
    let room = c.args.from.now.room in
    let start = c.args.from.now.start in
    let len = c.in-Some.len in
    record {
      places = ends_of c.args.used len;
      went = reads_then g.D.Disk.goes g.met.D.Disk.goes_more room start (c.args.used ∷ []) (last_of c.args.used (entry_blocks len - 1)) true c.args.disk.now c.read.new.self c.is_ended.new.disk
          (one_read g.D.Disk.goes room start c.args.used c.place.result true c.args.disk.now c.read.new.self c.place.ensures.place c.in_ok-read.ensures.went)
          c.in_ok-ended.ensures.went;
      once = rise_wide c.args.used (ends_of c.args.used len) (c.args.used + entry_blocks len) room c.in-Some.ensures.head.fits.fits (ends_rise c.args.used len);
      ends = refl;
    }

pub returns-then-ended-clause-next : goal.returns-then-ended-clause-next
returns-then-ended-clause-next g c h is =
    let room = c.args.from.now.room in
    let start = c.args.from.now.start in
    let len = c.in-Some.len in
    let image = current h.base h.journal in
    let went = c.in_ok-ended.ensures.went in
    let here = still_told g.D.Disk.goes g.D.Disk.told g.met.D.Disk.goes_told _ true c.read.new.self c.is_ended.new.disk went (λ x. block x (block_at room start c.args.used) ≡ c.read.new.out)
    (λ h told. ap (block (current h.base h.journal)) (sym c.place.ensures.place) ∙ sym (c.in_ok-read.ensures.honest.told h told)) h is in
    let mid = image_long g.D.Disk.goes g.D.Disk.told g.met.D.Disk.goes_told g.met.D.Disk.size_is _ true c.read.new.self c.is_ended.new.disk went (room + 1)
    (c.requires.inside ∙ sym (same_blocks g.D.Disk.goes g.D.Disk.told g.met.D.Disk.goes_told _ true c.args.disk.now c.read.new.self c.in_ok-read.ensures.went)) h is in
    some_next image room start c.args.used c.args.number mid c.requires.some c.read.new.out here len c.in-Some.ensures.head (sym (c.in_ok-ended.ensures.marked h is here) ∙ c.if-ended.true)

pub returns-else-ended-clause-went : goal.returns-else-ended-clause-went
returns-else-ended-clause-went g c =
    let room = c.args.from.now.room in
    let start = c.args.from.now.start in
    let len = c.in-Some.len in
    record {
      places = ends_of c.args.used len;
      went = reads_then g.D.Disk.goes g.met.D.Disk.goes_more room start (c.args.used ∷ []) (last_of c.args.used (entry_blocks len - 1)) true c.args.disk.now c.read.new.self c.is_ended.new.disk
          (one_read g.D.Disk.goes room start c.args.used c.place.result true c.args.disk.now c.read.new.self c.place.ensures.place c.in_ok-read.ensures.went)
          c.in_ok-ended.ensures.went;
      once = rise_wide c.args.used (ends_of c.args.used len) (c.args.used + entry_blocks len) room c.in-Some.ensures.head.fits.fits (ends_rise c.args.used len);
      ends = (len, 2, sym (two_ends c.args.used len));
    }

pub returns-else-ended-clause-next : goal.returns-else-ended-clause-next
returns-else-ended-clause-next g c h is =
    let room = c.args.from.now.room in
    let start = c.args.from.now.start in
    let len = c.in-Some.len in
    let image = current h.base h.journal in
    let went = c.in_ok-ended.ensures.went in
    let here = still_told g.D.Disk.goes g.D.Disk.told g.met.D.Disk.goes_told _ true c.read.new.self c.is_ended.new.disk went (λ x. block x (block_at room start c.args.used) ≡ c.read.new.out)
    (λ h told. ap (block (current h.base h.journal)) (sym c.place.ensures.place) ∙ sym (c.in_ok-read.ensures.honest.told h told)) h is in
    let mid = image_long g.D.Disk.goes g.D.Disk.told g.met.D.Disk.goes_told g.met.D.Disk.size_is _ true c.read.new.self c.is_ended.new.disk went (room + 1)
    (c.requires.inside ∙ sym (same_blocks g.D.Disk.goes g.D.Disk.told g.met.D.Disk.goes_told _ true c.args.disk.now c.read.new.self c.in_ok-read.ensures.went)) h is in
    unmarked_next image room start c.args.used c.args.number mid c.requires.some c.read.new.out here len c.in-Some.ensures.head (sym (c.in_ok-ended.ensures.marked h is here) ∙ c.if-ended.false)
