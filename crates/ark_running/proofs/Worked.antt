-- A log in five blocks of a device, with one entry and an append under way, worked out: what the laws of running logs ask for can be met.
use Rattle.std.proofs.Common.{◌≡◌, inl, inr, ℕ, zero, suc, ◌+◌, ◌≤◌, ◌<◌, Bool, true, false, List, [], ◌∷◌, ◌++◌, length, replicate, get_or, Some, None, refl, ap, ◌∙◌, arith}
use Rattle.std.specs.Prelude.{All}
use Rattle.ark_base.specs.declared.kind.Kind.TheVariants as kind
use Rattle.ark_base.specs.declared.kind.Outcome.TheVariants as outcome
use Rattle.ark_media.specs.Journal.{Event, History, Read, Write, Sync, block, zero_block}
use Rattle.ark_media.specs.Calls.{Call, Reads, Writes, Syncs}
use Rattle.ark_media.specs.Standing.{after}
use Rattle.ark_region.specs.Frames.{IsLive, Covers, Piece, Space}
use Rattle.ark_vic.specs.Queue.{Queue, finished}
use Rattle.ark_vsic.specs.Card.{Areas, Card}
use Rattle.ark_vsic.specs.Moves.{calls_of, due_of}
use Rattle.ark_vsic.specs.declared.due.Moved.TheVariants as moved
use Rattle.ark_entry.specs.Header.{empty}
use Rattle.ark_entry.specs.Found.{Entries, found}
use Rattle.ark_entry.proofs.WorkedRings.{acked, payload, stands, stored}
use Rattle.ark_caladan.specs.Chain as log
use Rattle.ark_caladan.specs.Chain.{Log, Opened}
use Rattle.ark_caladan.specs.Leaves.{LiesInRing}
use Rattle.ark_caladan.specs.Listed.{AreFull}
use Rattle.ark_caladan.specs.Open.{Layout}
use Rattle.ark_caladan.specs.Plans.{CanWait}
use Rattle.ark_caladan.specs.Postings.{buffer_of}
use Rattle.ark_caladan.specs.Stages.{IsAt, resting}
use Rattle.ark_caladan.specs.Standing.{Proceeds, idle}
use Rattle.ark_caladan.specs.Views.{OnDisk, view_of}
use Rattle.ark_caladan.proofs.Carrying.{open_from_rest}
use Rattle.ark_log.specs.declared.command.Command.TheVariants.{Append}
use Rattle.ark_log.specs.declared.command.Waiting.{Waiting}
use Rattle.ark_log.specs.Open.{HasBuffer, IsRight, OpenChain}
use Rattle.ark_log.specs.declared.polling.Polled.TheVariants.{Posted}
use Rattle.ark_log.specs.declared.stage.Stage.TheVariants as stage
use Rattle.ark_log.specs.Polled.{Around, IsBegun}
use Rattle.ark_log.specs.Stages.{HasEntryBuffer, IsWhole, posting_of, stage_with}
use Rattle.ark_running.specs.Moving.{HasMoved}
use Rattle.ark_running.specs.Running.{IsRunning}
use Rattle.ark_running.proofs.AnyCard.{moves}
use Rattle.ark_running.proofs.Begins.{starts}
use Rattle.ark_running.proofs.Having.{has_proceeding}

-- The area: its header in block 1, whose ring begins with the entry, in blocks 2 to 5.

abbrev blocks : List ℕ
blocks = 1 ∷ 2 ∷ 3 ∷ 4 ∷ 5 ∷ []

abbrev device : List (List ℕ)
device = zero_block ∷ zero_block ∷ (stored ++ replicate 3 zero_block)

abbrev history : History
history = record { base = device; journal = [] }

abbrev one : Entries
one = record { first = 1; payloads = acked }

abbrev layout : Layout
layout = record { header = zero_block; says = empty; stored = stored }

place : (k : ℕ) → k < 5 → get_or blocks k 0 ≡ k + 1
place zero less = refl
place (suc zero) less = refl
place (suc (suc zero)) less = refl
place (suc (suc (suc zero))) less = refl
place (suc (suc (suc (suc zero)))) less = refl
place (suc (suc (suc (suc (suc k))))) less = absurd (omega (arith, less))

on_disk : OnDisk blocks device
on_disk = record { inside = λ k less. omega (arith, place k less); apart = λ i k in_i in_k same. omega (arith, place i in_i, place k in_k, same) }

shows : (k : ℕ) → k < 5 → block device (get_or blocks k 0) ≡ view_of 4 zero_block 0 stored k
shows zero less = refl
shows (suc zero) less = refl
shows (suc (suc zero)) less = refl
shows (suc (suc (suc zero))) less = refl
shows (suc (suc (suc (suc zero)))) less = refl
shows (suc (suc (suc (suc (suc k))))) less = absurd (omega (arith, less))

long : (k : ℕ) → k < 5 → length (block device (get_or blocks k 0)) ≡ 512
long zero less = refl
long (suc zero) less = refl
long (suc (suc zero)) less = refl
long (suc (suc (suc zero))) less = refl
long (suc (suc (suc (suc zero)))) less = refl
long (suc (suc (suc (suc (suc k))))) less = absurd (omega (arith, less))

full : AreFull history blocks
full k less content is = ap (λ (x : List ℕ). length x) is ∙ long k less

-- What is open: an append of 485 bytes waits, whose entry has two blocks.

abbrev header : Piece
header = record { start = 0; len = 512 }

abbrev entry : Piece
entry = record { start = 1; len = 1024 }

abbrev appending : Waiting
appending = record { command = Append 2; len = 485; start = 1; buf = Some entry }

abbrev chain : OpenChain
chain = record {
  kind = kind.Log;
  grant = 7;
  room = 4;
  first = 1;
  start = 0;
  count = 1;
  coming = 1;
  lengths = 1 ∷ 485 ∷ [];
  stored = 1;
  used = 3;
  header_at = 0;
  header = Some header;
  waiting = appending ∷ [];
  done = 0;
  failed = false;
}

abbrev memory : Space
memory = record { taken = true ∷ true ∷ true ∷ []; bytes = replicate 512 0 ++ buffer_of 4 1 2 payload }

abbrev opened : Opened
opened = record { card = 118 ∷ []; failed = false; header_frame = 0; waiting = record { command = log.append 2 payload; room = (1, 2) ∷ [] } ∷ []; done = 0; decided = false }

abbrev its_log : Log
its_log = record { kind = kind.Log; blocks = 5; list = found one; opened = Some opened; left = None }

abbrev empty_ring : Queue
empty_ring = record { posted = []; unreaped = []; moved = 0; size = 2 }

right : IsRight chain
right = record {
  some = omega arith;
  few = omega arith;
  used_is = refl;
  fits = omega arith;
  all_short = short;
  counted = omega arith;
  stored_is = refl;
  from_one = omega arith;
  last = omega arith;
  short = omega arith;
  in_turn = (refl, (refl, refl));
  buffers = buffers;
  header_is = (refl, refl);
}
  where
    short : All (λ len. len ≤ 32768) (1 ∷ 485 ∷ [])
    short zero d less = omega arith
    short (suc zero) d less = omega arith
    short (suc (suc k)) d less = absurd (omega (arith, less))

    buffers : All HasBuffer (appending ∷ [])
    buffers zero d less = (omega arith, (refl, refl))
    buffers (suc k) d less = absurd (omega (arith, less))

whole : IsWhole chain
whole = record { header = refl; entries = entries }
  where
    entries : All (λ w. HasEntryBuffer w.command w.buf) (appending ∷ [])
    entries zero d less = refl
    entries (suc k) d less = absurd (omega (arith, less))

lies : LiesInRing kind.Log 4 zero_block empty stored one
lies = record { read = refl; first = refl; count = omega arith; stands = stands; fits = omega arith }

can : CanWait 4 one (log.append 2 payload ∷ [])
can = record { fit = (refl, tt); fits = omega arith; short = (omega arith, tt); low = omega arith; few = omega arith }

at_rest : IsAt history blocks (resting (view_of 4 zero_block 0 stored) false)
at_rest = record { left = λ k less content is. inl (is ∙ shows k less); there = λ i less. absurd (omega (arith, less)); others = λ k less none. shows k less }

proceeds : Proceeds history blocks its_log opened layout idle
proceeds = record {
  list = refl;
  decided = refl;
  is_open = open_from_rest kind.Log 4 blocks layout one history (log.append 2 payload ∷ []) false refl (omega arith) on_disk lies can at_rest;
}

-- no buffer has a frame of the other
apart : (j : ℕ) → Covers header j → ¬ IsLive (entry ∷ []) j
apart j in_header (inl in_entry) = omega (arith, in_header.1, in_entry.0)
apart j in_header (inr none) = none

waits : IsRunning history blocks memory empty_ring chain layout its_log opened
waits = record {
  is = record {
    right = right;
    kind = refl;
    room = refl;
    opened = refl;
    list = refl;
    stands = record { first = refl; count = refl; lengths = refl; coming = refl; waiting = (refl, tt) };
    can = can;
    lengths = (refl, tt);
    start = refl;
    done = refl;
    failed = refl;
    header = refl;
    rooms = (refl, tt);
    trims = (tt, tt);
  };
  size = refl;
  on_disk = on_disk;
  full = full;
  area = proceeds;
  has = has_proceeding history blocks layout its_log opened idle proceeds;
  ring = (refl, record { whole = whole; begins = λ going. refl });
  buffers = record { lies = (omega arith, (omega arith, tt)); apart = (apart, ((λ j in_entry none. none), tt)); hold = (refl, refl) };
  read = tt;
}

-- The first poll posts the entry's two blocks.

abbrev around : OpenChain → Queue → Around
around v ring = record { chain = v; ring = ring; space = memory; out = [] }

abbrev drafting : OpenChain
drafting = stage_with chain stage.Draft None

abbrev draft_ring : Queue
draft_ring = record empty_ring { posted = posting_of chain stage.Draft ∷ [] }

begun : IsBegun (around chain empty_ring) (around drafting draft_ring) Posted
begun = record { some = omega arith; posted = refl; unreaped = refl; goes = record { answer = refl; chain = refl; ring = refl; space = refl; out = refl } }

posts : IsRunning history blocks memory draft_ring drafting layout its_log opened
posts = starts history blocks layout its_log opened (around chain empty_ring) (around drafting draft_ring) Posted waits refl begun

-- The card moves the first.

abbrev card_with : Queue → Card
card_with ring = record { ring = ring; bound = 7 ∷ []; pace = None }

abbrev areas : Areas
areas = (7, blocks) ∷ []

-- what its calls come to
abbrev events_of : List Call → Bool → Bool → List Event
events_of [] took ok = []
events_of (Writes n content ∷ cs) took ok = Write n content took ok ∷ []
events_of (Reads n ∷ cs) took ok = Read n ok ∷ []
events_of (Syncs ∷ cs) took ok = Sync ok ∷ []

abbrev events : Queue → Bool → List Event
events ring ok = events_of (calls_of (card_with ring) (due_of (card_with ring) areas 0) memory) true ok

first_moves : HasMoved (card_with draft_ring) areas 0 history memory memory (events draft_ring true) moved.Block
first_moves = record { makes = inl ((true, (λ is. is), refl), refl); answer = refl; taken = refl; leaves = refl }

abbrev second_ring : Queue
second_ring = record draft_ring { moved = 1 }

abbrev then : History
then = after history (events draft_ring true)

one_written : IsRunning then blocks memory second_ring drafting layout its_log opened
one_written = moves history blocks memory (card_with draft_ring) drafting layout its_log opened areas 0 posts refl (posting_of chain stage.Draft) refl memory (events draft_ring true) moved.Block first_moves stage.Draft refl

-- The second fails, though it took.
second_fails : HasMoved (card_with second_ring) areas 0 then memory memory (events second_ring false) (moved.Done outcome.DeviceFault)
second_fails = record { makes = inr ((true, (λ is. absurd (cc (is))), refl), refl, refl); answer = refl; taken = refl; leaves = refl }

abbrev failed_ring : Queue
failed_ring = finished second_ring (posting_of chain stage.Draft) outcome.DeviceFault 0

fails : IsRunning (after then (events second_ring false)) blocks memory failed_ring drafting layout its_log opened
fails = moves then blocks memory (card_with second_ring) drafting layout its_log opened areas 0 one_written refl (posting_of chain stage.Draft) refl memory (events second_ring false) (moved.Done outcome.DeviceFault) second_fails stage.Draft refl
