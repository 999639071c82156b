-- An open log stays as it is while its blocks, its ring and its buffers do.
use Rattle.std.proofs.Common.{◌≡◌, ℕ, ◌+◌, ◌-◌, ◌*◌, ◌≤◌, Bool, List, [], ◌∷◌, ◌++◌, length, map, refl, sym, ◌∙◌, subst, arith}
use Rattle.std.specs.Prelude.{flat_map}
use Rattle.std.specs.List.{AllByRecursion}
use Rattle.ark_media.specs.Journal.{History}
use Rattle.ark_region.specs.Frames.{Piece, Space, LiesInRegion, bytes_of, frames_of}
use Rattle.ark_vic.specs.Queue.{Queue}
use Rattle.ark_vic.specs.declared.descriptor.Descriptor.{Descriptor}
use Rattle.ark_vic.specs.declared.descriptor.Completion.{Completion}
use Rattle.ark_entry.specs.Entry.{entry_blocks}
use Rattle.ark_entry.specs.Found.{Entries}
use Rattle.ark_caladan.specs.Chain.{Command, Log, Opened, commands, entries}
use Rattle.ark_caladan.specs.Listed.{AreFull, IsListed, SameAt}
use Rattle.ark_caladan.specs.Open.{Layout}
use Rattle.ark_caladan.specs.Postings.{HoldEntries, place_behind}
use Rattle.ark_caladan.specs.Standing.{Progress, makes_calls}
use Rattle.ark_caladan.specs.Views.{OnDisk}
use Rattle.ark_caladan.proofs.Standing.{stands_listed, stands_same}
use Rattle.ark_log.specs.declared.command.Waiting.{Waiting}
use Rattle.ark_log.specs.declared.stage.Stage.{Stage}
use Rattle.ark_log.specs.declared.stage.Stage.TheVariants.{Load, Draft, Mark, Header, Clear, Flush}
use Rattle.ark_log.specs.Open.{OpenChain}
use Rattle.ark_log.specs.Stages.{oldest, oldest_in}
use Rattle.ark_running.specs.Buffers.{HasReadFor, blocks_read, buffers_of, bytes_in, entry_bytes_in, pieces_of}
use Rattle.ark_running.specs.Ringed.{HasHeaderFor, IsRingBy, progress_of}
use Rattle.ark_running.specs.Running.{HasBuffersOf, HasReadSoFar, IsRunning, Where}
use Rattle.ark_running.proofs.Having.{has_same}

pub running_listed : (h : History) (blocks : List ℕ) (space : Space) (ring : Queue) (v : OpenChain) (p : Layout) (g : Log) (o : Opened) → IsRunning h blocks space ring v p g o → IsListed h blocks g
running_listed h blocks space ring v p g o is = stands_listed blocks g p h (progress_of ring) g.opened refl is.full is.area

-- where the entry of a command has its buffer
abbrev pub entry_piece : Waiting → Piece
entry_piece w = record { start = w.start; len = 512 * entry_blocks w.len }

-- what holds of each of two lists, and of one more
pub all_parts : {X : Type 0} (P : X → Type 0) (xs ys : List X) → AllByRecursion P (xs ++ ys) → AllByRecursion P xs × AllByRecursion P ys
all_parts P [] ys all = (tt, all)
all_parts P (x ∷ xs) ys all = let rest = all_parts P xs ys all.1 in ((all.0, rest.0), rest.1)

pub all_joined : {X : Type 0} (P : X → Type 0) (xs ys : List X) → AllByRecursion P xs → AllByRecursion P ys → AllByRecursion P (xs ++ ys)
all_joined P [] ys left right = right
all_joined P (x ∷ xs) ys left right = (left.0, all_joined P xs ys left.1 right)

-- in memory of the same length nothing lies elsewhere
pub lies_same : (taken later : List Bool) (bs : List Piece) → length later ≡ length taken → AllByRecursion (LiesInRegion taken) bs → AllByRecursion (LiesInRegion later) bs
lies_same taken later [] long all = tt
lies_same taken later (b ∷ bs) long all = (subst (λ n. b.start + frames_of b.len ≤ n) (sym long) all.0, lies_same taken later bs long all.1)

-- a buffer keeps its bytes
abbrev pub Stays : Space → Space → Piece → Type 0
Stays space after b = bytes_of after b ≡ bytes_of space b

module _ (space after : Space) where
  pub bytes_same : (bs : List Piece) → AllByRecursion (Stays space after) bs → bytes_in after bs ≡ bytes_in space bs
  bytes_same [] all = refl
  bytes_same (b ∷ bs) all = all.0

  pub entries_same : (ws : List Waiting) → AllByRecursion (Stays space after) (flat_map buffers_of ws) → map (entry_bytes_in after) ws ≡ map (entry_bytes_in space) ws
  entries_same [] all = refl
  entries_same (w ∷ ws) all =
      let parts = all_parts (Stays space after) (buffers_of w) (flat_map buffers_of ws) all in
      λ i. bytes_same (buffers_of w) parts.0 i ∷ entries_same ws parts.1 i

  oldest_same : (ws : List Waiting) → AllByRecursion (Stays space after) (flat_map buffers_of ws) → entry_bytes_in after (oldest_in ws) ≡ entry_bytes_in space (oldest_in ws)
  oldest_same [] all = refl
  oldest_same (w ∷ ws) all = bytes_same (buffers_of w) (all_parts (Stays space after) (buffers_of w) (flat_map buffers_of ws) all).0

  module _ (v : OpenChain) (all : AllByRecursion (Stays space after) (pieces_of v)) where
    header_kept : (stage : Stage) → HasHeaderFor stage v space → HasHeaderFor stage v after
    header_kept Header is = all.0 ∙ is
    header_kept Load is = tt
    header_kept Draft is = tt
    header_kept Mark is = tt
    header_kept Clear is = tt
    header_kept Flush is = tt

    pub ring_kept : (moved : ℕ) (ds : List Descriptor) (us : List Completion) → IsRingBy v space moved ds us → IsRingBy v after moved ds us
    ring_kept moved [] [] is = is
    ring_kept moved (d ∷ []) [] is = (is.0, is.1, record { way = is.2.way; its = is.2.its; header = header_kept is.0 is.2.header; more = is.2.more })
    ring_kept moved [] (u ∷ []) is = is
    ring_kept moved [] (u ∷ x ∷ us) is = absurd is
    ring_kept moved (d ∷ []) (u ∷ us) is = absurd is
    ring_kept moved (d ∷ x ∷ ds) us is = absurd is

    pub buffers_kept : (p : Layout) (l : Entries) (cs : List Command) → length after.taken ≡ length space.taken → HasBuffersOf space v p l cs → HasBuffersOf after v p l cs
    buffers_kept p l cs frames has = record {
      lies = lies_same space.taken after.taken (pieces_of v) frames has.lies;
      apart = has.apart;
      hold = subst (λ bs. HoldEntries v.room (place_behind p.says l) v.done cs bs) (sym (entries_same v.waiting all.1)) has.hold;
    }

    pub read_kept : (p : Layout) (o : Opened) (progress : Progress) → HasReadSoFar space v p o progress → HasReadSoFar after v p o progress
    read_kept p o progress read =
        subst (λ bytes. Where (makes_calls o progress) (HasReadFor (oldest v).command p.stored (blocks_read v.done (entry_blocks (oldest v).len) progress) bytes)) (sym (oldest_same v.waiting all.1)) read

full_same : (h later : History) (blocks : List ℕ) → SameAt h later blocks → AreFull h blocks → AreFull later blocks
full_same h later blocks same full k less content may = full k less content ((same k less).1 content may)

pub on_disk_same : (blocks : List ℕ) (a b : List (List ℕ)) → length b ≡ length a → OnDisk blocks a → OnDisk blocks b
on_disk_same blocks a b long is = record {
  inside = λ k less. let low = is.inside k less in omega (arith, low, long);
  apart = is.apart;
}

pub running_same : (h later : History) (blocks : List ℕ) (space after : Space) (ring : Queue) (v : OpenChain) (p : Layout) (g : Log) (o : Opened) → length later.base ≡ length h.base → SameAt h later blocks → length after.taken ≡ length space.taken
    → AllByRecursion (Stays space after) (pieces_of v) → IsRunning h blocks space ring v p g o → IsRunning later blocks after ring v p g o
running_same h later blocks space after ring v p g o base same frames bytes runs =
    let on_disk = on_disk_same blocks h.base later.base base runs.on_disk in
    record {
      is = runs.is;
      size = runs.size;
      on_disk = on_disk;
      full = full_same h later blocks same runs.full;
      area = stands_same blocks g p h later (progress_of ring) g.opened on_disk same runs.area;
      has = has_same g.kind (g.blocks - 1) h blocks p (entries g.list) later (commands o) (omega (arith, runs.size, runs.is.room)) (omega (arith, runs.is.right.some, runs.is.room)) same runs.has;
      ring = ring_kept space after v bytes ring.moved ring.posted ring.unreaped runs.ring;
      buffers = buffers_kept space after v bytes p (entries g.list) (commands o) frames runs.buffers;
      read = read_kept space after v bytes p o (progress_of ring) runs.read;
    }
