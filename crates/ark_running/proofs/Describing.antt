-- The descriptor of a stage is what its machine's command posts.
use Rattle.std.proofs.Common.{◌≡◌, ℕ, zero, suc, ◌+◌, ◌-◌, ◌*◌, ◌%◌, List, [], ◌∷◌, length, take, drop, get_or, Option, Some, None, refl, sym, ap, ◌∙◌, subst, arith}
use Rattle.std.specs.Prelude.{IfSome, IsSome, option_map, slice_get, slice_range, unwrap_or}
use Rattle.ark_base.specs.declared.kind.Kind.{Kind}
use Rattle.ark_region.specs.Frames.{Piece, Space, bytes_of}
use Rattle.ark_vic.specs.declared.descriptor.Descriptor.{Descriptor}
use Rattle.ark_vsic.specs.Moves.{buffered}
use Rattle.ark_entry.specs.Header as head
use Rattle.ark_entry.specs.Header.{Header}
use Rattle.ark_entry.specs.Entry.{entry_blocks, marked}
use Rattle.ark_entry.specs.Found.{Entries}
use Rattle.ark_entry.proofs.Readings.{some_block}
use Rattle.ark_caladan.specs.Chain as log
use Rattle.ark_caladan.specs.Numbers.{CanFollow}
use Rattle.ark_caladan.specs.Leaves.{freed_by}
use Rattle.ark_caladan.specs.Plans as plans
use Rattle.ark_caladan.specs.Plans.{ring_place}
use Rattle.ark_caladan.specs.Postings.{HoldsEntry, Posting, append_postings, buffer_of, bytes_block, clears, drop_postings, flushes, loads, place_behind, postings_of, saves}
use Rattle.ark_log.specs.declared.command.Command.{Command}
use Rattle.ark_log.specs.declared.command.Command.TheVariants.{Append, Trim, Pop}
use Rattle.ark_log.specs.declared.command.Waiting.{Waiting}
use Rattle.ark_log.specs.declared.stage.Stage.{Stage}
use Rattle.ark_log.specs.declared.stage.Stage.TheVariants as stage
use Rattle.ark_log.specs.Open.{IsRight, OpenChain}
use Rattle.ark_log.specs.Stages.{HasEntryBuffer, IsOfStage, IsWhole, header_after, posting_of, stage_with, stages_of}
use Rattle.ark_log.specs.Stands.{IsCommand, StandsFor}
use Rattle.ark_log.proofs.Headers.{pop_header, stored_are, trim_header}
use Rattle.ark_running.specs.Buffers.{IsLengthOf, buffers_by, bytes_in, entry_bytes_in, header_piece}
use Rattle.ark_running.specs.Ringed.{HasHeaderFor}
use Rattle.ark_running.proofs.Calling.{Describes}
use Rattle.ark_running.proofs.Like.{some_same}
use Rattle.ark_running.proofs.Framing.{entry_piece}

-- a buffer that is there is at its place
pub placed : (x : Option Piece) (c : Piece) → IsSome x → IfSome x (λ b. (b.start ≡ c.start) × (b.len ≡ c.len)) → x ≡ Some c
placed None c some is = absurd (cc (some))
placed (Some b) c some is = λ i. Some (record { start = is.0 i; len = is.1 i })

ring_at : (room a b x y : ℕ) → a ≡ b → x ≡ y → (a + x) % room + 1 ≡ ring_place room b y
ring_at room a b x y same on =
    let one : (b + y) % room + 1 ≡ suc ((b + y) % room) = omega arith in
    (λ i. (same i + on i) % room + 1) ∙ one

zero_on : (k : ℕ) → 0 + 512 * k ≡ 512 * k
zero_on k = omega arith

-- 512 bytes from a place on
cut_is : (xs : List ℕ) (a : ℕ) → slice_range xs a (a + 512) ≡ take 512 (drop a xs)
cut_is xs a = let size : a + 512 - a ≡ 512 = omega arith in ap (λ n. take n (drop a xs)) size

module _ (v0 : OpenChain) (w : Waiting) (ws : List Waiting) (space : Space) (kind : Kind) (says : Header) (l : Entries) (c : log.Command) (cs : List log.Command) where
  abbrev v : OpenChain
  v = record v0 { waiting = w ∷ ws }

  module _ (right : IsRight v) (stands : StandsFor v l (c ∷ cs)) (can : CanFollow l c) (len : IsLengthOf l w.len c) (start : says.start ≡ v0.start) (its_kind : v0.kind ≡ kind)
      (hold : HoldsEntry v0.room (place_behind says l) v0.done c (entry_bytes_in space w)) where
    module _ (buf : Option Piece) where
      abbrev Is : Stage → Posting → Type 0
      Is s q = IsOfStage v s buf → IsWhole (stage_with v s buf) → HasHeaderFor s v space → Describes (posting_of (stage_with v s buf) s) space q

      flushed : Is stage.Flush flushes
      flushed its whole header = refl

      -- a block of a buffer that is there
      block_is : (d : Descriptor) (b : Piece) (k : ℕ) → d.buf ≡ Some b → buffered d k space ≡ take 512 (drop (d.from + 512 * k) (bytes_of space b))
      block_is d b k is =
          ap (λ (x : Option Piece). unwrap_or (option_map (λ y. slice_range (bytes_of space y) (d.from + 512 * k) (d.from + 512 * k + 512)) x) []) is ∙ cut_is (bytes_of space b) (d.from + 512 * k)

      headed : (h : Header) → header_after v w.command ≡ h → Is stage.Header (saves 0 1 (head.bytes_of kind h))
      headed h is its whole header = (
        refl,
        refl,
        λ k less.
            block_is (posting_of (stage_with v stage.Header buf) stage.Header) (header_piece v) k (placed buf (header_piece v) whole.header its)
            ∙ (λ i. take 512 (drop (zero_on k i) ((header ∙ (λ j. head.bytes_of (its_kind j) (is j))) i))),
      )

      cleared : (count : ℕ) → Is stage.Clear (clears (ring_place v0.room says.start 0) count)
      cleared count its whole header = (refl, ring_at v0.room v0.start says.start 0 0 (sym start) refl)

      drops : (h : Header) (freed : ℕ) → header_after v w.command ≡ h → (i : ℕ) (s : Stage) → slice_get (stage.Header ∷ stage.Flush ∷ stage.Clear ∷ stage.Flush ∷ []) i ≡ Some s
          → Is s (get_or (drop_postings v0.room (head.bytes_of kind h) says.start freed) i flushes)
      drops h freed is zero s at = subst (λ t. Is t (saves 0 1 (head.bytes_of kind h))) (some_same stage.Header s at) (headed h is)
      drops h freed is (suc zero) s at = subst (λ t. Is t flushes) (some_same stage.Flush s at) flushed
      drops h freed is (suc (suc zero)) s at = subst (λ t. Is t (clears (ring_place v0.room says.start 0) freed)) (some_same stage.Clear s at) (cleared freed)
      drops h freed is (suc (suc (suc zero))) s at = subst (λ t. Is t flushes) (some_same stage.Flush s at) flushed
      drops h freed is (suc (suc (suc (suc i)))) s at = absurd (cc (at))

      loaded : (count : ℕ) → Is stage.Load (loads (ring_place v0.room says.start 0) count)
      loaded count its whole header = (refl, ring_at v0.room v0.start says.start 0 0 (sym start) refl)

      -- an append's entry is written, and then its last block
      module _ (n m : ℕ) (payload : List ℕ) (named : Append n ≡ w.command) (follows : CanFollow l (log.append m payload)) (long : w.len ≡ length payload) where
        abbrev entry : List ℕ
        entry = buffer_of v0.room (says.start + log.blocks_of l.payloads) (log.next_number l) payload

        stored_is : v0.stored ≡ log.blocks_of l.payloads
        stored_is = stored_are v l c cs right stands says start

        bytes_are : (bytes : List ℕ) → entry_bytes_in space w ≡ bytes → bytes_of space (entry_piece w) ≡ bytes
        bytes_are bytes is = ap (λ x. bytes_in space (buffers_by x w)) named ∙ is

        there : HasEntryBuffer w.command buf → IfSome buf (λ b. (b.start ≡ w.start) × (b.len ≡ 512 * entry_blocks w.len)) → buf ≡ Some (entry_piece w)
        there some its = placed buf (entry_piece w) (subst (λ x. HasEntryBuffer x buf) (sym named) some) its

        drafted : entry_bytes_in space w ≡ entry → Is stage.Draft (saves (ring_place v0.room says.start (log.blocks_of l.payloads)) (entry_blocks (length payload)) entry)
        drafted holds its whole header = (
          refl,
          ring_at v0.room v0.start says.start v0.stored (log.blocks_of l.payloads) (sym start) stored_is,
          λ k less.
              block_is (posting_of (stage_with v stage.Draft buf) stage.Draft) (entry_piece w) k (there (whole.entries 0 w (omega arith)) its) ∙ (λ i. take 512 (drop (zero_on k i) (bytes_are entry holds i))),
        )

        marks : entry_bytes_in space w ≡ marked entry
            → Is stage.Mark (saves (ring_place v0.room says.start (log.blocks_of l.payloads + entry_blocks (length payload) - 1)) 1 (drop (512 * (entry_blocks (length payload) - 1)) (marked entry)))
        marks holds its whole header =
            let at : v0.stored + (entry_blocks w.len - 1) ≡ log.blocks_of l.payloads + entry_blocks (length payload) - 1 =
            let size = ap entry_blocks long in let some = some_block w.len in omega (arith, stored_is, size, some) in (
              refl,
              ring_at v0.room v0.start says.start (v0.stored + (entry_blocks w.len - 1)) (log.blocks_of l.payloads + entry_blocks (length payload) - 1) (sym start) at,
              λ k less.
                  let none : k ≡ 0 = omega (arith, less) in
                  let from : 512 * (entry_blocks w.len - 1) + 512 * 0 ≡ 512 * (entry_blocks w.len - 1) = omega arith in
                  ap (λ j. buffered (posting_of (stage_with v stage.Mark buf) stage.Mark) j space) none
                  ∙ block_is (posting_of (stage_with v stage.Mark buf) stage.Mark) (entry_piece w) 0 (there (whole.entries 0 w (omega arith)) its)
                  ∙ (λ i. take 512 (drop (from i) (bytes_are (marked entry) holds i)))
                  ∙ ap (λ len. take 512 (drop (512 * (entry_blocks len - 1)) (marked entry))) long
                  ∙ ap (λ j. bytes_block (drop (512 * (entry_blocks (length payload) - 1)) (marked entry)) j) (sym none),
            )

        appends : (i : ℕ) (s : Stage) → slice_get (stages_of (Append n)) i ≡ Some s → HoldsEntry v0.room (place_behind says l) i (log.append m payload) (entry_bytes_in space w) → Is s (get_or (append_postings v0.room says.start l payload) i flushes)
        appends zero s at holds = subst (λ t. Is t (get_or (append_postings v0.room says.start l payload) 0 flushes)) (some_same stage.Draft s at) (drafted (holds ∙ ap (λ k. buffer_of v0.room (place_behind says l) k payload) follows))
        appends (suc zero) s at holds = subst (λ t. Is t flushes) (some_same stage.Flush s at) flushed
        appends (suc (suc zero)) s at holds =
            subst (λ t. Is t (get_or (append_postings v0.room says.start l payload) 2 flushes)) (some_same stage.Mark s at) (marks (holds ∙ ap (λ k. marked (buffer_of v0.room (place_behind says l) k payload)) follows))
        appends (suc (suc (suc zero))) s at holds = subst (λ t. Is t flushes) (some_same stage.Flush s at) flushed
        appends (suc (suc (suc (suc i)))) s at holds = absurd (cc (at))

      pub describes : (s : Stage) → slice_get (stages_of w.command) v0.done ≡ Some s → Is s (get_or (postings_of kind v0.room says l c) v0.done flushes)
      describes s at = by w.command c refl refl stands.waiting.0 can len at hold
        where
          by : (x : Command) (y : log.Command) → x ≡ w.command → y ≡ c → IsCommand x y → CanFollow l y → IsLengthOf l w.len y → slice_get (stages_of x) v0.done ≡ Some s → HoldsEntry v0.room (place_behind says l) v0.done y (entry_bytes_in space w)
              → Is s (get_or (postings_of kind v0.room says l y) v0.done flushes)
          by (Append n) (log.append m payload) named same is fits long here holds = appends n m payload named fits long v0.done s here holds
          by (Append n) (log.trim m) named same is fits long here holds = absurd is
          by (Append n) (log.pop m) named same is fits long here holds = absurd is
          by (Trim n) (log.append m payload) named same is fits long here holds = absurd is
          by (Trim n) (log.trim m) named same is fits long here holds =
              let stands2 : StandsFor v l (log.trim m ∷ cs) = subst (λ y. StandsFor v l (y ∷ cs)) (sym same) stands in
              drops (plans.header_after v0.room says l (log.trim m)) (freed_by l (log.trim m))
              (ap (header_after v) (sym named ∙ ap Trim is) ∙ trim_header v l m cs says right stands2 fits start) v0.done s here
          by (Trim n) (log.pop m) named same is fits long here holds = absurd is
          by (Pop n) (log.append m payload) named same is fits long here holds = absurd is
          by (Pop n) (log.trim m) named same is fits long here holds = absurd is
          by (Pop n) (log.pop m) named same is fits long here holds = pops v0.done here
            where
              stands2 : StandsFor v l (log.pop m ∷ cs)
              stands2 = subst (λ y. StandsFor v l (y ∷ cs)) (sym same) stands

              pops : (i : ℕ) → slice_get (stages_of (Pop n)) i ≡ Some s → Is s (get_or (postings_of kind v0.room says l (log.pop m)) i flushes)
              pops zero first = subst (λ t. Is t (loads (ring_place v0.room says.start 0) (freed_by l (log.pop m)))) (some_same stage.Load s first) (loaded (freed_by l (log.pop m)))
              pops (suc i) rest =
                  drops (plans.header_after v0.room says l (log.pop m)) (freed_by l (log.pop m)) (ap (header_after v) (sym named ∙ ap Pop is) ∙ pop_header v l m cs says right stands2 fits start) i s rest
