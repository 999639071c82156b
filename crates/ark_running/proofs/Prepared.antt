-- What preparing a stage leaves in the buffers of an open log.
use Rattle.std.proofs.Common.{◌≡◌, inl, inr, ℕ, zero, suc, ◌+◌, ◌-◌, ◌*◌, ◌≤◌, List, [], ◌∷◌, ◌++◌, length, map, take, drop, Option, Some, None, refl, sym, ap, ◌∙◌, subst, arith, length-append}
use Rattle.std.specs.Prelude.{IfSome, IsSome, flat_map, slice_get}
use Rattle.std.specs.List.{AllByRecursion}
use Rattle.std.proofs.lemmas.List.{length-take, length-take-le}
use Rattle.ark_region.specs.Frames.{Apart, Covers, IsLive, Piece, ShareNoFrame, Space, Wrote, bytes_of}
use Rattle.ark_entry.specs.Header as head
use Rattle.ark_entry.specs.Entry.{marked, marker}
use Rattle.ark_caladan.specs.Chain as log
use Rattle.ark_caladan.specs.Plans.{added_by}
use Rattle.ark_caladan.specs.Postings.{HasRead, HoldEntries, HoldsEntry}
use Rattle.ark_log.specs.declared.command.Command.{Command}
use Rattle.ark_log.specs.declared.command.Command.TheVariants.{Append, Trim, Pop}
use Rattle.ark_log.specs.declared.command.Waiting.{Waiting}
use Rattle.ark_log.specs.declared.stage.Stage.{Stage}
use Rattle.ark_log.specs.declared.stage.Stage.TheVariants.{Load, Draft, Mark, Header, Clear, Flush}
use Rattle.ark_log.specs.Open.{IsRight, OpenChain}
use Rattle.ark_log.specs.Stages.{HasStageBuffer, IsPrepared, IsWhole, header_after, stages_of}
use Rattle.ark_log.specs.Stands.{AreCommands, IsCommand}
use Rattle.ark_log.proofs.Lent.{stage_has}
use Rattle.ark_log.proofs.NewBuffers.{whole_put}
use Rattle.ark_running.specs.Buffers.{HasReadFor, buffers_by, buffers_of, bytes_in, entry_bytes_in, header_piece, pieces_of}
use Rattle.ark_running.specs.Ringed.{HasHeaderFor}
use Rattle.ark_running.proofs.Framing.{Stays, all_parts, bytes_same, entries_same, entry_piece}
use Rattle.ark_running.proofs.Like.{some_same}

live_left : (bs rest : List Piece) (j : ℕ) → IsLive bs j → IsLive (bs ++ rest) j
live_left [] rest j live = absurd live
live_left (b ∷ bs) rest j (inl covers) = inl covers
live_left (b ∷ bs) rest j (inr live) = inr (live_left bs rest j live)

-- a buffer that shares no frame with any of these is apart from each
pub apart_each : (a : Piece) (bs : List Piece) → ((j : ℕ) → Covers a j → ¬ IsLive bs j) → AllByRecursion (Apart a) bs
apart_each a [] not = tt
apart_each a (b ∷ bs) not = (λ j in_a in_b. not j in_a (inl in_b), apart_each a bs (λ j in_a live. not j in_a (inr live)))

pub wrote_stay : (old new : Space) (b : Piece) (at : ℕ) (bytes : List ℕ) (bs : List Piece) → Wrote old new b at bytes → AllByRecursion (Apart b) bs → AllByRecursion (Stays old new) bs
wrote_stay old new b at bytes [] wrote apart = tt
wrote_stay old new b at bytes (c ∷ bs) wrote apart = (wrote.others c apart.0, wrote_stay old new b at bytes bs wrote apart.1)

same_stay : (old new : Space) (bs : List Piece) → new ≡ old → AllByRecursion (Stays old new) bs
same_stay old new [] same = tt
same_stay old new (c ∷ bs) same = (ap (λ s. bytes_of s c) same, same_stay old new bs same)

-- what is said of a buffer that is there is said of its place
at_place : (P : Piece → Type 0) (x : Option Piece) (c : Piece) → IsSome x → IfSome x (λ b. (b.start ≡ c.start) × (b.len ≡ c.len)) → IfSome x P → P c
at_place P None c some is holds = absurd (cc (some))
at_place P (Some b) c some is holds = subst P (λ i. record { start = is.0 i; len = is.1 i }) holds

marked_long : (xs : List ℕ) → length xs ≤ length (marked xs)
marked_long xs =
    let a = length-append (take (length xs - 8) xs) marker in
    let b = length-take-le (length xs - 8) xs (omega arith) in
    let c : length marker ≡ 8 = refl in
    omega (arith, a, b, c)

pub bytes_short : (space : Space) (b : Piece) → length (bytes_of space b) ≤ b.len
bytes_short space b = omega (arith, length-take (512 * b.start + b.len - 512 * b.start) (drop (512 * b.start) space.bytes))

-- the bytes of an entry behind those before a stage
abbrev pub BytesAfter : Stage → List ℕ → List ℕ → Type 0
BytesAfter Mark old new = new ≡ marked old
BytesAfter Load old new = new ≡ old
BytesAfter Draft old new = new ≡ old
BytesAfter Header old new = new ≡ old
BytesAfter Clear old new = new ≡ old
BytesAfter Flush old new = new ≡ old

-- only an append is marked
is_append : (c : Command) (done : ℕ) → slice_get (stages_of c) done ≡ Some Mark → (n : ℕ) × (c ≡ Append n)
is_append (Append n) done at = (n, refl)
is_append (Trim n) zero at = absurd (cc (at))
is_append (Trim n) (suc zero) at = absurd (cc (at))
is_append (Trim n) (suc (suc zero)) at = absurd (cc (at))
is_append (Trim n) (suc (suc (suc zero))) at = absurd (cc (at))
is_append (Trim n) (suc (suc (suc (suc k)))) at = absurd (cc (at))
is_append (Pop n) zero at = absurd (cc (at))
is_append (Pop n) (suc zero) at = absurd (cc (at))
is_append (Pop n) (suc (suc zero)) at = absurd (cc (at))
is_append (Pop n) (suc (suc (suc zero))) at = absurd (cc (at))
is_append (Pop n) (suc (suc (suc (suc zero)))) at = absurd (cc (at))
is_append (Pop n) (suc (suc (suc (suc (suc k))))) at = absurd (cc (at))

-- An append's buffer has the entry as before up to its second stage, and with the marker from its third stage on.
holds_after : (room place m : ℕ) (payload : List ℕ) (done : ℕ) (stage : Stage) (old new : List ℕ) → slice_get (stages_of (Append m)) done ≡ Some stage → BytesAfter stage old new → HoldsEntry room place (done - 1) (log.append m payload) old
    → HoldsEntry room place done (log.append m payload) new
holds_after room place m payload zero stage old new at is hold = subst (λ s. BytesAfter s old new) (sym (some_same Draft stage at)) is ∙ hold
holds_after room place m payload (suc zero) stage old new at is hold = subst (λ s. BytesAfter s old new) (sym (some_same Flush stage at)) is ∙ hold
holds_after room place m payload (suc (suc zero)) stage old new at is hold = subst (λ s. BytesAfter s old new) (sym (some_same Mark stage at)) is ∙ ap marked hold
holds_after room place m payload (suc (suc (suc zero))) stage old new at is hold = subst (λ s. BytesAfter s old new) (sym (some_same Flush stage at)) is ∙ hold
holds_after room place m payload (suc (suc (suc (suc k)))) stage old new at is hold = absurd (cc (at))

module _ (v0 : OpenChain) (w : Waiting) (ws : List Waiting) (before after : Space) where
  abbrev v : OpenChain
  v = record v0 { waiting = w ∷ ws }

  module _ (right : IsRight v) (whole : IsWhole v) (share : ShareNoFrame (pieces_of v)) where
    head_wrote : IsPrepared v Header before after → Wrote before after (header_piece v) 0 (head.bytes_of v.kind (header_after v w.command))
    head_wrote prep = at_place (λ b. Wrote before after b 0 (head.bytes_of v.kind (header_after v w.command))) v0.header (header_piece v) whole.header right.header_is prep

    mark_wrote : IsSome w.buf → IsPrepared v Mark before after → Wrote before after (entry_piece w) 0 (marked (bytes_of before (entry_piece w)))
    mark_wrote some prep = at_place (λ b. Wrote before after b 0 (marked (bytes_of before b))) w.buf (entry_piece w) some (right.buffers 0 w (omega arith)).1 prep

    beside_head : AllByRecursion (Apart (header_piece v)) (buffers_of w ++ flat_map buffers_of ws)
    beside_head = apart_each (header_piece v) (buffers_of w ++ flat_map buffers_of ws) share.0

    beside_entry : (n : ℕ) → w.command ≡ Append n → AllByRecursion (Apart (entry_piece w)) (flat_map buffers_of ws)
    beside_entry n is =
        let all : ShareNoFrame (buffers_by (Append n) w ++ flat_map buffers_of ws) = subst (λ c. ShareNoFrame (buffers_by c w ++ flat_map buffers_of ws)) is share.1 in
        apart_each (entry_piece w) (flat_map buffers_of ws) all.0

    module _ (stage : Stage) (at : slice_get (stages_of w.command) v0.done ≡ Some stage) (prep : IsPrepared v stage before after) where
      has : HasStageBuffer v stage
      has = stage_has v w.command v0.done stage whole.header (whole.entries 0 w (omega arith)) at

      -- its entry has the bytes that the stage leaves; no other buffer of a command changes
      entry_after : BytesAfter stage (entry_bytes_in before w) (entry_bytes_in after w) × AllByRecursion (Stays before after) (flat_map buffers_of ws)
      entry_after = by stage at has prep
        where
          kept : AllByRecursion (Stays before after) (buffers_of w ++ flat_map buffers_of ws) → (entry_bytes_in after w ≡ entry_bytes_in before w) × AllByRecursion (Stays before after) (flat_map buffers_of ws)
          kept all = let parts = all_parts (Stays before after) (buffers_of w) (flat_map buffers_of ws) all in (bytes_same before after (buffers_of w) parts.0, parts.1)

          by : (s : Stage) → slice_get (stages_of w.command) v0.done ≡ Some s → HasStageBuffer v s → IsPrepared v s before after → BytesAfter s (entry_bytes_in before w) (entry_bytes_in after w) × AllByRecursion (Stays before after) (flat_map buffers_of ws)
          by Load is some made = kept (same_stay before after (buffers_of w ++ flat_map buffers_of ws) made)
          by Draft is some made = kept (same_stay before after (buffers_of w ++ flat_map buffers_of ws) made)
          by Clear is some made = kept (same_stay before after (buffers_of w ++ flat_map buffers_of ws) made)
          by Flush is some made = kept (same_stay before after (buffers_of w ++ flat_map buffers_of ws) made)
          by Header is some made = kept (wrote_stay before after (header_piece v) 0 (head.bytes_of v.kind (header_after v w.command)) (buffers_of w ++ flat_map buffers_of ws) (head_wrote made) beside_head)
          by Mark is some made =
              let append = is_append w.command v0.done is in
              let wrote = mark_wrote some made in
              let bytes = marked (bytes_of before (entry_piece w)) in
              let whole_is : bytes_of after (entry_piece w) ≡ marked (bytes_of before (entry_piece w)) = wrote.here ∙ whole_put (bytes_of before (entry_piece w)) bytes (marked_long (bytes_of before (entry_piece w))) in (
                subst (λ c. bytes_in after (buffers_by c w) ≡ marked (bytes_in before (buffers_by c w))) (sym append.1) whole_is,
                wrote_stay before after (entry_piece w) 0 bytes (flat_map buffers_of ws) wrote (beside_entry append.0 append.1),
              )

      pub taken_same : after.taken ≡ before.taken
      taken_same = by stage has prep
        where
          by : (s : Stage) → HasStageBuffer v s → IsPrepared v s before after → after.taken ≡ before.taken
          by Load some made = ap (λ (s : Space). s.taken) made
          by Draft some made = ap (λ (s : Space). s.taken) made
          by Clear some made = ap (λ (s : Space). s.taken) made
          by Flush some made = ap (λ (s : Space). s.taken) made
          by Header some made = (head_wrote made).taken
          by Mark some made = (mark_wrote some made).taken

      pub has_header : HasHeaderFor stage v after
      has_header = by stage prep
        where
          by : (s : Stage) → IsPrepared v s before after → HasHeaderFor s v after
          by Load made = tt
          by Draft made = tt
          by Clear made = tt
          by Flush made = tt
          by Mark made = tt
          by Header made =
              let wrote = head_wrote made in
              wrote.here ∙ whole_put (bytes_of before (header_piece v)) (head.bytes_of v.kind (header_after v w.command)) (bytes_short before (header_piece v))

      -- The buffers of appends have the entries as this stage wants them.
      pub hold_after : (room place : ℕ) (cs : List log.Command) → AreCommands (w ∷ ws) cs → HoldEntries room place (v0.done - 1) cs (map (entry_bytes_in before) (w ∷ ws)) → HoldEntries room place v0.done cs (map (entry_bytes_in after) (w ∷ ws))
      hold_after room place [] are hold = absurd are
      hold_after room place (c ∷ cs) are hold = (
        first c are.0 hold.0,
        subst (λ bs. HoldEntries room (place + added_by c) 0 cs bs) (sym (entries_same before after ws entry_after.1)) hold.1,
      )
        where
          first : (d : log.Command) → IsCommand w.command d → HoldsEntry room place (v0.done - 1) d (entry_bytes_in before w) → HoldsEntry room place v0.done d (entry_bytes_in after w)
          first (log.append m payload) is held = by w.command refl is
            where
              by : (x : Command) → w.command ≡ x → IsCommand x (log.append m payload) → HoldsEntry room place v0.done (log.append m payload) (entry_bytes_in after w)
              by (Append n) same named = holds_after room place m payload v0.done stage (entry_bytes_in before w) (entry_bytes_in after w) (ap (λ x. slice_get (stages_of x) v0.done) (sym same) ∙ at) entry_after.0 held
              by (Trim n) same named = absurd named
              by (Pop n) same named = absurd named
          first (log.trim m) is held = tt
          first (log.pop m) is held = tt

      -- The buffer of a pop stays as it is.
      pub read_after : (stored : List (List ℕ)) (count : ℕ) → HasReadFor w.command stored count (entry_bytes_in before w) → HasReadFor w.command stored count (entry_bytes_in after w)
      read_after stored count has_read = by w.command refl has_read
        where
          by : (x : Command) → w.command ≡ x → HasReadFor x stored count (entry_bytes_in before w) → HasReadFor x stored count (entry_bytes_in after w)
          by (Append n) same read = tt
          by (Trim n) same read = tt
          by (Pop n) same read = subst (λ b. HasRead stored count b) (sym (kept stage at entry_after.0)) read
            where
              kept : (s : Stage) → slice_get (stages_of w.command) v0.done ≡ Some s → BytesAfter s (entry_bytes_in before w) (entry_bytes_in after w) → entry_bytes_in after w ≡ entry_bytes_in before w
              kept Load is bytes = bytes
              kept Draft is bytes = bytes
              kept Header is bytes = bytes
              kept Clear is bytes = bytes
              kept Flush is bytes = bytes
              kept Mark is bytes = let append = is_append w.command v0.done is in absurd (cc (append.1, same))

      -- Bytes apart from all its buffers stay.
      pub beside : (a : Piece) → AllByRecursion (λ b. Apart b a) (pieces_of v) → bytes_of after a ≡ bytes_of before a
      beside a apart = by stage at has prep
        where
          by : (s : Stage) → slice_get (stages_of w.command) v0.done ≡ Some s → HasStageBuffer v s → IsPrepared v s before after → bytes_of after a ≡ bytes_of before a
          by Load is some made = ap (λ (s : Space). bytes_of s a) made
          by Draft is some made = ap (λ (s : Space). bytes_of s a) made
          by Clear is some made = ap (λ (s : Space). bytes_of s a) made
          by Flush is some made = ap (λ (s : Space). bytes_of s a) made
          by Header is some made = (head_wrote made).others a apart.0
          by Mark is some made =
              let append = is_append w.command v0.done is in
              let its = subst (λ c. AllByRecursion (λ b. Apart b a) (buffers_by c w ++ flat_map buffers_of ws)) append.1 apart.1 in
              (mark_wrote some made).others a its.0
