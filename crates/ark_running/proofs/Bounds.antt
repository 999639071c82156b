-- The blocks of a posted descriptor lie in its area, and its buffer has room for them.
use Rattle.std.proofs.Common.{◌≡◌, ℕ, zero, suc, ◌+◌, ◌-◌, ◌*◌, ◌%◌, ◌≤◌, ◌<◌, Bool, true, false, List, [], ◌∷◌, length, Option, Some, None, refl, sym, ap, subst, arith}
use Rattle.std.specs.Prelude.{IfSome, MatchOption, IsSome, flat_map, slice_get}
use Rattle.std.specs.List.{AllByRecursion}
use Rattle.std.proofs.Math.Nat.{mod-lt}
use Rattle.std.proofs.lemmas.List.Sums.{sum_by-cons, sum_by-take-le}
use Rattle.ark_region.specs.Frames.{LiesInRegion, Piece}
use Rattle.ark_vic.specs.declared.descriptor.Descriptor.{Descriptor}
use Rattle.ark_vsic.specs.Moves.{CanMove}
use Rattle.ark_entry.specs.Entry.{entry_blocks}
use Rattle.ark_entry.specs.Found.{Entries}
use Rattle.ark_entry.proofs.Readings.{some_block}
use Rattle.ark_caladan.specs.Chain as log
use Rattle.ark_caladan.specs.Plans.{CanWait, added_by}
use Rattle.ark_log.specs.declared.command.Command.{Command}
use Rattle.ark_log.specs.declared.command.Command.TheVariants.{Append, Trim, Pop}
use Rattle.ark_log.specs.declared.command.Waiting.{Waiting}
use Rattle.ark_log.specs.declared.stage.Stage.{Stage}
use Rattle.ark_log.specs.declared.stage.Stage.TheVariants.{Load, Draft, Mark, Header, Clear, Flush}
use Rattle.ark_log.specs.Open.{IsRight, OpenChain, first_after}
use Rattle.ark_log.specs.Stages.{HasEntryBuffer, IsOfStage, IsWhole, freed, posting_of, stage_with, stages_of}
use Rattle.ark_log.specs.Stands.{IsCommand, StandsFor}
use Rattle.ark_running.specs.Buffers.{IsLengthOf, buffers_by, buffers_of, header_piece, pieces_of}
use Rattle.ark_running.proofs.Describing.{placed}
use Rattle.ark_running.proofs.Framing.{all_parts, entry_piece}
use Rattle.ark_running.proofs.Phased.{first_blocks}
use Rattle.ark_running.proofs.Like.{some_same}

-- a stage that has the buffer of the oldest command
abbrev pub has_entry : Stage → Bool
has_entry Load = true
has_entry Draft = true
has_entry Mark = true
has_entry Header = false
has_entry Clear = false
has_entry Flush = false

-- no stage of a trim has
trims_none : (n i : ℕ) (s : Stage) → slice_get (stages_of (Trim n)) i ≡ Some s → has_entry s ≡ false
trims_none n zero s at = ap has_entry (sym (some_same Header s at))
trims_none n (suc zero) s at = ap has_entry (sym (some_same Flush s at))
trims_none n (suc (suc zero)) s at = ap has_entry (sym (some_same Clear s at))
trims_none n (suc (suc (suc zero))) s at = ap has_entry (sym (some_same Flush s at))
trims_none n (suc (suc (suc (suc i)))) s at = absurd (cc (at))

module _ (v0 : OpenChain) (w : Waiting) (ws : List Waiting) where
  abbrev v : OpenChain
  v = record v0 { waiting = w ∷ ws }

  -- such a stage is of a command that has a buffer
  pub its_entry : (s : Stage) → slice_get (stages_of w.command) v0.done ≡ Some s → has_entry s ≡ true → (buf : Option Piece) → (HasEntryBuffer w.command buf → IsSome buf) × (buffers_of w ≡ (entry_piece w) ∷ [])
  its_entry s at has buf = by w.command at
    where
      by : (x : Command) → slice_get (stages_of x) v0.done ≡ Some s → (HasEntryBuffer x buf → IsSome buf) × (buffers_by x w ≡ (entry_piece w) ∷ [])
      by (Append n) here = (λ is. is, refl)
      by (Pop n) here = (λ is. is, refl)
      by (Trim n) here = let none = trims_none n v0.done s here in absurd (cc (none, has))

  pub entry_there : (s : Stage) → slice_get (stages_of w.command) v0.done ≡ Some s → has_entry s ≡ true → (buf : Option Piece) → HasEntryBuffer w.command buf → IfSome buf (λ b. (b.start ≡ w.start) × (b.len ≡ 512 * entry_blocks w.len)) → buf ≡ Some (entry_piece w)
  entry_there s at has buf some its = placed buf (entry_piece w) ((its_entry s at has buf).0 some) its

  module _ (taken : List Bool) (lies : AllByRecursion (LiesInRegion taken) (pieces_of v)) where
    entry_lies : (s : Stage) → slice_get (stages_of w.command) v0.done ≡ Some s → has_entry s ≡ true → LiesInRegion taken (entry_piece w)
    entry_lies s at has =
        let parts = all_parts (LiesInRegion taken) (buffers_of w) (flat_map buffers_of ws) lies.1 in
        (subst (λ bs. AllByRecursion (LiesInRegion taken) bs) (its_entry s at has None).1 parts.0).0

    -- its buffer has room for so many blocks from a byte on
    entry_room : (s : Stage) (buf : Option Piece) (from count : ℕ) → slice_get (stages_of w.command) v0.done ≡ Some s → has_entry s ≡ true → IfSome buf (λ b. (b.start ≡ w.start) × (b.len ≡ 512 * entry_blocks w.len)) → HasEntryBuffer w.command buf → from + 512 * count ≤ 512 * entry_blocks w.len
        → MatchOption buf ⊥ (λ b. LiesInRegion taken b × (from + 512 * count ≤ b.len))
    entry_room s buf from count at has its some fits =
        subst (λ x. MatchOption x ⊥ (λ b. LiesInRegion taken b × (from + 512 * count ≤ b.len))) (sym (entry_there s at has buf some its)) (entry_lies s at has, fits)

    -- its next block can move
    pub can_move : (s : Stage) (buf : Option Piece) (moved : ℕ) → slice_get (stages_of w.command) v0.done ≡ Some s → IsOfStage v s buf → IsWhole (stage_with v s buf) → moved < (posting_of (stage_with v s buf) s).count → CanMove taken moved (posting_of (stage_with v s buf) s)
    can_move Load buf moved at its whole less = (less, entry_room Load buf 0 (entry_blocks w.len) at refl its (whole.entries 0 w (omega arith)) (omega arith))
    can_move Draft buf moved at its whole less = (less, entry_room Draft buf 0 (entry_blocks w.len) at refl its (whole.entries 0 w (omega arith)) (omega arith))
    can_move Mark buf moved at its whole less =
        (less, entry_room Mark buf (512 * (entry_blocks w.len - 1)) 1 at refl its (whole.entries 0 w (omega arith)) (let some = some_block w.len in omega (arith, some)))
    can_move Header buf moved at its whole less =
        (less, subst (λ x. MatchOption x ⊥ (λ b. LiesInRegion taken b × (0 + 512 * 1 ≤ b.len))) (sym (placed buf (header_piece v) whole.header its)) (lies.0, omega arith))
    can_move Clear buf moved at its whole less = less
    can_move Flush buf moved at its whole less = tt

  module _ (l : Entries) (c : log.Command) (cs : List log.Command) (right : IsRight v) (stands : StandsFor v l (c ∷ cs)) (can : CanWait v0.room l (c ∷ cs)) (len : IsLengthOf l w.len c) where
    -- its blocks, from the first on, are fewer than the ring has
    pub record IsWithin (d : Descriptor) : Type 0 where
      pub grant : d.grant ≡ v0.grant
      pub wrap : d.wrap ≡ 1
      pub first : d.first < suc v0.room
      pub count : d.count ≤ v0.room

    in_ring : (x : ℕ) → (v0.start + x) % v0.room + 1 < suc v0.room
    in_ring x = let low = mod-lt (v0.start + x) (let some : 0 < v0.room = omega (arith, right.some) in some) in omega (arith, low)

    one_fits : 1 ≤ v0.room
    one_fits = omega (arith, right.some)

    entry_fits : (s : Stage) → slice_get (stages_of w.command) v0.done ≡ Some s → has_entry s ≡ true → entry_blocks w.len ≤ v0.room
    entry_fits s at has = by w.command c at stands.waiting.0 can len
      where
        by : (x : Command) (y : log.Command) → slice_get (stages_of x) v0.done ≡ Some s → IsCommand x y → CanWait v0.room l (y ∷ cs) → IsLengthOf l w.len y → entry_blocks w.len ≤ v0.room
        by (Append n) (log.append m payload) here is waits long =
            let sum = sum_by-cons added_by (log.append m payload) cs in
            let size = ap entry_blocks long in
            omega (arith, sum, size, waits.fits)
        by (Append n) (log.trim m) here is waits long = absurd is
        by (Append n) (log.pop m) here is waits long = absurd is
        by (Trim n) y here is waits long = let none = trims_none n v0.done s here in absurd (cc (none, has))
        by (Pop n) (log.append m payload) here is waits long = absurd is
        by (Pop n) (log.trim m) here is waits long = absurd is
        by (Pop n) (log.pop m) here is waits long =
            let first = first_blocks l.payloads waits.fit.0.1 in
            let less = sum_by-take-le (λ (q : List ℕ). entry_blocks (length q)) l.payloads 1 in
            let size = ap entry_blocks long in
            omega (arith, first, less, size, waits.fits)

    frees_fit : (x : Command) → freed v x ≤ v0.room
    frees_fit x = let less = sum_by-take-le entry_blocks v0.lengths (first_after x v0.first - v0.first) in omega (arith, less, right.used_is, right.fits)

    pub within : (s : Stage) (buf : Option Piece) → slice_get (stages_of w.command) v0.done ≡ Some s → IsWithin (posting_of (stage_with v s buf) s)
    within Load buf at = record { grant = refl; wrap = refl; first = in_ring 0; count = entry_fits Load at refl }
    within Draft buf at = record { grant = refl; wrap = refl; first = in_ring v0.stored; count = entry_fits Draft at refl }
    within Mark buf at = record { grant = refl; wrap = refl; first = in_ring (v0.stored + (entry_blocks w.len - 1)); count = one_fits }
    within Header buf at = record { grant = refl; wrap = refl; first = omega arith; count = one_fits }
    within Clear buf at = record { grant = refl; wrap = refl; first = in_ring 0; count = frees_fit w.command }
    within Flush buf at = record { grant = refl; wrap = refl; first = omega arith; count = one_fits }
