-- A move of a card that an application keeps carries what its machine's move does: each case of what is due.
use Rattle.std.proofs.Common.{◌≡◌, ⊎_elim, ℕ, ◌+◌, ◌*◌, ◌<◌, Bool, true, false, List, [], ◌∷◌, length, get_or, nat_le, refl, sym, ◌∙◌, ap, subst, arith, bytes_eq, Contains}
use Rattle.std.specs.Prelude.{if◌then◌else◌, Option, Some, None, IfSome, MatchOption, option_map, slice_get, slice_index_or}
use Rattle.std.proofs.lemmas.List.Elements.{Contains-get_or}
use Rattle.ark_base.specs.declared.kind.Outcome.{Outcome}
use Rattle.ark_base.specs.declared.kind.Outcome.TheVariants as outcome
use Rattle.ark_media.specs.Journal.{History, Event, Read, Write, Sync}
use Rattle.ark_media.specs.Calls.{Call, Makes, Reads, Writes, Syncs}
use Rattle.ark_media.specs.Standing.{after}
use Rattle.ark_extents.specs.Blocks.{AreDistinct}
use Rattle.ark_extents.proofs.Unview.{one_event}
use Rattle.ark_table.specs.Slots.{Slot}
use Rattle.ark_region.specs.Frames.{Piece, Space, Wrote}
use Rattle.ark_caps.specs.declared.capability.Capability.{Capability}
use Rattle.ark_script.specs.declared.said.Said.TheVariants as said
use Rattle.ark_vic.specs.declared.descriptor.Descriptor.{Descriptor}
use Rattle.ark_vic.specs.declared.descriptor.Job.TheVariants as vic
use Rattle.ark_vic.specs.declared.door.Counts.{Counts}
use Rattle.ark_vsic.specs.Card.{head_of}
use Rattle.ark_vsic.specs.Moves.{due_for, due_by, due_in, area_of, answer_tried, count_of, worked, call_by, block_call, buffered, Got, LeavesBlock, CanMove, outcome_of as ending_of}
use Rattle.ark_vsic.specs.declared.due.Due.{Due}
use Rattle.ark_vsic.specs.declared.due.Due.TheVariants as due
use Rattle.ark_vsic.specs.declared.due.Moved.{Moved}
use Rattle.ark_vsic.specs.declared.due.Moved.TheVariants as moved
use Rattle.ark_machine.specs.Bytes.{block_of}
use Rattle.ark_machine.specs.Objects
use Rattle.ark_machine.specs.Objects.{Object, Raw, Buffer, Vsic, Job, Transfer, transfer, flush, phase}
use Rattle.ark_machine.specs.Machine.{Machine, Held, at, holding, bytes_at, with_object, each_object}
use Rattle.ark_machine.specs.Row
use Rattle.ark_machine.specs.Row.{Ended, settled, synced}
use Rattle.ark_machine.specs.Areas.{raw_written}
use Rattle.ark_machine.specs.Follow.{Follows, MakesAt, Took, end_of, ends_of, ended, fails, goes_on}
use Rattle.ark_machine.specs.Moves.{Move, move, moves, moved as machine_moved, ends, gated, tried, transferred, transfer_call, raw_numbered, is_bound, first_end}
use Rattle.ark_machine.specs.Rates.{is_over_burst, may_pass}
use Rattle.ark_held.specs.Around.{Around, slot_at, blocks_under, Each, piece_of}
use Rattle.ark_log.specs.Open.{OpenChain}
use Rattle.ark_held.specs.Cards.{IsJob, IsPhase, IsTransfer}
use Rattle.ark_held.specs.Kept.{CardKept}
use Rattle.ark_held.specs.Beside.{AreBeside}
use Rattle.ark_held.specs.Does.{IsSited, LogsAtFronts}
use Rattle.ark_held.specs.Held.{Holds}
use Rattle.ark_held.specs.Moving.{area_named, area_of_grant, card_of, blocks_held, pace_moved, said_of}
use Rattle.ark_held.specs.declared.areas.Area.{Area}
use Rattle.ark_held.proofs.Lists.{by_test}
use Rattle.ark_held.proofs.Fronts.{logs_left, logs_beside_raw}
use Rattle.ark_held.proofs.Rewriting.{with_written}
use Rattle.ark_held.proofs.Effects.{at_other, at_each, labels_apart, read_holds, sync_holds, got_holds, settles_holds, put_holds}
use Rattle.ark_held.proofs.Reaching.{IsReached, IsGone, reached}
use Rattle.ark_held.proofs.Dues.{due_by_tests}
use Rattle.ark_held.proofs.Ending.{OnCard}
use Rattle.ark_held.proofs.MovedPhase.{phase_done}
use Rattle.ark_held.proofs.MoveRows.{ended_by, move_is, ends_is, gate_unbound, gate_over, gate_waits, gate_opens, put_is, put_call, get_is, get_call, get_fails}
use Rattle.ark_held.proofs.Transferring.{due_gone, due_reached, inside, at_next, ItsBuffer, its_buffer, below, room, content}
use Rattle.ark_held.proofs.Carrying.{carried, Carries, WasMoved, made_of, leaves_of, answer_by, sets_by, rings_by, carries_by, still, ended_quietly, none_made}
use Rattle.ark_held.proofs.Trying.{called, Tries, tries, then_on, ends_then}

module _ (x : Around) (v : List ℕ) (c : Capability) (k : CardKept) (card : Vsic) (on : OnCard x v c k card) (told : Option History) (es : List Event) (a : Moved) (memory : Space) (cards : ℕ → Option CardKept) (doors : ℕ → Option Counts)
    (w : WasMoved x c.key k told es a memory cards doors) (is_told : told ≡ Some (after x.history es)) (size : ℕ) (sited : IsSited x size)
    (in_base : (l : List ℕ) (t : Slot) (n : ℕ) → slot_at x l ≡ Some t → Contains t.blocks n → n < length x.history.base) (sound : IfSome (head_of k.ring) (λ d. CanMove x.tables.memory.taken k.ring.moved d))
    (distinct : IfSome (area_named (head_of k.ring) x.areas) (λ area. AreDistinct area.1)) where
  abbrev m : Machine
  m = x.machine

  abbrev e : Ended
  e = first_end (ends_of es)

  abbrev row : Move
  row = move m v e

  abbrev Result : Type 0
  Result = Carries x row es a memory cards doors

  row_of : (js : List Job) → card.queue.posted ≡ js → row ≡ machine_moved m v card js e
  row_of js jobs = move_is m v card on.held on.there on.object e ∙ ap (λ (zs : List Job). machine_moved m v card zs e) jobs

  due_of_head : (head : Option Descriptor) → head_of k.ring ≡ head → due_for (head_of k.ring) (card_of k) (blocks_held x.areas) x.now ≡ due_for head (card_of k) (blocks_held x.areas) x.now
  due_of_head head is = ap (λ (o : Option Descriptor). due_for o (card_of k) (blocks_held x.areas) x.now) is

  -- Nothing is posted.
  idle : k.ring.posted ≡ [] → card.queue.posted ≡ [] → Result
  idle posted jobs =
      let head : head_of k.ring ≡ None = ap (λ (ds : List Descriptor). slice_get ds 0) posted in
      let is : due_for (head_of k.ring) (card_of k) (blocks_held x.areas) x.now ≡ due.Nothing = due_of_head None head in
      still x v c k card on told es a memory cards doors w (none_made es (worked a) (made_of x v c k card on told es a memory cards doors w None head due.Nothing is))
      (leaves_of x v c k card on told es a memory cards doors w None head due.Nothing is)
      moved.Idle said.Idle (answer_by x v c k card on told es a memory cards doors w due.Nothing is) refl refl
      (ap (λ (y : Due). pace_moved k.pace y x.now) is) (rings_by x v c k card on told es a memory cards doors w moved.Idle (answer_by x v c k card on told es a memory cards doors w due.Nothing is)) (row_of [] jobs)

  -- A sync.
  module _ (d : Descriptor) (ds : List Descriptor) (js : List Job) (posted : k.ring.posted ≡ d ∷ ds) (jobs : card.queue.posted ≡ flush ∷ js) (none : k.log ≡ None) (is : IsJob x k.log d flush) where
    head : head_of k.ring ≡ Some d
    head = ap (λ (zs : List Descriptor). slice_get zs 0) posted

    due_sync : due_for (head_of k.ring) (card_of k) (blocks_held x.areas) x.now ≡ due.Sync
    due_sync = due_of_head (Some d) head ∙ ap (λ z. due_by z (due_in (area_of d.grant k.bound (blocks_held x.areas)) d k.ring.moved (card_of k).pace x.now)) is.0

    synced_so : (ok : Bool) → worked a ≡ ok → es ≡ Sync ok ∷ [] → memory ≡ x.tables.memory → a ≡ moved.Done (ending_of ok) → Result
    synced_so true well came same so =
        let m1 : Machine = each_object settled m in
        let there : at m1 v ≡ Some (holding (settled on.held.object) on.held) = at_each settled m v on.held on.there in
        let object : settled on.held.object ≡ Objects.vsic card = ap settled on.object in
        let one : Ended = first_end (ends_of (Sync true ∷ [])) in
        carries_by x v c k card on told es a memory cards doors w (ended_by m1 v card flush js outcome.Ok card.pace) (said.Done outcome.Ok) (Row.syncs ∷ [])
        (row_of (flush ∷ js) jobs ∙ ap (λ (zs : List Event). machine_moved m v card (flush ∷ js) (first_end (ends_of zs))) came
        ∙ ends_is m1 v card (holding (settled on.held.object) on.held) there object flush js outcome.Ok (Row.syncs ∷ []))
        (ap said_of so) (subst (λ (zs : List Event). Follows (MakesAt (blocks_under x)) (Row.syncs ∷ []) zs) (sym came) (goes_on {c = Row.syncs} {e = Sync true} tt refl refl ended))
        (subst (λ (zs : List Event). Holds (carried x zs (ended_by m1 v card flush js outcome.Ok card.pace) memory cards doors)) (sym came)
        (subst (λ (z : Space). Holds (carried x (Sync true ∷ []) (ended_by m1 v card flush js outcome.Ok card.pace) z cards doors)) (sym same)
        (ends_then x v c k card on (Sync true ∷ []) m1 x.tables.memory (settles_holds x on.holds in_base) (holding (settled on.held.object) on.held) there object cards doors d ds flush js posted jobs none outcome.Ok k.pace card.pace
        (then_on x v c k card on (Sync true ∷ []) m1 x.tables.memory (settles_holds x on.holds in_base) (holding (settled on.held.object) on.held) there object cards doors d ds flush js posted jobs none).fits.pace
        (sets_by x v c k card on told es a memory cards doors w due.Sync due_sync (moved.Done outcome.Ok) so) (rings_by x v c k card on told es a memory cards doors w (moved.Done outcome.Ok) so))))
        (logs_left x es on.holds in_base (λ l t g placed log. subst (λ (zs : List Event). AreBeside t.blocks zs) (sym came) tt))
    synced_so false bad came same so =
        carries_by x v c k card on told es a memory cards doors w (ended_by m v card flush js outcome.DeviceFault card.pace) (said.Done outcome.DeviceFault) (Row.syncs ∷ [])
        (row_of (flush ∷ js) jobs ∙ ap (λ (zs : List Event). machine_moved m v card (flush ∷ js) (first_end (ends_of zs))) came
        ∙ ends_is m v card on.held on.there on.object flush js outcome.DeviceFault (Row.syncs ∷ []))
        (ap said_of so) (subst (λ (zs : List Event). Follows (MakesAt (blocks_under x)) (Row.syncs ∷ []) zs) (sym came) (fails {c = Row.syncs} {e = Sync false} tt refl))
        (subst (λ (zs : List Event). Holds (carried x zs (ended_by m v card flush js outcome.DeviceFault card.pace) memory cards doors)) (sym came)
        (subst (λ (z : Space). Holds (carried x (Sync false ∷ []) (ended_by m v card flush js outcome.DeviceFault card.pace) z cards doors)) (sym same)
        (ends_then x v c k card on (Sync false ∷ []) m x.tables.memory (sync_holds x on.holds in_base false) on.held on.there on.object cards doors d ds flush js posted jobs none outcome.DeviceFault k.pace card.pace
        (then_on x v c k card on (Sync false ∷ []) m x.tables.memory (sync_holds x on.holds in_base false) on.held on.there on.object cards doors d ds flush js posted jobs none).fits.pace
        (sets_by x v c k card on told es a memory cards doors w due.Sync due_sync (moved.Done outcome.DeviceFault) so) (rings_by x v c k card on told es a memory cards doors w (moved.Done outcome.DeviceFault) so))))
        (logs_left x es on.holds in_base (λ l t g placed log. subst (λ (zs : List Event). AreBeside t.blocks zs) (sym came) tt))

    flushed : Result
    flushed =
        let one = one_event Syncs (worked a) es (made_of x v c k card on told es a memory cards doors w (Some d) head due.Sync due_sync) in
        synced_so (worked a) refl (one.1 ∙ ap (λ (z : Event). z ∷ []) one.2) (leaves_of x v c k card on told es a memory cards doors w (Some d) head due.Sync due_sync)
        (answer_by x v c k card on told es a memory cards doors w due.Sync due_sync)

  -- Blocks between an area and a buffer.
  module _ (d : Descriptor) (ds : List Descriptor) (t : Transfer) (js : List Job) (posted : k.ring.posted ≡ d ∷ ds) (jobs : card.queue.posted ≡ transfer t ∷ js) (none : k.log ≡ None) (is : IsTransfer x d t) where
    oldest : head_of k.ring ≡ Some d
    oldest = ap (λ (zs : List Descriptor). slice_get zs 0) posted

    abbrev its_due : Due
    its_due = due_by d.job (due_in (area_of d.grant k.bound (blocks_held x.areas)) d k.ring.moved (card_of k).pace x.now)

    due_is : due_for (head_of k.ring) (card_of k) (blocks_held x.areas) x.now ≡ its_due
    due_is = due_of_head (Some d) oldest

    can : CanMove x.tables.memory.taken k.ring.moved d
    can = subst (λ (o : Option Descriptor). IfSome o (λ z. CanMove x.tables.memory.taken k.ring.moved z)) oldest sound

    abbrev tried_move : Move
    tried_move = tried m.now e.ok t.count (transferred m t card.queue.moved e (raw_numbered m t.vsa)) v card (transfer t) js (transfer_call m t card.queue.moved ∷ [])

    -- it ends before a block
    ends_early : (o : Outcome) → its_due ≡ due.Ends o → gated m v card (transfer t) js (is_bound m card t.vsa) tried_move ≡ ends m v card (transfer t) js o [] → Result
    ends_early o ends_so gate =
        let y = due_is ∙ ends_so in
        ended_quietly x v c k card on told es a memory cards doors w (none_made es (worked a) (made_of x v c k card on told es a memory cards doors w (Some d) oldest (due.Ends o) y))
        (leaves_of x v c k card on told es a memory cards doors w (Some d) oldest (due.Ends o) y) d ds (transfer t) js posted jobs none o y
        (answer_by x v c k card on told es a memory cards doors w (due.Ends o) y)
        (row_of (transfer t ∷ js) jobs ∙ gate ∙ ends_is m v card on.held on.there on.object (transfer t) js o [])

    waits : its_due ≡ due.Waits → gated m v card (transfer t) js (is_bound m card t.vsa) tried_move ≡ moves m said.Held [] → Result
    waits held gate =
        let y = due_is ∙ held in
        let so = answer_by x v c k card on told es a memory cards doors w due.Waits y in
        still x v c k card on told es a memory cards doors w (none_made es (worked a) (made_of x v c k card on told es a memory cards doors w (Some d) oldest due.Waits y))
        (leaves_of x v c k card on told es a memory cards doors w (Some d) oldest due.Waits y) moved.Held said.Held so refl refl
        (ap (λ (z : Due). pace_moved k.pace z x.now) y) (rings_by x v c k card on told es a memory cards doors w moved.Held so) (row_of (transfer t ∷ js) jobs ∙ gate)

    -- An area that is held.
    module _ (r : IsReached x d t) where
      abbrev lt : k.ring.moved < d.count
      lt = below x on.holds d t is k.ring.moved can

      abbrev off : ℕ
      off = d.first + k.ring.moved

      abbrev n : ℕ
      n = get_or r.slot.blocks off 0

      module _ (may : may_pass card.pace x.now 512 ≡ true) (y : due_for (head_of k.ring) (card_of k) (blocks_held x.areas) x.now ≡ due.Block n) (gate : row ≡ tried_move) where
        answer_is : a ≡ answer_tried (nat_le d.count (k.ring.moved + 1)) (worked a)
        answer_is = answer_by x v c k card on told es a memory cards doors w (due.Block n) y
            ∙ ap (λ (o : Option Descriptor). answer_tried (nat_le (count_of o) (k.ring.moved + 1)) (worked a)) oldest

        -- from the machine and the events of the device call on
        module _ (ev : Event) (came : es ≡ ev ∷ []) (m1 : Machine) (calls : Row.Call) (moves_so : transferred m t card.queue.moved (end_of ev) (raw_numbered m t.vsa) ≡ m1) (call_is : transfer_call m t card.queue.moved ≡ calls)
            (h : Holds (called x (ev ∷ []) m1 memory)) (there : at m1 v ≡ Some on.held) (ok_is : (end_of ev).ok ≡ worked a)
            (follows : Follows (MakesAt (blocks_under x)) (calls ∷ []) (ev ∷ [])) (logs : LogsAtFronts x (ev ∷ [])) where
          its : Tries x (tried x.now (worked a) t.count m1 v card (transfer t) js (calls ∷ [])) (ev ∷ []) (calls ∷ []) a memory cards doors
          its = tries x v c k card on (ev ∷ []) m1 memory h on.held there on.object cards doors d ds (transfer t) js posted jobs none t.count is.count (calls ∷ []) (worked a) a answer_is may
              (sets_by x v c k card on told es a memory cards doors w (due.Block n) y a refl) (rings_by x v c k card on told es a memory cards doors w a refl)

          row_is : row ≡ tried x.now (worked a) t.count m1 v card (transfer t) js (calls ∷ [])
          row_is =
              gate
              ∙ ap (λ (zs : List Event). tried m.now (first_end (ends_of zs)).ok t.count (transferred m t card.queue.moved (first_end (ends_of zs)) (raw_numbered m t.vsa)) v card (transfer t) js (transfer_call m t card.queue.moved ∷ [])) came
              ∙ ap (λ (b : Bool). tried m.now b t.count (transferred m t card.queue.moved (end_of ev) (raw_numbered m t.vsa)) v card (transfer t) js (transfer_call m t card.queue.moved ∷ [])) ok_is
              ∙ ap (λ (z : Machine). tried m.now (worked a) t.count z v card (transfer t) js (transfer_call m t card.queue.moved ∷ [])) moves_so
              ∙ ap (λ (z : Row.Call). tried m.now (worked a) t.count m1 v card (transfer t) js (z ∷ [])) call_is
              ∙ ap (λ (i : ℕ). tried i (worked a) t.count m1 v card (transfer t) js (calls ∷ [])) on.holds.now

          block_done : Result
          block_done = carries_by x v c k card on told es a memory cards doors w its.machine its.said (calls ∷ []) (row_is ∙ its.row) its.same
              (subst (λ (zs : List Event). Follows (MakesAt (blocks_under x)) (calls ∷ []) zs) (sym came) follows)
              (subst (λ (zs : List Event). Holds (carried x zs its.machine memory cards doors)) (sym came) its.holds)
              (subst (λ (zs : List Event). LogsAtFronts x zs) (sym came) logs)

        its_call : Makes (block_call d k.ring.moved n x.tables.memory ∷ []) (worked a) es
        its_call = made_of x v c k card on told es a memory cards doors w (Some d) oldest (due.Block n) y

        left : LeavesBlock d.job (worked a) d.buf (d.from + 512 * k.ring.moved) told n x.tables.memory memory
        left = leaves_of x v c k card on told es a memory cards doors w (Some d) oldest (due.Block n) y

        at_block : slice_get (blocks_under x r.held.label) off ≡ Some n
        at_block = rw r.placed (at_next x on.holds k card on.fits.bound on.fits.pace d t is r lt)

        near : off < length r.slot.blocks
        near = inside x on.holds k card on.fits.bound on.fits.pace d t is r lt

        its_place : t.off + card.queue.moved ≡ off
        its_place = let first = is.off in let count = on.fits.moved in omega (arith, first, count)

        -- From the buffer to the area.
        module _ (puts : t.put ≡ true) where
          abbrev bytes : List ℕ
          bytes = block_of (bytes_at m t.buffer) k.ring.moved

          writes_call : block_call d k.ring.moved n x.tables.memory ≡ Writes n bytes
          writes_call = ap (λ z. call_by z n (buffered d k.ring.moved x.tables.memory)) (is.does ∙ ap (λ b. if b then vic.Write else vic.Read) puts)
              ∙ ap (λ (bs : List ℕ). Writes n bs) (content x on.holds d t is k.ring.moved can)

          same_memory : memory ≡ x.tables.memory
          same_memory = written (worked a) (subst (λ z. LeavesBlock z (worked a) d.buf (d.from + 512 * k.ring.moved) told n x.tables.memory memory) (is.does ∙ ap (λ b. if b then vic.Write else vic.Read) puts) left)
            where
              written : (ok : Bool) → LeavesBlock vic.Write ok d.buf (d.from + 512 * k.ring.moved) told n x.tables.memory memory → memory ≡ x.tables.memory
              written true h = h
              written false h = h

          not_area : bytes_eq r.held.label v ≡ false
          not_area = labels_apart m r.held.label v r.held on.held r.there on.there (λ same. raw_is_no_card r.raw card (sym r.object ∙ same ∙ on.object))
            where
              raw_is_no_card : (z : Raw) (s : Vsic) → Objects.raw z ≡ Objects.vsic s → ⊥
              raw_is_no_card z s same = cc (same)

          put_follows : (took ok : Bool) → Took took ok → Follows (MakesAt (blocks_under x)) (Row.writes r.held.label off bytes ∷ []) (Write n bytes took ok ∷ [])
          put_follows took true took_it = goes_on {c = Row.writes r.held.label off bytes} {e = Write n bytes took true} (at_block, refl, took_it) refl refl ended
          put_follows took false took_it = fails {c = Row.writes r.held.label off bytes} {e = Write n bytes took false} (at_block, refl, took_it) refl

          put_done : Result
          put_done =
              let one = one_event (Writes n bytes) (worked a) es (subst (λ (z : Call). Makes (z ∷ []) (worked a) es) writes_call its_call) in
              let took = one.2.0 in
              let wrote : Event = Write n bytes took (worked a) in
              let m1 : Machine = with_object m r.held.label (Objects.raw (raw_written off bytes took r.raw)) in
              let area : AreDistinct r.slot.blocks = subst (λ (o : Option (ℕ × List ℕ)). IfSome o (λ z. AreDistinct z.1)) (ap (λ (o : Option Descriptor). area_named o x.areas) oldest ∙ ap (λ (o : Option Area). area_of_grant d.grant o) r.kept) distinct in
              block_done wrote (one.1 ∙ ap (λ (z : Event). z ∷ []) one.2.2) m1 (Row.writes r.held.label off bytes)
              (ap (λ i. transferred m t i (end_of wrote) (raw_numbered m t.vsa)) on.fits.moved
              ∙ put_is m t k.ring.moved (end_of wrote) r.held r.raw r.numbered r.object puts r.there
              ∙ ap (λ i. with_object m r.held.label (Objects.raw (raw_written (i + k.ring.moved) bytes took r.raw))) is.off)
              (ap (λ i. transfer_call m t i) on.fits.moved ∙ put_call m t k.ring.moved (end_of wrote) r.held r.raw r.numbered r.object puts ∙ ap (λ i. Row.writes r.held.label (i + k.ring.moved) bytes) is.off)
              (subst (λ (z : Space). Holds (called x (wrote ∷ []) m1 z)) (sym same_memory)
              (put_holds x on.holds in_base size sited r.held.label r.raw r.held r.slot off n bytes took (worked a) r.there r.object r.placed area near refl))
              (at_other m r.held.label v (Objects.raw (raw_written off bytes took r.raw)) not_area ∙ on.there) refl
              (put_follows took (worked a) one.2.1)
              (logs_beside_raw x size r.held.label r.raw r.slot n bytes took (worked a) on.holds sited in_base (ap (λ (o : Option Held). option_map (λ z. z.object) o) r.there ∙ ap (λ (o : Object). Some o) r.object) r.placed
              (Contains-get_or r.slot.blocks off 0 near))

        -- From the area to the buffer.
        module _ (gets : t.put ≡ false) where
          reads_call : block_call d k.ring.moved n x.tables.memory ≡ Reads n
          reads_call = ap (λ z. call_by z n (buffered d k.ring.moved x.tables.memory)) (is.does ∙ ap (λ b. if b then vic.Write else vic.Read) gets)

          read_left : LeavesBlock vic.Read (worked a) d.buf (d.from + 512 * k.ring.moved) told n x.tables.memory memory
          read_left = subst (λ z. LeavesBlock z (worked a) d.buf (d.from + 512 * k.ring.moved) told n x.tables.memory memory) (is.does ∙ ap (λ b. if b then vic.Write else vic.Read) gets) left

          abbrev buf : ItsBuffer x d t
          buf = its_buffer x on.holds d t is

          not_buffer : bytes_eq t.buffer v ≡ false
          not_buffer = labels_apart m t.buffer v buf.held on.held buf.there on.there (λ same. buffer_is_no_card buf.buffer card (sym buf.object ∙ same ∙ on.object))
            where
              buffer_is_no_card : (z : Buffer) (s : Vsic) → Objects.buffer z ≡ Objects.vsic s → ⊥
              buffer_is_no_card z s same = cc (same)

          get_calls : (ev : Event) → transfer_call m t card.queue.moved ≡ Row.reads r.held.label off
          get_calls ev = ap (λ i. transfer_call m t i) on.fits.moved ∙ get_call m t k.ring.moved (end_of ev) r.held r.raw r.numbered r.object gets ∙ ap (λ i. Row.reads r.held.label (i + k.ring.moved)) is.off

          no_write : (ok : Bool) → LogsAtFronts x (Read n ok ∷ [])
          no_write ok = logs_left x (Read n ok ∷ []) on.holds in_base (λ l s g placed log. tt)

          got_so : (ok : Bool) → worked a ≡ ok → es ≡ Read n ok ∷ [] → LeavesBlock vic.Read ok d.buf (d.from + 512 * k.ring.moved) told n x.tables.memory memory → Result
          got_so true well came leaves =
              let got : Got told n (piece_of buf.buffer) (d.from + 512 * k.ring.moved) x.tables.memory memory = subst (λ (o : Option Piece). MatchOption o ⊥ (λ p. Got told n p (d.from + 512 * k.ring.moved) x.tables.memory memory)) buf.place leaves in
              let from : d.from + 512 * k.ring.moved ≡ 512 * k.ring.moved = let none = is.from in omega (arith, none) in
              let bytes = slice_index_or r.raw.content off [] in
              let honest : got.bytes ≡ bytes = got.honest.told (after x.history (Read n true ∷ [])) (is_told ∙ ap (λ (zs : List Event). Some (after x.history zs)) came) ∙ sym (r.fits.content off near) in
              let size_is : length bytes ≡ 512 = ap (λ (bs : List ℕ). length bs) (sym honest) ∙ got.whole in
              let wrote : Wrote x.tables.memory memory (piece_of buf.buffer) (512 * k.ring.moved) bytes =
              subst (λ (bs : List ℕ). Wrote x.tables.memory memory (piece_of buf.buffer) (512 * k.ring.moved) bs) honest (subst (λ i. Wrote x.tables.memory memory (piece_of buf.buffer) i got.bytes) from got.wrote) in
              let has = room x on.holds d t is k.ring.moved can in
              let m1 : Machine = with_object m t.buffer (Objects.buffer (with_written buf.buffer (512 * k.ring.moved) bytes)) in
              block_done (Read n true) came m1 (Row.reads r.held.label off)
              (ap (λ i. transferred m t i (end_of (Read n true)) (raw_numbered m t.vsa)) on.fits.moved
              ∙ get_is m t k.ring.moved (end_of (Read n true)) r.held r.raw r.numbered r.object gets refl buf.buffer buf.held buf.there buf.object
              ∙ ap (λ i. with_object m t.buffer (Objects.buffer (with_written buf.buffer (512 * k.ring.moved) (slice_index_or r.raw.content (i + k.ring.moved) [])))) is.off)
              (get_calls (Read n true))
              (got_holds x on.holds in_base n t.buffer buf.buffer buf.held (512 * k.ring.moved) bytes memory (omega (arith, has, size_is)) buf.there buf.object wrote)
              (at_other m t.buffer v (Objects.buffer (with_written buf.buffer (512 * k.ring.moved) bytes)) not_buffer ∙ on.there) (sym well)
              (goes_on {c = Row.reads r.held.label off} {e = Read n true} at_block refl refl ended) (no_write true)
          got_so false bad came leaves =
              block_done (Read n false) came m (Row.reads r.held.label off)
              (ap (λ i. transferred m t i (end_of (Read n false)) (raw_numbered m t.vsa)) on.fits.moved ∙ get_fails m t k.ring.moved (end_of (Read n false)) r.held r.raw r.numbered r.object gets refl)
              (get_calls (Read n false))
              (subst (λ (z : Space). Holds (called x (Read n false ∷ []) m z)) (sym leaves) (read_holds x on.holds in_base n false)) on.there (sym bad)
              (fails {c = Row.reads r.held.label off} {e = Read n false} at_block refl) (no_write false)

          get_done : Result
          get_done =
              let one = one_event (Reads n) (worked a) es (subst (λ (z : Call). Makes (z ∷ []) (worked a) es) reads_call its_call) in
              got_so (worked a) refl (one.1 ∙ ap (λ (z : Event). z ∷ []) one.2) read_left

        transferred_so : Result
        transferred_so = by_test (λ b. t.put ≡ b → Result) t.put (λ yes q. put_done q) (λ no q. get_done q) refl

      -- the tests before the block, in their order
      by_tests : its_due ≡ due_by_tests (is_bound m card t.vsa) (is_over_burst card.pace 512) (may_pass card.pace x.now 512) n → Result
      by_tests y = by_test (λ b. is_bound m card t.vsa ≡ b → Result) (is_bound m card t.vsa)
          (λ yes bound.
          let gated_so : (z : Move) → gated m v card (transfer t) js true tried_move ≡ z → gated m v card (transfer t) js (is_bound m card t.vsa) tried_move ≡ z = λ z is_z. ap (λ b. gated m v card (transfer t) js b tried_move) bound ∙ is_z in
          let due_so = y ∙ ap (λ b. due_by_tests b (is_over_burst card.pace 512) (may_pass card.pace x.now 512) n) bound in
          by_test (λ b. is_over_burst card.pace 512 ≡ b → Result) (is_over_burst card.pace 512)
          (λ yes over. ends_early outcome.OverBurst (due_so ∙ ap (λ b. due_by_tests true b (may_pass card.pace x.now 512) n) over) (gated_so (ends m v card (transfer t) js outcome.OverBurst []) (gate_over m v card (transfer t) js tried_move over)))
          (λ no within.
          let due_then = due_so ∙ ap (λ b. due_by_tests true b (may_pass card.pace x.now 512) n) within in
          by_test (λ b. may_pass card.pace x.now 512 ≡ b → Result) (may_pass card.pace x.now 512)
          (λ yes may. transferred_so may (due_is ∙ due_then ∙ ap (λ b. due_by_tests true false b n) may)
          (row_of (transfer t ∷ js) jobs ∙ gated_so tried_move (gate_opens m v card (transfer t) js tried_move within (ap (λ i. may_pass card.pace i 512) on.holds.now ∙ may))))
          (λ no not_yet. waits (due_then ∙ ap (λ b. due_by_tests true false b n) not_yet)
          (gated_so (moves m said.Held []) (gate_waits m v card (transfer t) js tried_move within (ap (λ i. may_pass card.pace i 512) on.holds.now ∙ not_yet)))) refl) refl)
          (λ no unbound.
          ends_early outcome.NoGrant (y ∙ ap (λ b. due_by_tests b (is_over_burst card.pace 512) (may_pass card.pace x.now 512) n) unbound)
          (ap (λ b. gated m v card (transfer t) js b tried_move) unbound ∙ gate_unbound m v card (transfer t) js tried_move)) refl

    gone_so : IsGone x d t → Result
    gone_so gone =
        let none = due_gone x on.holds k card on.fits.bound on.fits.pace d t is gone in
        ends_early outcome.NoGrant none.0 (ap (λ b. gated m v card (transfer t) js b tried_move) none.1 ∙ gate_unbound m v card (transfer t) js tried_move)

    transfer_done : Result
    transfer_done = ⊎_elim (λ r. by_tests r (due_reached x on.holds k card on.fits.bound on.fits.pace d t is r (lt r))) gone_so (reached x on.holds d t is)

  -- a card on which no log is open
  by_posted : k.log ≡ None → (ds : List Descriptor) (js : List Job) → k.ring.posted ≡ ds → card.queue.posted ≡ js → Each (IsJob x k.log) ds js → Result
  by_posted none [] [] posted jobs each = idle posted jobs
  by_posted none (d ∷ ds) (flush ∷ js) posted jobs each = flushed d ds js posted jobs none each.0
  by_posted none (d ∷ ds) (transfer t ∷ js) posted jobs each = transfer_done d ds t js posted jobs none each.0
  by_posted none (d ∷ ds) (phase p ∷ js) posted jobs each = absurd (subst (λ (log : Option OpenChain). IsPhase log p d) none each.0)
  by_posted none [] (j ∷ js) posted jobs each = absurd each
  by_posted none (d ∷ ds) [] posted jobs each = absurd each

  -- a card on which one is open has the descriptor of its phase, or none
  pub carries : Carries x row es a memory cards doors
  carries = by k.log refl
    where
      none_there : (js : List Job) → Each (IsJob x k.log) [] js → js ≡ []
      none_there [] each = refl
      none_there (j ∷ js) each = absurd each

      by : (log : Option OpenChain) → k.log ≡ log → Result
      by None none = by_posted none k.ring.posted card.queue.posted refl refl on.fits.posted
      by (Some q) log = by_ring k.ring.posted refl
        where
          by_ring : (ds : List Descriptor) → k.ring.posted ≡ ds → Result
          by_ring [] none = idle none (none_there card.queue.posted (subst (λ (ds : List Descriptor). Each (IsJob x k.log) ds card.queue.posted) none on.fits.posted))
          by_ring (d ∷ ds) posted = phase_done x v c k card on told es a memory cards doors w is_told size sited in_base q log d (ap (λ (zs : List Descriptor). slice_get zs 0) posted)
