-- Each buffer that an application holds has a frame at least.
use Rattle.std.proofs.Common.{ℕ, ◌<◌, List, [], ◌∷◌, ◌++◌, length, sym, subst, arith}
use Rattle.std.specs.Prelude.{Option, Some, None, map}
use Rattle.std.specs.List.{flat_map}
use Rattle.std.proofs.lemmas.Bool.Decides.{nat_tests}
use Rattle.ark_caps.specs.declared.capability.Capability.{Capability}
use Rattle.ark_base.specs.declared.kind.Outcome.{Outcome}
use Rattle.ark_region.specs.Frames.{Piece, frames_of}
use Rattle.ark_vic.specs.declared.descriptor.Descriptor.{Descriptor}
use Rattle.ark_vic.specs.declared.descriptor.Completion.{Completion}
use Rattle.ark_entry.specs.Entry.{entry_blocks}
use Rattle.ark_entry.proofs.Readings.{some_block}
use Rattle.ark_caladan.specs.Chain as chain
use Rattle.ark_caladan.specs.Chain.{Log, Opened}
use Rattle.ark_log.specs.declared.command.Command.{Command}
use Rattle.ark_log.specs.declared.command.Command.TheVariants.{Append, Trim, Pop}
use Rattle.ark_log.specs.declared.command.Waiting.{Waiting}
use Rattle.ark_running.specs.Buffers.{AreRoomsOf, buffers_by}
use Rattle.ark_machine.specs.Objects
use Rattle.ark_machine.specs.Objects.{Object, Place, named, taken, object_frames, opened_frames, place_frames}
use Rattle.ark_machine.specs.Machine.{Held, live_frames}
use Rattle.ark_machine.specs.Places.{AreSized}
use Rattle.ark_held.specs.Words.{Labels}
use Rattle.ark_held.specs.Around.{Around, Each}
use Rattle.ark_held.specs.Areas.{IsOpenedAs}
use Rattle.ark_held.specs.Network.{IsFramePlace, IsReceiving, IsReceived, IsSending, IsSent}
use Rattle.ark_held.specs.Held.{IsObjectOf, AllMatch, Holds}
use Rattle.ark_held.specs.Beyond.{Beyond, around}
use Rattle.ark_held.specs.declared.app.App.{App}

pub frames_some : (n : ℕ) → 0 < n → 0 < frames_of n
frames_some n lt = grind (arith, nat_tests, lt)

sized_join : (xs ys : List (ℕ × ℕ)) → AreSized xs → AreSized ys → AreSized (xs ++ ys)
sized_join [] ys a b = b
sized_join (z ∷ zs) ys a b = (a.0, sized_join zs ys a.1 b)

module _ (r : Beyond) (app : App) where
  abbrev x : Around
  x = around r app

  -- the header's frame, and those of commands
  sized_rooms : (ws : List Waiting) (ms : List chain.Waiting) → AreRoomsOf ws ms → AreSized (flat_map (λ (m : chain.Waiting). m.room) ms)
  sized_rooms [] [] are = tt
  sized_rooms (w ∷ ws) (m ∷ ms) are = sized_join m.room (flat_map (λ (z : chain.Waiting). z.room) ms) (subst AreSized (sym are.0) (by w.command)) (sized_rooms ws ms are.1)
    where
      by : (c : Command) → AreSized (map (λ b. (b.start, entry_blocks w.len)) (buffers_by c w))
      by (Append n) = (some_block w.len, tt)
      by (Trim n) = tt
      by (Pop n) = (some_block w.len, tt)
  sized_rooms [] (m ∷ ms) are = absurd are
  sized_rooms (w ∷ ws) [] are = absurd are

  sized_opened : (grant : ℕ) (blocks : List ℕ) (g : Log) (o : Option Opened) → IsOpenedAs x grant blocks g o → AreSized (opened_frames o)
  sized_opened grant blocks g None is = tt
  sized_opened grant blocks g (Some o) is = (omega arith, sized_rooms is.chain.waiting o.waiting is.runs.is.rooms)

  -- the buffers that network cards took

  sized_place : (ports : Option ℕ) (tag : ℕ) (given : Option Piece) (p : Place) → IsFramePlace x ports tag given p → AreSized (place_frames p)
  sized_place ports tag given (named b) is = tt
  sized_place ports tag given (taken b) is = let some = frames_some (length b.bytes) is.1 in (omega (arith, some), tt)

  sized_received : (ports : Option ℕ) (c : Completion) (u : Place × ℕ) → IsReceived x ports c u → AreSized (place_frames u.0)
  sized_received ports c (p, len) is = sized_place ports c.tag c.buf p is.1

  sized_sending : (ports : Option ℕ) (d : Descriptor) (p : Place × ℕ) → IsSending x ports d p → AreSized (place_frames p.0)
  sized_sending ports d (p, len) is = sized_place ports d.tag d.buf p is.2

  sized_sent : (ports : Option ℕ) (c : Completion) (u : Place × Outcome) → IsSent x ports c u → AreSized (place_frames u.0)
  sized_sent ports c (p, o) is = sized_place ports c.tag c.buf p is.1

  sized_each : {X Y : Type 0} (P : X → Y → Type 0) (f : Y → List (ℕ × ℕ)) → ((a : X) (b : Y) → P a b → AreSized (f b)) → (xs : List X) (ys : List Y) → Each P xs ys → AreSized (flat_map f ys)
  sized_each P f step [] [] all = tt
  sized_each P f step (a ∷ xs) (b ∷ ys) all = sized_join (f b) (flat_map f ys) (step a b all.0) (sized_each P f step xs ys all.1)
  sized_each P f step [] (b ∷ ys) all = absurd all
  sized_each P f step (a ∷ xs) [] all = absurd all

  sized_object : (l : List ℕ) (c : Capability) (o : Object) → IsObjectOf x l c o → AreSized (object_frames o)
  sized_object l c (Objects.raw z) f = tt
  sized_object l c (Objects.log z) f = sized_opened c.grant f.slot.blocks z z.opened f.opened
  sized_object l c (Objects.vsic z) f = tt
  sized_object l c (Objects.vnic z) f =
      sized_join (flat_map place_frames z.rx.posted) _ (sized_each (IsReceiving x f.net.ports) place_frames (λ d p is. sized_place f.net.ports d.tag d.buf p is.1) f.net.rx.posted z.rx.posted f.rx_posted)
      (sized_join (flat_map (λ u. place_frames u.0) z.rx.unreaped) _ (sized_each (IsReceived x f.net.ports) (λ u. place_frames u.0) (sized_received f.net.ports) f.net.rx.unreaped z.rx.unreaped f.rx_unreaped)
      (sized_join (flat_map (λ p. place_frames p.0) z.tx.posted) _ (sized_each (IsSending x f.net.ports) (λ p. place_frames p.0) (sized_sending f.net.ports) f.net.tx.posted z.tx.posted f.tx_posted)
      (sized_each (IsSent x f.net.ports) (λ u. place_frames u.0) (sized_sent f.net.ports) f.net.tx.unreaped z.tx.unreaped f.tx_unreaped)))
  sized_object l c (Objects.filter z y) f = tt
  sized_object l c (Objects.door z) f = tt
  sized_object l c (Objects.rate z y) f = tt
  sized_object l c (Objects.buffer b) f = let some = frames_some (length b.bytes) f.some in (omega (arith, some), tt)
  sized_object l c (Objects.socket z) f = tt

  sized_all : (ps : Labels) (hs : List Held) → AllMatch x ps hs → AreSized (flat_map (λ h. object_frames h.object) hs)
  sized_all [] [] all = tt
  sized_all (p ∷ ps) (h ∷ hs) all = sized_join (object_frames h.object) (flat_map (λ g. object_frames g.object) hs) (sized_object p.0 p.1 h.object all.0.object) (sized_all ps hs all.1)
  sized_all [] (h ∷ hs) all = absurd all
  sized_all (p ∷ ps) [] all = absurd all

  pub sized : Holds x → AreSized (live_frames x.machine)
  sized h = sized_all x.labels x.machine.held h.held
