-- A network card whose oldest descriptor of a ring has ended, with what it passed of its pace, and rung.
use Rattle.std.proofs.Common.{◌≡◌, ℕ, ◌+◌, List, [], ◌∷◌, ◌++◌, drop, refl, sym, ◌∙◌, ap, subst, arith}
use Rattle.std.specs.Prelude.{Option}
use Rattle.std.specs.List.{flat_map}
use Rattle.ark_base.specs.declared.kind.Outcome.TheVariants as outcome
use Rattle.ark_caps.specs.declared.capability.Capability.{Capability}
use Rattle.ark_vic.specs.Queue.{finished, completion_of}
use Rattle.ark_vic.specs.declared.descriptor.Descriptor.{Descriptor}
use Rattle.ark_vic.specs.declared.door.Bell.TheVariants as bell
use Rattle.ark_vic.specs.declared.door.Counts.{Counts}
use Rattle.ark_machine.specs.Bytes.{Frames}
use Rattle.ark_machine.specs.Buffers.{place_has}
use Rattle.ark_machine.specs.Objects
use Rattle.ark_machine.specs.Objects.{Vnic, Place, Paced, named, place_frames}
use Rattle.ark_machine.specs.Machine.{Machine, with_object}
use Rattle.ark_machine.specs.Network.{rx_ending, rx_passed}
use Rattle.ark_machine.specs.Rates.{rung}
use Rattle.ark_held.specs.Around.{Around, Each, Both}
use Rattle.ark_held.specs.Cards.{IsPaced}
use Rattle.ark_held.specs.Held.{Holds}
use Rattle.ark_held.specs.Kept.{NetKept, PaceKept}
use Rattle.ark_held.specs.Network.{IsReceiving, IsReceived}
use Rattle.ark_held.specs.Ringing.{Sets, RingsBell}
use Rattle.ark_held.specs.Totals.{bit, covers, object_covers, total, uses}
use Rattle.ark_held.proofs.Devising.{with_devices}
use Rattle.ark_held.proofs.Lists.{each_more, total_last}
use Rattle.ark_held.proofs.Netting.{OnNet, NetStands, net_holds, still_watched, with_nets}
use Rattle.ark_held.proofs.Rung.{rung_holds}

-- a buffer that the application named takes no frame
more_frames : {A : Type 0} (us : List (Place × A)) (b : List ℕ) (a : A) → flat_map (λ u. place_frames u.0) (us ++ (named b, a) ∷ []) ≡ flat_map (λ u. place_frames u.0) us
more_frames [] b a = refl
more_frames (u ∷ us) b a = ap (λ (fs : List Frames). place_frames u.0 ++ fs) (more_frames us b a)

-- The oldest buffer that was posted to receive has a frame.
module _ (x : Around) (v : List ℕ) (c : Capability) (k : NetKept) (net : Vnic) (on : OnNet x v c k net) (d : Descriptor) (ds : List Descriptor) (b : List ℕ) (ps : List Place) (posted : k.rx.posted ≡ d ∷ ds) (places : net.rx.posted ≡ named b ∷ ps) (len : ℕ) (paced : Option PaceKept) (pace : Option Paced) (both : Both (IsPaced x) paced pace) where
  abbrev pub received_kept : NetKept
  received_kept = record k { rx = finished k.rx d outcome.Ok len; rx_pace = paced }

  abbrev pub received_net : Vnic
  received_net = rx_ending (named b) ps len (rx_passed pace net)

  abbrev pub received_machine : Machine
  received_machine = with_object x.machine v (Objects.vnic received_net)

  its : Each (IsReceiving x k.ports) (d ∷ ds) (named b ∷ ps)
  its = subst (λ (zs : List Place). Each (IsReceiving x k.ports) (d ∷ ds) zs) places (subst (λ (zs : List Descriptor). Each (IsReceiving x k.ports) zs net.rx.posted) posted on.fits.rx_posted)

  used : (l : List ℕ) → uses l (Objects.vnic received_net) ≡ uses l (Objects.vnic net)
  used l =
      let more = total_last (λ u. bit (place_has l u.0)) net.rx.unreaped (named b, len) in
      let had : total (λ p. bit (place_has l p)) net.rx.posted ≡ bit (place_has l (named b)) + total (λ p. bit (place_has l p)) ps = ap (λ (zs : List Place). total (λ p. bit (place_has l p)) zs) places in
      omega (arith, more, had)

  abbrev sending : List Frames
  sending = flat_map (λ p. place_frames p.0) net.tx.posted ++ flat_map (λ u. place_frames u.0) net.tx.unreaped

  same_frames : (j : ℕ) → object_covers j (Objects.vnic received_net) ≡ object_covers j (Objects.vnic net)
  same_frames j =
      ap (λ (fs : List Frames). total (λ f. bit (covers j f)) (flat_map place_frames ps ++ (fs ++ sending))) (more_frames net.rx.unreaped b len)
      ∙ ap (λ (zs : List Place). total (λ f. bit (covers j f)) (flat_map place_frames zs ++ (flat_map (λ u. place_frames u.0) net.rx.unreaped ++ sending))) (sym places)

  stands : NetStands x v received_kept received_net
  stands = record {
    rx_size = on.fits.rx_size;
    tx_size = on.fits.tx_size;
    rx_posted = subst (λ (zs : List Descriptor). Each (IsReceiving x k.ports) zs ps) (sym (ap (λ (zs : List Descriptor). drop 1 zs) posted)) its.1;
    rx_unreaped = each_more (IsReceived x k.ports) k.rx.unreaped net.rx.unreaped (completion_of d outcome.Ok len) (named b, len) on.fits.rx_unreaped (refl, its.0.1);
    rx_moved = refl;
    tx_posted = on.fits.tx_posted;
    tx_unreaped = on.fits.tx_unreaped;
    tx_moved = on.fits.tx_moved;
    rx_pace = both;
    tx_pace = on.fits.tx_pace;
    rx_door = on.fits.rx_door;
    tx_door = on.fits.tx_door;
    socketed = on.fits.socketed;
    sockets = on.fits.sockets;
  }

  pub receives_frame : (nets : ℕ → Option NetKept) (doors : ℕ → Option Counts) → Sets c.key received_kept x.tables.nets nets → RingsBell bell.Rx k.rx_door x.tables.doors doors
      → Holds (with_devices (with_nets x nets received_machine) x.tables.cards doors (rung received_machine net.rx_door bell.Rx))
  receives_frame nets doors sets rings =
      rung_holds (with_nets x nets received_machine) (net_holds x v c k net on received_net received_kept nets sets used same_frames stands) doors bell.Rx k.rx_door net.rx_door
      (still_watched x v c k net on received_net received_kept nets sets used same_frames stands k.rx_door net.rx_door on.fits.rx_door) rings
