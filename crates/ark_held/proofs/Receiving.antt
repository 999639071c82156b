-- A buffer that is posted to receive, and one that is taken back from the receive ring of a network card.
use Rattle.std.proofs.Common.{◌≡◌, ℕ, ◌+◌, ◌≤◌, Bool, true, false, List, [], ◌∷◌, ◌++◌, None, drop, refl, sym, ap, subst, arith, bytes_eq}
use Rattle.std.specs.Prelude.{Some, is_none}
use Rattle.std.specs.List.{flat_map}
use Rattle.ark_objects.specs.Held.{at as key_at, Changes}
use Rattle.ark_vic.specs.Queue.{Queue}
use Rattle.ark_vic.specs.declared.descriptor.Descriptor.{Descriptor}
use Rattle.ark_vic.specs.declared.descriptor.Completion.{Completion}
use Rattle.ark_machine.specs.Objects
use Rattle.ark_machine.specs.Objects.{Place, named, place_frames}
use Rattle.ark_machine.specs.Buffers.{place_has}
use Rattle.ark_machine.specs.Bytes.{Frames}
use Rattle.ark_held.specs.Totals.{bit, uses, total, covers, object_covers}
use Rattle.ark_held.specs.Stored.{place_kept}
use Rattle.ark_held.specs.Nets.{with_receiving, with_taken}
use Rattle.ark_held.specs.Around.{Around, Each}
use Rattle.ark_held.specs.Network.{IsReceiving, IsReceived}
use Rattle.ark_held.specs.Held.{Holds}
use Rattle.ark_held.specs.Beyond.{Beyond, around}
use Rattle.ark_held.specs.declared.app.App.{App}
use Rattle.ark_held.specs.declared.buffer.Buffer as kept
use Rattle.ark_held.specs.declared.network_card.NetworkCard.{NetworkCard}
use Rattle.ark_held.proofs.Lists.{each_more, name_same, some_same, total_last}
use Rattle.ark_held.proofs.NetRings.{HasNetAndBuffer, net_exchanged, lent_then, was_lent, posted_then, unreaped_then, moved_then, y}

at_most_one : (t : Bool) → bit t ≤ 1
at_most_one true = omega arith
at_most_one false = omega arith

-- a buffer that the application named takes no frame
more_frames : (ps : List Place) (b : List ℕ) → flat_map place_frames (ps ++ named b ∷ []) ≡ flat_map place_frames ps
more_frames [] b = refl
more_frames (p ∷ ps) b = ap (λ (fs : List Frames). place_frames p ++ fs) (more_frames ps b)

module _ (r : Beyond) (app app1 : App) (v b : List ℕ) (h : Holds (around r app)) (both : HasNetAndBuffer (around r app) v b) (one : NetworkCard) (here : key_at app.devices.nets.cards both.card.key ≡ Some one)
    (lent : kept.Buffer) (was : key_at app.store.buffers both.cap.key ≡ Some lent) (region : app1.store.region ≡ app.store.region) (labels : app1.labels ≡ app.labels) (cards : app1.devices.cards ≡ app.devices.cards) (doors : app1.devices.doors ≡ app.devices.doors) (rates : app1.devices.rates ≡ app.devices.rates) (areas : app1.areas ≡ app.areas) where
  -- A buffer is posted.
  module _ (right : is_none lent.buf ≡ false) (d : Descriptor) (nets : Changes app.devices.nets.cards app1.devices.nets.cards both.card.key (Some (with_receiving d one))) (buffers : Changes app.store.buffers app1.store.buffers both.cap.key (Some (record lent { buf = None }))) where
    abbrev pub ring : Queue
    ring = record one.vnic.rx { posted = one.vnic.rx.posted ++ d ∷ [] }

    abbrev pub more : Objects.Queue Place (Place × ℕ)
    more = record both.vnic.rx { posted = both.vnic.rx.posted ++ named b ∷ [] }

    -- the card has one use more of the buffer, and none of another
    uses_more : (k : List ℕ) → uses k (Objects.vnic (record both.vnic { rx = more })) ≡ uses k (Objects.vnic both.vnic) + bit (bytes_eq k b)
    uses_more k = let last = total_last (λ p. bit (place_has k p)) both.vnic.rx.posted (named b) in omega (arith, last)

    pub used : (k : List ℕ) → bytes_eq k b ≡ false → uses k (Objects.vnic (record both.vnic { rx = more })) ≡ uses k (Objects.vnic both.vnic)
    used k other = let all = uses_more k in let none : bit (bytes_eq k b) ≡ 0 = ap bit other in omega (arith, all, none)

    pub same_frames : (j : ℕ) → object_covers j (Objects.vnic both.vnic) ≡ object_covers j (Objects.vnic (record both.vnic { rx = more }))
    same_frames j = ap (λ (fs : List Frames). total (λ f. bit (covers j f)) (fs ++ (flat_map (λ u. place_frames u.0) both.vnic.rx.unreaped ++ (flat_map (λ p. place_frames p.0) both.vnic.tx.posted ++ flat_map (λ u. place_frames u.0) both.vnic.tx.unreaped))))
        (sym (more_frames both.vnic.rx.posted b))

    abbrev pub posted_around : Around
    posted_around = y r app app1 v b h both one here lent was ring more None nets buffers region labels cards doors rates areas used same_frames

    pub receives : IsReceiving posted_around None d (named b) → Holds posted_around
    receives is = net_exchanged r app app1 v b h both one here lent was ring more None nets buffers region labels cards doors rates areas used same_frames refl
        (each_more (IsReceiving posted_around None) one.vnic.rx.posted both.vnic.rx.posted d (named b) (posted_then r app app1 v b h both one here lent was ring more None nets buffers region labels cards doors rates areas used same_frames) is)
        (unreaped_then r app app1 v b h both one here lent was ring more None nets buffers region labels cards doors rates areas used same_frames)
        (moved_then r app app1 v b h both one here lent was ring more None nets buffers region labels cards doors rates areas used same_frames)
        (λ p is. absurd (cc (is)))
        (let then_count = lent_then r app app1 v b h both one here lent was ring more None nets buffers region labels cards doors rates areas used same_frames b in
        let had = was_lent r app app1 v b h both one here lent was ring more None nets buffers region labels cards doors rates areas used same_frames in
        let gone : bit (is_none lent.buf) ≡ 0 = ap bit right in
        let all = uses_more b in
        let its : bit (bytes_eq b b) ≡ 1 = ap bit (name_same b b refl) in
        omega (arith, then_count, had, gone, all, its))

  -- The oldest completion is taken.
  module _ (c : Completion) (cs : List Completion) (first : one.vnic.rx.unreaped ≡ c ∷ cs) (len : ℕ) (us : List (Place × ℕ)) (oldest : both.vnic.rx.unreaped ≡ (named b, len) ∷ us)
      (nets : Changes app.devices.nets.cards app1.devices.nets.cards both.card.key (Some (with_taken one))) (buffers : Changes app.store.buffers app1.store.buffers both.cap.key (Some (record lent { buf = Some (place_kept lent) }))) where
    abbrev pub rest : Queue
    rest = record one.vnic.rx { unreaped = drop 1 one.vnic.rx.unreaped }

    abbrev pub less : Objects.Queue Place (Place × ℕ)
    less = record both.vnic.rx { unreaped = us }

    -- the card had one use more of the buffer, and none of another
    uses_less : (k : List ℕ) → uses k (Objects.vnic both.vnic) ≡ uses k (Objects.vnic (record both.vnic { rx = less })) + bit (bytes_eq k b)
    uses_less k =
        let had : total (λ u. bit (place_has k u.0)) both.vnic.rx.unreaped ≡ bit (bytes_eq k b) + total (λ u. bit (place_has k u.0)) us = ap (λ (zs : List (Place × ℕ)). total (λ u. bit (place_has k u.0)) zs) oldest in
        omega (arith, had)

    pub used_less : (k : List ℕ) → bytes_eq k b ≡ false → uses k (Objects.vnic (record both.vnic { rx = less })) ≡ uses k (Objects.vnic both.vnic)
    used_less k other = let all = uses_less k in let none : bit (bytes_eq k b) ≡ 0 = ap bit other in omega (arith, all, none)

    pub frames_left : (j : ℕ) → object_covers j (Objects.vnic both.vnic) ≡ object_covers j (Objects.vnic (record both.vnic { rx = less }))
    frames_left j = ap (λ (zs : List (Place × ℕ)). object_covers j (Objects.vnic (record both.vnic { rx = record both.vnic.rx { unreaped = zs } }))) oldest

    abbrev pub taken_around : Around
    taken_around = y r app app1 v b h both one here lent was rest less (Some (place_kept lent)) nets buffers region labels cards doors rates areas used_less frames_left

    rest_then : Each (IsReceived taken_around None) (drop 1 one.vnic.rx.unreaped) us
    rest_then =
        let all = unreaped_then r app app1 v b h both one here lent was rest less (Some (place_kept lent)) nets buffers region labels cards doors rates areas used_less frames_left in
        let split : Each (IsReceived taken_around None) (c ∷ cs) ((named b, len) ∷ us) =
        subst (λ (zs : List (Place × ℕ)). Each (IsReceived taken_around None) (c ∷ cs) zs) oldest (subst (λ (zs : List Completion). Each (IsReceived taken_around None) zs both.vnic.rx.unreaped) first all) in
        subst (λ (zs : List Completion). Each (IsReceived taken_around None) (drop 1 zs) us) (sym first) split.1

    pub takes_back : Holds taken_around
    takes_back = net_exchanged r app app1 v b h both one here lent was rest less (Some (place_kept lent)) nets buffers region labels cards doors rates areas used_less frames_left refl
        (posted_then r app app1 v b h both one here lent was rest less (Some (place_kept lent)) nets buffers region labels cards doors rates areas used_less frames_left)
        rest_then
        (moved_then r app app1 v b h both one here lent was rest less (Some (place_kept lent)) nets buffers region labels cards doors rates areas used_less frames_left)
        (λ p is. some_same (Some (place_kept lent)) p (place_kept lent) is refl)
        (let then_count = lent_then r app app1 v b h both one here lent was rest less (Some (place_kept lent)) nets buffers region labels cards doors rates areas used_less frames_left b in
        let had = was_lent r app app1 v b h both one here lent was rest less (Some (place_kept lent)) nets buffers region labels cards doors rates areas used_less frames_left in
        let most = at_most_one (is_none lent.buf) in
        let fewer = uses_less b in
        let its : bit (bytes_eq b b) ≡ 1 = ap bit (name_same b b refl) in
        omega (arith, then_count, had, most, fewer, its))
