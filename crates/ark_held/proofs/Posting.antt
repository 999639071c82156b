-- A transfer that is posted: the card has a descriptor more, which has the buffer's right.
use Rattle.std.proofs.Common.{◌≡◌, ℕ, ◌+◌, false, List, [], ◌∷◌, ◌++◌, refl, ap, arith, bytes_eq}
use Rattle.std.specs.Prelude.{Some, None, is_none}
use Rattle.ark_objects.specs.Held.{at as key_at, Changes}
use Rattle.ark_vic.specs.Queue.{Queue}
use Rattle.ark_vic.specs.declared.descriptor.Descriptor.{Descriptor}
use Rattle.ark_base.specs.declared.kind.Outcome.{Outcome}
use Rattle.ark_machine.specs.Objects
use Rattle.ark_machine.specs.Objects.{Job, Transfer, transfer}
use Rattle.ark_machine.specs.Buffers.{job_has}
use Rattle.ark_held.specs.Totals.{bit, uses}
use Rattle.ark_held.specs.Rings.{with_posted}
use Rattle.ark_held.specs.Around.{Around}
use Rattle.ark_held.specs.Cards.{IsJob}
use Rattle.ark_held.specs.Held.{Holds}
use Rattle.ark_held.specs.Beyond.{Beyond, around}
use Rattle.ark_held.specs.declared.app.App.{App}
use Rattle.ark_held.specs.declared.buffer.Buffer as kept
use Rattle.ark_held.specs.declared.card.StorageCard.{StorageCard}
use Rattle.ark_held.proofs.Lists.{each_more, name_same, total_last}
use Rattle.ark_held.proofs.Exchanging.{HasBoth, exchanged, lent_then, was_lent, posted_then, unreaped_then, moved_then, y}

module _ (r : Beyond) (app app1 : App) (v b : List ℕ) (h : Holds (around r app)) (both : HasBoth (around r app) v b) (t : Transfer) (to : t.buffer ≡ b) (one : StorageCard) (here : key_at app.devices.cards both.card.key ≡ Some one) (shut : one.log ≡ None)
    (lent : kept.Buffer) (was : key_at app.store.buffers both.cap.key ≡ Some lent) (right : is_none lent.buf ≡ false)
    (d : Descriptor) (cards : Changes app.devices.cards app1.devices.cards both.card.key (Some (with_posted d one))) (buffers : Changes app.store.buffers app1.store.buffers both.cap.key (Some (record lent { buf = None })))
    (region : app1.store.region ≡ app.store.region) (labels : app1.labels ≡ app.labels) (doors : app1.devices.doors ≡ app.devices.doors) (rates : app1.devices.rates ≡ app.devices.rates) (nets : app1.devices.nets ≡ app.devices.nets) (areas : app1.areas ≡ app.areas) where
  abbrev pub ring : Queue
  ring = record one.vsic.ring { posted = one.vsic.ring.posted ++ d ∷ [] }

  abbrev pub queue : Objects.Queue Job (Job × Outcome)
  queue = record both.vsic.queue { posted = both.vsic.queue.posted ++ transfer t ∷ [] }

  -- the card has one use more of the buffer, and none of another
  uses_more : (k : List ℕ) → uses k (Objects.vsic (record both.vsic { queue = queue })) ≡ uses k (Objects.vsic both.vsic) + bit (bytes_eq k b)
  uses_more k =
      let last = total_last (λ j. bit (job_has k j)) both.vsic.queue.posted (transfer t) in
      let its : bit (bytes_eq k t.buffer) ≡ bit (bytes_eq k b) = ap (λ z. bit (bytes_eq k z)) to in
      omega (arith, last, its)

  pub used : (k : List ℕ) → bytes_eq k b ≡ false → uses k (Objects.vsic (record both.vsic { queue = queue })) ≡ uses k (Objects.vsic both.vsic)
  used k other = let more = uses_more k in let none : bit (bytes_eq k b) ≡ 0 = ap bit other in omega (arith, more, none)

  abbrev pub then : Around
  then = y r app app1 v b h both one here shut lent was ring queue None cards buffers region labels doors rates nets areas used

  pub posted : IsJob then one.log d (transfer t) → Holds then
  posted job = exchanged r app app1 v b h both one here shut lent was ring queue None cards buffers region labels doors rates nets areas used refl
      (each_more (IsJob then one.log) one.vsic.ring.posted both.vsic.queue.posted d (transfer t) (posted_then r app app1 v b h both one here shut lent was ring queue None cards buffers region labels doors rates nets areas used) job)
      (unreaped_then r app app1 v b h both one here shut lent was ring queue None cards buffers region labels doors rates nets areas used)
      (moved_then r app app1 v b h both one here shut lent was ring queue None cards buffers region labels doors rates nets areas used)
      (λ p is. absurd (cc (is)))
      (let then_count = lent_then r app app1 v b h both one here shut lent was ring queue None cards buffers region labels doors rates nets areas used b in
      let had = was_lent r app app1 v b h both one here shut lent was ring queue None cards buffers region labels doors rates nets areas used in
      let gone : bit (is_none lent.buf) ≡ 0 = ap bit right in
      let more = uses_more b in
      let its : bit (bytes_eq b b) ≡ 1 = ap bit (name_same b b refl) in
      omega (arith, then_count, had, gone, more, its))
