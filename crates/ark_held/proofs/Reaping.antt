-- A transfer that is reaped: the card has a completion less, and the buffer has its right again.
use Rattle.std.proofs.Common.{◌≡◌, ℕ, ◌+◌, ◌≤◌, Bool, true, false, List, ◌∷◌, None, drop, refl, ap, sym, subst, arith, bytes_eq}
use Rattle.std.specs.Prelude.{Some, is_none}
use Rattle.ark_objects.specs.Held.{at as key_at, Changes}
use Rattle.ark_vic.specs.Queue.{Queue}
use Rattle.ark_vic.specs.declared.descriptor.Completion.{Completion}
use Rattle.ark_base.specs.declared.kind.Outcome.{Outcome}
use Rattle.ark_machine.specs.Objects
use Rattle.ark_machine.specs.Objects.{Job, Transfer, transfer}
use Rattle.ark_machine.specs.Buffers.{job_has}
use Rattle.ark_held.specs.Totals.{bit, uses, total}
use Rattle.ark_held.specs.Stored.{place_kept}
use Rattle.ark_held.specs.Rings.{with_reaped}
use Rattle.ark_held.specs.Around.{Around, Each}
use Rattle.ark_held.specs.Cards.{IsEnded}
use Rattle.ark_held.specs.Held.{Holds}
use Rattle.ark_held.specs.Beyond.{Beyond, around}
use Rattle.ark_held.specs.declared.app.App.{App}
use Rattle.ark_held.specs.declared.buffer.Buffer as kept
use Rattle.ark_held.specs.declared.card.StorageCard.{StorageCard}
use Rattle.ark_held.proofs.Lists.{name_same, some_same}
use Rattle.ark_held.proofs.Exchanging.{HasBoth, exchanged, lent_then, was_lent, posted_then, unreaped_then, moved_then, y}

module _ (r : Beyond) (app app1 : App) (v b : List ℕ) (h : Holds (around r app)) (both : HasBoth (around r app) v b) (t : Transfer) (to : t.buffer ≡ b) (one : StorageCard) (here : key_at app.devices.cards both.card.key ≡ Some one) (shut : one.log ≡ None)
    (lent : kept.Buffer) (was : key_at app.store.buffers both.cap.key ≡ Some lent)
    (c : Completion) (cs : List Completion) (first : one.vsic.ring.unreaped ≡ c ∷ cs) (o : Outcome) (us : List (Job × Outcome)) (oldest : both.vsic.queue.unreaped ≡ (transfer t, o) ∷ us)
    (cards : Changes app.devices.cards app1.devices.cards both.card.key (Some (with_reaped one))) (buffers : Changes app.store.buffers app1.store.buffers both.cap.key (Some (record lent { buf = Some (place_kept lent) })))
    (region : app1.store.region ≡ app.store.region) (labels : app1.labels ≡ app.labels) (doors : app1.devices.doors ≡ app.devices.doors) (rates : app1.devices.rates ≡ app.devices.rates) (nets : app1.devices.nets ≡ app.devices.nets) (areas : app1.areas ≡ app.areas) where
  abbrev pub ring : Queue
  ring = record one.vsic.ring { unreaped = drop 1 one.vsic.ring.unreaped }

  abbrev pub queue : Objects.Queue Job (Job × Outcome)
  queue = record both.vsic.queue { unreaped = us }

  -- the card had one use more of the buffer, and none of another
  uses_less : (k : List ℕ) → uses k (Objects.vsic both.vsic) ≡ uses k (Objects.vsic (record both.vsic { queue = queue })) + bit (bytes_eq k b)
  uses_less k =
      let had : total (λ u. bit (job_has k u.0)) both.vsic.queue.unreaped ≡ bit (bytes_eq k t.buffer) + total (λ u. bit (job_has k u.0)) us = ap (λ (zs : List (Job × Outcome)). total (λ u. bit (job_has k u.0)) zs) oldest in
      let its : bit (bytes_eq k t.buffer) ≡ bit (bytes_eq k b) = ap (λ z. bit (bytes_eq k z)) to in
      omega (arith, had, its)

  pub used : (k : List ℕ) → bytes_eq k b ≡ false → uses k (Objects.vsic (record both.vsic { queue = queue })) ≡ uses k (Objects.vsic both.vsic)
  used k other = let less = uses_less k in let none : bit (bytes_eq k b) ≡ 0 = ap bit other in omega (arith, less, none)

  abbrev pub then : Around
  then = y r app app1 v b h both one here shut lent was ring queue (Some (place_kept lent)) cards buffers region labels doors rates nets areas used

  rest_then : Each (IsEnded then one.log) (drop 1 one.vsic.ring.unreaped) us
  rest_then =
      let all = unreaped_then r app app1 v b h both one here shut lent was ring queue (Some (place_kept lent)) cards buffers region labels doors rates nets areas used in
      let split : Each (IsEnded then one.log) (c ∷ cs) ((transfer t, o) ∷ us) =
      subst (λ (zs : List (Job × Outcome)). Each (IsEnded then one.log) (c ∷ cs) zs) oldest (subst (λ (zs : List Completion). Each (IsEnded then one.log) zs both.vsic.queue.unreaped) first all) in
      subst (λ (zs : List Completion). Each (IsEnded then one.log) (drop 1 zs) us) (sym first) split.1

  pub reaped : Holds then
  reaped = exchanged r app app1 v b h both one here shut lent was ring queue (Some (place_kept lent)) cards buffers region labels doors rates nets areas used refl
      (posted_then r app app1 v b h both one here shut lent was ring queue (Some (place_kept lent)) cards buffers region labels doors rates nets areas used)
      rest_then
      (moved_then r app app1 v b h both one here shut lent was ring queue (Some (place_kept lent)) cards buffers region labels doors rates nets areas used)
      (λ p is. some_same (Some (place_kept lent)) p (place_kept lent) is refl)
      (let then_count = lent_then r app app1 v b h both one here shut lent was ring queue (Some (place_kept lent)) cards buffers region labels doors rates nets areas used b in
      let had = was_lent r app app1 v b h both one here shut lent was ring queue (Some (place_kept lent)) cards buffers region labels doors rates nets areas used in
      let most = at_most_one (is_none lent.buf) in
      let less = uses_less b in
      let its : bit (bytes_eq b b) ≡ 1 = ap bit (name_same b b refl) in
      omega (arith, then_count, had, most, less, its))
    where
      at_most_one : (t : Bool) → bit t ≤ 1
      at_most_one true = omega arith
      at_most_one false = omega arith
