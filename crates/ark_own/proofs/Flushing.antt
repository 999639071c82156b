-- The row of `flush`.
use Rattle.std.proofs.Common.{◌≡◌, ℕ, ◌<◌, ◌≤◌, Bool, true, false, List, [], ◌∷◌, ◌++◌, refl, sym, ◌∙◌, arith}
use Rattle.std.specs.Prelude.{Some, None, Ok, is_some}
use Rattle.ark_media.specs.Calls.{Told}
use Rattle.ark_script.specs.declared.said.Said.TheVariants as said
use Rattle.ark_objects.specs.Held.{at as slot, Changes}
use Rattle.ark_vic.specs.Queue.{members}
use Rattle.ark_vic.specs.declared.descriptor.Descriptor.{Descriptor}
use Rattle.ark_vic.specs.declared.descriptor.Job.TheVariants as vic
use Rattle.ark_machine.specs.Objects
use Rattle.ark_machine.specs.Objects.{Vsic, flush}
use Rattle.ark_machine.specs.Machine.{Machine, with_object, with_vsic}
use Rattle.ark_machine.specs.Buffers.{job_has}
use Rattle.ark_machine.specs.Cards as rows
use Rattle.ark_machine.specs.Cards.{posting, is_ring_full}
use Rattle.ark_machine.specs.Row.{Row, Given, says}
use Rattle.ark_held.specs.Totals.{bit}
use Rattle.ark_held.specs.Rings.{kept_card, with_posted}
use Rattle.ark_held.specs.Around.{Around}
use Rattle.ark_held.specs.Cards.{IsCard, IsJob}
use Rattle.ark_held.specs.Held.{Holds}
use Rattle.ark_held.specs.Beyond.{Beyond, around}
use Rattle.ark_held.specs.Does.{Acts}
use Rattle.ark_held.specs.declared.app.App.{App}
use Rattle.ark_held.specs.declared.card.StorageCard.{StorageCard}
use Rattle.ark_held.proofs.Lists.{none_of, le_true, le_false, each_more, total_last}
use Rattle.ark_held.proofs.Doing.{comes}
use Rattle.ark_held.proofs.Parts.{CountsAlike}
use Rattle.ark_held.proofs.Opens.{shut_phases, shut_stays}
use Rattle.ark_own.specs.Keys.{card_key}
use Rattle.ark_own.proofs.OfCards.{HasCard, its, full_same, posted_now, unreaped_now, bound_now, pace_now, door_now, size_now, moved_now, opens_now, now, card_keeps, card_opens, kept_now, card_altered, done}

abbrev pub flushed : List ℕ → Machine → Given → Row
flushed v m g = says (with_vsic m v (posting flush)) said.Ok

abbrev pub full_at : List ℕ → Machine → Bool
full_at v m = is_ring_full m v

module _ (app : App) (v : List ℕ) (key : ℕ) (is : Ok key ≡ card_key app.labels v) (one : StorageCard) (here : slot app.devices.cards key ≡ Some one) where
  pub full_there : one.vsic.ring.size ≤ members one.vsic.ring → (y : Beyond) → Holds (around y app) → full_at v y.machine ≡ true
  full_there over y h = full_same app v key is one here y (its app v key is y h) ∙ le_true one.vsic.ring.size (members one.vsic.ring) over

  pub room_there : members one.vsic.ring < one.vsic.ring.size → (y : Beyond) → Holds (around y app) → full_at v y.machine ≡ false
  room_there under y h = full_same app v key is one here y (its app v key is y h) ∙ le_false one.vsic.ring.size (members one.vsic.ring) under

-- the card with a sync more
abbrev more : Vsic → Vsic
more x = record x { queue = record x.queue { posted = x.queue.posted ++ flush ∷ [] } }

alike : (x : Vsic) → CountsAlike (Objects.vsic x) (Objects.vsic (more x))
alike x = record {
  uses = λ k. (let e = total_last (λ j. bit (job_has k j)) x.queue.posted flush in omega (arith, e));
  opens = λ k. refl;
  sockets = λ k. refl;
  covers = λ j. refl;
}

module _ (t : Told) (app app1 : App) (v : List ℕ) (key : ℕ) (is : Ok key ≡ card_key app.labels v) (one : StorageCard) (here : slot app.devices.cards key ≡ Some one) (free : is_some one.log ≡ false) (under : members one.vsic.ring < one.vsic.ring.size)
    (d : Descriptor) (job : d.job ≡ vic.Sync) (buf : d.buf ≡ None) (changes : Changes app.devices.cards app1.devices.cards key (Some (with_posted d one)))
    (labels : app1.labels ≡ app.labels) (doors : app1.devices.doors ≡ app.devices.doors) (rates : app1.devices.rates ≡ app.devices.rates) (nets : app1.devices.nets ≡ app.devices.nets) (store : app1.store ≡ app.store) (areas : app1.areas ≡ app.areas) (name : app1.name ≡ app.name) where
  module _ (y : Beyond) (h : Holds (around y app)) (c : HasCard (around y app) v key) where
    abbrev after : Around
    after = now app app1 v key is one (with_posted d one) here changes (shut_stays one (with_posted d one) free) labels doors rates nets store areas y h c (more c.vsic) (alike c.vsic)

    fits : IsCard after v c.cap (more c.vsic)
    fits =
        let keeps = card_keeps app app1 v key is one (with_posted d one) here changes (shut_stays one (with_posted d one) free) labels doors rates nets store areas y h c (more c.vsic) (alike c.vsic) in
        record {
          its_kind = c.fits.its_kind;
          card = kept_card (with_posted d one);
          kept = kept_now app app1 v key is one (with_posted d one) here changes (shut_stays one (with_posted d one) free) labels doors rates nets store areas y h c (more c.vsic) (alike c.vsic);
          size = size_now app v key is one here y c;
          posted = each_more (IsJob after one.log) one.vsic.ring.posted c.vsic.queue.posted d flush (posted_now app v key is one here y c after keeps) (job, buf);
          unreaped = unreaped_now app v key is one here y c after keeps;
          moved = moved_now app v key is one here y c;
          bound = bound_now app v key is one here y c after keeps;
          pace = pace_now app v key is one here y c after keeps;
          door = door_now app v key is one here y c after keeps;
          log = opens_now app v key is one here y c ∙ sym (card_opens app app1 v key is one (with_posted d one) here changes (shut_stays one (with_posted d one) free) labels doors rates nets store areas y h c (more c.vsic) (alike c.vsic));
          phases = shut_phases one.log _ _ (none_of one.log free);
        }

    held : Holds after
    held = card_altered app app1 v key is one (with_posted d one) here changes (shut_stays one (with_posted d one) free) labels doors rates nets store areas y h c (more c.vsic) (alike c.vsic) fits

  pub flush_done : Acts t app app1 (λ m g. rows.flush_card m v g) [] said.Ok []
  flush_done = comes t app app1 (λ m g. rows.flush_card m v g) said.Ok [] areas name (λ y g sited h.
      let c = its app v key is y h in (
        with_object y.machine v (Objects.vsic (more c.vsic)),
        done t app v (full_at v) (λ m g. rows.flush_card m v g) (flushed v) (λ m g. refl) key is one here free y g h (room_there app v key is one here under y h) ∙ rw (c.there, c.object) refl,
        held y h c,
      ))
