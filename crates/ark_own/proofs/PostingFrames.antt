-- The row of `post`: a buffer is posted to receive.
use Rattle.std.proofs.Common.{◌≡◌, ℕ, ◌+◌, ◌<◌, ◌≤◌, Bool, true, false, List, [], ◌∷◌, refl, sym, ◌∙◌, ap, subst}
use Rattle.std.specs.Prelude.{Some, None, Result, Ok, Err, ◌||◌, is_none, is_some, length, option_map}
use Rattle.ark_base.specs.declared.refusal.Refusal.{Refusal}
use Rattle.ark_base.specs.declared.refusal.Refusal.TheVariants as r
use Rattle.ark_caps.specs.Labels.{value_at}
use Rattle.ark_media.specs.Calls.{Told}
use Rattle.ark_objects.specs.Held.{at as slot, Changes}
use Rattle.ark_region.specs.Frames.{Piece, LiesInRegion, frames_of}
use Rattle.ark_vnic.specs.Arrivals.{HasBuffer as InMemory}
use Rattle.ark_script.specs.declared.said.Said.TheVariants as said
use Rattle.ark_vic.specs.Queue.{members}
use Rattle.ark_vic.specs.declared.descriptor.Descriptor.{Descriptor}
use Rattle.ark_vic.specs.declared.descriptor.Job.TheVariants as vic
use Rattle.ark_machine.specs.Objects
use Rattle.ark_machine.specs.Objects.{named}
use Rattle.ark_machine.specs.Machine.{Machine, missing, vnic_at, buffer_at, with_object, with_vnic}
use Rattle.ark_machine.specs.Buffers.{is_lent}
use Rattle.ark_machine.specs.Network as rows
use Rattle.ark_machine.specs.Network.{is_socketed, is_rx_full, posting_rx}
use Rattle.ark_machine.specs.Row.{Row, Given, says}
use Rattle.ark_held.specs.Words.{Labels}
use Rattle.ark_held.specs.Kept.{BufferKept}
use Rattle.ark_held.specs.Stored.{buffer_kept, kept_of, place_kept}
use Rattle.ark_held.specs.Nets.{with_receiving}
use Rattle.ark_held.specs.Around.{Around}
use Rattle.ark_held.specs.Cards.{HasBuffer}
use Rattle.ark_held.specs.Held.{Holds}
use Rattle.ark_held.specs.Beyond.{Beyond, around}
use Rattle.ark_held.specs.Does.{Acts}
use Rattle.ark_held.specs.declared.app.App.{App}
use Rattle.ark_held.specs.declared.buffer.Buffer as kept
use Rattle.ark_held.specs.declared.network_card.NetworkCard.{NetworkCard}
use Rattle.ark_held.proofs.Doing.{comes}
use Rattle.ark_held.proofs.Lists.{le_true, le_false}
use Rattle.ark_held.proofs.NetRings.{HasNetAndBuffer}
use Rattle.ark_held.proofs.Receiving.{receives, posted_around}
use Rattle.ark_own.specs.Keys.{both_keys, buffer_key, net_key}
use Rattle.ark_own.proofs.Looked as looked
use Rattle.ark_own.proofs.Looked.{Looked, looked_both, each_key}
use Rattle.ark_own.proofs.OfBuffers as buffers
use Rattle.ark_own.proofs.OfBuffers.{found_buffer}
use Rattle.ark_own.proofs.OfNets as nets
use Rattle.ark_own.proofs.OfNets.{HasNet, found_net, net_looked, not_socketed, full_same}
use Rattle.ark_own.proofs.Transferring.{buffer_looked}

-- a descriptor whose buffer lies in the memory
pub has_place : (taken frames : List Bool) (d : Descriptor) (p : Piece) → d.buf ≡ Some p → LiesInRegion frames p → length taken ≡ length frames → InMemory taken d
has_place taken frames d p buf lies long = rw buf (subst (λ n. p.start + frames_of p.len ≤ n) (sym long) lies)

module _ (v b : List ℕ) (t : Told) (app : App) where
  abbrev its_labels : List (List ℕ)
  its_labels = v ∷ b ∷ []

  abbrev other : Machine → Bool
  other m = is_none (vnic_at m v) || is_none (buffer_at m b)

  abbrev never : Machine → Bool
  never m = false

  abbrev used : Machine → Bool
  used m = is_socketed m v

  abbrev away : Machine → Bool
  away m = is_lent m b

  abbrev full : Machine → Bool
  full m = is_rx_full m v

  abbrev rest : Machine → Given → Row
  rest m g = says (with_vnic m v (posting_rx (named b))) said.Ok

  abbrev pub row : Machine → Given → Row
  row m g = rows.post_rx m v b g

  abbrev row_is : (m : Machine) (g : Given) → row m g ≡ row m g
  row_is m g = refl

  abbrev pub told : Result (ℕ × ℕ) Refusal
  told = both_keys (net_key app.labels v) (buffer_key app.labels b)

  all_looked : (res : Result (ℕ × ℕ) Refusal) → res ≡ told → (y : Beyond) → Holds (around y app) → Looked y.machine its_labels (other y.machine) res
  all_looked res is y h =
      let x = around y app in
      subst (λ (z : Result (ℕ × ℕ) Refusal). Looked y.machine its_labels (other y.machine) z) (sym is)
      (looked_both y.machine (v ∷ []) (b ∷ []) _ _ _ _ (net_looked x v _ (found_net x v h _ refl)) (buffer_looked x b _ (found_buffer x b h _ refl)))

  pub no_keys : (e : Refusal) → Err e ≡ told → Acts t app app row [] (said.Refused e) []
  no_keys e is = looked.not_found t app its_labels other never used away full row rest row_is (ℕ × ℕ) e (all_looked (Err e) is)

  module _ (card key : ℕ) (keys : Ok (card, key) ≡ told) where
    abbrev two : (Ok card ≡ net_key app.labels v) × (Ok key ≡ buffer_key app.labels b)
    two = each_key card key _ _ keys

    abbrev its_net : (y : Beyond) → Holds (around y app) → HasNet (around y app) v card
    its_net y h = nets.its app v card two.0 y h

    abbrev its_buffer : (y : Beyond) → Holds (around y app) → buffers.HasBuffer (around y app) b key
    its_buffer y h = buffers.its app b key two.1 y h

    all_there : (y : Beyond) → Holds (around y app) → (missing y.machine its_labels ≡ None) × (other y.machine ≡ false)
    all_there = all_looked (Ok (card, key)) keys

    pub no_net : (e : Refusal) → slot app.devices.nets.cards card ≡ None → Acts t app app row [] (said.Refused e) []
    no_net e gone = looked.never_there t app its_labels other never used away full row rest row_is e (λ y h. nets.never_gone app v card two.0 y h gone)

    pub no_buffer : (e : Refusal) → slot app.store.buffers key ≡ None → Acts t app app row [] (said.Refused e) []
    no_buffer e gone = looked.never_there t app its_labels other never used away full row rest row_is e (λ y h. buffers.never_gone app b key two.1 y h gone)

    module _ (one : NetworkCard) (lent : kept.Buffer) (there : slot app.devices.nets.cards card ≡ Some one) (was : slot app.store.buffers key ≡ Some lent) where
      near : (y : Beyond) → Holds (around y app) → never y.machine ≡ false
      near y h = refl

      free : (y : Beyond) → Holds (around y app) → used y.machine ≡ false
      free y h = not_socketed app v card two.0 one there y (its_net y h)

      lent_same : (y : Beyond) (h : Holds (around y app)) → is_lent y.machine b ≡ is_none lent.buf
      lent_same y h = buffers.lent_same app b key two.1 lent was y (its_buffer y h)

      pub is_away : is_none lent.buf ≡ true → Acts t app app row [] (said.Refused r.Lent) []
      is_away gone = looked.is_away t app its_labels other never used away full row rest row_is all_there near free (λ y h. lent_same y h ∙ gone)

      module _ (right : is_none lent.buf ≡ false) where
        not_lent : (y : Beyond) → Holds (around y app) → away y.machine ≡ false
        not_lent y h = lent_same y h ∙ right

        pub is_full : one.vnic.rx.size ≤ members one.vnic.rx → Acts t app app row [] (said.Refused r.RingFull) []
        is_full over = looked.is_full t app its_labels other never used away full row rest row_is all_there near free not_lent
            (λ y h. full_same app v card two.0 one there y (its_net y h) ∙ le_true one.vnic.rx.size (members one.vnic.rx) over)

        -- posted
        module _ (room : members one.vnic.rx < one.vnic.rx.size) (app1 : App) (d : Descriptor) (job : d.job ≡ vic.Receive) (tag : d.tag ≡ key) (buf : d.buf ≡ lent.buf)
            (nets_now : Changes app.devices.nets.cards app1.devices.nets.cards card (Some (with_receiving d one))) (buffers_now : Changes app.store.buffers app1.store.buffers key (Some (record lent { buf = None })))
            (region : app1.store.region ≡ app.store.region) (labels : app1.labels ≡ app.labels) (cards : app1.devices.cards ≡ app.devices.cards) (doors : app1.devices.doors ≡ app.devices.doors) (rates : app1.devices.rates ≡ app.devices.rates) (areas : app1.areas ≡ app.areas) (name : app1.name ≡ app.name) where
          module _ (y : Beyond) (h : Holds (around y app)) where
            abbrev both : HasNetAndBuffer (around y app) v b
            both =
                let c = its_net y h in
                let z = its_buffer y h in
                record { held = c.held; vnic = c.vnic; card = c.cap; there = c.there; object = c.object; card_label = c.label; card_fits = c.fits; cap = z.cap; buffer_label = z.label; buffer = z.buffer; buffer_fits = z.fits }

            here_net : slot app.devices.nets.cards both.card.key ≡ Some one
            here_net = ap (λ i. slot app.devices.nets.cards i) (its_net y h).key_is ∙ there

            here_buffer : slot app.store.buffers both.cap.key ≡ Some lent
            here_buffer = ap (λ i. slot app.store.buffers i) (its_buffer y h).key_is ∙ was

            nets_then : Changes app.devices.nets.cards app1.devices.nets.cards both.card.key (Some (with_receiving d one))
            nets_then = subst (λ i. Changes app.devices.nets.cards app1.devices.nets.cards i (Some (with_receiving d one))) (sym (its_net y h).key_is) nets_now

            buffers_then : Changes app.store.buffers app1.store.buffers both.cap.key (Some (record lent { buf = None }))
            buffers_then = subst (λ i. Changes app.store.buffers app1.store.buffers i (Some (record lent { buf = None }))) (sym (its_buffer y h).key_is) buffers_now

            abbrev after : Around
            after = posted_around y app app1 v b h both one here_net lent here_buffer region labels cards doors rates areas right d nets_then buffers_then

            entry : both.buffer_fits.entry ≡ kept_of lent
            entry = buffers.entry_same app b key two.1 lent was y (its_buffer y h)

            has_buffer : HasBuffer after d.tag d.buf b
            has_buffer =
                let p = buffers.some_right lent.buf right in
                let own : p.0 ≡ place_kept lent = both.buffer_fits.owned p.0 (ap (λ (z : BufferKept). z.buf) entry ∙ p.1) ∙ ap (λ (z : BufferKept). z.piece) entry in
                record {
                  named = record { cap = both.cap; there = ap (λ (ls : Labels). value_at ls b) labels ∙ both.buffer_label; its_kind = both.buffer_fits.its_kind; its_key = (its_buffer y h).key_is ∙ sym tag };
                  some = ap (λ o. is_some o) (buf ∙ p.1);
                  place = ap (λ i. option_map (λ (z : BufferKept). z.piece) (buffer_kept app1.store.buffers i)) tag ∙ ap (λ o. option_map (λ (z : BufferKept). z.piece) (option_map kept_of o)) buffers_now.changed
                      ∙ ap (λ z. Some z) (sym own) ∙ sym (buf ∙ p.1);
                }

            now_holds : Holds after
            now_holds = receives y app app1 v b h both one here_net lent here_buffer region labels cards doors rates areas right d nets_then buffers_then (job, has_buffer)

          pub post_done : Acts t app app1 row [] said.Ok []
          post_done = comes t app app1 row said.Ok [] areas name (λ y g sited h.
              let c = its_net y h in (
                with_object y.machine v (Objects.vnic (posting_rx (named b) c.vnic)),
                looked.done t app its_labels other never used away full row rest row_is all_there near free not_lent y g h
                    (full_same app v card two.0 one there y c ∙ le_false one.vnic.rx.size (members one.vnic.rx) room) ∙ rw (c.there, c.object) refl,
                now_holds y h,
              ))
