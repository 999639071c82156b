-- The rows of `get` and `put`.
use Rattle.std.proofs.Common.{◌≡◌, ℕ, ◌+◌, ◌*◌, ◌<◌, ◌≤◌, Bool, true, false, nat_lt, List, [], ◌∷◌, length, refl, sym, ◌∙◌, ap, subst, arith}
use Rattle.std.specs.Prelude.{Some, None, Result, Ok, Err, ◌||◌, is_some, is_none, nat_eq, option_map}
use Rattle.std.specs.Map.{lookup}
use Rattle.ark_base.specs.declared.refusal.Refusal.{Refusal}
use Rattle.ark_base.specs.declared.refusal.Refusal.TheVariants as r
use Rattle.ark_media.specs.Calls.{Told}
use Rattle.ark_script.specs.declared.said.Said.TheVariants as said
use Rattle.ark_objects.specs.Held.{at as slot, Changes}
use Rattle.ark_caps.specs.Labels.{value_at}
use Rattle.ark_caps.specs.declared.capability.Capability.{Capability}
use Rattle.ark_region.specs.Frames.{Piece, LiesInRegion, frames_of}
use Rattle.ark_vic.specs.Queue.{members}
use Rattle.ark_vic.specs.declared.descriptor.Descriptor.{Descriptor}
use Rattle.ark_vsic.specs.Moves.{CanMove}
use Rattle.ark_machine.specs.Objects
use Rattle.ark_machine.specs.Objects.{Transfer, transfer, as_vsic}
use Rattle.ark_machine.specs.Machine.{Machine, missing, vsic_at, raw_at, buffer_at, bytes_at, serial_at, with_object, with_vsic}
use Rattle.ark_machine.specs.Areas.{area_blocks}
use Rattle.ark_machine.specs.Buffers.{is_lent}
use Rattle.ark_machine.specs.Cards as rows
use Rattle.ark_machine.specs.Cards.{posting, is_ring_full}
use Rattle.ark_machine.specs.Control.{has_log}
use Rattle.ark_machine.specs.Row.{Row, Given, says}
use Rattle.ark_held.specs.Words.{Labels, AreaList, area_in}
use Rattle.ark_held.specs.Kept.{BufferKept}
use Rattle.ark_held.specs.Stored.{kept_of, buffer_kept, place_kept}
use Rattle.ark_held.specs.Rings.{with_posted}
use Rattle.ark_held.specs.Around.{Around}
use Rattle.ark_held.specs.Cards.{HasBuffer, IsOnArea, IsTransfer}
use Rattle.ark_held.specs.Held.{Holds}
use Rattle.ark_held.specs.Beyond.{Beyond, around}
use Rattle.ark_held.specs.Does.{Acts}
use Rattle.ark_held.specs.declared.app.App.{App}
use Rattle.ark_held.specs.declared.areas.Area.{Area}
use Rattle.ark_held.specs.declared.buffer.Buffer as kept
use Rattle.ark_held.specs.declared.card.StorageCard.{StorageCard}
use Rattle.ark_held.proofs.Lists.{lt_true, lt_false, le_true, le_false, some_same, none_of}
use Rattle.ark_held.proofs.Doing.{comes}
use Rattle.ark_held.proofs.Exchanging.{HasBoth}
use Rattle.ark_held.proofs.Posting.{posted, then}
use Rattle.ark_own.specs.Keys.{both_keys, buffer_key, card_key, raw_area}
use Rattle.ark_own.specs.Transfers.{job_of}
use Rattle.ark_own.specs.declared.keys.RawArea.{RawArea}
use Rattle.ark_own.proofs.Looked as looked
use Rattle.ark_own.proofs.Looked.{Looked, looked_both, each_key, is_there, is_missing}
use Rattle.ark_own.proofs.OfCards as cards
use Rattle.ark_own.proofs.OfCards.{HasCard, found_card}
use Rattle.ark_own.proofs.OfBuffers as buffers
use Rattle.ark_own.proofs.OfBuffers.{found_buffer}
use Rattle.ark_own.proofs.OfRaw as raws
use Rattle.ark_own.proofs.OfRaw.{HasRaw, found_raw}

-- What is told of one label.
module _ (x : Around) (l : List ℕ) where
  pub card_looked : (p : Result ℕ Refusal) → cards.FoundAs x l p → Looked x.machine (l ∷ []) (is_none (vsic_at x.machine l)) p
  card_looked (Ok key) f = (is_there x.machine l (rw f.there refl), rw (f.there, f.object) refl)
  card_looked (Err (r.NoGrant k)) f = is_missing x.machine l (rw f.1 refl) ∙ ap (λ z. Some z) (sym f.0)
  card_looked (Err r.WrongKind) f = (is_there x.machine l (rw f.1 refl), rw (f.1, f.2) refl)
  card_looked (Err _) f = absurd f

  pub buffer_looked : (p : Result ℕ Refusal) → buffers.FoundAs x l p → Looked x.machine (l ∷ []) (is_none (buffer_at x.machine l)) p
  buffer_looked (Ok key) f = (is_there x.machine l (rw f.there refl), rw (f.there, f.object) refl)
  buffer_looked (Err (r.NoGrant k)) f = is_missing x.machine l (rw f.1 refl) ∙ ap (λ z. Some z) (sym f.0)
  buffer_looked (Err r.WrongKind) f = (is_there x.machine l (rw f.1 refl), rw (f.1, f.2) refl)
  buffer_looked (Err _) f = absurd f

  pub raw_looked : (p : Result RawArea Refusal) → raws.FoundAs x l p → Looked x.machine (l ∷ []) (is_none (raw_at x.machine l)) p
  raw_looked (Ok key) f = (is_there x.machine l (rw f.there refl), rw (f.there, f.object) refl)
  raw_looked (Err (r.NoGrant k)) f = is_missing x.machine l (rw f.1 refl) ∙ ap (λ z. Some z) (sym f.0)
  raw_looked (Err r.WrongKind) f = (is_there x.machine l (rw f.1 refl), rw (f.1, f.2) refl)
  raw_looked (Err _) f = absurd f

-- a descriptor of a transfer can be moved from its first block on, in any memory of so many frames
pub can_move : (put : Bool) (taken frames : List Bool) (d : Descriptor) (p : Piece) → d.job ≡ job_of put → 0 < d.count → d.buf ≡ Some p → LiesInRegion frames p → length taken ≡ length frames → d.from + 512 * d.count ≤ p.len → CanMove taken 0 d
can_move true taken frames d p job some buf lies long within = rw (job, buf) (some, (subst (λ n. p.start + frames_of p.len ≤ n) (sym long) lies, within))
can_move false taken frames d p job some buf lies long within = rw (job, buf) (some, (subst (λ n. p.start + frames_of p.len ≤ n) (sym long) lies, within))

module _ (put : Bool) (v s b : List ℕ) (off count : ℕ) where
  abbrev pub its_labels : List (List ℕ)
  its_labels = v ∷ s ∷ b ∷ []

  abbrev pub other : Machine → Bool
  other m = is_none (vsic_at m v) || is_none (raw_at m s) || is_none (buffer_at m b)

  abbrev pub far : Machine → Bool
  far m = nat_lt (area_blocks m s) (off + count) || nat_lt (length (bytes_at m b)) (512 * count)

  abbrev pub its_transfer : Machine → Transfer
  its_transfer m = record { put = put; vsa = serial_at m s; off = off; count = count; buffer = b }

  abbrev pub rest : Machine → Given → Row
  rest m g = says (with_vsic m v (posting (transfer (its_transfer m)))) said.Ok

  abbrev pub row : Machine → Given → Row
  row m g = rows.post put m v s off count b g

  abbrev pub told : App → Result ((ℕ × RawArea) × ℕ) Refusal
  told app = both_keys (both_keys (card_key app.labels v) (raw_area app.labels app.areas s)) (buffer_key app.labels b)

  pub all_looked : (app : App) (res : Result ((ℕ × RawArea) × ℕ) Refusal) → res ≡ told app → (y : Beyond) → Holds (around y app) → Looked y.machine its_labels (other y.machine) res
  all_looked app res is y h =
      let x = around y app in
      subst (λ (z : Result ((ℕ × RawArea) × ℕ) Refusal). Looked y.machine its_labels (other y.machine) z) (sym is)
      (assoc (is_none (vsic_at y.machine v)) (is_none (raw_at y.machine s)) (is_none (buffer_at y.machine b)) (told app)
      (looked_both y.machine (v ∷ s ∷ []) (b ∷ []) _ _ _ _
      (looked_both y.machine (v ∷ []) (s ∷ []) _ _ _ _ (card_looked x v _ (found_card x v h _ refl)) (raw_looked x s _ (found_raw x s h _ refl)))
      (buffer_looked x b _ (found_buffer x b h _ refl))))
    where
      assoc : (p q t : Bool) (z : Result ((ℕ × RawArea) × ℕ) Refusal) → Looked y.machine its_labels ((p || q) || t) z → Looked y.machine its_labels (p || q || t) z
      assoc true q t z f = f
      assoc false q t z f = f

-- All are there.
module _ (put : Bool) (v s b : List ℕ) (off count : ℕ) (t : Told) (app : App) where
  abbrev Keys : Type 0
  Keys = (ℕ × RawArea) × ℕ

  abbrev here : Machine → Bool
  here m = is_lent m b

  abbrev full : Machine → Bool
  full m = is_ring_full m v

  abbrev used : Machine → Bool
  used m = has_log m v

  abbrev row_is : (m : Machine) (g : Given) → row put v s b off count m g ≡ row put v s b off count m g
  row_is m g = refl

  pub no_keys : (e : Refusal) → Err e ≡ told put v s b off count app → Acts t app app (row put v s b off count) [] (said.Refused e) []
  no_keys e is = looked.not_found t app (v ∷ s ∷ b ∷ []) (other put v s b off count) (far put v s b off count) used here full (row put v s b off count) (rest put v s b off count) row_is Keys e (all_looked put v s b off count app (Err e) is)

  module _ (card key : ℕ) (area : RawArea) (keys : Ok ((card, area), key) ≡ told put v s b off count app) where
    abbrev two : (Ok (card, area) ≡ both_keys (card_key app.labels v) (raw_area app.labels app.areas s)) × (Ok key ≡ buffer_key app.labels b)
    two = each_key (card, area) key _ _ keys

    abbrev one_by_one : (Ok card ≡ card_key app.labels v) × (Ok area ≡ raw_area app.labels app.areas s)
    one_by_one = each_key card area _ _ two.0

    abbrev its_card : (y : Beyond) → Holds (around y app) → HasCard (around y app) v card
    its_card y h = cards.its app v card one_by_one.0 y h

    abbrev its_area : (y : Beyond) → Holds (around y app) → HasRaw (around y app) s area
    its_area y h = found_raw (around y app) s h (Ok area) one_by_one.1

    abbrev its_buffer : (y : Beyond) → Holds (around y app) → buffers.HasBuffer (around y app) b key
    its_buffer y h = buffers.its app b key two.1 y h

    abbrev all_there : (y : Beyond) → Holds (around y app) → (missing y.machine (v ∷ s ∷ b ∷ []) ≡ None) × (other put v s b off count y.machine ≡ false)
    all_there = all_looked put v s b off count app (Ok ((card, area), key)) keys

    pub no_card : (e : Refusal) → slot app.devices.cards card ≡ None → Acts t app app (row put v s b off count) [] (said.Refused e) []
    no_card e gone = looked.never_there t app (v ∷ s ∷ b ∷ []) (other put v s b off count) (far put v s b off count) used here full (row put v s b off count) (rest put v s b off count) row_is e (λ y h. cards.never_gone app v card one_by_one.0 y h gone)

    pub no_buffer : (e : Refusal) → slot app.store.buffers key ≡ None → Acts t app app (row put v s b off count) [] (said.Refused e) []
    no_buffer e gone = looked.never_there t app (v ∷ s ∷ b ∷ []) (other put v s b off count) (far put v s b off count) used here full (row put v s b off count) (rest put v s b off count) row_is e (λ y h. buffers.never_gone app b key two.1 y h gone)

    blocks_same : (y : Beyond) (h : Holds (around y app)) → area_blocks y.machine s ≡ area.blocks
    blocks_same y h = let a = its_area y h in rw (a.there, a.object) (a.fits.fits.size ∙ a.blocks)

    module _ (one : StorageCard) (lent : kept.Buffer) (there : slot app.devices.cards card ≡ Some one) (was : slot app.store.buffers key ≡ Some lent) where
      bytes_same : (y : Beyond) (h : Holds (around y app)) → length (bytes_at y.machine b) ≡ lent.len
      bytes_same y h = let z = its_buffer y h in rw (z.there, z.object) (buffers.len_same app b key two.1 lent was y z)

      far_is : (y : Beyond) (h : Holds (around y app)) → far put v s b off count y.machine ≡ (nat_lt area.blocks (off + count) || nat_lt lent.len (512 * count))
      far_is y h = ap (λ n. nat_lt n (off + count) || nat_lt (length (bytes_at y.machine b)) (512 * count)) (blocks_same y h) ∙ ap (λ n. nat_lt area.blocks (off + count) || nat_lt n (512 * count)) (bytes_same y h)

      pub past_area : area.blocks < off + count → Acts t app app (row put v s b off count) [] (said.Refused r.OutOfRange) []
      past_area past = looked.is_far t app (v ∷ s ∷ b ∷ []) (other put v s b off count) (far put v s b off count) used here full (row put v s b off count) (rest put v s b off count) row_is all_there
          (λ y h. let p = lt_true area.blocks (off + count) past in far_is y h ∙ rw p refl)

      module _ (in_area : off + count ≤ area.blocks) where
        pub past_buffer : lent.len < 512 * count → Acts t app app (row put v s b off count) [] (said.Refused r.OutOfRange) []
        past_buffer past = looked.is_far t app (v ∷ s ∷ b ∷ []) (other put v s b off count) (far put v s b off count) used here full (row put v s b off count) (rest put v s b off count) row_is all_there
            (λ y h. let q = lt_false area.blocks (off + count) in_area in let p = lt_true lent.len (512 * count) past in far_is y h ∙ rw (q, p) refl)

        module _ (in_buffer : 512 * count ≤ lent.len) where
          near : (y : Beyond) → Holds (around y app) → far put v s b off count y.machine ≡ false
          near y h = let q = lt_false area.blocks (off + count) in_area in let p = lt_false lent.len (512 * count) in_buffer in far_is y h ∙ rw (q, p) refl

          log_is : (y : Beyond) (h : Holds (around y app)) → has_log y.machine v ≡ is_some one.log
          log_is y h = cards.log_same app v card one_by_one.0 one there y (its_card y h)

          pub is_busy : is_some one.log ≡ true → Acts t app app (row put v s b off count) [] (said.Refused r.Busy) []
          is_busy busy = looked.is_busy t app (v ∷ s ∷ b ∷ []) (other put v s b off count) (far put v s b off count) used here full (row put v s b off count) (rest put v s b off count) row_is all_there near (λ y h. log_is y h ∙ busy)

          module _ (free : is_some one.log ≡ false) where
            no_log : (y : Beyond) → Holds (around y app) → used y.machine ≡ false
            no_log y h = log_is y h ∙ free

            lent_same : (y : Beyond) (h : Holds (around y app)) → is_lent y.machine b ≡ is_none lent.buf
            lent_same y h = buffers.lent_same app b key two.1 lent was y (its_buffer y h)

            pub is_away : is_none lent.buf ≡ true → Acts t app app (row put v s b off count) [] (said.Refused r.Lent) []
            is_away gone = looked.is_away t app (v ∷ s ∷ b ∷ []) (other put v s b off count) (far put v s b off count) used here full (row put v s b off count) (rest put v s b off count) row_is all_there near no_log (λ y h. lent_same y h ∙ gone)

            module _ (right : is_none lent.buf ≡ false) where
              not_lent : (y : Beyond) → Holds (around y app) → here y.machine ≡ false
              not_lent y h = lent_same y h ∙ right

              pub is_full : one.vsic.ring.size ≤ members one.vsic.ring → Acts t app app (row put v s b off count) [] (said.Refused r.RingFull) []
              is_full over = looked.is_full t app (v ∷ s ∷ b ∷ []) (other put v s b off count) (far put v s b off count) used here full (row put v s b off count) (rest put v s b off count) row_is all_there near no_log not_lent
                  (λ y h. cards.full_same app v card one_by_one.0 one there y (its_card y h) ∙ le_true one.vsic.ring.size (members one.vsic.ring) over)

              -- posted
              module _ (room : members one.vsic.ring < one.vsic.ring.size) (app1 : App) (d : Descriptor) (job : d.job ≡ job_of put) (grant : d.grant ≡ area.grant) (first : d.first ≡ off) (long : d.count ≡ count) (wrap : d.wrap ≡ 0) (from : d.from ≡ 0) (tag : d.tag ≡ key) (buf : d.buf ≡ lent.buf)
                  (cards_now : Changes app.devices.cards app1.devices.cards card (Some (with_posted d one))) (buffers_now : Changes app.store.buffers app1.store.buffers key (Some (record lent { buf = None })))
                  (region : app1.store.region ≡ app.store.region) (labels : app1.labels ≡ app.labels) (doors : app1.devices.doors ≡ app.devices.doors) (rates : app1.devices.rates ≡ app.devices.rates) (nets : app1.devices.nets ≡ app.devices.nets) (areas : app1.areas ≡ app.areas) (name : app1.name ≡ app.name) where
                module _ (y : Beyond) (h : Holds (around y app)) where
                  abbrev x : Around
                  x = around y app

                  abbrev both : HasBoth x v b
                  both =
                      let c = its_card y h in
                      let z = its_buffer y h in
                      record { held = c.held; vsic = c.vsic; card = c.cap; there = c.there; object = c.object; card_label = c.label; card_fits = c.fits; cap = z.cap; buffer_label = z.label; buffer = z.buffer; buffer_fits = z.fits }

                  here_card : slot app.devices.cards both.card.key ≡ Some one
                  here_card = ap (λ i. slot app.devices.cards i) (its_card y h).key_is ∙ there

                  here_buffer : slot app.store.buffers both.cap.key ≡ Some lent
                  here_buffer = ap (λ i. slot app.store.buffers i) (its_buffer y h).key_is ∙ was

                  cards_then : Changes app.devices.cards app1.devices.cards both.card.key (Some (with_posted d one))
                  cards_then = subst (λ i. Changes app.devices.cards app1.devices.cards i (Some (with_posted d one))) (sym (its_card y h).key_is) cards_now

                  buffers_then : Changes app.store.buffers app1.store.buffers both.cap.key (Some (record lent { buf = None }))
                  buffers_then = subst (λ i. Changes app.store.buffers app1.store.buffers i (Some (record lent { buf = None }))) (sym (its_buffer y h).key_is) buffers_now

                  abbrev after : Around
                  after = then y app app1 v b h both (its_transfer put v s b off count y.machine) refl one here_card (none_of one.log free) lent here_buffer right d cards_then buffers_then region labels doors rates nets areas

                  entry : both.buffer_fits.entry ≡ kept_of lent
                  entry = buffers.entry_same app b key two.1 lent was y (its_buffer y h)

                  on_area : IsOnArea after d
                  on_area =
                      let a = its_area y h in
                      let its_grant : d.grant ≡ a.cap.grant = grant ∙ sym a.grant_is in
                      let found : lookup (nat_eq d.grant) app1.areas ≡ Some (area_in a.fits.slot) = ap (λ n. lookup (nat_eq n) app1.areas) its_grant ∙ ap (λ (es : AreaList). lookup (nat_eq a.cap.grant) es) areas ∙ a.fits.kept in
                      record {
                        its_kind = λ l c at same.
                            let old : value_at app.labels l ≡ Some c = sym (ap (λ (ls : Labels). value_at ls l) labels) ∙ at in
                            let is_s : l ≡ s = h.own.grants l s c a.cap old a.label (same ∙ its_grant) in
                            ap (λ (z : Capability). z.kind) (some_same (value_at app.labels l) c a.cap old (ap (λ k. value_at app.labels k) is_s ∙ a.label)) ∙ a.fits.its_kind;
                        raw = λ z at. ap (λ (w : Area). w.kind) (some_same _ z (area_in a.fits.slot) at found) ∙ a.fits.raw;
                        within = λ z at.
                            let same : length z.spans ≡ length a.fits.slot.blocks = ap (λ (w : Area). length w.spans) (some_same _ z (area_in a.fits.slot) at found) in
                            let blocks = a.blocks in
                            omega (arith, same, blocks, first, long, in_area);
                      }

                  has_buffer : HasBuffer after d.tag d.buf b
                  has_buffer =
                      let p = buffers.some_right lent.buf right in
                      let own : p.0 ≡ place_kept lent = both.buffer_fits.owned p.0 (ap (λ (z : BufferKept). z.buf) entry ∙ p.1) ∙ ap (λ (z : BufferKept). z.piece) entry in
                      record {
                        named = record { cap = both.cap; there = ap (λ (ls : Labels). value_at ls b) labels ∙ both.buffer_label; its_kind = both.buffer_fits.its_kind; its_key = (its_buffer y h).key_is ∙ sym tag };
                        some = ap (λ o. is_some o) (buf ∙ p.1);
                        place = ap (λ i. option_map (λ (z : BufferKept). z.piece) (buffer_kept app1.store.buffers i)) tag ∙ ap (λ o. option_map (λ (z : BufferKept). z.piece) (option_map kept_of o)) buffers_now.changed
                            ∙ ap (λ z. Some z) (sym own) ∙ sym (buf ∙ p.1);
                      }

                  its_job : IsTransfer after d (its_transfer put v s b off count y.machine)
                  its_job =
                      let a = its_area y h in
                      record {
                        does = job;
                        vsa = rw a.there (a.serial ∙ ap (λ n. Some n) (a.grant_is ∙ sym grant));
                        off = sym first;
                        count = sym long;
                        wrap = wrap;
                        from = from;
                        on = on_area;
                        buffer = has_buffer;
                      }

                  now_holds : Holds after
                  now_holds = posted y app app1 v b h both (its_transfer put v s b off count y.machine) refl one here_card (none_of one.log free) lent here_buffer right d cards_then buffers_then region labels doors rates nets areas its_job

                pub post_done : Acts t app app1 (row put v s b off count) [] said.Ok []
                post_done = comes t app app1 (row put v s b off count) said.Ok [] areas name (λ y g sited h.
                    let c = its_card y h in (
                      with_object y.machine v (Objects.vsic (posting (transfer (its_transfer put v s b off count y.machine)) c.vsic)),
                      looked.done t app (v ∷ s ∷ b ∷ []) (other put v s b off count) (far put v s b off count) used here full (row put v s b off count) (rest put v s b off count) row_is all_there near no_log not_lent y g h
                          (cards.full_same app v card one_by_one.0 one there y c ∙ le_false one.vsic.ring.size (members one.vsic.ring) room) ∙ rw (c.there, c.object) refl,
                      now_holds y h,
                    ))
