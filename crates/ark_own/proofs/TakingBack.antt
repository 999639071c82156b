-- The row of `reap`: the oldest completion goes, and what it had comes back.
use Rattle.std.proofs.Common.{◌≡◌, ℕ, Bool, true, false, List, [], ◌∷◌, drop, refl, sym, ◌∙◌, ap, subst, arith}
use Rattle.std.specs.Prelude.{Option, Some, None, Ok, if◌then◌else◌, is_some, option_map, slice_get}
use Rattle.std.proofs.lemmas.Bool.{false≢true}
use Rattle.ark_base.specs.declared.kind.Outcome.{Outcome}
use Rattle.ark_media.specs.Calls.{Told}
use Rattle.ark_script.specs.declared.said.Said.{Said}
use Rattle.ark_script.specs.declared.said.Said.TheVariants as said
use Rattle.ark_objects.specs.Held.{at as slot, Changes}
use Rattle.ark_caps.specs.Labels.{value_at}
use Rattle.ark_caps.specs.declared.capability.CapKind.TheVariants as cap_kind
use Rattle.ark_region.specs.Frames.{Piece}
use Rattle.ark_vic.specs.declared.descriptor.Completion.{Completion}
use Rattle.ark_vic.specs.declared.descriptor.Job.TheVariants as vic
use Rattle.ark_vic.specs.declared.door.Counts.{Counts}
use Rattle.ark_machine.specs.Objects
use Rattle.ark_machine.specs.Objects.{Vsic, Job, Transfer, transfer, flush, phase}
use Rattle.ark_machine.specs.Machine.{Machine, Held, at, with_object}
use Rattle.ark_machine.specs.Buffers.{job_has}
use Rattle.ark_machine.specs.Cards as rows
use Rattle.ark_machine.specs.Cards.{reap_oldest, reaped, unreaped_at}
use Rattle.ark_machine.specs.Row.{Row, Given}
use Rattle.ark_held.specs.Words.{Labels, AreaList}
use Rattle.ark_held.specs.Totals.{bit, total}
use Rattle.ark_held.specs.Kept.{BufferKept, CardKept}
use Rattle.ark_held.specs.Stored.{ChangesRight, kept_of, place_kept}
use Rattle.ark_held.specs.Rings.{kept_card, card_kept, with_reaped}
use Rattle.ark_held.specs.Pacing.{rate_kept}
use Rattle.ark_held.specs.Nets.{net_kept}
use Rattle.ark_held.specs.Around.{Around, Names, Each}
use Rattle.ark_held.specs.Cards.{HasBuffer, IsCard, IsEnded}
use Rattle.ark_held.specs.Held.{Holds, has_key}
use Rattle.ark_held.specs.Beyond.{Beyond, around, tables_of}
use Rattle.ark_held.specs.Does.{Acts}
use Rattle.ark_held.specs.declared.allowance.Allowance.{Allowance}
use Rattle.ark_held.specs.declared.app.App.{App}
use Rattle.ark_held.specs.declared.nets.Nets.{Nets}
use Rattle.ark_held.specs.declared.store.Store.{Store}
use Rattle.ark_held.specs.declared.buffer.Buffer as kept
use Rattle.ark_held.specs.declared.card.StorageCard.{StorageCard}
use Rattle.ark_held.proofs.Lists.{not_some, some_same, none_of}
use Rattle.ark_held.proofs.ByKind.{buffer_of}
use Rattle.ark_held.proofs.Devising.{with_devices}
use Rattle.ark_held.proofs.Doing.{comes, never}
use Rattle.ark_held.proofs.Ending.{on_card, stays}
use Rattle.ark_held.proofs.Exchanging.{HasBoth}
use Rattle.ark_held.proofs.Finding.{stands_at}
use Rattle.ark_held.proofs.Parts.{CountsAlike}
use Rattle.ark_held.proofs.Reaping as back
use Rattle.ark_held.proofs.Opens.{shut_phases, shut_stays}
use Rattle.ark_own.specs.Keys.{IsLabelOf, card_key}
use Rattle.ark_own.specs.Transfers.{said_of}
use Rattle.ark_own.proofs.OfCards.{HasCard, its, posted_now, unreaped_now, bound_now, pace_now, door_now, size_now, moved_now, opens_now, entry_same, now, card_keeps, card_opens, kept_now, card_altered, done}
use Rattle.ark_log.specs.Open.{OpenChain}
use Rattle.ark_own.proofs.Places.{place_of, value_here}

module _ (x : Around) (h : Holds x) (b : List ℕ) (key : ℕ) (n : Names x b cap_kind.Buf key) where
  -- the label of a buffer's key is the one that names it
  pub named_by : IsLabelOf x.labels key b
  named_by = let p = place_of x.labels b n.cap n.there in record { place = p.0; cap = n.cap; there = p.1; its_kind = n.its_kind; its_key = n.its_key }

  pub one_label : (l : List ℕ) → IsLabelOf x.labels key l → l ≡ b
  one_label l is =
      let at_l : value_at x.labels l ≡ Some is.cap = value_here x.labels is.place (l, is.cap) h.apart is.there in
      h.own.keys l b is.cap n.cap at_l n.there (is.its_kind ∙ sym n.its_kind) (ap has_key is.its_kind) (is.its_key ∙ sym n.its_key)

-- The oldest completion, and what has ended.

record Oldest (x : Around) (log : Option OpenChain) (done : Completion) (cs : List Completion) (us : List (Job × Outcome)) : Type 0 where
  rest : List Completion
  first : cs ≡ done ∷ rest
  job : Job
  outcome : Outcome
  others : List (Job × Outcome)
  jobs : us ≡ (job, outcome) ∷ others
  ended : IsEnded x log done (job, outcome)

oldest_of : (x : Around) (log : Option OpenChain) (done : Completion) (cs : List Completion) (us : List (Job × Outcome)) → slice_get cs 0 ≡ Some done → Each (IsEnded x log) cs us → Oldest x log done cs us
oldest_of x log done [] us is each = absurd (not_some None done refl is)
oldest_of x log done (c ∷ cs) [] is each = absurd each
oldest_of x log done (c ∷ cs) (u ∷ us) is each =
    let same : c ≡ done = some_same (Some c) c done refl is in
    record { rest = cs; first = ap (λ z. z ∷ cs) same; job = u.0; outcome = u.1; others = us; jobs = refl; ended = subst (λ z. IsEnded x log z u) same each.0 }

module _ (x : Around) (log : Option OpenChain) (free : is_some log ≡ false) (done : Completion) where
  -- one with no buffer is of a sync
  is_flush : (j : Job) (o : Outcome) → IsEnded x log done (j, o) → done.buf ≡ None → (j ≡ flush) × (done.outcome ≡ o)
  is_flush (transfer t) o is none = absurd (false≢true (sym (ap is_some none) ∙ is.2.some))
  is_flush flush o is none = (refl, is.0)
  is_flush (phase p) o is none = absurd (false≢true (sym free ∙ is.1))

  -- one with a buffer is of a transfer
  record OfTransfer (j : Job) (o : Outcome) : Type 0 where
    t : Transfer
    job : j ≡ transfer t
    outcome : done.outcome ≡ o
    does : done.job ≡ (if t.put then vic.Write else vic.Read)
    buffer : HasBuffer x done.tag done.buf t.buffer

  is_transfer : (j : Job) (o : Outcome) (right : Piece) → IsEnded x log done (j, o) → done.buf ≡ Some right → OfTransfer j o
  is_transfer (transfer t) o right is some = record { t = t; job = refl; outcome = is.0; does = is.1; buffer = is.2 }
  is_transfer flush o right is some = absurd (not_some done.buf right is.2 some)
  is_transfer (phase p) o right is some = absurd (false≢true (sym free ∙ is.1))

abbrev pub oldest : List ℕ → Machine → Given → Row
oldest v m g = reap_oldest m v (unreaped_at m v)

abbrev pub never_full : Machine → Bool
never_full m = false

-- the card without its oldest completion
abbrev less : List (Job × Outcome) → Vsic → Vsic
less us x = record x { queue = record x.queue { unreaped = us } }

oldest_row : (m : Machine) (v : List ℕ) (g : Given) (held : Held) (x : Vsic) (j : Job) (o : Outcome) (us : List (Job × Outcome)) → at m v ≡ Some held → held.object ≡ Objects.vsic x → x.queue.unreaped ≡ (j, o) ∷ us
    → oldest v m g ≡ record { machine = with_object m v (Objects.vsic (less us x)); said = reaped j o; bytes = []; calls = [] }
oldest_row m v g held x j o us there object jobs =
    let left : unreaped_at m v ≡ (j, o) ∷ us = rw (there, object) jobs in
    ap (λ (zs : List (Job × Outcome)). reap_oldest m v zs) left ∙ rw (there, object) refl

alike : (x : Vsic) (o : Outcome) (us : List (Job × Outcome)) → x.queue.unreaped ≡ (flush, o) ∷ us → CountsAlike (Objects.vsic x) (Objects.vsic (less us x))
alike x o us is = record {
  uses = λ k. (let had : total (λ (u : Job × Outcome). bit (job_has k u.0)) x.queue.unreaped ≡ total (λ (u : Job × Outcome). bit (job_has k u.0)) ((flush, o) ∷ us) = ap (λ zs. total (λ (u : Job × Outcome). bit (job_has k u.0)) zs) is in omega (arith, had));
  opens = λ k. refl;
  sockets = λ k. refl;
  covers = λ j. refl;
}

module _ (t : Told) (app : App) (v : List ℕ) (key : ℕ) (is : Ok key ≡ card_key app.labels v) (one : StorageCard) (here : slot app.devices.cards key ≡ Some one) (free : is_some one.log ≡ false) where
  abbrev row : Machine → Given → Row
  row m g = rows.reap m v g

  -- nothing refuses it
  row_is : (y : Beyond) (g : Given) → Holds (around y app) → row y.machine g ≡ oldest v y.machine g
  row_is y g h = done t app v never_full row (oldest v) (λ m g. refl) key is one here free y g h refl

  each_ended : (y : Beyond) (c : HasCard (around y app) v key) → Each (IsEnded (around y app) one.log) one.vsic.ring.unreaped c.vsic.queue.unreaped
  each_ended y c = subst (λ (k : CardKept). Each (IsEnded (around y app) k.log) k.ring.unreaped c.vsic.queue.unreaped) (entry_same app v key is one here y c) c.fits.unreaped

  -- No completion.
  module _ (app1 : App) (cards : Changes app.devices.cards app1.devices.cards key (Some (with_reaped one))) (labels : app1.labels ≡ app.labels) (doors : app1.devices.doors ≡ app.devices.doors) (rates : app1.devices.rates ≡ app.devices.rates) (nets : app1.devices.nets ≡ app.devices.nets) (areas : app1.areas ≡ app.areas) (name : app1.name ≡ app.name) (store : app1.store ≡ app.store)
      (none : slice_get one.vsic.ring.unreaped 0 ≡ None) where
    none_here : {X : Type 0} (xs : List X) → slice_get xs 0 ≡ None → xs ≡ []
    none_here [] e = refl
    none_here (x ∷ xs) e = absurd (not_some (Some x) x e refl)

    none_there : {X Y : Type 0} (P : X → Y → Type 0) (xs : List X) (ys : List Y) → xs ≡ [] → Each P xs ys → ys ≡ []
    none_there P [] [] e each = refl
    none_there P [] (y ∷ ys) e each = absurd each
    none_there P (x ∷ xs) ys e each = absurd (cc (e))

    empty : one.vsic.ring.unreaped ≡ []
    empty = none_here one.vsic.ring.unreaped none

    same_card : kept_card (with_reaped one) ≡ kept_card one
    same_card = ap (λ (us : List Completion). kept_card (record one { vsic = record one.vsic { ring = record one.vsic.ring { unreaped = us } } })) (ap (λ (us : List Completion). drop 1 us) empty ∙ sym empty)

    -- the application's other parts are as they were
    same_parts : (y : Beyond) → Holds (with_devices (around y app) (card_kept app1.devices.cards) (λ k. slot app.devices.doors k) y.machine) → Holds (around y app1)
    same_parts y h =
        subst (λ (ls : Labels). Holds (record (around y app1) { labels = ls })) (sym labels)
        (subst (λ (es : AreaList). Holds (record (around y app1) { labels = app.labels; areas = es })) (sym areas)
        (subst (λ (s : Store). Holds (record (around y app1) { labels = app.labels; areas = app.areas; tables = tables_of s app1.devices })) (sym store)
        (subst (λ (ds : List (Option Counts)). Holds (record (around y app) { tables = record (tables_of app.store app1.devices) { doors = λ k. slot ds k } })) (sym doors)
        (subst (λ (rs : List (Option Allowance)). Holds (record (around y app) { tables = record (tables_of app.store app1.devices) { doors = λ k. slot app.devices.doors k; rates = rate_kept rs } })) (sym rates)
        (subst (λ (ns : Nets). Holds (record (around y app) { tables = record (tables_of app.store app1.devices) { doors = λ k. slot app.devices.doors k; rates = rate_kept app.devices.rates; nets = net_kept ns.cards } })) (sym nets) h)))))

    same_holds : (y : Beyond) → Holds (around y app) → HasCard (around y app) v key → Holds (around y app1)
    same_holds y h c =
        let was : card_kept app.devices.cards c.cap.key ≡ Some (kept_card one) = ap (λ i. card_kept app.devices.cards i) c.key_is ∙ ap (λ o. option_map kept_card o) here in
        let on = on_card (around y app) v c.cap (kept_card one) c.vsic c.held h c.label c.fits.its_kind c.there c.object was in
        same_parts y (stays (around y app) v c.cap (kept_card one) c.vsic on (card_kept app1.devices.cards) (record {
          here = ap (λ i. card_kept app1.devices.cards i) c.key_is ∙ ap (λ o. option_map kept_card o) cards.changed ∙ ap (λ k. Some k) same_card;
          others = λ k other. ap (λ o. option_map kept_card o) (cards.others k (λ e. other (e ∙ sym c.key_is)));
        }))

    pub none_left : Acts t app app1 row [] said.Nothing []
    none_left = comes t app app1 row said.Nothing [] areas name (λ y g sited h.
        let c = its app v key is y h in
        let none : c.vsic.queue.unreaped ≡ [] = none_there (IsEnded (around y app) one.log) one.vsic.ring.unreaped c.vsic.queue.unreaped empty (each_ended y c) in
        (y.machine, row_is y g h ∙ rw (c.there, c.object, none) refl, same_holds y h c))

  module _ (ended : Completion) (is_oldest : slice_get one.vsic.ring.unreaped 0 ≡ Some ended) where
    its_oldest : (y : Beyond) (c : HasCard (around y app) v key) → Oldest (around y app) one.log ended one.vsic.ring.unreaped c.vsic.queue.unreaped
    its_oldest y c = oldest_of (around y app) one.log ended one.vsic.ring.unreaped c.vsic.queue.unreaped is_oldest (each_ended y c)

    -- of a transfer, by its label
    of_transfer : (y : Beyond) (c : HasCard (around y app) v key) (right : Piece) → ended.buf ≡ Some right → OfTransfer (around y app) one.log free ended (its_oldest y c).job (its_oldest y c).outcome
    of_transfer y c right some = let o = its_oldest y c in is_transfer (around y app) one.log free ended o.job o.outcome right o.ended some

    -- a transfer's buffer has a label
    pub never_unnamed : (app1 : App) (reply : Said) (right : Piece) → ended.buf ≡ Some right → ((l : List ℕ) → IsLabelOf app.labels ended.tag l → ⊥) → Acts t app app1 row [] reply []
    never_unnamed app1 reply right some none = never t app app1 row reply [] (λ y h.
        let f = of_transfer y (its app v key is y h) right some in none f.t.buffer (named_by (around y app) h f.t.buffer ended.tag f.buffer.named))

    module _ (app1 : App) (cards : Changes app.devices.cards app1.devices.cards key (Some (with_reaped one))) (labels : app1.labels ≡ app.labels) (doors : app1.devices.doors ≡ app.devices.doors) (rates : app1.devices.rates ≡ app.devices.rates) (nets : app1.devices.nets ≡ app.devices.nets) (areas : app1.areas ≡ app.areas) (name : app1.name ≡ app.name) where
      -- A sync.
      module _ (store : app1.store ≡ app.store) (y : Beyond) (h : Holds (around y app)) (c : HasCard (around y app) v key) (o : Oldest (around y app) one.log ended one.vsic.ring.unreaped c.vsic.queue.unreaped) (jobs : c.vsic.queue.unreaped ≡ (flush, o.outcome) ∷ o.others) where
        abbrev after : Around
        after = now app app1 v key is one (with_reaped one) here cards (shut_stays one (with_reaped one) free) labels doors rates nets store areas y h c (less o.others c.vsic) (alike c.vsic o.outcome o.others jobs)

        fits : IsCard after v c.cap (less o.others c.vsic)
        fits =
            let like = alike c.vsic o.outcome o.others jobs in
            let keeps = card_keeps app app1 v key is one (with_reaped one) here cards (shut_stays one (with_reaped one) free) labels doors rates nets store areas y h c (less o.others c.vsic) like in
            let all : Each (IsEnded after one.log) one.vsic.ring.unreaped c.vsic.queue.unreaped = unreaped_now app v key is one here y c after keeps in
            let split : Each (IsEnded after one.log) (ended ∷ o.rest) ((flush, o.outcome) ∷ o.others) =
            subst (λ (zs : List (Job × Outcome)). Each (IsEnded after one.log) (ended ∷ o.rest) zs) jobs (subst (λ (zs : List Completion). Each (IsEnded after one.log) zs c.vsic.queue.unreaped) o.first all) in
            record {
              its_kind = c.fits.its_kind;
              card = kept_card (with_reaped one);
              kept = kept_now app app1 v key is one (with_reaped one) here cards (shut_stays one (with_reaped one) free) labels doors rates nets store areas y h c (less o.others c.vsic) like;
              size = size_now app v key is one here y c;
              posted = posted_now app v key is one here y c after keeps;
              unreaped = subst (λ (zs : List Completion). Each (IsEnded after one.log) (drop 1 zs) o.others) (sym o.first) split.1;
              moved = moved_now app v key is one here y c;
              bound = bound_now app v key is one here y c after keeps;
              pace = pace_now app v key is one here y c after keeps;
              door = door_now app v key is one here y c after keeps;
              log = opens_now app v key is one here y c ∙ sym (card_opens app app1 v key is one (with_reaped one) here cards (shut_stays one (with_reaped one) free) labels doors rates nets store areas y h c (less o.others c.vsic) like);
              phases = shut_phases one.log _ _ (none_of one.log free);
            }

        held : Holds after
        held = card_altered app app1 v key is one (with_reaped one) here cards (shut_stays one (with_reaped one) free) labels doors rates nets store areas y h c (less o.others c.vsic) (alike c.vsic o.outcome o.others jobs) fits

      pub flushed : app1.store ≡ app.store → ended.buf ≡ None → Acts t app app1 row [] (said.Flushed ended.outcome) []
      flushed store none = comes t app app1 row (said.Flushed ended.outcome) [] areas name (λ y g sited h.
          let c = its app v key is y h in
          let o = its_oldest y c in
          let f = is_flush (around y app) one.log free ended o.job o.outcome o.ended none in
          let jobs : c.vsic.queue.unreaped ≡ (flush, o.outcome) ∷ o.others = o.jobs ∙ ap (λ (z : Job). (z, o.outcome) ∷ o.others) f.0 in (
            with_object y.machine v (Objects.vsic (less o.others c.vsic)),
            row_is y g h ∙ oldest_row y.machine v g c.held c.vsic flush o.outcome o.others c.there c.object jobs ∙ ap (λ (z : Outcome). record { machine = with_object y.machine v (Objects.vsic (less o.others c.vsic)); said = said.Flushed z; bytes = []; calls = [] }) (sym f.1),
            held store y h c o jobs,
          ))

      -- A transfer.
      module _ (right : Piece) (some : ended.buf ≡ Some right) (label : List ℕ) (labelled : IsLabelOf app.labels ended.tag label) (region : app1.store.region ≡ app.store.region)
          (restored : (lent : kept.Buffer) → slot app.store.buffers ended.tag ≡ Some lent → right ≡ place_kept lent → ChangesRight app.store.buffers app1.store.buffers ended.tag (Some right)) where
        module _ (y : Beyond) (h : Holds (around y app)) (c : HasCard (around y app) v key) where
          abbrev x : Around
          x = around y app

          abbrev o : Oldest x one.log ended one.vsic.ring.unreaped c.vsic.queue.unreaped
          o = its_oldest y c

          abbrev f : OfTransfer x one.log free ended o.job o.outcome
          f = of_transfer y c right some

          abbrev n : Names x f.t.buffer cap_kind.Buf ended.tag
          n = f.buffer.named

          jobs : c.vsic.queue.unreaped ≡ (transfer f.t, o.outcome) ∷ o.others
          jobs = o.jobs ∙ ap (λ (z : Job). (z, o.outcome) ∷ o.others) f.job

          abbrev both : HasBoth x v f.t.buffer
          both =
              let s = stands_at x f.t.buffer n.cap h n.there in
              let z = buffer_of x f.t.buffer n.cap s.held.object s.matches.object n.its_kind in
              record { held = c.held; vsic = c.vsic; card = c.cap; there = c.there; object = c.object; card_label = c.label; card_fits = c.fits; cap = n.cap; buffer_label = n.there; buffer = z.0; buffer_fits = z.2 }

          its_lent : (e : Option kept.Buffer) → slot app.store.buffers ended.tag ≡ e → option_map (λ (b : BufferKept). b.piece) (option_map kept_of e) ≡ Some right → (lent : kept.Buffer) × (slot app.store.buffers ended.tag ≡ Some lent) × (right ≡ place_kept lent)
          its_lent None e place = absurd (not_some None right refl place)
          its_lent (Some lent) e place = (lent, e, some_same (Some (place_kept lent)) right (place_kept lent) place refl)

          the_lent : (lent : kept.Buffer) × (slot app.store.buffers ended.tag ≡ Some lent) × (right ≡ place_kept lent)
          the_lent = its_lent (slot app.store.buffers ended.tag) refl (f.buffer.place ∙ some)

          same_label : label ≡ f.t.buffer
          same_label = one_label x h f.t.buffer ended.tag n label labelled

          here_then : slot app.devices.cards c.cap.key ≡ Some one
          here_then = ap (λ i. slot app.devices.cards i) c.key_is ∙ here

          was_then : slot app.store.buffers n.cap.key ≡ Some the_lent.0
          was_then = ap (λ i. slot app.store.buffers i) n.its_key ∙ the_lent.1

          cards_then : Changes app.devices.cards app1.devices.cards c.cap.key (Some (with_reaped one))
          cards_then = subst (λ i. Changes app.devices.cards app1.devices.cards i (Some (with_reaped one))) (sym c.key_is) cards

          buffers_then : Changes app.store.buffers app1.store.buffers n.cap.key (Some (record the_lent.0 { buf = Some (place_kept the_lent.0) }))
          buffers_then = subst (λ (p : Piece). Changes app.store.buffers app1.store.buffers n.cap.key (Some (record the_lent.0 { buf = Some p }))) the_lent.2
              (subst (λ i. Changes app.store.buffers app1.store.buffers i (Some (record the_lent.0 { buf = Some right }))) (sym n.its_key) (restored the_lent.0 the_lent.1 the_lent.2 the_lent.0 the_lent.1))

          holds_then : Holds (around (record y { machine = with_object y.machine v (Objects.vsic (less o.others c.vsic)) }) app1)
          holds_then = back.reaped y app app1 v f.t.buffer h both f.t refl one here_then (none_of one.log free) the_lent.0 was_then ended o.rest o.first o.outcome o.others jobs cards_then buffers_then region labels doors rates nets areas

          said_is : said_of ended.job label ended.outcome ≡ reaped (transfer f.t) o.outcome
          said_is = ap (λ l. said_of ended.job l ended.outcome) same_label ∙ ap (λ z. said_of ended.job f.t.buffer z) f.outcome ∙ ap (λ j. said_of j f.t.buffer o.outcome) f.does ∙ by f.t.put
            where
              by : (p : Bool) → said_of (if p then vic.Write else vic.Read) f.t.buffer o.outcome ≡ (if p then said.Put f.t.buffer o.outcome else said.Got f.t.buffer o.outcome)
              by true = refl
              by false = refl

        pub taken_back : Acts t app app1 row [] (said_of ended.job label ended.outcome) []
        taken_back = comes t app app1 row (said_of ended.job label ended.outcome) [] areas name (λ y g sited h.
            let c = its app v key is y h in
            let o = its_oldest y c in
            let f = of_transfer y c right some in (
              with_object y.machine v (Objects.vsic (less o.others c.vsic)),
              row_is y g h ∙ oldest_row y.machine v g c.held c.vsic (transfer f.t) o.outcome o.others c.there c.object (jobs y h c) ∙ ap (λ (z : Said). record { machine = with_object y.machine v (Objects.vsic (less o.others c.vsic)); said = z; bytes = []; calls = [] }) (sym (said_is y h c)),
              holds_then y h c,
            ))
