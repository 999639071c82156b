-- What the words `log` and `queue` come to: each refusal, and the log that is open.
use Rattle.std.proofs.Common.{◌≡◌, inl, inr, ℕ, suc, ◌<◌, ◌≤◌, ◌-◌, Bool, true, false, not, cond, ◌||◌, ◌&&◌, Contains, List, [], ◌∷◌, length, replicate, refl, sym, ◌∙◌, ap, subst, arith, bytes_eq, nat_eq}
use Rattle.std.specs.Prelude.{Option, Some, None, Result, Ok, Err, All, is_none, is_some, nat_lt, option_map, unwrap_or}
use Rattle.std.specs.List.{list_any}
use Rattle.std.proofs.Math.Bridge.{le_prop}
use Rattle.std.proofs.Math.Logic.{∥∥₁_elim}
use Rattle.std.proofs.lemmas.Bool.{false≢true}
use Rattle.std.proofs.lemmas.Bool.Decides.{nat_tests}
use Rattle.ark_base.specs.declared.kind.Kind.{Kind}
use Rattle.ark_base.specs.declared.refusal.Refusal.{Refusal}
use Rattle.ark_base.specs.declared.refusal.Refusal.TheVariants as r
use Rattle.ark_objects.specs.Held.{at as slot}
use Rattle.ark_media.specs.Journal.{AllBlocks, Event, History, current, device_events}
use Rattle.ark_media.specs.Calls.{Call, Comes, Makes, Reads, Syncs, Told, Writes}
use Rattle.ark_media.specs.Standing.{after}
use Rattle.ark_media.proofs.Planning.{makes_devices}
use Rattle.ark_extents.specs.Blocks.{AreDistinct}
use Rattle.ark_caps.specs.declared.capability.Capability.{Capability}
use Rattle.ark_region.specs.Frames.{IsLeastPlace, IsTaken, LiesInRegion, Piece, Space, frames_of}
use Rattle.ark_log.specs.Buffers.{HasNoPlace, IsNewBuffer}
use Rattle.ark_chain.specs.declared.surveying.Seen.{Seen}
use Rattle.ark_caladan.specs.Listed.{AreFull, IsListed}
use Rattle.ark_caladan.specs.Views.{OnDisk, contents_at}
use Rattle.ark_chain.specs.Survey.{reads}
use Rattle.ark_entry.specs.Found.{Entries, Found, damaged, found, found_of}
use Rattle.ark_caladan.specs.Chain.{Log, stored}
use Rattle.ark_running.specs.Opening.{AtFronts, HasRepairedAt, ReadsArea, RepairsArea, StandsIn}
use Rattle.ark_running.proofs.AreaOpened.{area_repaired, fine_fronts, found_stored, is_stored, reads_fine}
use Rattle.ark_script.specs.declared.said.Said.TheVariants as said
use Rattle.ark_vic.specs.Queue.{Queue, members}
use Rattle.ark_caladan.specs.Open.{Layout}
use Rattle.ark_log.specs.Loaded.{header_bytes, loaded_chain}
use Rattle.ark_log.specs.Open.{IsRight, OpenChain}
use Rattle.ark_running.specs.Opened.{IsRingEmpty, newly_opened, opened_log}
use Rattle.ark_running.specs.Running.{IsRunning}
use Rattle.ark_table.specs.Slots.{Slot}
use Rattle.ark_caps.specs.Labels.{value_at}
use Rattle.ark_machine.specs.Objects
use Rattle.ark_machine.specs.Objects.{Object, Vsic, as_log, as_vsic, held_in}
use Rattle.ark_machine.specs.Machine.{Held, Machine, at, log_at, missing, room_for, vsic_at, with_object}
use Rattle.ark_machine.specs.Cards.{bound_with}
use Rattle.ark_machine.specs.Row.{Ended, Given, Row, has_fault, is_sync, settled, synced_by}
use Rattle.ark_machine.specs.Follow.{Follows, MakesAt, end_of, ends_of}
use Rattle.ark_machine.specs.Control.{has_log}
use Rattle.ark_machine.specs.Logs as rows
use Rattle.ark_machine.specs.Logs.{chain_at, found_in, is_card_busy, opened_of, opening, opening_calls}
use Rattle.ark_held.specs.OpenLogs.{opened_on}
use Rattle.ark_held.specs.Around.{Around, blocks_under, slot_at}
use Rattle.ark_held.specs.Beyond.{Beyond, around}
use Rattle.ark_held.specs.After.{IsTold}
use Rattle.ark_held.specs.Does.{Acts, Does, IsSited, LogsAtFronts}
use Rattle.ark_held.specs.Held.{Holds}
use Rattle.ark_held.specs.declared.app.App.{App}
use Rattle.ark_held.specs.declared.card.StorageCard.{StorageCard}
use Rattle.ark_held.proofs.Doing.{IsBased, comes, in_base, never, refuses}
use Rattle.ark_held.specs.Cards.{IsCard}
use Rattle.ark_held.proofs.Effects.{labels_apart}
use Rattle.ark_held.proofs.Lists.{none_of, some_same}
use Rattle.ark_held.proofs.LogCalls.{AreOfLog}
use Rattle.ark_held.proofs.OpenCards as open_cards
use Rattle.ark_held.proofs.OpenCards.{shut}
use Rattle.ark_held.proofs.Placing.{place_is, place_none}
use Rattle.ark_held.proofs.Sized.{sized}
use Rattle.ark_held.proofs.OpeningCalls.{failed_follow, reads_follow, repairs_follow}
use Rattle.ark_own.specs.Keys.{both_keys, card_key}
use Rattle.ark_own.proofs.Looked.{Looked, each_key, looked_both, is_missing, is_there}
use Rattle.ark_own.proofs.OfCards as cards
use Rattle.ark_own.proofs.OfCards.{HasCard, found_card}
use Rattle.ark_own.proofs.Transferring.{card_looked}
use Rattle.std.specs.Map.{lookup}
use Rattle.ark_base.specs.declared.kind.Kind.TheVariants as kind
use Rattle.ark_caps.specs.declared.capability.CapKind.{CapKind}
use Rattle.ark_caps.specs.declared.capability.CapKind.TheVariants as cap_kind
use Rattle.ark_held.specs.Words.{AreaList, Labels}
use Rattle.ark_held.specs.Inside.{AreasInside}
use Rattle.ark_held.specs.declared.areas.Area.{Area}
use Rattle.ark_logs.specs.Areas.{if_kind, log_area, log_found, log_granted, log_under}
use Rattle.ark_logs.specs.declared.areas.LogArea.{LogArea}
use Rattle.ark_log.specs.declared.loading.LoadFault.TheVariants.{Memory, DeviceFault, Damaged}
use Rattle.ark_script.specs.Text.{wants_memory}
use Rattle.ark_logs.specs.declared.opening.OpenFault.{OpenFault}
use Rattle.ark_logs.specs.declared.opening.OpenFault.TheVariants.{NoBuffer, Load}
use Rattle.ark_logs.specs.Opening.{HasNotOpened, IsDamaged, refused_by, FailsAt, HasFailed, HasGivenBack, HasOpened, IsReadDamaged, KeepsRest}
use Rattle.ark_logs.proofs.OfAreas as areas
use Rattle.ark_logs.proofs.OfAreas.{HasLog, found_log}
use Rattle.ark_logs.proofs.OpenRows as row
use Rattle.ark_logs.proofs.OfEvents.{reads_of, repairs_of}
use Rattle.ark_logs.proofs.Opens.{full_spans, holds_later, its_log, logs_later, on_spans, stands_in, synced_put, synced_there, under}
use Rattle.ark_logs.proofs.Opened.{opened}
use Rattle.ark_logs.proofs.Returned.{returned}

-- How the calls of a line ended.

came_ok : (c : Call) (ok : Bool) (e : Event) → Comes c ok e → (end_of e).ok ≡ ok
came_ok (Reads n) ok e came = ap (λ (x : Event). (end_of x).ok) came
came_ok (Writes n content) ok e came = ap (λ (x : Event). (end_of x).ok) came.2
came_ok Syncs ok e came = ap (λ (x : Event). (end_of x).ok) came

-- a call failed where the plan did
pub has_faults : (cs : List Call) (ok : Bool) (es : List Event) → Makes cs ok es → has_fault (ends_of es) ≡ not ok
has_faults [] ok [] makes = ap not (sym makes)
has_faults [] ok (e ∷ es) makes = absurd makes
has_faults (c ∷ cs) ok [] makes = absurd makes
has_faults (c ∷ cs) ok (e ∷ es) (inl m) = rw (came_ok c true e m.0) (has_faults cs ok es m.1)
has_faults (c ∷ cs) ok (e ∷ es) (inr m) = rw (came_ok c false e m.0, m.1) refl

-- reads settle nothing
pub reads_settle : (ns : List ℕ) (ok : Bool) (es : List Event) (m : Machine) → Makes (reads ns) ok es → synced_by (ends_of es) m ≡ m
reads_settle ns ok es m makes = rw (none ns es makes) refl
  where
    none : (ns : List ℕ) (es : List Event) → Makes (reads ns) ok es → list_any (λ (e : Ended). e.ok && is_sync e.verb) (ends_of es) ≡ false
    none [] [] makes = refl
    none [] (e ∷ es) makes = absurd makes
    none (n ∷ ns) [] makes = absurd makes
    none (n ∷ ns) (e ∷ es) (inl m) = rw m.0 (none ns es m.1)
    none (n ∷ ns) (e ∷ es) (inr m) = rw (m.0, m.2) refl

-- the history before some events has the base behind them
whole_before : (t : Told) (h : History) (es : List Event) → ((g : History) → t.history ≡ Some g → AllBlocks g.base) → t.history ≡ Some (after h es) → AllBlocks h.base
whole_before t h es whole is = whole (after h es) is

module _ (t : Told) (app : App) (k : Kind) (s v : List ℕ) where
  -- Nothing is found.

  abbrev Row_ : Type 0
  Row_ = Machine → Given → Row

  abbrev pub row_of : Bool → Machine → Given → Row
  row_of wants m g = rows.open_row k m s v (record g { no_memory = wants })

  log_looked : (x : Around) (p : Result LogArea Refusal) → areas.FoundAs x k s p → Looked x.machine (s ∷ []) (is_none (chain_at x.machine s k)) p
  log_looked x (Ok a) f = (is_there x.machine s (rw f.there refl), rw (f.there, f.object, f.kind_is) refl)
  log_looked x (Err (r.NoGrant n)) f = is_missing x.machine s (rw f.1 refl) ∙ ap (λ z. Some z) (sym f.0)
  log_looked x (Err r.WrongKind) f = (is_there x.machine s (rw f.1 refl), rw f.2 refl)
  log_looked x (Err _) f = absurd f

  looked : (y : Beyond) → Holds (around y app) → Looked y.machine (s ∷ v ∷ []) (row.other k s v y.machine) (both_keys (log_area app.labels app.areas k s) (card_key app.labels v))
  looked y h = looked_both y.machine (s ∷ []) (v ∷ []) _ _ _ _ (log_looked (around y app) _ (found_log (around y app) k s h _ refl)) (card_looked (around y app) v _ (found_card (around y app) v h _ refl))

  pub no_keys : (wants : Bool) (e : Refusal) → Err e ≡ both_keys (log_area app.labels app.areas k s) (card_key app.labels v) → Acts t app app (row_of wants) [] (said.Refused e) []
  no_keys wants e is = refuses t app (row_of wants) e (λ y g sited h. row.first_refused k s v y.machine (record g { no_memory = wants }) e
      (row.not_found k s v (LogArea × ℕ) y.machine (record g { no_memory = wants }) e h.made (subst (λ (z : Result (LogArea × ℕ) Refusal). Looked y.machine (s ∷ v ∷ []) (row.other k s v y.machine) z) (sym is) (looked y h))))

  module _ (area : LogArea) (key : ℕ) (is : Ok (area, key) ≡ both_keys (log_area app.labels app.areas k s) (card_key app.labels v)) where
    abbrev both : (Ok area ≡ log_area app.labels app.areas k s) × (Ok key ≡ card_key app.labels v)
    both = each_key area key _ _ is

    abbrev pub its_area : (y : Beyond) → Holds (around y app) → HasLog (around y app) k s area
    its_area y h = found_log (around y app) k s h (Ok area) both.0

    abbrev pub its_card : (y : Beyond) → Holds (around y app) → HasCard (around y app) v key
    its_card y h = cards.its app v key both.1 y h

    there : (y : Beyond) → Holds (around y app) → (missing y.machine (s ∷ v ∷ []) ≡ None) × (row.other k s v y.machine ≡ false)
    there y h = subst (λ (z : Result (LogArea × ℕ) Refusal). Looked y.machine (s ∷ v ∷ []) (row.other k s v y.machine) z) (sym is) (looked y h)

    pub no_card_there : (wants : Bool) (app1 : App) (e : Refusal) → slot app.devices.cards key ≡ None → Acts t app app1 (row_of wants) [] (said.Refused e) []
    no_card_there wants app1 e gone = never t app app1 (row_of wants) (said.Refused e) [] (λ y h. cards.never_gone app v key both.1 y h gone)

    busy_by : (wants : Bool) → ((y : Beyond) → Holds (around y app) → row.is_busy k s v y.machine ≡ true) → Acts t app app (row_of wants) [] (said.Refused r.Busy) []
    busy_by wants busy = refuses t app (row_of wants) r.Busy (λ y g sited h. row.first_refused k s v y.machine (record g { no_memory = wants }) r.Busy
        (row.busy k s v y.machine h.made (there y h).0 (there y h).1 (record g { no_memory = wants }) (busy y h)))

    or_left : (a b : Bool) → a ≡ true → (a || b) ≡ true
    or_left true b is = refl
    or_left false b is = absurd (false≢true is)

    or_right : (a b : Bool) → b ≡ true → (a || b) ≡ true
    or_right true b is = refl
    or_right false b is = is

    module _ (one : StorageCard) (here : slot app.devices.cards key ≡ Some one) where
      -- a log is open on the card
      pub card_in_use : (wants : Bool) → is_some one.log ≡ true → Acts t app app (row_of wants) [] (said.Refused r.Busy) []
      card_in_use wants has = busy_by wants (λ y h. or_right (is_some (opened_of (log_at y.machine s))) (is_card_busy y.machine v) (rw (cards.log_same app v key both.1 one here y (its_card y h) ∙ has) refl))

      -- a descriptor is in its ring
      pub ring_in_use : (wants : Bool) → 0 < members one.vsic.ring → Acts t app app (row_of wants) [] (said.Refused r.Busy) []
      ring_in_use wants some = busy_by wants (λ y h.
          let c = its_card y h in
          let count = cards.count_same app v key both.1 one here y c in
          let many : 0 < held_in c.vsic.queue = omega (arith, some, count) in
          let lt : nat_lt 0 (held_in c.vsic.queue) ≡ true = grind (arith, nat_tests, many) in
          or_right (is_some (opened_of (log_at y.machine s))) (is_card_busy y.machine v) (or_right (has_log y.machine v) (unwrap_or (option_map (λ (x : Vsic). nat_lt 0 (held_in x.queue)) (vsic_at y.machine v)) false) (rw (c.there, c.object) lt)))

      -- the log is open on some card
      pub open_elsewhere : (wants : Bool) (p : List ℕ × Capability) → opened_on app.devices.cards area.grant app.labels ≡ Some p → Acts t app app (row_of wants) [] (said.Refused r.Busy) []
      open_elsewhere wants p is_on = busy_by wants (λ y h.
          let l = its_area y h in
          let at = ap (λ g. opened_on app.devices.cards g app.labels) l.grant_is ∙ is_on in
          let o = open_cards.open_there y app h s l.cap l.label p at in
          or_left (is_some (opened_of (log_at y.machine s))) (is_card_busy y.machine v) (rw (open_cards.is_there y app h s l.cap l.label p at, o.object, o.is_open) refl))

      module _ (free : is_some one.log ≡ false) (empty : members one.vsic.ring ≡ 0) (closed_on : opened_on app.devices.cards area.grant app.labels ≡ None) where
        closed : (y : Beyond) (h : Holds (around y app)) → (its_area y h).log.opened ≡ None
        closed y h = let l = its_area y h in shut y app h s l.cap l.label l.fits.slot.blocks l.log l.log.opened refl l.fits.opened (ap (λ g. opened_on app.devices.cards g app.labels) l.grant_is ∙ closed_on)

        not_busy : (y : Beyond) → Holds (around y app) → row.is_busy k s v y.machine ≡ false
        not_busy y h =
            let l = its_area y h in
            let c = its_card y h in
            let shut_there = closed y h in
            let no_log = cards.log_same app v key both.1 one here y c ∙ free in
            let count = cards.count_same app v key both.1 one here y c in
            let none : held_in c.vsic.queue ≡ 0 = omega (arith, count, empty) in
            rw (l.there, l.object, shut_there, no_log, c.there, c.object, none) refl

        no_room : (y : Beyond) (h : Holds (around y app)) → HasNoPlace app.store.region.taken 512 → room_for y.machine 1 ≡ None
        no_room y h none = place_none (around y app) h 1 (omega arith) (sized y app h) none

        room : (y : Beyond) (h : Holds (around y app)) (space : Space) (header : Piece) → header.len ≡ 512 → IsNewBuffer app.store.region space (replicate 512 0) header → room_for y.machine 1 ≡ Some header.start
        room y h space header whole new = place_is (around y app) h 1 (omega arith) (sized y app h) header.start
            (subst (λ n. IsLeastPlace (IsTaken app.store.region.taken) (length app.store.region.taken) (frames_of n) header.start) whole new.place)

        pub no_buffer : (wants : Bool) → HasNoPlace app.store.region.taken 512 → Acts t app app (row_of wants) [] (said.Refused r.NoBuffer) []
        no_buffer wants none = refuses t app (row_of wants) r.NoBuffer (λ y g sited h. row.first_refused k s v y.machine (record g { no_memory = wants }) r.NoBuffer
            (row.no_room k s v y.machine h.made (there y h).0 (there y h).1 (not_busy y h) (record g { no_memory = wants }) (no_room y h none)))

        module _ (app1 : App) (rest : KeepsRest app app1) where
          module _ (back : HasGivenBack app.store.region app1.store.region) (devices : app1.devices ≡ app.devices) where
            room_back : (y : Beyond) (h : Holds (around y app)) → room_for y.machine 1 ≡ Some back.header.start
            room_back y h = room y h back.space back.header back.whole back.taken

            pub no_memory : Acts t app app1 (row_of true) [] (said.Refused r.NoMemory) []
            no_memory = comes t app app1 (row_of true) (said.Refused r.NoMemory) [] rest.areas rest.name (λ y g sited h.
                let l = its_area y h in (
                  y.machine,
                  row.first_refused k s v y.machine (record g { no_memory = true }) r.NoMemory
                      (row.no_memory k s v y.machine h.made (there y h).0 (there y h).1 (not_busy y h) back.header.start (room_back y h) (record g { no_memory = true }) refl),
                  returned y app app1 h s l.held l.log l.there l.object l.cap l.label l.fits (closed y h) back rest devices,
                ))

            module _ (based : IsBased t) (whole : (x : History) → t.history ≡ Some x → AllBlocks x.base) (es : List Event) where
              -- What a failed opening leaves.
              module _ (y : Beyond) (h : Holds (around y app)) (told : IsTold t y.history es) (sited : IsSited (around y app) t.blocks) (of : AreOfLog (its_area y h).fits.slot.blocks es)
                  (listed : AtFronts (λ x. IsListed x (its_area y h).fits.slot.blocks (its_area y h).log) y.history es) (full : AtFronts (λ x. AreFull x (its_area y h).fits.slot.blocks) y.history es) where
                then_returned : Holds (around (record y { history = after y.history es; machine = synced_by (ends_of es) y.machine }) app1)
                then_returned =
                    let l = its_area y h in
                    let q = record y { history = after y.history es; machine = synced_by (ends_of es) y.machine } in
                    let inside = in_base y app t es told based sited in
                    let hq = holds_later y app h k s area l (closed y h) t.blocks sited inside (whole_before t y.history es whole told) es of listed full in
                    let lq = found_log (around q app) k s hq (Ok area) both.0 in
                    returned q app app1 hq s lq.held lq.log lq.there lq.object lq.cap lq.label lq.fits (closed q hq) back rest devices

                logs_then : LogsAtFronts (around y app) es
                logs_then = logs_later y app h k s area (its_area y h) (closed y h) t.blocks sited (in_base y app t es told based sited) (whole_before t y.history es whole told) es of listed full

              module _ (y : Beyond) (h : Holds (around y app)) (told : IsTold t y.history es) (sited : IsSited (around y app) t.blocks) (two : 2 ≤ length area.spans) (distinct : AreDistinct area.spans) where
                abbrev bs : List ℕ
                bs = (its_area y h).fits.slot.blocks

                stood : StandsIn k y.history bs (its_area y h).log
                stood = stands_in y app h k s area (its_area y h) (closed y h) t.blocks sited (in_base y app t es told based sited) (whole_before t y.history es whole told) two distinct

                spans_on : OnDisk area.spans y.history.base
                spans_on = on_spans y app h k s area (its_area y h) (closed y h) t.blocks sited (in_base y app t es told based sited) (whole_before t y.history es whole told) distinct

                spans_full : AreFull y.history area.spans
                spans_full = full_spans y app h k s area (its_area y h) (closed y h) t.blocks sited (in_base y app t es told based sited) (whole_before t y.history es whole told)

                its_under : blocks_under (around y app) s ≡ bs
                its_under = under y app h k s area (its_area y h) (closed y h) t.blocks sited (in_base y app t es told based sited) (whole_before t y.history es whole told)

                read_at : (ok : Bool) → ReadsArea area.spans ok es → ReadsArea bs ok es
                read_at ok reads = subst (λ (l : List ℕ). ReadsArea l ok es) (sym (its_area y h).blocks) reads

                repaired_at : (seen : Seen) (lengths : List ℕ) (ok : Bool) → HasRepairedAt k y.history area.spans seen lengths ok es → HasRepairedAt k y.history bs seen lengths ok es
                repaired_at seen lengths ok has = subst (λ (l : List ℕ). HasRepairedAt k y.history l seen lengths ok es) (sym (its_area y h).blocks) has

                its_found : (x : Found) → stored (its_area y h).log ≡ x → found_in (log_at y.machine s) ≡ x
                its_found x stores = rw ((its_area y h).there, (its_area y h).object) stores

                -- What a row comes to that is refused behind these calls.
                module _ (g : Given) (grant : ℕ) (m : Machine) (e : Refusal) (x : Found) (row_is : rows.open_row k y.machine s v (record g { no_memory = false }) ≡ record { machine = m; said = said.Refused e; bytes = []; calls = opening_calls s x })
                    (of : AreOfLog bs es) (listed : AtFronts (λ z. IsListed z bs (its_area y h).log) y.history es) (full : AtFronts (λ z. AreFull z bs) y.history es) (machine : synced_by (ends_of es) y.machine ≡ m)
                    (follows : Follows (MakesAt (blocks_under (around y app))) (opening_calls s x) es) where
                  refused_does : Does y app app1 (row_of false y.machine g) es (said.Refused e) [] grant
                  refused_does = subst (λ (w : Row). Does y app app1 w es (said.Refused e) [] grant) (sym row_is) (record {
                    said = refl;
                    bytes = refl;
                    calls = follows;
                    numbers = y.numbers;
                    grown = λ i n at. inl at;
                    holds = subst (λ (z : Machine). Holds (around (record y { history = after y.history es; machine = z }) app1)) machine (then_returned y h told sited of listed full);
                    logs = logs_then y h told sited of listed full;
                    areas = rest.areas;
                    name = rest.name;
                  })

                module _ (g : Given) (came : g.ended ≡ ends_of es) (grant : ℕ) where
                  faulty : has_fault (ends_of es) ≡ true → (x : Found) → stored (its_area y h).log ≡ x
                      → rows.open_row k y.machine s v (record g { no_memory = false }) ≡ record { machine = synced_by (ends_of es) y.machine; said = said.Refused r.DeviceFault; bytes = []; calls = opening_calls s x }
                  faulty fault x stores =
                      row.fault_row k s v y.machine h.made (there y h).0 (there y h).1 (not_busy y h) back.header.start (room_back y h) (record g { no_memory = false }) refl (ap has_fault came ∙ fault)
                      ∙ (λ i. record { machine = synced_by (came i) y.machine; said = said.Refused r.DeviceFault; bytes = []; calls = opening_calls s (its_found x stores i) })

                  reading_failed : ReadsArea area.spans false es → Does y app app1 (row_of false y.machine g) es (said.Refused r.DeviceFault) [] grant
                  reading_failed reads =
                      let here = read_at false reads in
                      let fine = reads_fine k y.history bs (its_area y h).log stood false es here in
                      let x = stored (its_area y h).log in
                      refused_does g grant (synced_by (ends_of es) y.machine) r.DeviceFault x (faulty (has_faults _ false es here.made) x refl) (reads_of bs false es here) (λ front back split. (fine front back split).0) (λ front back split. (fine front back split).1) refl
                      (failed_follow (blocks_under (around y app)) s x es (subst (λ (l : List ℕ). ReadsArea l false es) (sym its_under) here))

                  repair_failed : (seen : Seen) (lengths : List ℕ) → HasRepairedAt k y.history area.spans seen lengths false es → Does y app app1 (row_of false y.machine g) es (said.Refused r.DeviceFault) [] grant
                  repair_failed seen lengths has =
                      let here = repaired_at seen lengths false has in
                      let fine = fine_fronts k y.history bs (its_area y h).log seen lengths false es stood here in
                      let repairs = area_repaired k y.history bs (its_area y h).log seen lengths false es stood here in
                      let l = here.found.list in
                      refused_does g grant (synced_by (ends_of es) y.machine) r.DeviceFault (found l) (faulty (has_faults _ false es here.made) (found l) (is_stored k y.history bs (its_area y h).log seen lengths false es stood here))
                      (repairs_of bs (header_bytes k seen) false es repairs) (λ front back split. (fine front back split).0) (λ front back split. (fine front back split).1) refl
                      (repairs_follow (blocks_under (around y app)) s l (header_bytes k seen) false es (subst (λ (bl : List ℕ). RepairsArea bl (header_bytes k seen) false es) (sym its_under) repairs))

                  is_damaged : (n : ℕ) → ReadsArea area.spans true es → found_of k (contents_at (current y.history.base y.history.journal) area.spans) ≡ damaged n → Does y app app1 (row_of false y.machine g) es (said.Refused (r.Damaged n)) [] grant
                  is_damaged n reads damage =
                      let here = read_at true reads in
                      let fine = reads_fine k y.history bs (its_area y h).log stood true es here in
                      let stores = found_stored k y.history bs (its_area y h).log stood (damaged n) (subst (λ (l : List ℕ). found_of k (contents_at (current y.history.base y.history.journal) l) ≡ damaged n) (sym (its_area y h).blocks) damage) in
                      refused_does g grant y.machine (r.Damaged n) (damaged n)
                      (row.damaged_row k s v y.machine h.made (there y h).0 (there y h).1 (not_busy y h) back.header.start (room_back y h) (record g { no_memory = false }) n refl (ap has_fault came ∙ has_faults _ true es here.made) (its_found (damaged n) stores))
                      (reads_of bs true es here) (λ front back split. (fine front back split).0) (λ front back split. (fine front back split).1) (reads_settle here.read true es y.machine here.made)
                      (reads_follow (blocks_under (around y app)) s n true es (subst (λ (l : List ℕ). ReadsArea l true es) (sym its_under) here))

              pub fault : HasFailed t k area.spans es → Acts t app app1 (row_of false) es (said.Refused r.DeviceFault) []
              fault f grant now = record {
                devices = alone f.at;
                does = λ y g tick came told fresh sited h. by y h told sited g came grant f.at;
              }
                where
                  alone : FailsAt t k area.spans es → device_events es ≡ es
                  alone (inl reads) = makes_devices _ false es reads.made
                  alone (inr has) = has.2

                  by : (y : Beyond) (h : Holds (around y app)) (told : IsTold t y.history es) (sited : IsSited (around y app) t.blocks) (g : Given) → g.ended ≡ ends_of es → (grant : ℕ) → FailsAt t k area.spans es
                      → Does y app app1 (row_of false y.machine g) es (said.Refused r.DeviceFault) [] grant
                  by y h told sited g came grant (inl reads) = reading_failed y h told sited f.two f.distinct g came grant reads
                  by y h told sited g came grant (inr has) = repair_failed y h told sited f.two f.distinct g came grant has.0 has.1 (has.3 y.history told (spans_on y h told sited f.two f.distinct) (spans_full y h told sited f.two f.distinct))

              pub damage : (n : ℕ) → IsReadDamaged t k area.spans n es → Acts t app app1 (row_of false) es (said.Refused (r.Damaged n)) []
              damage n d grant now = record {
                devices = makes_devices _ true es d.read.made;
                does = λ y g tick came told fresh sited h. is_damaged y h told sited d.two d.distinct g came grant n d.read (d.damage y.history told (spans_on y h told sited d.two d.distinct) (spans_full y h told sited d.two d.distinct));
              }

            -- an area of a log is never so small
            pub never_small : (n : ℕ) → length area.spans < 2 → Acts t app app1 (row_of false) [] (said.Refused (r.Damaged n)) []
            never_small n few = never t app app1 (row_of false) (said.Refused (r.Damaged n)) [] (λ y h.
                let l = its_area y h in
                let two = l.fits.two in
                let same = ap (λ (bs : List ℕ). length bs) l.blocks in
                let no : ⊥ = omega (arith, two, few, same) in no)

        -- It is opened.
        module _ (app1 : App) (list : ℕ × ℕ) (es : List Event) (o : HasOpened t k area.grant area.spans key list app app1 es) (based : IsBased t) (whole : (x : History) → t.history ≡ Some x → AllBlocks x.base)
            (runs : (kind : Kind) (x : History) (bl : List ℕ) (g : Log) (seen : Seen) (lengths : List ℕ) (events : List Event) (card : List ℕ) (grant : ℕ) (header : Piece) (space : Space) (ring : Queue) → StandsIn kind x bl g
            → HasRepairedAt kind x bl seen lengths true events → LiesInRegion space.taken header → header.len ≡ 512 → IsRingEmpty ring → IsRight (loaded_chain kind grant (length bl - 1) header seen lengths)
            → (p : Layout) × IsRunning (after x events) bl space ring (loaded_chain kind grant (length bl - 1) header seen lengths) p (opened_log card (loaded_chain kind grant (length bl - 1) header seen lengths) g) (newly_opened card (loaded_chain kind grant (length bl - 1) header seen lengths))) where
          nothing : {X : Type 0} (xs : List X) → length xs ≡ 0 → xs ≡ []
          nothing [] none = refl
          nothing (z ∷ zs) none = absurd (let no : ⊥ = omega (arith, none) in no)

          none_posted : one.vsic.ring.posted ≡ []
          none_posted = nothing one.vsic.ring.posted (omega (arith, empty))

          none_unreaped : one.vsic.ring.unreaped ≡ []
          none_unreaped = nothing one.vsic.ring.unreaped (omega (arith, empty))

          no_log : one.log ≡ None
          no_log = none_of one.log free

          -- nothing of an empty ring has moved
          none_moved : one.vsic.ring.moved ≡ 0
          none_moved =
              let low : one.vsic.ring.moved ≤ 0 = ∥∥₁_elim app.devices.sound le_prop (λ all. let rests = (all app.store.region.taken (sym app.memory) key one here).none none_posted in omega (arith, rests)) in
              omega (arith, low)

          region_taken : app1.store.region.taken ≡ o.space.taken
          region_taken = o.loaded.held.taken

          module _ (y : Beyond) (h : Holds (around y app)) (told : IsTold t y.history es) (sited : IsSited (around y app) t.blocks) where
            abbrev l : HasLog (around y app) k s area
            l = its_area y h

            abbrev c : HasCard (around y app) v key
            c = its_card y h

            abbrev its_blocks : List ℕ
            its_blocks = l.fits.slot.blocks

            abbrev g0 : Log
            g0 = l.log

            inside : (n : List ℕ) (u : Slot) (b : ℕ) → slot_at (around y app) n ≡ Some u → Contains u.blocks b → b < length y.history.base
            inside = in_base y app t es told based sited

            all_whole : AllBlocks y.history.base
            all_whole = whole_before t y.history es whole told

            stood_in : StandsIn k y.history its_blocks g0
            stood_in = stands_in y app h k s area l (closed y h) t.blocks sited inside all_whole o.loaded.two o.loaded.distinct

            repaired : HasRepairedAt k y.history its_blocks o.loaded.seen o.loaded.lengths true es
            repaired = subst (λ (z : List ℕ). HasRepairedAt k y.history z o.loaded.seen o.loaded.lengths true es) (sym l.blocks)
                (o.loaded.repaired y.history told (on_spans y app h k s area l (closed y h) t.blocks sited inside all_whole o.loaded.distinct) (full_spans y app h k s area l (closed y h) t.blocks sited inside all_whole))

            fine : AtFronts (λ z. IsListed z its_blocks g0 × AreFull z its_blocks) y.history es
            fine = fine_fronts k y.history its_blocks g0 o.loaded.seen o.loaded.lengths true es stood_in repaired

            repairs : RepairsArea its_blocks (header_bytes k o.loaded.seen) true es
            repairs = area_repaired k y.history its_blocks g0 o.loaded.seen o.loaded.lengths true es stood_in repaired

            of_log : AreOfLog its_blocks es
            of_log = repairs_of its_blocks (header_bytes k o.loaded.seen) true es repairs

            abbrev q : Beyond
            q = record y { history = after y.history es; machine = synced_by (ends_of es) y.machine }

            hq : Holds (around q app)
            hq = holds_later y app h k s area l (closed y h) t.blocks sited inside all_whole es of_log (λ front back split. (fine front back split).0) (λ front back split. (fine front back split).1)

            abbrev lq : HasLog (around q app) k s area
            lq = record {
              held = l.held;
              cap = l.cap;
              log = l.log;
              label = l.label;
              grant_is = l.grant_is;
              there = synced_there s (ends_of es) y.machine l.held (ap settled l.object ∙ sym l.object) l.there;
              object = l.object;
              serial = l.serial;
              fits = its_log y app h k s area l (closed y h) t.blocks sited inside all_whole es of_log (λ front back split. (fine front back split).0) (λ front back split. (fine front back split).1);
              blocks = l.blocks;
              kind_is = l.kind_is;
              its_kind = l.its_kind;
            }

            -- its card is as it was
            card_there : at q.machine v ≡ Some c.held
            card_there = synced_there v (ends_of es) y.machine c.held (ap settled c.object ∙ sym c.object) c.there

            abbrev cq : HasCard (around q app) v key
            cq =
                let found = its_card q hq in
                let held = some_same (at q.machine v) found.held c.held found.there card_there in
                let object = sym found.object ∙ ap (λ (z : Held). z.object) held ∙ c.object in
                let vsic : found.vsic ≡ c.vsic = some_same (Some found.vsic) found.vsic c.vsic refl (ap as_vsic object) in
                let cap = some_same (value_at app.labels v) found.cap c.cap found.label c.label in
                record {
                  held = c.held;
                  cap = c.cap;
                  vsic = c.vsic;
                  label = c.label;
                  key_is = c.key_is;
                  there = card_there;
                  object = c.object;
                  fits = subst (λ (z : Vsic). IsCard (around q app) v c.cap z) vsic (subst (λ (z : Capability). IsCard (around q app) v z found.vsic) cap found.fits);
                }

            abbrev chain0 : OpenChain
            chain0 = loaded_chain k area.grant (length its_blocks - 1) o.header o.loaded.seen o.loaded.lengths

            chain_same : o.chain ≡ chain0
            chain_same = o.loaded.chain_is ∙ ap (λ (z : List ℕ). loaded_chain k area.grant (length z - 1) o.header o.loaded.seen o.loaded.lengths) (sym l.blocks)

            running : (p : Layout) × IsRunning (after y.history es) its_blocks app1.store.region one.vsic.ring chain0 p (opened_log v chain0 g0) (newly_opened v chain0)
            running = runs k y.history its_blocks g0 o.loaded.seen o.loaded.lengths es v area.grant o.header app1.store.region one.vsic.ring stood_in repaired
                (subst (λ (z : List Bool). LiesInRegion z o.header) (sym region_taken) o.taken.lies) o.whole (record { posted = none_posted; unreaped = none_unreaped; moved = none_moved }) (subst (λ (z : OpenChain). IsRight z) chain_same o.right)

            runs_then : IsRunning q.history its_blocks app1.store.region one.vsic.ring o.chain running.0 (opened_log v o.chain g0) (newly_opened v o.chain)
            runs_then = subst (λ (z : OpenChain). IsRunning q.history its_blocks app1.store.region one.vsic.ring z running.0 (opened_log v z g0) (newly_opened v z)) (sym chain_same) running.1

            start_is : o.chain.header_at ≡ o.header.start
            start_is = ap (λ (z : OpenChain). z.header_at) o.loaded.chain_is

            abbrev list0 : Entries
            list0 = repaired.found.list

            stores : stored g0 ≡ found list0
            stores = is_stored k y.history its_blocks g0 o.loaded.seen o.loaded.lengths true es stood_in repaired

            opened_holds : Holds (around (record q { machine = with_object (with_object q.machine s (Objects.log (opened_log v o.chain g0))) v (Objects.vsic (bound_with l.held.serial c.vsic)) }) app1)
            opened_holds = opened q app app1 s v hq k area key lq both.1 cq (closed y h) one here no_log none_posted none_unreaped o.space o.header o.whole o.taken o.chain (ap (λ (z : OpenChain). z.grant) o.loaded.chain_is) start_is
                region_taken o.sized (λ p apart. o.loaded.held.others p apart) o.card o.rest running.0 runs_then

            apart : bytes_eq s v ≡ false
            apart = labels_apart y.machine s v l.held c.held l.there c.there (λ e. false≢true (sym (ap (λ (z : Object). is_some (as_log z)) (sym l.object ∙ e ∙ c.object))))

            machine_is : synced_by (ends_of es) (with_object (with_object y.machine s (Objects.log (opening v (Some o.header.start) g0))) v (Objects.vsic (bound_with l.held.serial c.vsic)))
                ≡ with_object (with_object q.machine s (Objects.log (opened_log v o.chain g0))) v (Objects.vsic (bound_with l.held.serial c.vsic))
            machine_is =
                ap (λ n. synced_by (ends_of es) (with_object (with_object y.machine s (Objects.log (opening v (Some n) g0))) v (Objects.vsic (bound_with l.held.serial c.vsic)))) (sym start_is)
                ∙ synced_put v (ends_of es) (with_object y.machine s (Objects.log (opened_log v o.chain g0))) (Objects.vsic (bound_with l.held.serial c.vsic)) refl
                ∙ ap (λ (m : Machine). with_object m v (Objects.vsic (bound_with l.held.serial c.vsic))) (synced_put s (ends_of es) y.machine (Objects.log (opened_log v o.chain g0)) refl)

            said_is : said.Pair list0.first (length list0.payloads) ≡ said.Pair list.0 list.1
            said_is =
                let chain = o.loaded.chain_is in
                let first = ap (λ (z : ℕ × ℕ). z.0) o.list_is ∙ ap (λ (z : OpenChain). z.first) chain ∙ repaired.found.first in
                let count = ap (λ (z : ℕ × ℕ). z.1) o.list_is ∙ ap (λ (z : OpenChain). z.count) chain ∙ repaired.found.count in
                (λ i. said.Pair (sym first i) (sym count i))

            opens_does : (g : Given) → g.ended ≡ ends_of es → (grant : ℕ) → Does y app app1 (row_of false y.machine g) es (said.Pair list.0 list.1) [] grant
            opens_does g came grant =
                let done = row.done_row k s v y.machine h.made (there y h).0 (there y h).1 (not_busy y h) o.header.start (room y h o.space o.header o.whole o.taken) (record g { no_memory = false }) list0 g0 l.held c.vsic c.held refl (ap has_fault came ∙ has_faults _ true es repaired.made)
                l.there l.object c.there c.object apart stores in
                subst (λ (w : Row). Does y app app1 w es (said.Pair list.0 list.1) [] grant) (sym done) (record {
                  said = sym said_is;
                  bytes = refl;
                  calls = repairs_follow (blocks_under (around y app)) s list0 (header_bytes k o.loaded.seen) true es
                      (subst (λ (z : List ℕ). RepairsArea z (header_bytes k o.loaded.seen) true es) (sym (under y app h k s area l (closed y h) t.blocks sited inside all_whole)) repairs);
                  numbers = y.numbers;
                  grown = λ i n is. inl is;
                  holds = subst (λ (m : Machine). Holds (around (record q { machine = m }) app1)) (sym (ap (λ (ends : List Ended). synced_by ends (with_object (with_object y.machine s (Objects.log (opening v (Some o.header.start) g0))) v (Objects.vsic (bound_with l.held.serial c.vsic)))) came ∙ machine_is)) opened_holds;
                  logs = logs_later y app h k s area l (closed y h) t.blocks sited inside all_whole es of_log (λ front back split. (fine front back split).0) (λ front back split. (fine front back split).1);
                  areas = o.rest.areas;
                  name = o.rest.name;
                })

          pub opens : Acts t app app1 (row_of false) es (said.Pair list.0 list.1) []
          opens grant now = record { devices = o.loaded.devices; does = λ y g tick came told fresh sited h. opens_does y h told sited g came grant }

        -- Why it was not opened.
        pub not_opened : (app1 : App) (f : OpenFault) (es : List Event) → IsBased t → ((x : History) → t.history ≡ Some x → AllBlocks x.base) → HasNotOpened t k area.spans f app app1 es
            → Acts t app app1 (row_of (wants_memory (said.Refused (refused_by f)))) es (said.Refused (refused_by f)) []
        not_opened app1 NoBuffer es based whole has =
            subst (λ (z : App). Acts t app z (row_of false) es (said.Refused r.NoBuffer) []) (sym has.1) (subst (λ (z : List Event). Acts t app app (row_of false) z (said.Refused r.NoBuffer) []) (sym has.2) (no_buffer false has.0))
        not_opened app1 (Load Memory) es based whole has =
            subst (λ (z : List Event). Acts t app app1 (row_of true) z (said.Refused r.NoMemory) []) (sym has.0) (no_memory app1 has.2 has.1 has.3)
        not_opened app1 (Load DeviceFault) es based whole has = fault app1 has.2 has.1 has.3 based whole es has.0
        not_opened app1 (Load (Damaged n)) es based whole has = by has.0
          where
            by : IsDamaged t k area.spans n es → Acts t app app1 (row_of false) es (said.Refused (r.Damaged n)) []
            by (inl small) = subst (λ (z : List Event). Acts t app app1 (row_of false) z (said.Refused (r.Damaged n)) []) (sym small.2) (never_small app1 has.2 has.1 has.3 n small.0)
            by (inr read) = damage app1 has.2 has.1 has.3 based whole es n read

-- What the code has looked at.

-- something is found where it is not nothing
some_found : {X : Type 0} (o : Option X) → is_some o ≡ true → (x : X) × (o ≡ Some x)
some_found (Some x) is = (x, refl)
some_found None is = absurd (false≢true is)

mapped : {X Y : Type 0} (f : X → Y) (o : Option X) → is_some (option_map f o) ≡ is_some o
mapped f None = refl
mapped f (Some x) = refl

pub some_mapped : {X Y : Type 0} (f : X → Y) (o : Option X) → is_some (option_map f o) ≡ true → (x : X) × (o ≡ Some x)
some_mapped f o is = some_found o (sym (mapped f o) ∙ is)

pub none_mapped : {X Y : Type 0} (f : X → Y) (o : Option X) → is_some (option_map f o) ≡ false → o ≡ None
none_mapped f o is = none_of o (sym (mapped f o) ∙ is)

-- A device has the blocks of the area.
module _ (size : ℕ) where
  abbrev Below : Result LogArea Refusal → Type 0
  Below (Ok a) = All (λ n. n < size) a.spans
  Below (Err e) = Unit {0}

  below_kind : (k z : Kind) (a : LogArea) → All (λ n. n < size) a.spans → Below (if_kind k z a)
  below_kind kind.Log kind.Log a all = all
  below_kind kind.Queue kind.Queue a all = all
  below_kind kind.Log kind.Queue a all = tt
  below_kind kind.Log kind.Raw a all = tt
  below_kind kind.Queue kind.Log a all = tt
  below_kind kind.Queue kind.Raw a all = tt
  below_kind kind.Raw z a all = tt

  below_first : (k : Kind) (g : ℕ) (b : Bool) (a : Area) (rest : Option Area) → All (λ n. n < size) a.spans → Below (log_found k g rest) → Below (log_found k g (cond b (Some a) rest))
  below_first k g true a rest all other = below_kind k a.kind (record { grant = g; spans = a.spans }) all
  below_first k g false a rest all other = other

  below_held : (k : Kind) (g i : ℕ) (held : AreaList) → AreasInside size held → Below (log_found k g (lookup (nat_eq i) held))
  below_held k g i [] inside = tt
  below_held k g i (x ∷ xs) inside = below_first k g (nat_eq i x.0) x.1 (lookup (nat_eq i) xs) (inside 0 x (omega arith)) (below_held k g i xs (λ j d lt. inside (suc j) d (omega (arith, lt))))

  below_granted : (k : Kind) (z : CapKind) (g : ℕ) (held : AreaList) → AreasInside size held → Below (log_granted held k z g)
  below_granted k cap_kind.Vsa g held inside = below_held k g g held inside
  below_granted k cap_kind.Vsic g held inside = tt
  below_granted k cap_kind.Vnic g held inside = tt
  below_granted k cap_kind.Filter g held inside = tt
  below_granted k cap_kind.Door g held inside = tt
  below_granted k cap_kind.Rate g held inside = tt
  below_granted k cap_kind.Buf g held inside = tt
  below_granted k cap_kind.Sock g held inside = tt

  below_under : (k : Kind) (l : List ℕ) (c : Option Capability) (held : AreaList) → AreasInside size held → Below (log_under held k l c)
  below_under k l None held inside = tt
  below_under k l (Some c) held inside = below_granted k c.kind c.grant held inside

  pub area_inside : (held : AreaList) (labels : Labels) (k : Kind) (l : List ℕ) (area : LogArea) (key : ℕ) (card : Result ℕ Refusal) → Ok (area, key) ≡ both_keys (log_area labels held k l) card → AreasInside size held → All (λ n. n < size) area.spans
  area_inside held labels k l area key card is inside = subst (λ (z : Result LogArea Refusal). Below z) (sym (each_key area key (log_area labels held k l) card is).0) (below_under k l (value_at labels l) held inside)
