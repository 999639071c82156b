-- The row of `walk`.
use Rattle.std.proofs.Common.{◌≡◌, inl, inr, ℕ, ◌+◌, ◌-◌, ◌≤◌, ◌<◌, Bool, true, false, not, List, [], ◌∷◌, length, take, drop, refl, sym, ◌∙◌, ap, subst, arith, if◌then◌else◌}
use Rattle.std.specs.Prelude.{Option, Some, None, Ok, Err, is_none, nat_lt, option_and_then, slice_get, option_map, unwrap_or, nat_eq, All, ◌||◌, ◌==◌}
use Rattle.std.specs.Map.{lookup}
use Rattle.std.proofs.Math.Bool.{or-true}
use Rattle.std.proofs.lemmas.Bool.{cases_lt, eq-eqb, false≢true}
use Rattle.std.proofs.lemmas.Option.{slice_get-get_or, slice_get_past}
use Rattle.ark_base.specs.declared.refusal.Refusal.{Refusal}
use Rattle.ark_base.specs.declared.refusal.Refusal.TheVariants as r
use Rattle.ark_media.specs.Journal.{Event, History, current}
use Rattle.ark_media.specs.Calls.{Makes, Told}
use Rattle.ark_media.proofs.Planning.{makes_devices}
use Rattle.ark_media.specs.Standing.{after}
use Rattle.ark_script.specs.declared.said.Said.{Said}
use Rattle.ark_script.specs.declared.said.Said.TheVariants as said
use Rattle.ark_entry.specs.Entry.{payload_at}
use Rattle.ark_entry.specs.Found.{Entries}
use Rattle.ark_caladan.specs.Chain.{Log, Opened, after_all, commands, entries}
use Rattle.ark_caladan.specs.Numbers.{payload_of}
use Rattle.ark_caladan.specs.Views.{OnDisk, contents_at}
use Rattle.ark_chain.specs.Survey.{reads}
use Rattle.ark_log.specs.Open.{OpenChain}
use Rattle.ark_log.specs.Refused.{length_of}
use Rattle.ark_log.specs.Walked.{HasAt, place_of}
use Rattle.ark_log.specs.declared.walking.ReadAt.{ReadAt}
use Rattle.ark_log.specs.declared.walking.ReadAt.TheVariants.{NoEntry, DeviceFault}
use Rattle.ark_running.specs.Opening.{ReadsArea}
use Rattle.ark_running.proofs.Walks.{goes_on, has_at, has_entry, in_list, reads_payload}
use Rattle.ark_machine.specs.Objects
use Rattle.ark_machine.specs.Objects.{as_log}
use Rattle.ark_machine.specs.Machine.{Machine, Held, at}
use Rattle.ark_machine.specs.Logs as rows
use Rattle.ark_machine.specs.Logs.{entry_numbered, opened_of}
use Rattle.ark_machine.specs.Row.{Row, Given, answer, has_fault, reads_some, says}
use Rattle.ark_held.specs.Words.{AreaList, area_in}
use Rattle.ark_held.specs.After.{IsTold}
use Rattle.ark_held.specs.Around.{Around, blocks_under}
use Rattle.ark_held.specs.Beside.{AreBeside}
use Rattle.ark_held.specs.Held.{Holds}
use Rattle.ark_held.specs.Inside.{AreasInside}
use Rattle.ark_objects.specs.Held.{at as key_at}
use Rattle.ark_held.specs.Beyond.{Beyond, around}
use Rattle.ark_held.specs.Does.{Acts}
use Rattle.ark_held.specs.declared.app.App.{App}
use Rattle.ark_held.specs.declared.areas.Area.{Area}
use Rattle.ark_held.specs.declared.card.StorageCard.{StorageCard}
use Rattle.ark_held.proofs.Doing.{IsBased, in_base, never, refuses, went_beside}
use Rattle.ark_held.proofs.Fronts.{logs_left}
use Rattle.ark_held.proofs.OpeningCalls.{reads_follow}
use Rattle.ark_held.proofs.Naming.{Below, below_found}
use Rattle.ark_held.proofs.Lists.{le_true, lt_false, lt_true, not_some}
use Rattle.ark_logs.specs.Finds.{open_under}
use Rattle.ark_logs.specs.Walking.{HasWalked, IsWalk, both_of, if_fits, log_with_area}
use Rattle.ark_logs.specs.declared.finding.OpenAt.{OpenAt}
use Rattle.ark_logs.proofs.Openings.{has_faults}
use Rattle.ark_logs.proofs.OfLogs.{FoundOpen, HasNone, found_open}

-- reads write nothing
beside_reads : (other ns : List ℕ) (ok : Bool) (es : List Event) → Makes (reads ns) ok es → AreBeside other es
beside_reads other [] ok [] makes = tt
beside_reads other [] ok (e ∷ es) makes = absurd makes
beside_reads other (n ∷ ns) ok [] makes = absurd makes
beside_reads other (n ∷ ns) ok (e ∷ es) (inl m) = subst (λ (y : Event). AreBeside other (y ∷ es)) (sym m.0) (beside_reads other ns ok es m.1)
beside_reads other (n ∷ ns) ok (e ∷ es) (inr m) = subst (λ (y : Event). AreBeside other (y ∷ es)) (sym m.0) (subst (λ (l : List Event). AreBeside other l) (sym m.2) tt)

-- The row, where the log is open.

abbrev pub said_of : Bool → Said
said_of true = said.Bytes
said_of false = said.Refused r.DeviceFault

module _ (m : Machine) (s : List ℕ) (n : ℕ) (g : Given) (h : Held) (log : Log) (o : Opened) (made : m.made ≡ true) (there : at m s ≡ Some h) (object : h.object ≡ Objects.log log) (is_open : log.opened ≡ Some o) where
  abbrev coming : ℕ
  coming = (after_all (entries log.list) (commands o)).first

  failed_row : o.failed ≡ true → rows.walk m s n g ≡ says m (said.Refused r.LogFailed)
  unfolding answer
  failed_row failed = rw (made, there, object, is_open, failed) refl

  none_row : o.failed ≡ false → (is_none (entry_numbered (entries log.list) n) || nat_lt n coming) ≡ true → rows.walk m s n g ≡ says m (said.Refused r.NoEntry)
  unfolding answer
  none_row going none = rw (made, there, object, is_open, going, none) refl

  read_row : (payload : List ℕ) (ok : Bool) → o.failed ≡ false → entry_numbered (entries log.list) n ≡ Some payload → nat_lt n coming ≡ false → has_fault g.ended ≡ not ok
      → rows.walk m s n g ≡ record { machine = m; said = said_of ok; bytes = if ok then payload else []; calls = reads_some s ∷ [] }
  unfolding answer
  read_row payload true going is low well = rw (made, there, object, is_open, going, is, low, well) refl
  read_row payload false going is low bad = rw (made, there, object, is_open, going, is, low, bad) refl

-- What the code finds.

module _ (cards : List (Option StorageCard)) (areas : AreaList) (a : OpenAt) (v : OpenChain) (area : Area) (has : Some (v, area) ≡ log_with_area cards areas a) where
  its_own : lookup (nat_eq a.grant) areas ≡ Some area
  its_own = by (option_and_then (λ c. c.log) (key_at cards a.key)) (lookup (nat_eq a.grant) areas) has
    where
      fits : (b : Bool) (w : OpenChain) (other : Area) → Some (v, area) ≡ if_fits b w other → Some other ≡ Some area
      fits true w other is = ap (λ (o : Option (OpenChain × Area)). option_map (λ q. q.1) o) (sym is)
      fits false w other is = absurd (not_some None (v, area) refl (sym is))

      by : (o : Option OpenChain) (p : Option Area) → Some (v, area) ≡ both_of o p → p ≡ Some area
      by (Some w) (Some other) is = fits (w.room + 1 == length other.spans) w other is
      by (Some w) None is = absurd (not_some None (v, area) refl (sym is))
      by None p is = absurd (not_some None (v, area) refl (sym is))

  -- its blocks are on the device
  pub blocks_below : (size : ℕ) → AreasInside size areas → All (λ n. n < size) area.spans
  blocks_below size inside = subst (λ (o : Option Area). Below size o) its_own (below_found size a.grant areas inside)

-- The word.

module _ (t : Told) (app : App) (s : List ℕ) (n : ℕ) where
  abbrev row : Machine → Given → Row
  row m g = rows.walk m s n g

  none_there : (y : Beyond) (g : Given) (e : Refusal) → y.machine.made ≡ true → HasNone (around y app) s e → row y.machine g ≡ says y.machine (said.Refused e)
  unfolding answer
  none_there y g (r.NoGrant k) made f = rw (f.0, made, f.1) refl
  none_there y g r.WrongKind made f =
      let h = f.0 in
      let shut : opened_of (as_log h.object) ≡ None = ap (λ (z : Option Held). opened_of (option_and_then as_log (option_map (λ y. y.object) z))) (sym f.1) ∙ f.2 in
      rw (made, f.1, shut) refl
  none_there y g _ made f = absurd f

  pub not_open : (e : Refusal) → Err e ≡ open_under app.labels app.devices.cards s → Acts t app app row [] (said.Refused e) []
  not_open e is = refuses t app row e (λ y g sited h. none_there y g e h.made (found_open y app h s (Err e) is))

  module _ (a : OpenAt) (is : Ok a ≡ open_under app.labels app.devices.cards s) where
    abbrev its : (y : Beyond) → Holds (around y app) → FoundOpen (around y app) app.devices.cards s a
    its y h = found_open y app h s (Ok a) is

    -- its area has one block more than its ring
    its_area : (y : Beyond) (h : Holds (around y app)) → log_with_area app.devices.cards app.areas a ≡ Some ((its y h).chain, area_in (its y h).both.log_fits.slot)
    its_area y h =
        let f = its y h in
        let area : lookup (nat_eq a.grant) app.areas ≡ Some (area_in f.both.log_fits.slot) = ap (λ k. lookup (nat_eq k) app.areas) (sym f.grant_is) ∙ f.both.log_fits.kept in
        let fits : (f.chain.room + 1 == length f.both.log_fits.slot.blocks) ≡ true = eq-eqb (f.chain.room + 1) (length f.both.log_fits.slot.blocks) (let size = f.runs.size in let room = f.runs.is.room in omega (arith, size, room)) in
        (λ i. both_of (option_and_then (λ c. c.log) (f.here i)) (area i)) ∙ ap (λ o. both_of o (Some (area_in f.both.log_fits.slot))) f.its_log ∙ ap (λ b. if_fits b f.chain (area_in f.both.log_fits.slot)) fits

    -- so it is never without
    pub no_area : log_with_area app.devices.cards app.areas a ≡ None → Acts t app app row [] (said.Refused r.WrongKind) []
    no_area none = never t app app row (said.Refused r.WrongKind) [] (λ y h. not_some (log_with_area app.devices.cards app.areas a) ((its y h).chain, area_in (its y h).both.log_fits.slot) none (its_area y h))

    module _ (v : OpenChain) (area : Area) (has : Some (v, area) ≡ log_with_area app.devices.cards app.areas a) where
      abbrev its_pair : (y : Beyond) → Holds (around y app) → OpenChain × Area
      its_pair y h = ((its y h).chain, area_in (its y h).both.log_fits.slot)

      abbrev pair : OpenChain × Area
      pair = (v, area)

      both_same : (y : Beyond) (h : Holds (around y app)) → Some pair ≡ Some (its_pair y h)
      both_same y h = has ∙ its_area y h

      chain_same : (y : Beyond) (h : Holds (around y app)) → v ≡ (its y h).chain
      chain_same y h = ap (λ (o : Option (OpenChain × Area)). unwrap_or (option_map (λ q. q.0) o) v) (both_same y h)

      spans_same : (y : Beyond) (h : Holds (around y app)) → area.spans ≡ (its y h).both.log_fits.slot.blocks
      spans_same y h = ap (λ (o : Option (OpenChain × Area)). unwrap_or (option_map (λ q. q.1.spans) o) []) (both_same y h)

      failed_same : (y : Beyond) (h : Holds (around y app)) (k : Bool) → v.failed ≡ k → (its y h).opened.failed ≡ k
      failed_same y h k failed = sym (its y h).runs.is.failed ∙ ap (λ (z : OpenChain). z.failed) (sym (chain_same y h)) ∙ failed

      pub has_failed : v.failed ≡ true → Acts t app app row [] (said.Refused r.LogFailed) []
      has_failed failed = refuses t app row r.LogFailed (λ y g sited h.
          let f = its y h in
          failed_row y.machine s n g f.both.held_log f.both.log f.opened h.made f.both.there_log f.both.object_log f.is_open (failed_same y h true failed))

      module _ (going : v.failed ≡ false) where
        -- an entry that is not there
        no_entry : (y : Beyond) (h : Holds (around y app)) → ¬ HasAt (its y h).chain n
            → (is_none (entry_numbered (entries (its y h).both.log.list) n) || nat_lt n (after_all (entries (its y h).both.log.list) (commands (its y h).opened)).first) ≡ true
        no_entry y h none = elim (cases_lt n coming_first) [
          | inl low ↦ ap (λ b. is_none (entry_numbered l n) || b) (lt_true n coming_first low) ∙ or-true (is_none (entry_numbered l n))
          | inr high ↦ ap (λ b. is_none b || nat_lt n coming_first) (ap (λ b. if b then slice_get l.payloads (n - l.first) else None) (le_true l.first n (omega (arith, high, on))) ∙ slice_get_past l.payloads (n - l.first) (past high))
        ]
          where
            f : FoundOpen (around y app) app.devices.cards s a
            f = its y h

            l : Entries
            l = entries f.both.log.list

            coming_first : ℕ
            coming_first = (after_all l (commands f.opened)).first

            on : l.first ≤ coming_first
            on = goes_on y.history f.both.log_fits.slot.blocks app.store.region f.one.vsic.ring f.chain f.lies f.both.log f.opened f.runs n

            past : coming_first ≤ n → length l.payloads ≤ n - l.first
            past high = elim (cases_lt (n - l.first) (length l.payloads)) [
              | inl inside ↦ absurd (none (has_at y.history f.both.log_fits.slot.blocks app.store.region f.one.vsic.ring f.chain f.lies f.both.log f.opened f.runs n (omega (arith, high, on), omega (arith, inside, high, on)) high))
              | inr out ↦ omega (arith, out)
            ]

        none_found : (¬ HasAt v n) → Acts t app app row [] (said.Refused r.NoEntry) []
        none_found none = refuses t app row r.NoEntry (λ y g sited h.
            let f = its y h in
            none_row y.machine s n g f.both.held_log f.both.log f.opened h.made f.both.there_log f.both.object_log f.is_open (failed_same y h false going)
            (no_entry y h (λ there. none (subst (λ (z : OpenChain). HasAt z n) (sym (chain_same y h)) there))))

        -- an entry whose blocks were read
        module _ (based : IsBased t) (there : HasAt v n) (es : List Event) (ok : Bool) (read : ReadsArea area.spans ok es) (out : List ℕ)
            (payload : ok ≡ true → (h : History) → t.history ≡ Some (after h es) → OnDisk area.spans h.base → out ≡ payload_at (drop 1 (contents_at (current h.base h.journal) area.spans)) (place_of v n) (length_of v n)) where
          pub was_read : Acts t app app row es (said_of ok) (if ok then out else [])
          was_read grant now = record {
            devices = makes_devices (reads read.read) ok es read.made;
            does = λ y g tick came told fresh sited h.
                let x : Around = around y app in
                let f = its y h in
                let l = entries f.both.log.list in
                let placed : blocks_under x s ≡ area.spans = rw f.both.log_fits.there (sym (spans_same y h)) in
                let has : HasAt f.chain n = subst (λ (z : OpenChain). HasAt z n) (chain_same y h) there in
                let entry = has_entry y.history f.both.log_fits.slot.blocks app.store.region f.one.vsic.ring f.chain f.lies f.both.log f.opened f.runs n has in
                let numbered : entry_numbered l n ≡ Some (payload_of l n) = ap (λ b. if b then slice_get l.payloads (n - l.first) else None) (le_true l.first n entry.0.0)
                ∙ slice_get-get_or l.payloads (n - l.first) [] (in_list y.history f.both.log_fits.slot.blocks app.store.region f.one.vsic.ring f.chain f.lies f.both.log f.opened f.runs n has) in
                let is_row = read_row y.machine s n g f.both.held_log f.both.log f.opened h.made f.both.there_log f.both.object_log f.is_open (payload_of l n) ok (failed_same y h false going) numbered
                (lt_false n (after_all l (commands f.opened)).first entry.1) (ap has_fault came ∙ has_faults (reads read.read) ok es read.made) in
                rw is_row (record {
                  said = refl;
                  bytes = shown y h told has ok refl;
                  calls = reads_follow (blocks_under x) s 0 ok es (subst (λ (l : List ℕ). ReadsArea l ok es) (sym placed) read);
                  numbers = y.numbers;
                  grown = λ i k at. inl at;
                  holds = went_beside y app t es told based sited (λ k u at. beside_reads u.blocks read.read ok es read.made) h;
                  logs = logs_left x es h (in_base y app t es told based sited) (λ k u z at object. beside_reads u.blocks read.read ok es read.made);
                  areas = refl;
                  name = refl;
                });
          }
            where
              shown : (y : Beyond) (h : Holds (around y app)) → IsTold t y.history es → HasAt (its y h).chain n → (k : Bool) → ok ≡ k → (if k then out else []) ≡ (if k then payload_of (entries (its y h).both.log.list) n else [])
              shown y h told has false q = refl
              shown y h told has true q =
                  let f = its y h in
                  payload q y.history told (subst (λ (bs : List ℕ). OnDisk bs y.history.base) (sym (spans_same y h)) f.runs.on_disk)
                  ∙ (λ i. payload_at (drop 1 (contents_at (current y.history.base y.history.journal) (spans_same y h i))) (place_of (chain_same y h i) n) (length_of (chain_same y h i) n))
                  ∙ reads_payload y.history f.both.log_fits.slot.blocks app.store.region f.one.vsic.ring f.chain f.lies f.both.log f.opened f.runs n has

        -- what the word says and shows by what it read
        pub walked : (based : IsBased t) (len : ℕ) (out : List ℕ) (es : List Event) → HasWalked t v area.spans n len out es → Acts t app app row es said.Bytes (take len out)
        walked based len out es w = was_read based w.there es true w.read (take len out) (λ well. w.payload)

        -- and refuses, where a read failed,
        pub not_walked : (based : IsBased t) (e : ReadAt) (out : List ℕ) (es : List Event) → e ≡ DeviceFault → IsWalk t v area.spans n (Err e) out es → Acts t app app row es (said.Refused r.DeviceFault) []
        not_walked based e out es is w = by (subst (λ (x : ReadAt). IsWalk t v area.spans n (Err x) out es) is w)
          where
            by : HasAt v n × ReadsArea area.spans false es → Acts t app app row es (said.Refused r.DeviceFault) []
            by w = was_read based w.0 es false w.1 [] (λ well. absurd (false≢true well))

        -- or where there is no such entry
        pub none_walked : (e : ReadAt) (out : List ℕ) (es : List Event) → e ≡ NoEntry → IsWalk t v area.spans n (Err e) out es → Acts t app app row es (said.Refused r.NoEntry) []
        none_walked e out es is w = by (subst (λ (x : ReadAt). IsWalk t v area.spans n (Err x) out es) is w)
          where
            by : (¬ HasAt v n) × (es ≡ []) → Acts t app app row es (said.Refused r.NoEntry) []
            by w = subst (λ (l : List Event). Acts t app app row l (said.Refused r.NoEntry) []) (sym w.1) (none_found w.0)
