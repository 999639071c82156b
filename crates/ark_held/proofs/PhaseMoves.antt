-- A card on which a log is open, and the log, once the card has moved: a block more, or its descriptor has ended and rung.
use Rattle.std.proofs.Common.{◌≡◌, ℕ, ◌+◌, Bool, true, false, List, [], ◌∷◌, ◌++◌, drop, refl, sym, ◌∙◌, ap, subst, bytes_eq}
use Rattle.std.specs.Prelude.{Option, Some, option_map, unwrap_or}
use Rattle.std.specs.List.{AllByRecursion}
use Rattle.ark_base.specs.declared.kind.Outcome.{Outcome}
use Rattle.ark_media.specs.Journal.{History}
use Rattle.ark_caps.specs.Labels.{value_at}
use Rattle.ark_caps.specs.declared.capability.Capability.{Capability}
use Rattle.ark_region.specs.Frames.{Piece, Space, bytes_of}
use Rattle.ark_vic.specs.Queue.{finished}
use Rattle.ark_vic.specs.declared.descriptor.Descriptor.{Descriptor}
use Rattle.ark_vic.specs.declared.door.Bell.TheVariants as bell
use Rattle.ark_vic.specs.declared.door.Counts.{Counts}
use Rattle.ark_caladan.specs.Chain.{Log, Opened, Phase}
use Rattle.ark_caladan.specs.Open.{Layout}
use Rattle.ark_log.specs.Open.{OpenChain}
use Rattle.ark_running.specs.Running.{IsRunning}
use Rattle.ark_running.proofs.Framing.{all_joined}
use Rattle.ark_vsic.specs.Card.{is_bound}
use Rattle.ark_table.specs.Slots.{Slot}
use Rattle.ark_machine.specs.Objects
use Rattle.ark_machine.specs.Objects.{Object, Vsic, Job, Paced, phase, opened_frames}
use Rattle.ark_machine.specs.Machine.{Machine, Held, at, with_object}
use Rattle.ark_machine.specs.Moves.{ending, block_moved, block_passed}
use Rattle.ark_machine.specs.Rates.{rung}
use Rattle.ark_machine.specs.Control.{is_open_on}
use Rattle.ark_held.specs.Totals.{bit, total, covers, object_covers, uses}
use Rattle.ark_held.specs.Kept.{CardKept, PaceKept}
use Rattle.ark_held.specs.Around.{Around, Each, Both, slot_at}
use Rattle.ark_held.specs.Cards.{HasPhases, IsJob, IsPaced, IsPhaseJob}
use Rattle.ark_held.specs.Held.{Holds}
use Rattle.ark_held.specs.Keeps.{SameAt}
use Rattle.ark_held.specs.Ringing.{Sets, Rings}
use Rattle.ark_held.proofs.BothMoved.{both_holds, door_now, moved}
use Rattle.ark_held.proofs.Covering.{Spares}
use Rattle.ark_held.proofs.Ending.{OnCard, StandsFor, each_last, its_jobs, uses_same}
use Rattle.ark_held.proofs.Lists.{some_same}
use Rattle.ark_held.proofs.BothPut.{HasOpen}
use Rattle.ark_held.proofs.Rung.{rung_holds}
use Rattle.ark_held.proofs.RunsOn.{has_open}

module _ (x : Around) (v : List ℕ) (c : Capability) (k : CardKept) (card : Vsic) (on : OnCard x v c k card) (s : List ℕ) (area : Capability) (held_log : Held) (g : Log) (log_label : value_at x.labels s ≡ Some area) (there_log : at x.machine s ≡ Some held_log) (object_log : held_log.object ≡ Objects.log g)
    (q : OpenChain) (log : k.log ≡ Some q) (o : Opened) (is_open : g.opened ≡ Some o) (on_v : o.card ≡ v) (grant : q.grant ≡ area.grant) (bound : is_bound area.grant k.bound ≡ true) (lies : Layout) where
  abbrev pub both : HasOpen x s v
  both = has_open x on.holds s v area c held_log on.held g card log_label there_log object_log on.named on.there on.object

  -- the log, with what its machine keeps of the write that decides
  abbrev pub log_with : Bool → Log
  log_with b = record g { opened = Some (record o { decided = b }) }

  abbrev frames_in : ℕ → Option Opened → ℕ
  frames_in j z = total (λ f. bit (covers j f)) (opened_frames z)

  module _ (b : Bool) (history : History) (base : history.base ≡ x.history.base) (beside : (l : List ℕ) (t : Slot) → bytes_eq s l ≡ false → slot_at x l ≡ Some t → SameAt x.history history t.blocks) (memory : Space) (taken : memory.taken ≡ x.tables.memory.taken)
      (bytes : (p : Piece) → Spares (λ j. object_covers j (Objects.log g) ≡ 1) p → bytes_of memory p ≡ bytes_of x.tables.memory p) (paced : Option PaceKept) (pace : Option Paced) (both_paced : Both (IsPaced x) paced pace) (cards : ℕ → Option CardKept) where
    opens : (l : List ℕ) → is_open_on l (Objects.log (log_with b)) ≡ is_open_on l (Objects.log g)
    opens l = ap (λ (z : Option Opened). unwrap_or (option_map (λ (y : Opened). bytes_eq l y.card) z) false) (sym is_open)

    covered : (j : ℕ) → object_covers j (Objects.log (log_with b)) ≡ object_covers j (Objects.log g)
    covered j = ap (frames_in j) (sym is_open)

    only : (z : OpenChain) → k.log ≡ Some z → z.grant ≡ area.grant
    only z is = ap (λ (w : OpenChain). w.grant) (some_same k.log z q is log) ∙ grant

    abbrev pub after_with : Machine → (ℕ → Option Counts) → Around
    after_with m doors = record x { history = history; machine = m; tables = record x.tables { memory = memory; cards = cards; doors = doors } }

    -- a block more has moved
    pub moves_on : Sets c.key (record k { ring = record k.ring { moved = k.ring.moved + 1 }; pace = paced }) x.tables.cards cards
        → IsRunning history both.log_fits.slot.blocks memory (record k.ring { moved = k.ring.moved + 1 }) q lies (log_with b) (record o { decided = b })
        → Holds (after_with (with_object (with_object x.machine s (Objects.log (log_with b))) v (Objects.vsic (block_moved pace card))) x.tables.doors)
    moves_on sets runs = both_holds x s v on.holds both (log_with b) (block_moved pace card) opens (λ l. refl) covered history base beside memory taken bytes k (record k { ring = record k.ring { moved = k.ring.moved + 1 }; pace = paced }) on.was cards sets only
        q (record o { decided = b }) lies
        (record {
          size = on.fits.size;
          posted = on.fits.posted;
          unreaped = on.fits.unreaped;
          moved = ap (λ n. n + 1) on.fits.moved;
          bound = on.fits.bound;
          pace = both_paced;
          door = on.fits.door;
          log = on.fits.log;
          phases = on.fits.phases;
        })
        log grant bound on_v refl refl runs

    -- its phase has ended
    module _ (d : Descriptor) (ds : List Descriptor) (p : Phase) (js : List Job) (posted : k.ring.posted ≡ d ∷ ds) (jobs : card.queue.posted ≡ phase p ∷ js) (out : Outcome) where
      abbrev ended_card : Vsic
      ended_card = ending (phase p) js out (block_passed pace card)

      abbrev ended_kept : CardKept
      ended_kept = record k { ring = finished k.ring d out 0; pace = paced }

      phases_then : HasPhases k.log js (card.queue.unreaped ++ (phase p, out) ∷ [])
      phases_then = subst (λ (z : Option OpenChain). HasPhases z js (card.queue.unreaped ++ (phase p, out) ∷ [])) (sym log)
          (let were = subst (λ (z : Option OpenChain). HasPhases z card.queue.posted card.queue.unreaped) log on.fits.phases in
          ((subst (λ (zs : List Job). AllByRecursion IsPhaseJob zs) jobs were.0).1, all_joined (λ (u : Job × Outcome). IsPhaseJob u.0) card.queue.unreaped ((phase p, out) ∷ []) were.1 (tt, tt)))

      fits : StandsFor x v ended_kept ended_card
      fits = record {
        size = on.fits.size;
        posted = subst (λ (zs : List Descriptor). Each (IsJob x k.log) zs js) (sym (ap (λ (zs : List Descriptor). drop 1 zs) posted)) (its_jobs x v c k card on d ds (phase p) js posted jobs out).1;
        unreaped = each_last x v c k card on d ds (phase p) js posted jobs out k.ring.unreaped card.queue.unreaped on.fits.unreaped;
        moved = refl;
        bound = on.fits.bound;
        pace = both_paced;
        door = on.fits.door;
        log = on.fits.log;
        phases = phases_then;
      }

      pub ends : (doors : ℕ → Option Counts) → Sets c.key ended_kept x.tables.cards cards → Rings k.door x.tables.doors doors
          → IsRunning history both.log_fits.slot.blocks memory (finished k.ring d out 0) q lies (log_with b) (record o { decided = b })
          → Holds (after_with (rung (with_object (with_object x.machine s (Objects.log (log_with b))) v (Objects.vsic ended_card)) card.door bell.Io) doors)
      ends doors sets rings runs =
          rung_holds (moved x s v on.holds both (log_with b) ended_card opens used covered history base beside memory taken bytes k ended_kept on.was cards sets only)
          (both_holds x s v on.holds both (log_with b) ended_card opens used covered history base beside memory taken bytes k ended_kept on.was cards sets only q (record o { decided = b }) lies fits log grant bound on_v refl refl runs)
          doors bell.Io k.door card.door
          (door_now x s v on.holds both (log_with b) ended_card opens used covered history base beside memory taken bytes k ended_kept on.was cards sets only q (record o { decided = b }) lies fits log grant bound on_v refl refl runs)
          rings
        where
          used : (l : List ℕ) → uses l (Objects.vsic ended_card) ≡ uses l (Objects.vsic card)
          used l = uses_same x v c k card on d ds (phase p) js posted jobs out pace l
