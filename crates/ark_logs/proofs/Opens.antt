-- The words `log` and `queue`, as they come to their rows.
use Rattle.std.proofs.Common.{◌≡◌, ℕ, ◌<◌, ◌≤◌, Bool, true, false, cond, ◌&&◌, List, [], ◌∷◌, ◌++◌, length, append-nil, get_or, map, refl, sym, ◌∙◌, ap, subst, bytes_eq, Contains}
use Rattle.std.specs.Prelude.{Option, Some, None, option_map, unwrap_or}
use Rattle.std.specs.List.{list_any}
use Rattle.ark_base.specs.declared.kind.Kind.{Kind}
use Rattle.ark_media.specs.Journal.{AllBlocks, Event}
use Rattle.ark_media.specs.Standing.{after}
use Rattle.ark_extents.specs.Blocks.{AreDistinct}
use Rattle.std.proofs.lemmas.List.Elements.{Contains-get_or}
use Rattle.ark_table.specs.Slots.{Slot}
use Rattle.ark_caps.specs.Labels.{value_at}
use Rattle.ark_caps.specs.declared.capability.Capability.{Capability}
use Rattle.ark_caladan.specs.Chain.{Opened}
use Rattle.ark_caladan.specs.Listed.{AreFull, IsListed}
use Rattle.ark_caladan.specs.Views.{OnDisk}
use Rattle.ark_running.specs.Opening.{AtFronts, StandsIn}
use Rattle.ark_machine.specs.Objects.{Object}
use Rattle.ark_machine.specs.Machine.{Held, Machine, at, holding, with_object}
use Rattle.ark_machine.specs.Row.{Ended, is_sync, settled, synced, synced_by}
use Rattle.ark_machine.specs.Follow.{ends_of}
use Rattle.ark_held.specs.Around.{blocks_under, slot_at}
use Rattle.ark_held.specs.Areas.{IsLog, IsOpenedAs}
use Rattle.ark_held.specs.Beyond.{Beyond, around}
use Rattle.ark_held.specs.Does.{IsSited, LogsAtFronts}
use Rattle.ark_held.specs.Held.{Holds}
use Rattle.ark_held.specs.declared.app.App.{App}
use Rattle.ark_held.proofs.Changing.{put_at}
use Rattle.ark_held.proofs.Effects.{at_each}
use Rattle.ark_held.proofs.Lists.{by_test, some_same}
use Rattle.ark_held.proofs.LogCalls.{AreOfLog, LogAtFronts, called, logs_called}
use Rattle.ark_logs.specs.declared.areas.LogArea.{LogArea}
use Rattle.ark_logs.proofs.OfAreas.{HasLog}

-- What no sync settles is there behind the calls, and may change before them as well.
module _ (l : List ℕ) where
  pub synced_there : (ends : List Ended) (m : Machine) (g : Held) → settled g.object ≡ g.object → at m l ≡ Some g → at (synced_by ends m) l ≡ Some g
  synced_there ends m g same is = by (list_any (λ (e : Ended). e.ok && is_sync e.verb) ends)
    where
      by : (b : Bool) → at (synced b m) l ≡ Some g
      by true = at_each settled m l g is ∙ ap (λ (o : Object). Some (holding o g)) same
      by false = is

  put_settled : (o : Object) (hs : List Held) → settled o ≡ o → map (λ (g : Held). holding (settled g.object) g) (map (put_at l o) hs) ≡ map (put_at l o) (map (λ (g : Held). holding (settled g.object) g) hs)
  put_settled o [] same = refl
  put_settled o (g ∷ gs) same = by_test
      (λ t. holding (settled (cond t (holding o g) g).object) (cond t (holding o g) g) ∷ map (λ (z : Held). holding (settled z.object) z) (map (put_at l o) gs)
      ≡ cond t (holding o (holding (settled g.object) g)) (holding (settled g.object) g) ∷ map (put_at l o) (map (λ (z : Held). holding (settled z.object) z) gs)) (bytes_eq l g.label)
      (λ yes. (λ i. holding (same i) g ∷ put_settled o gs same i)) (λ no. ap (λ (zs : List Held). holding (settled g.object) g ∷ zs) (put_settled o gs same))

  pub synced_put : (ends : List Ended) (m : Machine) (o : Object) → settled o ≡ o → synced_by ends (with_object m l o) ≡ with_object (synced_by ends m) l o
  synced_put ends m o same = by (list_any (λ (e : Ended). e.ok && is_sync e.verb) ends)
    where
      by : (b : Bool) → synced b (with_object m l o) ≡ with_object (synced b m) l o
      by true = ap (λ (hs : List Held). record m { held = hs }) (put_settled o m.held same)
      by false = refl

-- A log that is closed, in an area whose blocks are full.
module _ (y : Beyond) (app : App) (h : Holds (around y app)) (k : Kind) (s : List ℕ) (area : LogArea) (log : HasLog (around y app) k s area) (closed : log.log.opened ≡ None) (size : ℕ) (sited : IsSited (around y app) size)
    (inside : (l : List ℕ) (t : Slot) (n : ℕ) → slot_at (around y app) l ≡ Some t → Contains t.blocks n → n < length y.history.base) (whole : AllBlocks y.history.base) where
  abbrev pub blocks : List ℕ
  blocks = log.fits.slot.blocks

  pub on_disk : AreDistinct area.spans → OnDisk blocks y.history.base
  on_disk distinct = record {
    inside = λ i lt. inside s log.fits.slot (get_or blocks i 0) log.fits.there (Contains-get_or blocks i 0 lt);
    apart = subst (λ (l : List ℕ). AreDistinct l) (sym log.blocks) distinct;
  }

  -- the same of the blocks that the code has
  pub on_spans : AreDistinct area.spans → OnDisk area.spans y.history.base
  on_spans distinct = subst (λ (l : List ℕ). OnDisk l y.history.base) log.blocks (on_disk distinct)

  pub full_spans : AreFull y.history area.spans
  full_spans = subst (λ (l : List ℕ). AreFull y.history l) log.blocks (log.fits.full whole)

  pub under : blocks_under (around y app) s ≡ blocks
  under = ap (λ o. unwrap_or (option_map (λ t. t.blocks) o) []) log.fits.there

  pub stands_in : 2 ≤ length area.spans → AreDistinct area.spans → StandsIn k y.history blocks log.log
  stands_in two distinct = record {
    its_kind = log.its_kind;
    size = log.fits.blocks;
    two = subst (λ (l : List ℕ). 2 ≤ length l) (sym log.blocks) two;
    on_disk = on_disk distinct;
    full = log.fits.full whole;
    listed = log.fits.listed;
  }

  module _ (es : List Event) (of : AreOfLog blocks es) (listed : AtFronts (λ x. IsListed x blocks log.log) y.history es) (full : AtFronts (λ x. AreFull x blocks) y.history es) where
    -- the log, with the history and any machine behind a front
    abbrev fronts_log : (front back : List Event) → es ≡ front ++ back → (m : Machine) → IsLog (around (record y { history = after y.history front; machine = m }) app) s log.cap log.log
    fronts_log front back split m = record {
      slot = log.fits.slot;
      its_kind = log.fits.its_kind;
      kept = log.fits.kept;
      there = log.fits.there;
      same_kind = log.fits.same_kind;
      no_raw = log.fits.no_raw;
      blocks = log.fits.blocks;
      two = log.fits.two;
      opened = subst (λ (o : Option Opened). IsOpenedAs (around (record y { history = after y.history front; machine = m }) app) log.cap.grant blocks log.log o) (sym closed) tt;
      listed = listed front back split;
      full = λ w. full front back split;
    }

    pub at_fronts : LogAtFronts app s size y log.log es
    at_fronts front back split m c is =
        subst (λ (z : Capability). IsLog (around (record y { history = after y.history front; machine = m }) app) s z log.log) (some_same (value_at app.labels s) log.cap c log.label is) (fronts_log front back split m)

    abbrev pub later : Beyond
    later = record y { history = after y.history es; machine = synced_by (ends_of es) y.machine }

    pub holds_later : Holds (around later app)
    holds_later = called app s size es y h inside sited log.held log.log log.there log.object log.fits.slot log.fits.there of at_fronts

    pub logs_later : LogsAtFronts (around y app) es
    logs_later = logs_called app s size es y h inside sited log.log (ap (λ (o : Option Held). option_map (λ z. z.object) o) log.there ∙ ap (λ (o : Object). Some o) log.object) log.fits.slot log.fits.there of
        (λ front back split. (listed front back split).left)

    abbrev pub its_log : IsLog (around later app) s log.cap log.log
    its_log = fronts_log es [] (sym (append-nil es)) later.machine
