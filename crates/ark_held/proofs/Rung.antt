-- A door whose bell rings.
use Rattle.std.proofs.Common.{◌≡◌, ℕ, List, refl, sym, ◌∙◌, ap, subst}
use Rattle.std.specs.Prelude.{Option, Some, None}
use Rattle.ark_vic.specs.Bells.{one_more}
use Rattle.ark_vic.specs.declared.door.Bell.{Bell}
use Rattle.ark_vic.specs.declared.door.Counts.{Counts}
use Rattle.ark_machine.specs.Objects
use Rattle.ark_machine.specs.Machine.{Machine, Held, at, with_object}
use Rattle.ark_machine.specs.Rates.{rung}
use Rattle.ark_held.specs.Around.{Around, Both}
use Rattle.ark_held.specs.Cards.{IsWatched}
use Rattle.ark_held.specs.Held.{Holds}
use Rattle.ark_held.specs.Ringing.{Sets, RingsBell}
use Rattle.ark_held.proofs.ByKind.{door_of}
use Rattle.ark_held.proofs.Devising.{with_devices, door_set}
use Rattle.ark_held.proofs.Finding.{stands_at}
use Rattle.ark_held.proofs.Lists.{some_same}

row_is : (m : Machine) (l : List ℕ) (b : Bell) (held : Held) (old : Counts) → at m l ≡ Some held → held.object ≡ Objects.door old → rung m (Some l) b ≡ with_object m l (Objects.door (one_more old b))
row_is m l b held old there is = rw (there, is) refl

module _ (x : Around) (h : Holds x) (doors : ℕ → Option Counts) (b : Bell) where
  rung_at : (l : List ℕ) (key : ℕ) → IsWatched x key l → RingsBell b (Some key) x.tables.doors doors → Holds (with_devices x x.tables.cards doors (rung x.machine (Some l) b))
  rung_at l key w rings =
      let s = stands_at x l w.cap h w.there in
      let d = door_of x l w.cap s.held.object s.matches.object w.its_kind in
      let same : rings.0 ≡ d.0 = some_same (x.tables.doors key) rings.0 d.0 rings.1 (ap (λ i. x.tables.doors i) (sym w.its_key) ∙ d.2.kept) in
      let sets : Sets w.cap.key (one_more d.0 b) x.tables.doors doors = subst (λ (i : ℕ). Sets i (one_more d.0 b) x.tables.doors doors) (sym w.its_key) (subst (λ (n : Counts). Sets key (one_more n b) x.tables.doors doors) same rings.2) in
      subst (λ (m : Machine). Holds (with_devices x x.tables.cards doors m)) (sym (row_is x.machine l b s.held d.0 s.there d.1)) (door_set x h l w.cap w.there w.its_kind s.held s.there d.0 (one_more d.0 b) d.1 doors sets)

  -- the machine's door has rung too
  pub rung_holds : (key : Option ℕ) (door : Option (List ℕ)) → Both (IsWatched x) key door → RingsBell b key x.tables.doors doors → Holds (with_devices x x.tables.cards doors (rung x.machine door b))
  rung_holds None None watched rings = subst (λ (d : ℕ → Option Counts). Holds (with_devices x x.tables.cards d x.machine)) (sym rings) h
  rung_holds (Some key) (Some l) watched rings = rung_at l key watched rings
  rung_holds None (Some l) watched rings = absurd watched
  rung_holds (Some key) None watched rings = absurd watched
