-- What loading over a view of an area comes to, on its device.
use Rattle.std.proofs.Common.{◌≡◌, inr, ℕ, ◌-◌, ◌≤◌, true, List, [], ◌++◌, refl, sym, ◌∙◌, ap, subst}
use Rattle.std.specs.Prelude.{length, Result, Ok, Err, IfErr, IfOk}
use Rattle.ark_base.specs.declared.kind.Kind.{Kind}
use Rattle.ark_media.specs.Journal.{Event}
use Rattle.ark_media.specs.Calls.{GoesBy, Told, Tells}
use Rattle.ark_region.specs.Frames.{Piece, Space}
use Rattle.ark_extents.specs.Blocks.{AreDistinct}
use Rattle.ark_log.specs.Loaded.{HasFailedToLoad, HasLoaded, loaded_chain}
use Rattle.ark_log.specs.Open.{OpenChain}
use Rattle.ark_log.specs.declared.loading.LoadFault.{LoadFault}
use Rattle.ark_log.specs.declared.loading.LoadFault.TheVariants.{Memory, DeviceFault, Damaged}
use Rattle.ark_running.proofs.Loads as loads
use Rattle.ark_logs.specs.Opening.{IsLoad, IsLoaded, IsNotLoaded}

module _ {V D : Type 0} (spans : V → List ℕ) (disk : V → D) (Same : V → V → Type 0) (goes : D → List Event → D → Type 0) (told : D → Told)
    (more : (a b c : D) (es fs : List Event) → goes a es b → goes b fs c → goes a (es ++ fs) c) (tells : (a b : D) (es : List Event) → goes a es b → Tells es (told a) (told b)) (none : (a : D) → goes a [] a)
    (blocks : List ℕ) (from to : D) (old new : V) (seen_at : spans old ≡ blocks) (begins : disk old ≡ from) (ends : disk new ≡ to) (two : 2 ≤ length blocks) (distinct : AreDistinct blocks) where
  abbrev ViewGoes : V → List Event → V → Type 0
  ViewGoes = loads.ViewGoes spans disk Same goes told more tells

  abbrev ViewTold : V → Told
  ViewTold = loads.told_of_view spans disk Same goes told more tells

  loaded : (kind : Kind) (grant : ℕ) (header : Piece) (chain : OpenChain) (region after : Space) → HasLoaded ViewGoes ViewTold kind grant header chain region after old new → GoesBy goes from to (IsLoaded (told to) kind grant blocks header chain region after)
  loaded kind grant header chain region after l =
      let at = loads.repaired_from spans disk Same goes told more tells blocks from to old new seen_at begins ends kind l.seen l.lengths true l.repaired in
      record {
        events = at.0;
        goes_on = at.1;
        does = record { two = two; distinct = distinct; seen = l.seen; lengths = l.lengths; chain_is = l.chain_is ∙ ap (λ (bs : List ℕ). loaded_chain kind grant (length bs - 1) header l.seen l.lengths) seen_at; held = l.held; devices = at.2; repaired = at.3 };
      }

  failed : (kind : Kind) (fault : LoadFault) → HasFailedToLoad ViewGoes ViewTold kind fault old new → GoesBy goes from to (IsNotLoaded (told to) kind blocks fault)
  failed kind Memory f =
      let stays = loads.none_from spans disk Same goes told more tells blocks from to old new seen_at begins ends kind f in
      record { events = []; goes_on = subst (λ (z : D). goes from [] z) (sym stays) (none from); does = refl }
  failed kind DeviceFault f =
      let at = loads.failed_from spans disk Same goes told more tells blocks from to old new seen_at begins ends kind f in
      record { events = at.0; goes_on = at.1; does = record { two = two; distinct = distinct; at = at.2 } }
  failed kind (Damaged n) f =
      let at = loads.damaged_from spans disk Same goes told more tells blocks from to old new seen_at begins ends kind n f in
      record { events = at.0; goes_on = at.1; does = inr (record { two = two; distinct = distinct; read = at.2; damage = at.3 }) }

  pub load_by : (kind : Kind) (grant : ℕ) (header : Piece) (region after : Space) (r : Result OpenChain (LoadFault × Piece)) → IfOk r (λ chain. HasLoaded ViewGoes ViewTold kind grant header chain region after old new)
      → IfErr r (λ e. HasFailedToLoad ViewGoes ViewTold kind e.0 old new) → GoesBy goes from to (IsLoad (told to) kind grant blocks header r region after)
  load_by kind grant header region after (Ok chain) l f = loaded kind grant header chain region after l
  load_by kind grant header region after (Err e) l f = failed kind e.0 f
