-- Calls that did not fail, one after another; and events of which none failed.
use Rattle.std.proofs.Common.{◌≡◌, ◌⊎◌, inl, inr, ℕ, List, [], ◌∷◌, ◌++◌, refl, ◌∙◌, subst}
use Rattle.ark_base.specs.declared.status.Status.{Status}
use Rattle.ark_base.specs.declared.status.Status.TheVariants.{Done}
use Rattle.ark_media.specs.Journal.{Event, History, HasFailed, onto, device_events}
use Rattle.ark_media.specs.Calls.{Told, Beside, Rose, KeepsBeside, KeepsAtAttach, KeepsAtFetch, KeepsAtPut}
use Rattle.ark_cli.specs.Session.{NoneFailed}
use Rattle.ark_cli.specs.Complete.{HasNoFault}
use Rattle.ark_cli.specs.Opening.{Start, old_device, Since}
use Rattle.ark_cli.specs.Working.{work_start}
use Rattle.ark_cli.specs.Ending.{Does, no_command, unread, no_memory, no_device, runs, checks, works}

pub none_failed : (b : Beside) → NoneFailed b b
none_failed b = record { attach = refl; source = refl; sink = refl }

pub unfailed_then : (a b c : Beside) → NoneFailed a b → NoneFailed b c → NoneFailed a c
unfailed_then a b c p q = record { attach = q.attach ∙ p.attach; source = q.source ∙ p.source; sink = q.sink ∙ p.sink }

module _ (a b : Beside) where
  -- the disk alone was called
  pub unfailed_kept : KeepsBeside a b → NoneFailed a b
  unfailed_kept k = record { attach = k.attach; source = k.source; sink = k.sink }

  pub unfailed_made : KeepsAtAttach a b → b.attach_faults ≡ a.attach_faults → NoneFailed a b
  unfailed_made k worked = record { attach = worked; source = k.source; sink = k.sink }

  pub unfailed_fetched : KeepsAtFetch a b → b.source_faults ≡ a.source_faults → NoneFailed a b
  unfailed_fetched k worked = record { attach = k.attach; source = worked; sink = k.sink }

  pub unfailed_put : KeepsAtPut a b → b.sink_faults ≡ a.sink_faults → NoneFailed a b
  unfailed_put k worked = record { attach = k.attach; source = k.source; sink = worked }

-- a call of a journal that failed is one of the events that came last, or was there before
failed_onto : (es j : List Event) → HasFailed (onto es j) → HasFailed es ⊎ HasFailed j
failed_onto [] j h = inr h
failed_onto (e ∷ es) j h = elim (failed_onto es (e ∷ j) h) [
  | inl x ↦ inl (inr x)
  | inr (inl x) ↦ inl (inl x)
  | inr (inr x) ↦ inr x
]

journal_failed : (es : List Event) → HasFailed (onto es []) → HasFailed es
journal_failed es h = elim (failed_onto es [] h) [
  | inl x ↦ x
  | inr bad ↦ absurd bad
]

module _ (words : List (List ℕ)) (t0 t1 : Told) (b0 b1 : Beside) (still : Rose t0.faults t1.faults → ⊥) where
  since_unfailed : (start : Start) (device : List ℕ) (events : List Event) (bytes : List ℕ) → Since start device events bytes t0 t1 b0 b1 → HasNoFault t1.history
  since_unfailed start device events bytes since = record {
    none = λ h is failed. still (since.cause (journal_failed events (subst (λ (x : History). HasFailed x.journal) (since.begins h is) failed)));
  }

  -- a program that was done had a device, of which no call failed
  pub no_fault : (status : Status) → status ≡ Done → Does words t0 t1 b0 b1 status → HasNoFault t1.history
  no_fault status done (no_command is none quiet) = absurd (cc (done, is))
  no_fault status done (unread is quiet) = absurd (cc (done, is))
  no_fault status done (no_memory blocks device is run quiet) = absurd (cc (done, is))
  no_fault status done (no_device blocks device is asked refused) = absurd (cc (done, is))
  no_fault status done (runs start device run closed) = since_unfailed start device closed.events closed.script closed.since
  no_fault status done (checks image device closing check closes r) = since_unfailed (old_device image) device (r.events ++ closing) [] r.since
  no_fault status done (works seed lines device closing work closes r) = since_unfailed work_start device (device_events r.run ++ (r.shown ++ closing)) [] r.since
