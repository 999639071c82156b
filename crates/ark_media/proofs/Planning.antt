-- Plans of device calls: how they are joined, and what a failed one says.
use Rattle.std.proofs.Common.{◌≡◌, inl, inr, Bool, true, false, List, [], ◌∷◌, ◌++◌, refl, sym, ◌∙◌, ap, subst}
use Rattle.ark_media.specs.Journal.{Event, HasFailed, device_events}
use Rattle.ark_media.specs.Calls.{Call, Reads, Writes, Syncs, Comes, Makes, Went}

-- calls made after others
pub makes_append : (before plan : List Call) (ok : Bool) (es fs : List Event) → Makes before true es → Makes plan ok fs → Makes (before ++ plan) ok (es ++ fs)
makes_append [] plan ok [] fs first next = next
makes_append [] plan ok (e ∷ es) fs first next = absurd first
makes_append (c ∷ cs) plan ok [] fs first next = absurd first
makes_append (c ∷ cs) plan ok (e ∷ es) fs (inl h) next = inl (h.0, makes_append cs plan ok es fs h.1 next)
makes_append (c ∷ cs) plan ok (e ∷ es) fs (inr h) next = absurd (cc (h.1))

-- no more are made after a failure
pub makes_stop : (before plan : List Call) (es : List Event) → Makes before false es → Makes (before ++ plan) false es
makes_stop [] plan [] h = absurd (cc (h))
makes_stop [] plan (e ∷ es) h = absurd h
makes_stop (c ∷ cs) plan [] h = absurd h
makes_stop (c ∷ cs) plan (e ∷ es) (inl h) = inl (h.0, makes_stop cs plan es h.1)
makes_stop (c ∷ cs) plan (e ∷ es) (inr h) = inr h

comes_failed : (c : Call) (e : Event) (es : List Event) → Comes c false e → HasFailed (e ∷ es)
comes_failed (Reads n) e es h = subst (λ (x : Event). HasFailed (x ∷ es)) (sym h) (inl refl)
comes_failed (Writes n b) e es h = subst (λ (x : Event). HasFailed (x ∷ es)) (sym h.2) (inl refl)
comes_failed Syncs e es h = subst (λ (x : Event). HasFailed (x ∷ es)) (sym h) (inl refl)

-- calls of which one failed
pub makes_failed : (plan : List Call) (es : List Event) → Makes plan false es → HasFailed es
makes_failed [] [] h = absurd (cc (h))
makes_failed [] (e ∷ es) h = absurd h
makes_failed (c ∷ cs) [] h = absurd h
makes_failed (c ∷ cs) (e ∷ es) (inl h) = inr (makes_failed cs es h.1)
makes_failed (c ∷ cs) (e ∷ es) (inr h) = comes_failed c e es h.0

comes_device : (c : Call) (ok : Bool) (e : Event) (es : List Event) → Comes c ok e → device_events (e ∷ es) ≡ e ∷ device_events es
comes_device (Reads n) ok e es h = subst (λ (x : Event). device_events (x ∷ es) ≡ x ∷ device_events es) (sym h) refl
comes_device (Writes n b) ok e es h = subst (λ (x : Event). device_events (x ∷ es) ≡ x ∷ device_events es) (sym h.2) refl
comes_device Syncs ok e es h = subst (λ (x : Event). device_events (x ∷ es) ≡ x ∷ device_events es) (sym h) refl

-- all that comes of a plan is device events
pub makes_devices : (plan : List Call) (ok : Bool) (es : List Event) → Makes plan ok es → device_events es ≡ es
makes_devices [] ok [] h = refl
makes_devices [] ok (e ∷ es) h = absurd h
makes_devices (c ∷ cs) ok [] h = absurd h
makes_devices (c ∷ cs) ok (e ∷ es) (inl h) = comes_device c true e es h.0 ∙ ap (λ (x : List Event). e ∷ x) (makes_devices cs ok es h.1)
makes_devices (c ∷ cs) ok (e ∷ es) (inr h) = comes_device c false e es h.0 ∙ ap (λ (x : List Event). e ∷ device_events x) h.2 ∙ ap (λ (x : List Event). e ∷ x) (sym h.2)

module _ {D : Type 0} (goes : D → List Event → D → Type 0) where
  pub went_then : ((a b c : D) (es fs : List Event) → goes a es b → goes b fs c → goes a (es ++ fs) c) → (before plan : List Call) (ok : Bool) (a b c : D)
      → Went goes before true a b → Went goes plan ok b c → Went goes (before ++ plan) ok a c
  went_then more before plan ok a b c first rest = record {
    events = first.events ++ rest.events;
    makes = makes_append before plan ok first.events rest.events first.makes rest.makes;
    goes_on = more a b c first.events rest.events first.goes_on rest.goes_on;
  }

  pub went_stop : (before plan : List Call) (a b : D) → Went goes before false a b → Went goes (before ++ plan) false a b
  went_stop before plan a b first = record { events = first.events; makes = makes_stop before plan first.events first.makes; goes_on = first.goes_on }
