-- A call of the disk at a place of the view is a call of the view.
use Rattle.std.proofs.Common.{◌≡◌, ◌<◌, inl, inr, ℕ, Bool, true, false, List, [], ◌∷◌, get_or, length, refl, sym, ◌∙◌, ap, subst}
use Rattle.ark_media.specs.Journal.{Event, Read, Write, Sync}
use Rattle.ark_media.specs.Calls.{Call, Reads, Writes, Syncs, Makes, Comes, Went}
use Rattle.ark_extents.specs.Views.{GoesOver}

-- one call came to one event
pub one_event : (c : Call) (ok : Bool) (es : List Event) → Makes (c ∷ []) ok es → (e : Event) × (es ≡ e ∷ []) × Comes c ok e
one_event c ok [] h = absurd h
one_event c ok (e ∷ []) (inl h) = (e, refl, subst (λ (b : Bool). Comes c b e) (sym h.1) h.0)
one_event c ok (e ∷ x ∷ es) (inl h) = absurd h.1
one_event c ok (e ∷ es) (inr h) = (e, ap (λ (l : List Event). e ∷ l) h.2, subst (λ (b : Bool). Comes c b e) (sym h.1) h.0)

makes_of : (c : Call) (ok : Bool) (e : Event) → Comes c ok e → Makes (c ∷ []) ok (e ∷ [])
makes_of c true e h = inl (h, refl)
makes_of c false e h = inr (h, refl, refl)

module _ {D : Type 0} (goes : D → List Event → D → Type 0) (blocks : List ℕ) (ok : Bool) (old new : D) where
  pub unview_read : (k m : ℕ) → k < length blocks → m ≡ get_or blocks k 0 → Went goes (Reads m ∷ []) ok old new → (events : List Event) × Makes (Reads k ∷ []) ok events × GoesOver goes blocks events old new
  unview_read k m lt is went =
      let one = one_event (Reads m) ok went.events went.makes in (
        Read k ok ∷ [],
        makes_of (Reads k) ok (Read k ok) refl,
        record { within = (lt, tt); goes_on = subst (λ (l : List Event). goes old l new) (one.1 ∙ ap (λ (e : Event). e ∷ []) one.2 ∙ ap (λ (i : ℕ). Read i ok ∷ []) is) went.goes_on },
      )

  pub unview_write : (k m : ℕ) (b : List ℕ) → k < length blocks → m ≡ get_or blocks k 0 → Went goes (Writes m b ∷ []) ok old new → (events : List Event) × Makes (Writes k b ∷ []) ok events × GoesOver goes blocks events old new
  unview_write k m b lt is went =
      let one = one_event (Writes m b) ok went.events went.makes in (
        Write k b one.2.0 ok ∷ [],
        makes_of (Writes k b) ok (Write k b one.2.0 ok) (one.2.0, one.2.1, refl),
        record { within = (lt, tt); goes_on = subst (λ (l : List Event). goes old l new) (one.1 ∙ ap (λ (e : Event). e ∷ []) one.2.2 ∙ ap (λ (i : ℕ). Write i b one.2.0 ok ∷ []) is) went.goes_on },
      )

  pub unview_sync : Went goes (Syncs ∷ []) ok old new → (events : List Event) × Makes (Syncs ∷ []) ok events × GoesOver goes blocks events old new
  unview_sync went =
      let one = one_event Syncs ok went.events went.makes in (
        Sync ok ∷ [],
        makes_of Syncs ok (Sync ok) refl,
        record { within = tt; goes_on = subst (λ (l : List Event). goes old l new) (one.1 ∙ ap (λ (e : Event). e ∷ []) one.2) went.goes_on },
      )
