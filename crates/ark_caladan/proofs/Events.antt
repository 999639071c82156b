-- What each event does to an area that is at a moment.
use Rattle.std.proofs.Common.{◌≡◌, ◌⊎◌, inl, inr, ⊎_elim, ℕ, suc, ◌<◌, Bool, true, List, [], ◌∷◌, length, get_or, refl, sym, ◌∙◌, ap, subst, arith}
use Rattle.std.proofs.lemmas.Bool.{cases_eq, cases_lt}
use Rattle.ark_media.specs.Journal.{Event, History, Write, block, current}
use Rattle.ark_media.specs.Calls.{Call, Reads, Writes, Syncs, Comes}
use Rattle.ark_media.specs.Stops.{Whole}
use Rattle.ark_media.specs.Standing.{after, MayStand}
use Rattle.ark_media.proofs.Stopping.{current_same, current_other, other_write, now_may, sync_narrows}
use Rattle.ark_caladan.specs.Views.{OnDisk, Elsewhere}
use Rattle.ark_caladan.specs.Listed.{SameAt}
use Rattle.ark_caladan.specs.Stages.{Moment, resting, IsAt}
use Rattle.ark_caladan.specs.Leading.{AllWritten}

module _ (history : History) (blocks : List ℕ) (on_disk : OnDisk blocks history.base) where
  abbrev pos : ℕ → ℕ
  pos k = get_or blocks k 0

  abbrev now : History → ℕ → List ℕ
  now then k = block (current then.base then.journal) (get_or blocks k 0)

  -- what a stop may leave of the area's blocks gains nothing by an event elsewhere
  pub left_elsewhere : (call : Call) (ok : Bool) (e : Event) → Elsewhere blocks call → Comes call ok e → (k : ℕ) → k < length blocks → (c : List ℕ)
      → MayStand (after history (e ∷ [])) (pos k) c → MayStand history (pos k) c
  left_elsewhere (Reads n) ok e away came k lt c left = subst (λ (ev : Event). MayStand (after history (ev ∷ [])) (pos k) c) came left
  left_elsewhere Syncs ok e away came k lt c left =
      sync_narrows Whole (λ x. refl) history.base history.journal ok (pos k) (on_disk.inside k lt) c (subst (λ (ev : Event). MayStand (after history (ev ∷ [])) (pos k) c) came left)
  left_elsewhere (Writes n written) ok e away came k lt c left =
      other_write Whole history.base history.journal n (pos k) written came.0 ok (away k lt) c (subst (λ (ev : Event). MayStand (after history (ev ∷ [])) (pos k) c) came.2 left)

  -- what stands at a place after an event of a call elsewhere
  pub stays : (call : Call) (ok : Bool) (e : Event) → Elsewhere blocks call → Comes call ok e → (k : ℕ) → k < length blocks → now (after history (e ∷ [])) k ≡ now history k
  stays (Reads n) ok e off is k lt = ap (λ (ev : Event). now (after history (ev ∷ [])) k) is
  stays Syncs ok e off is k lt = ap (λ (ev : Event). now (after history (ev ∷ [])) k) is
  stays (Writes n c) ok e off is k lt = ap (λ (ev : Event). now (after history (ev ∷ [])) k) is.2 ∙ current_other history.base history.journal n (pos k) c is.0 ok (off k lt)

  -- the places that are written are in the area
  abbrev Inside : Moment → Type 0
  Inside f = (i : ℕ) → i < f.written → get_or f.places i 0 < length blocks

  module _ (f : Moment) (at : IsAt history blocks f) where
    -- at rest, each block of the view stands there
    pub at_rest : f.old ≡ f.new → (k : ℕ) → k < length blocks → now history k ≡ f.new k
    at_rest same k lt = ⊎_elim (λ x. x ∙ ap (λ (g : ℕ → List ℕ). g k) same) (λ x. x) (at.left k lt (now history k) (now_may Whole (λ c. refl) history.base history.journal (pos k) (on_disk.inside k lt)))

    -- so writes to another view may begin
    pub at_begins : f.old ≡ f.new → (b : ℕ → List ℕ) (ps : List ℕ) (took : Bool) → IsAt history blocks (record { old = f.new; new = b; places = ps; written = 0; took = took })
    at_begins same b ps took = record {
      left = λ k lt c left. inl (⊎_elim (λ x. x ∙ ap (λ (g : ℕ → List ℕ). g k) same) (λ x. x) (at.left k lt c left));
      there = λ i lt. absurd (omega (arith, lt));
      others = λ k lt none. at_rest same k lt;
    }

    -- all that differs is written: the new view stands there
    pub at_written : AllWritten (length blocks) f → (k : ℕ) → k < length blocks → now history k ≡ f.new k
    at_written all k lt = ⊎_elim
        (λ same. ⊎_elim (λ x. x ∙ same) (λ x. x) (at.left k lt (now history k) (now_may Whole (λ c. refl) history.base history.journal (pos k) (on_disk.inside k lt))))
        (λ place. subst (λ (p : ℕ). now history p ≡ f.new p) place.2 (at.there place.0 place.1)) (all k lt)

    -- and a sync that succeeds leaves it alone
    pub at_synced : AllWritten (length blocks) f → (e : Event) → Comes Syncs true e → IsAt (after history (e ∷ [])) blocks (resting f.new f.took)
    at_synced all e came = subst (λ (ev : Event). IsAt (after history (ev ∷ [])) blocks (resting f.new f.took)) (sym came) (record {
      left = λ k lt c is. inl (is ∙ at_written all k lt);
      there = λ i lt. absurd (omega (arith, lt));
      others = λ k lt none. at_written all k lt;
    })

    -- a write of the new view's block, failed or not, leaves what a stop may leave
    pub left_after : (p : ℕ) (took ok : Bool) → p < length blocks → (k : ℕ) → k < length blocks → (c : List ℕ) → MayStand (after history (Write (pos p) (f.new p) took ok ∷ [])) (pos k) c → (c ≡ f.old k) ⊎ (c ≡ f.new k)
    left_after p took ok inside k lt c left = ⊎_elim
        (λ here. inr (here.1 ∙ ap f.new (on_disk.apart p k inside lt here.0)))
        (λ before. at.left k lt c before) left

    -- what stands after it
    pub shows_same : (p : ℕ) (ok : Bool) → p < length blocks → now (after history (Write (pos p) (f.new p) true ok ∷ [])) p ≡ f.new p
    shows_same p ok inside = current_same history.base history.journal (pos p) (f.new p) ok (on_disk.inside p inside)

    pub shows_other : (p : ℕ) (took ok : Bool) (k : ℕ) → p < length blocks → k < length blocks → (k ≡ p → ⊥) → now (after history (Write (pos p) (f.new p) took ok ∷ [])) k ≡ now history k
    shows_other p took ok k inside lt ne = current_other history.base history.journal (pos p) (pos k) (f.new p) took ok (λ is. ne (on_disk.apart k p lt inside is))

    -- one that succeeds at the next place has written it
    pub at_wrote : Inside f → get_or f.places f.written 0 < length blocks → (e : Event) → Comes (Writes (pos (get_or f.places f.written 0)) (f.new (get_or f.places f.written 0))) true e
        → IsAt (after history (e ∷ [])) blocks (record f { written = suc f.written })
    at_wrote within inside e came =
        let p : ℕ = get_or f.places f.written 0 in
        let is : e ≡ Write (pos p) (f.new p) true true = came.2 ∙ ap (λ (t : Bool). Write (pos p) (f.new p) t true) (came.1 refl) in
        subst (λ (ev : Event). IsAt (after history (ev ∷ [])) blocks (record f { written = suc f.written })) (sym is) (record {
          left = left_after p true true inside;
          there = λ i lt. there i (cases_eq (get_or f.places i 0) p) lt;
          others = λ k lt none. shows_other p true true k inside lt (λ same. none f.written (omega arith) (sym same)) ∙ at.others k lt (λ i less. none i (omega (arith, less)));
        })
      where
        there : (i : ℕ) → (get_or f.places i 0 ≡ get_or f.places f.written 0) ⊎ (get_or f.places i 0 ≡ get_or f.places f.written 0 → ⊥) → i < suc f.written
            → now (after history (Write (pos (get_or f.places f.written 0)) (f.new (get_or f.places f.written 0)) true true ∷ [])) (get_or f.places i 0) ≡ f.new (get_or f.places i 0)
        there i (inl same) lt =
            subst (λ (q : ℕ). now (after history (Write (pos (get_or f.places f.written 0)) (f.new (get_or f.places f.written 0)) true true ∷ [])) q ≡ f.new q) (sym same) (shows_same (get_or f.places f.written 0) true inside)
        there i (inr ne) lt = elim (cases_lt i f.written) [
          | inl less ↦ shows_other (get_or f.places f.written 0) true true (get_or f.places i 0) inside (within i less) ne ∙ at.there i less
          | inr more ↦ let last : i ≡ f.written = omega (arith, more, lt) in absurd (ne (ap (λ (m : ℕ). get_or f.places m 0) last))
        ]

-- where an area's blocks have what they had, its moment stays
pub at_shown : (history later : History) (blocks : List ℕ) (f : Moment) → ((i : ℕ) → i < f.written → get_or f.places i 0 < length blocks)
    → SameAt history later blocks → IsAt history blocks f → IsAt later blocks f
at_shown history later blocks f inside same at = record {
  left = λ k lt c left. at.left k lt c ((same k lt).1 c left);
  there = λ i lt. (same (get_or f.places i 0) (inside i lt)).0 ∙ at.there i lt;
  others = λ k lt none. (same k lt).0 ∙ at.others k lt none;
}
