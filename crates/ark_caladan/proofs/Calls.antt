-- What each call of a plan comes to, and what is found at each of its fronts.
use Rattle.std.proofs.Common.{◌≡◌, ◌⊎◌, inl, inr, ⊎_elim, ℕ, zero, suc, ◌<◌, ◌≤◌, Bool, true, false, List, [], ◌∷◌, length, get_or, refl, sym, ◌∙◌, ap, subst, arith, if◌then◌else◌}
use Rattle.std.specs.Prelude.{Contains}
use Rattle.std.proofs.lemmas.Bool.{cases_eq}
use Rattle.std.proofs.lemmas.List.{length-map}
use Rattle.ark_base.specs.declared.kind.Kind.{Kind}
use Rattle.ark_media.specs.Journal.{Event, History, Write, block, current}
use Rattle.ark_media.specs.Calls.{Reads, Writes, Syncs, Comes}
use Rattle.ark_media.specs.Stops.{Whole}
use Rattle.ark_media.specs.Standing.{after, MayStand}
use Rattle.ark_media.proofs.Stopping.{now_may}
use Rattle.ark_entry.specs.Entry.{AreWhole}
use Rattle.ark_entry.specs.Found.{Found, found_of}
use Rattle.ark_caladan.specs.Views.{OnDisk, contents_at}
use Rattle.ark_caladan.specs.Listed.{MayShow, IsFoundIn, AreFull}
use Rattle.ark_caladan.specs.Stages.{Stage, reads, writes, decides, syncs, calls_of, call_of, event_took, Moment, resting, after_calls, took_by, moment_at, IsAt}
use Rattle.ark_caladan.specs.Leading.{AllIn, IsBetween, IsFound, IsFoundEither, list_at, Leads}
use Rattle.ark_caladan.proofs.Places.{ring_at}
use Rattle.ark_caladan.proofs.Events.{left_elsewhere, at_begins, at_written, at_synced, at_wrote, left_after, shows_same, shows_other}

module _ (kind : Kind) (x y : Found) where
  -- a plan after its first stage
  pub tail_leads : (n : ℕ) (f : Moment) (s : Stage) (ss : List Stage) → Leads kind n x y f (s ∷ ss) → Leads kind n x y (after_calls f s (calls_of s)) ss
  tail_leads n f (reads ps) ss plan = plan.3
  tail_leads n f (writes b ps) ss plan = plan.3
  tail_leads n f (decides b p) ss plan = plan.7
  tail_leads n f syncs ss plan = plan.3

  -- the stage at a place of a plan: the moment before it, and the stages behind it
  pub record StageIn (n : ℕ) (f : Moment) (stages : List Stage) (done : ℕ) : Type 0 where
    pub before : Moment
    pub behind : List Stage
    pub plan : Leads kind n x y before (get_or stages done syncs ∷ behind)
    pub head : (k : ℕ) → moment_at f stages done k ≡ after_calls before (get_or stages done syncs) k
    pub next : (k : ℕ) → moment_at f stages (suc done) k ≡ moment_at (after_calls before (get_or stages done syncs) (calls_of (get_or stages done syncs))) behind 0 k

  pub stage_in : (n : ℕ) (f : Moment) (stages : List Stage) (done : ℕ) → done < length stages → Leads kind n x y f stages → StageIn n f stages done
  stage_in n f [] done lt plan = absurd (omega (arith, lt))
  stage_in n f (s ∷ ss) zero lt plan = record { before = f; behind = ss; plan = plan; head = λ k. refl; next = λ k. refl }
  stage_in n f (s ∷ ss) (suc done) lt plan =
      let r = stage_in n (after_calls f s (calls_of s)) ss done (omega (arith, lt)) (tail_leads n f s ss plan) in
      record { before = r.before; behind = r.behind; plan = r.plan; head = r.head; next = r.next }

  module _ (blocks : List ℕ) (choices : List Found) (has_x : Contains choices x) (has_y : Contains choices y) where
    abbrev pos : ℕ → ℕ
    pos k = get_or blocks k 0

    -- the device, the area's contents on it, and its block at a place
    abbrev device : History → List (List ℕ)
    device past = current past.base past.journal

    abbrev shown : History → List (List ℕ)
    shown past = contents_at (current past.base past.journal) blocks

    abbrev now : History → ℕ → List ℕ
    now past k = block (current past.base past.journal) (get_or blocks k 0)

    -- a stop leaves at each place the block of the one view or of the other
    abbrev Left : History → Moment → Type 0
    Left past f = (k : ℕ) → k < length blocks → (c : List ℕ) → MayStand past (get_or blocks k 0) c → (c ≡ f.old k) ⊎ (c ≡ f.new k)

    choice : (z : Found) → (z ≡ x) ⊎ (z ≡ y) → Contains choices z
    choice z (inl is) = subst (λ (v : Found). Contains choices v) (sym is) has_x
    choice z (inr is) = subst (λ (v : Found). Contains choices v) (sym is) has_y

    stands_choice : (f : Moment) (z : Found) → z ≡ list_at f x y → Contains choices z
    stands_choice f z is = choice z (by f.took is)
      where
        by : (t : Bool) → z ≡ (if t then y else x) → (z ≡ x) ⊎ (z ≡ y)
        by true e = inr e
        by false e = inl e

    module _ (history : History) (on_disk : OnDisk blocks history.base) (full : AreFull history blocks) where
      -- the area as it stands, and as a stop may leave it
      now_between : (a b : ℕ → List ℕ) → ((k : ℕ) → k < length blocks → (now history k ≡ a k) ⊎ (now history k ≡ b k))
          → IsBetween (length blocks) a b (shown history)
      now_between a b each = record {
        size = length-map blocks (λ n. block (device history) n);
        whole = whole;
        each = λ k lt. ⊎_elim (λ v. inl (ring_at (device history) blocks k lt ∙ v)) (λ v. inr (ring_at (device history) blocks k lt ∙ v)) (each k lt);
      }
        where
          whole : AreWhole (shown history)
          whole u lt =
              let low : u < length blocks = omega (arith, lt, length-map blocks (λ n. block (device history) n)) in
              ap (λ (c : List ℕ). length c) (ring_at (device history) blocks u low)
              ∙ full u low (now history u) (now_may Whole (λ c. refl) history.base history.journal (pos u) (on_disk.inside u low))

      left_between : (f : Moment) → Left history f
          → (contents : List (List ℕ)) → MayShow history blocks contents → IsBetween (length blocks) f.old f.new contents
      left_between f left contents show = record {
        size = show.size;
        whole = λ u lt. let low : u < length blocks = omega (arith, lt, show.size) in full u low (block contents u) (show.each u low);
        each = λ k lt. left k lt (block contents k) (show.each k lt);
      }

      now_either : (f : Moment) → Left history f
          → IsBetween (length blocks) f.old f.new (shown history)
      now_either f left = now_between f.old f.new (λ k lt. left k lt (now history k) (now_may Whole (λ c. refl) history.base history.journal (pos k) (on_disk.inside k lt)))

      now_is : (a : ℕ → List ℕ) → ((k : ℕ) → k < length blocks → now history k ≡ a k) → IsBetween (length blocks) a a (shown history)
      now_is a is = now_between a a (λ k lt. inl (is k lt))

      -- what is found between two views, now and after a stop
      pub kept_found : (f : Moment) (z : Found) → Contains choices z → IsFound kind (length blocks) f.old f.new z
          → Left history f → IsFoundIn kind history blocks z choices
      kept_found f z has is left = record {
        now = is (shown history) (now_either f left);
        left = λ contents show. subst (λ (v : Found). Contains choices v) (sym (is contents (left_between f left contents show))) has;
      }

      kept_either : (f : Moment) (z : Found) → IsFoundEither kind (length blocks) f.old f.new x y → found_of kind (shown history) ≡ z
          → Left history f → IsFoundIn kind history blocks z choices
      kept_either f z is now left = record {
        now = now;
        left = λ contents show. choice (found_of kind contents) (is contents (left_between f left contents show));
      }

      -- at each moment of a plan: what stands, and what a stop may leave
      pub kept_at : (f : Moment) (s : Stage) (ss : List Stage) → Leads kind (length blocks) x y f (s ∷ ss) → (k : ℕ) → IsAt history blocks (after_calls f s k) → IsFoundIn kind history blocks (list_at (after_calls f s k) x y) choices
      kept_at f (reads ps) ss plan k at = kept_found f (list_at f x y) (stands_choice f (list_at f x y) refl) plan.2 at.left
      kept_at f (writes b ps) ss plan k at = kept_found (after_calls f (writes b ps) k) (list_at f x y) (stands_choice f (list_at f x y) refl) plan.2 at.left
      kept_at f (decides b p) ss plan zero at = kept_either (after_calls f (decides b p) zero) (list_at f x y) plan.3
          (plan.4 (shown history) (now_is f.new (λ k lt. at.others k lt (λ i less. absurd (omega (arith, less))))) ∙ ap (λ (t : Bool). if t then y else x) (sym plan.2)) at.left
      kept_at f (decides b p) ss plan (suc n) at = kept_either (after_calls f (decides b p) (suc n)) y plan.3
          (plan.5 (shown history) (now_is b (λ k lt. shows k lt (cases_eq p k)))) at.left
        where
          shows : (k : ℕ) → k < length blocks → (p ≡ k) ⊎ (p ≡ k → ⊥) → now history k ≡ b k
          shows k lt (inl same) = subst (λ (q : ℕ). now history q ≡ b q) same (at.there 0 (omega arith))
          shows k lt (inr ne) = at.others k lt (λ i less is. other i less is) ∙ ⊎_elim (λ v. v) (λ same. absurd (ne same)) (plan.6 k lt)
            where
              other : (i : ℕ) → i < 1 → get_or (p ∷ []) i 0 ≡ k → ⊥
              other zero less is = ne is
              other (suc i) less is = absurd (omega (arith, less))
      kept_at f syncs ss plan zero at = kept_either f (list_at f x y) plan.1 (plan.2 (shown history) (now_is f.new (at_written history blocks on_disk f at plan.0))) at.left
      kept_at f syncs ss plan (suc n) at = kept_found (resting f.new f.took) (list_at f x y) (stands_choice f (list_at f x y) refl) plan.2 at.left

    module _ (history : History) (on_disk : OnDisk blocks history.base) where
      within : (ps : List ℕ) (k : ℕ) → k ≤ length ps → AllIn (length blocks) ps → (i : ℕ) → i < k → get_or ps i 0 < length blocks
      within ps k le all i lt = all i (omega (arith, lt, le))

      -- a call that succeeds leads to the next moment
      pub at_next : (f : Moment) (s : Stage) (ss : List Stage) → Leads kind (length blocks) x y f (s ∷ ss) → (k : ℕ) → k < calls_of s → (e : Event) → Comes (call_of blocks s k) true e
          → IsAt history blocks (after_calls f s k) → IsAt (after history (e ∷ [])) blocks (after_calls f s (suc k))
      at_next f (reads ps) ss plan k lt e came at = record {
        left = λ m low c left. at.left m low c (left_elsewhere history blocks on_disk (Reads (pos (get_or ps k 0))) true e tt came m low c left);
        there = λ i less. subst (λ (ev : Event). now (after history (ev ∷ [])) (get_or f.places i 0) ≡ f.new (get_or f.places i 0)) (sym came) (at.there i less);
        others = λ m low none. subst (λ (ev : Event). now (after history (ev ∷ [])) m ≡ f.old m) (sym came) (at.others m low none);
      }
      at_next f (writes b ps) ss plan k lt e came at =
          at_wrote history blocks on_disk (after_calls f (writes b ps) k) at (within ps k (omega (arith, lt)) plan.1) (plan.1 k lt) e came
      at_next f (decides b p) ss plan zero lt e came at =
          let next = at_wrote history blocks on_disk (after_calls f (decides b p) zero) at (λ i less. absurd (omega (arith, less))) plan.1 e came in
          record { left = next.left; there = next.there; others = next.others }
      at_next f (decides b p) ss plan (suc k) lt e came at = absurd (omega (arith, lt))
      at_next f syncs ss plan zero lt e came at = at_synced history blocks on_disk f at plan.0 e came
      at_next f syncs ss plan (suc k) lt e came at = absurd (omega (arith, lt))

      -- behind the last call of a stage the next one begins, with no event
      pub at_turn : (f : Moment) (stages : List Stage) → Leads kind (length blocks) x y f stages → IsAt history blocks f → IsAt history blocks (moment_at f stages 0 0)
      at_turn f [] plan at = at
      at_turn f (reads ps ∷ ss) plan at = at
      at_turn f (writes b ps ∷ ss) plan at = at_begins history blocks on_disk f at plan.0 b ps f.took
      at_turn f (decides b p ∷ ss) plan at = at_begins history blocks on_disk f at plan.0 b (p ∷ []) f.took
      at_turn f (syncs ∷ ss) plan at = at

    -- a call that fails leaves at each place the block of the one view or of the other
    pub left_failed : (history : History) (on_disk : OnDisk blocks history.base) (e : Event) (f : Moment) (s : Stage) (ss : List Stage) → Leads kind (length blocks) x y f (s ∷ ss) → (k : ℕ) → k < calls_of s → Comes (call_of blocks s k) false e
        → IsAt history blocks (after_calls f s k) → Left (after history (e ∷ [])) (after_calls f s k)
    left_failed history on_disk e f (reads ps) ss plan k lt came at m low c left = at.left m low c (left_elsewhere history blocks on_disk (Reads (pos (get_or ps k 0))) false e tt came m low c left)
    left_failed history on_disk e f (writes b ps) ss plan k lt came at m low c left =
        left_after history blocks on_disk (after_calls f (writes b ps) k) at (get_or ps k 0) came.0 false (plan.1 k lt) m low c (subst (λ (ev : Event). MayStand (after history (ev ∷ [])) (pos m) c) came.2 left)
    left_failed history on_disk e f (decides b p) ss plan zero lt came at m low c left =
        left_after history blocks on_disk (after_calls f (decides b p) zero) at p came.0 false plan.1 m low c (subst (λ (ev : Event). MayStand (after history (ev ∷ [])) (pos m) c) came.2 left)
    left_failed history on_disk e f (decides b p) ss plan (suc k) lt came at m low c left = absurd (omega (arith, lt))
    left_failed history on_disk e f syncs ss plan zero lt came at m low c left = at.left m low c (left_elsewhere history blocks on_disk Syncs false e tt came m low c left)
    left_failed history on_disk e f syncs ss plan (suc k) lt came at m low c left = absurd (omega (arith, lt))

    module _ (history : History) (on_disk : OnDisk blocks history.base) (e : Event) (full : AreFull (after history (e ∷ [])) blocks) where
      event_is : (n : ℕ) (c : List ℕ) → Comes (Writes n c) false e → e ≡ Write n c (event_took e) false
      event_is n c came = came.2 ∙ ap (λ (t : Bool). Write n c t false) (sym (ap event_took came.2))

      -- a call that fails leaves what was found, or the list that the write has decided
      pub kept_failed : (f : Moment) (s : Stage) (ss : List Stage) → Leads kind (length blocks) x y f (s ∷ ss) → (k : ℕ) → k < calls_of s → Comes (call_of blocks s k) false e
          → IsAt history blocks (after_calls f s k) → IsFoundIn kind (after history (e ∷ [])) blocks (if took_by f.took s e then y else x) choices
      kept_failed f (reads ps) ss plan k lt came at = kept_found (after history (e ∷ [])) on_disk full f (list_at f x y) (stands_choice f (list_at f x y) refl) plan.2 (left_failed history on_disk e f (reads ps) ss plan k lt came at)
      kept_failed f (writes b ps) ss plan k lt came at = kept_found (after history (e ∷ [])) on_disk full (after_calls f (writes b ps) k) (list_at f x y) (stands_choice f (list_at f x y) refl) plan.2
          (left_failed history on_disk e f (writes b ps) ss plan k lt came at)
      kept_failed f (decides b p) ss plan zero lt came at = kept_either (after history (e ∷ [])) on_disk full (after_calls f (decides b p) zero) (if event_took e then y else x) plan.3
          (by (event_took e) (event_is (pos p) (b p) came))
          (left_failed history on_disk e f (decides b p) ss plan zero lt came at)
        where
          shows : (t : Bool) → e ≡ Write (pos p) (b p) t false → (k : ℕ) → k < length blocks → (p ≡ k) ⊎ (p ≡ k → ⊥) → now (after history (e ∷ [])) k ≡ (if t then b k else f.new k)
          shows true is k low (inl same) = ap (λ (ev : Event). now (after history (ev ∷ [])) k) is ∙ subst (λ (q : ℕ). now (after history (Write (pos p) (b p) true false ∷ [])) q ≡ b q) same (shows_same history blocks on_disk (after_calls f (decides b p) zero) at p false plan.1)
          shows false is k low (inl same) = ap (λ (ev : Event). now (after history (ev ∷ [])) k) is ∙ at.others k low (λ i less. absurd (omega (arith, less)))
          shows t is k low (inr ne) =
              ap (λ (ev : Event). now (after history (ev ∷ [])) k) is ∙ shows_other history blocks on_disk (after_calls f (decides b p) zero) at p t false k plan.1 low (λ v. ne (sym v)) ∙ at.others k low (λ i less. absurd (omega (arith, less))) ∙ either t
            where
              either : (t : Bool) → f.new k ≡ (if t then b k else f.new k)
              either true = ⊎_elim (λ v. v) (λ v. absurd (ne v)) (plan.6 k low)
              either false = refl

          by : (t : Bool) → e ≡ Write (pos p) (b p) t false → found_of kind (shown (after history (e ∷ []))) ≡ (if t then y else x)
          by true is = plan.5 (shown (after history (e ∷ []))) (now_is (after history (e ∷ [])) on_disk full b (λ k low. shows true is k low (cases_eq p k)))
          by false is = plan.4 (shown (after history (e ∷ []))) (now_is (after history (e ∷ [])) on_disk full f.new (λ k low. shows false is k low (cases_eq p k)))
      kept_failed f (decides b p) ss plan (suc k) lt came at = absurd (omega (arith, lt))
      kept_failed f syncs ss plan zero lt came at = kept_either (after history (e ∷ [])) on_disk full f (list_at f x y) plan.1
          (plan.2 (shown (after history (e ∷ []))) (now_is (after history (e ∷ [])) on_disk full f.new (λ k low. ap (λ (ev : Event). now (after history (ev ∷ [])) k) came ∙ at_written history blocks on_disk f at plan.0 k low)))
          (left_failed history on_disk e f syncs ss plan zero lt came at)
      kept_failed f syncs ss plan (suc k) lt came at = absurd (omega (arith, lt))
