-- What is told since a device was opened, and how the opening ends.
use Rattle.std.proofs.Common.{◌≡◌, ℕ, ◌≤◌, Bool, true, false, List, [], ◌∷◌, ◌++◌, refl, sym, ◌∙◌, ap, subst, inl, inr, ⊎_elim, arith, length}
use Rattle.std.proofs.Math.Nat.{le_trans}
use Rattle.std.specs.Prelude.{◌⊎◌, Some, IfSome}
use Rattle.ark_media.specs.Journal.{Event, Out, History, onto, fresh}
use Rattle.ark_media.specs.Calls.{Told, Beside, Goes, KeepsAtAttach, KeepsAtPut, Makes, Puts}
use Rattle.ark_media.specs.Going.{onto-append, rose_later, rose_from, failed_append}
use Rattle.ark_media.specs.Parts.{IsUnfinished}
use Rattle.ark_media.proofs.Composing.{takes_none, takes_then, goes_put}
use Rattle.ark_table.specs.Slots.{Slot}
use Rattle.ark_script.specs.Text.{text, reply_words}
use Rattle.ark_script.specs.declared.said.Said.{Said}
use Rattle.ark_script.specs.declared.said.Said.TheVariants.{Ready}
use Rattle.ark_script.proofs.Clean.{words_clean}
use Rattle.ark_machine.specs.Start.{start_system}
use Rattle.ark_machine.specs.System.{System}
use Rattle.ark_machine.specs.Paced.{StandsPaced}
use Rattle.ark_laws.proofs.Sent.{start_paced}
use Rattle.ark_base.specs.declared.status.Status.{Status}
use Rattle.ark_cli.specs.Opening.{Start, new_device, old_device, base_of, blocks_of, blocks_asked, asking, Asks, Starts, opening_calls, TellsSlots, Since, IsReady, IsUnready, IsUnshown, FormatsNot, OpensNot}
use Rattle.ark_cli.proofs.PutLines.{cut_line, clean_goes_on, all_put}

-- The system that a run goes on from.

some_same : {A : Type 0} (x y : A) → Some x ≡ Some y → x ≡ y
some_same x y e = cc

-- there is one
pub one_start : (start : Start) (s t : System) → Starts start s → Starts start t → s ≡ t
one_start (new_device size) s t a b = a ∙ sym b
one_start (old_device image) s t a b =
    let slots : a.0 ≡ b.0 = cc (a.1, b.1) in
    a.2 ∙ ap (λ (l : List Slot). start_system image l) slots ∙ sym b.2

pub paced : (start : Start) (s : System) → Starts start s → StandsPaced s
paced (new_device size) s is = subst (λ (x : System). StandsPaced x) (sym is) tt
paced (old_device image) s is = subst (λ (x : System). StandsPaced x) (sym is.2) (start_paced image is.0)

-- where the image is told, the line tells its slots
pub slots_told : (start : Start) (told : Told) (slots : ℕ) (h : History) → told.history ≡ Some h → TellsSlots start told slots → (s : System) × Starts start s × (slots ≡ length s.plane.slots)
slots_told (new_device size) told slots h is tells = (_, refl, tells)
slots_told (old_device image) told slots h is tells = tells h is

-- and so later
pub tells_later : (start : Start) (t0 t1 : Told) (slots : ℕ) → ((h : History) → t1.history ≡ Some h → (j : History) × (t0.history ≡ Some j)) → TellsSlots start t0 slots → TellsSlots start t1 slots
tells_later (new_device size) t0 t1 slots before tells = tells
tells_later (old_device image) t0 t1 slots before tells = λ h is. let b = before h is in tells b.0 b.1

-- What is told.

same_history : (b c : List (List ℕ)) (j k : List Event) → b ≡ c → j ≡ k → ◌≡◌ {A = History} (record { base = b; journal = j }) (record { base = c; journal = k })
same_history b c j k e f = ap (λ x. record { base = x; journal = j }) e ∙ ap (λ x. record { base = c; journal = x }) f

-- a device was opened
pub since_opened : (start : Start) (device : List ℕ) (t0 t1 : Told) (b0 b1 : Beside) → ((h : History) → t1.history ≡ Some h → h ≡ record { base = base_of start; journal = [] }) → t1.blocks ≡ blocks_of start → t1.faults ≡ t0.faults
    → Asks (asking (blocks_asked start) device true) b0 b1 → b1.attach_faults ≡ b0.attach_faults → KeepsAtAttach b0 b1 → Since start device [] [] t0 t1 b0 b1
since_opened start device t0 t1 b0 b1 begun blocks faults asks attach keeps = record {
  begins = begun;
  blocks = blocks;
  later = omega (arith, faults);
  cause = λ bad. absurd bad;
  asks = asks;
  attach = attach;
  takes = takes_none b0.script b1.script keeps.script;
  source = omega (arith, keeps.source);
  sink = omega (arith, keeps.sink);
}

pub since_made : (size : ℕ) (device : List ℕ) (t0 t1 : Told) (b0 b1 : Beside) → IfSome t1.history (λ h. h ≡ fresh size) → t1.blocks ≡ size → t1.faults ≡ t0.faults
    → Asks (asking (Some size) device true) b0 b1 → b1.attach_faults ≡ b0.attach_faults → KeepsAtAttach b0 b1 → Since (new_device size) device [] [] t0 t1 b0 b1
since_made size device t0 t1 b0 b1 begun blocks faults asks attach keeps = since_opened (new_device size) device t0 t1 b0 b1 (λ h is. rw is at begun) blocks faults asks attach keeps

-- and more came
pub since_then : (start : Start) (device : List ℕ) (es fs : List Event) (xs ys : List ℕ) (t0 t1 t2 : Told) (b0 b1 b2 : Beside) → Since start device es xs t0 t1 b0 b1 → Goes fs ys t1 t2 b1 b2
    → Since start device (es ++ fs) (xs ++ ys) t0 t2 b0 b2
since_then start device es fs xs ys t0 t1 t2 b0 b1 b2 p q = record {
  begins = λ h is.
      let was = q.tells.adds.told h is in
      let first = p.begins (record { base = h.base; journal = was.0 }) was.1 in
      same_history h.base (base_of start) h.journal (onto (es ++ fs) []) (ap (λ (x : History). x.base) first)
      (was.2 ∙ ap (λ (x : History). onto fs x.journal) first ∙ sym (onto-append es fs []));
  blocks = q.tells.blocks ∙ p.blocks;
  later = le_trans p.later q.tells.later;
  cause = λ failed. ⊎_elim (λ x. rose_later t0.faults t1.faults t2.faults (p.cause x) q.tells.later) (λ x. rose_from t0.faults t1.faults t2.faults p.later (q.tells.cause x)) (failed_append es fs failed);
  asks = q.openings ∙ p.asks;
  attach = q.attach ∙ p.attach;
  takes = takes_then b0.script b1.script b2.script xs ys p.takes q.takes;
  source = le_trans p.source q.source;
  sink = le_trans p.sink q.sink;
}

-- the line that says that the device is ready shows no bytes
pub ready_line : (blocks slots : ℕ) (reply : Said) (shown line : List ℕ) → reply ≡ Ready blocks slots → line ≡ text reply shown → line ≡ text (Ready blocks slots) []
ready_line blocks slots reply shown line same is = is ∙ ap (λ (x : Said). text x shown) same

-- opened, its calls made, and its line put or not
module _ (start : Start) (device : List ℕ) (t0 t1 t2 : Told) (b0 b1 b2 : Beside) (events : List Event) (calls : Makes (opening_calls start) true events) (slots : ℕ) (tells : TellsSlots start t2 slots) (shown : List ℕ) (is : shown ≡ text (Ready (blocks_of start) slots) [])
    (since : Since start device events [] t0 t1 b0 b1) (kept : KeepsAtPut b1 b2) (later : b1.sink_faults ≤ b2.sink_faults) where
  since_put : (ok : Bool) → (p : Puts t1 t2 shown ok) → Since start device (events ++ Out p.part ∷ []) [] t0 t2 b0 b2
  since_put ok p = since_then start device events (Out p.part ∷ []) [] [] t0 t1 t2 b0 b1 b2 since (goes_put t1 t2 b1 b2 p.part p.rests kept later)

  pub since_ready : Puts t1 t2 shown true → Since start device (events ++ Out (text (Ready (blocks_of start) slots) []) ∷ []) [] t0 t2 b0 b2
  since_ready p = subst (λ b. Since start device (events ++ Out b ∷ []) [] t0 t2 b0 b2) (all_put t1 t2 shown true refl p ∙ is) (since_put true p)

  pub opens_ready : Puts t1 t2 shown true → IsReady start device t0 t2 b0 b2
  opens_ready p = record {
    events = events;
    calls = calls;
    slots = slots;
    tells = tells;
    since = since_ready p;
  }

  pub opens_unshown : Puts t1 t2 shown false → IsUnshown start device t0 t2 b0 b2
  opens_unshown p = record { events = events; part = p.part; calls = calls; slots = slots; tells = tells; more = p.more; front = sym is ∙ p.prefix; cut = cut; since = since_put false p }
    where
      cut : (p.part ≡ text (Ready (blocks_of start) slots) []) ⊎ IsUnfinished (Out p.part ∷ [])
      cut = elim (cut_line (reply_words (Ready (blocks_of start) slots) []) p.part p.more (words_clean (Ready (blocks_of start) slots) [] tt) (sym is ∙ p.prefix)) [
        | inl same ↦ inl same
        | inr clean ↦ inr (clean_goes_on p.part clean, tt)
      ]

-- a device that is not formatted is not opened
pub opens_not : (size : ℕ) (device : List ℕ) (t0 t1 : Told) (b0 b1 : Beside) (status : Status) → FormatsNot size device t0 t1 b0 b1 status → OpensNot (Some size) device t0 t1 b0 b1 status
opens_not size device t0 t1 b0 b1 status (is, inl none) = inl (is, none)
opens_not size device t0 t1 b0 b1 status (is, inr u) = inr (inl (new_device size, refl, subst (λ (e : Status). IsUnready (new_device size) device t0 t1 b0 b1 e) (sym is) u))
