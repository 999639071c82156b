-- A device that was there is attached, and its host loaded.
use Rattle.std.proofs.Common.{◌≡◌, ℕ, Bool, true, List, [], ◌∷◌, ◌++◌, length, replicate, refl, sym, ◌∙◌, ap, subst, inl, inr}
use Rattle.std.specs.Prelude.{Option, Some, None, Result, Err, IfSome, option_map, unwrap_or}
use Rattle.std.proofs.lemmas.Bool.{false≢true}
use Rattle.std.proofs.lemmas.List.{length-replicate}
use Rattle.ark_base.specs.declared.status.Status.TheVariants.{Damaged}
use Rattle.ark_media.specs.Journal.{Event, Out, History, current, has_succeeded, HasFailed}
use Rattle.ark_media.specs.Calls.{Told, Beside, Call, Comes, Reads, Writes, Syncs, Makes, Rose, Tells, KeepsAtAttach, KeepsBeside}
use Rattle.ark_media.specs.Standing.{after}
use Rattle.ark_media.proofs.Composing.{goes_kept}
use Rattle.ark_media.proofs.Planning.{makes_failed}
use Rattle.ark_table.specs.declared.fault.LoadFault.{LoadFault}
use Rattle.ark_table.specs.declared.fault.LoadFault.TheVariants as fault
use Rattle.ark_table.specs.Slots.{Slot, slots_of}
use Rattle.ark_table.specs.Table.{slots_in}
use Rattle.ark_table.specs.Loading.{IsFirstDamaged, read_calls, is_read}
use Rattle.ark_machine.specs.Start.{start_system}
use Rattle.ark_machine.specs.System.{System}
use Rattle.ark_host.specs.declared.host.Host.{Host}
use Rattle.ark_host.specs.Loaded.{as_found, StandsLoaded, IsLoaded}
use Rattle.ark_host.specs.Stands.{Stands}
use Rattle.ark_host.proofs.Reading.{reads_of}
use Rattle.ark_host.proofs.Standing.{stands_rests}
use Rattle.ark_host.proofs.Starting.{current_reads}
use Rattle.ark_host.proofs.Stood.{after_append}
use Rattle.ark_cli.specs.Opening.{old_device, asking, Asks, Starts, TellsSlots, Since, Fails, HeedsDamage, status_for}
use Rattle.ark_cli.specs.Ending.{IsCause}
use Rattle.ark_cli.proofs.Openings.{since_opened, since_then}

-- No call of a plan that was made well failed.

come_well : (c : Call) (e : Event) → Comes c true e → has_succeeded e ≡ true
come_well (Reads n) e is = ap has_succeeded is
come_well (Writes n content) e is = ap has_succeeded is.2
come_well Syncs e is = ap has_succeeded is

pub made_well : (plan : List Call) (es : List Event) → Makes plan true es → HasFailed es → ⊥
made_well [] [] made bad = bad
made_well [] (e ∷ es) made bad = made
made_well (c ∷ cs) [] made bad = bad
made_well (c ∷ cs) (e ∷ es) (inl m) (inl bad) = absurd (false≢true (sym bad ∙ come_well c e m.0))
made_well (c ∷ cs) (e ∷ es) (inl m) (inr bad) = made_well cs es m.1 bad
made_well (c ∷ cs) (e ∷ es) (inr m) bad = absurd (false≢true (sym m.1))

-- What an attached device was found with.

-- where nothing is told any image of its size will do
abbrev pub image_of : Told → List (List ℕ)
image_of told = unwrap_or (option_map (λ (h : History). h.base) told.history) (replicate told.blocks [])

found_size : (blocks : ℕ) (o : Option History) → ((h : History) → o ≡ Some h → length h.base ≡ blocks) → blocks ≡ length (unwrap_or (option_map (λ (h : History). h.base) o) (replicate blocks []))
found_size blocks None sized = sym (length-replicate blocks [])
found_size blocks (Some h) sized = sym (sized h refl)

found_begins : (o : Option History) (other : List (List ℕ)) → IfSome o (λ h. h.journal ≡ []) → (h : History) → o ≡ Some h
    → ◌≡◌ {A = History} h (record { base = unwrap_or (option_map (λ (x : History). x.base) o) other; journal = [] })
found_begins None other begun h is = absurd (cc is)
found_begins (Some x) other begun h is =
    let same : x ≡ h = cc is in
    sym same ∙ ap (λ (j : List Event). record { base = x.base; journal = j }) begun

pub since_attached : (device : List ℕ) (t0 t1 : Told) (b0 b1 : Beside) → IfSome t1.history (λ h. h.journal ≡ []) → ((h : History) → t1.history ≡ Some h → length h.base ≡ t1.blocks) → t1.faults ≡ t0.faults
    → Asks (asking None device true) b0 b1 → b1.attach_faults ≡ b0.attach_faults → KeepsAtAttach b0 b1 → Since (old_device (image_of t1)) device [] [] t0 t1 b0 b1
since_attached device t0 t1 b0 b1 begun sized faults asks attach keeps =
    since_opened (old_device (image_of t1)) device t0 t1 b0 b1 (found_begins t1.history (replicate t1.blocks []) begun) (found_size t1.blocks t1.history sized) faults asks attach keeps

-- and its table read
pub since_read : (device : List ℕ) (image : List (List ℕ)) (es : List Event) (t0 t1 t2 : Told) (b0 b1 b2 : Beside) → Since (old_device image) device [] [] t0 t1 b0 b1 → Tells es t1 t2 → KeepsBeside b1 b2 → Since (old_device image) device es [] t0 t2 b0 b2
since_read device image es t0 t1 t2 b0 b1 b2 opened tells keeps = since_then (old_device image) device [] es [] [] t0 t1 t2 b0 b1 b2 opened (goes_kept t1 t2 b1 b2 es tells keeps)

-- What came of reading the table.

module _ (image : List (List ℕ)) (count : ℕ) (es : List Event) where
  -- why no table was loaded
  pub load_fails : {T : Type 0} (e : LoadFault) (told : Told) → Makes (read_calls count) (is_read {T = T} (Err e)) es → ((h : History) → told.history ≡ Some h → h ≡ after (as_found image) es) → IsFirstDamaged {T = T} told (Err e)
      → Fails (old_device image) told (status_for e) es × HeedsDamage (old_device image) told (status_for e) es
  load_fails fault.DeviceFault told made begins damaged =
      let bad = makes_failed (read_calls count) es made in
      (bad, λ h is block broken none. absurd (none bad))
  load_fails fault.Memory told made begins damaged = (tt, λ h is block broken none. inr refl)
  load_fails (fault.Damaged bad) told made begins damaged = (
    (first, made_well (read_calls count) es made),
    λ h is block broken none. inl (ap (λ n. Damaged n) (same bad block (sym (first h is) ∙ broken))),
  )
    where
      same : (a b : ℕ) → ◌≡◌ {A = Result (List Slot) ℕ} (Err a) (Err b) → a ≡ b
      same a b e = cc

      first : (h : History) → told.history ≡ Some h → slots_of image ≡ Err bad
      first h is =
          let found = begins h is in
          subst (λ (x : List (List ℕ)). slots_of x ≡ Err bad) (current_reads image es [] (reads_of count true es made))
          (subst (λ (x : History). slots_of (current x.base x.journal) ≡ Err bad) found (damaged bad refl h is))

  pub load_cause : (T : Type 0) (e : LoadFault) (t0 t1 : Told) (b0 b1 : Beside) → Makes (read_calls count) (is_read {T = T} (Err e)) es → (HasFailed es → Rose t0.faults t1.faults) → IsCause t0 t1 b0 b1 (status_for e)
  load_cause T fault.DeviceFault t0 t1 b0 b1 made cause = inr (cause (makes_failed (read_calls count) es made))
  load_cause T fault.Memory t0 t1 b0 b1 made cause = tt
  load_cause T (fault.Damaged bad) t0 t1 b0 b1 made cause = tt

  -- The host stands for the system of its slots, also behind the device's line.
  module _ (host : Host) (ok : Bool) (t2 t3 : Told) (loaded : IsLoaded t2 host) (made : Makes (read_calls count) ok es) (begins : (h : History) → t2.history ≡ Some h → h ≡ after (as_found image) es) where
    found : (h : History) → t2.history ≡ Some h → StandsLoaded host t2.blocks image es
    found h is = loaded image es (is ∙ ap (λ (x : History). Some x) (begins h is)) (reads_of count ok es made)

    pub loaded_slots : (slots : ℕ) → slots ≡ length (slots_in 1 host.plane.table) → ((h : History) → t3.history ≡ Some h → (j : History) × (t2.history ≡ Some j)) → TellsSlots (old_device image) t3 slots
    loaded_slots slots count before = λ h is.
        let was = before h is in
        let st = found was.0 was.1 in
        (start_system image st.slots, (st.slots, st.found, refl), count ∙ st.count)

    pub loaded_host : (bytes : List ℕ) → ((h : History) → t3.history ≡ Some h → (j : History) × (t2.history ≡ Some j)) → t3.blocks ≡ t2.blocks
        → ((h : History) → t3.history ≡ Some h → h ≡ after (as_found image) (es ++ Out bytes ∷ [])) → (h : History) → t3.history ≡ Some h → (s : System) × Starts (old_device image) s × Stands host t3.blocks h s
    loaded_host bytes before size now h is =
        let was = before h is in
        let st = found was.0 was.1 in
        let s : System = start_system image st.slots in (
          s,
          (st.slots, st.found, refl),
          subst (λ n. Stands host n h s) (sym size)
              (subst (λ (x : History). Stands host t2.blocks x s) (sym (now h is ∙ after_append (as_found image) es (Out bytes ∷ [])))
              (stands_rests host t2.blocks (after (as_found image) es) (Out bytes ∷ []) s refl st.stands)),
        )
