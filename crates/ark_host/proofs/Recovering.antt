-- What a stop leaves at each front of a line's events recovers, by what the host stands for before the line.
use Rattle.std.proofs.Common.{◌≡◌, ◌⊎◌, inl, inr, ⊎_elim, ℕ, ◌<◌, ◌≤◌, ◌==◌, Bool, true, false, not, cond, ◌||◌, eqb-true, List, [], ◌∷◌, ◌++◌, length, get_or, refl, sym, ◌∙◌, ap, subst, arith, Contains}
use Rattle.std.specs.Prelude.{Option, Some, None, is_some, unwrap_or, Any}
use Rattle.std.proofs.lemmas.Bool.{false≢true}
use Rattle.std.proofs.lemmas.Bool.Decides.{nat_tests}
use Rattle.std.proofs.lemmas.List.Elements.{Contains-append_left, Contains-append_right, Contains-get_or}
use Rattle.ark_base.specs.declared.kind.Kind.{Kind}
use Rattle.ark_base.specs.declared.kind.Kind.TheVariants as kind
use Rattle.ark_media.specs.Journal.{Event, Read, Write, Sync, Out, History, onto, block, device_events, zero_block}
use Rattle.ark_media.specs.Stops.{MayHold, MayLeave, Whole}
use Rattle.ark_extents.proofs.RunLemmas.{blocks_of-runs_of}
use Rattle.ark_table.specs.Slots.{Slot, area_of}
use Rattle.ark_table.specs.Table.{HasTable, slots_in}
use Rattle.ark_table.specs.Standing.{Table, with_slot, grown_area, IsWritten, Spare, AreZero, creates, grows as adds, removes, IsEither, IsUnderWay, GoesThrough}
use Rattle.ark_table.proofs.Standing.{stands, either}
use Rattle.ark_table.proofs.Tables.{table_is_read}
use Rattle.ark_entry.specs.Found.{found_of}
use Rattle.ark_caladan.specs.Chain.{lists}
use Rattle.ark_script.specs.Lines.{Meaning}
use Rattle.ark_machine.specs.Objects
use Rattle.ark_machine.specs.Objects.{Object}
use Rattle.ark_machine.specs.Machine.{object_at}
use Rattle.ark_machine.specs.Plane.{Change, makes, grows, drops, is_granted}
use Rattle.ark_machine.specs.Granting.{without_slot, with_more}
use Rattle.ark_machine.specs.Grants.{has_block, has_index, SlotsAgree}
use Rattle.ark_machine.specs.Start.{contents_at}
use Rattle.ark_machine.specs.System.{System, machine_of}
use Rattle.ark_machine.specs.Recovers.{Recovers, begun, IsFound, IsMade, IsDropped, added_to, HeldStands, IsKnown, is_new_block, is_new, object_of, object_maybe, object_lists, dropped_object, written_to, BlocksStand, LogStands, ContentStands}
use Rattle.ark_machine.specs.Stopped.{begun_in}
use Rattle.ark_machine.specs.Fronts.{AtFront, AtEachFront}
use Rattle.ark_machine.proofs.Fronts.{front_adds, written_devices}
use Rattle.ark_media.specs.Standing.{after}
use Rattle.ark_held.proofs.Fronts.{shows}
use Rattle.ark_held.proofs.Members.{contains_in, in_contains}
use Rattle.ark_host.specs.declared.host.Host.{Host}
use Rattle.ark_plane.specs.Tables.{table_of, with_longer}
use Rattle.ark_host.specs.Tabled.{LeavesAs, LeavesObject, TableStands, StandsBeside, unsettled_blocks}
use Rattle.ark_host.specs.Stands.{Stands, app_of}
use Rattle.ark_plane.proofs.Tests.{by_test}
use Rattle.ark_plane.proofs.Tabling.{has_in, slot_in_table, slot_of_table}
use Rattle.ark_host.proofs.Staying.{table_stays, spare_front}
use Rattle.ark_plane.proofs.Freeing.{eq_same}
use Rattle.ark_plane.proofs.Sharing.{has}
use Rattle.ark_plane.proofs.Removed.{same_index, in_selected, stayed, rest_agrees, rest_table, front_gone}
use Rattle.ark_host.proofs.Failed.{none_new, none_made_since}
use Rattle.ark_host.proofs.Standing.{slot_fits, slot_based}
use Rattle.ark_host.proofs.Fronts.{IsStored, IsChained, StandsAs, its_own, not_new, by_app, place_of}
use Rattle.ark_plane.proofs.Lengthened.{one_index, in_map, of_map, split_get, longer, table_longer}
use Rattle.ark_host.proofs.Contents.{LogsOpen, LogsOpenInside, none_made, logs_open, no_entries, zeros_shown}

-- no slot is held, and the table has none
pub none_recovers : (s : System) (c : Option Change) (rest : List Event) (image : List (List ℕ)) → s.plane.slots ≡ [] → HasTable (table_of []) image → Recovers s c rest image
none_recovers s c rest image none has = record {
  slots = [];
  readable = table_is_read (table_of []) image has;
  held = λ t held. absurd (contains_in [] t (subst (λ (ts : List Slot). Contains ts t) none held));
  others = λ t seen. absurd (contains_in [] t seen);
  contents = λ t seen. absurd (contains_in [] t seen);
}

-- A slot whose change failed has no block of one that is held, and no index of one.

not_unsettled : (size : ℕ) (slots : List Slot) (u : Option Change) (n : ℕ) → StandsBeside size slots u → is_granted slots n ≡ true → is_new_block n u ≡ false
not_unsettled size slots None n beside granted = refl
not_unsettled size slots (Some (makes v)) n beside granted = by_test (has_block v.blocks n) (λ b. has_block v.blocks n ≡ b → b ≡ false)
    (λ yes q. absurd (false≢true (sym (beside.0.apart.0.1 n q) ∙ granted))) (λ no q. refl) refl
not_unsettled size slots (Some (grows v more)) n beside granted = by_test (has_block more n) (λ b. has_block more n ≡ b → b ≡ false)
    (λ yes q. absurd (false≢true (sym (beside.3 n q) ∙ granted))) (λ no q. refl) refl
not_unsettled size slots (Some (drops v o)) n beside granted = refl

index_apart : (slots : List Slot) (v t : Slot) → has_index slots v.index ≡ false → Contains slots t → (v.index == t.index) ≡ false
index_apart slots v t none slot = by_test (v.index == t.index) (λ b. (v.index == t.index) ≡ b → b ≡ false)
    (λ yes q. absurd (false≢true (sym none ∙ ap (λ i. has_index slots i) (eqb-true v.index t.index q) ∙ has_in slots t (contains_in slots t slot)))) (λ no q. refl) refl

not_made : (size : ℕ) (slots : List Slot) (u : Option Change) (t : Slot) → StandsBeside size slots u → Contains slots t → is_new t u ≡ false
not_made size slots None t beside slot = refl
not_made size slots (Some (makes v)) t beside slot = index_apart slots v t beside.0.apart.0.0 slot
not_made size slots (Some (grows v more)) t beside slot = refl
not_made size slots (Some (drops v o)) t beside slot = refl

not_dropped : (size : ℕ) (slots : List Slot) (u : Option Change) (t : Slot) (o : Option Object) → StandsBeside size slots u → Contains slots t → unwrap_or (dropped_object t u) o ≡ o
not_dropped size slots None t o beside slot = refl
not_dropped size slots (Some (makes v)) t o beside slot = refl
not_dropped size slots (Some (grows v more)) t o beside slot = refl
not_dropped size slots (Some (drops v x)) t o beside slot = ap (λ b. unwrap_or (cond b (Some x) None) o) (index_apart slots v t beside.apart.0.0 slot)

unsettled_apart : (size : ℕ) (slots : List Slot) (u : Option Change) (n : ℕ) → StandsBeside size slots u → is_granted slots n ≡ true → Contains (unsettled_blocks u) n → ⊥
unsettled_apart size slots None n beside granted among = absurd (contains_in [] n among)
unsettled_apart size slots (Some (makes v)) n beside granted among = false≢true (sym (beside.0.apart.0.1 n (has v.blocks n among)) ∙ granted)
unsettled_apart size slots (Some (grows v more)) n beside granted among = false≢true (sym (beside.3 n (has more n among)) ∙ granted)
unsettled_apart size slots (Some (drops v o)) n beside granted among = false≢true (sym (beside.apart.0.1 n (has v.blocks n among)) ∙ granted)

-- a block of a slot that is held is none of a change that failed
pub held_settled : (host : Host) (size : ℕ) (h : History) (s : System) → Stands host size h s → (t : Slot) (n : ℕ) → Contains s.plane.slots t → Contains t.blocks n → Contains (unsettled_blocks s.plane.unsettled) n → ⊥
held_settled host size h s st t n slot among new =
    unsettled_apart size s.plane.slots s.plane.unsettled n st.plane.beside (its_own s t n slot among) new

-- once a change failed, the table has failed
failed_since : (host : Host) (size : ℕ) (h : History) (s : System) (c : Change) → Stands host size h s → s.plane.unsettled ≡ Some c → s.plane.failed ≡ true
failed_since host size h s c st is = by_test host.plane.failed (λ b. host.plane.failed ≡ b → s.plane.failed ≡ true)
    (λ yes q. st.plane.failed ∙ q) (λ no q. absurd (false≢true (ap is_some (sym (st.plane.settled q) ∙ is)))) refl

or_right : (b c : Bool) → c ≡ true → (b || c) ≡ true
or_right true c is = refl
or_right false c is = is

or_left : (b c : Bool) → b ≡ true → (b || c) ≡ true
or_left b c is = ap (λ x. x || c) is

made_new : (u : Slot) (c : Option Change) → IsMade u c → is_new u c ≡ true
made_new u None made = absurd made
made_new u (Some (makes v)) made = subst (λ (x : Slot). (v.index == x.index) ≡ true) made (eq_same v.index)
made_new u (Some (grows v more)) made = absurd made
made_new u (Some (drops v o)) made = absurd made

module _ (host : Host) (size : ℕ) (h : History) (s : System) (st : Stands host size h s) (m : Option Meaning) (front : List Event) (image : List (List ℕ)) (left : MayLeave Whole h.base (onto front h.journal) image)
    (logs : LogsOpen (after h front) s) where
  abbrev rest : List Event
  rest = device_events front

  abbrev change : Option Change
  change = begun_in s m rest

  -- each block of a raw area that is held has what it may
  at_block : (t : Slot) → Contains s.plane.slots t → IsStored h s t → BlocksStand s change rest image t
  at_block t slot stored k n place =
      let p = place_of t.blocks k n place in
      let among : Contains t.blocks n = subst (λ (i : ℕ). Contains t.blocks i) p.1 (Contains-get_or t.blocks k 0 p.0) in
      let lt : n < length h.base = slot_based host size h s st t n slot among in
      let maybe : object_maybe k (object_of s t) ≡ get_or stored.raw.maybe k [] =
      ap (λ (o : Option Object). object_maybe k o) (not_dropped size s.plane.slots s.plane.unsettled t (object_at (machine_of s t.app) t.label) st.plane.beside slot ∙ stored.there) in
      let none : (is_new_block n change || is_new_block n s.plane.unsettled) ≡ false =
      ap (λ b. b || is_new_block n s.plane.unsettled) (not_new s t n slot among m rest) ∙ not_unsettled size s.plane.slots s.plane.unsettled n st.plane.beside (its_own s t n slot among) in
      let choice : Contains (object_maybe k (object_of s t) ++ written_to n rest) (block image n) =
      ⊎_elim
      (λ before. Contains-append_left (object_maybe k (object_of s t)) (written_to n rest) (block image n)
      (subst (λ (l : List (List ℕ)). Contains l (block image n)) (sym maybe)
      (stored.fits.maybe k p.0 (block image n) (subst (λ (i : ℕ). MayHold Whole h.base h.journal i (block image n)) (sym p.1) before))))
      (λ new. Contains-append_right (object_maybe k (object_of s t)) (written_to n rest) (block image n)
      (subst (λ (l : List (List ℕ)). Contains l (block image n)) (sym (written_devices n front)) new))
      (front_adds h.base front h.journal n lt (block image n) (left.each n lt)) in
      subst (λ (b : Bool). Contains (cond b (zero_block ∷ []) (object_maybe k (object_of s t) ++ written_to n rest)) (block image n)) (sym none) choice

  -- a log or queue opens to one of its lists
  log_there : (t : Slot) → Contains s.plane.slots t → IsChained s t → LogStands s change image t
  log_there t slot c =
      let old : (is_new t change || is_new t s.plane.unsettled) ≡ false =
      ap (λ b. b || is_new t s.plane.unsettled) (none_made s t slot (slot_fits host size h s st t slot).index_high m rest) ∙ not_made size s.plane.slots s.plane.unsettled t st.plane.beside slot in
      let object : object_of s t ≡ Some (Objects.log c.log) = not_dropped size s.plane.slots s.plane.unsettled t (object_at (machine_of s t.app) t.label) st.plane.beside slot ∙ c.there in
      let shown : Contains (lists c.log) (found_of t.kind (contents_at image t.blocks)) =
      subst (λ (k : Kind). Contains (lists c.log) (found_of k (contents_at image t.blocks))) (sym c.same_kind)
      (logs t c.log slot c.there (contents_at image t.blocks) (shows (after h front) t.blocks image (λ n has. slot_based host size h s st t n slot has) left)) in
      subst (λ (b : Bool). Contains (cond b (no_entries ∷ []) (object_lists (object_of s t))) (found_of t.kind (contents_at image t.blocks))) (sym old)
      (subst (λ (o : Option Object). Contains (object_lists o) (found_of t.kind (contents_at image t.blocks))) (sym object) shown)

  content : (t : Slot) → Contains s.plane.slots t → ContentStands s change rest image t t.kind
  content t slot = by t.kind (by_app h s t (st.plane.named t slot) st.plane.apart st.plane.named slot host.grants (app_of host.apps.items t.app) (st.machines t.app))
    where
      by : (k : Kind) → StandsAs h s t k → ContentStands s change rest image t k
      by kind.Raw stored = at_block t slot stored
      by kind.Log chain = log_there t slot chain
      by kind.Queue chain = log_there t slot chain

  any_held : (t : Slot) → Contains s.plane.slots t → Any (λ x. IsFound x change t ⊎ IsFound x s.plane.unsettled t) s.plane.slots
  any_held t held = (held.0, t, held.1, held.2, inl (inl refl))

  -- the table is as it was
  pub recovers_kept : HasTable (table_of s.plane.slots) image → AtFront s m front image
  recovers_kept table = record {
    slots = slots_in 1 (table_of s.plane.slots);
    readable = table_is_read (table_of s.plane.slots) image table;
    held = λ t held. inl (t, slot_in_table s.plane.size s.plane.slots st.plane.apart t held, inl (inl refl));
    others = λ t seen. inl (any_held t (slot_of_table s.plane.size s.plane.slots st.plane.apart t seen));
    contents = λ t seen. content t (slot_of_table s.plane.size s.plane.slots st.plane.apart t seen);
  }

  -- or it has a slot more, which is being made, or whose making failed
  module _ (u : Slot) (agree : SlotsAgree size (u ∷ s.plane.slots)) (some : 1 ≤ length u.blocks) (made : IsMade u change ⊎ IsMade u s.plane.unsettled)
      (new : (n : ℕ) → has_block u.blocks n ≡ true → (is_new_block n change || is_new_block n s.plane.unsettled) ≡ true) where
    one_of : (t : Slot) → Contains (u ∷ s.plane.slots) t → (u ≡ t) ⊎ Contains s.plane.slots t
    one_of t c = ⊎_elim (λ e. inl e) (λ i. inr (in_contains s.plane.slots t i)) (contains_in (u ∷ s.plane.slots) t c)

    known : (t : Slot) → (u ≡ t) ⊎ Contains s.plane.slots t → IsKnown s.plane.slots change s.plane.unsettled t
    known t (inl e) = subst (λ (x : Slot). IsKnown s.plane.slots change s.plane.unsettled x) e (⊎_elim (λ c. inr (inl c)) (λ c. inr (inr (inl c))) made)
    known t (inr held) = inl (any_held t held)

    zero_blocks : AreZero u.blocks image → BlocksStand s change rest image u
    zero_blocks zero k n place =
        let p = place_of u.blocks k n place in
        let among : Contains u.blocks n = subst (λ (i : ℕ). Contains u.blocks i) p.1 (Contains-get_or u.blocks k 0 p.0) in
        subst (λ (b : Bool). Contains (cond b (zero_block ∷ []) (object_maybe k (object_of s u) ++ written_to n rest)) (block image n)) (sym (new n (has u.blocks n among)))
        (0, omega arith, sym (zero n among))

    its_new : (is_new u change || is_new u s.plane.unsettled) ≡ true
    its_new = ⊎_elim (λ c. or_left (is_new u change) (is_new u s.plane.unsettled) (made_new u change c)) (λ c. or_right (is_new u change) (is_new u s.plane.unsettled) (made_new u s.plane.unsettled c)) made

    zero_log : AreZero u.blocks image → LogStands s change image u
    zero_log zero = subst (λ (b : Bool). Contains (cond b (no_entries ∷ []) (object_lists (object_of s u))) (found_of u.kind (contents_at image u.blocks))) (sym its_new)
        (0, omega arith, sym (zeros_shown u.kind u.blocks image some zero))

    zeros : AreZero u.blocks image → (k : Kind) → ContentStands s change rest image u k
    zeros zero kind.Raw = zero_blocks zero
    zeros zero kind.Log = zero_log zero
    zeros zero kind.Queue = zero_log zero

    contents_of : (t : Slot) → AreZero u.blocks image → (u ≡ t) ⊎ Contains s.plane.slots t → ContentStands s change rest image t t.kind
    contents_of t zero (inl e) = subst (λ (x : Slot). ContentStands s change rest image x x.kind) e (zeros zero u.kind)
    contents_of t zero (inr held) = content t held

    pub recovers_made : HasTable (table_of (u ∷ s.plane.slots)) image → AreZero (creates u.index (area_of u)).added image → AtFront s m front image
    recovers_made table zero =
        let zero : AreZero u.blocks image = subst (λ (bs : List ℕ). AreZero bs image) (blocks_of-runs_of u.blocks) zero in
        record {
          slots = slots_in 1 (table_of (u ∷ s.plane.slots));
          readable = table_is_read (table_of (u ∷ s.plane.slots)) image table;
          held = λ t held. inl (t, slot_in_table size (u ∷ s.plane.slots) agree t (in_contains (u ∷ s.plane.slots) t (inr (contains_in s.plane.slots t held))), inl (inl refl));
          others = λ t seen. known t (one_of t (slot_of_table size (u ∷ s.plane.slots) agree t seen));
          contents = λ t seen. contents_of t zero (one_of t (slot_of_table size (u ∷ s.plane.slots) agree t seen));
        }

  -- or a slot of it is gone
  module _ (u : Slot) (agree : SlotsAgree size s.plane.slots) (slot : Contains s.plane.slots u) (going : IsDropped u change) where
    stays_or_goes : (t : Slot) → Contains s.plane.slots t → HeldStands (slots_in 1 (table_of (without_slot u s.plane.slots))) change s.plane.unsettled t
    stays_or_goes t held = by_test (t.index == u.index) (λ b. (t.index == u.index) ≡ b → HeldStands (slots_in 1 (table_of (without_slot u s.plane.slots))) change s.plane.unsettled t)
        (λ yes q. inr (subst (λ (x : Slot). IsDropped x change) (sym (same_index s.plane.slots t u agree.apart (contains_in s.plane.slots t held) (contains_in s.plane.slots u slot) (eqb-true t.index u.index q))) going))
        (λ no q. inl (
          t,
          slot_in_table size (without_slot u s.plane.slots) (rest_agrees size s.plane.slots agree u slot) t
              (in_contains (without_slot u s.plane.slots) t (in_selected (λ (x : Slot). not (x.index == u.index)) s.plane.slots t (contains_in s.plane.slots t held) (ap not q))),
          inl (inl refl),
        )) refl

    pub recovers_gone : HasTable (table_of (without_slot u s.plane.slots)) image → AtFront s m front image
    recovers_gone table =
        let was : (t : Slot) → Contains (slots_in 1 (table_of (without_slot u s.plane.slots))) t → Contains s.plane.slots t =
        λ t seen. (stayed size s.plane.slots agree u slot t (slot_of_table size (without_slot u s.plane.slots) (rest_agrees size s.plane.slots agree u slot) t seen)).0 in
        record {
          slots = slots_in 1 (table_of (without_slot u s.plane.slots));
          readable = table_is_read (table_of (without_slot u s.plane.slots)) image table;
          held = λ t held. stays_or_goes t held;
          others = λ t seen. inl (any_held t (was t seen));
          contents = λ t seen. content t (was t seen);
        }

  -- or it has one that is no more held, whose removal failed
  module _ (u : Slot) (o : Option Object) (is : s.plane.unsettled ≡ Some (drops u o)) (agree : SlotsAgree size (u ∷ s.plane.slots)) (was : LeavesObject h u o) (leaves : LeavesObject (after h front) u o) where
    back_or_held : (t : Slot) → Contains (u ∷ s.plane.slots) t → (u ≡ t) ⊎ Contains s.plane.slots t
    back_or_held t c = ⊎_elim (λ e. inl e) (λ i. inr (in_contains s.plane.slots t i)) (contains_in (u ∷ s.plane.slots) t c)

    back_known : (t : Slot) → (u ≡ t) ⊎ Contains s.plane.slots t → IsKnown s.plane.slots change s.plane.unsettled t
    back_known t (inl e) = inr (inr (inr (subst (λ (x : Option Change). IsDropped t x) (sym is) e)))
    back_known t (inr held) = inl (any_held t held)

    back_object : object_of s u ≡ o
    back_object =
        ap (λ (x : Option Change). unwrap_or (dropped_object u x) (object_at (machine_of s u.app) u.label)) is
        ∙ ap (λ b. unwrap_or (cond b (Some o) None) (object_at (machine_of s u.app) u.label)) (eq_same u.index)

    has_failed : s.plane.failed ≡ true
    has_failed = failed_since host size h s (drops u o) st is

    back_blocks : LeavesAs h u.blocks kind.Raw o → BlocksStand s change rest image u
    back_blocks each k n place =
        let p = place_of u.blocks k n place in
        let among : Contains u.blocks n = subst (λ (i : ℕ). Contains u.blocks i) p.1 (Contains-get_or u.blocks k 0 p.0) in
        let lt : n < length h.base = was.inside n among in
        let none : (is_new_block n change || is_new_block n s.plane.unsettled) ≡ false =
        ap (λ b. b || is_new_block n s.plane.unsettled) (none_new s n has_failed m rest) ∙ ap (λ (x : Option Change). is_new_block n x) is in
        let maybe : object_maybe k (object_of s u) ≡ object_maybe k o = ap (λ (x : Option Object). object_maybe k x) back_object in
        let choice : Contains (object_maybe k (object_of s u) ++ written_to n rest) (block image n) =
        ⊎_elim
        (λ before. Contains-append_left (object_maybe k (object_of s u)) (written_to n rest) (block image n)
        (subst (λ (l : List (List ℕ)). Contains l (block image n)) (sym maybe)
        (each k p.0 (block image n) (subst (λ (i : ℕ). MayHold Whole h.base h.journal i (block image n)) (sym p.1) before))))
        (λ new. Contains-append_right (object_maybe k (object_of s u)) (written_to n rest) (block image n)
        (subst (λ (l : List (List ℕ)). Contains l (block image n)) (sym (written_devices n front)) new))
        (front_adds h.base front h.journal n lt (block image n) (left.each n lt)) in
        subst (λ (b : Bool). Contains (cond b (zero_block ∷ []) (object_maybe k (object_of s u) ++ written_to n rest)) (block image n)) (sym none) choice

    back_lists : Contains (object_lists o) (found_of u.kind (contents_at image u.blocks)) → LogStands s change image u
    back_lists found =
        let old : (is_new u change || is_new u s.plane.unsettled) ≡ false =
        ap (λ b. b || is_new u s.plane.unsettled) (none_made_since s u has_failed m rest) ∙ ap (λ (x : Option Change). is_new u x) is in
        subst (λ (b : Bool). Contains (cond b (no_entries ∷ []) (object_lists (object_of s u))) (found_of u.kind (contents_at image u.blocks))) (sym old)
        (subst (λ (x : Option Object). Contains (object_lists x) (found_of u.kind (contents_at image u.blocks))) (sym back_object) found)

    back_as : (k : Kind) → u.kind ≡ k → LeavesAs h u.blocks k o → LeavesAs (after h front) u.blocks k o → ContentStands s change rest image u k
    back_as kind.Raw its before now = back_blocks before
    back_as kind.Log its before now = back_lists (subst (λ (k : Kind). Contains (object_lists o) (found_of k (contents_at image u.blocks))) (sym its) (now (contents_at image u.blocks) (shows (after h front) u.blocks image was.inside left)))
    back_as kind.Queue its before now = back_lists (subst (λ (k : Kind). Contains (object_lists o) (found_of k (contents_at image u.blocks))) (sym its) (now (contents_at image u.blocks) (shows (after h front) u.blocks image was.inside left)))

    back_content : (t : Slot) → (u ≡ t) ⊎ Contains s.plane.slots t → ContentStands s change rest image t t.kind
    back_content t (inl e) = subst (λ (x : Slot). ContentStands s change rest image x x.kind) e (back_as u.kind refl was.left leaves.left)
    back_content t (inr held) = content t held

    pub recovers_back : HasTable (table_of (u ∷ s.plane.slots)) image → AtFront s m front image
    recovers_back table = record {
      slots = slots_in 1 (table_of (u ∷ s.plane.slots));
      readable = table_is_read (table_of (u ∷ s.plane.slots)) image table;
      held = λ t held. inl (t, slot_in_table size (u ∷ s.plane.slots) agree t (in_contains (u ∷ s.plane.slots) t (inr (contains_in s.plane.slots t held))), inl (inl refl));
      others = λ t seen. back_known t (back_or_held t (slot_of_table size (u ∷ s.plane.slots) agree t seen));
      contents = λ t seen. back_content t (back_or_held t (slot_of_table size (u ∷ s.plane.slots) agree t seen));
    }

  -- or one of its slots is longer, which is a raw area's, and is growing or failed to
  module _ (t : Slot) (more : List ℕ) (slot : Contains s.plane.slots t) (raw : t.kind ≡ kind.Raw) (agree : SlotsAgree size (with_longer t more s.plane.slots))
      (growing : (change ≡ Some (grows t more)) ⊎ (s.plane.unsettled ≡ Some (grows t more))) where
    -- the new blocks are the change's
    adds_them : (n : ℕ) → has_block more n ≡ true → (is_new_block n change || is_new_block n s.plane.unsettled) ≡ true
    adds_them n new = ⊎_elim
        (λ c. or_left (is_new_block n change) (is_new_block n s.plane.unsettled) (ap (λ (u : Option Change). is_new_block n u) c ∙ new))
        (λ c. or_right (is_new_block n change) (is_new_block n s.plane.unsettled) (ap (λ (u : Option Change). is_new_block n u) c ∙ new)) growing

    more_of : (u : Slot) (c : Option Change) → c ≡ Some (grows t more) → (u.index == t.index) ≡ true → with_more u more ≡ with_more u (added_to u c)
    more_of u c is q =
        let turned : (t.index == u.index) ≡ true = grind (arith, nat_tests, q) in
        sym (ap (λ (z : Option Change). with_more u (added_to u z)) is ∙ ap (λ b. with_more u (cond b more [])) turned)

    found_as : (u : Slot) → IsFound u change (longer t more u) ⊎ IsFound u s.plane.unsettled (longer t more u)
    found_as u = by_test (u.index == t.index) (λ b. (u.index == t.index) ≡ b → IsFound u change (cond b (with_more u more) u) ⊎ IsFound u s.plane.unsettled (cond b (with_more u more) u))
        (λ yes q. ⊎_elim (λ c. inl (inr (more_of u change c q))) (λ c. inr (inr (more_of u s.plane.unsettled c q))) growing)
        (λ no q. inl (inl refl)) refl

    same_dropped : (c : Option Change) → dropped_object (with_more t more) c ≡ dropped_object t c
    same_dropped None = refl
    same_dropped (Some (makes v)) = refl
    same_dropped (Some (grows v blocks)) = refl
    same_dropped (Some (drops v o)) = refl

    same_object : object_of s (with_more t more) ≡ object_of s t
    same_object = ap (λ (o : Option (Option Object)). unwrap_or o (object_at (machine_of s t.app) t.label)) (same_dropped s.plane.unsettled)

    longer_blocks : AreZero more image → BlocksStand s change rest image (with_more t more)
    longer_blocks zero k n place = ⊎_elim
        (λ own. subst (λ (o : Option Object). Contains (cond (is_new_block n change || is_new_block n s.plane.unsettled) (zero_block ∷ []) (object_maybe k o ++ written_to n rest)) (block image n)) (sym same_object)
        (at_block t slot (subst (λ (z : Kind). StandsAs h s t z) raw (by_app h s t (st.plane.named t slot) st.plane.apart st.plane.named slot host.grants (app_of host.apps.items t.app) (st.machines t.app))) k n own))
        (λ new. subst (λ (b : Bool). Contains (cond b (zero_block ∷ []) (object_maybe k (object_of s (with_more t more)) ++ written_to n rest)) (block image n)) (sym (adds_them n (has more n new)))
        (0, omega arith, sym (zero n new))) (split_get t.blocks more k n place)

    longer_content : AreZero more image → (u : Slot) → Contains s.plane.slots u → ContentStands s change rest image (longer t more u) (longer t more u).kind
    longer_content zero u held = by_test (u.index == t.index) (λ b. (u.index == t.index) ≡ b → ContentStands s change rest image (cond b (with_more u more) u) (cond b (with_more u more) u).kind)
        (λ yes q.
        let index : t.index ≡ u.index = grind (arith, nat_tests, q) in
        let same : t ≡ u = one_index s.plane.slots t u st.plane.apart.apart (contains_in s.plane.slots t slot) (contains_in s.plane.slots u held) index in
        subst (λ (z : Slot). ContentStands s change rest image (with_more z more) z.kind) same
        (subst (λ (z : Kind). ContentStands s change rest image (with_more t more) z) (sym raw) (longer_blocks zero)))
        (λ no q. content u held) refl

    pub recovers_grown : HasTable (table_of (with_longer t more s.plane.slots)) image → AreZero more image → AtFront s m front image
    recovers_grown table zero =
        let all : List Slot = with_longer t more s.plane.slots in
        record {
          slots = slots_in 1 (table_of all);
          readable = table_is_read (table_of all) image table;
          held = λ u held. inl (longer t more u, slot_in_table size all agree (longer t more u) (in_contains all (longer t more u) (in_map (longer t more) s.plane.slots u (contains_in s.plane.slots u held))), found_as u);
          others = λ v seen.
              let from = of_map (longer t more) s.plane.slots v (contains_in all v (slot_of_table size all agree v seen)) in
              let c = in_contains s.plane.slots from.0 from.1 in
              inl (c.0, from.0, c.1, c.2, subst (λ (z : Slot). IsFound from.0 change z ⊎ IsFound from.0 s.plane.unsettled z) from.2 (found_as from.0));
          contents = λ v seen.
              let from = of_map (longer t more) s.plane.slots v (contains_in all v (slot_of_table size all agree v seen)) in
              subst (λ (z : Slot). ContentStands s change rest image z z.kind) from.2 (longer_content zero from.0 (in_contains s.plane.slots from.0 from.1));
        }

-- Events beside the table, and beside the blocks of a change that failed.

-- the table of slots one of which is longer
pub grown_table : (host : Host) (size : ℕ) (h : History) (s : System) → Stands host size h s → (t : Slot) (more : List ℕ) → Contains s.plane.slots t
    → table_of (with_longer t more s.plane.slots) ≡ with_slot (table_of s.plane.slots) t.index (Some (grown_area (area_of t) more))
grown_table host size h s st t more slot = table_longer t more s.plane.size s.plane.slots st.plane.apart.fit st.plane.apart.apart (contains_in s.plane.slots t slot)

module _ (host : Host) (size : ℕ) (h : History) (s : System) (st : Stands host size h s) (m : Option Meaning) where
  by_unsettled : (front : List Event) (image : List (List ℕ)) → MayLeave Whole h.base (onto front h.journal) image → (u : Option Change) → s.plane.unsettled ≡ u → StandsBeside size s.plane.slots u → TableStands h s.plane.slots u
      → TableStands (after h front) s.plane.slots u → LogsOpen (after h front) s → AtFront s m front image
  by_unsettled front image left None is beside was table logs = recovers_kept host size h s st m front image left logs (stands (after h front) (table_of s.plane.slots) image table left)
  by_unsettled front image left (Some (makes v)) is beside was (inl table) logs = recovers_kept host size h s st m front image left logs (stands (after h front) (table_of s.plane.slots) image table left)
  by_unsettled front image left (Some (makes v)) is beside was (inr tried) logs = by (either (after h front) (table_of s.plane.slots) (creates v.index (area_of v)) image tried left)
    where
      by : IsEither (table_of s.plane.slots) (creates v.index (area_of v)) image → AtFront s m front image
      by (inl kept) = recovers_kept host size h s st m front image left logs kept
      by (inr more) = recovers_made host size h s st m front image left logs v beside.0 beside.1 (inr (subst (λ (u : Option Change). IsMade v u) (sym is) refl))
          (λ n has. or_right (is_new_block n (begun_in s m (device_events front))) (is_new_block n s.plane.unsettled) (ap (λ (u : Option Change). is_new_block n u) is ∙ has)) more.0 more.1
  by_unsettled front image left (Some (grows v more)) is beside was (inl table) logs = recovers_kept host size h s st m front image left logs (stands (after h front) (table_of s.plane.slots) image table left)
  by_unsettled front image left (Some (grows v more)) is beside was (inr tried) logs = by (either (after h front) (table_of s.plane.slots) (adds v.index (area_of v) more) image tried left)
    where
      by : IsEither (table_of s.plane.slots) (adds v.index (area_of v) more) image → AtFront s m front image
      by (inl kept) = recovers_kept host size h s st m front image left logs kept
      by (inr longer) = recovers_grown host size h s st m front image left logs v more beside.0 beside.1 beside.2 (inr is)
          (subst (λ (z : Table). HasTable z image) (sym (grown_table host size h s st v more beside.0)) longer.0) longer.1
  by_unsettled front image left (Some (drops v o)) is beside was (inl table, leaves) logs =
      recovers_back host size h s st m front image left logs v o is beside was.1 leaves (stands (after h front) (table_of (v ∷ s.plane.slots)) image table left)
  by_unsettled front image left (Some (drops v o)) is beside was (inr tried, leaves) logs = by (either (after h front) (table_of (v ∷ s.plane.slots)) (removes v.index) image tried left)
    where
      by : IsEither (table_of (v ∷ s.plane.slots)) (removes v.index) image → AtFront s m front image
      by (inl kept) = recovers_back host size h s st m front image left logs v o is beside was.1 leaves kept
      by (inr gone) = recovers_kept host size h s st m front image left logs (subst (λ (z : Table). HasTable z image) (front_gone size v s.plane.slots beside) gone.0)

  pub spare_fronts : (es : List Event) → Spare (unsettled_blocks s.plane.unsettled) es → LogsOpenInside h s es → AtEachFront h.base h.journal s m es
  spare_fronts es spare logs front back image split left =
      by_unsettled front image left s.plane.unsettled refl st.plane.beside st.table
      (table_stays h s.plane.slots s.plane.unsettled front st.table (spare_front (unsettled_blocks s.plane.unsettled) front back (subst (λ (xs : List Event). Spare (unsettled_blocks s.plane.unsettled) xs) split spare)))
      (logs front back split)

  -- no event
  pub none_fronts : AtEachFront h.base h.journal s m []
  none_fronts = spare_fronts [] (λ n written. absurd written) (logs_open host size h s st [] (λ t slot. tt))

  -- A slot that is being made: once it was written, it may stand with its zeros.

  begun_written : (n : ℕ) (front : List Event) → IsWritten n front → begun_in s m (device_events front) ≡ begun s m
  begun_written n [] written = absurd written
  begun_written n (Write k content took ok ∷ es) written = refl
  begun_written n (Read k ok ∷ es) written = refl
  begun_written n (Sync ok ∷ es) written = refl
  begun_written n (Out bytes ∷ es) written = begun_written n es written

  pub made_fronts : (u : Slot) (ok : Bool) (es : List Event) → SlotsAgree size (u ∷ s.plane.slots) → 1 ≤ length u.blocks → begun s m ≡ Some (makes u) → GoesThrough h (table_of s.plane.slots) (creates u.index (area_of u)) ok es
      → LogsOpenInside h s es → AtEachFront h.base h.journal s m es
  made_fronts u ok es agree some begins goes opens front back image split left = by (goes.each front back split)
    where
      logs : LogsOpen (after h front) s
      logs = opens front back split

      with_either : IsWritten u.index front → IsEither (table_of s.plane.slots) (creates u.index (area_of u)) image → AtFront s m front image
      with_either written (inl kept) = recovers_kept host size h s st m front image left logs kept
      with_either written (inr more) =
          let is : begun_in s m (device_events front) ≡ Some (makes u) = begun_written u.index front written ∙ begins in
          recovers_made host size h s st m front image left logs u agree some (inl (subst (λ (c : Option Change). IsMade u c) (sym is) refl))
          (λ n has. or_left (is_new_block n (begun_in s m (device_events front))) (is_new_block n s.plane.unsettled) (ap (λ (c : Option Change). is_new_block n c) is ∙ has)) more.0 more.1

      by : IsUnderWay h (table_of s.plane.slots) (creates u.index (area_of u)) front → AtFront s m front image
      by (inl table) = recovers_kept host size h s st m front image left logs (stands (after h front) (table_of s.plane.slots) image table left)
      by (inr under) = with_either under.0 (either (after h front) (table_of s.plane.slots) (creates u.index (area_of u)) image under.1 left)

  -- A slot that is being removed: once it was written, it may be gone.

  pub removed_fronts : (u : Slot) (o : Option Object) (ok : Bool) (es : List Event) → SlotsAgree size s.plane.slots → Contains s.plane.slots u → begun s m ≡ Some (drops u o) → GoesThrough h (table_of s.plane.slots) (removes u.index) ok es
      → LogsOpenInside h s es → AtEachFront h.base h.journal s m es
  removed_fronts u o ok es agree slot begins goes opens front back image split left = by (goes.each front back split)
    where
      logs : LogsOpen (after h front) s
      logs = opens front back split

      with_either : IsWritten u.index front → IsEither (table_of s.plane.slots) (removes u.index) image → AtFront s m front image
      with_either written (inl kept) = recovers_kept host size h s st m front image left logs kept
      with_either written (inr gone) =
          recovers_gone host size h s st m front image left logs u agree slot (subst (λ (c : Option Change). IsDropped u c) (sym (begun_written u.index front written ∙ begins)) refl)
          (subst (λ (z : Table). HasTable z image) (rest_table size s.plane.slots agree u slot) gone.0)

      by : IsUnderWay h (table_of s.plane.slots) (removes u.index) front → AtFront s m front image
      by (inl table) = recovers_kept host size h s st m front image left logs (stands (after h front) (table_of s.plane.slots) image table left)
      by (inr under) = with_either under.0 (either (after h front) (table_of s.plane.slots) (removes u.index) image under.1 left)

  -- A raw area that is growing: once its slot was written, it may stand with the new blocks, which are zero.
  pub grown_fronts : (t : Slot) (more : List ℕ) (ok : Bool) (es : List Event) → Contains s.plane.slots t → t.kind ≡ kind.Raw → SlotsAgree size (with_longer t more s.plane.slots) → begun s m ≡ Some (grows t more)
      → GoesThrough h (table_of s.plane.slots) (adds t.index (area_of t) more) ok es → LogsOpenInside h s es → AtEachFront h.base h.journal s m es
  grown_fronts t more ok es slot raw agree begins goes opens front back image split left = by (goes.each front back split)
    where
      logs : LogsOpen (after h front) s
      logs = opens front back split

      with_either : IsWritten t.index front → IsEither (table_of s.plane.slots) (adds t.index (area_of t) more) image → AtFront s m front image
      with_either written (inl kept) = recovers_kept host size h s st m front image left logs kept
      with_either written (inr longer) =
          recovers_grown host size h s st m front image left logs t more slot raw agree (inl (begun_written t.index front written ∙ begins))
          (subst (λ (z : Table). HasTable z image) (sym (grown_table host size h s st t more slot)) longer.0) longer.1

      by : IsUnderWay h (table_of s.plane.slots) (adds t.index (area_of t) more) front → AtFront s m front image
      by (inl table) = recovers_kept host size h s st m front image left logs (stands (after h front) (table_of s.plane.slots) image table left)
      by (inr under) = with_either under.0 (either (after h front) (table_of s.plane.slots) (adds t.index (area_of t) more) image under.1 left)
