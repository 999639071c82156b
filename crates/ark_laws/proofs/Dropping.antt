-- A dropped object leaves it that the plane lists just the filters that the machines hold.
use Rattle.std.proofs.Common.{◌≡◌, ℕ, Bool, true, false, not, ◌&&◌, List, [], ◌∷◌, map, refl, sym, ◌∙◌, ap, subst, cond}
use Rattle.std.proofs.lemmas.Bool.{false≢true, and_parts}
use Rattle.std.proofs.lemmas.Option.{same_Some}
use Rattle.std.specs.Prelude.{Option, Some, None, option_map, option_and_then, filter as select, unwrap_or, bytes_eq, is_some}
use Rattle.ark_base.specs.Conditions.{Conditions, none, early, when}
use Rattle.ark_base.specs.declared.refusal.Refusal.{Refusal}
use Rattle.ark_base.specs.declared.refusal.Refusal.TheVariants as r
use Rattle.ark_media.specs.Journal.{Event}
use Rattle.ark_filters.specs.declared.filter.Filter.{Filter}
use Rattle.ark_script.specs.Line as w
use Rattle.ark_script.specs.Line.{Line}
use Rattle.ark_script.specs.declared.said.Said.TheVariants as said
use Rattle.ark_machine.specs.Objects
use Rattle.ark_machine.specs.Objects.{Object, as_vnic, is_vsa, is_buffer}
use Rattle.ark_machine.specs.Machine.{Machine, object_at, vnic_at, serial_at, is_so, missing, without, each_object}
use Rattle.ark_machine.specs.Row.{Row, Given, Call, says, answer, unless_refused, has_fault, synced_by, writes_slot, syncs}
use Rattle.ark_machine.specs.Control.{lets_go, is_in_use}
use Rattle.ark_machine.specs.Plane.{LiveFilter}
use Rattle.ark_machine.specs.Granting.{is_filter_of, is_on, assigned, changed, change_of}
use Rattle.ark_machine.specs.Step.{step}
use Rattle.ark_machine.specs.Follow.{Follows, Follow, ended, fails, goes_on, again, passes, ends_of}
use Rattle.ark_machine.specs.System.{System, listed_machine, set_machine, machine_of, own_turn}
use Rattle.ark_machine.specs.Filters.{as_assigned, held_at, listed_at, EachOnce, FiltersAgree}
use Rattle.ark_laws.proofs.Listed.{same_bytes, bytes_eq-same, set_there as machine_there}
use Rattle.ark_laws.proofs.Privacy.{own_machine}
use Rattle.ark_laws.proofs.Setting.{each_found}
use Rattle.ark_laws.proofs.Seen.{gone_here, gone_there, synced_sees}
use Rattle.ark_laws.proofs.Keeping.{Keeps, keeps_itself, keeps_then, keeps_of, joined, kept, changed_filters, refused_filters}
use Rattle.ark_laws.proofs.Agreeing.{flip, same_option, is_this, assigned_owner, assigned_label, listed_map, once_map, listed_gone, listed_left, once_select}

-- What the object under a label lets go of a card.

abbrev pub free_card : List ℕ → Option (List ℕ) → Option (List ℕ)
free_card x None = None
free_card x (Some v) = cond (bytes_eq x v) None (Some v)

abbrev freed : List ℕ → Filter × Option (List ℕ) → Filter × Option (List ℕ)
freed x p = (p.0, free_card x p.1)

lets_held : (x : List ℕ) (k : ℕ) (o : Option Object) → option_and_then as_assigned (option_map (lets_go x k) o) ≡ option_map (freed x) (option_and_then as_assigned o)
lets_held x k None = refl
lets_held x k (Some (Objects.raw y)) = refl
lets_held x k (Some (Objects.log y)) = refl
lets_held x k (Some (Objects.vsic y)) = refl
lets_held x k (Some (Objects.vnic y)) = refl
lets_held x k (Some (Objects.filter f None)) = refl
lets_held x k (Some (Objects.filter f (Some v))) = refl
lets_held x k (Some (Objects.door y)) = refl
lets_held x k (Some (Objects.rate q b)) = refl
lets_held x k (Some (Objects.buffer y)) = refl
lets_held x k (Some (Objects.socket y)) = refl

lets_card : (x : List ℕ) (k : ℕ) (o : Option Object) → is_some (option_and_then as_vnic (option_map (lets_go x k) o)) ≡ is_some (option_and_then as_vnic o)
lets_card x k None = refl
lets_card x k (Some (Objects.raw y)) = refl
lets_card x k (Some (Objects.log y)) = refl
lets_card x k (Some (Objects.vsic y)) = refl
lets_card x k (Some (Objects.vnic y)) = refl
lets_card x k (Some (Objects.filter f None)) = refl
lets_card x k (Some (Objects.filter f (Some v))) = refl
lets_card x k (Some (Objects.door y)) = refl
lets_card x k (Some (Objects.rate q b)) = refl
lets_card x k (Some (Objects.buffer y)) = refl
lets_card x k (Some (Objects.socket y)) = refl

-- an area is neither a filter nor a network card
area_plain : (o : Option Object) → is_so is_vsa o ≡ true → (option_and_then as_assigned o ≡ None) × (is_some (option_and_then as_vnic o) ≡ false)
area_plain None h = (refl, refl)
area_plain (Some (Objects.raw y)) h = (refl, refl)
area_plain (Some (Objects.log y)) h = (refl, refl)
area_plain (Some _) h = absurd (false≢true h)

card_freed : (x : List ℕ) (v : List ℕ) (f r : Filter) (c : Option (List ℕ)) → ◌≡◌ {A = Option (Filter × Option (List ℕ))} (Some (f, free_card x c)) (Some (r, Some v)) → (◌≡◌ {A = Option (Filter × Option (List ℕ))} (Some (f, c)) (Some (r, Some v))) × (bytes_eq x v ≡ false)
card_freed x v f r None h = absurd (let e : ◌≡◌ {A = Option (List ℕ)} None (Some v) = ap (λ (p : Filter × Option (List ℕ)). p.1) (same_Some _ _ h) in cc e)
card_freed x v f r (Some y) h = by (bytes_eq x y) refl (ap (λ (p : Filter × Option (List ℕ)). p.1) (same_Some _ _ h))
  where
    one : f ≡ r
    one = ap (λ (p : Filter × Option (List ℕ)). p.0) (same_Some _ _ h)

    by : (t : Bool) → bytes_eq x y ≡ t → ◌≡◌ {A = Option (List ℕ)} (cond t None (Some y)) (Some v) → (◌≡◌ {A = Option (Filter × Option (List ℕ))} (Some (f, Some y)) (Some (r, Some v))) × (bytes_eq x v ≡ false)
    by true e k = absurd cc
    by false e k = let two : y ≡ v = same_Some y v k in (rw (one, two) refl, subst (λ z. bytes_eq x z ≡ false) two e)

freed_some : (x v : List ℕ) (r : Filter) (q : Option (Filter × Option (List ℕ))) → option_map (freed x) q ≡ Some (r, Some v) → (q ≡ Some (r, Some v)) × (bytes_eq x v ≡ false)
freed_some x v r None h = absurd cc
freed_some x v r (Some p) h = card_freed x v p.0 r p.1 h

-- `drop`

-- the row where it is not refused
abbrev drop_row : Machine → List ℕ → Given → Row
drop_row m x g = record {
  machine = synced_by g.ended (each_object (lets_go x (serial_at m x)) (without m x));
  said = said.Ok;
  bytes = [];
  calls = cond (is_so is_vsa (object_at m x)) (writes_slot ∷ syncs ∷ []) [];
}

module _ (s : System) (a x : List ℕ) (g : Given) (h : FiltersAgree s) where
  abbrev m : Machine
  m = machine_of s a

  abbrev k : ℕ
  k = serial_at m x

  abbrev n : Machine
  n = each_object (lets_go x k) (without m x)

  held_here : held_at n x ≡ None
  held_here = ap (λ q. option_and_then as_assigned q) (each_found (lets_go x k) x (without m x).held ∙ ap (λ q. option_map (lets_go x k) q) (gone_here x m.held))

  held_there : (l : List ℕ) → bytes_eq l x ≡ false → held_at n l ≡ option_map (freed x) (held_at m l)
  held_there l e =
      ap (λ q. option_and_then as_assigned q) (each_found (lets_go x k) l (without m x).held ∙ ap (λ q. option_map (lets_go x k) q) (gone_there l x m.held e))
      ∙ lets_held x k (object_at m l)

  card_there : (v : List ℕ) → bytes_eq v x ≡ false → is_some (vnic_at m v) ≡ true → is_some (vnic_at n v) ≡ true
  card_there v e is =
      ap (λ q. is_some (option_and_then as_vnic q)) (each_found (lets_go x k) v (without m x).held ∙ ap (λ q. option_map (lets_go x k) q) (gone_there v x m.held e))
      ∙ lets_card x k (object_at m v) ∙ is

  -- an area that is dropped leaves the filters
  area_keeps : is_so is_vsa (object_at m x) ≡ true → Keeps m n
  area_keeps area = record { held = λ l. held l (bytes_eq l x) refl; cards = λ v is. card_there v (apart v is (bytes_eq v x) refl) is }
    where
      apart : (v : List ℕ) → is_some (vnic_at m v) ≡ true → (t : Bool) → bytes_eq v x ≡ t → bytes_eq v x ≡ false
      apart v is true e = absurd (false≢true (sym (area_plain (object_at m x) area).1 ∙ subst (λ z. is_some (vnic_at m z) ≡ true) (same_bytes v x e) is))
      apart v is false e = e

      still : (l : List ℕ) (q : Option (Filter × Option (List ℕ))) → held_at m l ≡ q → option_map (freed x) q ≡ q
      still l None is = refl
      still l (Some p) is = by p.1 (is)
        where
          by : (c : Option (List ℕ)) → held_at m l ≡ Some (p.0, c) → ◌≡◌ {A = Option (Filter × Option (List ℕ))} (Some (p.0, free_card x c)) (Some (p.0, c))
          by None e = refl
          by (Some v) e =
              let carded : is_some (vnic_at m v) ≡ true = h.cards a l v p.0 e in
              let other : bytes_eq x v ≡ false = flip v x (apart v carded (bytes_eq v x) refl) in rw other refl

      held : (l : List ℕ) (t : Bool) → bytes_eq l x ≡ t → held_at n l ≡ held_at m l
      held l true e = subst (λ z. held_at n z ≡ held_at m z) (sym (same_bytes l x e)) (held_here ∙ sym (area_plain (object_at m x) area).0)
      held l false e = held_there l e ∙ still l (held_at m l) refl

  abbrev rest : List LiveFilter → List LiveFilter
  rest gs = select (λ f. not (is_filter_of a x f)) gs

  abbrev left : List LiveFilter → List LiveFilter
  left gs = map (λ f. cond (is_on a x f) (assigned None f) f) (rest gs)

  abbrev to_none : LiveFilter → LiveFilter
  to_none f = cond (is_on a x f) (assigned None f) f

  dropped_agrees : (after : System) (fs : List LiveFilter) (end : Machine) → Keeps n end → machine_of after a ≡ end → ((b : List ℕ) → bytes_eq b a ≡ false → machine_of after b ≡ machine_of s b)
      → after.plane.filters ≡ map (λ f. cond (is_on a x f) (assigned None f) f) (select (λ f. not (is_filter_of a x f)) fs) → fs ≡ s.plane.filters → FiltersAgree after
  dropped_agrees after fs end keeps own others is same =
      joined s after a end own others (λ b l e. ap (λ gs. listed_at gs b l) (is ∙ ap left same) ∙ elsewhere b l e)
      (λ l. ap (λ gs. listed_at gs a l) (is ∙ ap left same) ∙ mine l (bytes_eq l x) refl ∙ sym (keeps.held l))
      (subst EachOnce (sym (is ∙ ap left same)) (once_map to_none owners labels (rest s.plane.filters) (once_select (λ f. not (is_filter_of a x f)) s.plane.filters h.once)))
      (λ l v q e. keeps.cards v (cards l v q (bytes_eq l x) refl (sym (keeps.held l) ∙ e))) h
    where
      owners : (f : LiveFilter) → (to_none f).owner ≡ f.owner
      owners f = assigned_owner (is_on a x f) None f

      labels : (f : LiveFilter) → (to_none f).label ≡ f.label
      labels f = assigned_label (is_on a x f) None f

      elsewhere : (b l : List ℕ) → bytes_eq b a ≡ false → listed_at (left s.plane.filters) b l ≡ listed_at s.plane.filters b l
      elsewhere b l e =
          listed_map to_none owners labels b l (λ p. p)
          (λ f q. let off : bytes_eq a f.owner ≡ false = subst (λ z. bytes_eq a z ≡ false) (is_this b l f q).0 (flip b a e) in rw off refl) (rest s.plane.filters)
          ∙ same_option (listed_at (rest s.plane.filters) b l) ∙ listed_left a x b l s.plane.filters (rw e refl)

      pairs : (t : Bool) (f : LiveFilter) → ◌≡◌ {A = Filter × Option (List ℕ)} ((cond t (assigned None f) f).rule, (cond t (assigned None f) f).card) (f.rule, cond t None f.card)
      pairs true f = refl
      pairs false f = refl

      freeing : (c : Option (List ℕ)) → cond (unwrap_or (option_map (λ v. bytes_eq x v) c) false) None c ≡ free_card x c
      freeing None = refl
      freeing (Some v) = refl

      each : (l : List ℕ) (f : LiveFilter) → is_filter_of a l f ≡ true → ◌≡◌ {A = Filter × Option (List ℕ)} ((to_none f).rule, (to_none f).card) (freed x (f.rule, f.card))
      each l f q =
          let mine : bytes_eq a f.owner ≡ true = (and_parts (bytes_eq a f.owner) (bytes_eq l f.label) q).0 in
          pairs (is_on a x f) f ∙ ap (λ t. (f.rule, cond (t && unwrap_or (option_map (λ v. bytes_eq x v) f.card) false) None f.card)) mine ∙ ap (λ c. (f.rule, c)) (freeing f.card)

      mine : (l : List ℕ) (t : Bool) → bytes_eq l x ≡ t → listed_at (left s.plane.filters) a l ≡ held_at n l
      mine l true e =
          subst (λ z. listed_at (left s.plane.filters) a z ≡ held_at n z) (sym (same_bytes l x e))
          (listed_map to_none owners labels a x (freed x) (each x) (rest s.plane.filters) ∙ ap (λ q. option_map (freed x) q) (listed_gone a x s.plane.filters) ∙ sym held_here)
      mine l false e =
          listed_map to_none owners labels a l (freed x) (each l) (rest s.plane.filters)
          ∙ ap (λ q. option_map (freed x) q) (listed_left a x a l s.plane.filters (rw (bytes_eq-same a, e) refl) ∙ h.same a l) ∙ sym (held_there l e)

      cards : (l v : List ℕ) (q : Filter) (t : Bool) → bytes_eq l x ≡ t → held_at n l ≡ Some (q, Some v) → is_some (vnic_at n v) ≡ true
      cards l v q true e c = absurd (let bad : ◌≡◌ {A = Option (Filter × Option (List ℕ))} None (Some (q, Some v)) = sym held_here ∙ subst (λ z. held_at n z ≡ Some (q, Some v)) (same_bytes l x e) c in cc bad)
      cards l v q false e c =
          let f = freed_some x v q (held_at m l) (sym (held_there l e) ∙ c) in
          card_there v (flip x v f.1) (h.cards a l v q f.0)

  abbrev drop_line : Line
  drop_line = w.drop a x

  abbrev row : Row
  row = drop_row m x g

  -- where a call failed only if there was one
  pub drop_kept : (has_fault g.ended ≡ true → is_so is_vsa (object_at m x) ≡ true) → FiltersAgree (own_turn s a drop_line (step m drop_line g)).after
  unfolding step answer
  drop_kept faults = by (early c) (has_fault g.ended) refl (own_machine s a drop_line g)
    where
      c : Conditions
      c = record none {
        no_application = not m.made;
        no_grant = missing m (x ∷ []);
        wrong_kind = is_so is_buffer (object_at m x);
        table_failed = g.table_failed && is_so is_vsa (object_at m x);
        busy = is_so (is_in_use m x) (object_at m x);
        device_fault = has_fault g.ended;
      }

      by : (o : Option Refusal) (t : Bool) → has_fault g.ended ≡ t
          → listed_machine (set_machine s.machines a (unless_refused o (when t r.DeviceFault None) m row).machine) s.now a ≡ (unless_refused o (when t r.DeviceFault None) m row).machine
          → FiltersAgree (own_turn s a drop_line (unless_refused o (when t r.DeviceFault None) m row)).after
      by (Some y) t e own =
          kept s (own_turn s a drop_line (says m (said.Refused y))).after a m own (λ b apart. machine_there s.machines s.now b a m apart)
          (refused_filters s.plane y (change_of s.plane m (w.drop a x))) (keeps_itself m) h
      by None true e own =
          kept s (own_turn s a drop_line (record row { said = said.Refused r.DeviceFault; bytes = [] })).after a row.machine own (λ b apart. machine_there s.machines s.now b a row.machine apart)
          (refused_filters s.plane r.DeviceFault (change_of s.plane m (w.drop a x))) (keeps_then (area_keeps (faults e)) (keeps_of (synced_sees _ n))) h
      by None false e own =
          dropped_agrees (own_turn s a drop_line row).after (changed s.plane (change_of s.plane m (w.drop a x))).filters row.machine (keeps_of (synced_sees _ n)) own
          (λ b apart. machine_there s.machines s.now b a row.machine apart) refl (changed_filters s.plane (change_of s.plane m (w.drop a x)))

-- only an area that is dropped calls the device
none_made : {M : Call → Event → Type 0} {cs : List Call} {es : List Event} → cs ≡ [] → Follows M cs es → es ≡ []
none_made is ended = refl
none_made is (fails makes bad) = absurd cc
none_made is (goes_on makes good once more) = absurd cc
none_made is (again makes good many more) = absurd cc
none_made is (passes many more) = absurd cc

pub drop_calls : (s : System) (a x : List ℕ) (g : Given) (es : List Event) → Follow s a (w.drop a x) (step (machine_of s a) (w.drop a x) g).calls es → has_fault (ends_of es) ≡ true → is_so is_vsa (object_at (machine_of s a) x) ≡ true
unfolding step answer
drop_calls s a x g es made bad = by (is_so is_vsa (object_at (machine_of s a) x)) refl
  where
    quiet : (o p : Option Refusal) (b : Bool) → b ≡ false → (unless_refused o p (machine_of s a) (record (drop_row (machine_of s a) x g) { calls = cond b (writes_slot ∷ syncs ∷ []) [] })).calls ≡ []
    quiet (Some y) p b e = refl
    quiet None (Some y) b e = rw e refl
    quiet None None b e = rw e refl

    by : (t : Bool) → is_so is_vsa (object_at (machine_of s a) x) ≡ t → is_so is_vsa (object_at (machine_of s a) x) ≡ true
    by true e = e
    by false e = absurd (false≢true (ap (λ l. has_fault (ends_of l)) (sym (none_made (quiet _ _ _ e) made)) ∙ bad))
