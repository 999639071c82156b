-- Every line keeps it that the plane lists just the filters that the machines hold.
use Rattle.std.proofs.Common.{◌≡◌, ℕ, Bool, true, false, not, ◌&&◌, List, [], ◌∷◌, ◌++◌, map, refl, sym, ◌∙◌, ap, subst, cond}
use Rattle.std.proofs.lemmas.Bool.{false≢true, and_parts, and_from}
use Rattle.std.proofs.lemmas.Option.{same_Some}
use Rattle.std.specs.Prelude.{Option, Some, None, option_map, option_and_then, find, filter as select, bytes_eq, is_some, is_none, nat_le, ◌||◌}
use Rattle.ark_base.specs.Conditions.{Conditions, none, early, late}
use Rattle.ark_base.specs.declared.refusal.Refusal.{Refusal}
use Rattle.ark_filters.specs.declared.filter.Filter.{Filter}
use Rattle.ark_script.specs.Line as w
use Rattle.ark_script.specs.Line.{Line}
use Rattle.ark_script.specs.declared.said.Said.TheVariants as said
use Rattle.ark_machine.specs.Objects
use Rattle.ark_machine.specs.Objects.{Object, Vnic, as_vnic, as_filter, is_filter, is_vsa}
use Rattle.ark_machine.specs.Machine.{Machine, Held, at, object_at, vnic_at, filter_at, missing, is_full, held_count, with_object, with_new}
use Rattle.ark_machine.specs.Row.{Row, Given, says, answer, unless_refused}
use Rattle.ark_machine.specs.Network.{new_vnic, max_filters, assigned_to}
use Rattle.ark_machine.specs.Plane.{LiveFilter}
use Rattle.ark_machine.specs.Granting.{is_filter_of, assigned}
use Rattle.ark_machine.specs.Step.{step}
use Rattle.ark_machine.specs.System.{System, listed_machine, set_machine, machine_of, own_turn}
use Rattle.ark_machine.specs.Filters.{as_assigned, held_at, listed_at, EachOnce, FiltersAgree}
use Rattle.ark_machine.proofs.Grants.{or_false}
use Rattle.ark_laws.proofs.Granted.{kind_and_limit}
use Rattle.ark_laws.proofs.Listed.{same_bytes, bytes_eq-same, set_there as machine_there}
use Rattle.ark_laws.proofs.Privacy.{own_machine}
use Rattle.ark_laws.proofs.Setting.{set_here, set_there}
use Rattle.ark_laws.proofs.Seen.{new_here, new_there, none_of, name_free}
use Rattle.ark_laws.proofs.SeenRows.{row_sees}
use Rattle.ark_laws.proofs.Keeping.{Keeps, keeps_itself, keeps_of, nothing_at, new_cards, new_keeps, changes_list, joined, kept, refused_filters}

-- What is listed.

abbrev known : Option LiveFilter → Option (Filter × Option (List ℕ))
known o = option_map {U = Filter × Option (List ℕ)} (λ f. (f.rule, f.card)) o

pub is_this : (a l : List ℕ) (f : LiveFilter) → is_filter_of a l f ≡ true → (a ≡ f.owner) × (l ≡ f.label)
is_this a l f h = let p = and_parts (bytes_eq a f.owner) (bytes_eq l f.label) h in (same_bytes a f.owner p.0, same_bytes l f.label p.1)

pub listed_push : (a l : List ℕ) (new : LiveFilter) (fs : List LiveFilter) → is_filter_of a l new ≡ false → listed_at (fs ++ new ∷ []) a l ≡ listed_at fs a l
listed_push a l new [] h = rw h refl
listed_push a l new (f ∷ fs) h =
    elim (is_filter_of a l f) as (λ t. known (cond t (Some f) (find (λ x. is_filter_of a l x) (fs ++ new ∷ []))) ≡ known (cond t (Some f) (find (λ x. is_filter_of a l x) fs))) [
      | true ↦ refl
      | false ↦ listed_push a l new fs h
    ]

listed_new : (a l : List ℕ) (new : LiveFilter) (fs : List LiveFilter) → is_filter_of a l new ≡ true → listed_at fs a l ≡ None → listed_at (fs ++ new ∷ []) a l ≡ Some (new.rule, new.card)
listed_new a l new [] is none = rw is refl
listed_new a l new (f ∷ fs) is none = by (is_filter_of a l f) none (listed_new a l new fs is)
  where
    by : (t : Bool) → known (cond t (Some f) (find (λ x. is_filter_of a l x) fs)) ≡ None → (listed_at fs a l ≡ None → listed_at (fs ++ new ∷ []) a l ≡ Some (new.rule, new.card))
        → known (cond t (Some f) (find (λ x. is_filter_of a l x) (fs ++ new ∷ []))) ≡ Some (new.rule, new.card)
    by true e next = absurd cc
    by false e next = next e

-- whether one is listed
is_listed : List ℕ → List ℕ → List LiveFilter → Bool
is_listed a l fs = is_some (listed_at fs a l)

once_push : (new : LiveFilter) (fs : List LiveFilter) → EachOnce fs → listed_at fs new.owner new.label ≡ None → EachOnce (fs ++ new ∷ [])
once_push new [] h none = (refl, tt)
once_push new (f ∷ fs) h none = by (is_filter_of new.owner new.label f) refl none (once_push new fs h.1)
  where
    by : (t : Bool) → is_filter_of new.owner new.label f ≡ t → known (cond t (Some f) (find (λ x. is_filter_of new.owner new.label x) fs)) ≡ None
        → (listed_at fs new.owner new.label ≡ None → EachOnce (fs ++ new ∷ [])) → EachOnce (f ∷ fs ++ new ∷ [])
    by true is e next = absurd cc
    by false is e next = (ap is_some (listed_push f.owner f.label new fs (turned (is_filter_of f.owner f.label new) refl)) ∙ h.0, next e)
      where
        turned : (t : Bool) → is_filter_of f.owner f.label new ≡ t → is_filter_of f.owner f.label new ≡ false
        turned false k = k
        turned true k =
            let same = is_this f.owner f.label new k in
            absurd (false≢true (sym is ∙ and_from (bytes_eq new.owner f.owner) (bytes_eq new.label f.label)
            (subst (λ z. bytes_eq z f.owner ≡ true) same.0 (bytes_eq-same f.owner)) (subst (λ z. bytes_eq z f.label ≡ true) same.1 (bytes_eq-same f.label))))

-- filters that keep owner, label and rule
module _ (g : LiveFilter → LiveFilter) (owners : (f : LiveFilter) → (g f).owner ≡ f.owner) (labels : (f : LiveFilter) → (g f).label ≡ f.label) where
  same_this : (a l : List ℕ) (f : LiveFilter) → is_filter_of a l (g f) ≡ is_filter_of a l f
  same_this a l f = ap (λ o. bytes_eq a o && bytes_eq l (g f).label) (owners f) ∙ ap (λ k. bytes_eq a f.owner && bytes_eq l k) (labels f)

  pub listed_map : (a l : List ℕ) (change : Filter × Option (List ℕ) → Filter × Option (List ℕ)) → ((f : LiveFilter) → is_filter_of a l f ≡ true → ((g f).rule, (g f).card) ≡ change (f.rule, f.card))
      → (fs : List LiveFilter) → listed_at (map g fs) a l ≡ option_map change (listed_at fs a l)
  listed_map a l change each [] = refl
  listed_map a l change each (f ∷ fs) = by (is_filter_of a l f) refl (listed_map a l change each fs)
    where
      by : (t : Bool) → is_filter_of a l f ≡ t → listed_at (map g fs) a l ≡ option_map change (listed_at fs a l)
          → listed_at (g f ∷ map g fs) a l ≡ option_map change (known (cond t (Some f) (find (λ x. is_filter_of a l x) fs)))
      by true is rest = rw (same_this a l f, is) (ap (λ (p : Filter × Option (List ℕ)). Some p) (each f is))
      by false is rest = rw (same_this a l f, is) rest

  pub once_map : (fs : List LiveFilter) → EachOnce fs → EachOnce (map g fs)
  once_map [] h = tt
  once_map (f ∷ fs) h = (rw (owners f, labels f) (still fs f.owner f.label h.0), once_map fs h.1)
    where
      still : (xs : List LiveFilter) (a l : List ℕ) → is_some (listed_at xs a l) ≡ false → is_some (listed_at (map g xs) a l) ≡ false
      still [] a l k = refl
      still (x ∷ xs) a l k = by (is_filter_of a l x) refl k (still xs a l)
        where
          by : (t : Bool) → is_filter_of a l x ≡ t → is_some (known (cond t (Some x) (find (λ y. is_filter_of a l y) xs))) ≡ false
              → (is_some (listed_at xs a l) ≡ false → is_some (listed_at (map g xs) a l) ≡ false) → is_some (listed_at (g x ∷ map g xs) a l) ≡ false
          by true is e next = absurd (false≢true (sym e))
          by false is e next = rw (same_this a l x, is) (next e)

-- those that are not left out
pub listed_gone : (a x : List ℕ) (fs : List LiveFilter) → listed_at (select (λ f. not (is_filter_of a x f)) fs) a x ≡ None
listed_gone a x [] = refl
listed_gone a x (f ∷ fs) = by (is_filter_of a x f) refl (listed_gone a x fs)
  where
    by : (t : Bool) → is_filter_of a x f ≡ t → listed_at (select (λ y. not (is_filter_of a x y)) fs) a x ≡ None
        → listed_at (cond (not t) (f ∷ select (λ y. not (is_filter_of a x y)) fs) (select (λ y. not (is_filter_of a x y)) fs)) a x ≡ None
    by true is rest = rest
    by false is rest = rw is rest

-- none of an owner and a label is of two
apart_this : (a x b l : List ℕ) (f : LiveFilter) → (bytes_eq b a && bytes_eq l x) ≡ false → is_filter_of a x f ≡ true → is_filter_of b l f ≡ false
apart_this a x b l f apart h =
    let same = is_this a x f h in
    subst (λ z. (bytes_eq b z && bytes_eq l f.label) ≡ false) same.0 (subst (λ z. (bytes_eq b a && bytes_eq l z) ≡ false) same.1 apart)

pub listed_left : (a x b l : List ℕ) (fs : List LiveFilter) → (bytes_eq b a && bytes_eq l x) ≡ false → listed_at (select (λ f. not (is_filter_of a x f)) fs) b l ≡ listed_at fs b l
listed_left a x b l [] apart = refl
listed_left a x b l (f ∷ fs) apart = by (is_filter_of a x f) refl (listed_left a x b l fs apart)
  where
    by : (t : Bool) → is_filter_of a x f ≡ t → listed_at (select (λ y. not (is_filter_of a x y)) fs) b l ≡ listed_at fs b l
        → listed_at (cond (not t) (f ∷ select (λ y. not (is_filter_of a x y)) fs) (select (λ y. not (is_filter_of a x y)) fs)) b l ≡ listed_at (f ∷ fs) b l
    by true is rest = rw (apart_this a x b l f apart is) rest
    by false is rest = elim (is_filter_of b l f) as (λ t. known (cond t (Some f) (find (λ y. is_filter_of b l y) (select (λ y. not (is_filter_of a x y)) fs))) ≡ known (cond t (Some f) (find (λ y. is_filter_of b l y) fs))) [
      | true ↦ refl
      | false ↦ rest
    ]

none_selected : (q : LiveFilter → Bool) (fs : List LiveFilter) (a l : List ℕ) → is_some (listed_at fs a l) ≡ false → is_some (listed_at (select q fs) a l) ≡ false
none_selected q [] a l k = refl
none_selected q (x ∷ xs) a l k = two (q x) (is_filter_of a l x) refl k (none_selected q xs a l)
  where
    two : (b t : Bool) → is_filter_of a l x ≡ t → is_some (known (cond t (Some x) (find (λ y. is_filter_of a l y) xs))) ≡ false
        → (is_some (listed_at xs a l) ≡ false → is_some (listed_at (select q xs) a l) ≡ false) → is_some (listed_at (cond b (x ∷ select q xs) (select q xs)) a l) ≡ false
    two b true is e next = absurd (false≢true (sym e))
    two true false is e next = rw is (next e)
    two false false is e next = next e

pub once_select : (q : LiveFilter → Bool) (fs : List LiveFilter) → EachOnce fs → EachOnce (select q fs)
once_select q [] h = tt
once_select q (f ∷ fs) h = by (q f) (none_selected q fs f.owner f.label h.0) (once_select q fs h.1)
  where
    by : (b : Bool) → is_some (listed_at (select q fs) f.owner f.label) ≡ false → EachOnce (select q fs) → EachOnce (cond b (f ∷ select q fs) (select q fs))
    by true none rest = (none, rest)
    by false none rest = rest

-- Rows.

answer_keeps : (m : Machine) (c : Conditions) (row : Row) → (c.name_taken ≡ false → c.wrong_kind ≡ false → Keeps m row.machine) → Keeps m (answer m c row).machine
unfolding answer
answer_keeps m c row h = by (early c) (late c) refl
  where
    by : (one two : Option Refusal) → early c ≡ one → Keeps m (unless_refused one two m row).machine
    by (Some x) two e = keeps_itself m
    by None None e = h (name_free c e) (kind_and_limit c e).0
    by None (Some y) e = h (name_free c e) (kind_and_limit c e).0

vnic_keeps : (m : Machine) (a v : List ℕ) (rx tx : ℕ) (g : Given) → Keeps m (step m (w.vnic a v rx tx) g).machine
unfolding step
vnic_keeps m a v rx tx g = answer_keeps m _ _ (λ free kind. new_keeps m v (new_vnic rx tx) free refl)

pub row_keeps : (m : Machine) (line : Line) (g : Given) → changes_list line ≡ false → Keeps m (step m line g).machine
row_keeps m (w.filter a f rule) g h = absurd (false≢true (sym h))
row_keeps m (w.assign a v f) g h = absurd (false≢true (sym h))
row_keeps m (w.drop a x) g h = absurd (false≢true (sym h))
row_keeps m (w.vnic a v rx tx) g h = vnic_keeps m a v rx tx g
row_keeps m line g h = keeps_of (row_sees m line g refl)

pub flip : (x y : List ℕ) → bytes_eq x y ≡ false → bytes_eq y x ≡ false
flip x y apart = by (bytes_eq y x) refl
  where
    by : (t : Bool) → bytes_eq y x ≡ t → bytes_eq y x ≡ false
    by false e = e
    by true e = absurd (false≢true (sym apart ∙ subst (λ z. bytes_eq x z ≡ true) (sym (same_bytes y x e)) (bytes_eq-same x)))

pub same_option : {A : Type 0} (o : Option A) → option_map (λ (x : A). x) o ≡ o
same_option None = refl
same_option (Some x) = refl

pub assigned_owner : (b : Bool) (c : Option (List ℕ)) (f : LiveFilter) → (cond b (assigned c f) f).owner ≡ f.owner
assigned_owner true c f = refl
assigned_owner false c f = refl

pub assigned_label : (b : Bool) (c : Option (List ℕ)) (f : LiveFilter) → (cond b (assigned c f) f).label ≡ f.label
assigned_label true c f = refl
assigned_label false c f = refl

-- `filter`

module _ (s : System) (a f : List ℕ) (rule : Filter) (g : Given) (h : FiltersAgree s) where
  abbrev filter_line : Line
  filter_line = w.filter a f rule

  abbrev filter_row : Row
  filter_row = says (with_new (machine_of s a) f (Objects.filter rule None)) said.Ok

  filter_granted : (after : System) → machine_of after a ≡ with_new (machine_of s a) f (Objects.filter rule None) → ((b : List ℕ) → bytes_eq b a ≡ false → machine_of after b ≡ machine_of s b)
      → after.plane.filters ≡ s.plane.filters ++ (record { owner = a; label = f; rule = rule; card = None }) ∷ [] → is_some (at (machine_of s a) f) ≡ false → FiltersAgree after
  filter_granted after own others is free =
      joined s after a n own others (λ b l e. ap (λ fs. listed_at fs b l) is ∙ listed_push b l new s.plane.filters (rw e refl))
      (λ l. ap (λ fs. listed_at fs a l) is ∙ mine l (bytes_eq l f) refl) (subst EachOnce (sym is) (once_push new s.plane.filters h.once none)) (λ l v r. cards l v r (bytes_eq l f) refl) h
    where
      m : Machine
      m = machine_of s a

      n : Machine
      n = with_new m f (Objects.filter rule None)

      new : LiveFilter
      new = record { owner = a; label = f; rule = rule; card = None }

      held : Held
      held = record { label = f; serial = m.serial; object = Objects.filter rule None }

      none : listed_at s.plane.filters a f ≡ None
      none = h.same a f ∙ ap (λ q. option_and_then as_assigned q) (nothing_at m f free)

      here : held_at n f ≡ Some (rule, None)
      here = ap (λ q. option_and_then as_assigned q) (new_here f held m.held (none_of (at m f) free) (bytes_eq-same f))

      there : (l : List ℕ) → bytes_eq l f ≡ false → held_at n l ≡ held_at m l
      there l e = ap (λ q. option_and_then as_assigned q) (new_there l held m.held e)

      mine : (l : List ℕ) (t : Bool) → bytes_eq l f ≡ t → listed_at (s.plane.filters ++ new ∷ []) a l ≡ held_at n l
      mine l true e =
          subst (λ z. listed_at (s.plane.filters ++ new ∷ []) a z ≡ held_at n z) (sym (same_bytes l f e))
          (listed_new a f new s.plane.filters (and_from (bytes_eq a a) (bytes_eq f f) (bytes_eq-same a) (bytes_eq-same f)) none ∙ sym here)
      mine l false e = listed_push a l new s.plane.filters (rw (bytes_eq-same a, e) refl) ∙ h.same a l ∙ sym (there l e)

      cards : (l v : List ℕ) (r : Filter) (t : Bool) → bytes_eq l f ≡ t → held_at n l ≡ Some (r, Some v) → is_some (vnic_at n v) ≡ true
      cards l v r true e k = absurd (no_card (sym here ∙ subst (λ z. held_at n z ≡ Some (r, Some v)) (same_bytes l f e) k))
        where
          no_card : ◌≡◌ {A = Option (Filter × Option (List ℕ))} (Some (rule, None)) (Some (r, Some v)) → ⊥
          no_card q = let bad : ◌≡◌ {A = Option (List ℕ)} None (Some v) = ap (λ (p : Filter × Option (List ℕ)). p.1) (same_Some _ _ q) in cc bad
      cards l v r false e k = new_cards m f (Objects.filter rule None) free v (h.cards a l v r (sym (there l e) ∙ k))

  pub filter_agrees : FiltersAgree (own_turn s a filter_line (step (machine_of s a) filter_line g)).after
  unfolding step answer
  filter_agrees = by (early c) refl (own_machine s a filter_line g)
    where
      m : Machine
      m = machine_of s a

      c : Conditions
      c = record none { no_application = not m.made; name_taken = is_some (at m f); limit = is_full m || nat_le max_filters (held_count is_filter m); no_nic = g.no_nic; overlap = g.overlap; no_memory = g.no_memory }

      by : (o : Option Refusal) → early c ≡ o → listed_machine (set_machine s.machines a (unless_refused o None m filter_row).machine) s.now a ≡ (unless_refused o None m filter_row).machine
          → FiltersAgree (own_turn s a filter_line (unless_refused o None m filter_row)).after
      by (Some x) e own = kept s (own_turn s a filter_line (says m (said.Refused x))).after a m own (λ b apart. machine_there s.machines s.now b a m apart) (refused_filters s.plane x None) (keeps_itself m) h
      by None e own = filter_granted (own_turn s a filter_line filter_row).after own (λ b apart. machine_there s.machines s.now b a filter_row.machine apart) refl (name_free c e)

-- `use`

filter_there : (o : Option Object) (r : Filter) → option_and_then as_filter o ≡ Some r → (c : Option (List ℕ)) × (o ≡ Some (Objects.filter r c))
filter_there None r h = absurd cc
filter_there (Some (Objects.filter x c)) r h = (c, ap (λ z. Some (Objects.filter z c)) (same_Some x r h))
filter_there (Some _) r h = absurd cc

module _ (s : System) (a v f : List ℕ) (g : Given) (h : FiltersAgree s) where
  abbrev use_line : Line
  use_line = w.assign a v f

  use_granted : (after : System) (r : Filter) → machine_of after a ≡ with_object (machine_of s a) f (Objects.filter r (Some v)) → ((b : List ℕ) → bytes_eq b a ≡ false → machine_of after b ≡ machine_of s b)
      → after.plane.filters ≡ map (λ x. cond (is_filter_of a f x) (assigned (Some v) x) x) s.plane.filters → is_some (vnic_at (machine_of s a) v) ≡ true → filter_at (machine_of s a) f ≡ Some r → FiltersAgree after
  use_granted after r own others is carded there =
      joined s after a n own others (λ b l e. ap (λ fs. listed_at fs b l) is ∙ others_listed b l (rw (flip b a e) refl))
      (λ l. ap (λ fs. listed_at fs a l) is ∙ mine l (bytes_eq l f) refl)
      (subst EachOnce (sym is) (once_map to_card owners labels s.plane.filters h.once)) (λ l x q. cards l x q (bytes_eq l f) refl) h
    where
      m : Machine
      m = machine_of s a

      o : Object
      o = Objects.filter r (Some v)

      n : Machine
      n = with_object m f o

      to_card : LiveFilter → LiveFilter
      to_card x = cond (is_filter_of a f x) (assigned (Some v) x) x

      owners : (x : LiveFilter) → (to_card x).owner ≡ x.owner
      owners x = assigned_owner (is_filter_of a f x) (Some v) x

      labels : (x : LiveFilter) → (to_card x).label ≡ x.label
      labels x = assigned_label (is_filter_of a f x) (Some v) x

      old : (c : Option (List ℕ)) × (object_at m f ≡ Some (Objects.filter r c))
      old = filter_there (object_at m f) r there

      here : object_at n f ≡ Some o
      here = set_here f o m.held ∙ ap (λ q. option_map (λ (x : Object). o) q) old.1

      away : (l : List ℕ) → bytes_eq l f ≡ false → object_at n l ≡ object_at m l
      away l e = set_there l f o m.held e

      others_listed : (b l : List ℕ) → (bytes_eq a b && bytes_eq f l) ≡ false → listed_at (map to_card s.plane.filters) b l ≡ listed_at s.plane.filters b l
      others_listed b l apart =
          listed_map to_card owners labels b l (λ p. p) (λ x k. let off : is_filter_of a f x ≡ false = apart_this b l a f x apart k in rw off refl) s.plane.filters ∙ same_option (listed_at s.plane.filters b l)

      mine : (l : List ℕ) (t : Bool) → bytes_eq l f ≡ t → listed_at (map to_card s.plane.filters) a l ≡ held_at n l
      mine l true e =
          subst (λ z. listed_at (map to_card s.plane.filters) a z ≡ held_at n z) (sym (same_bytes l f e))
          (listed_map to_card owners labels a f (λ p. (p.0, Some v)) (λ x k. rw k refl) s.plane.filters
          ∙ ap (λ q. option_map (λ (p : Filter × Option (List ℕ)). (p.0, Some v)) q) (h.same a f ∙ ap (λ q. option_and_then as_assigned q) old.1) ∙ sym (ap (λ q. option_and_then as_assigned q) here))
      mine l false e = others_listed a l (rw (bytes_eq-same a, flip l f e) refl) ∙ h.same a l ∙ sym (ap (λ q. option_and_then as_assigned q) (away l e))

      carded_still : (x : List ℕ) (t : Bool) → bytes_eq x f ≡ t → is_some (vnic_at m x) ≡ true → is_some (vnic_at n x) ≡ true
      carded_still x true e k =
          absurd (false≢true (sym (ap (λ q. is_some (option_and_then as_vnic q)) old.1) ∙ subst (λ z. is_some (vnic_at m z) ≡ true) (same_bytes x f e) k))
      carded_still x false e k = ap (λ q. is_some (option_and_then as_vnic q)) (away x e) ∙ k

      cards : (l x : List ℕ) (q : Filter) (t : Bool) → bytes_eq l f ≡ t → held_at n l ≡ Some (q, Some x) → is_some (vnic_at n x) ≡ true
      cards l x q true e k =
          let same : Some (r, Some v) ≡ Some (q, Some x) = sym (ap (λ y. option_and_then as_assigned y) here) ∙ subst (λ z. held_at n z ≡ Some (q, Some x)) (same_bytes l f e) k in
          let one : v ≡ x = same_Some v x (ap (λ (p : Filter × Option (List ℕ)). p.1) (same_Some _ _ same)) in
          subst (λ z. is_some (vnic_at n z) ≡ true) one (carded_still v (bytes_eq v f) refl carded)
      cards l x q false e k = carded_still x (bytes_eq x f) refl (h.cards a l x q (sym (ap (λ y. option_and_then as_assigned y) (away l e)) ∙ k))

  not_none : {A : Type 0} (o : Option A) → is_none o ≡ false → is_some o ≡ true
  not_none None k = absurd (false≢true (sym k))
  not_none (Some x) k = refl

  pub use_agrees : FiltersAgree (own_turn s a use_line (step (machine_of s a) use_line g)).after
  unfolding step answer
  use_agrees = by (early c) (filter_at m f) refl refl (own_machine s a use_line g)
    where
      m : Machine
      m = machine_of s a

      c : Conditions
      c = record none { no_application = not m.made; no_grant = missing m (v ∷ f ∷ []); wrong_kind = is_none (vnic_at m v) || is_none (filter_at m f) }

      by : (o : Option Refusal) (q : Option Filter) → early c ≡ o → filter_at m f ≡ q
          → listed_machine (set_machine s.machines a (unless_refused o None m (says (assigned_to m v f q) said.Ok)).machine) s.now a ≡ (unless_refused o None m (says (assigned_to m v f q) said.Ok)).machine
          → FiltersAgree (own_turn s a use_line (unless_refused o None m (says (assigned_to m v f q) said.Ok))).after
      by (Some x) q e there own = kept s (own_turn s a use_line (says m (said.Refused x))).after a m own (λ b apart. machine_there s.machines s.now b a m apart) (refused_filters s.plane x None) (keeps_itself m) h
      by None None e there own = absurd (false≢true (sym (or_false (is_none (vnic_at m v)) (is_none (filter_at m f)) (kind_and_limit c e).0).1 ∙ ap is_none there))
      by None (Some r) e there own =
          use_granted (own_turn s a use_line (says (assigned_to m v f (Some r)) said.Ok)).after r own (λ b apart. machine_there s.machines s.now b a (assigned_to m v f (Some r)) apart) refl
          (not_none (vnic_at m v) (or_false (is_none (vnic_at m v)) (is_none (filter_at m f)) (kind_and_limit c e).0).0) there
