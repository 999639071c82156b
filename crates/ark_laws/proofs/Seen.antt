-- What a change of a machine leaves of its filters and network cards.
use Rattle.std.proofs.Common.{◌≡◌, ℕ, Bool, true, false, not, List, [], ◌∷◌, ◌++◌, refl, sym, ◌∙◌, ap, subst, cond}
use Rattle.std.proofs.lemmas.Bool.{false≢true}
use Rattle.std.specs.Prelude.{Option, Some, None, option_map, option_and_then, find, filter as select, unwrap_or, bytes_eq, is_some}
use Rattle.ark_base.specs.Conditions.{Conditions, early, late, when}
use Rattle.ark_base.specs.declared.refusal.Refusal.{Refusal}
use Rattle.ark_base.specs.declared.refusal.Refusal.TheVariants as r
use Rattle.ark_filters.specs.declared.filter.Filter.{Filter}
use Rattle.ark_caladan.specs.Chain.{Log}
use Rattle.ark_vic.specs.Bells as bells
use Rattle.ark_vic.specs.declared.door.Bell.{Bell}
use Rattle.ark_vic.specs.declared.door.Counts.{Counts}
use Rattle.ark_machine.specs.Objects
use Rattle.ark_machine.specs.Objects.{Object, Raw, Vsic, Vnic, Buffer, Socket, as_raw, as_log, as_vsic, as_vnic, as_door, as_buffer, as_socket}
use Rattle.ark_machine.specs.Machine.{Machine, Held, at, object_at, raw_at, log_at, vsic_at, vnic_at, door_at, buffer_at, socket_at, with_object, each_object, with_new, without, with_log, with_vsic, with_vnic, with_buffer, with_socket}
use Rattle.ark_machine.specs.Row.{Row, answer, unless_refused, settled, synced}
use Rattle.ark_machine.specs.Areas.{with_raw}
use Rattle.ark_machine.specs.Rates.{rung}
use Rattle.ark_laws.proofs.Granted.{kind_and_limit}
use Rattle.ark_laws.proofs.Listed.{same_bytes, bytes_eq-same}
use Rattle.ark_laws.proofs.Setting.{found_at, set_here, set_there, each_found}

-- what a filter's laws ask of an object
pub data Seen : Type 0 where
  other : Seen
  card : Seen
  filtering : Filter → Option (List ℕ) → Seen

abbrev pub view : Object → Seen
view (Objects.vnic v) = card
view (Objects.filter f c) = filtering f c
view _ = other

abbrev pub seen : Option Object → Seen
seen None = other
seen (Some o) = view o

-- at each label the machine n has the filter that m has there, or a network card where m has one
pub record Sees (m n : Machine) : Type 0 where
  pub same : (l : List ℕ) → seen (object_at n l) ≡ seen (object_at m l)

pub sees_itself : (m : Machine) → Sees m m
sees_itself m = record { same = λ l. refl }

pub sees_then : {m k n : Machine} → Sees m k → Sees k n → Sees m n
sees_then one two = record { same = λ l. two.same l ∙ one.same l }

-- One object.

pub object_sees : (m : Machine) (l : List ℕ) (o : Object) → seen (object_at m l) ≡ view o → Sees m (with_object m l o)
object_sees m l o is = record { same = λ k. by k (bytes_eq k l) refl }
  where
    kept : (q : Option Object) → seen q ≡ view o → seen (option_map (λ (x : Object). o) q) ≡ seen q
    kept None h = refl
    kept (Some x) h = sym h

    by : (k : List ℕ) (t : Bool) → bytes_eq k l ≡ t → seen (object_at (with_object m l o) k) ≡ seen (object_at m k)
    by k true e = subst (λ z. seen (object_at (with_object m l o) z) ≡ seen (object_at m z)) (sym (same_bytes k l e)) (ap seen (set_here l o m.held) ∙ kept (object_at m l) is)
    by k false e = ap seen (set_there k l o m.held e)

pub each_sees : (m : Machine) (f : Object → Object) → ((o : Object) → view (f o) ≡ view o) → Sees m (each_object f m)
each_sees m f keeps = record { same = λ l. ap seen (each_found f l m.held) ∙ mapped (object_at m l) }
  where
    mapped : (o : Option Object) → seen (option_map f o) ≡ seen o
    mapped None = refl
    mapped (Some o) = keeps o

-- A new object.

pub new_here : (l : List ℕ) (x : Held) (hs : List Held) → find (λ h. bytes_eq l h.label) hs ≡ None → bytes_eq l x.label ≡ true → found_at l (hs ++ x ∷ []) ≡ Some x.object
new_here l x [] none is = rw is refl
new_here l x (y ∷ ys) none is = by (bytes_eq l y.label) refl none (λ k. new_here l x ys k is)
  where
    by : (t : Bool) → bytes_eq l y.label ≡ t → cond t (Some y) (find (λ h. bytes_eq l h.label) ys) ≡ None → (find (λ h. bytes_eq l h.label) ys ≡ None → found_at l (ys ++ x ∷ []) ≡ Some x.object)
        → option_map (λ h. h.object) (cond t (Some y) (find (λ h. bytes_eq l h.label) (ys ++ x ∷ []))) ≡ Some x.object
    by true e k next = absurd cc
    by false e k next = next k

pub new_there : (l : List ℕ) (x : Held) (hs : List Held) → bytes_eq l x.label ≡ false → found_at l (hs ++ x ∷ []) ≡ found_at l hs
new_there l x [] apart = rw apart refl
new_there l x (y ∷ ys) apart =
    elim (bytes_eq l y.label) as (λ t. option_map (λ h. h.object) (cond t (Some y) (find (λ h. bytes_eq l h.label) (ys ++ x ∷ []))) ≡ option_map (λ h. h.object) (cond t (Some y) (find (λ h. bytes_eq l h.label) ys))) [
      | true ↦ refl
      | false ↦ new_there l x ys apart
    ]

pub none_of : {A : Type 0} (o : Option A) → is_some o ≡ false → o ≡ None
none_of None h = refl
none_of (Some x) h = absurd (false≢true (sym h))

-- that is no filter and no network card
pub new_sees : (m : Machine) (l : List ℕ) (o : Object) → is_some (at m l) ≡ false → view o ≡ other → Sees m (with_new m l o)
new_sees m l o free plain = record { same = λ k. by k (bytes_eq k l) refl }
  where
    none : at m l ≡ None
    none = none_of (at m l) free

    new : Held
    new = record { label = l; serial = m.serial; object = o }

    by : (k : List ℕ) (t : Bool) → bytes_eq k l ≡ t → seen (object_at (with_new m l o) k) ≡ seen (object_at m k)
    by k true e =
        subst (λ z. seen (object_at (with_new m l o) z) ≡ seen (object_at m z)) (sym (same_bytes k l e))
        (ap seen (new_here l new m.held none (bytes_eq-same l)) ∙ plain ∙ sym (ap (λ q. seen (option_map (λ h. h.object) q)) none))
    by k false e = ap seen (new_there k new m.held e)

-- One that is gone.

pub gone_here : (l : List ℕ) (hs : List Held) → found_at l (select (λ h. not (bytes_eq l h.label)) hs) ≡ None
gone_here l [] = refl
gone_here l (x ∷ xs) = by (bytes_eq l x.label) refl (gone_here l xs)
  where
    by : (t : Bool) → bytes_eq l x.label ≡ t → found_at l (select (λ h. not (bytes_eq l h.label)) xs) ≡ None
        → found_at l (cond (not t) (x ∷ select (λ h. not (bytes_eq l h.label)) xs) (select (λ h. not (bytes_eq l h.label)) xs)) ≡ None
    by true e rest = rest
    by false e rest = rw e rest

pub gone_there : (k l : List ℕ) (hs : List Held) → bytes_eq k l ≡ false → found_at k (select (λ h. not (bytes_eq l h.label)) hs) ≡ found_at k hs
gone_there k l [] apart = refl
gone_there k l (x ∷ xs) apart = by (bytes_eq l x.label) refl (gone_there k l xs apart)
  where
    by : (t : Bool) → bytes_eq l x.label ≡ t → found_at k (select (λ h. not (bytes_eq l h.label)) xs) ≡ found_at k xs
        → found_at k (cond (not t) (x ∷ select (λ h. not (bytes_eq l h.label)) xs) (select (λ h. not (bytes_eq l h.label)) xs)) ≡ found_at k (x ∷ xs)
    by true e rest = let away : bytes_eq k x.label ≡ false = subst (λ y. bytes_eq k y ≡ false) (same_bytes l x.label e) apart in rw away rest
    by false e rest = elim (bytes_eq k x.label) as (λ t. option_map (λ h. h.object) (cond t (Some x) (find (λ h. bytes_eq k h.label) (select (λ h. not (bytes_eq l h.label)) xs))) ≡ option_map (λ h. h.object) (cond t (Some x) (find (λ h. bytes_eq k h.label) xs))) [
      | true ↦ refl
      | false ↦ rest
    ]

-- that was no filter and no network card
pub without_sees : (m : Machine) (l : List ℕ) → seen (object_at m l) ≡ other → Sees m (without m l)
without_sees m l plain = record { same = λ k. by k (bytes_eq k l) refl }
  where
    by : (k : List ℕ) (t : Bool) → bytes_eq k l ≡ t → seen (object_at (without m l) k) ≡ seen (object_at m k)
    by k true e = subst (λ z. seen (object_at (without m l) z) ≡ seen (object_at m z)) (sym (same_bytes k l e)) (ap seen (gone_here l m.held) ∙ sym plain)
    by k false e = ap seen (gone_there k l m.held e)

-- Objects of one kind, in another state.

pub vsic_view : (o : Option Object) (x : Vsic) → option_and_then as_vsic o ≡ Some x → seen o ≡ other
vsic_view None x h = absurd cc
vsic_view (Some (Objects.vsic y)) x h = refl
vsic_view (Some _) x h = absurd cc

pub vnic_view : (o : Option Object) (x : Vnic) → option_and_then as_vnic o ≡ Some x → seen o ≡ card
vnic_view None x h = absurd cc
vnic_view (Some (Objects.vnic y)) x h = refl
vnic_view (Some _) x h = absurd cc

pub log_view : (o : Option Object) (x : Log) → option_and_then as_log o ≡ Some x → seen o ≡ other
log_view None x h = absurd cc
log_view (Some (Objects.log y)) x h = refl
log_view (Some _) x h = absurd cc

pub buffer_view : (o : Option Object) (x : Buffer) → option_and_then as_buffer o ≡ Some x → seen o ≡ other
buffer_view None x h = absurd cc
buffer_view (Some (Objects.buffer y)) x h = refl
buffer_view (Some _) x h = absurd cc

pub socket_view : (o : Option Object) (x : Socket) → option_and_then as_socket o ≡ Some x → seen o ≡ other
socket_view None x h = absurd cc
socket_view (Some (Objects.socket y)) x h = refl
socket_view (Some _) x h = absurd cc

pub raw_view : (o : Option Object) (x : Raw) → option_and_then as_raw o ≡ Some x → seen o ≡ other
raw_view None x h = absurd cc
raw_view (Some (Objects.raw y)) x h = refl
raw_view (Some _) x h = absurd cc

pub door_view : (o : Option Object) (x : Counts) → option_and_then as_door o ≡ Some x → seen o ≡ other
door_view None x h = absurd cc
door_view (Some (Objects.door y)) x h = refl
door_view (Some _) x h = absurd cc

pub vsic_sees : (m : Machine) (l : List ℕ) (f : Vsic → Vsic) → Sees m (with_vsic m l f)
vsic_sees m l f = by (vsic_at m l) refl
  where
    by : (o : Option Vsic) → vsic_at m l ≡ o → Sees m (unwrap_or (option_map (λ x. with_object m l (Objects.vsic (f x))) o) m)
    by None is = sees_itself m
    by (Some x) is = object_sees m l (Objects.vsic (f x)) (vsic_view (object_at m l) x is)

pub vnic_sees : (m : Machine) (l : List ℕ) (f : Vnic → Vnic) → Sees m (with_vnic m l f)
vnic_sees m l f = by (vnic_at m l) refl
  where
    by : (o : Option Vnic) → vnic_at m l ≡ o → Sees m (unwrap_or (option_map (λ x. with_object m l (Objects.vnic (f x))) o) m)
    by None is = sees_itself m
    by (Some x) is = object_sees m l (Objects.vnic (f x)) (vnic_view (object_at m l) x is)

pub log_sees : (m : Machine) (l : List ℕ) (f : Log → Log) → Sees m (with_log m l f)
log_sees m l f = by (log_at m l) refl
  where
    by : (o : Option Log) → log_at m l ≡ o → Sees m (unwrap_or (option_map (λ x. with_object m l (Objects.log (f x))) o) m)
    by None is = sees_itself m
    by (Some x) is = object_sees m l (Objects.log (f x)) (log_view (object_at m l) x is)

pub buffer_sees : (m : Machine) (l : List ℕ) (f : Buffer → Buffer) → Sees m (with_buffer m l f)
buffer_sees m l f = by (buffer_at m l) refl
  where
    by : (o : Option Buffer) → buffer_at m l ≡ o → Sees m (unwrap_or (option_map (λ x. with_object m l (Objects.buffer (f x))) o) m)
    by None is = sees_itself m
    by (Some x) is = object_sees m l (Objects.buffer (f x)) (buffer_view (object_at m l) x is)

pub socket_sees : (m : Machine) (l : List ℕ) (f : Socket → Socket) → Sees m (with_socket m l f)
socket_sees m l f = by (socket_at m l) refl
  where
    by : (o : Option Socket) → socket_at m l ≡ o → Sees m (unwrap_or (option_map (λ x. with_object m l (Objects.socket (f x))) o) m)
    by None is = sees_itself m
    by (Some x) is = object_sees m l (Objects.socket (f x)) (socket_view (object_at m l) x is)

pub raw_sees : (m : Machine) (l : List ℕ) (f : Raw → Raw) → Sees m (with_raw m l f)
raw_sees m l f = by (raw_at m l) refl
  where
    by : (o : Option Raw) → raw_at m l ≡ o → Sees m (unwrap_or (option_map (λ x. with_object m l (Objects.raw (f x))) o) m)
    by None is = sees_itself m
    by (Some x) is = object_sees m l (Objects.raw (f x)) (raw_view (object_at m l) x is)

pub rung_sees : (m : Machine) (d : Option (List ℕ)) (bell : Bell) → Sees m (rung m d bell)
rung_sees m None bell = sees_itself m
rung_sees m (Some d) bell = by (door_at m d) refl
  where
    by : (o : Option Counts) → door_at m d ≡ o → Sees m (unwrap_or (option_map (λ c. with_object m d (Objects.door (bells.one_more c bell))) o) m)
    by None is = sees_itself m
    by (Some c) is = object_sees m d (Objects.door (bells.one_more c bell)) (door_view (object_at m d) c is)

settled_view : (o : Object) → view (settled o) ≡ view o
settled_view (Objects.raw r) = refl
settled_view (Objects.log g) = refl
settled_view (Objects.vsic v) = refl
settled_view (Objects.vnic v) = refl
settled_view (Objects.filter f c) = refl
settled_view (Objects.door c) = refl
settled_view (Objects.rate q b) = refl
settled_view (Objects.buffer b) = refl
settled_view (Objects.socket k) = refl

pub synced_sees : (b : Bool) (m : Machine) → Sees m (synced b m)
synced_sees true m = each_sees m settled settled_view
synced_sees false m = sees_itself m

pub if_sees : (m k n : Machine) (b : Bool) → Sees m k → Sees m n → Sees m (cond b k n)
if_sees m k n true one two = one
if_sees m k n false one two = two

-- Rows by their conditions.

when_none : (b : Bool) (x : Refusal) (later : Option Refusal) → when b x later ≡ None → (b ≡ false) × (later ≡ None)
when_none true x later h = absurd cc
when_none false x later h = (refl, h)

pub name_free : (c : Conditions) → early c ≡ None → c.name_taken ≡ false
name_free c h =
    let a = when_none c.too_long r.TooLong _ h in
    let b = when_none c.unknown_word r.UnknownWord _ a.1 in
    let d = when_none c.syntax_fault r.Syntax _ b.1 in
    let e = when_none c.no_application r.NoApplication _ d.1 in
    (when_none c.name_taken r.NameTaken _ e.1).0

-- the row is used only where it is not refused
pub answer_sees : (m : Machine) (c : Conditions) (row : Row) → (c.name_taken ≡ false → c.wrong_kind ≡ false → Sees m row.machine) → Sees m (answer m c row).machine
unfolding answer
answer_sees m c row h = by (early c) (late c) refl
  where
    by : (one two : Option Refusal) → early c ≡ one → Sees m (unless_refused one two m row).machine
    by (Some x) two e = sees_itself m
    by None None e = h (name_free c e) (kind_and_limit c e).0
    by None (Some y) e = h (name_free c e) (kind_and_limit c e).0
