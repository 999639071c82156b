-- Every line keeps the frames that are posted to transmit whole in their buffers, and no label stands twice after it.
use Rattle.std.proofs.Common.{◌≡◌, ◌≤◌, ◌⊎◌, inl, inr, ℕ, zero, suc, Bool, true, false, ◌&&◌, ◌||◌, List, [], ◌∷◌, ◌++◌, length, refl, sym, ◌∙◌, ap, subst, arith, cond}
use Rattle.std.proofs.lemmas.Bool.{false≢true}
use Rattle.std.proofs.lemmas.Bool.Decides.{nat_tests}
use Rattle.std.proofs.lemmas.List.Elements.{Contains-append_cases}
use Rattle.std.specs.Prelude.{Option, Some, None, option_map, option_and_then, find, unwrap_or, bytes_eq, nat_lt, Contains}
use Rattle.std.specs.List.{AllByRecursion, list_any}
use Rattle.ark_base.specs.Conditions.{Conditions, early, late}
use Rattle.ark_base.specs.declared.kind.Kind.{Kind}
use Rattle.ark_base.specs.declared.kind.Kind.TheVariants as kind
use Rattle.ark_base.specs.declared.refusal.Refusal.{Refusal}
use Rattle.ark_base.specs.declared.refusal.Refusal.TheVariants as r
use Rattle.ark_packet.specs.Udp as udp
use Rattle.ark_packet.specs.Udp.{datagram_in}
use Rattle.ark_filters.specs.declared.filter.Filter.{Filter}
use Rattle.ark_table.specs.Slots.{Slot}
use Rattle.ark_script.specs.Line as w
use Rattle.ark_script.specs.Line.{Line}
use Rattle.ark_script.specs.declared.step.Side.{Side}
use Rattle.ark_script.specs.declared.step.Side.TheVariants as side
use Rattle.ark_machine.specs.Objects
use Rattle.ark_machine.specs.Objects.{Object, Vnic, Place, Paced, Job, Datagram, as_filter, is_buffer}
use Rattle.ark_machine.specs.Machine.{Machine, Held, unmade, at, object_at, filter_at, serial_at, bytes_at, is_so, each_object, without, with_vnic}
use Rattle.ark_machine.specs.Row.{Row, Given, Ended, synced_by, is_sync, answer, unless_refused}
use Rattle.ark_machine.specs.Control.{lets_go}
use Rattle.ark_machine.specs.Buffers.{place_has, has_buffer, is_lent}
use Rattle.ark_machine.specs.Rates.{no_rings, pace_of, with_pace}
use Rattle.ark_machine.specs.Network.{posting_tx, assigned_to, arrive}
use Rattle.ark_machine.specs.Sockets.{posted_at, has_port, delivered, max_datagrams}
use Rattle.ark_machine.specs.Step.{step, ticked}
use Rattle.ark_machine.specs.System.{System, fresh_system, listed_machine, machine_of, line_turn}
use Rattle.ark_machine.specs.Private.{Play, Input, asks, comes, passes, inputs_of, private_machine}
use Rattle.ark_machine.specs.Start.{contents_at, stored_area, with_slot, with_stored, all_stored, start_system}
use Rattle.ark_machine.specs.Frames.{HasFrame, FramesThere}
use Rattle.ark_machine.specs.Labels.{AreLabelled}
use Rattle.ark_machine.proofs.Grants.{or_false, clash}
use Rattle.ark_laws.proofs.Labelled.{none_held, without_once}
use Rattle.ark_laws.proofs.Listed.{same_bytes, bytes_eq-same}
use Rattle.ark_laws.proofs.Privacy.{machine_private}
use Rattle.ark_laws.proofs.Granted.{when_none, when_some_none, kind_and_limit}
use Rattle.ark_laws.proofs.Growing.{size_in, frames_in, Grows, grown_there, same_grows, then_grows, plain_grows, door_is, vsic_grows, socket_grows, vnic_grows, each_grows, synced_grows, new_there, new_grows, without_grows, without_at}
use Rattle.ark_laws.proofs.FramesThere.{grows_walk, card_grows, arrive_grows}
use Rattle.ark_laws.proofs.RowWalk.{RowWalk, is_new, row_goes}

-- Rows.

-- what a change of a machine keeps
record Keeps (m n : Machine) : Type 0 where
  pub frames : FramesThere m → FramesThere n
  pub labels : AreLabelled m → AreLabelled n

kept_same : (m : Machine) → Keeps m m
kept_same m = record { frames = λ h. h; labels = λ h. h }

grown_keeps : {m n : Machine} → Grows m n → Keeps m n
grown_keeps g = record { frames = grown_there g; labels = g.labels }

then_keeps : {m n k : Machine} → Keeps m n → Keeps n k → Keeps m k
then_keeps f g = record { frames = λ h. g.frames (f.frames h); labels = λ h. g.labels (f.labels h) }

answer_keeps : (m : Machine) (c : Conditions) (row : Row) → (early c ≡ None → Keeps m row.machine) → Keeps m (answer m c row).machine
unfolding answer
answer_keeps m c row keeps = by (early c) (late c) refl
  where
    by : (one two : Option Refusal) → early c ≡ one → Keeps m (unless_refused one two m row).machine
    by (Some x) two is = kept_same m
    by None (Some x) is = keeps is
    by None None is = keeps is

grown_row : (m : Machine) (c : Conditions) (row : Row) → Grows m row.machine → Keeps m (answer m c row).machine
grown_row m c row g = answer_keeps m c row (λ is. grown_keeps g)

-- the conditions that come before none
named_range_and_lent : (c : Conditions) → early c ≡ None → (c.name_taken ≡ false) × (c.out_of_range ≡ false) × (c.lent ≡ false)
named_range_and_lent c h =
    let a = when_none c.too_long r.TooLong _ h in
    let b = when_none c.unknown_word r.UnknownWord _ a.1 in
    let d = when_none c.syntax_fault r.Syntax _ b.1 in
    let e = when_none c.no_application r.NoApplication _ d.1 in
    let f = when_none c.name_taken r.NameTaken _ e.1 in
    let g = when_some_none c.no_grant (λ l. r.NoGrant l) _ f.1 in
    let i = when_none c.wrong_kind r.WrongKind _ g in
    let j = when_none c.limit r.Limit _ i.1 in
    let k = when_none c.no_nic r.NoNic _ j.1 in
    let l = when_none c.out_of_range r.OutOfRange _ k.1 in
    let n = when_none c.table_failed r.TableFailed _ l.1 in
    let o = when_none c.log_failed r.LogFailed _ n.1 in
    let p = when_none c.busy r.Busy _ o.1 in
    (f.0, l.0, (when_none c.lent r.Lent _ p.1).0)

-- by what was asked of the kind, the range and the buffers
asked_row : (m : Machine) (c : Conditions) (row : Row) → (c.wrong_kind ≡ false → c.out_of_range ≡ false → c.lent ≡ false → Keeps m row.machine) → Keeps m (answer m c row).machine
asked_row m c row keeps = answer_keeps m c row (λ is. let p = named_range_and_lent c is in keeps (kind_and_limit c is).0 p.1 p.2)

-- by what was asked of the name
named_row : (m : Machine) (c : Conditions) (row : Row) → (c.name_taken ≡ false → Grows m row.machine) → Keeps m (answer m c row).machine
named_row m c row grows = answer_keeps m c row (λ is. grown_keeps (grows (named_range_and_lent c is).0))

synced_after : {m k : Machine} (ends : List Ended) → Grows m k → Grows m (synced_by ends k)
synced_after {m = m} {k = k} ends g = then_grows g (synced_grows (list_any (λ e. e.ok && is_sync e.verb) ends) k)

filter_old : (o : Option Object) (x : Filter) → option_and_then as_filter o ≡ Some x → (c : Option (List ℕ)) × (o ≡ Some (Objects.filter x c))
filter_old None x e = absurd cc
filter_old (Some (Objects.filter y c)) x e = (c, ap (λ (z : Filter). Some (Objects.filter z c)) (the_filter y x e))
  where
    the_filter : (y x : Filter) → ◌≡◌ {A = Option Filter} (Some y) (Some x) → y ≡ x
    the_filter y x e = cc
filter_old (Some _) x e = absurd cc

assigned_grows : (m : Machine) (v f : List ℕ) → Grows m (assigned_to m v f (filter_at m f))
assigned_grows m v f = by (filter_at m f) refl
  where
    by : (o : Option Filter) → filter_at m f ≡ o → Grows m (assigned_to m v f o)
    by None e = same_grows m
    by (Some rule) e = let old = filter_old (object_at m f) rule e in plain_grows m f (Objects.filter rule (Some v)) (Objects.filter rule old.0) old.1 refl refl

pace_grows : (m : Machine) (v : List ℕ) (q : Side) (p : Option Paced) → Grows m (with_pace m v q p)
pace_grows m v side.Rx p = vnic_grows m v _ (λ x e q has. inl has)
pace_grows m v side.Tx p = vnic_grows m v _ (λ x e q has. inl has)
pace_grows m v side.Io p = vsic_grows m v _

-- what is dropped has no bytes
no_bytes : (o : Option Object) → is_so is_buffer o ≡ false → size_in o ≡ 0
no_bytes None h = refl
no_bytes (Some (Objects.buffer b)) h = absurd (false≢true (sym h))
no_bytes (Some (Objects.raw x)) h = refl
no_bytes (Some (Objects.log x)) h = refl
no_bytes (Some (Objects.vsic x)) h = refl
no_bytes (Some (Objects.vnic x)) h = refl
no_bytes (Some (Objects.filter f c)) h = refl
no_bytes (Some (Objects.door x)) h = refl
no_bytes (Some (Objects.rate q b)) h = refl
no_bytes (Some (Objects.socket x)) h = refl

lets_go_size : (x : List ℕ) (n : ℕ) (o : Object) → size_in (Some (lets_go x n o)) ≡ size_in (Some o)
lets_go_size x n (Objects.filter f (Some v)) = refl
lets_go_size x n (Objects.filter f None) = refl
lets_go_size x n (Objects.vsic v) = refl
lets_go_size x n (Objects.buffer b) = refl
lets_go_size x n _ = refl

lets_go_frames : (x : List ℕ) (n : ℕ) (o : Object) → frames_in (Some (lets_go x n o)) ≡ frames_in (Some o)
lets_go_frames x n (Objects.filter f (Some v)) = refl
lets_go_frames x n (Objects.filter f None) = refl
lets_go_frames x n (Objects.vsic v) = refl
lets_go_frames x n (Objects.vnic v) = refl
lets_go_frames x n _ = refl

drop_grows : (m : Machine) (x : List ℕ) (ends : List Ended) → is_so is_buffer (object_at m x) ≡ false → Grows m (synced_by ends (each_object (lets_go x (serial_at m x)) (without m x)))
drop_grows m x ends other =
    synced_after ends (then_grows (without_grows m x (no_bytes (object_at m x) other)) (each_grows (without m x) (lets_go x (serial_at m x)) (lets_go_size x (serial_at m x)) (lets_go_frames x (serial_at m x))))

-- `free`: a buffer that no descriptor has

find_object : (q : Held → Bool) (p : Object → Bool) (hs : List Held) (o : Object) → list_any (λ h. p h.object) hs ≡ false → option_map (λ h. h.object) (find q hs) ≡ Some o → p o ≡ false
find_object q p [] o none is = absurd cc
find_object q p (x ∷ xs) o none is = by (q x) is (λ e. find_object q p xs o apart.1 e)
  where
    apart : (p x.object ≡ false) × (list_any (λ h. p h.object) xs ≡ false)
    apart = or_false (p x.object) (list_any (λ h. p h.object) xs) none

    the_object : (a b : Object) → ◌≡◌ {A = Option Object} (Some a) (Some b) → a ≡ b
    the_object a b e = cc

    by : (b : Bool) → option_map (λ h. h.object) (cond b (Some x) (find q xs)) ≡ Some o → (option_map (λ h. h.object) (find q xs) ≡ Some o → p o ≡ false) → p o ≡ false
    by true e next = subst (λ z. p z ≡ false) (the_object x.object o e) apart.0
    by false e next = next e

not_named : (b : List ℕ) (ps : List (Place × ℕ)) (c : List ℕ) (len : ℕ) → list_any (λ p. place_has b p.0) ps ≡ false → Contains ps (Objects.named c, len) → bytes_eq b c ≡ false
not_named b [] c len none has = absurd (omega (arith, has.1))
not_named b (p ∷ ps) c len none (zero, lt, e) =
    subst (λ (q : Place × ℕ). place_has b q.0 ≡ false) e (or_false (place_has b p.0) (list_any (λ q. place_has b q.0) ps) none).0
not_named b (p ∷ ps) c len none (suc i, lt, e) = not_named b ps c len (or_false (place_has b p.0) (list_any (λ q. place_has b q.0) ps) none).1 (i, omega (arith, lt), e)

posted_not : (b : List ℕ) (o : Object) (c : List ℕ) (len : ℕ) → has_buffer b o ≡ false → Contains (frames_in (Some o)) (Objects.named c, len) → bytes_eq b c ≡ false
posted_not b (Objects.vnic v) c len none has =
    let rx : Bool = list_any (λ p. place_has b p) v.rx.posted || list_any (λ u. place_has b u.0) v.rx.unreaped in
    let tx : Bool = list_any (λ p. place_has b p.0) v.tx.posted || list_any (λ u. place_has b u.0) v.tx.unreaped in
    not_named b v.tx.posted c len (or_false (list_any (λ p. place_has b p.0) v.tx.posted) (list_any (λ u. place_has b u.0) v.tx.unreaped) (or_false rx tx none).1).0 has
posted_not b _ c len none has = absurd (omega (arith, has.1))

free_there : (m : Machine) (b : List ℕ) → is_lent m b ≡ false → FramesThere m → FramesThere (without m b)
free_there m b unlent h v p has = by p (bytes_eq v b) (subst (λ q. Contains (frames_in q) p) (without_at b v m.held) has)
  where
    kept : (p : Place × ℕ) → Contains (frames_in (object_at m v)) p → (o : Option Object) → object_at m v ≡ o → HasFrame (without m b) p
    kept p old None is = absurd (none (subst (λ q. Contains (frames_in q) p) is old))
      where
        none : Contains (frames_in None) p → ⊥
        none c = omega (arith, c.1)
    kept (Objects.taken y, len) old (Some o) is = h v (Objects.taken y, len) old
    kept (Objects.named c, len) old (Some o) is =
        let lent : bytes_eq b c ≡ false = posted_not b o c len (find_object (λ x. bytes_eq v x.label) (has_buffer b) m.held o unlent is) (subst (λ q. Contains (frames_in q) (Objects.named c, len)) is old) in
        let there : len ≤ size_in (object_at m c) = h v (Objects.named c, len) old in
        let same : object_at (without m b) c ≡ object_at m c = without_at b c m.held ∙ ap (λ t. cond t None (object_at m c)) (apart (bytes_eq c b) refl lent) in
        subst (λ q. len ≤ size_in q) (sym same) there
      where
        apart : (t : Bool) → bytes_eq c b ≡ t → bytes_eq b c ≡ false → bytes_eq c b ≡ false
        apart true e f = absurd (clash (subst (λ y. bytes_eq b y ≡ true) (sym (same_bytes c b e)) (bytes_eq-same b)) f)
        apart false e f = e

    by : (p : Place × ℕ) (t : Bool) → Contains (frames_in (cond t None (object_at m v))) p → HasFrame (without m b) p
    by p true gone = absurd (omega (arith, gone.1))
    by p false old = kept p old (object_at m v) refl

-- `send` and `sendto`

posted_one : (m : Machine) (x : Vnic) (p q : Place × ℕ) → HasFrame m p → Contains (x.tx.posted ++ p ∷ []) q → Contains x.tx.posted q ⊎ HasFrame m q
posted_one m x p q there has = elim (Contains-append_cases x.tx.posted (p ∷ []) q has) [ inl old ↦ inl old | inr new ↦ inr (subst (λ z. HasFrame m z) (only q new) there) ]
  where
    only : (q : Place × ℕ) → Contains (p ∷ []) q → p ≡ q
    only q (zero, lt, e) = e
    only q (suc i, lt, e) = absurd (omega (arith, lt))

le_of : (n k : ℕ) → nat_lt n k ≡ false → k ≤ n
le_of n k h = grind (arith, nat_tests)

send_grows : (m : Machine) (v b : List ℕ) (len : ℕ) → nat_lt (length (bytes_at m b)) len ≡ false → Grows m (with_vnic m v (posting_tx (Objects.named b) len))
send_grows m v b len fits = vnic_grows m v _ (λ x e q has. posted_one m x (Objects.named b, len) q (le_of (length (bytes_at m b)) len fits) has)

posted_grows : (m : Machine) (v frame : List ℕ) (o : Option ℕ) → Grows m (posted_at m v frame o)
posted_grows m v frame None = same_grows m
posted_grows m v frame (Some s) = vnic_grows m v _ (λ x e q has. posted_one m x (Objects.taken (record { start = s; bytes = frame }), length frame) q (omega arith) has)

delivered_size : (v : List ℕ) (d : udp.Datagram) (o : Object) → size_in (Some (delivered v d o)) ≡ size_in (Some o)
delivered_size v d (Objects.socket k) = elim (has_port v d.to_port (Objects.socket k) && nat_lt (length k.datagrams) max_datagrams) as (λ t. size_in (Some (cond t (Objects.socket (record k { datagrams = k.datagrams ++ (record { ip = d.from; port = d.from_port; payload = d.payload }) ∷ [] })) (Objects.socket k))) ≡ 0) [ true ↦ refl | false ↦ refl ]
delivered_size v d (Objects.buffer b) = refl
delivered_size v d _ = refl

delivered_frames : (v : List ℕ) (d : udp.Datagram) (o : Object) → frames_in (Some (delivered v d o)) ≡ frames_in (Some o)
delivered_frames v d (Objects.socket k) = elim (has_port v d.to_port (Objects.socket k) && nat_lt (length k.datagrams) max_datagrams) as (λ t. frames_in (Some (cond t (Objects.socket (record k { datagrams = k.datagrams ++ (record { ip = d.from; port = d.from_port; payload = d.payload }) ∷ [] })) (Objects.socket k))) ≡ []) [ true ↦ refl | false ↦ refl ]
delivered_frames v d (Objects.vnic x) = refl
delivered_frames v d _ = refl

new_frames : (o : Object) → is_new o ≡ true → frames_in (Some o) ≡ []
new_frames (Objects.raw r) h = refl
new_frames (Objects.log g) h = refl
new_frames (Objects.vsic v) h = refl
new_frames (Objects.vnic v) h = absurd (false≢true h)
new_frames (Objects.filter f c) h = absurd (false≢true h)
new_frames (Objects.door c) h = refl
new_frames (Objects.rate q b) h = refl
new_frames (Objects.buffer b) h = refl
new_frames (Objects.socket k) h = refl

grows_rows : RowWalk Grows
grows_rows = record {
  walk = grows_walk;
  created = λ m l o free fresh. new_grows m l o (new_frames o fresh) (none_held (at m l) free);
  vnic = λ m v f rx tx posts. vnic_grows m v f (λ x e q has. inl (subst (λ (ps : List (Place × ℕ)). Contains ps q) (posts x) has));
  paces = λ m v q o. pace_grows m v q (pace_of m o);
  socket = socket_grows;
  delivers = λ m v d. each_grows m (delivered v d) (delivered_size v d) (delivered_frames v d);
  sends = posted_grows;
  looks = λ m d c is. plain_grows m d (Objects.door no_rings) (Objects.door c) (door_is (object_at m d) c is) refl refl;
}

-- the row of every line
row_keeps : (m : Machine) (line : Line) (g : Given) → Keeps m (step m line g).machine
unfolding step
row_keeps m (w.app a x1) g = answer_keeps m _ _ (λ is. record { frames = λ h. h; labels = λ h. h })
row_keeps m (w.vnic a x1 x2 x3) g = named_row m _ _ (λ name. new_grows m x1 _ refl (none_held (at m x1) name))
row_keeps m (w.filter a x1 x2) g = named_row m _ _ (λ name. new_grows m x1 _ refl (none_held (at m x1) name))
row_keeps m (w.assign a x1 x2) g = grown_row m _ _ (assigned_grows m x1 x2)
row_keeps m (w.drop a x) g = asked_row m _ _ (λ kind range lent. grown_keeps (drop_grows m x g.ended kind))
row_keeps m (w.free a x1) g = asked_row m _ _ (λ kind range lent. record { frames = free_there m x1 lent; labels = λ once. without_once x1 m.held once })
row_keeps m (w.send a x1 x2 x3) g = asked_row m _ _ (λ kind range lent. grown_keeps (send_grows m x1 x2 x3 range))
row_keeps m (w.dev a x1) g = grown_row m _ _ (card_grows m x1 g)
row_keeps m line g = grown_keeps (row_goes Grows grows_rows m line g refl)

-- Systems.

inputs_keep : (a : List ℕ) (m : Machine) (is : List Input) → Keeps m (private_machine a m is)
inputs_keep a m [] = kept_same m
inputs_keep a m (asks line g ∷ is) = then_keeps (row_keeps m line g) (inputs_keep a (step m line g).machine is)
inputs_keep a m (comes v frame ∷ is) = then_keeps (grown_keeps (arrive_grows a m v frame)) (inputs_keep a (arrive a m v frame).machine is)
inputs_keep a m (passes n ∷ is) = let later : Keeps (ticked n m) (private_machine a (ticked n m) is) = inputs_keep a (ticked n m) is in record { frames = λ h. later.frames h; labels = λ h. later.labels h }

line_keeps : (s : System) (line : Line) (ends : List Ended) (memory : Bool) (a : List ℕ) → Keeps (machine_of s a) (machine_of (line_turn s line ends memory).after a)
line_keeps s line ends memory a =
    let x : Play = record { line = line; ends = ends; memory = memory } in
    subst (λ m. Keeps (machine_of s a) m) (sym (machine_private a s (x ∷ []))) (inputs_keep a (machine_of s a) (inputs_of a s (x ∷ [])))

pub line_there : (s : System) (line : Line) (ends : List Ended) (memory : Bool) (a : List ℕ) → FramesThere (machine_of s a) → FramesThere (machine_of (line_turn s line ends memory).after a)
line_there s line ends memory a h = (line_keeps s line ends memory a).frames h

pub line_labelled : (s : System) (line : Line) (ends : List Ended) (memory : Bool) (a : List ℕ) → AreLabelled (machine_of s a) → AreLabelled (machine_of (line_turn s line ends memory).after a)
line_labelled s line ends memory a h = (line_keeps s line ends memory a).labels h

-- at the start of a run
pub fresh_there : (size : ℕ) (a : List ℕ) → FramesThere (machine_of (fresh_system size) a)
fresh_there size a v p has = absurd (omega (arith, has.1))

abbrev AllThere : List (List ℕ × Machine) → Type 0
AllThere ms = AllByRecursion (λ p. FramesThere p.1) ms

stored_frames : (k : Kind) (blocks : List (List ℕ)) → frames_in (Some (stored_area k blocks)) ≡ []
stored_frames kind.Raw blocks = refl
stored_frames kind.Log blocks = refl
stored_frames kind.Queue blocks = refl

slot_there : (image : List (List ℕ)) (m : Machine) (t : Slot) → FramesThere m → FramesThere (with_slot image m t)
slot_there image m t h = new_there m t.label (stored_area t.kind (contents_at image t.blocks)) (stored_frames t.kind (contents_at image t.blocks)) h

unmade_there : FramesThere unmade
unmade_there v p has = absurd (omega (arith, has.1))

with_stored_there : (image : List (List ℕ)) (ms : List (List ℕ × Machine)) (t : Slot) → AllThere ms → AllThere (with_stored image ms t)
with_stored_there image [] t h = (slot_there image unmade t unmade_there, tt)
with_stored_there image (p ∷ ps) t h = elim (bytes_eq t.app p.0) as (λ b. AllThere (cond b ((p.0, with_slot image p.1 t) ∷ ps) (p ∷ with_stored image ps t))) [
  | true ↦ (slot_there image p.1 t h.0, h.1)
  | false ↦ (h.0, with_stored_there image ps t h.1)
]

all_stored_there : (image : List (List ℕ)) (ms : List (List ℕ × Machine)) (ts : List Slot) → AllThere ms → AllThere (all_stored image ms ts)
all_stored_there image ms [] h = h
all_stored_there image ms (t ∷ ts) h = all_stored_there image (with_stored image ms t) ts (with_stored_there image ms t h)

listed_there : (t : ℕ) (ms : List (List ℕ × Machine)) (a : List ℕ) → AllThere ms → FramesThere (listed_machine ms t a)
listed_there t [] a h = λ v p has. absurd (omega (arith, has.1))
listed_there t (p ∷ ps) a h = elim (bytes_eq a p.0) as (λ b. FramesThere (unwrap_or (option_map (λ q. q.1) (cond b (Some p) (find (λ q. bytes_eq a q.0) ps))) (record unmade { now = t }))) [ true ↦ h.0 | false ↦ listed_there t ps a h.1 ]

pub start_there : (image : List (List ℕ)) (slots : List Slot) (a : List ℕ) → FramesThere (machine_of (start_system image slots) a)
start_there image slots a = listed_there 0 (all_stored image [] slots) a (all_stored_there image [] slots tt)
