-- Changes of a machine that leave the bytes of each buffer, or add some, post no frame that its buffer has not whole, and give
-- no label twice.
use Rattle.std.proofs.Common.{◌≡◌, ◌≤◌, ◌⊎◌, inl, inr, ℕ, ◌+◌, Bool, true, false, not, List, [], ◌∷◌, ◌++◌, length, take, drop, refl, sym, ◌∙◌, ap, subst, arith, cond}
use Rattle.std.proofs.lemmas.List.{length-take, length-drop, length-append}
use Rattle.std.proofs.lemmas.List.Folds.{find-append}
use Rattle.std.specs.Prelude.{Option, Some, None, option_map, option_and_then, filter as select, unwrap_or, bytes_eq, Contains}
use Rattle.std.specs.Option.{option_or}
use Rattle.ark_vic.specs.Bells as bells
use Rattle.ark_vic.specs.declared.door.Bell.{Bell}
use Rattle.ark_vic.specs.declared.door.Counts.{Counts}
use Rattle.ark_caladan.specs.Chain.{Log}
use Rattle.ark_machine.specs.Bytes.{written}
use Rattle.ark_machine.specs.Objects
use Rattle.ark_machine.specs.Objects.{Object, Raw, Vsic, Vnic, Buffer, Socket, Place, as_raw, as_log, as_vsic, as_vnic, as_door, as_buffer, as_socket}
use Rattle.ark_machine.specs.Machine.{Machine, Held, at, object_at, raw_at, log_at, vsic_at, vnic_at, door_at, buffer_at, socket_at, with_object, each_object, with_new, without, with_vsic, with_vnic, with_log, with_buffer, with_socket}
use Rattle.ark_machine.specs.Row.{settled, synced}
use Rattle.ark_machine.specs.Areas.{with_raw}
use Rattle.ark_machine.specs.Rates.{rung}
use Rattle.ark_machine.specs.Frames.{frames_at, HasFrame, FramesThere}
use Rattle.ark_machine.specs.Labels.{AreLabelled}
use Rattle.ark_laws.proofs.Labelled.{held_at, set_once, each_once, without_held, without_once, new_once}
use Rattle.ark_laws.proofs.Listed.{same_bytes}
use Rattle.ark_laws.proofs.Setting.{found_at, set_here, set_there, each_found}

-- what of an object counts: its bytes, and the frames that are posted on it
abbrev pub size_in : Option Object → ℕ
size_in o = length (unwrap_or (option_map (λ x. x.bytes) (option_and_then as_buffer o)) [])

abbrev pub frames_in : Option Object → List (Place × ℕ)
frames_in o = unwrap_or (option_map (λ x. x.tx.posted) (option_and_then as_vnic o)) []

pub record Grows (m n : Machine) : Type 0 where
  pub sizes : (b : List ℕ) → size_in (object_at m b) ≤ size_in (object_at n b)
  pub frames : (v : List ℕ) (p : Place × ℕ) → Contains (frames_at n v) p → Contains (frames_at m v) p ⊎ HasFrame n p
  pub labels : AreLabelled m → AreLabelled n

there_after : (m n : Machine) → ((b : List ℕ) → size_in (object_at m b) ≤ size_in (object_at n b)) → (p : Place × ℕ) → HasFrame m p → HasFrame n p
there_after m n sizes (Objects.named b, len) h = let more = sizes b in omega (arith, h, more)
there_after m n sizes (Objects.taken y, len) h = h

still_there : (m n : Machine) → ((b : List ℕ) → size_in (object_at m b) ≤ size_in (object_at n b))
    → ((v : List ℕ) (p : Place × ℕ) → Contains (frames_at n v) p → Contains (frames_at m v) p ⊎ HasFrame n p) → FramesThere m → FramesThere n
still_there m n sizes frames h v p has = elim (frames v p has) [ inl old ↦ there_after m n sizes p (h v p old) | inr new ↦ new ]

-- then the frames that were there stay so
pub grown_there : {m n : Machine} → Grows m n → FramesThere m → FramesThere n
grown_there {m = m} {n = n} g h = still_there m n g.sizes g.frames h

pub same_grows : (m : Machine) → Grows m m
same_grows m = record { sizes = λ b. omega arith; frames = λ v p has. inl has; labels = λ once. once }

pub then_grows : {m n k : Machine} → Grows m n → Grows n k → Grows m k
then_grows {m = m} {n = n} {k = k} f g = record {
  sizes = λ b. let x = f.sizes b in let y = g.sizes b in omega (arith, x, y);
  frames = λ v p has. elim (g.frames v p has) [
    | inl old ↦ elim (f.frames v p old) [ inl older ↦ inl older | inr there ↦ inr (there_after n k g.sizes p there) ]
    | inr new ↦ inr new
  ];
  labels = λ once. g.labels (f.labels once);
}

pub cond_grows : {m k n : Machine} (b : Bool) → Grows m k → Grows m n → Grows m (cond b k n)
cond_grows true f g = f
cond_grows false f g = g

-- One object with another content.

module _ (m : Machine) (l : List ℕ) (o old : Object) (is : object_at m l ≡ Some old) (le : size_in (Some old) ≤ size_in (Some o)) where
  abbrev n : Machine
  n = with_object m l o

  here : object_at n l ≡ Some o
  here = set_here l o m.held ∙ ap (λ q. option_map (λ (z : Object). o) q) is

  set_sizes : (b : List ℕ) → size_in (object_at m b) ≤ size_in (object_at n b)
  set_sizes b = by (bytes_eq b l) refl
    where
      by : (t : Bool) → bytes_eq b l ≡ t → size_in (object_at m b) ≤ size_in (object_at n b)
      by true e =
          subst (λ k. size_in (object_at m k) ≤ size_in (object_at n k)) (sym (same_bytes b l e))
          (subst (λ q. size_in q ≤ size_in (object_at n l)) (sym is) (subst (λ q. size_in (Some old) ≤ size_in q) (sym here) le))
      by false e = let same : object_at n b ≡ object_at m b = set_there b l o m.held e in subst (λ q. size_in (object_at m b) ≤ size_in q) (sym same) (omega arith)

  pub object_grows : ((p : Place × ℕ) → Contains (frames_in (Some o)) p → Contains (frames_in (Some old)) p ⊎ HasFrame m p) → Grows m (with_object m l o)
  object_grows posts = record {
    sizes = set_sizes;
    frames = λ v p has. by v p has (bytes_eq v l) refl;
    labels = λ once. set_once l o m.held once;
  }
    where
      at : (p : Place × ℕ) → Contains (frames_in (object_at n l)) p → Contains (frames_in (object_at m l)) p ⊎ HasFrame n p
      at p has = elim (posts p (subst (λ q. Contains (frames_in q) p) here has)) [
        | inl kept ↦ inl (subst (λ q. Contains (frames_in q) p) (sym is) kept)
        | inr there ↦ inr (there_after m n set_sizes p there)
      ]

      by : (v : List ℕ) (p : Place × ℕ) → Contains (frames_in (object_at n v)) p → (t : Bool) → bytes_eq v l ≡ t → Contains (frames_in (object_at m v)) p ⊎ HasFrame n p
      by v p has true e =
          subst (λ k. Contains (frames_in (object_at m k)) p ⊎ HasFrame n p) (sym (same_bytes v l e)) (at p (subst (λ k. Contains (frames_in (object_at n k)) p) (same_bytes v l e) has))
      by v p has false e = let same : object_at n v ≡ object_at m v = set_there v l o m.held e in inl (subst (λ q. Contains (frames_in q) p) same has)

-- one with no bytes and no frames, in the place of one with no bytes
pub plain_grows : (m : Machine) (l : List ℕ) (o old : Object) → object_at m l ≡ Some old → size_in (Some old) ≡ 0 → frames_in (Some o) ≡ [] → Grows m (with_object m l o)
plain_grows m l o old is none posts =
    object_grows m l o old is (omega (arith, none)) (λ p has. let gone : Contains [] p = subst (λ (ps : List (Place × ℕ)). Contains ps p) posts has in absurd (omega (arith, gone.1)))

some_is : {X : Type 0} (x y : X) → ◌≡◌ {A = Option X} (Some x) (Some y) → x ≡ y
some_is x y e = cc

vsic_is : (o : Option Object) (x : Vsic) → option_and_then as_vsic o ≡ Some x → o ≡ Some (Objects.vsic x)
vsic_is None x e = absurd cc
vsic_is (Some (Objects.vsic y)) x e = ap (λ (z : Vsic). Some (Objects.vsic z)) (some_is y x e)
vsic_is (Some _) x e = absurd cc

vnic_is : (o : Option Object) (x : Vnic) → option_and_then as_vnic o ≡ Some x → o ≡ Some (Objects.vnic x)
vnic_is None x e = absurd cc
vnic_is (Some (Objects.vnic y)) x e = ap (λ (z : Vnic). Some (Objects.vnic z)) (some_is y x e)
vnic_is (Some _) x e = absurd cc

pub log_is : (o : Option Object) (x : Log) → option_and_then as_log o ≡ Some x → o ≡ Some (Objects.log x)
log_is None x e = absurd cc
log_is (Some (Objects.log y)) x e = ap (λ (z : Log). Some (Objects.log z)) (some_is y x e)
log_is (Some _) x e = absurd cc

raw_is : (o : Option Object) (x : Raw) → option_and_then as_raw o ≡ Some x → o ≡ Some (Objects.raw x)
raw_is None x e = absurd cc
raw_is (Some (Objects.raw y)) x e = ap (λ (z : Raw). Some (Objects.raw z)) (some_is y x e)
raw_is (Some _) x e = absurd cc

pub door_is : (o : Option Object) (x : Counts) → option_and_then as_door o ≡ Some x → o ≡ Some (Objects.door x)
door_is None x e = absurd cc
door_is (Some (Objects.door y)) x e = ap (λ (z : Counts). Some (Objects.door z)) (some_is y x e)
door_is (Some _) x e = absurd cc

buffer_is : (o : Option Object) (x : Buffer) → option_and_then as_buffer o ≡ Some x → o ≡ Some (Objects.buffer x)
buffer_is None x e = absurd cc
buffer_is (Some (Objects.buffer y)) x e = ap (λ (z : Buffer). Some (Objects.buffer z)) (some_is y x e)
buffer_is (Some _) x e = absurd cc

socket_is : (o : Option Object) (x : Socket) → option_and_then as_socket o ≡ Some x → o ≡ Some (Objects.socket x)
socket_is None x e = absurd cc
socket_is (Some (Objects.socket y)) x e = ap (λ (z : Socket). Some (Objects.socket z)) (some_is y x e)
socket_is (Some _) x e = absurd cc

pub vsic_grows : (m : Machine) (v : List ℕ) (f : Vsic → Vsic) → Grows m (with_vsic m v f)
vsic_grows m v f = by (vsic_at m v) refl
  where
    by : (o : Option Vsic) → vsic_at m v ≡ o → Grows m (unwrap_or (option_map (λ x. with_object m v (Objects.vsic (f x))) o) m)
    by None e = same_grows m
    by (Some x) e = plain_grows m v (Objects.vsic (f x)) (Objects.vsic x) (vsic_is (object_at m v) x e) refl refl

pub log_grows : (m : Machine) (l : List ℕ) (f : Log → Log) → Grows m (with_log m l f)
log_grows m l f = by (log_at m l) refl
  where
    by : (o : Option Log) → log_at m l ≡ o → Grows m (unwrap_or (option_map (λ x. with_object m l (Objects.log (f x))) o) m)
    by None e = same_grows m
    by (Some x) e = plain_grows m l (Objects.log (f x)) (Objects.log x) (log_is (object_at m l) x e) refl refl

pub raw_grows : (m : Machine) (l : List ℕ) (f : Raw → Raw) → Grows m (with_raw m l f)
raw_grows m l f = by (raw_at m l) refl
  where
    by : (o : Option Raw) → raw_at m l ≡ o → Grows m (unwrap_or (option_map (λ x. with_object m l (Objects.raw (f x))) o) m)
    by None e = same_grows m
    by (Some x) e = plain_grows m l (Objects.raw (f x)) (Objects.raw x) (raw_is (object_at m l) x e) refl refl

pub socket_grows : (m : Machine) (l : List ℕ) (f : Socket → Socket) → Grows m (with_socket m l f)
socket_grows m l f = by (socket_at m l) refl
  where
    by : (o : Option Socket) → socket_at m l ≡ o → Grows m (unwrap_or (option_map (λ x. with_object m l (Objects.socket (f x))) o) m)
    by None e = same_grows m
    by (Some x) e = plain_grows m l (Objects.socket (f x)) (Objects.socket x) (socket_is (object_at m l) x e) refl refl

pub buffer_grows : (m : Machine) (l : List ℕ) (f : Buffer → Buffer) → ((x : Buffer) → length x.bytes ≤ length (f x).bytes) → Grows m (with_buffer m l f)
buffer_grows m l f longer = by (buffer_at m l) refl
  where
    by : (o : Option Buffer) → buffer_at m l ≡ o → Grows m (unwrap_or (option_map (λ x. with_object m l (Objects.buffer (f x))) o) m)
    by None e = same_grows m
    by (Some x) e = object_grows m l (Objects.buffer (f x)) (Objects.buffer x) (buffer_is (object_at m l) x e) (longer x) (λ p has. absurd (omega (arith, has.1)))

pub vnic_grows : (m : Machine) (v : List ℕ) (f : Vnic → Vnic) → ((x : Vnic) → vnic_at m v ≡ Some x → (p : Place × ℕ) → Contains (f x).tx.posted p → Contains x.tx.posted p ⊎ HasFrame m p) → Grows m (with_vnic m v f)
vnic_grows m v f posts = by (vnic_at m v) refl
  where
    by : (o : Option Vnic) → vnic_at m v ≡ o → Grows m (unwrap_or (option_map (λ x. with_object m v (Objects.vnic (f x))) o) m)
    by None e = same_grows m
    by (Some x) e = object_grows m v (Objects.vnic (f x)) (Objects.vnic x) (vnic_is (object_at m v) x e) (omega arith) (posts x e)

door_grows : (m : Machine) (d : List ℕ) (b : Bell) (o : Option Counts) → door_at m d ≡ o → Grows m (unwrap_or (option_map (λ c. with_object m d (Objects.door (bells.one_more c b))) o) m)
door_grows m d b None e = same_grows m
door_grows m d b (Some c) e = plain_grows m d (Objects.door (bells.one_more c b)) (Objects.door c) (door_is (object_at m d) c e) refl refl

pub rung_grows : (m : Machine) (d : Option (List ℕ)) (b : Bell) → Grows m (rung m d b)
rung_grows m None b = same_grows m
rung_grows m (Some d) b = door_grows m d b (door_at m d) refl

-- every object changed
pub each_grows : (m : Machine) (f : Object → Object) → ((o : Object) → size_in (Some (f o)) ≡ size_in (Some o)) → ((o : Object) → frames_in (Some (f o)) ≡ frames_in (Some o)) → Grows m (each_object f m)
each_grows m f sizes posts = record {
  sizes = λ b. let e = same_size (object_at m b) in let k : object_at (each_object f m) b ≡ option_map f (object_at m b) = each_found f b m.held in subst (λ q. size_in (object_at m b) ≤ size_in q) (sym k) (omega (arith, e));
  frames = λ v p has. inl (subst (λ (ps : List (Place × ℕ)). Contains ps p) (same_posts (object_at m v)) (subst (λ q. Contains (frames_in q) p) (each_found f v m.held) has));
  labels = λ once. each_once f m.held once;
}
  where
    same_size : (q : Option Object) → size_in (option_map f q) ≡ size_in q
    same_size None = refl
    same_size (Some o) = sizes o

    same_posts : (q : Option Object) → frames_in (option_map f q) ≡ frames_in q
    same_posts None = refl
    same_posts (Some o) = posts o

settled_size : (o : Object) → size_in (Some (settled o)) ≡ size_in (Some o)
settled_size (Objects.raw r) = refl
settled_size (Objects.buffer b) = refl
settled_size _ = refl

settled_frames : (o : Object) → frames_in (Some (settled o)) ≡ frames_in (Some o)
settled_frames (Objects.raw r) = refl
settled_frames (Objects.vnic x) = refl
settled_frames _ = refl

pub synced_grows : (b : Bool) (m : Machine) → Grows m (synced b m)
synced_grows true m = each_grows m settled settled_size settled_frames
synced_grows false m = same_grows m

-- A new object, and one that goes.

module _ (m : Machine) (l : List ℕ) (o : Object) (posts : frames_in (Some o) ≡ []) where
  abbrev newest : Held
  newest = record { label = l; serial = m.serial; object = o }

  new_sizes : (b : List ℕ) → size_in (object_at m b) ≤ size_in (object_at (with_new m l o) b)
  new_sizes b = subst (λ q. size_in (object_at m b) ≤ size_in (option_map (λ h. h.object) q)) (sym (find-append (λ h. bytes_eq b h.label) m.held (newest ∷ []))) (bigger (held_at b m.held))
    where
      bigger : (q : Option Held) → size_in (option_map (λ h. h.object) q) ≤ size_in (option_map (λ h. h.object) (option_or q (held_at b (newest ∷ []))))
      bigger None = omega arith
      bigger (Some h) = omega arith

  new_frames : (v : List ℕ) (p : Place × ℕ) → Contains (frames_at (with_new m l o) v) p → Contains (frames_at m v) p
  new_frames v p has = fewer (held_at v m.held) (subst (λ q. Contains (frames_in (option_map (λ h. h.object) q)) p) (find-append (λ h. bytes_eq v h.label) m.held (newest ∷ [])) has)
    where
      fewer : (q : Option Held) → Contains (frames_in (option_map (λ h. h.object) (option_or q (held_at v (newest ∷ []))))) p → Contains (frames_in (option_map (λ h. h.object) q)) p
      fewer (Some h) has = has
      fewer None has = by (bytes_eq v l) has
        where
          by : (t : Bool) → Contains (frames_in (option_map (λ h. h.object) (cond t (Some newest) None))) p → Contains {X = Place × ℕ} [] p
          by true has = subst (λ (ps : List (Place × ℕ)). Contains ps p) posts has
          by false has = has

  -- whatever its label
  pub new_there : FramesThere m → FramesThere (with_new m l o)
  new_there h = still_there m (with_new m l o) new_sizes (λ v p has. inl (new_frames v p has)) h

  pub new_grows : at m l ≡ None → Grows m (with_new m l o)
  new_grows free = record { sizes = new_sizes; frames = λ v p has. inl (new_frames v p has); labels = λ once. new_once newest m.held free once }

pub without_at : (l k : List ℕ) (hs : List Held) → found_at k (select (λ h. not (bytes_eq l h.label)) hs) ≡ cond (bytes_eq k l) None (found_at k hs)
without_at l k hs = ap (λ (q : Option Held). option_map (λ h. h.object) q) (without_held l k hs) ∙ elim (bytes_eq k l) as (λ t. option_map (λ h. h.object) (cond t None (held_at k hs)) ≡ cond t None (found_at k hs)) [ true ↦ refl | false ↦ refl ]

-- what goes has no bytes
pub without_grows : (m : Machine) (l : List ℕ) → size_in (object_at m l) ≡ 0 → Grows m (without m l)
without_grows m l none = record {
  sizes = λ b. subst (λ q. size_in (object_at m b) ≤ size_in q) (sym (without_at l b m.held)) (bigger b (bytes_eq b l) refl);
  frames = λ v p has. inl (fewer v p (bytes_eq v l) (subst (λ q. Contains (frames_in q) p) (without_at l v m.held) has));
  labels = λ once. without_once l m.held once;
}
  where
    bigger : (b : List ℕ) (t : Bool) → bytes_eq b l ≡ t → size_in (object_at m b) ≤ size_in (cond t None (object_at m b))
    bigger b true e = let is : size_in (object_at m b) ≡ 0 = subst (λ k. size_in (object_at m k) ≡ 0) (sym (same_bytes b l e)) none in omega (arith, is)
    bigger b false e = omega arith

    fewer : (v : List ℕ) (p : Place × ℕ) (t : Bool) → Contains (frames_in (cond t None (object_at m v))) p → Contains (frames_in (object_at m v)) p
    fewer v p true has = absurd (omega (arith, has.1))
    fewer v p false has = has

-- bytes that are written make a buffer no shorter
pub written_longer : (bytes : List ℕ) (at : ℕ) (new : List ℕ) → length bytes ≤ length (written bytes at new)
written_longer bytes at new =
    let a = length-append (take at bytes ++ new) (drop (at + length new) bytes) in
    let b = length-append (take at bytes) new in
    let c = length-take at bytes in
    let d = length-drop (at + length new) bytes in
    omega (arith, a, b, c, d)
