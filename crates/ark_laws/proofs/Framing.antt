-- What of a machine `settle` goes by, the paces of storage cards and the cards of open logs, and the changes that leave it.
use Rattle.std.proofs.Common.{◌≡◌, ℕ, Bool, true, false, List, [], ◌∷◌, map, refl, sym, ◌∙◌, ap, subst, cond}
use Rattle.std.proofs.lemmas.Bool.{false≢true}
use Rattle.std.specs.Prelude.{Option, Some, None, option_map, option_and_then, find, unwrap_or, bytes_eq}
use Rattle.ark_caladan.specs.Chain.{Log, Opened, Phase}
use Rattle.ark_vic.specs.declared.door.Bell.{Bell}
use Rattle.ark_vic.specs.declared.door.Bell.TheVariants as bell
use Rattle.ark_vic.specs.declared.door.Counts.{Counts}
use Rattle.ark_vic.specs.Bells as bells
use Rattle.ark_base.specs.declared.kind.Outcome.{Outcome}
use Rattle.ark_machine.specs.Objects
use Rattle.ark_machine.specs.Objects.{Object, Paced, Vsic, Job, as_vsic, as_log, as_door}
use Rattle.ark_machine.specs.Machine.{Machine, Held, holding, object_at, vsic_at, log_at, door_at, with_object, each_object, with_vsic, with_log}
use Rattle.ark_machine.specs.Row.{Ended, settled, synced}
use Rattle.ark_machine.specs.Rates.{rung}
use Rattle.ark_machine.specs.Moves.{ending, ended, decided_on, deciding_tried, phase_written}
use Rattle.ark_machine.specs.Logs.{card_of}
use Rattle.ark_machine.specs.Sending.{pace_at}
use Rattle.ark_laws.proofs.Listed.{bytes_eq-same, same_bytes}

-- the pace of a storage card, and the card of an open log
abbrev pub Shape : Type 0
Shape = Option (Option Paced) × Option (List ℕ)

abbrev pub card_in : Option Opened → Option (List ℕ)
card_in o = option_map (λ x. x.card) o

abbrev pub shape : Object → Shape
shape (Objects.vsic v) = (Some v.pace, None)
shape (Objects.log g) = (None, card_in g.opened)
shape _ = (None, None)

abbrev pub shape_at : Machine → List ℕ → Option Shape
shape_at m l = option_map shape (object_at m l)

-- a machine's shapes are another's
abbrev pub Same : Machine → Machine → Type 0
Same m n = (k : List ℕ) → shape_at n k ≡ shape_at m k

pub same_after : (m n k : Machine) → Same m n → Same n k → Same m k
same_after m n k f g l = g l ∙ f l

-- One object with another content.

abbrev content : Held → Object
content h = h.object

object_there : (l k : List ℕ) (o : Object) (hs : List Held) → bytes_eq k l ≡ false
    → option_map content (find (λ h. bytes_eq k h.label) (map (λ h. cond (bytes_eq l h.label) (holding o h) h) hs)) ≡ option_map content (find (λ h. bytes_eq k h.label) hs)
object_there l k o [] apart = refl
object_there l k o (x ∷ xs) apart = by (bytes_eq l x.label) (bytes_eq k x.label) refl refl (object_there l k o xs apart)
  where
    others : List Held
    others = map (λ h. cond (bytes_eq l h.label) (holding o h) h) xs

    by : (b c : Bool) → bytes_eq l x.label ≡ b → bytes_eq k x.label ≡ c → option_map content (find (λ h. bytes_eq k h.label) others) ≡ option_map content (find (λ h. bytes_eq k h.label) xs)
        → option_map content (cond (bytes_eq k (cond b (holding o x) x).label) (Some (cond b (holding o x) x)) (find (λ h. bytes_eq k h.label) others)) ≡ option_map content (cond c (Some x) (find (λ h. bytes_eq k h.label) xs))
    by true true e f rest = absurd (false≢true (sym apart ∙ subst (λ y. bytes_eq k y ≡ true) (same_bytes k x.label f ∙ sym (same_bytes l x.label e)) (bytes_eq-same k)))
    by true false e f rest = rw f rest
    by false true e f rest = rw f refl
    by false false e f rest = rw f rest

object_here : (l : List ℕ) (o : Object) (hs : List Held) → option_map content (find (λ h. bytes_eq l h.label) (map (λ h. cond (bytes_eq l h.label) (holding o h) h) hs))
    ≡ option_map (λ x. o) (find (λ h. bytes_eq l h.label) hs)
object_here l o [] = refl
object_here l o (x ∷ xs) = by (bytes_eq l x.label) refl (object_here l o xs)
  where
    others : List Held
    others = map (λ h. cond (bytes_eq l h.label) (holding o h) h) xs

    by : (b : Bool) → bytes_eq l x.label ≡ b → option_map content (find (λ h. bytes_eq l h.label) others) ≡ option_map (λ y. o) (find (λ h. bytes_eq l h.label) xs)
        → option_map content (cond (bytes_eq l (cond b (holding o x) x).label) (Some (cond b (holding o x) x)) (find (λ h. bytes_eq l h.label) others)) ≡ option_map (λ y. o) (cond b (Some x) (find (λ h. bytes_eq l h.label) xs))
    by true e rest = rw e refl
    by false e rest = rw e rest

there_same : (m : Machine) (l k : List ℕ) (o : Object) → bytes_eq k l ≡ false → shape_at (with_object m l o) k ≡ shape_at m k
there_same m l k o apart = ap (λ x. option_map shape x) (object_there l k o m.held apart)

-- what stands at the label afterwards, where something stood there
pub here_is : (m : Machine) (l : List ℕ) (o : Object) (q : Shape) → shape_at m l ≡ Some q → shape_at (with_object m l o) l ≡ Some (shape o)
here_is m l o q h = ap (λ x. option_map shape x) (object_here l o m.held) ∙ by (find (λ x. bytes_eq l x.label) m.held) h
  where
    by : (f : Option Held) → option_map shape (option_map content f) ≡ Some q → option_map shape (option_map (λ x. o) f) ≡ Some (shape o)
    by None e = absurd cc
    by (Some x) e = refl

pub object_same : (m : Machine) (l : List ℕ) (o : Object) → shape_at m l ≡ Some (shape o) → Same m (with_object m l o)
object_same m l o h k = by (bytes_eq k l) refl
  where
    by : (b : Bool) → bytes_eq k l ≡ b → shape_at (with_object m l o) k ≡ shape_at m k
    by true e = subst (λ y. shape_at (with_object m l o) y ≡ shape_at m y) (sym (same_bytes k l e)) (here_is m l o (shape o) h ∙ sym h)
    by false e = there_same m l k o e

each_shapes : (f : Object → Object) (k : List ℕ) (hs : List Held) → ((o : Object) → shape (f o) ≡ shape o)
    → option_map shape (option_map content (find (λ h. bytes_eq k h.label) (map (λ h. holding (f h.object) h) hs))) ≡ option_map shape (option_map content (find (λ h. bytes_eq k h.label) hs))
each_shapes f k [] same = refl
each_shapes f k (x ∷ xs) same = by (bytes_eq k x.label) (each_shapes f k xs same)
  where
    by : (b : Bool) → option_map shape (option_map content (find (λ h. bytes_eq k h.label) (map (λ h. holding (f h.object) h) xs))) ≡ option_map shape (option_map content (find (λ h. bytes_eq k h.label) xs))
        → option_map shape (option_map content (cond b (Some (holding (f x.object) x)) (find (λ h. bytes_eq k h.label) (map (λ h. holding (f h.object) h) xs))))
        ≡ option_map shape (option_map content (cond b (Some x) (find (λ h. bytes_eq k h.label) xs)))
    by true rest = ap (λ y. Some y) (same x.object)
    by false rest = rest

each_same : (f : Object → Object) (m : Machine) → ((o : Object) → shape (f o) ≡ shape o) → Same m (each_object f m)
each_same f m same k = each_shapes f k m.held same

-- What stands at a label.

pub vsic_shape : (m : Machine) (v : List ℕ) (x : Vsic) → vsic_at m v ≡ Some x → shape_at m v ≡ Some (Some x.pace, None)
vsic_shape m v x h = by (object_at m v) h
  where
    the_same : (y z : Vsic) → ◌≡◌ {A = Option Vsic} (Some y) (Some z) → y ≡ z
    the_same y z e = cc

    by : (o : Option Object) → option_and_then as_vsic o ≡ Some x → option_map shape o ≡ Some (Some x.pace, None)
    by None e = absurd cc
    by (Some (Objects.vsic y)) e = ap (λ (z : Vsic). Some (Some z.pace, None)) (the_same y x e)
    by (Some _) e = absurd cc

pub shape_vsic : (m : Machine) (v : List ℕ) (p : Option Paced) (c : Option (List ℕ)) → shape_at m v ≡ Some (Some p, c) → (x : Vsic) × (vsic_at m v ≡ Some x) × (x.pace ≡ p)
shape_vsic m v p c h = by (object_at m v) h
  where
    pace_in : Option Shape → Option (Option Paced)
    pace_in o = option_and_then (λ (q : Shape). q.0) o

    no_card : (q : Option (List ℕ)) → ◌≡◌ {A = Option Shape} (Some (None, q)) (Some (Some p, c)) → ⊥
    no_card q e = let f : ◌≡◌ {A = Option (Option Paced)} None (Some p) = ap pace_in e in absurd cc

    by : (o : Option Object) → option_map shape o ≡ Some (Some p, c) → (x : Vsic) × (option_and_then as_vsic o ≡ Some x) × (x.pace ≡ p)
    by None e = absurd cc
    by (Some (Objects.vsic y)) e = let f : ◌≡◌ {A = Option (Option Paced)} (Some y.pace) (Some p) = ap pace_in e in (y, refl, cc)
    by (Some (Objects.log g)) e = absurd (no_card (card_in g.opened) e)
    by (Some _) e = absurd (no_card None e)

pub log_shape : (m : Machine) (l : List ℕ) (g : Log) → log_at m l ≡ Some g → shape_at m l ≡ Some (None, card_in g.opened)
log_shape m l g h = by (object_at m l) h
  where
    the_same : (y z : Log) → ◌≡◌ {A = Option Log} (Some y) (Some z) → y ≡ z
    the_same y z e = cc

    by : (o : Option Object) → option_and_then as_log o ≡ Some g → option_map shape o ≡ Some (None, card_in g.opened)
    by None e = absurd cc
    by (Some (Objects.log y)) e = ap (λ (z : Log). Some (None, card_in z.opened)) (the_same y g e)
    by (Some _) e = absurd cc

door_shape : (m : Machine) (d : List ℕ) (c : Counts) → door_at m d ≡ Some c → shape_at m d ≡ Some (None, None)
door_shape m d c h = by (object_at m d) h
  where
    by : (o : Option Object) → option_and_then as_door o ≡ Some c → option_map shape o ≡ Some (None, None)
    by None e = absurd cc
    by (Some (Objects.door y)) e = refl
    by (Some _) e = absurd cc

pub card_shape : (m : Machine) (l : List ℕ) → card_of m l ≡ unwrap_or (option_and_then (λ q. q.1) (shape_at m l)) []
card_shape m l = by (object_at m l)
  where
    by : (o : Option Object) → unwrap_or (option_map (λ x. x.card) (option_and_then (λ x. x.opened) (option_and_then as_log o))) [] ≡ unwrap_or (option_and_then (λ q. q.1) (option_map shape o)) []
    by None = refl
    by (Some (Objects.log g)) = refl
    by (Some _) = refl

pub pace_shape : (m : Machine) (v : List ℕ) → pace_at m v ≡ unwrap_or (option_and_then (λ q. q.0) (shape_at m v)) None
pace_shape m v = by (object_at m v)
  where
    by : (o : Option Object) → option_and_then (λ x. x.pace) (option_and_then as_vsic o) ≡ unwrap_or (option_and_then (λ q. q.0) (option_map shape o)) None
    by None = refl
    by (Some (Objects.vsic x)) = refl
    by (Some _) = refl

-- Changes that leave the shapes.

pub vsic_same : (m : Machine) (v : List ℕ) (f : Vsic → Vsic) → ((x : Vsic) → (f x).pace ≡ x.pace) → Same m (with_vsic m v f)
vsic_same m v f same k = by (vsic_at m v) refl
  where
    by : (o : Option Vsic) → vsic_at m v ≡ o → shape_at (unwrap_or (option_map (λ x. with_object m v (Objects.vsic (f x))) o) m) k ≡ shape_at m k
    by None e = refl
    by (Some x) e = object_same m v (Objects.vsic (f x)) (vsic_shape m v x e ∙ ap (λ (p : Option Paced). Some (Some p, None)) (sym (same x))) k

pub log_same : (m : Machine) (l : List ℕ) (f : Log → Log) → ((g : Log) → card_in (f g).opened ≡ card_in g.opened) → Same m (with_log m l f)
log_same m l f same k = by (log_at m l) refl
  where
    by : (o : Option Log) → log_at m l ≡ o → shape_at (unwrap_or (option_map (λ x. with_object m l (Objects.log (f x))) o) m) k ≡ shape_at m k
    by None e = refl
    by (Some g) e = object_same m l (Objects.log (f g)) (log_shape m l g e ∙ ap (λ (c : Option (List ℕ)). Some (None, c)) (sym (same g))) k

rung_same : (m : Machine) (d : Option (List ℕ)) (b : Bell) → Same m (rung m d b)
rung_same m None b k = refl
rung_same m (Some d) b k = by (door_at m d) refl
  where
    by : (o : Option Counts) → door_at m d ≡ o → shape_at (unwrap_or (option_map (λ c. with_object m d (Objects.door (bells.one_more c b))) o) m) k ≡ shape_at m k
    by None e = refl
    by (Some c) e = object_same m d (Objects.door (bells.one_more c b)) (door_shape m d c e) k

pub ended_same : (m : Machine) (v : List ℕ) (x : Vsic) (j : Job) (js : List Job) (o : Outcome) → Same m (ended m v x j js o)
ended_same m v x j js o = same_after m (with_vsic m v (ending j js o)) (ended m v x j js o) (vsic_same m v (ending j js o) (λ y. refl)) (rung_same (with_vsic m v (ending j js o)) x.door bell.Io)

settled_shape : (o : Object) → shape (settled o) ≡ shape o
settled_shape (Objects.raw r) = refl
settled_shape (Objects.vsic v) = refl
settled_shape (Objects.log g) = refl
settled_shape _ = refl

pub synced_same : (b : Bool) (m : Machine) → Same m (synced b m)
synced_same true m k = each_same settled m settled_shape k
synced_same false m k = refl

pub same_card : (f : Opened → Opened) (o : Option Opened) → ((x : Opened) → (f x).card ≡ x.card) → card_in (option_map f o) ≡ card_in o
same_card f None same = refl
same_card f (Some x) same = ap (λ (c : List ℕ). Some c) (same x)

decided_card : (v : List ℕ) (took : Bool) (x : Opened) → (decided_on v took x).card ≡ x.card
decided_card v took x = elim (bytes_eq v x.card) as (λ b. (cond b (record x { decided = took }) x).card ≡ x.card) [ true ↦ refl | false ↦ refl ]

deciding_shape : (v : List ℕ) (took : Bool) (o : Object) → shape (deciding_tried v took o) ≡ shape o
deciding_shape v took (Objects.log g) = ap (λ (c : Option (List ℕ)). (None, c)) (same_card (decided_on v took) g.opened (decided_card v took))
deciding_shape v took (Objects.vsic x) = refl
deciding_shape v took _ = refl

pub written_same : (m : Machine) (v : List ℕ) (p : Phase) (e : Ended) → Same m (phase_written m v p e)
written_same m v p e k = by p.decides
  where
    by : (b : Bool) → shape_at (cond b (each_object (deciding_tried v e.took) m) m) k ≡ shape_at m k
    by true = each_same (deciding_tried v e.took) m (deciding_shape v e.took) k
    by false = refl

-- A card whose pace is set: no log's card changes.

pub vsic_set : (m : Machine) (v l : List ℕ) (f : Vsic → Vsic) (x : Vsic) → vsic_at m v ≡ Some x
    → (card_of (with_vsic m v f) l ≡ card_of m l) × (shape_at (with_vsic m v f) v ≡ Some (Some (f x).pace, None))
vsic_set m v l f x at = rw at (card_shape k l ∙ by (bytes_eq l v) refl ∙ sym (card_shape m l), here_is m v (Objects.vsic (f x)) (Some x.pace, None) (vsic_shape m v x at))
  where
    k : Machine
    k = with_object m v (Objects.vsic (f x))

    by : (b : Bool) → bytes_eq l v ≡ b → unwrap_or (option_and_then (λ q. q.1) (shape_at k l)) [] ≡ unwrap_or (option_and_then (λ q. q.1) (shape_at m l)) []
    by true e =
        subst (λ y. unwrap_or (option_and_then (λ q. q.1) (shape_at k y)) [] ≡ unwrap_or (option_and_then (λ q. q.1) (shape_at m y)) []) (sym (same_bytes l v e))
        (rw (here_is m v (Objects.vsic (f x)) (Some x.pace, None) (vsic_shape m v x at), vsic_shape m v x at) refl)
    by false e = ap (λ q. unwrap_or (option_and_then (λ y. y.1) q) []) (there_same m v l (Objects.vsic (f x)) e)
