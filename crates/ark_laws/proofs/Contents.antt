-- What a raw area holds, and may hold after a stop, once a write was tried or a sync succeeded.
use Rattle.std.proofs.Common.{◌≡◌, ◌⊎◌, inl, inr, ℕ, zero, suc, ◌<◌, Bool, true, false, ◌||◌, ◌&&◌, List, [], ◌∷◌, ◌++◌, length, map, refl, sym, ◌∙◌, ap, subst, arith, get_or-set_same, get_or-set_other}
use Rattle.std.proofs.lemmas.List.{get_or-map}
use Rattle.std.specs.Prelude.{Option, Some, None, Contains, option_map, option_and_then, slice_index_or}
use Rattle.std.specs.List.{list_any}
use Rattle.ark_base.specs.Conditions.{Conditions, early, late}
use Rattle.ark_base.specs.declared.refusal.Refusal.{Refusal}
use Rattle.ark_base.specs.declared.refusal.Refusal.TheVariants as r
use Rattle.ark_caladan.specs.Chain.{syncing}
use Rattle.ark_script.specs.Line as w
use Rattle.ark_script.specs.Line.{Line}
use Rattle.ark_script.specs.declared.said.Said.TheVariants as said
use Rattle.ark_machine.specs.Bytes.{padded}
use Rattle.ark_machine.specs.Objects
use Rattle.ark_machine.specs.Objects.{Object, Raw, Vsic, Job, flush, as_raw}
use Rattle.ark_machine.specs.Machine.{Machine, object_at, raw_at}
use Rattle.ark_machine.specs.Row.{Row, Given, Ended, is_sync, settled, synced, synced_by, answer, unless_refused}
use Rattle.ark_machine.specs.Areas.{raw_written, block_written}
use Rattle.ark_machine.specs.Plane.{recorded}
use Rattle.ark_machine.specs.Step.{step}
use Rattle.ark_machine.specs.System.{System, machine_of, line_turn}
use Rattle.ark_machine.specs.Refused.{is_told_late}
use Rattle.ark_laws.proofs.Early.{same_refusal, early_not_told}
use Rattle.ark_laws.proofs.Privacy.{own_machine}
use Rattle.ark_laws.proofs.Setting.{each_found, raw_set}

-- A write that was tried.

pub tried_may : (off : ℕ) (block : List ℕ) (took : Bool) (r : Raw) → off < length r.maybe → slice_index_or (raw_written off block took r).maybe off [] ≡ slice_index_or r.maybe off [] ++ block ∷ []
tried_may off block took r lt = get_or-set_same r.maybe off _ [] lt

pub other_may : (off k : ℕ) (block : List ℕ) (took : Bool) (r : Raw) → (k ≡ off → ⊥) → slice_index_or (raw_written off block took r).maybe k [] ≡ slice_index_or r.maybe k []
other_may off k block took r ne = get_or-set_other r.maybe off k _ [] ne

pub taken_stands : (off : ℕ) (block : List ℕ) (r : Raw) → off < length r.content → slice_index_or (raw_written off block true r).content off [] ≡ block
taken_stands off block r lt = get_or-set_same r.content off block [] lt

pub other_stands : (off k : ℕ) (block : List ℕ) (took : Bool) (r : Raw) → (k ≡ off → ⊥) → slice_index_or (raw_written off block took r).content k [] ≡ slice_index_or r.content k []
other_stands off k block true r ne = get_or-set_other r.content off k block [] ne
other_stands off k block false r ne = refl

-- A sync that succeeded.

pub settled_raw : (o : Option Object) (r : Raw) → option_and_then as_raw o ≡ Some r → option_and_then as_raw (option_map settled o) ≡ Some (record r { maybe = map (λ b. b ∷ []) r.content })
settled_raw None r h = absurd cc
settled_raw (Some (Objects.raw x)) r h = subst (λ y. Some (record x { maybe = map (λ b. b ∷ []) x.content }) ≡ Some (record y { maybe = map (λ b. b ∷ []) y.content })) (the_raw x r h) refl
  where
    the_raw : (x r : Raw) → ◌≡◌ {A = Option Raw} (Some x) (Some r) → x ≡ r
    the_raw x r h = cc
settled_raw (Some _) r h = absurd cc

pub has_synced : (ends : List Ended) (e : Ended) → Contains ends e → e.ok ≡ true → e.verb ≡ syncing → list_any (λ x. x.ok && is_sync x.verb) ends ≡ true
has_synced [] e (k, lt, is) ok verb = absurd (omega (arith, lt))
has_synced (x ∷ xs) e (zero, lt, is) ok verb =
    let good : x.ok ≡ true = ap (λ (y : Ended). y.ok) is ∙ ok in
    let syncs : x.verb ≡ syncing = ap (λ (y : Ended). y.verb) is ∙ verb in
    rw (good, syncs) refl
has_synced (x ∷ xs) e (suc k, lt, is) ok verb = rw (has_synced xs e (k, omega (arith, lt), is) ok verb) (or_true (x.ok && is_sync x.verb))
  where
    or_true : (b : Bool) → (b || true) ≡ true
    or_true true = refl
    or_true false = refl

pub synced_may : (m : Machine) (l : List ℕ) (r : Raw) (ends : List Ended) (e : Ended) → raw_at m l ≡ Some r → Contains ends e → e.ok ≡ true → e.verb ≡ syncing
    → raw_at (synced_by ends m) l ≡ Some (record r { maybe = map (λ b. b ∷ []) r.content })
synced_may m l r ends e is there ok verb =
    subst (λ b. raw_at (synced b m) l ≡ Some (record r { maybe = map (λ b. b ∷ []) r.content })) (sym (has_synced ends e there ok verb))
    (ap (λ o. option_and_then as_raw o) (each_found settled l m.held) ∙ settled_raw (object_at m l) r is)

pub settled_may : (r : Raw) (k : ℕ) → k < length r.content → slice_index_or (map (λ b. b ∷ []) r.content) k [] ≡ slice_index_or r.content k [] ∷ []
settled_may r k lt = get_or-map (λ (b : List ℕ). b ∷ []) r.content k [] [] lt

-- Lines that do so.

-- a row that is not refused but for a device call leaves its machine
tried_machine : (m : Machine) (c : Conditions) (row : Row) → ((answer m c row).said ≡ said.Ok) ⊎ ((answer m c row).said ≡ said.Refused r.DeviceFault) → (answer m c row).machine ≡ row.machine
unfolding answer
tried_machine m c row = by (early c) (late c) refl
  where
    by : (one two : Option Refusal) → early c ≡ one → ((unless_refused one two m row).said ≡ said.Ok) ⊎ ((unless_refused one two m row).said ≡ said.Refused r.DeviceFault) → (unless_refused one two m row).machine ≡ row.machine
    by (Some y) two is (inl e) = absurd cc
    by (Some y) two is (inr e) = absurd (early_not_told c y is (subst (λ z. is_told_late z ≡ true) (sym (same_refusal y r.DeviceFault e)) refl))
    by None (Some y) is e = refl
    by None None is e = refl

poked_machine : (m : Machine) (a l : List ℕ) (off : ℕ) (bytes : List ℕ) (g : Given) → ((step m (w.poke a l off bytes) g).said ≡ said.Ok) ⊎ ((step m (w.poke a l off bytes) g).said ≡ said.Refused r.DeviceFault)
    → (step m (w.poke a l off bytes) g).machine ≡ block_written m l off (padded bytes) g.ended
unfolding step
poked_machine m a l off bytes g h = tried_machine m _ _ h

-- a write of one block
pub poked_may : (s : System) (a l : List ℕ) (off : ℕ) (bytes : List ℕ) (e : Ended) (memory : Bool) (x : Raw) → raw_at (machine_of s a) l ≡ Some x
    → ((line_turn s (w.poke a l off bytes) (e ∷ []) memory).said ≡ said.Ok) ⊎ ((line_turn s (w.poke a l off bytes) (e ∷ []) memory).said ≡ said.Refused r.DeviceFault)
    → raw_at (machine_of (line_turn s (w.poke a l off bytes) (e ∷ []) memory).after a) l ≡ Some (raw_written off (padded bytes) e.took x)
poked_may s a l off bytes e memory x is h =
    let line : Line = w.poke a l off bytes in
    let g : Given = recorded s.plane line (e ∷ []) memory in
    ap (λ (n : Machine). raw_at n l) (own_machine s a line g ∙ poked_machine (machine_of s a) a l off bytes g h) ∙ raw_set (machine_of s a) l (raw_written off (padded bytes) e.took) x is
