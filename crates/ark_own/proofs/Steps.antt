-- The steps of lines that touch one application alone.
use Rattle.std.proofs.Common.{◌≡◌, ℕ, true, false, List, refl}
use Rattle.std.specs.Prelude.{Option}
use Rattle.std.proofs.lemmas.Bool.{false≢true}
use Rattle.ark_filters.specs.declared.filter.Direction.{Direction}
use Rattle.ark_script.specs.Line.{line_of}
use Rattle.ark_script.specs.declared.step.Hex.{Hex}
use Rattle.ark_script.specs.declared.step.Side.{Side}
use Rattle.ark_script.specs.declared.step.Step.{Step}
use Rattle.ark_script.specs.declared.step.Step.TheVariants as step
use Rattle.ark_own.specs.Own.{is_own, shows_bytes}

-- a step of another word is none of them
pub no_other : (x : Step) → is_own (line_of x) ≡ true
    → ((a s : List ℕ) (off : ℕ) → x ≡ step.Peek a s off → ⊥)
    → ((a s : List ℕ) (off : ℕ) (hex : Hex) → x ≡ step.Poke a s off hex → ⊥)
    → ((a b : List ℕ) (len : ℕ) → x ≡ step.Buf a b len → ⊥)
    → ((a b : List ℕ) (off len : ℕ) → x ≡ step.Show a b off len → ⊥)
    → ((a b : List ℕ) (off : ℕ) (hex : Hex) → x ≡ step.Fill a b off hex → ⊥)
    → ((a b c : List ℕ) (len : ℕ) → x ≡ step.Copy a b c len → ⊥)
    → ((a b : List ℕ) → x ≡ step.Free a b → ⊥)
    → ((a v : List ℕ) (size : ℕ) → x ≡ step.Vsic a v size → ⊥)
    → ((a v : List ℕ) (rx tx : ℕ) → x ≡ step.Vnic a v rx tx → ⊥)
    → ((a v s : List ℕ) → x ≡ step.Bind a v s → ⊥)
    → ((a v s : List ℕ) → x ≡ step.Unbind a v s → ⊥)
    → ((a v s : List ℕ) (off count : ℕ) (b : List ℕ) → x ≡ step.Get a v s off count b → ⊥)
    → ((a v s : List ℕ) (off count : ℕ) (b : List ℕ) → x ≡ step.Put a v s off count b → ⊥)
    → ((a v : List ℕ) → x ≡ step.Flush a v → ⊥)
    → ((a v : List ℕ) → x ≡ step.Reap a v → ⊥)
    → ((a v b : List ℕ) → x ≡ step.Post a v b → ⊥)
    → ((a v : List ℕ) (d : Direction) → x ≡ step.Take a v d → ⊥)
    → ((a v : List ℕ) → x ≡ step.Dev a v → ⊥)
    → ((a d : List ℕ) → x ≡ step.Door a d → ⊥)
    → ((a v : List ℕ) (d : Option (List ℕ)) (q : Side) → x ≡ step.Watch a v d q → ⊥)
    → ((a d : List ℕ) → x ≡ step.Look a d → ⊥)
    → ((a r : List ℕ) (q b : ℕ) → x ≡ step.Rate a r q b → ⊥)
    → ((a v : List ℕ) (r : Option (List ℕ)) (q : Side) → x ≡ step.Pace a v r q → ⊥)
    → ⊥
no_other (step.Peek a s off) own no_peek no_poke no_buf no_show no_fill no_copy no_free no_vsic no_vnic no_bind no_unbind no_get no_put no_flush no_reap no_post no_take no_dev no_door no_watch no_look no_rate no_pace = no_peek a s off refl
no_other (step.Poke a s off hex) own no_peek no_poke no_buf no_show no_fill no_copy no_free no_vsic no_vnic no_bind no_unbind no_get no_put no_flush no_reap no_post no_take no_dev no_door no_watch no_look no_rate no_pace = no_poke a s off hex refl
no_other (step.Buf a b len) own no_peek no_poke no_buf no_show no_fill no_copy no_free no_vsic no_vnic no_bind no_unbind no_get no_put no_flush no_reap no_post no_take no_dev no_door no_watch no_look no_rate no_pace = no_buf a b len refl
no_other (step.Show a b off len) own no_peek no_poke no_buf no_show no_fill no_copy no_free no_vsic no_vnic no_bind no_unbind no_get no_put no_flush no_reap no_post no_take no_dev no_door no_watch no_look no_rate no_pace = no_show a b off len refl
no_other (step.Fill a b off hex) own no_peek no_poke no_buf no_show no_fill no_copy no_free no_vsic no_vnic no_bind no_unbind no_get no_put no_flush no_reap no_post no_take no_dev no_door no_watch no_look no_rate no_pace = no_fill a b off hex refl
no_other (step.Copy a b c len) own no_peek no_poke no_buf no_show no_fill no_copy no_free no_vsic no_vnic no_bind no_unbind no_get no_put no_flush no_reap no_post no_take no_dev no_door no_watch no_look no_rate no_pace = no_copy a b c len refl
no_other (step.Free a b) own no_peek no_poke no_buf no_show no_fill no_copy no_free no_vsic no_vnic no_bind no_unbind no_get no_put no_flush no_reap no_post no_take no_dev no_door no_watch no_look no_rate no_pace = no_free a b refl
no_other (step.Vsic a v size) own no_peek no_poke no_buf no_show no_fill no_copy no_free no_vsic no_vnic no_bind no_unbind no_get no_put no_flush no_reap no_post no_take no_dev no_door no_watch no_look no_rate no_pace = no_vsic a v size refl
no_other (step.Vnic a v rx tx) own no_peek no_poke no_buf no_show no_fill no_copy no_free no_vsic no_vnic no_bind no_unbind no_get no_put no_flush no_reap no_post no_take no_dev no_door no_watch no_look no_rate no_pace = no_vnic a v rx tx refl
no_other (step.Bind a v s) own no_peek no_poke no_buf no_show no_fill no_copy no_free no_vsic no_vnic no_bind no_unbind no_get no_put no_flush no_reap no_post no_take no_dev no_door no_watch no_look no_rate no_pace = no_bind a v s refl
no_other (step.Unbind a v s) own no_peek no_poke no_buf no_show no_fill no_copy no_free no_vsic no_vnic no_bind no_unbind no_get no_put no_flush no_reap no_post no_take no_dev no_door no_watch no_look no_rate no_pace = no_unbind a v s refl
no_other (step.Get a v s off count b) own no_peek no_poke no_buf no_show no_fill no_copy no_free no_vsic no_vnic no_bind no_unbind no_get no_put no_flush no_reap no_post no_take no_dev no_door no_watch no_look no_rate no_pace = no_get a v s off count b refl
no_other (step.Put a v s off count b) own no_peek no_poke no_buf no_show no_fill no_copy no_free no_vsic no_vnic no_bind no_unbind no_get no_put no_flush no_reap no_post no_take no_dev no_door no_watch no_look no_rate no_pace = no_put a v s off count b refl
no_other (step.Flush a v) own no_peek no_poke no_buf no_show no_fill no_copy no_free no_vsic no_vnic no_bind no_unbind no_get no_put no_flush no_reap no_post no_take no_dev no_door no_watch no_look no_rate no_pace = no_flush a v refl
no_other (step.Reap a v) own no_peek no_poke no_buf no_show no_fill no_copy no_free no_vsic no_vnic no_bind no_unbind no_get no_put no_flush no_reap no_post no_take no_dev no_door no_watch no_look no_rate no_pace = no_reap a v refl
no_other (step.Post a v b) own no_peek no_poke no_buf no_show no_fill no_copy no_free no_vsic no_vnic no_bind no_unbind no_get no_put no_flush no_reap no_post no_take no_dev no_door no_watch no_look no_rate no_pace = no_post a v b refl
no_other (step.Take a v d) own no_peek no_poke no_buf no_show no_fill no_copy no_free no_vsic no_vnic no_bind no_unbind no_get no_put no_flush no_reap no_post no_take no_dev no_door no_watch no_look no_rate no_pace = no_take a v d refl
no_other (step.Dev a v) own no_peek no_poke no_buf no_show no_fill no_copy no_free no_vsic no_vnic no_bind no_unbind no_get no_put no_flush no_reap no_post no_take no_dev no_door no_watch no_look no_rate no_pace = no_dev a v refl
no_other (step.Door a d) own no_peek no_poke no_buf no_show no_fill no_copy no_free no_vsic no_vnic no_bind no_unbind no_get no_put no_flush no_reap no_post no_take no_dev no_door no_watch no_look no_rate no_pace = no_door a d refl
no_other (step.Watch a v d q) own no_peek no_poke no_buf no_show no_fill no_copy no_free no_vsic no_vnic no_bind no_unbind no_get no_put no_flush no_reap no_post no_take no_dev no_door no_watch no_look no_rate no_pace = no_watch a v d q refl
no_other (step.Look a d) own no_peek no_poke no_buf no_show no_fill no_copy no_free no_vsic no_vnic no_bind no_unbind no_get no_put no_flush no_reap no_post no_take no_dev no_door no_watch no_look no_rate no_pace = no_look a d refl
no_other (step.Rate a r q b) own no_peek no_poke no_buf no_show no_fill no_copy no_free no_vsic no_vnic no_bind no_unbind no_get no_put no_flush no_reap no_post no_take no_dev no_door no_watch no_look no_rate no_pace = no_rate a r q b refl
no_other (step.Pace a v r q) own no_peek no_poke no_buf no_show no_fill no_copy no_free no_vsic no_vnic no_bind no_unbind no_get no_put no_flush no_reap no_post no_take no_dev no_door no_watch no_look no_rate no_pace = no_pace a v r q refl
no_other _ own no_peek no_poke no_buf no_show no_fill no_copy no_free no_vsic no_vnic no_bind no_unbind no_get no_put no_flush no_reap no_post no_take no_dev no_door no_watch no_look no_rate no_pace = false≢true own

-- a step of another word than these two shows no bytes
pub shows_none : (x : Step)
    → ((a s : List ℕ) (off : ℕ) → x ≡ step.Peek a s off → ⊥)
    → ((a b : List ℕ) (off len : ℕ) → x ≡ step.Show a b off len → ⊥)
    → shows_bytes (line_of x) ≡ false
shows_none (step.Peek a s off) no_peek no_show = absurd (no_peek a s off refl)
shows_none (step.Show a b off len) no_peek no_show = absurd (no_show a b off len refl)
shows_none _ no_peek no_show = refl
