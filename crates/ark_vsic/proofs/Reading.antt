-- What a read leaves of a region.
use Rattle.std.proofs.Common.{◌≡◌, ℕ, ◌+◌, ◌-◌, ◌*◌, ◌≤◌, ◌<◌, Bool, List, ◌++◌, length, take, drop, Option, Some, Result, Ok, Err, sym, ap, subst, ◌∙◌, arith, slice_range}
use Rattle.std.specs.Prelude.{is_ok, OnOk, OnErr, MatchOption}
use Rattle.std.proofs.lemmas.List.{take-append-drop}
use Rattle.std.proofs.Math.Seq.{take-append_seam}
use Rattle.ark_media.specs.Journal.{History}
use Rattle.ark_media.specs.Calls.{GivesBlock}
use Rattle.ark_region.specs.Frames.{Piece, Space, LiesInRegion, Wrote, bytes_of, fitted, written}
use Rattle.ark_region.proofs.Putting.{part_of}
use Rattle.ark_vic.specs.declared.descriptor.Descriptor.{Descriptor}
use Rattle.ark_vic.specs.declared.descriptor.Job.TheVariants as job
use Rattle.ark_vsic.specs.Moves.{Got, LeavesBlock, CanMove, IsSoundBy}

module _ {X : Type 0} where
  -- a part that is written back as it was leaves all as it was
  same_part : (xs ys : List X) (i n : ℕ) → ys ≡ take n (drop i xs) → length ys ≡ n → written xs i ys ≡ xs
  same_part xs ys i n is long =
      ap (λ zs. fitted xs zs)
      (ap (λ k. take i xs ++ (ys ++ drop k (drop i xs))) long ∙ ap (λ zs. take i xs ++ (zs ++ drop n (drop i xs))) is
      ∙ ap (λ zs. take i xs ++ zs) (take-append-drop n (drop i xs)) ∙ take-append-drop i xs)
      ∙ take-append_seam xs (drop (length xs) xs)

-- a descriptor that reads has room for the block that is due
room : (d : Descriptor) (b : Piece) (taken : List Bool) (k : ℕ) → d.job ≡ job.Read → d.buf ≡ Some b → CanMove taken k d → d.from + 512 * k + 512 ≤ b.len
room d b taken k reads is sound =
    let s : (k < d.count) × MatchOption d.buf ⊥ (λ x. LiesInRegion taken x × (d.from + 512 * d.count ≤ x.len)) = subst (λ j. IsSoundBy j taken d k) reads sound in
    let r : LiesInRegion taken b × (d.from + 512 * d.count ≤ b.len) = subst (λ o. MatchOption o ⊥ (λ x. LiesInRegion taken x × (d.from + 512 * d.count ≤ x.len))) is s.1 in
    let below = s.0 in let within = r.1 in omega (arith, below, within)

module _ (old : Space) (b : Piece) (at n : ℕ) (after : Option History) (before out : List ℕ) where
  abbrev pub new : Space
  new = record { taken = old.taken; bytes = written old.bytes (512 * b.start + at) out }

  unread : at + 512 ≤ b.len → before ≡ slice_range (bytes_of old b) at (at + 512) → length before ≡ 512 → out ≡ before → new ≡ old
  unread within is long same =
      let s = 512 * b.start in
      let e : (s + (at + 512)) - (s + at) ≡ 512 = omega arith in
      let le : at ≤ at + 512 = omega arith in
      let part : out ≡ take 512 (drop (s + at) old.bytes) = same ∙ is ∙ sym (part_of old.bytes s b.len at (at + 512) le within) ∙ ap (λ m. take m (drop (s + at) old.bytes)) e in
      ap (λ zs. record { taken = old.taken; bytes = zs }) (same_part old.bytes out (s + at) 512 part (ap length same ∙ long))

  by_result : {E : Type 0} (r : Result (Unit {0}) E) (ok : Bool) → ok ≡ is_ok r → OnOk r (Got after n b at old new) → OnErr r (new ≡ old) → LeavesBlock job.Read ok (Some b) at after n old new
  by_result (Ok x) ok is got same = subst (λ o. LeavesBlock job.Read o (Some b) at after n old new) (sym is) got
  by_result (Err e) ok is got same = subst (λ o. LeavesBlock job.Read o (Some b) at after n old new) (sym is) same

  got_by : {E : Type 0} (r : Result (Unit {0}) E) → length out ≡ 512 → Wrote old new b at out → OnOk r (GivesBlock after n out) → OnOk r (Got after n b at old new)
  got_by (Ok x) long wrote honest = record { bytes = out; whole = long; honest = honest; wrote = wrote }
  got_by (Err e) long wrote honest = tt

  same_by : {E : Type 0} (r : Result (Unit {0}) E) → (out ≡ before → new ≡ old) → OnErr r (out ≡ before) → OnErr r (new ≡ old)
  same_by (Ok x) f same = tt
  same_by (Err e) f same = f same

-- what is left by a read into the part of a buffer that was lent
pub left_by_read : {E : Type 0} (old : Space) (d : Descriptor) (k n : ℕ) (after : Option History) (b : Piece) (before out : List ℕ) (r : Result (Unit {0}) E) (ok : Bool)
    → d.job ≡ job.Read → d.buf ≡ Some b → CanMove old.taken k d → ok ≡ is_ok r
    → before ≡ slice_range (bytes_of old b) (d.from + 512 * k) (d.from + 512 * k + 512) → length before ≡ 512 → length out ≡ 512
    → Wrote old (new old b (d.from + 512 * k) n after before out) b (d.from + 512 * k) out → OnOk r (GivesBlock after n out) → OnErr r (out ≡ before)
    → LeavesBlock d.job ok d.buf (d.from + 512 * k) after n old (new old b (d.from + 512 * k) n after before out)
left_by_read old d k n after b before out r ok reads is sound tells lent long size wrote honest same =
    let at = d.from + 512 * k in
    let last = new old b at n after before out in
    let got = got_by old b at n after before out r size wrote honest in
    let kept = same_by old b at n after before out r (unread old b at n after before out (room d b old.taken k reads is sound) lent long) same in
    subst (λ j. LeavesBlock j ok d.buf at after n old last) (sym reads) (subst (λ o. LeavesBlock job.Read ok o at after n old last) (sym is) (by_result old b at n after before out r ok tells got kept))
