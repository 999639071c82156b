-- A log whose descriptor has ended, and what its descriptors may end with.
use Rattle.std.proofs.Common.{◌≡◌, ◌+◌, ◌*◌, ◌<◌, List, [], ◌∷◌, length, Bool, Option, Some, None, refl, sym, ap, ◌∙◌, subst, arith}
use Rattle.std.specs.Prelude.{IfSome, slice_get}
use Rattle.std.proofs.Math.Path.{transport}
use Rattle.ark_region.specs.Frames.{Piece}
use Rattle.ark_entry.specs.Entry.{entry_blocks}
use Rattle.ark_log.specs.declared.command.Waiting.{Waiting}
use Rattle.ark_log.specs.declared.stage.Stage.{Stage}
use Rattle.ark_log.specs.declared.stage.Stage.TheVariants.{Load, Draft, Mark, Header, Clear, Flush}
use Rattle.ark_log.specs.Open.{OpenChain, IsRight}
use Rattle.ark_log.specs.Closed.{HasBuffersIn}
use Rattle.ark_log.specs.Stages.{IsOfStage, IsWhole, entry_with, first_with, oldest, oldest_in, posting_of, stage_with, stages_of}
use Rattle.ark_log.specs.Polled.{MayEnd, ended, returned_at, stage_of}
use Rattle.ark_log.proofs.Lent.{oldest_has}

pub ended_whole : (v : OpenChain) (taken : List Bool) (buf : Option Piece) → MayEnd v taken buf → IsWhole (ended v buf)
ended_whole v taken buf may = subst (λ o. IsWhole (record (returned_at v o buf) { done = v.done + 1 })) (sym may.is) (record { header = may.whole.header; entries = may.whole.entries })

pub ended_lies : (v : OpenChain) (taken : List Bool) (buf : Option Piece) → MayEnd v taken buf → HasBuffersIn taken (ended v buf)
ended_lies v taken buf may = subst (λ o. HasBuffersIn taken (record (returned_at v o buf) { done = v.done + 1 })) (sym may.is) (record { header = may.lies.header; waiting = may.lies.waiting })

-- A buffer that is lent to a descriptor and taken back is where it was.
pub lent_back : (v : OpenChain) (stage : Stage) → 0 < length v.waiting → stage_with (stage_with v stage None) stage (posting_of v stage).buf ≡ v
lent_back v stage some = by stage v.waiting refl some
  where
    first_back : (ws : List Waiting) → 0 < length ws → first_with (oldest_in ws).buf (first_with None ws) ≡ ws
    first_back [] less = absurd (omega (arith, less))
    first_back (w ∷ ws) less = refl

    entry_back : 0 < length v.waiting → entry_with (oldest v).buf (entry_with None v) ≡ v
    entry_back less = ap (λ ws. record v { waiting = ws }) (first_back v.waiting less)

    by : (stage : Stage) (ws : List Waiting) → v.waiting ≡ ws → 0 < length v.waiting → stage_with (stage_with v stage None) stage (posting_of v stage).buf ≡ v
    by Load ws is less = entry_back less
    by Draft ws is less = entry_back less
    by Mark ws is less = entry_back less
    by Header ws is less = refl
    by Clear ws is less = refl
    by Flush ws is less = refl

pub same_oldest : (ws : List Waiting) → ((oldest_in (first_with None ws)).command ≡ (oldest_in ws).command) × ((oldest_in (first_with None ws)).start ≡ (oldest_in ws).start) × ((oldest_in (first_with None ws)).len ≡ (oldest_in ws).len)
same_oldest [] = (refl, refl, refl)
same_oldest (w ∷ ws) = (refl, refl, refl)

pub same_command : (v : OpenChain) (stage : Stage) → stage_of (stage_with v stage None) ≡ stage_of v
same_command v Load = ap (λ c. slice_get (stages_of c) v.done) (same_oldest v.waiting).0
same_command v Draft = ap (λ c. slice_get (stages_of c) v.done) (same_oldest v.waiting).0
same_command v Mark = ap (λ c. slice_get (stages_of c) v.done) (same_oldest v.waiting).0
same_command v Header = refl
same_command v Clear = refl
same_command v Flush = refl

own_buffer : (v : OpenChain) → IsRight v → 0 < length v.waiting → IfSome (oldest v).buf (λ b. (b.start ≡ (oldest (entry_with None v)).start) × (b.len ≡ 512 * entry_blocks (oldest (entry_with None v)).len))
own_buffer v right some =
    let same = same_oldest v.waiting in
    transport (λ i. IfSome (oldest v).buf (λ b. (b.start ≡ sym same.1 i) × (b.len ≡ 512 * entry_blocks (sym same.2 i)))) (oldest_has v right some).1

pub its_buffer : (v : OpenChain) (stage : Stage) → IsRight v → 0 < length v.waiting → IsOfStage (stage_with v stage None) stage (posting_of v stage).buf
its_buffer v Load right some = own_buffer v right some
its_buffer v Draft right some = own_buffer v right some
its_buffer v Mark right some = own_buffer v right some
its_buffer v Header right some = right.header_is
its_buffer v Clear right some = tt
its_buffer v Flush right some = tt

-- The descriptor that a poll posted may end with the buffer that it has.
pub posted_ends : (v : OpenChain) (stage : Stage) (taken : List Bool) → IsRight v → 0 < length v.waiting → stage_of v ≡ Some stage → IsWhole v → HasBuffersIn taken v → MayEnd (stage_with v stage None) taken (posting_of v stage).buf
posted_ends v stage taken right some is whole lies = record {
  stage = stage;
  is = same_command v stage ∙ is;
  its = its_buffer v stage right some;
  whole = subst IsWhole (sym (lent_back v stage some)) whole;
  lies = subst (HasBuffersIn taken) (sym (lent_back v stage some)) lies;
}
