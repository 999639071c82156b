-- A poll leaves the memory beside the log's buffers as it was.
use Rattle.std.proofs.Common.{◌≡◌, ℕ, inl, inr, ◌<◌, List, [], ◌∷◌, length, Option, Some, None, refl, sym, ap, subst, arith}
use Rattle.std.specs.List.{AllByRecursion}
use Rattle.ark_media.specs.Journal.{History}
use Rattle.ark_region.specs.Frames.{Apart, Piece, ShareNoFrame, Space, bytes_of}
use Rattle.ark_caladan.specs.Chain.{Log, Opened}
use Rattle.ark_caladan.specs.Open.{Layout}
use Rattle.ark_log.specs.declared.command.Waiting.{Waiting}
use Rattle.ark_log.specs.declared.polling.Polled.{Polled}
use Rattle.ark_log.specs.declared.polling.Polled.TheVariants.{Posted}
use Rattle.ark_log.specs.declared.stage.Stage.{Stage}
use Rattle.ark_log.specs.Open.{IsRight, OpenChain}
use Rattle.ark_log.specs.Polled.{Around, GoesOn, HasPolled, ended, reaped, stage_of}
use Rattle.ark_log.specs.Stages.{IsPrepared, IsWhole}
use Rattle.ark_running.specs.Buffers.{pieces_of}
use Rattle.ark_running.specs.Running.{IsRunning}
use Rattle.ark_running.proofs.GoesOn.{right, same_pieces, shape, still_waits, whole}
use Rattle.ark_running.proofs.Prepared as prepared
use Rattle.ark_running.proofs.Proceeding.{free_ring}

-- what a stage leaves of the memory that is prepared
pub record LeavesMemory (v : OpenChain) (before after : Space) : Type 0 where
  pub taken : after.taken ≡ before.taken
  pub beside : (a : Piece) → AllByRecursion (λ b. Apart b a) (pieces_of v) → bytes_of after a ≡ bytes_of before a

prepared_leaves : (v : OpenChain) (before after : Space) → 0 < length v.waiting → IsRight v → IsWhole v → ShareNoFrame (pieces_of v) → (stage : Stage) → stage_of v ≡ Some stage → IsPrepared v stage before after → LeavesMemory v before after
prepared_leaves v before after some = by v.waiting refl
  where
    Leaves : OpenChain → Type 0
    Leaves y = IsRight y → IsWhole y → ShareNoFrame (pieces_of y) → (stage : Stage) → stage_of y ≡ Some stage → IsPrepared y stage before after → LeavesMemory y before after

    by : (xs : List Waiting) → v.waiting ≡ xs → Leaves v
    by [] none = let long : length v.waiting ≡ 0 = ap length none in absurd (omega (arith, long, some))
    by (w ∷ ws) front =
        let is_v : v ≡ record v { waiting = w ∷ ws } = λ k. record v { waiting = front k } in
        subst Leaves (sym is_v) (λ right whole share stage at prep. record {
          taken = prepared.taken_same v w ws before after right whole share stage at prep;
          beside = prepared.beside v w ws before after right whole share stage at prep;
        })

-- the same of a poll
pub record PollLeaves (v : OpenChain) (before after : Space) (result : Polled) : Type 0 where
  pub taken : result ≡ Posted → after.taken ≡ before.taken
  pub beside : (a : Piece) → AllByRecursion (λ b. Apart b a) (pieces_of v) → bytes_of after a ≡ bytes_of before a

goes_leaves : (old new : Around) (result : Polled) → 0 < length old.chain.waiting → IsRight old.chain → IsWhole old.chain → ShareNoFrame (pieces_of old.chain) → (x : Option Stage) → stage_of old.chain ≡ x → GoesOn x old new result
    → PollLeaves old.chain old.space new.space result
goes_leaves old new result some right whole share (Some stage) at is =
    let leaves = prepared_leaves old.chain old.space new.space some right whole share stage at is.space in
    record { taken = λ posted. leaves.taken; beside = leaves.beside }
goes_leaves old new result some right whole share None at is = record {
  taken = λ posted. absurd (cc (posted, is.answer));
  beside = λ a apart. ap (λ s. bytes_of s a) is.space;
}

pub polled_leaves : (h : History) (blocks : List ℕ) (p : Layout) (g : Log) (o : Opened) (old new : Around) (result : Polled) → IsRunning h blocks old.space old.ring old.chain p g o → HasPolled old new result → PollLeaves old.chain old.space new.space result
polled_leaves h blocks p g o old new result runs (inl nothing) = record {
  taken = λ posted. absurd (cc (posted, nothing.answer));
  beside = λ a apart. ap (λ (n : Around). bytes_of n.space a) nothing.same;
}
polled_leaves h blocks p g o old new result runs (inr (inl begun)) =
    let free = free_ring old.chain old.space old.ring.moved old.ring.posted old.ring.unreaped runs.ring begun.posted begun.unreaped in
    goes_leaves old new result begun.some runs.is.right free.1.whole runs.buffers.apart (stage_of old.chain) refl begun.goes
polled_leaves h blocks p g o old new result runs (inr (inr ending)) = elim ending.ends [
  | inl well ↦
      let same = same_pieces h blocks p g o old new result runs ending well in
      let shaped = shape h blocks p g o old new result runs ending well in
      let leaves = goes_leaves (record old { chain = ended old.chain ending.ending.buf; ring = reaped old.ring }) new result (still_waits h blocks p g o old new result runs ending well) (subst IsRight (sym shaped) (right h blocks p g o old new result runs ending well)) (subst IsWhole (sym shaped) (whole h blocks p g o old new result runs ending well))
      (subst ShareNoFrame (sym same) runs.buffers.apart) (stage_of (ended old.chain ending.ending.buf)) refl well.goes in
      record { taken = leaves.taken; beside = λ a apart. leaves.beside a (subst (λ bs. AllByRecursion (λ b. Apart b a) bs) (sym same) apart) }
  | inr badly ↦ record {
    taken = λ posted. absurd (cc (posted, badly.answer));
    beside = λ a apart. ap (λ (n : Around). bytes_of n.space a) badly.failed;
  }
]
