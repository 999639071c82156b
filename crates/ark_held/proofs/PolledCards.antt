-- The cards of an application, one of whose logs is polled.
use Rattle.std.proofs.Common.{◌≡◌, ℕ, ◌≤◌, ◌<◌, Bool, true, List, length, set, refl, sym, ◌∙◌, ap, subst}
use Rattle.std.specs.Prelude.{MatchOption, Option, Some, None, IfSome, IsSome, is_some, slice_get}
use Rattle.std.proofs.Math.Bool.{Bool-set}
use Rattle.std.proofs.Math.Bridge.{le_prop}
use Rattle.std.proofs.Math.Logic.{∥∥₁_elim, ∥∥₁_map, ∥∥₁_prop}
use Rattle.std.proofs.Math.Nat.{ℕ_set}
use Rattle.ark_objects.specs.Held.{at, Changes}
use Rattle.ark_region.specs.Frames.{Piece, Space}
use Rattle.ark_vic.specs.Queue.{Queue, members}
use Rattle.ark_vic.specs.declared.descriptor.Completion.{Completion}
use Rattle.ark_log.specs.declared.command.Command.{Command}
use Rattle.ark_log.specs.declared.command.Command.TheVariants.{Append, Trim, Pop}
use Rattle.ark_log.specs.declared.polling.Polled.{Polled}
use Rattle.ark_log.specs.declared.polling.Polled.TheVariants.{Nothing, Posted, Acked, Fault}
use Rattle.ark_log.specs.declared.stage.Stage.{Stage}
use Rattle.ark_log.specs.declared.stage.Stage.TheVariants.{Load, Draft, Mark, Header, Clear, Flush}
use Rattle.ark_log.specs.Closed.{HasBuffersIn}
use Rattle.ark_log.specs.Open.{IsRight, OpenChain}
use Rattle.ark_log.specs.Polled.{Around, HasPolled, MayEnd, stage_of}
use Rattle.ark_log.specs.Stages.{HasEntryBuffer, IsOfStage, IsWhole, stage_with}
use Rattle.ark_held.specs.Bound.{AreBound}
use Rattle.ark_held.specs.Closing.{IsOpenAt, OfLogAt}
use Rattle.ark_held.specs.LogBuffers.{AllLie, LiesIn}
use Rattle.ark_held.specs.LogRings.{AreLogRings, IsLogRing}
use Rattle.ark_held.specs.Polling.{HasPolledOn, IsShortIfAcked, with_polled}
use Rattle.ark_held.specs.Rings.{AreSound}
use Rattle.ark_held.specs.Words.{AreaList}
use Rattle.ark_held.specs.declared.card.StorageCard.{StorageCard}
use Rattle.ark_held.proofs.Bindings.{bound_same}
use Rattle.ark_held.proofs.CardLogs.{lies_plain, log_set}
use Rattle.ark_held.proofs.Commands.{of_log}
use Rattle.ark_held.proofs.Keyed.{changes_set}
use Rattle.ark_held.proofs.Lists.{some_same}
use Rattle.ark_held.proofs.LogRings.{rings_changed}
use Rattle.ark_held.proofs.PolledRings.{IsKept, polled_kept, polled_long, polled_short, polled_size}
use Rattle.ark_held.proofs.Sounder.{both_plain}
use Rattle.ark_held.proofs.Sounding.{sound_set}

-- What a poll asks is a plain fact.

at_plain : (start len : ℕ) (b : Option Piece) → IsProp (IfSome b (λ p. (p.start ≡ start) × (p.len ≡ len)))
at_plain start len None = λ x y. refl
at_plain start len (Some p) = both_plain (ℕ_set p.start start) (ℕ_set p.len len)

of_stage_plain : (v : OpenChain) (s : Stage) (b : Option Piece) → IsProp (IsOfStage v s b)
of_stage_plain v Load b = at_plain _ _ b
of_stage_plain v Draft b = at_plain _ _ b
of_stage_plain v Mark b = at_plain _ _ b
of_stage_plain v Header b = at_plain _ _ b
of_stage_plain v Clear b = λ x y. refl
of_stage_plain v Flush b = λ x y. refl

entry_plain : (c : Command) (b : Option Piece) → IsProp (HasEntryBuffer c b)
entry_plain (Append n) b = Bool-set (is_some b) true
entry_plain (Trim n) b = λ x y. refl
entry_plain (Pop n) b = Bool-set (is_some b) true

whole_plain : (v : OpenChain) → IsProp (IsWhole v)
whole_plain v x y = λ i. record {
  header = Bool-set (is_some v.header) true x.header y.header i;
  entries = λ k d less. entry_plain _ _ (x.entries k d less) (y.entries k d less) i;
}

-- a stage that may end with a buffer, by the stage
abbrev EndsBy : List Bool → OpenChain → Option Piece → Option Stage → Type 0
EndsBy taken v b o = MatchOption o ⊥ (λ s. IsOfStage v s b × (IsWhole (stage_with v s b) × HasBuffersIn taken (stage_with v s b)))

ends_plain : (taken : List Bool) (v : OpenChain) (b : Option Piece) (o : Option Stage) → IsProp (EndsBy taken v b o)
ends_plain taken v b None = λ x y. absurd x
ends_plain taken v b (Some s) = both_plain (of_stage_plain v s b) (both_plain (whole_plain (stage_with v s b)) (lies_plain taken (stage_with v s b)))

ends_by : (taken : List Bool) (v : OpenChain) (b : Option Piece) → MayEnd v taken b → EndsBy taken v b (stage_of v)
ends_by taken v b may = subst (EndsBy taken v b) (sym may.is) (may.its, (may.whole, may.lies))

may_by : (taken : List Bool) (v : OpenChain) (b : Option Piece) (o : Option Stage) → stage_of v ≡ o → EndsBy taken v b o → MayEnd v taken b
may_by taken v b None is ends = absurd ends
may_by taken v b (Some s) is ends = record { stage = s; is = is; its = ends.0; whole = ends.1.0; lies = ends.1.1 }

-- The ring of the card on which a log is open.
module _ (frames : ℕ) (cards : List (Option StorageCard)) (key : ℕ) (one : StorageCard) (v : OpenChain) (logs : ∥ AreLogRings frames cards ∥₁) (there : at cards key ≡ Some one) (log : one.log ≡ Some v) where
  pub its_ring : (taken : List Bool) → frames ≡ length taken → AreLogRings frames cards → IsLogRing taken v one.vsic.ring
  its_ring taken size all = subst (λ (o : Option OpenChain). IfSome o (λ u. IsLogRing taken u one.vsic.ring)) log ((all key one there).1 taken (sym size))

  pub has_room : 0 < one.vsic.ring.size
  has_room = ∥∥₁_elim logs le_prop (λ all. (all key one there).0)

  module _ (taken : List Bool) (size : frames ≡ length taken) where
    pub is_alone : members one.vsic.ring ≤ 1
    is_alone = ∥∥₁_elim logs le_prop (λ all. (its_ring taken size all).alone)

    pub is_whole : members one.vsic.ring ≡ 0 → IsWhole v
    is_whole none = ∥∥₁_elim logs (whole_plain v) (λ all. (its_ring taken size all).whole none)

    pub may_end : (c : Completion) → slice_get one.vsic.ring.unreaped 0 ≡ Some c → MayEnd v taken c.buf
    may_end c first = may_by taken v c.buf (stage_of v) refl (∥∥₁_elim logs (ends_plain taken v c.buf (stage_of v)) (λ all. ends_by taken v c.buf ((its_ring taken size all).unreaped c first).ends))

short_plain : (result : Polled) → IsProp (IsShortIfAcked result)
short_plain (Acked c len) = le_prop
short_plain Nothing = λ x y. refl
short_plain Posted = λ x y. refl
short_plain (Fault o) = λ x y. refl

-- a poll of the ring that the card has
pub its_poll : (v : OpenChain) (was ring : Queue) → was ≡ ring → (space : Space) (given : List ℕ) (new : Around) (result : Polled) → HasPolled (record { chain = v; ring = was; space = space; out = given }) new result → HasPolled (record { chain = v; ring = ring; space = space; out = given }) new result
its_poll v was ring same space given new result polled = subst (λ (q : Queue). HasPolled (record { chain = v; ring = q; space = space; out = given }) new result) same polled

-- One card changes as a poll of its log says.
module _ (frames : ℕ) (before after : List (Option StorageCard)) (key : ℕ) (one : StorageCard) (v w : OpenChain) (ring : Queue) (old_space new_space : Space) (given out : List ℕ) (result : Polled)
    (sound : ∥ AreSound frames before ∥₁) (lie : ∥ AllLie frames before ∥₁) (logs : ∥ AreLogRings frames before ∥₁) (there : at before key ≡ Some one) (log : one.log ≡ Some v) (right : IsRight v)
    (polled : HasPolled (record { chain = v; ring = one.vsic.ring; space = old_space; out = given }) (record { chain = w; ring = ring; space = new_space; out = out }) result) where
  abbrev old : Around
  old = record { chain = v; ring = one.vsic.ring; space = old_space; out = given }

  abbrev new : Around
  new = record { chain = w; ring = ring; space = new_space; out = out }

  kept : (taken : List Bool) → frames ≡ length taken → AreSound frames before → AllLie frames before → AreLogRings frames before → IsKept taken w ring
  kept taken size s l g =
      polled_kept taken old new result right (its_ring frames before key one v logs there log taken size g) (subst (λ (o : Option OpenChain). IfSome o (HasBuffersIn taken)) log (l key one there taken (sym size))) (s taken (sym size) key one there) polled

  abbrev AllOf : Type 0 → Type 0
  AllOf P = AreSound frames before → AllLie frames before → AreLogRings frames before → P

  all_of : (P : Type 0) → AllOf P → ∥ P ∥₁
  all_of P by = ∥∥₁_elim sound ∥∥₁_prop (λ s. ∥∥₁_elim lie ∥∥₁_prop (λ l. ∥∥₁_map logs (λ g. by s l g)))

  pub still_long : frames ≡ length old_space.taken → length new_space.taken ≡ length old_space.taken
  still_long size = ∥∥₁_elim (all_of (length new_space.taken ≡ length old_space.taken) (λ s l g.
      polled_long old_space.taken old new result right (its_ring frames before key one v logs there log old_space.taken size g)
      (subst (λ (o : Option OpenChain). IfSome o (HasBuffersIn old_space.taken)) log (l key one there old_space.taken (sym size))) (s old_space.taken (sym size) key one there) refl polled)) (ℕ_set (length new_space.taken) (length old_space.taken)) (λ e. e)

  pub still_short : frames ≡ length old_space.taken → IsShortIfAcked result
  still_short size = ∥∥₁_elim (all_of (IsShortIfAcked result) (λ s l g.
      polled_short old_space.taken old new result right (its_ring frames before key one v logs there log old_space.taken size g)
      (subst (λ (o : Option OpenChain). IfSome o (HasBuffersIn old_space.taken)) log (l key one there old_space.taken (sym size))) (s old_space.taken (sym size) key one there) polled)) (short_plain result) (λ e. e)

  module _ (changes : Changes before after key (Some (with_polled ring w one))) where
    pub still_sound : ∥ AreSound frames after ∥₁
    still_sound = all_of (AreSound frames after) (λ s l g. sound_set frames before after key (with_polled ring w one) changes (λ taken long. (kept taken (sym long) s l g).sound) s)

    pub still_lie : ∥ AllLie frames after ∥₁
    still_lie = all_of (AllLie frames after) (λ s l g. log_set (LiesIn frames) before after key (with_polled ring w one) changes (λ taken long. (kept taken (sym long) s l g).lies) l)

    pub still_logs : ∥ AreLogRings frames after ∥₁
    still_logs = all_of (AreLogRings frames after) (λ s l g.
        rings_changed frames before after key one (with_polled ring w one) there changes (polled_size old new result polled) (λ taken long. (kept taken (sym long) s l g).ring) g)

  pub polled_on : IsRight w → OfLogAt before key (λ z u. HasPolledOn before (set before key (Some (with_polled ring w one))) key z u old_space new_space given out result)
  polled_on then = of_log before key one v there log (λ z u. HasPolledOn before (set before key (Some (with_polled ring w one))) key z u old_space new_space given out result)
      (record { ring = ring; log = w; right = then; card = changes_set before key one (with_polled ring w one) there; polled = polled })

-- The areas that are bound to the cards stay.
pub polled_bound : (areas : AreaList) (before after : List (Option StorageCard)) (key : ℕ) → ∥ AreBound areas before ∥₁ → IsOpenAt before key → (was then : Space) (given out : List ℕ) (result : Polled) → OfLogAt before key (λ one v. HasPolledOn before after key one v was then given out result) → ∥ AreBound areas after ∥₁
polled_bound areas before after key all on was then given out result polled = let its = polled on.one on.chain on.there on.log in bound_same areas before after key all on.one on.there (with_polled its.ring its.log on.one) its.card refl
