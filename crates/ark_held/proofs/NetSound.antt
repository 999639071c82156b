-- Network cards whose descriptors have their buffers in the memory.
use Rattle.std.proofs.Common.{◌≡◌, ℕ, Bool, List, [], ◌∷◌, ◌++◌, length, drop, refl, sym, ◌∙◌, ap, subst}
use Rattle.std.specs.Prelude.{Option, Some, None, IfSome, MatchOption, slice_get}
use Rattle.std.specs.List.{AllByRecursion}
use Rattle.std.proofs.Math.Bridge.{le_prop}
use Rattle.std.proofs.Math.Logic.{∥∥₁_elim}
use Rattle.ark_base.specs.declared.kind.Outcome.{Outcome}
use Rattle.ark_base.specs.declared.kind.Outcome.TheVariants as outcome
use Rattle.ark_objects.specs.Held.{at, Changes}
use Rattle.ark_region.specs.Frames.{Piece, LiesInRegion}
use Rattle.ark_vic.specs.Queue.{Queue}
use Rattle.ark_vic.specs.declared.descriptor.Descriptor.{Descriptor}
use Rattle.ark_vnic.specs.Arrivals.{HasBuffer, after_arrival}
use Rattle.ark_vnic.specs.Card.{NetCard, ended, head_of}
use Rattle.ark_vnic.specs.Sending.{HasFrame}
use Rattle.ark_vnic.specs.declared.arrived.Arrived.{Arrived}
use Rattle.ark_vnic.specs.declared.arrived.Arrived.TheVariants as arrived
use Rattle.ark_held.specs.Nets.{AreSoundNets, IsSoundNet}
use Rattle.ark_held.specs.declared.network_card.NetworkCard.{NetworkCard}
use Rattle.ark_held.proofs.CardLogs.{card_less, card_set, no_card}

-- Lists of which all is so.

pub all_last : {X : Type 0} (P : X → Type 0) (xs : List X) (x : X) → AllByRecursion P xs → P x → AllByRecursion P (xs ++ x ∷ [])
all_last P [] x all its = (its, tt)
all_last P (y ∷ ys) x all its = (all.0, all_last P ys x all.1 its)

pub all_rest : {X : Type 0} (P : X → Type 0) (xs : List X) → AllByRecursion P xs → AllByRecursion P (drop 1 xs)
all_rest P [] all = tt
all_rest P (y ∷ ys) all = all.1

all_first : {X : Type 0} (P : X → Type 0) (xs : List X) → AllByRecursion P xs → IfSome (slice_get xs 0) P
all_first P [] all = tt
all_first P (y ∷ ys) all = all.0

-- of a ring whose oldest descriptor has ended
pub all_ended : (P : Descriptor → Type 0) (q : Queue) (head : Option Descriptor) (o : Outcome) (len : ℕ) → AllByRecursion P q.posted → AllByRecursion P (ended q head o len).posted
all_ended P q None o len all = all
all_ended P q (Some d) o len all = all_rest P q.posted all

-- The cards.

module _ (frames : ℕ) where
  abbrev IsSound : NetworkCard → Type 0
  IsSound c = IsSoundNet frames c.vnic

  pub net_set : (before after : List (Option NetworkCard)) (key : ℕ) (one : NetworkCard) → Changes before after key (Some one) → IsSoundNet frames one.vnic → AreSoundNets frames before → AreSoundNets frames after
  net_set before after key one changes its all = card_set IsSound before after key one changes its all

  pub net_less : (before after : List (Option NetworkCard)) (key : ℕ) → Changes before after key None → AreSoundNets frames before → AreSoundNets frames after
  net_less before after key changes all = card_less IsSound before after key changes all

  pub no_nets : (nets : List (Option NetworkCard)) → ((key : ℕ) → at nets key ≡ None) → AreSoundNets frames nets
  no_nets nets vacant = no_card IsSound nets vacant

  -- a card with nothing posted
  pub sound_new : (v : NetCard) → v.rx.posted ≡ [] → v.tx.posted ≡ [] → IsSoundNet frames v
  sound_new v rx tx = record {
    rx = λ taken long. subst (λ (ds : List Descriptor). AllByRecursion (HasBuffer taken) ds) (sym rx) tt;
    tx = λ taken long. subst (λ (ds : List Descriptor). AllByRecursion (HasFrame taken) ds) (sym tx) tt;
  }

  -- a card with the same posted
  pub sound_same : (v now : NetCard) → now.rx.posted ≡ v.rx.posted → now.tx.posted ≡ v.tx.posted → IsSoundNet frames v → IsSoundNet frames now
  sound_same v now rx tx s = record {
    rx = λ taken long. subst (λ (ds : List Descriptor). AllByRecursion (HasBuffer taken) ds) (sym rx) (s.rx taken long);
    tx = λ taken long. subst (λ (ds : List Descriptor). AllByRecursion (HasFrame taken) ds) (sym tx) (s.tx taken long);
  }

  -- the receive ring has another content, with the same posted
  pub sound_reaped : (v : NetCard) (q now : Queue) → v.rx ≡ q → now ≡ record q { unreaped = drop 1 q.unreaped } → IsSoundNet frames v → IsSoundNet frames (record v { rx = now })
  sound_reaped v q now is rest s = record {
    rx = λ taken long. subst (λ (ds : List Descriptor). AllByRecursion (HasBuffer taken) ds) (ap (λ (z : Queue). z.posted) is ∙ sym (ap (λ (z : Queue). z.posted) rest)) (s.rx taken long);
    tx = s.tx;
  }

  -- a buffer is posted to receive
  pub sound_receiving : (v : NetCard) (q now : Queue) (d : Descriptor) → v.rx ≡ q → now ≡ record q { posted = q.posted ++ d ∷ [] } → ((taken : List Bool) → length taken ≡ frames → HasBuffer taken d) → IsSoundNet frames v → IsSoundNet frames (record v { rx = now })
  sound_receiving v q now d is more has s = record {
    rx = λ taken long. subst (λ (ds : List Descriptor). AllByRecursion (HasBuffer taken) ds) (ap (λ (z : Queue). z.posted ++ d ∷ []) is ∙ sym (ap (λ (z : Queue). z.posted) more)) (all_last (HasBuffer taken) v.rx.posted d (s.rx taken long) (has taken long));
    tx = s.tx;
  }

  -- a frame came
  pub sound_arrived : (v : NetCard) (x : Arrived) (len now : ℕ) → IsSoundNet frames v → IsSoundNet frames (after_arrival v x len now)
  sound_arrived v arrived.Into len now s = record { rx = λ taken long. all_ended (HasBuffer taken) v.rx (head_of v.rx) outcome.Ok len (s.rx taken long); tx = s.tx }
  sound_arrived v arrived.NoBuffer len now s = s
  sound_arrived v arrived.TooLong len now s = s
  sound_arrived v arrived.Throttled len now s = s

-- That a buffer lies in a memory is a plain fact.

piece_plain : (taken : List Bool) (b : Option Piece) → IsProp (MatchOption b ⊥ (LiesInRegion taken))
piece_plain taken None = λ x y. absurd x
piece_plain taken (Some p) = le_prop

head_plain : (taken : List Bool) (o : Option Descriptor) → IsProp (IfSome o (HasBuffer taken))
head_plain taken None = λ x y. refl
head_plain taken (Some d) = piece_plain taken d.buf

-- the buffer of the oldest descriptor that receives lies there
pub head_lies : (frames : ℕ) (nets : List (Option NetworkCard)) (key : ℕ) (one : NetworkCard) (taken : List Bool) → ∥ AreSoundNets frames nets ∥₁ → at nets key ≡ Some one → frames ≡ length taken → IfSome (head_of one.vnic.rx) (HasBuffer taken)
head_lies frames nets key one taken sound there size =
    ∥∥₁_elim sound (head_plain taken (head_of one.vnic.rx)) (λ all. all_first (HasBuffer taken) one.vnic.rx.posted ((all key one there).rx taken (sym size)))
