-- A block that a card tried, or a sync: the device, then the card, and then its door.
use Rattle.std.proofs.Common.{◌≡◌, ℕ, ◌+◌, Bool, true, false, not, ◌&&◌, nat_le, nat_lt, List, ◌∷◌, refl, sym, ◌∙◌, ap, subst}
use Rattle.std.specs.Prelude.{if◌then◌else◌, Option, Some, None, option_map}
use Rattle.ark_base.specs.declared.kind.Outcome.{Outcome}
use Rattle.ark_media.specs.Journal.{Event}
use Rattle.ark_media.specs.Standing.{after}
use Rattle.ark_region.specs.Frames.{Space}
use Rattle.ark_caps.specs.declared.capability.Capability.{Capability}
use Rattle.ark_script.specs.declared.said.Said.{Said}
use Rattle.ark_script.specs.declared.said.Said.TheVariants as said
use Rattle.ark_vic.specs.Queue.{Queue, finished}
use Rattle.ark_vic.specs.declared.descriptor.Descriptor.{Descriptor}
use Rattle.ark_vic.specs.declared.door.Counts.{Counts}
use Rattle.ark_vsic.specs.Moves.{answer_tried, ring_after, outcome_of as ending_of}
use Rattle.ark_vsic.specs.declared.due.Moved.{Moved}
use Rattle.ark_vsic.specs.declared.due.Moved.TheVariants as moved
use Rattle.ark_machine.specs.Objects
use Rattle.ark_machine.specs.Objects.{Object, Vsic, Job, Paced}
use Rattle.ark_machine.specs.Machine.{Machine, Held, at, with_object}
use Rattle.ark_machine.specs.Row.{Call}
use Rattle.ark_machine.specs.Moves.{Move, moves, tried, block_moved, outcome_of}
use Rattle.ark_machine.specs.Rates.{passed, may_pass}
use Rattle.ark_held.specs.Around.{Around, Both}
use Rattle.ark_held.specs.Cards.{IsPaced}
use Rattle.ark_held.specs.Kept.{CardKept, PaceKept}
use Rattle.ark_held.specs.Held.{Holds}
use Rattle.ark_held.specs.Moving.{with_pass, said_of}
use Rattle.ark_held.specs.Ringing.{Sets, Rings, RingsAt}
use Rattle.ark_held.proofs.Ending.{OnCard, on_card, moves_on, ends_so}
use Rattle.ark_held.proofs.Carrying.{carried}
use Rattle.ark_held.proofs.MoveRows.{ended_by, goes_on, has_ended, last_is}
use Rattle.ark_held.proofs.Paces.{passed_both}

pub same_outcome : (ok : Bool) → ending_of ok ≡ outcome_of ok
same_outcome true = refl
same_outcome false = refl

-- what is around the application after the device call alone
abbrev pub called : Around → List Event → Machine → Space → Around
called x es m memory = record x { history = after x.history es; machine = m; tables = record x.tables { memory = memory } }

-- what a move that was tried comes to
pub record Tries (x : Around) (tries : Move) (es : List Event) (calls : List Call) (a : Moved) (memory : Space) (cards : ℕ → Option CardKept) (doors : ℕ → Option Counts) : Type 0 where
  pub machine : Machine
  pub said : Said
  pub row : tries ≡ moves machine said calls
  pub same : said_of a ≡ said
  pub holds : Holds (carried x es machine memory cards doors)

module _ (x : Around) (v : List ℕ) (c : Capability) (k : CardKept) (card : Vsic) (on : OnCard x v c k card) (es : List Event) (m : Machine) (memory : Space) (h : Holds (called x es m memory)) (held : Held) (there : at m v ≡ Some held) (object : held.object ≡ Objects.vsic card)
    (cards : ℕ → Option CardKept) (doors : ℕ → Option Counts) (d : Descriptor) (ds : List Descriptor) (j : Job) (js : List Job) (posted : k.ring.posted ≡ d ∷ ds) (jobs : card.queue.posted ≡ j ∷ js) (none : k.log ≡ None) where
  abbrev z : Around
  z = called x es m memory

  pub then_on : OnCard z v c k card
  then_on = on_card z v c k card held h on.named on.kind there object on.was

  ended_is : (o : Outcome) → ring_after k.ring (moved.Done o) ≡ finished k.ring d o 0
  ended_is o = rw posted refl

  -- a descriptor that made its one call, or its last one
  pub ends_then : (o : Outcome) (paced : Option PaceKept) (pace : Option Paced) → Both (IsPaced z) paced pace → Sets c.key (record k { ring = ring_after k.ring (moved.Done o); pace = paced }) x.tables.cards cards → Rings k.door x.tables.doors doors
      → Holds (carried x es (ended_by m v card j js o pace) memory cards doors)
  ends_then o paced pace both sets rings =
      ends_so z v c k card then_on d ds j js posted jobs o none paced pace both cards doors
      (subst (λ (q : Queue). Sets c.key (record k { ring = q; pace = paced }) x.tables.cards cards) (ended_is o) sets) rings

  module _ (count : ℕ) (counted : count ≡ d.count) (calls : List Call) (ok : Bool) (a : Moved) (answer : a ≡ answer_tried (nat_le d.count (k.ring.moved + 1)) ok) (may : may_pass card.pace x.now 512 ≡ true)
      (sets : Sets c.key (record k { ring = ring_after k.ring a; pace = option_map (with_pass x.now) k.pace }) x.tables.cards cards) (rings : RingsAt a k.door x.tables.doors doors) where
    abbrev more : Bool
    more = ok && not (nat_le d.count (k.ring.moved + 1))

    same_test : (ok && nat_lt (card.queue.moved + 1) count) ≡ more
    same_test =
        ap (λ n. ok && nat_lt (n + 1) count) on.fits.moved ∙ ap (λ n. ok && nat_lt (k.ring.moved + 1) n) counted ∙ last_is k.ring.moved d.count ok

    paced : Both (IsPaced z) (option_map (with_pass x.now) k.pace) (passed x.now 512 card.pace)
    paced = passed_both z 512 k.pace card.pace then_on.fits.pace may

    by_more : (b : Bool) → more ≡ b → Tries x (tried x.now ok count m v card j js calls) es calls a memory cards doors
    by_more true is =
        let so : a ≡ moved.Block = answer ∙ ap (λ b. if b then moved.Block else moved.Done (ending_of ok)) is in record {
          machine = with_object m v (Objects.vsic (block_moved (passed x.now 512 card.pace) card));
          said = said.Moved;
          row = goes_on m v card held there object x.now count j js calls ok (same_test ∙ is);
          same = ap said_of so;
          holds = subst (λ (f : ℕ → Option Counts). Holds (carried x es (with_object m v (Objects.vsic (block_moved (passed x.now 512 card.pace) card))) memory cards f)) (sym (subst (λ (b : Moved). RingsAt b k.door x.tables.doors doors) so rings))
              (moves_on z v c k card then_on none (option_map (with_pass x.now) k.pace) (passed x.now 512 card.pace) paced cards
              (subst (λ (b : Moved). Sets c.key (record k { ring = ring_after k.ring b; pace = option_map (with_pass x.now) k.pace }) x.tables.cards cards) so sets));
        }
    by_more false is =
        let so : a ≡ moved.Done (ending_of ok) = answer ∙ ap (λ b. if b then moved.Block else moved.Done (ending_of ok)) is in
        let o = ending_of ok in
        let done : Sets c.key (record k { ring = ring_after k.ring (moved.Done o); pace = option_map (with_pass x.now) k.pace }) x.tables.cards cards =
        subst (λ (b : Moved). Sets c.key (record k { ring = ring_after k.ring b; pace = option_map (with_pass x.now) k.pace }) x.tables.cards cards) so sets in
        record {
          machine = ended_by m v card j js (outcome_of ok) (passed x.now 512 card.pace);
          said = said.Done (outcome_of ok);
          row = has_ended m v card held there object x.now count j js calls ok (same_test ∙ is);
          same = ap said_of so ∙ ap (λ (e : Outcome). said.Done e) (same_outcome ok);
          holds = subst (λ (e : Outcome). Holds (carried x es (ended_by m v card j js e (passed x.now 512 card.pace)) memory cards doors)) (same_outcome ok)
              (ends_then o (option_map (with_pass x.now) k.pace) (passed x.now 512 card.pace) paced done (subst (λ (b : Moved). RingsAt b k.door x.tables.doors doors) so rings));
        }

    -- a block that was tried
    pub tries : Tries x (tried x.now ok count m v card j js calls) es calls a memory cards doors
    tries = by_more more refl
