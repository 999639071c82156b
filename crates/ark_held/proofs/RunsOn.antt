-- The log that is open on a card runs there, in its area, which is bound to the card.
use Rattle.std.proofs.Common.{◌≡◌, ℕ, true, List, ◌==◌, sym, ◌∙◌, ap, subst}
use Rattle.std.specs.Prelude.{Option, Some, None, find, option_map, if◌then◌else◌}
use Rattle.ark_caps.specs.Labels.{value_at}
use Rattle.ark_caps.specs.declared.capability.Capability.{Capability}
use Rattle.ark_caladan.specs.Chain.{Log, Opened}
use Rattle.ark_caladan.specs.Open.{Layout}
use Rattle.ark_log.specs.Open.{OpenChain}
use Rattle.ark_running.specs.Running.{IsRunning}
use Rattle.ark_vsic.specs.Card.{is_bound}
use Rattle.ark_vsic.specs.Moves.{area_of}
use Rattle.ark_machine.specs.Objects
use Rattle.ark_machine.specs.Objects.{Object, Vsic}
use Rattle.ark_machine.specs.Machine.{Held, at}
use Rattle.ark_held.specs.Kept.{CardKept}
use Rattle.ark_held.specs.Around.{Around}
use Rattle.ark_held.specs.Areas.{IsOpened, IsOpenedAs}
use Rattle.ark_held.specs.Held.{IsObjectOf, Holds}
use Rattle.ark_held.specs.Moving.{blocks_held}
use Rattle.ark_held.proofs.Dues.{blocks_found}
use Rattle.ark_held.proofs.Ending.{OnCard}
use Rattle.ark_held.proofs.Finding.{stands_at}
use Rattle.ark_held.proofs.Lists.{some_same}
use Rattle.ark_held.proofs.BothPut.{HasOpen}
use Rattle.ark_held.proofs.OpenCards.{OpenOn, the_open}

module _ (x : Around) (h : Holds x) where
  -- what is held under a label is what its capability stands for
  pub is_object : (l : List ℕ) (c : Capability) (held : Held) (o : Object) → value_at x.labels l ≡ Some c → at x.machine l ≡ Some held → held.object ≡ o → IsObjectOf x l c o
  is_object l c held o label there object =
      let s = stands_at x l c h label in
      subst (λ (z : Object). IsObjectOf x l c z) (ap (λ (z : Held). z.object) (some_same (at x.machine l) s.held held s.there there) ∙ object) s.matches.object

  -- a log and a card under their labels
  module _ (s v : List ℕ) (area c : Capability) (held_log held_card : Held) (g : Log) (card : Vsic) (log_label : value_at x.labels s ≡ Some area) (there_log : at x.machine s ≡ Some held_log) (object_log : held_log.object ≡ Objects.log g)
      (card_label : value_at x.labels v ≡ Some c) (there_card : at x.machine v ≡ Some held_card) (object_card : held_card.object ≡ Objects.vsic card) where
    abbrev pub has_open : HasOpen x s v
    has_open = record {
      held_log = held_log;
      log = g;
      area = area;
      there_log = there_log;
      object_log = object_log;
      area_label = log_label;
      log_fits = is_object s area held_log (Objects.log g) log_label there_log object_log;
      held_card = held_card;
      vsic = card;
      card = c;
      there_card = there_card;
      object_card = object_card;
      card_label = card_label;
      card_fits = is_object v c held_card (Objects.vsic card) card_label there_card object_card;
    }

module _ (x : Around) (v : List ℕ) (c : Capability) (k : CardKept) (card : Vsic) (on : OnCard x v c k card) (q : OpenChain) (log : k.log ≡ Some q) where
  abbrev pub found : OpenOn x v x.labels x.machine.held
  found = the_open x v c k card on q log

  abbrev pub both : HasOpen x found.label v
  both = has_open x on.holds found.label v found.cap c found.held on.held found.log card found.labelled found.there found.object on.named on.there on.object

  abbrev pub blocks : List ℕ
  blocks = both.log_fits.slot.blocks

  opens : IsOpened x found.cap.grant blocks found.log found.opened
  opens = subst (λ (z : Option Opened). IsOpenedAs x found.cap.grant blocks found.log z) found.is_open both.log_fits.opened

  its_card : opens.its_card ≡ k
  its_card =
      let n = opens.card in
      let same : n.cap ≡ c = some_same (value_at x.labels v) n.cap c (ap (λ (l : List ℕ). value_at x.labels l) (sym found.on) ∙ n.there) on.named in
      some_same (x.tables.cards c.key) opens.its_card k (ap x.tables.cards (ap (λ (z : Capability). z.key) (sym same) ∙ n.its_key) ∙ opens.kept) on.was

  its_chain : opens.chain ≡ q
  its_chain = some_same k.log opens.chain q (ap (λ (z : CardKept). z.log) (sym its_card) ∙ opens.on) log

  pub grant : q.grant ≡ found.cap.grant
  grant = ap (λ (z : OpenChain). z.grant) (sym its_chain) ∙ opens.its_grant

  pub bound : is_bound found.cap.grant k.bound ≡ true
  bound = ap (λ (z : CardKept). is_bound found.cap.grant z.bound) (sym its_card) ∙ opens.bound

  pub lies : Layout
  lies = opens.lies

  pub runs : IsRunning x.history blocks x.tables.memory k.ring q lies found.log found.opened
  unfolding lies
  runs = subst (λ (z : OpenChain). IsRunning x.history blocks x.tables.memory k.ring z lies found.log found.opened) its_chain
      (subst (λ (z : CardKept). IsRunning x.history blocks x.tables.memory z.ring opens.chain lies found.log found.opened) its_card opens.runs)

  -- its area is the one that its descriptors move
  pub area : area_of q.grant k.bound (blocks_held x.areas) ≡ Some blocks
  area =
      ap (λ n. area_of n k.bound (blocks_held x.areas)) grant
      ∙ ap (λ b. if b then option_map (λ a. a.1) (find (λ a. a.0 == found.cap.grant) (blocks_held x.areas)) else None) bound
      ∙ blocks_found found.cap.grant x.areas
      ∙ ap (λ o. option_map (λ a. a.spans) o) both.log_fits.kept
