-- `dev` of a network card, on which nothing is posted to send so far.
use Rattle.std.proofs.Common.{◌≡◌, ℕ, true, List, [], refl, subst}
use Rattle.std.specs.Prelude.{Some, None, Ok}
use Rattle.ark_base.specs.declared.refusal.Refusal.{Refusal}
use Rattle.ark_media.specs.Calls.{Told}
use Rattle.ark_objects.specs.Held.{at as slot}
use Rattle.ark_script.specs.declared.said.Said.{Said}
use Rattle.ark_script.specs.declared.said.Said.TheVariants as said
use Rattle.ark_machine.specs.Devices as devices
use Rattle.ark_machine.specs.Objects
use Rattle.ark_machine.specs.Objects.{Vnic}
use Rattle.ark_machine.specs.Machine.{Machine, Held, at}
use Rattle.ark_machine.specs.Row.{Row, Given, answer}
use Rattle.ark_held.specs.Kept.{NetKept}
use Rattle.ark_held.specs.Nets.{is_empty}
use Rattle.ark_held.specs.Around.{Each}
use Rattle.ark_held.specs.Network.{IsSending}
use Rattle.ark_held.specs.Held.{Holds}
use Rattle.ark_held.specs.Beyond.{Beyond, around}
use Rattle.ark_held.specs.Does.{Acts}
use Rattle.ark_held.specs.declared.app.App.{App}
use Rattle.ark_held.specs.declared.network_card.NetworkCard.{NetworkCard}
use Rattle.ark_held.proofs.Doing.{comes, never}
use Rattle.ark_held.proofs.Quiet.{empty_ring}
use Rattle.ark_own.specs.Keys.{net_key}
use Rattle.ark_own.proofs.OfNets as nets
use Rattle.ark_own.proofs.OfNets.{entry_same}
use Rattle.ark_own.proofs.TakingFrames.{none_there}

abbrev row : List ℕ → Machine → Given → Row
row l m g = devices.dev m l g

idle_row : (m : Machine) (l : List ℕ) (g : Given) (h : Held) (v : Vnic) → m.made ≡ true → at m l ≡ Some h → h.object ≡ Objects.vnic v → v.tx.posted ≡ [] → row l m g ≡ record { machine = m; said = said.Idle; bytes = []; calls = [] }
unfolding answer
idle_row m l g h v made there object none = rw (made, there, object, none) refl

module _ (t : Told) (app : App) (l : List ℕ) where
  -- what can't be
  pub dev_never : (reply : Said) → ((y : Beyond) → Holds (around y app) → ⊥) → Acts t app app (row l) [] reply []
  dev_never reply none = never t app app (row l) reply [] none

  module _ (key : ℕ) (is : Ok key ≡ net_key app.labels l) where
    pub dev_no_net : (e : Refusal) → slot app.devices.nets.cards key ≡ None → Acts t app app (row l) [] (said.Refused e) []
    dev_no_net e gone = dev_never (said.Refused e) (λ y h. nets.never_gone app l key is y h gone)

    pub dev_idle : (one : NetworkCard) → slot app.devices.nets.cards key ≡ Some one → is_empty one.vnic.tx ≡ true → Acts t app app (row l) [] said.Idle []
    dev_idle one here quiet = comes t app app (row l) said.Idle [] refl refl (λ y g sited h.
        let c = nets.its app l key is y h in
        let sending : Each (IsSending (around y app) None) one.vnic.tx.posted c.vnic.tx.posted =
        subst (λ (k : NetKept). Each (IsSending (around y app) k.ports) k.tx.posted c.vnic.tx.posted) (entry_same app l key is one here y c) c.fits.tx_posted in
        let none : c.vnic.tx.posted ≡ [] = none_there (IsSending (around y app) None) one.vnic.tx.posted c.vnic.tx.posted (empty_ring one.vnic.tx quiet).0 sending in
        (y.machine, idle_row y.machine l g c.held c.vnic h.made c.there c.object none, h))
