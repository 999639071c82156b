-- A line that was read and served by a host, and its reply.
use Rattle.std.specs.Prelude.{◌≡◌, ℕ, List, [], ◌∷◌, ◌++◌, Some}
use Rattle.ark_media.specs.Journal.{Event, Out, History, device_events}
use Rattle.ark_media.specs.Calls.{Told}
use Rattle.ark_media.specs.Parts.{IsWhole}
use Rattle.ark_media.specs.Standing.{after}
use Rattle.ark_script.specs.Lines.{Meaning, Says}
use Rattle.ark_script.specs.declared.said.Said.{Said}
use Rattle.ark_machine.specs.System.{System}
use Rattle.ark_machine.specs.Replies.{turn_for, Answers}
use Rattle.ark_machine.specs.Fronts.{AtEachFront}
use Rattle.ark_host.specs.declared.host.Host.{Host}
use Rattle.ark_host.specs.Stands.{Stands, Stood, Steps}

-- whatever system the host stood for before these events, where the disk tells these, and the history before them
abbrev pub Whatever : Host → Told → List Event → (System → History → Type 0) → Type 0
Whatever old told events P = (s : System) (h : History) → Stood old told h events s → P s h

-- a line was read and served: what it means, and what the host answered to that
pub record LineSaid (old : Host) (line : List ℕ) (es : List Event) (host : Host) (told : Told)
    (reply : Said) (shown : List ℕ) : Type 0 where
  pub meaning : Meaning
  pub says : Says line meaning
  pub steps : Steps old host told meaning es reply shown

-- its events with the text of its reply behind them
abbrev pub part_of : List Event → List ℕ → List Event
part_of es text = es ++ Out text ∷ []

-- A line was served: with this text of its reply put behind its events they are a whole part, which answers it.
pub record LineReplied (old : Host) (line : List ℕ) (es : List Event) (host : Host) (told : Told)
    (text : List ℕ) : Type 0 where
  pub meaning : Meaning
  pub says : Says line meaning
  pub devices : device_events es ≡ es
  pub whole : IsWhole (part_of es text)
  pub answers : Whatever old told es (λ s h. Answers s meaning (part_of es text))
  pub stands : Whatever old told es (λ s h.
      Stands host told.blocks (after h es) (turn_for s meaning (part_of es text)).after)
  pub fronts : Whatever old told es (λ s h.
      AtEachFront h.base h.journal s (Some meaning) (part_of es text))
