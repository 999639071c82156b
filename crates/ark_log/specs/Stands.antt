-- Which list and which commands an open log stands for.
use Rattle.std.specs.Prelude.{◌≡◌, ℕ, Bool, true, false, List, [], ◌∷◌, ◌++◌, length, map}
use Rattle.ark_entry.specs.Found.{Entries}
use Rattle.ark_caladan.specs.Chain as log
use Rattle.ark_caladan.specs.Chain.{after_all}
use Rattle.ark_log.specs.declared.command.Command.{Command}
use Rattle.ark_log.specs.declared.command.Command.TheVariants.{Append, Trim, Pop}
use Rattle.ark_log.specs.declared.command.Waiting.{Waiting}
use Rattle.ark_log.specs.declared.stage.Stage.{Stage}
use Rattle.ark_log.specs.declared.stage.Stage.TheVariants.{Load, Draft, Mark, Header, Clear, Flush}
use Rattle.ark_log.specs.Open.{OpenChain}

abbrev pub IsCommand : Command → log.Command → Type 0
IsCommand (Append n) (log.append m payload) = n ≡ m
IsCommand (Append n) (log.trim m) = ⊥
IsCommand (Append n) (log.pop m) = ⊥
IsCommand (Trim n) (log.append m payload) = ⊥
IsCommand (Trim n) (log.trim m) = n ≡ m
IsCommand (Trim n) (log.pop m) = ⊥
IsCommand (Pop n) (log.append m payload) = ⊥
IsCommand (Pop n) (log.trim m) = ⊥
IsCommand (Pop n) (log.pop m) = n ≡ m

abbrev pub AreCommands : List Waiting → List log.Command → Type 0
AreCommands [] [] = Unit {0}
AreCommands [] (c ∷ cs) = ⊥
AreCommands (w ∷ ws) [] = ⊥
AreCommands (w ∷ ws) (c ∷ cs) = IsCommand w.command c × AreCommands ws cs

-- the lengths of the entries that commands add
abbrev pub lengths_added : List log.Command → List ℕ
lengths_added [] = []
lengths_added (log.append n payload ∷ cs) = length payload ∷ lengths_added cs
lengths_added (log.trim n ∷ cs) = lengths_added cs
lengths_added (log.pop n ∷ cs) = lengths_added cs

-- its list is this one, and these are the commands that wait
pub record StandsFor (v : OpenChain) (l : Entries) (cs : List log.Command) : Type 0 where
  pub first : v.first ≡ l.first
  pub count : v.count ≡ length l.payloads
  pub lengths : v.lengths ≡ map (λ p. length p) l.payloads ++ lengths_added cs
  pub coming : v.coming ≡ (after_all l cs).first
  pub waiting : AreCommands v.waiting cs

-- what a stage does, and whether its write decides
abbrev pub stage_does : Stage → log.Verb × Bool
stage_does Load = (log.reading, false)
stage_does Draft = (log.writing, false)
stage_does Mark = (log.writing, true)
stage_does Header = (log.writing, true)
stage_does Clear = (log.writing, false)
stage_does Flush = (log.syncing, false)

-- the same of a phase
abbrev pub phase_does : log.Phase → log.Verb × Bool
phase_does p = (p.verb, p.decides)
