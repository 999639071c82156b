-- Buffers that no descriptor has, as commands are accepted and acknowledged.
use Rattle.std.proofs.Common.{ℕ, ◌<◌, List, [], ◌∷◌, length, None, refl, sym, subst, arith}
use Rattle.std.specs.Prelude.{All}
use Rattle.std.proofs.lemmas.List.Elements.{All-push, All-drop}
use Rattle.ark_region.specs.Frames.{Space}
use Rattle.ark_log.specs.declared.command.Command.{Command}
use Rattle.ark_log.specs.declared.command.Command.TheVariants.{Append, Trim, Pop}
use Rattle.ark_log.specs.declared.command.Waiting.{Waiting}
use Rattle.ark_log.specs.Open.{OpenChain}
use Rattle.ark_log.specs.Waits.{WaitsToAppend, WaitsToPop, waits}
use Rattle.ark_log.specs.Acked.{acknowledged}
use Rattle.ark_log.specs.Stages.{HasEntryBuffer, IsWhole, oldest, oldest_in}

abbrev HasIts : Waiting → Type 0
HasIts w = HasEntryBuffer w.command w.buf

pub whole_oldest : (v : OpenChain) → IsWhole v → 0 < length v.waiting → HasEntryBuffer (oldest v).command (oldest v).buf
whole_oldest v whole some = by v.waiting some whole.entries
  where
    by : (ws : List Waiting) → 0 < length ws → All HasIts ws → HasIts (oldest_in ws)
    by [] less all = absurd (omega (arith, less))
    by (w ∷ ws) less all = all 0 w less

pub whole_appends : (v u : OpenChain) (payload : List ℕ) (before after : Space) → IsWhole v → WaitsToAppend payload v u before after → IsWhole u
whole_appends v u payload before after whole made = subst IsWhole (sym made.waiting) (record { header = whole.header; entries = All-push HasIts v.waiting _ whole.entries refl })

pub whole_pops : (v u : OpenChain) (before after : Space) → IsWhole v → WaitsToPop v u before after → IsWhole u
whole_pops v u before after whole made = subst IsWhole (sym made.waiting) (record { header = whole.header; entries = All-push HasIts v.waiting _ whole.entries refl })

pub whole_trims : (v : OpenChain) (n : ℕ) → IsWhole v → IsWhole (waits v (record { command = Trim n; len = 0; start = 0; buf = None }) n)
whole_trims v n whole = record { header = whole.header; entries = All-push HasIts v.waiting _ whole.entries tt }

pub whole_acknowledged : (v : OpenChain) (c : Command) → IsWhole v → IsWhole (acknowledged v c)
whole_acknowledged v (Append n) whole = record { header = whole.header; entries = All-drop HasIts 1 v.waiting whole.entries }
whole_acknowledged v (Trim n) whole = record { header = whole.header; entries = All-drop HasIts 1 v.waiting whole.entries }
whole_acknowledged v (Pop n) whole = record { header = whole.header; entries = All-drop HasIts 1 v.waiting whole.entries }
