-- A line that is refused at sight.
use Rattle.std.proofs.Common.{◌≡◌, ℕ, List, []}
use Rattle.std.specs.Prelude.{Err}
use Rattle.ark_base.specs.declared.refusal.Refusal.{Refusal}
use Rattle.ark_media.specs.Calls.{Told}
use Rattle.ark_script.specs.Lines.{Says}
use Rattle.ark_script.specs.declared.said.Said.{Said}
use Rattle.ark_script.specs.declared.said.Said.TheVariants.{Refused}
use Rattle.ark_host.specs.declared.host.Host.{Host}
use Rattle.ark_host.proofs.Words.{refused_at_sight}
use Rattle.ark_host.proofs.Lifting.{quiet_steps}
use Rattle.ark_answer.specs.Answered.{LineSaid}

pub said_refused : (line : List ℕ) (host : Host) (told : Told) (refusal : Refusal) (reply : Said) (shown : List ℕ) → reply ≡ Refused refusal → shown ≡ [] → Says line (Err refusal) → LineSaid host line [] host told reply shown
said_refused line host told refusal reply shown same none says = record {
  meaning = Err refusal;
  says = says;
  steps = quiet_steps host host told (Err refusal) (Refused refusal) reply shown same none (λ s h st. refused_at_sight host told.blocks h s line refusal says st);
}
