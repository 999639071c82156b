-- How a word is refused whose command the log does not accept.
use Rattle.ark_base.specs.declared.refusal.Refusal.{Refusal}
use Rattle.ark_base.specs.declared.refusal.Refusal.TheVariants as r
use Rattle.ark_log.specs.declared.command.ChainRefusal.{ChainRefusal}
use Rattle.ark_log.specs.declared.command.ChainRefusal.TheVariants.{Failed, Busy, LogFull, NoEntry, NoBuffer}

abbrev pub refused_by : ChainRefusal → Refusal
refused_by Failed = r.LogFailed
refused_by Busy = r.Busy
refused_by LogFull = r.LogFull
refused_by NoEntry = r.NoEntry
refused_by NoBuffer = r.NoBuffer
