-- What a transfer asks of its card, and what is said of it.
use Rattle.std.specs.Prelude.{ℕ, Bool, List, Option, if◌then◌else◌}
use Rattle.ark_base.specs.declared.kind.Outcome.{Outcome}
use Rattle.ark_script.specs.declared.said.Said.{Said}
use Rattle.ark_script.specs.declared.said.Said.TheVariants as said
use Rattle.ark_region.specs.Frames.{Piece}
use Rattle.ark_vic.specs.declared.descriptor.Descriptor.{Descriptor}
use Rattle.ark_vic.specs.declared.descriptor.Job.{Job}
use Rattle.ark_vic.specs.declared.descriptor.Job.TheVariants as vic
use Rattle.ark_own.specs.declared.transfers.Blocks.{Blocks}

-- a put writes the area, and a get reads it
abbrev pub job_of : Bool → Job
job_of put = if put then vic.Write else vic.Read

-- a transfer of blocks from or to the front of the buffer of a key
abbrev pub transfer : Job → Blocks → ℕ → Option Piece → Descriptor
transfer job blocks buffer right = record { job = job; grant = blocks.area; first = blocks.first; count = blocks.count; wrap = 0; from = 0; len = 0; tag = buffer; buf = right }

-- a descriptor that receives into the buffer of a key
abbrev pub receiving : ℕ → Option Piece → Descriptor
receiving buffer right = record { job = vic.Receive; grant = 0; first = 0; count = 0; wrap = 0; from = 0; len = 0; tag = buffer; buf = right }

abbrev pub said_of : Job → List ℕ → Outcome → Said
said_of vic.Write buffer o = said.Put buffer o
said_of _ buffer o = said.Got buffer o
