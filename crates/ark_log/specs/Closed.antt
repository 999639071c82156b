-- Buffers that are given back.
use Rattle.std.specs.Prelude.{Bool, false, List, [], ◌∷◌, All, replicate, Option, Some, None, IfSome}
use Rattle.ark_region.specs.Frames.{Piece, Space, LiesInRegion, frames_of, put}
use Rattle.ark_log.specs.declared.command.Waiting.{Waiting}
use Rattle.ark_log.specs.Open.{OpenChain}

-- a command's buffer, if it has one, is one of the region
abbrev pub LiesIn : List Bool → Waiting → Type 0
LiesIn taken w = IfSome w.buf (LiesInRegion taken)

-- so are all buffers that are held
pub record HasBuffersIn (taken : List Bool) (v : OpenChain) : Type 0 where
  pub header : IfSome v.header (LiesInRegion taken)
  pub waiting : All (LiesIn taken) v.waiting

-- the taken frames once a buffer is given back
abbrev pub given_back : List Bool → Option Piece → List Bool
given_back taken None = taken
given_back taken (Some b) = put taken b.start (replicate (frames_of b.len) false)

-- once those of all these commands are
abbrev pub all_given_back : List Bool → List Waiting → List Bool
all_given_back taken [] = taken
all_given_back taken (w ∷ ws) = all_given_back (given_back taken w.buf) ws

-- the region once all buffers are given back
abbrev pub space_closed : OpenChain → Space → Space
space_closed v space = record space { taken = all_given_back (given_back space.taken v.header) v.waiting }
