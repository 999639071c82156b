-- What the tables of an application keep of its objects, as plain values. A card's rings, a buffer's place and the like are
-- named by the keys and grant numbers that its capabilities carry.
use Rattle.std.specs.Prelude.{ℕ, List, Option}
use Rattle.ark_region.specs.Frames.{Piece, Space}
use Rattle.ark_vic.specs.Pace.{Pace}
use Rattle.ark_vic.specs.Queue.{Queue}
use Rattle.ark_vic.specs.declared.door.Counts.{Counts}
use Rattle.ark_log.specs.Open.{OpenChain}
use Rattle.ark_machine.specs.Objects.{Datagram}

-- a buffer: where it lies, and the right to it unless a descriptor has that
pub record BufferKept : Type 0 where
  pub piece : Piece
  pub buf : Option Piece

-- the pace of a queue, with the key of the rate that gave it
pub record PaceKept : Type 0 where
  pub rate : ℕ
  pub pace : Pace

-- a storage card: its ring, the areas bound to it by their grants, its pace, the key of the door that watches it, and the
-- log that is open on it
pub record CardKept : Type 0 where
  pub ring : Queue
  pub bound : List ℕ
  pub pace : Option PaceKept
  pub door : Option ℕ
  pub log : Option OpenChain

-- a network card, and how many sockets are on it once one was made there
pub record NetKept : Type 0 where
  pub rx : Queue
  pub tx : Queue
  pub rx_pace : Option PaceKept
  pub tx_pace : Option PaceKept
  pub rx_door : Option ℕ
  pub tx_door : Option ℕ
  pub ports : Option ℕ

-- a socket: the key of its card, its port, and its datagrams, oldest first
pub record SocketKept : Type 0 where
  pub card : ℕ
  pub port : ℕ
  pub datagrams : List Datagram

-- All tables of an application but those of its labels and areas. Objects are found by key.
pub record Tables : Type 0 where
  pub memory : Space
  pub buffers : ℕ → Option BufferKept
  pub cards : ℕ → Option CardKept
  pub nets : ℕ → Option NetKept
  pub doors : ℕ → Option Counts
  -- bytes a tick, and bytes of a burst
  pub rates : ℕ → Option (ℕ × ℕ)
  pub sockets : ℕ → Option SocketKept
