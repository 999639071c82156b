-- What each word is like: one row a word. Whose line it is, what it is about, what it is told beside its machine, and what it may do.
use Rattle.std.specs.Prelude.{ℕ, Bool, true, false, List, [], ◌∷◌, Option, Some, None}
use Rattle.ark_script.specs.Line as w
use Rattle.ark_script.specs.Line.{Line}
use Rattle.ark_script.specs.declared.group.Group.{Group}
use Rattle.ark_script.specs.declared.group.Group.TheVariants as group

-- what a word asks for of what is told beside its application's machine
pub data Ask : Type 0 where
  -- whether a count over all applications stands at its limit
  limit : Ask
  -- whether this end has no addresses yet
  no_nic : Ask
  -- whether fewer blocks are free than are asked for, and whether they would stand in too many runs
  no_space : Ask
  scattered : Ask
  -- the earliest receive filter that a new one overlaps
  overlap : Ask
  -- whether a change of the table of grants has failed
  table_failed : Ask
  -- this end's addresses
  own : Ask
  -- how the line's device calls ended
  ended : Ask
  -- whether memory was wanting
  no_memory : Ask

pub record Attributes : Type 0 where
  pub group : Group
  -- the application whose line it is
  pub owner : Option (List ℕ)
  pub asks : List Ask
  -- it calls the device, and is refused where a call fails
  pub may_fault : Bool
  -- it may sync, if what it names is there
  pub may_sync : Bool
  -- it gives its application an area, more blocks, or an open log
  pub gains : Bool
  -- it gives a label up
  pub gives_up : Bool
  -- it reads the device and changes nothing
  pub looks : Bool
  -- it reaps its card's ring before it may be refused
  pub reaps_first : Bool

-- a word that asks for nothing and calls no device
abbrev pub plain : Group → Option (List ℕ) → Attributes
plain g whose = record {
  group = g;
  owner = whose;
  asks = [];
  may_fault = false;
  may_sync = false;
  gains = false;
  gives_up = false;
  looks = false;
  reaps_first = false;
}

-- of an application
abbrev pub of_one : Group → List ℕ → Attributes
of_one g a = plain g (Some a)

-- of an application, with what it asks for
abbrev pub asking : List Ask → Group → List ℕ → Attributes
asking asks g a = record (of_one g a) { asks = asks }

abbrev pub attributes : Line → Attributes
attributes (w.nic addresses) = plain group.Network None
attributes (w.app a frames) = asking (limit ∷ no_memory ∷ []) group.Control a
attributes (w.vsic a v size) = asking (no_memory ∷ []) group.Cards a
attributes (w.vnic a v rx tx) = asking (no_nic ∷ no_memory ∷ []) group.Network a
attributes (w.vsa a s n k) =
    record (asking (limit ∷ table_failed ∷ no_space ∷ scattered ∷ ended ∷ []) group.Control a) { may_fault = true; may_sync = true; gains = true }
attributes (w.grow a s n) =
    record (asking (table_failed ∷ no_space ∷ scattered ∷ ended ∷ []) group.Control a) { may_fault = true; may_sync = true; gains = true }
attributes (w.bind a v s) = of_one group.Cards a
attributes (w.unbind a v s) = of_one group.Cards a
attributes (w.filter a f rule) = asking (no_nic ∷ overlap ∷ no_memory ∷ []) group.Network a
attributes (w.assign a v f) = of_one group.Network a
attributes (w.rate a r q b) = of_one group.Rates a
attributes (w.pace a v r q) = of_one group.Rates a
attributes (w.door a d) = of_one group.Rates a
attributes (w.watch a v d q) = of_one group.Rates a
attributes (w.drop a x) = record (asking (table_failed ∷ ended ∷ []) group.Control a) { may_fault = true; may_sync = true; gives_up = true }
attributes (w.buf a b len) = of_one group.Memory a
attributes (w.fill a b off bytes) = of_one group.Memory a
attributes (w.show a b off len) = of_one group.Memory a
attributes (w.copy a b c len) = of_one group.Memory a
attributes (w.free a b) = of_one group.Memory a
attributes (w.peek a s off) = record (asking (ended ∷ []) group.Memory a) { may_fault = true; looks = true }
attributes (w.poke a s off bytes) = record (asking (ended ∷ []) group.Memory a) { may_fault = true }
attributes (w.get a v s off count b) = of_one group.Cards a
attributes (w.put a v s off count b) = of_one group.Cards a
attributes (w.flush a v) = of_one group.Cards a
attributes (w.reap a v) = of_one group.Cards a
attributes (w.post a v b) = of_one group.Network a
attributes (w.send a v b len) = of_one group.Network a
attributes (w.take a v d) = of_one group.Network a
attributes (w.sock a k v port) = asking (no_memory ∷ []) group.Sockets a
attributes (w.sendto a k ip port payload) = record (asking (own ∷ []) group.Sockets a) { reaps_first = true }
attributes (w.recv a k) = asking (own ∷ []) group.Sockets a
attributes (w.look a d) = of_one group.Rates a
attributes (w.log a s v) = record (asking (ended ∷ no_memory ∷ []) group.Logs a) { may_fault = true; may_sync = true; gains = true }
attributes (w.queue a s v) = record (asking (ended ∷ no_memory ∷ []) group.Logs a) { may_fault = true; may_sync = true; gains = true }
attributes (w.append a s payload) = of_one group.Logs a
attributes (w.push a s payload) = of_one group.Logs a
attributes (w.trim a s n) = of_one group.Logs a
attributes (w.pop a s) = of_one group.Logs a
attributes (w.walk a s n) = record (asking (ended ∷ []) group.Logs a) { may_fault = true; looks = true }
attributes (w.poll a s) = of_one group.Logs a
attributes (w.settle a s) = record (asking (ended ∷ []) group.Logs a) { may_sync = true }
attributes (w.close a s) = of_one group.Logs a
attributes (w.dev a v) = record (asking (own ∷ ended ∷ []) group.Cards a) { may_sync = true }
attributes (w.wire frame) = plain group.Network None
attributes (w.tick n) = plain group.Control None
