-- The form of each word: its name, and the words behind it.
use Rattle.std.specs.Prelude.{◌≡◌, ℕ, ◌-◌, ◌^◌, List, [], ◌∷◌, codes, Some, None}
use Rattle.ark_script.specs.Arguments.{IsName, IsOptional, IsNumber, IsRingSize, IsHex, IsHex0, IsMacWord, IsKind, fewest_blocks, IsSide, IsDirection, IsProto, IsIp}
use Rattle.ark_script.specs.Lists.{ArePeers, AreServices}
use Rattle.ark_script.specs.Line as w
use Rattle.ark_script.specs.Line.{Line}
use Rattle.ark_script.specs.Words.{words_of}

-- Words behind the first, each of which spells an argument.
abbrev pub Argument : Type 1
Argument = List ℕ → Type 0

abbrev pub One : Argument → List (List ℕ) → Type 0
One A (a ∷ []) = A a
One A _ = ⊥

abbrev pub Two : Argument → Argument → List (List ℕ) → Type 0
Two A B (a ∷ b ∷ []) = A a × B b
Two A B _ = ⊥

abbrev pub Three : Argument → Argument → Argument → List (List ℕ) → Type 0
Three A B C (a ∷ b ∷ c ∷ []) = A a × B b × C c
Three A B C _ = ⊥

abbrev pub Four : Argument → Argument → Argument → Argument → List (List ℕ) → Type 0
Four A B C D (a ∷ b ∷ c ∷ d ∷ []) = A a × B b × C c × D d
Four A B C D _ = ⊥

abbrev pub Five : Argument → Argument → Argument → Argument → Argument → List (List ℕ) → Type 0
Five A B C D E (a ∷ b ∷ c ∷ d ∷ e ∷ []) = A a × B b × C c × D d × E e
Five A B C D E _ = ⊥

abbrev pub Six : Argument → Argument → Argument → Argument → Argument → Argument → List (List ℕ) → Type 0
Six A B C D E F (a ∷ b ∷ c ∷ d ∷ e ∷ f ∷ []) = A a × B b × C c × D d × E e × F f
Six A B C D E F _ = ⊥

-- the most blocks of an area
abbrev pub most_blocks : ℕ
most_blocks = 1048447

abbrev pub a_billion : ℕ
a_billion = 1000000000

-- a number of a log's or queue's entry
abbrev pub IsEntry : ℕ → List ℕ → Type 0
IsEntry n word = IsNumber 1 (2 ^ 63) n word

-- a place without a range of its own
abbrev pub IsPlace : ℕ → List ℕ → Type 0
IsPlace n word = IsNumber 0 (2 ^ 32 - 1) n word

-- the words behind the first
abbrev pub AreArguments : Line → List (List ℕ) → Type 0
AreArguments (w.nic own) = Three (IsMacWord own.mac) (IsIp own.ip) (IsMacWord own.gateway)
AreArguments (w.app a None) = One (IsName a)
AreArguments (w.app a (Some f)) = Two (IsName a) (IsNumber 4 4096 f)
AreArguments (w.vsic a v n) = Three (IsName a) (IsName v) (IsRingSize n)
AreArguments (w.vnic a v rx tx) = Four (IsName a) (IsName v) (IsRingSize rx) (IsRingSize tx)
AreArguments (w.vsa a s n k) = Four (IsName a) (IsName s) (IsNumber (fewest_blocks k) most_blocks n) (IsKind k)
AreArguments (w.grow a s n) = Three (IsName a) (IsName s) (IsNumber 1 most_blocks n)
AreArguments (w.bind a v s) = Three (IsName a) (IsName v) (IsName s)
AreArguments (w.unbind a v s) = Three (IsName a) (IsName v) (IsName s)
AreArguments (w.filter a f x) = Six (IsName a) (IsName f) (IsDirection x.direction) (IsProto x.proto) (ArePeers x.proto x.peers) (AreServices x.proto x.services)
AreArguments (w.assign a v f) = Three (IsName a) (IsName v) (IsName f)
AreArguments (w.rate a r q b) = Four (IsName a) (IsName r) (IsNumber 0 a_billion q) (IsNumber 1 a_billion b)
AreArguments (w.pace a v r s) = Four (IsName a) (IsName v) (IsOptional r) (IsSide s)
AreArguments (w.door a d) = Two (IsName a) (IsName d)
AreArguments (w.watch a v d s) = Four (IsName a) (IsName v) (IsOptional d) (IsSide s)
AreArguments (w.drop a x) = Two (IsName a) (IsName x)
AreArguments (w.buf a b n) = Three (IsName a) (IsName b) (IsNumber 1 65536 n)
AreArguments (w.fill a b off bytes) = Four (IsName a) (IsName b) (IsNumber 0 65535 off) (IsHex 1 66000 bytes)
AreArguments (w.show a b off len) = Four (IsName a) (IsName b) (IsPlace off) (IsNumber 1 1514 len)
AreArguments (w.copy a b c len) = Four (IsName a) (IsName b) (IsName c) (IsNumber 1 65536 len)
AreArguments (w.free a b) = Two (IsName a) (IsName b)
AreArguments (w.peek a s off) = Three (IsName a) (IsName s) (IsPlace off)
AreArguments (w.poke a s off bytes) = Four (IsName a) (IsName s) (IsPlace off) (IsHex 1 512 bytes)
AreArguments (w.get a v s off count b) = Six (IsName a) (IsName v) (IsName s) (IsPlace off) (IsNumber 1 128 count) (IsName b)
AreArguments (w.put a v s off count b) = Six (IsName a) (IsName v) (IsName s) (IsPlace off) (IsNumber 1 128 count) (IsName b)
AreArguments (w.flush a v) = Two (IsName a) (IsName v)
AreArguments (w.reap a v) = Two (IsName a) (IsName v)
AreArguments (w.post a v b) = Three (IsName a) (IsName v) (IsName b)
AreArguments (w.send a v b len) = Four (IsName a) (IsName v) (IsName b) (IsNumber 14 1514 len)
AreArguments (w.take a v d) = Three (IsName a) (IsName v) (IsDirection d)
AreArguments (w.sock a k v port) = Four (IsName a) (IsName k) (IsName v) (IsNumber 0 65535 port)
AreArguments (w.sendto a k ip port bytes) = Five (IsName a) (IsName k) (IsIp ip) (IsNumber 0 65535 port) (IsHex0 1472 bytes)
AreArguments (w.recv a k) = Two (IsName a) (IsName k)
AreArguments (w.look a d) = Two (IsName a) (IsName d)
AreArguments (w.log a s v) = Three (IsName a) (IsName s) (IsName v)
AreArguments (w.queue a s v) = Three (IsName a) (IsName s) (IsName v)
AreArguments (w.append a s bytes) = Three (IsName a) (IsName s) (IsHex0 32768 bytes)
AreArguments (w.push a s bytes) = Three (IsName a) (IsName s) (IsHex0 32768 bytes)
AreArguments (w.trim a s n) = Three (IsName a) (IsName s) (IsEntry n)
AreArguments (w.pop a s) = Two (IsName a) (IsName s)
AreArguments (w.walk a s n) = Three (IsName a) (IsName s) (IsEntry n)
AreArguments (w.poll a s) = Two (IsName a) (IsName s)
AreArguments (w.settle a s) = Two (IsName a) (IsName s)
AreArguments (w.close a s) = Two (IsName a) (IsName s)
AreArguments (w.dev a v) = Two (IsName a) (IsName v)
AreArguments (w.wire bytes) = One (IsHex 14 1514 bytes)
AreArguments (w.tick n) = One (IsNumber 1 a_billion n)

-- the first word
abbrev pub word_of : Line → List ℕ
word_of (w.nic own) = codes "nic"
word_of (w.app a f) = codes "app"
word_of (w.vsic a v n) = codes "vsic"
word_of (w.vnic a v rx tx) = codes "vnic"
word_of (w.vsa a s n k) = codes "vsa"
word_of (w.grow a s n) = codes "grow"
word_of (w.bind a v s) = codes "bind"
word_of (w.unbind a v s) = codes "unbind"
word_of (w.filter a f x) = codes "filter"
word_of (w.assign a v f) = codes "use"
word_of (w.rate a r q b) = codes "rate"
word_of (w.pace a v r s) = codes "pace"
word_of (w.door a d) = codes "door"
word_of (w.watch a v d s) = codes "watch"
word_of (w.drop a x) = codes "drop"
word_of (w.buf a b n) = codes "buf"
word_of (w.fill a b off bytes) = codes "fill"
word_of (w.show a b off len) = codes "show"
word_of (w.copy a b c len) = codes "copy"
word_of (w.free a b) = codes "free"
word_of (w.peek a s off) = codes "peek"
word_of (w.poke a s off bytes) = codes "poke"
word_of (w.get a v s off count b) = codes "get"
word_of (w.put a v s off count b) = codes "put"
word_of (w.flush a v) = codes "flush"
word_of (w.reap a v) = codes "reap"
word_of (w.post a v b) = codes "post"
word_of (w.send a v b len) = codes "send"
word_of (w.take a v d) = codes "take"
word_of (w.sock a k v port) = codes "sock"
word_of (w.sendto a k ip port bytes) = codes "sendto"
word_of (w.recv a k) = codes "recv"
word_of (w.look a d) = codes "look"
word_of (w.log a s v) = codes "log"
word_of (w.queue a s v) = codes "queue"
word_of (w.append a s bytes) = codes "append"
word_of (w.push a s bytes) = codes "push"
word_of (w.trim a s n) = codes "trim"
word_of (w.pop a s) = codes "pop"
word_of (w.walk a s n) = codes "walk"
word_of (w.poll a s) = codes "poll"
word_of (w.settle a s) = codes "settle"
word_of (w.close a s) = codes "close"
word_of (w.dev a v) = codes "dev"
word_of (w.wire bytes) = codes "wire"
word_of (w.tick n) = codes "tick"

-- a first word, and others behind it
abbrev pub Sentence : List ℕ → (List (List ℕ) → Type 0) → List (List ℕ) → Type 0
Sentence first P [] = ⊥
Sentence first P (word ∷ words) = (word ≡ first) × P words

-- the line is of this form: words with one space between them
abbrev pub IsForm : Line → List ℕ → Type 0
IsForm asked line = Sentence (word_of asked) (AreArguments asked) (words_of line)
