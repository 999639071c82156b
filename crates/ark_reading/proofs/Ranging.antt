-- What is of the form of a word is in its range.
use Rattle.std.proofs.Common.{ℕ, ◌≤◌, List, [], ◌∷◌, length, Some, None, arith}
use Rattle.ark_script.specs.Arguments.{IsHex0}
use Rattle.ark_script.specs.Form.{One, Two, Three, Four, Five, Six, AreArguments}
use Rattle.ark_script.specs.Line as w
use Rattle.ark_script.specs.Line.{Line}
use Rattle.ark_script.specs.Ranges.{InRange, IsWithin}
use Rattle.ark_forms.proofs.Ruling.{is_rule}

-- the words and what each spells
one_parts : (A : List ℕ → Type 0) (words : List (List ℕ)) → One A words → (w : List ℕ) × A w
one_parts A [] h = absurd h
one_parts A (w0 ∷ []) h = (w0, h)
one_parts A (w0 ∷ z ∷ zs) h = absurd h

-- the words and what each spells
two_parts : (A B : List ℕ → Type 0) (words : List (List ℕ)) → Two A B words → ((w : List ℕ) × A w) × ((w : List ℕ) × B w)
two_parts A B [] h = absurd h
two_parts A B (w0 ∷ []) h = absurd h
two_parts A B (w0 ∷ w1 ∷ []) h = ((w0, h.0), (w1, h.1))
two_parts A B (w0 ∷ w1 ∷ z ∷ zs) h = absurd h

-- the words and what each spells
three_parts : (A B C : List ℕ → Type 0) (words : List (List ℕ)) → Three A B C words → ((w : List ℕ) × A w) × ((w : List ℕ) × B w) × ((w : List ℕ) × C w)
three_parts A B C [] h = absurd h
three_parts A B C (w0 ∷ []) h = absurd h
three_parts A B C (w0 ∷ w1 ∷ []) h = absurd h
three_parts A B C (w0 ∷ w1 ∷ w2 ∷ []) h = ((w0, h.0), (w1, h.1), (w2, h.2))
three_parts A B C (w0 ∷ w1 ∷ w2 ∷ z ∷ zs) h = absurd h

-- the words and what each spells
four_parts : (A B C D : List ℕ → Type 0) (words : List (List ℕ)) → Four A B C D words → ((w : List ℕ) × A w) × ((w : List ℕ) × B w) × ((w : List ℕ) × C w) × ((w : List ℕ) × D w)
four_parts A B C D [] h = absurd h
four_parts A B C D (w0 ∷ []) h = absurd h
four_parts A B C D (w0 ∷ w1 ∷ []) h = absurd h
four_parts A B C D (w0 ∷ w1 ∷ w2 ∷ []) h = absurd h
four_parts A B C D (w0 ∷ w1 ∷ w2 ∷ w3 ∷ []) h = ((w0, h.0), (w1, h.1), (w2, h.2), (w3, h.3))
four_parts A B C D (w0 ∷ w1 ∷ w2 ∷ w3 ∷ z ∷ zs) h = absurd h

-- the words and what each spells
five_parts : (A B C D E : List ℕ → Type 0) (words : List (List ℕ)) → Five A B C D E words → ((w : List ℕ) × A w) × ((w : List ℕ) × B w) × ((w : List ℕ) × C w) × ((w : List ℕ) × D w) × ((w : List ℕ) × E w)
five_parts A B C D E [] h = absurd h
five_parts A B C D E (w0 ∷ []) h = absurd h
five_parts A B C D E (w0 ∷ w1 ∷ []) h = absurd h
five_parts A B C D E (w0 ∷ w1 ∷ w2 ∷ []) h = absurd h
five_parts A B C D E (w0 ∷ w1 ∷ w2 ∷ w3 ∷ []) h = absurd h
five_parts A B C D E (w0 ∷ w1 ∷ w2 ∷ w3 ∷ w4 ∷ []) h = ((w0, h.0), (w1, h.1), (w2, h.2), (w3, h.3), (w4, h.4))
five_parts A B C D E (w0 ∷ w1 ∷ w2 ∷ w3 ∷ w4 ∷ z ∷ zs) h = absurd h

-- the words and what each spells
six_parts : (A B C D E F : List ℕ → Type 0) (words : List (List ℕ)) → Six A B C D E F words → ((w : List ℕ) × A w) × ((w : List ℕ) × B w) × ((w : List ℕ) × C w) × ((w : List ℕ) × D w) × ((w : List ℕ) × E w) × ((w : List ℕ) × F w)
six_parts A B C D E F [] h = absurd h
six_parts A B C D E F (w0 ∷ []) h = absurd h
six_parts A B C D E F (w0 ∷ w1 ∷ []) h = absurd h
six_parts A B C D E F (w0 ∷ w1 ∷ w2 ∷ []) h = absurd h
six_parts A B C D E F (w0 ∷ w1 ∷ w2 ∷ w3 ∷ []) h = absurd h
six_parts A B C D E F (w0 ∷ w1 ∷ w2 ∷ w3 ∷ w4 ∷ []) h = absurd h
six_parts A B C D E F (w0 ∷ w1 ∷ w2 ∷ w3 ∷ w4 ∷ w5 ∷ []) h = ((w0, h.0), (w1, h.1), (w2, h.2), (w3, h.3), (w4, h.4), (w5, h.5))
six_parts A B C D E F (w0 ∷ w1 ∷ w2 ∷ w3 ∷ w4 ∷ w5 ∷ z ∷ zs) h = absurd h

hex0_within : (most : ℕ) (bytes word : List ℕ) → IsHex0 most bytes word → IsWithin 0 most (length bytes)
hex0_within most [] word h = (omega arith, omega arith)
hex0_within most (b ∷ bs) word h = (omega arith, h.4)

pub in_range : (asked : Line) (words : List (List ℕ)) → AreArguments asked words → InRange asked
in_range (w.nic own) words h = tt
in_range (w.app a None) words h = tt
in_range (w.app a (Some f)) words h = let parts = two_parts _ _ words h in (parts.1.1.1, parts.1.1.2)
in_range (w.vsic a v n) words h = let parts = three_parts _ _ _ words h in ((parts.2.1.0.1, parts.2.1.0.2), parts.2.1.1)
in_range (w.vnic a v rx tx) words h = let parts = four_parts _ _ _ _ words h in (((parts.2.1.0.1, parts.2.1.0.2), parts.2.1.1), ((parts.3.1.0.1, parts.3.1.0.2), parts.3.1.1))
in_range (w.vsa a s n k) words h = let parts = four_parts _ _ _ _ words h in (parts.2.1.1, parts.2.1.2)
in_range (w.grow a s n) words h = let parts = three_parts _ _ _ words h in (parts.2.1.1, parts.2.1.2)
in_range (w.bind a v s) words h = tt
in_range (w.unbind a v s) words h = tt
in_range (w.filter a f x) words h =
    let parts = six_parts _ _ _ _ _ _ words h in is_rule x parts.4.0 parts.5.0 parts.4.1 parts.5.1
in_range (w.assign a v f) words h = tt
in_range (w.rate a r q b) words h = let parts = four_parts _ _ _ _ words h in ((parts.2.1.1, parts.2.1.2), (parts.3.1.1, parts.3.1.2))
in_range (w.pace a v r s) words h = tt
in_range (w.door a d) words h = tt
in_range (w.watch a v d s) words h = tt
in_range (w.drop a x) words h = tt
in_range (w.buf a b n) words h = let parts = three_parts _ _ _ words h in (parts.2.1.1, parts.2.1.2)
in_range (w.fill a b off bytes) words h = let parts = four_parts _ _ _ _ words h in ((parts.2.1.1, parts.2.1.2), (parts.3.1.3, parts.3.1.4))
in_range (w.show a b off len) words h = let parts = four_parts _ _ _ _ words h in ((parts.2.1.1, parts.2.1.2), (parts.3.1.1, parts.3.1.2))
in_range (w.copy a b c len) words h = let parts = four_parts _ _ _ _ words h in (parts.3.1.1, parts.3.1.2)
in_range (w.free a b) words h = tt
in_range (w.peek a s off) words h = let parts = three_parts _ _ _ words h in (parts.2.1.1, parts.2.1.2)
in_range (w.poke a s off bytes) words h = let parts = four_parts _ _ _ _ words h in ((parts.2.1.1, parts.2.1.2), (parts.3.1.3, parts.3.1.4))
in_range (w.get a v s off count b) words h = let parts = six_parts _ _ _ _ _ _ words h in ((parts.3.1.1, parts.3.1.2), (parts.4.1.1, parts.4.1.2))
in_range (w.put a v s off count b) words h = let parts = six_parts _ _ _ _ _ _ words h in ((parts.3.1.1, parts.3.1.2), (parts.4.1.1, parts.4.1.2))
in_range (w.flush a v) words h = tt
in_range (w.reap a v) words h = tt
in_range (w.post a v b) words h = tt
in_range (w.send a v b len) words h = let parts = four_parts _ _ _ _ words h in (parts.3.1.1, parts.3.1.2)
in_range (w.take a v d) words h = tt
in_range (w.sock a k v port) words h = let parts = four_parts _ _ _ _ words h in (parts.3.1.1, parts.3.1.2)
in_range (w.sendto a k ip port bytes) words h = let parts = five_parts _ _ _ _ _ words h in ((parts.3.1.1, parts.3.1.2), hex0_within _ bytes parts.4.0 parts.4.1)
in_range (w.recv a k) words h = tt
in_range (w.look a d) words h = tt
in_range (w.log a s v) words h = tt
in_range (w.queue a s v) words h = tt
in_range (w.append a s bytes) words h = let parts = three_parts _ _ _ words h in hex0_within _ bytes parts.2.0 parts.2.1
in_range (w.push a s bytes) words h = let parts = three_parts _ _ _ words h in hex0_within _ bytes parts.2.0 parts.2.1
in_range (w.trim a s n) words h = let parts = three_parts _ _ _ words h in (parts.2.1.1, parts.2.1.2)
in_range (w.pop a s) words h = tt
in_range (w.walk a s n) words h = let parts = three_parts _ _ _ words h in (parts.2.1.1, parts.2.1.2)
in_range (w.poll a s) words h = tt
in_range (w.settle a s) words h = tt
in_range (w.close a s) words h = tt
in_range (w.dev a v) words h = tt
in_range (w.wire bytes) words h = let parts = one_parts _ words h in (parts.1.3, parts.1.4)
in_range (w.tick n) words h = let parts = one_parts _ words h in (parts.1.1, parts.1.2)
