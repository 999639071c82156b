-- What a word gives with the words behind it is of its form: the words that share one.
use Rattle.std.proofs.Common.{◌≡◌, ℕ, ◌-◌, ◌<◌, ◌^◌, List, Option, Some, refl, subst, arith}
use Rattle.std.proofs.lemmas.Option.{same_Some}
use Rattle.ark_script.specs.Arguments.{IsName, IsOptional, IsNumber, IsHex, IsHex0, IsSide}
use Rattle.ark_script.specs.Form.{Two, Three, Four, Six, AreArguments}
use Rattle.ark_script.specs.Line.{Line}
use Rattle.ark_script.specs.declared.step.Side.{Side}
use Rattle.ark_reading.specs.declared.word.Word.{Word}
use Rattle.ark_reading.specs.declared.word.Word.TheVariants as word
use Rattle.ark_reading.specs.declared.word.PairWord.{PairWord}
use Rattle.ark_reading.specs.declared.word.PairWord.TheVariants as pair
use Rattle.ark_reading.specs.declared.word.TripleWord.{TripleWord}
use Rattle.ark_reading.specs.declared.word.TripleWord.TheVariants as triple
use Rattle.ark_reading.specs.declared.word.CountWord.{CountWord}
use Rattle.ark_reading.specs.declared.word.CountWord.TheVariants as count
use Rattle.ark_reading.specs.declared.word.LengthWord.{LengthWord}
use Rattle.ark_reading.specs.declared.word.LengthWord.TheVariants as length
use Rattle.ark_reading.specs.declared.word.RangeWord.{RangeWord}
use Rattle.ark_reading.specs.declared.word.RangeWord.TheVariants as range
use Rattle.ark_reading.specs.declared.word.QueueWord.{QueueWord}
use Rattle.ark_reading.specs.declared.word.QueueWord.TheVariants as queued
use Rattle.ark_reading.specs.declared.word.TransferWord.{TransferWord}
use Rattle.ark_reading.specs.declared.word.TransferWord.TheVariants as transfer
use Rattle.ark_reading.specs.declared.word.EntryWord.{EntryWord}
use Rattle.ark_reading.specs.declared.word.EntryWord.TheVariants as entry
use Rattle.ark_reading.specs.declared.word.WriteWord.{WriteWord}
use Rattle.ark_reading.specs.declared.word.WriteWord.TheVariants as write
use Rattle.ark_forms.proofs.Arguing.{name_reads, optional_reads, number_reads, hex_reads, hex0_reads}
use Rattle.ark_forms.proofs.Choosing.{side_reads}
use Rattle.ark_forms.proofs.Readers.{Reads, bind_some}
use Rattle.ark_reading.proofs.Sentences.{two_reads, three_reads, four_reads, six_reads}
use Rattle.ark_reading.proofs.WordOf.{kind_of_line}
use Rattle.ark_forms.specs.Reading.{name_of, optional_of, number_of, hex_of, hex0_of, side_of}
use Rattle.ark_reading.specs.Sentence.{two_read, three_read, four_read, six_read}
use Rattle.ark_reading.specs.Shape.{count_range, length_range, range_most, write_most, pair_line, triple_line, count_line, length_line, range_line, queued_line, transfer_line, entry_line, write_line, read_pair, read_triple, read_count, read_length, read_range, read_queued, read_transfer, read_entry, read_write}

-- the line is of this word, and the words behind it are its arguments
abbrev pub Formed : Word → List (List ℕ) → Line → Type 0
Formed k words asked = (kind_of_line asked ≡ k) × AreArguments asked words

pub count_small : (k : CountWord) → (count_range k).1 < 2 ^ 64
count_small count.Grow = omega arith
count_small count.Buf = omega arith
count_small count.Peek = omega arith
count_small count.Trim = omega arith
count_small count.Walk = omega arith

pub length_small : (k : LengthWord) → (length_range k).1 < 2 ^ 64
length_small length.Copy = omega arith
length_small length.Send = omega arith
length_small length.Sock = omega arith

pub range_small : (k : RangeWord) → ((range_most k).0 < 2 ^ 64) × ((range_most k).1 < 2 ^ 64)
range_small range.Rate = (omega arith, omega arith)
range_small range.Show = (omega arith, omega arith)

pub write_small : (k : WriteWord) → (write_most k).0 < 2 ^ 64
write_small write.Fill = omega arith
write_small write.Poke = omega arith

pair_formed : (k : PairWord) (a : List ℕ) (x : List ℕ) (words : List (List ℕ)) → Two (IsName a) (IsName x) words → Formed (word.Pair k) words (pair_line k a x)
pair_formed pair.Door a x words h = (refl, h)
pair_formed pair.Drop a x words h = (refl, h)
pair_formed pair.Free a x words h = (refl, h)
pair_formed pair.Flush a x words h = (refl, h)
pair_formed pair.Reap a x words h = (refl, h)
pair_formed pair.Recv a x words h = (refl, h)
pair_formed pair.Look a x words h = (refl, h)
pair_formed pair.Pop a x words h = (refl, h)
pair_formed pair.Poll a x words h = (refl, h)
pair_formed pair.Settle a x words h = (refl, h)
pair_formed pair.Close a x words h = (refl, h)
pair_formed pair.Dev a x words h = (refl, h)

pub pair_reads : (k : PairWord) → Reads (two_read name_of name_of) (λ (p : List ℕ × List ℕ). Two (IsName p.0) (IsName p.1))
pair_reads k = two_reads name_of IsName name_of IsName name_reads name_reads

pub pair_sound : (k : PairWord) (words : List (List ℕ)) (asked : Line) → read_pair k words ≡ Some asked → Formed (word.Pair k) words asked
unfolding read_pair
pair_sound k words asked h =
    let s = bind_some _ _ asked h in
    subst (Formed (word.Pair k) words) (same_Some _ _ s.2)
    (pair_formed k s.0.0 s.0.1 words ((pair_reads k).sound words s.0 s.1))

triple_formed : (k : TripleWord) (a : List ℕ) (x : List ℕ) (y : List ℕ) (words : List (List ℕ)) → Three (IsName a) (IsName x) (IsName y) words → Formed (word.Triple k) words (triple_line k a x y)
triple_formed triple.Bind a x y words h = (refl, h)
triple_formed triple.Unbind a x y words h = (refl, h)
triple_formed triple.Assign a x y words h = (refl, h)
triple_formed triple.Post a x y words h = (refl, h)
triple_formed triple.Log a x y words h = (refl, h)
triple_formed triple.Queue a x y words h = (refl, h)

pub triple_reads : (k : TripleWord) → Reads (three_read name_of name_of name_of) (λ (p : List ℕ × List ℕ × List ℕ). Three (IsName p.0) (IsName p.1) (IsName p.2))
triple_reads k = three_reads name_of IsName name_of IsName name_of IsName name_reads name_reads name_reads

pub triple_sound : (k : TripleWord) (words : List (List ℕ)) (asked : Line) → read_triple k words ≡ Some asked → Formed (word.Triple k) words asked
unfolding read_triple
triple_sound k words asked h =
    let s = bind_some _ _ asked h in
    subst (Formed (word.Triple k) words) (same_Some _ _ s.2)
    (triple_formed k s.0.0 s.0.1 s.0.2 words ((triple_reads k).sound words s.0 s.1))

count_formed : (k : CountWord) (a : List ℕ) (x : List ℕ) (n : ℕ) (words : List (List ℕ)) → Three (IsName a) (IsName x) (IsNumber (count_range k).0 (count_range k).1 n) words → Formed (word.Count k) words (count_line k a x n)
count_formed count.Grow a x n words h = (refl, h)
count_formed count.Buf a x n words h = (refl, h)
count_formed count.Peek a x n words h = (refl, h)
count_formed count.Trim a x n words h = (refl, h)
count_formed count.Walk a x n words h = (refl, h)

pub count_reads : (k : CountWord) → Reads (three_read name_of name_of (number_of (count_range k).0 (count_range k).1)) (λ (p : List ℕ × List ℕ × ℕ). Three (IsName p.0) (IsName p.1) (IsNumber (count_range k).0 (count_range k).1 p.2))
count_reads k = three_reads name_of IsName name_of IsName (number_of (count_range k).0 (count_range k).1) (IsNumber (count_range k).0 (count_range k).1) name_reads name_reads (number_reads (count_range k).0 (count_range k).1 (count_small k))

pub count_sound : (k : CountWord) (words : List (List ℕ)) (asked : Line) → read_count k words ≡ Some asked → Formed (word.Count k) words asked
unfolding read_count
count_sound k words asked h =
    let s = bind_some _ _ asked h in
    subst (Formed (word.Count k) words) (same_Some _ _ s.2)
    (count_formed k s.0.0 s.0.1 s.0.2 words ((count_reads k).sound words s.0 s.1))

length_formed : (k : LengthWord) (a : List ℕ) (x : List ℕ) (y : List ℕ) (n : ℕ) (words : List (List ℕ)) → Four (IsName a) (IsName x) (IsName y) (IsNumber (length_range k).0 (length_range k).1 n) words → Formed (word.Length k) words (length_line k a x y n)
length_formed length.Copy a x y n words h = (refl, h)
length_formed length.Send a x y n words h = (refl, h)
length_formed length.Sock a x y n words h = (refl, h)

pub length_reads : (k : LengthWord) → Reads (four_read name_of name_of name_of (number_of (length_range k).0 (length_range k).1)) (λ (p : List ℕ × List ℕ × List ℕ × ℕ). Four (IsName p.0) (IsName p.1) (IsName p.2) (IsNumber (length_range k).0 (length_range k).1 p.3))
length_reads k = four_reads name_of IsName name_of IsName name_of IsName (number_of (length_range k).0 (length_range k).1) (IsNumber (length_range k).0 (length_range k).1) name_reads name_reads name_reads (number_reads (length_range k).0 (length_range k).1 (length_small k))

pub length_sound : (k : LengthWord) (words : List (List ℕ)) (asked : Line) → read_length k words ≡ Some asked → Formed (word.Length k) words asked
unfolding read_length
length_sound k words asked h =
    let s = bind_some _ _ asked h in
    subst (Formed (word.Length k) words) (same_Some _ _ s.2)
    (length_formed k s.0.0 s.0.1 s.0.2 s.0.3 words ((length_reads k).sound words s.0 s.1))

range_formed : (k : RangeWord) (a : List ℕ) (x : List ℕ) (m : ℕ) (n : ℕ) (words : List (List ℕ)) → Four (IsName a) (IsName x) (IsNumber 0 (range_most k).0 m) (IsNumber 1 (range_most k).1 n) words → Formed (word.Range k) words (range_line k a x m n)
range_formed range.Rate a x m n words h = (refl, h)
range_formed range.Show a x m n words h = (refl, h)

pub range_reads : (k : RangeWord) → Reads (four_read name_of name_of (number_of 0 (range_most k).0) (number_of 1 (range_most k).1)) (λ (p : List ℕ × List ℕ × ℕ × ℕ). Four (IsName p.0) (IsName p.1) (IsNumber 0 (range_most k).0 p.2) (IsNumber 1 (range_most k).1 p.3))
range_reads k = four_reads name_of IsName name_of IsName (number_of 0 (range_most k).0) (IsNumber 0 (range_most k).0) (number_of 1 (range_most k).1) (IsNumber 1 (range_most k).1) name_reads name_reads (number_reads 0 (range_most k).0 (range_small k).0) (number_reads 1 (range_most k).1 (range_small k).1)

pub range_sound : (k : RangeWord) (words : List (List ℕ)) (asked : Line) → read_range k words ≡ Some asked → Formed (word.Range k) words asked
unfolding read_range
range_sound k words asked h =
    let s = bind_some _ _ asked h in
    subst (Formed (word.Range k) words) (same_Some _ _ s.2)
    (range_formed k s.0.0 s.0.1 s.0.2 s.0.3 words ((range_reads k).sound words s.0 s.1))

queued_formed : (k : QueueWord) (a : List ℕ) (x : List ℕ) (y : Option (List ℕ)) (s : Side) (words : List (List ℕ)) → Four (IsName a) (IsName x) (IsOptional y) (IsSide s) words → Formed (word.Queue k) words (queued_line k a x y s)
queued_formed queued.Pace a x y s words h = (refl, h)
queued_formed queued.Watch a x y s words h = (refl, h)

pub queued_reads : (k : QueueWord) → Reads (four_read name_of name_of optional_of side_of) (λ (p : List ℕ × List ℕ × Option (List ℕ) × Side). Four (IsName p.0) (IsName p.1) (IsOptional p.2) (IsSide p.3))
queued_reads k = four_reads name_of IsName name_of IsName optional_of IsOptional side_of IsSide name_reads name_reads optional_reads side_reads

pub queued_sound : (k : QueueWord) (words : List (List ℕ)) (asked : Line) → read_queued k words ≡ Some asked → Formed (word.Queue k) words asked
unfolding read_queued
queued_sound k words asked h =
    let s = bind_some _ _ asked h in
    subst (Formed (word.Queue k) words) (same_Some _ _ s.2)
    (queued_formed k s.0.0 s.0.1 s.0.2 s.0.3 words ((queued_reads k).sound words s.0 s.1))

transfer_formed : (k : TransferWord) (a : List ℕ) (v : List ℕ) (s : List ℕ) (m : ℕ) (n : ℕ) (b : List ℕ) (words : List (List ℕ)) → Six (IsName a) (IsName v) (IsName s) (IsNumber 0 (2 ^ 32 - 1) m) (IsNumber 1 128 n) (IsName b) words → Formed (word.Transfer k) words (transfer_line k a v s m n b)
transfer_formed transfer.Get a v s m n b words h = (refl, h)
transfer_formed transfer.Put a v s m n b words h = (refl, h)

pub transfer_reads : (k : TransferWord) → Reads (six_read name_of name_of name_of (number_of 0 (2 ^ 32 - 1)) (number_of 1 128) name_of) (λ (p : List ℕ × List ℕ × List ℕ × ℕ × ℕ × List ℕ). Six (IsName p.0) (IsName p.1) (IsName p.2) (IsNumber 0 (2 ^ 32 - 1) p.3) (IsNumber 1 128 p.4) (IsName p.5))
transfer_reads k = six_reads name_of IsName name_of IsName name_of IsName (number_of 0 (2 ^ 32 - 1)) (IsNumber 0 (2 ^ 32 - 1)) (number_of 1 128) (IsNumber 1 128) name_of IsName name_reads name_reads name_reads (number_reads 0 (2 ^ 32 - 1) (omega arith)) (number_reads 1 128 (omega arith)) name_reads

pub transfer_sound : (k : TransferWord) (words : List (List ℕ)) (asked : Line) → read_transfer k words ≡ Some asked → Formed (word.Transfer k) words asked
unfolding read_transfer
transfer_sound k words asked h =
    let s = bind_some _ _ asked h in
    subst (Formed (word.Transfer k) words) (same_Some _ _ s.2)
    (transfer_formed k s.0.0 s.0.1 s.0.2 s.0.3 s.0.4 s.0.5 words ((transfer_reads k).sound words s.0 s.1))

entry_formed : (k : EntryWord) (a : List ℕ) (x : List ℕ) (bytes : List ℕ) (words : List (List ℕ)) → Three (IsName a) (IsName x) (IsHex0 32768 bytes) words → Formed (word.Entry k) words (entry_line k a x bytes)
entry_formed entry.Append a x bytes words h = (refl, h)
entry_formed entry.Push a x bytes words h = (refl, h)

pub entry_reads : (k : EntryWord) → Reads (three_read name_of name_of (hex0_of 32768)) (λ (p : List ℕ × List ℕ × List ℕ). Three (IsName p.0) (IsName p.1) (IsHex0 32768 p.2))
entry_reads k = three_reads name_of IsName name_of IsName (hex0_of 32768) (IsHex0 32768) name_reads name_reads (hex0_reads 32768)

pub entry_sound : (k : EntryWord) (words : List (List ℕ)) (asked : Line) → read_entry k words ≡ Some asked → Formed (word.Entry k) words asked
unfolding read_entry
entry_sound k words asked h =
    let s = bind_some _ _ asked h in
    subst (Formed (word.Entry k) words) (same_Some _ _ s.2)
    (entry_formed k s.0.0 s.0.1 s.0.2 words ((entry_reads k).sound words s.0 s.1))

write_formed : (k : WriteWord) (a : List ℕ) (x : List ℕ) (n : ℕ) (bytes : List ℕ) (words : List (List ℕ)) → Four (IsName a) (IsName x) (IsNumber 0 (write_most k).0 n) (IsHex 1 (write_most k).1 bytes) words → Formed (word.Write k) words (write_line k a x n bytes)
write_formed write.Fill a x n bytes words h = (refl, h)
write_formed write.Poke a x n bytes words h = (refl, h)

pub write_reads : (k : WriteWord) → Reads (four_read name_of name_of (number_of 0 (write_most k).0) (hex_of 1 (write_most k).1)) (λ (p : List ℕ × List ℕ × ℕ × List ℕ). Four (IsName p.0) (IsName p.1) (IsNumber 0 (write_most k).0 p.2) (IsHex 1 (write_most k).1 p.3))
write_reads k = four_reads name_of IsName name_of IsName (number_of 0 (write_most k).0) (IsNumber 0 (write_most k).0) (hex_of 1 (write_most k).1) (IsHex 1 (write_most k).1) name_reads name_reads (number_reads 0 (write_most k).0 (write_small k)) (hex_reads 1 (write_most k).1)

pub write_sound : (k : WriteWord) (words : List (List ℕ)) (asked : Line) → read_write k words ≡ Some asked → Formed (word.Write k) words asked
unfolding read_write
write_sound k words asked h =
    let s = bind_some _ _ asked h in
    subst (Formed (word.Write k) words) (same_Some _ _ s.2)
    (write_formed k s.0.0 s.0.1 s.0.2 s.0.3 words ((write_reads k).sound words s.0 s.1))
