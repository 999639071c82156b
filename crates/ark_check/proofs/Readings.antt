-- Reads, and reads of a view as those of its disk.
use Rattle.std.proofs.Common.{◌≡◌, ℕ, Bool, true, false, List, [], ◌∷◌, inl, inr, ⊎_elim, refl, sym, subst}
use Rattle.std.specs.Prelude.{map}
use Rattle.std.proofs.lemmas.Bool.{false≢true}
use Rattle.ark_media.specs.Journal.{Event, Read, Write, Sync, Out, HasFailed, AreReads}
use Rattle.ark_media.specs.Calls.{Makes, GoesBy}
use Rattle.ark_extents.specs.Views.{outer, GoesOver}
use Rattle.ark_chain.specs.Survey.{reads}
use Rattle.ark_check.specs.Reading.{IsReading}

pub none_read : IsReading true []
none_read = record { reads = tt; failed = λ no. absurd (false≢true (sym no)); worked = λ yes bad. bad }

-- a read before others
read_more : (n : ℕ) (ok : Bool) (es : List Event) → IsReading ok es → IsReading ok (Read n true ∷ es)
read_more n ok es rest = record {
  reads = rest.reads;
  failed = λ no. inr (rest.failed no);
  worked = λ yes bad. ⊎_elim (λ here. absurd (false≢true (sym here))) (λ later. rest.worked yes later) bad;
}

-- what comes of reads
pub made_reads : (blocks : List ℕ) (ok : Bool) (es : List Event) → Makes (reads blocks) ok es → IsReading ok es
made_reads [] ok [] made = subst (λ (b : Bool). IsReading b []) (sym made) none_read
made_reads [] ok (e ∷ es) made = absurd made
made_reads (n ∷ blocks) ok [] made = absurd made
made_reads (n ∷ blocks) ok (e ∷ es) (inl made) = subst (λ (x : Event). IsReading ok (x ∷ es)) (sym made.0) (read_more n ok es (made_reads blocks ok es made.1))
made_reads (n ∷ blocks) ok (e ∷ es) (inr made) =
    subst (λ (x : Event). IsReading ok (x ∷ es)) (sym made.0)
    (subst (λ (b : Bool). IsReading b (Read n false ∷ es)) (sym made.1)
    (subst (λ (l : List Event). IsReading false (Read n false ∷ l)) (sym made.2)
    (record { reads = tt; failed = λ no. inl refl; worked = λ yes. absurd (false≢true yes) })))

reads_over : (blocks : List ℕ) (es : List Event) → AreReads es → AreReads (map (outer blocks) es)
reads_over blocks [] are = tt
reads_over blocks (Read n ok ∷ es) are = reads_over blocks es are
reads_over blocks (Write n content took ok ∷ es) are = absurd are
reads_over blocks (Sync ok ∷ es) are = absurd are
reads_over blocks (Out bytes ∷ es) are = absurd are

failed_over : (blocks : List ℕ) (es : List Event) → AreReads es → HasFailed es → HasFailed (map (outer blocks) es)
failed_over blocks [] are bad = bad
failed_over blocks (Read n ok ∷ es) are bad = ⊎_elim (λ here. inl here) (λ later. inr (failed_over blocks es are later)) bad
failed_over blocks (Write n content took ok ∷ es) are bad = absurd are
failed_over blocks (Sync ok ∷ es) are bad = absurd are
failed_over blocks (Out bytes ∷ es) are bad = absurd are

failed_under : (blocks : List ℕ) (es : List Event) → AreReads es → HasFailed (map (outer blocks) es) → HasFailed es
failed_under blocks [] are bad = bad
failed_under blocks (Read n ok ∷ es) are bad = ⊎_elim (λ here. inl here) (λ later. inr (failed_under blocks es are later)) bad
failed_under blocks (Write n content took ok ∷ es) are bad = absurd are
failed_under blocks (Sync ok ∷ es) are bad = absurd are
failed_under blocks (Out bytes ∷ es) are bad = absurd are

pub reading_over : (blocks : List ℕ) (ok : Bool) (es : List Event) → IsReading ok es → IsReading ok (map (outer blocks) es)
reading_over blocks ok es reading = record {
  reads = reads_over blocks es reading.reads;
  failed = λ no. failed_over blocks es reading.reads (reading.failed no);
  worked = λ yes bad. reading.worked yes (failed_under blocks es reading.reads bad);
}

-- reads through a view
pub goes_reading : {D : Type 0} (goes : D → List Event → D → Type 0) (spans blocks : List ℕ) (done ok : Bool) (es : List Event) (old first new last : D)
    → done ≡ ok → first ≡ old → last ≡ new → Makes (reads blocks) done es → GoesOver goes spans es first last → GoesBy goes old new (IsReading ok)
goes_reading goes spans blocks done ok es old first new last same from to made over = record {
  events = map (outer spans) es;
  goes_on = subst (λ d. goes old (map (outer spans) es) d) to (subst (λ d. goes d (map (outer spans) es) last) from over.goes_on);
  does = reading_over spans ok es (made_reads blocks ok es (subst (λ (b : Bool). Makes (reads blocks) b es) same made));
}
