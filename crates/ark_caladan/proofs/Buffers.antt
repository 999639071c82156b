-- The calls of an open log's descriptors; what a pop has read; where entries that wait will stand; and which commands may wait.
use Rattle.std.proofs.Common.{◌≡◌, ◌⊎◌, inl, inr, ℕ, zero, suc, Bool, false, ◌+◌, ◌-◌, ◌*◌, ◌%◌, ◌<◌, ◌≤◌, List, [], ◌∷◌, ◌++◌, length, take, drop, get_or, refl, sym, ◌∙◌, ap, subst, arith, slice_range, if◌then◌else◌}
use Rattle.std.specs.Prelude.{sum_by, nat_lt}
use Rattle.std.proofs.Math.Nat.{mod-lt, mod-add-mod}
use Rattle.std.proofs.lemmas.List.{take-append-drop, append-nil, append_assoc, drop-take, take-take}
use Rattle.std.proofs.lemmas.List.Sums.{sum_by-append, sum_by-cons, sum_by_push, sum_by-take-le}
use Rattle.ark_base.specs.declared.kind.Kind.{Kind}
use Rattle.ark_media.specs.Journal.{History, block, current}
use Rattle.ark_entry.specs.Header.{Header, bytes_of}
use Rattle.ark_entry.specs.Entry.{entry_blocks, entry_bytes, marked}
use Rattle.ark_entry.specs.Found.{Entries}
use Rattle.ark_entry.specs.Reading.{bytes_from, Stands}
use Rattle.ark_entry.specs.Writing.{at}
use Rattle.ark_caladan.specs.Chain.{Command, append, trim, pop, after_command, blocks_of}
use Rattle.ark_caladan.specs.Leaves.{LiesInRing, freed_by}
use Rattle.ark_caladan.specs.Views.{view_of}
use Rattle.ark_caladan.specs.Stages.{syncs, calls_of, call_of, resting, IsAt}
use Rattle.ark_caladan.specs.Plans.{ring_place, header_after, drop_stages, stages_of, added_by}
use Rattle.ark_caladan.specs.Open.{Layout, layout_after, IsOpenWith}
use Rattle.ark_caladan.specs.Postings.{flushes, posted_call, drop_postings, postings_of, buffer_of, place_behind, HoldsEntry, HoldEntries, HasRead, bytes_block}
use Rattle.ark_caladan.proofs.Places.{view_at}
use Rattle.ark_caladan.proofs.Viewed.{length-ring_places}
use Rattle.ark_caladan.proofs.Appending.{ls, used}
use Rattle.ark_caladan.proofs.Dropping.{has_room}
use Rattle.ark_caladan.proofs.Posting.{append_posts, drop_posts, pop_loads}

long_header : (kind : Kind) (h : Header) → length (bytes_of kind h) ≡ 512
long_header kind h = refl

module _ (kind : Kind) (room : ℕ) (history : History) (blocks : List ℕ) (p : Layout) (l : Entries) where
  many : 0 < room → LiesInRing kind room p.header p.says p.stored l → length p.stored ≡ blocks_of l.payloads
  many some lies = used kind room some p.header p.says p.stored l lies

  low : (k : ℕ) → 0 < room → LiesInRing kind room p.header p.says p.stored l → blocks_of (take k l.payloads) ≤ length p.stored
  low k some lies =
      let le : blocks_of (take k l.payloads) ≤ blocks_of l.payloads = sum_by-take-le (λ q. entry_blocks (length q)) l.payloads k in
      omega (arith, le, many some lies)

  drops : (c : Command) → freed_by l c ≤ length p.stored → {cs : List Command} {done n : ℕ} → IsOpenWith kind room history blocks p l cs done n → (i k : ℕ) → i < 4
      → k < calls_of (get_or (drop_stages room (bytes_of kind (header_after room p.says l c)) p.says p.stored (freed_by l c)) i syncs)
      → posted_call blocks (get_or (drop_postings room (bytes_of kind (header_after room p.says l c)) p.says.start (freed_by l c)) i flushes) k
      ≡ call_of blocks (get_or (drop_stages room (bytes_of kind (header_after room p.says l c)) p.says p.stored (freed_by l c)) i syncs) k
  drops c freed_low opened i k less lt =
      drop_posts kind room opened.waits.some blocks opened.size p.header p.says p.stored l (ls kind room opened.waits.some p.header p.says p.stored l opened.waits.lies) (many opened.waits.some opened.waits.lies) opened.waits.lies.fits
      (bytes_of kind (header_after room p.says l c)) (freed_by l c) freed_low (long_header kind (header_after room p.says l c)) i k less lt

  -- A descriptor that the oldest command posts makes the calls of its stage.
  pub posts_are_stages : (c : Command) (cs : List Command) (done n : ℕ) → IsOpenWith kind room history blocks p l (c ∷ cs) done n → (i k : ℕ) → i < length (stages_of kind room p.header p.says p.stored l c)
      → k < calls_of (get_or (stages_of kind room p.header p.says p.stored l c) i syncs) → posted_call blocks (get_or (postings_of kind room p.says l c) i flushes) k ≡ call_of blocks (get_or (stages_of kind room p.header p.says p.stored l c) i syncs) k
  posts_are_stages (append m payload) cs done n opened i k less lt =
      append_posts kind room opened.waits.some blocks opened.size p.header p.says p.stored l (ls kind room opened.waits.some p.header p.says p.stored l opened.waits.lies) (many opened.waits.some opened.waits.lies) opened.waits.lies.fits payload
      (has_room kind room opened.waits.some p.header p.says p.stored l opened.waits.lies m payload cs opened.waits.can).fits i k (omega (arith, less)) lt
  posts_are_stages (trim m) cs done n opened i k less lt = drops (trim m) (low (m - l.first) opened.waits.some opened.waits.lies) opened i k (omega (arith, less)) lt
  posts_are_stages (pop m) cs done n opened zero k less lt =
      pop_loads kind room opened.waits.some blocks opened.size p.header p.says p.stored l (ls kind room opened.waits.some p.header p.says p.stored l opened.waits.lies) (many opened.waits.some opened.waits.lies) opened.waits.lies.fits
      (bytes_of kind (header_after room p.says l (pop m))) (freed_by l (pop m)) (low 1 opened.waits.some opened.waits.lies) k (omega (arith, lt, length-ring_places room p.says.start 0 (freed_by l (pop m))))
  posts_are_stages (pop m) cs done n opened (suc i) k less lt = drops (pop m) (low 1 opened.waits.some opened.waits.lies) opened i k (omega (arith, less)) lt

  -- While it is at rest, a read of the ring gives the list's blocks.
  pub rest_reads : (took : Bool) (u : ℕ) → 0 < room → length blocks ≡ suc room → LiesInRing kind room p.header p.says p.stored l → u < room → IsAt history blocks (resting (view_of room p.header p.says.start p.stored) took)
      → block (current history.base history.journal) (get_or blocks (ring_place room p.says.start u) 0) ≡ at p.stored u
  rest_reads took u some size lies lt at_rest =
      at_rest.others (ring_place room p.says.start u) (omega (arith, size, inside)) (λ i less. absurd (omega (arith, less))) ∙ view_at room p.header p.says.start p.stored u (ls kind room some p.header p.says p.stored l lies) lt
    where
      inside : ring_place room p.says.start u < suc room
      inside = let e : (p.says.start + u) % room < room = mod-lt (p.says.start + u) some in omega (arith, e)

-- What a pop reads next is the list's next block.
pub pop_reads : (kind : Kind) (room : ℕ) (history : History) (blocks : List ℕ) (p : Layout) (l : Entries) (m : ℕ) (cs : List Command) (n : ℕ) → IsOpenWith kind room history blocks p l (pop m ∷ cs) 0 n → n < freed_by l (pop m)
    → block (current history.base history.journal) (get_or blocks (ring_place room p.says.start n) 0) ≡ at p.stored n
pop_reads kind room history blocks p l m cs n opened lt =
    rest_reads kind room history blocks p l false n opened.waits.some opened.size opened.waits.lies (omega (arith, lt, low kind room history blocks p l 1 opened.waits.some opened.waits.lies, opened.waits.lies.fits)) opened.at

-- Bytes that begin alike have the same blocks there.
pub same_block : (count k : ℕ) (a b : List ℕ) → k < count → take (512 * count) a ≡ take (512 * count) b → bytes_block a k ≡ bytes_block b k
same_block count k a b lt same = cut a ∙ ap (λ (x : List ℕ). take 512 (drop (512 * k) x)) same ∙ sym (cut b)
  where
    cut : (x : List ℕ) → take 512 (drop (512 * k) x) ≡ take 512 (drop (512 * k) (take (512 * count) x))
    cut x =
        let e : 512 * count ≡ 512 * k + (512 * count - 512 * k) = omega (arith, lt) in
        sym (ap (λ (m : ℕ). take 512 (drop (512 * k) (take m x))) e ∙ ap (λ (y : List ℕ). take 512 y) (drop-take (512 * k) (512 * count - 512 * k) x)
        ∙ take-take 512 (512 * count - 512 * k) (drop (512 * k) x) (omega (arith, lt)))

-- Where a new entry will stand is the same before and after each command that waits before it.
pub place_kept : (kind : Kind) (room : ℕ) (p : Layout) (l : Entries) (c : Command)
    → place_behind (layout_after kind room p l c).says (after_command l c) % room ≡ (place_behind p.says l + added_by c) % room
place_kept kind room p l (append n payload) =
    let more : blocks_of (l.payloads ++ payload ∷ []) ≡ blocks_of l.payloads + entry_blocks (length payload) = sum_by_push (λ q. entry_blocks (length q)) l.payloads payload in
    let e : p.says.start + blocks_of (l.payloads ++ payload ∷ []) ≡ p.says.start + blocks_of l.payloads + entry_blocks (length payload) = omega (arith, more) in
    ap (λ m. m % room) e
place_kept kind room p l (trim n) = dropped room p.says.start (n - l.first) l.payloads
  where
    dropped : (room start k : ℕ) (xs : List (List ℕ)) → ((start + blocks_of (take k xs)) % room + blocks_of (drop k xs)) % room ≡ (start + blocks_of xs + 0) % room
    dropped room start k xs =
        let whole : blocks_of (take k xs ++ drop k xs) ≡ blocks_of xs = ap blocks_of (take-append-drop k xs) in
        let sum : blocks_of (take k xs ++ drop k xs) ≡ blocks_of (take k xs) + blocks_of (drop k xs) = sum_by-append (λ q. entry_blocks (length q)) (take k xs) (drop k xs) in
        let e : start + blocks_of (take k xs) + blocks_of (drop k xs) ≡ start + blocks_of xs + 0 = omega (arith, whole, sum) in
        mod-add-mod (start + blocks_of (take k xs)) room (blocks_of (drop k xs)) ∙ ap (λ m. m % room) e
place_kept kind room p l (pop n) = dropped room p.says.start 1 l.payloads
  where
    dropped : (room start k : ℕ) (xs : List (List ℕ)) → ((start + blocks_of (take k xs)) % room + blocks_of (drop k xs)) % room ≡ (start + blocks_of xs + 0) % room
    dropped room start k xs =
        let whole : blocks_of (take k xs ++ drop k xs) ≡ blocks_of xs = ap blocks_of (take-append-drop k xs) in
        let sum : blocks_of (take k xs ++ drop k xs) ≡ blocks_of (take k xs) + blocks_of (drop k xs) = sum_by-append (λ q. entry_blocks (length q)) (take k xs) (drop k xs) in
        let e : start + blocks_of (take k xs) + blocks_of (drop k xs) ≡ start + blocks_of xs + 0 = omega (arith, whole, sum) in
        mod-add-mod (start + blocks_of (take k xs)) room (blocks_of (drop k xs)) ∙ ap (λ m. m % room) e

-- Buffers of commands that wait.

same_buffer : (room a b number : ℕ) (payload : List ℕ) → a % room ≡ b % room → buffer_of room a number payload ≡ buffer_of room b number payload
same_buffer room a b number payload same =
    ap (λ m. entry_bytes number m payload) (sym (mod-add-mod a room (entry_blocks (length payload))) ∙ ap (λ m. (m + entry_blocks (length payload)) % room) same ∙ mod-add-mod b room (entry_blocks (length payload)))

hold_one : (room a b done : ℕ) (c : Command) (bytes : List ℕ) → a % room ≡ b % room → HoldsEntry room a done c bytes → HoldsEntry room b done c bytes
hold_one room a b done (append n payload) bytes same is = is ∙ ap (λ (x : List ℕ). if nat_lt done 2 then x else marked x) (same_buffer room a b n payload same)
hold_one room a b done (trim n) bytes same is = tt
hold_one room a b done (pop n) bytes same is = tt

-- they may be told from any place that wraps to the same,
pub hold_same : (room a b done : ℕ) (cs : List Command) (bs : List (List ℕ)) → a % room ≡ b % room → HoldEntries room a done cs bs → HoldEntries room b done cs bs
hold_same room a b done [] bs same is = is
hold_same room a b done (c ∷ cs) [] same is = is
hold_same room a b done (c ∷ cs) (x ∷ bs) same is =
    let further : (a + added_by c) % room ≡ (b + added_by c) % room = sym (mod-add-mod a room (added_by c)) ∙ ap (λ m. (m + added_by c) % room) same ∙ mod-add-mod b room (added_by c) in
    (hold_one room a b done c x same is.0, hold_same room (a + added_by c) (b + added_by c) 0 cs bs further is.1)

-- so that those behind an acknowledged command are right as they are,
pub hold_acked : (kind : Kind) (room : ℕ) (p : Layout) (l : Entries) (done : ℕ) (c : Command) (cs : List Command) (b : List ℕ) (bs : List (List ℕ)) → HoldEntries room (place_behind p.says l) done (c ∷ cs) (b ∷ bs)
    → HoldEntries room (place_behind (layout_after kind room p l c).says (after_command l c)) 0 cs bs
hold_acked kind room p l done c cs b bs is =
    hold_same room (place_behind p.says l + added_by c) (place_behind (layout_after kind room p l c).says (after_command l c)) 0 cs bs (sym (place_kept kind room p l c)) is.1

-- and so is one that comes behind them, at the place behind all their entries.
pub hold_more : (room place done : ℕ) (cs : List Command) (bs : List (List ℕ)) (c : Command) (b : List ℕ) → (0 < length cs ⊎ (done ≡ 0)) → HoldEntries room place done cs bs
    → HoldsEntry room (place + sum_by added_by cs) 0 c b → HoldEntries room place done (cs ++ c ∷ []) (bs ++ b ∷ [])
hold_more room place done [] bs c b (inl some) is one = absurd (omega (arith, some))
hold_more room place done [] bs c b (inr none) is one =
    let e : place + 0 ≡ place = omega arith in
    subst (λ (xs : List (List ℕ)). HoldEntries room place done (c ∷ []) (xs ++ b ∷ [])) (sym is)
    (subst (λ (d : ℕ). HoldEntries room place d (c ∷ []) (b ∷ [])) (sym none) (hold_one room (place + 0) place 0 c b (ap (λ m. m % room) e) one, refl))
hold_more room place done (x ∷ cs) [] c b some is one = absurd is
hold_more room place done (x ∷ cs) (y ∷ bs) c b some is one =
    let sum : sum_by added_by (x ∷ cs) ≡ added_by x + sum_by added_by cs = sum_by-cons added_by x cs in
    let e : place + sum_by added_by (x ∷ cs) ≡ place + added_by x + sum_by added_by cs = omega (arith, sum) in
    (is.0, hold_more room (place + added_by x) 0 cs bs c b (inr refl) is.1 (hold_one room (place + sum_by added_by (x ∷ cs)) (place + added_by x + sum_by added_by cs) 0 c b (ap (λ m. m % room) e) one))

-- What a pop reads.

bytes_more : (r : ℕ → List ℕ) (u n : ℕ) → bytes_from r u (suc n) ≡ bytes_from r u n ++ r (u + n)
bytes_more r u zero = let e : u ≡ u + 0 = omega arith in append-nil (r u) ∙ ap r e
bytes_more r u (suc n) =
    let e : u + 1 + n ≡ u + suc n = omega arith in
    ap (λ t. r u ++ t) (bytes_more r (u + 1) n ∙ ap (λ m. bytes_from r (u + 1) n ++ r m) e) ∙ sym (append_assoc (r u) (bytes_from r (u + 1) n) (r (u + suc n)))

-- one more block of the list is behind what was read
pub read_more : (stored : List (List ℕ)) (n : ℕ) (b b2 : List ℕ) → HasRead stored n b → take (512 * suc n) b2 ≡ take (512 * n) b ++ at stored n → HasRead stored (suc n) b2
read_more stored n b b2 was is =
    let e : 0 + n ≡ n = omega arith in
    is ∙ ap (λ t. t ++ at stored n) was ∙ ap (λ m. bytes_from (at stored) 0 n ++ at stored m) (sym e) ∙ sym (bytes_more (at stored) 0 n)

-- when all its blocks are read, the entry's payload stands in the buffer
pub popped_payload : (kind : Kind) (room : ℕ) (p : Layout) (l : Entries) (x : List ℕ) (xs : List (List ℕ)) (b : List ℕ) → l.payloads ≡ x ∷ xs → LiesInRing kind room p.header p.says p.stored l
    → HasRead p.stored (entry_blocks (length x)) b → slice_range (take (512 * entry_blocks (length x)) b) 20 (20 + length x) ≡ x
popped_payload kind room p l x xs b is lies read =
    ap (λ (t : List ℕ). slice_range t 20 (20 + length x)) read
    ∙ (subst (λ (ys : List (List ℕ)). Stands room p.says.start (at p.stored) 0 l.first ys (length p.stored)) is lies.stands).0.content
