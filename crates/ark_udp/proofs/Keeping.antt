-- The datagrams that a socket keeps, cut from its bytes.
use Rattle.std.proofs.Common.{◌≡◌, ℕ, ◌+◌, ◌-◌, ◌*◌, ◌≤◌, ◌<◌, min, suc, List, [], ◌∷◌, ◌++◌, length, take, drop, refl, ap, ◌∙◌, arith, length-append, length-drop}
use Rattle.std.specs.List.{AllByRecursion}
use Rattle.std.proofs.lemmas.List.{take-append-le, drop-append-le, take_all}
use Rattle.ark_udp.specs.declared.peer.Head.{Head}
use Rattle.ark_udp.specs.Socket.{Datagram, Socket}
use Rattle.ark_udp.specs.Kept.{IsKept, cut, total}

abbrev pub kept : Head → List ℕ → Datagram
kept h payload = record { ip = h.from.ip; port = h.from.port; payload = payload }

pub length-cut : (heads : List Head) (bytes : List ℕ) → length (cut heads bytes) ≡ length heads
length-cut [] bytes = refl
length-cut (h ∷ heads) bytes = ap (λ n. suc n) (length-cut heads (drop h.len bytes))

total-push : (heads : List Head) (h : Head) → total (heads ++ h ∷ []) ≡ total heads + h.len
total-push [] h = omega arith
total-push (x ∷ heads) h = let e = total-push heads h in omega (arith, e)

pub total-most : (heads : List Head) → AllByRecursion (λ h. h.len ≤ 1472) heads → total heads ≤ 1472 * length heads
total-most [] short = omega arith
total-most (h ∷ heads) short = let rest = total-most heads short.1 in let first = short.0 in omega (arith, rest, first)

short-push : (heads : List Head) (h : Head) → AllByRecursion (λ x. x.len ≤ 1472) heads → h.len ≤ 1472 → AllByRecursion (λ x. x.len ≤ 1472) (heads ++ h ∷ [])
short-push [] h short last = (last, tt)
short-push (x ∷ heads) h short last = (short.0, short-push heads h short.1 last)

no_bytes : (bytes : List ℕ) → length bytes ≡ 0 → bytes ≡ []
no_bytes [] e = refl
no_bytes (x ∷ bytes) e = absurd (omega (arith, e))

pub cut-push : (heads : List Head) (h : Head) (bytes payload : List ℕ) → length bytes ≡ total heads → length payload ≡ h.len → cut (heads ++ h ∷ []) (bytes ++ payload) ≡ cut heads bytes ++ kept h payload ∷ []
cut-push [] h bytes payload whole long =
    ap (λ xs. kept h (take h.len (xs ++ payload)) ∷ []) (no_bytes bytes whole)
    ∙ ap (λ xs. kept h xs ∷ []) (take_all h.len payload (let le : length payload ≤ h.len = omega (arith, long) in le))
cut-push (x ∷ heads) h bytes payload whole long =
    let le : x.len ≤ length bytes = omega (arith, whole) in
    let rest : length (drop x.len bytes) ≡ total heads = omega (arith, length-drop x.len bytes, whole) in
    ap (λ xs. kept x xs ∷ cut (heads ++ h ∷ []) (drop x.len (bytes ++ payload))) (take-append-le x.len bytes payload le)
    ∙ ap (λ xs. kept x (take x.len bytes) ∷ cut (heads ++ h ∷ []) xs) (drop-append-le x.len bytes payload le)
    ∙ ap (λ ds. kept x (take x.len bytes) ∷ ds) (cut-push heads h (drop x.len bytes) payload rest long)

-- one datagram more is kept
pub pushed : (heads : List Head) (h : Head) (bytes payload : List ℕ) → IsKept heads bytes → length heads < 8 → h.len ≤ 1472 → length payload ≡ h.len → IsKept (heads ++ h ∷ []) (bytes ++ payload)
pushed heads h bytes payload k room short long = record {
  few = let e = length-append heads (h ∷ []) in omega (arith, e, room);
  short = short-push heads h k.short short;
  whole = let e = length-append bytes payload in let t = total-push heads h in let w = k.whole in omega (arith, e, t, w, long);
}

-- without the oldest
pub popped : (h : Head) (heads : List Head) (bytes : List ℕ) → IsKept (h ∷ heads) bytes → IsKept heads (drop h.len bytes)
popped h heads bytes k = record {
  few = let f = k.few in omega (arith, f);
  short = k.short.1;
  whole = let w = k.whole in omega (arith, length-drop h.len bytes, w);
}

-- there is room for one more payload
pub filled : (heads : List Head) (bytes payload : List ℕ) (capacity count : ℕ) → IsKept heads bytes → length heads < 8 → capacity ≡ 11776 → length payload ≤ 1472
    → count ≡ min (length payload) (capacity - length bytes) → take count payload ≡ payload
filled heads bytes payload capacity count k room all short is =
    let most = total-most heads k.short in
    let whole = k.whole in
    take_all count payload (let le : length payload ≤ count = omega (arith, most, whole, room, all, short, is) in le)

abbrev pub keeping : ℕ → List Datagram → Socket
keeping port datagrams = record { port = port; datagrams = datagrams }
