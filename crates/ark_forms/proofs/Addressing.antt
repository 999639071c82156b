-- IPv4 addresses and peers are read just where a word spells them.
use Rattle.std.proofs.Common.{◌≡◌, ℕ, ◌≤◌, suc, zero, bytes_eq, List, [], ◌∷◌, ◌++◌, length, codes, Option, Some, None, refl, sym, ap, subst, inl, inr, arith}
use Rattle.std.specs.Option.{option_map}
use Rattle.std.proofs.lemmas.Bool.{cases_Bool}
use Rattle.std.proofs.lemmas.Option.{same_Some}
use Rattle.std.proofs.lemmas.Slice.Eq.{bytes_eq-Decides}
use Rattle.ark_filters.specs.declared.filter.Peers.{Peers}
use Rattle.ark_filters.specs.declared.filter.Proto.{Proto}
use Rattle.ark_filters.specs.declared.filter.Proto.TheVariants as proto
use Rattle.ark_script.specs.Arguments.{IsNumber, IsIp, AreOctets}
use Rattle.ark_script.specs.Lists.{EachIs, IsPeer, ArePeers, peers_are}
use Rattle.ark_forms.specs.Listed.{each_of, peer_of, peers_of}
use Rattle.ark_script.specs.Words.{parts_of}
use Rattle.ark_forms.specs.Reading.{◌>>=◌, number_of, hex_of, ip_of, one_of, two_of, three_of, four_of}
use Rattle.ark_forms.proofs.Arguing.{chosen, hex_reads, number_reads}
use Rattle.ark_forms.proofs.Readers.{Reads, bind_some}

abbrev octets_of : List (List ℕ) → Option (List ℕ)
octets_of words = four_of words >>= λ p. number_of 0 255 p.0 >>= λ a. number_of 0 255 p.1 >>= λ b. number_of 0 255 p.2 >>= λ c. number_of 0 255 p.3 >>= λ d. Some (a ∷ b ∷ c ∷ d ∷ [])

octets_reads : Reads octets_of AreOctets
unfolding one_of two_of three_of four_of
octets_reads = record { sound = sound; complete = complete }
  where
    octet : Reads (number_of 0 255) (IsNumber 0 255)
    octet = number_reads 0 255 (omega arith)

    sound : (words : List (List ℕ)) (ip : List ℕ) → octets_of words ≡ Some ip → AreOctets ip words
    sound [] ip h = cc
    sound (w ∷ []) ip h = cc
    sound (w ∷ x ∷ []) ip h = cc
    sound (w ∷ x ∷ y ∷ []) ip h = cc
    sound (w ∷ x ∷ y ∷ z ∷ []) ip h =
        let s0 = bind_some (number_of 0 255 w) _ ip h in
        let s1 = bind_some (number_of 0 255 x) _ ip s0.2 in
        let s2 = bind_some (number_of 0 255 y) _ ip s1.2 in
        let s3 = bind_some (number_of 0 255 z) _ ip s2.2 in
        subst (λ (o : List ℕ). AreOctets o (w ∷ x ∷ y ∷ z ∷ [])) (same_Some _ _ s3.2)
        (octet.sound w s0.0 s0.1, octet.sound x s1.0 s1.1, octet.sound y s2.0 s2.1, octet.sound z s3.0 s3.1)
    sound (w ∷ x ∷ y ∷ z ∷ v ∷ vs) ip h = cc

    complete : (words : List (List ℕ)) (ip : List ℕ) → AreOctets ip words → octets_of words ≡ Some ip
    complete (w ∷ x ∷ y ∷ z ∷ []) (a ∷ b ∷ c ∷ d ∷ []) h =
        rw (octet.complete w a h.0, octet.complete x b h.1, octet.complete y c h.2, octet.complete z d h.3) refl
    complete words [] h = absurd h
    complete words (a ∷ []) h = absurd h
    complete words (a ∷ b ∷ []) h = absurd h
    complete words (a ∷ b ∷ c ∷ []) h = absurd h
    complete words (a ∷ b ∷ c ∷ d ∷ e ∷ es) h = absurd h
    complete [] (a ∷ b ∷ c ∷ d ∷ []) h = absurd h
    complete (w ∷ []) (a ∷ b ∷ c ∷ d ∷ []) h = absurd h
    complete (w ∷ x ∷ []) (a ∷ b ∷ c ∷ d ∷ []) h = absurd h
    complete (w ∷ x ∷ y ∷ []) (a ∷ b ∷ c ∷ d ∷ []) h = absurd h
    complete (w ∷ x ∷ y ∷ z ∷ v ∷ vs) (a ∷ b ∷ c ∷ d ∷ []) h = absurd h

pub ip_reads : Reads ip_of IsIp
unfolding ip_of
ip_reads = record { sound = λ word ip h. octets_reads.sound (parts_of 46 word) ip h; complete = λ word ip h. octets_reads.complete (parts_of 46 word) ip h }

wide : List ℕ → List ℕ
wide ip = ip ++ (0 ∷ (0 ∷ []))

ip_peer : (word peer : List ℕ) → (ip_of word >>= λ ip. Some (ip ++ (0 ∷ (0 ∷ [])))) ≡ Some peer → (ip : List ℕ) × IsIp ip word × (peer ≡ ip ++ (0 ∷ (0 ∷ [])))
ip_peer word peer h =
    let s = bind_some (ip_of word) _ peer h in
    (s.0, ip_reads.sound word s.0 s.1, sym (same_Some _ _ s.2))

peer_ip : (word peer : List ℕ) → (ip : List ℕ) × IsIp ip word × (peer ≡ ip ++ (0 ∷ (0 ∷ []))) → (ip_of word >>= λ ip. Some (ip ++ (0 ∷ (0 ∷ [])))) ≡ Some peer
peer_ip word peer h = rw (ip_reads.complete word h.0 h.1) (ap Some (sym h.2))

pub peer_reads : (p : Proto) → Reads (peer_of p) (IsPeer p)
unfolding peer_of
peer_reads proto.Eth = record { sound = λ word peer h. (hex_reads 6 6).sound word peer h; complete = λ word peer h. (hex_reads 6 6).complete word peer h }
peer_reads proto.Ip = record { sound = ip_peer; complete = peer_ip }
peer_reads proto.Udp = record { sound = ip_peer; complete = peer_ip }
peer_reads proto.Tcp = record { sound = ip_peer; complete = peer_ip }

-- items one by one
pub each_sound : {A : Type 0} (f : List ℕ → Option A) (P : A → List ℕ → Type 0) → Reads f P
    → (room : ℕ) (words : List (List ℕ)) (items : List A) → each_of f room words ≡ Some items → EachIs P items words × (length items ≤ room)
each_sound f P r room [] items h = subst (λ (xs : List _). EachIs P xs [] × (length xs ≤ room)) (same_Some _ _ h) (tt, omega arith)
each_sound f P r zero (word ∷ words) items h = cc
each_sound f P r (suc room) (word ∷ words) items h =
    let s = bind_some (f word) _ items h in
    let t = bind_some (each_of f room words) _ items s.2 in
    let more = each_sound f P r room words t.0 t.1 in
    subst (λ (xs : List _). EachIs P xs (word ∷ words) × (length xs ≤ suc room)) (same_Some _ _ t.2) ((r.sound word s.0 s.1, more.0), omega (arith, more.1))

pub each_complete : {A : Type 0} (f : List ℕ → Option A) (P : A → List ℕ → Type 0) → Reads f P
    → (room : ℕ) (words : List (List ℕ)) (items : List A) → EachIs P items words → length items ≤ room → each_of f room words ≡ Some items
each_complete f P r room [] [] h k = refl
each_complete f P r room [] (x ∷ xs) h k = absurd h
each_complete f P r room (word ∷ words) [] h k = absurd h
each_complete f P r zero (word ∷ words) (x ∷ xs) h k = absurd (omega arith)
each_complete f P r (suc room) (word ∷ words) (x ∷ xs) h k =
    rw (r.complete word x h.0, each_complete f P r room words xs h.1 (omega arith)) refl

pub map_some : {A B : Type 0} (f : A → B) (o : Option A) (y : B) → option_map f o ≡ Some y → (x : A) × (o ≡ Some x) × (y ≡ f x)
map_some f None y h = cc h
map_some f (Some x) y h = (x, refl, sym (same_Some _ _ h))

-- `*` is no peer
no_star : (p : Proto) → each_of (peer_of p) 8 (parts_of 44 (codes "*")) ≡ None
unfolding peer_of hex_of ip_of one_of two_of three_of four_of
no_star proto.Eth = refl
no_star proto.Ip = refl
no_star proto.Udp = refl
no_star proto.Tcp = refl

pub peers_reads : (p : Proto) → Reads (peers_of p) (ArePeers p)
unfolding peers_of
peers_reads p = record { sound = sound; complete = complete }
  where
    sound : (word : List ℕ) (peers : Peers) → peers_of p word ≡ Some peers → ArePeers p peers word
    sound word peers h =
        elim (chosen word (codes "*") (peers_are []) peers _ h) [
          | inl all ↦ inl (all.0, sym all.1)
          | inr some ↦
              let m = map_some peers_are (each_of (peer_of p) 8 (parts_of 44 word)) peers some.1 in
              let each = each_sound (peer_of p) (IsPeer p) (peer_reads p) 8 (parts_of 44 word) m.0 m.1 in
              inr (m.0, each.0, each.1, m.2)
        ]

    complete : (word : List ℕ) (peers : Peers) → ArePeers p peers word → peers_of p word ≡ Some peers
    complete word peers (inl all) = rw all.0 (ap Some (sym all.1))
    complete word peers (inr some) =
        let each = each_complete (peer_of p) (IsPeer p) (peer_reads p) 8 (parts_of 44 word) some.0 some.1 some.2 in
        elim (cases_Bool (bytes_eq word (codes "*"))) [
          | inl same ↦ absurd (let star = rw ((bytes_eq-Decides word (codes "*")).0 same) at each in cc (no_star p, star))
          | inr other ↦ rw (other, each) (ap Some (sym some.3))
        ]
