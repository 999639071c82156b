-- What a word gives with the words behind it is of its form: the words with a form of their own.
use Rattle.std.proofs.Common.{◌≡◌, ◌⊎◌, ℕ, ◌≤◌, nat_le, List, [], ◌∷◌, Option, Some, None, refl, subst, inl, inr, arith}
use Rattle.std.proofs.lemmas.Option.{same_Some, cond_some}
use Rattle.ark_script.specs.Arguments.{IsName, IsNumber, IsRingSize, IsHex, IsHex0, IsKind, fewest_blocks, IsDirection, IsIp}
use Rattle.ark_script.specs.Form.{One, Two, Three, Four, Five, AreArguments, most_blocks, a_billion}
use Rattle.ark_base.specs.declared.kind.Kind.{Kind}
use Rattle.ark_base.specs.declared.kind.Kind.TheVariants as kind
use Rattle.ark_filters.specs.declared.filter.Direction.{Direction}
use Rattle.ark_filters.specs.declared.filter.Filter.{Filter}
use Rattle.std.specs.Option.{option_or}
use Rattle.std.proofs.lemmas.Bool.{leb-true, le-leb}
use Rattle.ark_script.specs.Line as w
use Rattle.ark_script.specs.Line.{Line}
use Rattle.ark_reading.specs.declared.word.Word.TheVariants as word
use Rattle.ark_forms.proofs.Arguing.{name_reads, number_reads, size_reads, hex_reads, hex0_reads}
use Rattle.ark_forms.proofs.Choosing.{kind_reads, direction_reads, proto_reads}
use Rattle.ark_forms.proofs.Addressing.{ip_reads, peers_reads}
use Rattle.ark_forms.proofs.Serving.{services_reads}
use Rattle.ark_forms.proofs.Readers.{Reads, bind_some}
use Rattle.ark_reading.proofs.Sentences.{one_reads, two_reads, three_reads, four_reads, five_reads}
use Rattle.ark_reading.proofs.Shaping.{Formed}
use Rattle.ark_forms.specs.Reading.{name_of, number_of, size_of, hex_of, hex0_of, kind_of, direction_of, proto_of, ip_of, one_of, two_of, three_of, four_of, five_of, six_of}
use Rattle.ark_forms.specs.Listed.{peers_of, services_of}
use Rattle.ark_reading.specs.Sentence.{one_read, two_read, three_read, four_read, five_read}
use Rattle.ark_reading.specs.Shape.{read_nic, read_bare_app, read_sized_app, read_app, read_vsic, read_vnic, read_vsa, read_filter, read_take, read_sendto, read_wire, read_tick}

pub nic_reads : Reads (three_read (hex_of 6 6) ip_of (hex_of 6 6)) (λ (p : List ℕ × List ℕ × List ℕ). Three (IsHex 6 6 p.0) (IsIp p.1) (IsHex 6 6 p.2))
nic_reads = three_reads (hex_of 6 6) (IsHex 6 6) ip_of IsIp (hex_of 6 6) (IsHex 6 6) (hex_reads 6 6) ip_reads (hex_reads 6 6)

pub nic_sound : (words : List (List ℕ)) (asked : Line) → read_nic words ≡ Some asked → Formed word.Nic words asked
unfolding read_nic
nic_sound words asked h =
    let s = bind_some _ _ asked h in
    subst (Formed word.Nic words) (same_Some _ _ s.2) (refl, nic_reads.sound words s.0 s.1)

pub bare_app_reads : Reads (one_read name_of) (λ (p : List ℕ). One (IsName p))
bare_app_reads = one_reads name_of IsName name_reads

pub bare_app_sound : (words : List (List ℕ)) (asked : Line) → read_bare_app words ≡ Some asked → Formed word.App words asked
unfolding read_bare_app
bare_app_sound words asked h =
    let s = bind_some _ _ asked h in
    subst (Formed word.App words) (same_Some _ _ s.2) (refl, bare_app_reads.sound words s.0 s.1)

pub sized_app_reads : Reads (two_read name_of (number_of 4 4096)) (λ (p : List ℕ × ℕ). Two (IsName p.0) (IsNumber 4 4096 p.1))
sized_app_reads = two_reads name_of IsName (number_of 4 4096) (IsNumber 4 4096) name_reads (number_reads 4 4096 (omega arith))

pub sized_app_sound : (words : List (List ℕ)) (asked : Line) → read_sized_app words ≡ Some asked → Formed word.App words asked
unfolding read_sized_app
sized_app_sound words asked h =
    let s = bind_some _ _ asked h in
    subst (Formed word.App words) (same_Some _ _ s.2) (refl, sized_app_reads.sound words s.0 s.1)

or_some : {A : Type 0} (o p : Option A) (x : A) → option_or o p ≡ Some x → (o ≡ Some x) ⊎ (p ≡ Some x)
or_some None p x h = inr h
or_some (Some y) p x h = inl h

pub app_sound : (words : List (List ℕ)) (asked : Line) → read_app words ≡ Some asked → Formed word.App words asked
unfolding read_app
app_sound words asked h =
    elim (or_some (read_bare_app words) (read_sized_app words) asked h) [
      | inl bare ↦ bare_app_sound words asked bare
      | inr sized ↦ sized_app_sound words asked sized
    ]

-- with a number behind the name it is no bare name
pub no_bare_app : (words : List (List ℕ)) (A B : List ℕ → Type 0) → Two A B words → read_bare_app words ≡ None
unfolding read_bare_app one_read one_of
no_bare_app [] A B h = refl
no_bare_app (a ∷ []) A B h = absurd h
no_bare_app (a ∷ b ∷ words) A B h = refl

pub vsic_reads : Reads (three_read name_of name_of size_of) (λ (p : List ℕ × List ℕ × ℕ). Three (IsName p.0) (IsName p.1) (IsRingSize p.2))
vsic_reads = three_reads name_of IsName name_of IsName size_of IsRingSize name_reads name_reads size_reads

pub vsic_sound : (words : List (List ℕ)) (asked : Line) → read_vsic words ≡ Some asked → Formed word.Vsic words asked
unfolding read_vsic
vsic_sound words asked h =
    let s = bind_some _ _ asked h in
    subst (Formed word.Vsic words) (same_Some _ _ s.2) (refl, vsic_reads.sound words s.0 s.1)

pub vnic_reads : Reads (four_read name_of name_of size_of size_of) (λ (p : List ℕ × List ℕ × ℕ × ℕ). Four (IsName p.0) (IsName p.1) (IsRingSize p.2) (IsRingSize p.3))
vnic_reads = four_reads name_of IsName name_of IsName size_of IsRingSize size_of IsRingSize name_reads name_reads size_reads size_reads

pub vnic_sound : (words : List (List ℕ)) (asked : Line) → read_vnic words ≡ Some asked → Formed word.Vnic words asked
unfolding read_vnic
vnic_sound words asked h =
    let s = bind_some _ _ asked h in
    subst (Formed word.Vnic words) (same_Some _ _ s.2) (refl, vnic_reads.sound words s.0 s.1)

pub vsa_reads : Reads (four_read name_of name_of (number_of 1 most_blocks) kind_of) (λ (p : List ℕ × List ℕ × ℕ × Kind). Four (IsName p.0) (IsName p.1) (IsNumber 1 most_blocks p.2) (IsKind p.3))
vsa_reads = four_reads name_of IsName name_of IsName (number_of 1 most_blocks) (IsNumber 1 most_blocks) kind_of IsKind name_reads name_reads (number_reads 1 most_blocks (omega arith)) kind_reads

pub raise_low : (words : List (List ℕ)) (A B D : List ℕ → Type 0) (low more high n : ℕ) → more ≤ n → Four A B (IsNumber low high n) D words → Four A B (IsNumber more high n) D words
raise_low (a ∷ b ∷ c ∷ d ∷ []) A B D low more high n le h = (h.0, h.1, (h.2.0, le, h.2.2), h.3)
raise_low [] A B D low more high n le h = absurd h
raise_low (a ∷ []) A B D low more high n le h = absurd h
raise_low (a ∷ b ∷ []) A B D low more high n le h = absurd h
raise_low (a ∷ b ∷ c ∷ []) A B D low more high n le h = absurd h
raise_low (a ∷ b ∷ c ∷ d ∷ e ∷ words) A B D low more high n le h = absurd h

-- the lowest number
pub low_of : (words : List (List ℕ)) (A B D : List ℕ → Type 0) (low high n : ℕ) → Four A B (IsNumber low high n) D words → low ≤ n
low_of (a ∷ b ∷ c ∷ d ∷ []) A B D low high n h = h.2.1
low_of [] A B D low high n h = absurd h
low_of (a ∷ []) A B D low high n h = absurd h
low_of (a ∷ b ∷ []) A B D low high n h = absurd h
low_of (a ∷ b ∷ c ∷ []) A B D low high n h = absurd h
low_of (a ∷ b ∷ c ∷ d ∷ e ∷ words) A B D low high n h = absurd h

pub some_blocks : (k : Kind) → 1 ≤ fewest_blocks k
some_blocks kind.Raw = omega arith
some_blocks kind.Log = omega arith
some_blocks kind.Queue = omega arith

pub vsa_sound : (words : List (List ℕ)) (asked : Line) → read_vsa words ≡ Some asked → Formed word.Vsa words asked
unfolding read_vsa
vsa_sound words asked h =
    let s = bind_some (four_read name_of name_of (number_of 1 most_blocks) kind_of words) _ asked h in
    let t = cond_some (nat_le (fewest_blocks s.0.3) s.0.2) _ _ s.2 in
    subst (Formed word.Vsa words) t.1 (refl, raise_low words (IsName s.0.0) (IsName s.0.1) (IsKind s.0.3) 1 (fewest_blocks s.0.3) most_blocks s.0.2 (leb-true _ _ t.0) (vsa_reads.sound words s.0 s.1))

pub vsa_complete : (words : List (List ℕ)) (a s : List ℕ) (n : ℕ) (k : Kind) → AreArguments (w.vsa a s n k) words → read_vsa words ≡ Some (w.vsa a s n k)
unfolding read_vsa
vsa_complete words a s n k h =
    let low : fewest_blocks k ≤ n = low_of words (IsName a) (IsName s) (IsKind k) (fewest_blocks k) most_blocks n h in
    let some = some_blocks k in
    let wide = raise_low words (IsName a) (IsName s) (IsKind k) (fewest_blocks k) 1 most_blocks n (omega arith) h in
    rw (vsa_reads.complete words (a, s, n, k) wide, le-leb _ _ low) refl

pub take_reads : Reads (three_read name_of name_of direction_of) (λ (p : List ℕ × List ℕ × Direction). Three (IsName p.0) (IsName p.1) (IsDirection p.2))
take_reads = three_reads name_of IsName name_of IsName direction_of IsDirection name_reads name_reads direction_reads

pub take_sound : (words : List (List ℕ)) (asked : Line) → read_take words ≡ Some asked → Formed word.Take words asked
unfolding read_take
take_sound words asked h =
    let s = bind_some _ _ asked h in
    subst (Formed word.Take words) (same_Some _ _ s.2) (refl, take_reads.sound words s.0 s.1)

pub sendto_reads : Reads (five_read name_of name_of ip_of (number_of 0 65535) (hex0_of 1472)) (λ (p : List ℕ × List ℕ × List ℕ × ℕ × List ℕ). Five (IsName p.0) (IsName p.1) (IsIp p.2) (IsNumber 0 65535 p.3) (IsHex0 1472 p.4))
sendto_reads = five_reads name_of IsName name_of IsName ip_of IsIp (number_of 0 65535) (IsNumber 0 65535) (hex0_of 1472) (IsHex0 1472) name_reads name_reads ip_reads (number_reads 0 65535 (omega arith)) (hex0_reads 1472)

pub sendto_sound : (words : List (List ℕ)) (asked : Line) → read_sendto words ≡ Some asked → Formed word.Sendto words asked
unfolding read_sendto
sendto_sound words asked h =
    let s = bind_some _ _ asked h in
    subst (Formed word.Sendto words) (same_Some _ _ s.2) (refl, sendto_reads.sound words s.0 s.1)

pub wire_reads : Reads (one_read (hex_of 14 1514)) (λ (p : List ℕ). One (IsHex 14 1514 p))
wire_reads = one_reads (hex_of 14 1514) (IsHex 14 1514) (hex_reads 14 1514)

pub wire_sound : (words : List (List ℕ)) (asked : Line) → read_wire words ≡ Some asked → Formed word.Wire words asked
unfolding read_wire
wire_sound words asked h =
    let s = bind_some _ _ asked h in
    subst (Formed word.Wire words) (same_Some _ _ s.2) (refl, wire_reads.sound words s.0 s.1)

pub tick_reads : Reads (one_read (number_of 1 a_billion)) (λ (p : ℕ). One (IsNumber 1 a_billion p))
tick_reads = one_reads (number_of 1 a_billion) (IsNumber 1 a_billion) (number_reads 1 a_billion (omega arith))

pub tick_sound : (words : List (List ℕ)) (asked : Line) → read_tick words ≡ Some asked → Formed word.Tick words asked
unfolding read_tick
tick_sound words asked h =
    let s = bind_some _ _ asked h in
    subst (Formed word.Tick words) (same_Some _ _ s.2) (refl, tick_reads.sound words s.0 s.1)

pub filter_sound : (words : List (List ℕ)) (asked : Line) → read_filter words ≡ Some asked → Formed word.Filter words asked
unfolding read_filter one_of two_of three_of four_of five_of six_of
filter_sound [] asked h = cc
filter_sound (a ∷ []) asked h = cc
filter_sound (a ∷ b ∷ []) asked h = cc
filter_sound (a ∷ b ∷ c ∷ []) asked h = cc
filter_sound (a ∷ b ∷ c ∷ d ∷ []) asked h = cc
filter_sound (a ∷ b ∷ c ∷ d ∷ e ∷ []) asked h = cc
filter_sound (a ∷ b ∷ c ∷ d ∷ e ∷ f ∷ []) asked h =
    let s0 = bind_some (name_of a) _ asked h in
    let s1 = bind_some (name_of b) _ asked s0.2 in
    let s2 = bind_some (direction_of c) _ asked s1.2 in
    let s3 = bind_some (proto_of d) _ asked s2.2 in
    let s4 = bind_some (peers_of s3.0 e) _ asked s3.2 in
    let s5 = bind_some (services_of s3.0 f) _ asked s4.2 in
    subst (Formed word.Filter (a ∷ b ∷ c ∷ d ∷ e ∷ f ∷ [])) {x = w.filter s0.0 s1.0 (record { direction = s2.0; proto = s3.0; peers = s4.0; services = s5.0 })} (same_Some _ _ s5.2)
    (refl, (name_reads.sound a s0.0 s0.1, name_reads.sound b s1.0 s1.1, direction_reads.sound c s2.0 s2.1, proto_reads.sound d s3.0 s3.1, (peers_reads s3.0).sound e s4.0 s4.1, (services_reads s3.0).sound f s5.0 s5.1))
filter_sound (a ∷ b ∷ c ∷ d ∷ e ∷ f ∷ g ∷ words) asked h = cc

pub filter_complete : (words : List (List ℕ)) (a f : List ℕ) (x : Filter) → AreArguments (w.filter a f x) words → read_filter words ≡ Some (w.filter a f x)
unfolding read_filter one_of two_of three_of four_of five_of six_of
filter_complete [] a f x h = absurd h
filter_complete (p ∷ []) a f x h = absurd h
filter_complete (p ∷ q ∷ []) a f x h = absurd h
filter_complete (p ∷ q ∷ r ∷ []) a f x h = absurd h
filter_complete (p ∷ q ∷ r ∷ s ∷ []) a f x h = absurd h
filter_complete (p ∷ q ∷ r ∷ s ∷ t ∷ []) a f x h = absurd h
filter_complete (p ∷ q ∷ r ∷ s ∷ t ∷ u ∷ []) a f x h =
    rw (name_reads.complete p a h.0, name_reads.complete q f h.1, direction_reads.complete r x.direction h.2, proto_reads.complete s x.proto h.3, (peers_reads x.proto).complete t x.peers h.4, (services_reads x.proto).complete u x.services h.5) refl
filter_complete (p ∷ q ∷ r ∷ s ∷ t ∷ u ∷ v ∷ words) a f x h = absurd h
