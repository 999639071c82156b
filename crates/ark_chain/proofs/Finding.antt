-- What is found in an area, by its header and the entries that stand in its ring.
use Rattle.std.proofs.Common.{◌≡◌, ◌⊎◌, inl, inr, ℕ, true, ◌+◌, ◌-◌, ◌^◌, ◌<◌, ◌≤◌, List, [], ◌∷◌, Option, Some, None, length, drop, refl, sym, ◌∙◌, ap, subst, arith, drop-cons}
use Rattle.std.specs.Prelude.{is_some, Ok, Err}
use Rattle.std.proofs.lemmas.Bool.{false≢true}
use Rattle.std.proofs.lemmas.List.{length-drop, length-map, get_or-drop}
use Rattle.ark_base.specs.declared.kind.Kind.{Kind}
use Rattle.ark_media.specs.Journal.{AllBlocks, block}
use Rattle.ark_entry.specs.Entry.{AreWhole}
use Rattle.ark_entry.specs.Header.{Header, IsHeader as IsRight, is_zero, empty, bytes_of, header_of}
use Rattle.ark_entry.specs.Found.{Found, found, damaged, found_from, found_of}
use Rattle.ark_entry.specs.Reading.{reading, Finds, HasList, IsDamaged}
use Rattle.ark_entry.specs.Stated.{stated}
use Rattle.ark_entry.specs.declared.header.ChainHead.{ChainHead}
use Rattle.ark_entry.proofs.Headers.{read_was_written}
use Rattle.ark_entry.proofs.Readings.{one_list, stands_is_found, found_stands, damaged_means}
use Rattle.ark_chain.specs.declared.surveying.SurveyFault.{SurveyFault}
use Rattle.ark_chain.specs.declared.surveying.SurveyFault.TheVariants.{DeviceFault, Damaged}
use Rattle.ark_chain.specs.declared.surveying.Seen.{Seen}
use Rattle.ark_chain.specs.Survey.{IsSurvey}
use Rattle.ark_chain.specs.Walking.{AreFound, IsHeader}

abbrev head_or : Header → Option Header → Header
head_or h None = h
head_or h (Some x) = x

same_head : (o : Option Header) (g h : Header) → o ≡ Some g → o ≡ Some h → g ≡ h
same_head o g h a b = ap (head_or g) (sym a ∙ b)

-- a header that was read is right for its ring
pub right_head : (kind : Kind) (room : ℕ) (content : List ℕ) (h : Header) → 0 < room → header_of kind room content ≡ Some h → (1 ≤ h.first) × (h.start < room) × (h.count ≤ room) × (h.first + h.count ≤ 2 ^ 62 + 1)
right_head kind room content h some is = by (read_was_written kind room content h is)
  where
    by : ((is_zero content ≡ true) × (h ≡ empty)) ⊎ (IsRight room h × (content ≡ bytes_of kind h)) → (1 ≤ h.first) × (h.start < room) × (h.count ≤ room) × (h.first + h.count ≤ 2 ^ 62 + 1)
    by (inl zeros) =
        let first : h.first ≡ 1 = ap (λ (x : Header). x.first) zeros.1 in
        let start : h.start ≡ 0 = ap (λ (x : Header). x.start) zeros.1 in
        let count : h.count ≡ 0 = ap (λ (x : Header). x.count) zeros.1 in
        (omega (arith, first), omega (arith, start, some), omega (arith, count), omega (arith, first, count))
    by (inr written) = (written.0.some, written.0.start, written.0.count, written.0.last)

-- a list of which the header counts more than stand there
short_is_damaged : (kind : Kind) (header : List ℕ) (ring : List (List ℕ)) → AreWhole ring → 0 < length ring → (h : Header) → header_of kind (length ring) header ≡ Some h
    → (xs : List (List ℕ)) → Finds (length ring) h.start (reading ring h.start) 0 h.first xs → length xs < h.count → found_of kind (header ∷ ring) ≡ damaged (h.first + length xs)
short_is_damaged kind header ring whole some h is xs finds fewer = by (found_of kind (header ∷ ring)) refl
  where
    again : (g : Header) → header_of kind (length ring) header ≡ Some g → (ys : List (List ℕ)) → Finds (length ring) g.start (reading ring g.start) 0 g.first ys → ys ≡ xs
    again g of ys stand =
        let same : g ≡ h = same_head (header_of kind (length ring) header) g h of is in
        one_list (length ring) h.start (reading ring h.start) 0 h.first ys xs (subst (λ (x : Header). Finds (length ring) x.start (reading ring x.start) 0 x.first ys) same stand) finds

    by : (f : Found) → found_of kind (header ∷ ring) ≡ f → f ≡ damaged (h.first + length xs)
    by (found l) e = list (found_stands kind header ring whole some l e)
      where
        list : HasList kind header ring l → found l ≡ damaged (h.first + length xs)
        list (g, of, first, counts, stand) =
            let same : g ≡ h = same_head (header_of kind (length ring) header) g h of is in
            let count : g.count ≡ h.count = ap (λ (x : Header). x.count) same in
            let size : length l.payloads ≡ length xs = ap (λ (t : List (List ℕ)). length t) (again g of l.payloads stand) in
            absurd (omega (arith, counts, count, size, fewer))
    by (damaged n) e = number (damaged_means kind header ring whole some n e)
      where
        number : IsDamaged kind header ring n → damaged n ≡ damaged (h.first + length xs)
        number (inl none) = absurd (false≢true (sym (ap is_some none.0) ∙ ap is_some is))
        number (inr (g, ys, of, stand, few, at)) =
            let same : g ≡ h = same_head (header_of kind (length ring) header) g h of is in
            let first : g.first ≡ h.first = ap (λ (x : Header). x.first) same in
            let size : length ys ≡ length xs = ap (λ (t : List (List ℕ)). length t) (again g of ys stand) in
            let sum : n ≡ h.first + length xs = omega (arith, at, first, size) in
            ap (λ k. damaged k) sum

module _ (kind : Kind) (image : List (List ℕ)) (room : ℕ) (long : length image ≡ room + 1) where
  abbrev ring : List (List ℕ)
  ring = drop 1 image

  ring_long : length ring ≡ room
  ring_long = omega (arith, length-drop 1 image, long)

  in_parts : image ≡ block image 0 ∷ ring
  in_parts = drop-cons image 0 [] (omega (arith, long))

  pub no_header : header_of kind room (block image 0) ≡ None → found_of kind image ≡ damaged 0
  no_header none = ap (found_of kind) in_parts ∙ ap (λ n. found_from (header_of kind n (block image 0)) ring) ring_long ∙ ap (λ o. found_from o ring) none

  module _ (whole : AllBlocks image) (some : 0 < room) (h : Header) (is : header_of kind room (block image 0) ≡ Some h) where
    ring_whole : AreWhole ring
    ring_whole u lt =
        let e : 1 + u ≡ u + 1 = omega arith in
        ap length (get_or-drop 1 image u [] ∙ ap (block image) e) ∙ whole (u + 1) (omega (arith, lt, length-drop 1 image))

    is_here : header_of kind (length ring) (block image 0) ≡ Some h
    is_here = ap (λ n. header_of kind n (block image 0)) ring_long ∙ is

    in_ring : (first start : ℕ) (xs : List (List ℕ)) → Finds room start (reading ring start) 0 first xs → Finds (length ring) start (reading ring start) 0 first xs
    in_ring first start xs finds = subst (λ (n : ℕ). Finds n start (reading ring start) 0 first xs) (sym ring_long) finds

    pub whole_list : (xs : List (List ℕ)) → Finds room h.start (reading ring h.start) 0 h.first xs → h.count ≤ length xs → found_of kind image ≡ found (record { first = h.first; payloads = xs })
    whole_list xs finds counts = ap (found_of kind) in_parts
        ∙ stands_is_found kind (block image 0) ring ring_whole (omega (arith, some, ring_long)) h is_here (omega (arith, (right_head kind room (block image 0) h some is).1, ring_long)) xs (in_ring h.first h.start xs finds) counts

    pub short_list : (xs : List (List ℕ)) → Finds room h.start (reading ring h.start) 0 h.first xs → length xs < h.count → found_of kind image ≡ damaged (h.first + length xs)
    short_list xs finds fewer = ap (found_of kind) in_parts
        ∙ short_is_damaged kind (block image 0) ring ring_whole (omega (arith, some, ring_long)) h is_here xs (in_ring h.first h.start xs finds) fewer

  -- what the code answers
  pub bad_head : (fault : SurveyFault) (lengths : List ℕ) → IsHeader kind room (Err fault) image → IsSurvey kind (Err fault) lengths image
  bad_head DeviceFault lengths is whole = tt
  bad_head (Damaged n) lengths is whole = no_header is.1 ∙ ap (λ k. damaged k) (sym is.0)

  module _ (head : ChainHead) (lengths : List ℕ) (some : 0 < room) (is : IsHeader kind room (Ok head) image) (finds : AreFound room head.start head.first lengths image) where
    pub list_seen : (seen : Seen) → head.count ≤ length lengths → seen.first ≡ head.first → seen.start ≡ head.start → seen.count ≡ length lengths → IsSurvey kind (Ok seen) lengths image
    list_seen seen counts first start count whole =
        let f = finds whole in
        let size : length lengths ≡ length f.0 = ap (λ (l : List ℕ). length l) f.1 ∙ length-map f.0 (λ p. length p) in
        let less : length image - 1 ≡ room = omega (arith, long) in
        record {
          list = record { first = head.first; payloads = f.0 };
          is_found = whole_list whole some (stated head) is f.0 f.2 (omega (arith, counts, size));
          first = first;
          count = count ∙ size;
          lengths_are = f.1;
          start = (head.first, head.count, head.end, ap (λ n. header_of kind n (block image 0)) less ∙ is ∙ (λ i. Some (record { first = head.first; start = sym start i; count = head.count; end = head.end })));
        }

    pub list_short : (n : ℕ) → length lengths < head.count → n ≡ head.first + length lengths → IsSurvey kind (Err (Damaged n)) lengths image
    list_short n fewer at whole =
        let f = finds whole in
        let size : length lengths ≡ length f.0 = ap (λ (l : List ℕ). length l) f.1 ∙ length-map f.0 (λ p. length p) in
        let sum : head.first + length f.0 ≡ n = omega (arith, at, size) in
        short_list whole some (stated head) is f.0 f.2 (omega (arith, fewer, size)) ∙ ap (λ k. damaged k) sum
