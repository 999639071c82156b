-- Events that are kept go on: what was kept stands for the same.
use Rattle.std.proofs.Common.{◌≡◌, ℕ, zero, suc, Bool, ◌+◌, ◌-◌, ◌<◌, ◌≤◌, List, [], ◌∷◌, ◌++◌, length, take, drop, get_or, map, refl, sym, ◌∙◌, ap, subst, arith, append-nil, length-append, length-drop}
use Rattle.std.proofs.lemmas.List.{length-map, drop-append-le, take-append-le, take_all, map-append}
use Rattle.std.proofs.Math.ListN.{get_or-append}
use Rattle.std.proofs.Math.Seq.{drop-append_seam, get_or-append_seam}
use Rattle.ark_media.specs.Journal.{Event, Write, Out, output_of}
use Rattle.ark_media.proofs.Composing.{output_of-append}
use Rattle.ark_memory.specs.declared.tape.Kept.{Kept}
use Rattle.ark_memory.specs.declared.tape.Kept.TheVariants as kept
use Rattle.ark_memory.specs.Reels.{Taped, tape_with}
use Rattle.ark_memory.specs.Tape.{event_of, IsOnTape, AllWithin, Sound}

entry_more : (text more : List ℕ) (blocks others : List (List ℕ)) (e : Kept) → IsOnTape (length text) (length blocks) e → event_of (text ++ more) (blocks ++ others) e ≡ event_of text blocks e
entry_more text more blocks others (kept.Read n ok) h = refl
entry_more text more blocks others (kept.Write n at took ok) h = ap (λ (b : List ℕ). Write n b took ok) (get_or-append blocks others [] at h)
entry_more text more blocks others (kept.Sync ok) h = refl
entry_more text more blocks others (kept.Out from to) h =
    ap (λ t. Out (take (to - from) t)) (drop-append-le from text more (omega (arith, h)))
    ∙ ap Out (take-append-le (to - from) (drop from text) more (omega (arith, length-drop from text, h)))

entries_more : (text more : List ℕ) (blocks others : List (List ℕ)) (es : List Kept) → AllWithin (length text) (length blocks) es → map (event_of (text ++ more) (blocks ++ others)) es ≡ map (event_of text blocks) es
entries_more text more blocks others [] h = refl
entries_more text more blocks others (e ∷ es) h = ap (λ x. x ∷ map (event_of (text ++ more) (blocks ++ others)) es) (entry_more text more blocks others e h.0)
    ∙ ap (λ t. event_of text blocks e ∷ t) (entries_more text more blocks others es h.1)

within_one : (n k m l : ℕ) (e : Kept) → n ≤ m → k ≤ l → IsOnTape n k e → IsOnTape m l e
within_one n k m l (kept.Read i ok) le ke h = h
within_one n k m l (kept.Write i at took ok) le ke h = omega (arith, h, ke)
within_one n k m l (kept.Sync ok) le ke h = h
within_one n k m l (kept.Out from to) le ke h = (h.0, omega (arith, h.1, le))

within_more : (n k m l : ℕ) (es : List Kept) → n ≤ m → k ≤ l → AllWithin n k es → AllWithin m l es
within_more n k m l [] le ke h = tt
within_more n k m l (e ∷ es) le ke h = (within_one n k m l e le ke h.0, within_more n k m l es le ke h.1)

within_end : (n k : ℕ) (es : List Kept) (e : Kept) → AllWithin n k es → IsOnTape n k e → AllWithin n k (es ++ e ∷ [])
within_end n k [] e h i = (i, tt)
within_end n k (x ∷ es) e h i = (h.0, within_end n k es e h.1 i)

-- what is kept after the buffers grew by `more` and `others`, and k was added that stands for the event
module _ (text more : List ℕ) (blocks others : List (List ℕ)) (es : List Kept) (sound : Sound text blocks es) where
  grown_within : AllWithin (length (text ++ more)) (length (blocks ++ others)) es
  grown_within = within_more (length text) (length blocks) (length (text ++ more)) (length (blocks ++ others)) es (omega (arith, length-append text more)) (omega (arith, length-append blocks others)) sound.0

  view_more : (k : Kept) → map (event_of (text ++ more) (blocks ++ others)) (es ++ k ∷ []) ≡ map (event_of text blocks) es ++ event_of (text ++ more) (blocks ++ others) k ∷ []
  view_more k = map-append (event_of (text ++ more) (blocks ++ others)) es (k ∷ [])
      ∙ ap (λ t. t ++ event_of (text ++ more) (blocks ++ others) k ∷ []) (entries_more text more blocks others es sound.0)

  sound_more : (k : Kept) → IsOnTape (length (text ++ more)) (length (blocks ++ others)) k → output_of (event_of (text ++ more) (blocks ++ others) k ∷ []) ≡ more → Sound (text ++ more) (blocks ++ others) (es ++ k ∷ [])
  sound_more k within out = (
    within_end (length (text ++ more)) (length (blocks ++ others)) es k grown_within within,
    ap output_of (view_more k) ∙ output_of-append (map (event_of text blocks) es) (event_of (text ++ more) (blocks ++ others) k ∷ [])
        ∙ ap (λ t. output_of (map (event_of text blocks) es) ++ t) out ∙ ap (λ t. t ++ more) sound.1,
  )

out_is : (text more : List ℕ) (blocks : List (List ℕ)) → event_of (text ++ more) blocks (kept.Out (length text) (length (text ++ more))) ≡ Out more
out_is text more blocks =
    let size : length (text ++ more) - length text ≡ length more = omega (arith, length-append text more) in
    ap (λ t. Out (take (length (text ++ more) - length text) t)) (drop-append_seam text more)
    ∙ ap Out (take_all (length (text ++ more) - length text) more (omega (arith, size)))

-- a read or a sync, or another event with no output that stands in no buffer
module _ (text : List ℕ) (blocks : List (List ℕ)) (es es2 : List Kept) (k : Kept) (added : es2 ≡ es ++ k ∷ []) (sound : Sound text blocks es) where
  pub plain_sound : IsOnTape (length text) (length blocks) k → output_of (event_of text blocks k ∷ []) ≡ [] → Sound text blocks es2
  plain_sound within out = rw added (
    within_end (length text) (length blocks) es k sound.0 within,
    ap output_of (map-append (event_of text blocks) es (k ∷ [])) ∙ output_of-append (map (event_of text blocks) es) (event_of text blocks k ∷ [])
        ∙ ap (λ t. output_of (map (event_of text blocks) es) ++ t) out ∙ append-nil (output_of (map (event_of text blocks) es)) ∙ sound.1,
  )

-- output
module _ (text text2 bytes : List ℕ) (blocks : List (List ℕ)) (es es2 : List Kept) (from to : ℕ) (longer : text2 ≡ text ++ bytes) (added : es2 ≡ es ++ kept.Out from to ∷ [])
    (first : from ≡ length text) (last : to ≡ length text2) (sound : Sound text blocks es) where
  pub out_sound : Sound text2 blocks es2
  out_sound = rw (added, first, last, longer) (subst (λ b. Sound (text ++ bytes) b (es ++ kept.Out (length text) (length (text ++ bytes)) ∷ [])) (append-nil blocks)
      (sound_more text bytes blocks [] es sound (kept.Out (length text) (length (text ++ bytes))) (omega (arith, length-append text bytes), omega arith)
      (ap (λ e. output_of (e ∷ [])) (out_is text bytes (blocks ++ [])) ∙ append-nil bytes)))

  pub out_view : (now : List Event) → map (event_of text blocks) es ≡ now → map (event_of text2 blocks) es2 ≡ now ++ Out bytes ∷ []
  out_view now is = rw (added, first, last, longer) (subst (λ b. map (event_of (text ++ bytes) b) (es ++ kept.Out (length text) (length (text ++ bytes)) ∷ []) ≡ now ++ Out bytes ∷ []) (append-nil blocks)
      (view_more text bytes blocks [] es sound (kept.Out (length text) (length (text ++ bytes)))
      ∙ ap (λ e. map (event_of text blocks) es ++ e ∷ []) (out_is text bytes (blocks ++ [])) ∙ ap (λ x. x ++ Out bytes ∷ []) is))

-- a write
module _ (text : List ℕ) (blocks blocks2 : List (List ℕ)) (block : List ℕ) (es es2 : List Kept) (longer : blocks2 ≡ blocks ++ block ∷ []) (sound : Sound text blocks es) where
  module _ (n at : ℕ) (took ok : Bool) (where_is : at ≡ length blocks) (added : es2 ≡ es ++ kept.Write n at took ok ∷ []) where
    pub write_sound : Sound text blocks2 es2
    write_sound = rw (added, where_is, longer) (subst (λ t. Sound t (blocks ++ block ∷ []) (es ++ kept.Write n (length blocks) took ok ∷ [])) (append-nil text)
        (sound_more text [] blocks (block ∷ []) es sound (kept.Write n (length blocks) took ok) (omega (arith, length-append blocks (block ∷ []))) refl))

    pub write_view : (now : List Event) → map (event_of text blocks) es ≡ now → map (event_of text blocks2) es2 ≡ now ++ Write n block took ok ∷ []
    write_view now is = rw (added, where_is, longer) (subst (λ t. map (event_of t (blocks ++ block ∷ [])) (es ++ kept.Write n (length blocks) took ok ∷ []) ≡ now ++ Write n block took ok ∷ []) (append-nil text)
        (view_more text [] blocks (block ∷ []) es sound (kept.Write n (length blocks) took ok)
        ∙ ap (λ (b : List ℕ). map (event_of text blocks) es ++ Write n b took ok ∷ []) (get_or-append_seam blocks block [] []) ∙ ap (λ x. x ++ Write n block took ok ∷ []) is))

-- what is kept at a place
pub kept_at : (n k : ℕ) (es : List Kept) (i : ℕ) (d : Kept) → AllWithin n k es → i < length es → IsOnTape n k (get_or es i d)
kept_at n k [] i d h lt = absurd (omega arith)
kept_at n k (e ∷ es) zero d h lt = h.0
kept_at n k (e ∷ es) (suc i) d h lt = kept_at n k es i d h.1 (omega arith)

pub event_at : (text : List ℕ) (blocks : List (List ℕ)) (es : List Kept) (i : ℕ) (d : Kept) (e : Event) → i < length es → get_or (map (event_of text blocks) es) i e ≡ event_of text blocks (get_or es i d)
event_at text blocks [] i d e lt = absurd (omega arith)
event_at text blocks (x ∷ es) zero d e lt = refl
event_at text blocks (x ∷ es) (suc i) d e lt = event_at text blocks es i d e (omega arith)

pub any_block : (l : List (List ℕ)) (n : ℕ) (d e : List ℕ) → n < length l → get_or l n d ≡ get_or l n e
any_block [] n d e lt = absurd (omega arith)
any_block (x ∷ xs) zero d e lt = refl
any_block (x ∷ xs) (suc n) d e lt = any_block xs n d e (omega arith)

-- what there is room for, by what is seen of it
module _ (text : List ℕ) (blocks : List (List ℕ)) (es : List Kept) (limit text_limit : ℕ) (now : Taped) (is : record { events = map (event_of text blocks) es; limit = limit; text_limit = text_limit } ≡ now) where
  pub has_room : length now.events < now.limit → length es < limit
  has_room room =
      let count : length (map (event_of text blocks) es) ≡ length now.events = ap (λ (t : Taped). length t.events) is in
      let same : limit ≡ now.limit = ap (λ (t : Taped). t.limit) is in
      omega (arith, room, count, same, length-map es (event_of text blocks))

  pub has_text : (bytes : List ℕ) → Sound text blocks es → length (output_of now.events) + length bytes ≤ now.text_limit → length text + length bytes ≤ text_limit
  has_text bytes sound room =
      let put : output_of now.events ≡ text = ap (λ (t : Taped). output_of t.events) (sym is) ∙ sound.1 in
      let same : text_limit ≡ now.text_limit = ap (λ (t : Taped). t.text_limit) is in
      omega (arith, room, ap length put, same)

  pub is_longer : (e : Event) (text2 : List ℕ) (blocks2 : List (List ℕ)) (es2 : List Kept)
      → map (event_of text2 blocks2) es2 ≡ map (event_of text blocks) es ++ e ∷ []
      → record { events = map (event_of text2 blocks2) es2; limit = limit; text_limit = text_limit } ≡ tape_with now e
  is_longer e text2 blocks2 es2 more =
      let taped : List Event → Taped = λ x. record { events = x; limit = limit; text_limit = text_limit } in
      ap taped more
      ∙ ap (λ (t : Taped). tape_with t e) is
