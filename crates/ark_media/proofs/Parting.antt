-- How events fall into parts.
use Rattle.std.proofs.Common.{◌≡◌, Bool, true, false, List, [], ◌∷◌, ◌++◌, refl, sym, ◌∙◌, ap, subst, append_assoc, append-nil}
use Rattle.ark_media.specs.Journal.{Event, Read, Write, Sync, Out, device_events}
use Rattle.ark_media.specs.Parts.{Parts, parts, with_front, ends_reply, IsUnfinished, IsWhole, EachIsWhole, joined}

pub parts-unfinished : (es : List Event) → IsUnfinished es → parts es ≡ record { whole = []; unfinished = es }
parts-unfinished [] h = refl
parts-unfinished (e ∷ es) h = rw (parts-unfinished es h.1, h.0) refl

-- a whole part comes off the front
pub parts-whole : (part rest : List Event) → IsWhole part → parts (part ++ rest) ≡ record { whole = part ∷ (parts rest).whole; unfinished = (parts rest).unfinished }
parts-whole [] rest h = absurd h
parts-whole (e ∷ []) rest h = rw h refl
parts-whole (e ∷ f ∷ es) rest h = rw (parts-whole (f ∷ es) rest h.1, h.0) refl

pub parts-joined : (ps : List (List Event)) (rest : List Event) → EachIsWhole ps → IsUnfinished rest → parts (joined ps ++ rest) ≡ record { whole = ps; unfinished = rest }
parts-joined [] rest h u = parts-unfinished rest u
parts-joined (p ∷ ps) rest h u =
    ap parts (append_assoc p (joined ps) rest) ∙ parts-whole p (joined ps ++ rest) h.0
    ∙ ap (λ (x : Parts). record { whole = p ∷ x.whole; unfinished = x.unfinished }) (parts-joined ps rest h.1 u)

pub joined-more : (ps : List (List Event)) (p : List Event) → joined (ps ++ p ∷ []) ≡ joined ps ++ p
joined-more [] p = append-nil p
joined-more (q ∷ ps) p = ap (λ t. q ++ t) (joined-more ps p) ∙ sym (append_assoc q (joined ps) p)

pub whole_more : (ps : List (List Event)) (p : List Event) → EachIsWhole ps → IsWhole p → EachIsWhole (ps ++ p ∷ [])
whole_more [] p h w = (w, tt)
whole_more (q ∷ ps) p h w = (h.0, whole_more ps p h.1 w)

pub unfinished_then : (es fs : List Event) → IsUnfinished es → IsUnfinished fs → IsUnfinished (es ++ fs)
unfinished_then [] fs h k = k
unfinished_then (e ∷ es) fs h k = (h.0, unfinished_then es fs h.1 k)

-- a part is whole once the event that ends its reply has come
pub whole_with : (es : List Event) (e : Event) → IsUnfinished es → ends_reply e ≡ true → IsWhole (es ++ e ∷ [])
whole_with [] e h t = t
whole_with (f ∷ []) e h t = (h.0, t)
whole_with (f ∷ g ∷ es) e h t = (h.0, whole_with (g ∷ es) e h.1 t)

-- device calls end no reply
pub devices_unfinished : (es : List Event) → device_events es ≡ es → IsUnfinished es
devices_unfinished es h = subst (λ (x : List Event). IsUnfinished x) h (none es)
  where
    none : (xs : List Event) → IsUnfinished (device_events xs)
    none [] = tt
    none (Out bytes ∷ xs) = none xs
    none (Read n ok ∷ xs) = (refl, none xs)
    none (Write n content took ok ∷ xs) = (refl, none xs)
    none (Sync ok ∷ xs) = (refl, none xs)

front_more : (e : Event) (w : List (List Event)) (u : List Event) (last : Event) (t : Bool) → ends_reply e ≡ t →
    with_front e (record { whole = w; unfinished = u ++ last ∷ [] }) ≡ record { whole = (with_front e (record { whole = w; unfinished = u })).whole; unfinished = (with_front e (record { whole = w; unfinished = u })).unfinished ++ last ∷ [] }
front_more e w u last true is = rw is refl
front_more e [] u last false is = rw is refl
front_more e (p ∷ w) u last false is = rw is refl

-- an event that ends no reply goes to what is unfinished
pub parts-more : (es : List Event) (last : Event) → ends_reply last ≡ false → parts (es ++ last ∷ []) ≡ record { whole = (parts es).whole; unfinished = (parts es).unfinished ++ last ∷ [] }
parts-more [] last h = rw h refl
parts-more (e ∷ es) last h = ap (with_front e) (parts-more es last h) ∙ front_more e (parts es).whole (parts es).unfinished last (ends_reply e) refl
