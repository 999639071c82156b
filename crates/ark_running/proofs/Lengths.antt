-- How long the first entry is that stands once all commands are carried out.
use Rattle.std.proofs.Common.{◌≡◌, ℕ, ◌+◌, ◌-◌, ◌≤◌, List, [], ◌∷◌, ◌++◌, length, map, drop, get_or, refl, sym, ap, ◌∙◌, arith, append_assoc}
use Rattle.std.proofs.lemmas.List.{append-nil, length-map, map-append, drop-append-le, drop-drop, drop-map, get_or-drop}
use Rattle.ark_entry.specs.Found.{Entries}
use Rattle.ark_caladan.specs.Chain.{Command, append, trim, pop, after_all, after_command}
use Rattle.ark_caladan.specs.Numbers.{AllFit}
use Rattle.ark_log.specs.Open.{OpenChain}
use Rattle.ark_log.specs.Refused.{length_of}
use Rattle.ark_log.specs.Stands.{StandsFor, lengths_added}

-- the lengths of payloads
abbrev lens : List (List ℕ) → List ℕ
lens xs = map (λ p. length p) xs

drop_lens : (k : ℕ) (xs : List (List ℕ)) (rest : List ℕ) → k ≤ length xs → drop k (lens xs ++ rest) ≡ lens (drop k xs) ++ rest
drop_lens k xs rest low =
    let long : length (lens xs) ≡ length xs = length-map xs (λ p. length p) in
    drop-append-le k (lens xs) rest (omega (arith, long, low)) ∙ ap (λ t. t ++ rest) (drop-map (λ p. length p) k xs)

dropped_lens : (n k m : ℕ) (xs : List (List ℕ)) (rest : List ℕ) → k ≤ length xs → k + n ≡ m → drop n (lens (drop k xs) ++ rest) ≡ drop m (lens xs ++ rest)
dropped_lens n k m xs rest low is = ap (λ t. drop n t) (sym (drop_lens k xs rest low)) ∙ drop-drop n k (lens xs ++ rest) ∙ ap (λ i. drop i (lens xs ++ rest)) is

-- behind commands the lengths are what is left of those of the list and of the entries that are added
after_lens : (l : Entries) (cs : List Command) → AllFit l cs → (l.first ≤ (after_all l cs).first) × (lens (after_all l cs).payloads ≡ drop ((after_all l cs).first - l.first) (lens l.payloads ++ lengths_added cs))
after_lens l [] fit = (omega arith, let none : 0 ≡ l.first - l.first = omega arith in sym (append-nil (lens l.payloads)) ∙ ap (λ n. drop n (lens l.payloads ++ [])) none)
after_lens l (append n payload ∷ cs) fit =
    let rest = after_lens (after_command l (append n payload)) cs fit.1 in (
      rest.0,
      rest.1 ∙ ap (λ t. drop ((after_all (after_command l (append n payload)) cs).first - l.first) (t ++ lengths_added cs)) (map-append (λ p. length p) l.payloads (payload ∷ []))
          ∙ ap (λ t. drop ((after_all (after_command l (append n payload)) cs).first - l.first) t) (append_assoc (lens l.payloads) (length payload ∷ []) (lengths_added cs)),
    )
after_lens l (trim n ∷ cs) fit =
    let rest = after_lens (after_command l (trim n)) cs fit.1 in
    (omega (arith, rest.0, fit.0.0), rest.1 ∙ dropped_lens ((after_all (after_command l (trim n)) cs).first - n) (n - l.first) ((after_all (after_command l (trim n)) cs).first - l.first) l.payloads (lengths_added cs) (omega (arith, fit.0.0, fit.0.1)) (omega (arith, rest.0, fit.0.0)))
after_lens l (pop n ∷ cs) fit =
    let rest = after_lens (after_command l (pop n)) cs fit.1 in
    (omega (arith, rest.0), rest.1 ∙ dropped_lens ((after_all (after_command l (pop n)) cs).first - (l.first + 1)) 1 ((after_all (after_command l (pop n)) cs).first - l.first) l.payloads (lengths_added cs) (omega (arith, fit.0.1)) (omega (arith, rest.0)))

first_len : (xs : List (List ℕ)) → get_or (lens xs) 0 0 ≡ length (get_or xs 0 [])
first_len [] = refl
first_len (x ∷ xs) = refl

pub coming_length : (v : OpenChain) (l : Entries) (cs : List Command) → StandsFor v l cs → AllFit l cs → length_of v v.coming ≡ length (get_or (after_all l cs).payloads 0 [])
coming_length v l cs is fit =
    let at : v.coming - v.first ≡ (after_all l cs).first - l.first + 0 = omega (arith, is.coming, is.first) in
    (λ i. get_or (is.lengths i) (at i) 0) ∙ sym (get_or-drop ((after_all l cs).first - l.first) (lens l.payloads ++ lengths_added cs) 0 0)
    ∙ ap (λ t. get_or t 0 0) (sym (after_lens l cs fit).1) ∙ first_len (after_all l cs).payloads
