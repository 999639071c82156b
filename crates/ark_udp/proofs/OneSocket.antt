-- One socket of several changes.
use Rattle.std.proofs.Common.{◌≡◌, ℕ, ◌<◌, zero, suc, List, [], ◌∷◌, ◌++◌, length, take, drop, get_or, set, nat_eq, refl, sym, ap, ◌∙◌, arith, drop-cons, eq-eqb}
use Rattle.std.proofs.lemmas.Bool.{cond-true}
use Rattle.ark_udp.specs.Socket.{Socket, without_oldest}

set_at : {X : Type 0} (xs : List X) (i : ℕ) (y : X) → i < length xs → set xs i y ≡ take i xs ++ y ∷ drop (suc i) xs
set_at [] i y lt = absurd (omega (arith, lt))
set_at (x ∷ xs) zero y lt = refl
set_at (x ∷ xs) (suc i) y lt = ap (λ zs. x ∷ zs) (set_at xs i y (omega (arith, lt)))

-- without its oldest datagram
abbrev pub given : Socket → Socket
given s = record s { datagrams = drop 1 s.datagrams }

-- the first socket at a port gives its oldest datagram up
pub taken_out : (port : ℕ) (xs : List Socket) (i : ℕ) (x y : Socket) → i < length xs → x ≡ get_or xs i x → x.port ≡ port → y ≡ given x
    → take i xs ++ without_oldest port (drop i xs) ≡ without_oldest port xs → set xs i y ≡ without_oldest port xs
taken_out port xs i x y lt at is e before =
    let here : drop i xs ≡ x ∷ drop (suc i) xs = drop-cons xs i x lt ∙ ap (λ z. z ∷ drop (suc i) xs) (sym at) in
    let rest : without_oldest port (drop i xs) ≡ y ∷ drop (suc i) xs =
    ap (without_oldest port) here ∙ cond-true (nat_eq x.port port) _ _ (eq-eqb x.port port is) ∙ ap (λ z. z ∷ drop (suc i) xs) (sym e) in
    set_at xs i y lt ∙ ap (λ zs. take i xs ++ zs) (sym rest) ∙ before
