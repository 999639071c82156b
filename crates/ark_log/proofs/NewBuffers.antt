-- A new buffer that is written whole.
use Rattle.std.proofs.Common.{◌≡◌, ℕ, ◌+◌, ◌≤◌, List, ◌++◌, length, sym, ap, ◌∙◌, subst, arith}
use Rattle.std.proofs.lemmas.List.{append-nil, drop_all}
use Rattle.ark_region.specs.Frames.{Piece, Space, LiesInRegion, Wrote, bytes_of, put}
use Rattle.ark_log.specs.Buffers.{IsNewBuffer}

pub whole_put : (xs ys : List ℕ) → length xs ≤ length ys → put xs 0 ys ≡ ys
whole_put xs ys le =
    ap (λ zs. ys ++ zs) (drop_all (0 + length ys) xs (let more : length xs ≤ 0 + length ys = omega (arith, le) in more)) ∙ append-nil ys

pub written_whole : (old mid new : Space) (b : Piece) (was bytes : List ℕ) → IsNewBuffer old mid was b → length was ≡ length bytes → Wrote mid new b 0 bytes → IsNewBuffer old new bytes b
written_whole old mid new b was bytes made same wrote = record {
  place = made.place;
  lies = subst (λ t. LiesInRegion t b) (sym wrote.taken) made.lies;
  taken = wrote.taken ∙ made.taken;
  here =
      let size = ap length made.here in
      wrote.here ∙ whole_put (bytes_of mid b) bytes (let le : length (bytes_of mid b) ≤ length bytes = omega (arith, size, same) in le);
  others = λ a apart. wrote.others a apart ∙ made.others a apart;
}
