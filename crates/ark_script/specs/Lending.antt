-- What a reply is after its buffer was lent.
use Rattle.std.specs.Prelude.{ℕ, List, ◌++◌, length, take, drop}
use Rattle.std.specs.Borrow.{Lends, MutBor, Fml, Array, u8}
use Rattle.ark_script.specs.Reply.{Answer}
use Rattle.ark_script.specs.contracts.reply.Reply.{the_row}

-- ys, cut or filled up from xs to the length of xs
abbrev pub fitted : List ℕ → List ℕ → List ℕ
fitted xs ys = take (length xs) (ys ++ drop (length ys) xs)

-- the reply ends with what was last written to its buffer, and is else as it was
abbrev pub LendsBuffer : MutBor Answer → MutBor (List ℕ) → Fml
LendsBuffer m r = Lends the_row (Array u8 0) m r (λ w. record m.now { buffer = fitted m.now.buffer w })
