-- What a line of a script asks for.
use Rattle.std.specs.Prelude.{ℕ, List, [], ◌∷◌, ◌+◌, ◌-◌, ◌*◌, Option, nat_lt, if◌then◌else◌}
use Rattle.ark_base.specs.declared.kind.Kind.{Kind}
use Rattle.ark_filters.specs.declared.filter.Direction.{Direction}
use Rattle.ark_filters.specs.declared.filter.Filter.{Filter}
use Rattle.ark_packet.specs.declared.own.Own.{Own}
use Rattle.ark_script.specs.declared.step.Side.{Side}
use Rattle.ark_script.specs.declared.step.Step.{Step}
use Rattle.ark_script.specs.declared.step.Step.TheVariants as step

-- What a line asks for, as plain data: its word, and then its arguments in the order of the word's form. Names and labels are
-- the bytes that spell them; bytes are those that the line's hex digits spell. The word `use` is `assign`.
pub data Line : Type 0 where
  nic : Own → Line
  app : List ℕ → Option ℕ → Line
  vsic : List ℕ → List ℕ → ℕ → Line
  vnic : List ℕ → List ℕ → ℕ → ℕ → Line
  vsa : List ℕ → List ℕ → ℕ → Kind → Line
  grow : List ℕ → List ℕ → ℕ → Line
  bind : List ℕ → List ℕ → List ℕ → Line
  unbind : List ℕ → List ℕ → List ℕ → Line
  filter : List ℕ → List ℕ → Filter → Line
  assign : List ℕ → List ℕ → List ℕ → Line
  rate : List ℕ → List ℕ → ℕ → ℕ → Line
  pace : List ℕ → List ℕ → Option (List ℕ) → Side → Line
  door : List ℕ → List ℕ → Line
  watch : List ℕ → List ℕ → Option (List ℕ) → Side → Line
  drop : List ℕ → List ℕ → Line
  buf : List ℕ → List ℕ → ℕ → Line
  fill : List ℕ → List ℕ → ℕ → List ℕ → Line
  show : List ℕ → List ℕ → ℕ → ℕ → Line
  copy : List ℕ → List ℕ → List ℕ → ℕ → Line
  free : List ℕ → List ℕ → Line
  peek : List ℕ → List ℕ → ℕ → Line
  poke : List ℕ → List ℕ → ℕ → List ℕ → Line
  get : List ℕ → List ℕ → List ℕ → ℕ → ℕ → List ℕ → Line
  put : List ℕ → List ℕ → List ℕ → ℕ → ℕ → List ℕ → Line
  flush : List ℕ → List ℕ → Line
  reap : List ℕ → List ℕ → Line
  post : List ℕ → List ℕ → List ℕ → Line
  send : List ℕ → List ℕ → List ℕ → ℕ → Line
  take : List ℕ → List ℕ → Direction → Line
  sock : List ℕ → List ℕ → List ℕ → ℕ → Line
  sendto : List ℕ → List ℕ → List ℕ → ℕ → List ℕ → Line
  recv : List ℕ → List ℕ → Line
  look : List ℕ → List ℕ → Line
  log : List ℕ → List ℕ → List ℕ → Line
  queue : List ℕ → List ℕ → List ℕ → Line
  append : List ℕ → List ℕ → List ℕ → Line
  push : List ℕ → List ℕ → List ℕ → Line
  trim : List ℕ → List ℕ → ℕ → Line
  pop : List ℕ → List ℕ → Line
  walk : List ℕ → List ℕ → ℕ → Line
  poll : List ℕ → List ℕ → Line
  settle : List ℕ → List ℕ → Line
  close : List ℕ → List ℕ → Line
  dev : List ℕ → List ℕ → Line
  wire : List ℕ → Line
  tick : ℕ → Line

-- the number of a hex digit of either case
abbrev pub digit : ℕ → ℕ
digit c = if nat_lt c 58 then c - 48 else if nat_lt c 71 then c - 55 else c - 87

-- the bytes that hex digits spell, two for each
abbrev pub spelled : List ℕ → List ℕ
spelled [] = []
spelled (c ∷ []) = []
spelled (c ∷ d ∷ cs) = (16 * digit c + digit d) ∷ spelled cs

-- a step of the program as plain data
abbrev pub line_of : Step → Line
line_of (step.Nic x0) = nic x0
line_of (step.App x0 x1) = app x0 x1
line_of (step.Vsic x0 x1 x2) = vsic x0 x1 x2
line_of (step.Vnic x0 x1 x2 x3) = vnic x0 x1 x2 x3
line_of (step.Vsa x0 x1 x2 x3) = vsa x0 x1 x2 x3
line_of (step.Grow x0 x1 x2) = grow x0 x1 x2
line_of (step.Bind x0 x1 x2) = bind x0 x1 x2
line_of (step.Unbind x0 x1 x2) = unbind x0 x1 x2
line_of (step.Filter x0 x1 x2) = filter x0 x1 x2
line_of (step.Assign x0 x1 x2) = assign x0 x1 x2
line_of (step.Rate x0 x1 x2 x3) = rate x0 x1 x2 x3
line_of (step.Pace x0 x1 x2 x3) = pace x0 x1 x2 x3
line_of (step.Door x0 x1) = door x0 x1
line_of (step.Watch x0 x1 x2 x3) = watch x0 x1 x2 x3
line_of (step.Drop x0 x1) = drop x0 x1
line_of (step.Buf x0 x1 x2) = buf x0 x1 x2
line_of (step.Fill x0 x1 x2 x3) = fill x0 x1 x2 (spelled x3.digits.now)
line_of (step.Show x0 x1 x2 x3) = show x0 x1 x2 x3
line_of (step.Copy x0 x1 x2 x3) = copy x0 x1 x2 x3
line_of (step.Free x0 x1) = free x0 x1
line_of (step.Peek x0 x1 x2) = peek x0 x1 x2
line_of (step.Poke x0 x1 x2 x3) = poke x0 x1 x2 (spelled x3.digits.now)
line_of (step.Get x0 x1 x2 x3 x4 x5) = get x0 x1 x2 x3 x4 x5
line_of (step.Put x0 x1 x2 x3 x4 x5) = put x0 x1 x2 x3 x4 x5
line_of (step.Flush x0 x1) = flush x0 x1
line_of (step.Reap x0 x1) = reap x0 x1
line_of (step.Post x0 x1 x2) = post x0 x1 x2
line_of (step.Send x0 x1 x2 x3) = send x0 x1 x2 x3
line_of (step.Take x0 x1 x2) = take x0 x1 x2
line_of (step.Sock x0 x1 x2 x3) = sock x0 x1 x2 x3
line_of (step.Sendto x0 x1 x2 x3 x4) = sendto x0 x1 x2 x3 (spelled x4.digits.now)
line_of (step.Recv x0 x1) = recv x0 x1
line_of (step.Look x0 x1) = look x0 x1
line_of (step.Log x0 x1 x2) = log x0 x1 x2
line_of (step.Queue x0 x1 x2) = queue x0 x1 x2
line_of (step.Append x0 x1 x2) = append x0 x1 (spelled x2.digits.now)
line_of (step.Push x0 x1 x2) = push x0 x1 (spelled x2.digits.now)
line_of (step.Trim x0 x1 x2) = trim x0 x1 x2
line_of (step.Pop x0 x1) = pop x0 x1
line_of (step.Walk x0 x1 x2) = walk x0 x1 x2
line_of (step.Poll x0 x1) = poll x0 x1
line_of (step.Settle x0 x1) = settle x0 x1
line_of (step.Close x0 x1) = close x0 x1
line_of (step.Dev x0 x1) = dev x0 x1
line_of (step.Wire x0) = wire (spelled x0.digits.now)
line_of (step.Tick x0) = tick x0
