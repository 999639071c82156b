-- The script of `work`, worked out.
use Rattle.std.specs.Fmt.{digits}
use Rattle.hex.specs.Hex.{encode_with}
use Rattle.std.proofs.Common.{◌≡◌, ℕ, true, List, [], ◌∷◌, length, drop, map, codes, refl, lit≤, Ok}
use Rattle.std.specs.Prelude.{None}
use Rattle.ark_base.specs.declared.kind.Kind.TheVariants as kind
use Rattle.ark_script.specs.Line as w
use Rattle.ark_script.specs.Lines.{Meaning, EachSays}
use Rattle.ark_machine.specs.Row.{answer}
use Rattle.ark_machine.specs.Step.{step}
use Rattle.ark_machine.specs.System.{fresh_system}
use Rattle.ark_worked.proofs.Playing.{Played, performed}
use Rattle.ark_worked.proofs.Scripts.{quiet, app, area, granting, opening_empty}
use Rattle.ark_work.specs.Generated.{generated, prelude}
use Rattle.ark_work.specs.Tallied.{summary}
use Rattle.ark_report.specs.Work.{work_blocks, meant_turn, Summary}

prelude_has : length (generated 1 0) ≡ 16
prelude_has = refl

last_of_prelude : drop 15 (generated 1 0) ≡ codes "queue b q w" ∷ []
last_of_prelude = refl

first_lines : drop 16 (generated 1 24) ≡
    codes "get a v r 4 2 m"
    ∷ codes "flush a v"
    ∷ codes "settle a l"
    ∷ codes "dev a v"
    ∷ codes "put a v r 9 2 m"
    ∷ codes "flush a v"
    ∷ codes "append a l 6ed5396b"
    ∷ codes "settle b q"
    ∷ codes "put b v r 21 2 m"
    ∷ codes "get a v r 6 2 m"
    ∷ codes "flush b v"
    ∷ codes "settle b q"
    ∷ codes "flush a v"
    ∷ codes "pop b q"
    ∷ codes "put a v r 28 2 m"
    ∷ codes "reap a v"
    ∷ codes "flush b v"
    ∷ codes "reap a v"
    ∷ codes "put b v r 14 2 m"
    ∷ codes "pop b q"
    ∷ codes "settle b q"
    ∷ codes "pop b q"
    ∷ codes "put b v r 21 2 m"
    ∷ codes "flush b v"
    ∷ []
unfolding digits encode_with
first_lines = refl

summed : summary 3 (codes "ok" ∷ codes "ok 1 0" ∷ codes "refused 13 ring full" ∷ codes "acked append 1" ∷ codes "okay" ∷ []) ≡ codes "work 3 ok 2 refused 1 other 2"
unfolding digits
summed = refl

-- The prelude, with the device events of its lines on a device of its own.

abbrev a : List ℕ
a = codes "a"

abbrev b : List ℕ
b = codes "b"

abbrev v : List ℕ
v = codes "v"

abbrev r : List ℕ
r = codes "r"

abbrev m : List ℕ
m = codes "m"

abbrev l : List ℕ
l = codes "l"

abbrev q : List ℕ
q = codes "q"

abbrev card : List ℕ
card = codes "w"

abbrev begun : List Played
begun =
    app a
    ∷ app b
    ∷ quiet (w.vsic a v 8)
    ∷ quiet (w.vsic b v 8)
    ∷ (w.vsa a r 32 kind.Raw, granting (area 1 a r kind.Raw 129 32))
    ∷ (w.vsa b r 32 kind.Raw, granting (area 2 b r kind.Raw 161 32))
    ∷ quiet (w.bind a v r)
    ∷ quiet (w.bind b v r)
    ∷ quiet (w.buf a m 1024)
    ∷ quiet (w.buf b m 1024)
    ∷ quiet (w.vsic a card 4)
    ∷ (w.vsa a l 64 kind.Log, granting (area 3 a l kind.Log 193 64))
    ∷ (w.log a l card, opening_empty 193 kind.Log)
    ∷ quiet (w.vsic b card 4)
    ∷ (w.vsa b q 64 kind.Queue, granting (area 4 b q kind.Queue 257 64))
    ∷ (w.queue b q card, opening_empty 257 kind.Queue)
    ∷ []

abbrev asked : List Meaning
asked = map (λ p. Ok p.0) begun

-- these are the calls of the lines
begun_performed : performed (fresh_system work_blocks) begun ≡ true
unfolding step answer
begun_performed = refl

prelude_says : EachSays prelude asked
unfolding digits
prelude_says = (
  (lit≤ tt, (refl, (refl, refl))),
  (
    (lit≤ tt, (refl, (refl, refl))),
    (
      (lit≤ tt, (refl, ((refl, refl), (refl, refl), ((refl, lit≤ tt, lit≤ tt), refl)))),
      (
        (lit≤ tt, (refl, ((refl, refl), (refl, refl), ((refl, lit≤ tt, lit≤ tt), refl)))),
        (
          (lit≤ tt, (refl, ((refl, refl), (refl, refl), (refl, lit≤ tt, lit≤ tt), refl))),
          (
            (lit≤ tt, (refl, ((refl, refl), (refl, refl), (refl, lit≤ tt, lit≤ tt), refl))),
            (
              (lit≤ tt, (refl, ((refl, refl), (refl, refl), (refl, refl)))),
              (
                (lit≤ tt, (refl, ((refl, refl), (refl, refl), (refl, refl)))),
                (
                  (lit≤ tt, (refl, ((refl, refl), (refl, refl), (refl, lit≤ tt, lit≤ tt)))),
                  (
                    (lit≤ tt, (refl, ((refl, refl), (refl, refl), (refl, lit≤ tt, lit≤ tt)))),
                    (
                      (lit≤ tt, (refl, ((refl, refl), (refl, refl), ((refl, lit≤ tt, lit≤ tt), refl)))),
                      (
                        (lit≤ tt, (refl, ((refl, refl), (refl, refl), (refl, lit≤ tt, lit≤ tt), refl))),
                        (
                          (lit≤ tt, (refl, ((refl, refl), (refl, refl), (refl, refl)))),
                          (
                            (lit≤ tt, (refl, ((refl, refl), (refl, refl), ((refl, lit≤ tt, lit≤ tt), refl)))),
                            (
                              (lit≤ tt, (refl, ((refl, refl), (refl, refl), (refl, lit≤ tt, lit≤ tt), refl))),
                              ((lit≤ tt, (refl, ((refl, refl), (refl, refl), (refl, refl)))), tt),
                            ),
                          ),
                        ),
                      ),
                    ),
                  ),
                ),
              ),
            ),
          ),
        ),
      ),
    ),
  ),
)

-- no line behind the prelude, and memory for each
nothing_lacks : Summary meant_turn 1 0 [] (map (λ p. p.1) begun) (codes "work 0 ok 16 refused 0 other 0")
unfolding step answer digits
nothing_lacks = record { meanings = asked; say = prelude_says; each = refl; in_prelude = refl; lacking = refl; counts = refl }

-- The first line finds no memory: the lines of that application are refused, and the other's areas begin at the first free block.

abbrev half_begun : List Played
half_begun =
    quiet (w.app a None)
    ∷ app b
    ∷ quiet (w.vsic a v 8)
    ∷ quiet (w.vsic b v 8)
    ∷ quiet (w.vsa a r 32 kind.Raw)
    ∷ (w.vsa b r 32 kind.Raw, granting (area 1 b r kind.Raw 129 32))
    ∷ quiet (w.bind a v r)
    ∷ quiet (w.bind b v r)
    ∷ quiet (w.buf a m 1024)
    ∷ quiet (w.buf b m 1024)
    ∷ quiet (w.vsic a card 4)
    ∷ quiet (w.vsa a l 64 kind.Log)
    ∷ quiet (w.log a l card)
    ∷ quiet (w.vsic b card 4)
    ∷ (w.vsa b q 64 kind.Queue, granting (area 2 b q kind.Queue 161 64))
    ∷ (w.queue b q card, opening_empty 161 kind.Queue)
    ∷ []

first_lacks : Summary meant_turn 1 0 (1 ∷ []) (map (λ p. p.1) half_begun) (codes "work 0 ok 8 refused 8 other 0")
unfolding step answer digits
first_lacks = record { meanings = asked; say = prelude_says; each = refl; in_prelude = refl; lacking = refl; counts = refl }
