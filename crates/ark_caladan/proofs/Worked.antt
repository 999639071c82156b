-- Lists and commands, worked out.
use Rattle.std.proofs.Common.{◌≡◌, ◌⊎◌, List, [], ◌∷◌, Bool, true, false, Option, Some, None, replicate, refl, arith}
use Rattle.std.specs.Prelude.{Contains}
use Rattle.ark_base.specs.declared.kind.Kind.TheVariants as kinds
use Rattle.ark_entry.specs.Found.{Entries, Found, found, damaged}
use Rattle.ark_caladan.specs.Chain.{Command, append, trim, pop, after_command, after_all, next_number, phases_of, moves_of, Log, lists}
use Rattle.ark_caladan.specs.Numbers.{AllFit, GoesOn}
use Rattle.ark_caladan.proofs.Commands.{all_go_on, only_listed, none_else, damaged_alone}

-- entries of 1, 1 and 2 blocks
three : Entries
three = record { first = 5; payloads = (1 ∷ []) ∷ ([] ∷ (replicate 485 3 ∷ [])) }

next : next_number three ≡ 8
unfolding three
next = refl

commands : List Command
commands = append 8 (4 ∷ []) ∷ (trim 7 ∷ (pop 7 ∷ []))

after_commands : after_all three commands ≡ record { first = 8; payloads = (4 ∷ []) ∷ [] }
unfolding three commands
after_commands = refl

all_fit : AllFit three commands
unfolding three commands
all_fit = (refl, ((omega arith, omega arith), ((refl, omega arith), tt)))

gone_on : GoesOn three (after_all three commands)
gone_on = all_go_on three commands all_fit

-- two blocks; an append takes as many moves as its entry has blocks, and three
append_moves : moves_of (phases_of three (append 8 (replicate 485 0))) ≡ 5
unfolding three
append_moves = refl

-- the first two entries have two blocks
trim_moves : moves_of (phases_of three (trim 7)) ≡ 5
unfolding three
trim_moves = refl

pop_moves : moves_of (phases_of three (pop 5)) ≡ 5
unfolding three
pop_moves = refl

-- a closed log with a command that was left over, or none
log : Found → Option (Command × Bool) → Log
log list left = record { kind = kinds.Log; blocks = 6; list = list; opened = None; left = left }

-- a pop: both lists may be left
before : Contains (lists (log (found three) (Some (pop 5, false)))) (found three)
unfolding log
before = (0, omega arith, refl)

behind : Contains (lists (log (found three) (Some (pop 5, true)))) (found (after_command three (pop 5)))
unfolding log
behind = (1, omega arith, refl)

one_of_two : (m : Found) → Contains (lists (log (found three) (Some (pop 5, false)))) m → (m ≡ found three) ⊎ (m ≡ found (after_command three (pop 5)))
unfolding log
one_of_two = only_listed (log (found three) (Some (pop 5, false))) three (pop 5, false) refl refl

no_other : (m : Found) → Contains (lists (log (found three) None)) m → m ≡ found three
unfolding log
no_other = none_else (log (found three) None) refl

still_damaged : (m : Found) → Contains (lists (log (damaged 7) None)) m → m ≡ damaged 7
unfolding log
still_damaged = damaged_alone (log (damaged 7) None) 7 refl
