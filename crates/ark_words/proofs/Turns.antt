-- One word of clap's walk.
use Rattle.std.proofs.Common.{◌≡◌, ◌≢◌, ◌∙◌, ◌≤◌, ◌<◌, ◌+◌, ◌&&◌, ◌||◌, ℕ, suc, min, Bool, true, false, List, [], ◌∷◌, ◌++◌, Option, Some, None, length, get_or, fold, refl, sym, ap, subst, codes, chars, slice_get, IsUtf8, arith, inl, inr}
use Rattle.std.proofs.lemmas.Str.{IsUtf8-drop, IsCharBoundary-after_ascii, encodes-chars}
use Rattle.clap.specs.Walk.{Held, Row, Rule, Waiting, Walk, idle, option, positional, value, subcommand_met, arg_by_id, arg_by_index, arg_by_long, finished, settled, settled_rows, to_positional, walked}
use Rattle.clap.specs.Simple.{Shape}
use Rattle.clap.specs.Kinds.{Kinds, or_else}
use Rattle.clap.specs.Faults.{check_fault, defaults_fault, flags_fault, repeat_fault, settle_fault, step_fault, turn_fault, walk_fault}
use Rattle.ark_words.specs.Sorted.{Text}
use Rattle.ark_words.proofs.Seen.{ReadsPlain, ReadsOther}
use Rattle.ark_words.proofs.RowLemmas.{used_with}
use Rattle.ark_words.proofs.Table.{Table, TakesNew, taken, refused, new_built, shape_with}

abbrev pub Pending : Type 0
Pending = Option (Text × List Text)

abbrev pub held : Pending → List Row → Held
held p rows = record { rows = rows; pending = p; skip = 0 }

-- where the walk stands: what is held, what waits, the position, and whether `--` was met
abbrev pub at : Pending → List Row → Waiting → ℕ → Bool → Walk
at p rows waiting position is_trailing = record {
  held = held p rows;
  waiting = waiting;
  position = position;
  is_trailing = is_trailing;
  stopped = None;
}

-- what fails after the words
abbrev pub end_fault : Shape → Held → Kinds
end_fault s h = or_else (settle_fault s.rules false h) (or_else (defaults_fault (settled s.rules h).rows s.rules) (check_fault s (finished s.rules h) false))

-- what fails in the words and after them, from where the walk stands
abbrev pub total : Shape → Walk → List Text → Kinds
total s w words = or_else (walk_fault s [] w words) (end_fault s (fold (walked s.rules []) w words).held)

abbrev pub final : List Rule → Walk → List Text → List Row
final c w words = finished c (fold (walked c []) w words).held

or_assoc : (a b d : Kinds) → or_else (or_else a b) d ≡ or_else a (or_else b d)
or_assoc [] b d = refl
or_assoc (k ∷ ks) b d = refl

or_nil : (a : Kinds) → or_else a [] ≡ a
or_nil [] = refl
or_nil (k ∷ ks) = refl

pub or_first : (a b : Kinds) → or_else a b ≡ [] → a ≡ []
or_first [] b e = refl
or_first (k ∷ ks) b e = e

pub or_second : (a b : Kinds) → or_else a b ≡ [] → b ≡ []
or_second [] b e = e
or_second (k ∷ ks) b e = cc

turn_first : (s : Shape) (w : Walk) (x : Text) (words : List Text) → total s w (x ∷ words) ≡ or_else (turn_fault s [] w x) (total s (walked s.rules [] w x) words)
unfolding walk_fault
turn_first s w x words = or_assoc (turn_fault s [] w x) (walk_fault s [] (walked s.rules [] w x) words) (end_fault s (fold (walked s.rules []) (walked s.rules [] w x) words).held)

-- a word that fails
pub stops : (s : Shape) (w : Walk) (x : Text) (words : List Text) → turn_fault s [] w x ≢ [] → total s w (x ∷ words) ≢ []
stops s w x words bad e = bad (or_first _ _ (sym (turn_first s w x words) ∙ e))

-- a word that passes
pub passes : (s : Shape) (w v : Walk) (x : Text) (words : List Text) → turn_fault s [] w x ≡ [] → walked s.rules [] w x ≡ v → total s w (x ∷ words) ≡ total s v words
passes s w v x words good to = turn_first s w x words ∙ ap (λ k. or_else k (total s (walked s.rules [] w x) words)) good ∙ ap (λ u. total s u words) to

pub end_is : (s : Shape) (w : Walk) → total s w [] ≡ end_fault s w.held
unfolding walk_fault
end_is s w = refl

pub first_flag : (x : ℕ) (xs : Text) → IsUtf8 (45 ∷ x ∷ xs) → (y : ℕ) × (slice_get (chars (x ∷ xs)) 0 ≡ Some y)
first_flag x xs u =
    let rest : IsUtf8 (x ∷ xs) = IsUtf8-drop (45 ∷ x ∷ xs) 1 u (IsCharBoundary-after_ascii (45 ∷ x ∷ xs) 0 u (omega arith) (omega arith)) in
    go (chars (x ∷ xs)) (encodes-chars (x ∷ xs) rest)
  where
    go : (cs : List ℕ) → Rattle.std.specs.Str.encode_utf8_all cs ≡ x ∷ xs → (y : ℕ) × (slice_get cs 0 ≡ Some y)
    go [] e = cc
    go (y ∷ ys) e = (y, refl)

no_subcommand : (w : Waiting) (x : Text) → subcommand_met [] w x ≡ None
no_subcommand idle x = refl
no_subcommand (option id) x = refl
no_subcommand positional x = refl

no_and : (b : Bool) → (b && false) ≡ false
no_and true = refl
no_and false = refl

no_or : (b : Bool) → (b || false) ≡ b
no_or true = refl
no_or false = refl

takes_new : (c : List Rule) (most : ℕ) → TakesNew c most → most ≡ 1 → (arg_by_long c (codes "new") ≡ Some new_built) × (arg_by_id c (codes "new") ≡ Some new_built)
takes_new c most (taken a b) e = (a, b)
takes_new c most (refused a) e = absurd (omega arith)

takes_no_new : (c : List Rule) (most : ℕ) → TakesNew c most → most ≡ 0 → arg_by_long c (codes "new") ≡ None
takes_no_new c most (taken a b) e = absurd (omega arith)
takes_no_new c most (refused a) e = a

module _ (name : Text) (c : List Rule) (ids : List Text) (most : ℕ) (t : Table c ids most) where
  abbrev s : Shape
  s = shape_with name c

  -- a plain word, before `--` and where nothing waits
  pub turn_plain : (p : Pending) (rows : List Row) (n : ℕ) (x : Text) → ReadsPlain x
      → (turn_fault s [] (at p rows idle n false) x ≡ step_fault s n (held p rows) value) × (walked c [] (at p rows idle n false) x ≡ to_positional c (arg_by_index c n) x (at p rows idle n false) (held p rows))
  unfolding walked
  turn_plain p rows n x h = rw (h.0, h.1, h.2) (refl, refl)

  -- a word after `--`
  pub turn_trailing : (p : Pending) (rows : List Row) (w : Waiting) (n : ℕ) (x : Text)
      → (turn_fault s [] (at p rows w n true) x ≡ step_fault s n (held p rows) value) × (walked c [] (at p rows w n true) x ≡ to_positional c (arg_by_index c n) x (at p rows w n true) (held p rows))
  unfolding walked
  turn_trailing p rows w n x = (refl, refl)

  -- a plain word that has a place
  pub place_fault : (p : Pending) (rows : List Row) (k : ℕ) → k < length ids → step_fault s (suc k) (held p rows) value ≡ settle_fault c false (held p rows)
  place_fault p rows k lt = rw (t.index k lt, no_and) refl

  pub placed : (p : Pending) (rows : List Row) (w : Waiting) (b : Bool) (k : ℕ) (x : Text) → k < length ids
      → to_positional c (arg_by_index c (suc k)) x (at p rows w (suc k) b) (held p rows)
      ≡ at (Some (get_or ids k [], x ∷ [])) (settled_rows c p rows) idle (suc (suc k)) b
  placed p rows w b k x lt =
      let follows : min (suc k + 1) 18446744073709551615 ≡ suc (suc k) = omega (arith, t.few) in
      rw (t.index k lt, no_and, no_or, follows) refl

  -- a plain word that has none
  pub no_place : (p : Pending) (rows : List Row) (k : ℕ) → length ids ≤ k → step_fault s (suc k) (held p rows) value ≢ []
  no_place p rows k le = rw (t.past k le) (λ e. cc)

  -- `--`
  pub turn_ends : (p : Pending) (rows : List Row) (n : ℕ)
      → (turn_fault s [] (at p rows idle n false) (codes "--") ≡ []) × (walked c [] (at p rows idle n false) (codes "--") ≡ at p rows idle n true)
  unfolding walked
  turn_ends p rows n = (refl, refl)

  -- a word that begins with `-`, and is none of those that may
  pub turn_other : (p : Pending) (rows : List Row) (w : Waiting) (n : ℕ) (x : Text) → IsUtf8 x → ReadsOther x → turn_fault s [] (at p rows w n false) x ≢ []
  unfolding flags_fault
  turn_other p rows w n x u h = elim h.1 [
    | inl long ↦ rw (no_subcommand w x, h.0, long.1, t.long (long.0).0 long.2) (λ e. cc)
    | inr flags ↦ (let first = first_flag flags.0 flags.1 (subst IsUtf8 flags.4 u) in
        rw (no_subcommand w x, h.0, flags.2, flags.3, first.1, t.short first.0) (λ e. cc))
  ]

  -- `--new`
  pub turn_new : (p : Pending) (rows : List Row) (n : ℕ) → most ≡ 1
      → (turn_fault s [] (at p rows idle n false) (codes "--new") ≡ settle_fault c false (held p rows))
      × (walked c [] (at p rows idle n false) (codes "--new") ≡ at (Some (codes "new", [])) (settled_rows c p rows) (option (codes "new")) n false)
  unfolding walked
  turn_new p rows n one =
      let both = takes_new c most t.new one in
      rw both.0 (or_nil _, refl)

  -- `--new=`
  pub turn_new_is : (p : Pending) (rows : List Row) (n : ℕ) (v : Text) → most ≡ 1
      → (turn_fault s [] (at p rows idle n false) (codes "--new=" ++ v) ≡ or_else (settle_fault c false (held p rows)) (repeat_fault false (codes "new") (settled_rows c p rows)))
      × (walked c [] (at p rows idle n false) (codes "--new=" ++ v) ≡ at None (used_with (codes "new") v (settled_rows c p rows)) idle n false)
  unfolding walked
  turn_new_is p rows n v one =
      let both = takes_new c most t.new one in
      rw both.0 (or_nil _ ∙ ap (or_else (settle_fault c false (held p rows))) (or_nil _), refl)

  pub turn_no_new : (p : Pending) (rows : List Row) (n : ℕ) → most ≡ 0 → turn_fault s [] (at p rows idle n false) (codes "--new") ≢ []
  turn_no_new p rows n zero_ = rw (takes_no_new c most t.new zero_) (λ e. cc)

  pub turn_no_new_is : (p : Pending) (rows : List Row) (n : ℕ) (v : Text) → most ≡ 0 → turn_fault s [] (at p rows idle n false) (codes "--new=" ++ v) ≢ []
  turn_no_new_is p rows n v zero_ = rw (takes_no_new c most t.new zero_) (λ e. cc)

  -- the value that `--new` waits for
  pub turn_value : (rows : List Row) (n : ℕ) (x : Text) → most ≡ 1 → ReadsPlain x
      → (turn_fault s [] (at (Some (codes "new", [])) rows (option (codes "new")) n false) x ≡ [])
      × (walked c [] (at (Some (codes "new", [])) rows (option (codes "new")) n false) x ≡ at (Some (codes "new", x ∷ [])) rows idle n false)
  unfolding walked
  turn_value rows n x one h =
      let both = takes_new c most t.new one in
      rw (h.0, h.1, h.2, both.1) (refl, refl)

  pub turn_value_ends : (rows : List Row) (n : ℕ)
      → (turn_fault s [] (at (Some (codes "new", [])) rows (option (codes "new")) n false) (codes "--") ≡ [])
      × (walked c [] (at (Some (codes "new", [])) rows (option (codes "new")) n false) (codes "--") ≡ at (Some (codes "new", [])) rows (option (codes "new")) n true)
  unfolding walked
  turn_value_ends rows n = (refl, refl)

  -- another word than a value
  pub turn_value_new : (rows : List Row) (n : ℕ) → most ≡ 1 → turn_fault s [] (at (Some (codes "new", [])) rows (option (codes "new")) n false) (codes "--new") ≢ []
  turn_value_new rows n one =
      let both = takes_new c most t.new one in
      rw (both.0, both.1) (λ e. cc)

  pub turn_value_new_is : (rows : List Row) (n : ℕ) (v : Text) → most ≡ 1 → turn_fault s [] (at (Some (codes "new", [])) rows (option (codes "new")) n false) (codes "--new=" ++ v) ≢ []
  turn_value_new_is rows n v one =
      let both = takes_new c most t.new one in
      rw (both.0, both.1) (λ e. cc)

  -- what settles
  pub settle_word : (k : ℕ) (x : Text) (rows : List Row) → k < length ids
      → (settle_fault c false (held (Some (get_or ids k [], x ∷ [])) rows) ≡ repeat_fault false (get_or ids k []) rows)
      × (settled_rows c (Some (get_or ids k [], x ∷ [])) rows ≡ used_with (get_or ids k []) x rows)
  settle_word k x rows lt = rw (t.id k lt) (or_nil _, refl)

  pub settle_new : (x : Text) (rows : List Row) → most ≡ 1
      → (settle_fault c false (held (Some (codes "new", x ∷ [])) rows) ≡ repeat_fault false (codes "new") rows)
      × (settled_rows c (Some (codes "new", x ∷ [])) rows ≡ used_with (codes "new") x rows)
  settle_new x rows one = rw ((takes_new c most t.new one).1) (or_nil _, refl)

  pub settle_none : (rows : List Row) → most ≡ 1 → settle_fault c false (held (Some (codes "new", [])) rows) ≢ []
  settle_none rows one = rw ((takes_new c most t.new one).1) (λ e. cc)
