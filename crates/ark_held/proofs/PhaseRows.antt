-- The row of a move of the log that is open on a card: the log, what its machine keeps of the write that decides, and the block.
use Rattle.std.proofs.Common.{◌≡◌, inl, inr, ℕ, ◌+◌, Bool, true, false, cond, List, [], ◌∷◌, map, refl, sym, ◌∙◌, ap, arith, bytes_eq, Contains}
use Rattle.std.specs.Prelude.{if◌then◌else◌, nat_le, nat_lt, Option, Some, None, find, option_map, slice_get, unwrap_or}
use Rattle.std.proofs.lemmas.Bool.{false≢true}
use Rattle.std.proofs.lemmas.List.{map-id}
use Rattle.ark_base.specs.declared.kind.Outcome.TheVariants as outcome
use Rattle.ark_vic.specs.Pace.{Pace, fill_at}
use Rattle.ark_vsic.specs.Moves.{due_at, due_paced}
use Rattle.ark_vsic.specs.declared.due.Due.TheVariants as due
use Rattle.ark_caladan.specs.Chain.{Log, Opened, Phase}
use Rattle.ark_machine.specs.Objects
use Rattle.ark_machine.specs.Objects.{Object}
use Rattle.ark_machine.specs.Machine.{Machine, Held, at, holding, with_object, each_object}
use Rattle.ark_machine.specs.Control.{is_open_on}
use Rattle.ark_machine.specs.Moves.{log_on, decided_on, deciding_tried, phase_written}
use Rattle.ark_machine.specs.Row.{Ended}
use Rattle.ark_held.specs.Totals.{bit, open_count}
use Rattle.ark_held.specs.Around.{Around}
use Rattle.ark_held.specs.Held.{Holds}
use Rattle.ark_held.proofs.Changing.{put_at}
use Rattle.ark_held.proofs.Covering.{two_total, found_in}
use Rattle.ark_held.proofs.Finding.{found_there}
use Rattle.ark_held.proofs.Lists.{by_test, name_same, same_name, some_same}
use Rattle.ark_held.proofs.BothPut.{HasOpen}
use Rattle.ark_held.proofs.Members.{In, get_has}

-- a block that is due is one of the area's
paced_block : (pace : Option Pace) (now m n : ℕ) → due_paced pace now m ≡ due.Block n → m ≡ n
paced_block None now m n is = cc is
paced_block (Some p) now m n is = by (nat_lt p.burst 512) (nat_le (fill_at p now + 512) p.burst) is
  where
    by : (a b : Bool) → (if a then due.Ends outcome.OverBurst else if b then due.Block m else due.Waits) ≡ due.Block n → m ≡ n
    by true b same = absurd (cc same)
    by false true same = cc same
    by false false same = absurd (cc same)

pub block_inside : (blocks : List ℕ) (place : ℕ) (pace : Option Pace) (now n : ℕ) → due_at (slice_get blocks place) pace now ≡ due.Block n → Contains blocks n
block_inside blocks place pace now n is = by (slice_get blocks place) refl is
  where
    by : (at : Option ℕ) → slice_get blocks place ≡ at → due_at at pace now ≡ due.Block n → Contains blocks n
    by None there same = absurd (cc same)
    by (Some m) there same = get_has blocks place n (there ∙ ap (λ i. Some i) (paced_block pace now m n same))

find_only : (f : Held → Bool) (hs : List Held) (g : Held) → In hs g → f g ≡ true → ((z : Held) → In hs z → f z ≡ true → z ≡ g) → find f hs ≡ Some g
find_only f [] g inn has only = absurd inn
find_only f (y ∷ ys) g (inl e) has only = ap (λ b. cond b (Some y) (find f ys)) (ap f e ∙ has) ∙ ap (λ (z : Held). Some z) e
find_only f (y ∷ ys) g (inr inn) has only = by_test (λ b. f y ≡ b → cond b (Some y) (find f ys) ≡ Some g) (f y)
    (λ yes q. ap (λ (z : Held). Some z) (only y (inl refl) q)) (λ no q. find_only f ys g inn has (λ z i. only z (inr i))) refl

maps_same : (f e : Held → Held) (hs : List Held) → ((z : Held) → In hs z → f z ≡ e z) → map f hs ≡ map e hs
maps_same f e [] same = refl
maps_same f e (z ∷ zs) same = ap (λ (y : Held). y ∷ map f zs) (same z (inl refl)) ∙ ap (λ (ys : List Held). e z ∷ ys) (maps_same f e zs (λ y inn. same y (inr inn)))

-- the write that decides leaves what is not open on the card
not_tried : (v : List ℕ) (took : Bool) (o : Object) → is_open_on v o ≡ false → deciding_tried v took o ≡ o
not_tried v took (Objects.log g) shut = ap (λ (z : Option Opened). Objects.log (record g { opened = z })) (by g.opened shut)
  where
    by : (z : Option Opened) → unwrap_or (option_map (λ (y : Opened). bytes_eq v y.card) z) false ≡ false → option_map (decided_on v took) z ≡ z
    by None none = refl
    by (Some o) none = ap (λ b. Some (cond b (record o { decided = took }) o)) none
not_tried v took (Objects.raw r) shut = refl
not_tried v took (Objects.vsic r) shut = refl
not_tried v took (Objects.vnic r) shut = refl
not_tried v took (Objects.filter r y) shut = refl
not_tried v took (Objects.door r) shut = refl
not_tried v took (Objects.rate r y) shut = refl
not_tried v took (Objects.buffer r) shut = refl
not_tried v took (Objects.socket r) shut = refl

module _ (x : Around) (h : Holds x) (s v : List ℕ) (both : HasOpen x s v) (o : Opened) (is_open : both.log.opened ≡ Some o) (on : o.card ≡ v) (one : open_count x.machine v ≡ 1) where
  abbrev m : Machine
  m = x.machine

  is_there : In m.held both.held_log × (bytes_eq s both.held_log.label ≡ true)
  is_there = found_in s m.held both.held_log both.there_log

  on_it : is_open_on v both.held_log.object ≡ true
  on_it = ap (is_open_on v) both.object_log ∙ ap (λ (z : Option Opened). unwrap_or (option_map (λ (y : Opened). bytes_eq v y.card) z) false) is_open ∙ name_same v o.card (sym on)

  -- it is the one that is open on the card
  shut_else : (g : Held) → In m.held g → bytes_eq s g.label ≡ false → is_open_on v g.object ≡ false
  shut_else g inn apart = by_test (λ b. is_open_on v g.object ≡ b → b ≡ false) (is_open_on v g.object)
      (λ yes q.
      let two = two_total (λ z. bit (is_open_on v z.object)) m.held both.held_log g is_there.0 inn (λ e. false≢true (sym apart ∙ ap (λ (z : Held). bytes_eq s z.label) (sym e) ∙ is_there.1)) in
      let its : bit (is_open_on v both.held_log.object) ≡ 1 = ap bit on_it in
      let other : bit (is_open_on v g.object) ≡ 1 = ap bit q in
      let none : ⊥ = omega (arith, two, its, other, one) in absurd none)
      (λ no q. refl) refl

  same_there : (g : Held) → In m.held g → bytes_eq s g.label ≡ true → g ≡ both.held_log
  same_there g inn q = some_same (at m s) g both.held_log (ap (λ l. at m l) (same_name s g.label q) ∙ found_there x x.labels m.held g h.apart h.held inn) both.there_log

  pub log_on_is : log_on m v ≡ Some s
  log_on_is =
      ap (λ (z : Option Held). option_map (λ (y : Held). y.label) z) (find_only (λ z. is_open_on v z.object) m.held both.held_log is_there.0 on_it
      (λ z inn q. by_test (λ b. bytes_eq s z.label ≡ b → z ≡ both.held_log) (bytes_eq s z.label) (λ yes e. same_there z inn e) (λ no e. absurd (false≢true (sym (shut_else z inn e) ∙ q))) refl))
      ∙ ap (λ l. Some l) (sym (same_name s both.held_log.label is_there.1))

  abbrev log_with : Bool → Log
  log_with b = record both.log { opened = Some (record o { decided = b }) }

  its_object : (g : Held) → In m.held g → bytes_eq s g.label ≡ true → g.object ≡ Objects.log both.log
  its_object g inn q = ap (λ (z : Held). z.object) (same_there g inn q) ∙ both.object_log

  -- the write that decides was tried
  tried_is : (took : Bool) → each_object (deciding_tried v took) m ≡ with_object m s (Objects.log (log_with took))
  tried_is took = ap (λ (hs : List Held). record m { held = hs }) (maps_same (λ g. holding (deciding_tried v took g.object) g) (put_at s (Objects.log (log_with took))) m.held each)
    where
      each : (g : Held) → In m.held g → holding (deciding_tried v took g.object) g ≡ put_at s (Objects.log (log_with took)) g
      each g inn = by_test (λ b. bytes_eq s g.label ≡ b → holding (deciding_tried v took g.object) g ≡ cond b (holding (Objects.log (log_with took)) g) g) (bytes_eq s g.label)
          (λ yes q.
          ap (λ (z : Object). holding (deciding_tried v took z) g) (its_object g inn q)
          ∙ ap (λ (z : Option Opened). holding (Objects.log (record both.log { opened = option_map (decided_on v took) z })) g) is_open
          ∙ ap (λ b. holding (Objects.log (record both.log { opened = Some (cond b (record o { decided = took }) o) })) g) (name_same v o.card (sym on)))
          (λ no q. ap (λ (z : Object). holding z g) (not_tried v took g.object (shut_else g inn q))) refl

  -- it is as it was
  pub same_log : m ≡ with_object m s (Objects.log (log_with o.decided))
  same_log = ap (λ (hs : List Held). record m { held = hs }) (sym (map-id m.held) ∙ maps_same (λ g. g) (put_at s (Objects.log (log_with o.decided))) m.held each)
    where
      each : (g : Held) → In m.held g → g ≡ put_at s (Objects.log (log_with o.decided)) g
      each g inn = by_test (λ b. bytes_eq s g.label ≡ b → g ≡ cond b (holding (Objects.log (log_with o.decided)) g) g) (bytes_eq s g.label)
          (λ yes q. sym (ap (λ (z : Object). holding z g) (ap (λ (z : Option Opened). Objects.log (record both.log { opened = z })) (sym is_open) ∙ sym (its_object g inn q))))
          (λ no q. refl) refl

  pub written_is : (p : Phase) (b : Bool) (e : Ended) → p.decides ≡ b → phase_written m v p e ≡ with_object m s (Objects.log (log_with (if b then e.took else o.decided)))
  written_is p true e is = ap (λ b. if b then each_object (deciding_tried v e.took) m else m) is ∙ tried_is e.took
  written_is p false e is = ap (λ b. if b then each_object (deciding_tried v e.took) m else m) is ∙ same_log
