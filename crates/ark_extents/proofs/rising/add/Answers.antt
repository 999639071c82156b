use Rattle.std.proofs.Common.{◌∙◌, inl, inr, ⊎_elim, ap, sym, subst, List, take, drop, length}
use Rattle.std.proofs.lemmas.List.{take-append-drop}
use Rattle.ark_base.specs.declared.block.Span.{Span}
use Rattle.ark_extents.specs.Free.{AreRising, IsRunPlace, AnyHas}
use Rattle.ark_extents.proofs.RisingRuns.{place_front, place_rest, front_length, length-front, any_append}
use Rattle.ark_extents.proofs.rising.add.Goals as goal

pub with_next-whole-requires-clause-rising : goal.with_next-whole-requires-clause-rising
with_next-whole-requires-clause-rising c =
    let place = subst (λ (l : List Span). IsRunPlace l c.args.run.start c.place_of-i.result) c.deref.ensures.value c.place_of-i.ensures.place in
    place_rest c.args.runs.now.items c.place_of-i.result c.args.run c.requires.rising place c.requires.some c.requires.apart

pub put_behind-requires-clause-within : goal.put_behind-requires-clause-within
put_behind-requires-clause-within c =
    let place = subst (λ (l : List Span). IsRunPlace l c.args.run.start c.place_of-i.result) c.deref.ensures.value c.place_of-i.ensures.place in
    front_length c.with_next-whole.new.runs.items c.place_of-i.result (ap length c.with_next-whole.ensures.front ∙ length-front c.args.runs.now.items c.place_of-i.result place.within)

pub put_behind-requires-clause-front : goal.put_behind-requires-clause-front
put_behind-requires-clause-front c =
    let place = subst (λ (l : List Span). IsRunPlace l c.args.run.start c.place_of-i.result) c.deref.ensures.value c.place_of-i.ensures.place in
    subst (AreRising 0) (sym c.with_next-whole.ensures.front) (place_front c.args.runs.now.items c.place_of-i.result c.args.run c.requires.rising place c.requires.some c.requires.apart)

pub put_behind-requires-clause-before : goal.put_behind-requires-clause-before
put_behind-requires-clause-before c =
    let place = subst (λ (l : List Span). IsRunPlace l c.args.run.start c.place_of-i.result) c.deref.ensures.value c.place_of-i.ensures.place in
    rw (c.with_next-whole.ensures.front, c.with_next-whole.ensures.start) place.before

pub returns-clause-gained : goal.returns-clause-gained
returns-clause-gained c n =
    let rs = c.args.runs.now.items in
    let i = c.place_of-i.result in
    let both = c.put_behind.ensures.blocks n in
    let next = c.with_next-whole.ensures.blocks n in
    let all = any_append (take i rs) (drop i rs) n in
    let front = c.with_next-whole.ensures.front in
    let whole = take-append-drop i rs in (
      λ a. ⊎_elim (λ x. inl (subst (λ (l : List Span). AnyHas l n) whole (all.1 (inl (subst (λ (l : List Span). AnyHas l n) front x)))))
          (λ b. ⊎_elim (λ h. inr h) (λ y. inl (subst (λ (l : List Span). AnyHas l n) whole (all.1 (inr y)))) (next.0 b))
          (both.0 a),
      λ a. both.1 (⊎_elim
          (λ old. ⊎_elim (λ x. inl (subst (λ (l : List Span). AnyHas l n) (sym front) x)) (λ y. inr (next.1 (inr y))) (all.0 (subst (λ (l : List Span). AnyHas l n) (sym whole) old)))
          (λ h. inr (next.1 (inl h)))
          a),
    )
