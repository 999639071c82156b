use Rattle.std.proofs.Common.{rules, [], ◌<◌, ◌≤◌, length, get_or, subst, sym, ◌∙◌, ap, false, List, ℕ, arith}
use Rattle.std.proofs.lemmas.List.{length-map}
use Rattle.ark_media.specs.Journal.{Event, Sync, Write}
use Rattle.ark_memory.specs.Reels.{Taped}
use Rattle.ark_memory.specs.Tape.{event_of, IsOnTape}
use Rattle.ark_memory.specs.declared.tape.Kept.{Kept}
use Rattle.ark_memory.proofs.Taping.{kept_at, event_at, any_block}
use Rattle.ark_memory.proofs.tape.Tape.get.Goals as goal

pub index-requires-in-Write : goal.index-requires-in-Write
index-requires-in-Write c =
    let t = c.self.inside in
    let lt : c.args.i < length t.entries.items = search rules in
    let w : c.in-Write.place < length t.blocks.items = subst (λ (k : Kept). IsOnTape (length t.text.items) (length t.blocks.items) k) (sym c.index.ensures ∙ c.in-Write.is) (kept_at (length t.text.items) (length t.blocks.items) t.entries.items c.args.i c.index.result.now c.self.invariant.0.0 lt) in
    search rules

pub part_of-requires-clause-order : goal.part_of-requires-clause-order
part_of-requires-clause-order c =
    let t = c.self.inside in
    let lt : c.args.i < length t.entries.items = search rules in
    (subst (λ (k : Kept). IsOnTape (length t.text.items) (length t.blocks.items) k) (sym c.index.ensures ∙ c.in-Out.is) (kept_at (length t.text.items) (length t.blocks.items) t.entries.items c.args.i c.index.result.now c.self.invariant.0.0 lt)).0

pub part_of-requires-clause-inside : goal.part_of-requires-clause-inside
part_of-requires-clause-inside c =
    let t = c.self.inside in
    let lt : c.args.i < length t.entries.items = search rules in
    let w : c.in-Out.to ≤ length t.text.items = (subst (λ (k : Kept). IsOnTape (length t.text.items) (length t.blocks.items) k) (sym c.index.ensures ∙ c.in-Out.is) (kept_at (length t.text.items) (length t.blocks.items) t.entries.items c.args.i c.index.result.now c.self.invariant.0.0 lt)).1 in
    search rules

pub returns-in-Write : goal.returns-in-Write
returns-in-Write c =
    let t = c.self.inside in
    let lt : c.args.i < length t.entries.items = search rules in
    let w : c.in-Write.place < length t.blocks.items = subst (λ (k : Kept). IsOnTape (length t.text.items) (length t.blocks.items) k) (sym c.index.ensures ∙ c.in-Write.is) (kept_at (length t.text.items) (length t.blocks.items) t.entries.items c.args.i c.index.result.now c.self.invariant.0.0 lt) in
    let n : c.args.i < length c.args.self.now.events = subst (λ (l : List Event). c.args.i < length l) (ap (λ (t : Taped). t.events) c.self.view_is) (omega (arith, lt, length-map t.entries.items (event_of t.text.items t.blocks.items))) in (
      n,
      ap (λ (t : Taped). get_or t.events c.args.i (Sync false)) (sym c.self.view_is) ∙ event_at t.text.items t.blocks.items t.entries.items c.args.i c.index.result.now (Sync false) lt
          ∙ ap (λ (k : Kept). event_of t.text.items t.blocks.items k) (sym c.index.ensures ∙ c.in-Write.is)
          ∙ ap (λ (b : List ℕ). Write c.in-Write.n b c.in-Write.took c.in-Write.ok) (any_block t.blocks.items c.in-Write.place [] c.index-in-Write.result.now w ∙ sym c.index-in-Write.ensures),
    )
