use Rattle.ark_media.specs.Calls.{OnTold}
use Rattle.std.proofs.Common.{◌≡◌, ◌+◌, ◌∙◌, ℕ, [], true, false, Option, Ok, length, refl, sym, ap, subst, arith}
use Rattle.std.specs.Prelude.{IfSome}
use Rattle.circular_buffer.specs.Buffer.{Buffer}
use Rattle.ark_media.specs.Journal.{current}
use Rattle.ark_chain.specs.Walking.{IsNext, FitsAt, HasLooked}
use Rattle.ark_chain.proofs.Looking.{none_read, still_told, same_blocks}
use Rattle.ark_chain.proofs.Walked.{AreStanding, none_stands, none_entries, none_once, none_went, pushed, step_count, step_entries, step_once, step_went, step_standing, standing_found, none_behind, walk_ends}
use Rattle.ark_chain.proofs.surveying.note_entries.Goals as goal

pub loop-taken-init : goal.loop-taken-init
loop-taken-init g c =
    let room = c.args.from.now.room in
    let start = c.args.from.now.start in
    let lengths = c.args.lengths.now.items in
    record {
      went = none_went room c.args.first lengths c.requires.empty g.D.Disk.goes g.met.D.Disk.goes_none start c.args.disk.now;
      once = none_once room c.args.first lengths c.requires.empty;
      entries = none_entries room c.args.first lengths c.requires.empty c.requires.low;
      count = ap (λ l. length l) c.requires.empty;
      capacity = refl;
      blocks = refl;
      standing = λ h told. none_stands room start c.args.first lengths (current h.base h.journal) c.requires.empty;
    }

pub next_entry-requires-clause-inside : goal.next_entry-requires-clause-inside
next_entry-requires-clause-inside g c = c.requires.inside ∙ sym c.loop-taken.invariant.blocks

pub returns-in-Err-clause-went : goal.returns-in-Err-clause-went
returns-in-Err-clause-went g c =
    let looked = c.in-Err.ensures.went in
    let i = c.loop-taken.invariant in
    walk_ends g.D.Disk.goes g.met.D.Disk.goes_more c.args.from.now.room c.args.from.now.start c.loop-taken.lengths.items c.loop-taken.used false c.args.disk.now c.loop-taken.disk c.next_entry.new.disk
    i.entries.used_is i.went i.once looked.places looked.went looked.once looked.ends.0 looked.ends.1 looked.ends.2

pub returns-in-Ok-None-clause-went : goal.returns-in-Ok-None-clause-went
returns-in-Ok-None-clause-went g c =
    let room = c.args.from.now.room in
    let start = c.args.from.now.start in
    let i = c.loop-taken.invariant in
    let looked = subst (λ (o : Option ℕ). HasLooked g.D.Disk.goes room start c.loop-taken.used (Ok o) c.loop-taken.disk c.next_entry.new.disk) c.in-Ok-None.field-0-is c.in-Ok-None.ensures.went in
    walk_ends g.D.Disk.goes g.met.D.Disk.goes_more room start c.loop-taken.lengths.items c.loop-taken.used true c.args.disk.now c.loop-taken.disk c.next_entry.new.disk
    i.entries.used_is i.went i.once looked.places looked.went looked.once looked.ends.0 looked.ends.1 looked.ends.2

pub returns-in-Ok-None-clause-found : goal.returns-in-Ok-None-clause-found
returns-in-Ok-None-clause-found g c h is =
    let room = c.args.from.now.room in
    let start = c.args.from.now.start in
    let lengths = c.loop-taken.lengths.items in
    let i = c.loop-taken.invariant in
    let number = c.args.first + c.from.result in
    let image = current h.base h.journal in
    let numbered : number ≡ c.args.first + length lengths = ap (λ n. c.args.first + n) (c.from.ensures ∙ sym i.count) in
    let next = subst (λ (o : Option ℕ). OnTold (g.D.Disk.told c.next_entry.new.disk) (IsNext room start c.loop-taken.used number o)) c.in-Ok-None.field-0-is c.in-Ok-None.ensures.next in
    standing_found room start c.args.first number lengths c.loop-taken.used image numbered
    (still_told g.D.Disk.goes g.D.Disk.told g.met.D.Disk.goes_told _ true c.loop-taken.disk c.next_entry.new.disk c.in-Ok-None.ensures.went.went (AreStanding room start c.args.first lengths c.loop-taken.used) i.standing h is)
    (next h is)

pub loop-taken-preserved : goal.loop-taken-preserved
loop-taken-preserved g c =
    let room = c.args.from.now.room in
    let start = c.args.from.now.start in
    let first = c.args.first in
    let lengths = c.loop-taken.lengths.items in
    let more = c.push_back.new.self.items in
    let used = c.loop-taken.used in
    let up = used + c.entry_blocks-used.result in
    let len = c.in-Ok-Some.len in
    let i = c.loop-taken.invariant in
    let number = first + c.from.result in
    let numbered : number ≡ first + length lengths = ap (λ n. first + n) (c.from.ensures ∙ sym i.count) in
    let is = pushed c.loop-taken.lengths c.push_back.new.self len c.push_back.ensures.items (omega (arith, i.count, c.loop-taken-test.true, i.capacity, c.requires.room)) in
    let sum = ap (λ n. used + n) c.entry_blocks-used.ensures in
    let next = subst (λ (o : Option ℕ). OnTold (g.D.Disk.told c.next_entry.new.disk) (IsNext room start used number o)) c.in-Ok-Some.field-0-is c.in-Ok-Some.ensures.next in
    let fits = subst (λ (o : Option ℕ). IfSome o (FitsAt room used number)) c.in-Ok-Some.field-0-is c.in-Ok-Some.ensures.fits in
    let looked = subst (λ (o : Option ℕ). HasLooked g.D.Disk.goes room start used (Ok o) c.loop-taken.disk c.next_entry.new.disk) c.in-Ok-Some.field-0-is c.in-Ok-Some.ensures.went in
    record {
      went = step_went room first number lengths more used up len is sum g.D.Disk.goes g.met.D.Disk.goes_more start c.args.disk.now c.loop-taken.disk c.next_entry.new.disk looked.places looked.ends i.entries.used_is i.went looked.went;
      once = step_once room first number lengths more used up len is sum i.entries.used_is i.once;
      entries = step_entries room first number lengths more used up len is sum numbered i.entries fits;
      count = omega (arith, i.count, step_count room first number lengths more used up len is sum);
      capacity = ap (λ (b : Buffer ℕ). b.capacity) c.push_back.ensures.items ∙ i.capacity;
      blocks = same_blocks g.D.Disk.goes g.D.Disk.told g.met.D.Disk.goes_told _ true c.loop-taken.disk c.next_entry.new.disk c.in-Ok-Some.ensures.went.went ∙ i.blocks;
      standing = λ h told. step_standing room first number lengths more used up len is sum start (current h.base h.journal) numbered
          (still_told g.D.Disk.goes g.D.Disk.told g.met.D.Disk.goes_told _ true c.loop-taken.disk c.next_entry.new.disk c.in-Ok-Some.ensures.went.went (AreStanding room start first lengths used) i.standing h told) (next h told);
    }

pub returns-clause-went : goal.returns-clause-went
returns-clause-went g c =
    let i = c.loop-taken.invariant in
    walk_ends g.D.Disk.goes g.met.D.Disk.goes_more c.args.from.now.room c.args.from.now.start c.loop-taken.lengths.items c.loop-taken.used true c.args.disk.now c.loop-taken.disk c.loop-taken.disk
    i.entries.used_is i.went i.once [] (none_read g.D.Disk.goes g.met.D.Disk.goes_none c.loop-taken.disk) i.entries.fits 0 0 refl

pub returns-clause-found : goal.returns-clause-found
returns-clause-found g c h is =
    let room = c.args.from.now.room in
    let start = c.args.from.now.start in
    let lengths = c.loop-taken.lengths.items in
    let i = c.loop-taken.invariant in
    let image = current h.base h.journal in
    standing_found room start c.args.first (c.args.first + length lengths) lengths c.loop-taken.used image refl (i.standing h is)
    (none_behind room start c.loop-taken.used (c.args.first + length lengths) image (omega (arith, i.entries.few, i.count, c.loop-taken-test.false)))
