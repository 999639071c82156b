use Rattle.std.proofs.Common.{◌≡◌, ◌+◌, ◌-◌, ◌%◌, ◌∙◌, [], ◌∷◌, true, false, sym, arith}
use Rattle.std.proofs.lemmas.List.{length-drop}
use Rattle.ark_media.specs.Journal.{block, current}
use Rattle.ark_chain.specs.Survey.{block_at}
use Rattle.ark_chain.specs.Single.{behind}
use Rattle.ark_chain.proofs.Looking.{reads_then, same_blocks, image_long}
use Rattle.ark_chain.proofs.Payloads.{entry_stop, few_blocks, none_there}
use Rattle.ark_chain.proofs.Reread.{seen}
use Rattle.ark_chain.proofs.single.entry_of.Goals as goal

pub returns-in_err-read_block-clause-went : goal.returns-in_err-read_block-clause-went
returns-in_err-read_block-clause-went g c =
    entry_stop g.D.Disk.goes g.D.Disk.told c.args.p (c.blocks-2.result - 1) 1 c.from_residual.result c.args.disk.now c.read_block.new.disk c.from_residual.ensures.0 (omega (arith, c.requires.two, c.blocks-2.ensures)) (omega arith) c.in_err-read_block.ensures.went

pub returns-in_default-clause-went : goal.returns-in_default-clause-went
returns-in_default-clause-went g c = record { room = c.blocks-2.result - 1; ring = omega (arith, c.requires.two, c.blocks-2.ensures); count = 1; few = omega arith; went = c.in_ok-read_block.ensures.went; all = tt }

pub returns-in_default-clause-entry : goal.returns-in_default-clause-entry
returns-in_default-clause-entry g c h is whole =
    let room = c.blocks-2.result - 1 in
    let image = current h.base h.journal in
    let ring : room + 1 ≡ (g.D.Disk.told c.args.disk.now).blocks = omega (arith, c.requires.two, c.blocks-2.ensures) in
    let size = image_long g.D.Disk.goes g.D.Disk.told g.met.D.Disk.goes_told g.met.D.Disk.size_is _ true c.args.disk.now c.read_block.new.disk c.in_ok-read_block.ensures.went (room + 1) ring h is in
    let first : block image (block_at room c.args.p 0) ≡ c.block_in.result.now = sym (c.block_in.ensures ∙ c.in_ok-read_block.ensures.block h is) in
    none_there image room c.args.p c.args.number (omega (arith, length-drop 1 image, size)) (omega (arith, ring, c.requires.place)) c.block_in.result.now first (c.head_len.ensures.none c.in_default.is)

pub read_on-requires-clause-inside : goal.read_on-requires-clause-inside
read_on-requires-clause-inside g c =
    let same = same_blocks g.D.Disk.goes g.D.Disk.told g.met.D.Disk.goes_told _ true c.args.disk.now c.read_block.new.disk c.in_ok-read_block.ensures.went in
    omega (arith, c.requires.two, c.blocks-2.ensures, same)

pub returns-in_err-read_on-clause-went : goal.returns-in_err-read_on-clause-went
returns-in_err-read_on-clause-went g c =
    let room = c.blocks-2.result - 1 in
    let on = c.in_err-read_on.ensures.went in
    entry_stop g.D.Disk.goes g.D.Disk.told c.args.p room on.count c.from_residual-in_err-read_on.result c.args.disk.now c.read_on.new.disk c.from_residual-in_err-read_on.ensures.0 (omega (arith, c.requires.two, c.blocks-2.ensures)) (few_blocks c.in-Some.len c.entry_blocks-blocks.result on.count c.in-Some.ensures.head.fits.short c.entry_blocks-blocks.ensures on.few)
    (reads_then g.D.Disk.goes g.met.D.Disk.goes_more room c.args.p (0 ∷ []) (behind on.count) false c.args.disk.now c.read_block.new.disk c.read_on.new.disk c.in_ok-read_block.ensures.went on.went)

pub returns-then-marked-clause-went : goal.returns-then-marked-clause-went
returns-then-marked-clause-went g c =
    let room = c.blocks-2.result - 1 in
    let on = c.in_ok-read_on.ensures.went in
    record {
      room = room;
      ring = omega (arith, c.requires.two, c.blocks-2.ensures);
      count = on.count;
      few = few_blocks c.in-Some.len c.entry_blocks-blocks.result on.count c.in-Some.ensures.head.fits.short c.entry_blocks-blocks.ensures on.few;
      went = reads_then g.D.Disk.goes g.met.D.Disk.goes_more room c.args.p (0 ∷ []) (behind on.count) true c.args.disk.now c.read_block.new.disk c.read_on.new.disk c.in_ok-read_block.ensures.went on.went;
      all = on.all ∙ c.entry_blocks-blocks.ensures;
    }

pub returns-then-marked-clause-entry : goal.returns-then-marked-clause-entry
returns-then-marked-clause-entry g c h is whole =
    let e = seen g.D.Disk.goes g.D.Disk.told g.met.D.Disk.goes_told g.met.D.Disk.size_is c.args.p c.args.number c.args.disk.now c.read_block.new.disk c.read_on.new.disk (c.blocks-2.result - 1) (omega (arith, c.requires.two, c.blocks-2.ensures)) c.requires.place (0 ∷ []) c.in_ok-read_block.ensures.went (behind c.in_ok-read_on.ensures.went.count) c.in_ok-read_on.ensures.went.went c.args.out.now c.read_block.new.out c.read_on.new.out
    c.in_ok-read_block.ensures.block c.block_in.result.now c.block_in.ensures c.in-Some.len c.in-Some.ensures.head c.entry_blocks-blocks.result c.entry_blocks-blocks.ensures c.in_ok-read_on.ensures.bytes c.block_in-2.result.now c.block_in-2.ensures h is whole in
    (e.marked (sym c.marked.ensures ∙ c.if-marked.true), c.index.ensures ∙ (λ i. (c.args.p + c.entry_blocks-blocks.ensures i) % sym e.long i))

pub returns-else-marked-clause-went : goal.returns-else-marked-clause-went
returns-else-marked-clause-went g c =
    let room = c.blocks-2.result - 1 in
    let on = c.in_ok-read_on.ensures.went in
    record {
      room = room;
      ring = omega (arith, c.requires.two, c.blocks-2.ensures);
      count = on.count;
      few = few_blocks c.in-Some.len c.entry_blocks-blocks.result on.count c.in-Some.ensures.head.fits.short c.entry_blocks-blocks.ensures on.few;
      went = reads_then g.D.Disk.goes g.met.D.Disk.goes_more room c.args.p (0 ∷ []) (behind on.count) true c.args.disk.now c.read_block.new.disk c.read_on.new.disk c.in_ok-read_block.ensures.went on.went;
      all = tt;
    }

pub returns-else-marked-clause-entry : goal.returns-else-marked-clause-entry
returns-else-marked-clause-entry g c h is whole =
    let e = seen g.D.Disk.goes g.D.Disk.told g.met.D.Disk.goes_told g.met.D.Disk.size_is c.args.p c.args.number c.args.disk.now c.read_block.new.disk c.read_on.new.disk (c.blocks-2.result - 1) (omega (arith, c.requires.two, c.blocks-2.ensures)) c.requires.place (0 ∷ []) c.in_ok-read_block.ensures.went (behind c.in_ok-read_on.ensures.went.count) c.in_ok-read_on.ensures.went.went c.args.out.now c.read_block.new.out c.read_on.new.out
    c.in_ok-read_block.ensures.block c.block_in.result.now c.block_in.ensures c.in-Some.len c.in-Some.ensures.head c.entry_blocks-blocks.result c.entry_blocks-blocks.ensures c.in_ok-read_on.ensures.bytes c.block_in-2.result.now c.block_in-2.ensures h is whole in
    e.unmarked (sym c.marked.ensures ∙ c.if-marked.false)
