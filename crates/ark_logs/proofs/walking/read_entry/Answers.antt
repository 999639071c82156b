use Rattle.std.proofs.Common.{◌≡◌, rules, ap, sym}
use Rattle.ark_script.proofs.Showing.{fitted_same}
use Rattle.ark_logs.proofs.Walked.{walk_by}
use Rattle.ark_logs.proofs.walking.read_entry.Goals as goal

pub returns-clause-went : goal.returns-clause-went
returns-clause-went g c =
    walk_by (λ v. v.spans) (λ v. v.disk.now) (λ a b. b.disk.ghost_name ≡ a.disk.ghost_name) g.D.Disk.goes g.D.Disk.told
    c.args.spans.now c.args.disk.now _ c.new-view.result c.read_at.new.disk c.new-view.ensures.spans (ap (λ b. b.now) c.new-view.ensures.disk) (search rules)
    c.args.chain.now c.args.n c.requires.area c.read_at.result c.read_at.new.out _ (sym (fitted_same c.args.out.now.buffer c.read_at.new.out (search rules)))
    c.read_at.ensures.went c.read_at.ensures.there c.read_at.ensures.len c.read_at.ensures.short c.read_at.ensures.none c.read_at.ensures.payload
