use Rattle.std.proofs.Common.{sym, ◌∙◌}
use Rattle.anb_probe_commands.specs.Asking.{trying_by}
use Rattle.anb_probe_commands.specs.Tasks.{probing_by}
use Rattle.anb_probe_commands.proofs.Preparing.{honest_refused}
use Rattle.anb_probe_commands.proofs.cases.prepare.Goals as goal

pub returns-in-Some-clause-refused : goal.returns-in-Some-clause-refused
returns-in-Some-clause-refused c =
    let t = c.args.task.now in
    honest_refused (probing_by t.protocol t.role t.values t.seed) (trying_by c.args.trying) t.code c.requires.fits c.in-Ok.suite c.in-Ok.ensures.is c.in-Ok-partners_for.partners.items c.in-Some.lack c.honest_no.result
    (rw c.deref.ensures.value at c.in-Ok-partners_for.ensures.made) (rw c.deref.ensures.value at c.in-Ok-partners_for.ensures.each) (sym (rw c.deref-2.ensures.value at c.lack_at.ensures) ∙ c.in-Some.is) c.honest_no.ensures
