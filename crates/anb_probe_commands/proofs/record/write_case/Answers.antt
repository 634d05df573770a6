use Rattle.std.proofs.Common.{◌∙◌, Err, ap, inl, inr}
use Rattle.anb_probe_commands.specs.Keeping.{told}
use Rattle.anb_probe_commands.proofs.Told.{goes_failed, others_of}
use Rattle.anb_probe_commands.proofs.record.write_case.Goals as goal

pub returns-in-Err-Failed : goal.returns-in-Err-Failed
returns-in-Err-Failed g c =
    goes_failed c.args.folder.now (g.J.Store.state c.args.journal.now) (g.J.Store.state c.make.new.self) (told c.args.case c.args.lines.now) c.in-Ok.name (inr (c.args.case, c.requires, inl c.in-Ok.ensures))
    (c.make.ensures.cause (c.in-Err-Failed.is ∙ ap Err c.in-Err-Failed.field-0-is)) c.make.ensures.never_falls
    (others_of c.args.folder.now c.in-Ok.name (g.J.Store.state c.args.journal.now) (g.J.Store.state c.make.new.self) (inr (c.args.case, c.requires, inl c.in-Ok.ensures)) (rw c.as_str.ensures at c.make.ensures.others))
