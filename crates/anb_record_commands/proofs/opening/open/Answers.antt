use Rattle.std.proofs.Common.{Err, sym, ap, ◌∙◌, inl, inr}
use Rattle.anb_record_commands.proofs.Holding.{both_absent, both_mine, names_differ}
use Rattle.anb_record_commands.proofs.opening.open.Goals as goal

pub make_both-requires : goal.make_both-requires
make_both-requires g c = record { differ = λ same. names_differ c.args.folder.now (sym c.in-Ok.ensures.values ∙ same ∙ c.in-Ok.ensures.transcript) }

pub returns-in-Ok-make_both : goal.returns-in-Ok-make_both
returns-in-Ok-make_both g c = (
  c.in-Ok.ensures.transcript,
  rw (sym c.in-Ok.ensures.values, sym c.in-Ok.ensures.transcript) c.in-Ok-make_both.ensures.begun,
  both_absent c.args.folder.now _ _ (g.J.Store.state c.args.journal.now) c.in-Ok.ensures.values c.in-Ok.ensures.transcript c.in-Ok-make_both.ensures.new_first c.in-Ok-make_both.ensures.new_second,
)

pub returns-in-Err-First : goal.returns-in-Err-First
returns-in-Err-First g c = (inl c.in-Ok.ensures.values, c.make_both.ensures.first_there (c.in-Err-First.is ∙ ap Err c.in-Err-First.field-0-is), c.make_both.ensures.first_stays (c.in-Err-First.is ∙ ap Err c.in-Err-First.field-0-is))

pub returns-in-Err-Second : goal.returns-in-Err-Second
returns-in-Err-Second g c = (inr c.in-Ok.ensures.transcript, c.make_both.ensures.second_there (c.in-Err-Second.is ∙ ap Err c.in-Err-Second.field-0-is), c.make_both.ensures.second_stays (c.in-Err-Second.is ∙ ap Err c.in-Err-Second.field-0-is))

pub returns-in-Err-Failed : goal.returns-in-Err-Failed
returns-in-Err-Failed g c = (
  inl c.in-Ok.ensures.values,
  c.make_both.ensures.cause (c.in-Err-Failed.is ∙ ap Err c.in-Err-Failed.field-0-is),
  both_mine c.args.folder.now _ _ (g.J.Store.state c.args.journal.now) (g.J.Store.state c.make_both.new.journal) c.in-Ok.ensures.values c.in-Ok.ensures.transcript c.make_both.ensures.others,
)
