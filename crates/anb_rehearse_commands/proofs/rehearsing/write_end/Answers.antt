use Rattle.std.proofs.Common.{refl, sym, subst, inr}
use Rattle.anb_honest.specs.declared.report.RehearseEnd.{RehearseEnd}
use Rattle.anb_status.specs.declared.status.Status.TheVariants.{Done, NotAll}
use Rattle.anb_rehearse_commands.specs.RehearseCommand.{Tells}
use Rattle.anb_rehearse_commands.specs.Reports.{report_text}
use Rattle.anb_command.proofs.Reported.{nothing_failed, quiet_told, writing_told}
use Rattle.anb_rehearse_commands.proofs.rehearsing.write_end.Goals as goal

pub returns-in-Err-Failed-clause-told : goal.returns-in-Err-Failed-clause-told
returns-in-Err-Failed-clause-told g c =
    let text = report_text c.in-AllDone.report in
    (Done, text, subst (λ (end : RehearseEnd). Tells end Done text) (sym c.in-AllDone.is) (refl, refl), c.in-Err-Failed.ensures.writes.part)

pub returns-in-AllDone-clause-told : goal.returns-in-AllDone-clause-told
returns-in-AllDone-clause-told g c =
    let text = report_text c.in-AllDone.report in
    inr (Done, text, subst (λ (end : RehearseEnd). Tells end Done text) (sym c.in-AllDone.is) (refl, refl), c.in-Err-NoMemory.ensures.writes.part)

pub returns-in-Err-Failed-write_report_now-clause-told : goal.returns-in-Err-Failed-write_report_now-clause-told
returns-in-Err-Failed-write_report_now-clause-told g c =
    let report = c.in-Part.report in
    let text = report_text report in
    (NotAll report, text, subst (λ (end : RehearseEnd). Tells end (NotAll report) text) (sym c.in-Part.is) (refl, refl), c.in-Err-Failed-write_report_now.ensures.writes.part)

pub returns-in-Part-clause-told : goal.returns-in-Part-clause-told
returns-in-Part-clause-told g c =
    let report = c.in-Part.report in
    let text = report_text report in
    inr (NotAll report, text, subst (λ (end : RehearseEnd). Tells end (NotAll report) text) (sym c.in-Part.is) (refl, refl), c.in-Err-NoMemory-write_report_now.ensures.writes.part)

pub returns-in-Ok-clause-reported : goal.returns-in-Ok-clause-reported
returns-in-Ok-clause-reported g c = quiet_told _ _ _ c.in-Ok.ensures.only (c.in-Ok.ensures.writes.quiet (λ failed. absurd (cc)))

pub returns-in-Err-Failed-clause-reported : goal.returns-in-Err-Failed-clause-reported
returns-in-Err-Failed-clause-reported g c = writing_told _ _ _ c.in-Err-Failed.ensures.only (λ _. refl)

pub returns-in-AllDone-clause-reported : goal.returns-in-AllDone-clause-reported
returns-in-AllDone-clause-reported g c = quiet_told _ _ _ c.in-Err-NoMemory.ensures.only (c.in-Err-NoMemory.ensures.writes.quiet (λ failed. absurd (cc)))

pub returns-in-Ok-write_report_now-clause-reported : goal.returns-in-Ok-write_report_now-clause-reported
returns-in-Ok-write_report_now-clause-reported g c = quiet_told _ _ _ c.in-Ok-write_report_now.ensures.only (c.in-Ok-write_report_now.ensures.writes.quiet (λ failed. absurd (cc)))

pub returns-in-Err-Failed-write_report_now-clause-reported : goal.returns-in-Err-Failed-write_report_now-clause-reported
returns-in-Err-Failed-write_report_now-clause-reported g c = writing_told _ _ _ c.in-Err-Failed-write_report_now.ensures.only (λ _. refl)

pub returns-in-Part-clause-reported : goal.returns-in-Part-clause-reported
returns-in-Part-clause-reported g c = quiet_told _ _ _ c.in-Err-NoMemory-write_report_now.ensures.only (c.in-Err-NoMemory-write_report_now.ensures.writes.quiet (λ failed. absurd (cc)))

pub returns-in-LongMessage-clause-reported : goal.returns-in-LongMessage-clause-reported
returns-in-LongMessage-clause-reported g c = nothing_failed _ _ _ refl refl refl
