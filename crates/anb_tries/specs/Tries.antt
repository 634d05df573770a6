-- The verdict on one attempt.
use Rattle.std.specs.Prelude.{◌≡◌}
use Rattle.anb_partner.specs.declared.conversation.TalkEnd.{TalkEnd}
use Rattle.anb_partner.specs.declared.conversation.TalkEnd.TheVariants.{Done, Refused, Missing, Cut, Long, ReadFault, WriteFault, TooLong, Unchanged}
use Rattle.anb_judge.specs.Verdicts.{Judged}
use Rattle.anb_verdict.specs.declared.seen.Seen.{Seen}
use Rattle.anb_verdict.specs.declared.verdict.Verdict.{Verdict}
use Rattle.anb_verdict.specs.declared.verdict.Verdict.TheVariants as says
use Rattle.anb_verdict.specs.Verdicts.{IsVerdict}

-- where the talk ended so: nothing was tried where there is no wrong value, or a message is too long; and else the verdict
-- is that on the lines and on what was seen beside them
abbrev pub IsTriedVerdict : Judged → Seen → TalkEnd → Verdict → Type 0
IsTriedVerdict judged seen Unchanged verdict = verdict ≡ says.Unchanged
IsTriedVerdict judged seen TooLong verdict = verdict ≡ says.TooLong
IsTriedVerdict judged seen Done verdict = IsVerdict judged seen verdict
IsTriedVerdict judged seen Refused verdict = IsVerdict judged seen verdict
IsTriedVerdict judged seen Missing verdict = IsVerdict judged seen verdict
IsTriedVerdict judged seen (Cut have need) verdict = IsVerdict judged seen verdict
IsTriedVerdict judged seen (Long len) verdict = IsVerdict judged seen verdict
IsTriedVerdict judged seen ReadFault verdict = IsVerdict judged seen verdict
IsTriedVerdict judged seen WriteFault verdict = IsVerdict judged seen verdict
