use Rattle.std.proofs.Common.{◌∙◌, sym}
use Rattle.anb_status.proofs.Lines.{arm_cannot_send_text, bad_arm_text, cannot_send_text, child_cut_text, child_silent_text, spent_text}
use Rattle.anb_status.proofs.status.Status.pieces.Goals as goal

pub returns-in-CannotSend : goal.returns-in-CannotSend
returns-in-CannotSend c =
    c.three.ensures ∙ sym (cannot_send_text _ _ _ _ _ c.in-CannotSend.is c.as_str-in-CannotSend.ensures c.format.ensures.text)

pub returns-in-Spent : goal.returns-in-Spent
returns-in-Spent c = c.two-in-Spent.ensures ∙ sym (spent_text _ _ _ c.in-Spent.is c.format-in-Spent.ensures.text)

pub returns-in-ArmCannotSend : goal.returns-in-ArmCannotSend
returns-in-ArmCannotSend c =
    c.five-in-ArmCannotSend.ensures
    ∙ sym (arm_cannot_send_text _ _ _ _ _ _ _ c.in-ArmCannotSend.is c.as_str-in-ArmCannotSend.ensures c.format-in-ArmCannotSend.ensures.text c.format-in-ArmCannotSend-2.ensures.text)

pub returns-in-BadArm : goal.returns-in-BadArm
returns-in-BadArm c = c.three-in-BadArm.ensures ∙ sym (bad_arm_text _ _ _ c.in-BadArm.is c.format-in-BadArm.ensures.text)

pub returns-in-ChildCut : goal.returns-in-ChildCut
returns-in-ChildCut c =
    c.seven.ensures
    ∙ sym (child_cut_text _ _ _ _ _ _ _ c.in-ChildCut.is c.format-in-ChildCut.ensures.text c.format-in-ChildCut-2.ensures.text c.format-in-ChildCut-3.ensures.text)

pub returns-in-ChildSilent : goal.returns-in-ChildSilent
returns-in-ChildSilent c =
    c.five-in-ChildSilent.ensures
    ∙ sym (child_silent_text _ _ _ _ _ c.in-ChildSilent.is c.as_str-in-ChildSilent.ensures c.format-in-ChildSilent.ensures.text)
