-- A whole conversation, from its parts.
use Rattle.std.proofs.Common.{◌≡◌, ℕ, List, [], map, Option, IfSome, subst, sym, ap, ◌∙◌}
use Rattle.anb_base.specs.Moves.{Put}
use Rattle.anb_base.specs.Wires.{WireState}
use Rattle.anb_plays.specs.Plays.{Run}
use Rattle.anb_stage.specs.Children.{lines}
use Rattle.anb_transcript.specs.declared.transcript.TranscriptLine.TheVariants.{In}
use Rattle.anb_partner.specs.declared.conversation.Conversation.{Conversation}
use Rattle.anb_partner.specs.declared.trials.ChildEnd.{ChildEnd}
use Rattle.anb_partner.specs.Trials.{Trial, KeptByFinish}
use Rattle.anb_partner.specs.Talks.{Corruption, Converses, Talks}
use Rattle.anb_partner.specs.Steps.{HasTalked, Reaches}
use Rattle.anb_partner.proofs.Going.{handed_talk}

pub converses : (R N : Run) (handed : List (List ℕ)) (at : Option ℕ) (corrupt : Corruption) (words : List (List ℕ)) (old started new : Trial) (pipes : WireState) (c : Conversation)
    → Reaches R N (map In handed) → pipes ≡ old.pipes → Put old.asked started.asked (lines words) → started.ends ≡ old.ends
    → HasTalked N at corrupt pipes started new c → KeptByFinish started new → new.phase ≡ 2 → Converses R handed at corrupt words old new c
converses R N handed at corrupt words old started new pipes c reaches same asked ends talked kept finished = record {
  mid = talked.mid;
  talks = handed_talk R N handed at corrupt old.pipes talked.mid c.lines c.end reaches (subst (λ p. Talks N [] at corrupt p talked.mid c.lines c.end) same talked.talks);
  drained = talked.drained;
  asked = subst (λ a. Put old.asked a (lines words)) (sym kept.asked) asked;
  finished = finished;
  child = subst (λ o. IfSome c.child (λ end. IfSome o (λ told. end ≡ told))) ends talked.child;
  silent = talked.silent;
}
