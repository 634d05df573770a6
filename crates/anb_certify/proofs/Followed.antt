-- A code has a role's frame exactly where it keeps the order of the role's plan.
use Rattle.std.proofs.Common.{◌≡◌, ℕ, ◌+◌, List, [], ◌∷◌, length, map, None, refl, sym, ap, ◌∙◌}
use Rattle.std.proofs.lemmas.Slice.Eq.{bytes_eq-Decides}
use Rattle.anb_format.specs.Formats.{FormatValue, field_count, pieces_at}
use Rattle.anb_term.specs.declared.term.Op.TheVariants as op
use Rattle.anb_plays.specs.Codes.{equal, make, undo}
use Rattle.anb_plays.specs.Fits.{Along, AnyBorder, AnySend, AnyWork, Place, after_label, after_take, after_work, start}
use Rattle.anb_code.specs.declared.instr.Instr.{Instr}
use Rattle.anb_code.specs.declared.instr.Instr.TheVariants.{Take, Fresh, Recv, Hash, Mac, Seal, Unseal, Wrap, Unwrap, Build, Parse, Equal, Send}
use Rattle.anb_code.specs.CodeValue.{CodeValue}
use Rattle.anb_code.specs.Meaning.{act_of}
use Rattle.anb_code.specs.Taking.{take_texts}
use Rattle.anb_protocol.specs.Protocols.{ProtocolValue}
use Rattle.anb_protocol.specs.Plans.{PlanEvent, to_know, to_make, to_send, to_receive, plan_of}
use Rattle.anb_protocol.specs.Plays.{event_of}
use Rattle.anb_protocol.specs.Texts.{term_text}
use Rattle.anb_compile.specs.Fitting.{FollowsRole}
use Rattle.anb_compile.proofs.Protocols.{known_of_plan}
use Rattle.anb_certify.specs.Certified.{HasFrame, stray}
use Rattle.anb_certify.specs.Statements.{FramesFollow}
use Rattle.anb_certify.proofs.Ending.{texts_are, texts_in}
use Rattle.anb_certify.proofs.Framing.{meets, ordered, works_on}

module _ (p : ProtocolValue) (formats : List FormatValue) where
  unstrayed : (is : List Instr) (es : List PlanEvent) (n : ℕ) (s : Place) → Along AnySend AnyWork AnyBorder (map (act_of formats) is) (map event_of es) s → take_texts is ≡ texts_in p es → stray p is es n ≡ None
  unstrayed [] [] n s along texts = refl
  unstrayed [] (x ∷ es) n s along texts = absurd along
  unstrayed (Take text ∷ is) [] n s along texts = absurd along
  unstrayed (Take text ∷ is) (to_know t ∷ es) n s along texts =
      let same : text ≡ term_text p t = cc in
      let rest : take_texts is ≡ texts_in p es = cc in
      meets p (Take text) is (to_know t) es n refl ((bytes_eq-Decides text (term_text p t)).1 same) ∙ unstrayed is es (n + 1) (after_take s) along rest
  unstrayed (Take text ∷ is) (to_make t ∷ es) n s along texts = absurd along
  unstrayed (Take text ∷ is) (to_send a t ∷ es) n s along texts = absurd along
  unstrayed (Take text ∷ is) (to_receive a t ∷ es) n s along texts = absurd along
  unstrayed (Fresh ∷ is) [] n s along texts = absurd along
  unstrayed (Fresh ∷ is) (to_know t ∷ es) n s along texts = absurd along
  unstrayed (Fresh ∷ is) (to_make t ∷ es) n s along texts = meets p Fresh is (to_make t) es n refl refl ∙ unstrayed is es (n + 1) (after_label s t) along texts
  unstrayed (Fresh ∷ is) (to_send a t ∷ es) n s along texts = absurd along
  unstrayed (Fresh ∷ is) (to_receive a t ∷ es) n s along texts = absurd along
  unstrayed (Recv ∷ is) [] n s along texts = absurd along
  unstrayed (Recv ∷ is) (to_know t ∷ es) n s along texts = absurd along
  unstrayed (Recv ∷ is) (to_make t ∷ es) n s along texts = absurd along
  unstrayed (Recv ∷ is) (to_send a t ∷ es) n s along texts = absurd along
  unstrayed (Recv ∷ is) (to_receive a t ∷ es) n s along texts = meets p Recv is (to_receive a t) es n refl refl ∙ unstrayed is es (n + 1) (after_label s t) along.1 texts
  unstrayed (Send r ∷ is) [] n s along texts = absurd along
  unstrayed (Send r ∷ is) (to_know t ∷ es) n s along texts = absurd along
  unstrayed (Send r ∷ is) (to_make t ∷ es) n s along texts = absurd along
  unstrayed (Send r ∷ is) (to_send a t ∷ es) n s along texts = meets p (Send r) is (to_send a t) es n refl refl ∙ unstrayed is es (n + 1) s along.2 texts
  unstrayed (Send r ∷ is) (to_receive a t ∷ es) n s along texts = absurd along
  unstrayed (Hash r ∷ is) es n s along texts = works_on p (Hash r) is es n refl ∙ unstrayed is es (n + 1) (after_work s (make op.Hash (r ∷ []))) along.1 texts
  unstrayed (Mac k b ∷ is) es n s along texts = works_on p (Mac k b) is es n refl ∙ unstrayed is es (n + 1) (after_work s (make op.Mac (k ∷ b ∷ []))) along.1 texts
  unstrayed (Seal k b ∷ is) es n s along texts = works_on p (Seal k b) is es n refl ∙ unstrayed is es (n + 1) (after_work s (make op.Seal (k ∷ b ∷ []))) along.1 texts
  unstrayed (Unseal k b ∷ is) es n s along texts = works_on p (Unseal k b) is es n refl ∙ unstrayed is es (n + 1) (after_work s (undo op.Seal (k ∷ []) b)) along.1 texts
  unstrayed (Wrap k d b ∷ is) es n s along texts = works_on p (Wrap k d b) is es n refl ∙ unstrayed is es (n + 1) (after_work s (make op.Wrap (k ∷ d ∷ b ∷ []))) along.1 texts
  unstrayed (Unwrap k d b ∷ is) es n s along texts = works_on p (Unwrap k d b) is es n refl ∙ unstrayed is es (n + 1) (after_work s (undo op.Wrap (k ∷ d ∷ []) b)) along.1 texts
  unstrayed (Build f rs ∷ is) es n s along texts = works_on p (Build f rs) is es n refl ∙ unstrayed is es (n + 1) (after_work s (make (op.Format f (length rs)) rs)) along.1 texts
  unstrayed (Parse f r ∷ is) es n s along texts = works_on p (Parse f r) is es n refl ∙ unstrayed is es (n + 1) (after_work s (undo (op.Format f (field_count (pieces_at formats f))) [] r)) along.1 texts
  unstrayed (Equal a b ∷ is) es n s along texts = works_on p (Equal a b) is es n refl ∙ unstrayed is es (n + 1) (after_work s (equal a b)) along.1 texts

follows : (p : ProtocolValue) (role : ℕ) (code : CodeValue) → HasFrame p role code → FollowsRole p role code
follows p role code frame = record {
  suite = frame.0.suite;
  formats = frame.0.formats;
  protocol = frame.0.protocol;
  name = frame.0.name;
  texts = texts_are p code.instrs (plan_of p role) 1 frame.1 ∙ ap (map (term_text p)) (known_of_plan p role);
  order = ordered p code.formats code.instrs (plan_of p role) 1 frame.1 (start (map event_of (plan_of p role)));
}

framed : (p : ProtocolValue) (role : ℕ) (code : CodeValue) → FollowsRole p role code → HasFrame p role code
framed p role code f = (
  record { suite = f.suite; formats = f.formats; protocol = f.protocol; name = f.name },
  unstrayed p code.formats code.instrs (plan_of p role) 1 (start (map event_of (plan_of p role))) f.order (f.texts ∙ sym (ap (map (term_text p)) (known_of_plan p role))),
)

pub frames_follow : FramesFollow
frames_follow p role code = (follows p role code, framed p role code)
