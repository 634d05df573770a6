use Rattle.std.proofs.Common.{◌≡◌, ◌∙◌, arith, sym, ap, subst, List, length, map, refl, Some, IsTrue}
use Rattle.std.specs.Prelude.{filter_map, slice_get}
use Rattle.std.proofs.lemmas.Option.{slice_get_read}
use Rattle.anb_code.specs.declared.instr.Instr.{Instr}
use Rattle.anb_code.specs.Meaning.{act_of}
use Rattle.anb_code.specs.Taking.{take_texts}
use Rattle.anb_protocol.specs.Plays.{event_of}
use Rattle.anb_protocol.specs.Texts.{known_texts}
use Rattle.anb_honest.specs.Kinds.{kind_of, kinds_of, event_kind}
use Rattle.anb_compile.specs.Fitting.{FollowsRole}
use Rattle.anb_honest.proofs.Comparing.{follows_where, follows_not, falls}
use Rattle.anb_honest.proofs.order.follows.Goals.{then-takes_these, else-takes_these}
use Rattle.anb_honest.proofs.order.follows.Goals as goal

pub returns : goal.returns
returns c =
    let p = c.args.p.now in
    let role = c.args.role in
    let code = c.args.code.now in
    let suite = sym c.suite.ensures ∙ c.same_suite.ensures.0 c.if-not-same_suite.false ∙ c.suite-2.ensures in
    let formats = sym c.formats.ensures.formats ∙ c.same_formats.ensures.0 c.if-not-same_formats.false ∙ c.formats-else-not-same_suite.ensures in
    let protocol = sym c.protocol.ensures ∙ c.same_text.ensures.0 c.if-not-same_text.false ∙ c.name.ensures.name in
    let here = slice_get_read c.roles.result.now (length c.roles.result.now) role c.index-roles-role.result refl (let n = ap length c.roles.ensures in omega (arith, n, c.requires)) c.index-roles-role.is in
    let name : slice_get p.roles role ≡ Some code.role =
    ap (λ l. slice_get l role) (sym c.roles.ensures) ∙ here ∙ ap Some (sym (c.same_text-else-not-same_text.ensures.0 c.if-not-same_text-2.false) ∙ c.role.ensures) in
    let texts = c.deref.ensures.value ∙ c.in_ok-texts.ensures in
    elim c.if-takes_these.branch [
      | then-takes_these w ↦
          (let k = subst (λ (l : List Instr). (IsTrue w.keeps_order.result → filter_map kind_of (map (act_of code.formats) l) ≡ kinds_of w.events.result.now)
          × (filter_map kind_of (map (act_of code.formats) l) ≡ kinds_of w.events.result.now → IsTrue w.keeps_order.result)) w.instrs.ensures.instrs (w.keeps_order.ensures code.formats) in
          let q = subst (λ l. (IsTrue w.keeps_order.result → filter_map kind_of (map (act_of code.formats) code.instrs) ≡ map event_kind (map event_of l))
          × (filter_map kind_of (map (act_of code.formats) code.instrs) ≡ map event_kind (map event_of l) → IsTrue w.keeps_order.result)) w.events.ensures k in
          subst (λ b. (IsTrue b → FollowsRole p role code) × (FollowsRole p role code → IsTrue b)) (sym w.result-is)
          (follows_where p role code w.keeps_order.result suite formats protocol name (c.takes_these.ensures.0 w.if-takes_these.true ∙ texts) c.in_ok-plan.plan c.in_ok-plan.ensures.plan q))
      | else-takes_these w ↦
          follows_not p role code c.if-takes_these.result (w.result-is ∙ w.if-takes_these.false)
          (falls c.takes_these.result (take_texts code.instrs ≡ known_texts p role) w.if-takes_these.false (λ e. c.takes_these.ensures.1 (e ∙ sym texts)))
    ]
